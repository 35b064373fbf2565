-- What the parser's own clauses say of the command `sbiboard`.
use Rattle.std.proofs.Common.{◌≡◌, ◌∙◌, ◌⊎◌, ℕ, true, List, Result, Ok, Err, IfErr, IfOk, ap, inl, inr, subst}
use Rattle.board_session.{proofs.Simple.sbiboard_free, specs.{Usage.{TakesModes, sbiboard}, Parses.{AreParsed, AreRefused}}}
use Rattle.clap.specs.{Words.{App, HasKind, IsAmong, fault_of, found_of, is_simple_and_free, kind_of}, declared.error.Error.Error}
use Rattle.clap.specs.declared.{builder.value_parser.ValueParser.ValueParser, error.kind.ErrorKind.{ErrorKind, TheVariants.OutOfMemory}}
use Rattle.clap.specs.declared.parser.matches.ArgMatches.{ArgMatches}
use Rattle.command_line.specs.Parses as parses

pub is_free : (app : App) (modes : ValueParser) → app ≡ sbiboard modes → is_simple_and_free app ≡ true
is_free app modes is = ap is_simple_and_free is ∙ sbiboard_free modes

-- it finds the values that the words give
pub finds : (r : Result ArgMatches Error) (app : App) (modes : ValueParser) (words : List (List ℕ)) → TakesModes modes → app ≡ sbiboard modes
    → IfOk r (λ m. parses.AreParsed app words (found_of m)) → IfOk r (λ m. AreParsed words (found_of m))
finds (Ok m) app modes words are is parsed = (modes, are, subst (λ (a : App). parses.AreParsed a words (found_of m)) is parsed)
finds (Err e) app modes words are is parsed = tt

refused_as : (kind : ErrorKind) (app : App) (modes : ValueParser) (words : List (List ℕ)) → TakesModes modes → app ≡ sbiboard modes
    → (kind ≡ OutOfMemory) ⊎ IsAmong kind (fault_of app words) → (kind ≡ OutOfMemory) ⊎ AreRefused words kind
refused_as kind app modes words are is (inl memory) = inl memory
refused_as kind app modes words are is (inr among) = inr (modes, are, subst (λ (a : App). IsAmong kind (fault_of a words)) is among)

-- an error but for memory is one by which it refuses the words
pub refuses : {T : Type 0} (r : Result T Error) (app : App) (modes : ValueParser) (words : List (List ℕ)) → TakesModes modes
    → app ≡ sbiboard modes → IfErr r (HasKind (fault_of app words)) → IfErr r (λ e. (kind_of e ≡ OutOfMemory) ⊎ AreRefused words (kind_of e))
refuses (Ok m) app modes words are is fails = tt
refuses (Err e) app modes words are is fails = refused_as (kind_of e) app modes words are is fails
