-- What the parser's own clauses say of a command in which no argument has a rule on another.
use Rattle.std.proofs.Common.{◌≡◌, ◌&&◌, ℕ, Bool, true, false, List, Result, Ok, Err, IfErr, IfOk, refl}
use Rattle.clap.specs.Words.{App, FailsBy, HasKind, HasMatchesOf, Kinds, fault_of, found_of, is_simple, is_simple_and_free}
use Rattle.clap.specs.declared.{error.Error.Error, parser.matches.ArgMatches.ArgMatches}
use Rattle.command_line.specs.Parses.{AreParsed}

left : (a b : Bool) → (a && b) ≡ true → a ≡ true
left true b both = refl
left false b both = both

pub parsed : (r : Result ArgMatches Error) (app : App) (words : List (List ℕ)) → is_simple_and_free app ≡ true → IfOk r (HasMatchesOf app words)
    → FailsBy (fault_of app words) r → IfOk r (λ m. AreParsed app words (found_of m))
parsed (Ok m) app words free has fails = (fails, (has (left (is_simple app) _ free)).0)
parsed (Err e) app words free has fails = tt

pub refused : {T : Type 0} (r : Result T Error) (kinds : Kinds) → FailsBy kinds r → IfErr r (HasKind kinds)
refused (Ok m) kinds fails = tt
refused (Err e) kinds fails = fails
