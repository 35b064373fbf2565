-- The command is one of which the words alone give the matches, and what they name.
use Rattle.std.{proofs.Common.{◌≡◌, ℕ, Bool, true, false, List, Bor, Option, None, Some, codes, refl, sym}, specs.Option.option_map}
use Rattle.clap.{proofs.OnLiterals.clap_on_literals, specs.Words.{first_value, is_simple_and_free, one_text}}
use Rattle.clap.specs.declared.parser.matches.Found.{Found}
use Rattle.command_line.specs.Parses.{AreParsed}
use Rattle.board_session.specs.ExaminerUsage.{IsNamedBy, NamesNoPath, asked_of, sbidisk}

pub sbidisk_free : is_simple_and_free sbidisk ≡ true
unfolding clap_on_literals
sbidisk_free = refl

pub names_none : (words : List (List ℕ)) (f : Found) (path : Option (Bor (List ℕ))) → AreParsed sbidisk words f → path ≡ None
    → option_map (λ s. s.now) path ≡ first_value f (codes "PATH") → NamesNoPath words
names_none words f path parsed none is = (f, parsed, sym (rw none at is))

value_of : (f : Found) (path : Bor (List ℕ)) (given : Option (Bor (List ℕ))) → given ≡ Some path
    → option_map (λ s. s.now) given ≡ first_value f (codes "PATH") → first_value f (codes "PATH") ≡ Some path.now
value_of f path given some is = sym (rw some at is)

pub names_by : (words : List (List ℕ)) (f : Found) (path : Bor (List ℕ)) (given : Option (Bor (List ℕ))) (flag : Bool)
    → AreParsed sbidisk words f → given ≡ Some path → option_map (λ s. s.now) given ≡ first_value f (codes "PATH")
    → (one_text f (codes "memory") ≡ None → flag ≡ false) → (one_text f (codes "memory") ≡ Some (codes "true") → flag ≡ true)
    → (one_text f (codes "memory") ≡ Some (codes "false") → flag ≡ false) → IsNamedBy words (asked_of path flag)
names_by words f path given true parsed some is none value other =
    (f, parsed, (value_of f path given some is, λ e. let no : true ≡ false = other e in let never : ⊥ = cc in never, λ e. let no : true ≡ false = none e in let never : ⊥ = cc in never))
names_by words f path given false parsed some is none value other =
    (f, parsed, (value_of f path given some is, λ e. let no : false ≡ true = value e in let never : ⊥ = cc in never))
