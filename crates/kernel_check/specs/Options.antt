-- What a command line asks for, by the values that its parser finds. Source: docs/CHECKING.md, "What is asked".
use Rattle.std.specs.Prelude.{◌≡◌, ◌++◌, ◌&&◌, ℕ, Bool, not, List, [], ◌∷◌, Option, None, Some, IsSome, if◌then◌else◌, bytes_eq, nat_le, string_bytes}
use Rattle.std.specs.List.{list_any}
use Rattle.board_model.specs.declared.durable.Reason.{Reason}
use Rattle.board_model.specs.declared.durable.Reason.TheVariants.{NoReason, SystemFailure}
use Rattle.board_space.specs.declared.bounds.Bound.{Bound}
use Rattle.board_space.specs.declared.bounds.Bound.TheVariants.{Unbounded, Preemptions, PowerOns}
use Rattle.clap.specs.Words.{Text, first_value, matched_of, raw_values}
use Rattle.clap.specs.declared.parser.matches.Found.{Found}
use Rattle.clap.specs.declared.parser.matches.MatchedArg.{MatchedArg}
use Rattle.command_line.specs.Options.{path_named}
use Rattle.command_line.specs.Parses.{AreParsed}
use Rattle.script_lang.specs.Words.{number_of}
use Rattle.kernel_check.specs.Looks.{IsExpectWord, IsLookWord}
use Rattle.kernel_check.specs.Sizes.{failure_named, size_of}
use Rattle.kernel_check.specs.Usage.{sbicheck}
use Rattle.kernel_check.specs.declared.given.Asked.{Asked}
use Rattle.kernel_check.specs.declared.given.CheckOptions.{CheckOptions}
use Rattle.kernel_check.specs.declared.given.FailureKind.{FailureKind}
use Rattle.kernel_check.specs.declared.given.LookWord.{LookWord}
use lib.Chars.{codes}

-- a number from `least` to `most`
abbrev pub within : ℕ → ℕ → Option ℕ → Option ℕ
within least most None = None
within least most (Some n) = if nat_le least n && nat_le n most then Some n else None

abbrev pub number_in : ℕ → ℕ → Option (List ℕ) → Option ℕ
number_in least most None = None
number_in least most (Some word) = within least most (number_of word)

-- a number that need not be given, and is in its range if it is
abbrev pub IsGiven : ℕ → ℕ → Option (List ℕ) → Option ℕ → Type 0
IsGiven least most None n = n ≡ None
IsGiven least most (Some word) n = IsSome n × (n ≡ number_in least most (Some word))

-- how the orders are bounded, by how many preemptions and how many power-ons are given: not by both
abbrev pub IsBoundBy : Option ℕ → Option ℕ → Bound → Type 0
IsBoundBy None None bound = bound ≡ Unbounded
IsBoundBy (Some k) None bound = bound ≡ Preemptions k
IsBoundBy None (Some n) bound = bound ≡ PowerOns n
IsBoundBy (Some k) (Some n) bound = ⊥

pub record IsBounded (f : Found) (bound : Bound) : Type 0 where
  pub preemptions : Option ℕ
  pub lives : Option ℕ
  pub few : IsGiven 0 1000 (first_value f (codes "preemptions")) preemptions
  pub powered : IsGiven 1 1000 (first_value f (codes "lives")) lives
  pub by : IsBoundBy preemptions lives bound

-- all values of an option that may be given several times
abbrev pub values_in : Option MatchedArg → List (List ℕ)
values_in None = []
values_in (Some matched) = raw_values matched

abbrev pub values_of : Found → List ℕ → List (List ℕ)
values_of f id = values_in (matched_of f id)

abbrev pub is_among : List ℕ → List (List ℕ) → Bool
is_among word words = list_any (λ w. bytes_eq w word) words

-- 1 is a failure of the system, and all else no reason
abbrev pub reason_in : Option ℕ → Reason
reason_in None = NoReason
reason_in (Some n) = if nat_le 1 n && nat_le n 1 then SystemFailure else NoReason

abbrev pub reason_of : Option (List ℕ) → Reason
reason_of None = NoReason
reason_of (Some word) = reason_in (number_of word)

-- what is done of each order
pub record IsAsked (f : Found) (asked : Asked) : Type 0 where
  pub reason : asked.reason ≡ reason_of (first_value f (codes "reason"))
  pub cuts : asked.cuts ≡ not (is_among (codes "cuts") (values_of f (codes "without")))
  pub refusals : asked.refusals ≡ not (is_among (codes "refusals") (values_of f (codes "without")))

-- each word is in its form, and what it says comes in the order of the words
abbrev pub AreForms : (List ℕ → LookWord → Type 0) → List (List ℕ) → List LookWord → Type 0
AreForms Is [] [] = Unit {0}
AreForms Is [] (look ∷ looks) = ⊥
AreForms Is (word ∷ words) [] = ⊥
AreForms Is (word ∷ words) (look ∷ looks) = Is word look × AreForms Is words looks

-- what is looked at, and after it what is expected
pub record AreLooked (f : Found) (looks : List LookWord) : Type 0 where
  pub named : List LookWord
  pub expected : List LookWord
  pub all : looks ≡ named ++ expected
  pub look : AreForms IsLookWord (values_of f (codes "look")) named
  pub expect : AreForms IsExpectWord (values_of f (codes "expect")) expected

abbrev pub IsShown : Option (List ℕ) → Option FailureKind → Type 0
IsShown None kind = kind ≡ None
IsShown (Some word) kind = IsSome kind × (kind ≡ failure_named word)

abbrev pub memory_of : Option (List ℕ) → Option ℕ
memory_of None = None
memory_of (Some word) = size_of word

pub record AreOptions (f : Found) (options : CheckOptions) : Type 0 where
  pub kernel : Some (string_bytes options.kernel) ≡ path_named (first_value f (codes "KERNEL"))
  pub harts : number_in 1 8 (first_value f (codes "harts")) ≡ Some options.harts
  pub pages : IsGiven 1 256 (first_value f (codes "pages")) options.pages
  pub bounded : IsBounded f options.bound
  pub lanes : number_in 1 4 (first_value f (codes "lanes")) ≡ Some options.lanes
  pub boards : number_in 1 4000000000 (first_value f (codes "boards")) ≡ Some options.boards
  pub memory : memory_of (first_value f (codes "memory")) ≡ Some options.memory
  pub jobs : IsGiven 1 64 (first_value f (codes "jobs")) options.jobs
  pub asked : IsAsked f options.asked
  pub looks : AreLooked f options.looks.items
  pub show : IsShown (first_value f (codes "show")) options.show

-- the words, the program's name first, as the command's parser reads them
pub record AreNamedBy (words : List Text) (options : CheckOptions) : Type 0 where
  pub found : Found
  pub parsed : AreParsed sbicheck words found
  pub named : AreOptions found options
