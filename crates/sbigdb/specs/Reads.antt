-- What the words of a command line name. Source: docs/DEBUGGING.md, "Options and statuses".
use Rattle.std.specs.Prelude.{◌≡◌, ◌⊎◌, ℕ, Bool, true, false, List, Option, None, Some, if◌then◌else◌, bytes_eq, map, nat_lt, option_and_then, string_bytes}
use Rattle.std.specs.Option.{option_map}
use Rattle.clap.specs.Words.{IsAmong, fault_of, first_value}
use Rattle.clap.specs.declared.error.kind.ErrorKind.{ErrorKind}
use Rattle.clap.specs.declared.error.kind.ErrorKind.TheVariants.{ValueValidation}
use Rattle.clap.specs.declared.parser.matches.Found.{Found}
use Rattle.command_line.specs.Options.{path_named, payload_paths}
use Rattle.command_line.specs.Parses.{AreParsed}
use Rattle.script_lang.specs.Words.{number_of, seed_of}
use Rattle.sbigdb.specs.Limits.{IsUpTo}
use Rattle.sbigdb.specs.Usage.{sbigdb}
use Rattle.sbigdb.specs.declared.given.Begin.{Begin}
use Rattle.sbigdb.specs.declared.given.Begin.TheVariants.{Cut, End, Failure, Schedule}
use Rattle.sbigdb.specs.declared.given.DebugOptions.{DebugOptions}
use lib.Chars.{codes}

-- a number from 1 to `most`
abbrev pub number_up_to : ℕ → Option ℕ → Option ℕ
number_up_to most None = None
number_up_to most (Some n) = if nat_lt n 1 then None else (if nat_lt most n then None else Some n)

abbrev pub drawn_by : Option ℕ → Option ℕ → Option Begin
drawn_by None seed = None
drawn_by (Some number) None = None
drawn_by (Some number) (Some seed) = Some (Schedule (record { seed = seed; number = number }))

-- Where the session begins, by the words of `--schedule` and `--seed`. A seed goes with a schedule.
abbrev pub begin_named : Option (List ℕ) → Option (List ℕ) → Option Begin
begin_named None None = Some End
begin_named None (Some seed) = None
begin_named (Some number) seed = drawn_by (number_up_to 1000000 (number_of number)) (seed_of seed)

-- an option without a value was given: the parser keeps the word `true` of it
abbrev pub is_true : Option (List ℕ) → Bool
is_true None = false
is_true (Some word) = bytes_eq word (codes "true")

-- the row of that number, of the one bench that is named
abbrev pub row_by : Bool → Bool → Option ℕ → Option Begin
row_by sweep faults None = None
row_by true true (Some number) = None
row_by true false (Some number) = Some (Cut number)
row_by false true (Some number) = Some (Failure number)
row_by false false (Some number) = None

abbrev pub row_named : Bool → Bool → List ℕ → Option Begin
row_named sweep faults word = row_by sweep faults (number_up_to 1000000 (number_of word))

-- nothing else says where the session begins
abbrev pub begin_alone : Option Begin → Option Begin → Option Begin
begin_alone (Some End) begin = begin
begin_alone other begin = None

-- Where the session begins, by `--sweep`, `--faults` and the word of `--row`, and by what the other options say.
abbrev pub with_row : Bool → Bool → Option (List ℕ) → Option Begin → Option Begin
with_row sweep faults (Some word) other = begin_alone other (row_named sweep faults word)
with_row false false None other = other
with_row true faults None other = None
with_row false true None other = None

abbrev pub begin_in : Found → Option Begin
begin_in f =
    with_row (is_true (first_value f (codes "sweep"))) (is_true (first_value f (codes "faults"))) (first_value f (codes "row"))
    (begin_named (first_value f (codes "schedule")) (first_value f (codes "seed")))

-- each option is what the value of its name says
pub record ReadsOptions (f : Found) (o : DebugOptions) : Type 0 where
  pub script : path_named (first_value f (codes "SCRIPT")) ≡ Some (string_bytes o.script)
  pub payloads : map (option_map string_bytes) o.payloads ≡ payload_paths f
  pub begin : begin_in f ≡ Some o.begin
  pub quantum : option_and_then number_of (first_value f (codes "quantum")) ≡ Some o.quantum
  pub most : option_and_then number_of (first_value f (codes "most")) ≡ Some o.most

-- what the words of a command line name, as the command's parser reads them
abbrev pub IsNamedBy : List (List ℕ) → DebugOptions → Type 0
IsNamedBy words o = (f : Found) × AreParsed sbigdb words f × ReadsOptions f o

-- no options within their limits are what these values say
abbrev pub GivesNone : Found → Type 0
GivesNone f = (o : DebugOptions) → ReadsOptions f o → IsUpTo 1000000 o.quantum → IsUpTo 1000000000 o.most → ⊥

-- The words name no session, and an error of that kind says so: it is one by which the command's parser refuses them, as it
-- does where they ask for the help; or the parser takes them, and their values give no options.
abbrev pub NamesNone : List (List ℕ) → ErrorKind → Type 0
NamesNone words kind = IsAmong kind (fault_of sbigdb words)
    ⊎ ((kind ≡ ValueValidation) × (f : Found) × AreParsed sbigdb words f × GivesNone f)
