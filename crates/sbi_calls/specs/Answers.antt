-- The table of answers: from the states of all harts, the pending pairs, the caller and the call to the
-- answer and what the tables then are. Source: SBI specification 2.0, chapters 4, 7 and 9; docs/SBI.md.
use Rattle.std.specs.Prelude.{◌≡◌, ℕ, Bool, true, List, map, length, slice_set, ◌==◌, if◌then◌else◌, Ok, Err}
use Rattle.std.specs.Int.{bit_at}
use Rattle.board_model.specs.Shapes.{Size}
use Rattle.tallies.specs.Seats.{numbers_from}
use Rattle.hart.specs.State.{ArchState, answered, started as fresh}
use Rattle.hsm.specs.declared.view.Stage.{Stage}
use Rattle.hsm.specs.declared.view.Stage.TheVariants.{Out, Running, Suspended}
use Rattle.hsm.specs.States.{HartState, stopped, suspended, is_stopped, grant}
use Rattle.hsm.specs.Calls.{code_of, named}
use Rattle.hsm.specs.Views.{listed}
use Rattle.ipi.specs.Views.{row_of, pairs_with}
use Rattle.sbi_abi.specs.Answers.{SbiResult, error_of, value_of}
use Rattle.sbi_abi.specs.Calls.{call_of}
use Rattle.sbi_abi.specs.declared.call.Call.{Call}
use Rattle.sbi_abi.specs.declared.ret.SbiError.TheVariants.{AlreadyAvailable}
use Rattle.sbi_calls.specs.declared.requests.Request.TheVariants.{Value, Start, Stop, Status, Suspend, SuspendAfresh, Send, Command}
use Rattle.sbi_calls.specs.declared.endings.Ending.{Ending}
use Rattle.sbi_calls.specs.declared.endings.Ending.TheVariants.{Answers, Stops, Suspends, SuspendsAfresh, Defers}
use Rattle.sbi_calls.specs.declared.words.Did.TheVariants as dids
use Rattle.sbi_calls.specs.declared.words.Turned.{Turned}
use Rattle.sbi_calls.specs.declared.words.Turned.TheVariants.{Made, Durable}
use Rattle.sbi_calls.specs.Requests.{Checked, request_of}
use Rattle.sbi_calls.specs.declared.tables.Seats.{Seats}
use Rattle.sbi_calls.specs.Both.{TableState, IsTable}

-- ---- a row of the table
pub record CallRow : Type 0 where
  pub ending : Ending
  pub table : TableState

-- the answer to a start that was granted, or was not
abbrev pub start_answer : Bool → SbiResult
start_answer granted = if granted then Ok 0 else Err AlreadyAvailable

-- one hart's state changes
abbrev pub with_state : TableState → ℕ → HartState → TableState
with_state t h x = record t { states = slice_set t.states h x }

-- the row of a target, once the sender raised for each target of the set
abbrev pub row_sent : ℕ → ℕ → List (List Bool) → ℕ → List Bool
row_sent by targets pairs target =
    if bit_at targets target == 1 then slice_set (row_of pairs target) by true else row_of pairs target

-- the pairs, once the sender raised for each target of the set, or for this one where it is of the set
abbrev pub pairs_sent : ℕ → ℕ → List (List Bool) → List (List Bool)
pairs_sent by targets pairs = map (row_sent by targets pairs) (numbers_from 0 (length pairs))

abbrev pub pairs_to : ℕ → ℕ → ℕ → List (List Bool) → List (List Bool)
pairs_to by targets target pairs = if bit_at targets target == 1 then pairs_with by target pairs else pairs

-- what the hart's request ends with, and what the tables then are
abbrev pub row : ℕ → Checked → TableState → CallRow
row by (Err e) t = record { ending = Answers (Err e); table = t }
row by (Ok (Value v)) t = record { ending = Answers (Ok v); table = t }
row by (Ok (Start h a o)) t = record {
  ending = Answers (start_answer (is_stopped (listed t.states h)));
  table = with_state t h (grant a o (listed t.states h));
}
row by (Ok Stop) t = record { ending = Stops; table = with_state t by stopped }
row by (Ok (Status h)) t = record { ending = Answers (Ok (code_of (named (listed t.states h)))); table = t }
row by (Ok Suspend) t = record { ending = Suspends; table = with_state t by suspended }
row by (Ok (SuspendAfresh a o)) t = record { ending = SuspendsAfresh a o; table = with_state t by suspended }
row by (Ok (Send targets)) t =
    record { ending = Answers (Ok 0); table = record t { pairs = pairs_sent by targets t.pairs } }
row by (Ok Command) t = record { ending = Defers; table = t }

-- the table of answers: what a call of the hart `by` ends with on a board of that size, and what the tables
-- then are
abbrev pub answer : Size → ℕ → Call → TableState → CallRow
answer size by call t = row by (request_of size call) t

-- ---- what an ending makes of the calling hart, and what the call comes to
abbrev pub Ends : Ending → ArchState → ArchState → Turned → Type 0
Ends (Answers a) old new word = (new ≡ answered old (error_of a) (value_of a)) × (word ≡ Made dids.Next)
Ends Stops old new word = (new ≡ old) × (word ≡ Made dids.Stopped)
Ends Suspends old new word = (new ≡ answered old 0 0) × (word ≡ Made dids.Suspended)
Ends (SuspendsAfresh a o) old new word = (new ≡ fresh old.id a o) × (word ≡ Made dids.Suspended)
Ends Defers old new word = (new ≡ old) × (word ≡ Durable)

-- where the hart then stands in the hart table
abbrev pub stage_of_ending : Ending → Stage
stage_of_ending (Answers a) = Running
stage_of_ending Stops = Out
stage_of_ending Suspends = Suspended
stage_of_ending (SuspendsAfresh a o) = Suspended
stage_of_ending Defers = Running

-- ---- with the one seat of all harts
-- whatever the tables are, the request ends by its row
abbrev pub DoesAlone : ℕ → ℕ → Checked → Seats → Seats → Ending → Type 0
DoesAlone harts by asked s s' end =
    (t : TableState) → IsTable harts s t → (end ≡ (row by asked t).ending) × IsTable harts s' (row by asked t).table

-- whatever the tables are, the call at which the hart stood was answered by the table of answers
abbrev pub CallsAlone : Size → ArchState → ArchState → Seats → Seats → Turned → Type 0
CallsAlone size old new s s' word = (t : TableState) → IsTable size.harts s t
    → Ends (answer size old.id (call_of old) t).ending old new word
    × IsTable size.harts s' (answer size old.id (call_of old) t).table
