-- A run that is under way, and the bench of the model that it stands for.
use Rattle.std.specs.Prelude.{◌≡◌, ◌≤◌, ◌<◌, ◌⊎◌, ◌∷◌, ◌++◌, [], ℕ, List, false, true, Option, None, Some, length, take, drop}
use Rattle.board_model.specs.Durable.{DurableState, Change, IsWhole, CarriesWhole}
use Rattle.board_model.specs.Kept.{Kept, MayFind, nothing_kept, found_of}
use Rattle.board_model.specs.Plains.{state_in}
use Rattle.board_model.specs.declared.plain.Plain.{Plain}
use Rattle.board_model.specs.Shapes.{Size, IsSize}
use Rattle.board_model.specs.Views.{durable_of}
use Rattle.board_model.specs.declared.durable.Durable.{Durable}
use Rattle.disk.specs.FaultState.{FaultState, fault_state_left}
use Rattle.sbi.specs.declared.words.Word.{Word}
use Rattle.script_lang.specs.declared.line.Line.{Line}
use Rattle.script_lang.specs.declared.line.Line.TheVariants as lines
use Rattle.report_lines.specs.declared.printed.Answer.{Answer}
use Rattle.report_lines.specs.declared.printed.Printed.{Printed}
use Rattle.report_lines.specs.declared.printed.Printed.TheVariants as printed
use Rattle.bench_report.specs.declared.power.OffDisk.{OffDisk}
use Rattle.bench_report.specs.declared.power.Power.{Power}
use Rattle.bench_report.specs.declared.power.Power.TheVariants.{Off, On}
use Rattle.bench_report.specs.Lives.{Shows}
use Rattle.bench_report.specs.declared.live.LiveBench.{LiveBench}
use Rattle.bench_report.specs.Bench.{Formatted, Bench, bench_with}
use Rattle.bench_report.specs.Happens.{off, says, unpowered}
use Rattle.bench_report.specs.Steps.{Run, Step}
use Rattle.bench_report.specs.Agree.{OffIs, BoardAfter, Agrees}
use Rattle.bench_report.specs.Views.{SimStore, SimBoard, machine_in, fault_state, store_in, store_size, store_now, store_fault_state}
use Rattle.bench_sweep.specs.Judged.{IsRight}
use Rattle.bench_sweep.specs.Ledgers.{Tells}
use Rattle.bench_sweep.specs.declared.ledgers.RunLedger.{RunLedger}
use Rattle.bench_sweep.specs.declared.points.BenchKind.TheVariants.{Cuts}
use Rattle.bench_sweep.specs.declared.moments.Moment.{Moment}
use Rattle.bench_sweep.specs.declared.site.Going.{Going}
use Rattle.bench_sweep.specs.declared.site.Site.{Site}
use Rattle.bench_sweep.specs.Made.{IsFormatted, EndsAs, WasRefusedNoMemory, ComesTo, shows}
use Rattle.bench_sweep.specs.Resumes.{lines_resume, Resumes}
use Rattle.bench_sweep.specs.Told.{HartTold}

-- The ledger tells the commands kept; an image that stands, or is in doubt, has the memory of a board of that size.
pub record TellsWhole (size : Size) (ledger : RunLedger) (kept : Kept) : Type 0 where
  pub tells : Tells ledger kept
  pub whole : IsWhole size (found_of kept.changes)
  pub doubt : (c : Change) → kept.doubt ≡ Some c → CarriesWhole size c

-- the same of a bench whose disk was formatted, and to which memory was never refused
pub record Follows (size : Size) (b : Bench) (ledger : RunLedger) : Type 0 where
  pub formatted : b.disk_state ≡ Formatted
  pub kept : TellsWhole size ledger b.kept
  pub enough : b.growths ≡ 0

-- The run's board with its payloads stands for that bench, and its ledger follows it.
pub record Runs (size : Size) (b : Bench) (going : Going) : Type 0 where
  pub agrees : Agrees size b going.bench.power
  pub same : going.bench.payloads ≡ b.payloads
  pub follows : Follows size b going.ledger

-- and no armed cut has struck
pub record RunsCalm (size : Size) (b : Bench) (going : Going) : Type 0 where
  pub agrees : Agrees size b going.bench.power
  pub same : going.bench.payloads ≡ b.payloads
  pub follows : Follows size b going.ledger
  pub calm : b.fault_state.struck ≡ false

-- the same for some bench
abbrev pub SitsCalm : Size → Going → Type 0
SitsCalm size going = (b : Bench) × RunsCalm size b going

-- The first lines from that bench on were run as they are, up to that moment: the board with its payloads stands for the bench
-- then, the ledger follows it, and nothing has struck.
pub record CameAlong (size : Size) (b : Bench) (lines : List Line) (moment : Moment) : Type 0 where
  pub few : moment.count ≤ length lines
  pub answers : List Answer
  pub at : Bench
  pub run : Run size b (take moment.count lines) answers at
  pub runs : RunsCalm size at moment.going

-- the same of a disk that a power cut has left: nothing is armed
pub record LeftOff (size : Size) (b : Bench) (disk : OffDisk) (slots : List (List ℕ)) (ledger : RunLedger) : Type 0 where
  pub off : OffIs size b disk.disk
  pub same : slots ≡ b.payloads
  pub follows : Follows size b ledger
  pub left : b.fault_state ≡ fault_state_left b.fault_state

-- a site stands for that bench
pub record RunsAt (size : Size) (b : Bench) (site : Site) : Type 0 where
  pub agrees : OffIs size b site.off.disk
  pub same : site.payloads ≡ b.payloads
  pub follows : Follows size b site.ledger

-- they stand for some bench
abbrev pub Sits : Size → Site → Type 0
Sits size site = (b : Bench) × RunsAt size b site

-- An armed cut struck in the last of these lines, whose step came to that bench: what they would have answered.
pub record LostIn (size : Size) (b : Bench) (lines : List Line) (answers would : List Answer) (at : Bench) : Type 0 where
  pub front : List Line
  pub line : Line
  pub is : lines ≡ front ++ line ∷ []
  pub before : List Answer
  pub mid : Bench
  pub run : Run size b front before mid
  pub last : Answer
  pub step : Step size line mid last at
  pub said : answers ≡ before ++ says printed.PowerLost ∷ []
  pub so : would ≡ before ++ last ∷ []

-- Lines were run from that bench: to their end, or an armed cut struck in the last of them, and power is still to be
-- taken. The ledger has the serials of the images that they resumed besides those of the old one, by what they answered, and the
-- last of them by what it would have answered had no cut struck.
pub record RanTo (size : Size) (b : Bench) (lines : List Line) (old new : Going) : Type 0 where
  pub answers : List Answer
  pub end : Bench
  pub run : Run size b lines answers end
  pub bench : Bench
  pub runs : Runs size bench new
  pub calm : bench.fault_state.struck ≡ false → bench ≡ end
  pub struck : bench.fault_state.struck ≡ true → (unpowered bench ≡ end) × EndsAs Cuts lines 0 answers end
  pub would : List Answer
  pub told : bench.fault_state.struck ≡ false → would ≡ answers
  pub lost : bench.fault_state.struck ≡ true → LostIn size b lines answers would bench
  pub resumed : Resumes old.ledger new.ledger (lines_resume lines would)

-- The first of some lines were run from that site on, with nothing armed, up to the first that left the board off, or to
-- the last; and then the board was turned off.
pub record IsLife (size : Size) (b : Bench) (lines : List Line) (count : ℕ) (site : Site) : Type 0 where
  pub answers : List Answer
  pub end : Bench
  pub run : Run size (unpowered b) (take count lines) answers end
  pub stops : count < length lines → end.power ≡ None
  pub left : RunsAt size (off end) site

-- All lines were run as they are, those of the last life to their end, and the board was turned off: it stands for a bench of
-- which a power cut leaves what it leaves of that end. No memory was refused.
pub record IsEnd (size : Size) (first : Bench) (lines : List Line) (site : Site) : Type 0 where
  pub before : ℕ
  pub bench : Bench
  pub lives : ComesTo size first (take before lines) bench
  pub answers : List Answer
  pub end : Bench
  pub run : Run size (unpowered bench) (drop before lines) answers end
  pub refused_none : WasRefusedNoMemory end
  pub at : Bench
  pub stands : RunsAt size at site
  pub same : unpowered at ≡ unpowered (off end)

-- a board that stands for a bench in which no cut has struck is off
abbrev pub StopsOff : Power → Type 0
StopsOff power = (size : Size) (b : Bench) → Agrees size b power → b.fault_state.struck ≡ false → b.power ≡ None

-- A hart of the board made a turn, or a call, which ended so, and was refused no memory.
pub record HartMoves (size : Size) (b : Bench) (word : Word) (new : Bench) (board : SimBoard) : Type 0 where
  pub told : HartTold size word (machine_in board).memory b.kept new.kept
  pub same : new.disk_state ≡ b.disk_state
  pub slots : new.payloads ≡ b.payloads
  pub enough : new.growths ≡ b.growths
  pub after : BoardAfter size word new board

-- ---- before the disk is formatted
-- lines of the script were run on a blank disk, and come to a bench for which the one under way stands; no
-- memory was refused
pub record Begins (size : Size) (start : List (List ℕ)) (lines : List Line) (live : LiveBench) : Type 0 where
  pub bench : Bench
  pub answers : List Answer
  pub run : Run size (bench_with start) lines answers bench
  pub shows : Shows size bench live
  pub enough : bench.growths ≡ 0

-- the last of them formatted it just now
pub record Begun (size : Size) (start : List (List ℕ)) (lines : List Line) (live : LiveBench) : Type 0 where
  pub bench : Bench
  pub before : List Answer
  pub last : Answer
  pub run : Run size (bench_with start) lines (before ++ last ∷ []) bench
  pub formats : last.line ≡ printed.Formatted
  pub shows : Shows size bench live
  pub formatted : bench.disk_state ≡ Formatted
  pub kept : bench.kept ≡ nothing_kept
  pub enough : bench.growths ≡ 0

-- the board is off after it
abbrev pub IsFormattedAt : Size → List (List ℕ) → List Line → Site → Type 0
IsFormattedAt size start lines site = (b : Bench) × IsFormatted size start lines b × RunsAt size (off b) site

-- the line formatted the disk
abbrev pub Formats : Line → Answer → Type 0
Formats lines.Format a = a.line ≡ printed.Formatted
Formats line a = ⊥

-- ---- what a run left
-- a disk's record was refused memory
abbrev pub IsSpoilt : FaultState → Type 0
IsSpoilt m = 1 ≤ m.own

-- A store, for a board of that size, whose image is whole; its disk has nothing armed.
pub record FindsState (size : Size) (store : SimStore) : Type 0 where
  pub sized : store_size store ≡ size
  pub is_size : IsSize size
  pub whole : IsWhole size (store_now store)
  pub left : store_fault_state store ≡ fault_state_left (store_fault_state store)

-- the state found with its memory, of a store whose image is that one
abbrev pub FoundSo : Option Plain → Durable → SimStore → Type 0
FoundSo plain found store =
    (size : Size) (s : DurableState) → found ≡ durable_of s → s.image ≡ (store_now store).image → FindsState size store → (p : Plain) × (plain ≡ Some p) × (state_in p ≡ s)

-- A state was found, which the commands that the ledger tells let an open find; and it is the one that was said.
pub record Finds (ledger : RunLedger) (found : Option Plain) (left : Answer) : Type 0 where
  pub kept : Kept
  pub tells : Tells ledger kept
  pub plain : Plain
  pub is : found ≡ Some plain
  pub may : MayFind kept (state_in plain)
  pub says : left ≡ shows (durable_of (state_in plain))

-- What was said is the state that was judged, with its memory, which is right by the ledger.
pub record IsJudged (ledger : RunLedger) (left : Answer) : Type 0 where
  pub plain : Plain
  pub right : IsRight ledger.state ledger.doubt (Some plain) ledger.resumed.items
  pub says : left ≡ shows (durable_of (state_in plain))

-- Of a power-on that found and said so: the state that its open found was found with its memory, where the board's
-- image is the one found; or memory was refused.
abbrev pub PowerFinds : Size → Power → Option Durable → Printed → Option Plain → Type 0
PowerFinds size (Off off) shown said plain = (said ≡ printed.OnRefused 11) ⊎ IsSpoilt (fault_state off.disk) → ⊥
PowerFinds size (On board) shown said plain =
    (found : Durable) (s : DurableState) → shown ≡ Some found → found ≡ durable_of s
    → s.image ≡ (store_now (store_in board)).image → FindsState size (store_in board)
    → (p : Plain) × (plain ≡ Some p) × (state_in p ≡ s)
