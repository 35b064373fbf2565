-- How the code's disk and board stand for the bench of the model.
use Rattle.std.specs.Prelude.{◌≡◌, ◌↔◌, false, ◌⊎◌, Bool, true, false, ℕ, List, [], ◌∷◌, ◌≤◌, Option, Some, None, Result, Ok, OnOk, IfOk, length, ⊤}
use Rattle.board_model.specs.Durable.{DurableState}
use Rattle.board_model.specs.Kept.{Kept, MayFind, found_of}
use Rattle.board_model.specs.Shapes.{Size, sectors_of}
use Rattle.std.specs.declared.alloc.AllocError.{AllocError}
use Rattle.disk.specs.Facts.{Facts, Unchanged}
use Rattle.disk.specs.FaultState.{FaultState}
use Rattle.disk.specs.declared.device.ArmedFault.{ArmedFault}
use Rattle.simdisk.specs.declared.SimDisk.{SimDisk}
use Rattle.simdisk.specs.contracts.logged.SimDiskLogged.TheImpl as sim_logged
use Rattle.simdisk.specs.declared.fill.Fill.{Fill}
use Rattle.simdisk.specs.Views.{left_by_fill}
use Rattle.disk.specs.WriteLog.{synced}
use Rattle.simdisk.specs.Pokes.{PokeFits, StandsSo, poked}
use Rattle.script_lang.specs.declared.line.Line.{Line}
use Rattle.script_lang.specs.declared.line.Line.TheVariants as lines
use Rattle.store.specs.Leaves.{Leaves, IsBlank, IsKept}
use Rattle.store.specs.Views.{was_refused_memory}
use Rattle.sbi.specs.declared.words.Word.{Word}
use Rattle.sbi.specs.declared.words.Word.TheVariants as words
use Rattle.bench_report.specs.declared.power.Power.{Power}
use Rattle.bench_report.specs.declared.power.Power.TheVariants.{Off, On}
use Rattle.bench_report.specs.Views.{SimStore, SimBoard, store_in, machine_in, disk_in, facts, arms, store_arms, sim_log_of, fault_state, store_facts, store_fault_state, store_size, store_now, store_doubt, IsAs}
use Rattle.bench_report.specs.Bench.{DiskState, Blank, Unknown, Formatted, BenchLife, Bench}
use Rattle.bench_report.specs.Sides.{SidesAre}
use Rattle.bench_report.specs.Armings.{fault_of, newest_fill}
use Rattle.bench_report.specs.Steps.{Step}
use Rattle.bench_report.specs.Examined.{AnswersOf, OpensOf}
use Rattle.bench_report.specs.Happens.{says}
use Rattle.report_lines.specs.declared.printed.Answer.{Answer}
use Rattle.report_lines.specs.declared.printed.Printed.TheVariants as printed

-- what a crash may leave of the disk is what an open may find of the commands that it keeps
abbrev pub DiskIs : Size → DiskState → Kept → Facts → Type 0
DiskIs size Blank kept disk = IsBlank disk
DiskIs size Unknown kept disk = ⊤
DiskIs size Formatted kept disk = IsKept disk size × ((s : DurableState) → Leaves disk size s → MayFind kept s)

-- a life over a disk, by a store for a board of size z
abbrev pub LifeIs : Size → DiskState → Kept → BenchLife → Size → Type 0
LifeIs size Blank kept life z = ⊥
LifeIs size Unknown kept life z = life.machine.size ≡ z
LifeIs size Formatted kept life z =
    (kept.doubt ≡ life.doubt) × (life.now ≡ found_of kept.changes) × (z ≡ size) × (life.machine.size ≡ z)

-- a store that goes on with a life
abbrev pub StoreIs : Size → DiskState → Kept → BenchLife → SimStore → Type 0
StoreIs size disk_state kept life store =
    LifeIs size disk_state kept life (store_size store) × IsAs store life.now life.receipts life.doubt

-- a board that is on
abbrev pub BoardIs : Size → DiskState → Kept → Option BenchLife → SimBoard → Type 0
BoardIs size disk_state kept None board = ⊥
BoardIs size disk_state kept (Some life) board =
    StoreIs size disk_state kept life (store_in board) × (machine_in board ≡ life.machine)

-- the device below has the bench's fault state, counted each failure that was answered, and is of exactly the
-- size needed; and where the bench is clean, its gate and records are what the commands kept made
abbrev pub DeviceIs : Size → Bench → FaultState → Facts → Type 0
DeviceIs size b m disk =
    (b.fault_state ≡ m) × (b.failures ≤ disk.failures) × (length disk.content ≡ sectors_of size) × SidesAre size b disk

abbrev pub OffIs : Size → Bench → SimDisk → Type 0
OffIs size b disk =
    (b.power ≡ None) × DiskIs size b.disk_state b.kept (facts disk) × DeviceIs size b (fault_state disk) (facts disk)

abbrev pub OnIs : Size → Bench → SimBoard → Type 0
OnIs size b board =
    BoardIs size b.disk_state b.kept b.power board
    × DeviceIs size b (store_fault_state (store_in board)) (store_facts (store_in board))

-- the store of a life that its own command ended, over a disk that keeps that command
abbrev pub IsOver : Size → DiskState → Kept → SimStore → Type 0
IsOver size Blank kept store = ⊥
IsOver size Unknown kept store = ⊤
IsOver size Formatted kept store =
    (kept.doubt ≡ None) × (store_now store ≡ found_of kept.changes) × (store_size store ≡ size)
    × (store_doubt store ≡ None)

abbrev pub OverIs : Size → Bench → SimBoard → Type 0
OverIs size b board =
    (b.power ≡ None) × IsOver size b.disk_state b.kept (store_in board)
    × DeviceIs size b (store_fault_state (store_in board)) (store_facts (store_in board))

-- a board after what is said of a turn or a call
abbrev pub BoardAfter : Size → Word → Bench → SimBoard → Type 0
BoardAfter size (words.Goes did) b board = OnIs size b board
BoardAfter size (words.Over end) b board = OverIs size b board

-- where the life goes on, the board is on as it was
abbrev pub StaysOn : Word → SimBoard → Power → Type 0
StaysOn (words.Goes did) board left = left ≡ On board
StaysOn (words.Over end) board left = ⊤

abbrev pub Agrees : Size → Bench → Power → Type 0
Agrees size b (Off off) = OffIs size b off.disk
Agrees size b (On board) = OnIs size b board

-- the code's board and payloads stand for the bench, within a line
abbrev pub Matches : Size → Bench → Power → List (List ℕ) → Type 0
Matches size b power payloads = Agrees size b power × (payloads ≡ b.payloads)

-- and between two lines, where no cut that struck is untold
abbrev pub IsBench : Size → Bench → Power → List (List ℕ) → Type 0
IsBench size b power payloads = Agrees size b power × (payloads ≡ b.payloads) × (b.fault_state.struck ≡ false)

-- the disk of a board that is off, or the one that the store of a board holds that is on
abbrev pub HasDisk : Power → SimDisk → Type 0
HasDisk (Off off) d = d ≡ off.disk
HasDisk (On board) d = d ≡ disk_in board

-- The second disk stands as the first: a read gives the same, a crash may leave the same, its calls and its lanes' are counted
-- alike, and the same is armed.
pub record IsCopyOf (d e : SimDisk) : Type 0 where
  pub same : Unchanged (facts d) (facts e)
  pub faults : fault_state e ≡ fault_state d
  pub armed : (fault : ArmedFault) → arms e fault ↔ arms d fault
  pub log : sim_log_of e ≡ sim_log_of d
  pub lanes : sim_logged.ghosts.lane_calls e ≡ sim_logged.ghosts.lane_calls d

-- power was cut, and the disk holds exactly what the fill says of what was written since the last sync
abbrev pub IsCutBy : Fill → SimDisk → Power → Type 0
IsCutBy fill d (Off left) =
    (facts left.disk).content ≡ left_by_fill fill (synced (sim_log_of d)) (sim_log_of d).written
IsCutBy fill d (On board) = ⊥

-- that fault is armed on the disk, whether the board is off or on, and each call of it is still to come
abbrev pub IsArmed : ArmedFault → Power → Type 0
IsArmed fault (Off off) = arms off.disk fault
IsArmed fault (On board) = store_arms (store_in board) fault

-- what a line arms
abbrev pub ArmsIts : Line → Power → Type 0
ArmsIts (lines.Arm arming) power = IsArmed (fault_of arming) power
ArmsIts line power = ⊤

-- what a line leaves that cuts power
abbrev pub CutsIts : Line → Power → Power → Type 0
CutsIts (lines.Cut fill) before left = (disk : SimDisk) × HasDisk before disk × IsCutBy fill disk left
CutsIts line before left = ⊤

-- That sector of the disk of a board that is off stands with these bytes in it, from that one on, and nothing
-- else has changed.
abbrev pub Pokes : ℕ → ℕ → List ℕ → Power → Power → Type 0
Pokes k offset bytes (Off old) (Off new) =
    PokeFits k offset bytes (facts old.disk).content
    → StandsSo k (poked k offset bytes (facts old.disk).content) (facts old.disk) (facts new.disk)
Pokes k offset bytes (Off old) (On board) = ⊥
Pokes k offset bytes (On board) after = ⊤

-- what a line pokes, where it is not refused
abbrev pub PokesIts : Line → Power → Result Answer AllocError → Power → Type 0
PokesIts (lines.Poke k offset bytes) before did after = OnOk did (Pokes k offset bytes before after)
PokesIts line before did after = ⊤

-- what is said of the disk of a board that is off, by its content itself
abbrev pub Inspects : Power → Answer → Type 0
Inspects (Off off) answer = AnswersOf (facts off.disk).content answer
Inspects (On board) answer = ⊤

-- the same of a power-on
abbrev pub OpensAt : Power → Answer → Type 0
OpensAt (Off off) answer = OpensOf (facts off.disk).content answer
OpensAt (On board) answer = ⊤

-- what a line says of the disk's content that examines it or opens it
abbrev pub InspectsIts : Line → Power → Result Answer AllocError → Type 0
InspectsIts (lines.On mode) before did = IfOk did (OpensAt before)
InspectsIts lines.Inspect before did = IfOk did (Inspects before)
InspectsIts line before did = ⊤

-- the same of a line in which a cut may strike that was armed
abbrev pub InspectsOrLost : Line → Power → Answer → Type 0
InspectsOrLost line before answer = (answer ≡ says printed.PowerLost) ⊎ InspectsIts line before (Ok answer)

-- what an armed cut is to leave after a line: as the line says that armed the newest one
abbrev pub fill_after : Line → Fill → Fill
fill_after (lines.Arm arming) fill = newest_fill arming fill
fill_after line fill = fill

abbrev pub fills_after : List Line → Fill → Fill
fills_after [] fill = fill
fills_after (line ∷ more) fill = fills_after more (fill_after line fill)

-- A line was run to its end; or an armed cut struck within it, and then power was cut by the fill, whatever
-- the line would have answered and left.
abbrev pub EndsBy : Size → Line → Fill → Bench → Answer → Power → Type 0
EndsBy size line fill b answer left =
    ((new : Bench) × Step size line b answer new × (new.fault_state.struck ≡ false))
    ⊎ ((would : Answer) × (mid : Bench) × (after : Power) × (disk : SimDisk) × Step size line b would mid
    × (mid.fault_state.struck ≡ true) × Agrees size mid after × HasDisk after disk × IsCutBy fill disk left)

-- no armed cut has struck the disk of a board that is on
abbrev pub is_struck : Power → Bool
is_struck (Off off) = false
is_struck (On board) = (store_fault_state (store_in board)).struck

abbrev pub IsUnstruck : Power → Type 0
IsUnstruck power = is_struck power ≡ false

-- the board, where it is on, was refused memory for no suspension of its life
abbrev pub HadEnough : Power → Type 0
HadEnough (Off off) = ⊤
HadEnough (On board) = was_refused_memory (store_in board) ≡ false

-- then no more refusals of memory are counted
abbrev pub CountsNone : Power → Bench → Bench → Type 0
CountsNone left b new = HadEnough left → new.growths ≡ b.growths

-- the same of a line of a call, as far as no armed cut strikes
abbrev pub StepsEnough : Size → Line → Power → List (List ℕ) → Result Answer AllocError → Power → List (List ℕ) → Type 0
StepsEnough size (lines.Call h asked) before slots did left now =
    HadEnough left → (b : Bench) → IsBench size b before slots → IfOk did
    (λ answer. (new : Bench) × Step size (lines.Call h asked) b answer new × Matches size new left now
    × (new.growths ≡ b.growths))
StepsEnough size line before slots did left now = ⊤

-- what a function that neither keeps a payload nor speaks of one says of a line: there is a bench after it by
-- this step
abbrev pub StepsTo : Size → Bench → Power → (Bench → Type 0) → Type 0
StepsTo size b after step = (new : Bench) × step new × Agrees size new after × (new.payloads ≡ b.payloads)
