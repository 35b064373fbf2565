-- How a bench that is run line by line stands for the bench of the model.
use Rattle.std.specs.Prelude.{◌≡◌, ℕ, Bool, true, false, Some, Ok}
use Rattle.board_model.specs.Shapes.{Size}
use Rattle.sbi.specs.declared.words.Word.{Word}
use Rattle.bench_report.specs.declared.power.Power.{Power}
use Rattle.bench_report.specs.declared.power.Power.TheVariants.{Off, On}
use Rattle.bench_report.specs.Bench.{Bench, BenchLife}
use Rattle.bench_report.specs.Agree.{Agrees, ArmsIts, BoardAfter, CountsNone, CutsIts, EndsBy, HasDisk, InspectsOrLost, IsBench, IsCutBy, IsUnstruck, PokesIts}
use Rattle.bench_report.specs.Happens.{unpowered}
use Rattle.report_lines.specs.declared.printed.Answer.{Answer}
use Rattle.script_lang.specs.declared.line.Line.{Line}
use Rattle.simdisk.specs.declared.SimDisk.{SimDisk}
use Rattle.simdisk.specs.declared.fill.Fill.{Fill}
use Rattle.bench_report.specs.Turns.{GuestTurns}
use Rattle.machine.specs.Shows.{HasHart}
use Rattle.bench_report.specs.declared.live.LiveBench.{LiveBench}

-- it stands for the bench, between two lines
abbrev pub Shows : Size → Bench → LiveBench → Type 0
Shows size b live = IsBench size b live.power live.payloads

-- what the next line needs: no cut that struck is untold
abbrev pub IsSound : LiveBench → Type 0
IsSound live = IsUnstruck live.power

-- a board that was on, after a turn with this word
abbrev pub IsAfter : Size → Word → Bench → Power → Type 0
IsAfter size word b (Off off) = ⊥
IsAfter size word b (On board) = BoardAfter size word b board

-- A hart made `made` turns, at most n. The last has this word, and the board is as the turns left it; where it was refused memory for
-- no suspension, no refusal is counted.
abbrev pub WentInPlace : Size → ℕ → ℕ → Bench → ℕ → Word → Power → Type 0
WentInPlace size h n b made word after =
    (new : Bench) × (life : BenchLife) × (b.power ≡ Some life) × HasHart life.machine h × GuestTurns h n b made word new
    × IsAfter size word new after × (new.payloads ≡ b.payloads) × CountsNone after b new

-- power was cut by the fill, on the very disk of a board that was on and that agreed with the bench after its last turn
abbrev pub IsCutIn : Size → Fill → Bench → Power → Power → Type 0
IsCutIn size fill b power left =
    (after : Power) × (disk : SimDisk) × HasDisk power disk × Agrees size b after × HasDisk after disk × IsCutBy fill disk left

-- what a board is after its last turn, and whether an armed cut struck in it: then power is lost, and the disk holds what the
-- fill says
abbrev pub IsSettled : Word → Fill → Power → Power → Bool → Type 0
IsSettled word fill power left lost =
    (size : Size) (b : Bench) → IsAfter size word b power
    → (lost ≡ b.fault_state.struck) × (lost ≡ false → Agrees size b left) × (lost ≡ true → Agrees size (unpowered b) left)
    × (lost ≡ true → IsCutIn size fill b power left)

-- what bench_report says of a line, beside what the bench of the model does: of the power before it and the power after it
abbrev pub LineDid : Size → Line → Fill → Bench → Answer → Power → Power → Type 0
LineDid size line fill b answer before left =
    EndsBy size line fill b answer left × ArmsIts line left × CutsIts line before left × PokesIts line before (Ok answer) left
    × InspectsOrLost line before answer
