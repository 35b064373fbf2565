-- Stepping while the pc lies within addresses.
use Rattle.std.specs.Prelude.{◌≡◌, ◌⊎◌, ℕ, zero, suc, ◌+◌, Bool, true, false, List, ◌++◌, Option, Some, None, IfSome, nat_le, nat_lt, ◌==◌, ◌&&◌, if◌then◌else◌, replicate, ⊤}
use Rattle.board_model.specs.Shapes.{Size}
use Rattle.debug_session.specs.Pasts.{moments}
use Rattle.bench_report.specs.Bench.{Bench}
use Rattle.bench_report.specs.declared.rows.TurnRow.{TurnRow}
use Rattle.bench_report.specs.declared.rows.TurnRow.TheVariants as rows
use Rattle.bench_report.specs.Rows.{IsWithin, RowMoves, made_in}
use Rattle.debug_session.specs.declared.timeline.Timeline.{Timeline}
use Rattle.debug_session.specs.Ats.{IsLeft, MadeTurns}
use Rattle.debug_session.specs.Lives.{Rests, machine_of, pc_in}
use Rattle.debug_session.specs.Passes.{machine_left}
use Rattle.debug_session.specs.declared.forth.RoundPart.{RoundPart}
use Rattle.debug_session.specs.declared.steps.StepRange.{StepRange}
use Rattle.debug_session.specs.declared.halts.HaltReason.{HaltReason}
use Rattle.debug_session.specs.declared.session.SessionPlan.{SessionPlan}
use Rattle.debug_session.specs.declared.halts.HaltReason.TheVariants as halts
use Rattle.debug_session.specs.Firsts.{is_of_turn, one_turn}

-- addresses within which a hart steps, with as many turns as a plan has
abbrev pub within_plan : ℕ → ℕ → SessionPlan → StepRange
within_plan first end plan = record { first = first; end = end; most = plan.most }

-- a pc lies from the first address on and before the end
abbrev pub is_in : StepRange → Option ℕ → Bool
is_in within None = false
is_in within (Some pc) = nat_le within.first pc && nat_lt pc within.end

-- that of hart h
abbrev pub is_pc_in : StepRange → ℕ → Bench → Bool
is_pc_in within h b = is_in within (pc_in h (machine_left b.power))

-- one turn of hart h
abbrev pub TurnsOnce : Size → ℕ → Bench → Bench → Type 0
TurnsOnce size h b new = (row : TurnRow) × (made_in row ≡ 1) × RowMoves size h row b new

-- n turns, each of which left the pc within the addresses
abbrev pub StaysWithin : Size → StepRange → ℕ → ℕ → Bench → Bench → Type 0
StaysWithin size within h zero b new = new ≡ b
StaysWithin size within h (suc n) b new =
    (mid : Bench) × StaysWithin size within h n b mid × (TurnsOnce size h mid new × (is_pc_in within h new ≡ true))

-- why the hart steps no more, though each turn left the pc within: it has nothing to do, all turns that it may make were made,
-- the debugger asked for it, or the board is off or lacks the hart
abbrev pub IsSpent : Size → StepRange → ℕ → HaltReason → ℕ → Bench → Type 0
IsSpent size within h halts.Idle n b = Rests size h true b
IsSpent size within h halts.Spent n b = n ≡ within.most
IsSpent size within h halts.Interrupted n b = ⊤
IsSpent size within h halts.Off n b = pc_in h (machine_left b.power) ≡ None
IsSpent size within h halt n b = ⊥

-- the last turn left the pc outside, or is why all halts
abbrev pub LeftBy : StepRange → ℕ → HaltReason → Bench → Type 0
LeftBy within h halts.Stepped b = is_pc_in within h b ≡ false
LeftBy within h halt b = is_of_turn halt ≡ true

-- the turns of a hart that steps within addresses
abbrev pub StepsTo : Size → StepRange → ℕ → HaltReason → ℕ → Bench → Bench → Type 0
StepsTo size within h halt n b new =
    (StaysWithin size within h n b new × IsSpent size within h halt n new)
    ⊎ ((k : ℕ) × (mid : Bench) × (n ≡ k + 1) × StaysWithin size within h k b mid × TurnsOnce size h mid new × LeftBy within h halt new)

-- They became part of the history.
pub record StepsWithin (size : Size) (within : StepRange) (h : ℕ) (halt : HaltReason) (old new : Timeline) : Type 0 where
  pub count : ℕ
  pub grew : moments new.history ≡ moments old.history ++ replicate count (one_turn h)
  pub ran : (b : Bench) → IsLeft size old b → (after : Bench) × StepsTo size within h halt count b after × IsLeft size new after

-- turns after which the hart steps on became part of the history
pub record StayedWithin (size : Size) (within : StepRange) (h count : ℕ) (old new : Timeline) : Type 0 where
  pub grew : moments new.history ≡ moments old.history ++ replicate count (one_turn h)
  pub ran : (b : Bench) → IsLeft size old b → (after : Bench) × StaysWithin size within h count b after × IsLeft size new after

-- a hart that made n turns within addresses makes one more: it steps on, or no more
abbrev pub WithinTo : Size → StepRange → ℕ → ℕ → Option HaltReason → Timeline → Timeline → Type 0
WithinTo size within h n None old new = StayedWithin size within h (n + 1) old new
WithinTo size within h n (Some halt) old new = StepsWithin size within h halt old new

-- why it steps no more, by what came of its turn and whether its pc lies there then
abbrev pub halt_within : Option HaltReason → ℕ → Bool → Option HaltReason
halt_within None made stands = if made == 0 then Some halts.Idle else (if stands then None else Some halts.Stepped)
halt_within (Some halt) made stands = Some halt

-- ---- one turn at most
-- why all halts after it, if it does
abbrev pub HaltsBy : TurnRow → Bool → Option ℕ → Option HaltReason → Type 0
HaltsBy rows.Off true pc halt = halt ≡ None
HaltsBy rows.Off false pc halt = (halt ≡ Some halts.Off) × (pc ≡ None)
HaltsBy (rows.Made n word) rests pc halt = IfSome halt (λ x. is_of_turn x ≡ true)
HaltsBy (rows.Lost n) rests pc halt = halt ≡ Some halts.Ended

abbrev pub MadeOne : Size → ℕ → List ℕ → RoundPart → Timeline → Timeline → Type 0
MadeOne size h points part old new =
    (row : TurnRow) × MadeTurns size h points row part.rests old new × IsWithin 1 row × (part.made ≡ made_in row)
    × HaltsBy row part.rests (pc_in h (machine_of new.bench)) part.halt
