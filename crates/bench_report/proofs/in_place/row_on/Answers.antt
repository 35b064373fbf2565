use Rattle.std.proofs.{Common.{◌≡◌, ◌∙◌, ◌⊎◌, ◌+◌, inl, inr, true, refl, sym, ◌≤◌, ◌-◌, arith}, lemmas.Int.ints}
use Rattle.sbi.specs.Words.{ends}
use Rattle.bench_report.{specs.Views.{store_in, store_fault_state}, proofs.InPlace.went_on}
use Rattle.bench_report.proofs.IdleRows.{held_range, idle_row, last_row, row_behind}
use Rattle.bench_report.proofs.in_place.row_on.Goals.{then-count-eq1-via-then-count-eq1, then-count-eq1-via-else-count-eq1+then-ends_row, then-count-eq1-via-else-count-eq1+else-ends_row+then-struck}
use Rattle.bench_report.proofs.in_place.row_on.Goals as goal

pub returns-then-not-struck-clause-reported : goal.returns-then-not-struck-clause-reported
returns-then-not-struck-clause-reported g c = λ size b was.
    let held = c.turns-first.ensures.turns in
    let r = held_range _ _ _ _ _ _ _ _ held in
    idle_row size b c.args.board.now c.turns-first.new.self c.args.hart c.args.count c.turns-first.result.0 c.turns-first.result.1 was c.requires.hart held c.requires.some r.0 r.1
    (sym c.is_idle.ensures ∙ c.if-is_idle.true) (sym c.struck-struck.ensures ∙ c.if-not-struck.true) c.idle_turns_change_nothing.ensures

pub returns-then-count-eq1-clause-reported : goal.returns-then-count-eq1-clause-reported
returns-then-count-eq1-clause-reported g c = λ size b was.
    let why : (c.args.count ≡ 1) ⊎ (ends c.turns-first.result.1 ≡ true) ⊎ ((store_fault_state (store_in c.turns-first.new.self)).struck ≡ true) =
    elim c.then-count-eq1.branch [
      | then-count-eq1-via-then-count-eq1 w ↦ inl (omega (arith, w.if-count-eq1.true))
      | then-count-eq1-via-else-count-eq1+then-ends_row w ↦ inr (inl (sym w.ends_row.ensures ∙ w.if-ends_row.true))
      | then-count-eq1-via-else-count-eq1+else-ends_row+then-struck w ↦ inr (inr (sym c.struck-struck.ensures ∙ w.if-struck.true))
    ] in
    went_on size b c.args.board.now c.turns-first.new.self c.args.hart c.args.count c.turns-first.result.0 c.turns-first.result.1 was c.requires.hart
    (last_row _ _ _ _ _ _ _ _ c.requires.some why c.turns-first.ensures.turns)

pub overflow_add-result : goal.overflow_add-result
overflow_add-result g c =
    let one : (1 ≤ c.turns-first.result.0) × (c.turns-first.result.0 ≤ 1) = held_range _ _ _ _ _ _ _ _ c.turns-first.ensures.turns in
    let more : (1 ≤ c.turns-more.result.0) × (c.turns-more.result.0 ≤ c.args.count - 1) = held_range _ _ _ _ _ _ _ _ c.turns-more.ensures.turns in
    omega (arith, ints, one.1, more.1, c.requires.some, c.ranges.count.fits)

pub returns-clause-reported : goal.returns-clause-reported
returns-clause-reported g c = λ size b was.
    let one = held_range _ _ _ _ _ _ _ _ c.turns-first.ensures.turns in
    went_on size b c.args.board.now c.turns-more.new.self c.args.hart c.args.count (c.turns-first.result.0 + c.turns-more.result.0) c.turns-more.result.1 was c.requires.hart
    (row_behind _ _ _ _ _ _ _ _ _ _ _ _ _ c.requires.some one.0 one.1 refl c.turns-first.ensures.turns (sym c.ends_row.ensures ∙ c.if-ends_row.false) (sym c.struck-struck.ensures ∙ c.if-struck.false) c.turns-more.ensures.turns)

pub returns-clause-range : goal.returns-clause-range
returns-clause-range g c =
    let one : (1 ≤ c.turns-first.result.0) × (c.turns-first.result.0 ≤ 1) = held_range _ _ _ _ _ _ _ _ c.turns-first.ensures.turns in
    let more : (1 ≤ c.turns-more.result.0) × (c.turns-more.result.0 ≤ c.args.count - 1) = held_range _ _ _ _ _ _ _ _ c.turns-more.ensures.turns in
    (omega (arith, one.0), omega (arith, one.1, more.1, c.requires.some))
