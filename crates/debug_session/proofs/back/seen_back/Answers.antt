use Rattle.std.proofs.{Common.{◌≡◌, List, ℕ, Option, sym, ap, ◌∙◌, subst, arith}, lemmas.Result.IfOk-from_err}
use Rattle.machine.specs.Machine.{Machine}
use Rattle.bench_report.specs.{Rows.row_answer, Lives.Shows, declared.live.LiveBench.LiveBench}
use Rattle.debug_session.{specs.{Lives.{machine_of, pc_in, stands_in}, Loads.LoadsNext, Passes.machine_left}, proofs.Passed.shown_machine}
use Rattle.debug_session.{specs.{declared.halts.HaltReason.HaltReason, Backs.IsSeen}, proofs.{Backs.is_seen, Firsts.touched_along}}
use Rattle.debug_session.proofs.back.seen_back.Goals as goal

pub returns-clause-seen : goal.returns-clause-seen
returns-clause-seen g c = λ size b shows.
    let stops = c.args.stops.now in
    let h = c.args.hart in
    let was = c.next_load-load.new.bench in
    let load = c.next_load-load.result in
    let same : c.args.bench.now ≡ was = sym c.next_load-load.ensures.same in
    let S : LiveBench → Type 0 = λ bench. Shows size b bench in
    let L : LiveBench → Type 0 = λ bench. LoadsNext (machine_of bench) h load in
    let shown : S was = subst S same shows in
    let did = c.turns.ensures.reported size b shown in
    let now = c.turns.new.self in
    let new = did.0 in
    let touched = c.first_touched-touched.result in
    let seen_was : machine_of was ≡ machine_left b.power = shown_machine size b was.power was.payloads shown in
    let seen_now : machine_of now ≡ machine_left new.power = shown_machine size new now.power now.payloads did.3 in
    let stands = ap (λ (m : Option Machine). stands_in stops.points.items (pc_in h m)) (sym seen_was) ∙ ap (λ (ps : List ℕ). stands_in ps (pc_in h (machine_of was))) (sym c.points.ensures) ∙ sym c.stands_at-stands.ensures in
    let told = touched_along size stops h (machine_of was) (machine_of now) load _ touched b new c.in_ok-before.ensures.seen seen_was seen_now (subst L same c.next_load-load.ensures.loads) c.first_touched-touched.ensures in
    let P : Option HaltReason → Type 0 = λ halt. IsSeen halt stops h b new in
    (new, ((row_answer h c.turns.result, did.2), subst P (sym c.halt_back.ensures) (is_seen size stops h b new c.stands_at-stands.result touched stands told)), did.3)

pub turns-requires-clause-some : goal.turns-requires-clause-some
turns-requires-clause-some g c κs within = omega arith

pub returns-clause-sound : goal.returns-clause-sound
returns-clause-sound g c = c.turns.ensures.sound

pub returns-in_err-before-clause-seen : goal.returns-in_err-before-clause-seen
returns-in_err-before-clause-seen g c = IfOk-from_err c.from_residual.result _ c.from_residual.ensures.0

pub returns-in_err-before-clause-sound : goal.returns-in_err-before-clause-sound
returns-in_err-before-clause-sound g c = IfOk-from_err c.from_residual.result _ c.from_residual.ensures.0
