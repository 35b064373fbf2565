use Rattle.std.proofs.{Common.{None, Some, refl, ◌≡◌, ◌≤◌, ◌+◌, arith, subst, Option}, lemmas.Result.IfOk-from_err}
use Rattle.debug_session.specs.declared.halts.HaltReason.TheVariants as halts
use Rattle.debug_session.specs.{declared.halts.HaltReason.HaltReason, Firsts.{TellsTouched, seen_in}, Lives.machine_of, Withins.WithinTo}
use Rattle.debug_session.proofs.{Firsts.{halt_then, no_halt, other_halt, tells_seen}, Wents.{few_went, step_more, went_none}}
use Rattle.debug_session.proofs.Withins.{stayed_none, steps_asked, steps_spent}
use Rattle.bench_report.specs.declared.live.LiveBench.{LiveBench}
use Rattle.debug_session.proofs.steps.step_within.Goals as goal

pub loop-done-init : goal.loop-done-init
loop-done-init g c =
    let watches = c.args.stops.now.watches.items in
    let P : LiveBench → Type 0 = λ b. TellsTouched (machine_of b) watches (seen_in c.in_ok-before.before.items) in
    record { went = (0, omega arith, went_none (λ h. h ≡ c.args.hart) c.args.setting.now.shape.now c.args.timeline.now c.requires.at); first = no_halt c.args.setting.now.shape.now c.args.stops.now c.args.hart c.args.timeline.now; within = stayed_none c.args.setting.now.shape.now c.args.within c.args.hart c.args.timeline.now; few = omega arith; tells = subst P c.bench.ensures (tells_seen (machine_of c.bench.result.now) watches (seen_in c.in_ok-before.before.items) c.in_ok-before.ensures.seen) }

pub turn_within-requires-clause-at : goal.turn_within-requires-clause-at
turn_within-requires-clause-at g c κs within = c.loop-done.invariant.went.2.at

pub turn_within-requires-clause-hart : goal.turn_within-requires-clause-hart
turn_within-requires-clause-hart g c κs within = c.requires.hart

pub turn_within-requires-clause-tells : goal.turn_within-requires-clause-tells
turn_within-requires-clause-tells g c κs within = c.loop-done.invariant.tells

pub loop-done-preserved : goal.loop-done-preserved
loop-done-preserved g c =
    let did = c.in_ok-halt.ensures in
    let P : Option HaltReason → Type 0 = λ x. WithinTo c.args.setting.now.shape.now c.args.within c.args.hart c.loop-done.done x c.args.timeline.now c.turn_within.new.timeline in
    record {
      went = step_more c.args.hart c.loop-done.done did.went.0 c.args.setting.now.shape.now c.args.timeline.now c.loop-done.timeline c.turn_within.new.timeline c.loop-done.invariant.went did.went.1 did.went.2;
      first = halt_then c.args.setting.now.shape.now c.args.stops.now c.args.hart c.args.hart c.in_ok-halt.field-0 None c.args.timeline.now c.loop-done.timeline c.turn_within.new.timeline c.in_default.is c.loop-done.invariant.first did.first;
      within = subst P c.in_default.is (did.within c.args.timeline.now c.loop-done.done c.loop-done.invariant.within);
      few = omega (arith, c.loop-done-test.true);
      tells = did.tells c.in_default.is;
    }

pub returns-in-Some-clause-went : goal.returns-in-Some-clause-went
returns-in-Some-clause-went g c =
    let did = c.in_ok-halt.ensures in
    let less : c.loop-done.done + 1 ≤ c.args.within.most = omega (arith, c.loop-done-test.true) in
    few_went (λ h. h ≡ c.args.hart) (c.loop-done.done + 1) c.args.within.most c.args.setting.now.shape.now c.args.timeline.now c.turn_within.new.timeline less (step_more c.args.hart c.loop-done.done did.went.0 c.args.setting.now.shape.now c.args.timeline.now c.loop-done.timeline c.turn_within.new.timeline c.loop-done.invariant.went did.went.1 did.went.2)

pub returns-in-Some-clause-first : goal.returns-in-Some-clause-first
returns-in-Some-clause-first g c = halt_then c.args.setting.now.shape.now c.args.stops.now c.args.hart c.args.hart c.in_ok-halt.field-0 (Some c.in-Some.halt) c.args.timeline.now c.loop-done.timeline c.turn_within.new.timeline c.in-Some.is c.loop-done.invariant.first c.in_ok-halt.ensures.first

pub returns-in-Some-clause-within : goal.returns-in-Some-clause-within
returns-in-Some-clause-within g c =
    let P : Option HaltReason → Type 0 = λ x. WithinTo c.args.setting.now.shape.now c.args.within c.args.hart c.loop-done.done x c.args.timeline.now c.turn_within.new.timeline in
    subst P c.in-Some.is (c.in_ok-halt.ensures.within c.args.timeline.now c.loop-done.done c.loop-done.invariant.within)

pub returns-in-Some-clause-there : goal.returns-in-Some-clause-there
returns-in-Some-clause-there g c = refl

pub returns-then-swap-clause-went : goal.returns-then-swap-clause-went
returns-then-swap-clause-went g c =
    let did = c.in_ok-halt.ensures in
    let less : c.loop-done.done + 1 ≤ c.args.within.most = omega (arith, c.loop-done-test.true) in
    few_went (λ h. h ≡ c.args.hart) (c.loop-done.done + 1) c.args.within.most c.args.setting.now.shape.now c.args.timeline.now c.turn_within.new.timeline less (step_more c.args.hart c.loop-done.done did.went.0 c.args.setting.now.shape.now c.args.timeline.now c.loop-done.timeline c.turn_within.new.timeline c.loop-done.invariant.went did.went.1 did.went.2)

pub returns-then-swap-clause-first : goal.returns-then-swap-clause-first
returns-then-swap-clause-first g c = other_halt c.args.setting.now.shape.now c.args.stops.now c.args.hart c.args.hart halts.Interrupted c.args.timeline.now c.turn_within.new.timeline refl (halt_then c.args.setting.now.shape.now c.args.stops.now c.args.hart c.args.hart c.in_ok-halt.field-0 None c.args.timeline.now c.loop-done.timeline c.turn_within.new.timeline c.in_default.is c.loop-done.invariant.first c.in_ok-halt.ensures.first)

pub returns-then-swap-clause-within : goal.returns-then-swap-clause-within
returns-then-swap-clause-within g c =
    let P : Option HaltReason → Type 0 = λ x. WithinTo c.args.setting.now.shape.now c.args.within c.args.hart c.loop-done.done x c.args.timeline.now c.turn_within.new.timeline in
    steps_asked c.args.setting.now.shape.now c.args.within c.args.hart (c.loop-done.done + 1) c.args.timeline.now c.turn_within.new.timeline (subst P c.in_default.is (c.in_ok-halt.ensures.within c.args.timeline.now c.loop-done.done c.loop-done.invariant.within))

pub returns-then-swap-clause-there : goal.returns-then-swap-clause-there
returns-then-swap-clause-there g c = refl

pub returns-clause-went : goal.returns-clause-went
returns-clause-went g c = few_went (λ h. h ≡ c.args.hart) c.loop-done.done c.args.within.most c.args.setting.now.shape.now c.args.timeline.now c.loop-done.timeline c.loop-done.invariant.few c.loop-done.invariant.went

pub returns-clause-first : goal.returns-clause-first
returns-clause-first g c = other_halt c.args.setting.now.shape.now c.args.stops.now c.args.hart c.args.hart halts.Spent c.args.timeline.now c.loop-done.timeline refl c.loop-done.invariant.first

pub returns-clause-within : goal.returns-clause-within
returns-clause-within g c =
    let all : c.loop-done.done ≡ c.args.within.most = omega (arith, c.loop-done.invariant.few, c.loop-done-test.false) in
    steps_spent c.args.setting.now.shape.now c.args.within c.args.hart c.loop-done.done c.args.timeline.now c.loop-done.timeline c.loop-done.invariant.within all

pub returns-clause-there : goal.returns-clause-there
returns-clause-there g c = refl

pub returns-in_err-before-clause-went : goal.returns-in_err-before-clause-went
returns-in_err-before-clause-went g c = IfOk-from_err c.from_residual.result _ c.from_residual.ensures.0

pub returns-in_err-before-clause-first : goal.returns-in_err-before-clause-first
returns-in_err-before-clause-first g c = IfOk-from_err c.from_residual.result _ c.from_residual.ensures.0

pub returns-in_err-before-clause-within : goal.returns-in_err-before-clause-within
returns-in_err-before-clause-within g c = IfOk-from_err c.from_residual.result _ c.from_residual.ensures.0

pub returns-in_err-before-clause-there : goal.returns-in_err-before-clause-there
returns-in_err-before-clause-there g c = IfOk-from_err c.from_residual.result _ c.from_residual.ensures.0

pub returns-in_err-halt-clause-went : goal.returns-in_err-halt-clause-went
returns-in_err-halt-clause-went g c = IfOk-from_err c.from_residual-in_err-halt.result _ c.from_residual-in_err-halt.ensures.0

pub returns-in_err-halt-clause-first : goal.returns-in_err-halt-clause-first
returns-in_err-halt-clause-first g c = IfOk-from_err c.from_residual-in_err-halt.result _ c.from_residual-in_err-halt.ensures.0

pub returns-in_err-halt-clause-within : goal.returns-in_err-halt-clause-within
returns-in_err-halt-clause-within g c = IfOk-from_err c.from_residual-in_err-halt.result _ c.from_residual-in_err-halt.ensures.0

pub returns-in_err-halt-clause-there : goal.returns-in_err-halt-clause-there
returns-in_err-halt-clause-there g c = IfOk-from_err c.from_residual-in_err-halt.result _ c.from_residual-in_err-halt.ensures.0
