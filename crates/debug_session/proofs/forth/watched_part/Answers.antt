use Rattle.std.proofs.{Common.{None, ◌≡◌, arith, subst}, lemmas.Result.IfOk-from_err}
use Rattle.debug_session.{specs.{Firsts.{TellsTouched, seen_in}, Lives.machine_of}, proofs.Wents.{went_more, went_none}}
use Rattle.debug_session.proofs.Firsts.{halt_more, halt_then, no_halt, none_of, tells_seen}
use Rattle.bench_report.specs.declared.live.LiveBench.{LiveBench}
use Rattle.debug_session.proofs.forth.watched_part.Goals as goal

pub loop-sum-init : goal.loop-sum-init
loop-sum-init g c =
    let watches = c.args.stops.now.watches.items in
    let P : LiveBench → Type 0 = λ b. TellsTouched (machine_of b) watches (seen_in c.in_ok-before.before.items) in
    record {
      went = went_none (λ h. h ≡ c.args.hart) c.args.setting.now.shape.now c.args.timeline.now c.requires.at;
      first = no_halt c.args.setting.now.shape.now c.args.stops.now c.args.hart c.args.timeline.now;
      few = omega arith;
      tells = subst P c.bench.ensures (tells_seen (machine_of c.bench.result.now) watches (seen_in c.in_ok-before.before.items) c.in_ok-before.ensures.seen);
    }

pub returns-then-is_some-clause-went : goal.returns-then-is_some-clause-went
returns-then-is_some-clause-went g c = went_more (λ h. h ≡ c.args.hart) (λ h. h ≡ c.args.hart) c.loop-sum.sum c.in_ok-part.part.made c.args.setting.now.shape.now c.args.timeline.now c.loop-sum.timeline c.watched_turn.new.timeline (λ h e. e) c.loop-sum.invariant.went c.in_ok-part.ensures.went

pub loop-sum-preserved : goal.loop-sum-preserved
loop-sum-preserved g c = record {
  went = went_more (λ h. h ≡ c.args.hart) (λ h. h ≡ c.args.hart) c.loop-sum.sum c.in_ok-part.part.made c.args.setting.now.shape.now c.args.timeline.now c.loop-sum.timeline c.watched_turn.new.timeline (λ h e. e) c.loop-sum.invariant.went c.in_ok-part.ensures.went;
  first = halt_then c.args.setting.now.shape.now c.args.stops.now c.args.hart c.args.hart c.in_ok-part.part.halt None c.args.timeline.now c.loop-sum.timeline c.watched_turn.new.timeline (none_of c.in_ok-part.part.halt c.if-is_some.ensures) c.loop-sum.invariant.first c.in_ok-part.ensures.first;
  few = omega (arith, c.loop-sum-test.true, c.in_ok-part.ensures.one);
  tells = c.in_ok-part.ensures.tells (λ zero. absurd (omega (arith, zero, c.if-part-eq0.false))) (none_of c.in_ok-part.part.halt c.if-is_some.ensures);
}

pub returns-then-is_some-clause-first : goal.returns-then-is_some-clause-first
returns-then-is_some-clause-first g c = halt_more c.args.setting.now.shape.now c.args.stops.now c.args.hart c.args.hart c.in_ok-part.part.halt c.args.timeline.now c.loop-sum.timeline c.watched_turn.new.timeline c.loop-sum.invariant.first c.in_ok-part.ensures.first

pub watched_turn-requires-clause-at : goal.watched_turn-requires-clause-at
watched_turn-requires-clause-at g c κs within = c.loop-sum.invariant.went.at

pub watched_turn-requires-clause-hart : goal.watched_turn-requires-clause-hart
watched_turn-requires-clause-hart g c κs within = c.requires.hart

pub watched_turn-requires-clause-tells : goal.watched_turn-requires-clause-tells
watched_turn-requires-clause-tells g c κs within = c.loop-sum.invariant.tells

pub returns-then-is_some-clause-few : goal.returns-then-is_some-clause-few
returns-then-is_some-clause-few g c = omega (arith, c.loop-sum-test.true, c.in_ok-part.ensures.one)

pub returns-clause-went : goal.returns-clause-went
returns-clause-went g c = c.loop-sum.invariant.went

pub returns-clause-first : goal.returns-clause-first
returns-clause-first g c = c.loop-sum.invariant.first

pub returns-clause-few : goal.returns-clause-few
returns-clause-few g c = c.loop-sum.invariant.few

pub returns-in_err-before-clause-went : goal.returns-in_err-before-clause-went
returns-in_err-before-clause-went g c = IfOk-from_err c.from_residual.result _ c.from_residual.ensures.0

pub returns-in_err-before-clause-first : goal.returns-in_err-before-clause-first
returns-in_err-before-clause-first g c = IfOk-from_err c.from_residual.result _ c.from_residual.ensures.0

pub returns-in_err-before-clause-few : goal.returns-in_err-before-clause-few
returns-in_err-before-clause-few g c = IfOk-from_err c.from_residual.result _ c.from_residual.ensures.0

pub returns-in_err-part-clause-went : goal.returns-in_err-part-clause-went
returns-in_err-part-clause-went g c = IfOk-from_err c.from_residual-in_err-part.result _ c.from_residual-in_err-part.ensures.0

pub returns-in_err-part-clause-first : goal.returns-in_err-part-clause-first
returns-in_err-part-clause-first g c = IfOk-from_err c.from_residual-in_err-part.result _ c.from_residual-in_err-part.ensures.0

pub returns-in_err-part-clause-few : goal.returns-in_err-part-clause-few
returns-in_err-part-clause-few g c = IfOk-from_err c.from_residual-in_err-part.result _ c.from_residual-in_err-part.ensures.0
