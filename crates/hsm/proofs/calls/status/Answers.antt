use Rattle.std.proofs.Common.{ℕ, rules, refl, sym, ◌∙◌, subst}
use mathlib.Core.Logic.{dite}
use native.Mathlib.Decide.{ℕ_discrete}
use Rattle.hsm.specs.{declared.view.{Stage.Stage, Action.TheVariants.Looked}, Rule.stands, Calls.{stage_of, IsOwnStatus}}
use Rattle.hsm.proofs.{Stand.{stands_after, stands_own, stands_stage, stands_by}, Alone.{others, shows_same}, Stages.named_is}
use Rattle.tallies.proofs.Noted.{numbered}
use Rattle.hsm.proofs.calls.status.Goals as goal

pub look-found-requires-clause-acts : goal.look-found-requires-clause-acts
look-found-requires-clause-acts c = stands_own c.args.by c.requires.acts.0 c.args.seat.me.0.harts c.requires.acts.1

pub returns-clause-stays : goal.returns-clause-stays
returns-clause-stays c = record {
  harts = numbered c.args.by (stage_of c.args.by c.args.seat.me.0.harts) (Looked c.look-found.result) c.args.seat.me.0.harts c.look-found.new.seat.me.0.harts c.look-found.ensures.told;
  stages = λ k sk s.
      let vs = c.args.seat.me.0.harts in
      let st = stage_of c.args.by vs in
      let own = stands_own c.args.by c.requires.acts.0 vs c.requires.acts.1 in
      dite (ℕ_discrete k c.args.by)
      (λ e.
      let mine = subst (λ (n : ℕ). stands n sk vs) e s in
      let after = stands_after c.args.by st st (Looked c.look-found.result) c.args.seat.me.0 c.look-found.new.seat.me.0 c.look-found.ensures.told own in
      subst (λ (n : ℕ). stands n sk c.look-found.new.seat.me.0.harts) (sym e) (subst (λ (x : Stage). stands c.args.by x c.look-found.new.seat.me.0.harts) (stands_stage c.args.by sk vs mine) after))
      (λ ne. others c.args.table.now.table.shared.key.harts c.args.by st st (Looked c.look-found.result) c.args.seat.me.0 c.look-found.new.seat.me.0 c.look-found.ensures.told own k sk ne s);
}

pub returns-clause-own : goal.returns-clause-own
returns-clause-own c = λ settled.
    let fresh : IsOwnStatus c.args.hart c.args.seat.me.0.harts c.state_in.result = search rules in
    stands_by c.state_in.result c.args.hart c.args.seat.me.0.harts c.look-found.new.seat.me.0.harts fresh (returns-clause-stays c) settled

pub returns-clause-alone : goal.returns-clause-alone
returns-clause-alone c = λ states shown.
    let st = stage_of c.args.by c.args.seat.me.0.harts in
    let own = stands_own c.args.by c.requires.acts.0 c.args.seat.me.0.harts c.requires.acts.1 in
    let found = c.look-found.result in (
      c.state_in.ensures ∙ named_is found c.args.hart (states c.args.hart) (c.look-found.ensures.tells states shown c.args.hart c.requires.hart).0,
      shows_same c.args.table.now.table.shared.key.harts c.args.by st st (Looked found) c.args.seat.me.0 c.look-found.new.seat.me.0 c.look-found.ensures.told own (λ y at. at) (λ k a o. refl) (λ k a o. refl) states shown,
    )
