use Rattle.std.proofs.Common.{sym, subst}
use Rattle.board_model.specs.Durable.{Suspend}
use Rattle.store.specs.Views.{view_of}
use Rattle.theorem.{specs.{Story.{Now, Commands}, Told.IsOn, declared.asks.Seen.Seen}, proofs.Told.suspends}
use Rattle.theorem.proofs.stories.suspension_seen.Goals as goal

pub returns : goal.returns
returns g c = λ size w on.
    subst (λ (s : Seen). (v : Now) × Commands size w (Suspend c.args.at.hart c.args.at.address c.args.at.opaque c.args.ram.now) s v × IsOn size v (view_of c.suspend-answer.new.self)) (sym c.seen_of.ensures)
    (suspends size w _ _ on _ _ _ _ c.suspend-answer.result c.suspend-answer.ensures.asked)
