use Rattle.std.proofs.Common.{sym, subst}
use Rattle.board_model.specs.Views.{change_of}
use Rattle.store.specs.Views.{view_of}
use Rattle.theorem.{specs.{Story.{Now, Commands}, Told.IsOn, declared.asks.Seen.Seen}, proofs.Told.{fits_command, commanded}}
use Rattle.theorem.proofs.stories.command_seen.Goals as goal

pub returns : goal.returns
returns c = λ size w on.
    subst (λ (s : Seen). (v : Now) × Commands size w (change_of c.args.command) s v × IsOn size v (view_of c.apply-answer.new.self)) (sym c.seen_of.ensures)
    (commanded size w _ _ on (change_of c.args.command) c.apply-answer.result (fits_command size c.args.command) c.apply-answer.ensures.asked)
