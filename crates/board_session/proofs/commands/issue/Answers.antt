use Rattle.std.proofs.Common.{◌∙◌, ap}
use Rattle.board_model.{specs.{Durable.ends_life, Views.change_of, declared.durable.Command.Command}, proofs.Console.ends_life-console}
use Rattle.board_session.proofs.commands.issue.Goals as goal

pub apply-part-requires-after_bounds : goal.apply-part-requires-after_bounds
apply-part-requires-after_bounds g c κs within = ap (λ (x : Command). ends_life (change_of x)) c.command.ensures ∙ ends_life-console c.args.command
