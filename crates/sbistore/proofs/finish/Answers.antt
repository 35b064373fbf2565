use Rattle.sbistore.proofs.Ended.{ended_command}
use Rattle.sbistore.proofs.finish.Goals as goal

pub returns-in-Committing : goal.returns-in-Committing
returns-in-Committing c sound =
    ended_command c.args.plan.now c.in-Committing.field-0 c.args.store.now c.finish_command.new.store c.in-Committing.is (c.finish_command.ensures sound)
