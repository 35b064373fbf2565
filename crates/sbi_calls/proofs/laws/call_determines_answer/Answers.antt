use Rattle.sbi_calls.proofs.Answered.{errors_change_nothing, starts_the_stopped, status_is_one}
use Rattle.sbi_calls.proofs.laws.call_determines_answer.Goals as goal

pub returns-clause-errors : goal.returns-clause-errors
returns-clause-errors c = errors_change_nothing

pub returns-clause-starts : goal.returns-clause-starts
returns-clause-starts c = starts_the_stopped

pub returns-clause-status : goal.returns-clause-status
returns-clause-status c = status_is_one
