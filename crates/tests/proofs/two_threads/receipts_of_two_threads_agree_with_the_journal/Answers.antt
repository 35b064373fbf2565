use denote.Param.Send.{sendable}
use Rattle.simdisk.proofs.Crossing.{sim_disk}
use Rattle.tests.proofs.two_threads.receipts_of_two_threads_agree_with_the_journal.Goals as goal

pub issue_both-requires-send-D : goal.issue_both-requires-send-D
issue_both-requires-send-D g c κs = search (sim_disk, sendable) depth 16
