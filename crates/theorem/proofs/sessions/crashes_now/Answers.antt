use Rattle.theorem.proofs.sessions.crashes_now.Goals as goal

pub returns-clause-only : goal.returns-clause-only
returns-clause-only g c = g.met.D.Disk.only_now _

pub returns-clause-counts : goal.returns-clause-counts
returns-clause-counts g c = g.met.D.Disk.counts_now _
