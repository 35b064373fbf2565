use Rattle.simdisk.proofs.patch.Patch.fill.Goals as goal

pub returns-clause-put : goal.returns-clause-put
returns-clause-put c = rw c.args.self.now.long c.fill_range.ensures
