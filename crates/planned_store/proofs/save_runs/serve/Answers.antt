use Rattle.planned_store.proofs.save_runs.serve.Goals as goal

pub returns-in-WritePage-clause-served : goal.returns-in-WritePage-clause-served
returns-in-WritePage-clause-served g c = rw c.in-WritePage.is (c.write_page.ensures.written c.args.sector.now)
