use Rattle.machine.proofs.begun.BegunMachine.boot.Goals as goal

pub put_payload-requires-clause-fits : goal.put_payload-requires-clause-fits
put_payload-requires-clause-fits c = c.requires.fits
