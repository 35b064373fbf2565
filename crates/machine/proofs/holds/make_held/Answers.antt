use Rattle.std.proofs.Common.{ℕ, refl, sym, subst}
use Rattle.sbi_abi.specs.Calls.{call_of}
use Rattle.sbi_calls.specs.Both.{GivesBack, Acts, harts_of_both}
use Rattle.sbi.specs.Words.{stage_told}
use Rattle.turns.proofs.Begun.{gives_then}
use Rattle.machine.proofs.Commands.{held_then}
use Rattle.machine.proofs.holds.make_held.Goals as goal

pub end_quiet-requires-clause-acts : goal.end_quiet-requires-clause-acts
end_quiet-requires-clause-acts g c = subst (λ (h : ℕ). Acts h (stage_told c.dispatch_held-seats.result.1) c.dispatch_held-seats.result.0) (sym c.id-by.ensures) c.dispatch_held-seats.ensures.acts

pub returns-clause-gives : goal.returns-clause-gives
returns-clause-gives g c =
    gives_then c.args.tables.now c.args.hart.now.id c.args.seats c.dispatch_held-seats.result.0 c.end_quiet.result c.dispatch_held-seats.ensures.gives
    (subst (λ (h : ℕ). GivesBack c.args.tables.now h c.dispatch_held-seats.result.0 c.end_quiet.result) c.id-by.ensures c.end_quiet.ensures.gives)

pub returns-clause-alone : goal.returns-clause-alone
returns-clause-alone g c =
    held_then (harts_of_both c.args.tables.now) (harts_of_both c.args.tables.now) (call_of c.args.hart.now) c.args.hart.now c.dispatch_held-seats.new.hart c.args.seats c.dispatch_held-seats.result.0 c.end_quiet.result
    c.args.bus.now c.dispatch_held-seats.new.bus c.args.store.now c.dispatch_held-seats.new.store c.dispatch_held-seats.result.1 refl c.dispatch_held-seats.ensures.alone c.end_quiet.ensures.alone

pub dispatch_held-seats-requires-clause-seats : goal.dispatch_held-seats-requires-clause-seats
dispatch_held-seats-requires-clause-seats g c κs within = c.requires.seats

pub dispatch_held-seats-requires-clause-acts : goal.dispatch_held-seats-requires-clause-acts
dispatch_held-seats-requires-clause-acts g c κs within = c.requires.acts

pub dispatch_held-seats-requires-clause-hart : goal.dispatch_held-seats-requires-clause-hart
dispatch_held-seats-requires-clause-hart g c κs within = c.requires.hart

pub end_quiet-requires-clause-seats : goal.end_quiet-requires-clause-seats
end_quiet-requires-clause-seats g c = c.dispatch_held-seats.ensures.gives.seats

pub returns-clause-id : goal.returns-clause-id
returns-clause-id g c = c.dispatch_held-seats.ensures.id
