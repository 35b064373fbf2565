use Rattle.std.proofs.Common.{refl}
use Rattle.sbi_abi.specs.Calls.{call_of}
use Rattle.sbi_calls.specs.Both.{known}
use Rattle.hart_threads.{specs.Threads.seated, proofs.Looping.{gives_none, held_comes, made_comes, stands_told}}
use Rattle.hart_threads.proofs.turn.came_of.Goals as goal

pub returns-in-Durable-clause-stands : goal.returns-in-Durable-clause-stands
returns-in-Durable-clause-stands g c =
    let s = c.args.hart.now in let m = c.call_locked in let l = m.result.local in
    stands_told c.args.board.shape.now (call_of s) s.id s m.new.hart (known c.args.local.seats) (known l.seats) l.seats l.doze m.result.word m.ensures.once m.ensures.doze m.ensures.acts

pub returns-in-Durable-clause-once : goal.returns-in-Durable-clause-once
returns-in-Durable-clause-once g c =
    let m = c.call_locked in let a = c.args.local in let b = m.result.local in
    held_comes c.args.board.shape.now c.args.hart.now m.new.hart (known a.seats) (known b.seats) a.doze b.doze a.run b.run c.args.turned m.result.word m.result.told c.in-Durable.is m.ensures.once m.ensures.told m.ensures.doze m.ensures.took

pub returns-in-Made-clause-gives : goal.returns-in-Made-clause-gives
returns-in-Made-clause-gives g c = gives_none c.args.board.tables.now c.args.hart.now.id c.args.local.seats c.requires.seats

pub returns-in-Made-clause-once : goal.returns-in-Made-clause-once
returns-in-Made-clause-once g c =
    let l = c.args.local in
    made_comes c.args.board.shape.now (seated c.args.hart.now (known l.seats) l.doze l.run) c.args.turned c.in-Made.did c.in-Made.is

pub call_locked-requires-clause-tables : goal.call_locked-requires-clause-tables
call_locked-requires-clause-tables g c κs within = c.requires.tables

pub call_locked-requires-clause-seats : goal.call_locked-requires-clause-seats
call_locked-requires-clause-seats g c κs within = c.requires.seats

pub call_locked-requires-clause-hart : goal.call_locked-requires-clause-hart
call_locked-requires-clause-hart g c κs within = c.requires.hart

pub call_locked-requires-clause-board : goal.call_locked-requires-clause-board
call_locked-requires-clause-board g c κs within = c.requires.board

pub call_locked-requires-clause-acts : goal.call_locked-requires-clause-acts
call_locked-requires-clause-acts g c κs within = c.requires.asks c.in-Durable.is

pub call_locked-requires-clause-free : goal.call_locked-requires-clause-free
call_locked-requires-clause-free g c κs within = c.requires.free

pub call_locked-requires-clause-run : goal.call_locked-requires-clause-run
call_locked-requires-clause-run g c κs within = c.requires.run

pub returns-in-Durable-clause-free : goal.returns-in-Durable-clause-free
returns-in-Durable-clause-free g c = c.call_locked.ensures.free

pub returns-in-Durable-clause-gives : goal.returns-in-Durable-clause-gives
returns-in-Durable-clause-gives g c = c.call_locked.ensures.gives

pub returns-in-Durable-clause-id : goal.returns-in-Durable-clause-id
returns-in-Durable-clause-id g c = c.call_locked.ensures.id

pub returns-in-Durable-clause-noted : goal.returns-in-Durable-clause-noted
returns-in-Durable-clause-noted g c = c.call_locked.ensures.noted

pub returns-in-Made-clause-free : goal.returns-in-Made-clause-free
returns-in-Made-clause-free g c = c.requires.free

pub returns-in-Made-clause-stands : goal.returns-in-Made-clause-stands
returns-in-Made-clause-stands g c = c.requires.rests

pub returns-in-Made-clause-id : goal.returns-in-Made-clause-id
returns-in-Made-clause-id g c = refl

pub returns-in-Made-clause-noted : goal.returns-in-Made-clause-noted
returns-in-Made-clause-noted g c = refl
