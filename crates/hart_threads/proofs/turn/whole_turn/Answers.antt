use Rattle.std.proofs.Common.{◌∙◌, Option, ap, sym, subst}
use Rattle.sbi_calls.specs.Both.{known}
use Rattle.hart_threads.{specs.{Noted.part_after, Seated.IsSeated, Threads.seated}, proofs.Looping.{dozed, undozed}}
use Rattle.susp.specs.declared.buses.Doze.{Doze}
use Rattle.hart_threads.proofs.turn.whole_turn.Goals as goal

pub dozing_turn-end-requires-clause-seated : goal.dozing_turn-end-requires-clause-seated
dozing_turn-end-requires-clause-seated g c κs within = subst (λ (o : Option Doze). IsSeated c.args.board.tables.now c.args.hart.now.id c.args.local.seats o) c.in-Some.is c.requires.seated

pub own_turn-end-requires-clause-seated : goal.own_turn-end-requires-clause-seated
own_turn-end-requires-clause-seated g c κs within = subst (λ (o : Option Doze). IsSeated c.args.board.tables.now c.args.hart.now.id c.args.local.seats o) c.in_default.is c.requires.seated

pub returns-in-Some-clause-noted : goal.returns-in-Some-clause-noted
returns-in-Some-clause-noted g c =
    let e = c.dozing_turn-end.ensures.noted in
    e.0 ∙ ap (λ told. part_after told c.args.local.part) (sym e.1)

pub returns-in-Some-clause-once : goal.returns-in-Some-clause-once
returns-in-Some-clause-once g c =
    let t = c.dozing_turn-end in let a = c.args.local in let b = t.result.local in
    dozed c.args.board.shape.now c.args.hart.now (known a.seats) a.doze c.in-Some.doze a.run (seated t.new.hart (known b.seats) b.doze b.run) t.result.word t.result.told c.in-Some.is t.ensures.once t.ensures.noted.1

pub returns-clause-once : goal.returns-clause-once
returns-clause-once g c =
    let t = c.own_turn-end in let a = c.args.local in let b = t.result.0.local in
    undozed c.args.board.shape.now c.args.hart.now (known a.seats) a.doze a.run (seated t.new.hart (known b.seats) b.doze b.run) t.result.0.word t.result.0.told c.in_default.is t.ensures.once

pub own_turn-end-requires-clause-tables : goal.own_turn-end-requires-clause-tables
own_turn-end-requires-clause-tables g c κs within = c.requires.tables

pub own_turn-end-requires-clause-run : goal.own_turn-end-requires-clause-run
own_turn-end-requires-clause-run g c κs within = c.requires.run

pub own_turn-end-requires-clause-board : goal.own_turn-end-requires-clause-board
own_turn-end-requires-clause-board g c κs within = c.requires.board

pub returns-in-Some-clause-gives : goal.returns-in-Some-clause-gives
returns-in-Some-clause-gives g c = c.dozing_turn-end.ensures.gives

pub returns-in-Some-clause-stands : goal.returns-in-Some-clause-stands
returns-in-Some-clause-stands g c = c.dozing_turn-end.ensures.stands

pub returns-in-Some-clause-id : goal.returns-in-Some-clause-id
returns-in-Some-clause-id g c = c.dozing_turn-end.ensures.id

pub returns-clause-gives : goal.returns-clause-gives
returns-clause-gives g c = c.own_turn-end.ensures.gives

pub returns-clause-stands : goal.returns-clause-stands
returns-clause-stands g c = c.own_turn-end.ensures.stands

pub returns-clause-id : goal.returns-clause-id
returns-clause-id g c = c.own_turn-end.ensures.id

pub returns-clause-noted : goal.returns-clause-noted
returns-clause-noted g c = c.own_turn-end.ensures.noted
