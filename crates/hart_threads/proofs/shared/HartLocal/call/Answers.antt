use Rattle.std.proofs.Common.{◌∙◌, Option, ap, sym, subst}
use Rattle.sbi_abi.specs.Calls.{call_of}
use Rattle.sbi_calls.specs.Both.{harts_of_both, known}
use Rattle.susp.specs.declared.buses.Doze.{Doze}
use Rattle.hart_threads.{specs.{Looks.doze_by, Threads.IsDozeBy}, proofs.Holding.held_once}
use Rattle.hart_threads.proofs.shared.HartLocal.call.Goals as goal

pub returns-clause-once : goal.returns-clause-once
returns-clause-once g c =
    let d = c.call-seats in
    (held_once (harts_of_both c.args.board.tables.now) c.args.board.shape.now (call_of c.args.hart.now) c.args.hart.now d.new.hart (known c.args.self.seats) (known d.result.0) _ _ _ _ d.result.1
    c.requires.tables (d.ensures.board ∙ sym c.requires.board) d.ensures.makes).once

pub returns-clause-doze : goal.returns-clause-doze
returns-clause-doze g c =
    let d = c.call-seats in
    let made = held_once (harts_of_both c.args.board.tables.now) c.args.board.shape.now (call_of c.args.hart.now) c.args.hart.now d.new.hart (known c.args.self.seats) (known d.result.0) _ _ _ _ d.result.1
    c.requires.tables (d.ensures.board ∙ sym c.requires.board) d.ensures.makes in
    subst (λ (o : Option Doze). IsDozeBy c.args.board.shape.now (call_of c.args.hart.now) c.args.hart.now.id d.result.1 o) (sym (c.doze_by-doze.ensures ∙ ap (λ (o : Option Doze). doze_by d.result.1 o) c.doze-found.ensures)) made.doze

pub returns-clause-took : goal.returns-clause-took
returns-clause-took g c =
    let d = c.call-seats in
    (_, _, d.ensures.took, d.ensures.called, c.doze_by-doze.ensures ∙ ap (λ (o : Option Doze). doze_by d.result.1 o) c.doze-found.ensures)

pub call-seats-requires-clause-run : goal.call-seats-requires-clause-run
call-seats-requires-clause-run g c κs within = c.requires.run
