use Rattle.std.{proofs.Common.{ℕ, ◌<◌, ◌∙◌, refl, sym, ap, subst}, specs.Prelude.None}
use Rattle.hsm.specs.declared.view.Stage.TheVariants.{Running}
use Rattle.sbi_calls.specs.Both.{GivesBack, Acts, known}
use Rattle.machine.specs.Held.{RestsBy}
use Rattle.turns.proofs.Begun.{gives_then}
use Rattle.hart_threads.{specs.{Seated.StandsAfterTurn, Threads.seated, Bused.{TurnsBus, part_in, part_of_hart}}, proofs.Bussing.turned_bus}
use Rattle.hart_threads.{specs.declared.bus_turns.BusTurn.BusTurn, proofs.Whose.steps_whose}
use Rattle.tallies.specs.declared.book_views.PartView.{PartView}
use Rattle.hart_threads.proofs.turn.own_turn.Goals as goal

pub turn_by_bus-seats-requires-clause-hart : goal.turn_by_bus-seats-requires-clause-hart
turn_by_bus-seats-requires-clause-hart g c = subst (λ (n : ℕ). c.args.hart.now.id < n) c.requires.tables c.requires.seated.1

pub came_of-end-requires-clause-hart : goal.came_of-end-requires-clause-hart
came_of-end-requires-clause-hart g c κs within =
    subst (λ (k : ℕ). k < c.args.board.shape.now.harts) (sym c.turn_by_bus-seats.ensures.id) (subst (λ (n : ℕ). c.args.hart.now.id < n) c.requires.tables c.requires.seated.1)

-- the part is still that of the hart
pub came_of-end-requires-clause-run : goal.came_of-end-requires-clause-run
came_of-end-requires-clause-run g c κs within =
    let t = c.turn_by_bus-seats in
    let turn = t.ensures.turns in
    let took = turned_bus c.args.board.shape.now c.args.hart.now t.new.hart turn.0 turn.1 (known c.args.local.seats) (known t.result.0) t.result.1 c.args.local.run (part_in t.new.bus.run) _ _ turn.2 turn.3 (λ same. ap (λ b. part_in b.run) same) in
    ap (λ (d : PartView BusTurn). d.who) c.held_part-run.ensures ∙ steps_whose turn.2.0 c.args.local.run (part_in t.new.bus.run) turn.0 turn.1 took ∙ c.requires.run ∙ ap part_of_hart (sym t.ensures.id)

pub came_of-end-requires-clause-rests : goal.came_of-end-requires-clause-rests
came_of-end-requires-clause-rests g c κs within = subst (λ (k : ℕ). RestsBy None k c.turn_by_bus-seats.result.0) (sym c.turn_by_bus-seats.ensures.id) c.turn_by_bus-seats.ensures.rests

pub came_of-end-requires-clause-asks : goal.came_of-end-requires-clause-asks
came_of-end-requires-clause-asks g c κs within = λ is. subst (λ (k : ℕ). Acts k Running c.turn_by_bus-seats.result.0) (sym c.turn_by_bus-seats.ensures.id) (c.turn_by_bus-seats.ensures.asks is)

pub returns-clause-gives : goal.returns-clause-gives
returns-clause-gives g c =
    let t = c.args.board.tables.now in let s = c.args.local.seats in let s1 = c.turn_by_bus-seats.result.0 in let s2 = c.came_of-end.result.local.seats in
    gives_then t c.args.hart.now.id s s1 s2 c.turn_by_bus-seats.ensures.gives (subst (λ (k : ℕ). GivesBack t k s1 s2) c.turn_by_bus-seats.ensures.id c.came_of-end.ensures.gives)

pub returns-clause-stands : goal.returns-clause-stands
returns-clause-stands g c =
    let e = c.came_of-end in
    subst (λ (k : ℕ). StandsAfterTurn e.result.word e.result.local.doze k e.result.local.seats) c.turn_by_bus-seats.ensures.id e.ensures.stands

pub returns-clause-id : goal.returns-clause-id
returns-clause-id g c = c.came_of-end.ensures.id ∙ c.turn_by_bus-seats.ensures.id

pub returns-clause-once : goal.returns-clause-once
returns-clause-once g c =
    let t = c.turn_by_bus-seats in
    let turn = t.ensures.turns in
    let shape = c.args.board.shape.now in
    let took = turned_bus shape c.args.hart.now t.new.hart turn.0 turn.1 (known c.args.local.seats) (known t.result.0) t.result.1 c.args.local.run (part_in t.new.bus.run) _ _ turn.2 turn.3 (λ same. ap (λ b. part_in b.run) same) in
    let now = c.held_part-run in (
      turn.0,
      turn.1,
      t.result.1,
      seated t.new.hart (known t.result.0) None now.result,
      turn.2,
      c.came_of-end.ensures.once,
      refl,
      subst (λ (d : PartView BusTurn). TurnsBus turn.2.0 c.args.local.run d turn.0 turn.1) (sym now.ensures) took,
    )

pub turn_by_bus-seats-requires-clause-tables : goal.turn_by_bus-seats-requires-clause-tables
turn_by_bus-seats-requires-clause-tables g c = c.requires.tables

pub turn_by_bus-seats-requires-clause-seats : goal.turn_by_bus-seats-requires-clause-seats
turn_by_bus-seats-requires-clause-seats g c = c.requires.seated.0

pub turn_by_bus-seats-requires-clause-rests : goal.turn_by_bus-seats-requires-clause-rests
turn_by_bus-seats-requires-clause-rests g c = c.requires.seated.2

pub came_of-end-requires-clause-tables : goal.came_of-end-requires-clause-tables
came_of-end-requires-clause-tables g c κs within = c.requires.tables

pub came_of-end-requires-clause-board : goal.came_of-end-requires-clause-board
came_of-end-requires-clause-board g c κs within = c.requires.board

pub came_of-end-requires-clause-seats : goal.came_of-end-requires-clause-seats
came_of-end-requires-clause-seats g c κs within = c.turn_by_bus-seats.ensures.gives.seats

pub returns-clause-free : goal.returns-clause-free
returns-clause-free g c = c.came_of-end.ensures.free

pub returns-clause-noted : goal.returns-clause-noted
returns-clause-noted g c = c.came_of-end.ensures.noted
