use Rattle.std.proofs.Common.{List, refl, sym, ap, ◌∙◌, subst}
use Rattle.hsm.specs.{Words.HartView, declared.view.Stage.TheVariants.Out, Rule.stands, Seating.harts_in, Views.listed}
use Rattle.sbi_calls.specs.Both.{TableState, IsTable, harts_of_both, known}
use Rattle.turns.{specs.Turns.after_take, proofs.Begun.{gives_then, entered_ready, entered_table, then_enters}}
use Rattle.turns.proofs.begins.enter.Goals as goal

pub enter_taken-requires : goal.enter_taken-requires
enter_taken-requires c = (
  c.take-seats.ensures.gives.seats,
  (
    c.requires.by,
    (
      (
        subst (λ (v : List HartView). stands c.args.by Out v) (sym (ap harts_in c.take-seats.ensures.harts)) c.requires.acts.0,
        c.take-seats.ensures.gives.pairs.each c.args.by ∙ c.requires.acts.1,
      ),
      refl,
    ),
  ),
)

pub returns-clause-gives : goal.returns-clause-gives
returns-clause-gives c =
    gives_then c.args.tables.now c.args.by c.args.seats c.take-seats.result c.enter_taken.result.0 c.take-seats.ensures.gives c.enter_taken.ensures.gives

pub returns-clause-own : goal.returns-clause-own
returns-clause-own c =
    then_enters c.args.by (known c.args.seats) (known c.take-seats.result) (known c.enter_taken.result.0) c.enter_taken.result.1 c.take-seats.ensures.own c.enter_taken.ensures.own

pub returns-clause-alone : goal.returns-clause-alone
returns-clause-alone c = λ t are out.
    let entered = c.enter_taken.ensures.alone (after_take t c.args.by) (c.take-seats.ensures.alone t are) out in
    let y = listed t.states c.args.by in (
      entered.0 ∙ entered_ready c.args.by t y out,
      subst (λ (x : TableState). IsTable (harts_of_both c.args.tables.now) c.enter_taken.result.0 x) (entered_table c.args.by t y out) entered.1,
    )

pub take-seats-requires-clause-seats : goal.take-seats-requires-clause-seats
take-seats-requires-clause-seats c = c.requires.seats

pub take-seats-requires-clause-by : goal.take-seats-requires-clause-by
take-seats-requires-clause-by c = c.requires.by

pub take-seats-requires-clause-sits : goal.take-seats-requires-clause-sits
take-seats-requires-clause-sits c = c.requires.acts.1

pub returns-clause-rests : goal.returns-clause-rests
returns-clause-rests c = c.enter_taken.ensures.rests
