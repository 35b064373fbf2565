use Rattle.std.proofs.Common.{◌<◌, arith, refl, sym, ◌∙◌}
use Rattle.hsm.{specs.Views.state_in, proofs.Copying.{read_as, settled_is}}
use Rattle.hsm.proofs.standings.settled_hart.Goals as goal

pub returns-in_default : goal.returns-in_default
returns-in_default c =
    let harts = c.args.table.now.table.shared.key.harts in
    let view = c.args.seat.now.me.0 in
    let hart = c.unwrap-hart.result in
    let some = rw c.unwrap-hart.ensures at c.hart.ensures.some in
    let is = some.0 in
    let within = some.1 in
    let same = c.requires.harts in
    let lt : hart < harts = omega arith in
    let x = state_in view hart in
    let says = (c.peek-found.ensures.tells (state_in view) c.requires.shown hart lt).0 in
    let named_so = read_as c.peek-found.result hart x c.state_in.result c.state_in.ensures says in
    record {
      seat = c.peek-found.ensures.seat;
      same = c.peek-found.ensures.same;
      hart = lt;
      settled = settled_is x (λ e. c.in_default.not-StartPending (named_so ∙ sym e));
    }

pub peek-found-requires-clause-named : goal.peek-found-requires-clause-named
peek-found-requires-clause-named c = refl

pub peek-found-requires-clause-seat : goal.peek-found-requires-clause-seat
peek-found-requires-clause-seat c = c.requires.seat

pub loop-number-init : goal.loop-number-init
loop-number-init c = λ k lt. absurd (omega (arith, lt))
