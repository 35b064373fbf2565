use Rattle.std.proofs.Common.{rules, ◌≡◌, ◌-◌, true, false, inl, inr, refl, ◌∙◌, arith}
use Rattle.store.specs.Views.{fault_state_of}
use Rattle.sbi.specs.Words.{ends}
use Rattle.board.{specs.Views.{store_of, machine_of}, proofs.Rows.{first_row, more_row}}
use Rattle.board.proofs.powered.Board.turns.Goals as goal

pub loop-made-init : goal.loop-made-init
loop-made-init g c =
    let r = c.row-first.ensures in record {
      reaches = first_row c.args.hart c.args.count c.row-first.result.0 (machine_of c.args.self.now) (machine_of c.row-first.new.self) (store_of c.args.self.now) (store_of c.row-first.new.self) c.row-first.result.1 r.range.1 c.requires.calm r.row;
      range = r.range.1;
      harts = r.harts;
    }

pub loop-made-preserved : goal.loop-made-preserved
loop-made-preserved g c =
    let i = c.loop-made.invariant in
    let r = c.row-more.ensures in
    let range = r.range in
    let on : ends c.loop-made.word ≡ false = search rules in
    let calm : (fault_state_of (store_of c.loop-made.self)).struck ≡ false = search rules in record {
      reaches = more_row c.args.hart c.args.count c.loop-made.made c.row-more.result.0 (machine_of c.args.self.now) (machine_of c.loop-made.self) (machine_of c.row-more.new.self)
          (store_of c.args.self.now) (store_of c.loop-made.self) (store_of c.row-more.new.self) c.loop-made.word c.row-more.result.1 i.range r.range.1 on calm i.reaches r.row;
      range = omega arith;
      harts = r.harts ∙ i.harts;
    }

pub returns-after-loop-made-clause-turns : goal.returns-after-loop-made-clause-turns
returns-after-loop-made-clause-turns g c =
    let i = c.loop-made.invariant in
    i.reaches.stops 0 (let low = i.range in omega arith) (inr (inl refl))

pub returns-else-not-ends_row-clause-turns : goal.returns-else-not-ends_row-clause-turns
returns-else-not-ends_row-clause-turns g c =
    let i = c.loop-made.invariant in
    let last : ends c.loop-made.word ≡ true = search rules in
    i.reaches.stops (c.args.count - c.loop-made.made) (let low = i.range in omega arith) (inl last)

-- a cut struck in the turns that were made last
pub returns-else-not-struck-clause-turns : goal.returns-else-not-struck-clause-turns
returns-else-not-struck-clause-turns g c =
    let i = c.loop-made.invariant in
    let cut : (fault_state_of (store_of c.loop-made.self)).struck ≡ true = search rules in
    i.reaches.stops (c.args.count - c.loop-made.made) (let low = i.range in omega arith) (inr (inr cut))
