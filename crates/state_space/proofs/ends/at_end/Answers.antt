use Rattle.std.proofs.Common.{◌∙◌, Bool, List, false, get_or, ap, sym, subst, arith}
use Rattle.state_space.{specs.Graphs.IsEnd, proofs.Dead.marked_more}
use Rattle.state_space.proofs.ends.at_end.Goals as goal

pub loop-row-preserved : goal.loop-row-preserved
loop-row-preserved c =
    let until = c.loop-row.invariant in
    record {
      each = omega (arith, c.in_ok-push.ensures.len, until.each, c.loop-row.marks.ok.0, c.push.new.self.ok.0);
      ends = λ k marked. marked_more (IsEnd c.args.graph.now) c.loop-row.marks.items c.is_known_end.result until.ends
          (λ is. subst (IsEnd c.args.graph.now) (sym until.each) (c.is_known_end.ensures is))
          k (ap (λ (l : List Bool). get_or l k false) (sym c.in_ok-push.ensures.items) ∙ marked);
    }
