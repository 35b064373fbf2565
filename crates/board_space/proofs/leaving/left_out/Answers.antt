use Rattle.std.proofs.Common.{◌<◌, ◌∙◌, ap, sym, subst, arith}
use Rattle.hart.specs.State.{ArchState}
use Rattle.board_space.{specs.Leaving.IsLeft, proofs.LeftHarts.{left_more, put_id}}
use Rattle.board_space.proofs.leaving.left_out.Goals.{then-live-number-eq0, else-live-number-eq0}
use Rattle.board_space.proofs.leaving.left_out.Goals as goal

pub loop-number-preserved : goal.loop-number-preserved
loop-number-preserved c =
    let until = c.loop-number.invariant in
    elim c.if-live-number-eq0.branch [
      | then-live-number-eq0 w ↦
          let some : 0 < w.new.result = omega (arith, w.new.ensures) in
          let low : w.new.result < 32 = omega (arith, w.new.ensures, c.loop-number-test.true) in
          rw w.left-is (record {
            id = ap (λ (s : ArchState). s.id) w.put.ensures ∙ (put_id w.new.result c.loop-number.left ∙ until.id);
            left = subst (λ (s : ArchState). IsLeft c.args.own.now s) (sym w.put.ensures) (left_more c.args.own.now c.loop-number.left w.new.result some low until.left);
          })
      | else-live-number-eq0 w ↦ rw w.left-is until
    ]
