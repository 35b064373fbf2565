use Rattle.std.proofs.Common.{◌≡◌, length, arith}
use Rattle.board_files.proofs.Pushed.{writes_skip, writes_more, writes_all}
use Rattle.board_files.proofs.pushing.write_marked.Goals.{then-marks-number+in_ok-write_sector, else-marks-number}
use Rattle.board_files.proofs.pushing.write_marked.Goals as goal

pub loop-number-preserved : goal.loop-number-preserved
loop-number-preserved g c = elim c.if-marks-number.branch [
  | then-marks-number+in_ok-write_sector w ↦
      rw w.file-is (writes_more _ _ _ _ _ _ _ _ _ w.if-marks-number.true c.loop-number.invariant w.in_ok-write_sector.ensures)
  | else-marks-number w ↦
      rw w.file-is (writes_skip _ _ _ _ _ (g.met.F.SectorFile.may_keep _) w.if-marks-number.false c.loop-number.invariant)
]

pub returns : goal.returns
returns g c =
    let all : length c.args.sectors.now ≡ c.loop-number.number = omega (arith, c.loop-number-test.false, c.loop-number.auto.number-end) in
    record { wrote = writes_all _ _ _ _ _ _ _ (g.met.F.SectorFile.may_keep _) (rw all c.loop-number.invariant) }
