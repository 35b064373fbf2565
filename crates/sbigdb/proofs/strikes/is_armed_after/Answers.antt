use Rattle.std.proofs.lemmas.Result.{IfOk-weaker}
use Rattle.sbigdb.proofs.Struck.{armed_of}
use Rattle.sbigdb.proofs.strikes.is_armed_after.Goals as goal

pub returns-in-Ok : goal.returns-in-Ok
returns-in-Ok g c = record {
  told = (
      let ran = rw c.in-Ok.is at c.run_lines.ensures.ran in
      IfOk-weaker c.is_armed_on.result _ _
      (λ armed is. armed_of c.args.setting.now.shape.now c.args.payloads.now c.args.lines.now c.in_ok-live.live c.run_lines.new.live c.into_disk-disk.result armed c.in_ok-live.ensures.shows ran
      c.into_disk-disk.ensures.left is)
      c.is_armed_on.ensures.told);
}
