use Rattle.std.proofs.{Common.{◌≡◌, ◌<◌, length, get_or, arith}, lemmas.{Grind.common_steps, Result.err_from_is_err_and}}
use Rattle.simdisk.proofs.Caches.{more_fits, handed_more, handed_failed}
use Rattle.simdisk.proofs.waiting.QueueHandOn.hand_on.Goals as goal

pub write-requires-clause-within : goal.write-requires-clause-within
write-requires-clause-within g c =
    let inv = c.loop-i.invariant in
    let ws = c.args.self.now.waiting.items in
    let w = c.index.result.now in
    let is : w ≡ get_or ws c.loop-i.i w = rw (← inv.waiting) c.index.ensures in
    let lt : c.loop-i.i < length ws = grind (arith, common_steps) in
    more_fits ws c.loop-i.i w w (g.D.Disk.facts c.args.self.now.device) (g.D.Disk.facts c.loop-i.self.device) _ _ lt is inv.handed c.requires.fits

pub returns-in_err-write-clause-handed : goal.returns-in_err-write-clause-handed
returns-in_err-write-clause-handed g c =
    let p = err_from_is_err_and c.from_residual.result c.from_residual.ensures.1 in
    let inv = c.loop-i.invariant in
    let ws = c.args.self.now.waiting.items in
    let w = c.index.result.now in
    let is : w ≡ get_or ws c.loop-i.i w = rw (← inv.waiting) c.index.ensures in
    let lt : c.loop-i.i < length ws = grind (arith, common_steps) in
    rw p.1 (handed_failed ws c.loop-i.i w w (g.D.Disk.facts c.args.self.now.device) (g.D.Disk.facts c.loop-i.self.device) _ _ lt is inv.handed (g.D.Disk.facts c.write.new.self) _ _ _ c.in_err-write.ensures.called)

pub loop-i-preserved : goal.loop-i-preserved
loop-i-preserved g c =
    let inv = c.loop-i.invariant in
    let ws = c.args.self.now.waiting.items in
    let w = c.index.result.now in
    let is : w ≡ get_or ws c.loop-i.i w = rw (← inv.waiting) c.index.ensures in
    let lt : c.loop-i.i < length ws = grind (arith, common_steps) in
    record {
      waiting = inv.waiting;
      handed = handed_more ws c.loop-i.i w w (g.D.Disk.facts c.args.self.now.device) (g.D.Disk.facts c.loop-i.self.device) _ _ lt is inv.handed (g.D.Disk.facts c.write.new.self) _ _ c.requires.fits c.in_ok-write.ensures.written c.in_ok-write.ensures.called;
    }
