use Rattle.std.proofs.Common.{◌≡◌, ◌∙◌}
use Rattle.simdisk.{specs.History.log_of, proofs.Epochs.{leave_fits, leave_last, leave_long}}
use Rattle.disk.specs.WriteLog.{synced}
use Rattle.simdisk.proofs.history.History.content_left.Goals as goal

pub leave-requires : goal.leave-requires
leave-requires c =
    let h = c.args.self.now in
    let stood : c.in_ok-left.left.items ≡ synced (log_of h) = c.in_ok-left.ensures ∙ c.over.ensures ∙ c.requires.stands.is in
    record {
      fits = leave_fits h c.in_ok-left.left.items c.deref.result.now stood c.deref.ensures.value;
      last = leave_last h c.in_ok-left.left.items c.deref.result.now stood c.deref.ensures.value c.args.last.now c.requires.last;
      as_long = leave_long h c.in_ok-left.left.items c.deref.result.now stood c.deref.ensures.value c.args.last.now c.requires.last;
    }
