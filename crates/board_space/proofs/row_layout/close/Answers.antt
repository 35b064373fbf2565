use Rattle.std.proofs.Common.{◌∙◌}
use Rattle.board_space.proofs.Tracking as tracking
use Rattle.board_space.proofs.row_layout.close.Goals as goal

pub returns-in_ok-push-clause-keeps : goal.returns-in_ok-push-clause-keeps
returns-in_ok-push-clause-keeps c =
    let pushed = c.in_ok-push.ensures in
    tracking.kept_tracked c.args.tracked.now c.push.new.self c.args.made.now.items pushed.counted (pushed.added ∙ c.as_slice.ensures.value) c.push.ensures.stay

pub returns-in_ok-push-clause-only : goal.returns-in_ok-push-clause-only
returns-in_ok-push-clause-only c =
    let pushed = c.in_ok-push.ensures in
    tracking.tracked_kept c.args.tracked.now c.push.new.self c.args.made.now.items pushed.counted (pushed.added ∙ c.as_slice.ensures.value) c.push.ensures.stay
