use Rattle.bench_report.proofs.Crews.{in_order}
use Rattle.bench_report.proofs.setting.lane_by_lane.Goals as goal

pub unwrap-requires : goal.unwrap-requires
unwrap-requires g c = in_order _ c.new-crew.result c.new-crew.ensures
