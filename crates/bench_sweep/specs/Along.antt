-- A moment of a run, and the images that were resumed up to it.
use Rattle.std.specs.Prelude.{List, take}
use Rattle.board_model.specs.Shapes.{Size}
use Rattle.script_lang.specs.declared.line.Line.{Line}
use Rattle.bench_report.specs.Bench.{Bench}
use Rattle.bench_sweep.specs.declared.moments.Moment.{Moment}
use Rattle.bench_sweep.specs.declared.site.Site.{Site}
use Rattle.bench_sweep.specs.Resumes.{lines_resume, Resumes}
use Rattle.bench_sweep.specs.Runs.{CameAlong}
use Rattle.bench_sweep.specs.Took.{RunTook, own_disk}

-- The first lines from that bench on were run as they are, from that site's disk on, up to that moment. Its ledger has the serials of
-- the images that they resumed besides those of the site's.
pub record CameTold (size : Size) (b : Bench) (lines : List Line) (first : Site) (moment : Moment) : Type 0 where
  pub came : CameAlong size b lines moment
  pub resumed : Resumes first.ledger moment.going.ledger (lines_resume (take moment.count lines) came.answers)
  pub took : RunTook size (take moment.count lines) first.off.disk (own_disk moment.going)
