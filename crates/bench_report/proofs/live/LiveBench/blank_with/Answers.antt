use Rattle.std.proofs.{Common.{refl, sym, ◌∙◌, ap, arith, length, replicate}, lemmas.List.length-replicate}
use Rattle.bench_report.proofs.Sides.{zero_sides}
use Rattle.bench_report.proofs.live.LiveBench.blank_with.Goals as goal

pub returns-clause-shows : goal.returns-clause-shows
returns-clause-shows c =
    let made = c.in_ok-disk.ensures in
    let long = ap length made.fresh.reads ∙ length-replicate c.sectors.result (replicate 512 0) in (
      (refl, c.blank_disks.ensures.zeros c.sectors.result c.in_ok-disk.disk made.fresh, (sym made.no_fault, omega arith, omega (arith, long, c.sectors.ensures.value), zero_sides c.args.payloads _ c.sectors.result _ made.fresh)),
      refl,
      refl,
    )
