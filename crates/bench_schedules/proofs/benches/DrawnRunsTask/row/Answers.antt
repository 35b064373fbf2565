use Rattle.bench_schedules.proofs.benches.DrawnRunsTask.row.Goals as goal

pub run_schedule-requires-sync-C-Handle : goal.run_schedule-requires-sync-C-Handle
run_schedule-requires-sync-C-Handle g c κs within = c.requires.has.1
