use Rattle.std.{proofs.Common.{◌≡◌, ◌≤◌, List, length, sym, subst}, specs.Prelude.All}
use Rattle.layout.specs.Sizes.{lane_sectors}
use Rattle.savers.specs.{Jobs.{IsReady, IsSeated, JobDone, lane_of}, declared.saver.Saver.Saver}
use Rattle.savers.proofs.HandedOn.{put_back, put_back_length, put_back_each}
use Rattle.savers.proofs.saving.run_jobs.Goals as goal

pub run_each-requires-clause-few : goal.run_each-requires-clause-few
run_each-requires-clause-few g c κs within = subst (λ (l : List (Saver g.row.L.Denot)). length l ≤ 4) (sym c.deref_mut.ensures.value) c.requires.few

pub run_each-requires-clause-ready : goal.run_each-requires-clause-ready
run_each-requires-clause-ready g c κs within = subst (λ (l : List (Saver g.row.L.Denot)). All (IsReady c.args.ticket.now) l) (sym c.deref_mut.ensures.value) c.requires.ready

pub run_each-requires-clause-room : goal.run_each-requires-clause-room
run_each-requires-clause-room g c κs within =
    subst (λ (l : List (Saver g.row.L.Denot)). All (λ s. length (lane_of g.L.Lane.lane_facts s).content ≡ lane_sectors c.args.snapshot.now.shape.now) l) (sym c.deref_mut.ensures.value) c.requires.room

pub returns-clause-as_many : goal.returns-clause-as_many
returns-clause-as_many g c =
    put_back_length c.run_each.new.savers c.deref_mut.result.now c.args.savers.now.items c.args.savers.now.len c.run_each.ensures.as_many c.deref_mut.ensures.value c.args.savers.now.ok.0

pub returns-clause-seated : goal.returns-clause-seated
returns-clause-seated g c =
    subst (λ (l : List (Saver g.row.L.Denot)). All (IsSeated c.args.ticket.now) l)
    (sym (put_back c.run_each.new.savers c.deref_mut.result.now c.args.savers.now.items c.args.savers.now.len c.run_each.ensures.as_many c.deref_mut.ensures.value c.args.savers.now.ok.0))
    c.run_each.ensures.seated

pub returns-clause-each : goal.returns-clause-each
returns-clause-each g c =
    put_back_each c.run_each.new.savers c.deref_mut.result.now c.args.savers.now.items c.args.savers.now.len c.run_each.ensures.as_many c.deref_mut.ensures.value c.args.savers.now.ok.0
    (JobDone g.L.Lane.lane_facts c.args.ticket.now c.args.snapshot.now.shape.now c.args.snapshot.now.ram.now c.args.snapshot.now.serial) c.run_each.ensures.each
