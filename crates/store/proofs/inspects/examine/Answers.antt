use Rattle.std.proofs.{Common.{◌≡◌, subst}, lemmas.Result.{err_from_is_err_and, IfOk-from_err}}
use Rattle.disk.specs.Facts.{Content}
use Rattle.store.{specs.{Standing.{selected, live_sector, other_sector}, Inspects.IsImageSeen}, proofs.Inspecting.parses}
use Rattle.store.proofs.Alone.{called_alone, alone_then, fails_after, none_after, refused_after, one_failed, records_failed, image_failed, image_seen}
use Rattle.store.proofs.inspects.examine.Goals as goal

-- gate and records could not be read
pub returns-in_default-clause-refused : goal.returns-in_default-clause-refused
returns-in_default-clause-refused g c = one_failed _ _ c.in_default.ensures.called.failures.err

pub returns-in_default-clause-reads_alone : goal.returns-in_default-clause-reads_alone
returns-in_default-clause-reads_alone g c =
    called_alone 3 _ _ _ _ _ (g.met.D.Disk.only_now _) (g.met.D.Disk.bounded _) c.requires.none_out c.read_records.ensures.called

pub returns-in_default-clause-cause : goal.returns-in_default-clause-cause
returns-in_default-clause-cause g c = record { no_failure = tt; cause = c.in_default.ensures.called.cause.err }

pub returns-in_default-clause-calls : goal.returns-in_default-clause-calls
returns-in_default-clause-calls g c = records_failed c.args.shape.now _ _ c.in_default.ensures.called.calls.err

-- the image was refused
pub returns-in_err-image-clause-refused : goal.returns-in_err-image-clause-refused
returns-in_err-image-clause-refused g c =
    let p = err_from_is_err_and c.from_residual.result c.from_residual.ensures.1 in
    let records = c.in-Ok.ensures.called in
    rw (p.1, p.2) (refused_after (g.D.Disk.facts c.args.disk.now) (g.D.Disk.facts c.read_records.new.disk) (g.D.Disk.facts c.see_image.new.disk) c.in_err-image.field-0.0 records.content records.failures.ok c.in_err-image.ensures.refused)

pub returns-in_err-image-clause-reads_alone : goal.returns-in_err-image-clause-reads_alone
returns-in_err-image-clause-reads_alone g c = alone_then 3 _ _ _ _ _ _ (g.met.D.Disk.only_now _) c.in-Ok.ensures.called c.see_image.ensures.reads_alone

pub returns-in_err-image-clause-cause : goal.returns-in_err-image-clause-cause
returns-in_err-image-clause-cause g c =
    let p = err_from_is_err_and c.from_residual.result c.from_residual.ensures.1 in
    rw (p.1, p.2) (fails_after _ _ _ _ _ _ _ c.in-Ok.ensures.called.cause.ok c.in_err-image.ensures.cause)

pub returns-in_err-image-clause-calls : goal.returns-in_err-image-clause-calls
returns-in_err-image-clause-calls g c =
    let p = err_from_is_err_and c.from_residual.result c.from_residual.ensures.1 in
    rw (p.1, p.2) (image_failed c.args.shape.now _ _ _ c.in_err-image.field-0.0 c.in-Ok.ensures.called.calls.ok c.in_err-image.ensures.calls)

pub returns-clause-reads_alone : goal.returns-clause-reads_alone
returns-clause-reads_alone g c = alone_then 3 _ _ _ _ _ _ (g.met.D.Disk.only_now _) c.in-Ok.ensures.called c.see_image.ensures.reads_alone

pub returns-clause-cause : goal.returns-clause-cause
returns-clause-cause g c = let records = c.in-Ok.ensures.called in none_after _ _ _ _ _ _ _ _ records.failures.ok records.cause.ok c.in_ok-image.ensures.cause

pub returns-clause-calls : goal.returns-clause-calls
returns-clause-calls g c = image_seen c.args.shape.now _ _ _ c.in_ok-image.image c.in-Ok.ensures.called.calls.ok c.in_ok-image.ensures.calls

pub returns-clause-inspected : goal.returns-clause-inspected
returns-clause-inspected g c =
    let content = (g.D.Disk.facts c.args.disk.now).content in
    let size = c.args.shape.now in
    let records = c.in-Ok.records in
    let gate : records.gate ≡ selected content = c.in-Ok.ensures.gate in
    let live : records.live ≡ live_sector content = c.in-Ok.ensures.live in
    let other : records.other ≡ other_sector content = c.in-Ok.ensures.other in
    record {
      gate = gate;
      live = parses size records.live (live_sector content) c.parse_record-live.result c.is_ok.result live c.is_ok.ensures.value c.parse_record-live.ensures.ok c.parse_record-live.ensures.exact;
      other = parses size records.other (other_sector content) c.parse_record-other.result c.is_ok-2.result other c.is_ok-2.ensures.value c.parse_record-other.ensures.ok c.parse_record-other.ensures.exact;
      image = subst (λ (d : Content). IsImageSeen size d c.in_ok-image.image) c.read_records.ensures.called.content c.in_ok-image.ensures.seen;
    }

pub returns-in_err-image-clause-inspected : goal.returns-in_err-image-clause-inspected
returns-in_err-image-clause-inspected g c = IfOk-from_err c.from_residual.result _ c.from_residual.ensures.0
