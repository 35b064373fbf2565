use Rattle.std.proofs.Common.{◌≡◌, ◌∙◌, All, length, ap, sym, rules}
use Rattle.disk.specs.{Facts.Content, WriteLog.synced}
use Rattle.simdisk.{specs.{History.log_of, Latest.latest_of, declared.patch.Patch.Patch, Views.pieces}, proofs.Notes.left_agrees}
use Rattle.simdisk.proofs.{Comparing.{left_settled, stood_settled}, Epochs.{fits_synced, leave_fits, leave_last, leave_long}}
use Rattle.simdisk.proofs.history.History.cut.Goals.{After-part}
use Rattle.simdisk.proofs.history.History.cut.Goals as goal

-- what stood at the last sync is kept apart
stood : (c : After-part) → c.part.new.self.sectors.items ≡ synced (log_of c.args.self.now)
stood c = c.part.ensures.same ∙ ap (λ (k : Content). latest_of c.args.self.now.stood k) c.deref-2.ensures.value ∙ c.requires.stands.is

pub leave-requires : goal.leave-requires
leave-requires c =
    let h = c.args.self.now in
    let is = stood (goal.at.leave-requires c).After-part in
    let written = c.deref-4.result.now in
    let last = c.over-last.ensures ∙ ap (λ (k : Content). latest_of c.args.latest.now k) c.deref-3.ensures.value ∙ sym c.requires.newest in
    record {
      fits = leave_fits h c.part.new.self.sectors.items written is c.deref-4.ensures.value;
      last = leave_last h c.part.new.self.sectors.items written is c.deref-4.ensures.value c.over-last.result.now last;
      as_long = leave_long h c.part.new.self.sectors.items written is c.deref-4.ensures.value c.over-last.result.now last;
    }

pub copy_from_slice-requires : goal.copy_from_slice-requires
copy_from_slice-requires c =
    let h = c.args.self.now in
    let is = stood (goal.at.copy_from_slice-requires c).After-part in
    let fits = leave_fits h c.part.new.self.sectors.items c.deref-4.result.now is c.deref-4.ensures.value in
    sym (ap (λ (k : Content). length k) c.deref-5.ensures.value ∙ ap (λ (k : Content). length k) c.leave.ensures
    ∙ (left_agrees c.args.fill c.part.new.self.sectors.items (pieces c.deref-4.result.now) fits).as_long ∙ c.part.ensures.as_long
    ∙ c.deref-2.ensures.len)

pub returns-then-are_empty-clause-left : goal.returns-then-are_empty-clause-left
returns-then-are_empty-clause-left c =
    let h = c.args.self.now in
    let none : All (λ (p : Patch). p.count ≡ 0) h.written.items = search rules in
    stood_settled (synced (log_of h)) c.args.content.now.items h.written.items none c.requires.agrees
    ∙ sym (left_settled c.args.fill (synced (log_of h)) h.written.items none (fits_synced h))
