use Rattle.std.proofs.Common.{◌≡◌, ◌<◌, ◌≤◌, ◌+◌, ◌*◌, ℕ, length, sym, ap, ◌∙◌, subst, arith}
use Rattle.disk.specs.{Facts.Content, WriteLog.{WriteLog, synced, newest, ranges, AgreesOutside}}
use Rattle.simdisk.{specs.{History.{log_of, Stands}, Latest.HasPlace, Views.{IsLatest, lent_of}}, proofs.Copying.{same_facts, same_latest}}
use Rattle.simdisk.proofs.copies.SimDiskCopyDisk.copy.Goals as goal

pub invariant_of-result : goal.invariant_of-result
invariant_of-result c =
    let s = c.args.self.now in
    let log = c.in_ok-history.ensures.log in
    let content : c.in_ok-content.content.items ≡ s.content.items = c.in_ok-content.ensures ∙ c.deref.ensures.value in
    let latest = c.in_ok-latest.ensures in
    let long : c.len.result ≡ length c.in_ok-content.content.items = omega (arith, c.len.ensures, ap (λ (m : Content). length m) content) in
    record {
      agrees = subst (λ (r : WriteLog). AgreesOutside (synced r) (ranges r.written) c.in_ok-content.content.items) (sym log)
          (subst (λ (m : Content). AgreesOutside (synced (log_of s.history)) (ranges (log_of s.history).written) m) (sym content) s.agrees);
      stands = subst (λ (m : Content). Stands m c.in_ok-history.history) (sym (content ∙ sym c.deref-2.ensures.value)) c.in_ok-history.ensures.stands;
      newest = ap newest log ∙ (s.newest ∙ sym (same_latest s.latest c.in_ok-latest.latest s.content.items c.in_ok-content.content.items latest.as_read latest.sectors content));
      room = subst (λ (n : ℕ). HasPlace n c.in_ok-latest.latest) long latest.place;
      few = s.few;
      few_calls = s.few_calls;
      within = subst (λ (m : Content). s.loan.first + s.loan.lanes * s.loan.each ≤ length m) (sym content) s.within;
      noted = subst (λ (r : WriteLog). 0 < s.loan.lanes → IsLatest (ranges r.written) s.loan.patch (s.loan.first, s.loan.lanes * s.loan.each)) (sym log) s.noted;
    }

pub returns-clause-facts : goal.returns-clause-facts
returns-clause-facts c =
    let s = c.args.self.now in
    same_facts s.content.items c.in_ok-content.content.items (log_of s.history) (log_of c.in_ok-history.history) s.failures s.calls (lent_of s.loan)
    (c.in_ok-content.ensures ∙ c.deref.ensures.value) c.in_ok-history.ensures.log
