use Rattle.std.proofs.{Common.{◌+◌, ◌≤◌, ◌∙◌, ℕ, List, Ok, Err, length, refl, ap, subst}, lemmas.Result.err_from_is_err_and}
use Rattle.disk.specs.Facts.{AreSectorsAt, Lent, Stays}
use Rattle.simdisk.specs.{declared.waiting.Waiting.Waiting, Cached.{shown, facts_of}, CacheLaws.length_shown}
use Rattle.simdisk.proofs.Calls.{device_cached, device_called, other_error}
use Rattle.simdisk.proofs.cached_disk.CachedDiskDisk.read.Goals as goal

pub read-requires-clause-within : goal.read-requires-clause-within
read-requires-clause-within g c =
    subst (λ (n : ℕ). c.args.first + length c.args.sectors.now ≤ n) (length_shown _ _ _ c.args.self.now.cached) c.requires.within

pub returns-clause-found : goal.returns-clause-found
returns-clause-found g c =
    let s = c.args.self.now in
    let held = (g.D.Disk.facts s.queue.device).content in
    let within : c.args.first + length c.args.sectors.now ≤ length held =
    subst (λ (n : ℕ). c.args.first + length c.args.sectors.now ≤ n) (length_shown _ _ _ s.cached) c.requires.within in
    subst (λ (us : List Waiting). AreSectorsAt c.args.first (shown us held) c.lay_over.new.sectors) c.deref.ensures.value
    (c.lay_over.ensures held (rw c.read.auto.sectors within) (rw c.deref.ensures.value s.cached.fits) c.in_ok-read.ensures.found).1

pub read-requires-clause-apart : goal.read-requires-clause-apart
read-requires-clause-apart g c = c.requires.apart

pub invariant_of-self : goal.invariant_of-self
invariant_of-self g c =
    let s = c.args.self.now in
    let called = c.read.ensures.called in (
      (s.queue.room, tt),
      (
        c.saturating_add-self.type_inv,
        (device_cached s.queue.waiting.items s.log.log (g.D.Disk.facts s.queue.device) (g.D.Disk.facts c.read.new.self) (g.D.Disk.fault_state s.queue.device) (g.D.Disk.fault_state c.read.new.self) c.read.result s.cached called, ((λ is. ap (λ (l : Lent). l.lanes) called.lent ∙ s.idle is), ((λ lt. ap (λ (l : Lent). l.lanes) called.lent ∙ s.alone lt), tt))),
      ),
    )

pub returns-in_err-read-clause-found : goal.returns-in_err-read-clause-found
returns-in_err-read-clause-found g c = rw (err_from_is_err_and c.from_residual.result c.from_residual.ensures.1).1 tt

pub returns-in_err-read-clause-unsynced : goal.returns-in_err-read-clause-unsynced
returns-in_err-read-clause-unsynced g c = refl

pub returns-in_err-read-clause-called : goal.returns-in_err-read-clause-called
returns-in_err-read-clause-called g c =
    let p = err_from_is_err_and c.from_residual.result c.from_residual.ensures.1 in
    let s = c.args.self.now in
    rw p.1 (other_error 1 Stays (facts_of s.queue.waiting.items s.log.log s.calls (g.D.Disk.facts s.queue.device)) (facts_of s.queue.waiting.items s.log.log c.saturating_add-self.result (g.D.Disk.facts c.read.new.self)) (g.D.Disk.fault_state s.queue.device) (g.D.Disk.fault_state c.read.new.self) c.in_err-read.field-0.0 _
    (device_called s.queue.waiting.items s.log.log s.calls c.saturating_add-self.result (g.D.Disk.facts s.queue.device) (g.D.Disk.facts c.read.new.self) (g.D.Disk.fault_state s.queue.device) (g.D.Disk.fault_state c.read.new.self) (Err c.in_err-read.field-0.0) c.saturating_add-self.ensures c.in_err-read.ensures.called))

pub returns-clause-unsynced : goal.returns-clause-unsynced
returns-clause-unsynced g c = refl

pub returns-clause-called : goal.returns-clause-called
returns-clause-called g c =
    let s = c.args.self.now in
    device_called s.queue.waiting.items s.log.log s.calls c.saturating_add-self.result (g.D.Disk.facts s.queue.device) (g.D.Disk.facts c.read.new.self) (g.D.Disk.fault_state s.queue.device) (g.D.Disk.fault_state c.read.new.self) (Ok c.in_ok-read.field-0) c.saturating_add-self.ensures c.in_ok-read.ensures.called
