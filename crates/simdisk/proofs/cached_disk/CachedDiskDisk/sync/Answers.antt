use Rattle.std.proofs.{Common.{◌∙◌, Err, ap}, lemmas.Result.err_from_is_err_and}
use Rattle.disk.specs.Facts.{Lent, Stays}
use Rattle.simdisk.specs.Cached.{facts_of}
use Rattle.simdisk.proofs.Calls.{any_cached, any_alone, device_cached, none_waits, other_error, sync_failed, sync_ok, synced_so}
use Rattle.simdisk.proofs.cached_disk.CachedDiskDisk.sync.Goals as goal

pub invariant_of-self : goal.invariant_of-self
invariant_of-self g c =
    let s = c.args.self.now in
    record {
      few_calls = c.saturating_add-self.type_inv;
      cached = any_cached s.queue.waiting.items _ _ (g.D.Disk.facts s.queue.device) (g.D.Disk.facts c.hand_on.new.self.device) _ _ c.hand_on.result s.cached c.hand_on.ensures.handed c.hand_on.ensures.none c.hand_on.ensures.all;
      idle = λ is. ap (λ (l : Lent). l.lanes) c.hand_on.ensures.handed.lent ∙ s.idle is;
      alone = any_alone s.queue.waiting.items _ (g.D.Disk.facts s.queue.device) (g.D.Disk.facts c.hand_on.new.self.device) _ _ c.hand_on.result s.alone c.hand_on.ensures.handed c.hand_on.ensures.none c.hand_on.ensures.all;
    }

pub returns-in_err-hand_on-clause-called : goal.returns-in_err-hand_on-clause-called
returns-in_err-hand_on-clause-called g c =
    let p = err_from_is_err_and c.from_residual.result c.from_residual.ensures.1 in
    let s = c.args.self.now in
    rw p.1 (sync_failed s.queue.waiting.items c.hand_on.new.self.waiting.items s.log.log s.calls _ (g.D.Disk.facts s.queue.device) (g.D.Disk.facts c.hand_on.new.self.device) _ _ _ _ s.cached c.saturating_add-self.ensures
    c.in_err-hand_on.ensures.all c.in_err-hand_on.ensures.handed)

pub invariant_of-self-in-Break-branch-2 : goal.invariant_of-self-in-Break-branch-2
invariant_of-self-in-Break-branch-2 g c =
    let s = c.args.self.now in
    record {
      few_calls = c.saturating_add-self.type_inv;
      cached = device_cached _ _ (g.D.Disk.facts c.hand_on.new.self.device) (g.D.Disk.facts c.sync.new.self) _ _ c.sync.result
          (any_cached s.queue.waiting.items _ _ (g.D.Disk.facts s.queue.device) (g.D.Disk.facts c.hand_on.new.self.device) _ _ c.hand_on.result s.cached c.hand_on.ensures.handed c.hand_on.ensures.none c.hand_on.ensures.all)
          c.sync.ensures.called;
      idle = λ is. ap (λ (l : Lent). l.lanes) (c.sync.ensures.called.lent ∙ c.hand_on.ensures.handed.lent) ∙ s.idle is;
      alone = λ lt. ap (λ (l : Lent). l.lanes) c.sync.ensures.called.lent
          ∙ any_alone s.queue.waiting.items _ (g.D.Disk.facts s.queue.device) (g.D.Disk.facts c.hand_on.new.self.device) _ _ c.hand_on.result s.alone c.hand_on.ensures.handed c.hand_on.ensures.none c.hand_on.ensures.all lt;
    }

pub invariant_of-self-4-clause-cached : goal.invariant_of-self-4-clause-cached
invariant_of-self-4-clause-cached g c =
    let s = c.args.self.now in
    (sync_ok s.queue.waiting.items _ s.log.log _ s.calls c.saturating_add-self.result (g.D.Disk.facts s.queue.device) (g.D.Disk.facts c.hand_on.new.self.device) (g.D.Disk.facts c.sync.new.self) _ _ _ _ _ s.cached c.saturating_add-self.ensures
    c.in_ok-hand_on.ensures.none c.in_ok-hand_on.ensures.handed c.in_ok-sync.ensures.called c.picked-self.ensures c.in_ok-sync.ensures.but_lent).1

pub returns-clause-called : goal.returns-clause-called
returns-clause-called g c =
    let s = c.args.self.now in
    (sync_ok s.queue.waiting.items _ s.log.log _ s.calls c.saturating_add-self.result (g.D.Disk.facts s.queue.device) (g.D.Disk.facts c.hand_on.new.self.device) (g.D.Disk.facts c.sync.new.self) _ _ _ _ _ s.cached c.saturating_add-self.ensures
    c.in_ok-hand_on.ensures.none c.in_ok-hand_on.ensures.handed c.in_ok-sync.ensures.called c.picked-self.ensures c.in_ok-sync.ensures.but_lent).0

pub returns-clause-durable : goal.returns-clause-durable
returns-clause-durable g c =
    let s = c.args.self.now in
    (sync_ok s.queue.waiting.items _ s.log.log _ s.calls c.saturating_add-self.result (g.D.Disk.facts s.queue.device) (g.D.Disk.facts c.hand_on.new.self.device) (g.D.Disk.facts c.sync.new.self) _ _ _ _ _ s.cached c.saturating_add-self.ensures
    c.in_ok-hand_on.ensures.none c.in_ok-hand_on.ensures.handed c.in_ok-sync.ensures.called c.picked-self.ensures c.in_ok-sync.ensures.but_lent).2

pub hand_on-requires-clause-fits : goal.hand_on-requires-clause-fits
hand_on-requires-clause-fits g c = c.args.self.now.cached.fits

pub hand_on-requires-clause-alone : goal.hand_on-requires-clause-alone
hand_on-requires-clause-alone g c = c.args.self.now.alone

pub returns-in_err-hand_on-clause-durable : goal.returns-in_err-hand_on-clause-durable
returns-in_err-hand_on-clause-durable g c = rw (err_from_is_err_and c.from_residual.result c.from_residual.ensures.1).1 tt

pub returns-in_err-hand_on-clause-but_lent : goal.returns-in_err-hand_on-clause-but_lent
returns-in_err-hand_on-clause-but_lent g c = rw (err_from_is_err_and c.from_residual.result c.from_residual.ensures.1).1 tt

pub returns-in_err-sync-clause-durable : goal.returns-in_err-sync-clause-durable
returns-in_err-sync-clause-durable g c = rw (err_from_is_err_and c.from_residual-in_err-sync.result c.from_residual-in_err-sync.ensures.1).1 tt

pub returns-in_err-sync-clause-but_lent : goal.returns-in_err-sync-clause-but_lent
returns-in_err-sync-clause-but_lent g c = rw (err_from_is_err_and c.from_residual-in_err-sync.result c.from_residual-in_err-sync.ensures.1).1 tt

pub returns-in_err-sync-clause-called : goal.returns-in_err-sync-clause-called
returns-in_err-sync-clause-called g c =
    let p = err_from_is_err_and c.from_residual-in_err-sync.result c.from_residual-in_err-sync.ensures.1 in
    let s = c.args.self.now in
    let a = g.D.Disk.facts s.queue.device in
    let b = g.D.Disk.facts c.hand_on.new.self.device in
    let d = g.D.Disk.facts c.sync.new.self in
    let f = g.D.Disk.fault_state s.queue.device in
    let h = g.D.Disk.fault_state c.sync.new.self in
    rw p.1 (other_error 1 Stays (facts_of s.queue.waiting.items s.log.log s.calls a) (facts_of c.hand_on.new.self.waiting.items s.log.log c.saturating_add-self.result d) f h c.in_err-sync.field-0.0 _
    (synced_so s.queue.waiting.items c.hand_on.new.self.waiting.items s.log.log s.calls c.saturating_add-self.result a b d f (g.D.Disk.fault_state c.hand_on.new.self.device) h _ s.cached c.saturating_add-self.ensures c.in_ok-hand_on.ensures.none c.in_ok-hand_on.ensures.handed
    (Err c.in_err-sync.field-0.0) c.in_err-sync.ensures.called))

pub invariant_of-self-4-clause-few_calls : goal.invariant_of-self-4-clause-few_calls
invariant_of-self-4-clause-few_calls g c = c.saturating_add-self.type_inv

pub invariant_of-self-4-clause-idle : goal.invariant_of-self-4-clause-idle
invariant_of-self-4-clause-idle g c = λ is. ap (λ (l : Lent). l.lanes) (c.in_ok-sync.ensures.called.lent ∙ c.in_ok-hand_on.ensures.handed.lent) ∙ c.args.self.now.idle is

pub invariant_of-self-4-clause-alone : goal.invariant_of-self-4-clause-alone
invariant_of-self-4-clause-alone g c = λ lt. absurd (none_waits c.hand_on.new.self.waiting.items c.in_ok-hand_on.ensures.none lt)
