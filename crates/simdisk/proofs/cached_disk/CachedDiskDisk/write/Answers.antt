use Rattle.std.proofs.{Common.{◌∙◌, ◌+◌, ◌≤◌, ℕ, List, length, refl, ap, subst, arith, rules}, lemmas.Grind.common_steps}
use Rattle.std.proofs.lemmas.Result.{err_from_is_err_and}
use Rattle.disk.specs.Facts.{Lent}
use Rattle.simdisk.{specs.{declared.waiting.Waiting.Waiting, CacheLaws.length_shown}, proofs.Caches.cached_more}
use Rattle.simdisk.proofs.Calls.{any_cached, any_alone, one_item, waits_cached, waits_called, waits_written, write_cached, write_failed, write_called}
use Rattle.simdisk.proofs.cached_disk.CachedDiskDisk.write.Goals as goal

pub invariant_of-self-then-waits : goal.invariant_of-self-then-waits
invariant_of-self-then-waits g c =
    let s = c.args.self.now in
    let within : c.args.first + length c.args.sectors.now ≤ length (g.D.Disk.facts s.queue.device).content =
    subst (λ (n : ℕ). c.args.first + length c.args.sectors.now ≤ n) (length_shown _ _ _ s.cached) c.requires.within in
    let may = c.may_wait-waits.ensures c.if-waits.true in (
      (grind (arith, common_steps, c.push_reserved.ensures.capacity, s.queue.room), tt),
      (
        search rules,
        (
          waits_cached s.queue.waiting.items _ _ s.log.log _ s.calls s.calls (g.D.Disk.facts s.queue.device) (g.D.Disk.fault_state s.queue.device) c.args.first c.args.sectors.now s.cached c.note.ensures within c.push_reserved.ensures.items refl
              (one_item c.args.sectors.now _ may.0),
          (s.idle, ((λ lt. s.idle may.2), tt)),
        ),
      ),
    )

pub returns-then-waits-clause-written : goal.returns-then-waits-clause-written
returns-then-waits-clause-written g c =
    let s = c.args.self.now in
    let within : c.args.first + length c.args.sectors.now ≤ length (g.D.Disk.facts s.queue.device).content =
    subst (λ (n : ℕ). c.args.first + length c.args.sectors.now ≤ n) (length_shown _ _ _ s.cached) c.requires.within in
    waits_written s.queue.waiting.items _ _ s.log.log _ s.calls s.calls (g.D.Disk.facts s.queue.device) (g.D.Disk.fault_state s.queue.device) c.args.first c.args.sectors.now s.cached c.note.ensures within c.push_reserved.ensures.items refl
    (one_item c.args.sectors.now _ (c.may_wait-waits.ensures c.if-waits.true).0)

pub returns-then-waits-clause-called : goal.returns-then-waits-clause-called
returns-then-waits-clause-called g c =
    let s = c.args.self.now in
    let within : c.args.first + length c.args.sectors.now ≤ length (g.D.Disk.facts s.queue.device).content =
    subst (λ (n : ℕ). c.args.first + length c.args.sectors.now ≤ n) (length_shown _ _ _ s.cached) c.requires.within in
    let may = c.may_wait-waits.ensures c.if-waits.true in
    waits_called s.queue.waiting.items _ _ s.log.log _ s.calls _ (g.D.Disk.facts s.queue.device) (g.D.Disk.fault_state s.queue.device) c.args.first c.args.sectors.now s.cached c.note.ensures within c.push_reserved.ensures.items refl
    (one_item c.args.sectors.now _ may.0) _ (search rules) (search rules)

pub invariant_of-self-in-Break-1 : goal.invariant_of-self-in-Break-1
invariant_of-self-in-Break-1 g c =
    let s = c.args.self.now in
    let within : c.args.first + length c.args.sectors.now ≤ length (g.D.Disk.facts s.queue.device).content =
    subst (λ (n : ℕ). c.args.first + length c.args.sectors.now ≤ n) (length_shown _ _ _ s.cached) c.requires.within in
    record {
      few_calls = search rules;
      cached = any_cached s.queue.waiting.items _ _ (g.D.Disk.facts s.queue.device) (g.D.Disk.facts c.hand_on.new.self.device) _ _ c.hand_on.result
          (cached_more s.queue.waiting.items s.log.log _ (c.args.first, c.args.sectors.now) (g.D.Disk.facts s.queue.device) s.cached c.note.ensures within) c.hand_on.ensures.handed c.hand_on.ensures.none c.hand_on.ensures.all;
      idle = λ is. ap (λ (l : Lent). l.lanes) c.hand_on.ensures.handed.lent ∙ s.idle is;
      alone = any_alone s.queue.waiting.items _ (g.D.Disk.facts s.queue.device) (g.D.Disk.facts c.hand_on.new.self.device) _ _ c.hand_on.result s.alone c.hand_on.ensures.handed c.hand_on.ensures.none c.hand_on.ensures.all;
    }

pub returns-in_err-hand_on-clause-called : goal.returns-in_err-hand_on-clause-called
returns-in_err-hand_on-clause-called g c =
    let p = err_from_is_err_and c.from_residual.result c.from_residual.ensures.1 in
    let s = c.args.self.now in
    let within : c.args.first + length c.args.sectors.now ≤ length (g.D.Disk.facts s.queue.device).content =
    subst (λ (n : ℕ). c.args.first + length c.args.sectors.now ≤ n) (length_shown _ _ _ s.cached) c.requires.within in
    rw p.1 (write_failed s.queue.waiting.items _ s.log.log _ s.calls _ (g.D.Disk.facts s.queue.device) (g.D.Disk.facts c.hand_on.new.self.device) _ _ c.args.first c.args.sectors.now s.cached c.note.ensures within (search rules) _ _
    c.in_err-hand_on.ensures.all c.in_err-hand_on.ensures.handed)

pub invariant_of-self-3 : goal.invariant_of-self-3
invariant_of-self-3 g c =
    let s = c.args.self.now in
    let within : c.args.first + length c.args.sectors.now ≤ length (g.D.Disk.facts s.queue.device).content =
    subst (λ (n : ℕ). c.args.first + length c.args.sectors.now ≤ n) (length_shown _ _ _ s.cached) c.requires.within in (
      (c.hand_on.new.self.room, tt),
      (
        search rules,
        (
          write_cached s.queue.waiting.items _ s.log.log _ s.calls c.saturating_add-self.result (g.D.Disk.facts s.queue.device) (g.D.Disk.facts c.hand_on.new.self.device) _ _ c.args.first c.args.sectors.now s.cached c.note.ensures within (search rules)
              (g.D.Disk.facts c.write.new.self) _ _ c.write.result c.in_ok-hand_on.ensures.none c.in_ok-hand_on.ensures.handed c.write.ensures.called,
          (
            λ is. ap (λ (l : Lent). l.lanes) (c.write.ensures.called.lent ∙ c.in_ok-hand_on.ensures.handed.lent) ∙ s.idle is,
            ((λ lt. absurd (omega (arith, lt, ap (λ (us : List Waiting). length us) c.in_ok-hand_on.ensures.none))), tt),
          ),
        ),
      ),
    )

pub returns-clause-called : goal.returns-clause-called
returns-clause-called g c =
    let s = c.args.self.now in
    let within : c.args.first + length c.args.sectors.now ≤ length (g.D.Disk.facts s.queue.device).content =
    subst (λ (n : ℕ). c.args.first + length c.args.sectors.now ≤ n) (length_shown _ _ _ s.cached) c.requires.within in
    write_called s.queue.waiting.items _ s.log.log _ s.calls _ (g.D.Disk.facts s.queue.device) (g.D.Disk.facts c.hand_on.new.self.device) _ _ c.args.first c.args.sectors.now s.cached c.note.ensures within (search rules)
    (g.D.Disk.facts c.write.new.self) _ _ c.write.result c.in_ok-hand_on.ensures.none c.in_ok-hand_on.ensures.handed c.write.ensures.called
