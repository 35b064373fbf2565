use Rattle.std.proofs.{Common.{◌≡◌, ◌+◌, ◌*◌, ◌≤◌, ℕ, List, [], map, refl, sym, ap, subst}, lemmas.Bool.true≢false}
use Rattle.std.proofs.lemmas.Result.{err_from_is_err_and}
use Rattle.disk.specs.Facts.{Content, Handed, Lent}
use Rattle.simdisk.{specs.{declared.waiting.Waiting.Waiting, Cached.shown, CacheLaws.length_shown}, proofs.Kept.stays_over}
use Rattle.simdisk.proofs.Calls.{none_waits, split_over, waits_none}
use Rattle.simdisk.proofs.cached_disk.CachedDiskDisk.split.Goals as goal

pub invariant_of-self-3-clause-cached : goal.invariant_of-self-3-clause-cached
invariant_of-self-3-clause-cached g c =
    let s = c.args.self.now in
    let l : Lent = record { first = c.args.first; lanes = c.args.lanes; each = c.args.each } in
    let none : s.queue.waiting.items ≡ [] = waits_none s.queue.waiting.items s.queue.waiting.len s.queue.waiting.ok.0 c.if-not-is_empty.ensures in
    (split_over s.queue.waiting.items s.log.log _ s.calls (g.D.Disk.facts s.queue.device) (g.D.Disk.facts c.split.new.self) l none s.cached c.in_ok-out.ensures.out c.requires.within c.in_ok-out.ensures.content c.picked-self.ensures c.in_ok-out.ensures.crash).0

pub returns-clause-crash : goal.returns-clause-crash
returns-clause-crash g c =
    let s = c.args.self.now in
    let l : Lent = record { first = c.args.first; lanes = c.args.lanes; each = c.args.each } in
    let none : s.queue.waiting.items ≡ [] = waits_none s.queue.waiting.items s.queue.waiting.len s.queue.waiting.ok.0 c.if-not-is_empty.ensures in
    (split_over s.queue.waiting.items s.log.log _ s.calls (g.D.Disk.facts s.queue.device) (g.D.Disk.facts c.split.new.self) l none s.cached c.in_ok-out.ensures.out c.requires.within c.in_ok-out.ensures.content c.picked-self.ensures c.in_ok-out.ensures.crash).1

pub split-requires-clause-none_out : goal.split-requires-clause-none_out
split-requires-clause-none_out g c = c.requires.none_out

pub split-requires-clause-few : goal.split-requires-clause-few
split-requires-clause-few g c = c.requires.few

pub split-requires-clause-within : goal.split-requires-clause-within
split-requires-clause-within g c = subst (λ (n : ℕ). c.args.first + c.args.lanes * c.args.each ≤ n) (length_shown _ _ _ c.args.self.now.cached) c.requires.within

pub invariant_of-self : goal.invariant_of-self
invariant_of-self g c = (c.args.self.now.queue.room, tt)

pub invariant_of-self-3-clause-few_calls : goal.invariant_of-self-3-clause-few_calls
invariant_of-self-3-clause-few_calls g c = c.args.self.now.few_calls

pub invariant_of-self-3-clause-idle : goal.invariant_of-self-3-clause-idle
invariant_of-self-3-clause-idle g c = λ is. absurd (true≢false is)

pub invariant_of-self-3-clause-alone : goal.invariant_of-self-3-clause-alone
invariant_of-self-3-clause-alone g c =
    let s = c.args.self.now in
    λ lt. absurd (none_waits s.queue.waiting.items (waits_none s.queue.waiting.items s.queue.waiting.len s.queue.waiting.ok.0 c.if-not-is_empty.ensures) lt)

pub returns-clause-handed : goal.returns-clause-handed
returns-clause-handed g c =
    let s = c.args.self.now in
    let l : Lent = record { first = c.args.first; lanes = c.args.lanes; each = c.args.each } in
    subst (λ (x : Content). Handed l x (map g.D.Lane.Lane.lane_facts c.in_ok-out.out.items)) (sym (ap (λ (us : List Waiting). shown us (g.D.Disk.facts s.queue.device).content) (waits_none s.queue.waiting.items s.queue.waiting.len s.queue.waiting.ok.0 c.if-not-is_empty.ensures))) c.in_ok-out.ensures.handed

pub returns-clause-out : goal.returns-clause-out
returns-clause-out g c = c.in_ok-out.ensures.out

pub returns-clause-content : goal.returns-clause-content
returns-clause-content g c = ap (λ (x : Content). shown c.args.self.now.queue.waiting.items x) c.in_ok-out.ensures.content

pub returns-clause-no_call : goal.returns-clause-no_call
returns-clause-no_call g c = record { failures = c.in_ok-out.ensures.no_call.failures; calls = refl; cause = c.in_ok-out.ensures.no_call.cause }

pub returns-in_err-out-clause-handed : goal.returns-in_err-out-clause-handed
returns-in_err-out-clause-handed g c = rw (err_from_is_err_and c.from_residual.result c.from_residual.ensures.1).1 tt

pub returns-in_err-out-clause-refused : goal.returns-in_err-out-clause-refused
returns-in_err-out-clause-refused g c = rw (err_from_is_err_and c.from_residual.result c.from_residual.ensures.1).1 c.in_err-out.ensures.refused

pub returns-in_err-out-clause-content : goal.returns-in_err-out-clause-content
returns-in_err-out-clause-content g c = ap (λ (x : Content). shown c.args.self.now.queue.waiting.items x) c.in_err-out.ensures.content

pub returns-in_err-out-clause-crash_refused : goal.returns-in_err-out-clause-crash_refused
returns-in_err-out-clause-crash_refused g c =
    let s = c.args.self.now in
    rw (err_from_is_err_and c.from_residual.result c.from_residual.ensures.1).1 (stays_over (shown s.queue.waiting.items (g.D.Disk.facts s.queue.device).content) (shown s.queue.waiting.items (g.D.Disk.facts c.split.new.self).content) s.log.log s.calls s.calls (g.D.Disk.facts s.queue.device) (g.D.Disk.facts c.split.new.self))

pub returns-in_err-out-clause-no_call : goal.returns-in_err-out-clause-no_call
returns-in_err-out-clause-no_call g c = record { failures = c.in_err-out.ensures.no_call.failures; calls = refl; cause = c.in_err-out.ensures.no_call.cause }
