use Rattle.std.proofs.Common.{◌≡◌, ◌≤◌, ℕ, None, map, true, sym, subst}
use Rattle.board_model.specs.{Durable.{refusal_of, after, fold}, Views.change_in}
use Rattle.disk.specs.Facts.{Content}
use Rattle.store.{specs.{Taken.are_taken, Standing.{state_of, memory_in}}, proofs.Armed.{still_keeps, still_failed}}
use Rattle.store.proofs.stores.Store.arm.Goals as goal

pub invariant_of-self : goal.invariant_of-self
invariant_of-self g c =
    let s = c.args.self.now in
    let a = g.D.Disk.facts s.disk in
    let b = g.D.Disk.facts c.arm.new.self in
    let same = c.arm.ensures.facts in
    record {
      kept = still_keeps a b same s.shape s.side s.current s.doubt s.kept;
      folded = subst (λ (d : Content). fold (state_of s.shape s.opened d) (map (λ e. change_in e (memory_in s.shape s.current d)) s.journal) ≡ state_of s.shape s.current d) (sym same.content) s.folded;
      doubted = λ x is. subst (λ (d : Content). state_of s.shape x.next d ≡ after (state_of s.shape s.current d) (change_in x.entry (memory_in s.shape x.next d))) (sym same.content) (s.doubted x is);
      plain = s.plain;
      same_image = s.same_image;
      few = s.few;
      failed = λ x is. still_failed s.failures_at_open a.failures b.failures same.failures (s.failed x is);
      counted = subst (λ (n : ℕ). s.failures_at_open ≤ n) (sym same.failures) s.counted;
      legal = subst (λ (d : Content). are_taken (state_of s.shape s.opened d) (map (λ e. change_in e (memory_in s.shape s.current d)) s.journal) ≡ true) (sym same.content) s.legal;
      allowed = λ x is. subst (λ (d : Content). refusal_of (state_of s.shape s.current d) (change_in x.entry (memory_in s.shape x.next d)) ≡ None) (sym same.content) (s.allowed x is);
    }
