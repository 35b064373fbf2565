use Rattle.std.proofs.{Common.{◌≡◌, ◌∙◌, ◌++◌, ◌∷◌, [], ℕ, ◌*◌, length, ap, sym, rules}, lemmas.List.length-map}
use Rattle.disk.{specs.Facts.{Content, Lent, Torn, Passes}, proofs.{Ranges.agrees_push, Pieces.put_same, Stretches.passes_range}}
use Rattle.disk.specs.WriteLog.{laid_over, more_written, range, ranges, synced, newest, lent_piece, sim_facts}
use Rattle.simdisk.{specs.{Latest.latest_of, Views.{piece, pieces}, History.log_of}, proofs.Epochs.length_newest}
use Rattle.simdisk.proofs.Notes.{newest_more, ranges_written, last_last, range_lent}
use Rattle.simdisk.proofs.device.SimDiskDisk.split.Goals as goal

pub invariant_of-self-2 : goal.invariant_of-self-2
invariant_of-self-2 c =
    let s = c.args.self.now in
    let l : Lent = record { first = c.args.first; lanes = c.args.lanes; each = c.args.each } in
    let last = newest (log_of s.history) in
    let rs = ranges (pieces s.history.written.items) in
    let r : ℕ × ℕ = (c.args.first, c.args.lanes * c.args.each) in
    let long : length last ≡ length s.content.items = length_newest s.history ∙ sym s.agrees.as_long in
    let noted : log_of c.lend.new.self ≡ more_written (lent_piece l last) (log_of s.history) = c.in_ok-out.ensures.noted ∙ ap (λ (k : Content). more_written (lent_piece l k) (log_of s.history)) (c.over-last.ensures ∙ ap (λ (k : Content). latest_of s.latest k) c.deref.ensures.value ∙ sym s.newest) in
    let more : ranges (pieces c.lend.new.self.written.items) ≡ rs ++ r ∷ [] =
    ranges_written (log_of s.history) (log_of c.lend.new.self) (lent_piece l last) noted ∙ ap (λ (x : ℕ × ℕ). rs ++ x ∷ []) (range_lent l last (rw long c.requires.within)) in
    let same : (k : Content) → k ≡ latest_of s.latest s.content.items → latest_of s.latest s.content.items ≡ laid_over (lent_piece l k) (latest_of s.latest s.content.items) =
    λ k is. sym (ap (λ (k : Content). laid_over (lent_piece l k) (latest_of s.latest s.content.items)) is ∙ put_same c.args.first (c.args.lanes * c.args.each) (latest_of s.latest s.content.items) (rw (← s.newest, long) c.requires.within)) in
    record {
      stands = c.in_ok-out.ensures.apart s.content.items (ap (λ (k : Content). length k) (sym c.deref-2.ensures.value));
      newest = newest_more (log_of s.history) (log_of c.lend.new.self) (lent_piece l last) (latest_of s.latest s.content.items) (latest_of s.latest s.content.items) noted s.newest (same last s.newest);
      room = s.room;
      agrees = rw (c.in_ok-out.ensures.synced, more) (agrees_push (synced (log_of s.history)) rs r s.content.items s.agrees);
      few = s.few;
      few_calls = s.few_calls;
      within = c.requires.within;
      noted = λ lt. rw more (last_last rs r c.len.result (length-map (pieces s.history.written.items) range ∙ length-map s.history.written.items piece ∙ search rules));
    }

pub returns-clause-crash : goal.returns-clause-crash
returns-clause-crash c =
    let s = c.args.self.now in
    let l : Lent = record { first = c.args.first; lanes = c.args.lanes; each = c.args.each } in
    let last = newest (log_of s.history) in
    let long : length last ≡ length s.content.items = length_newest s.history ∙ sym s.agrees.as_long in
    let size : length (lent_piece l last).1 ≡ c.args.lanes * c.args.each = ap (λ (x : ℕ × ℕ). x.1) (range_lent l last (rw long c.requires.within)) in
    let noted : log_of c.lend.new.self ≡ more_written (lent_piece l last) (log_of s.history) = c.in_ok-out.ensures.noted ∙ ap (λ (k : Content). more_written (lent_piece l k) (log_of s.history)) (c.over-last.ensures ∙ ap (λ (k : Content). latest_of s.latest k) c.deref.ensures.value ∙ sym s.newest) in
    let all : Passes (sim_facts s.content.items (synced (log_of s.history)) (log_of s.history) s.failures s.calls _) (sim_facts s.content.items (synced (log_of c.lend.new.self)) (log_of c.lend.new.self) s.failures s.calls l) (Torn c.args.first (length (lent_piece l last).1)) =
    passes_range s.content.items s.content.items (synced (log_of s.history)) (synced (log_of c.lend.new.self)) (log_of s.history) (log_of c.lend.new.self) _ _ _ _ _ _ (lent_piece l last) noted c.in_ok-out.ensures.synced
    (rw (size, ← s.agrees.as_long) c.requires.within) in
    rw (← size) all
