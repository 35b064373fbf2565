use Rattle.std.proofs.Common.{◌≡◌, ◌∙◌, ◌≤◌, Err, Some, None, length, map, true, refl, sym, ap, subst, arith, rules}
use Rattle.std.proofs.lemmas.Result.{err_from_is_err_and}
use Rattle.board_model.specs.{Durable.{refusal_of, after, fold}, Shapes.ram_bytes_of, Views.change_in}
use Rattle.disk.specs.Facts.{Content}
use Rattle.store.specs.{Taken.are_taken, Standing.{state_of, memory_in, saved_memory}, Views.now_state}
use Rattle.store.proofs.Loading.{read_alone, none_read, stays_keeps, kept_range, kept_counts, image_now, load_refused}
use Rattle.store.proofs.stores.Store.load_image.Goals as goal

pub read_area-requires-clause-enough : goal.read_area-requires-clause-enough
read_area-requires-clause-enough g c κs within =
    let s = c.args.self.now in
    (kept_range (g.D.Disk.facts s.disk) s.shape s.side s.current s.doubt s.kept (g.met.D.Disk.may_keep _)).1

pub read_area-requires-clause-counts : goal.read_area-requires-clause-counts
read_area-requires-clause-counts g c κs within =
    let s = c.args.self.now in
    let there : s.current.image ≡ Some c.in-Some.saved = search rules in
    kept_counts s.shape s.current c.in-Some.saved (kept_range (g.D.Disk.facts s.disk) s.shape s.side s.current s.doubt s.kept (g.met.D.Disk.may_keep _)).0 there

pub invariant_of-self : goal.invariant_of-self
invariant_of-self g c =
    let s = c.args.self.now in
    let a = g.D.Disk.facts s.disk in
    let b = g.D.Disk.facts c.read_area.new.disk in
    let same = c.read_area.ensures.read.content in
    let more : a.failures ≤ b.failures = c.read_area.ensures.read.no_fewer in
    record {
      kept = stays_keeps a b c.read_area.ensures.read.crash same c.read_area.ensures.read.none_out s.shape s.side s.current s.doubt s.kept;
      folded = subst (λ (d : Content). fold (state_of s.shape s.opened d) (map (λ e. change_in e (memory_in s.shape s.current d)) s.journal) ≡ state_of s.shape s.current d) (sym same) s.folded;
      doubted = λ x is. subst (λ (d : Content). state_of s.shape x.next d ≡ after (state_of s.shape s.current d) (change_in x.entry (memory_in s.shape x.next d))) (sym same) (s.doubted x is);
      plain = s.plain;
      same_image = s.same_image;
      few = s.few;
      failed = λ x is. (let was = s.failed x is in omega (arith, was, more));
      counted = omega (arith, s.counted, more);
      legal = subst (λ (d : Content). are_taken (state_of s.shape s.opened d) (map (λ e. change_in e (memory_in s.shape s.current d)) s.journal) ≡ true) (sym same) s.legal;
      allowed = λ x is. subst (λ (d : Content). refusal_of (state_of s.shape s.current d) (change_in x.entry (memory_in s.shape x.next d)) ≡ None) (sym same) (s.allowed x is);
    }

pub returns-in_err-read_area-clause-refused : goal.returns-in_err-read_area-clause-refused
returns-in_err-read_area-clause-refused g c =
    let p = err_from_is_err_and c.from_residual.result c.from_residual.ensures.1 in
    let s = c.args.self.now in
    let a = g.D.Disk.facts s.disk in
    let there : s.current.image ≡ Some c.in-Some.saved = search rules in
    let fits : length c.args.ram.now ≡ ram_bytes_of s.shape = search (rules, arith) in
    rw (p.1, p.2)
    (load_refused s.shape (now_state s) c.args.ram.now (saved_memory s.shape c.in-Some.saved a.content) a (g.D.Disk.fault_state s.disk) c.in_err-read_area.field-0.0 (g.D.Disk.facts c.read_area.new.disk) (g.D.Disk.fault_state c.read_area.new.disk) fits
    (image_now s.shape s.current a.content (now_state s) c.in-Some.saved s.folded there) c.in_err-read_area.ensures.read.refused
    (λ is. c.read_area.ensures.spoilt (c.in_err-read_area.was ∙ ap Err is)))

pub returns-clause-loads : goal.returns-clause-loads
returns-clause-loads g c =
    let s = c.args.self.now in
    let a = g.D.Disk.facts s.disk in
    let there : s.current.image ≡ Some c.in-Some.saved = search rules in
    let image = image_now s.shape s.current a.content (now_state s) c.in-Some.saved s.folded there in
    (image.0, image.1, c.in_ok-read_area.ensures.reads ∙ image.2)

-- of the disk, where it is not asked
pub returns-then-pages-clause-reads_alone : goal.returns-then-pages-clause-reads_alone
returns-then-pages-clause-reads_alone g c = none_read _ (g.met.D.Disk.only_now _) c.args.self.now.kept.none_out

pub returns-in_default-clause-reads_alone : goal.returns-in_default-clause-reads_alone
returns-in_default-clause-reads_alone g c = none_read _ (g.met.D.Disk.only_now _) c.args.self.now.kept.none_out

-- and where it is
pub returns-in_err-read_area-clause-reads_alone : goal.returns-in_err-read_area-clause-reads_alone
returns-in_err-read_area-clause-reads_alone g c = let did = c.read_area.ensures.read in read_alone _ _ (g.met.D.Disk.only_now _) did.content did.crash did.none_out did.no_fewer

pub returns-clause-reads_alone : goal.returns-clause-reads_alone
returns-clause-reads_alone g c = let did = c.read_area.ensures.read in read_alone _ _ (g.met.D.Disk.only_now _) did.content did.crash did.none_out did.no_fewer

pub returns-in_err-read_area-clause-stops : goal.returns-in_err-read_area-clause-stops
returns-in_err-read_area-clause-stops g c =
    let p = err_from_is_err_and c.from_residual.result c.from_residual.ensures.1 in
    rw (p.1, p.2) c.in_err-read_area.ensures.read.stops

-- the other clauses
pub returns-then-pages-clause-loads : goal.returns-then-pages-clause-loads
returns-then-pages-clause-loads g c = tt

pub returns-then-pages-clause-untouched : goal.returns-then-pages-clause-untouched
returns-then-pages-clause-untouched g c = λ not_device not_bad. (refl, refl)

pub returns-then-pages-clause-length : goal.returns-then-pages-clause-length
returns-then-pages-clause-length g c = refl

pub returns-then-pages-clause-life : goal.returns-then-pages-clause-life
returns-then-pages-clause-life g c = refl

pub returns-then-pages-clause-unsynced : goal.returns-then-pages-clause-unsynced
returns-then-pages-clause-unsynced g c = refl

pub returns-then-pages-clause-no_failure : goal.returns-then-pages-clause-no_failure
returns-then-pages-clause-no_failure g c = tt

pub returns-then-pages-clause-calls : goal.returns-then-pages-clause-calls
returns-then-pages-clause-calls g c = tt

pub returns-then-pages-clause-stops : goal.returns-then-pages-clause-stops
returns-then-pages-clause-stops g c = tt

pub returns-then-pages-clause-memory : goal.returns-then-pages-clause-memory
returns-then-pages-clause-memory g c = refl

pub returns-in_default-clause-loads : goal.returns-in_default-clause-loads
returns-in_default-clause-loads g c = tt

pub returns-in_default-clause-untouched : goal.returns-in_default-clause-untouched
returns-in_default-clause-untouched g c = λ not_device not_bad. (refl, refl)

pub returns-in_default-clause-length : goal.returns-in_default-clause-length
returns-in_default-clause-length g c = refl

pub returns-in_default-clause-life : goal.returns-in_default-clause-life
returns-in_default-clause-life g c = refl

pub returns-in_default-clause-unsynced : goal.returns-in_default-clause-unsynced
returns-in_default-clause-unsynced g c = refl

pub returns-in_default-clause-no_failure : goal.returns-in_default-clause-no_failure
returns-in_default-clause-no_failure g c = tt

pub returns-in_default-clause-calls : goal.returns-in_default-clause-calls
returns-in_default-clause-calls g c = tt

pub returns-in_default-clause-stops : goal.returns-in_default-clause-stops
returns-in_default-clause-stops g c = tt

pub returns-in_default-clause-memory : goal.returns-in_default-clause-memory
returns-in_default-clause-memory g c = refl

pub returns-in_err-read_area-clause-loads : goal.returns-in_err-read_area-clause-loads
returns-in_err-read_area-clause-loads g c = let p = err_from_is_err_and c.from_residual.result c.from_residual.ensures.1 in rw p.1 tt

pub returns-in_err-read_area-clause-length : goal.returns-in_err-read_area-clause-length
returns-in_err-read_area-clause-length g c = c.read_area.ensures.length

pub returns-in_err-read_area-clause-unsynced : goal.returns-in_err-read_area-clause-unsynced
returns-in_err-read_area-clause-unsynced g c = c.read_area.ensures.read.unsynced

pub returns-in_err-read_area-clause-no_failure : goal.returns-in_err-read_area-clause-no_failure
returns-in_err-read_area-clause-no_failure g c = let p = err_from_is_err_and c.from_residual.result c.from_residual.ensures.1 in rw p.1 tt

pub returns-in_err-read_area-clause-calls : goal.returns-in_err-read_area-clause-calls
returns-in_err-read_area-clause-calls g c = let p = err_from_is_err_and c.from_residual.result c.from_residual.ensures.1 in rw p.1 tt

pub returns-in_err-read_area-clause-memory : goal.returns-in_err-read_area-clause-memory
returns-in_err-read_area-clause-memory g c = refl

pub returns-clause-refused : goal.returns-clause-refused
returns-clause-refused g c = tt

pub returns-clause-untouched : goal.returns-clause-untouched
returns-clause-untouched g c = tt

pub returns-clause-length : goal.returns-clause-length
returns-clause-length g c = c.read_area.ensures.length

pub returns-clause-unsynced : goal.returns-clause-unsynced
returns-clause-unsynced g c = c.read_area.ensures.read.unsynced

pub returns-clause-no_failure : goal.returns-clause-no_failure
returns-clause-no_failure g c = let did = c.in_ok-read_area.ensures.read in (did.no_failure, did.unmoved)

pub returns-clause-calls : goal.returns-clause-calls
returns-clause-calls g c = c.in_ok-read_area.ensures.read.calls

pub returns-clause-stops : goal.returns-clause-stops
returns-clause-stops g c = tt

pub returns-clause-memory : goal.returns-clause-memory
returns-clause-memory g c = refl

pub returns-in_err-read_area-clause-stays : goal.returns-in_err-read_area-clause-stays
returns-in_err-read_area-clause-stays g c = let did = c.read_area.ensures.read in record { board = refl; length = ap (λ (d : Content). length d) did.content; none_out = did.none_out; no_fewer = did.no_fewer; opened = refl }

pub returns-clause-stays : goal.returns-clause-stays
returns-clause-stays g c = let did = c.read_area.ensures.read in record { board = refl; length = ap (λ (d : Content). length d) did.content; none_out = did.none_out; no_fewer = did.no_fewer; opened = refl }
