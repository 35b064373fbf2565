-- One call more of a suspension.
use Rattle.std.proofs.Common.{◌≡◌, ◌∙◌, inl, inr, nat_lt, if◌then◌else◌, true, false, Bool, ℕ, ◌+◌, ◌*◌, ◌≤◌, List, [], ◌∷◌, length, Ok, Err, OnOk, refl, sym, ap, subst, arith}
use Rattle.std.proofs.lemmas.Bool.{cases_eq, cases_lt, lt-ltb, ltb-true}
use Rattle.board_model.specs.Shapes.{Size, IsSize, ram_bytes_of, sectors_of, places_of, area_sectors_of}
use Rattle.disk.specs.{Calls.MakesCalls, Facts.{Facts, Content, Lent, sector, Torn, Written, Stays, Passes, Only, most}}
use Rattle.disk.specs.{FaultState.{FaultState, Cause}, Moments.{passes_none, passes_then, passes_weaker}, declared.device.Fault.Fault}
use Rattle.layout.specs.Places.{place_head_of}
use Rattle.image.proofs.Written.{lanes_of}
use Rattle.planned_store.{specs.{Commits.Answer, SaveServed.{PageWritten, IsSaveServed}}, proofs.Calls.called_ok}
use Rattle.planned_store.specs.Saves.{save_sector, save_asks, save_asks_at, SavePuts, SavePutsAt, SaveGoes, SaveGoesAt}
use Rattle.planned_store.specs.SaveReached.{WroteRange, PageStands, first_of, PagesStand, WroteArea, SaveAt, SaveReached}
use Rattle.planned_store.{specs.declared.saves.{Saving.Saving, SaveStep.SaveStep}, proofs.SavingArea.places_enough}
use Rattle.planned_store.specs.declared.saves.SaveStep.TheVariants.{WriteHead, WritePage, SyncArea, Saved, Failed}

-- ---- some sectors in a row are written by several calls
torn_none : (first n : ℕ) (c d : Content) → d ≡ c → Torn first n c d
torn_none first n c d same = subst (λ (e : Content). Torn first n c e) (sym same) (record { as_long = refl; before = λ k lt. refl; after = λ k le. refl })

torn_then : (first n : ℕ) (b c d : Content) → Torn first n b c → Torn first n c d → Torn first n b d
torn_then first n b c d one two = record {
  as_long = two.as_long ∙ one.as_long;
  before = λ k lt. two.before k lt ∙ one.before k lt;
  after = λ k le. two.after k le ∙ one.after k le;
}

torn_in : (first n at k : ℕ) (c d : Content) → first ≤ at → at + k ≤ first + n → Torn at k c d → Torn first n c d
torn_in first n at k c d from fits torn = record {
  as_long = torn.as_long;
  before = λ j lt. torn.before j (omega (arith, lt, from));
  after = λ j le. torn.after j (omega (arith, le, fits));
}

pub wrote_none : (first n : ℕ) (a : Facts) (m : FaultState) → a.lent.lanes ≡ 0 → a.calls ≤ most → WroteRange first n 0 a m (Ok tt) a m
wrote_none first n a m idle few = record {
  content = torn_none first n a.content a.content refl;
  crash = passes_weaker a a Stays (Torn first n) (passes_none a) (λ c d same. torn_none first n c d same);
  none_out = idle;
  no_failure = refl;
  unmoved = refl;
  failed = tt;
  calls = omega (arith, few);
}

module _ (first n calls : ℕ) (a : Facts) (m : FaultState) (b : Facts) (x : FaultState) (c : Facts) (y : FaultState) (step : Content → Content → Type 0)
    (within : (p q : Content) → step p q → Torn first n p q) (before : WroteRange first n calls a m (Ok tt) b x) where
  content_then : step b.content c.content → Torn first n a.content c.content
  content_then did = torn_then first n a.content b.content c.content before.content (within b.content c.content did)

  crash_then : Passes b c step → Passes a c (Torn first n)
  crash_then did = passes_then a b c (Torn first n) step before.crash did (λ p q r one two. torn_then first n p q r one (within q r two))

  wrote_more : MakesCalls {T = Unit {0}} {E = Fault} 1 step b c x y (Ok tt) → WroteRange first n (calls + 1) a m (Ok tt) c y
  wrote_more made = record {
    content = content_then made.content;
    crash = crash_then made.crash;
    none_out = ap (λ (l : Lent). l.lanes) made.lent ∙ before.none_out;
    no_failure = made.failures.ok ∙ before.no_failure;
    unmoved = made.cause.ok ∙ before.unmoved;
    failed = tt;
    calls = omega (arith, made.calls.ok, before.calls);
  }

  wrote_failed : (few : ℕ) (e : Fault) → MakesCalls {T = Unit {0}} {E = Fault} 1 step b c x y (Err e) → WroteRange first n few a m (Err tt) c y
  wrote_failed few e made = record {
    content = content_then made.content;
    crash = crash_then made.crash;
    none_out = ap (λ (l : Lent). l.lanes) made.lent ∙ before.none_out;
    no_failure = tt;
    unmoved = tt;
    failed = (omega (arith, made.failures.err, before.no_failure), subst (λ (w : FaultState). Cause w y) before.unmoved made.cause.err);
    calls = tt;
  }

-- a page that stands stays where sectors after it are written
page_still : (at k page serial : ℕ) (memory : List ℕ) (first : ℕ) (c d : Content) → at + 9 ≤ first → Torn first k c d → PageStands at page serial memory c → PageStands at page serial memory d
page_still at k page serial memory first c d fits torn stands =
    (torn.before at (omega (arith, fits)) ∙ stands.0, λ j lt. torn.before (at + 1 + j) (omega (arith, fits, lt)) ∙ stands.1 j lt)

pub begins : {D : Type 0} (f : D → Facts) (m : D → FaultState) (s : Saving) (a : D) (memory : List ℕ) → IsSize s.from.shape → sectors_of s.from.shape ≤ length (f a).content → length memory ≡ ram_bytes_of s.from.shape
    → (f a).lent.lanes ≡ 0 → (f a).calls ≤ most → s.page ≡ 0 → s.step ≡ WriteHead → SaveReached f m s a a memory
begins f m s a memory board enough long idle few page step = record {
  board = board;
  page = omega (arith, page, board);
  enough = enough;
  long = long;
  at = subst (λ (t : SaveStep). SaveAt f m t s a a memory) (sym step) (
    subst (λ (n : ℕ). WroteArea f m n s a (Ok tt) a) (omega (arith, page)) (wrote_none (first_of f m s) (area_sectors_of s.from.shape) (f a) (m a) idle few),
    λ p lt. absurd (omega (arith, lt, page)),
  );
}

module _ {D : Type 0} (f : D → Facts) (m : D → FaultState) (a b c : D) (s : Saving) (r : Answer) (bytes memory : List ℕ) (reached : SaveReached f m s a b memory) where
  abbrev size : Size
  size = s.from.shape

  abbrev first : ℕ
  first = first_of f m s

  abbrev many : ℕ
  many = area_sectors_of size

  abbrev serial : ℕ
  serial = s.from.live.next

  abbrev Then : Saving → Type 0
  Then t = SaveReached f m t a c memory

  fits : 9 * s.page + 9 ≤ many
  fits = omega (arith, reached.page, places_enough size (omega (arith, reached.board)), lanes_of size, nine size.lanes (places_of size))
    where
      nine : (l k : ℕ) → l * (9 * k) ≡ 9 * (l * k)
      nine l k = omega arith

  with_step : (step : SaveStep) → SaveAt f m step (record s { step = step }) a c memory → Then (record s { step = step })
  with_step step at = record { board = reached.board; page = reached.page; enough = reached.enough; long = reached.long; at = at }

  still : (n k at : ℕ) → n ≤ s.page → first + 9 * n ≤ at → Torn at k (f b).content (f c).content → PagesStand f m n s memory b → PagesStand f m n s memory c
  still n k at le from torn stand p lt = page_still (first + 9 * p) k p serial memory at (f b).content (f c).content (omega (arith, lt, from)) torn (stand p lt)

  all_same : (n : ℕ) → (f c).content ≡ (f b).content → PagesStand f m n s memory b → PagesStand f m n s memory c
  all_same n same stand p lt = subst (λ (d : Content). PageStands (first + 9 * p) p serial memory d) (sym same) (stand p lt)

  head_in : (p q : Content) → Torn (save_sector s) 1 p q → Torn first many p q
  head_in p q torn = torn_in first many (save_sector s) 1 p q (omega arith) (omega (arith, fits)) torn

  page_in : (p q : Content) → Torn (save_sector s + 1) 8 p q → Torn first many p q
  page_in p q torn = torn_in first many (save_sector s + 1) 8 p q (omega arith) (omega (arith, fits)) torn

  stays_in : (p q : Content) → Stays p q → Torn first many p q
  stays_in p q same = torn_none first many p q same

  -- ---- a header was written
  on_head : (t : Saving) (q : Answer) → SaveAt f m WriteHead s a b memory → bytes ≡ place_head_of (record { page = s.page; serial = serial })
      → MakesCalls 1 (Torn (save_sector s) 1) (f b) (f c) (m b) (m c) q → OnOk q (Written (save_sector s) (bytes ∷ []) (f b).content (f c).content) → SaveGoesAt WriteHead s q t → Then t
  on_head t (Ok v) at puts made written goes =
      subst Then (sym goes)
      (with_step WritePage (
        wrote_more first many (2 * s.page) (f a) (m a) (f b) (m b) (f c) (m c) (Torn (save_sector s) 1) head_in at.0 (called_ok 1 (Torn (save_sector s) 1) (f b) (f c) (m b) (m c) v tt made),
        still s.page 1 (save_sector s) (omega arith) (omega arith) made.content at.1,
        ap (λ (k : ℕ). sector (f c).content k) (none (save_sector s)) ∙ written.there 0 (omega arith) ∙ puts,
      ))
    where
      none : (k : ℕ) → k ≡ k + 0
      none k = omega arith
  on_head t (Err e) at puts made written goes =
      subst Then (sym goes) (with_step Failed (wrote_failed first many (2 * s.page) (f a) (m a) (f b) (m b) (f c) (m c) (Torn (save_sector s) 1) head_in at.0 (2 * size.pages + 1) e made))

  -- ---- a page was written
  module _ (at : SaveAt f m WritePage s a b memory) (made : MakesCalls {T = Unit {0}} {E = Fault} 1 (Torn (save_sector s + 1) 8) (f b) (f c) (m b) (m c) (Ok tt)) (written : PageWritten (save_sector s + 1) s.page memory (f c).content) where
    wrote : WroteArea f m (2 * s.page + 1 + 1) s a (Ok tt) c
    wrote = wrote_more first many (2 * s.page + 1) (f a) (m a) (f b) (m b) (f c) (m c) (Torn (save_sector s + 1) 8) page_in at.0 made

    before_it : PagesStand f m s.page s memory c
    before_it = still s.page 8 (save_sector s + 1) (omega arith) (omega arith) made.content at.1

    this_one : PageStands (first + 9 * s.page) s.page serial memory (f c).content
    this_one = (made.content.before (save_sector s) (omega arith) ∙ at.2, written)

    one_more : (n : ℕ) → n ≡ s.page + 1 → PagesStand f m n s memory c
    one_more n is p lt = elim (cases_eq p s.page) [
      | inl same ↦ subst (λ (k : ℕ). PageStands (first + 9 * k) k serial memory (f c).content) (sym same) this_one
      | inr not ↦ before_it p (omega (arith, lt, is, not))
    ]

    page_then : (more : Bool) → nat_lt (s.page + 1) size.pages ≡ more → Then (if more then record s { page = s.page + 1; step = WriteHead } else record s { step = SyncArea })
    page_then true test = record {
      board = reached.board;
      page = ltb-true (s.page + 1) size.pages test;
      enough = reached.enough;
      long = reached.long;
      at = (subst (λ (n : ℕ). WroteArea f m n s a (Ok tt) c) (omega arith) wrote, one_more (s.page + 1) refl);
    }
    page_then false test =
        let last : size.pages ≡ s.page + 1 = omega (arith, reached.page, ltb_false (s.page + 1) size.pages test) in
        with_step SyncArea (subst (λ (n : ℕ). WroteArea f m n s a (Ok tt) c) (omega (arith, last)) wrote, one_more size.pages last)
      where
        clash : (b : Bool) → b ≡ true → b ≡ false → ⊥
        clash b is not = cc

        ltb_false : (x y : ℕ) → nat_lt x y ≡ false → y ≤ x
        ltb_false x y isnt = elim (cases_lt x y) [
          | inl lt ↦ absurd (clash (nat_lt x y) (lt-ltb x y lt) isnt)
          | inr past ↦ past
        ]

  on_page : (t : Saving) (q : Answer) → SaveAt f m WritePage s a b memory → MakesCalls 1 (Torn (save_sector s + 1) 8) (f b) (f c) (m b) (m c) q
      → OnOk q (PageWritten (save_sector s + 1) s.page memory (f c).content) → SaveGoesAt WritePage s q t → Then t
  on_page t (Ok v) at made written goes = subst Then (sym goes) (page_then at (called_ok 1 (Torn (save_sector s + 1) 8) (f b) (f c) (m b) (m c) v tt made) written (nat_lt (s.page + 1) size.pages) refl)
  on_page t (Err e) at made written goes =
      subst Then (sym goes) (with_step Failed (wrote_failed first many (2 * s.page + 1) (f a) (m a) (f b) (m b) (f c) (m c) (Torn (save_sector s + 1) 8) page_in at.0 (2 * size.pages + 1) e made))

  -- ---- the area was synced
  on_sync : (t : Saving) (q : Answer) → SaveAt f m SyncArea s a b memory → MakesCalls 1 Stays (f b) (f c) (m b) (m c) q → OnOk q (Only (f c).content (f c).may_leave) → SaveGoesAt SyncArea s q t → Then t
  on_sync t (Ok v) at made only goes =
      subst Then (sym goes)
      (with_step Saved (wrote_more first many (2 * size.pages) (f a) (m a) (f b) (m b) (f c) (m c) Stays stays_in at.0 (called_ok 1 Stays (f b) (f c) (m b) (m c) v tt made), all_same size.pages made.content at.1, only))
  on_sync t (Err e) at made only goes =
      subst Then (sym goes) (with_step Failed (wrote_failed first many (2 * size.pages) (f a) (m a) (f b) (m b) (f c) (m c) Stays stays_in at.0 (2 * size.pages + 1) e made))

  goes_at : (step : SaveStep) (t : Saving) → SaveAt f m step s a b memory → SavePutsAt step s bytes → IsSaveServed (save_asks_at step s) bytes memory (f b) (f c) (m b) (m c) r → SaveGoesAt step s r t → Then t
  goes_at WriteHead t at puts served went = on_head t r at puts served.0 served.1 went
  goes_at WritePage t at puts served went = on_page t r at served.0 served.1 went
  goes_at SyncArea t at puts served went = on_sync t r at served.0 served.1 went
  goes_at Saved t at puts served went = absurd served
  goes_at Failed t at puts served went = absurd served

  pub goes_on : (t : Saving) → SavePuts s bytes → IsSaveServed (save_asks s) bytes memory (f b) (f c) (m b) (m c) r → SaveGoes s r t → Then t
  goes_on t puts served went = goes_at s.step t reached.at puts served went
