-- One call more of a load.
use Rattle.std.proofs.Common.{◌≡◌, ◌∙◌, inl, inr, ⊎_elim, nat_lt, if◌then◌else◌, true, false, Bool, zero, suc, ℕ, ◌+◌, ◌*◌, ◌<◌, ◌≤◌, ◌^◌, List, [], ◌∷◌, ◌++◌, length, slice_index, get_or, replicate, set, take, drop, Ok, Err, OnOk, refl, sym, ap, subst, arith, length-take}
use Rattle.std.{proofs.lemmas.Bool.{cases_Bool, cases_eq, cases_lt, lt-ltb, ltb-true}, specs.List.flat_map}
use Rattle.std.proofs.lemmas.List.{ext_get_or, get_or_past, get_or-map, get_or-take, get_or-set_same, get_or-set_other, get_or-replicate, length-map, length-set, length-replicate, take_all, take_more}
use Rattle.board_model.specs.Shapes.{Size, IsSize, ram_bytes_of, sectors_of, area_sectors_of}
use Rattle.board_model.specs.declared.refusal.Refusal.TheVariants.{BadImage, Device}
use Rattle.disk.specs.{Calls.MakesCalls, Facts.{Facts, Content, sector, Stays, most}, FaultState.FaultState, declared.device.Fault.Fault}
use Rattle.disk.specs.Moments.{called_then, called_fewer}
use Rattle.layout.{specs.{Places.IsPlaceHead, Records.AreCounts, Sizes.area_start}, proofs.{SpelledPlaces.{page_in as page_of_head}}}
use Rattle.image.specs.{Images.{area_of, page_of, is_head, is_whole}, Reading.{came, IsTaken}, Refusals.HasRead}
use Rattle.image.proofs.Heads.{area_sector, behind_is, head_from, head_true}
use Rattle.image.proofs.ReadingOn.{reads_none, reads_place, reads_failed, reads_spoilt, reads_more}
use Rattle.image.proofs.Taking.{no_head, came_twice, taken_more, taken_none, taken_all, not_whole}
use Rattle.planned_store.{specs.{Commits.Answer, LoadServed.{PageFilled, IsLoadServed}}, proofs.Calls.called_ok}
use Rattle.planned_store.specs.Loads.{flags, all_places, place_now, place_sector, load_asks, load_asks_at, HeadGoes, LoadGoes, LoadGoesAt, page_taken}
use Rattle.planned_store.specs.{LoadReached.{area_here, ReadSo, HeadSo, LoadAt, LoadReached}, declared.loads.Loading.Loading}
use Rattle.planned_store.specs.declared.loads.LoadStep.{LoadStep, TheVariants.{ReadHead, ReadPage, Loaded, Spoilt, Failed}}
use Rattle.planned_store.proofs.Counting.{length-places_in, list_at, place_there}

-- ---- the bytes of pages, and which of them came
abbrev is_set : ℕ → Bool
is_set b = nat_lt 0 b

length-flags : (bytes : List ℕ) → length bytes ≡ 512 → length (flags bytes) ≡ 256
length-flags bytes long = length-map (take 256 bytes) is_set ∙ length-take 256 bytes ∙ omega (arith, long)

flag_at : (bytes : List ℕ) (k : ℕ) → length bytes ≡ 512 → k < 256 → came (flags bytes) k ≡ is_set (slice_index bytes k)
flag_at bytes k long lt =
    let short = length-take 256 bytes in
    get_or-map is_set (take 256 bytes) k 0 false (omega (arith, short, long, lt)) ∙ ap is_set (get_or-take 256 bytes k 0 lt)

flags_set : (bytes : List ℕ) (page : ℕ) → length bytes ≡ 512 → page < 256 → flags (set bytes page 1) ≡ set (flags bytes) page true
flags_set bytes page long lt =
    let long_then = length-set bytes page 1 ∙ long in
    let few = length-flags (set bytes page 1) long_then in
    let before = length-flags bytes long in
    ext_get_or false (flags (set bytes page 1)) (set (flags bytes) page true) (few ∙ sym (length-set (flags bytes) page true ∙ before))
    (λ i less.
    let small : i < 256 = omega (arith, less, few) in
    flag_at (set bytes page 1) i long_then small
    ∙ elim (cases_eq i page) [
      | inl at ↦
          ap (λ (j : ℕ). is_set (slice_index (set bytes page 1) j)) at
          ∙ ap is_set (get_or-set_same bytes page 1 0 (omega (arith, long, lt)))
          ∙ sym (ap (λ (j : ℕ). get_or (set (flags bytes) page true) j false) at ∙ get_or-set_same (flags bytes) page true false (omega (arith, before, lt)))
      | inr not ↦
          ap is_set (get_or-set_other bytes page i 1 0 not)
          ∙ sym (flag_at bytes i long small)
          ∙ sym (get_or-set_other (flags bytes) page i true false not)
    ])

none_flagged : (k : ℕ) → came (flags (replicate 512 0)) k ≡ false
none_flagged k = elim (cases_lt k 256) [
  | inl lt ↦ flag_at (replicate 512 0) k (length-replicate {A = ℕ} 512 0) lt ∙ ap is_set (get_or-replicate 512 k 0 0 (omega (arith, lt)))
  | inr past ↦ get_or_past (flags (replicate 512 0)) k false (let long = length-flags (replicate 512 0) (length-replicate {A = ℕ} 512 0) in omega (arith, long, past))
]

unset : (bytes : List ℕ) (k : ℕ) → length bytes ≡ 512 → k < 256 → slice_index bytes k ≡ 0 → came (flags bytes) k ≡ false
unset bytes k long lt none = flag_at bytes k long lt ∙ ap is_set none

not_unset : (bytes : List ℕ) (k : ℕ) → length bytes ≡ 512 → k < 256 → (slice_index bytes k ≡ 0 → ⊥) → came (flags bytes) k ≡ true
not_unset bytes k long lt some = flag_at bytes k long lt ∙ lt-ltb 0 (slice_index bytes k) (positive (slice_index bytes k) some)
  where
    positive : (n : ℕ) → (n ≡ 0 → ⊥) → 0 < n
    positive zero some = absurd (some refl)
    positive (suc n) some = omega arith

pub ends_within : (area n k : ℕ) → area < 2 → 8 + 2 * n ≤ k → 8 + area * n + n ≤ k
ends_within zero n k lt le = omega arith
ends_within (suc zero) n k lt le = omega arith
ends_within (suc (suc area)) n k lt le = absurd (omega (arith, lt))

-- ---- before the first call
pub begins : {D : Type 0} (f : D → Facts) (m : D → FaultState) (p : Loading) (a : D) (memory : List ℕ) → IsSize p.shape → AreCounts p.shape p.saved.counts → p.saved.head.serial < 2 ^ 64 → p.saved.area < 2
    → sectors_of p.shape ≤ length (f a).content → length memory ≡ ram_bytes_of p.shape → (f a).lent.lanes ≡ 0 → (f a).calls ≤ most
    → p ≡ record { shape = p.shape; saved = p.saved; done = 0; came = replicate 512 0; step = ReadHead } → LoadReached f m p a a memory
begins f m p a memory board counts wide area enough long idle few is =
    subst (λ (q : Loading). LoadReached f m q a a memory) (sym is) (record {
      board = board;
      counts = counts;
      wide = wide;
      area = area;
      enough = enough;
      came = length-replicate {A = ℕ} 512 0;
      long = long;
      at = record {
        more = omega (arith, board);
        taken = taken_none p.shape p.saved.head.serial (area_of p.shape p.saved.area (f a).content) (flags (replicate 512 0)) memory (length-flags (replicate 512 0) (length-replicate {A = ℕ} 512 0)) none_flagged long;
        read = reads_none (f a) (m a) idle few;
      };
    })

module _ {D : Type 0} (f : D → Facts) (m : D → FaultState) (bounded : (d : D) → (f d).failures ≤ most) (a b c : D) (p : Loading) (r : Answer) (got old new : List ℕ)
    (reached : LoadReached f m p a b old) where
  abbrev here : Content
  here = area_here f m p a

  abbrev size : Size
  size = p.shape

  abbrev serial : ℕ
  serial = p.saved.head.serial

  abbrev stepped : LoadStep → Loading
  stepped step = record p { step = step }

  abbrev Then : Loading → Type 0
  Then q = LoadReached f m q a c new

  area_end : area_start size p.saved.area + area_sectors_of size ≤ length (f a).content
  area_end = ends_within p.saved.area (area_sectors_of size) (length (f a).content) reached.area reached.enough

  few_pages : size.pages ≤ 256
  few_pages = omega (arith, reached.board)

  longer : p.done < size.pages → p.done < length (all_places p)
  longer lt = let long = length-places_in size 0 p.saved.counts in omega (arith, long, reached.counts.all, lt)

  place_fits : p.done < size.pages → place_now p + 9 ≤ area_sectors_of size
  place_fits lt = place_there size p.saved.counts p.done reached.counts lt

  -- what was read of a disk whose content is as it was
  read_there : (x : D) → (f x).content ≡ (f a).content → p.done < size.pages → sector (f x).content (place_sector p) ≡ sector here (place_now p)
  read_there x same lt =
      let fits = place_fits lt in
      ap (λ (d : Content). sector d (place_sector p)) same ∙ sym (area_sector size p.saved.area (f a).content (place_now p) (omega (arith, fits)))

  long_still : new ≡ old → length new ≡ ram_bytes_of size
  long_still same = ap (λ (xs : List ℕ). length xs) same ∙ reached.long

  with_step : (step : LoadStep) → LoadAt f m step (stepped step) a c new → length new ≡ ram_bytes_of size → Then (stepped step)
  with_step step at long = record { board = reached.board; counts = reached.counts; wide = reached.wide; area = reached.area; enough = reached.enough; came = reached.came; long = long; at = at }

  -- ---- a header was read
  module _ (at : ReadSo f m p a b old) (same_memory : new ≡ old) (still : (f c).moment ≡ (f b).moment) where
    idle : (f b).lent.lanes ≡ 0
    idle = at.read.none_out

    failed_head : (e : Fault) → MakesCalls {T = Unit {0}} {E = Fault} 1 Stays (f b) (f c) (m b) (m c) (Err e) → Then (stepped Failed)
    failed_head e made =
        with_step Failed
        (reads_more p.done 1 size.pages (f a) (m a) (f b) (m b) (Err Device) (f c) (m c) at.read
        (reads_failed e (f b) (m b) (f c) (m c) (bounded b) idle (called_fewer {U = Unit {0}} 1 2 Stays (f b) (f c) (m b) (m c) e e (omega arith) made) still)
        (omega (arith, at.more)) tt)
        (long_still same_memory)

    module _ (made : MakesCalls {T = Unit {0}} {E = Fault} 1 Stays (f b) (f c) (m b) (m c) (Ok tt)) (found : got ≡ sector (f b).content (place_sector p)) where
      got_is : got ≡ sector here (place_now p)
      got_is = found ∙ read_there b at.read.content at.more

      spoils : ((page : ℕ) → IsPlaceHead size (record { page = page; serial = serial }) got → slice_index p.came page ≡ 0 → ⊥) → is_whole size serial here (all_places p) ≡ false
      spoils none =
          let s = sector here (place_now p) in
          let split = list_at (all_places p) p.done (longer at.more) in
          ap (is_whole size serial here) split
          ∙ ⊎_elim
          (λ yes.
          let head = head_true size serial s few_pages reached.wide yes in
          let below : page_of s < size.pages = head.0 in
          came_twice size serial here (take p.done (all_places p)) (flags p.came) old (place_now p) (page_of s) (drop (p.done + 1) (all_places p)) at.taken refl below
          (not_unset p.came (page_of s) reached.came (omega (arith, below, few_pages)) (none (page_of s) (subst (IsPlaceHead size (record { page = page_of s; serial = serial })) (sym got_is) head))))
          (λ bad. no_head size serial here (take p.done (all_places p)) (place_now p) (drop (p.done + 1) (all_places p)) bad)
          (cases_Bool (is_head size serial s))

      head_read : (step : LoadStep) → HeadGoes size serial p.came got step → Then (stepped step)
      head_read (ReadPage page) goes =
          with_step (ReadPage page)
          (record {
            mid = b;
            before = record { more = at.more; taken = subst (λ (xs : List ℕ). IsTaken size serial here (take p.done (all_places p)) (flags p.came) xs) (sym same_memory) at.taken; read = at.read };
            head = subst (IsPlaceHead size (record { page = page; serial = serial })) got_is goes.0;
            fresh = goes.1;
            called = made;
            still = still;
          })
          (long_still same_memory)
      head_read Spoilt goes =
          with_step Spoilt (
            reads_more p.done 1 size.pages (f a) (m a) (f b) (m b) (Err BadImage) (f c) (m c) at.read (reads_spoilt tt (f b) (m b) (f c) (m c) idle made still) (omega (arith, at.more)) tt,
            not_whole size serial p.saved.counts here (spoils goes),
          )
          (long_still same_memory)
      head_read ReadHead goes = absurd goes
      head_read Loaded goes = absurd goes
      head_read Failed goes = absurd goes

  -- ---- a page was read
  module _ (page : ℕ) (at : HeadSo f m p page a b old) (as_long : length new ≡ length old) (still : (f c).moment ≡ (f b).moment) where
    still_all : (f c).moment ≡ (f at.mid).moment
    still_all = still ∙ at.still

    idle_mid : (f at.mid).lent.lanes ≡ 0
    idle_mid = at.before.read.none_out

    both : (s : Answer) → MakesCalls {T = Unit {0}} {E = Fault} 1 Stays (f b) (f c) (m b) (m c) s → MakesCalls {T = Unit {0}} {E = Fault} 2 Stays (f at.mid) (f c) (m at.mid) (m c) s
    both s made = called_then 1 1 Stays (f at.mid) (f b) (f c) (m at.mid) (m b) (m c) tt s (λ p q s one two. two ∙ one) at.called made

    failed_page : (e : Fault) → MakesCalls {T = Unit {0}} {E = Fault} 1 Stays (f b) (f c) (m b) (m c) (Err e) → Then (stepped Failed)
    failed_page e made =
        with_step Failed
        (reads_more p.done 1 size.pages (f a) (m a) (f at.mid) (m at.mid) (Err Device) (f c) (m c) at.before.read
        (reads_failed e (f at.mid) (m at.mid) (f c) (m c) (bounded at.mid) idle_mid (both (Err e) made) still_all)
        (omega (arith, at.before.more)) tt)
        (as_long ∙ reached.long)

    module _ (made : MakesCalls {T = Unit {0}} {E = Fault} 1 Stays (f b) (f c) (m b) (m c) (Ok tt)) (filled : PageFilled (place_sector p + 1) page (f b).content old new) where
      read_more : HasRead (p.done + 1) (f a) (m a) (f c) (m c)
      read_more =
          reads_more p.done 1 (p.done + 1) (f a) (m a) (f at.mid) (m at.mid) (Ok tt) (f c) (m c) at.before.read
          (reads_place tt tt (f at.mid) (m at.mid) (f c) (m c) idle_mid (both (Ok tt) made) still_all) (omega arith) refl

      below : page < size.pages
      below = at.head.0

      small : page < 256
      small = omega (arith, below, few_pages)

      same_content : (f b).content ≡ (f a).content
      same_content = at.called.content ∙ at.before.read.content

      taken_then : IsTaken size serial here (take (p.done + 1) (all_places p)) (flags (set p.came page 1)) new
      taken_then =
          let s = sector here (place_now p) in
          let one = taken_more size serial here (take p.done (all_places p)) (flags p.came) old (flat_map (λ bytes. bytes) filled.sectors) (place_now p) page at.before.taken
          (head_from size (record { page = page; serial = serial }) serial s at.head refl) (page_of_head size (record { page = page; serial = serial }) s at.head) below few_pages
          (unset p.came page reached.came small at.fresh)
          (behind_is size p.saved.area (f a).content filled.sectors (place_now p) area_end (place_fits at.before.more) filled.eight
          (λ i lt. filled.found i lt ∙ ap (λ (d : Content). sector d (place_sector p + 1 + i)) same_content))
          filled.whole in
          subst (λ (places : List ℕ). IsTaken size serial here places (flags (set p.came page 1)) new) (sym (take_more (all_places p) p.done 0 (longer at.before.more)))
          (subst (λ (seen : List Bool). IsTaken size serial here (take p.done (all_places p) ++ place_now p ∷ []) seen new) (sym (flags_set p.came page reached.came small))
          (subst (IsTaken size serial here (take p.done (all_places p) ++ place_now p ∷ []) (set (flags p.came) page true)) (sym filled.new_is) one))

      taken_so : (more : Bool) → nat_lt (p.done + 1) size.pages ≡ more
          → LoadAt f m (if more then ReadHead else Loaded) (page_taken page p) a c new
      taken_so true test = record { more = ltb-true (p.done + 1) size.pages test; taken = taken_then; read = read_more }
      taken_so false test =
          let last : p.done + 1 ≡ size.pages = omega (arith, at.before.more, ltb_false (p.done + 1) size.pages test) in
          let long = length-places_in size 0 p.saved.counts in
          let whole : take (p.done + 1) (all_places p) ≡ all_places p = take_all (p.done + 1) (all_places p) (omega (arith, long, reached.counts.all, last)) in (
            subst (λ (n : ℕ). HasRead n (f a) (m a) (f c) (m c)) last read_more,
            taken_all size serial p.saved.counts here (flags (set p.came page 1)) new reached.counts (subst (λ (places : List ℕ). IsTaken size serial here places (flags (set p.came page 1)) new) whole taken_then),
          )
        where
          clash : (b : Bool) → b ≡ true → b ≡ false → ⊥
          clash b is not = cc

          ltb_false : (x y : ℕ) → nat_lt x y ≡ false → y ≤ x
          ltb_false x y isnt = elim (cases_lt x y) [
            | inl lt ↦ absurd (clash (nat_lt x y) (lt-ltb x y lt) isnt)
            | inr past ↦ past
          ]

      page_read : Then (page_taken page p)
      page_read = record {
        board = reached.board;
        counts = reached.counts;
        wide = reached.wide;
        area = reached.area;
        enough = reached.enough;
        came = length-set p.came page 1 ∙ reached.came;
        long = as_long ∙ reached.long;
        at = taken_so (nat_lt (p.done + 1) size.pages) refl;
      }

  goes_at : (step : LoadStep) (q : Loading) → LoadAt f m step p a b old → IsLoadServed (load_asks_at step p) (f b) (f c) (m b) (m c) r got old new → LoadGoesAt step p r got q → Then q
  goes_at ReadHead q at served went = on_head r served.0 served.2 went
    where
      on_head : (s : Answer) → MakesCalls 1 Stays (f b) (f c) (m b) (m c) s → OnOk s (got ≡ sector (f b).content (place_sector p)) → LoadGoesAt ReadHead p s got q → Then q
      on_head (Ok v) made found goes = subst Then (sym goes.1) (head_read at served.3 served.1 (called_ok 1 Stays (f b) (f c) (m b) (m c) v tt made) found q.step goes.0)
      on_head (Err e) made found goes = subst Then (sym goes) (failed_head at served.3 served.1 e made)
  goes_at (ReadPage page) q at served went = on_page r served.0 served.2 went
    where
      on_page : (s : Answer) → MakesCalls 1 Stays (f b) (f c) (m b) (m c) s → OnOk s (PageFilled (place_sector p + 1) page (f b).content old new) → LoadGoesAt (ReadPage page) p s got q → Then q
      on_page (Ok v) made filled goes = subst Then (sym goes) (page_read page at served.3 served.1 (called_ok 1 Stays (f b) (f c) (m b) (m c) v tt made) filled)
      on_page (Err e) made filled goes = subst Then (sym goes) (failed_page page at served.3 served.1 e made)
  goes_at Loaded q at served went = absurd served
  goes_at Spoilt q at served went = absurd served
  goes_at Failed q at served went = absurd served

  pub goes_on : (q : Loading) → IsLoadServed (load_asks p) (f b) (f c) (m b) (m c) r got old new → LoadGoes p r got q → Then q
  goes_on q served went = goes_at p.step q reached.at served went
