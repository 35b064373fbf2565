-- A machine as it is made.
use Rattle.std.proofs.Common.{◌≡◌, ◌↔◌, ℕ, zero, suc, ◌-◌, ◌<◌, Bool, false, List, [], ◌∷◌, Some, None, refl, sym, ap, ◌∙◌, subst, inl, inr, arith, IsTrue, if◌then◌else◌, eq-eqb, ne_eqb}
use Rattle.std.{specs.Prelude.{length, get_or, replicate, ◌==◌}, proofs.lemmas.Grind.get_or-set_at}
use Rattle.std.proofs.lemmas.List.{length-set, get_or-set_other, length-replicate, length-append, get_or-replicate, get_or_past, get_or_append_left, get_or-append_right}
use mathlib.Core.Logic.{dite}
use native.Mathlib.Decide.{ℕ_discrete, dec_le}
use Rattle.board_model.specs.Shapes.{Size, ram_bytes_of}
use Rattle.hart.specs.State.{ArchState, never_started}
use Rattle.hsm.specs.{declared.view.Stage.{Stage, TheVariants.{Out, Running}}, Words.HartSeatView, Rule.stands, Outcomes.{opening_states, opening_view}, Seating.started_in}
use Rattle.hsm.specs.{States.{HartState, stopped, started, Shows, IsIn}, Views.{listed, AreStates}}
use Rattle.ipi.specs.{Ledger.{PendingSeatView as Pairs, opening_pending_view}, Views.{pair_at, ArePairs}}
use Rattle.ipi.specs.Pairs as shown
use Rattle.sbi_calls.specs.declared.tables.{Tables.Tables, Seats.Seats}
use Rattle.sbi_calls.specs.Both.{TableState, AreTablesOf, AreSeatsOfBoth, AreOfAll, IsTable, views, harts_known, pair_crew}
use Rattle.turns.specs.Turns.{Rests}
use Rattle.machine.specs.Machine.{Machine, stopped_harts, only_first, none_pending, resting}
use Rattle.machine.{specs.Held.{AreUntouched, shown_by, AreWhole, IsHeld, AreNumbered}, proofs.Holding.{IsOneList, IsOneSet, one_shown}}

pub long : (n : ℕ) → length (stopped_harts n) ≡ n
long zero = refl
long (suc n) = length-append (stopped_harts n) (never_started n ∷ []) ∙ (let e = long n in omega arith)

stopped_at : (n h : ℕ) (d : ArchState) → h < n → get_or (stopped_harts n) h d ≡ never_started h
stopped_at zero h d lt = absurd (omega (arith, lt))
stopped_at (suc n) h d lt = elim (dec_le (suc h) n) [
  | yes l ↦ get_or_append_left (stopped_harts n) (never_started n ∷ []) d h (let e = long n in omega arith) ∙ stopped_at n h d l
  | no f ↦ (let e : h ≡ n = omega (arith, lt, f) in
      get_or-append_right (stopped_harts n) (never_started n ∷ []) n h d (long n) (omega (arith, e))
      ∙ (let z : h - n ≡ 0 = omega (arith, e) in ap (λ (k : ℕ). get_or (never_started n ∷ []) k d) z ∙ ap never_started (sym e)))
]

pub stopped_numbered : (n : ℕ) → AreNumbered (stopped_harts n)
stopped_numbered n h below = ap (λ (s : ArchState). s.id) (stopped_at n h (never_started h) (subst (λ (k : ℕ). h < k) (long n) below))

-- ---- the states
opening_listed : (n first k : ℕ) → first < n → k < n → listed (only_first n first) k ≡ opening_states first k
opening_listed n first k low lt =
    dite (ℕ_discrete k first)
    (λ hit. let e : opening_states first k ≡ started = rw (eq-eqb k first hit) refl in
    get_or-set_at (replicate n stopped) first k started stopped hit (let l = length-replicate n stopped in omega arith) ∙ sym e)
    (λ miss. let e : opening_states first k ≡ stopped = rw (ne_eqb k first miss) refl in
    get_or-set_other (replicate n stopped) first k started stopped miss ∙ (get_or-replicate n k stopped stopped lt ∙ sym e))

pub opening_shown : (n first : ℕ) (c : HartSeatView) → first < n → Shows n c (opening_states first) → AreStates n c (only_first n first)
opening_shown n first c low shown = (
  length-set (replicate n stopped) first started ∙ length-replicate n stopped,
  (λ k lt. subst (λ (x : HartState). IsIn c k x) (sym (opening_listed n first k low lt)) (shown k lt)),
)

-- ---- the pairs
none_at : (n sender target : ℕ) → pair_at (none_pending n) sender target ≡ false
none_at n sender target = elim (dec_le (suc target) n) [
  | yes below ↦ rw (get_or-replicate n target (replicate n false) [] below) (elim (dec_le (suc sender) n) [ yes within ↦ get_or-replicate n sender false false within | no past ↦ get_or_past (replicate n false) sender false (let l = length-replicate n false in omega (arith, past)) ])
  | no past ↦ ap (λ (row : List Bool). get_or row sender false) (get_or_past (replicate n (replicate n false)) target [] (let l = length-replicate n (replicate n false) in omega (arith, past)))
]

pub none_shown : (n : ℕ) (c : Pairs) → shown.Shows n c (λ _ _. false) → ArePairs n c (none_pending n)
none_shown n c shows = (
  (length-replicate n (replicate n false), (λ target lt. ap (λ (row : List Bool). length row) (get_or-replicate n target (replicate n false) [] lt) ∙ length-replicate n false)),
  (shows.0, (λ sender target. subst (λ (b : Bool). IsTrue b ↔ shown.IsPending c sender target) (sym (none_at n sender target)) (shows.1 sender target))),
)

-- ---- the whole
rests_at_first : (first h : ℕ) (s : Seats) → stands h (if h == first then Running else Out) (views s) → shown.Sits h (pair_crew s) → Rests h s
rests_at_first first h s stood sits =
    dite (ℕ_discrete h first)
    (λ hit. let e : ◌≡◌ {A = Stage} (if h == first then Running else Out) Running = rw (eq-eqb h first hit) refl in (inr (inl (subst (λ (st : Stage). stands h st (views s)) e stood)), sits))
    (λ miss. let e : ◌≡◌ {A = Stage} (if h == first then Running else Out) Out = rw (ne_eqb h first miss) refl in (inl (subst (λ (st : Stage). stands h st (views s)) e stood), sits))

-- what the two tables and their seats are, just made
pub record AreMade (size : Size) (t : Tables) (s : Seats) (first : ℕ) : Type 0 where
  pub tables : AreTablesOf size t
  pub seats : AreSeatsOfBoth t s
  pub all : AreOfAll t s
  pub states : Shows size.harts (harts_known s) (opening_states first)
  pub stood : (h : ℕ) → h < size.harts → stands h (if h == first then Running else Out) (views s)
  pub pairs : shown.Shows size.harts (pair_crew s) (λ _ _. false)
  pub sits : (h : ℕ) → h < size.harts → shown.Sits h (pair_crew s)
  pub with_first : started_in t.harts ≡ first
  pub no_start : harts_known s ≡ opening_view size.harts first
  pub no_raise : pair_crew s ≡ opening_pending_view size.harts

abbrev pub opening_table : ℕ → ℕ → TableState
opening_table harts first = record { states = only_first harts first; pairs = none_pending harts }

module _ (size : Size) (t : Tables) (s : Seats) (first : ℕ) (one : IsOneList) (set : IsOneSet) (low : first < size.harts) (made : AreMade size t s first) where
  are : IsTable size.harts s (opening_table size.harts first)
  are = (opening_shown size.harts first (harts_known s) low made.states, none_shown size.harts (pair_crew s) made.pairs)

  shows_it : shown_by size.harts s ≡ opening_table size.harts first
  shows_it = one_shown one set size.harts s (opening_table size.harts first) are

  opening_whole : AreWhole size.harts t s None
  opening_whole = record {
    seats = made.seats;
    all = made.all;
    shows = subst (λ (l : TableState). IsTable size.harts s l) (sym shows_it) are;
    rests = λ h lt. rests_at_first first h s (made.stood h lt) (made.sits h lt);
  }

  pub opening_held : (harts : List ArchState) → harts ≡ stopped_harts size.harts → IsHeld size harts t (Some s) None
  opening_held harts same = record {
    long = ap (λ (hs : List ArchState). length hs) same ∙ long size.harts;
    numbered = subst AreNumbered (sym same) (stopped_numbered size.harts);
    tables = made.tables;
    seats = opening_whole;
  }

  pub untouched : AreUntouched size.harts t s
  untouched = record {
    starts = made.no_start ∙ ap (opening_view size.harts) (sym made.with_first);
    raises = made.no_raise;
    shows = shows_it ∙ ap (opening_table size.harts) (sym made.with_first);
  }

  pub is_resting : (ram : List ℕ) (harts : List ArchState) → ram ≡ replicate (ram_bytes_of size) 0 → harts ≡ stopped_harts size.harts → ◌≡◌ {A = Machine} (record { size = size; memory = ram; doze = None; harts = harts; table = shown_by size.harts s }) (resting size first)
  is_resting ram harts zeros same =
      ap (λ (m : List ℕ). let z : Machine = record { size = size; memory = m; doze = None; harts = harts; table = shown_by size.harts s } in z) zeros
      ∙ (ap (λ (hs : List ArchState). let z : Machine = record { size = size; memory = replicate (ram_bytes_of size) 0; doze = None; harts = hs; table = shown_by size.harts s } in z) same
      ∙ ap (λ (l : TableState). let z : Machine = record { size = size; memory = replicate (ram_bytes_of size) 0; doze = None; harts = stopped_harts size.harts; table = l } in z) shows_it)
