-- Lanes and savers go from one list to another, one after another.
use Rattle.std.proofs.Common.{◌≡◌, ◌∙◌, refl, inl, inr, zero, suc, true, false, ℕ, ◌+◌, ◌*◌, ◌<◌, ◌≤◌, List, [], ◌∷◌, ◌++◌, length, map, flat_map, get_or, take, drop, slice_index, slice_set, sym, ap, subst, append_assoc, arith}
use Rattle.std.{specs.Prelude.{All, ◌==◌}, proofs.lemmas.Bool.{cases_eq, Decides.nat_tests}}
use Rattle.std.proofs.lemmas.List.{length_push, length-append, append-nil, nil_from_length, take_at, map_push, get_or_push, get_or_append_left, get_or-set_same, get_or-set_other}
use Rattle.savers.specs.{Draws.{share_of, draws_each, together}, Jobs.drawn_by, declared.{saver.Saver.Saver, view.TicketView.TicketView}}

-- ---- what a test of a count says
pub some_left : (n k : ℕ) → n ≡ k → false ≡ (n == 0) → 0 < k
some_left n k is not = grind (arith, nat_tests)

pub none_left : (n k : ℕ) → n ≡ k → true ≡ (n == 0) → k ≡ 0
none_left n k is none = grind (arith, nat_tests)

-- ---- the first is taken from a list, and one is put at the end of another
module _ {S : Type 0} where
  pub first_and_rest : (xs rest : List S) (x : S) → 0 < length xs → x ≡ get_or xs 0 x → rest ≡ drop 1 xs → xs ≡ x ∷ rest
  first_and_rest [] rest x some is others = absurd (omega arith)
  first_and_rest (y ∷ ys) rest x some is others = ap (λ (z : S). z ∷ ys) (sym is) ∙ ap (λ (l : List S). x ∷ l) (sym others)

  pub of_first : (P : S → Type 0) (xs rest : List S) (x : S) → xs ≡ x ∷ rest → All P xs → P x
  of_first P xs rest x split each = subst (λ (l : List S). All P l) split each 0 x (omega arith)

  pub of_rest : (P : S → Type 0) (xs rest : List S) (x : S) → xs ≡ x ∷ rest → All P xs → All P rest
  of_rest P xs rest x split each k d lt = subst (λ (l : List S). All P l) split each (suc k) d (omega (arith, lt))

  pub one_less : (xs rest : List S) (x : S) → xs ≡ x ∷ rest → length xs ≡ length rest + 1
  one_less xs rest x split = ap (λ (l : List S). length l) split ∙ (let one : suc (length rest) ≡ length rest + 1 = omega arith in one)

  pub pushed_one : (before now : List S) (x : S) → now ≡ before ++ x ∷ [] → length now ≡ length before + 1
  pushed_one before now x is = ap (λ (l : List S). length l) is ∙ length_push before x

  pub all_pushed : (P : S → Type 0) (before now : List S) (x : S) → now ≡ before ++ x ∷ [] → All P before → P x → All P now
  all_pushed P before now x is each here k d lt = elim (cases_eq k (length before)) [
    | inl last ↦ subst P (sym (ap (λ (l : List S). get_or l k d) is ∙ get_or_push before x d k (sym last))) here
    | inr not ↦ (let less : k < length before = omega (arith, lt, pushed_one before now x is, not) in
        subst P (sym (ap (λ (l : List S). get_or l k d) is ∙ get_or_append_left before (x ∷ []) d k less)) (each k d less))
  ]

  -- what holds of two values holds of those that are equal to them
  pub at_both : (P : S → S → Type 0) (a b x y : S) → a ≡ x → b ≡ y → P a b → P x y
  at_both P a b x y is to p = subst (λ (s : S). P x s) to (subst (λ (s : S). P s b) is p)

  -- a list is lent as a slice, and is what the slice has become
  module _ (new old items : List S) (n : ℕ) (as_many : length new ≡ length old) (value : old ≡ items) (long : n ≡ length items) where
    same_length : length new ≡ length items
    same_length = as_many ∙ ap (λ (l : List S). length l) value

    pub put_back : take n (new ++ drop (length new) items) ≡ new
    put_back = take_at new (drop (length new) items) n (same_length ∙ sym long)

    pub put_back_length : length (take n (new ++ drop (length new) items)) ≡ length items
    put_back_length = ap (λ (l : List S). length l) put_back ∙ same_length

    pub put_back_each : (P : S → S → Type 0) → ((i : ℕ) (d : S) → i < length old → P (get_or old i d) (get_or new i d))
        → (i : ℕ) (d : S) → i < length items → P (get_or items i d) (get_or (take n (new ++ drop (length new) items)) i d)
    put_back_each P each i d lt =
        subst (λ (l : List S). P (get_or items i d) (get_or l i d)) (sym put_back)
        (subst (λ (l : List S). P (get_or l i d) (get_or new i d)) value (each i d (subst (λ (l : List S). i < length l) (sym value) lt)))

-- one goes from a list to the end of another: the facts of both, put together, stay
pub facts_moved : {A B F : Type 0} (f : A → F) (h : B → F) (before now : List A) (xs rest : List B) (a : A) (x : B) (all : List F) → xs ≡ x ∷ rest → now ≡ before ++ a ∷ [] → f a ≡ h x
    → map f before ++ map h xs ≡ all → map f now ++ map h rest ≡ all
facts_moved {A} {B} {F} f h before now xs rest a x all split is same whole =
    ap (λ (l : List A). map f l ++ map h rest) is
    ∙ ap (λ (l : List F). l ++ map h rest) (map_push f before a)
    ∙ append_assoc (map f before) (f a ∷ []) (map h rest)
    ∙ ap (λ (y : F). map f before ++ y ∷ map h rest) same
    ∙ ap (λ (l : List B). map f before ++ map h l) (sym split)
    ∙ whole

-- ---- a seat takes in that of a saver
pub shares_joined : (v w u : TicketView) (n k all : ℕ) → u ≡ together v w → share_of w ≡ draws_each → n ≡ k + 1 → share_of v + draws_each * n ≡ all → share_of u + draws_each * k ≡ all
shares_joined v w u n k all is each less whole = omega (arith, ap share_of is, length-append v.drawn w.drawn, each, less, whole)

module _ {L : Type 0} (savers rest : List (Saver L)) (saver : Saver L) (split : savers ≡ saver ∷ rest) where
  pub drawn_joined : (v u : TicketView) (all : List ℕ) → u ≡ together v saver.seat.me.0 → v.drawn ++ flat_map drawn_by savers ≡ all → u.drawn ++ flat_map drawn_by rest ≡ all
  drawn_joined v u all is whole =
      ap (λ (w : TicketView). w.drawn ++ flat_map drawn_by rest) is
      ∙ append_assoc v.drawn (drawn_by saver) (flat_map drawn_by rest)
      ∙ ap (λ (l : List (Saver L)). v.drawn ++ flat_map drawn_by l) (sym split)
      ∙ whole

  -- the others of all savers
  pub rest_moved : (all : List (Saver L)) (n m : ℕ) → m ≡ n + 1 → ((i : ℕ) (d : Saver L) → get_or all (n + i) d ≡ get_or savers i d) → (i : ℕ) (d : Saver L) → get_or all (m + i) d ≡ get_or rest i d
  rest_moved all n m more each i d =
      let at : m + i ≡ n + suc i = omega (arith, more) in
      ap (λ (k : ℕ). get_or all k d) at ∙ each (suc i) d ∙ ap (λ (l : List (Saver L)). get_or l (suc i) d) split

  -- how many places of each lane are filled
  pub counts_moved : (all : List (Saver L)) (counts : List ℕ) (at n m : ℕ) → at ≡ n → m ≡ n + 1 → n < length counts → ((i : ℕ) (d : Saver L) → get_or all (n + i) d ≡ get_or savers i d)
      → ((i : ℕ) (d : Saver L) → i < n → slice_index counts i ≡ (get_or all i d).filled)
      → (i : ℕ) (d : Saver L) → i < m → slice_index (slice_set counts at saver.filled) i ≡ (get_or all i d).filled
  counts_moved all counts at n m is more fits each before i d lt = elim (cases_eq i n) [
    | inl here ↦ (let same : at ≡ i = is ∙ sym here in
        let start : i ≡ n + 0 = omega (arith, here) in
        ap (λ (k : ℕ). slice_index (slice_set counts k saver.filled) i) same
        ∙ get_or-set_same counts i saver.filled 0 (omega (arith, here, fits))
        ∙ ap (λ (s : Saver L). s.filled) (sym (ap (λ (k : ℕ). get_or all k d) start ∙ each 0 d ∙ ap (λ (l : List (Saver L)). get_or l 0 d) split)))
    | inr not ↦ get_or-set_other counts at i saver.filled 0 (λ e. not (e ∙ is)) ∙ before i d (omega (arith, lt, more, not))
  ]

pub others_kept : (counts : List ℕ) (at n m filled : ℕ) → at ≡ n → m ≡ n + 1 → ((i : ℕ) → n ≤ i → slice_index counts i ≡ 0) → (i : ℕ) → m ≤ i → slice_index (slice_set counts at filled) i ≡ 0
others_kept counts at n m filled is more none i le =
    let past : i ≡ at → ⊥ = λ e. omega (arith, e, is, more, le) in
    get_or-set_other counts at i filled 0 past ∙ none i (omega (arith, more, le))

-- ---- no saver is given back yet, and all are
pub none_counted : (i : ℕ) → slice_index (0 ∷ 0 ∷ 0 ∷ 0 ∷ []) i ≡ 0
none_counted zero = refl
none_counted (suc zero) = refl
none_counted (suc (suc zero)) = refl
none_counted (suc (suc (suc zero))) = refl
none_counted (suc (suc (suc (suc i)))) = refl

pub all_moved : {S F : Type 0} (h : List S → List F) (before all : List F) (xs : List S) → h [] ≡ [] → length xs ≡ 0 → before ++ h xs ≡ all → before ≡ all
all_moved {S} {F} h before all xs empty none whole =
    sym (append-nil before)
    ∙ ap (λ (l : List F). before ++ l) (sym empty)
    ∙ ap (λ (l : List S). before ++ h l) (sym (nil_from_length xs none))
    ∙ whole
