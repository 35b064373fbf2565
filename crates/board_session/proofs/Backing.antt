-- Parts that come back to the store, and the receipts that they were told.
use Rattle.std.proofs.Common.{◌≡◌, ◌∙◌, ℕ, zero, suc, ◌≤◌, List, [], ◌∷◌, ◌++◌, All, Option, Some, None, true, length, map, arith, refl, sym, ap, subst}
use Rattle.std.{proofs.lemmas.List.{append_assoc, append-nil, Elements.All-push}, specs.{Prelude.slice_get, Option.option_to_list}}
use Rattle.board_model.specs.{Durable.Change, Shapes.Size, declared.durable.Entry.Entry}
use Rattle.tallies.specs.{Closed.{AreReceiptsOf, told_in}, declared.book_views.PartView.PartView}
use Rattle.hart_threads.specs.{Noted.{boot_told, entries_in}, Threads.ends_life, Ends.own_receipt, declared.ends.HartEnd.HartEnd}
use Rattle.board_session.specs.{Backs.AreBack, Sessions.{IsAcknowledged, hart_receipts}}

abbrev HartsTold : List (Option (ℕ × Entry)) → Type 0
HartsTold harts = All (λ told. ends_life told ≡ true) harts

harts_none : HartsTold []
harts_none k d lt = absurd (omega (arith, lt))

-- one more, after those before
harts_more : (told : Option (ℕ × Entry)) (harts : List (Option (ℕ × Entry))) → ends_life told ≡ true → HartsTold harts → HartsTold (harts ++ told ∷ [])
harts_more told harts one all = All-push (λ (t : Option (ℕ × Entry)). ends_life t ≡ true) harts told all one

receipts_more : (told : Option (ℕ × Entry)) (harts : List (Option (ℕ × Entry))) → hart_receipts (harts ++ told ∷ []) ≡ option_to_list told ++ hart_receipts harts
receipts_more told [] = sym (append-nil (option_to_list told))
receipts_more told (h ∷ hs) = ap (λ (ts : List (ℕ × Entry)). ts ++ option_to_list h) (receipts_more told hs) ∙ append_assoc (option_to_list told) (hart_receipts hs) (option_to_list h)

many_more : (told : Option (ℕ × Entry)) (harts : List (Option (ℕ × Entry))) → length (harts ++ told ∷ []) ≡ suc (length harts)
many_more told [] = refl
many_more told (h ∷ hs) = ap suc (many_more told hs)

-- none is back yet
pub none_told : (ds : List (PartView Entry)) → length ds ≡ 0 → (b : AreBack ds) × (b.harts ≡ [])
none_told [] e = (record { harts = []; many = refl; each = harts_none; told = refl }, refl)
none_told (d ∷ ds) e = absurd (omega (arith, e))

pub none_back : (ds : List (PartView Entry)) → length ds ≡ 0 → AreBack ds
none_back ds e = (none_told ds e).0

-- one part more, with the receipt of a run, or none
pub told_back : (d : PartView Entry) (ds : List (PartView Entry)) (told : Option (ℕ × Entry)) → ends_life told ≡ true → d.told ≡ option_to_list told → (b : AreBack ds) → (now : AreBack (d ∷ ds)) × (now.harts ≡ b.harts ++ told ∷ [])
told_back d ds told ran is b = (
  record {
    harts = b.harts ++ told ∷ [];
    many = many_more told b.harts ∙ ap suc b.many;
    each = harts_more told b.harts ran b.each;
    told = ap (λ (ts : List (ℕ × Entry)). ts ++ told_in ds) is ∙ ap (λ (ts : List (ℕ × Entry)). option_to_list told ++ ts) b.told ∙ sym (receipts_more told b.harts);
  },
  refl,
)

pub one_back : (d : PartView Entry) (ds : List (PartView Entry)) (told : Option (ℕ × Entry)) → ends_life told ≡ true → d.told ≡ option_to_list told → AreBack ds → AreBack (d ∷ ds)
one_back d ds told ran is b = (told_back d ds told ran is b).0

-- the receipts that the ends of harts have, with one end more
map_more : (es : List HartEnd) (e : HartEnd) → map own_receipt (es ++ e ∷ []) ≡ map own_receipt es ++ own_receipt e ∷ []
map_more [] e = refl
map_more (d ∷ es) e = ap (λ (ts : List (Option (ℕ × Entry))). own_receipt d ∷ ts) (map_more es e)

pub told_more : (es all : List HartEnd) (e : HartEnd) (harts : List (Option (ℕ × Entry))) (told : Option (ℕ × Entry)) → all ≡ es ++ e ∷ [] → own_receipt e ≡ told → harts ≡ map own_receipt es → harts ++ told ∷ [] ≡ map own_receipt all
told_more es all e harts told grown own same =
    ap (λ (ts : List (Option (ℕ × Entry))). ts ++ told ∷ []) same
    ∙ ap (λ (t : Option (ℕ × Entry)). map own_receipt es ++ t ∷ []) (sym own)
    ∙ sym (ap (λ (xs : List HartEnd). map own_receipt xs) grown ∙ map_more es e)

pub none_there : {W : Type 0} (xs : List W) → length xs ≡ 0 → xs ≡ []
none_there [] e = refl
none_there (x ∷ xs) e = absurd (omega (arith, e))

-- and one that was told nothing
pub fresh_back : (d : PartView Entry) (ds : List (PartView Entry)) → d.told ≡ [] → AreBack ds → AreBack (d ∷ ds)
fresh_back d ds is b = one_back d ds None refl is b

pub all_fresh : (ds : List (PartView Entry)) → All (λ d. d.told ≡ []) ds → AreBack ds
all_fresh [] all = none_back [] refl
all_fresh (d ∷ ds) all = fresh_back d ds (all 0 d (omega arith)) (all_fresh ds (λ k x lt. all (suc k) x (omega (arith, lt))))

-- all are back: the harts', the console's and the boot's
pub acknowledged : (size : Size) (issued journal : List Change) (boot console : PartView Entry) (ds : List (PartView Entry)) → (b : AreBack ds) → length ds ≡ size.harts → boot.told ≡ boot_told issued
    → AreReceiptsOf (entries_in journal) (told_in (boot ∷ console ∷ ds)) → (are : IsAcknowledged size issued journal console.told) × (are.harts ≡ b.harts)
acknowledged size issued journal boot console ds b many is all = (
  record {
    harts = b.harts;
    many = b.many ∙ many;
    each = b.each;
    receipts = subst (λ (ts : List (ℕ × Entry)). AreReceiptsOf (entries_in journal) ts)
        (ap (λ (ts : List (ℕ × Entry)). ts ++ (console.told ++ told_in ds)) is ∙ ap (λ (ts : List (ℕ × Entry)). boot_told issued ++ (console.told ++ ts)) b.told) all;
  },
  refl,
)

-- ---- a life that ends where the boot left it
harts_first : (told : Option (ℕ × Entry)) (harts : List (Option (ℕ × Entry))) → ends_life told ≡ true → HartsTold harts → HartsTold (told ∷ harts)
harts_first told harts one all zero d lt = one
harts_first told harts one all (suc k) d lt = all k d (omega (arith, lt))

nones : ℕ → List (Option (ℕ × Entry))
nones zero = []
nones (suc n) = None ∷ nones n

nones_many : (n : ℕ) → length (nones n) ≡ n
unfolding nones
nones_many zero = refl
nones_many (suc n) = let rest = nones_many n in omega (arith, rest)

nones_told : (n : ℕ) → HartsTold (nones n)
unfolding nones
nones_told zero = harts_none
nones_told (suc n) = harts_first None (nones n) refl (nones_told n)

nones_receipts : (n : ℕ) → hart_receipts (nones n) ≡ []
unfolding nones
nones_receipts zero = refl
nones_receipts (suc n) = ap (λ (ts : List (ℕ × Entry)). ts ++ []) (nones_receipts n)

paired : ℕ → Option Entry → Option (ℕ × Entry)
paired number None = None
paired number (Some e) = Some (number, e)

boot_one : (c : Change) (k : ℕ) (entry : Entry) → slice_get (entries_in (c ∷ [])) k ≡ Some entry → (i : ℕ) × (slice_get (boot_told (c ∷ []) ++ ([] ++ [])) i ≡ Some (suc k, entry))
unfolding paired
boot_one c zero entry at = (0, ap (λ (o : Option Entry). paired 1 o) at)
boot_one c (suc k) entry at = absurd (cc)

-- the newest stands first
boot_two : (c d : Change) (k : ℕ) (entry : Entry) → slice_get (entries_in (c ∷ d ∷ [])) k ≡ Some entry → (i : ℕ) × (slice_get (boot_told (c ∷ d ∷ []) ++ ([] ++ [])) i ≡ Some (suc k, entry))
unfolding paired
boot_two c d zero entry at = (1, ap (λ (o : Option Entry). paired 1 o) at)
boot_two c d (suc zero) entry at = (0, ap (λ (o : Option Entry). paired 2 o) at)
boot_two c d (suc (suc k)) entry at = absurd (cc)

boot_receipts : (issued : List Change) → length issued ≤ 2 → AreReceiptsOf (entries_in issued) (boot_told issued ++ ([] ++ []))
boot_receipts [] few = record { stand = tt; all = λ k entry at. absurd (cc); many = refl }
boot_receipts (c ∷ []) few = record { stand = ((0, refl, refl), tt); all = boot_one c; many = refl }
boot_receipts (c ∷ d ∷ []) few = record { stand = ((1, refl, refl), ((0, refl, refl), tt)); all = boot_two c d; many = refl }
boot_receipts (c ∷ d ∷ e ∷ cs) few = absurd (omega (arith, few))

pub at_once : (size : Size) (issued : List Change) → length issued ≤ 2 → IsAcknowledged size issued issued []
at_once size issued few = record {
  harts = nones size.harts;
  many = nones_many size.harts;
  each = nones_told size.harts;
  receipts = subst (λ (ts : List (ℕ × Entry)). AreReceiptsOf (entries_in issued) (boot_told issued ++ ([] ++ ts))) (sym (nones_receipts size.harts)) (boot_receipts issued few);
}

pub none_later : (xs : List Change) → xs ≡ xs ++ []
none_later [] = refl
none_later (x ∷ xs) = ap (λ (ys : List Change). x ∷ ys) (none_later xs)
