-- Any content is answered.
use Rattle.std.proofs.Common.{◌≡◌, ℕ, inl, inr, Bool, true, false, List, [], ◌∷◌, Option, None, Some, refl, sym, ◌∙◌, subst, arith}
use Rattle.std.specs.{Prelude.{◌≢◌, IsTrue, nat_eq, ◌↔◌}, List.starts_with}
use Rattle.board_model.specs.{Shapes.Size, declared.refusal.Refusal.TheVariants.{NotFormatted, BadShape}}
use Rattle.disk.specs.Facts.{Content, sector}
use Rattle.layout.specs.{Superblocks.{magic, HasMagic}, Records.IsRecord, declared.{saved.Saved.Saved, records.Record.Record}}
use Rattle.store.specs.{Opens.{IsBoard, ReadsAs}, Standing.{selected, live_sector, other_sector, saved_memory, state_of, StandsFor}}
use Rattle.store.specs.{Inspects.{HasRecord, IsImageSeen, IsInspected}, declared.inspects.{ImageSeen.ImageSeen, Inspection.Inspection}}
use Rattle.store.specs.declared.inspects.ImageSeen.TheVariants.{Absent, Whole, Bad}
use Rattle.report_lines.{specs.Contents.{IsAnswered, IsExamined}, proofs.{Searches.Decided, Records.{some_board, some_record}}}

is_true : (b : Bool) → Decided (IsTrue b)
is_true true = inl refl
is_true false = inr (λ e. (let no : ⊥ = cc in no))

has_record : (size : Size) (bytes : List ℕ) → Decided (HasRecord size bytes)
has_record size bytes = by (some_record size bytes (λ r. Unit {0}) (λ r. inl tt))
  where
    by : Decided ((r : Record) × IsRecord size r bytes × Unit {0}) → Decided (HasRecord size bytes)
    by (inl h) = inl (h.0, h.1)
    by (inr never) = inr (λ h. never (h.0, h.1, tt))

-- ---- to an open
stands : (size : Size) (c : Content) (r : Record) → IsBoard size c → IsRecord size r (live_sector c) → StandsFor c size (state_of size r c)
unfolding StandsFor
stands size c r board is = (selected c, r, record { board = board.0; enough = board.1; gate = refl; is = is }, refl)

-- what both are told of: no sectors, no mark, no board, or a board
by_board : {A : Type 0} (c : Content) → (ReadsAs c NotFormatted → A) → (ReadsAs c BadShape → A) → (HasMagic (sector c 0) → (size : Size) → IsBoard size c → A) → A
by_board {A = A} [] unformatted shape board = shape (inl refl)
by_board {A = A} (s ∷ ss) unformatted shape board = by (is_true (starts_with nat_eq s magic)) (some_board (s ∷ ss))
  where
    by : Decided (HasMagic s) → Decided ((size : Size) × IsBoard size (s ∷ ss)) → A
    by (inr never) it = unformatted (omega arith, never)
    by (inl mark) (inl (size, is)) = board mark size is
    by (inl mark) (inr never) = shape (inr (mark, λ size is. never (size, is)))

pub answered : (c : Content) → IsAnswered c
answered c = by_board c (λ h. inl h) (λ h. inr (inl h)) (λ mark size board. by mark size board (has_record size (live_sector c)))
  where
    by : HasMagic (sector c 0) → (size : Size) → IsBoard size c → Decided (HasRecord size (live_sector c)) → IsAnswered c
    by mark size board (inl (r, is)) = inr (inr (inr (size, state_of size r c, stands size c r board is)))
    by mark size board (inr never) = inr (inr (inl (mark, size, board, λ r is. never (r, is))))

-- ---- to an examiner
is_none : (xs : List ℕ) → Decided (xs ≡ [])
is_none [] = inl refl
is_none (x ∷ xs) = inr (λ e. (let no : ⊥ = cc in no))

-- a record keeps an image of which that holds
abbrev Keeps : (Saved → Type 0) → Record → Type 0
Keeps Q r = (saved : Saved) × (r.image ≡ Some saved) × Q saved

keeps : (Q : Saved → Type 0) → ((saved : Saved) → Decided (Q saved)) → (r : Record) → Decided (Keeps Q r)
keeps Q each r = by r.image refl
  where
    by : (image : Option Saved) → r.image ≡ image → Decided (Keeps Q r)
    by None e = inr (λ h. (let f : None ≡ Some h.0 = sym e ∙ h.1 in let no : ⊥ = cc in no))
    by (Some saved) e = on (each saved)
      where
        on : Decided (Q saved) → Decided (Keeps Q r)
        on (inl q) = inl (saved, e, q)
        on (inr never) = inr (λ h. (let f : Some saved ≡ Some h.0 = sym e ∙ h.1 in let g : h.0 ≡ saved = cc in never (subst Q g h.2)))

abbrev IsBad : Size → Content → Saved → Type 0
IsBad size c saved = saved_memory size saved c ≡ []

abbrev IsWhole : Size → Content → Saved → Type 0
IsWhole size c saved = saved_memory size saved c ≢ []

turned : (xs : List ℕ) → Decided (xs ≡ []) → Decided (xs ≢ [])
turned xs (inl e) = inr (λ differs. differs e)
turned xs (inr differs) = inl differs

seen : (size : Size) (c : Content) → (i : ImageSeen) × IsImageSeen size c i
seen size c = by (of_whole (some_record size (live_sector c) (Keeps (IsWhole size c)) (keeps (IsWhole size c) (λ saved. turned (saved_memory size saved c) (is_none (saved_memory size saved c))))))
    (of_bad (some_record size (live_sector c) (Keeps (IsBad size c)) (keeps (IsBad size c) (λ saved. is_none (saved_memory size saved c)))))
  where
    of_whole : Decided ((r : Record) × IsRecord size r (live_sector c) × Keeps (IsWhole size c) r) → Decided (IsImageSeen size c Whole)
    of_whole (inl (r, is, (saved, e, q))) = inl (saved, (r, is, e), q)
    of_whole (inr never) = inr (λ h. never (h.1.0, h.1.1, (h.0, h.1.2, h.2)))

    of_bad : Decided ((r : Record) × IsRecord size r (live_sector c) × Keeps (IsBad size c) r) → Decided (IsImageSeen size c Bad)
    of_bad (inl (r, is, (saved, e, q))) = inl (saved, (r, is, e), q)
    of_bad (inr never) = inr (λ h. never (h.1.0, h.1.1, (h.0, h.1.2, h.2)))

    by : Decided (IsImageSeen size c Whole) → Decided (IsImageSeen size c Bad) → (i : ImageSeen) × IsImageSeen size c i
    by (inl h) other = (Whole, h)
    by (inr never) (inl h) = (Bad, h)
    by (inr not_whole) (inr not_bad) = (Absent, λ saved k. not_whole (saved, k, λ e. not_bad (saved, k, e)))

told : (P : Type 0) → Decided P → (b : Bool) × (IsTrue b ↔ P)
told P (inl p) = (true, ((λ t. p), (λ p. refl)))
told P (inr never) = (false, ((λ t. absurd (let no : ⊥ = cc in no)), (λ p. absurd (never p))))

inspection : (size : Size) (c : Content) → (i : Inspection) × IsInspected size c i
inspection size c =
    let live = told (HasRecord size (live_sector c)) (has_record size (live_sector c)) in
    let other = told (HasRecord size (other_sector c)) (has_record size (other_sector c)) in
    let image = seen size c in
    (record { gate = selected c; live = live.0; other = other.0; image = image.0 }, record { gate = refl; live = live.1; other = other.1; image = image.1 })

pub examined : (c : Content) → IsExamined c
examined c = by_board c (λ h. inl h) (λ h. inr (inl h)) (λ mark size board. (let i = inspection size c in inr (inr (size, i.0, board, i.1))))
