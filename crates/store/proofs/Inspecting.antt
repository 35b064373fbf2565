-- Whether a sector is a record, by what the parser answers; and that a content is inspected in one way.
use Rattle.std.proofs.Common.{◌≡◌, ◌∙◌, ◌↔◌, ⊎_elim, ℕ, ◌<◌, List, length, Bool, true, false, IsTrue, Some, Result, Ok, Err, refl, sym, ap, subst, arith}
use Rattle.std.specs.Prelude.{◌≤◌, ◌+◌, ◌*◌, IfOk, IfErr, is_ok}
use Rattle.board_model.specs.{declared.refusal.Refusal.{Refusal, TheVariants.{NotFormatted, BadShape, Memory}}, Shapes.Size}
use Rattle.layout.{specs.{Records.IsRecord, declared.{records.Record.Record, saved.Saved.Saved}}, proofs.OneSpelling.bytes_determine_record}
use Rattle.layout.proofs.Spellings.{one_size, superblock_has_magic}
use Rattle.disk.specs.Facts.{Content, Facts, sector, counted}
use Rattle.store.specs.{Opens.IsBoard, Standing.{live_sector, saved_memory}, declared.inspects.{ImageSeen.ImageSeen, Inspection.Inspection}}
use Rattle.store.specs.Inspects.{HasRecord, KeepsImage, IsImageSeen, IsInspected, InspectRefused, SeenCalls, ExaminedCalls, FailedCalls, InspectCalls}
use Rattle.store.specs.declared.inspects.ImageSeen.TheVariants.{Absent, Whole, Bad}

pub parses : {E : Type 0} (size : Size) (bytes there : List ℕ) (result : Result Record E) (told : Bool) → bytes ≡ there → told ≡ is_ok result → IfOk result (λ r. IsRecord size r bytes)
    → ((r : Record) → IsRecord size r bytes → result ≡ Ok r) → IsTrue told ↔ HasRecord size there
parses size bytes there (Ok r) told same is found exact = (λ t. (r, subst (IsRecord size r) same found), λ has. is)
parses size bytes there (Err e) told same is found exact = (
  λ t. (let never : false ≡ true = sym is ∙ t in cc),
  λ has. absurd (let read = exact has.0 (subst (IsRecord size has.0) (sym same) has.1) in cc),
)

-- ---- the calls of an inspection, after that of sector 0
four : (n : ℕ) → counted (counted n 1) 3 ≡ counted n 4
four n = omega arith

sized : (y z : Size) (c : Content) (seen : ImageSeen) (old new : ℕ) → IsBoard y c → IsBoard z c → SeenCalls y (Ok seen) old new → SeenCalls z (Ok seen) old new
sized y z c seen old new first second calls = subst (λ (s : Size). SeenCalls s (Ok seen) old new) (one_size y z (sector c 0) first.0 second.0) calls

failed_calls : (z : Size) (c : Content) (old mid new : ℕ) → IsBoard z c → mid ≡ counted old 1 → (counted mid 1 ≤ new) × (new ≤ counted mid (3 + 2 * z.pages)) → FailedCalls c old new
failed_calls z c old mid new board first within = record {
  some = omega (arith, first, within.0);
  few = λ size also. subst (λ (s : Size). new ≤ counted old (4 + 2 * s.pages)) (one_size z size (sector c 0) board.0 also.0) (omega (arith, first, within.1));
  first = λ none. absurd (none z board);
}

pub inspect_calls : (a b : Facts) (z : Size) (old mid new : ℕ) (result : Result Inspection Refusal) → IsBoard z a.content → mid ≡ counted old 1 → 0 < length a.content
    → IfErr result (λ e. InspectRefused a e b)
    → ExaminedCalls z result mid new → InspectCalls a.content result old new
inspect_calls a b z old mid new (Ok i) board first some refused calls =
    λ size also. sized z size a.content i.image (counted old 4) new board also (subst (λ (n : ℕ). SeenCalls z (Ok i.image) n new) (ap (λ (n : ℕ). counted n 3) first ∙ four old) calls)
inspect_calls a b z old mid new (Err NotFormatted) board first some refused calls = absurd (refused.1 (superblock_has_magic z (sector a.content 0) board.0))
inspect_calls a b z old mid new (Err BadShape) board first some refused calls = absurd (⊎_elim (λ none. omega (arith, none, some)) (λ bad. bad.1 z board) refused)
inspect_calls a b z old mid new (Err Memory) board first some refused calls = calls ∙ ap (λ (n : ℕ). counted n 3) first ∙ four old
inspect_calls a b z old mid new (Err e) board first some refused calls = failed_calls z a.content old mid new board first calls

-- ---- one inspection of a content
same_told : (a b : Bool) (P : Type 0) → IsTrue a ↔ P → IsTrue b ↔ P → a ≡ b
same_told true b P first second = sym (second.1 (first.0 refl))
same_told false true P first second = first.1 (second.0 refl)
same_told false false P first second = refl

-- the live record has one image
one_saved : (size : Size) (c : Content) (x y : Saved) → KeepsImage size c x → KeepsImage size c y → x ≡ y
one_saved size c x y first second =
    let same = bytes_determine_record size first.0 second.0 (live_sector c) first.1 second.1 in
    some_is x y (sym first.2 ∙ ap (λ (r : Record). r.image) same ∙ second.2)
  where
    some_is : (a b : Saved) → Some a ≡ Some b → a ≡ b
    some_is a b is = cc

apart : (size : Size) (c : Content) → IsImageSeen size c Whole → IsImageSeen size c Bad → ⊥
apart size c whole bad =
    let same = one_saved size c whole.0 bad.0 whole.1 bad.1 in
    whole.2 (ap (λ (saved : Saved). saved_memory size saved c) same ∙ bad.2)

same_seen : (size : Size) (c : Content) (i j : ImageSeen) → IsImageSeen size c i → IsImageSeen size c j → i ≡ j
same_seen size c Absent Absent first second = refl
same_seen size c Absent Whole first second = absurd (first second.0 second.1)
same_seen size c Absent Bad first second = absurd (first second.0 second.1)
same_seen size c Whole Absent first second = absurd (second first.0 first.1)
same_seen size c Whole Whole first second = refl
same_seen size c Whole Bad first second = absurd (apart size c first second)
same_seen size c Bad Absent first second = absurd (second first.0 first.1)
same_seen size c Bad Whole first second = absurd (apart size c second first)
same_seen size c Bad Bad first second = refl

pub content_determines_inspection : (y z : Size) (c : Content) (i j : Inspection) → IsBoard y c → IsInspected y c i → IsBoard z c → IsInspected z c j → i ≡ j
content_determines_inspection y z c i j board first other second =
    let size : z ≡ y = one_size z y (sector c 0) other.0 board.0 in
    let here : IsInspected y c j = subst (λ (s : Size). IsInspected s c j) size second in
    ap (λ (n : ℕ). made n i.live i.other i.image) (first.gate ∙ sym here.gate)
    ∙ ap (λ (b : Bool). made j.gate b i.other i.image) (same_told i.live j.live _ first.live here.live)
    ∙ ap (λ (b : Bool). made j.gate j.live b i.image) (same_told i.other j.other _ first.other here.other)
    ∙ ap (λ (s : ImageSeen). made j.gate j.live j.other s) (same_seen y c i.image j.image first.image here.image)
  where
    made : ℕ → Bool → Bool → ImageSeen → Inspection
    made gate live other image = record { gate = gate; live = live; other = other; image = image }
