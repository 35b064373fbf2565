-- What an examiner says of the disk of a clean bench is one thing.
use Rattle.std.proofs.Common.{◌≡◌, ◌⊎◌, ◌<◌, ℕ, zero, suc, inl, inr, List, [], ◌∷◌, Option, None, Some, false, IsTrue, nat_lt, length, refl, sym, ◌∙◌, ap, subst, arith}
use Rattle.board_model.specs.{Durable.{DurableState, formatted}, Kept.{Kept, found_of}, Shapes.Size}
use Rattle.disk.specs.Facts.{Content}
use Rattle.layout.specs.declared.{records.Record.Record, saved.Saved.Saved}
use Rattle.store.specs.{Formats.HeadInOrder, Inspects.{KeepsImage, IsImageSeen, IsInspected}, Leaves.IsMarked, Opens.IsBoard}
use Rattle.store.specs.{Standing.{selected, Selects, image_of, saved_memory, state_of, StandsFor}, declared.inspects.Inspection.Inspection}
use Rattle.report_lines.specs.declared.printed.{Answer.Answer, Printed.Printed}
use Rattle.report_lines.specs.declared.printed.Printed.TheVariants as printed
use Rattle.bench_report.specs.{Bench.{DiskState, Blank, Unknown, Formatted, BenchLife, Bench, IsClean}, Happens.says, Sides.SidesOf}
use Rattle.bench_report.specs.Examined.{ReadsOf, MayRead, Tells, memory_seen, image_seen, inspection_of, InspectsOn, InspectStep}
use Rattle.bench_report.proofs.Determined.{HasFailed, CalmDisk, IsCalm, Agree, same, starves, hinders, kept_as}

-- the laws of the store that speak of one content
pub record ContentLaws : Type 0 where
  pub one : (c : Content) (y z : Size) (s t : DurableState) → StandsFor c y s → StandsFor c z t → (y ≡ z) × (s ≡ t)
  pub marked : (c : Content) (size : Size) (s : DurableState) → StandsFor c size s → IsMarked c
  pub inspected : (y z : Size) (c : Content) (i j : Inspection) → IsBoard y c → IsInspected y c i → IsBoard z c → IsInspected z c j → i ≡ j
  pub in_order : (old new : Content) (size : Size) → (IsMarked old → ⊥) → HeadInOrder old new → IsBoard size new → StandsFor new size formatted

some_below : (n : ℕ) → IsTrue (nat_lt 0 n) → 0 < n
some_below n t = grind (arith, t)

below_some : (n : ℕ) → 0 < n → IsTrue (nat_lt 0 n)
below_some n lt = grind (arith, lt)

module _ (laws : ContentLaws) (size : Size) (c : Content) where
  -- the image of the record that is selected
  memory_is : (saved : Saved) → KeepsImage size c saved → (memory : List ℕ) → saved_memory size saved c ≡ memory → IsImageSeen size c (memory_seen memory)
  memory_is saved keeps [] is = (saved, keeps, is)
  memory_is saved keeps (byte ∷ more) is = (saved, keeps, λ none. (let e : byte ∷ more ≡ [] = sym is ∙ none in let no : ⊥ = cc in no))

  image_is : (r : Record) → Selects size (selected c) r c → (o : Option Saved) → r.image ≡ o → IsImageSeen size c (image_seen (image_of size o c))
  unfolding StandsFor
  image_is r selects None none = never
    where
      never : (saved : Saved) → KeepsImage size c saved → ⊥
      never saved (other, is, keeps) =
          let this : StandsFor c size (state_of size r c) = (selected c, r, selects, refl) in
          let that : StandsFor c size (state_of size other c) = (selected c, other, record { board = selects.board; enough = selects.enough; gate = refl; is = is }, refl) in
          let e : image_of size other.image c ≡ image_of size r.image c = ap (λ (s : DurableState). s.image) (laws.one c size size (state_of size other c) (state_of size r c) that this).1 in
          let f : image_of size (Some saved) c ≡ image_of size None c = ap (λ x. image_of size x c) (sym keeps) ∙ e ∙ ap (λ x. image_of size x c) none in
          let no : ⊥ = cc in no
  image_is r selects (Some saved) some = memory_is saved (r, selects.is, some) (saved_memory size saved c) refl

  -- the content of a formatted disk
  formatted_inspected : (k : Kept) (s : DurableState) → StandsFor c size s → s ≡ found_of k.changes → SidesOf Formatted k size c → IsBoard size c × IsInspected size c (inspection_of k.changes)
  unfolding StandsFor
  formatted_inspected k s (side, r, selects, e) is sides =
      let here : Selects size (selected c) r c = (let P : ℕ → Type 0 = λ n. Selects size n r c in subst P (sym selects.gate) selects) in
      let P : DurableState → Type 0 = λ t. IsImageSeen size c (image_seen t.image) in (
        (selects.board, selects.enough),
        record {
          gate = sym sides.1;
          live = (λ t. sides.2, λ has. refl);
          other = (λ t. sides.4.1 (some_below (length k.changes) t), λ has. below_some (length k.changes) (sides.4.0 has));
          image = subst P (sym e ∙ is) (image_is r here r.image refl);
        },
      )

  told_formatted : (k : Kept) (line : Printed) → ReadsOf Formatted k size c → SidesOf Formatted k size c → Tells c line → line ≡ printed.Inspected (inspection_of k.changes)
  told_formatted k line (s, (changes, may, found), stands) sides tells = by line tells
    where
      seen : IsBoard size c × IsInspected size c (inspection_of k.changes)
      seen = formatted_inspected k s stands (found ∙ ap found_of (sym (kept_as k changes sides.0 may))) sides

      by : (line : Printed) → Tells c line → line ≡ printed.Inspected (inspection_of k.changes)
      by (printed.Inspected i) (y, board, is) = ap (λ x. printed.Inspected x) (laws.inspected y size c i (inspection_of k.changes) board is seen.0 seen.1)
      by (printed.InspectRefused n) (inl (e, unmarked)) = absurd (unmarked.1 (laws.marked c size s stands))
      by (printed.InspectRefused n) (inr (e, inl none)) = absurd (let long = seen.0.1 in omega (arith, long, none))
      by (printed.InspectRefused n) (inr (e, inr (mark, no_board))) = absurd (no_board size seen.0)
      by line tells = absurd tells

  -- and of one that was never written
  told_blank : (k : Kept) (line : Printed) → 0 < length c → ReadsOf Blank k size c → Tells c line → line ≡ printed.InspectRefused 1
  told_blank k line long unmarked tells = by line tells
    where
      still : HeadInOrder c c
      still = record { head = record { as_long = refl; before = λ i less. refl; after = λ i more. refl }; order = inl refl }

      by : (line : Printed) → Tells c line → line ≡ printed.InspectRefused 1
      by (printed.Inspected i) (y, board, is) = absurd (unmarked (laws.marked c y formatted (laws.in_order c c y unmarked still board)))
      by (printed.InspectRefused n) (inl (e, rest)) = ap (λ x. printed.InspectRefused x) e
      by (printed.InspectRefused n) (inr (e, inl none)) = absurd (omega (arith, long, none))
      by (printed.InspectRefused n) (inr (e, inr (mark, no_board))) = absurd (unmarked mark)
      by line tells = absurd tells

-- what is said on a clean bench, by what is known of its disk
abbrev pub said_of : DiskState → Kept → Printed
said_of Blank kept = printed.InspectRefused 1
said_of Unknown kept = printed.InspectRefused 1
said_of Formatted kept = printed.Inspected (inspection_of kept.changes)

told : ContentLaws → (size : Size) (m : DiskState) (k : Kept) (c : Content) (line : Printed) → 0 < length c → CalmDisk m k.doubt → ReadsOf m k size c → SidesOf m k size c → Tells c line → line ≡ said_of m k
told laws size Blank k c line long calm reads sides tells = told_blank laws size c k line long reads tells
told laws size Unknown k c line long calm reads sides tells = absurd calm
told laws size Formatted k c line long calm reads sides tells = told_formatted laws size c k line reads sides tells

pub clean_tells : ContentLaws → (size : Size) (b : Bench) (c : Content) (line : Printed) → IsClean b → IsCalm b → MayRead size b c → Tells c line → line ≡ said_of b.disk_state b.kept
clean_tells laws size b c line clean calm reads tells = told laws size b.disk_state b.kept c line (omega (arith, reads.0)) calm.0 reads.1 (reads.2 clean) tells

-- a bench on which nobody but the firmware wrote is clean, or it is spoilt
pub clean_or : (b : Bench) (growths failures : ℕ) → b.growths ≡ growths → b.failures ≡ failures → b.poked ≡ false → HasFailed b ⊎ IsClean b
clean_or b (suc n) failures e f by = inl (inl (omega (arith, e)))
clean_or b zero (suc n) e f by = inl (inr (omega (arith, f)))
clean_or b zero zero e f by = inr ((e, f), by)

pub inspects_at : ContentLaws → (size : Size) (b : Bench) (a z : Answer) (new last : Bench) → IsCalm b → InspectsOn size b a new → InspectsOn size b z last → Agree a z new last
inspects_at laws size b a z new last calm (inr x) y = inl (hinders b new x.1)
inspects_at laws size b a z new last calm (inl x) (inr y) = inr (inl (hinders b last y.1))
inspects_at laws size b a z new last calm (inl (c, reads, inr x)) (inl y) = inl (starves b new x.2)
inspects_at laws size b a z new last calm (inl (c, reads, inl x)) (inl (d, reads2, inr y)) = inr (inl (starves b last y.2))
inspects_at laws size b a z new last calm (inl (c, reads, inl (line, tells, e, is))) (inl (d, reads2, inl (also, tells2, e2, is2))) =
    elim (clean_or b b.growths b.failures refl refl calm.2) [
      | inl failed ↦ inl (let P : Bench → Type 0 = HasFailed in subst P (sym is) failed)
      | inr clean ↦ (
          let said : Printed = said_of b.disk_state b.kept in
          same a z (says said) new last b (e ∙ ap says (clean_tells laws size b c line clean calm reads tells)) (e2 ∙ ap says (clean_tells laws size b d also clean calm reads2 tells2)) is is2
          )
    ]

pub inspect_at : ContentLaws → (size : Size) (p : Option BenchLife) (b : Bench) (a z : Answer) (new last : Bench) → IsCalm b → InspectStep size p b a new → InspectStep size p b z last → Agree a z new last
inspect_at laws size None b a z new last calm x y = inspects_at laws size b a z new last calm x y
inspect_at laws size (Some life) b a z new last calm x y = same a z (says printed.Busy) new last b x.0 y.0 x.1 y.1
