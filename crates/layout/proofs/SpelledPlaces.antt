-- What stands in a place header is what was put there.
use Rattle.std.proofs.Common.{◌≡◌, ◌∙◌, ℕ, List, [], ◌∷◌, ◌++◌, refl, sym, ap, append_assoc}
use Rattle.board_model.specs.Shapes.{Size}
use Rattle.layout.specs.{Fields.{number_bytes, fields_bytes, number_at}, Places.{place_fields, IsPlaceHead}}
use Rattle.layout.{specs.declared.places.PlaceHead.PlaceHead, proofs.Spellings.number_at-field}

pub filled_place : (head : PlaceHead) → (([] ++ number_bytes 4 head.page) ++ number_bytes 4 0) ++ number_bytes 8 head.serial ≡ fields_bytes (place_fields head)
unfolding fields_bytes number_bytes
filled_place head = simp append_assoc refl

module _ (size : Size) (head : PlaceHead) (sector : List ℕ) (is : IsPlaceHead size head sector) where
  pub page_in : number_at 4 0 sector ≡ head.page
  page_in = ap (number_at 4 0) is.2 ∙ number_at-field [] [] ((4, 0) ∷ (8, head.serial) ∷ []) 4 head.page 0 refl is.1.0

  pub place_serial_in : number_at 8 8 sector ≡ head.serial
  place_serial_in = ap (number_at 8 8) is.2 ∙ number_at-field [] ((4, head.page) ∷ (4, 0) ∷ []) [] 8 head.serial 8 refl is.1.1.1.0

  pub head_is : (page serial : ℕ) → page ≡ number_at 4 0 sector → serial ≡ number_at 8 8 sector → ◌≡◌ {A = PlaceHead} (record { page = page; serial = serial }) head
  head_is page serial a b =
      ap (λ (p : ℕ). made p serial) (a ∙ page_in) ∙ ap (λ (n : ℕ). made head.page n) (b ∙ place_serial_in)
    where
      made : ℕ → ℕ → PlaceHead
      made page serial = record { page = page; serial = serial }

-- one header, one place
pub bytes_determine_place_head : (size : Size) (head other : PlaceHead) (sector : List ℕ) → IsPlaceHead size head sector → IsPlaceHead size other sector → head ≡ other
bytes_determine_place_head size head other sector first second =
    head_is size other sector second head.page head.serial (sym (page_in size head sector first)) (sym (place_serial_in size head sector first))
