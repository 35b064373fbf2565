-- A life that goes on has no suspension in its journal; and where no command of it dropped the image, that is
-- still the one which the open found.
use Rattle.std.proofs.Common.{◌≡◌, ◌∙◌, ◌||◌, List, [], ◌∷◌, ◌++◌, Bool, true, false, refl, ap}
use Rattle.board_model.specs.{Durable.ends_life, Shapes.Size, Views.change_in, declared.durable.Entry.Entry}
use Rattle.layout.specs.declared.records.Record.{Record}
use Rattle.store.{specs.{Entries.{is_plain, are_plain, drops_image, drop_image}, Follows.Follows}, proofs.Applies.plain_more}
use Rattle.board_model.specs.declared.durable.Entry.TheVariants as entries

plain_on : (e : Entry) → ends_life (change_in e []) ≡ false → is_plain e ≡ true
plain_on (entries.Command c) goes = refl
plain_on (entries.Suspend h a o) goes = cc

pub going_plain : (journal : List Entry) (e : Entry) → are_plain journal ≡ true → ends_life (change_in e []) ≡ false → are_plain (journal ++ e ∷ []) ≡ true
going_plain journal e plain goes = plain_more journal e plain (plain_on e goes)

keeps_both : (journal : List Entry) (e : Entry) → drop_image (journal ++ e ∷ []) ≡ false → (drop_image journal ≡ false) × (drops_image e ≡ false)
keeps_both [] e keeps = (refl, or_first (drops_image e) false keeps)
  where
    or_first : (x y : Bool) → (x || y) ≡ false → x ≡ false
    or_first true y is = cc
    or_first false y is = refl
keeps_both (d ∷ journal) e keeps = rest (drops_image d) refl keeps (λ less. keeps_both journal e less)
  where
    rest : (x : Bool) → drops_image d ≡ x → (x || drop_image (journal ++ e ∷ [])) ≡ false → (drop_image (journal ++ e ∷ []) ≡ false → (drop_image journal ≡ false) × (drops_image e ≡ false))
        → ((drops_image d || drop_image journal) ≡ false) × (drops_image e ≡ false)
    rest true is less both = cc
    rest false is less both = (ap (λ (b : Bool). b || drop_image journal) is ∙ (both less).0, (both less).1)

pub going_image : (size : Size) (current opened next : Record) (journal : List Entry) (e : Entry) → Follows size current e next
    → (drop_image journal ≡ false → current.image ≡ opened.image) → drop_image (journal ++ e ∷ []) ≡ false → next.image ≡ opened.image
going_image size current opened next journal e follows same keeps =
    let both = keeps_both journal e keeps in
    follows.image both.1 ∙ same both.0
