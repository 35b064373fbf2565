-- A text that goes to the console, piece by piece.
use Rattle.std.{proofs.Common.{◌≡◌, ◌∙◌, ℕ, List, [], ◌∷◌, ◌++◌, map, refl, sym, ap, append_assoc}, specs.List.flat_map}
use Rattle.std.proofs.lemmas.List.{map-append}
use Rattle.sbigdb.specs.Texts.{console_packet}

abbrev pub joined : List (List ℕ) → List ℕ
joined pieces = flat_map (λ piece. piece) pieces

-- a piece more, off the front of what was left
pub joined_more : (pieces : List (List ℕ)) (piece left before text : List ℕ) → joined pieces ++ before ≡ text → before ≡ piece ++ left → joined (pieces ++ piece ∷ []) ++ left ≡ text
joined_more [] piece left before text all is = append_assoc piece [] left ∙ sym is ∙ all
joined_more (x ∷ pieces) piece left before text all is =
    append_assoc x (joined (pieces ++ piece ∷ [])) left
    ∙ ap (λ (y : List ℕ). x ++ y) (joined_more pieces piece left before (joined pieces ++ before) refl is)
    ∙ sym (append_assoc x (joined pieces) before) ∙ all

-- and its packet
pub told_more : (first now : List (List ℕ)) (pieces : List (List ℕ)) (packet piece : List ℕ) → now ≡ first ++ map console_packet pieces → packet ≡ console_packet piece → now ++ packet ∷ [] ≡ first ++ map console_packet (pieces ++ piece ∷ [])
told_more first now pieces packet piece was is =
    ap (λ (xs : List (List ℕ)). xs ++ packet ∷ []) was ∙ append_assoc first (map console_packet pieces) (packet ∷ [])
    ∙ ap (λ (xs : List (List ℕ)). first ++ xs) (ap (λ (x : List ℕ). map console_packet pieces ++ x ∷ []) is ∙ sym (map-append console_packet pieces (piece ∷ [])))
