-- Loops over patches, as functions of the pieces that they are.
use Rattle.std.proofs.Common.{◌≡◌, ◌∙◌, ℕ, ◌+◌, ◌<◌, ◌≤◌, zero, suc, List, [], ◌∷◌, length, get_or, drop, map, sym, ap, subst, arith}
use Rattle.std.proofs.{Math.ListN.get_or-map, lemmas.List.{drop_more, length-map}}
use Rattle.disk.specs.{Facts.Content, WriteLog.{Piece, laid_over, replay, range, ranges, range_at, AreWithin}}
use Rattle.simdisk.specs.{declared.patch.Patch.Patch, Views.{piece, pieces}}

-- what was read at that place, as a piece
pub read_piece : (patches : List Patch) (i : ℕ) (x : Patch) → i < length patches → x ≡ get_or patches i x → (d : Piece) → get_or (pieces patches) i d ≡ piece x
read_piece [] i x lt is d = absurd (omega arith)
read_piece (p ∷ patches) zero x lt is d = ap piece (sym is)
read_piece (p ∷ patches) (suc i) x lt is d = read_piece patches i x (omega arith) is d

-- its range, by the ranges of all
pub range_read : (patches : List Patch) (i : ℕ) (x : Patch) (r : ℕ × ℕ) → i < length patches → x ≡ get_or patches i x → range_at (ranges (pieces patches)) i ≡ r → range (piece x) ≡ r
range_read patches i x r lt is at = sym (get_or-map range (pieces patches) i (0, []) ∙ ap range (read_piece patches i x lt is (0, []))) ∙ at

-- each piece, changed so, laid over a content, one after the other
pub laid_more : (f : Piece → Piece) (patches : List Patch) (i : ℕ) (x : Patch) (c new all : Content) → i < length patches → x ≡ get_or patches i x
    → replay (drop i (map f (pieces patches))) c ≡ all → new ≡ laid_over (f (piece x)) c → replay (drop (i + 1) (map f (pieces patches))) new ≡ all
laid_more f patches i x c new all lt is so_far laid =
    ap (λ (k : Content). replay (drop (i + 1) (map f (pieces patches))) k) laid ∙ sym (ap (λ (ps : List Piece). replay ps c) rest) ∙ so_far
  where
    rest : drop i (map f (pieces patches)) ≡ f (piece x) ∷ drop (i + 1) (map f (pieces patches))
    rest = drop_more (map f (pieces patches)) i (f (piece x)) (omega (arith, lt, length-map (pieces patches) f, length-map patches piece))
        ∙ ap (λ (p : Piece). p ∷ drop (i + 1) (map f (pieces patches))) (get_or-map f (pieces patches) i (piece x) ∙ ap f (read_piece patches i x lt is (piece x)))

pub fits_read : (n : ℕ) (patches : List Patch) (i : ℕ) (x : Patch) → i < length patches → x ≡ get_or patches i x → AreWithin n (ranges (pieces patches)) → x.first + x.count ≤ n
fits_read n patches i x lt is fits =
    subst (λ (k : ℕ). x.first + k ≤ n) x.long
    (subst (λ (r : ℕ × ℕ). r.0 + r.1 ≤ n) (get_or-map range (pieces patches) i (0, []) ∙ ap range (read_piece patches i x lt is (0, []))) (fits i (omega (arith, lt, length-map (pieces patches) range, length-map patches piece))))
