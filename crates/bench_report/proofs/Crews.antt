-- The order in which a bench saves its lanes, and the crew that keeps it.
use Rattle.std.proofs.Common.{◌≡◌, [], ◌∷◌, zero, suc, Result, Ok, Err, IsOk, MatchResult, refl, arith}
use Rattle.board_model.specs.declared.refusal.Refusal.{Refusal, TheVariants.BadShape}
use Rattle.crew.specs.Orders.{IsOrder}

rising : IsOrder (0 ∷ 1 ∷ 2 ∷ 3 ∷ [])
rising zero less = refl
rising (suc zero) less = refl
rising (suc (suc zero)) less = refl
rising (suc (suc (suc zero))) less = refl
rising (suc (suc (suc (suc i)))) less = absurd (omega (arith, less))

pub in_order : {T : Type 0} (P : T → Type 0) (made : Result T Refusal) → MatchResult made P (λ e. (e ≡ BadShape) × (IsOrder (0 ∷ 1 ∷ 2 ∷ 3 ∷ []) → ⊥)) → IsOk made
in_order P (Ok crew) is = refl
in_order P (Err e) is = absurd (is.1 rising)
