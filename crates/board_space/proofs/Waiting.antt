-- Turns of one hart, one after another, and whether they lead back.
use Rattle.std.proofs.{Common.{◌≡◌, ℕ, zero, suc, ◌+◌, ◌<◌, ◌≤◌, inl, inr, refl, sym, ◌∙◌, subst, arith}, lemmas.Bool.cases_lt}
use Rattle.model_board.specs.{Boards.Board, Events.{Event, Turn, Does, TurnOn}}
use Rattle.state_space.specs.Bounded.{Turns}
use Rattle.board_space.{specs.{Few.{turn_number, WaitsAt}, Space.{Asked, IsOne, Steps}}, proofs.EventNumbers.{small, below, same_event}}
use Rattle.board_space.proofs.Few.{turn_below, turn_past}

module _ (asked : Asked) where
  pub turns_more : (h n : ℕ) (b c d : Board) → Turns (Steps asked) turn_number h n b c → Steps asked (turn_number h) c d → Turns (Steps asked) turn_number h (suc n) b d
  turns_more h zero b c d first did = (d, subst (λ (x : Board). Steps asked (turn_number h) x d) first did, refl)
  turns_more h (suc n) b c d first did = (first.0, first.1, turns_more h n first.0 c d first.2 did)

  -- a turn of a hart of the board is the event of its number
  pub turn_step : (h : ℕ) (b c : Board) → h < asked.size.harts → asked.size.harts ≤ 8 → TurnOn h b c → Steps asked (turn_number h) b c
  turn_step h b c low few turn = (Turn h, sym (turn_below h (omega (arith, low, few))), ((low, tt), turn))

  module _ (few : asked.size.harts ≤ 8) (one : (e : Event) (b c d : Board) → Does asked.payload asked.size e b c → Does asked.payload asked.size e b d → c ≡ d) where
    state_determines_step : (n : ℕ) (b c d : Board) → Steps asked n b c → Steps asked n b d → c ≡ d
    state_determines_step n b c d x y =
        let same : x.0 ≡ y.0 = same_event x.0 y.0 (small asked x.0 few x.2.0) (small asked y.0 few y.2.0) (x.1 ∙ sym y.1) in
        one y.0 b c d (subst (λ (e : Event). Does asked.payload asked.size e b c) same x.2.1) y.2.1

    pub one_turns : (h n : ℕ) (b c d : Board) → Turns (Steps asked) turn_number h n b c → Turns (Steps asked) turn_number h n b d → c ≡ d
    one_turns h zero b c d x y = x ∙ sym y
    one_turns h (suc n) b c d x y =
        let same : y.0 ≡ x.0 = state_determines_step (turn_number h) b y.0 x.0 y.1 x.1 in
        one_turns h n x.0 c d x.2 (subst (λ (z : Board). Turns (Steps asked) turn_number h n z d) same y.2)

    -- so many turns were made, and none of them led back
    pub away_more : (h n : ℕ) (b c d : Board) → Turns (Steps asked) turn_number h (suc n) b d → (d ≡ b → ⊥) → ((k : ℕ) → k < n → Turns (Steps asked) turn_number h (suc k) b b → ⊥) → (k : ℕ) → k < n + 1 → Turns (Steps asked) turn_number h (suc k) b b → ⊥
    away_more h n b c d turns other before k low back =
        elim (cases_lt k n) [
          | inl less ↦ before k less back
          | inr from ↦ (
              let same : k ≡ n = omega (arith, from, low) in
              other (one_turns h (suc n) b d b turns (subst (λ (i : ℕ). Turns (Steps asked) turn_number h (suc i) b b) same back)))
        ]

    -- a hart that the board lacks does not wait
    pub lacking : (h : ℕ) (b : Board) → asked.size.harts ≤ h → WaitsAt asked h b → ⊥
    lacking h b none waits = lacks h b waits.2.0 none waits.2.1
      where
        lacks : (h : ℕ) (b c : Board) → asked.size.harts ≤ h → Steps asked (turn_number h) b c → ⊥
        lacks h b c none step =
            elim (cases_lt h 8) [
              | inl low ↦ (
                  let is : step.0 ≡ Turn h = same_event step.0 (Turn h) (small asked step.0 few step.2.0) low (step.1 ∙ turn_below h low) in
                  let known : IsOne asked (Turn h) = subst (λ (e : Event). IsOne asked e) is step.2.0 in
                  omega (arith, known.0, none))
              | inr high ↦ omega (arith, below step.0 (small asked step.0 few step.2.0), step.1, turn_past h high)
            ]
