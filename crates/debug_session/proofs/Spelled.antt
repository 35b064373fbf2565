-- What is written as a packet's body spells what it was written for.
use Rattle.std.proofs.Common.{◌≡◌, ◌∙◌, ℕ, ◌+◌, ◌-◌, ◌*◌, ◌/◌, ◌%◌, ◌<◌, Bool, true, false, List, [], ◌∷◌, ◌++◌, Option, Some, None, if◌then◌else◌, inl, inr, refl, ap, arith}
use Rattle.std.{specs.Prelude.{◌==◌}, proofs.lemmas.List.append_assoc}
use Rattle.std.proofs.lemmas.Bool.{eqb-true, eq-eqb, or_cases, or_parts, and_from, and_right, le-leb, lt-leb, lt-ltb, le-ltb, cases_lt}
use Rattle.debug_session.specs.Packets.{is_special, toggled, body_of, sum_of, digit_of, value_of, led_by, spelled_by, says_sum, payload_read}

-- bytes before bytes before a payload
pub led_both : (a b : List ℕ) (m : Option (List ℕ)) → led_by (a ++ b) m ≡ led_by a (led_by b m)
led_both a b None = refl
led_both a b (Some p) = ap Some (append_assoc a b p)

special_twice : (b : ℕ) → is_special b ≡ true → toggled (toggled b) ≡ b
special_twice b e =
    elim (or_cases _ _ e) [
      | inl x ↦ rw (eqb-true b 35 x) refl
      | inr f ↦
          elim (or_cases _ _ f) [
            | inl x ↦ rw (eqb-true b 36 x) refl
            | inr g ↦
                elim (or_cases _ _ g) [
                  | inl x ↦ rw (eqb-true b 125 x) refl
                  | inr x ↦ rw (eqb-true b 42 x) refl
                ]
          ]
    ]

plain_is_no_escape : (b : ℕ) → is_special b ≡ false → (b == 125) ≡ false
plain_is_no_escape b e = (or_parts _ _ (or_parts _ _ (or_parts _ _ e).1).1).0

spelled_step : (s : Bool) (b : ℕ) (more : List ℕ) → is_special b ≡ s → spelled_by false ((if s then 125 ∷ toggled b ∷ [] else b ∷ []) ++ more) ≡ led_by (b ∷ []) (spelled_by false more)
spelled_step true b more e = ap (λ x. led_by (x ∷ []) (spelled_by false more)) (special_twice b e)
spelled_step false b more e = rw (plain_is_no_escape b e) refl

pub spelled_body : (payload : List ℕ) → spelled_by false (body_of payload) ≡ Some payload
spelled_body [] = refl
spelled_body (b ∷ more) = spelled_step (is_special b) b (body_of more) refl ∙ ap (led_by (b ∷ [])) (spelled_body more)

digit_read : (n : ℕ) → n < 16 → value_of (digit_of n) ≡ Some n
digit_read n l =
    elim (cases_lt n 10) [
      | inl few ↦
          let at : digit_of n ≡ 48 + n = rw (lt-ltb n 10 few) refl in
          let is : value_of (48 + n) ≡ Some (48 + n - 48) = rw (and_from _ _ (le-leb 48 (48 + n) (omega arith)) (le-leb (48 + n) 57 (omega (arith, few)))) refl in
          ap value_of at ∙ is ∙ ap Some (omega arith)
      | inr many ↦
          let at : digit_of n ≡ 87 + n = rw (le-ltb n 10 many) refl in
          let is : value_of (87 + n) ≡ Some (87 + n - 87) = rw (and_right _ _ (lt-leb (87 + n) 57 (omega arith)), and_from _ _ (le-leb 97 (87 + n) (omega (arith, many))) (le-leb (87 + n) 102 (omega (arith, l)))) refl in
          ap value_of at ∙ is ∙ ap Some (omega arith)
    ]

sum_said : (n : ℕ) → n < 256 → says_sum (value_of (digit_of (n / 16))) (value_of (digit_of (n % 16))) n ≡ true
sum_said n l = rw (digit_read (n / 16) (omega (arith, l)), digit_read (n % 16) (omega arith)) (eq-eqb (n / 16 * 16 + n % 16) n (omega arith))

-- the payload of a packet is the one that was framed
pub frame_read : (payload : List ℕ) → payload_read (body_of payload) (digit_of (sum_of (body_of payload) / 16)) (digit_of (sum_of (body_of payload) % 16)) ≡ Some payload
frame_read payload = rw (sum_said (sum_of (body_of payload)) (omega arith)) (spelled_body payload)
