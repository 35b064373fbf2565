-- A reader hears what was framed; what it hears has the packets of its bytes.
use Rattle.std.proofs.Common.{◌≡◌, ◌∙◌, ℕ, ◌+◌, ◌/◌, ◌%◌, ◌≤◌, Bool, true, false, List, [], ◌∷◌, ◌++◌, Option, Some, None, if◌then◌else◌, length, inl, inr, refl, sym, ap, arith}
use Rattle.std.{specs.{Prelude.{◌==◌, ◌||◌, ⊤, nat_le}, Option.option_to_list}, proofs.lemmas.Bool.{eqb-true, or_cases, or_parts, lt-leb}}
use Rattle.std.proofs.lemmas.List.{append_assoc, append-nil, length-append}
use Rattle.debug_session.{specs.declared.heard.{PacketEvent.PacketEvent, PacketPlace.PacketPlace}, proofs.Spelled.frame_read}
use Rattle.debug_session.specs.declared.heard.PacketPlace.TheVariants.{Between, Body, Sum, LastDigit}
use Rattle.debug_session.specs.Packets.{is_special, toggled, body_of, sum_of, digit_of, framed_of, payload_read}
use Rattle.debug_session.specs.Streams.{Standing, Completes, EndsPacket, Hears, packet_told, packets_in, packets_read, payload_in, standing_after}
use Rattle.debug_session.specs.declared.heard.PacketEvent.TheVariants as heards

-- a byte that neither begins nor ends a body
abbrev IsPlain : ℕ → Type 0
IsPlain b = ((b == 36) ≡ false) × ((b == 35) ≡ false)

abbrev ArePlain : List ℕ → Type 0
ArePlain [] = ⊤
ArePlain (b ∷ more) = IsPlain b × ArePlain more

toggled_plain : (b : ℕ) → is_special b ≡ true → IsPlain (toggled b)
toggled_plain b e =
    elim (or_cases _ _ e) [
      | inl x ↦ rw (eqb-true b 35 x) (refl, refl)
      | inr f ↦
          elim (or_cases _ _ f) [
            | inl x ↦ rw (eqb-true b 36 x) (refl, refl)
            | inr g ↦
                elim (or_cases _ _ g) [
                  | inl x ↦ rw (eqb-true b 125 x) (refl, refl)
                  | inr x ↦ rw (eqb-true b 42 x) (refl, refl)
                ]
          ]
    ]

escaped_plain : (s : Bool) (b : ℕ) (more : List ℕ) → is_special b ≡ s → ArePlain more → ArePlain ((if s then 125 ∷ toggled b ∷ [] else b ∷ []) ++ more)
escaped_plain true b more e rest = ((refl, refl), (toggled_plain b e, rest))
escaped_plain false b more e rest = (((or_parts _ _ (or_parts _ _ e).1).0, (or_parts _ _ e).0), rest)

body_plain : (payload : List ℕ) → ArePlain (body_of payload)
body_plain [] = tt
body_plain (b ∷ more) = escaped_plain (is_special b) b (body_of more) refl (body_plain more)

body_heard : (before body more : List ℕ) → ArePlain body → length before + length body ≤ 65536 → packets_read Body before (body ++ 35 ∷ more) ≡ packets_read Sum (before ++ body) more
body_heard before [] more plain l = ap (λ x. packets_read Sum x more) (sym (append-nil before))
body_heard before (b ∷ body) more plain l =
    let to : standing_after Body before b ≡ record { place = Body; body = before ++ b ∷ [] } = rw (plain.0.0, plain.0.1, lt-leb 65536 (length before) (omega (arith, l))) refl in
    ap (λ (s : Standing). packets_read s.place s.body (body ++ 35 ∷ more)) to
    ∙ body_heard (before ++ b ∷ []) body more plain.1 (omega (arith, l, length-append before (b ∷ [])))
    ∙ ap (λ x. packets_read Sum x more) (append_assoc before (b ∷ []) body)

pub frame_heard : (payload before more : List ℕ) → length (body_of payload) ≤ 65536 → packets_read Between before (framed_of payload ++ more) ≡ payload ∷ packets_read Between (body_of payload) more
frame_heard payload before more l =
    let body = body_of payload in
    let high = digit_of (sum_of body / 16) in
    let low = digit_of (sum_of body % 16) in
    ap (λ x. packets_read Body [] x) (append_assoc body (35 ∷ high ∷ low ∷ []) more)
    ∙ body_heard [] body (high ∷ low ∷ more) (body_plain payload) (omega (arith, l))
    ∙ ap (λ x. option_to_list x ++ packets_read Between body more) (frame_read payload)

-- ---- what is heard
sign_is_none : (x y z : Bool) → payload_in (if x then heards.Received else (if y then heards.Again else (if z then heards.Interrupt else heards.Nothing))) ≡ None
sign_is_none true y z = refl
sign_is_none false true z = refl
sign_is_none false false true = refl
sign_is_none false false false = refl

body_is_none : (x y : Bool) → payload_in (if x then heards.Nothing else (if y then heards.Damaged else heards.Nothing)) ≡ None
body_is_none true y = refl
body_is_none false true = refl
body_is_none false false = refl

ended_packet : (found : Option (List ℕ)) (what : PacketEvent) → EndsPacket found what → payload_in what ≡ found
ended_packet (Some payload) (heards.Packet packet) is = ap Some is
ended_packet (Some payload) heards.Nothing never = absurd never
ended_packet (Some payload) heards.Damaged never = absurd never
ended_packet (Some payload) heards.Received never = absurd never
ended_packet (Some payload) heards.Again never = absurd never
ended_packet (Some payload) heards.Interrupt never = absurd never
ended_packet None what is = ap payload_in is

-- a byte completes a packet just where the packets of the bytes have it
completed : (place : PacketPlace) (body : List ℕ) (b : ℕ) (what : PacketEvent) → Completes place body b what → payload_in what ≡ packet_told place body b
completed Between body b what is = ap payload_in is ∙ sign_is_none (b == 43) (b == 45) (b == 3)
completed Body body b what is = ap payload_in is ∙ body_is_none ((b == 36) || (b == 35)) (nat_le 65536 (length body))
completed Sum body b what is = ap payload_in is
completed (LastDigit high) body b what is = ended_packet (payload_read body high b) what is

pub packets_heard : (now last : Standing) (bytes : List ℕ) (heard : List PacketEvent) → Hears now bytes heard last → packets_in heard ≡ packets_read now.place now.body bytes
packets_heard now last [] [] is = refl
packets_heard now last [] (what ∷ more) never = absurd never
packets_heard now last (b ∷ bytes) [] never = absurd never
packets_heard now last (b ∷ bytes) (what ∷ more) (this, rest) =
    ap (λ x. option_to_list x ++ packets_in more) (completed now.place now.body b what this)
    ∙ ap (λ (xs : List (List ℕ)). option_to_list (packet_told now.place now.body b) ++ xs) (packets_heard (standing_after now.place now.body b) last bytes more rest)
