-- Packets of GDB's Remote Serial Protocol. Source: "Debugging with GDB", appendix "GDB Remote Serial Protocol",
-- "Overview": $, the payload, # and two digits of the sum of what stands between; in it }, # and $ (and in what a
-- stub sends *, which would begin a run) are written as } and the byte with bit 5 turned.
use Rattle.std.specs.Prelude.{ℕ, ◌+◌, ◌-◌, ◌*◌, ◌/◌, ◌%◌, Bool, true, false, List, [], ◌∷◌, ◌++◌, Option, Some, None, nat_lt, nat_le, ◌&&◌, ◌||◌, ◌==◌, if◌then◌else◌, sum}
use Rattle.std.specs.List.{flat_map}

-- the bytes that stand in a packet by an escape alone
abbrev pub is_special : ℕ → Bool
is_special b = (b == 35) || ((b == 36) || ((b == 125) || (b == 42)))

-- bit 5 turned
abbrev pub toggled : ℕ → ℕ
toggled b = if nat_lt (b % 64) 32 then b + 32 else b - 32

abbrev pub escaped : ℕ → List ℕ
escaped b = if is_special b then 125 ∷ toggled b ∷ [] else b ∷ []

-- what stands between $ and #
abbrev pub body_of : List ℕ → List ℕ
body_of payload = flat_map escaped payload

abbrev pub sum_of : List ℕ → ℕ
sum_of body = sum body % 256

abbrev pub digit_of : ℕ → ℕ
digit_of n = if nat_lt n 10 then 48 + n else 87 + n

abbrev pub framed_of : List ℕ → List ℕ
framed_of payload =
    36 ∷ (body_of payload ++ 35 ∷ digit_of (sum_of (body_of payload) / 16) ∷ digit_of (sum_of (body_of payload) % 16) ∷ [])

-- the number that a digit writes, of either case
abbrev pub value_of : ℕ → Option ℕ
value_of c =
    if nat_le 48 c && nat_le c 57 then Some (c - 48) else
    (if nat_le 97 c && nat_le c 102 then Some (c - 87) else
    (if nat_le 65 c && nat_le c 70 then Some (c - 55) else None))

-- bytes, and then that payload
abbrev pub led_by : List ℕ → Option (List ℕ) → Option (List ℕ)
led_by front None = None
led_by front (Some payload) = Some (front ++ payload)

-- the payload that a body spells, after an escape or not: none where it ends with an escape
abbrev pub spelled_by : Bool → List ℕ → Option (List ℕ)
spelled_by true [] = None
spelled_by false [] = Some []
spelled_by true (b ∷ more) = led_by (toggled b ∷ []) (spelled_by false more)
spelled_by false (b ∷ more) = if b == 125 then spelled_by true more else led_by (b ∷ []) (spelled_by false more)

-- two digits write that sum
abbrev pub says_sum : Option ℕ → Option ℕ → ℕ → Bool
says_sum None low n = false
says_sum (Some high) None n = false
says_sum (Some high) (Some low) n = high * 16 + low == n

-- the payload of a packet
abbrev pub payload_read : List ℕ → ℕ → ℕ → Option (List ℕ)
payload_read body high low =
    if says_sum (value_of high) (value_of low) (sum_of body) then spelled_by false body else None
