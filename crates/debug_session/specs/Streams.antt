-- Bytes as they come, and the packets in them. A $ always begins a packet, since it stands in none.
use Rattle.std.specs.Prelude.{◌≡◌, ℕ, List, [], ◌∷◌, ◌++◌, Option, Some, None, length, nat_le, ◌==◌, ◌||◌, if◌then◌else◌}
use Rattle.std.specs.List.{flat_map}
use Rattle.std.specs.Option.{option_to_list}
use Rattle.debug_session.specs.Packets.{payload_read}
use Rattle.debug_session.specs.declared.heard.PacketEvent.{PacketEvent}
use Rattle.debug_session.specs.declared.heard.PacketEvent.TheVariants as heards
use Rattle.debug_session.specs.declared.heard.PacketPlace.{PacketPlace}
use Rattle.debug_session.specs.declared.heard.PacketPlace.TheVariants.{Between, Body, Sum, LastDigit}

-- where a reader stands, and what came since $
pub record Standing : Type 0 where
  pub place : PacketPlace
  pub body : List ℕ

-- where it stands after a byte; of what is longer than 65,536 bytes nothing is read
abbrev pub standing_after : PacketPlace → List ℕ → ℕ → Standing
standing_after Between body b = if b == 36 then record { place = Body; body = [] } else record { place = Between; body = body }
standing_after Body body b =
    if b == 36 then record { place = Body; body = [] } else
    (if b == 35 then record { place = Sum; body = body } else
    (if nat_le 65536 (length body) then record { place = Between; body = body } else record { place = Body; body = body ++ b ∷ [] }))
standing_after Sum body b = record { place = LastDigit b; body = body }
standing_after (LastDigit high) body b = record { place = Between; body = body }

-- the payload of the packet that a byte completes
abbrev pub packet_told : PacketPlace → List ℕ → ℕ → Option (List ℕ)
packet_told Between body b = None
packet_told Body body b = None
packet_told Sum body b = None
packet_told (LastDigit high) body b = payload_read body high b

abbrev pub payload_in : PacketEvent → Option (List ℕ)
payload_in heards.Nothing = None
payload_in (heards.Packet payload) = Some payload.items
payload_in heards.Damaged = None
payload_in heards.Received = None
payload_in heards.Again = None
payload_in heards.Interrupt = None

-- what a byte between packets says alone
abbrev pub sign_of : ℕ → PacketEvent
sign_of b = if b == 43 then heards.Received else (if b == 45 then heards.Again else (if b == 3 then heards.Interrupt else heards.Nothing))

-- that packet was heard, or a damaged one where there is none
abbrev pub EndsPacket : Option (List ℕ) → PacketEvent → Type 0
EndsPacket (Some payload) (heards.Packet packet) = packet.items ≡ payload
EndsPacket (Some payload) heard = ⊥
EndsPacket None heard = heard ≡ heards.Damaged

-- What a byte completes: all that a reader hears, and where. After # it is a packet with the sum that the two digits say.
abbrev pub Completes : PacketPlace → List ℕ → ℕ → PacketEvent → Type 0
Completes Between body b heard = heard ≡ sign_of b
Completes Body body b heard =
    heard ≡ (if (b == 36) || (b == 35) then heards.Nothing else (if nat_le 65536 (length body) then heards.Damaged else heards.Nothing))
Completes Sum body b heard = heard ≡ heards.Nothing
Completes (LastDigit high) body b heard = EndsPacket (payload_read body high b) heard

-- what these bytes complete, one after another, for a reader that stands there, and then stands there
abbrev pub Hears : Standing → List ℕ → List PacketEvent → Standing → Type 0
Hears now [] [] last = now ≡ last
Hears now [] (what ∷ more) last = ⊥
Hears now (b ∷ bytes) [] last = ⊥
Hears now (b ∷ bytes) (what ∷ more) last =
    Completes now.place now.body b what × Hears (standing_after now.place now.body b) bytes more last

-- the payloads of the packets among what was heard
abbrev pub packets_in : List PacketEvent → List (List ℕ)
packets_in heard = flat_map (λ what. option_to_list (payload_in what)) heard

-- the payloads of the packets in a stream of bytes
abbrev pub packets_read : PacketPlace → List ℕ → List ℕ → List (List ℕ)
packets_read place body [] = []
packets_read place body (b ∷ more) =
    option_to_list (packet_told place body b) ++ packets_read (standing_after place body b).place (standing_after place body b).body more
