-- What is heard in an input, and how that ended.
use Rattle.std.specs.Prelude.{◌≡◌, ℕ, Bool, true, false, List, [], ◌∷◌, ◌++◌, Option}
use Rattle.std.specs.Io.KnownBytes.{Consumes, IsAtEnd}
use Rattle.std.specs.List.{FoldsTo}
use Rattle.debug_session.specs.Streams.{Hears, Standing}
use Rattle.debug_session.specs.declared.heard.PacketEvent.{PacketEvent}
use Rattle.debug_session.specs.declared.heard.PacketEvent.TheVariants as heards
use Rattle.debug_session.specs.Asked.{request_of}
use Rattle.debug_session.specs.declared.requests.GdbLook.TheVariants as looks
use Rattle.debug_session.specs.declared.requests.GdbRequest.{GdbRequest}
use Rattle.debug_session.specs.declared.requests.GdbRequest.TheVariants as asks
use Rattle.debug_session.specs.declared.heard.PacketPlace.TheVariants.{Between}
use Rattle.sbigdb.specs.declared.listening.Silence.{Silence}
use Rattle.sbigdb.specs.declared.listening.Silence.TheVariants as silences

-- a request ends the talk
abbrev pub ends_talk : GdbRequest → Bool
ends_talk (asks.Look looks.Detach) = true
ends_talk (asks.Look looks.Kill) = true
ends_talk asked = false

-- nothing is read after it
abbrev pub is_last : PacketEvent → Bool
is_last (heards.Packet packet) = ends_talk (request_of packet.items)
is_last what = false

-- a reader that has heard nothing yet
abbrev pub newly : Standing
newly = record { place = Between; body = [] }

-- these were handed on, one after another, and more was wanted after each
abbrev pub AreTaken : {F : Type 0} → (F → PacketEvent → Bool → F → Type 0) → F → List PacketEvent → F → Type 0
AreTaken gives first heard last = FoldsTo (λ before what after. gives before what true after) first heard last

-- All that was heard was handed on, and more was wanted after each; but where no more was wanted, that was said after the last of it.
abbrev pub HandsOn : {F : Type 0} → (F → PacketEvent → Bool → F → Type 0) → Silence → F → List PacketEvent → F → Type 0
HandsOn {F} gives silences.Unwanted first heard last =
    (all : List PacketEvent) × (what : PacketEvent) × (mid : F) × (heard ≡ all ++ what ∷ []) × AreTaken gives first all mid × gives mid what false last
HandsOn gives silences.InputEnded first heard last = AreTaken gives first heard last
HandsOn gives silences.InputFailed first heard last = AreTaken gives first heard last
HandsOn gives silences.Memory first heard last = AreTaken gives first heard last

-- What was handed on is what the bytes that were taken of the input complete, all of it and in its order. Where the input
-- ended, nothing of it is left.
pub record HandedOn {F : Type 0} (gives : F → PacketEvent → Bool → F → Type 0) (why : Silence) (first : F) (input : Option (List ℕ)) : Type 0 where
  pub heard : List PacketEvent
  pub last : F
  pub handed : HandsOn gives why first heard last
  pub bytes : List ℕ
  pub left : Option (List ℕ)
  pub taken : Consumes input left bytes
  pub standing : Standing
  pub told : Hears newly bytes heard standing
  pub ended : why ≡ silences.InputEnded → IsAtEnd left
