-- What a list of events tells of a hart that is answered, and of a life that takes no more commands.
-- Source: docs/DURABLE.md, "What an open finds"; SBI specification 2.0, chapter 13.
use Rattle.std.specs.Prelude.{◌≡◌, ℕ, true, List, [], ◌∷◌, ◌++◌, Some, ⊤}
use Rattle.board_model.specs.Durable.{Image, Consume, ends_life}
use Rattle.theorem.specs.Events.{Event, WasOpened, WasAcknowledged, WasDoubtful, WasCut, WasResumed, World, new_world, Runs}

-- an event that ends no life and answers no hart
abbrev pub IsBeforeAnswer : Event → Type 0
IsBeforeAnswer (WasOpened s) = ⊥
IsBeforeAnswer WasCut = ⊥
IsBeforeAnswer (WasResumed n) = ⊥
IsBeforeAnswer e = ⊤

abbrev pub AreBeforeAnswer : List Event → Type 0
AreBeforeAnswer [] = ⊤
AreBeforeAnswer (e ∷ events) = IsBeforeAnswer e × AreBeforeAnswer events

-- The events before the answer to the hart of the image with serial n: in this life, after a Consume that was
-- acknowledged while that image stood, no hart was answered yet.
pub record AnswersOnce (events : List Event) (n : ℕ) : Type 0 where
  pub before : List Event
  pub later : List Event
  pub consumed : events ≡ before ++ WasAcknowledged Consume ∷ later
  pub world : World
  pub ran : Runs new_world before world
  pub image : Image
  pub stands : world.state.image ≡ Some image
  pub serial : image.serial ≡ n
  pub same_life : AreBeforeAnswer later

-- after it the life takes no more commands
abbrev pub EndsCommands : Event → Type 0
EndsCommands (WasAcknowledged c) = ends_life c ≡ true
EndsCommands (WasDoubtful c) = ⊤
EndsCommands WasCut = ⊤
EndsCommands e = ⊥

-- none of the events is an open
abbrev pub HaveNoOpen : List Event → Type 0
HaveNoOpen [] = ⊤
HaveNoOpen (WasOpened s ∷ events) = ⊥
HaveNoOpen (e ∷ events) = HaveNoOpen events

-- in none of them a command went to the disk
abbrev pub HaveNoCommand : List Event → Type 0
HaveNoCommand [] = ⊤
HaveNoCommand (WasAcknowledged c ∷ events) = ⊥
HaveNoCommand (WasDoubtful c ∷ events) = ⊥
HaveNoCommand (e ∷ events) = HaveNoCommand events
