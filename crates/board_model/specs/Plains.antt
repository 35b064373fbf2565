-- The durable state with its memory, as the code has it, and the states of the model.
use Rattle.std.specs.Prelude.{◌≡◌, ◌⊎◌, ℕ, List, Option, Some, None, Result, IfOk, IfErr}
use Rattle.board_model.specs.declared.plain.Plain.{Plain}
use Rattle.board_model.specs.declared.plain.PlainImage.{PlainImage}
use Rattle.board_model.specs.declared.durable.Durable.{Durable}
use Rattle.board_model.specs.declared.refusal.Refusal.{Refusal}
use Rattle.board_model.specs.declared.refusal.Refusal.TheVariants.{Memory}
use Rattle.board_model.specs.Durable.{Image, DurableState, Change, after, refusal_of}
use Rattle.board_model.specs.Views.{number_of_refusal, durable_of}

-- The image of the model.
abbrev pub image_in : Option PlainImage → Option Image
image_in None = None
image_in (Some i) =
    Some (record {
      serial = i.head.serial;
      hart = i.head.hart;
      address = i.head.address;
      opaque = i.head.opaque;
      memory = i.memory;
    })

-- The durable state of the model.
abbrev pub state_in : Plain → DurableState
state_in p =
    record { slot = p.slot; reason = p.reason; next = p.next; trial = p.trial; image = image_in p.image }

-- What a call that computes the next state answers: the table's refusal, the state after the command, or that
-- memory was refused for it.
pub record IsPlainNext (s : DurableState) (c : Change) (result : Result Plain Refusal) : Type 0 where
  pub goes : IfOk result (λ p. (refusal_of s c ≡ None) × (state_in p ≡ after s c))
  pub refused : IfErr result
      (λ e. (refusal_of s c ≡ Some (number_of_refusal e)) ⊎ ((e ≡ Memory) × (refusal_of s c ≡ None)))

-- the state with that memory in its image, where it has one
abbrev pub HasMemory : List ℕ → Option Image → Type 0
HasMemory bytes None = Unit {0}
HasMemory bytes (Some i) = i.memory ≡ bytes

pub record IsPlainOf (d : Durable) (bytes : List ℕ) (p : Plain) : Type 0 where
  pub head : durable_of (state_in p) ≡ d
  pub memory : HasMemory bytes (state_in p).image
