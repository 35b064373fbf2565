-- Each memory that is read, or with which a board goes on, is that of a suspension, and no suspension goes on twice: said
-- of what is asked and what is seen alone. Source: docs/DURABLE.md, "Commands" and "Many lives".
use Rattle.std.specs.Prelude.{◌≡◌, ◌⊎◌, List, [], ◌∷◌}
use Rattle.board_model.specs.Durable.{Change, Suspend}
use Rattle.board_model.specs.declared.refusal.Refusal.TheVariants.{Down}
use Rattle.hart.specs.State.{started}
use Rattle.theorem.specs.declared.asks.Asked.{Asked}
use Rattle.theorem.specs.declared.asks.Asked.TheVariants as asked
use Rattle.theorem.specs.declared.asks.Seen.{Seen}
use Rattle.theorem.specs.declared.asks.Seen.TheVariants.{Acked, Read, Woke, Denied}

-- The suspensions of which an image may stand after that: the last one that was acknowledged, and those in doubt since;
-- and none once a board went on.
abbrev pub standing : Asked → Seen → List Change → List Change
standing (asked.Suspend memory at) (Acked n) images = Suspend at.hart at.address at.opaque memory ∷ []
standing (asked.Suspend memory at) (Denied Down) images = Suspend at.hart at.address at.opaque memory ∷ images
standing ask (Woke hart memory) images = []
standing ask seen images = images

-- the memory is that suspension's, byte for byte; and the hart starts at its address, by its number and opaque value
abbrev pub IsOf : Seen → Change → Type 0
IsOf (Read read) (Suspend hart address opaque memory) = read ≡ memory
IsOf (Woke woken read) (Suspend hart address opaque memory) = (woken ≡ started hart address opaque) × (read ≡ memory)
IsOf seen c = ⊥

abbrev pub IsOfOne : Seen → List Change → Type 0
IsOfOne seen [] = ⊥
IsOfOne seen (c ∷ images) = IsOf seen c ⊎ IsOfOne seen images

-- what is seen, where it shows an image
abbrev pub MayShow : Seen → List Change → Type 0
MayShow (Read memory) images = IsOfOne (Read memory) images
MayShow (Woke hart memory) images = IsOfOne (Woke hart memory) images
MayShow seen images = Unit {0}

abbrev pub ShowsSuspended : List Change → List Asked → List Seen → Type 0
ShowsSuspended images (ask ∷ asks) (seen ∷ answers) =
    MayShow seen images × ShowsSuspended (standing ask seen images) asks answers
ShowsSuspended images asks answers = Unit {0}
