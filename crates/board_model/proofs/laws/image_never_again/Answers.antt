use Rattle.std.proofs.Common.{◌≡◌, ◌∙◌, ℕ, ◌≤◌, ◌<◌, ◌+◌, List, [], ◌∷◌, Option, Some, None, ap, arith}
use Rattle.board_model.{proofs.Steps.{by_image, image_after}, specs.Durable.{DurableState, Image, Change, after, fold, HasImage, IsOrdered}}
use Rattle.board_model.proofs.laws.image_never_again.Goals as goal

-- a serial that was given out, of which no image stands
abbrev IsGone : ℕ → ℕ → Option Image → Type 0
IsGone serial next image = (serial < next) × (((i : Image) × (image ≡ Some i) × (i.serial ≡ serial)) → ⊥)

abbrev serial_of : Option Image → ℕ
serial_of None = 0
serial_of (Some i) = i.serial

-- a suspension stands under the next serial, so under none below it
fresh_serial : (next serial : ℕ) → serial < next → (i : Image) → i.serial ≡ next → IsGone serial (next + 1) (Some i)
fresh_serial next serial below i is = (omega arith, λ has. let same : i.serial ≡ serial = ap serial_of has.1 ∙ has.2 in absurd (omega (arith, same, is, below)))

none_stands : (next serial : ℕ) → serial < next → IsGone serial next None
none_stands next serial below = (below, λ has. let e = has.1 in cc)

stays_gone : (s : DurableState) (cs : List Change) (serial : ℕ) → IsGone serial s.next s.image → HasImage (fold s cs) serial → ⊥
stays_gone s [] serial gone = gone.1
stays_gone s (c ∷ cs) serial gone =
    stays_gone (after s c) cs serial
    (image_after (IsGone serial) s c (by_image c) (fresh_serial s.next serial gone.0) (none_stands s.next serial gone.0) gone)

next_rises : (s : DurableState) (c : Change) → s.next ≤ (after s c).next
next_rises s c = image_after (λ n i. s.next ≤ n) s c (by_image c) (λ i is. omega arith) (omega arith) (omega arith)

-- a standing serial is below the next one, also after a further command
below_next : (s : DurableState) (c : Change) (serial : ℕ) → IsOrdered s → HasImage s serial → serial < (after s c).next
below_next s c serial ordered (i, is, named) =
    let given : i.serial < s.next = rw is at ordered in
    omega (arith, given, named, next_rises s c)

pub returns : goal.returns
returns c = λ s command cs serial ordered stands gone. stays_gone (after s command) cs serial (below_next s command serial ordered stands, gone)
