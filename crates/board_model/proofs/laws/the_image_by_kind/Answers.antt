use Rattle.std.proofs.Common.{◌≡◌, ◌+◌, Option, Some, None, refl}
use Rattle.board_model.specs.Durable.{DurableState, Image, Change, after, image_step, MakesImage, DropsImage, LeavesImage}
use Rattle.board_model.proofs.Steps.{ByImage, Made, Dropped, Left, by_image, left_image}
use Rattle.board_model.proofs.laws.the_image_by_kind.Goals as goal

made : (s : DurableState) (c : Change) → ByImage c → image_step c ≡ MakesImage → ((i : Image) × ((after s c).image ≡ Some i) × (i.serial ≡ s.next)) × ((after s c).next ≡ s.next + 1)
made s c (Made hart address opaque memory) is = ((_, refl, refl), refl)
made s c (Dropped step drops) is = cc
made s c (Left leaves) is = (let no : ⊥ = (let step = leaves.step in cc) in absurd no)

dropped : (s : DurableState) (c : Change) → ByImage c → image_step c ≡ DropsImage → after s c ≡ record s { image = None }
dropped s c (Made hart address opaque memory) is = cc
dropped s c (Dropped step drops) is = drops s
dropped s c (Left leaves) is = (let no : ⊥ = (let step = leaves.step in cc) in absurd no)

left : (s : DurableState) (c : Change) → ByImage c → image_step c ≡ LeavesImage → ((after s c).image ≡ s.image) × ((after s c).next ≡ s.next)
left s c (Made hart address opaque memory) is = (let no : ⊥ = cc in absurd no)
left s c (Dropped step drops) is = (let no : ⊥ = cc in absurd no)
left s c (Left leaves) is = (left_image c leaves s, leaves.next s)

apart : (s : DurableState) (x : Option Image) (c : Change) → ByImage c → image_step c ≡ LeavesImage → after (record s { image = x }) c ≡ record (after s c) { image = x }
apart s x c (Made hart address opaque memory) is = (let no : ⊥ = cc in absurd no)
apart s x c (Dropped step drops) is = (let no : ⊥ = cc in absurd no)
apart s x c (Left leaves) is = leaves.apart s x

pub returns-clause-made : goal.returns-clause-made
returns-clause-made c s d is = made s d (by_image d) is

pub returns-clause-dropped : goal.returns-clause-dropped
returns-clause-dropped c s d is = dropped s d (by_image d) is

pub returns-clause-left : goal.returns-clause-left
returns-clause-left c s d is = left s d (by_image d) is

pub returns-clause-apart : goal.returns-clause-apart
returns-clause-apart c s x d is = apart s x d (by_image d) is
