-- A store that was just opened takes a boot.
use Rattle.std.proofs.Common.{◌≡◌, ◌<◌, ℕ, Option, None, Some, IfSome, refl, sym, subst}
use Rattle.board_model.specs.{Durable.{DurableState, Image}, Shapes.Size}
use Rattle.disk.specs.Facts.{Content, Facts}
use Rattle.store.specs.{Answers.{StoreView, Opened}, Leaves.IsSettled, Standing.{image_of, StandsFor}}
use Rattle.board.specs.{Begins.HasItsHart, Readies.IsOpen}

-- an image that is made of what is saved has its hart
as_saved : {S : Type 0} (made : Option S → Option Image) (hart : S → ℕ) (harts : ℕ) (saved : Option S) → made None ≡ None → ((x : S) → (i : Image) × (made (Some x) ≡ Some i) × (i.hart ≡ hart x)) → ((x : S) → saved ≡ Some x → hart x < harts)
    → IfSome (made saved) (λ i. i.hart < harts)
as_saved made hart harts None none some within = subst (λ (o : Option Image). IfSome o (λ i. i.hart < harts)) (sym none) tt
as_saved made hart harts (Some x) none some within =
    let is = some x in
    subst (λ (o : Option Image). IfSome o (λ i. i.hart < harts)) (sym is.1) (subst (λ (h : ℕ). h < harts) (sym is.2) (within x refl))

-- the hart of an image that stands is one of its board
has_its_hart : (c : Content) (size : Size) (s : DurableState) → StandsFor c size s → HasItsHart size s
unfolding StandsFor
has_its_hart c size s stands =
    let r = stands.1 in
    let within = stands.2.is.0.image in
    subst (HasItsHart size) (sym stands.3) (as_saved (λ o. image_of size o c) (λ x. x.head.hart) size.harts r.image refl (λ x. (_, refl, refl)) (λ x is. (within x is).hart))

pub is_open : (disk : Facts) (store : StoreView) → Opened disk store → IsSettled disk store.disk → IsOpen store
is_open disk store opened settled = record {
  begins = opened.begins;
  only = opened.only;
  none_out = settled.none_out;
  has = has_its_hart disk.content store.size store.life.found opened.reads;
}
