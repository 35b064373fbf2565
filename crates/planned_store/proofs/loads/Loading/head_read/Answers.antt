use Rattle.std.proofs.Common.{◌≡◌, ◌∙◌, ℕ, slice_index, Result, Ok, Err, sym, ap, arith}
use Rattle.board_model.specs.declared.refusal.Refusal.{Refusal}
use Rattle.layout.specs.declared.places.PlaceHead.{PlaceHead}
use Rattle.planned_store.proofs.loads.Loading.head_read.Goals as goal

abbrev Parsed : Type 0
Parsed = Result PlaceHead Refusal

same_head : (x y : PlaceHead) → ◌≡◌ {A = Parsed} (Ok x) (Ok y) → x ≡ y
same_head x y is = cc

not_read : (e : Refusal) (x : PlaceHead) → ◌≡◌ {A = Parsed} (Err e) (Ok x) → ⊥
not_read e x is = cc

pub returns-in_default : goal.returns-in_default
returns-in_default c page head fresh =
    not_read c.in_default.field-0 (record { page = page; serial = c.args.self.now.saved.head.serial })
    (sym c.in_default.is ∙ c.parse_place_head.ensures.exact (record { page = page; serial = c.args.self.now.saved.head.serial }) head)

pub returns-then-head-self : goal.returns-then-head-self
returns-then-head-self c page head fresh =
    let named : PlaceHead = record { page = page; serial = c.args.self.now.saved.head.serial } in
    let same = ap (λ (h : PlaceHead). h.serial) (same_head c.in-Ok.head named (sym c.in-Ok.is ∙ c.parse_place_head.ensures.exact named head)) in
    omega (arith, same, c.if-head-self.true)

pub returns-then-self-index-ne0 : goal.returns-then-self-index-ne0
returns-then-self-index-ne0 c page head fresh =
    let named : PlaceHead = record { page = page; serial = c.args.self.now.saved.head.serial } in
    let at = ap (λ (h : PlaceHead). h.page) (same_head c.in-Ok.head named (sym c.in-Ok.is ∙ c.parse_place_head.ensures.exact named head)) in
    let none : slice_index c.args.self.now.came c.index.result ≡ 0 = ap (λ (k : ℕ). slice_index c.args.self.now.came k) (c.index.ensures.value ∙ at) ∙ fresh in
    omega (arith, none, c.if-self-index-ne0.true)
