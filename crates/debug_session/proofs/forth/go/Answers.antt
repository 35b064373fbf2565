use Rattle.std.proofs.Common.{None, Some, ◌≡◌, ◌≤◌, ◌<◌, ℕ, Bool, List, Option, true, false, slice_index_or, refl, sym, ap, ◌∙◌, add-zero, subst, arith}
use Rattle.std.{specs.Prelude.IfSome, proofs.lemmas.Result.IfOk-from_err}
use Rattle.debug_session.{specs.declared.rounds.NextPart.NextPart, proofs.Firsts.{halt_then, no_halt, none_along, other_halt}}
use Rattle.debug_session.proofs.Wents.{left_went, part_more, went_none, left_same}
use Rattle.debug_session.proofs.forth.go.Goals as goal

pub parts-init : goal.parts-init
parts-init g c = record {
  went = (0, add-zero c.args.round.left, went_none (λ h. slice_index_or c.args.round.harts h false ≡ true) c.args.setting.now.shape.now c.args.timeline.now c.requires.at);
  first = no_halt c.args.setting.now.shape.now c.args.stops.now c.args.round.first c.args.timeline.now;
  harts = refl;
}

pub parts-preserved-in_default : goal.parts-preserved-in_default
parts-preserved-in_default g c = record { went = left_same (λ h. slice_index_or c.args.round.harts h false ≡ true) c.next_part.new.round.left c.parts.round.left c.args.round.left c.args.setting.now.shape.now c.args.timeline.now c.parts.timeline c.in-Ok.ensures.left c.parts.invariant.went; first = c.parts.invariant.first; harts = c.in-Ok.ensures.harts ∙ c.parts.invariant.harts }

pub parts-preserved : goal.parts-preserved
parts-preserved g c =
    let Has : Option NextPart → Type 0 = λ x. IfSome x (λ part. (part.hart < c.args.setting.now.shape.now.harts) × (slice_index_or c.parts.round.harts part.hart false ≡ true)) in
    let has : Has (Some c.in-Some.part) = subst Has c.in-Some.is c.in-Ok.ensures.hart in
    let May : ℕ → Type 0 = λ h. slice_index_or c.args.round.harts h false ≡ true in
    let may : May c.in-Some.part.hart = ap (λ (hs : List Bool). slice_index_or hs c.in-Some.part.hart false) (sym c.parts.invariant.harts) ∙ has.1 in
    record {
      went = part_more May c.in-Some.part.hart c.parts.round.left c.next_part.new.round.left c.round_part.new.round.left c.args.round.left c.args.setting.now.shape.now c.args.timeline.now c.parts.timeline c.round_part.new.timeline may c.in-Ok.ensures.left c.parts.invariant.went c.in_ok-halt.ensures.went;
      first = none_along c.args.setting.now.shape.now c.args.stops.now c.in-Some.part.hart c.args.round.first c.args.timeline.now c.round_part.new.timeline (halt_then c.args.setting.now.shape.now c.args.stops.now c.args.round.first c.in-Some.part.hart c.in_ok-halt.field-0 None c.args.timeline.now c.parts.timeline c.round_part.new.timeline c.in_default-2.is c.parts.invariant.first c.in_ok-halt.ensures.first);
      harts = c.in_ok-halt.ensures.harts ∙ c.in-Ok.ensures.harts ∙ c.parts.invariant.harts;
    }

pub returns-in-Err-clause-went : goal.returns-in-Err-clause-went
returns-in-Err-clause-went g c = left_went (λ h. slice_index_or c.args.round.harts h false ≡ true) c.parts.round.left c.args.round.left c.args.setting.now.shape.now c.args.timeline.now c.parts.timeline c.parts.invariant.went

pub returns-in-Err-clause-first : goal.returns-in-Err-clause-first
returns-in-Err-clause-first g c = other_halt c.args.setting.now.shape.now c.args.stops.now c.args.round.first c.args.round.first c.in-Err.halt c.args.timeline.now c.parts.timeline c.in-Err.ensures.over c.parts.invariant.first

pub returns-in-Err-clause-there : goal.returns-in-Err-clause-there
returns-in-Err-clause-there g c = c.requires.first

pub returns-then-swap-clause-went : goal.returns-then-swap-clause-went
returns-then-swap-clause-went g c = left_went (λ h. slice_index_or c.args.round.harts h false ≡ true) c.next_part.new.round.left c.args.round.left c.args.setting.now.shape.now c.args.timeline.now c.parts.timeline (left_same (λ h. slice_index_or c.args.round.harts h false ≡ true) c.next_part.new.round.left c.parts.round.left c.args.round.left c.args.setting.now.shape.now c.args.timeline.now c.parts.timeline c.in-Ok.ensures.left c.parts.invariant.went)

pub returns-then-swap-clause-first : goal.returns-then-swap-clause-first
returns-then-swap-clause-first g c = other_halt c.args.setting.now.shape.now c.args.stops.now c.args.round.first c.in-Some.part.hart _ c.args.timeline.now c.parts.timeline refl c.parts.invariant.first

pub returns-then-swap-clause-there : goal.returns-then-swap-clause-there
returns-then-swap-clause-there g c =
    let Has : Option NextPart → Type 0 = λ x. IfSome x (λ part. (part.hart < c.args.setting.now.shape.now.harts) × (slice_index_or c.parts.round.harts part.hart false ≡ true)) in
    let has : Has (Some c.in-Some.part) = subst Has c.in-Some.is c.in-Ok.ensures.hart in
    has.0

pub round_part-requires-clause-at : goal.round_part-requires-clause-at
round_part-requires-clause-at g c κs within = c.parts.invariant.went.2.at

pub round_part-requires-clause-hart : goal.round_part-requires-clause-hart
round_part-requires-clause-hart g c κs within =
    let Has : Option NextPart → Type 0 = λ x. IfSome x (λ part. (part.hart < c.args.setting.now.shape.now.harts) × (slice_index_or c.parts.round.harts part.hart false ≡ true)) in
    let has : Has (Some c.in-Some.part) = subst Has c.in-Some.is c.in-Ok.ensures.hart in
    has.0

pub round_part-requires-clause-most : goal.round_part-requires-clause-most
round_part-requires-clause-most g c κs within =
    let Few : Option NextPart → Type 0 = λ x. IfSome x (λ part. (part.most ≤ c.parts.round.left) × (part.most ≤ 1000000)) in
    let few : Few (Some c.in-Some.part) = subst Few c.in-Some.is c.in-Ok.ensures.most in
    (omega (arith, few.0, c.in-Ok.ensures.left), few.1)

pub returns-in-Some-2-clause-went : goal.returns-in-Some-2-clause-went
returns-in-Some-2-clause-went g c =
    let Has : Option NextPart → Type 0 = λ x. IfSome x (λ part. (part.hart < c.args.setting.now.shape.now.harts) × (slice_index_or c.parts.round.harts part.hart false ≡ true)) in
    let has : Has (Some c.in-Some.part) = subst Has c.in-Some.is c.in-Ok.ensures.hart in
    let May : ℕ → Type 0 = λ h. slice_index_or c.args.round.harts h false ≡ true in
    let may : May c.in-Some.part.hart = ap (λ (hs : List Bool). slice_index_or hs c.in-Some.part.hart false) (sym c.parts.invariant.harts) ∙ has.1 in
    left_went May c.round_part.new.round.left c.args.round.left c.args.setting.now.shape.now c.args.timeline.now c.round_part.new.timeline (part_more May c.in-Some.part.hart c.parts.round.left c.next_part.new.round.left c.round_part.new.round.left c.args.round.left c.args.setting.now.shape.now c.args.timeline.now c.parts.timeline c.round_part.new.timeline may c.in-Ok.ensures.left c.parts.invariant.went c.in_ok-halt.ensures.went)

pub returns-in-Some-2-clause-first : goal.returns-in-Some-2-clause-first
returns-in-Some-2-clause-first g c = halt_then c.args.setting.now.shape.now c.args.stops.now c.args.round.first c.in-Some.part.hart c.in_ok-halt.field-0 (Some c.in-Some-2.halt) c.args.timeline.now c.parts.timeline c.round_part.new.timeline c.in-Some-2.is c.parts.invariant.first c.in_ok-halt.ensures.first

pub returns-in-Some-2-clause-there : goal.returns-in-Some-2-clause-there
returns-in-Some-2-clause-there g c =
    let Has : Option NextPart → Type 0 = λ x. IfSome x (λ part. (part.hart < c.args.setting.now.shape.now.harts) × (slice_index_or c.parts.round.harts part.hart false ≡ true)) in
    let has : Has (Some c.in-Some.part) = subst Has c.in-Some.is c.in-Ok.ensures.hart in
    has.0

pub returns-clause-went : goal.returns-clause-went
returns-clause-went g c = left_went (λ h. slice_index_or c.args.round.harts h false ≡ true) c.parts.round.left c.args.round.left c.args.setting.now.shape.now c.args.timeline.now c.parts.timeline c.parts.invariant.went

pub returns-clause-first : goal.returns-clause-first
returns-clause-first g c = other_halt c.args.setting.now.shape.now c.args.stops.now c.args.round.first c.args.round.first _ c.args.timeline.now c.parts.timeline refl c.parts.invariant.first

pub returns-clause-there : goal.returns-clause-there
returns-clause-there g c = c.requires.first

pub returns-in_err-halt-clause-went : goal.returns-in_err-halt-clause-went
returns-in_err-halt-clause-went g c = IfOk-from_err c.from_residual.result _ c.from_residual.ensures.0

pub returns-in_err-halt-clause-first : goal.returns-in_err-halt-clause-first
returns-in_err-halt-clause-first g c = IfOk-from_err c.from_residual.result _ c.from_residual.ensures.0

pub returns-in_err-halt-clause-there : goal.returns-in_err-halt-clause-there
returns-in_err-halt-clause-there g c = IfOk-from_err c.from_residual.result _ c.from_residual.ensures.0
