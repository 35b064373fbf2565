use Rattle.std.proofs.{Common.{◌≡◌, ◌∙◌, ℕ, refl, sym, subst}, Math.Logic.∥∥₁_map}
use Rattle.hsm.specs.{Calls.{Sits, StandsBy, stage_of, state_in_word}, Rule.HasNoted, declared.view.Action.TheVariants.Looked}
use Rattle.hsm.specs.{Seating.harts_in, States.IsBetweenCalls}
use Rattle.sbi_calls.specs.{Both.{known, views}, declared.tables.Seats.Seats}
use Rattle.hart_threads.{specs.Ends.IsStateOf, proofs.Looping.{between_after, seats_named, sits_after}}
use Rattle.hart_threads.proofs.ends.at_rest.Goals as goal

pub status-harts-requires-clause-acts : goal.status-harts-requires-clause-acts
status-harts-requires-clause-acts g c =
    let e = c.args.ended in
    subst (λ (k : ℕ). Sits k (views e.local.seats)) (sym c.id.ensures) (sits_after e.hart.id e.local.seats e.why e.local.doze c.requires.stands)

pub returns-clause-state : goal.returns-clause-state
returns-clause-state g c =
    let e = c.args.ended in
    let s = c.status-harts in
    let between = subst (λ (k : ℕ). IsBetweenCalls k (views e.local.seats)) (sym c.id-2.ensures) (between_after e.hart.id e.local.seats e.why e.local.doze c.requires.stands) in
    subst (λ (k : ℕ). StandsBy s.result.1 k (harts_in s.result.0)) c.id-2.ensures (s.ensures.own between)

pub invariant_of-result : goal.invariant_of-result
invariant_of-result g c =
    let e = c.args.ended in
    let s = c.status-harts in
    let after = s.ensures in
    let now : Seats = record { harts = s.result.0; pending = e.local.seats.pending } in
    let later = harts_in s.result.0 in
    let between = subst (λ (k : ℕ). IsBetweenCalls k (views e.local.seats)) (sym c.id-2.ensures) (between_after e.hart.id e.local.seats e.why e.local.doze c.requires.stands) in
    let told = subst (λ (k : ℕ). StandsBy s.result.1 k later) c.id-2.ensures (after.own between) in
    let looked : IsStateOf s.result.1 e.hart.id (known e.local.seats) (known now) = (
      after.steps.0,
      subst (λ (k : ℕ). s.result.1 ≡ state_in_word k after.steps.0) c.id-2.ensures after.steps.1,
      (subst (λ (k : ℕ). HasNoted k (stage_of k (views e.local.seats)) (Looked after.steps.0) (views e.local.seats) later) c.id.ensures after.steps.2, refl),
      after.stays,
      told,
    ) in
    record {
      halted = c.requires.halted;
      theirs = seats_named c.args.tables.now now c.requires.named (after.seat, c.requires.seats.1);
      alone = (after.stays.harts ∙ c.requires.alone.0, c.requires.alone.1);
      gone = ∥∥₁_map c.requires.gone (λ gone. (known e.local.seats, gone, looked));
    }
