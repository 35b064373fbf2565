-- What a commit that has ended has made of a disk on which a crash left its first record selected.
use Rattle.std.proofs.Common.{◌≡◌, ◌∙◌, ◌+◌, ◌-◌, ◌<◌, ℕ, Result, Ok, Err, ap, subst, arith}
use Rattle.board_model.specs.{Durable.DurableState, Shapes.Size, declared.refusal.Refusal.TheVariants.{Device, Down}}
use Rattle.disk.specs.{Calls.MakesCalls, Facts.{Facts, Content, sector, Torn, LeavesSince}, FaultState.FaultState}
use Rattle.disk.specs.Moments.{called_then, leaves_weaker}
use Rattle.layout.specs.{Records.{record_of, gate_of, IsInRange}, declared.records.{Record.Record, Version.TheVariants.Two}}
use Rattle.layout.proofs.SpelledRecords.{selected_by-gate_of}
use Rattle.store.{specs.{Answers.GoesTo, Commits.{SameAreas, SelectsAs, SelectsEither, IsUp, IsInDoubt}}, proofs.Answering.{goes_to, wrote}}
use Rattle.store.specs.{Leaves.{LeavesOnly, LeavesEither, StandsForEither, WroteACommand}, Standing.{selected, state_of, StandsFor}}
use Rattle.store.proofs.{Called.called_apart, Contents.{gate_selects, kept_live, stands_there, areas_then}}
use Rattle.store.proofs.States.{of_areas, state_same, up_leaves, doubt_leaves, stands_for, either_stands}
use Rattle.store.proofs.Steps.{still_recorded, while_recorded, while_selected, in_doubt, committed, still_up}
use Rattle.planned_store.specs.{Reached.{Recorded, CommitAt}, declared.commits.CommitStep.TheVariants.{Committed, Unchanged, InDoubt}}

module _ {D : Type 0} (f : D → Facts) (m : D → FaultState) (may_keep : (d : D) → (f d).may_leave (f d).content) (only_now : (d : D) (c : Content) → (f d).since (f d).moment c → (f d).may_leave c)
    (size : Size) (side : ℕ) (r next : Record) (known : side < 2) (a b : D) (up : IsUp (f a) size side r) (range : IsInRange size next) where
  -- ---- at each moment the one or the other record is selected
  recording : (d : D) → Recorded f m side next a d → LeavesSince (f a) (f d) (SelectsEither size side r next (f a).content)
  recording d did = while_recorded (f a) (f d) size side r next known up (only_now a) did.called.crash

  module _ (d : D) (did : Recorded f m side next a d) where
    gating : {T E : Type 0} (n : ℕ) (e : Result T E) → MakesCalls {T = T} {E = E} n (Torn 1 1) (f d) (f b) (m d) (m b) e → LeavesSince (f a) (f b) (SelectsEither size side r next (f a).content)
    gating n e made = while_selected (f a) (f d) size side r next known up range (may_keep a) did.written did.only (f b) made.crash (recording d did)

    record_areas : MakesCalls {T = Unit {0}} {E = Unit {0}} 2 SameAreas (f a) (f d) (m a) (m d) (Ok tt)
    record_areas = called_apart 2 (2 + (1 - side)) (f a) (f d) (m a) (m d) (Ok tt) (omega arith) did.called

    gate_areas : (e : Result (Unit {0}) (Unit {0})) → MakesCalls 2 (Torn 1 1) (f d) (f b) (m d) (m b) e → MakesCalls {T = Unit {0}} {E = Unit {0}} 4 SameAreas (f a) (f b) (m a) (m b) e
    gate_areas e made = called_then 2 2 SameAreas (f a) (f d) (f b) (m a) (m d) (m b) tt e areas_then record_areas (called_apart 2 1 (f d) (f b) (m d) (m b) e (omega arith) made)

  -- ---- it is done
  module _ (done : CommitAt f m side next Committed a b) where
    pub done_up : IsUp (f b) size (1 - side) next
    done_up =
        committed (f a) (f done.0) size side r next known up range (may_keep a) done.1.written done.1.only (f b) (gate_of (1 - side)) (selected_by-gate_of (1 - side) (omega arith)) done.2.written done.2.only

    pub done_moment : LeavesSince (f a) (f b) (SelectsEither size side r next (f a).content)
    done_moment = gating done.0 done.1 2 (Ok tt) done.2.called

    pub done_calls : MakesCalls {T = Unit {0}} {E = Unit {0}} 4 SameAreas (f a) (f b) (m a) (m b) (Ok tt)
    done_calls = gate_areas done.0 done.1 (Ok tt) done.2.called

    pub done_wrote : next.version ≡ Two → WroteACommand (f a) (f b)
    done_wrote two =
        wrote (f a) (f b) size side next known (up (f a).content (may_keep a)).selects.gate range two
        (λ x left.
        let same : x ≡ (f b).content = done.2.only x left in (
          ap selected same ∙ gate_selects (f done.0).content (f b).content (gate_of (1 - side)) (1 - side) (selected_by-gate_of (1 - side) (omega arith)) done.2.written,
          ap (λ (y : Content). sector y (2 + (1 - side))) same ∙ done.2.written.elsewhere.after (2 + (1 - side)) (omega arith) ∙ stands_there (2 + (1 - side)) (record_of next) (f a).content (f done.0).content done.1.written,
          ap (λ (y : Content). sector y (2 + side)) same ∙ done.2.written.elsewhere.after (2 + side) (omega arith) ∙ kept_live side known (f a).content (f done.0).content done.1.called.content,
        ))

  -- ---- the record could not be made durable
  module _ (failed : CommitAt f m side next Unchanged a b) where
    pub unchanged_up : IsUp (f b) size side r
    unchanged_up = still_up (f a) (f b) size side r next known up failed.crash failed.content

    pub unchanged_moment : LeavesSince (f a) (f b) (SelectsEither size side r next (f a).content)
    unchanged_moment = while_recorded (f a) (f b) size side r next known up (only_now a) failed.crash

    pub unchanged_still : LeavesSince (f a) (f b) (SelectsAs size side r (f a).content)
    unchanged_still = still_recorded (f a) (f b) size side r next known up (only_now a) failed.crash

    pub unchanged_calls : MakesCalls {T = Unit {0}} {E = Unit {0}} 2 SameAreas (f a) (f b) (m a) (m b) (Err tt)
    unchanged_calls = called_apart 2 (2 + (1 - side)) (f a) (f b) (m a) (m b) (Err tt) (omega arith) failed

  -- ---- nor could the gate
  module _ (failed : CommitAt f m side next InDoubt a b) where
    pub doubted : IsInDoubt (f b) size side r next
    doubted = in_doubt (f a) (f failed.0) size side r next known up range (may_keep a) failed.1.written failed.1.only (f b) failed.2.crash failed.2.content

    pub doubt_moment : LeavesSince (f a) (f b) (SelectsEither size side r next (f a).content)
    doubt_moment = gating failed.0 failed.1 2 (Err tt) failed.2

    pub doubt_calls : MakesCalls {T = Unit {0}} {E = Unit {0}} 4 SameAreas (f a) (f b) (m a) (m b) (Err tt)
    doubt_calls = gate_areas failed.0 failed.1 (Err tt) failed.2

-- ---- what a crash leaves, in states: of a record that makes t of the state
module _ (a b : Facts) (size : Size) (side : ℕ) (r next : Record) (known : side < 2) (t : DurableState) (makes : state_of size next a.content ≡ t) where
  either_moment : LeavesSince a b (SelectsEither size side r next a.content) → LeavesSince a b (StandsForEither size (state_of size r a.content) t)
  either_moment any = leaves_weaker a b (SelectsEither size side r next a.content) (StandsForEither size (state_of size r a.content) t) any
      (λ c one. subst (λ (u : DurableState). StandsForEither size (state_of size r a.content) u c) makes (either_stands size side r next a.content c one))

  old_same : SameAreas a.content b.content → state_of size r b.content ≡ state_of size r a.content
  old_same areas = state_same size r a.content b.content (of_areas size r.image a.content b.content areas)

  pub next_same : SameAreas a.content b.content → state_of size next b.content ≡ t
  next_same areas = state_same size next a.content b.content (of_areas size next.image a.content b.content areas) ∙ makes

  pub goes_done : (n : ℕ) → LeavesSince a b (SelectsEither size side r next a.content) → SameAreas a.content b.content → IsUp b size (1 - side) next → GoesTo a b size (state_of size r a.content) t (Ok n)
  goes_done n any areas up = goes_to a b size (state_of size r a.content) t (Ok n) (either_moment any) (subst (LeavesOnly b size) (next_same areas) (up_leaves b size (1 - side) next up))

  still_moment : LeavesSince a b (SelectsAs size side r a.content) → LeavesSince a b (λ c. StandsFor c size (state_of size r a.content))
  still_moment each = leaves_weaker a b (SelectsAs size side r a.content) (λ c. StandsFor c size (state_of size r a.content)) each (stands_for size side r a.content)

  pub goes_unchanged : LeavesSince a b (SelectsEither size side r next a.content) → LeavesSince a b (SelectsAs size side r a.content) → SameAreas a.content b.content → IsUp b size side r
      → GoesTo a b size (state_of size r a.content) t (Err Device)
  goes_unchanged any each areas up =
      goes_to a b size (state_of size r a.content) t (Err Device) (either_moment any) (subst (LeavesOnly b size) (old_same areas) (up_leaves b size side r up), still_moment each)

  pub goes_doubt : LeavesSince a b (SelectsEither size side r next a.content) → SameAreas a.content b.content → IsInDoubt b size side r next → GoesTo a b size (state_of size r a.content) t (Err Down)
  goes_doubt any areas doubt =
      goes_to a b size (state_of size r a.content) t (Err Down) (either_moment any)
      (subst (λ (s : DurableState). LeavesEither b size s t) (old_same areas)
      (subst (λ (u : DurableState). LeavesEither b size (state_of size r b.content) u) (next_same areas) (doubt_leaves b size side r next known doubt)))
