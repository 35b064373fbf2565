use Rattle.std.proofs.{Common.{◌≡◌, ◌∙◌, ◌+◌, ◌<◌, ◌^◌, ℕ, OnOk, length, ap, subst, sym, arith}, lemmas.Result.IfOk-from_err}
use Rattle.crew.{specs.Handed.Handed, proofs.Windowed.{now_new, now_length, still_length, none_made, some_made}}
use Rattle.crew.proofs.windows.run_window.Goals.{then-threads-gt1, else-threads-gt1}
use Rattle.crew.proofs.windows.run_window.Goals as goal

-- how many slots there are before and after the threads
pub make_rows-requires-clause-some : goal.make_rows-requires-clause-some
make_rows-requires-clause-some g c κs within = omega (arith, c.if-threads-gt1.true)

pub make_rows-requires-clause-room : goal.make_rows-requires-clause-room
make_rows-requires-clause-room g c κs within =
    subst (λ (n : ℕ). c.args.first + n < 2 ^ 64) (sym (ap length c.as_mut_slice.ensures.value ∙ c.in_ok-slots.ensures.slots.0)) c.requires.room

pub make_rows-requires-clause-has : goal.make_rows-requires-clause-has
make_rows-requires-clause-has g c κs within i lt =
    c.requires.has i (subst (λ (n : ℕ). i < n) (ap length c.as_mut_slice.ensures.value ∙ c.in_ok-slots.ensures.slots.0) lt)

pub make_rows-requires-clause-slots : goal.make_rows-requires-clause-slots
make_rows-requires-clause-slots g c κs within =
    none_made (g.T.Task.is_row c.args.task.now) c.args.first c.in_ok-slots.slots.items c.as_mut_slice.result.now c.as_mut_slice.ensures.value c.in_ok-slots.ensures.slots.1

pub hand_on-requires-clause-room : goal.hand_on-requires-clause-room
hand_on-requires-clause-room g c κs within =
    let now = c.as_mut_slice-2.result.now in
    let slots = c.in_ok-slots.slots in
    let long : length now ≡ length slots.items = elim c.if-threads-gt1.branch as (λ _. length now ≡ length slots.items) [
      | then-threads-gt1 w ↦ now_length slots c.if-threads-gt1.slots w.as_mut_slice.result.now w.make_rows.new.slots now w.as_mut_slice.ensures.value w.make_rows.ensures.as_many w.slots-is c.as_mut_slice-2.ensures.value
      | else-threads-gt1 w ↦ still_length slots c.if-threads-gt1.slots now w.slots-is c.as_mut_slice-2.ensures.value
    ] in
    subst (λ (n : ℕ). c.args.first + n < 2 ^ 64) (sym (long ∙ c.in_ok-slots.ensures.slots.0)) c.requires.room

pub hand_on-requires-clause-has : goal.hand_on-requires-clause-has
hand_on-requires-clause-has g c κs within i lt =
    let now = c.as_mut_slice-2.result.now in
    let slots = c.in_ok-slots.slots in
    let long : length now ≡ length slots.items = elim c.if-threads-gt1.branch as (λ _. length now ≡ length slots.items) [
      | then-threads-gt1 w ↦ now_length slots c.if-threads-gt1.slots w.as_mut_slice.result.now w.make_rows.new.slots now w.as_mut_slice.ensures.value w.make_rows.ensures.as_many w.slots-is c.as_mut_slice-2.ensures.value
      | else-threads-gt1 w ↦ still_length slots c.if-threads-gt1.slots now w.slots-is c.as_mut_slice-2.ensures.value
    ] in
    c.requires.has i (subst (λ (n : ℕ). i < n) (long ∙ c.in_ok-slots.ensures.slots.0) lt)

pub hand_on-requires-clause-made : goal.hand_on-requires-clause-made
hand_on-requires-clause-made g c κs within =
    let now = c.as_mut_slice-2.result.now in
    let slots = c.in_ok-slots.slots in
    let is = g.T.Task.is_row c.args.task.now in
    elim c.if-threads-gt1.branch [
      | then-threads-gt1 w ↦ some_made is c.args.first w.as_mut_slice.result.now w.make_rows.new.slots now w.make_rows.ensures.as_many
          (now_new slots c.if-threads-gt1.slots w.as_mut_slice.result.now w.make_rows.new.slots now w.as_mut_slice.ensures.value w.make_rows.ensures.as_many w.slots-is c.as_mut_slice-2.ensures.value) w.make_rows.ensures.slots
      | else-threads-gt1 w ↦ none_made is c.args.first slots.items now (c.as_mut_slice-2.ensures.value ∙ ap (λ v. v.items) w.slots-is) c.in_ok-slots.ensures.slots.1
    ]

pub returns : goal.returns
returns g c = record {
  handed = (
      let now = c.as_mut_slice-2.result.now in
      let slots = c.in_ok-slots.slots in
      let long : length now ≡ length slots.items = elim c.if-threads-gt1.branch as (λ _. length now ≡ length slots.items) [
        | then-threads-gt1 w ↦ now_length slots c.if-threads-gt1.slots w.as_mut_slice.result.now w.make_rows.new.slots now w.as_mut_slice.ensures.value w.make_rows.ensures.as_many w.slots-is c.as_mut_slice-2.ensures.value
        | else-threads-gt1 w ↦ still_length slots c.if-threads-gt1.slots now w.slots-is c.as_mut_slice-2.ensures.value
      ] in
      subst (λ (n : ℕ). OnOk c.hand_on.result (Handed (g.T.Task.is_row c.args.task.now) g.S.Sink.takes c.args.first n c.args.sink.now c.hand_on.new.sink)) (long ∙ c.in_ok-slots.ensures.slots.0) c.hand_on.ensures.handed);
}

-- there was no memory for the slots
pub returns-in_err-slots : goal.returns-in_err-slots
returns-in_err-slots g c = record { handed = (IfOk-from_err c.from_residual.result _ c.from_residual.ensures.0) }
