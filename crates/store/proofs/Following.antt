-- The record that a command makes stands for the state after the command.
use Rattle.std.proofs.Common.{◌≡◌, ◌∙◌, ℕ, ◌≤◌, ◌<◌, ◌^◌, Option, Some, None, is_some, if◌then◌else◌, refl, sym, ap, subst, arith}
use Rattle.std.specs.Prelude.{IfSome}
use Rattle.board_model.{specs.{Durable.{DurableState, HasValidNumbers, refusal_of, after}, Shapes.Size}, proofs.Table.stays_valid}
use Rattle.board_model.{proofs.Steps.{ByCommand, Drops, Keeps, by_command}, specs.declared.durable.{ImageHead.ImageHead, Command.Command}}
use Rattle.board_model.specs.{Views.{change_of, durable_of, head_of, reason_number}, declared.durable.{Durable.Durable, Trial.Trial}}
use Rattle.board_model.specs.declared.durable.Reason.{Reason, TheVariants.{NoReason, SystemFailure}}
use Rattle.store.{specs.{Entries.is_change, Standing.{image_of, state_of}, Follows.{next_of, Follows}}, proofs.Renewing.trial_in_two}
use Rattle.board_model.specs.declared.durable.Entry.TheVariants as entries
use Rattle.disk.specs.Facts.{Content}
use Rattle.layout.specs.{Records.{durable_in, head_in, IsInRange, IsTrialIn}, declared.{saved.Saved.Saved, records.Record.Record}}
use Rattle.layout.specs.declared.records.Version.TheVariants.{Two}

-- the record's durable state is that of its state
head_same : (size : Size) (image : Option Saved) (content : Content) → head_of (image_of size image content) ≡ head_in image
head_same size None content = refl
head_same size (Some saved) content = refl

pub durable_same : (size : Size) (r : Record) (content : Content) → durable_of (state_of size r content) ≡ durable_in r
durable_same size r content = ap (λ (h : Option ImageHead). from_head h) (head_same size r.image content)
  where
    from_head : Option ImageHead → Durable
    from_head h = record { image = h; slot = r.slot; reason = r.reason; next = r.next; trial = r.trial }

-- an image that stays is the same
kept_image : (size : Size) (image : Option Saved) (content : Content) → (if is_some (head_of (image_of size image content)) then image else None) ≡ image
kept_image size None content = refl
kept_image size (Some saved) content = refl

abbrev made : ℕ → Reason → ℕ → Option Trial → Option Saved → Record
made slot reason next trial image =
    record { version = Two; slot = slot; reason = reason; next = next; image = image; trial = trial }

small_reason : (reason : Reason) → reason_number reason < 256 ^ 4
small_reason NoReason = omega arith
small_reason SystemFailure = omega arith

-- the numbers of a state, as its record has them
trial_valid : (t : Option Trial) → IsTrialIn Two t → IfSome t (λ t. (t.fallback ≤ 3) × (t.left ≤ 7))
trial_valid None is = tt
trial_valid (Some t) is = let v = is t refl in (v.1, v.2)

valid_trial : (t : Option Trial) → IfSome t (λ t. (t.fallback ≤ 3) × (t.left ≤ 7)) → IsTrialIn Two t
valid_trial None valid = λ t is. cc
valid_trial (Some x) valid = λ t is. subst (λ (y : Trial). (Two ≡ Two) × (y.fallback ≤ 3) × (y.left ≤ 7)) (let same : x ≡ t = cc in same) (refl, valid.0, valid.1)

module _ (size : Size) (r : Record) where
  -- a command that leaves serials and image: the record with that slot, reason and trial
  kept_follows : (c : Command) (slot : ℕ) (reason : Reason) (trial : Option Trial)
      → ((content : Content) → after (state_of size r content) (change_of c) ≡ record (state_of size r content) { slot = slot; reason = reason; trial = trial })
      → (IsInRange size r → (slot ≤ 3) × IsTrialIn Two trial) → Follows size r (entries.Command c) (made slot reason r.next trial r.image)
  kept_follows c slot reason trial next fits = record {
    state = λ content. sym (next content);
    in_range = λ range.
        let f = fits range in
        record { slot = f.0; image = range.image; trial = f.1; fit = (omega arith, (omega (arith, f.0), (small_reason reason, range.fit.1.1.1))) };
    version = refl;
    image = λ keeps. refl;
  }

  no_image : IsInRange size r → IsInRange size (made r.slot r.reason r.next r.trial None)
  no_image range = record {
    slot = range.slot;
    image = λ x is. cc;
    trial = trial_in_two r.version r.trial range.trial;
    fit = (omega arith, (range.fit.1.0, (range.fit.1.1.0, (omega arith, range.fit.1.1.1.1))));
  }

  trial_two : IsInRange size r → IsTrialIn Two r.trial
  trial_two range = trial_in_two r.version r.trial range.trial

  module _ (content : Content) where
    abbrev here : DurableState
    here = state_of size r content

    follows_kept : (c : Command) (slot : ℕ) (reason : Reason) (trial : Option Trial)
        → ((d : Content) → after (state_of size r d) (change_of c) ≡ record (state_of size r d) { slot = slot; reason = reason; trial = trial })
        → (IsInRange size r → (slot ≤ 3) × IsTrialIn Two trial) → Follows size r (entries.Command c) (next_of r (durable_of (after here (change_of c))))
    follows_kept c slot reason trial next fits =
        subst (Follows size r (entries.Command c))
        (sym (ap (λ (s : DurableState). next_of r (durable_of s)) (next content) ∙ ap (made slot reason r.next trial) (kept_image size r.image content)))
        (kept_follows c slot reason trial next fits)

    valid : (c : Command) → refusal_of here (change_of c) ≡ None → IsInRange size r → HasValidNumbers (after here (change_of c))
    valid c goes range = stays_valid here (change_of c) (range.slot, trial_valid r.trial (trial_two range)) goes

    -- by whether the command drops the image
    follows_by : (c : Command) → ByCommand c → refusal_of here (change_of c) ≡ None → Follows size r (entries.Command c) (next_of r (durable_of (after here (change_of c))))
    follows_by c (Drops step drops) goes =
        subst (Follows size r (entries.Command c)) (sym (ap (λ (s : DurableState). next_of r (durable_of s)) (drops here)))
        (record {
          state = λ d. sym (drops (state_of size r d));
          in_range = no_image;
          version = refl;
          image = λ keeps. let dropped = ap is_change step in cc;
        })
    follows_by c (Keeps leaves) goes =
        let next = after here (change_of c) in
        follows_kept c next.slot next.reason next.trial
        (λ d.
        leaves.apart here (image_of size r.image d)
        ∙ ap (λ (n : ℕ). record (state_of size r d) { slot = next.slot; reason = next.reason; trial = next.trial; next = n }) (leaves.next here))
        (λ range. let v = valid c goes range in (v.0, valid_trial next.trial v.1))

    follows_so : (command : Command) → refusal_of here (change_of command) ≡ None → Follows size r (entries.Command command) (next_of r (durable_of (after here (change_of command))))
    follows_so command goes = follows_by command (by_command command) goes

    pub follows : (command : Command) (d : Durable) → refusal_of here (change_of command) ≡ None → d ≡ durable_of (after here (change_of command))
        → Follows size r (entries.Command command) (next_of r d)
    follows command d goes is = subst (λ (e : Durable). Follows size r (entries.Command command) (next_of r e)) (sym is) (follows_so command goes)
