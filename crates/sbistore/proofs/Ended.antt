-- A command that ends leaves the open store that it makes of the one that was kept.
use Rattle.std.proofs.Common.{◌≡◌, ◌∙◌, ℕ, Bool, Result, inl, refl, sym, ap, subst, arith}
use Rattle.board_model.specs.{Durable.ends_life, Views.change_of, declared.{durable.Command.Command, refusal.Refusal.Refusal}}
use Rattle.planned_store.specs.{Plans.asked, Stores.{PlansCommand, receipt_of, store_after, store_at}, declared.commits.Commit.Commit}
use Rattle.planned_store.specs.declared.{commits.CommitStep.CommitStep, plans.{Plan.Plan, Request.TheVariants.Done}}
use Rattle.planned_store.specs.declared.commits.CommitStep.TheVariants.{WriteRecord, SyncRecord, WriteGate, SyncGate, Committed, Unchanged, InDoubt}
use Rattle.planned_store.specs.declared.plans.Plan.TheVariants.{Settling, ReadingSuperblock, ReadingGate, ReadingRecord, Found, Renewing, Committing, Formatting, Refused}
use Rattle.planned_store.specs.declared.stores.OpenStore.{OpenStore}
use Rattle.sbistore.specs.Ends.{flag_number, receipt_code, Keeps, Ended, EndsCommand, Begun, CommandBegun}
use Rattle.sbistore.specs.{Packed.{IsPacked, IsSelectedSound, IsSound}, declared.state.Sbistore.Sbistore}

pub ended_command : (plan : Plan) (k : Commit) (old new : Sbistore) → plan ≡ Committing k
    → ((life : OpenStore) → (over : Bool) → Keeps life old → old.ends ≡ flag_number over → EndsCommand life over plan new) → Ended plan old new
ended_command plan k old new is each =
    subst (λ (p : Plan). Ended p old new) (sym is)
    (subst (λ (p : Plan). (life : OpenStore) → (over : Bool) → Keeps life old → old.ends ≡ flag_number over → EndsCommand life over p new) is each)

module _ (life : OpenStore) (command : Command) (s old new : Sbistore) (kept : Keeps life s) where
  begun_at : (plan : Plan) (k : Commit) → plan ≡ Committing k → k.from ≡ life.selected → k.step ≡ WriteRecord → Begun plan s new
      → (new.asked ≡ 0) × IsPacked plan new × Keeps life new × (new.ends ≡ s.ends)
  begun_at plan k is from step begun =
      let on = subst (λ (p : Plan). Begun p s new) is begun in
      let more : asked (Committing k) ≡ Done → ⊥ = λ done. cc in
      let there = on.kept more in
      let keeps = on.keeps more life kept from in
      (there.0, subst (λ (p : Plan). IsPacked p new) (sym is) there.1, keeps.0, keeps.1)

  pub begun_command : (plan : Plan) → PlansCommand life command plan → (IsSound plan → Begun plan s new)
      → s.ends ≡ flag_number (ends_life (change_of command)) → CommandBegun life command old new
  begun_command plan plans begins ends =
      let range = (plans.follows life.selected.shape).in_range kept.selected.range in
      let sound : IsSound plan = subst IsSound (sym plans.is) ((kept.selected.shape.valid, kept.selected.known, kept.selected.range), range) in
      let b = begun_at plan (record { from = life.selected; next = plans.next; step = WriteRecord }) plans.is refl refl (begins sound) in
      record {
        keeps = b.2;
        begun = inl (plan, plans, b.0, b.1, subst (λ (n : ℕ). n ≡ flag_number (ends_life (change_of command))) (sym b.3) ends);
      }

module _ (life : OpenStore) (s : Sbistore) (kept : Keeps life s) where
  pub kept_ends : (n : ℕ) → Keeps life (record s { ends = n })
  kept_ends n =
      record {
        opened = kept.opened;
        selected = record {
          shape = record { valid = kept.selected.shape.valid; harts = kept.selected.shape.harts; pages = kept.selected.shape.pages; lanes = kept.selected.shape.lanes };
          side = kept.selected.side;
          known = kept.selected.known;
          live = kept.selected.live;
          range = kept.selected.range;
        };
        receipts = kept.receipts;
        over = kept.over;
        down = kept.down;
      }

  kept_ended : (n : ℕ) → Keeps life (record s { number = n; phase = 0 })
  kept_ended n =
      record {
        opened = kept.opened;
        selected = record {
          shape = record { valid = kept.selected.shape.valid; harts = kept.selected.shape.harts; pages = kept.selected.shape.pages; lanes = kept.selected.shape.lanes };
          side = kept.selected.side;
          known = kept.selected.known;
          live = kept.selected.live;
          range = kept.selected.range;
        };
        receipts = kept.receipts;
        over = kept.over;
        down = kept.down;
      }

  own_sound : IsSelectedSound life.selected
  own_sound = (kept.selected.shape.valid, kept.selected.known, kept.selected.range)

  step_sound : (over : Bool) (c : Commit) (step : CommitStep) → IsSound (Committing c) → IsSelectedSound (store_at life over c step).selected
  step_sound over c WriteRecord sound = own_sound
  step_sound over c SyncRecord sound = own_sound
  step_sound over c WriteGate sound = own_sound
  step_sound over c SyncGate sound = own_sound
  step_sound over c Committed sound = (sound.0.0, omega arith, sound.1)
  step_sound over c Unchanged sound = own_sound
  step_sound over c InDoubt sound = own_sound

  after_sound : (over : Bool) (plan : Plan) → IsSound plan → IsSelectedSound (store_after life over plan).selected
  after_sound over (Settling n) sound = own_sound
  after_sound over (ReadingSuperblock n) sound = own_sound
  after_sound over (ReadingGate size) sound = own_sound
  after_sound over (ReadingRecord size side) sound = own_sound
  after_sound over (Found found) sound = own_sound
  after_sound over (Renewing c) sound = own_sound
  after_sound over (Committing c) sound = step_sound over c c.step sound
  after_sound over (Formatting f) sound = own_sound
  after_sound over (Refused e) sound = own_sound

pub ends_command : (life opened next : OpenStore) (over set : Bool) (plan : Plan) (s mid new : Sbistore) (r : Result ℕ Refusal) (code : ℕ)
    → IsSound plan → Keeps life s → opened ≡ life → set ≡ over → next ≡ store_after opened set plan → r ≡ receipt_of opened plan
    → (IsSelectedSound next.selected → Keeps next mid) → code ≡ receipt_code r → new ≡ record mid { number = code; phase = 0 }
    → EndsCommand life over plan new
ends_command life opened next over set plan s mid new r code sound kept same sets is receipt keeps coded ended =
    let went : next ≡ store_after life over plan = is ∙ ap (λ (o : OpenStore). store_after o set plan) same ∙ ap (λ (b : Bool). store_after life b plan) sets in
    let there : IsSelectedSound next.selected = subst (λ (o : OpenStore). IsSelectedSound o.selected) (sym went) (after_sound life s kept over plan sound) in
    let keeps_it : Keeps (store_after life over plan) mid = subst (λ (o : OpenStore). Keeps o mid) went (keeps there) in (
      subst (λ (n : Sbistore). Keeps (store_after life over plan) n) (sym ended) (kept_ended (store_after life over plan) mid keeps_it code),
      ap (λ (n : Sbistore). n.number) ended ∙ coded ∙ ap receipt_code (receipt ∙ ap (λ (o : OpenStore). receipt_of o plan) same),
    )
