-- A suspension in the numbers and bytes of C.
use Rattle.std.proofs.Common.{◌≡◌, ◌∙◌, inr, ◌+◌, ◌^◌, ◌<◌, ℕ, List, Some, refl, sym, ap, subst, arith}
use Rattle.board_model.specs.{Shapes.IsValidAddress, Views.number_of_refusal, declared.refusal.Refusal.Refusal}
use Rattle.store.specs.declared.saving.Resumption.{Resumption}
use Rattle.planned_store.specs.{Plans.asked, declared.commits.{Commit.Commit, CommitStep.TheVariants.WriteRecord, Selected.Selected}}
use Rattle.planned_store.specs.declared.{plans.{Plan.TheVariants.Committing, Request.TheVariants.Done}, stores.OpenStore.OpenStore}
use Rattle.planned_store.specs.Saves.{save_sector, save_asks, save_asks_at, saved_record, commit_at, commit_of, HasPage, NoSave}
use Rattle.planned_store.specs.declared.saves.{Saving.Saving, SaveStep.SaveStep}
use Rattle.planned_store.specs.declared.saves.SaveStep.TheVariants.{WriteHead, WritePage, SyncArea, Saved, Failed}
use Rattle.sbistore.{specs.{Ends.Keeps, Packed.IsSelectedSound, declared.state.Sbistore.Sbistore}, proofs.Keeping.kept_on}
use Rattle.sbistore.specs.Images.{save_number, with_save, resumption, IsSavePacked, IsSaveSound, AsksSave, IsAskedSave, SaveBegun}

-- ---- the suspension that is kept
pub from_known : (life opened : OpenStore) (s : Saving) (store : Sbistore) → opened ≡ life → IsSavePacked life s store → opened.selected ≡ s.from
from_known life opened s store same packed = ap (λ (o : OpenStore). o.selected) same ∙ sym packed.from

-- it is as sound where its board and its end are the same
pub sound_on : (s t : Saving) → IsSaveSound s → t.from ≡ s.from → t.at ≡ s.at → IsSaveSound t
sound_on s t sound from at = record {
  from = subst IsSelectedSound (sym from) sound.from;
  hart = subst (λ (x : Selected). t.at.hart < x.shape.harts) (sym from) (subst (λ (r : Resumption). r.hart < s.from.shape.harts) (sym at) sound.hart);
  address = subst (λ (x : Selected). IsValidAddress x.shape t.at.address) (sym from) (subst (λ (r : Resumption). IsValidAddress s.from.shape r.address) (sym at) sound.address);
  serial = subst (λ (x : Selected). x.live.next + 1 < 2 ^ 64) (sym from) sound.serial;
}

-- ---- the call that it asks for
module _ (life : OpenStore) (s : Saving) (old new : Sbistore) (kind : ℕ) (put : List ℕ) (kept : Keeps life old) (ends : old.ends ≡ 1) (from : s.from ≡ life.selected) (page : HasPage s) (sound : IsSaveSound s) where
  abbrev asking : ℕ → Sbistore
  asking n = record (with_save s old) { asked = 1; number = n }

  still : (n : ℕ) → Keeps life (asking n)
  still n = kept_on life old (asking n) kept (record { opened = refl; harts = refl; pages = refl; lanes = refl; side = refl; live = refl; receipts = refl; over = refl; down = refl })

  packed_so : (n : ℕ) → save_number s.step < 3 → IsSavePacked life s (asking n)
  packed_so n going = record {
    keeps = still n;
    ends = ends;
    phase = refl;
    from = from;
    hart = refl;
    address = refl;
    opaque = refl;
    page = refl;
    below = page;
    serial = sound.serial;
    has_hart = sound.hart;
    has_address = sound.address;
    step = refl;
    going = going;
  }

  asked_at : (step : SaveStep) → s.step ≡ step → AsksSave (save_asks_at step s) s old kind new put → IsAskedSave life (save_asks_at step s) s kind new put × Keeps life new
  asked_at WriteHead is asks =
      let n = save_sector s in
      subst (λ (x : Sbistore). ((kind ≡ 2) × (x.number ≡ n) × (x.asked ≡ 1) × IsSavePacked life s x) × Keeps life x) (sym asks.1) ((asks.0, refl, refl, packed_so n (omega (arith, ap save_number is))), still n)
  asked_at WritePage is asks =
      let n = save_sector s + 1 in
      subst (λ (x : Sbistore). ((kind ≡ 5) × (x.number ≡ n) × (x.page ≡ s.page) × (x.asked ≡ 1) × IsSavePacked life s x) × Keeps life x) (sym asks.1) ((asks.0, refl, refl, refl, packed_so n (omega (arith, ap save_number is))), still n)
  asked_at SyncArea is asks =
      subst (λ (x : Sbistore). ((kind ≡ 3) × (x.asked ≡ 1) × IsSavePacked life s x) × Keeps life x) (sym asks.1) ((asks.0, refl, packed_so 0 (omega (arith, ap save_number is))), still 0)
  asked_at Saved is asks = asks life kept ends from
  asked_at Failed is asks = asks life kept ends from

  pub asked_save : AsksSave (save_asks s) s old kind new put → IsAskedSave life (save_asks s) s kind new put × Keeps life new
  asked_save asks = asked_at s.step refl asks

-- ---- the commit that it goes on to
commit_is_at : (s : Saving) (step : SaveStep) (k : Commit) → commit_at step s ≡ Some k → k ≡ record { from = s.from; next = saved_record s; step = WriteRecord }
commit_is_at s WriteHead k is = cc
commit_is_at s WritePage k is = cc
commit_is_at s SyncArea k is = cc
commit_is_at s Saved k is = same k (record { from = s.from; next = saved_record s; step = WriteRecord }) is
  where
    same : (x y : Commit) → Some y ≡ Some x → x ≡ y
    same x y is = cc
commit_is_at s Failed k is = cc

pub commit_is : (s : Saving) (k : Commit) → commit_of s ≡ Some k → k ≡ record { from = s.from; next = saved_record s; step = WriteRecord }
commit_is s k is = commit_is_at s s.step k is

pub commit_asks : (s : Saving) (k : Commit) → commit_of s ≡ Some k → asked (Committing k) ≡ Done → ⊥
commit_asks s k is = subst (λ (c : Commit). asked (Committing c) ≡ Done → ⊥) (sym (commit_is s k is)) (λ done. cc)

-- ---- it is refused
module _ (life : OpenStore) (pages hart address opaque : ℕ) (old new : Sbistore) (kept : Keeps life old) where
  pub refused_save : (e : Refusal) (code : ℕ) → NoSave life pages (resumption hart address opaque) e → code ≡ number_of_refusal e → new ≡ record old { phase = 0; number = code } → SaveBegun life pages hart address opaque old new
  refused_save e code why coded is =
      let end = record old { phase = 0; number = code } in
      record {
        keeps = subst (Keeps life) (sym is)
            (kept_on life old end kept (record { opened = refl; harts = refl; pages = refl; lanes = refl; side = refl; live = refl; receipts = refl; over = refl; down = refl }));
        begun = inr (e, why, ap (λ (x : Sbistore). x.phase) is, ap (λ (x : Sbistore). x.number) is ∙ coded);
      }
