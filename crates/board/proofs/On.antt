-- A board that is on, put together from the open and from what the boot made of the store.
use Rattle.std.proofs.Common.{◌≡◌, ℕ, List, None, ap, sym, ◌∙◌, subst₂}
use Rattle.board_model.specs.{Durable.DurableState, Shapes.Size, declared.boot_mode.BootMode.BootMode}
use Rattle.disk.specs.Facts.{Content, Facts, LeavesSince}
use Rattle.store.specs.{Leaves.{Leaves, LeftAsBefore}, Lives.Life, Standing.StandsFor, Answers.{StoreView, Opened}}
use Rattle.machine.specs.Machine.{Machine}
use Rattle.board.specs.{Begins.IsBegun, Boots.{PayloadsFit, boot_refusal, life_after}, PowersOn.IsOn, Readies.IsIssued}
use Rattle.board.{specs.Moments.{commands_by, MayLeave, AreWritten, LeavesFrom}, proofs.Moments.meanwhile}

module _ (mode : BootMode) (payloads : List (List ℕ)) (disk : Facts) (old new : StoreView) (machine : Machine) (opened : Opened disk old) (first : LeavesSince disk old.disk (LeftAsBefore disk)) (issued : IsIssued mode old new) where
  found : new.life.found ≡ old.life.found
  found = ap (λ (l : Life). l.found) issued.life

  -- what is so of the board and the state that the open found is so of those of the store now
  now : (P : Size → DurableState → Type 0) → P old.size old.life.found → P new.size new.life.found
  now P then = subst₂ P (sym issued.size) (sym found) then

  is_on_by : boot_refusal old.life.found mode ≡ None → PayloadsFit old.size payloads → IsBegun mode old.size payloads old.life.found machine → IsOn mode payloads disk new machine
  is_on_by allowed fits begun = record {
    reads = now (λ z s. StandsFor disk.content z s) opened.reads;
    found = now (λ z s. Leaves disk z s) opened.earlier;
    life = issued.life ∙ ap (life_after mode) (sym found);
    only = issued.only;
    any_moment = now (λ z s. LeavesSince disk new.disk (MayLeave disk z s (commands_by mode s))) (meanwhile disk old.disk new.disk old.size old.life.found (commands_by mode old.life.found) first issued.any_moment);
    written = now (λ z s. (x : Content) → new.disk.may_leave x → LeavesFrom disk (AreWritten z s (commands_by mode s)) x) (λ x left. (let was = issued.written x left in (was.0, first.now was.0 was.1, was.2)));
    allowed = now (λ z s. boot_refusal s mode ≡ None) allowed;
    fits = now (λ z s. PayloadsFit z payloads) fits;
    begun = now (λ z s. IsBegun mode z payloads s machine) begun;
    opened = issued.opened ∙ opened.at_open;
  }

pub is_on : (mode : BootMode) (payloads : List (List ℕ)) (disk : Facts) (old new : StoreView) (machine : Machine) → Opened disk old → LeavesSince disk old.disk (LeftAsBefore disk) → boot_refusal old.life.found mode ≡ None
    → PayloadsFit old.size payloads → IsBegun mode old.size payloads old.life.found machine → IsIssued mode old new → IsOn mode payloads disk new machine
is_on mode payloads disk old new machine opened first allowed fits begun issued = is_on_by mode payloads disk old new machine opened first issued allowed fits begun
