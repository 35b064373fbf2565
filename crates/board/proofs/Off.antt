-- A board that is off after an open that succeeded, put together from the open and from what the boot made of
-- the store.
use Rattle.std.proofs.Common.{◌≡◌, ℕ, List, ap, ◌∙◌, subst}
use Rattle.board_model.specs.{Shapes.Size, Views.durable_of, declared.{durable.Durable.Durable, boot_mode.BootMode.BootMode}}
use Rattle.board_model.specs.declared.refusal.Refusal.{Refusal}
use Rattle.disk.specs.Facts.{Facts, LeavesSince, Unchanged}
use Rattle.store.specs.{Leaves.LeftAsBefore, Lives.{Life, now_of}, Answers.{StoreView, Opened}}
use Rattle.board.specs.{Begins.RefusesBoot, Moments.{commands_by, gone_before}, PowersOn.IsOff, Readies.IsUnissued, Unbooted.LeavesLife}
use Rattle.board.proofs.Moments.{kept_meanwhile}

pub is_off : (mode : BootMode) (payloads : List (List ℕ)) (found now : Durable) (disk : Facts) (old new : StoreView) (e : Refusal) (left : Facts) → Opened disk old → LeavesSince disk old.disk (LeftAsBefore disk) → found ≡ durable_of new.life.found
    → now ≡ durable_of (now_of new.life) → RefusesBoot mode old.size payloads old.life.found e → IsUnissued mode old e new → LeavesLife new.life.doubt left new.size (now_of new.life) → Unchanged new.disk left
    → IsOff mode payloads found now disk e left
is_off mode payloads found now disk old new e left opened first shows tells why unissued leaves same = record {
  size = old.size;
  state = old.life.found;
  life = new.life;
  shows = shows ∙ ap (λ (l : Life). durable_of l.found) unissued.life.is;
  tells = tells;
  reads = opened.reads;
  earlier = opened.earlier;
  why = why;
  stopped = unissued.life;
  left = subst (λ (z : Size). LeavesLife new.life.doubt left z (now_of new.life)) unissued.size leaves;
  any_moment = kept_meanwhile disk old.disk new.disk left old.size old.life.found (gone_before e (commands_by mode old.life.found)) first unissued.any_moment same;
}
