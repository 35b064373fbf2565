-- What the write of a memory makes of the area that no image uses, before a record names it.
-- Source: docs/STORE.md, "Areas".
use Rattle.std.specs.Prelude.{◌≡◌, ◌<◌, ℕ, List, Result, OnOk, IfErr, None}
use Rattle.board_model.specs.Shapes.{Size, IsSize}
use Rattle.board_model.specs.declared.refusal.Refusal.{Refusal}
use Rattle.disk.specs.Facts.{Content, LeavesSince, counted}
use Rattle.image.specs.Images.{area_of, memory_of}
use Rattle.image.specs.Refusals.{WriteRefused}
use Rattle.layout.specs.Records.{AreCounts}
use Rattle.layout.specs.declared.records.Record.{Record}
use Rattle.store.specs.Answers.{StoreView}
use Rattle.store.specs.Leaves.{IsIdle, SameLength}
use Rattle.store.specs.Lives.{IsReseen, now_of}
use Rattle.store.specs.Standing.{StandsFor, selected, live_sector}

-- The area reads as the memory, under the next serial: area 0 where no image stands.
pub record HoldsMemory (size : Size) (current : Record) (memory : List ℕ) (content : Content) (area : ℕ) (counts : List ℕ) : Type 0
  where
    pub known : area < 2
    pub first : current.image ≡ None → area ≡ 0
    pub board : IsSize size
    pub few : AreCounts size counts
    pub reads : memory_of size current.next counts (area_of size area content) ≡ memory

-- Whatever is answered: the state now stands at each moment, with all bytes of its image, and the state found is
-- shown anew. The gate and the record that it selects are as before.
pub record WritesFree {T : Type 0} (old : StoreView) (result : Result T Refusal) (new : StoreView) : Type 0 where
  pub life : new.life ≡ record old.life { found = new.life.found }
  pub reseen : IsReseen old.life new.life.found
  pub any_moment : LeavesSince old.disk new.disk (λ c. StandsFor c old.size (now_of old.life))
  pub selected_still : selected new.disk.content ≡ selected old.disk.content
  pub live_still : live_sector new.disk.content ≡ live_sector old.disk.content
  pub as_long : SameLength old.disk new.disk
  pub none_out : IsIdle new.disk
  pub refused : IfErr result (λ e. WriteRefused old.disk old.fault_state e new.disk new.fault_state)
  pub no_failure : OnOk result (new.disk.failures ≡ old.disk.failures)
  pub unmoved : OnOk result (new.fault_state ≡ old.fault_state)
  pub calls : OnOk result (new.disk.calls ≡ counted old.disk.calls 1)
