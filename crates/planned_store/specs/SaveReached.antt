-- What the calls of a suspension so far have made of a disk: of disk a at its begin, and disk b now.
use Rattle.std.specs.Prelude.{◌≡◌, ◌≤◌, ◌<◌, ◌+◌, ◌*◌, ℕ, List, length, Ok, Err, OnOk, OnErr}
use Rattle.board_model.specs.Shapes.{IsSize, ram_bytes_of, sectors_of, area_sectors_of}
use Rattle.disk.specs.Facts.{Facts, Content, sector, Torn, Passes, Only, Failed, counted}
use Rattle.disk.specs.FaultState.{FaultState, Cause}
use Rattle.layout.specs.Places.{place_head_of}
use Rattle.layout.specs.Sizes.{area_start}
use Rattle.planned_store.specs.Reached.{Ended}
use Rattle.planned_store.specs.Saves.{free_side, save_sector}
use Rattle.planned_store.specs.SaveServed.{PageWritten}
use Rattle.planned_store.specs.declared.saves.Saving.{Saving}
use Rattle.planned_store.specs.declared.saves.SaveStep.{SaveStep}
use Rattle.planned_store.specs.declared.saves.SaveStep.TheVariants.{WriteHead, WritePage, SyncArea, Saved, Failed as SaveFailed}

-- So many calls were made that wrote these sectors alone, or the last of them failed. Nothing is lent.
pub record WroteRange (first n made : ℕ) (old : Facts) (m : FaultState) (answer : Ended) (new : Facts) (o : FaultState) : Type 0
  where
    pub content : Torn first n old.content new.content
    pub crash : Passes old new (Torn first n)
    pub none_out : new.lent.lanes ≡ 0
    pub no_failure : OnOk answer (new.failures ≡ old.failures)
    pub unmoved : OnOk answer (o ≡ m)
    pub failed : OnErr answer (Failed old.failures new.failures × Cause m o)
    pub calls : OnOk answer (new.calls ≡ counted old.calls made)

-- the header of a page stands there
abbrev pub HeadStands : ℕ → ℕ → ℕ → Content → Type 0
HeadStands at page serial c = sector c at ≡ place_head_of (record { page = page; serial = serial })

-- and the page after it
abbrev pub PageStands : ℕ → ℕ → ℕ → List ℕ → Content → Type 0
PageStands at page serial memory c = HeadStands at page serial c × PageWritten (at + 1) page memory c

module _ {D : Type 0} (f : D → Facts) (m : D → FaultState) where
  abbrev pub first_of : Saving → ℕ
  first_of s = area_start s.from.shape (free_side s.from.live.image)

  -- the first n pages stand in the area, in their order
  abbrev pub PagesStand : ℕ → Saving → List ℕ → D → Type 0
  PagesStand n s memory b =
      (p : ℕ) → p < n → PageStands (first_of s + 9 * p) p s.from.live.next memory (f b).content

  abbrev pub WroteArea : ℕ → Saving → D → Ended → D → Type 0
  WroteArea calls s a answer b =
      WroteRange (first_of s) (area_sectors_of s.from.shape) calls (f a) (m a) answer (f b) (m b)

  abbrev pub SaveAt : SaveStep → Saving → D → D → List ℕ → Type 0
  SaveAt WriteHead s a b memory = WroteArea (2 * s.page) s a (Ok tt) b × PagesStand s.page s memory b
  SaveAt WritePage s a b memory =
      WroteArea (2 * s.page + 1) s a (Ok tt) b × PagesStand s.page s memory b
      × HeadStands (save_sector s) s.page s.from.live.next (f b).content
  SaveAt SyncArea s a b memory =
      WroteArea (2 * s.from.shape.pages) s a (Ok tt) b × PagesStand s.from.shape.pages s memory b
  SaveAt Saved s a b memory =
      WroteArea (2 * s.from.shape.pages + 1) s a (Ok tt) b × PagesStand s.from.shape.pages s memory b
      × Only (f b).content (f b).may_leave
  SaveAt SaveFailed s a b memory = WroteArea (2 * s.from.shape.pages + 1) s a (Err tt) b

  pub record SaveReached (s : Saving) (a b : D) (memory : List ℕ) : Type 0 where
    pub board : IsSize s.from.shape
    pub page : s.page < s.from.shape.pages
    pub enough : sectors_of s.from.shape ≤ length (f a).content
    pub long : length memory ≡ ram_bytes_of s.from.shape
    pub at : SaveAt s.step s a b memory
