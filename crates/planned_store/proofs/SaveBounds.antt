-- Each call of a suspension leaves fewer to come.
use Rattle.std.proofs.Common.{◌≡◌, ◌+◌, ◌<◌, nat_lt, if◌then◌else◌, true, false, Bool, Ok, Err, refl, sym, subst, arith}
use Rattle.planned_store.specs.{Commits.Answer, Saves.{save_asks_at, save_asks, SaveGoes, SaveGoesAt, HasPage, saves_left, saves_left_at}}
use Rattle.planned_store.specs.declared.{saves.{Saving.Saving, SaveStep.SaveStep}, requests.ImageRequest.TheVariants.Done}
use Rattle.planned_store.specs.declared.saves.SaveStep.TheVariants.{WriteHead, WritePage, SyncArea, Saved, Failed}

module _ (s : Saving) (page : HasPage s) where
  abbrev Fewer : SaveStep → Saving → Type 0
  Fewer step t = saves_left t < saves_left_at step s

  page_fewer : (more : Bool) → saves_left (if more then record s { page = s.page + 1; step = WriteHead } else record s { step = SyncArea }) < saves_left_at WritePage s
  page_fewer true = omega (arith, page)
  page_fewer false = omega (arith, page)

  fewer_at : (step : SaveStep) (t : Saving) (r : Answer) → (save_asks_at step s ≡ Done → ⊥) → SaveGoesAt step s r t → Fewer step t
  fewer_at WriteHead t (Ok v) some goes = subst (Fewer WriteHead) (sym goes) (omega arith)
  fewer_at WriteHead t (Err e) some goes = subst (Fewer WriteHead) (sym goes) (omega arith)
  fewer_at WritePage t (Ok v) some goes = subst (Fewer WritePage) (sym goes) (page_fewer (nat_lt (s.page + 1) s.from.shape.pages))
  fewer_at WritePage t (Err e) some goes = subst (Fewer WritePage) (sym goes) (omega (arith, page))
  fewer_at SyncArea t (Ok v) some goes = subst (Fewer SyncArea) (sym goes) (omega arith)
  fewer_at SyncArea t (Err e) some goes = subst (Fewer SyncArea) (sym goes) (omega arith)
  fewer_at Saved t r some goes = absurd (some refl)
  fewer_at Failed t r some goes = absurd (some refl)

  pub goes_fewer : (t : Saving) (r : Answer) → (save_asks s ≡ Done → ⊥) → SaveGoes s r t → saves_left t < saves_left s
  goes_fewer t r some goes = fewer_at s.step t r some goes
