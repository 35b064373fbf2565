-- Each call of a load leaves fewer to come.
use Rattle.std.proofs.Common.{◌≡◌, ◌+◌, ◌<◌, nat_lt, if◌then◌else◌, true, false, Bool, ℕ, List, Ok, Err, refl, sym, subst, arith}
use Rattle.planned_store.specs.{Commits.Answer, declared.loads.{Loading.Loading, LoadStep.LoadStep}}
use Rattle.planned_store.specs.Loads.{load_asks_at, load_asks, HeadGoes, LoadGoes, LoadGoesAt, HasPlaceAt, HasPlace, page_taken, loads_left, loads_left_at}
use Rattle.planned_store.specs.declared.loads.LoadStep.TheVariants.{ReadHead, ReadPage, Loaded, Spoilt, Failed}
use Rattle.planned_store.specs.declared.requests.ImageRequest.TheVariants.{Done}

module _ (p : Loading) (bytes : List ℕ) where
  abbrev Fewer : LoadStep → Loading → Type 0
  Fewer step q = loads_left q < loads_left_at step p

  head_fewer : (step : LoadStep) → HeadGoes p.shape p.saved.head.serial p.came bytes step → p.done < p.shape.pages → Fewer ReadHead (record p { step = step })
  head_fewer (ReadPage page) goes lt = omega arith
  head_fewer Spoilt goes lt = omega arith
  head_fewer ReadHead goes lt = absurd goes
  head_fewer Loaded goes lt = absurd goes
  head_fewer Failed goes lt = absurd goes

  page_fewer : (page : ℕ) (more : Bool) → p.done < p.shape.pages → loads_left_at (if more then ReadHead else Loaded) (page_taken page p) < loads_left_at (ReadPage page) p
  page_fewer page true lt = omega (arith, lt)
  page_fewer page false lt = omega (arith, lt)

  fewer_at : (step : LoadStep) (q : Loading) (r : Answer) → HasPlaceAt step p → (load_asks_at step p ≡ Done → ⊥) → LoadGoesAt step p r bytes q → Fewer step q
  fewer_at ReadHead q (Ok v) lt some goes = subst (Fewer ReadHead) (sym goes.1) (head_fewer q.step goes.0 lt)
  fewer_at ReadHead q (Err e) lt some goes = subst (Fewer ReadHead) (sym goes) (omega arith)
  fewer_at (ReadPage page) q (Ok v) lt some goes = subst (Fewer (ReadPage page)) (sym goes) (page_fewer page (nat_lt (p.done + 1) p.shape.pages) lt.0)
  fewer_at (ReadPage page) q (Err e) lt some goes = subst (Fewer (ReadPage page)) (sym goes) (omega (arith, lt.0))
  fewer_at Loaded q r lt some goes = absurd (some refl)
  fewer_at Spoilt q r lt some goes = absurd (some refl)
  fewer_at Failed q r lt some goes = absurd (some refl)

  pub goes_fewer : (q : Loading) (r : Answer) → HasPlace p → (load_asks p ≡ Done → ⊥) → LoadGoes p r bytes q → loads_left q < loads_left p
  goes_fewer q r place some goes = fewer_at p.step q r place.1 some goes
