-- The call that a load asks for, in the numbers and bytes of C.
use Rattle.std.proofs.Common.{◌≡◌, ◌+◌, ◌<◌, ℕ, Some, refl, sym, ap, subst}
use Rattle.planned_store.specs.declared.{stores.OpenStore.OpenStore, loads.{Loading.Loading, LoadStep.LoadStep}}
use Rattle.planned_store.specs.Loads.{place_sector, load_asks, load_asks_at, HasPlace, HasPlaceAt, loaded_by}
use Rattle.planned_store.specs.declared.loads.LoadStep.TheVariants.{ReadHead, ReadPage, Loaded, Spoilt, Failed}
use Rattle.sbistore.{specs.{Ends.{Keeps, answer_code}, declared.state.Sbistore.Sbistore}, proofs.Keeping.kept_on}
use Rattle.sbistore.specs.Images.{load_number, page_of_step, with_load, IsStep, IsLoadPacked, AsksLoad, IsAskedLoad}

module _ (life : OpenStore) (p : Loading) (old new : Sbistore) (kind : ℕ) (kept : Keeps life old) (shape : p.shape ≡ life.selected.shape) (image : life.selected.live.image ≡ Some p.saved) where
  abbrev asking : ℕ → Sbistore
  asking n = record (with_load p old) { asked = 1; number = n }

  still : (n : ℕ) → Keeps life (asking n)
  still n = kept_on life old (asking n) kept (record { opened = refl; harts = refl; pages = refl; lanes = refl; side = refl; live = refl; receipts = refl; over = refl; down = refl })

  packed_so : (n : ℕ) → p.done < p.shape.pages → IsStep p.shape p.step (asking n) → IsLoadPacked life p (asking n)
  packed_so n more step = record { keeps = still n; phase = refl; shape = shape; image = image; done = refl; more = more; came = refl; step = step }

  over_so : new ≡ record old { phase = 0; number = answer_code (loaded_by p) } → (new.phase ≡ 0) × (new.number ≡ answer_code (loaded_by p)) × Keeps life new
  over_so is =
      let end = record old { phase = 0; number = answer_code (loaded_by p) } in (
        ap (λ (x : Sbistore). x.phase) is,
        ap (λ (x : Sbistore). x.number) is,
        subst (Keeps life) (sym is)
            (kept_on life old end kept (record { opened = refl; harts = refl; pages = refl; lanes = refl; side = refl; live = refl; receipts = refl; over = refl; down = refl })),
      )

  asked_at : (step : LoadStep) → p.step ≡ step → HasPlaceAt step p → AsksLoad (load_asks_at step p) p old kind new → IsAskedLoad life (load_asks_at step p) p kind new × Keeps life new
  asked_at ReadHead is more asks =
      let n = place_sector p in
      let step : IsStep p.shape p.step (asking n) = subst (λ (t : LoadStep). IsStep p.shape t (asking n)) (sym is) (ap load_number is) in
      subst (λ (x : Sbistore). ((kind ≡ 1) × (x.number ≡ n) × (x.asked ≡ 1) × IsLoadPacked life p x) × Keeps life x) (sym asks.1) ((asks.0, refl, refl, packed_so n more step), still n)
  asked_at (ReadPage page) is more asks =
      let n = place_sector p + 1 in
      let step : IsStep p.shape p.step (asking n) = subst (λ (t : LoadStep). IsStep p.shape t (asking n)) (sym is) (ap load_number is, ap page_of_step is, more.1) in
      subst (λ (x : Sbistore). ((kind ≡ 4) × (x.number ≡ n) × (x.page ≡ page) × (x.asked ≡ 1) × IsLoadPacked life p x) × Keeps life x) (sym asks.1) ((asks.0, refl, ap page_of_step is, refl, packed_so n more.0 step), still n)
  asked_at Loaded is more asks = let end = over_so asks.1 in ((asks.0, end.0, end.1), end.2)
  asked_at Spoilt is more asks = let end = over_so asks.1 in ((asks.0, end.0, end.1), end.2)
  asked_at Failed is more asks = let end = over_so asks.1 in ((asks.0, end.0, end.1), end.2)

  pub asked_load : HasPlace p → AsksLoad (load_asks p) p old kind new → IsAskedLoad life (load_asks p) p kind new × Keeps life new
  asked_load place asks = asked_at p.step refl place.1 asks
