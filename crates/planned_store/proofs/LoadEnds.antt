-- A load that has ended, and its answer.
use Rattle.std.proofs.Common.{◌≡◌, ◌∙◌, ◌⊎◌, inl, inr, ⊎_elim, ◌*◌, ℕ, Bool, true, false, List, [], length, Option, Some, None, Result, Ok, Err, refl, sym, ap, subst, arith}
use Rattle.board_model.specs.{Durable.Image, Shapes.{Size, ram_bytes_of}, declared.refusal.Refusal.Refusal}
use Rattle.board_model.specs.declared.refusal.Refusal.TheVariants.{BadShape, NoImage, BadImage, Device, Down}
use Rattle.disk.specs.{Facts.{Facts, Content}, FaultState.FaultState}
use Rattle.layout.specs.declared.saved.Saved.{Saved}
use Rattle.image.specs.{Images.{area_of, memory_of}, Refusals.{ReadsOn, StopsWithin}}
use Rattle.store.specs.{Leaves.ReadsAlone, Lives.LoadRefused, Standing.{image_of, saved_memory}}
use Rattle.store.proofs.Loading.{read_alone, none_read, stays_keeps, image_now, load_refused}
use Rattle.planned_store.specs.{Stores.{state_now, Holds}, declared.{stores.OpenStore.OpenStore, loads.Loading.Loading}, Images.LoadsTo}
use Rattle.planned_store.specs.{Loads.{load_asks_at, load_asks, loaded_at, loaded_by, NoLoad}, declared.loads.LoadStep.LoadStep}
use Rattle.planned_store.specs.{LoadReached.{image_here, LoadAt, LoadReached}, declared.requests.ImageRequest.TheVariants.Done}
use Rattle.planned_store.specs.declared.loads.LoadStep.TheVariants.{ReadHead, ReadPage, Loaded, Spoilt, Failed}

abbrev Answered : Type 0
Answered = Result (Unit {0}) Refusal

not_both : (b : Bool) → b ≡ false → b ≡ true → ⊥
not_both b isn is = cc

module _ {D : Type 0} (f : D → Facts) (m : D → FaultState) (only_now : (d : D) (c : Content) → (f d).since (f d).moment c → (f d).may_leave c)
    (store : OpenStore) (a : D) (memory : List ℕ) (holds : Holds (f a) store) where
  abbrev size : Size
  size = store.selected.shape

  -- ---- no call was made
  refused_why : (pages : ℕ) (e : Refusal) → 4096 * pages ≡ length memory → NoLoad store pages e → store.down ≡ false → LoadRefused size (state_now store (f a).content) memory (f a) (m a) e (f a) (m a)
  refused_why pages Down fits why up = absurd (not_both store.down up why)
  refused_why pages BadShape fits why up = (λ same. why.1 (omega (arith, same, fits)), refl, refl)
  refused_why pages NoImage fits why up = (omega (arith, why.1, fits), ap (λ (i : Option Saved). image_of size i (f a).content) why.2, refl, refl)
  refused_why pages e fits why up = absurd why

  refused_down : (pages : ℕ) (e : Refusal) → NoLoad store pages e → store.down ≡ true → ◌≡◌ {A = Answered} (Err e) (Err Down)
  refused_down pages Down why down = refl
  refused_down pages BadShape why down = absurd (not_both store.down why.0 down)
  refused_down pages NoImage why down = absurd (not_both store.down why.0 down)
  refused_down pages e why down = absurd why

  stops_none : (pages : ℕ) (e : Refusal) → NoLoad store pages e → StopsWithin size.pages e (f a).calls (f a).calls
  stops_none pages Down why = tt
  stops_none pages BadShape why = tt
  stops_none pages NoImage why = tt
  stops_none pages e why = absurd why

  pub refused : (pages : ℕ) (e : Refusal) → 4096 * pages ≡ length memory → NoLoad store pages e → LoadsTo f m store a memory (Err e) a memory
  refused pages e fits why = record {
    loads = tt;
    refused = refused_why pages e fits why;
    down = refused_down pages e why;
    up = tt;
    untouched = λ not_device not_bad. (refl, refl);
    length = refl;
    reads_alone = none_read (f a) (only_now a) holds.none_out;
    unsynced = refl;
    no_failure = tt;
    calls = tt;
    stops = λ up. stops_none pages e why;
    holds = holds;
  }

  -- ---- the load was made
  module _ (saved : Saved) (up : store.down ≡ false) (there : store.selected.live.image ≡ Some saved) (long : length memory ≡ ram_bytes_of size) (c : D) (loaded : List ℕ) (as_long : length loaded ≡ ram_bytes_of size) where
    abbrev stands : List ℕ
    stands = saved_memory size saved (f a).content

    image : (i : Image) × ((state_now store (f a).content).image ≡ Some i) × (stands ≡ i.memory)
    image = image_now size store.selected.live (f a).content (state_now store (f a).content) saved refl there

    abbrev Did : Answered → Type 0
    Did r = ReadsOn size.pages (f a) (m a) r (f c) (m c)

    holds_still : (r : Answered) → Did r → Holds (f c) store
    holds_still r did = record {
      none_out = did.none_out;
      known = holds.known;
      up = λ is.
          (stays_keeps (f a) (f c) did.crash did.content did.none_out size store.selected.side store.selected.live None
          (record { none_out = holds.none_out; known = holds.known; up = λ none. holds.up is; down = λ x none. cc })).up refl;
    }

    alone : (r : Answered) → Did r → ReadsAlone (f a) (f c)
    alone r did = read_alone (f a) (f c) (only_now a) did.content did.crash did.none_out did.no_fewer

    -- the memory was loaded
    done : Did (Ok tt) → loaded ≡ stands → LoadsTo f m store a memory (Ok tt) c loaded
    done did is = record {
      loads = (image.0, image.1, is ∙ image.2);
      refused = tt;
      down = λ down. absurd (not_both store.down up down);
      up = up;
      untouched = tt;
      length = as_long ∙ sym long;
      reads_alone = alone (Ok tt) did;
      unsynced = did.unsynced;
      no_failure = (did.no_failure, did.unmoved);
      calls = did.calls;
      stops = tt;
      holds = holds_still (Ok tt) did;
    }

    -- or not, by the disk or by the image
    not_done : (e : Refusal) → (e ≡ Device) ⊎ (e ≡ BadImage) → Did (Err e) → (e ≡ BadImage → stands ≡ []) → LoadsTo f m store a memory (Err e) c loaded
    not_done e either did none = record {
      loads = tt;
      refused = λ is. load_refused size (state_now store (f a).content) memory stands (f a) (m a) e (f c) (m c) long image did.refused none;
      down = λ down. absurd (not_both store.down up down);
      up = tt;
      untouched = λ not_device not_bad. absurd (⊎_elim not_device not_bad either);
      length = as_long ∙ sym long;
      reads_alone = alone (Err e) did;
      unsynced = did.unsynced;
      no_failure = tt;
      calls = tt;
      stops = λ is. did.stops;
      holds = holds_still (Err e) did;
    }

    module _ (q : Loading) (same_shape : q.shape ≡ size) (same_saved : q.saved ≡ saved) where
      image_is : image_here f m q a ≡ stands
      image_is =
          ap (λ (z : Size). memory_of z q.saved.head.serial q.saved.counts (area_of z q.saved.area (f a).content)) same_shape
          ∙ ap (λ (s : Saved). saved_memory size s (f a).content) same_saved

      did_is : (r : Answered) → ReadsOn q.shape.pages (f a) (m a) r (f c) (m c) → Did r
      did_is r did = subst (λ (z : Size). ReadsOn z.pages (f a) (m a) r (f c) (m c)) same_shape did

      ended_at : (step : LoadStep) → LoadAt f m step q a c loaded → load_asks_at step q ≡ Done → LoadsTo f m store a memory (loaded_at step) c loaded
      ended_at ReadHead at is = cc
      ended_at (ReadPage page) at is = cc
      ended_at Loaded at is = done (did_is (Ok tt) at.0) (at.1 ∙ image_is)
      ended_at Spoilt at is = not_done BadImage (inr refl) (did_is (Err BadImage) at.0) (λ same. sym image_is ∙ at.1)
      ended_at Failed at is = not_done Device (inl refl) (did_is (Err Device) at) (λ same. cc)

      pub ended : LoadReached f m q a c loaded → load_asks q ≡ Done → LoadsTo f m store a memory (loaded_by q) c loaded
      ended reached is = ended_at q.step reached.at is
