-- What a load has made of a disk and a memory by the calls so far: of disk a at its begin, and disk b and that memory now.
use Rattle.std.specs.Prelude.{◌≡◌, ◌≤◌, ◌<◌, ◌^◌, ℕ, List, [], length, slice_index, take, Ok, Err}
use Rattle.board_model.specs.Shapes.{IsSize, ram_bytes_of, sectors_of}
use Rattle.board_model.specs.declared.refusal.Refusal.TheVariants.{BadImage, Device}
use Rattle.disk.specs.Calls.{MakesCalls}
use Rattle.disk.specs.Facts.{Facts, Content, sector, Stays}
use Rattle.disk.specs.FaultState.{FaultState}
use Rattle.disk.specs.declared.device.Fault.{Fault}
use Rattle.layout.specs.Places.{IsPlaceHead}
use Rattle.layout.specs.Records.{AreCounts}
use Rattle.image.specs.Images.{area_of, memory_of}
use Rattle.image.specs.Reading.{IsTaken}
use Rattle.image.specs.Refusals.{HasRead, ReadsOn}
use Rattle.planned_store.specs.Loads.{flags, all_places, place_now}
use Rattle.planned_store.specs.declared.loads.Loading.{Loading}
use Rattle.planned_store.specs.declared.loads.LoadStep.{LoadStep}
use Rattle.planned_store.specs.declared.loads.LoadStep.TheVariants.{ReadHead, ReadPage, Loaded, Spoilt, Failed}

module _ {D : Type 0} (f : D → Facts) (m : D → FaultState) where
  -- the area that is read
  abbrev pub area_here : Loading → D → Content
  area_here p a = area_of p.shape p.saved.area (f a).content

  abbrev pub image_here : Loading → D → List ℕ
  image_here p a = memory_of p.shape p.saved.head.serial p.saved.counts (area_here p a)

  -- so many places were read, and hold so many pages of the memory
  pub record ReadSo (p : Loading) (a b : D) (memory : List ℕ) : Type 0 where
    pub more : p.done < p.shape.pages
    pub taken : IsTaken p.shape p.saved.head.serial (area_here p a) (take p.done (all_places p)) (flags p.came) memory
    pub read : HasRead p.done (f a) (m a) (f b) (m b)

  -- and then a header of that page, which did not come yet
  pub record HeadSo (p : Loading) (page : ℕ) (a b : D) (memory : List ℕ) : Type 0 where
    pub mid : D
    pub before : ReadSo p a mid memory
    pub head : IsPlaceHead p.shape (record { page = page; serial = p.saved.head.serial }) (sector (area_here p a) (place_now p))
    pub fresh : slice_index p.came page ≡ 0
    pub called : MakesCalls {T = Unit {0}} {E = Fault} 1 Stays (f mid) (f b) (m mid) (m b) (Ok tt)
    pub still : (f b).moment ≡ (f mid).moment

  abbrev pub LoadAt : LoadStep → Loading → D → D → List ℕ → Type 0
  LoadAt ReadHead p a b memory = ReadSo p a b memory
  LoadAt (ReadPage page) p a b memory = HeadSo p page a b memory
  LoadAt Loaded p a b memory =
      HasRead p.shape.pages (f a) (m a) (f b) (m b) × (memory ≡ image_here p a)
  LoadAt Spoilt p a b memory =
      ReadsOn {T = Unit {0}} p.shape.pages (f a) (m a) (Err BadImage) (f b) (m b) × (image_here p a ≡ [])
  LoadAt Failed p a b memory = ReadsOn {T = Unit {0}} p.shape.pages (f a) (m a) (Err Device) (f b) (m b)

  pub record LoadReached (p : Loading) (a b : D) (memory : List ℕ) : Type 0 where
    pub board : IsSize p.shape
    pub counts : AreCounts p.shape p.saved.counts
    pub wide : p.saved.head.serial < 2 ^ 64
    pub area : p.saved.area < 2
    pub enough : sectors_of p.shape ≤ length (f a).content
    pub came : length p.came ≡ 512
    pub long : length memory ≡ ram_bytes_of p.shape
    pub at : LoadAt p.step p a b memory
