-- A board stays one on which rows can be put.
use Rattle.std.proofs.Common.{◌≡◌, ◌≢◌, ◌⊎◌, ⊎_elim, ℕ, ◌*◌, ◌/◌, ◌<◌, List, length, slice_index, sym, ◌∙◌, subst, ap, arith}
use Rattle.board_model.specs.Shapes.{Size}
use Rattle.model_board.specs.{Boards.Board, Events.{Event, Does}, Maps.{Map, Keeps, SameOutside}, Plain.Sized}
use Rattle.board_space.specs.{Layouts.{IsOnBase, IsBased, size_of, tracked_of, base_of}, Ready.{Tracks, LeavesMemory, MasksOf, boot_memory}}
use Rattle.board_space.specs.{Tracked.IsTracked, declared.row_layout.Layout.Layout}

pub on_base : (layout : Layout) (map : Map) (m n : List ℕ) → Tracks layout map → SameOutside map m n → IsOnBase layout m → IsOnBase layout n
on_base layout map m n tracks outside based = record {
  long = outside.long ∙ based.long;
  same = λ i lt none. outside.same i (λ g may. tracks g (i / 8) (omega (arith, outside.long, based.long)) may none) ∙ based.same i (subst (λ (k : ℕ). i < k) outside.long lt) none;
}

pub boot_on_base : (layout : Layout) (m : List ℕ) → m ≡ base_of layout → IsOnBase layout m
boot_on_base layout m is = record {
  long = ap length is;
  same = λ i lt none. ap (λ (l : List ℕ). slice_index l i) is;
}

pub based_after : (layout : Layout) (map : Map) (shape : Size) (payload : List ℕ) (old new : Sized) → Tracks layout map → size_of layout ≡ shape → base_of layout ≡ boot_memory shape payload → IsBased layout old → new.machine.size ≡ old.machine.size → SameOutside map old.machine.memory new.machine.memory ⊎ (new.machine.memory ≡ boot_memory old.machine.size payload) → IsBased layout new
based_after layout map shape payload old new tracks shaped base based size leaves = record {
  size = size ∙ based.size;
  memory = ⊎_elim
      (λ outside. on_base layout map old.machine.memory new.machine.memory tracks outside based.memory)
      (λ boots. boot_on_base layout new.machine.memory (boots ∙ ap (λ (s : Size). boot_memory s payload) (based.size ∙ shaped) ∙ sym base))
      leaves;
}

pub same_memory : (map : Map) (m n : List ℕ) → n ≡ m → SameOutside map m n
same_memory map m n is = record {
  long = ap length is;
  same = λ j none. ap (λ (l : List ℕ). slice_index l j) is;
}

-- after an event that keeps the map
pub based_happened : (layout : Layout) (map : Map) (shape : Size) (payload items : List ℕ) (e : Event) (b : Board) (old new : Sized) → Tracks layout map → size_of layout ≡ shape → base_of layout ≡ boot_memory shape items → payload ≡ items → IsBased layout old → old.board ≡ b → Keeps map e b → new.machine.size ≡ old.machine.size → LeavesMemory payload e old new → IsBased layout new
based_happened layout map shape payload items e b old new tracks shaped base is based at keeps size leaves =
    based_after layout map shape payload old new tracks shaped (base ∙ ap (λ (l : List ℕ). boot_memory shape l) (sym is)) based size
    (leaves map (subst (λ (d : Board). Keeps map e d) (sym at) keeps))

-- where the memory is as it was but for words that may be written
pub based_outside : (layout : Layout) (map : Map) (old new : Sized) → Tracks layout map → IsBased layout old → new.machine.size ≡ old.machine.size → SameOutside map old.machine.memory new.machine.memory → IsBased layout new
based_outside layout map old new tracks based size outside = record {
  size = size ∙ based.size;
  memory = on_base layout map old.machine.memory new.machine.memory tracks outside based.memory;
}

-- where the memory is as it was
pub based_same : (layout : Layout) (old new : Sized) → IsBased layout old → new.machine.size ≡ old.machine.size → new.machine.memory ≡ old.machine.memory → IsBased layout new
based_same layout old new based size memory = record {
  size = size ∙ based.size;
  memory = subst (λ (m : List ℕ). IsOnBase layout m) (sym memory) based.memory;
}

pub does_at : (p q : List ℕ) (s t : Size) (e : Event) (b c d : Board) → p ≡ q → s ≡ t → b ≡ c → Does p s e b d → Does q t e c d
does_at p q s t e b c d pq st bc did =
    subst (λ (x : Board). Does q t e x d) bc (subst (λ (x : Size). Does q x e b d) st (subst (λ (x : List ℕ). Does x s e b d) pq did))

-- rows tell the words of which the masks say that some hart may write them
pub tracks_by : (layout made : Layout) (map : Map) (masks : List ℕ) (bytes : ℕ) → layout ≡ made → length (base_of layout) ≡ bytes → 8 * length masks ≡ bytes → MasksOf map masks → ((k : ℕ) → k < length masks → slice_index masks k ≢ 0 → IsTracked (tracked_of made) k) → Tracks layout map
tracks_by layout made map masks bytes is long all masked covers h k low may none =
    let inside : k < length masks = omega (arith, low, long, all) in
    none (subst (λ (l : Layout). IsTracked (tracked_of l) k) (sym is) (covers k inside (masked h k inside may)))
