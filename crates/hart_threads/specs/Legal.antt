-- Journals of one life: commands that the table takes, one after another from what an open found.
-- Source: docs/DURABLE.md; docs/STORE.md, "A life".
use Rattle.std.specs.Prelude.{◌≡◌, ◌⊎◌, ℕ, ◌+◌, ◌≤◌, true, List, [], ◌∷◌, ◌++◌, Some, Result, Ok, Err, length, take}
use Rattle.board_model.specs.Durable.{DurableState, Change, refusal_of, fold}
use Rattle.board_model.specs.Shapes.{Size}
use Rattle.board_model.specs.Views.{change_in, durable_of, number_of_refusal}
use Rattle.board_model.specs.declared.durable.Entry.{Entry}
use Rattle.board_model.specs.declared.durable.Durable.{Durable}
use Rattle.board_model.specs.declared.refusal.Refusal.{Refusal}
use Rattle.board_model.specs.declared.refusal.Refusal.TheVariants.{Device, Down, Over, JournalFull}
use Rattle.disk.specs.declared.device.Disk.{Ghosts}
use Rattle.disk.specs.declared.device.Lane.{Ghosts as Lanes}
use Rattle.tallies.specs.Closed.{AreStanding}
use Rattle.store.specs.Lives.{Life, now_of}
use Rattle.store.specs.Taken.{are_taken}
use Rattle.store.specs.Views.{size_of_store, life_of}
use Rattle.store.specs.declared.stores.Store.{Store}
use Rattle.hart_threads.specs.Noted.{entries_in}

-- a journal begins with those commands
abbrev pub BeginsWith : List Change → List Change → Type 0
BeginsWith issued journal = take (length issued) journal ≡ issued

-- some such commands end with this one, which is the so-manieth
abbrev pub IsToldOf : DurableState → ℕ → Entry → Type 0
IsToldOf found n entry =
    (earlier : List Change) × (memory : List ℕ) × (are_taken found (earlier ++ change_in entry memory ∷ []) ≡ true)
    × (n ≡ length earlier + 1) × (n ≤ 4096)

-- What a command may be answered in a life that began in that state: a receipt where some commands that the
-- table takes end with it; 5, 6, 7, 10, or the table's refusal after some that it takes.
abbrev pub MayAnswer : DurableState → Change → Result ℕ Refusal → Type 0
MayAnswer found c (Ok n) =
    (earlier : List Change) × (are_taken found (earlier ++ c ∷ []) ≡ true) × (n ≡ length earlier + 1) × (n ≤ 4096)
MayAnswer found c (Err e) =
    (e ≡ Device) ⊎ (e ≡ Down) ⊎ (e ≡ Over) ⊎ (e ≡ JournalFull)
    ⊎ ((earlier : List Change) × (are_taken found earlier ≡ true)
    × (refusal_of (fold found earlier) c ≡ Some (number_of_refusal e)))

-- What the state now may be shown as, where the boot issued those commands, to a holder that was told those receipts:
-- what some commands make that the table takes, the boot's before any other, in which each command of a receipt stands
-- at its place.
abbrev pub MayShow : DurableState → List Change → List (ℕ × Entry) → Durable → Type 0
MayShow found issued told d =
    (earlier : List Change) × (are_taken found earlier ≡ true) × BeginsWith issued earlier
    × AreStanding (entries_in earlier) told × (d ≡ durable_of (fold found earlier))

abbrev pub number_told : Result (ℕ × Entry) Refusal → Result ℕ Refusal
number_told (Ok t) = Ok t.0
number_told (Err e) = Err e

-- A life began in that state, but for the memory of an image that was dropped since: its state now is what its
-- journal makes of it, and the table refuses none of the journal's commands.
pub record IsLifeOf (found : DurableState) (life : Life) : Type 0 where
  pub heads : durable_of life.found ≡ durable_of found
  pub now : now_of life ≡ fold found life.journal
  pub taken : are_taken found life.journal ≡ true

module _ {D L : Type 0} {g : Ghosts D L} {l : Lanes L} where
  -- the store is of the life that began so
  pub record IsNamed (found : DurableState) (size : Size) (store : Store D L g l) : Type 0 where
    pub board : size_of_store store ≡ size
    pub life : IsLifeOf found (life_of store)
