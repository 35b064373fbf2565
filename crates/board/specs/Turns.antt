-- Turns and calls of a board's harts: what the machine makes of them, and the command that one of them may
-- make of the store. Source: docs/BOARD.md; SBI specification 2.0, chapters 10 and 13.
use Rattle.board_model.specs.declared.call_words.CallWords.{CallWords}
use Rattle.std.specs.Prelude.{◌≡◌, ◌⊎◌, ℕ, zero, suc, true, false, Option, Some, None}
use Rattle.disk.specs.declared.device.Disk.{Ghosts}
use Rattle.disk.specs.declared.device.Lane.{Ghosts as Lanes}
use Rattle.store.specs.declared.stores.Store.{Store}
use Rattle.store.specs.Views.{fault_state_of}
use Rattle.sbi_calls.specs.declared.words.Turned.{Turned}
use Rattle.sbi_calls.specs.declared.words.Turned.TheVariants.{Made, Durable}
use Rattle.sbi.specs.Words.{ends}
use Rattle.sbi.specs.declared.words.Word.{Word}
use Rattle.sbi.specs.declared.words.Word.TheVariants.{Goes}
use Rattle.machine.specs.Machine.{Machine}
use Rattle.machine.specs.Turns as machines
use Rattle.machine.specs.Durables.{MakesCall}

module _ {D L : Type 0} {g : Ghosts D L} {l : Lanes L} where
  -- What comes of a turn of hart h, on a board whose machine then is m: it stands at a durable call, which is made
  -- with the store; or what it did is said of it, and the store is not asked.
  abbrev pub Comes : Turned → ℕ → Machine → Machine → Store D L g l → Store D L g l → Word → Type 0
  Comes Durable h m n old new word = MakesCall h m n old new word
  Comes (Made did) h m n old new word = (n ≡ m) × (new ≡ old) × (word ≡ Goes did)

  -- a turn of hart h
  abbrev pub TurnsHeld : ℕ → Machine → Machine → Store D L g l → Store D L g l → Word → Type 0
  TurnsHeld h m n old new word =
      (mid : Machine) × (turned : Turned) × machines.MakesTurn h m mid turned × Comes turned h mid n old new word

  -- the turn is the last of a line, with so many that might follow: it ends the line, none is left, or a cut
  -- struck in it
  abbrev pub IsLastHeld : Word → ℕ → Store D L g l → Type 0
  IsLastHeld word left store = (ends word ≡ true) ⊎ ((left ≡ 0) ⊎ ((fault_state_of store).struck ≡ true))

  -- at most n turns of hart h in a line, of which so many were made, and the word of the last
  abbrev pub TurnsManyHeld : ℕ → ℕ → Machine → Machine → Store D L g l → Store D L g l → ℕ → Word → Type 0
  TurnsManyHeld h zero m n old new made word = ⊥
  TurnsManyHeld h (suc count) m n old new made word =
      (mid : Machine) × (store : Store D L g l) × (first : Word) × TurnsHeld h m mid old store first
      × ((IsLastHeld first count store × (n ≡ mid) × (new ≡ store) × (made ≡ 1) × (word ≡ first))
      ⊎ ((ends first ≡ false) × ((fault_state_of store).struck ≡ false) × (rest : ℕ) × (made ≡ suc rest)
      × TurnsManyHeld h count mid n store new rest word))

  -- what comes of a call that the machine made in the place of hart h, or did not
  abbrev pub ComesOf : Option Turned → ℕ → Machine → Machine → Store D L g l → Store D L g l → Option Word → Type 0
  ComesOf None h m n old new said = (n ≡ m) × (new ≡ old) × (said ≡ None)
  ComesOf (Some turned) h m n old new said = (word : Word) × Comes turned h m n old new word × (said ≡ Some word)

  -- a call in the place of hart h with these registers
  abbrev pub CallsHeld : ℕ → CallWords → Machine → Machine → Store D L g l → Store D L g l → Option Word → Type 0
  CallsHeld h asked m n old new said =
      (mid : Machine) × (called : Option Turned) × machines.MakesOneCall h asked m mid called
      × ComesOf called h mid n old new said

  -- ---- a row within a line
  -- turns by one look, of which the last alone may ask the store
  abbrev pub RowHeld : ℕ → Machine → Machine → Store D L g l → Store D L g l → ℕ → Word → Type 0
  RowHeld h m n old new made word =
      (mid : Machine) × (turned : Turned) × machines.MakesRow h made m mid turned × Comes turned h mid n old new word
