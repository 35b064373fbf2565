-- A board that dozes and was not woken: but for its wake-up device nothing moves it. Source: docs/BOARD.md, "A
-- doze"; SBI specification 2.0, chapter 13.
use Rattle.board_model.specs.declared.call_words.CallWords.{CallWords}
use Rattle.std.specs.Prelude.{◌≡◌, ◌⊎◌, ℕ, zero, suc, false, Option, Some, None}
use Rattle.hsm.specs.States.{stopped}
use Rattle.susp.specs.Dozes.{doze_of}
use Rattle.susp.specs.declared.buses.Doze.{Doze}
use Rattle.sbi_calls.specs.declared.words.Turned.{Turned}
use Rattle.machine.specs.Machine.{Machine, hart_at, state_at}
use Rattle.machine.specs.Turns.{MakesTurn, MakesOneCall}

-- the doze was not woken, and every hart but its own is STOPPED
pub record Dozes (m : Machine) : Type 0 where
  pub doze : Doze
  pub stands : m.doze ≡ Some doze
  pub sleeps : doze.woken ≡ false
  pub others : (h : ℕ) → doze_of h m.doze ≡ None → state_at m (hart_at m h).id ≡ stopped

-- a turn of a hart, or a call that is made in its place
abbrev pub Moves : Machine → Machine → Type 0
Moves old new =
    ((h : ℕ) × (word : Turned) × MakesTurn h old new word)
    ⊎ ((h : ℕ) × (asked : CallWords) × (called : Option Turned)
    × MakesOneCall h asked old new called)

-- so many of them, one after another, of any harts
abbrev pub MovesOften : ℕ → Machine → Machine → Type 0
MovesOften zero old new = new ≡ old
MovesOften (suc n) old new = (mid : Machine) × Moves old mid × MovesOften n mid new
