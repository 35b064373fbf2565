-- Turns and calls of a board that may doze: its size stays.
use Rattle.std.proofs.Common.{◌≡◌, ℕ, Bool, true, false, Option, None, Some, ap}
use Rattle.hart.specs.State.{ArchState}
use Rattle.susp.specs.declared.buses.Doze.{Doze}
use Rattle.sbi_calls.specs.declared.words.Turned.{Turned}
use Rattle.machine.specs.{Machine.Machine, Turns.{DozeTurn, TurnBy, CallBy}}

doze_size : (woken : Bool) (d : Doze) (h : ℕ) (old new : Machine) (did : Turned) → DozeTurn woken d h old new did → new.size ≡ old.size
doze_size false d h old new did turn = ap (λ (m : Machine). m.size) turn.0
doze_size true d h old new did turn = ap (λ (m : Machine). m.size) turn.0

pub turn_size : (doze : Option Doze) (h : ℕ) (old new : Machine) (did : Turned) → TurnBy doze h old new did → new.size ≡ old.size
turn_size None h old new did turn = ap (λ (m : Machine). m.size) turn.2
turn_size (Some d) h old new did turn = doze_size d.woken d h old new did turn

pub call_size : (doze : Option Doze) (h : ℕ) (u : ArchState) (old new : Machine) (called : Option Turned) → CallBy doze h u old new called → new.size ≡ old.size
call_size None h u old new called call = ap (λ (m : Machine). m.size) call.2
call_size (Some d) h u old new called call = ap (λ (m : Machine). m.size) call.0
