-- A machine whose board was woken holds what it held.
use Rattle.std.proofs.Common.{◌≡◌, ℕ, Bool, true, false, List, Option, Some, None, sym, subst, if◌then◌else◌}
use Rattle.std.specs.Prelude.{◌==◌, Result, Ok, Err, OnOk, IfErr}
use Rattle.board_model.specs.{Shapes.Size, declared.refusal.Refusal.{Refusal, TheVariants.NotDozing}}
use Rattle.hart.specs.State.{ArchState}
use Rattle.sbi_calls.specs.declared.tables.{Tables.Tables, Seats.Seats}
use Rattle.susp.specs.{Dozes.{doze_of, after_wake}, declared.buses.{Bus.Bus, Doze.Doze}}
use Rattle.machine.specs.Held.{RestsBy, AreAllSeats, IsHeld}

-- whichever doze it is, its hart is quiet
rests_alike : (b : Bool) (d x : Doze) (h : ℕ) (s : Seats) → RestsBy (if b then Some d else None) h s → RestsBy (if b then Some x else None) h s
rests_alike true d x h s p = p
rests_alike false d x h s p = p

rests_awake : (o : Option Doze) (h : ℕ) (s : Seats) → RestsBy (doze_of h o) h s → RestsBy (doze_of h (after_wake o)) h s
rests_awake None h s p = p
rests_awake (Some d) h s p = rests_alike (d.at.hart == h) d (record d { woken = true }) h s p

all_awake : (harts : ℕ) (t : Tables) (os : Option Seats) (o : Option Doze) → AreAllSeats harts t os o → AreAllSeats harts t os (after_wake o)
all_awake harts t None o p = p
all_awake harts t (Some s) o p = record { seats = p.seats; all = p.all; shows = p.shows; rests = λ h below. rests_awake o h s (p.rests h below) }

held_awake : (size : Size) (harts : List ArchState) (t : Tables) (os : Option Seats) (o : Option Doze) → IsHeld size harts t os o → IsHeld size harts t os (after_wake o)
held_awake size harts t os o held = record { long = held.long; numbered = held.numbered; tables = held.tables; seats = all_awake size.harts t os o held.seats }

pub held_then : {A : Type 0} (size : Size) (harts : List ArchState) (t : Tables) (os : Option Seats) (bus bus' : Bus) (result : Result A Refusal) → OnOk result (bus'.doze ≡ after_wake bus.doze) → IfErr result (λ e. (e ≡ NotDozing) × (bus' ≡ bus))
    → IsHeld size harts t os bus.doze → IsHeld size harts t os bus'.doze
held_then size harts t os bus bus' (Ok n) woken same held = subst (λ (o : Option Doze). IsHeld size harts t os o) (sym woken) (held_awake size harts t os bus.doze held)
held_then size harts t os bus bus' (Err e) woken same held = subst (λ (b : Bus). IsHeld size harts t os b.doze) (sym same.1) held
