-- A look at the tables leaves the machine.
use Rattle.std.proofs.Common.{◌≡◌, ℕ, List, Option, Some, sym, ap, ◌∙◌, subst}
use Rattle.atomic_table.specs.declared.shared.Seat.{Seat}
use Rattle.board_model.specs.Shapes.{Size}
use Rattle.hsm.specs.{Words.HartSeatView, Seating.harts_in, Rule.stands, declared.view.Stage.Stage}
use Rattle.hart.specs.State.{ArchState}
use Rattle.sbi_calls.specs.{declared.tables.{Tables.Tables, Seats.Seats}, Both.{TableState, IsTable, GivesBack, views}}
use Rattle.susp.specs.{Dozes.doze_of, declared.buses.Doze.Doze}
use Rattle.machine.{specs.{Machine.Machine, Held.{shown_by, table_of, AreWhole, IsHeld}}, proofs.Owners.rests_moved}
use Rattle.machine.proofs.Holding.{IsOneList, IsOneSet, one_shown, all_seats}

-- each hart stands where it stood
abbrev pub StandAsWere : Seats → Seats → Type 0
StandAsWere s s' = (h : ℕ) (st : Stage) → stands h st (views s) → stands h st (views s')

-- where the seat of the hart table is the same one
pub stand_same : (s s' : Seats) → s'.harts ≡ s.harts → StandAsWere s s'
stand_same s s' same h st p = subst (λ (x : Seat (Unit {0}) HartSeatView). stands h st (harts_in x)) (sym same) p

-- the look tells something of the table
module _ (size : Size) (memory : List ℕ) (harts : List ArchState) (t : Tables) (os : Option Seats) (doze : Option Doze) (s s' : Seats) (n id : ℕ) (Tells : TableState → Type 0) (one : IsOneList) (set : IsOneSet) (held : IsHeld size harts t os doze) (taken : os ≡ Some s)
    (many : n ≡ size.harts) (gives : GivesBack t id s s') (stay : StandAsWere s s') (looks : (l : TableState) → IsTable n s l → Tells l × IsTable n s' l) where
  before : AreWhole size.harts t s doze
  before = all_seats size harts t os s doze held taken

  looked : Tells (shown_by size.harts s) × IsTable size.harts s' (shown_by size.harts s)
  looked = subst (λ (k : ℕ). (l : TableState) → IsTable k s l → Tells l × IsTable k s' l) many looks (shown_by size.harts s) before.shows

  shown_after : shown_by size.harts s' ≡ shown_by size.harts s
  shown_after = one_shown one set size.harts s' (shown_by size.harts s) looked.1

  whole_after : AreWhole size.harts t s' doze
  whole_after = record {
    seats = gives.seats;
    all = (gives.others.harts ∙ before.all.0, gives.pairs.harts ∙ before.all.1);
    shows = subst (λ (l : TableState). IsTable size.harts s' l) (sym shown_after) looked.1;
    rests = λ h below. rests_moved (doze_of h doze) h s s' (stay h) (λ p. gives.pairs.each h ∙ p) (before.rests h below);
  }

  pub held_still : IsHeld size harts t (Some s') doze
  held_still = record { long = held.long; numbered = held.numbered; tables = held.tables; seats = whole_after }

  abbrev shown : TableState → Machine
  shown table = record { size = size; memory = memory; doze = doze; harts = harts; table = table }

  pub shows_still : ◌≡◌ {A = Machine} (record { size = size; memory = memory; doze = doze; harts = harts; table = shown_by size.harts s' }) (record { size = size; memory = memory; doze = doze; harts = harts; table = table_of size.harts os })
  shows_still = ap shown (shown_after ∙ ap (table_of size.harts) (sym taken))

  pub found_it : Tells (table_of size.harts os)
  found_it = subst (λ (o : Option Seats). Tells (table_of size.harts o)) (sym taken) looked.0
