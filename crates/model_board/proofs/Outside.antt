-- What a turn that keeps a map leaves of the memory.
use Rattle.std.proofs.Common.{ℕ, Bool, true, false, List, ◌≡◌, ◌/◌, length, slice_index, refl, sym, ap, subst, Option, Some, None}
use Rattle.board_model.specs.Shapes.{Size}
use Rattle.hart.{specs.{State.ArchState, Means.Steps, declared.Outcome.Outcome}, proofs.Decided.{unless, same_number}}
use Rattle.hsm.specs.{States.{HartState, stopped, start_pending, started, suspended}, Views.listed}
use Rattle.sbi_calls.specs.declared.words.Turned.{Turned}
use Rattle.susp.specs.{Dozes.doze_of, declared.buses.Doze.Doze}
use Rattle.turns.specs.Turns.{Moment, woken_turn, begun_by, has_pending, TurnAs}
use Rattle.machine.specs.{Machine.{Machine, hart_at}, Turns.{moment_of, TurnBy, DozeTurn, MakesTurn}}
use Rattle.model_board.{specs.Maps.{Map, StepKeeps, KeepsMap, SameOutside}, proofs.{Frames.{step_long, step_changes}, Turned.pending_in}}

pub same_memory : (map : Map) (m n : List ℕ) → n ≡ m → SameOutside map m n
same_memory map m n e = record { long = ap (λ (b : List ℕ). length b) e; same = λ j none. ap (λ (b : List ℕ). slice_index b j) e }

pub step_outside : (map : Map) (h : ℕ) (size : Size) (p : Bool) (s t : ArchState) (m n : List ℕ) (o : Outcome) → StepKeeps map h size p s m → Steps p s m t n o → SameOutside map m n
step_outside map h size p s t m n o keeps x = record {
  long = step_long p s t m n o x;
  same = λ j none. unless (same_number (slice_index n j) (slice_index m j)) (λ d. step_changes p s t m n o j x d (λ w. none h (keeps.writes (j / 8) w)));
}

woken_outside : (map : Map) (size : Size) (woken : Bool) (a b : Moment) (word : Turned) → TurnAs size (woken_turn woken a.hart.id a.table).ready (woken_turn woken a.hart.id a.table).table a b word → SameOutside map a.memory b.memory
woken_outside map size true a b word x = same_memory map a.memory b.memory (ap (λ (c : Moment). c.memory) x.0)
woken_outside map size false a b word x = same_memory map a.memory b.memory (ap (λ (c : Moment). c.memory) x.0)

as_outside : (map : Map) (h : ℕ) (size : Size) (state : HartState) (a b : Moment) (word : Turned) → (state ≡ started → StepKeeps map h size (pending_in a) a.hart a.memory) → TurnAs size (begun_by a.hart.id a.table state).ready (begun_by a.hart.id a.table state).table a b word → SameOutside map a.memory b.memory
as_outside map h size stopped a b word keeps x = same_memory map a.memory b.memory (ap (λ (c : Moment). c.memory) x.0)
as_outside map h size (start_pending site opaque) a b word keeps x = same_memory map a.memory b.memory (ap (λ (c : Moment). c.memory) x.0)
as_outside map h size started a b word keeps x =
    step_outside map h size (pending_in a) a.hart x.0 a.memory b.memory x.1 (keeps refl) x.2
as_outside map h size suspended a b word keeps x =
    woken_outside map size (has_pending a.hart.id a.table.pairs) a b word x

doze_outside : (map : Map) (woken : Bool) (d : Doze) (h : ℕ) (m n : Machine) (word : Turned) → DozeTurn woken d h m n word → SameOutside map m.memory n.memory
doze_outside map true d h m n word x = same_memory map m.memory n.memory (ap (λ (k : Machine). k.memory) x.0)
doze_outside map false d h m n word x = same_memory map m.memory n.memory (ap (λ (k : Machine). k.memory) x.0)

pub by_doze : (map : Map) (d : Option Doze) (h : ℕ) (m n : Machine) (word : Turned) → KeepsMap map h m → TurnBy d h m n word → SameOutside map m.memory n.memory
by_doze map None h m n word keeps x =
    subst (λ (b : List ℕ). SameOutside map m.memory b) (sym (ap (λ (k : Machine). k.memory) x.2))
    (as_outside map h m.size (listed m.table.states (hart_at m h).id) (moment_of h m) x.0 word keeps.step x.1)
by_doze map (Some d) h m n word keeps x = doze_outside map d.woken d h m n word x

pub turn_outside : (map : Map) (h : ℕ) (m n : Machine) (word : Turned) → KeepsMap map h m → MakesTurn h m n word → SameOutside map m.memory n.memory
turn_outside map h m n word keeps x = by_doze map (doze_of h m.doze) h m n word keeps x
