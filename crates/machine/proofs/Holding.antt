-- What a hart of a machine does, with the one seat of all harts.
use Rattle.std.proofs.Common.{◌≡◌, ◌≢◌, ℕ, ◌<◌, Bool, List, Option, Some, None, IsSome, refl, sym, ap, ◌∙◌, subst, arith, vec_len}
use Rattle.std.{specs.Prelude.{length, get_or, slice_set}, proofs.lemmas.List.{length-set, get_or-set_other, get_or_default}}
use Rattle.std.proofs.lemmas.Grind.{get_or-set_at}
use mathlib.Core.Logic.{dite}
use native.Mathlib.Decide.{ℕ_discrete}
use Rattle.board_model.specs.Shapes.{Size}
use Rattle.hart.specs.State.{ArchState, never_started}
use Rattle.hsm.specs.{Words.HartSeatView, States.HartState, Views.{states_in, AreStates}}
use Rattle.ipi.specs.{Ledger.{PendingSeatView as Pairs}, Views.{pairs_in, ArePairs}}
use Rattle.sbi_calls.specs.declared.tables.{Tables.Tables, Seats.Seats}
use Rattle.sbi_calls.specs.Both.{TableState, AreTablesOf, harts_of_both, IsTable, GivesBack, harts_known, pair_crew}
use Rattle.turns.specs.Turns.{Moment, moment, Rests}
use Rattle.susp.specs.{Dozes.doze_of, declared.buses.Doze.Doze}
use Rattle.machine.specs.{declared.machine.Machine.TheInside.Inside, Machine.Machine, Turns.{DoneBy, moment_of, with_moment}}
use Rattle.machine.{specs.Held.{shown_by, table_of, RestsBy, AreWhole, AreAllSeats, AreNumbered, IsHeld}, proofs.Owners.rests_moved}

abbrev pub IsOneList : Type 0
IsOneList = (harts : ℕ) (c : HartSeatView) (states : List HartState) → AreStates harts c states → states_in harts c ≡ states

abbrev pub IsOneSet : Type 0
IsOneSet = (harts : ℕ) (c : Pairs) (pairs : List (List Bool)) → ArePairs harts c pairs → pairs_in harts c ≡ pairs

-- the machine that the fields show
abbrev pub shown_as : Inside → Machine
shown_as a = record { size = a.shape; memory = a.bus.ram; doze = a.bus.doze; harts = a.harts.items; table = table_of a.shape.harts a.seats }

-- seats show one table
pub one_shown : IsOneList → IsOneSet → (harts : ℕ) (s : Seats) (t : TableState) → IsTable harts s t → shown_by harts s ≡ t
one_shown one set harts s t is =
    let x : states_in harts (harts_known s) ≡ t.states = one harts (harts_known s) t.states is.0 in
    let y : pairs_in harts (pair_crew s) ≡ t.pairs = set harts (pair_crew s) t.pairs is.1 in
    ap (λ (l : List HartState). let r : TableState = record { states = l; pairs = pairs_in harts (pair_crew s) } in r) x
    ∙ ap (λ (p : List (List Bool)). let r : TableState = record { states = t.states; pairs = p } in r) y

read_at : (harts : List ArchState) (i id : ℕ) (x : ArchState) → i ≡ id → id < length harts → x ≡ get_or harts i x → x ≡ get_or harts id (never_started id)
read_at harts i id x at lt e = e ∙ (ap (λ (k : ℕ). get_or harts k x) at ∙ get_or_default harts id x (never_started id) lt)

pub all_seats : (size : Size) (harts : List ArchState) (t : Tables) (os : Option Seats) (s : Seats) (doze : Option Doze) → IsHeld size harts t os doze → os ≡ Some s → AreWhole size.harts t s doze
all_seats size harts t os s doze held e = subst (λ (o : Option Seats). AreAllSeats size.harts t o doze) e held.seats

-- What a call of hart `id` finds in the fields of a machine: the seats of all harts, which it took out of their
-- place, and the hart, which it read at its own.
pub record Finds (a : Inside) (s : Seats) (i id : ℕ) (x : ArchState) : Type 0 where
  pub held : IsHeld a.shape a.harts.items a.tables a.seats a.bus.doze
  pub taken : a.seats ≡ Some s
  pub at : i ≡ id
  pub low : id < length a.harts.items
  pub read : x ≡ get_or a.harts.items id (never_started id)

pub finds : {a : Inside} {old : Machine} {s : Seats} {i id : ℕ} {x : ArchState} → shown_as a ≡ old → IsHeld a.shape a.harts.items a.tables a.seats a.bus.doze → a.seats ≡ Some s → i ≡ id → id < length old.harts → x ≡ get_or a.harts.items i x → Finds a s i id x
finds {a} {old} {s} {i} {id} {x} view held taken at low read =
    let within : id < length a.harts.items = subst (λ (m : Machine). id < length m.harts) (sym view) low in
    record { held = held; taken = taken; at = at; low = within; read = read_at a.harts.items i id x at within read }

pub others_rest : (o : Option Doze) (h k : ℕ) (t : Tables) (s s' : Seats) → GivesBack t h s s' → k ≢ h → RestsBy o k s → RestsBy o k s'
others_rest o h k t s s' gives ne r = rests_moved o k s s' (λ st p. gives.others.stages k st ne p) (λ p. gives.pairs.each k ∙ p) r

-- what a hart did, as a relation of two moments, on a board of that size
abbrev pub Action : Type 1
Action = Size → Moment → Moment → Type 0

-- with the seats of all harts it was done: whatever they show before it, they show what it makes of that
abbrev pub DoneAlone : Action → Size → ArchState → List ℕ → ArchState → List ℕ → Seats → Seats → Type 0
DoneAlone Does size x m y n s s' = (t : TableState) → IsTable size.harts s t → (t' : TableState) × Does size (moment t x m) (moment t' y n) × IsTable size.harts s' t'

-- What it left of the machine: the hart at its place and the seats in theirs, with a doze that may be another,
-- all of which the machine may hold, and which show what the hart made of it.
pub record Left (Does : Action) (a : Inside) (s' : Seats) (i id : ℕ) (y : ArchState) (n : List ℕ) (doze : Option Doze) : Type 0 where
  pub held : IsHeld a.shape (slice_set a.harts.items i y) a.tables (Some s') doze
  pub after : Moment
  pub did : Does a.shape (moment_of id (shown_as a)) after
  pub made : ◌≡◌ {A = Machine} (record { size = a.shape; memory = n; doze = doze; harts = slice_set a.harts.items i y; table = shown_by a.shape.harts s' }) (record (with_moment id (shown_as a) after) { doze = doze })

-- where the doze is as it was, the machine is what the hart made of it
pub done_by : (Does : Action) (a : Inside) (old : Machine) (s' : Seats) (i id : ℕ) (y : ArchState) (n : List ℕ) → shown_as a ≡ old → Left Does a s' i id y n a.bus.doze
    → DoneBy (Does old.size) id old (record { size = a.shape; memory = n; doze = a.bus.doze; harts = slice_set a.harts.items i y; table = shown_by a.shape.harts s' })
done_by Does a old s' i id y n view l =
    let new : Machine = record { size = a.shape; memory = n; doze = a.bus.doze; harts = slice_set a.harts.items i y; table = shown_by a.shape.harts s' } in
    subst (λ (m : Machine). DoneBy (Does m.size) id m new) view (l.after, l.did, l.made)

module _ {a : Inside} {s : Seats} {i id : ℕ} {x : ArchState} (found : Finds a s i id x) where
  pub seats_found : AreWhole a.shape.harts a.tables s a.bus.doze
  seats_found = all_seats a.shape a.harts.items a.tables a.seats s a.bus.doze found.held found.taken

  -- the hart that was read has that number
  pub number_found : x.id ≡ id
  number_found = ap (λ (z : ArchState). z.id) found.read ∙ found.held.numbered id found.low

  pub low_number : x.id < a.shape.harts
  low_number = subst (λ (n : ℕ). x.id < n) found.held.long (subst (λ (k : ℕ). k < length a.harts.items) (sym number_found) found.low)

  -- whose doze it is, by the number that was read
  pub doze_found : doze_of x.id a.bus.doze ≡ doze_of id a.bus.doze
  doze_found = ap (λ (k : ℕ). doze_of k a.bus.doze) number_found

  pub rests_found : (o : Option Doze) → doze_of id a.bus.doze ≡ o → RestsBy o x.id s
  rests_found o e = subst (λ (p : Option Doze). RestsBy p x.id s) (doze_found ∙ e) (seats_found.rests x.id low_number)

  -- a hart in whose doze the board is not rests
  pub seat_rests : doze_of id a.bus.doze ≡ None → Rests x.id s
  seat_rests awake = rests_found None awake

  module _ (Does : Action) {s' : Seats} {y : ArchState} {n : List ℕ} (doze : Option Doze)
      (one : IsOneList) (set : IsOneSet) (done : DoneAlone Does a.shape x a.bus.ram y n s s')
      (same : y.id ≡ x.id) (gives : GivesBack a.tables x.id s s') (own : RestsBy (doze_of x.id doze) x.id s')
      (others : (k : ℕ) → k < a.shape.harts → k ≢ x.id → RestsBy (doze_of k doze) k s') where
    after : (t' : TableState) × Does a.shape (moment (shown_by a.shape.harts s) x a.bus.ram) (moment t' y n) × IsTable a.shape.harts s' t'
    after = done (shown_by a.shape.harts s) seats_found.shows

    shown_after : shown_by a.shape.harts s' ≡ after.0
    shown_after = one_shown one set a.shape.harts s' after.0 after.2

    did : Does a.shape (moment (shown_by a.shape.harts s) x a.bus.ram) (moment (shown_by a.shape.harts s') y n)
    did = subst (λ (l : TableState). Does a.shape (moment (shown_by a.shape.harts s) x a.bus.ram) (moment l y n)) (sym shown_after) after.1

    abbrev new : ℕ → Machine
    new k = record { size = a.shape; memory = n; doze = doze; harts = slice_set a.harts.items k y; table = shown_by a.shape.harts s' }

    did_so : Does a.shape (moment_of id (shown_as a)) (moment (shown_by a.shape.harts s') y n)
    did_so = subst (λ (o : Option Seats). Does a.shape (moment (table_of a.shape.harts o) (get_or a.harts.items id (never_started id)) a.bus.ram) (moment (shown_by a.shape.harts s') y n)) (sym found.taken)
        (subst (λ (z : ArchState). Does a.shape (moment (shown_by a.shape.harts s) z a.bus.ram) (moment (shown_by a.shape.harts s') y n)) found.read did)

    numbered : AreNumbered (slice_set a.harts.items i y)
    numbered h below =
        let long = subst (λ (k : ℕ). h < k) (length-set a.harts.items i y) below in
        dite (ℕ_discrete h i)
        (λ hit. ap (λ (z : ArchState). z.id) (get_or-set_at a.harts.items i h y (never_started h) hit (subst (λ (k : ℕ). k < length a.harts.items) (sym found.at) found.low)) ∙ (same ∙ (number_found ∙ (sym found.at ∙ sym hit))))
        (λ miss. ap (λ (z : ArchState). z.id) (get_or-set_other a.harts.items i h y (never_started h) miss) ∙ found.held.numbered h long)

    whole_after : AreWhole a.shape.harts a.tables s' doze
    whole_after = record {
      seats = gives.seats;
      all = (gives.others.harts ∙ seats_found.all.0, gives.pairs.harts ∙ seats_found.all.1);
      shows = subst (λ (l : TableState). IsTable a.shape.harts s' l) (sym shown_after) after.2;
      rests = λ h below. dite (ℕ_discrete h x.id)
          (λ hit. subst (λ (k : ℕ). RestsBy (doze_of k doze) k s') (sym hit) own)
          (λ miss. others h below miss);
    }

    pub left : Left Does a s' i id y n doze
    left = record {
      held = record { long = length-set a.harts.items i y ∙ found.held.long; numbered = numbered; tables = found.held.tables; seats = whole_after };
      after = moment (shown_by a.shape.harts s') y n;
      did = did_so;
      made = ap new found.at;
    }

  -- a hart in whose doze the board is not, and which rests, leaves the doze
  pub left_own : (Does : Action) {s' : Seats} {y : ArchState} {n : List ℕ} → IsOneList → IsOneSet → doze_of id a.bus.doze ≡ None → DoneAlone Does a.shape x a.bus.ram y n s s' → y.id ≡ x.id → GivesBack a.tables x.id s s' → Rests x.id s'
      → Left Does a s' i id y n a.bus.doze
  left_own Does {s'} one set awake done same gives rests =
      left Does a.bus.doze one set done same gives
      (subst (λ (o : Option Doze). RestsBy o x.id s') (sym (doze_found ∙ awake)) rests)
      (λ k below miss. others_rest (doze_of k a.bus.doze) x.id k a.tables s s' gives miss (seats_found.rests k below))

-- ---- the seats are in their place
pub seats_there : (size : Size) (harts : List ArchState) (t : Tables) (os o : Option Seats) (doze : Option Doze) → IsHeld size harts t os doze → o ≡ os → IsSome o
seats_there size harts t None o doze held e = absurd held.seats
seats_there size harts t (Some s) o doze held e = subst (λ (x : Option Seats). IsSome x) (sym e) refl

-- and others that show as much are put there
pub held_with : (size : Size) (harts : List ArchState) (t : Tables) (os : Option Seats) (s : Seats) (doze : Option Doze) → IsHeld size harts t os doze → AreWhole size.harts t s doze → IsHeld size harts t (Some s) doze
held_with size harts t os s doze held whole = record { long = held.long; numbered = held.numbered; tables = held.tables; seats = whole }

pub shows_with : (a : Inside) (old : Machine) (s s' : Seats) → shown_as a ≡ old → a.seats ≡ Some s → shown_by a.shape.harts s' ≡ shown_by a.shape.harts s
    → ◌≡◌ {A = Machine} (record { size = a.shape; memory = a.bus.ram; doze = a.bus.doze; harts = a.harts.items; table = shown_by a.shape.harts s' }) old
shows_with a old s s' view taken same =
    ap (λ (l : TableState). let m : Machine = record { size = a.shape; memory = a.bus.ram; doze = a.bus.doze; harts = a.harts.items; table = l } in m) (same ∙ ap (table_of a.shape.harts) (sym taken)) ∙ view

-- a hart of the machine is in the list of its harts
pub in_place : (a : Inside) (old : Machine) (place id : ℕ) → shown_as a ≡ old → place ≡ id → id < length old.harts → place < vec_len a.harts
in_place a old place id view at low =
    let within : id < length a.harts.items = subst (λ (m : Machine). id < length m.harts) (sym view) low in
    omega (arith, at, within, a.harts.ok.0)

-- ---- a copy holds what the machine holds
module _ (a : Inside) (old : Machine) (s all : Seats) (harts : List ArchState) (view : shown_as a ≡ old) (taken : a.seats ≡ Some s) (same : harts ≡ a.harts.items) where
  pub copy_held : (t : Tables) → IsHeld a.shape a.harts.items a.tables a.seats a.bus.doze → AreTablesOf a.shape t → AreWhole a.shape.harts t all a.bus.doze → IsHeld a.shape harts t (Some all) a.bus.doze
  copy_held t held are whole = record {
    long = ap (λ (l : List ArchState). length l) same ∙ held.long;
    numbered = subst AreNumbered (sym same) held.numbered;
    tables = are;
    seats = whole;
  }

  pub copy_shows : (ram : List ℕ) → ram ≡ a.bus.ram → shown_by a.shape.harts all ≡ shown_by a.shape.harts s
      → ◌≡◌ {A = Machine} (record { size = a.shape; memory = ram; doze = a.bus.doze; harts = harts; table = shown_by a.shape.harts all }) old
  copy_shows ram alike shows =
      ap (λ (m : List ℕ). let x : Machine = record { size = a.shape; memory = m; doze = a.bus.doze; harts = harts; table = shown_by a.shape.harts all } in x) alike
      ∙ (ap (λ (hs : List ArchState). let x : Machine = record { size = a.shape; memory = a.bus.ram; doze = a.bus.doze; harts = hs; table = shown_by a.shape.harts all } in x) same
      ∙ shows_with a old s all view taken shows)

-- and one of the tables
pub by_table : (a : Inside) (old : Machine) (id : ℕ) → shown_as a ≡ old → IsHeld a.shape a.harts.items a.tables a.seats a.bus.doze → id < length old.harts → id < harts_of_both a.tables
by_table a old id view held low =
    let within : id < length a.harts.items = subst (λ (m : Machine). id < length m.harts) (sym view) low in
    subst (λ (n : ℕ). id < n) (held.long ∙ sym held.tables) within
