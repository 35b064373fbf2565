-- A whole turn with the one seat of all harts.
use Rattle.std.proofs.Common.{◌≡◌, ℕ, ◌<◌, Bool, List, refl, sym, ap, ◌∙◌, subst}
use Rattle.board_model.specs.Shapes.{Size}
use Rattle.hart.specs.{State.{ArchState, started as fresh}, Means.Steps, declared.Outcome.Outcome}
use Rattle.sbi_calls.specs.declared.{tables.{Tables.Tables, Seats.Seats}, words.Turned.{Turned, TheVariants.Made}}
use Rattle.sbi_calls.specs.Both.{Known, known, GivesBack}
use Rattle.sbi_calls.specs.declared.words.Did.TheVariants as dids
use Rattle.turns.specs.{declared.readies.Ready.Ready, Own.{BeginsOwn, FinishesOwn, StepsIf, TurnAsOwn, TurnOwn}}
use Rattle.turns.specs.Turns.{Rests, RestsAs, turn_begun, BeginsAlone, FinishesAlone, TurnAs, TurnsAlone, moment}
use Rattle.turns.specs.declared.readies.Ready.TheVariants as readies

-- how a turn of the hart begins: its own steps, and with the one seat of all harts
pub record Comes (size : Size) (s : ArchState) (b c : Seats) (r : Ready) : Type 0 where
  pub own : BeginsOwn s.id (known b) (known c) r
  pub alone : BeginsAlone size.harts s.id b c r

-- as the code began it, for a hart of that number
pub comes : (size : Size) (s : ArchState) (n by : ℕ) (b c : Seats) (r q : Ready) → n ≡ size.harts → by ≡ s.id → r ≡ q → BeginsOwn by (known b) (known c) r → BeginsAlone n by b c r → Comes size s b c q
comes size s n by b c r q e f is own alone = record {
  own = subst (λ (k : ℕ). BeginsOwn k (known b) (known c) q) f (subst (λ (p : Ready). BeginsOwn by (known b) (known c) p) is own);
  alone = subst (λ (k : ℕ). BeginsAlone k s.id b c q) e (subst (λ (k : ℕ). BeginsAlone n k b c q) f (subst (λ (p : Ready). BeginsAlone n by b c p) is alone));
}

pub rests_as : (by id : ℕ) (r q : Ready) (s : Seats) → r ≡ q → by ≡ id → RestsAs by r s → RestsAs id q s
rests_as by id r q s e f x = subst (λ (k : ℕ). RestsAs k q s) f (subst (λ (p : Ready). RestsAs by p s) e x)

pub gives_as : (t : Tables) (by id : ℕ) (s s' : Seats) → by ≡ id → GivesBack t by s s' → GivesBack t id s s'
gives_as t by id s s' e g = subst (λ (k : ℕ). GivesBack t k s s') e g

pub rests_by : (by id : ℕ) (s : Seats) → by ≡ id → Rests id s → Rests by s
rests_by by id s e r = subst (λ (k : ℕ). Rests k s) (sym e) r

-- the hart of the board is one of the tables
pub is_low : (by id n harts : ℕ) → by ≡ id → harts ≡ n → id < n → by < harts
is_low by id n harts e f lt = subst (λ (k : ℕ). k < harts) (sym e) (subst (λ (m : ℕ). id < m) (sym f) lt)

-- ---- a whole turn by its own steps, and with the one seat of all harts
-- and the first of these of one that steps, the second of any other
abbrev pub Turns : Size → ArchState → List ℕ → ArchState → List ℕ → Seats → Seats → Turned → Type 0 → Type 0 → Type 0
Turns size s m t n b d word stepped stayed =
    (own : TurnOwn size s m t n (known b) (known d) word) × StepsIf own.0 stepped stayed × TurnsAlone size s m t n b d word

-- one that makes no step leaves the memory as it was
pub idle_turn : (size : Size) (s : ArchState) (m : List ℕ) (b c : Seats) (stepped stayed : Type 0) → Comes size s b c readies.Idle → stayed → Turns size s m s m b c (Made dids.Idle) stepped stayed
idle_turn size s m b c stepped stayed began so = (
  (readies.Idle, known c, began.own, (refl, refl, refl, refl)),
  so,
  λ x are. let a = began.alone x are in let y = (turn_begun s.id x).table in
      (y, subst (λ (q : Ready). TurnAs size q y (moment x s m) (moment y s m) (Made dids.Idle)) a.0 (refl, refl), a.1),
)

pub woke_turn : (size : Size) (s : ArchState) (m : List ℕ) (b c : Seats) (stepped stayed : Type 0) → Comes size s b c readies.Woke → stayed → Turns size s m s m b c (Made dids.Woke) stepped stayed
woke_turn size s m b c stepped stayed began so = (
  (readies.Woke, known c, began.own, (refl, refl, refl, refl)),
  so,
  λ x are. let a = began.alone x are in let y = (turn_begun s.id x).table in
      (y, subst (λ (q : Ready). TurnAs size q y (moment x s m) (moment y s m) (Made dids.Woke)) a.0 (refl, refl), a.1),
)

-- the hart that the code makes, where it enters by these
pub entered : (s t : ArchState) (id value site opaque : ℕ) → t ≡ fresh id value opaque → id ≡ s.id → value ≡ site → t ≡ fresh s.id site opaque
entered s t id value site opaque made e f = made ∙ (ap (λ (k : ℕ). fresh k value opaque) e ∙ ap (λ (k : ℕ). fresh s.id k opaque) f)

pub enters_turn : (size : Size) (s t : ArchState) (m : List ℕ) (b c : Seats) (site opaque : ℕ) (stepped stayed : Type 0) → Comes size s b c (readies.Enters site opaque) → stayed → t ≡ fresh s.id site opaque → Turns size s m t m b c (Made dids.Entered) stepped stayed
enters_turn size s t m b c site opaque stepped stayed began so f = (
  (readies.Enters site opaque, known c, began.own, (f, refl, refl, refl)),
  so,
  λ x are. let a = began.alone x are in let y = (turn_begun s.id x).table in
      (y, subst (λ (q : Ready). TurnAs size q y (moment x s m) (moment y t m) (Made dids.Entered)) a.0 (ap (λ (h : ArchState). moment y h m) f, refl), a.1),
)

pub steps_turn : (size : Size) (s u t : ArchState) (m n : List ℕ) (b c d : Seats) (pending : Bool) (o : Outcome) (word : Turned) (stepped stayed : Type 0) → Comes size s b c (readies.Steps pending) → stepped → Steps pending s m u n o
    → FinishesOwn size o u t (known c) (known d) word → FinishesAlone size o u t c d word → Turns size s m t n b d word stepped stayed
steps_turn size s u t m n b c d pending o word stepped stayed began so step own alone = (
  (readies.Steps pending, known c, began.own, (u, o, step, own)),
  so,
  λ x are. let a = began.alone x are in let z = (turn_begun s.id x).table in let f = alone z a.1 in
      (f.0, subst (λ (q : Ready). TurnAs size q z (moment x s m) (moment f.0 t n) word) a.0 (u, o, step, f.1), f.2),
)

-- ---- a turn whose memory is at hand
-- a turn that makes no step leaves what it found
at_hand_by : (size : Size) (r : Ready) (s t : ArchState) (m n old new : List ℕ) (k k' : Known) (word : Turned) → TurnAsOwn size r s m t n k k' word
    → StepsIf r ((m ≡ old) × (n ≡ new)) ((m ≡ old) × (new ≡ old)) → (m ≡ old) × (n ≡ new)
at_hand_by size readies.Idle s t m n old new k k' word turned took = (took.0, turned.1 ∙ took.0 ∙ sym took.1)
at_hand_by size readies.Woke s t m n old new k k' word turned took = (took.0, turned.1 ∙ took.0 ∙ sym took.1)
at_hand_by size (readies.Enters a o) s t m n old new k k' word turned took = (took.0, turned.1 ∙ took.0 ∙ sym took.1)
at_hand_by size (readies.Steps pending) s t m n old new k k' word turned took = took

pub at_hand : (size : Size) (s t : ArchState) (m n old new : List ℕ) (k k' : Known) (word : Turned) (own : TurnOwn size s m t n k k' word)
    → StepsIf own.0 ((m ≡ old) × (n ≡ new)) ((m ≡ old) × (new ≡ old)) → (m ≡ old) × (n ≡ new)
at_hand size s t m n old new k k' word own took = at_hand_by size own.0 s t m n old new own.1 k' word own.3 took
