-- The rule of the hart table, which holds between any two steps: a fact of the words and of the views of all
-- seats.
use Rattle.std.specs.Prelude.{◌≡◌, ◌≢◌, ◌⊎◌, ℕ, ◌+◌, ◌-◌, ◌*◌, ◌%◌, ◌^◌, ◌<◌, ◌≤◌, List, [], ◌∷◌, ◌==◌, bit_or, bit_and, if◌then◌else◌}
use Rattle.std.specs.Int.{bit_at, bit_not}
use Rattle.std.proofs.Common.{w64}
use Rattle.atomic_table.specs.Table.{State}
use Rattle.tallies.specs.Sums.{total}
use Rattle.tallies.specs.Logs.{Reading}
pub use Rattle.tallies.specs.Notes.{HasNoted}
use Rattle.tallies.specs.Rules.{Everywhere, HasLog, IsLogged}
use Rattle.board_model.specs.Shapes.{IsAddressIn}
use Rattle.hsm.specs.Words.{HartView, HartSeatView, WordBits, word_bits}
use Rattle.hsm.specs.declared.view.Stage.{Stage}
use Rattle.hsm.specs.declared.view.Stage.TheVariants.{Out, Ready, Addressed, Loaded, Running, Claiming, Half, Stored, Suspended, Quiet}
use Rattle.hsm.specs.declared.view.Action.{Action}
use Rattle.hsm.specs.declared.view.Action.TheVariants.{Claimed, Wrote, Armed, Looked, Read, Entered, Stopped, Suspended as DidSuspend, Woke, Quieted, Unquieted}

-- an address at which a hart can be started
abbrev pub IsSite : ℕ → Type 0
IsSite a = IsAddressIn (256 * 4096) a

-- what each claimed hart was claimed with
pub record Grants : Type 0 where
  pub address : ℕ → ℕ
  pub opaque : ℕ → ℕ

abbrev pub granted : Grants → ℕ → ℕ → ℕ → Grants
granted g t a o =
    record { address = λ h. if h == t then a else g.address h; opaque = λ h. if h == t then o else g.opaque h }

-- ---- the ledger of starts
-- 1 for a claim of this triple that found the target unclaimed
abbrev pub claim_of : ℕ → ℕ → ℕ → Action → ℕ
claim_of t a o (Claimed t' a' o' found) =
    if t' == t then (if a' == a then (if o' == o then 1 - bit_at found t else 0) else 0) else 0
claim_of t a o _ = 0

-- 1 for an entry with this triple
abbrev pub entry_of : ℕ → ℕ → ℕ → Action → ℕ
entry_of t a o (Entered h a' o' ps) = if h == t then (if a' == a then (if o' == o then 1 else 0) else 0) else 0
entry_of t a o _ = 0

-- the weight of all actions of a seat
abbrev pub did : (Action → ℕ) → HartSeatView → ℕ
did g c = total (λ (v : HartView). total g v.actions) c.harts

-- 1 where the target is claimed with this address and opaque value and hasn't entered
abbrev pub is_pending : WordBits → Grants → ℕ → ℕ → ℕ → ℕ
is_pending m g t a o = if g.address t == a then (if g.opaque t == o then m.claimed t - m.entered t else 0) else 0

-- 1 where a hart at this stage has a start of the target in flight: it has claimed it and not armed it yet
abbrev pub in_flight : ℕ → Stage → ℕ
in_flight t (Claiming t' a o) = if t' == t then 1 else 0
in_flight t (Half t' a o) = if t' == t then 1 else 0
in_flight t (Stored t' a o) = if t' == t then 1 else 0
in_flight t _ = 0

-- the starts of the target that the harts of a seat have in flight
abbrev pub flights : ℕ → HartSeatView → ℕ
flights t c = total (λ (v : HartView). in_flight t v.stage) c.harts

abbrev pub IsGrantOf : Grants → ℕ → ℕ → ℕ → Type 0
IsGrantOf g t a o = (g.address t ≡ a) × (g.opaque t ≡ o)

-- where a hart stands is so in the words
abbrev pub Fits : ℕ → WordBits → Grants → ℕ → Stage → Type 0
Fits harts m g h Out = m.entered h ≡ 0
Fits harts m g h Ready = (m.armed h ≡ 1) × (m.entered h ≡ 0)
Fits harts m g h (Addressed a) = (m.armed h ≡ 1) × (m.entered h ≡ 0) × (m.address h ≡ a)
Fits harts m g h (Loaded a o) = (m.armed h ≡ 1) × (m.entered h ≡ 0) × (m.address h ≡ a) × (m.opaque h ≡ o)
Fits harts m g h Running = (m.entered h ≡ 1) × (m.suspended h ≡ 0)
Fits harts m g h (Claiming t a o) = (m.entered h ≡ 1) × (m.suspended h ≡ 0) × (t < harts) × IsGrantOf g t a o
Fits harts m g h (Half t a o) =
    (m.entered h ≡ 1) × (m.suspended h ≡ 0) × (t < harts) × IsGrantOf g t a o × (m.address t ≡ a)
Fits harts m g h (Stored t a o) =
    (m.entered h ≡ 1) × (m.suspended h ≡ 0) × (t < harts) × IsGrantOf g t a o × (m.address t ≡ a) × (m.opaque t ≡ o)
Fits harts m g h Suspended = (m.entered h ≡ 1) × (m.suspended h ≡ 1)
Fits harts m g h Quiet = (m.entered h ≡ 1) × (m.suspended h ≡ 0) × ((t : ℕ) → t < harts → t ≢ h → m.claimed t ≡ 0)

-- The words and the views agree. `flying`: a claimed hart that is not armed is the start in flight of just
-- one view. `armed`: until an armed hart enters, its argument words are its claim's. `settled`: some hart is not
-- START_PENDING, as the one that made the last claim was not.
pub record Sound (harts : ℕ) (m : WordBits) (g : Grants) (views : List HartSeatView) : Type 0 where
  pub order : (h : ℕ) → h < harts
      → (m.suspended h ≤ m.entered h) × (m.entered h ≤ m.armed h) × (m.armed h ≤ m.claimed h) × (m.claimed h ≤ 1)
  pub flying : (t : ℕ) → t < harts → total (flights t) views + m.armed t ≡ m.claimed t
  pub ledger : (t a o : ℕ) → t < harts
      → total (did (claim_of t a o)) views ≡ total (did (entry_of t a o)) views + is_pending m g t a o
  pub armed : (t : ℕ) → t < harts → m.armed t ≡ 1 → m.entered t ≡ 0
      → (m.address t ≡ g.address t) × (m.opaque t ≡ g.opaque t)
  pub fits : Everywhere (λ v. Fits harts m g v.hart v.stage) views
  pub settled : (h : ℕ) × (h < harts) × (m.claimed h ≡ m.entered h)

-- ---- the actions as steps
-- the word in which an action was
abbrev pub word_of : ℕ → Action → ℕ
word_of h (Wrote i n) = i
word_of h (Read i found) = i
word_of h _ = 0

-- what it says that it found there, if it does
abbrev pub found_by : Action → ℕ → ℕ
found_by (Claimed t a o found) word = found
found_by (Looked found) word = found
found_by (Read i found) word = found
found_by (Stopped found) word = found
found_by (DidSuspend found) word = found
found_by (Woke found) word = found
found_by (Quieted found) word = found
found_by (Unquieted found) word = found
found_by _ word = word

-- the bit of a number
abbrev pub bit : ℕ → ℕ
bit i = 1 * 2 ^ i % 2 ^ 64

-- and what it left there
abbrev pub left_by : ℕ → Action → ℕ → ℕ
left_by h (Claimed t a o found) word = bit_or word (bit t)
left_by h (Wrote i n) word = n
left_by h (Armed t) word = bit_or word (bit (8 + t))
left_by h (Entered k a o ps) word = bit_or word (bit (16 + k))
left_by h (Stopped found) word =
    bit_and word
    (bit_and (bit_and (bit_and (bit_not w64 (bit h)) (bit_not w64 (bit (8 + h)))) (bit_not w64 (bit (16 + h))))
    (bit_not w64 (bit (24 + h))))
left_by h (DidSuspend found) word = bit_or word (bit (24 + h))
left_by h (Woke found) word = bit_and word (bit_not w64 (bit (24 + h)))
left_by h _ word = word

abbrev pub reading : Reading Action
reading = record { word_of = word_of; found_by = found_by; left_by = left_by }

-- the words at the start: one hart is claimed, armed and entered
abbrev pub first_word : ℕ → ℕ → ℕ
first_word started t = if t == 0 then bit_or (bit_or (bit started) (bit (8 + started))) (bit (16 + started)) else 0

-- There is one log of all steps of a table, of which that hart was started first. Each of these harts has just its own steps of it.
abbrev pub HasSteps : ℕ → ℕ → List HartView → Type 0
HasSteps harts started = HasLog reading (first_word started) harts

-- The rule: a log of all steps, and some grants that fit the words and the views.
pub record HartInvariant (harts started : ℕ) (s : State (Unit {0}) HartSeatView) : Type 0 where
  pub steps : IsLogged reading (first_word started) harts (1 + 2 * harts) s
  pub grants : Grants
  pub sites : (h : ℕ) → IsSite (grants.address h)
  pub sound : Sound harts (word_bits s.words) grants s.views

-- the seat has the hart, once, at this stage
abbrev pub stands : ℕ → Stage → List HartView → Type 0
stands h st [] = ⊥
stands h st (v ∷ vs) = ((v.hart ≡ h) × (v.stage ≡ st)) ⊎ ((v.hart ≢ h) × stands h st vs)
