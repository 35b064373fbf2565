-- A call as something that a hart of a machine did.
use Rattle.std.proofs.Common.{Some, None, ◌≡◌, ◌≢◌, ℕ, List, refl, sym, ap, ◌∙◌, subst, ⊎_elim, inl, inr}
use Rattle.atomic_table.specs.declared.shared.Seat.{Seat}
use Rattle.board_model.specs.Shapes.{Size}
use Rattle.hart.specs.{State.ArchState, declared.Outcome.TheVariants.Ecall}
use Rattle.hsm.specs.Seating as seating
use Rattle.hsm.specs.{Words.{HartSeatView, HartView}, declared.view.Stage.TheVariants.{Out, Running, Suspended}, Rule.stands, Views.listed}
use Rattle.hsm.specs.{Calls.{ActsAlone, KeepsAll, KeepsOthers, named}, declared.{state.{State.{State as Code}}}}
use Rattle.hsm.specs.declared.state.State.TheVariants as codes
use Rattle.sbi_calls.specs.declared.{tables.{Tables.Tables, Seats.Seats}, words.Turned.Turned}
use Rattle.sbi_calls.specs.Both.{TableState, IsTable, AreSeatsOfBoth, GivesBack, views, harts_known}
use Rattle.turns.{specs.Turns.{RestsAt, Finishes, FinishesAlone}, proofs.Begun.is_started}
use Rattle.machine.specs.Turns.{MakesCallAlone}

-- ---- a look keeps each hart where it stands
pub rests_kept : (h : ℕ) (vs vs' : List HartView) → KeepsAll vs vs' → RestsAt h vs → RestsAt h vs'
rests_kept h vs vs' k r =
    ⊎_elim (λ (o : stands h Out vs). inl (k.stages h Out o)) (⊎_elim (λ (o : stands h Running vs). inr (inl (k.stages h Running o))) (λ (o : stands h Suspended vs). inr (inr (k.stages h Suspended o)))) r

others_kept : (h : ℕ) (a b : List HartView) → KeepsAll a b → KeepsOthers h a b
others_kept h a b k = record { harts = k.harts; stages = λ j st ne s. k.stages j st s }

kept_then : (h : ℕ) (a b c : List HartView) → KeepsAll a b → KeepsOthers h b c → KeepsOthers h a c
kept_then h a b c k o = record { harts = o.harts ∙ k.harts; stages = λ j st ne s. o.stages j st ne (k.stages j st s) }

-- the same seats, but for that of the hart table
abbrev pub with_harts : Seats → Seat (Unit {0}) HartSeatView → Seats
with_harts s harts = record { harts = harts; pending = s.pending }

-- a look at the hart table gives the seats back
pub as_was : {t : Tables} (h : ℕ) (s : Seats) (harts : Seat (Unit {0}) HartSeatView) → AreSeatsOfBoth t (with_harts s harts) → KeepsAll (views s) (seating.harts_in harts) → GivesBack t h s (with_harts s harts)
as_was h s harts seats kept = record { seats = seats; others = others_kept h (views s) (seating.harts_in harts) kept; pairs = record { harts = refl; each = λ k. refl } }

pub given_then : {t : Tables} (h : ℕ) (s : Seats) (harts : Seat (Unit {0}) HartSeatView) (after : Seats) → KeepsAll (views s) (seating.harts_in harts) → GivesBack t h (with_harts s harts) after → GivesBack t h s after
given_then h s harts after kept gives = record { seats = gives.seats; others = kept_then h (views s) (seating.harts_in harts) (views after) kept gives.others; pairs = gives.pairs }

-- a look at the state of a hart
abbrev pub LooksAlone : ℕ → HartSeatView → HartSeatView → ℕ → Code → Type 0
LooksAlone n before after h name = ActsAlone n before after (λ states. name ≡ named (states h)) (λ states. states)

looked : (n : ℕ) (size : Size) (s : Seats) (harts : Seat (Unit {0}) HartSeatView) (by h : ℕ) (name : Code) → n ≡ size.harts → by ≡ h → LooksAlone n (harts_known s) (seating.hart_view_of_seat harts) by name → (t : TableState) → IsTable size.harts s t
    → (name ≡ named (listed t.states h)) × IsTable size.harts (with_harts s harts) t
looked n size s harts by h name e f acts t is =
    let own : LooksAlone size.harts (harts_known s) (seating.hart_view_of_seat harts) h name = subst (λ (k : ℕ). LooksAlone size.harts (harts_known s) (seating.hart_view_of_seat harts) k name) f (subst (λ (k : ℕ). LooksAlone k (harts_known s) (seating.hart_view_of_seat harts) by name) e acts) in
    let a = own (listed t.states) is.0.1 in
    (a.0, ((is.0.0, a.1), is.1))

module _ (size : Size) (n by : ℕ) (s u : ArchState) (m : List ℕ) where
  -- a hart that is named otherwise makes no call
  pub not_made_alone : (seats : Seats) (harts : Seat (Unit {0}) HartSeatView) (name : Code) → n ≡ size.harts → by ≡ s.id → name ≢ codes.Started → LooksAlone n (harts_known seats) (seating.hart_view_of_seat harts) by name
      → MakesCallAlone size s u s m seats (with_harts seats harts) None
  not_made_alone seats harts name e f ne acts t is =
      let a = looked n size seats harts by s.id name e f acts t is in
      (t, record { made = λ at. absurd (ne (a.0 ∙ ap named at)); not_started = λ _. (refl, refl) }, a.1)

  -- one that is STARTED stands at the ECALL, and is answered
  pub made_alone : (v t : ArchState) (seats : Seats) (harts : Seat (Unit {0}) HartSeatView) (after : Seats) (name : Code) (word : Turned) → n ≡ size.harts → by ≡ s.id → name ≡ codes.Started → v ≡ u → LooksAlone n (harts_known seats) (seating.hart_view_of_seat harts) by name
      → FinishesAlone size Ecall v t (with_harts seats harts) after word → MakesCallAlone size s u t m seats after (Some word)
  made_alone v t seats harts after name word e f at same acts finishes x is =
      let a = looked n size seats harts by s.id name e f acts x is in
      let did = finishes x a.1 in (
        did.0,
        record {
          made = λ _. (word, subst (λ (z : ArchState). Finishes size Ecall x z did.0 t word) same did.1, refl, refl);
          not_started = λ none. absurd (none (is_started (listed x.states s.id) (sym a.0 ∙ at)));
        },
        did.2,
      )
