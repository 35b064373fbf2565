-- Tables that show what those of a machine show.
use Rattle.std.proofs.Common.{◌≡◌, ◌≢◌, ℕ, true, false, true≢false, ◌<◌, ◌≤◌, List, Option, Some, None, IfSome, refl, sym, ap, ◌∙◌, subst, inl, inr, arith, tests, rules, eqb, not, ◌&&◌, eq-eqb, ne_eqb}
use Rattle.std.proofs.lemmas.Bool.{lt-ltb, le-ltb}
use mathlib.Core.Logic.{dite}
use native.Mathlib.Decide.{ℕ_discrete, dec_le}
use Rattle.board_model.specs.Shapes.{Size}
use Rattle.hsm.specs.{declared.view.Stage.{Stage, TheVariants.Quiet}, Words.{HartView, HartSeatView}, Rule.stands, Calls.KeepsOthers}
use Rattle.hsm.specs.{States.{HartState, stopped, start_pending, started, suspended}, Views.{state_in, states_in, AreStates}}
use Rattle.hsm.specs.Copies.{rest_stage, stage_by}
use Rattle.ipi.specs.{Ledger.{PendingSeatView as Pairs}, Pairs.{Sits, SameHarts}, Views.{pairs_in, ArePairs}}
use Rattle.sbi_calls.specs.declared.tables.{Tables.Tables, Seats.Seats}
use Rattle.sbi_calls.specs.Both.{TableState, IsTable, AreSeatsOfBoth, AreOfAll, Acts, views, harts_known, pair_crew}
use Rattle.turns.specs.Turns.{RestsAt}
use Rattle.susp.specs.{Dozes.doze_of, declared.buses.Doze.Doze}
use Rattle.machine.{specs.Held.{shown_by, quiet_in, RestsBy, AreWhole}, proofs.Owners.{its_own, other_none, rests_moved}}
use Rattle.machine.proofs.Holding.{IsOneList, IsOneSet, one_shown}

-- ---- the seats that are copied stay
module _ (harts : ℕ) (s s' : Seats) (same : harts_known s' ≡ harts_known s) (also : pair_crew s' ≡ pair_crew s) where
  -- with the same harts
  kept : KeepsOthers 0 (views s) (views s')
  kept = subst (λ (c : HartSeatView). KeepsOthers 0 (views s) c.harts) (sym same) (record { harts = refl; stages = λ k st ne p. p })

  paired : SameHarts (pair_crew s) (pair_crew s')
  paired = subst (λ (d : Pairs). SameHarts (pair_crew s) d) (sym also) (record { harts = refl; each = λ h. refl })

  pub stays_whole : (t : Tables) (doze : Option Doze) → AreWhole harts t s doze → AreSeatsOfBoth t s' → AreWhole harts t s' doze
  stays_whole t doze whole seats = record {
    seats = seats;
    all = (kept.harts ∙ whole.all.0, paired.harts ∙ whole.all.1);
    shows = (
      subst (λ (c : HartSeatView). AreStates harts c (states_in harts c)) (sym same) whole.shows.0,
      subst (λ (d : Pairs). ArePairs harts d (pairs_in harts d)) (sym also) whole.shows.1,
    );
    rests = λ h lt. rests_moved (doze_of h doze) h s s' (λ st p. subst (λ (c : HartSeatView). stands h st c.harts) (sym same) p) (λ p. subst (Sits h) (sym also) p) (whole.rests h lt);
  }

  pub stays_shown : shown_by harts s' ≡ shown_by harts s
  stays_shown =
      ap (λ (c : HartSeatView). let r : TableState = record { states = states_in harts c; pairs = pairs_in harts (pair_crew s') } in r) same
      ∙ ap (λ (d : Pairs). let r : TableState = record { states = states_in harts (harts_known s); pairs = pairs_in harts d } in r) also

-- ---- where harts stand
-- the hart of a doze, where the board has it
has_quiet : (harts : ℕ) (d : Doze) → d.at.hart < harts → quiet_in harts (Some d) ≡ Some d.at.hart
has_quiet harts d lt = rw (lt-ltb d.at.hart harts lt) refl

lacks_quiet : (harts : ℕ) (d : Doze) → harts ≤ d.at.hart → quiet_in harts (Some d) ≡ None
lacks_quiet harts d le = rw (le-ltb d.at.hart harts le) refl

-- the hart that is quiet stands so
pub quiet_stands : (harts : ℕ) (doze : Option Doze) (s : Seats) → ((h : ℕ) → h < harts → RestsBy (doze_of h doze) h s) → IfSome (quiet_in harts doze) (λ h. (h < harts) × stands h Quiet (views s))
quiet_stands harts None s rests = tt
quiet_stands harts (Some d) s rests = dite (dec_le harts d.at.hart)
    (λ above. subst (λ (q : Option ℕ). IfSome q (λ h. (h < harts) × stands h Quiet (views s))) (sym (lacks_quiet harts d above)) tt)
    (λ under.
    let lt : d.at.hart < harts = omega arith in
    let acts : Acts d.at.hart Quiet s = subst (λ (o : Option Doze). RestsBy o d.at.hart s) (its_own d.at.hart d refl) (rests d.at.hart lt) in
    subst (λ (q : Option ℕ). IfSome q (λ h. (h < harts) × stands h Quiet (views s))) (sym (has_quiet harts d lt)) (lt, acts.0))

at_rest : (x : HartState) (h : ℕ) (vs : List HartView) → stands h (rest_stage x) vs → RestsAt h vs
at_rest stopped h vs p = inl p
at_rest (start_pending a o) h vs p = inl p
at_rest started h vs p = inr (inl p)
at_rest suspended h vs p = inr (inr p)

-- no other stands otherwise than its state has it
other_stage : (harts h : ℕ) (d : Doze) (x : HartState) → d.at.hart ≢ h → stage_by (quiet_in harts (Some d)) h x ≡ rest_stage x
other_stage harts h d x ne = dite (dec_le harts d.at.hart)
    (λ above. ap (λ (q : Option ℕ). stage_by q h x) (lacks_quiet harts d above))
    (λ under. let lt : d.at.hart < harts = omega arith in
    let is : stage_by (Some d.at.hart) h x ≡ rest_stage x = rw (ne_eqb d.at.hart h ne) refl in
    ap (λ (q : Option ℕ). stage_by q h x) (has_quiet harts d lt) ∙ is)

own_stage : (harts h : ℕ) (d : Doze) (x : HartState) → h < harts → d.at.hart ≡ h → stage_by (quiet_in harts (Some d)) h x ≡ Quiet
own_stage harts h d x lt e =
    let within : d.at.hart < harts = omega arith in
    let is : stage_by (Some d.at.hart) h x ≡ Quiet = rw (eq-eqb d.at.hart h e) refl in
    ap (λ (q : Option ℕ). stage_by q h x) (has_quiet harts d within) ∙ is

rest_copied : (harts h : ℕ) (doze : Option Doze) (x : HartState) (s : Seats) → h < harts → stands h (stage_by (quiet_in harts doze) h x) (views s) → Sits h (pair_crew s) → RestsBy (doze_of h doze) h s
rest_copied harts h None x s lt p sits = (at_rest x h (views s) p, sits)
rest_copied harts h (Some d) x s lt p sits = dite (ℕ_discrete d.at.hart h)
    (λ e. subst (λ (o : Option Doze). RestsBy o h s) (sym (its_own h d e)) (subst (λ (st : Stage). stands h st (views s)) (own_stage harts h d x lt e) p, sits))
    (λ ne. subst (λ (o : Option Doze). RestsBy o h s) (sym (other_none h d ne)) (at_rest x h (views s) (subst (λ (st : Stage). stands h st (views s)) (other_stage harts h d x ne) p), sits))

-- ---- the seats of the copy
module _ (one : IsOneList) (set : IsOneSet) (harts : ℕ) (t : Tables) (old s : Seats) (doze : Option Doze) (seats : AreSeatsOfBoth t s) (all : AreOfAll t s) (is : IsTable harts s (shown_by harts old))
    (stood : (h : ℕ) → h < harts → stands h (stage_by (quiet_in harts doze) h (state_in (harts_known old) h)) (views s)) where
  copy_shown : shown_by harts s ≡ shown_by harts old
  copy_shown = one_shown one set harts s (shown_by harts old) is

  pub copy_whole : AreWhole harts t s doze
  copy_whole = record {
    seats = seats;
    all = all;
    shows = subst (λ (l : TableState). IsTable harts s l) (sym copy_shown) is;
    rests = λ h lt. rest_copied harts h doze (state_in (harts_known old) h) s lt (stood h lt) (is.1.1.0 h lt);
  }

-- ---- they are not the same
pub not_same : {P : Type 0} → false ≡ true → P
not_same {P} e = absurd (true≢false (sym e))

-- sizes that a comparison finds the same
pub one_size : (a b : Size) → false ≡ not (eqb a.harts b.harts && (eqb a.pages b.pages && eqb a.lanes b.lanes)) → a ≡ b
one_size a b e = search (tests, rules, e)
