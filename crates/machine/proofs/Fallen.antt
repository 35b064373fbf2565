-- A board that just fell asleep in its RAM stands still.
use Rattle.std.{proofs.Common.{◌≡◌, ◌≢◌, ℕ, suc, false, List, Some, sym, ap, ◌∙◌, arith}, specs.Prelude.{length, get_or}}
use Rattle.std.proofs.lemmas.List.{get_or_past}
use native.Mathlib.Decide.{dec_le}
use Rattle.hart.specs.State.{ArchState, never_started}
use Rattle.hsm.specs.{States.{HartState, stopped}, Views.listed}
use Rattle.susp.specs.{Sleeps.AreStopped, declared.buses.Doze.Doze}
use Rattle.machine.{specs.{Held.AreNumbered, Machine.Machine, Dozes.Dozes}, proofs.Owners.is_other}

-- a hart has its number, also one that the board lacks
number_at : (harts : List ArchState) → AreNumbered harts → (h : ℕ) → (get_or harts h (never_started h)).id ≡ h
number_at harts numbered h = elim (dec_le (suc h) (length harts)) [
  | yes below ↦ numbered h below
  | no past ↦ ap (λ (s : ArchState). s.id) (get_or_past harts h (never_started h) (omega (arith, past)))
]

-- every hart but one is stopped, also one that the board lacks
stopped_at : (n : ℕ) (states : List HartState) (by h : ℕ) → length states ≡ n → AreStopped n by (listed states) → h ≢ by → listed states h ≡ stopped
stopped_at n states by h long are ne = elim (dec_le (suc h) n) [
  | yes below ↦ are h below ne
  | no past ↦ get_or_past states h stopped (omega (arith, past, long))
]

pub stands_still : (n : ℕ) (m : Machine) (by : ℕ) (d : Doze) → m.doze ≡ Some d → d.at.hart ≡ by → d.woken ≡ false → AreNumbered m.harts → length m.table.states ≡ n → AreStopped n by (listed m.table.states) → Dozes m
stands_still n m by d is at fresh numbered long are = record {
  doze = d;
  stands = is;
  sleeps = fresh;
  others = λ h none.
      let ne : h ≢ by = λ e. is_other h m.doze d is none (e ∙ sym at) in
      ap (λ (k : ℕ). listed m.table.states k) (number_at m.harts numbered h) ∙ stopped_at n m.table.states by h long are ne;
}
