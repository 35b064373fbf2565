-- The console's part of the history of the bus: each time that it woke a board.
use Rattle.std.{proofs.Common.{◌≡◌, ℕ, true, Option, Some, None, IsTrue, refl, sym, ap, subst}, specs.Prelude.is_some}
use Rattle.susp.specs.{Dozes.{can_wake, after_wake}, declared.buses.Bus.Bus}
use Rattle.tallies.specs.{Books.told_after, declared.book_views.PartView.PartView}
use Rattle.hart_threads.specs.{Bused.{AreWakes, HoldsWakes, IsWaking, bus_turn, part_in}, Heard.one_more}
use Rattle.hart_threads.specs.declared.bus_turns.BusTurn.{BusTurn}

pub holds_some : (o : Option (PartView BusTurn)) (n : ℕ) → HoldsWakes o n → IsTrue (is_some o)
holds_some None n is = absurd is
holds_some (Some d) n is = refl

pub holds_part : (o : Option (PartView BusTurn)) (n : ℕ) → HoldsWakes o n → AreWakes n (part_in o)
holds_part None n is = absurd is
holds_part (Some d) n is = is

is_waking : (found left : Bus) → can_wake found.doze ≡ true → left.ram ≡ found.ram → left.doze ≡ after_wake found.doze → IsWaking (bus_turn found left)
is_waking found left can ram doze = (can, λ i. record { ram = ram i; doze = doze i })

pub woken_more : (n k : ℕ) (found left : Bus) (d d' : PartView BusTurn) → AreWakes n d → can_wake found.doze ≡ true → left.ram ≡ found.ram → left.doze ≡ after_wake found.doze → d' ≡ told_after k (bus_turn found left) d → AreWakes (one_more n) d'
woken_more n k found left d d' was can ram doze is =
    let more : AreWakes (one_more n) (told_after k (bus_turn found left) d) = (was.0, (is_waking found left can ram doze, was.1), ap one_more was.2) in
    subst (λ (p : PartView BusTurn). AreWakes (one_more n) p) (sym is) more
