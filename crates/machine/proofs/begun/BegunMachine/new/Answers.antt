use Rattle.std.proofs.Common.{sym, ◌∙◌}
use Rattle.sbi_calls.specs.{Same.AreOfOneBoard, declared.tables.{Tables.Tables, Seats.Seats}}
use Rattle.machine.proofs.{Opening.{AreMade, opening_held, is_resting, untouched}, begun.BegunMachine.new.Goals.After-seat_determines_pairs}
use Rattle.machine.proofs.begun.BegunMachine.new.Goals as goal

abbrev tables_made : (c : After-seat_determines_pairs) → AreOfOneBoard c.in_ok-starts.starts.0 c.in_ok-raises.raises.0 → Tables
tables_made c same = record { harts = c.in_ok-starts.starts.0; pending = c.in_ok-raises.raises.0; same = same }

abbrev seats_made : After-seat_determines_pairs → Seats
seats_made c = record { harts = c.in_ok-starts.starts.1; pending = c.in_ok-raises.raises.1 }

are_made : (c : After-seat_determines_pairs) (same : AreOfOneBoard c.in_ok-starts.starts.0 c.in_ok-raises.raises.0) → AreMade c.args.shape.now (tables_made c same) (seats_made c) c.args.first
are_made c same = record {
  tables = c.in_ok-starts.ensures.harts;
  seats = (c.in_ok-starts.ensures.seat, c.in_ok-raises.ensures.seat);
  all = (c.in_ok-starts.ensures.all, c.in_ok-raises.ensures.all);
  states = c.in_ok-starts.ensures.shows;
  stood = c.in_ok-starts.ensures.stands;
  pairs = c.in_ok-raises.ensures.shows;
  sits = c.in_ok-raises.ensures.sits;
  with_first = c.in_ok-starts.ensures.first;
  no_start = c.in_ok-starts.ensures.opening;
  no_raise = c.in_ok-raises.ensures.opening;
}

pub invariant_of-result : goal.invariant_of-result
invariant_of-result c =
    let at = (goal.at.invariant_of-result c).After-seat_determines_pairs in
    let one = c.seat_determines_states.ensures.list in
    let set = c.seat_determines_pairs.ensures.list in (
      opening_held c.args.shape.now _ (seats_made at) c.args.first one set c.requires (are_made at _) c.in_ok-all.all.items c.in_ok-all.ensures.harts,
      untouched c.args.shape.now _ (seats_made at) c.args.first one set c.requires (are_made at _),
    )

pub returns-clause-resting : goal.returns-clause-resting
returns-clause-resting c =
    let at = (goal.at.returns-clause-resting c).After-seat_determines_pairs in
    let same = c.in_ok-raises.ensures.harts ∙ sym c.in_ok-starts.ensures.harts in
    is_resting c.args.shape.now (tables_made at same) (seats_made at) c.args.first c.seat_determines_states.ensures.list c.seat_determines_pairs.ensures.list c.requires (are_made at same) c.in_ok-ram.ram c.in_ok-all.all.items c.in_ok-ram.ensures.zeros c.in_ok-all.ensures.harts
