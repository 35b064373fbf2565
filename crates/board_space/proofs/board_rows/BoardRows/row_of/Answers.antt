use Rattle.std.{proofs.Common.{rules, ℕ, List, [], ◌∷◌, ◌≡◌, ◌∙◌, ◌<◌, length, refl, sym, ap, subst}, specs.Prelude.slice_index}
use Rattle.machine.specs.Machine.{Machine}
use Rattle.board_space.specs.{Layouts.tracked_of, Rows.AreSegments, Tracked.AreWithin, declared.board_rows.BoardRows.BoardRows}
use Rattle.board_space.proofs.Telling.{AreTold, none_fits, seen_within, stands_stays, stood, told_long, told_rested, told_harts, told_segments}
use Rattle.board_space.proofs.board_rows.BoardRows.row_of.Goals as goal

pub tell_segments-requires : goal.tell_segments-requires
tell_segments-requires c =
    subst (λ (m : List ℕ). AreWithin (tracked_of c.args.self.now.layout) (length m)) (sym c.seen_memory.ensures)
    (seen_within c.args.self.now.layout c.args.board.now c.requires c.seen_rest-rest.result.power)

pub returns-clause-stands : goal.returns-clause-stands
returns-clause-stands c =
    let rest = c.rest.result in
    let seen = c.seen_rest-rest.result in
    let rows : BoardRows = record c.args.self.now { rests = c.put_near.new.self; harts = c.tell_harts.new.harts; words = c.tell_segments.new.words; values = c.tell_segments.new.values } in
    let b = c.args.board.now in
    let n = c.in_ok-put_near.field-0 in
    let first = c.push.new.self.items in
    let then = c.tell_harts.new.row.items in
    let row = c.tell_segments.new.row.items in
    let one : first ≡ n ∷ [] = search rules in
    let memory : c.bytes.result.now ≡ b.machine.memory = c.bytes.ensures.value ∙ (c.ram.ensures ∙ ap (λ (m : Machine). m.memory) c.machine.ensures.machine) in
    let all : AreTold rest rows b row = record {
      is = c.rest.ensures.rest;
      fits = c.rest.ensures.fits;
      plain = c.rest.ensures.plain;
      based = c.requires;
      bytes = subst (λ (m : List ℕ). (i : ℕ) → i < length m → slice_index m i < 256) memory c.bytes_in.ensures;
      base = subst (λ (m : List ℕ). (i : ℕ) → i < length m → slice_index m i < 256) c.base.ensures c.bytes_in-2.ensures;
      long = told_long rest seen rows b first then row n c.harts.result c.seen_rest-rest.ensures c.harts.ensures one c.in_ok-tell_harts.ensures.row c.in_ok-tell_segments.ensures.row;
      rested = told_rested rest seen rows b first then row n c.harts.result c.seen_rest-rest.ensures c.harts.ensures one c.in_ok-tell_harts.ensures.row c.in_ok-tell_segments.ensures.row c.in_ok-put_near.ensures.put;
      harts = told_harts rest seen rows b first then row n c.harts.result c.seen_rest-rest.ensures c.harts.ensures one c.in_ok-tell_harts.ensures.row c.in_ok-tell_segments.ensures.row c.in_ok-tell_harts.ensures.harts;
      segments = told_segments rest seen rows b first then row n c.harts.result c.seen_rest-rest.ensures c.harts.ensures one c.in_ok-tell_harts.ensures.row c.in_ok-tell_segments.ensures.row
          (subst (λ (m : List ℕ). AreSegments c.args.self.now.layout c.tell_segments.new.words row (length then) m) c.seen_memory.ensures c.in_ok-tell_segments.ensures.segments);
    } in
    stood rest.power rest.reason rest.down rest.doze rest.tables rows b row none_fits all

pub returns-in_err-tell_segments-clause-stay : goal.returns-in_err-tell_segments-clause-stay
returns-in_err-tell_segments-clause-stay c =
    stands_stays c.args.self.now (record c.args.self.now { rests = c.put_near.new.self; harts = c.tell_harts.new.harts; words = c.tell_segments.new.words; values = c.tell_segments.new.values }) refl c.put_near.ensures.stay c.tell_harts.ensures.stay c.tell_segments.ensures.grows

pub returns-clause-stay : goal.returns-clause-stay
returns-clause-stay c =
    stands_stays c.args.self.now (record c.args.self.now { rests = c.put_near.new.self; harts = c.tell_harts.new.harts; words = c.tell_segments.new.words; values = c.tell_segments.new.values }) refl c.put_near.ensures.stay c.tell_harts.ensures.stay c.tell_segments.ensures.grows
