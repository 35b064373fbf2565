use Rattle.std.{proofs.Common.{rules, ℕ, List, ◌+◌, ◌*◌, ◌<◌, ◌≤◌, length, sym, subst, arith}, specs.Prelude.slice_index}
use Rattle.board_space.{specs.{Layouts.tracked_of, Tracked.segment_count}, proofs.Kept.segment_within}
use Rattle.board_space.proofs.Putting.{framed_shown, segments_none, segments_by, segments_hold}
use Rattle.board_space.proofs.board_rows.put_segments.Goals as goal

pub loop-segment-init : goal.loop-segment-init
loop-segment-init c = segments_none c.args.layout.now c.args.words.now c.args.from c.args.row.now c.args.board.now c.requires.shown

pub put_values-requires-clause-shown : goal.put_values-requires-clause-shown
put_values-requires-clause-shown c = framed_shown (record c.args.board.now.machine { memory = c.loop-segment.board.machine.memory }) c.args.board.now c.loop-segment.board c.loop-segment.invariant.others

pub put_values-requires-clause-within : goal.put_values-requires-clause-within
put_values-requires-clause-within c =
    let known : c.loop-segment.segment < segment_count (tracked_of c.args.layout.now) = search rules in
    subst (λ (ws : List ℕ). (j : ℕ) → j < length ws → 8 * slice_index ws j + 8 ≤ length c.loop-segment.board.machine.memory) (sym c.segment.ensures)
    (λ j low. omega (arith, segment_within (tracked_of c.args.layout.now) (length c.args.board.now.machine.memory) c.loop-segment.segment c.requires.within known j low, c.loop-segment.invariant.room))

pub loop-segment-preserved : goal.loop-segment-preserved
loop-segment-preserved c =
    let known : c.loop-segment.segment < segment_count (tracked_of c.args.layout.now) = search rules in
    segments_by c.args.layout.now c.args.words.now c.args.from c.args.row.now c.args.board.now c.loop-segment.board c.put_values.new.board c.loop-segment.segment c.loop-segment.invariant known
    c.segment.result.now c.get-values.result.now c.segment.ensures c.get-values.ensures
    c.put_values.ensures.hold c.put_values.ensures.keeps c.put_values.ensures.outside c.put_values.ensures.room c.put_values.ensures.others

pub returns-clause-segments : goal.returns-clause-segments
returns-clause-segments c =
    let all : segment_count (tracked_of c.args.layout.now) ≤ c.loop-segment.segment = search rules in
    segments_hold c.args.layout.now c.args.words.now c.args.from c.args.row.now c.args.board.now c.loop-segment.board c.loop-segment.segment c.loop-segment.invariant all c.requires.known.0 c.requires.known.1
