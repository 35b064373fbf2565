use Rattle.std.{proofs.Common.{rules, ℕ, List, ◌+◌, ◌*◌, ◌<◌, ◌≤◌, ◌≡◌, length, sym, subst, arith}, specs.Prelude.slice_index}
use Rattle.board_space.{specs.{Layouts.tracked_of, Tracked.segment_count}, proofs.Kept.segment_within}
use Rattle.board_space.proofs.{Putting.{framed_shown, segments_hold}, PutOver.{other_segments_none, other_segments_by, other_segments_same}}
use Rattle.board_space.proofs.row_puts.put_other_segments.Goals.{then-from-at, else-from-at}
use Rattle.board_space.proofs.row_puts.put_other_segments.Goals as goal

pub loop-segment-init : goal.loop-segment-init
loop-segment-init c = other_segments_none c.args.layout.now c.args.words.now c.args.at c.args.row.now c.args.board.now c.requires.shown

pub put_values-requires-clause-shown : goal.put_values-requires-clause-shown
put_values-requires-clause-shown c = framed_shown (record c.args.board.now.machine { memory = c.loop-segment.board.machine.memory }) c.args.board.now c.loop-segment.board c.loop-segment.invariant.put.others

pub put_values-requires-clause-within : goal.put_values-requires-clause-within
put_values-requires-clause-within c =
    let known : c.loop-segment.segment < segment_count (tracked_of c.args.layout.now) = search rules in
    subst (λ (ws : List ℕ). (j : ℕ) → j < length ws → 8 * slice_index ws j + 8 ≤ length c.loop-segment.board.machine.memory) (sym c.segment.ensures)
    (λ j low. omega (arith, segment_within (tracked_of c.args.layout.now) (length c.args.board.now.machine.memory) c.loop-segment.segment c.requires.within known j low, c.loop-segment.invariant.put.room))

pub loop-segment-preserved : goal.loop-segment-preserved
loop-segment-preserved c =
    let known : c.loop-segment.segment < segment_count (tracked_of c.args.layout.now) = search rules in
    let until = c.loop-segment.invariant in
    elim c.if-from-at.branch [
      | then-from-at w ↦
          rw w.board-is
          (other_segments_by c.args.layout.now c.args.words.now c.args.at c.args.row.now c.args.board.now c.loop-segment.board w.put_values.new.board c.loop-segment.segment until known
          w.segment.result.now w.get-values.result.now w.segment.ensures w.get-values.ensures
          w.put_values.ensures.hold w.put_values.ensures.keeps w.put_values.ensures.outside w.put_values.ensures.room w.put_values.ensures.others)
      | else-from-at w ↦
          let same : slice_index c.args.from.now (c.args.at + c.loop-segment.segment) ≡ slice_index c.args.row.now (c.args.at + c.loop-segment.segment) = omega (arith, w.if-from-at.false) in
          rw w.board-is
          (other_segments_same c.args.layout.now c.args.words.now c.args.at c.args.from.now c.args.row.now c.args.board.now c.loop-segment.board c.loop-segment.segment until known c.requires.there same)
    ]

pub returns-clause-segments : goal.returns-clause-segments
returns-clause-segments c =
    let all : segment_count (tracked_of c.args.layout.now) ≤ c.loop-segment.segment = search rules in
    segments_hold c.args.layout.now c.args.words.now c.args.at c.args.row.now c.args.board.now c.loop-segment.board c.loop-segment.segment c.loop-segment.invariant.put all c.requires.known.0 c.requires.known.1
