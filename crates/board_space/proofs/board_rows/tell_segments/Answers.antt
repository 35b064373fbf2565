use Rattle.std.{proofs.Common.{rules, ℕ, List, [], ◌∷◌, ◌++◌, ◌≡◌, ◌+◌, ◌*◌, ◌<◌, ◌≤◌, length, sym, subst}, specs.Prelude.slice_index}
use Rattle.state_space.specs.Numbered.{words_of}
use Rattle.board_space.{specs.{Layouts.tracked_of, Rows.{Extends, Hold}, Tracked.{segment, segment_count}}, proofs.Kept.segment_within}
use Rattle.board_space.proofs.Numbers.{AreFirst, extends_more, segments_more, grows_both}
use Rattle.board_space.proofs.board_rows.tell_segments.Goals as goal

pub tell_segment-requires : goal.tell_segment-requires
tell_segment-requires c =
    let known : c.loop-segment.segment < segment_count (tracked_of c.args.layout.now) = search rules in
    subst (λ (ws : List ℕ). (j : ℕ) → j < length ws → 8 * slice_index ws j + 8 ≤ length c.args.bytes.now) (sym c.segment.ensures)
    (segment_within (tracked_of c.args.layout.now) (length c.args.bytes.now) c.loop-segment.segment c.requires known)

pub loop-segment-preserved : goal.loop-segment-preserved
loop-segment-preserved c =
    let until = c.loop-segment.invariant in
    let n = c.loop-segment.segment in
    let x = c.in_ok-number.number in
    let told = c.in_ok-number.ensures in
    let items : c.push.new.self.items ≡ c.loop-segment.row.items ++ x ∷ [] = search rules in
    let hold : Hold c.args.bytes.now (segment (tracked_of c.args.layout.now) n) (words_of c.tell_segment.new.words x) = subst (λ (ws : List ℕ). Hold c.args.bytes.now ws (words_of c.tell_segment.new.words x)) c.segment.ensures told.hold in
    record {
      row = subst (λ (r : List ℕ). Extends c.args.row.now.items r (n + 1)) (sym items) (extends_more c.args.row.now.items c.loop-segment.row.items n x until.row);
      segments = subst (λ (r : List ℕ). AreFirst c.args.layout.now c.tell_segment.new.words r (length c.args.row.now.items) c.args.bytes.now (n + 1)) (sym items)
          (segments_more c.args.layout.now c.loop-segment.words c.tell_segment.new.words c.args.row.now.items c.loop-segment.row.items n x c.args.bytes.now until.row until.segments told.grows told.within hold);
      grows = grows_both c.args.words.now c.loop-segment.words c.tell_segment.new.words until.grows told.grows;
    }
