use Rattle.std.{proofs.Common.{ℕ, List, ◌∙◌, ◌+◌, ◌*◌, ◌<◌, length, sym, ap, subst}, specs.Prelude.slice_index}
use Rattle.ram.specs.Memory.{value}
use Rattle.state_space.specs.Numbered.{words_of}
use Rattle.board_space.{specs.{Layouts.tracked_of, Tracked.segment}, proofs.Differing.same_word}
use Rattle.board_space.proofs.board_rows.BoardRows.segment_differs.Goals as goal

pub returns-then-word-values : goal.returns-then-word-values
returns-then-word-values c is n d x first second =
    let words = c.args.self.now.words in
    let row = c.args.row.now in
    let place = c.loop-place.place in
    let within : place < length (segment (tracked_of c.args.self.now.layout) c.args.segment) = subst (λ (ws : List ℕ). place < length ws) c.segment-words.ensures c.loop-place-test.true in
    c.if-word-values.true
    (c.word.ensures
    ∙ (ap (λ (ws : List ℕ). value c.args.board.now.machine.memory (8 * slice_index ws place) 8) c.segment-words.ensures
    ∙ (sym (same_word c.args.self.now row c.args.board.now c.args.rest.now c.args.own.now c.requires.rested c.requires.on n d x first second c.requires.own c.args.segment place c.requires.within within)
    ∙ (ap (λ (n : ℕ). slice_index (words_of words (slice_index row (1 + n + c.args.segment))) place) (sym c.harts.ensures)
    ∙ ap (λ (vs : List ℕ). slice_index vs place) (sym c.get-values.ensures)))))
