use Rattle.std.{proofs.Common.{◌≡◌, ◌∙◌, ◌+◌, ◌<◌, ℕ, List, [], ◌∷◌, ◌++◌, length, take, get_or, ap, sym, rules}, specs.List.flat_map}
use Rattle.std.{proofs.lemmas.{Grind.{flat_map-append, put_two}, List.{append-nil, take_more}}, specs.Fmt.{HasWritten, IsPlainFormatter}}
use Rattle.hart_threads.specs.declared.ends.HartEnd.{HartEnd}
use Rattle.board_session.specs.HartTexts.{line_text}
use Rattle.board_session.proofs.hart_lines.HartLinesDisplay.fmt.Goals as goal

-- the lines of one hart more
one_more : (f : HartEnd → List ℕ) (es : List HartEnd) (i : ℕ) (e : HartEnd) → i < length es → e ≡ get_or es i e → flat_map f (take i es) ++ f e ≡ flat_map f (take (i + 1) es)
one_more f es i e lt is =
    ap (λ (text : List ℕ). flat_map f (take i es) ++ text) (ap f is ∙ sym (append-nil (f (get_or es i e))))
    ∙ sym (ap (flat_map f) (take_more es i e lt) ∙ flat_map-append f (take i es) (get_or es i e ∷ []))

pub loop-end-preserved : goal.loop-end-preserved
loop-end-preserved g c plain =
    let was = c.loop-end.invariant plain in
    let still : IsPlainFormatter c.loop-end.f = search rules in
    let next : HasWritten g.W.Write.write_str_gives c.loop-end.f (line_text c.end-item.result) c.write.new.self = search rules in
    put_two g.W.Write.write_str_gives c.args.f.now c.loop-end.f c.write.new.self _ _ _ was next (one_more line_text c.args.self.now.0.now c.loop-end.end-index c.end-item.result c.loop-end-test.true c.end-item.is)
