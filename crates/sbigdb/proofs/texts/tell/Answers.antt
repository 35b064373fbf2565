use Rattle.std.{proofs.Common.{ℕ, List, [], ◌∷◌, ◌++◌, Vec, Global, map, ◌∙◌, refl, sym, ap}, specs.Slice.Iter.chunks_rest}
use Rattle.std.proofs.lemmas.List.{append-nil, map-append, nil_from_length}
use Rattle.sbigdb.{specs.Texts.console_packet, proofs.Console.{joined, joined_more, told_more}}
use Rattle.sbigdb.proofs.texts.tell.Goals as goal

pub loop-piece-init : goal.loop-piece-init
loop-piece-init c = ([], ap chunks_rest c.into_iter-piece-iterator.ensures.into_iter_gives ∙ c.chunks-piece-items.ensures.rest, sym (append-nil _))

pub loop-piece-preserved : goal.loop-piece-preserved
loop-piece-preserved c =
    let was = c.loop-piece.invariant in
    let piece = c.in-Some.piece.now in
    let cut = c.in-Some.ensures.steps in
    let items : Vec ℕ Global → List ℕ = λ v. v.items in
    let first = map items c.args.out.now.items in
    let written = c.in_ok-packet.ensures in (
      was.0 ++ piece ∷ [],
      joined_more was.0 piece _ _ c.args.text.now was.1 cut.1.0,
      ap (map items) c.in_ok-push.ensures.items ∙ map-append items c.loop-piece.out.items _ ∙ told_more first _ was.0 _ piece was.2 written,
    )

pub returns : goal.returns
returns c =
    let was = c.loop-piece.invariant in
    let none = nil_from_length _ c.in-None.ensures.steps.1.0 in
    let all = sym (append-nil (joined was.0)) ∙ ap (λ (x : List ℕ). joined was.0 ++ x) (sym none) ∙ was.1 in
    record { told = (map console_packet was.0, (was.0, all, refl), was.2) }
