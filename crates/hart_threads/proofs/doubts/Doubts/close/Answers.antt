use Rattle.std.{proofs.Common.{◌≡◌, ◌∙◌, ◌++◌, ℕ, List, length, arith, ap, subst}, specs.Option.option_to_list}
use Rattle.board_model.specs.declared.durable.Entry.{Entry}
use Rattle.tallies.specs.{Books.entries_of, Closed.{AreReceiptsOf, told_in}, declared.book_views.BookView.BookView}
use Rattle.hart_threads.{specs.{Doubts.doubt_told, Noted.entries_in}, proofs.Doubting.doubt_is}
use Rattle.hart_threads.proofs.doubts.Doubts.close.Goals as goal

-- both parts are back: what they were told is the command in doubt
pub returns-clause-doubt : goal.returns-clause-doubt
returns-clause-doubt g c = λ doubt is.
    let k = c.self.inside.keeper in
    let part = c.into_parts-part.result.0 in
    let with = c.gather.ensures.keeper in
    let long = ap (λ (v : BookView Entry). length v.parts) with in
    let one = c.self.invariant.0 in
    let many : length c.gather.new.keeper.parts ≡ 2 = omega (arith, long, one) in
    let gathered = subst (λ (v : BookView Entry). AreReceiptsOf (entries_of v.log) (told_in v.parts)) with (c.close.ensures.all many) in
    let all : AreReceiptsOf (entries_of k.log) (part.told ++ told_in k.parts) =
    gathered in
    let same : entries_of k.log ≡ entries_in (option_to_list doubt) = c.self.view_is ∙ is in
    let noted = subst (λ (es : List Entry). AreReceiptsOf es (part.told ++ told_in k.parts)) same all in
    let told : part.told ≡ doubt_told c.args.heard.doubt = c.into_parts-part.ensures.doubt in
    doubt_is g.J.Journal.size doubt c.args.heard.doubt (told_in k.parts) c.self.invariant.1
    (subst (λ (ts : List (ℕ × Entry)). AreReceiptsOf (entries_in (option_to_list doubt)) (ts ++ told_in k.parts)) told noted)
