use Rattle.std.proofs.{Common.{◌≡◌, ◌∙◌, ◌+◌, [], ◌∷◌, ◌++◌, ap, sym, take, arith}, lemmas.List.{take_more, Elements.All-push}}
use Rattle.board_model.specs.Shapes.{ram_bytes_of}
use Rattle.kernel_check.{specs.{Shown.IsIn, declared.given.LookWord.LookWord}, proofs.Naming.one_more}
use Rattle.kernel_check.proofs.checks.looks_named.Goals as goal

pub loop-word-preserved : goal.loop-word-preserved
loop-word-preserved c =
    let words = c.args.words.now in
    let item = c.word-item.result in
    let e : take (c.loop-word.word-index + 1) words ≡ take c.loop-word.word-index words ++ (item ∷ []) =
    take_more words c.loop-word.word-index item (omega arith) ∙ ap (λ (w : LookWord). take c.loop-word.word-index words ++ (w ∷ [])) (sym c.word-item.is) in
    let more = one_more c.args.kernel.now.elf _ _ item c.in_ok-look_of.field-0 c.loop-word.invariant.looks c.in_ok-look_of.ensures.look in
    record {
      looks = rw e (rw c.in_ok-push.ensures.items more);
      within = rw c.in_ok-push.ensures.items (All-push (IsIn (ram_bytes_of c.args.shape.now)) _ c.in_ok-look_of.field-0 c.loop-word.invariant.within c.in_ok-look_of.ensures.within);
    }
