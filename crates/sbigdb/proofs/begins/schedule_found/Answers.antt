use Rattle.std.proofs.{Common.{◌∙◌, ap, List, ◌++◌, ◌∷◌, [], ℕ, inl, subst, sym}, lemmas.Result.{IfErr-weaker, IfOk-weaker}}
use Rattle.script_lang.specs.{Scripts.Script, Spellings.script_text}
use Rattle.bench_schedules.specs.Orders.{IsScheduleOf}
use Rattle.sbigdb.proofs.begins.schedule_found.Goals as goal

pub returns-clause-found : goal.returns-clause-found
returns-clause-found g c =
    let shown = c.in_ok-show.ensures.shown in
    let text = c.deref.ensures.value ∙ (shown.2.text ∙ ap (λ (bytes : List ℕ). bytes ++ (script_text shown.2.schedule ++ 10 ∷ [])) c.new-text.ensures.items) in
    IfOk-weaker c.read_back.result _ _
    (λ found is. (
      shown.0,
      shown.1,
      subst (λ (s : Script). IsScheduleOf shown.0 s) (sym is) shown.2.order,
    ))
    (c.read_back.ensures.read shown.2.schedule shown.2.reads text)

pub returns-clause-refused : goal.returns-clause-refused
returns-clause-refused g c =
    let shown = c.in_ok-show.ensures.shown in
    let text = c.deref.ensures.value ∙ (shown.2.text ∙ ap (λ (bytes : List ℕ). bytes ++ (script_text shown.2.schedule ++ 10 ∷ [])) c.new-text.ensures.items) in
    IfErr-weaker c.read_back.result _ _ (λ e want. inl want)
    (c.read_back.ensures.refused shown.2.schedule shown.2.reads text)
