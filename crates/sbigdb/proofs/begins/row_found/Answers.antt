use Rattle.std.proofs.{Common.{◌∙◌, ap, ◌++◌, ◌∷◌, [], List, ℕ, inl}, lemmas.Result.{IfErr-weaker, IfOk-weaker, err_from_is_err_and}}
use Rattle.std.proofs.Common.{drop, take}
use Rattle.script_lang.specs.{Scripts.Script, Spellings.script_text, Views.view}
use Rattle.bench_sweep.specs.Shown.{arming, row_lines}
use Rattle.sbigdb.proofs.Founds.{row_refused, row_shown, row_text}
use Rattle.sbigdb.proofs.begins.row_found.Goals as goal

pub returns-in_err-show_row-clause-refused : goal.returns-in_err-show_row-clause-refused
returns-in_err-show_row-clause-refused g c =
    let p = err_from_is_err_and c.from_residual-in_err-show_row.result c.from_residual-in_err-show_row.ensures.1 in
    rw (p.1, p.2) (row_refused c.args.wanted.bench c.args.wanted.number c.args.script.now c.in_ok-begins.begins c.args.payloads.now _ c.in_ok-begins.ensures c.in_err-show_row.ensures.refused)

pub returns-clause-found : goal.returns-clause-found
returns-clause-found g c =
    let shown = c.in_ok-show_row.ensures.shown in
    let row = shown.2 in
    let wrote = row.shows.written in
    let script : Script = record {
      size = shown.0.size;
      lines = row_lines c.args.wanted.bench (take row.begin shown.0.lines) (arming c.args.wanted.bench row.shows.run) (take row.shows.count (drop row.begin shown.0.lines));
    } in
    let text = c.deref.ensures.value ∙ (wrote.text ∙ ap (λ (bytes : List ℕ). bytes ++ (script_text script ++ 10 ∷ [])) c.new-text.ensures.items) in
    IfOk-weaker c.read_back.result _ _
    (λ found is. (
      shown.0,
      shown.1,
      ap (λ (s : Script). s.size) is,
      row_shown c.args.wanted.bench c.args.wanted.number shown.0 c.in_ok-begins.begins c.args.payloads.now c.new-text.result.items c.show_row.new.out.items (script_text (view found) ++ 10 ∷ []) c.in_ok-begins.ensures c.new-text.ensures.items
          (row_text c.new-text.result.items c.show_row.new.out.items script (view found) c.new-text.ensures.items wrote.text is) row,
    ))
    (c.read_back.ensures.read script wrote.reads text)

pub returns-clause-refused : goal.returns-clause-refused
returns-clause-refused g c =
    let shown = c.in_ok-show_row.ensures.shown in
    let row = shown.2 in
    let wrote = row.shows.written in
    let script : Script = record {
      size = shown.0.size;
      lines = row_lines c.args.wanted.bench (take row.begin shown.0.lines) (arming c.args.wanted.bench row.shows.run) (take row.shows.count (drop row.begin shown.0.lines));
    } in
    let text = c.deref.ensures.value ∙ (wrote.text ∙ ap (λ (bytes : List ℕ). bytes ++ (script_text script ++ 10 ∷ [])) c.new-text.ensures.items) in
    IfErr-weaker c.read_back.result _ _ (λ e want. inl want) (c.read_back.ensures.refused script wrote.reads text)
