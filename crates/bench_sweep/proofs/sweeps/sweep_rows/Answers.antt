use Rattle.std.{proofs.Common.{◌≡◌, ℕ, List, Option, ◌∷◌, ◌++◌, [], refl, sym, ap, subst}, specs.Io.KnownBytes.Appends}
use Rattle.bench_sweep.{specs.Rows.sweep_text, proofs.Written.wrote_all}
use Rattle.bench_sweep.proofs.sweeps.sweep_rows.Goals as goal

-- the report went on in the writer that it was given
pub returns : goal.returns
returns g c = record {
  wrote = (λ last written.
      let did = c.in_ok-all.ensures.wrote in
      let done = c.sweep_lines.new.report.done in
      let all = c.in_ok-all.all in
      let same : c.out-2-1.given.0 ≡ c.sweep_lines.new.report.out.now = c.out-2-1.given.1 (sym did.rows.runs.same) in
      let P : Option (List ℕ) → Type 0 = λ now. Appends now last (sweep_text c.args.plan.part all done ++ 10 ∷ []) in
      wrote_all c.args.plan c.args.setting.now.shape.now c.args.payloads.now c.args.lines.now _ _ last _ done did.begin did.first did.origin did.rows.counts all refl refl refl did.begins did.rows.calls did.rows.total did.rows.runs.wrote
      (subst P (ap g.W.Write.contents same) written));
}
