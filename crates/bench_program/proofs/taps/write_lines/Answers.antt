use Rattle.std.{proofs.{Common.{◌+◌, ◌++◌, ℕ, List, Bor, [], codes, map, subst}, lemmas.Result.on_ok_weaker}, specs.Io.KnownBytes.Appends}
use Rattle.bench_program.specs.Taps.{counts_text, failed_count, failed_lines, last_behind, shown_text}
use Rattle.board_model.proofs.Written.{appended}
use Rattle.bench_program.proofs.taps.write_lines.Goals as goal

pub returns : goal.returns
returns g c = record {
  ok = (
      let lines : List (List ℕ) = map (λ (w : Bor (List ℕ)). w.now) c.args.lines.now in
      let end : ℕ → List ℕ → List ℕ = λ n last. shown_text c.args.shown ++ counts_text c.args.well (n + 1) last in
      let P : ℕ → Type 0 = λ n. Appends (g.W.Write.contents c.write_failures.new.out) (g.W.Write.contents c.write_end.new.out) (end n c.last_line.result.now) in
      let Q : List ℕ → Type 0 = λ last. Appends (g.W.Write.contents c.write_failures.new.out) (g.W.Write.contents c.write_end.new.out) (end (failed_count lines) last) in
      on_ok_weaker c.write_end.result
      (λ wrote.
      appended _ (g.W.Write.contents c.write_version.new.out) _ (codes "TAP version 13\n") (failed_lines 0 lines ++ end (failed_count lines) (last_behind [] lines)) c.in_ok-write_version.ensures.ok
      (appended _ (g.W.Write.contents c.write_failures.new.out) _ (failed_lines 0 lines) (end (failed_count lines) (last_behind [] lines)) c.in_ok-failed.ensures.ok
      (subst Q c.last_line.ensures (subst P c.in_ok-failed.ensures.count wrote)))) c.write_end.ensures.ok);
}
