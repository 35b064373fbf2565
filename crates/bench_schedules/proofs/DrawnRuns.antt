-- Schedules that were run and told, one after another, by several threads.
use Rattle.std.proofs.Common.{◌≡◌, ◌∙◌, ◌≤◌, ◌+◌, ℕ, List, [], ◌∷◌, Option, length, refl, sym, subst, slice_index_or, arith}
use Rattle.script_lang.specs.Scripts.{Script}
use Rattle.report_lines.specs.declared.printed.Answer.{Answer}
use Rattle.crew.specs.Handed.{AreRows, TakesAll, Handed}
use Rattle.bench_schedules.specs.{Drawn.{IsDrawn, TellsDrawn}, Numbers.place_of_other, Schedules.{RunText, Wrote, differing}}
use Rattle.bench_schedules.specs.declared.benches.{DrawnRun.DrawnRun, DrawnReport.DrawnReport}
use Rattle.bench_schedules.proofs.Ledgers.{one_differs, wrote_none, wrote_more}

module _ {C W : Type 0} (contents : W → Option (List ℕ)) (said : Script) (start : List (List ℕ)) (own : List Answer) (from : ℕ) (first : DrawnReport C W) where
  abbrev number : ℕ → ℕ
  number place = slice_index_or first.runner.now.numbers.now (1 + place_of_other place first.runner.now.lines.now) 0

  -- what was written of the schedules so far, in the same writer
  record So (now : DrawnReport C W) (done : ℕ) : Type 0 where
    pub script : now.runner ≡ first.runner
    pub same : now.out.ghost_name ≡ first.out.ghost_name
    pub wrote : Wrote said start number own from done (contents first.out.now) (contents now.out.now) now.differ
    pub few : now.differ ≤ done

  one_run : (done : ℕ) (drawn : DrawnRun) (old new : DrawnReport C W) → done + 1 ≤ 1000000 → IsDrawn said start own (from + done) drawn → TellsDrawn contents old drawn new → So old done → So new (done + 1)
  one_run done drawn old new room is told so_far =
      let R : ℕ → Type 0 = λ k. RunText number k drawn.differs told.text in
      let one = one_differs drawn.differs in
      let m : new.differ ≡ old.differ + differing (drawn.differs ∷ []) = omega (arith, told.count, so_far.few, one, room) in
      let told_so : RunText number drawn.number drawn.differs told.text = subst (λ r. RunText (λ (place : ℕ). slice_index_or r.now.numbers.now (1 + place_of_other place r.now.lines.now) 0) drawn.number drawn.differs told.text) so_far.script told.tells in
      record {
        script = told.script ∙ so_far.script;
        same = told.same ∙ so_far.same;
        wrote = subst (λ (d : ℕ). Wrote said start number own from (done + 1) (contents first.out.now) (contents new.out.now) d) (sym m)
            (wrote_more said start number own from done old.differ (differing (drawn.differs ∷ [])) _ _ _ drawn.differs so_far.wrote is.ran (told.text, subst R is.number told_so, told.written, refl));
        few = omega (arith, m, so_far.few, one);
      }

  go : (done : ℕ) (runs : List DrawnRun) (old new : DrawnReport C W) → done + length runs ≤ 1000000 → AreRows (IsDrawn said start own) (from + done) runs → TakesAll (TellsDrawn contents) old runs new → So old done → So new (done + length runs)
  go done [] old new room each taken so_far =
      let same : done ≡ done + 0 = omega arith in
      subst (λ (n : ℕ). So new n) same (subst (λ (now : DrawnReport C W). So now done) (sym taken) so_far)
  go done (run ∷ runs) old new room each taken so_far =
      let long : length (run ∷ runs) ≡ length runs + 1 = omega arith in
      let same : done + 1 + length runs ≡ done + length (run ∷ runs) = omega (arith, long) in
      let next : from + done + 1 ≡ from + (done + 1) = omega arith in
      let rest = subst (λ (k : ℕ). AreRows (IsDrawn said start own) k runs) next each.1 in
      subst (λ (n : ℕ). So new n) same (go (done + 1) runs taken.0 new (omega (arith, room, long)) rest taken.2 (one_run done run old taken.0 (omega (arith, room, long)) each.0 taken.1 so_far))

  pub all_runs : (n : ℕ) (last : DrawnReport C W) → n ≤ 1000000 → first.differ ≡ 0 → Handed (IsDrawn said start own) (TellsDrawn contents) from n first last
      → (last.out.ghost_name ≡ first.out.ghost_name) × Wrote said start number own from n (contents first.out.now) (contents last.out.now) last.differ
  all_runs n last room none handed =
      let many : 0 + length handed.rows ≡ n = omega (arith, handed.many) in
      let begun : So first 0 = record {
        script = refl;
        same = refl;
        wrote = subst (λ (d : ℕ). Wrote said start number own from 0 (contents first.out.now) (contents first.out.now) d) (sym none) (wrote_none said start number own from (contents first.out.now));
        few = omega (arith, none);
      } in
      let none_yet : from ≡ from + 0 = omega arith in
      let each = subst (λ (k : ℕ). AreRows (IsDrawn said start own) k handed.rows) none_yet handed.each in
      let all = go 0 handed.rows first last (omega (arith, room, handed.many)) each handed.taken begun in
      (all.same, subst (λ (k : ℕ). Wrote said start number own from k (contents first.out.now) (contents last.out.now) last.differ) many all.wrote)
