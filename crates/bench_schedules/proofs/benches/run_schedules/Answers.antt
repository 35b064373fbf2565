use Rattle.std.proofs.Common.{◌≡◌, ◌+◌, ◌-◌, ℕ, List, Option, ap, arith, refl, slice_index_or, subst, sym}
use Rattle.script_lang.specs.Scripts.{Script}
use Rattle.bench_schedules.{specs.{Numbers.place_of_other, Schedules.Wrote}, proofs.DrawnRuns.all_runs}
use Rattle.bench_schedules.proofs.benches.run_schedules.Goals as goal

pub hand_on_all-requires-clause-has : goal.hand_on_all-requires-clause-has
hand_on_all-requires-clause-has g c κs within = λ i less. (
  c.requires.drawable,
  record { shared = c.type_bounds.sync-C-Handle.shared },
)

-- the report went on in the writer that it was given, so what that holds at last is what the last of them left there
pub returns : goal.returns
returns g c = record {
  wrote = (
      let said : Script = record { size = c.args.runner.now.setting.shape.now; lines = c.args.runner.now.lines.now } in
      let start = c.args.runner.now.payloads.now in
      let own = c.args.own.now.answers.items in
      let number : ℕ → ℕ = λ place. slice_index_or c.args.runner.now.numbers.now (1 + place_of_other place c.args.runner.now.lines.now) 0 in
      let last = c.hand_on_all.new.sink in
      let from = c.args.within.from in
      let to = c.args.within.to in
      let did = all_runs g.W.Write.contents said start own (1 + from) _ (to - from) last (omega (arith, c.requires.most)) refl c.in_ok-hand_on_all.ensures.handed in
      let same : c.out-2-1.given.0 ≡ last.out.now = c.out-2-1.given.1 (sym did.0) in
      let P : Option (List ℕ) → Type 0 = λ now. Wrote said start number own (1 + from) (to - from) (g.W.Write.contents c.args.out.now) now last.differ in
      subst P (ap g.W.Write.contents (sym same)) did.1);
}
