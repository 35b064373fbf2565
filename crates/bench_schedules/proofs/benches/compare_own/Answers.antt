use Rattle.std.{proofs.Common.{◌≡◌, ◌+◌, ◌-◌, ℕ, ap₂, slice_index_or, subst}, specs.Io.KnownBytes.Appends}
use Rattle.crew.specs.Parts.{begin_of}
use Rattle.script_lang.specs.Scripts.{Script}
use Rattle.bench_schedules.specs.{Numbers.place_of_other, Schedules.{Wrote, count_text, own_count}}
use Rattle.bench_schedules.proofs.benches.compare_own.Goals as goal

pub returns : goal.returns
returns g c = record {
  wrote = (
      let tight = c.in_ok-write_own_tight.ensures.ok in
      let runner = c.args.runner.now in
      let own = c.args.own.now in
      let part = c.args.plan.part in
      let n = c.args.plan.count in
      let within = c.of_part-within.result in
      let differ = c.in_ok-differ.differ in
      let said : Script = record { size = runner.setting.shape.now; lines = runner.lines.now } in
      let number : ℕ → ℕ = λ place. slice_index_or runner.numbers.now (1 + place_of_other place runner.lines.now) 0 in
      let first = g.W.Write.contents c.write_own_tight.new.out in
      let last = g.W.Write.contents c.run_schedules.new.out in
      let F : ℕ → Type 0 = λ from. Wrote said runner.payloads.now number own.answers.items (1 + from) (within.to - from) first last differ in
      let T : ℕ → Type 0 = λ to. Wrote said runner.payloads.now number own.answers.items (1 + begin_of part n) (to - begin_of part n) first last differ in
      let E : ℕ → Type 0 = λ runs. Appends last (g.W.Write.contents c.write_count.new.out) (count_text part runs differ) in
      let count : within.to - within.from ≡ own_count part n = ap₂ (λ (to from : ℕ). to - from) c.of_part-within.ensures.to c.of_part-within.ensures.from in (
        count,
        record {
          own = own.answers.items;
          ran = c.requires.own;
          tight = tight.0;
          first = first;
          begun = tight.1;
          last = last;
          wrote = subst T c.of_part-within.ensures.to (subst F c.of_part-within.ensures.from c.in_ok-differ.ensures.wrote);
          ended = subst E count c.in_ok-write_count.ensures.ok;
        },
      ));
}
