use Rattle.std.proofs.lemmas.Result.{on_ok_weaker}
use Rattle.bench_schedules.specs.Told.{told_text}
use Rattle.bench_schedules.proofs.written.write_difference.Goals as goal

pub returns-in-Some : goal.returns-in-Some
returns-in-Some g c = record {
  ok = (
      on_ok_weaker c.write_apart.result
      (λ written. (told_text c.in-Some.apart.own, told_text c.in-Some.apart.other, rw c.in-Some.is at c.in_ok-apart.ensures, written))
      c.write_apart.ensures.ok);
}
