use Rattle.std.proofs.{Common.{[], ◌∷◌}, lemmas.Result.on_ok_weaker}
use Rattle.board_model.proofs.Written.{unwritten}
use Rattle.bench_schedules.proofs.benches.write_one_tight.Goals as goal

pub returns-then-place-gt65535 : goal.returns-then-place-gt65535
returns-then-place-gt65535 g c = record { ok = (([], unwritten _)) }

pub returns : goal.returns
returns g c = record { ok = (on_ok_weaker c.write_tight.result (λ written. (c.number_at.result ∷ [], written)) c.write_tight.ensures.ok) }
