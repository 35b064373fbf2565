use Rattle.std.proofs.Common.{refl, sym, ◌∙◌, ap, subst, Option, Ok, Err}
use Rattle.board_model.{specs.{Durable.Change, ConsoleCommands.console_change, Views.number_of_refusal}, proofs.Console.ends_life-console}
use Rattle.store.specs.Views.{life_of}
use Rattle.bench_report.specs.{declared.power.Power.Power, Bench.BenchLife, Steps.ConsoleStep, Views.{store_in, IsAs}, Happens.says}
use Rattle.bench_report.{specs.Agree.{Agrees, BoardIs}, proofs.{Commanded.{reported_ok, reported_err, goes_on}, Lines.on_life}}
use Rattle.report_lines.specs.declared.printed.Printed.TheVariants as printed
use Rattle.bench_report.proofs.on_lines.console.Goals as goal

pub returns-in-Off : goal.returns-in-Off
returns-in-Off c = λ size b h.
    let P : Power → Type 0 = λ p. Agrees size b p in
    let Q : Option BenchLife → Type 0 = λ p. ConsoleStep c.args.command p b c.says.result b in
    let off = (subst P c.in-Off.is h).0 in
    (b, subst Q (sym off) (c.says.ensures, refl), h, refl)

pub returns-in-Ok : goal.returns-in-Ok
returns-in-Ok c = λ size b is.
    let A : Power → Type 0 = λ p. Agrees size b p in
    let h = subst A c.in-On.is is in
    on_life size b c.in-On.board h (λ life on. (
    let did = c.in-Ok.ensures in
    let old = store_in c.in-On.board in
    let new = store_in c.console.new.self in
    let P : Option BenchLife → Type 0 = λ p. BoardIs size b.disk_state b.kept p c.in-On.board in
    let Q : Option Change → Type 0 = λ d. IsAs old life.now life.receipts d in
    let was = subst P on h.0 in
    let reported = reported_ok size b life (console_change c.args.command) old new (life_of old) on was.0 h.1 did.asked.stays.board did.asked.stays.length did.asked.stays.no_fewer (λ none. subst Q none was.0.1) (ends_life-console c.args.command) life.doubt refl c.in-Ok.receipt
    (λ none. (did.asked.answered none).life) did.asked.down (λ none. (did.asked.answered none).cause) (λ none. ((did.asked.answered none).written, (did.asked.answered none).leaves.acknowledged.kept)) in
    let S : Option BenchLife → Type 0 = λ p. ConsoleStep c.args.command p b c.says-in-Ok.result reported.0 in
    (reported.0, subst S (sym on) (Ok c.in-Ok.receipt, reported.1, c.says-in-Ok.ensures ∙ ap (λ n. says (printed.Acknowledged c.args.command n)) c.number.ensures), goes_on size reported.0 life.machine c.console.new.self reported.2 (did.machine ∙ was.1), reported.3)
    ))

pub returns-in-Err : goal.returns-in-Err
returns-in-Err c = λ size b is.
    let A : Power → Type 0 = λ p. Agrees size b p in
    let h = subst A c.in-On.is is in
    on_life size b c.in-On.board h (λ life on. (
    let did = c.in-Err.ensures in
    let old = store_in c.in-On.board in
    let new = store_in c.console.new.self in
    let P : Option BenchLife → Type 0 = λ p. BoardIs size b.disk_state b.kept p c.in-On.board in
    let Q : Option Change → Type 0 = λ d. IsAs old life.now life.receipts d in
    let was = subst P on h.0 in
    let reported = reported_err size b life (console_change c.args.command) old new (life_of old) on was.0 h.1 did.asked.stays.board did.asked.stays.length did.asked.stays.no_fewer (λ none. subst Q none was.0.1) life.doubt refl c.in-Err.e
    (λ none. (did.asked.answered none).life) did.asked.down (λ none. (did.asked.answered none).cause) (λ none. (did.asked.answered none).counts) did.asked.untouched in
    let S : Option BenchLife → Type 0 = λ p. ConsoleStep c.args.command p b c.says-in-Err.result reported.0 in
    (reported.0, subst S (sym on) (Err (number_of_refusal c.in-Err.e), reported.1, c.says-in-Err.ensures ∙ ap (λ n. says (printed.CommandRefused c.args.command n)) c.code.ensures), goes_on size reported.0 life.machine c.console.new.self reported.2 (did.machine ∙ was.1), reported.3)
    ))
