use Rattle.std.proofs.Common.{◌≡◌, ℕ, List, inl, inr, None, Some, OnOk, subst, arith}
use Rattle.report_lines.specs.declared.printed.Printed.{Printed}
use Rattle.report_lines.specs.declared.printed.Printed.TheVariants as printed
use Rattle.bench_sweep.{specs.{Told.{BootTold, BootSaid, commands_told}, Resumes.{image_told, powered, Resumes}}, proofs.Boots.boot_weaker}
use Rattle.bench_sweep.proofs.Serials.{as_told, refused_boot}
use Rattle.bench_sweep.proofs.follows.record_answer.Goals as goal

pub returns-in-On-clause-kept : goal.returns-in-On-clause-kept
returns-in-On-clause-kept c =
    let cs = commands_told c.args.mode c.args.found.now.trial in
    boot_weaker c.record_boot.result c.args.ledger.now c.record_boot.new.ledger c.args.found.now c.args.now (BootTold None cs) (BootSaid c.args.said cs)
    (λ old new t. (let P : Printed → Type 0 = λ x. BootSaid x cs old new in subst P c.in-On.is t)) c.record_boot.ensures.kept

pub returns-else-number-eq11-clause-kept : goal.returns-else-number-eq11-clause-kept
returns-else-number-eq11-clause-kept c =
    let cs = commands_told c.args.mode c.args.found.now.trial in
    boot_weaker c.record_boot-else-number-eq11.result c.args.ledger.now c.record_boot-else-number-eq11.new.ledger c.args.found.now c.args.now (BootTold (Some c.in-OnRefused.number) cs) (BootSaid c.args.said cs)
    (λ old new t. (let P : Printed → Type 0 = λ x. BootSaid x cs old new in elim (subst P c.in-OnRefused.is t) [
      | inl e ↦ (let f : c.in-OnRefused.number ≡ 11 = e in absurd (omega (arith, f)))
      | inr told ↦ told
    ])) c.record_boot-else-number-eq11.ensures.kept

pub returns-in-On-clause-serial : goal.returns-in-On-clause-serial
returns-in-On-clause-serial c =
    let l = c.args.ledger.now in
    as_told c.record_boot.result l c.record_boot.new.ledger (λ (x : Printed). powered x c.args.mode (image_told l)) c.args.said (printed.On _) c.in-On.is c.record_boot.ensures.serial

pub returns-else-number-eq11-clause-serial : goal.returns-else-number-eq11-clause-serial
returns-else-number-eq11-clause-serial c =
    let l = c.args.ledger.now in
    let m = c.record_boot-else-number-eq11.new.ledger in
    let r = c.record_boot-else-number-eq11.result in
    let n = c.in-OnRefused.number in
    let P : List ℕ → Type 0 = λ xs. OnOk r (Resumes l m xs) in
    as_told r l m (λ (x : Printed). powered x c.args.mode (image_told l)) c.args.said (printed.OnRefused n) c.in-OnRefused.is (subst P (refused_boot n c.args.mode (image_told l)) c.record_boot-else-number-eq11.ensures.serial)
