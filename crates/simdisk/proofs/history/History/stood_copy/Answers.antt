use Rattle.std.proofs.{Common.{◌≡◌, ◌∙◌, Bool, if◌then◌else◌, All, ap, rules}, lemmas.Result.IfOk-weaker}
use Rattle.disk.specs.WriteLog.{synced}
use Rattle.simdisk.{specs.{History.log_of, declared.patch.Patch.Patch}, proofs.Comparing.stood_settled}
use Rattle.simdisk.proofs.history.History.stood_copy.Goals as goal

pub returns-then-are_empty-clause-is : goal.returns-then-are_empty-clause-is
returns-then-are_empty-clause-is c =
    let h = c.args.self.now in
    let now = c.args.content.now in
    let none : All (λ (p : Patch). p.count ≡ 0) h.written.items = search rules in
    IfOk-weaker c.begun.result _ _ (λ copy is. ap (λ (read : Bool). if read then now else copy.sectors.items) is.0 ∙ stood_settled (synced (log_of h)) now h.written.items none c.requires.agrees) c.begun.ensures
