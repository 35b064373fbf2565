use Rattle.std.proofs.Common.{◌≡◌, ◌∙◌, ◌≤◌, ℕ, List, length, ap, sym, subst, arith, true, false, Err, refl}
use Rattle.std.proofs.lemmas.Result.{IfOk-from_err, err_from_is_err_and}
use Rattle.board_model.{specs.declared.durable.Entry.Entry, proofs.Exits.on_err}
use Rattle.store.{specs.Entries.{are_plain, drop_image}, proofs.Armed.{still_keeps, still_failed}}
use Rattle.store.proofs.Copied.{still_folded, still_legal, still_doubted, still_allowed, same_life}
use Rattle.store.proofs.stores.Store.copy.Goals as goal

pub invariant_of-result : goal.invariant_of-result
invariant_of-result g c =
    let s = c.args.self.now in
    let a = g.D.Disk.facts s.disk in
    let b = g.D.Disk.facts c.in_ok-disk.disk in
    let same = c.in_ok-disk.ensures.facts in
    let content = same.content in
    let entries = s.journal in
    let copies = c.in_ok-journal.journal in
    let items : copies ≡ entries = c.in_ok-journal.ensures in
    let long = ap (λ (es : List Entry). length es) items in
    record {
      kept = still_keeps a b same s.shape s.side s.current s.doubt s.kept;
      folded = still_folded s.shape s.opened s.current a.content b.content content entries copies items s.folded;
      doubted = λ x is. still_doubted s.shape s.opened s.current a.content b.content content entries copies items x (s.doubted x is);
      plain = λ up. subst (λ (es : List Entry). are_plain es ≡ true) (sym items) (s.plain up);
      same_image = λ up none. s.same_image up (subst (λ (es : List Entry). drop_image es ≡ false) items none);
      few = omega (arith, long, s.few);
      failed = λ x is. still_failed s.failures_at_open a.failures b.failures same.failures (s.failed x is);
      counted = subst (λ (n : ℕ). s.failures_at_open ≤ n) (sym same.failures) s.counted;
      legal = still_legal s.shape s.opened s.current a.content b.content content entries copies items s.legal;
      allowed = λ x is. still_allowed s.shape s.opened s.current a.content b.content content entries copies items x (s.allowed x is);
    }

pub returns-in_err-disk-clause-life : goal.returns-in_err-disk-clause-life
returns-in_err-disk-clause-life g c = IfOk-from_err c.from_residual.result _ c.from_residual.ensures.0

pub returns-in_err-disk-clause-facts : goal.returns-in_err-disk-clause-facts
returns-in_err-disk-clause-facts g c = IfOk-from_err c.from_residual.result _ c.from_residual.ensures.0

pub returns-in_err-disk-clause-fault_state : goal.returns-in_err-disk-clause-fault_state
returns-in_err-disk-clause-fault_state g c = IfOk-from_err c.from_residual.result _ c.from_residual.ensures.0

pub returns-in_err-disk-clause-arms : goal.returns-in_err-disk-clause-arms
returns-in_err-disk-clause-arms g c = IfOk-from_err c.from_residual.result _ c.from_residual.ensures.0

pub returns-in_err-disk-clause-alike : goal.returns-in_err-disk-clause-alike
returns-in_err-disk-clause-alike g c = IfOk-from_err c.from_residual.result _ c.from_residual.ensures.0

pub returns-in_err-disk-clause-board : goal.returns-in_err-disk-clause-board
returns-in_err-disk-clause-board g c = IfOk-from_err c.from_residual.result _ c.from_residual.ensures.0

pub returns-in_err-disk-clause-opened : goal.returns-in_err-disk-clause-opened
returns-in_err-disk-clause-opened g c = IfOk-from_err c.from_residual.result _ c.from_residual.ensures.0

pub returns-in_err-disk-clause-memory : goal.returns-in_err-disk-clause-memory
returns-in_err-disk-clause-memory g c = IfOk-from_err c.from_residual.result _ c.from_residual.ensures.0

pub returns-in_err-journal-clause-life : goal.returns-in_err-journal-clause-life
returns-in_err-journal-clause-life g c = IfOk-from_err c.from_residual-in_err-journal.result _ c.from_residual-in_err-journal.ensures.0

pub returns-in_err-journal-clause-facts : goal.returns-in_err-journal-clause-facts
returns-in_err-journal-clause-facts g c = IfOk-from_err c.from_residual-in_err-journal.result _ c.from_residual-in_err-journal.ensures.0

pub returns-in_err-journal-clause-fault_state : goal.returns-in_err-journal-clause-fault_state
returns-in_err-journal-clause-fault_state g c = IfOk-from_err c.from_residual-in_err-journal.result _ c.from_residual-in_err-journal.ensures.0

pub returns-in_err-journal-clause-arms : goal.returns-in_err-journal-clause-arms
returns-in_err-journal-clause-arms g c = IfOk-from_err c.from_residual-in_err-journal.result _ c.from_residual-in_err-journal.ensures.0

pub returns-in_err-journal-clause-alike : goal.returns-in_err-journal-clause-alike
returns-in_err-journal-clause-alike g c = IfOk-from_err c.from_residual-in_err-journal.result _ c.from_residual-in_err-journal.ensures.0

pub returns-in_err-journal-clause-board : goal.returns-in_err-journal-clause-board
returns-in_err-journal-clause-board g c = IfOk-from_err c.from_residual-in_err-journal.result _ c.from_residual-in_err-journal.ensures.0

pub returns-in_err-journal-clause-opened : goal.returns-in_err-journal-clause-opened
returns-in_err-journal-clause-opened g c = IfOk-from_err c.from_residual-in_err-journal.result _ c.from_residual-in_err-journal.ensures.0

pub returns-in_err-journal-clause-memory : goal.returns-in_err-journal-clause-memory
returns-in_err-journal-clause-memory g c = IfOk-from_err c.from_residual-in_err-journal.result _ c.from_residual-in_err-journal.ensures.0

pub returns-in_err-disk-clause-refused : goal.returns-in_err-disk-clause-refused
returns-in_err-disk-clause-refused g c =
    let p = err_from_is_err_and c.from_residual.result c.from_residual.ensures.1 in
    on_err c.from_residual.result (p.1 ∙ ap Err p.2)

pub returns-in_err-journal-clause-refused : goal.returns-in_err-journal-clause-refused
returns-in_err-journal-clause-refused g c =
    let p = err_from_is_err_and c.from_residual-in_err-journal.result c.from_residual-in_err-journal.ensures.1 in
    on_err c.from_residual-in_err-journal.result (p.1 ∙ ap Err p.2)

pub returns-clause-life : goal.returns-clause-life
returns-clause-life g c =
    let s = c.args.self.now in
    let a = g.D.Disk.facts s.disk in
    let b = g.D.Disk.facts c.in_ok-disk.disk in
    same_life s.shape s.shape s.opened s.opened s.current s.current s.doubt s.doubt s.over s.over a.content b.content s.journal c.in_ok-journal.journal refl refl refl refl refl c.in_ok-disk.ensures.facts.content
    (c.in_ok-journal.ensures)

pub returns-clause-facts : goal.returns-clause-facts
returns-clause-facts g c = c.in_ok-disk.ensures.facts

pub returns-clause-fault_state : goal.returns-clause-fault_state
returns-clause-fault_state g c = c.in_ok-disk.ensures.fault_state

pub returns-clause-arms : goal.returns-clause-arms
returns-clause-arms g c = c.in_ok-disk.ensures.arms

pub returns-clause-alike : goal.returns-clause-alike
returns-clause-alike g c = c.in_ok-disk.ensures.alike

pub returns-clause-board : goal.returns-clause-board
returns-clause-board g c = refl

pub returns-clause-opened : goal.returns-clause-opened
returns-clause-opened g c = refl

pub returns-clause-memory : goal.returns-clause-memory
returns-clause-memory g c = refl

pub returns-clause-refused : goal.returns-clause-refused
returns-clause-refused g c = tt
