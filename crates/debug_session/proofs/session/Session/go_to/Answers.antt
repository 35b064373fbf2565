use Rattle.std.proofs.{Common.{◌≡◌, ◌+◌, List, take, subst, refl}, lemmas.Result.IfOk-from_err}
use Rattle.script_lang.specs.declared.line.Line.{Line}
use Rattle.debug_session.{specs.Turns.turns_made, proofs.Turns.went_to}
use Rattle.debug_session.proofs.session.Session.go_to.Goals as goal

pub returns-clause-went : goal.returns-clause-went
returns-clause-went g c =
    let p = c.in-Some.found in
    let P : List Line → Type 0 = λ xs. turns_made (take p.1 xs) + p.2 ≡ c.args.turns in
    went_to p.0 p.1 p.2 c.args.turns c.args.self.now.timeline c.go_back.new.self (subst P c.lines.ensures c.in-Some.ensures.others) c.in_ok-go_back.ensures.history c.in_ok-go_back.ensures.back

pub returns-in_default-clause-at : goal.returns-in_default-clause-at
returns-in_default-clause-at g c = c.requires.at

pub returns-in_default-clause-begins : goal.returns-in_default-clause-begins
returns-in_default-clause-begins g c = refl

pub go_back-requires-clause-at : goal.go_back-requires-clause-at
go_back-requires-clause-at g c κs within = c.requires.at

pub returns-in_err-go_back-clause-begins : goal.returns-in_err-go_back-clause-begins
returns-in_err-go_back-clause-begins g c = c.go_back.ensures.begins

pub returns-clause-begins : goal.returns-clause-begins
returns-clause-begins g c = c.go_back.ensures.begins

pub returns-clause-at : goal.returns-clause-at
returns-clause-at g c = c.in_ok-go_back.ensures.at

pub returns-in_err-go_back-clause-at : goal.returns-in_err-go_back-clause-at
returns-in_err-go_back-clause-at g c = IfOk-from_err c.from_residual.result _ c.from_residual.ensures.0

pub returns-in_err-go_back-clause-went : goal.returns-in_err-go_back-clause-went
returns-in_err-go_back-clause-went g c = IfOk-from_err c.from_residual.result _ c.from_residual.ensures.0

pub returns-in_err-go_back-clause-rest : goal.returns-in_err-go_back-clause-rest
returns-in_err-go_back-clause-rest g c = ((refl, refl), refl)

pub returns-in_default-clause-rest : goal.returns-in_default-clause-rest
returns-in_default-clause-rest g c = ((refl, refl), refl)

pub returns-clause-rest : goal.returns-clause-rest
returns-clause-rest g c = ((refl, refl), refl)
