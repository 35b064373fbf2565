use Rattle.std.proofs.{Common.{◌++◌, ◌∙◌, ℕ, List, ap, ap₂, drop, take}, lemmas.Result.IfOk-weaker}
use Rattle.script_lang.specs.declared.line.Line.{Line}
use Rattle.sbigdb.proofs.Partings.{both_rest, parts_there, stands_ranged}
use Rattle.sbigdb.proofs.begins.lines_to.Goals as goal

pub returns-clause-parts : goal.returns-clause-parts
returns-clause-parts c =
    let own : List Line = c.args.own.now in
    let other : List Line = c.args.other.items in
    let place : ℕ = c.parting-place.result in
    let at = c.parting-place.ensures in
    let next = c.first_turns-next.ensures ∙ both_rest place own other c.deref-2.result.now c.deref-2.ensures.value in
    IfOk-weaker c.with_turns.result _ _
    (λ made is. parts_there own other place made.items (at.same ∙ ap (take place) c.deref.ensures.value)
    (λ line a b mine theirs. at.parts line a b mine (ap (drop place) c.deref.ensures.value ∙ theirs))
    (is ∙ ap₂ (λ (a b : List Line). a ++ b) c.truncate.ensures.items next))
    c.with_turns.ensures

pub returns-clause-ranges : goal.returns-clause-ranges
returns-clause-ranges c =
    let own : List Line = c.args.own.now in
    let other : List Line = c.args.other.items in
    let place : ℕ = c.parting-place.result in
    let next = c.first_turns-next.ensures ∙ both_rest place own other c.deref-2.result.now c.deref-2.ensures.value in
    IfOk-weaker c.with_turns.result _ _
    (λ made is. stands_ranged own other place made.items
    (is ∙ ap₂ (λ (a b : List Line). a ++ b) c.truncate.ensures.items next))
    c.with_turns.ensures
