use Rattle.std.proofs.Common.{◌∙◌, true, false}
use Rattle.script_lang.proofs.Classes.{named, seen, is_cutat, is_cutlane, is_failat, is_faillane, no_arming}
use lib.Chars.{codes}
use Rattle.script_lang.proofs.armings.arming_said.Goals as goal

pub returns-then-eq-clause-value : goal.returns-then-eq-clause-value
returns-then-eq-clause-value c =
    c.cutat.ensures.value
    ∙ is_cutat c.args.shape.now c.args.keyword.now (seen c.args.words.now)
    (named c.args.keyword.now c.as_slice.result.now (codes "cutat") c.eq.result true c.as_slice.ensures c.eq.ensures c.if-eq.true)

pub returns-then-eq-clause-range : goal.returns-then-eq-clause-range
returns-then-eq-clause-range c = c.cutat.ensures.range c.args.shape.now

pub returns-then-eq-2-clause-value : goal.returns-then-eq-2-clause-value
returns-then-eq-2-clause-value c =
    c.cutlane.ensures.value
    ∙ is_cutlane c.args.shape.now c.args.keyword.now (seen c.args.words.now)
    (named c.args.keyword.now c.as_slice.result.now (codes "cutat") c.eq.result false c.as_slice.ensures c.eq.ensures c.if-eq.false)
    (named c.args.keyword.now c.as_slice-2.result.now (codes "cutlane") c.eq-2.result true c.as_slice-2.ensures c.eq-2.ensures c.if-eq-2.true)

pub returns-then-eq-2-clause-range : goal.returns-then-eq-2-clause-range
returns-then-eq-2-clause-range c = c.cutlane.ensures.range

pub returns-then-eq-3-clause-value : goal.returns-then-eq-3-clause-value
returns-then-eq-3-clause-value c =
    c.failat.ensures.value
    ∙ is_failat c.args.shape.now c.args.keyword.now (seen c.args.words.now)
    (named c.args.keyword.now c.as_slice.result.now (codes "cutat") c.eq.result false c.as_slice.ensures c.eq.ensures c.if-eq.false)
    (named c.args.keyword.now c.as_slice-2.result.now (codes "cutlane") c.eq-2.result false c.as_slice-2.ensures c.eq-2.ensures c.if-eq-2.false)
    (named c.args.keyword.now c.as_slice-3.result.now (codes "failat") c.eq-3.result true c.as_slice-3.ensures c.eq-3.ensures c.if-eq-3.true)

pub returns-then-eq-3-clause-range : goal.returns-then-eq-3-clause-range
returns-then-eq-3-clause-range c = c.failat.ensures.range c.args.shape.now

pub returns-then-eq-4-clause-value : goal.returns-then-eq-4-clause-value
returns-then-eq-4-clause-value c =
    c.faillane.ensures.value
    ∙ is_faillane c.args.shape.now c.args.keyword.now (seen c.args.words.now)
    (named c.args.keyword.now c.as_slice.result.now (codes "cutat") c.eq.result false c.as_slice.ensures c.eq.ensures c.if-eq.false)
    (named c.args.keyword.now c.as_slice-2.result.now (codes "cutlane") c.eq-2.result false c.as_slice-2.ensures c.eq-2.ensures c.if-eq-2.false)
    (named c.args.keyword.now c.as_slice-3.result.now (codes "failat") c.eq-3.result false c.as_slice-3.ensures c.eq-3.ensures c.if-eq-3.false)
    (named c.args.keyword.now c.as_slice-4.result.now (codes "faillane") c.eq-4.result true c.as_slice-4.ensures c.eq-4.ensures c.if-eq-4.true)

pub returns-then-eq-4-clause-range : goal.returns-then-eq-4-clause-range
returns-then-eq-4-clause-range c = c.faillane.ensures.range

pub returns-clause-value : goal.returns-clause-value
returns-clause-value c =
    no_arming c.args.shape.now c.args.keyword.now (seen c.args.words.now)
    (named c.args.keyword.now c.as_slice.result.now (codes "cutat") c.eq.result false c.as_slice.ensures c.eq.ensures c.if-eq.false)
    (named c.args.keyword.now c.as_slice-2.result.now (codes "cutlane") c.eq-2.result false c.as_slice-2.ensures c.eq-2.ensures c.if-eq-2.false)
    (named c.args.keyword.now c.as_slice-3.result.now (codes "failat") c.eq-3.result false c.as_slice-3.ensures c.eq-3.ensures c.if-eq-3.false)
    (named c.args.keyword.now c.as_slice-4.result.now (codes "faillane") c.eq-4.result false c.as_slice-4.ensures c.eq-4.ensures c.if-eq-4.false)

pub returns-clause-range : goal.returns-clause-range
returns-clause-range c = tt
