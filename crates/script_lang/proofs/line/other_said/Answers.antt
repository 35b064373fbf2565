use Rattle.std.proofs.Common.{◌∙◌, true, false}
use Rattle.script_lang.proofs.Classes.{named, seen, ok_at, alone_fits, is_payload, is_format, is_on, is_turn, is_call, is_cut, is_poke, is_inspect, is_wake, is_none}
use Rattle.script_lang.specs.{declared.line.Line.TheVariants.{Format, Inspect, Wake}, Lines.IsLineInRange}
use lib.Chars.{codes}
use Rattle.script_lang.proofs.line.other_said.Goals as goal

pub returns-then-eq-clause-value : goal.returns-then-eq-clause-value
returns-then-eq-clause-value c =
    ok_at _ _ _ c.payload.ensures.value
    (is_payload c.args.shape.now c.args.keyword.now (seen c.args.words.now)
    (named c.args.keyword.now c.as_slice.result.now (codes "payload") c.eq.result true c.as_slice.ensures c.eq.ensures c.if-eq.true))

pub returns-then-eq-clause-range : goal.returns-then-eq-clause-range
returns-then-eq-clause-range c = c.payload.ensures.range c.args.shape.now

pub returns-then-eq-2-clause-value : goal.returns-then-eq-2-clause-value
returns-then-eq-2-clause-value c =
    c.alone.ensures
    ∙ is_format c.args.shape.now c.args.keyword.now (seen c.args.words.now)
    (named c.args.keyword.now c.as_slice.result.now (codes "payload") c.eq.result false c.as_slice.ensures c.eq.ensures c.if-eq.false)
    (named c.args.keyword.now c.as_slice-2.result.now (codes "format") c.eq-2.result true c.as_slice-2.ensures c.eq-2.ensures c.if-eq-2.true)

pub returns-then-eq-2-clause-range : goal.returns-then-eq-2-clause-range
returns-then-eq-2-clause-range c = alone_fits (IsLineInRange c.args.shape.now) Format (seen c.args.words.now) _ c.alone.ensures tt

pub returns-then-eq-3-clause-value : goal.returns-then-eq-3-clause-value
returns-then-eq-3-clause-value c =
    c.on.ensures.value
    ∙ is_on c.args.shape.now c.args.keyword.now (seen c.args.words.now)
    (named c.args.keyword.now c.as_slice.result.now (codes "payload") c.eq.result false c.as_slice.ensures c.eq.ensures c.if-eq.false)
    (named c.args.keyword.now c.as_slice-2.result.now (codes "format") c.eq-2.result false c.as_slice-2.ensures c.eq-2.ensures c.if-eq-2.false)
    (named c.args.keyword.now c.as_slice-3.result.now (codes "on") c.eq-3.result true c.as_slice-3.ensures c.eq-3.ensures c.if-eq-3.true)

pub returns-then-eq-3-clause-range : goal.returns-then-eq-3-clause-range
returns-then-eq-3-clause-range c = c.on.ensures.range c.args.shape.now

pub returns-then-eq-4-clause-value : goal.returns-then-eq-4-clause-value
returns-then-eq-4-clause-value c =
    c.turn.ensures.value
    ∙ is_turn c.args.shape.now c.args.keyword.now (seen c.args.words.now)
    (named c.args.keyword.now c.as_slice.result.now (codes "payload") c.eq.result false c.as_slice.ensures c.eq.ensures c.if-eq.false)
    (named c.args.keyword.now c.as_slice-2.result.now (codes "format") c.eq-2.result false c.as_slice-2.ensures c.eq-2.ensures c.if-eq-2.false)
    (named c.args.keyword.now c.as_slice-3.result.now (codes "on") c.eq-3.result false c.as_slice-3.ensures c.eq-3.ensures c.if-eq-3.false)
    (named c.args.keyword.now c.as_slice-4.result.now (codes "turn") c.eq-4.result true c.as_slice-4.ensures c.eq-4.ensures c.if-eq-4.true)

pub returns-then-eq-4-clause-range : goal.returns-then-eq-4-clause-range
returns-then-eq-4-clause-range c = c.turn.ensures.range

pub returns-then-eq-5-clause-value : goal.returns-then-eq-5-clause-value
returns-then-eq-5-clause-value c =
    c.call.ensures.value
    ∙ is_call c.args.shape.now c.args.keyword.now (seen c.args.words.now)
    (named c.args.keyword.now c.as_slice.result.now (codes "payload") c.eq.result false c.as_slice.ensures c.eq.ensures c.if-eq.false)
    (named c.args.keyword.now c.as_slice-2.result.now (codes "format") c.eq-2.result false c.as_slice-2.ensures c.eq-2.ensures c.if-eq-2.false)
    (named c.args.keyword.now c.as_slice-3.result.now (codes "on") c.eq-3.result false c.as_slice-3.ensures c.eq-3.ensures c.if-eq-3.false)
    (named c.args.keyword.now c.as_slice-4.result.now (codes "turn") c.eq-4.result false c.as_slice-4.ensures c.eq-4.ensures c.if-eq-4.false)
    (named c.args.keyword.now c.as_slice-5.result.now (codes "call") c.eq-5.result true c.as_slice-5.ensures c.eq-5.ensures c.if-eq-5.true)

pub returns-then-eq-5-clause-range : goal.returns-then-eq-5-clause-range
returns-then-eq-5-clause-range c = c.call.ensures.range

pub returns-then-eq-6-clause-value : goal.returns-then-eq-6-clause-value
returns-then-eq-6-clause-value c =
    c.cut.ensures.value
    ∙ is_cut c.args.shape.now c.args.keyword.now (seen c.args.words.now)
    (named c.args.keyword.now c.as_slice.result.now (codes "payload") c.eq.result false c.as_slice.ensures c.eq.ensures c.if-eq.false)
    (named c.args.keyword.now c.as_slice-2.result.now (codes "format") c.eq-2.result false c.as_slice-2.ensures c.eq-2.ensures c.if-eq-2.false)
    (named c.args.keyword.now c.as_slice-3.result.now (codes "on") c.eq-3.result false c.as_slice-3.ensures c.eq-3.ensures c.if-eq-3.false)
    (named c.args.keyword.now c.as_slice-4.result.now (codes "turn") c.eq-4.result false c.as_slice-4.ensures c.eq-4.ensures c.if-eq-4.false)
    (named c.args.keyword.now c.as_slice-5.result.now (codes "call") c.eq-5.result false c.as_slice-5.ensures c.eq-5.ensures c.if-eq-5.false)
    (named c.args.keyword.now c.as_slice-6.result.now (codes "cut") c.eq-6.result true c.as_slice-6.ensures c.eq-6.ensures c.if-eq-6.true)

pub returns-then-eq-6-clause-range : goal.returns-then-eq-6-clause-range
returns-then-eq-6-clause-range c = c.cut.ensures.range c.args.shape.now

pub returns-then-eq-7-clause-value : goal.returns-then-eq-7-clause-value
returns-then-eq-7-clause-value c =
    ok_at _ _ _ c.poke.ensures.value
    (is_poke c.args.shape.now c.args.keyword.now (seen c.args.words.now)
    (named c.args.keyword.now c.as_slice.result.now (codes "payload") c.eq.result false c.as_slice.ensures c.eq.ensures c.if-eq.false)
    (named c.args.keyword.now c.as_slice-2.result.now (codes "format") c.eq-2.result false c.as_slice-2.ensures c.eq-2.ensures c.if-eq-2.false)
    (named c.args.keyword.now c.as_slice-3.result.now (codes "on") c.eq-3.result false c.as_slice-3.ensures c.eq-3.ensures c.if-eq-3.false)
    (named c.args.keyword.now c.as_slice-4.result.now (codes "turn") c.eq-4.result false c.as_slice-4.ensures c.eq-4.ensures c.if-eq-4.false)
    (named c.args.keyword.now c.as_slice-5.result.now (codes "call") c.eq-5.result false c.as_slice-5.ensures c.eq-5.ensures c.if-eq-5.false)
    (named c.args.keyword.now c.as_slice-6.result.now (codes "cut") c.eq-6.result false c.as_slice-6.ensures c.eq-6.ensures c.if-eq-6.false)
    (named c.args.keyword.now c.as_slice-7.result.now (codes "poke") c.eq-7.result true c.as_slice-7.ensures c.eq-7.ensures c.if-eq-7.true))

pub returns-then-eq-7-clause-range : goal.returns-then-eq-7-clause-range
returns-then-eq-7-clause-range c = c.poke.ensures.range

pub returns-then-eq-8-clause-value : goal.returns-then-eq-8-clause-value
returns-then-eq-8-clause-value c =
    c.alone-then-eq-8.ensures
    ∙ is_inspect c.args.shape.now c.args.keyword.now (seen c.args.words.now)
    (named c.args.keyword.now c.as_slice.result.now (codes "payload") c.eq.result false c.as_slice.ensures c.eq.ensures c.if-eq.false)
    (named c.args.keyword.now c.as_slice-2.result.now (codes "format") c.eq-2.result false c.as_slice-2.ensures c.eq-2.ensures c.if-eq-2.false)
    (named c.args.keyword.now c.as_slice-3.result.now (codes "on") c.eq-3.result false c.as_slice-3.ensures c.eq-3.ensures c.if-eq-3.false)
    (named c.args.keyword.now c.as_slice-4.result.now (codes "turn") c.eq-4.result false c.as_slice-4.ensures c.eq-4.ensures c.if-eq-4.false)
    (named c.args.keyword.now c.as_slice-5.result.now (codes "call") c.eq-5.result false c.as_slice-5.ensures c.eq-5.ensures c.if-eq-5.false)
    (named c.args.keyword.now c.as_slice-6.result.now (codes "cut") c.eq-6.result false c.as_slice-6.ensures c.eq-6.ensures c.if-eq-6.false)
    (named c.args.keyword.now c.as_slice-7.result.now (codes "poke") c.eq-7.result false c.as_slice-7.ensures c.eq-7.ensures c.if-eq-7.false)
    (named c.args.keyword.now c.as_slice-8.result.now (codes "inspect") c.eq-8.result true c.as_slice-8.ensures c.eq-8.ensures c.if-eq-8.true)

pub returns-then-eq-8-clause-range : goal.returns-then-eq-8-clause-range
returns-then-eq-8-clause-range c = alone_fits (IsLineInRange c.args.shape.now) Inspect (seen c.args.words.now) _ c.alone-then-eq-8.ensures tt

pub returns-then-eq-9-clause-value : goal.returns-then-eq-9-clause-value
returns-then-eq-9-clause-value c =
    c.alone-then-eq-9.ensures
    ∙ is_wake c.args.shape.now c.args.keyword.now (seen c.args.words.now)
    (named c.args.keyword.now c.as_slice.result.now (codes "payload") c.eq.result false c.as_slice.ensures c.eq.ensures c.if-eq.false)
    (named c.args.keyword.now c.as_slice-2.result.now (codes "format") c.eq-2.result false c.as_slice-2.ensures c.eq-2.ensures c.if-eq-2.false)
    (named c.args.keyword.now c.as_slice-3.result.now (codes "on") c.eq-3.result false c.as_slice-3.ensures c.eq-3.ensures c.if-eq-3.false)
    (named c.args.keyword.now c.as_slice-4.result.now (codes "turn") c.eq-4.result false c.as_slice-4.ensures c.eq-4.ensures c.if-eq-4.false)
    (named c.args.keyword.now c.as_slice-5.result.now (codes "call") c.eq-5.result false c.as_slice-5.ensures c.eq-5.ensures c.if-eq-5.false)
    (named c.args.keyword.now c.as_slice-6.result.now (codes "cut") c.eq-6.result false c.as_slice-6.ensures c.eq-6.ensures c.if-eq-6.false)
    (named c.args.keyword.now c.as_slice-7.result.now (codes "poke") c.eq-7.result false c.as_slice-7.ensures c.eq-7.ensures c.if-eq-7.false)
    (named c.args.keyword.now c.as_slice-8.result.now (codes "inspect") c.eq-8.result false c.as_slice-8.ensures c.eq-8.ensures c.if-eq-8.false)
    (named c.args.keyword.now c.as_slice-9.result.now (codes "wake") c.eq-9.result true c.as_slice-9.ensures c.eq-9.ensures c.if-eq-9.true)

pub returns-then-eq-9-clause-range : goal.returns-then-eq-9-clause-range
returns-then-eq-9-clause-range c = alone_fits (IsLineInRange c.args.shape.now) Wake (seen c.args.words.now) _ c.alone-then-eq-9.ensures tt

pub returns-clause-value : goal.returns-clause-value
returns-clause-value c =
    is_none c.args.shape.now c.args.keyword.now (seen c.args.words.now)
    (named c.args.keyword.now c.as_slice.result.now (codes "payload") c.eq.result false c.as_slice.ensures c.eq.ensures c.if-eq.false)
    (named c.args.keyword.now c.as_slice-2.result.now (codes "format") c.eq-2.result false c.as_slice-2.ensures c.eq-2.ensures c.if-eq-2.false)
    (named c.args.keyword.now c.as_slice-3.result.now (codes "on") c.eq-3.result false c.as_slice-3.ensures c.eq-3.ensures c.if-eq-3.false)
    (named c.args.keyword.now c.as_slice-4.result.now (codes "turn") c.eq-4.result false c.as_slice-4.ensures c.eq-4.ensures c.if-eq-4.false)
    (named c.args.keyword.now c.as_slice-5.result.now (codes "call") c.eq-5.result false c.as_slice-5.ensures c.eq-5.ensures c.if-eq-5.false)
    (named c.args.keyword.now c.as_slice-6.result.now (codes "cut") c.eq-6.result false c.as_slice-6.ensures c.eq-6.ensures c.if-eq-6.false)
    (named c.args.keyword.now c.as_slice-7.result.now (codes "poke") c.eq-7.result false c.as_slice-7.ensures c.eq-7.ensures c.if-eq-7.false)
    (named c.args.keyword.now c.as_slice-8.result.now (codes "inspect") c.eq-8.result false c.as_slice-8.ensures c.eq-8.ensures c.if-eq-8.false)
    (named c.args.keyword.now c.as_slice-9.result.now (codes "wake") c.eq-9.result false c.as_slice-9.ensures c.eq-9.ensures c.if-eq-9.false)

pub returns-clause-range : goal.returns-clause-range
returns-clause-range c = tt
