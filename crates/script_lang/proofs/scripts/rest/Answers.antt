use Rattle.std.proofs.{Common.length, lemmas.Result.IfOk-from_err}
use Rattle.script_lang.{specs.Lines.IsLineInRange, proofs.{Classes.seen, Reading.gives_fault}}
use Rattle.script_lang.proofs.Rest.{begun, all_of_none, few_begun, few_more, next_few, found_few, ended, one_on, fails_on}
use Rattle.script_lang.proofs.scripts.rest.Goals as goal

pub loop-bytes-init : goal.loop-bytes-init
loop-bytes-init c = record {
  few = c.requires;
  ranges = all_of_none (IsLineInRange c.args.shape.now) c.new-found.result.items c.new-found.ensures.items;
  found = few_begun c.new-found.result.items c.args.start c.new-found.ensures.items;
  same = begun c.args.shape.now c.args.start (seen c.args.lines.now) c.new-found.result.items c.new-found.ensures.items;
}

pub loop-bytes-preserved : goal.loop-bytes-preserved
loop-bytes-preserved c = record {
  few = next_few c.loop-bytes.n c.in_ok-keep.ensures.sound;
  ranges = c.in_ok-keep.ensures.ranges c.loop-bytes.invariant.ranges;
  found = few_more (length c.loop-bytes.found.items) (length c.keep.new.found.items) c.args.start c.loop-bytes.n c.in_ok-keep.ensures.few c.loop-bytes.invariant.found;
  same = one_on c.args.shape.now c.args.start c.loop-bytes.n c.loop-bytes.bytes-index c.args.lines.now c.loop-bytes.found.items c.loop-bytes.invariant.same c.loop-bytes-test.true c.keep.new.found.items c.in_ok-keep.ensures.value;
}

pub returns-in_err-keep-clause-value : goal.returns-in_err-keep-clause-value
returns-in_err-keep-clause-value c =
    gives_fault _ c.from_residual.result _ c.in_err-keep.field-0.0 c.from_residual.ensures.1
    (fails_on c.args.shape.now c.args.start c.loop-bytes.n c.loop-bytes.bytes-index c.args.lines.now c.loop-bytes.found.items c.loop-bytes.invariant.same c.loop-bytes-test.true c.in_err-keep.field-0.0 c.in_err-keep.ensures.value)

pub returns-in_err-keep-clause-few : goal.returns-in_err-keep-clause-few
returns-in_err-keep-clause-few c = IfOk-from_err c.from_residual.result _ c.from_residual.ensures.0

pub returns-in_err-keep-clause-ranges : goal.returns-in_err-keep-clause-ranges
returns-in_err-keep-clause-ranges c = IfOk-from_err c.from_residual.result _ c.from_residual.ensures.0

pub returns-clause-value : goal.returns-clause-value
returns-clause-value c = ended c.args.shape.now c.args.start c.loop-bytes.n c.loop-bytes.bytes-index c.args.lines.now c.loop-bytes.found.items c.loop-bytes.invariant.same c.loop-bytes-test.false

pub returns-clause-few : goal.returns-clause-few
returns-clause-few c = found_few (length c.loop-bytes.found.items) c.args.start c.loop-bytes.n c.loop-bytes.invariant.found c.loop-bytes.invariant.few

pub returns-clause-ranges : goal.returns-clause-ranges
returns-clause-ranges c = c.loop-bytes.invariant.ranges
