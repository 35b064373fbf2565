use Rattle.std.proofs.Common.{Some, None}
use Rattle.board_session.specs.{Commands.party, Dialogues.{dialogue_ends, output_of}}
use Rattle.board_session.proofs.Talking.{none_left, left_as, obeyed, held, goes_on, leaves_after, unwritten}
use Rattle.board_session.proofs.talks.console.Goals as goal

pub returns-in_default-write_answer-clause-talks : goal.returns-in_default-write_answer-clause-talks
returns-in_default-write_answer-clause-talks g c =
    let first = dialogue_ends (g.I.Read.remaining c.args.input.now) (output_of g.W.Write.contents c.args.out.now) (party c.args.part.told c.args.heard.now) in
    let mid = dialogue_ends (g.I.Read.remaining c.loop.input) (output_of g.W.Write.contents c.loop.out) (party c.loop.part.told c.loop.heard) in
    let last = dialogue_ends (g.I.Read.remaining c.take_line-ended.new.input) (output_of g.W.Write.contents c.write_answer.new.out) (party c.answer_to-told.result.0.told c.answer_to-told.new.heard) in
    let ended = c.take_line-ended.result in
    let kept = c.take_line-ended.new.line.items in
    let said = c.line_said-said.result in
    let answer = c.answer_to-told.result.1 in
    let same = c.as_slice-kept.ensures.value in
    let came = none_left ended kept c.as_slice-kept.result.now c.left_before.result same c.left_before.ensures c.in_default.is in
    let heard = obeyed g.J.Journal.found g.J.Journal.issued mid last kept c.as_slice-kept.result.now ended said answer c.take_line-ended.ensures.takes came same c.line_said-said.ensures c.answer_to-told.ensures.fits in
    unwritten g.J.Journal.found g.J.Journal.issued first mid last ended said answer c.loop.invariant.talks heard

pub returns-in-Some-left_after-clause-talks : goal.returns-in-Some-left_after-clause-talks
returns-in-Some-left_after-clause-talks g c =
    let first = dialogue_ends (g.I.Read.remaining c.args.input.now) (output_of g.W.Write.contents c.args.out.now) (party c.args.part.told c.args.heard.now) in
    let mid = dialogue_ends (g.I.Read.remaining c.loop.input) (output_of g.W.Write.contents c.loop.out) (party c.loop.part.told c.loop.heard) in
    let last = dialogue_ends (g.I.Read.remaining c.take_line-ended.new.input) (output_of g.W.Write.contents c.write_answer.new.out) (party c.answer_to-told.result.0.told c.answer_to-told.new.heard) in
    let ended = c.take_line-ended.result in
    let kept = c.take_line-ended.new.line.items in
    let said = c.line_said-said.result in
    let answer = c.answer_to-told.result.1 in
    let same = c.as_slice-kept.ensures.value in
    let came = none_left ended kept c.as_slice-kept.result.now c.left_before.result same c.left_before.ensures c.in_default.is in
    let heard = obeyed g.J.Journal.found g.J.Journal.issued mid last kept c.as_slice-kept.result.now ended said answer c.take_line-ended.ensures.takes came same c.line_said-said.ensures c.answer_to-told.ensures.fits in
    leaves_after g.J.Journal.found g.J.Journal.issued first mid last ended said c.in-Some-left_after.left c.loop.invariant.talks (answer, heard, c.in-Ok.ensures.written) (left_as c.left_after.result ended said (Some c.in-Some-left_after.left) c.left_after.ensures c.in-Some-left_after.is)

pub loop-preserved : goal.loop-preserved
loop-preserved g c =
    let first = dialogue_ends (g.I.Read.remaining c.args.input.now) (output_of g.W.Write.contents c.args.out.now) (party c.args.part.told c.args.heard.now) in
    let mid = dialogue_ends (g.I.Read.remaining c.loop.input) (output_of g.W.Write.contents c.loop.out) (party c.loop.part.told c.loop.heard) in
    let last = dialogue_ends (g.I.Read.remaining c.take_line-ended.new.input) (output_of g.W.Write.contents c.write_answer.new.out) (party c.answer_to-told.result.0.told c.answer_to-told.new.heard) in
    let ended = c.take_line-ended.result in
    let kept = c.take_line-ended.new.line.items in
    let said = c.line_said-said.result in
    let answer = c.answer_to-told.result.1 in
    let same = c.as_slice-kept.ensures.value in
    let came = none_left ended kept c.as_slice-kept.result.now c.left_before.result same c.left_before.ensures c.in_default.is in
    let heard = obeyed g.J.Journal.found g.J.Journal.issued mid last kept c.as_slice-kept.result.now ended said answer c.take_line-ended.ensures.takes came same c.line_said-said.ensures c.answer_to-told.ensures.fits in
    record {
      free = c.answer_to-told.ensures.free;
      talks = goes_on g.J.Journal.found g.J.Journal.issued first mid last ended said c.loop.invariant.talks (answer, heard, c.in-Ok.ensures.written) (left_as c.left_after.result ended said None c.left_after.ensures c.in_default-left_after.is);
    }

pub take_line-ended-requires-clause-free : goal.take_line-ended-requires-clause-free
take_line-ended-requires-clause-free g c κs within = c.loop.invariant.free

pub answer_to-told-requires-clause-free : goal.answer_to-told-requires-clause-free
answer_to-told-requires-clause-free g c κs within = c.loop.invariant.free

pub write_answer-requires-clause-free : goal.write_answer-requires-clause-free
write_answer-requires-clause-free g c κs within = c.answer_to-told.ensures.free

pub returns-in-Some-left_before-clause-free : goal.returns-in-Some-left_before-clause-free
returns-in-Some-left_before-clause-free g c = c.loop.invariant.free

pub returns-in_default-write_answer-clause-free : goal.returns-in_default-write_answer-clause-free
returns-in_default-write_answer-clause-free g c = c.answer_to-told.ensures.free

pub returns-in-Some-left_after-clause-free : goal.returns-in-Some-left_after-clause-free
returns-in-Some-left_after-clause-free g c = c.answer_to-told.ensures.free

pub write_answer-requires-clause-told : goal.write_answer-requires-clause-told
write_answer-requires-clause-told g c κs within =
    held g.J.Journal.found g.J.Journal.issued c.line_said-said.result c.answer_to-told.result.1 _ (party c.answer_to-told.result.0.told c.answer_to-told.new.heard) c.answer_to-told.ensures.fits
