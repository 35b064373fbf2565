use Rattle.script_lang.proofs.Classes.{ok_at, says_nothing, says_command, says_look, says_arming, says_other}
use Rattle.script_lang.proofs.line.line_said.Goals as goal

pub returns-in_default-clause-value : goal.returns-in_default-clause-value
returns-in_default-clause-value c = says_nothing c.args.shape.now c.args.words.now c.in_default.len_below

pub returns-in_default-clause-range : goal.returns-in_default-clause-range
returns-in_default-clause-range c = tt

pub returns-in-Some-clause-value : goal.returns-in-Some-clause-value
returns-in-Some-clause-value c = says_command c.args.shape.now c.args.words.now c.in-len1-up.len_at_least c.in-Some.command c.in-Some.ensures.value

pub returns-in-Some-clause-range : goal.returns-in-Some-clause-range
returns-in-Some-clause-range c = c.in-Some.ensures.range

pub returns-in-Some-look_said-clause-value : goal.returns-in-Some-look_said-clause-value
returns-in-Some-look_said-clause-value c =
    says_look c.args.shape.now c.args.words.now c.in-len1-up.len_at_least c.in_default-command_said.ensures.value c.in-Some-look_said.look c.in-Some-look_said.ensures.value

pub returns-in-Some-look_said-clause-range : goal.returns-in-Some-look_said-clause-range
returns-in-Some-look_said-clause-range c = c.in-Some-look_said.ensures.range

pub returns-in-Some-arming_said-clause-value : goal.returns-in-Some-arming_said-clause-value
returns-in-Some-arming_said-clause-value c =
    says_arming c.args.shape.now c.args.words.now c.in-len1-up.len_at_least c.in_default-command_said.ensures.value c.in_default-look_said.ensures.value c.in-Some-arming_said.arming c.in-Some-arming_said.ensures.value

pub returns-in-Some-arming_said-clause-range : goal.returns-in-Some-arming_said-clause-range
returns-in-Some-arming_said-clause-range c = c.in-Some-arming_said.ensures.range

pub returns-clause-value : goal.returns-clause-value
returns-clause-value c =
    ok_at _ _ _ c.other_said.ensures.value
    (says_other c.args.shape.now c.args.words.now c.in-len1-up.len_at_least c.in_default-command_said.ensures.value c.in_default-look_said.ensures.value c.in_default-arming_said.ensures.value)

pub returns-clause-range : goal.returns-clause-range
returns-clause-range c = c.other_said.ensures.range
