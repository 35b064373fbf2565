use Rattle.std.proofs.Common.{◌∙◌, Some, sym, ap, arith}
use Rattle.layout.proofs.SpelledRecords.{some_trial, reads_none, reads_some, reads_few, trial_of_two}
use Rattle.layout.proofs.trials.trial_in.Goals as goal

pub returns-in-0-clause-exact : goal.returns-in-0-clause-exact
returns-in-0-clause-exact c r size is version =
    ap Some (sym (reads_none size r c.args.sector.now is (sym c.u32_at.ensures ∙ c.in-0.is)))

pub returns-in_err-standing_trial-in-1-clause-exact : goal.returns-in_err-standing_trial-in-1-clause-exact
returns-in_err-standing_trial-in-1-clause-exact c r size is version =
    let sector = c.args.sector.now in
    let t = reads_some size r sector is (sym c.u32_at.ensures ∙ c.in-1.is) in
    let of = trial_of_two size r sector is t.0 t.1 in
    let at = some_trial size r sector is t.0 t.1 in
    let found = c.standing_trial.ensures.exact t.0 (version ∙ of.0) of.1 of.2 at.1 at.2 in
    let was = c.in_err-standing_trial-in-1.was in
    cc

pub returns-in_ok-standing_trial-in-1-clause-exact : goal.returns-in_ok-standing_trial-in-1-clause-exact
returns-in_ok-standing_trial-in-1-clause-exact c r size is version =
    let sector = c.args.sector.now in
    let t = reads_some size r sector is (sym c.u32_at.ensures ∙ c.in-1.is) in
    let of = trial_of_two size r sector is t.0 t.1 in
    let at = some_trial size r sector is t.0 t.1 in
    let found = c.standing_trial.ensures.exact t.0 (version ∙ of.0) of.1 of.2 at.1 at.2 in
    let was = c.in_ok-standing_trial-in-1.was in
    let is_some = t.1 in
    cc

pub returns-in_default-clause-exact : goal.returns-in_default-clause-exact
returns-in_default-clause-exact c r size is version =
    absurd (omega (arith, c.u32_at.ensures, reads_few size r c.args.sector.now is, c.in_default))
