use Rattle.std.proofs.Common.{◌≡◌, ◌∙◌, ℕ, Some, ap, sym, subst, arith}
use Rattle.layout.{specs.Records.IsSaved, proofs.records.record_in.Goals.{in-0, in-1+in_ok-saved_in-in-1}}
use Rattle.layout.proofs.SpelledRecords.{version_in, slot_in, reason_in, presence_in, next_in, image_in, record_is, absent, present, presence_few, never_none, same_some}
use Rattle.layout.proofs.records.record_in.Goals as goal

pub returns-in_err-version-clause-exact : goal.returns-in_err-version-clause-exact
returns-in_err-version-clause-exact c r is =
    let found = c.version_of.ensures.exact r.version (c.u32_at.ensures ∙ version_in c.args.shape.now r c.args.sector.now is) in
    absurd (never_none _ _ c.in_err-version.was found)

pub returns-in_err-trial-clause-exact : goal.returns-in_err-trial-clause-exact
returns-in_err-trial-clause-exact c r is =
    let size = c.args.shape.now in
    let found = c.version_of.ensures.exact r.version (c.u32_at.ensures ∙ version_in size r c.args.sector.now is) in
    let stands = c.trial_in.ensures.exact r size is (same_some _ _ _ c.in_ok-version.was found) in
    absurd (never_none _ _ c.in_err-trial.was stands)

pub returns-in_err-slot-clause-exact : goal.returns-in_err-slot-clause-exact
returns-in_err-slot-clause-exact c r is =
    let slot = slot_in c.args.shape.now r c.args.sector.now is in
    absurd (omega (arith, slot, is.0.slot, c.u32_at-2.ensures, c.in_err-slot.ensures.none))

pub returns-in_err-reason-clause-exact : goal.returns-in_err-reason-clause-exact
returns-in_err-reason-clause-exact c r is =
    let found = c.reason_of.ensures.exact r.reason (c.u32_at-3.ensures ∙ reason_in c.args.shape.now r c.args.sector.now is) in
    absurd (never_none _ _ c.in_err-reason.was found)

pub returns-in_err-saved_in-in-1-clause-exact : goal.returns-in_err-saved_in-in-1-clause-exact
returns-in_err-saved_in-in-1-clause-exact c r is =
    let size = c.args.shape.now in
    let next = c.u64_at-next.ensures ∙ next_in size r c.args.sector.now is in
    let some = present r.image (sym (presence_in size r c.args.sector.now is) ∙ sym c.u32_at-4.ensures ∙ c.in-1.is) in
    let saved = image_in size r c.args.sector.now some.0 is some.1 in
    let found = c.saved_in.ensures.exact some.0 (subst (λ (n : ℕ). IsSaved size n some.0) (sym next) saved.0) saved.1 in
    absurd (never_none _ _ c.in_err-saved_in-in-1.was found)

pub returns-in_default-clause-exact : goal.returns-in_default-clause-exact
returns-in_default-clause-exact c r is =
    let there = presence_in c.args.shape.now r c.args.sector.now is in
    let few = presence_few r.image in
    absurd (omega (arith, there, few, c.in_default))

pub returns-clause-exact : goal.returns-clause-exact
returns-clause-exact c r is =
    let size = c.args.shape.now in
    let sector = c.args.sector.now in
    let slot : c.in_ok-slot.slot ≡ r.slot = c.in_ok-slot.ensures.some.0 ∙ c.u32_at-2.ensures ∙ slot_in size r sector is in
    let reason : c.in_ok-reason.reason ≡ r.reason =
    (let found = c.reason_of.ensures.exact r.reason (c.u32_at-3.ensures ∙ reason_in size r sector is) in
    same_some _ _ _ c.in_ok-reason.was found) in
    let next : c.u64_at-next.result ≡ r.next = c.u64_at-next.ensures ∙ next_in size r sector is in
    let presence = sym (presence_in size r sector is) ∙ sym c.u32_at-4.ensures in
    let image : c.match-u32_at.image ≡ r.image =
    elim c.match-u32_at.branch [
      | in-0 w ↦ w.image-is ∙ sym (absent r.image (presence ∙ w.in-0.is))
      | in-1+in_ok-saved_in-in-1 w ↦
          let some = present r.image (presence ∙ w.in-1.is) in
          let saved = image_in size r sector some.0 is some.1 in
          let found = w.saved_in.ensures.exact some.0 (subst (λ (n : ℕ). IsSaved size n some.0) (sym next) saved.0) saved.1 in
          let was = w.in_ok-saved_in-in-1.was in
          let image : c.match-u32_at.image ≡ Some some.0 = cc in
          image ∙ sym some.1
    ] in
    let version : c.in_ok-version.version ≡ r.version =
    (let found = c.version_of.ensures.exact r.version (c.u32_at.ensures ∙ version_in size r sector is) in
    same_some _ _ _ c.in_ok-version.was found) in
    let trial : c.in_ok-trial.trial ≡ r.trial =
    (let found = c.trial_in.ensures.exact r size is version in
    same_some _ _ _ c.in_ok-trial.was found) in
    ap Some (record_is r _ _ _ _ _ _ version slot reason next image trial)
