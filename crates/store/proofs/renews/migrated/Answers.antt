use Rattle.std.proofs.{Common.{◌∙◌, ℕ, refl, sym, ap, subst, rules}, lemmas.Result.{err_from_is_err_and, IfOk-from_err}}
use Rattle.disk.specs.Facts.{Lent, counted}
use Rattle.layout.specs.{Records.IsInRange, declared.records.{Record.Record, Version.TheVariants.{One, Two}}}
use Rattle.store.specs.Standing.{state_of}
use Rattle.store.proofs.Renewing.{in_range_two, still_settled, renewed_settled, renewed_state, calls_of, calls_on, calls_stop}
use Rattle.store.proofs.renews.migrated.Goals as goal

pub renewed-requires-clause-in_range : goal.renewed-requires-clause-in_range
renewed-requires-clause-in_range g c _ _ =
    let f = c.args.found in
    subst (IsInRange f.shape) (sym c.in_version_two-next.ensures) (in_range_two f.shape f.record (c.requires.keeps.up refl _ (g.met.D.Disk.may_keep _)).selects.is.0)

pub renewed-requires-clause-same : goal.renewed-requires-clause-same
renewed-requires-clause-same g c _ _ x = ap (λ (r : Record). state_of c.args.found.shape r x) c.in_version_two-next.ensures

-- of version 2 already
pub returns-in-Two-clause-settles : goal.returns-in-Two-clause-settles
returns-in-Two-clause-settles g c = still_settled (g.D.Disk.facts c.args.disk.now) (g.met.D.Disk.only_now _) c.requires.keeps.none_out

pub returns-in-Two-clause-calls : goal.returns-in-Two-clause-calls
returns-in-Two-clause-calls g c start made =
    let f = c.args.found in
    made ∙ ap (λ (k : ℕ). counted start k) (sym (calls_of f.shape f.side f.record Two _ (c.requires.keeps.up refl _ (g.met.D.Disk.may_keep _)).selects c.in-Two.is))

-- of version 1, and written anew
pub returns-in_ok-kept-in-One-clause-kept : goal.returns-in_ok-kept-in-One-clause-kept
returns-in_ok-kept-in-One-clause-kept g c =
    let f = c.args.found in
    let kept = c.in_ok-kept-in-One.kept in
    let did = c.in_ok-kept-in-One.ensures.keeps in
    let b = g.D.Disk.facts c.renewed.new.disk in
    let stands = c.renewed.ensures.any_moment.now b.content (g.met.D.Disk.may_keep _) in
    record {
      keeps = did.0;
      shape = did.1;
      version = search rules;
      state = renewed_state b kept.shape f.shape kept.side kept.record _ (did.0.up refl) (g.met.D.Disk.may_keep _) stands;
    }

pub returns-in_ok-kept-in-One-clause-settles : goal.returns-in_ok-kept-in-One-clause-settles
returns-in_ok-kept-in-One-clause-settles g c =
    let f = c.args.found in
    let did = c.renewed.ensures in
    renewed_settled (g.D.Disk.facts c.args.disk.now) (g.D.Disk.facts c.renewed.new.disk) f.shape f.side f.record (c.requires.keeps.up refl) (g.met.D.Disk.may_keep _) (g.met.D.Disk.may_keep _) c.in-One.is did.any_moment did.called.content.as_long (ap (λ (l : Lent). l.lanes) did.called.lent ∙ c.requires.keeps.none_out) did.no_fewer

pub returns-in_ok-kept-in-One-clause-calls : goal.returns-in_ok-kept-in-One-clause-calls
returns-in_ok-kept-in-One-clause-calls g c start made =
    let f = c.args.found in
    calls_on start _ _ _ made c.in_ok-kept-in-One.ensures.called.calls.ok (calls_of f.shape f.side f.record One _ (c.requires.keeps.up refl _ (g.met.D.Disk.may_keep _)).selects c.in-One.is)

pub returns-in_err-kept-in-One-clause-settles : goal.returns-in_err-kept-in-One-clause-settles
returns-in_err-kept-in-One-clause-settles g c =
    let f = c.args.found in
    let did = c.renewed.ensures in
    renewed_settled (g.D.Disk.facts c.args.disk.now) (g.D.Disk.facts c.renewed.new.disk) f.shape f.side f.record (c.requires.keeps.up refl) (g.met.D.Disk.may_keep _) (g.met.D.Disk.may_keep _) c.in-One.is did.any_moment did.called.content.as_long (ap (λ (l : Lent). l.lanes) did.called.lent ∙ c.requires.keeps.none_out) did.no_fewer

pub returns-in_err-kept-in-One-clause-calls : goal.returns-in_err-kept-in-One-clause-calls
returns-in_err-kept-in-One-clause-calls g c start made =
    let p = err_from_is_err_and c.from_residual.result c.from_residual.ensures.1 in
    let f = c.args.found in
    rw p.1 (calls_stop start _ _ _ made c.in_err-kept-in-One.ensures.called.calls.err (calls_of f.shape f.side f.record One _ (c.requires.keeps.up refl _ (g.met.D.Disk.may_keep _)).selects c.in-One.is))

pub returns-in_err-kept-in-One-clause-kept : goal.returns-in_err-kept-in-One-clause-kept
returns-in_err-kept-in-One-clause-kept g c = IfOk-from_err c.from_residual.result _ c.from_residual.ensures.0
