use Rattle.std.{proofs.Common.{◌≡◌, ◌≤◌, ◌∙◌, ℕ, Bool, false, if◌then◌else◌, length, ap, sym, subst, rules}, specs.Vec.vec_capacity}
use Rattle.disk.{specs.{Facts.Content, WriteLog.{AgreesOutside, AreWithin, ranges}}, proofs.Pieces.replay_copied}
use Rattle.simdisk.{specs.Views.pieces, proofs.latest.Latest.catch_up.Goals.After-copy_patches}
use Rattle.simdisk.proofs.latest.Latest.catch_up.Goals as goal

-- it is kept apart, and what the patches leave of it is what stands
caught : (c : After-copy_patches) → c.args.self.now.as_read ≡ false → c.copy_patches.new.stood.items ≡ c.args.content.now
caught c apart =
    let old = c.args.self.now in
    let now = c.args.content.now in
    let ps = pieces c.args.patches.now in
    c.copy_patches.ensures ∙ replay_copied old.sectors.items now ps
    (subst (λ (k : Content). AgreesOutside k (ranges ps) now) (ap (λ (read : Bool). if read then now else old.sectors.items) apart) c.requires.agrees)
    (subst (λ (n : ℕ). AreWithin n (ranges ps)) (sym (c.requires.place.1 apart)) c.requires.fits)

pub returns-then-not-self-clause-same : goal.returns-then-not-self-clause-same
returns-then-not-self-clause-same c =
    let apart : c.args.self.now.as_read ≡ false = search rules in
    ap (λ (read : Bool). if read then c.args.content.now else c.copy_patches.new.stood.items) apart ∙ caught (goal.at.returns-then-not-self-clause-same c).After-copy_patches apart

pub returns-then-not-self-clause-place : goal.returns-then-not-self-clause-place
returns-then-not-self-clause-place c =
    let apart : c.args.self.now.as_read ≡ false = search rules in
    let long : length c.copy_patches.new.stood.items ≡ length c.args.content.now = ap (λ (k : Content). length k) (caught (goal.at.returns-then-not-self-clause-place c).After-copy_patches apart) in
    (subst (λ (n : ℕ). n ≤ vec_capacity c.copy_patches.new.stood) long (search rules), λ _. long)
