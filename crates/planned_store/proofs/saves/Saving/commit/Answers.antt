use Rattle.std.proofs.Common.{◌^◌, ◌<◌, subst, sym, rules}
use Rattle.layout.specs.Records.{IsInRange}
use Rattle.planned_store.proofs.SavedRecords.{saved_range}
use Rattle.planned_store.proofs.saves.Saving.commit.Goals as goal

pub returns-in-Saved-clause-range : goal.returns-in-Saved-clause-range
returns-in-Saved-clause-range c board was fits =
    let s = c.args.self.now in
    let wide : s.at.opaque < 2 ^ 64 = search rules in
    subst (IsInRange s.from.shape) (sym c.record.ensures) (saved_range s.from s.at board was fits.1 fits.2 c.requires.next wide)
