use Rattle.std.proofs.{Common.{refl, sym, inl, true≢false, arith}, lemmas.Grind.common_steps}
use Rattle.disk.{specs.WriteLog.synced, proofs.Stretches.passes_ranges}
use Rattle.simdisk.{specs.History.log_of, proofs.Causes.{strikes_cause, waits_same, runs, called_once}}
use Rattle.simdisk.proofs.device.SimDiskDisk.read.Goals as goal

pub returns-then-strikes-clause-found : goal.returns-then-strikes-clause-found
returns-then-strikes-clause-found c = tt

pub returns-then-strikes-clause-unsynced : goal.returns-then-strikes-clause-unsynced
returns-then-strikes-clause-unsynced c = refl

pub returns-then-strikes-clause-called : goal.returns-then-strikes-clause-called
returns-then-strikes-clause-called c =
    let s = c.args.self.now in
    record {
      content = refl;
      crash = passes_ranges s.content.items s.content.items (synced (log_of s.history)) (synced (log_of s.history)) (log_of s.history) (log_of s.history) _ _ _ _ _ _ refl refl refl refl;
      lent = refl;
      calls = record { ok = tt; err = called_once s.calls c.saturating_add-self.result c.saturating_add-self.ensures };
      failures = record { ok = tt; err = c.failed.ensures };
      cause = record { ok = tt; err = strikes_cause s.faults c.strikes.new.self s.refused s.past.kept.armings (c.if-strikes.ensures.strikes refl) };
      gone = tt;
    }

pub returns-then-strikes-clause-not_its_own : goal.returns-then-strikes-clause-not_its_own
returns-then-strikes-clause-not_its_own c = refl

pub returns-then-strikes-clause-log : goal.returns-then-strikes-clause-log
returns-then-strikes-clause-log c = refl

pub returns-then-strikes-clause-due : goal.returns-then-strikes-clause-due
returns-then-strikes-clause-due c = tt

pub returns-then-strikes-clause-early : goal.returns-then-strikes-clause-early
returns-then-strikes-clause-early c = c.if-strikes.ensures.due.0 refl

pub returns-then-strikes-clause-counts : goal.returns-then-strikes-clause-counts
returns-then-strikes-clause-counts c = λ calm. absurd (calm (c.if-strikes.ensures.due.0 refl))

pub returns-clause-found : goal.returns-clause-found
returns-clause-found c = grind (arith, common_steps)

pub returns-clause-unsynced : goal.returns-clause-unsynced
returns-clause-unsynced c = refl

pub returns-clause-called : goal.returns-clause-called
returns-clause-called c =
    let s = c.args.self.now in
    record {
      content = refl;
      crash = passes_ranges s.content.items s.content.items (synced (log_of s.history)) (synced (log_of s.history)) (log_of s.history) (log_of s.history) _ _ _ _ _ _ refl refl refl refl;
      lent = refl;
      calls = record { ok = c.saturating_add-self.ensures; err = tt };
      failures = record { ok = refl; err = tt };
      cause = record { ok = waits_same s.faults c.strikes.new.self s.refused s.past.kept.armings (c.if-strikes.ensures.waits refl); err = tt };
      gone = runs s.faults.cut (λ cut. true≢false (sym (c.if-strikes.ensures.due.1 (inl cut))));
    }

pub returns-clause-not_its_own : goal.returns-clause-not_its_own
returns-clause-not_its_own c = refl

pub returns-clause-log : goal.returns-clause-log
returns-clause-log c = refl

pub returns-clause-due : goal.returns-clause-due
returns-clause-due c = (λ fails. true≢false (sym (c.if-strikes.ensures.due.1 fails)))

pub returns-clause-early : goal.returns-clause-early
returns-clause-early c = tt

pub returns-clause-counts : goal.returns-clause-counts
returns-clause-counts c = λ calm. c.if-strikes.ensures.counts refl
