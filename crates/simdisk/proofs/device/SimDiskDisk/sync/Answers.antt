use Rattle.std.proofs.{Common.{◌∷◌, [], refl, sym, inl, true≢false, arith}, lemmas.Grind.common_steps}
use Rattle.disk.{specs.WriteLog.{lent_piece, synced}, proofs.Stretches.{passes_sync, passes_ranges}}
use Rattle.simdisk.{specs.{History.log_of, Views.lent_of}, proofs.{Epochs.fits_synced, Notes.{newest_synced, durable_then, lent_fewer}}}
use Rattle.simdisk.proofs.Causes.{strikes_cause, waits_same, runs, called_once}
use Rattle.simdisk.proofs.device.SimDiskDisk.sync.Goals as goal

pub invariant_of-self-2-clause-newest : goal.invariant_of-self-2-clause-newest
invariant_of-self-2-clause-newest c =
    let s = c.args.self.now in
    newest_synced (lent_of s.loan) (log_of s.history) (log_of c.end_epoch.new.self) s.content.items c.in-Ok.ensures.noted c.in-Ok.ensures.synced s.within

pub returns-clause-durable : goal.returns-clause-durable
returns-clause-durable c none x a =
    let s = c.args.self.now in
    durable_then (lent_of s.loan) s.content.items x (log_of s.history) (log_of c.end_epoch.new.self) (synced (log_of c.end_epoch.new.self)) c.in-Ok.ensures.noted c.in-Ok.ensures.synced none a

pub returns-clause-called : goal.returns-clause-called
returns-clause-called c =
    let s = c.args.self.now in
    record {
      content = refl;
      crash = passes_sync s.content.items (synced (log_of s.history)) (synced (log_of c.end_epoch.new.self)) (log_of s.history) (log_of c.end_epoch.new.self) _ _ _ _ _ (lent_piece (lent_of s.loan) s.content.items ∷ [])
          c.in-Ok.ensures.noted c.in-Ok.ensures.synced refl s.agrees (fits_synced s.history) (lent_fewer (lent_of s.loan) s.content.items _ s.loan.patch s.within (λ lt. (s.noted lt).noted));
      lent = refl;
      calls = record { ok = c.saturating_add-self.ensures; err = tt };
      failures = record { ok = refl; err = tt };
      cause = record { ok = waits_same s.faults c.strikes.new.self s.refused s.past.kept.armings (c.if-strikes.ensures.waits refl); err = tt };
      gone = runs s.faults.cut (λ cut. true≢false (sym (c.if-strikes.ensures.due.1 (inl cut))));
    }

pub invariant_of-self-2-clause-noted : goal.invariant_of-self-2-clause-noted
invariant_of-self-2-clause-noted c = grind (arith, common_steps)

pub returns-then-strikes-clause-durable : goal.returns-then-strikes-clause-durable
returns-then-strikes-clause-durable c = tt

pub returns-then-strikes-clause-but_lent : goal.returns-then-strikes-clause-but_lent
returns-then-strikes-clause-but_lent c = tt

pub returns-then-strikes-clause-called : goal.returns-then-strikes-clause-called
returns-then-strikes-clause-called c =
    let s = c.args.self.now in
    record {
      content = refl;
      crash = passes_ranges s.content.items s.content.items (synced (log_of s.history)) (synced (log_of s.history)) (log_of s.history) (log_of s.history) _ _ _ _ _ _ refl refl refl refl;
      lent = refl;
      calls = record { ok = tt; err = called_once s.calls c.saturating_add-self.result c.saturating_add-self.ensures };
      failures = record { ok = tt; err = c.failed.ensures };
      cause = record { ok = tt; err = strikes_cause s.faults c.strikes.new.self s.refused s.past.kept.armings (c.if-strikes.ensures.strikes refl) };
      gone = tt;
    }

pub returns-then-strikes-clause-log : goal.returns-then-strikes-clause-log
returns-then-strikes-clause-log c = tt

pub returns-then-strikes-clause-log_failed : goal.returns-then-strikes-clause-log_failed
returns-then-strikes-clause-log_failed c = refl

pub returns-then-strikes-clause-due : goal.returns-then-strikes-clause-due
returns-then-strikes-clause-due c = tt

pub returns-then-strikes-clause-early : goal.returns-then-strikes-clause-early
returns-then-strikes-clause-early c = inl (c.if-strikes.ensures.due.0 refl)

pub returns-then-strikes-clause-counts : goal.returns-then-strikes-clause-counts
returns-then-strikes-clause-counts c = λ calm. absurd (calm (c.if-strikes.ensures.due.0 refl))

pub returns-clause-log : goal.returns-clause-log
returns-clause-log c = c.in-Ok.ensures.noted

pub returns-clause-log_failed : goal.returns-clause-log_failed
returns-clause-log_failed c = tt

pub returns-clause-due : goal.returns-clause-due
returns-clause-due c = (λ fails. true≢false (sym (c.if-strikes.ensures.due.1 fails)))

pub returns-clause-early : goal.returns-clause-early
returns-clause-early c = tt

pub returns-clause-counts : goal.returns-clause-counts
returns-clause-counts c = λ calm. c.if-strikes.ensures.counts refl

pub returns-clause-spared : goal.returns-clause-spared
returns-clause-spared c = tt
