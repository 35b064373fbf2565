use Rattle.std.proofs.Common.{◌≡◌, ◌∙◌, ◌++◌, ◌∷◌, [], ℕ, ◌*◌, ◌<◌, length, ap, sym, refl, inl, true≢false, arith}
use Rattle.disk.specs.{Facts.{Content, Lent, Passes, Torn}, WriteLog.{laid_over, newest, ranges, sim_facts, synced}}
use Rattle.disk.proofs.{Ranges.{agrees_write, agrees_push}, Stretches.passes_range}
use Rattle.simdisk.specs.{Views.{pieces, lent_of, IsLatest}, History.log_of, Latest.latest_of}
use Rattle.simdisk.proofs.{Causes.{strikes_cause, waits_same, runs, called_once}, device.SimDiskDisk.write.Goals.In-Ok}
use Rattle.simdisk.proofs.Notes.{newest_more, ranges_written, last_push, apart_lent}
use Rattle.simdisk.proofs.device.SimDiskDisk.write.Goals as goal

-- once the write is noted: its range comes last
more : (c : In-Ok) → ranges (pieces c.note.new.self.written.items) ≡ ranges (pieces c.args.self.now.history.written.items) ++ (c.args.first, length c.args.sectors.now) ∷ []
more c = ranges_written (log_of c.args.self.now.history) (log_of c.note.new.self) (c.args.first, c.args.sectors.now) c.in-Ok.ensures.noted

-- what would stand has its bytes
newest_with : (c : In-Ok) (now : Content) → now ≡ laid_over (c.args.first, c.args.sectors.now) (latest_of c.args.self.now.latest c.args.self.now.content.items) → newest (log_of c.note.new.self) ≡ now
newest_with c now laid =
    let s = c.args.self.now in
    newest_more (log_of s.history) (log_of c.note.new.self) (c.args.first, c.args.sectors.now) (latest_of s.latest s.content.items) now c.in-Ok.ensures.noted s.newest laid

-- no later range touches what is lent
lent_stays : (c : In-Ok) → 0 < c.args.self.now.loan.lanes
    → IsLatest (ranges (pieces c.note.new.self.written.items)) c.args.self.now.loan.patch (c.args.self.now.loan.first, c.args.self.now.loan.lanes * c.args.self.now.loan.each)
lent_stays c lt =
    let s = c.args.self.now in
    let r : ℕ × ℕ = (c.args.first, length c.args.sectors.now) in
    rw (more c) (last_push (ranges (pieces s.history.written.items)) r (s.loan.first, s.loan.lanes * s.loan.each) s.loan.patch (apart_lent (lent_of s.loan) c.args.first (length c.args.sectors.now) lt c.requires.apart) (s.noted lt))

-- a crash may tear its sectors
torn : (c : In-Ok) (now : Content) (f g i j : ℕ) (l m : Lent)
    → Passes (sim_facts c.args.self.now.content.items (synced (log_of c.args.self.now.history)) (log_of c.args.self.now.history) f i l) (sim_facts now (synced (log_of c.note.new.self)) (log_of c.note.new.self) g j m) (Torn c.args.first (length c.args.sectors.now))
torn c now f g i j l m =
    let s = c.args.self.now in
    passes_range s.content.items now (synced (log_of s.history)) (synced (log_of c.note.new.self)) (log_of s.history) (log_of c.note.new.self) f g i j l m (c.args.first, c.args.sectors.now) c.in-Ok.ensures.noted c.in-Ok.ensures.synced
    (rw (← s.agrees.as_long) c.requires.within)

pub invariant_of-self-then-strikes : goal.invariant_of-self-then-strikes
invariant_of-self-then-strikes c =
    let noted = (goal.at.invariant_of-self-then-strikes c).In-Ok in
    let s = c.args.self.now in
    record {
      stands = c.in-Ok.ensures.apart s.content.items (ap (λ (k : Content). length k) (sym c.deref.ensures.value));
      newest = newest_with noted (latest_of c.write_failed.new.self s.content.items) (rw (← c.deref-then-strikes.ensures.value) c.write_failed.ensures.written);
      room = rw (← c.deref-then-strikes.ensures.value) c.write_failed.ensures.as_long;
      agrees = rw (c.in-Ok.ensures.synced, more noted) (agrees_push (synced (log_of s.history)) (ranges (pieces s.history.written.items)) (c.args.first, length c.args.sectors.now) s.content.items s.agrees);
      few = omega (arith, c.failed-then-strikes.ensures);
      few_calls = omega (arith, c.saturating_add-self.ensures);
      within = s.within;
      noted = lent_stays noted;
    }

pub returns-then-strikes-clause-called : goal.returns-then-strikes-clause-called
returns-then-strikes-clause-called c =
    let crash = torn (goal.at.returns-then-strikes-clause-called c).In-Ok in
    let s = c.args.self.now in
    record {
      content = record { as_long = refl; before = λ k lt. refl; after = λ k le. refl };
      crash = crash _ _ _ _ _ _ _;
      lent = refl;
      calls = record { ok = tt; err = called_once s.calls c.saturating_add-self.result c.saturating_add-self.ensures };
      failures = record { ok = tt; err = c.failed-then-strikes.ensures };
      cause = record { ok = tt; err = strikes_cause s.faults c.strikes.new.self s.refused s.past.kept.armings (c.if-strikes.ensures.strikes refl) };
      gone = tt;
    }

pub invariant_of-self-2 : goal.invariant_of-self-2
invariant_of-self-2 c =
    let noted = (goal.at.invariant_of-self-2 c).In-Ok in
    let s = c.args.self.now in
    let elsewhere = c.overwrite.ensures.written.elsewhere in
    record {
      stands = c.in-Ok.ensures.apart c.overwrite.new.content.items (elsewhere.as_long ∙ ap (λ (k : Content). length k) (sym c.deref.ensures.value));
      newest = newest_with noted (latest_of c.write.new.self c.overwrite.new.content.items) (ap (λ (k : Content). latest_of c.write.new.self k) c.overwrite.ensures.put ∙ c.write.ensures.written s.content.items);
      room = rw elsewhere.as_long (c.write.ensures.as_long (length s.content.items) s.room);
      agrees = rw (c.in-Ok.ensures.synced, more noted) (agrees_write (synced (log_of s.history)) (ranges (pieces s.history.written.items)) c.args.first (length c.args.sectors.now) s.content.items c.overwrite.new.content.items s.agrees elsewhere);
      few = s.few;
      few_calls = omega (arith, c.saturating_add-self.ensures);
      within = rw elsewhere.as_long s.within;
      noted = lent_stays noted;
    }

pub returns-clause-called : goal.returns-clause-called
returns-clause-called c =
    let crash = torn (goal.at.returns-clause-called c).In-Ok in
    let s = c.args.self.now in
    record {
      content = c.overwrite.ensures.written.elsewhere;
      crash = crash _ _ _ _ _ _ _;
      lent = refl;
      calls = record { ok = c.saturating_add-self.ensures; err = tt };
      failures = record { ok = refl; err = tt };
      cause = record { ok = waits_same s.faults c.strikes.new.self s.refused s.past.kept.armings (c.if-strikes.ensures.waits refl); err = tt };
      gone = runs s.faults.cut (λ cut. true≢false (sym (c.if-strikes.ensures.due.1 (inl cut))));
    }

pub returns-then-strikes-clause-written : goal.returns-then-strikes-clause-written
returns-then-strikes-clause-written c = tt

pub returns-then-strikes-clause-stays : goal.returns-then-strikes-clause-stays
returns-then-strikes-clause-stays c = refl

pub returns-then-strikes-clause-log : goal.returns-then-strikes-clause-log
returns-then-strikes-clause-log c = tt

pub returns-then-strikes-clause-due : goal.returns-then-strikes-clause-due
returns-then-strikes-clause-due c = tt

pub returns-then-strikes-clause-early : goal.returns-then-strikes-clause-early
returns-then-strikes-clause-early c = inl (c.if-strikes.ensures.due.0 refl)

pub returns-then-strikes-clause-counts : goal.returns-then-strikes-clause-counts
returns-then-strikes-clause-counts c = λ calm. absurd (calm (c.if-strikes.ensures.due.0 refl))

pub overwrite-requires : goal.overwrite-requires
overwrite-requires c = c.requires.within

pub returns-clause-written : goal.returns-clause-written
returns-clause-written c = c.overwrite.ensures.written

pub returns-clause-stays : goal.returns-clause-stays
returns-clause-stays c = tt

pub returns-clause-log_failed : goal.returns-clause-log_failed
returns-clause-log_failed c = tt

pub returns-clause-due : goal.returns-clause-due
returns-clause-due c = (λ fails. true≢false (sym (c.if-strikes.ensures.due.1 fails)))

pub returns-clause-early : goal.returns-clause-early
returns-clause-early c = tt

pub returns-clause-counts : goal.returns-clause-counts
returns-clause-counts c = λ calm. c.if-strikes.ensures.counts refl

pub returns-clause-spared : goal.returns-clause-spared
returns-clause-spared c = tt
