use Rattle.std.{proofs.Common.{◌≡◌, ℕ, ◌+◌, ◌-◌, ◌*◌, ◌==◌, if◌then◌else◌, eqb, refl, arith}, specs.{Prelude.slice_index, Int.bit_at}}
use mathlib.Core.Logic.{dite}
use native.Mathlib.Decide.{ℕ_discrete}
use Rattle.hsm.specs.{Words.word_bits, declared.view.Stage.TheVariants.Quiet, Rule.{HartInvariant, first_word, is_pending, reading}}
use Rattle.hsm.{specs.States.{StartsLedger, QuietLaw, stopped, start_pending, started, suspended}, proofs.Next.{place, mine}}
use Rattle.hsm.proofs.Whole.{unpended}
use Rattle.tallies.proofs.Laws.{changes_noted, earlier_stand, steps_true}
use Rattle.hsm.proofs.promises.laws.Goals as goal

starts_ledger : StartsLedger
starts_ledger harts boot s kept h lt =
    let m = word_bits s.words in
    let g = kept.grants in
    let ord = kept.sound.order h lt in
    let ledger = λ (a o : ℕ). kept.sound.ledger h a o lt in
    dite (ℕ_discrete (bit_at (slice_index s.words 0) h) 0)
    (λ free. (stopped, free, (λ a o. let l = ledger a o in let z = unpended (eqb (g.address h) a) (eqb (g.opaque h) o) (m.claimed h - m.entered h) (omega arith) in omega arith), (λ armed. tt)))
    (λ claimed. dite (ℕ_discrete (bit_at (slice_index s.words 0) (16 + h)) 0)
    (λ out. (
      start_pending (g.address h) (g.opaque h),
      (omega arith, out),
      (λ a o. let n : m.claimed h - m.entered h ≡ 1 = omega arith in
          let e : is_pending m g h a o ≡ (if g.address h == a then (if g.opaque h == o then 1 else 0) else 0) = rw n refl in
          let l = ledger a o in omega arith),
      (λ armed. kept.sound.armed h lt armed out),
    ))
    (λ entered.
    let settled : (a o : ℕ) → is_pending m g h a o ≡ 0 = λ a o. unpended (eqb (g.address h) a) (eqb (g.opaque h) o) (m.claimed h - m.entered h) (omega arith) in
    dite (ℕ_discrete (bit_at (slice_index s.words 0) (24 + h)) 0)
    (λ awake. (started, (omega arith, omega arith, awake), (λ a o. let l = ledger a o in let z = settled a o in omega arith), (λ armed. tt)))
    (λ sleeps. (suspended, (omega arith, omega arith, omega arith), (λ a o. let l = ledger a o in let z = settled a o in omega arith), (λ armed. tt)))))

quiet_law : QuietLaw
quiet_law harts boot s kept id c h at stood t lt ne =
    (mine harts (word_bits s.words) kept.grants s.views kept.steps.seated kept.sound id c at h Quiet (place 0 h Quiet c.harts stood)).2 t lt ne

pub returns-clause-starts : goal.returns-clause-starts
returns-clause-starts c = starts_ledger

pub returns-clause-quiet : goal.returns-clause-quiet
returns-clause-quiet c = quiet_law

pub returns-clause-truth : goal.returns-clause-truth
returns-clause-truth c = λ harts boot. steps_true reading (first_word boot) harts (1 + 2 * harts) (HartInvariant harts boot) (λ s kept. kept.steps)

pub returns-clause-unnoted : goal.returns-clause-unnoted
returns-clause-unnoted c = λ harts boot. changes_noted reading (first_word boot) harts (1 + 2 * harts) (HartInvariant harts boot) (λ s kept. kept.steps)

pub returns-clause-earlier : goal.returns-clause-earlier
returns-clause-earlier c = λ harts boot. earlier_stand reading (first_word boot) harts (1 + 2 * harts) (HartInvariant harts boot) (λ s kept. kept.steps)
