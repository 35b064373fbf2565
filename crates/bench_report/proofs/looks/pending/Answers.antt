use Rattle.std.proofs.Common.{◌≡◌, ◌+◌, ◌^◌, if◌then◌else◌, ℕ, Bool, add-one, ◌∙◌, ap, arith}
use Rattle.machine.specs.{Machine.Machine, Shows.{waits, pending_set}}
use Rattle.bench_report.specs.Views.{machine_in}
use Rattle.bench_report.proofs.looks.pending.Goals as goal

-- one hart more is in the set
one_more : (m n : Machine) (k set to : ℕ) (w : Bool) → n ≡ m → set ≡ pending_set m k → w ≡ waits n k → to ≡ set + (if w then 2 ^ k else 0) → to ≡ pending_set m (k + 1)
one_more m n k set to w same so looks with =
    rw add-one (with ∙ ap (λ (s : ℕ). s + (if w then 2 ^ k else 0)) so ∙ ap (λ (v : Bool). pending_set m k + (if v then 2 ^ k else 0)) (looks ∙ ap (λ (x : Machine). waits x k) same))

pub loop-number-preserved : goal.loop-number-preserved
loop-number-preserved c =
    let so = c.loop-number.invariant in
    let looks = c.waits-waits.ensures in
    let with = c.with_hart-set in
    let hart = rw c.unwrap-hart.ensures at c.new.ensures.some in (
      looks.machine ∙ so.0,
      looks.store ∙ so.1,
      one_more (machine_in c.args.board.now) (machine_in c.loop-number.board) c.loop-number.number c.loop-number.set with.result c.waits-waits.result so.0 so.2 (rw hart.0 at looks.value) with.ensures.value,
      omega (arith, with.ensures.few),
    )
