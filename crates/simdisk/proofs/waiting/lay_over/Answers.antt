use Rattle.std.proofs.{Common.{inl, inr, subst, [], List}, lemmas.List.take_all}
use Rattle.disk.specs.Facts.{AreSectorsAt}
use Rattle.simdisk.{specs.{declared.waiting.Waiting.Waiting, Cached.shown}, proofs.Caches.{read_put, read_none}}
use Rattle.simdisk.proofs.waiting.lay_over.Goals.{then-first-wait+then-wait-first, else-first-wait, else-first-wait-via-then-first-wait+else-wait-first, else-first-wait-via-else-first-wait}
use Rattle.simdisk.proofs.waiting.lay_over.Goals as goal

pub loop-wait-preserved : goal.loop-wait-preserved
loop-wait-preserved c = λ held within fits read.
    let ws = c.args.waiting.now in
    let i = c.loop-wait.wait-index in
    let so_far = c.loop-wait.invariant held within fits read in
    let none : Waiting = record { number = 0; sector = [] } in
    elim c.if-first-wait.branch [
      | then-first-wait+then-wait-first w ↦
          rw w.sectors-is (read_put c.args.first i none ws held c.loop-wait.sectors c.args.sectors.now c.loop-wait-test.true fits c.loop-wait.auto.sectors within so_far w.if-first-wait.true w.if-wait-first.true)
      | else-first-wait w ↦
          rw w.sectors-is (read_none c.args.first i none ws held c.loop-wait.sectors c.args.sectors.now c.loop-wait-test.true fits c.loop-wait.auto.sectors within so_far (elim w.else-first-wait.branch [
            | else-first-wait-via-then-first-wait+else-wait-first v ↦ inr v.if-wait-first.false
            | else-first-wait-via-else-first-wait v ↦ inl v.if-first-wait.false
          ]))
    ]

pub returns : goal.returns
returns c = λ held within fits read. (
  c.loop-wait.auto.sectors,
  subst (λ (us : List Waiting). AreSectorsAt c.args.first (shown us held) c.loop-wait.sectors) (take_all c.loop-wait.wait-index c.args.waiting.now c.loop-wait-test.false) (c.loop-wait.invariant held within fits read),
)
