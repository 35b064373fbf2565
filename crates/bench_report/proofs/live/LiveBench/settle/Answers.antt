use Rattle.std.proofs.Common.{◌∙◌, subst, sym}
use Rattle.simdisk.specs.declared.fill.Fill.{Fill}
use Rattle.bench_report.specs.{Agree.{Agrees, IsCutBy}, declared.power.Power.Power}
use Rattle.bench_report.proofs.live.LiveBench.settle.Goals as goal

pub returns-clause-settled : goal.returns-clause-settled
returns-clause-settled c = λ size b here.
    let agrees = c.end.ensures.after size b here in
    let P : Power → Type 0 = λ p. Agrees size b p in (
      c.strike.ensures.told size b agrees,
      λ none. subst P (sym (c.strike.ensures.kept none)) agrees,
      λ hit. c.strike.ensures.lost hit size b agrees,
      λ hit. (
          let cut = c.strike.ensures.exact hit in
          let F : Fill → Type 0 = λ f. IsCutBy f cut.0 c.strike.new.self.power in
          (c.end.new.self.power, cut.0, c.end.ensures.disk cut.0 cut.1, agrees, cut.1, subst F c.end.ensures.fill cut.2)
          ),
    )

pub returns-clause-sound : goal.returns-clause-sound
returns-clause-sound c = c.strike.ensures.sound

pub returns-clause-payloads : goal.returns-clause-payloads
returns-clause-payloads c = c.strike.ensures.payloads ∙ c.end.ensures.payloads

pub returns-clause-fill : goal.returns-clause-fill
returns-clause-fill c = c.strike.ensures.fill ∙ c.end.ensures.fill

pub returns-clause-memory : goal.returns-clause-memory
returns-clause-memory c = c.strike.ensures.memory ∙ c.end.ensures.memory
