use Rattle.std.proofs.Common.{◌≡◌, ◌∙◌, ap, subst}
use Rattle.planned_store.specs.{Saves.SaveGoes, declared.saves.Saving.Saving}
use Rattle.sbistore.proofs.{Packed.some_is, Saves.{asked_save, sound_on}}
use Rattle.sbistore.proofs.images.next_of_save.Goals as goal

pub returns : goal.returns
returns c life plan packed =
    let next = c.save_gone_on-plan.result in
    let gone = c.save_gone_on-plan.ensures in
    let same : c.in-Some.plan ≡ plan = some_is _ _ (c.in-Some.ensures.exact life plan packed) in
    let from = gone.same.0 ∙ ap (λ (s : Saving). s.from) same ∙ packed.from in
    let sound = sound_on c.in-Some.plan next c.in-Some.ensures.sound.1 gone.same.0 gone.same.1 in
    let both = asked_save life next c.args.store.now c.ask_save.new.store c.ask_save.result c.ask_save.new.sector packed.keeps packed.ends from gone.page sound c.ask_save.ensures.asks in
    record {
      next = next;
      first = λ none. gone.first none ∙ same;
      told = λ some. let t = gone.told some in (t.0, t.1, subst (λ (s : Saving). SaveGoes s t.0 next) same t.2);
      bytes = c.ask_save.ensures.bytes;
      asks = both.0;
      keeps = both.1;
    }
