use Rattle.std.proofs.Common.{◌≡◌, ◌∙◌, Some, sym, ap, subst}
use Rattle.layout.specs.declared.saved.Saved.{Saved}
use Rattle.planned_store.specs.{Loads.LoadGoes, declared.loads.Loading.Loading}
use Rattle.sbistore.proofs.{Loads.asked_load, Packed.some_is}
use Rattle.sbistore.proofs.images.next_of_load.Goals as goal

pub returns : goal.returns
returns c life plan packed =
    let next = c.load_gone_on-plan.result in
    let gone = c.load_gone_on-plan.ensures in
    let same : c.in-Some.plan ≡ plan = some_is _ _ (c.in-Some.ensures.exact life plan packed) in
    let shape = gone.same.0 ∙ ap (λ (p : Loading). p.shape) same ∙ packed.shape in
    let saved = packed.image ∙ sym (ap (λ (v : Saved). Some v) (gone.same.1 ∙ ap (λ (p : Loading). p.saved) same)) in
    let both = asked_load life next c.args.store.now c.ask_load.new.store c.ask_load.result packed.keeps shape saved gone.place c.ask_load.ensures in
    record {
      next = next;
      first = λ none. gone.first none ∙ same;
      told = λ some. let t = gone.told some in (t.0, t.1, subst (λ (p : Loading). LoadGoes p t.0 c.args.sector.now next) same t.2);
      asks = both.0;
      keeps = both.1;
    }
