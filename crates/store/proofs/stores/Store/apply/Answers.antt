use Rattle.std.proofs.{Common.{◌∙◌, Err, refl, ap, rules, sym}, lemmas.Result.{err_from_is_err_and, IfOk-from_err}}
use Rattle.store.{specs.{Lives.Applied, Views.view_of}, proofs.Answering.{refused_up, the_error, not_of_memory, by_disk, none_doubted}}
use Rattle.store.proofs.Found.{none_in_doubt}
use Rattle.store.proofs.stores.Store.apply.Goals as goal

pub returns-in_err-next-clause-asked : goal.returns-in_err-next-clause-asked
returns-in_err-next-clause-asked g c =
    let p = err_from_is_err_and c.from_residual.result c.from_residual.ensures.1 in
    let s = c.args.self.now in
    let e = c.in_err-next.ensures in
    record {
      answered = λ none.
          rw (p.1, p.2)
          (refused_up Applied (view_of s) s.side s.current _ _ (g.met.D.Disk.only_now _) (s.kept.up (none_in_doubt _ s.doubt none)) s.folded (e.refused none)
          (λ is. c.next_for.ensures.not_device (c.in_err-next.was ∙ ap Err is)) (e.up none));
      down = search rules;
      untouched = search rules;
      life = search rules;
      stays = search rules;
      remembered = rw (p.1, p.2) (λ is. absurd (c.next_for.ensures.not_memory (c.in_err-next.was ∙ ap Err (the_error _ _ is))));
      as_before = λ not. refl;
    }

pub returns-in_err-next-clause-calls : goal.returns-in_err-next-clause-calls
returns-in_err-next-clause-calls g c = IfOk-from_err c.from_residual.result _ c.from_residual.ensures.0

pub returns-in_err-next-clause-not_memory : goal.returns-in_err-next-clause-not_memory
returns-in_err-next-clause-not_memory g c =
    let p = err_from_is_err_and c.from_residual.result c.from_residual.ensures.1 in
    λ is. c.next_for.ensures.not_memory (c.in_err-next.was ∙ ap Err (sym p.2 ∙ the_error _ _ (sym p.1 ∙ is)))

pub issue-requires-clause-up : goal.issue-requires-clause-up
issue-requires-clause-up g c κs within = c.in_ok-next.ensures.ok.0

pub issue-requires-clause-reaches : goal.issue-requires-clause-reaches
issue-requires-clause-reaches g c κs within = c.in_ok-next.ensures.ok.1

pub issue-requires-clause-follows : goal.issue-requires-clause-follows
issue-requires-clause-follows g c κs within = c.in_ok-next.ensures.ok.2

pub returns-clause-asked : goal.returns-clause-asked
returns-clause-asked g c = record {
  answered = λ none. c.issue.ensures.answered;
  down = λ d is. absurd (none_doubted _ c.args.self.now.doubt d c.in_ok-next.ensures.ok.0 is);
  untouched = by_disk c.issue.result _ c.issue.ensures.few;
  life = c.issue.ensures.life;
  stays = c.issue.ensures.stays;
  remembered = λ is. absurd (not_of_memory c.issue.result c.issue.ensures.few is);
  as_before = λ not. c.issue.ensures.memory;
}

pub returns-clause-not_memory : goal.returns-clause-not_memory
returns-clause-not_memory g c = λ is. not_of_memory c.issue.result c.issue.ensures.few is

pub returns-clause-calls : goal.returns-clause-calls
returns-clause-calls g c = c.issue.ensures.calls
