use Rattle.std.proofs.{Common.{◌≡◌, ◌∙◌, ℕ, Option, true, ap, sym, subst}, Math.Logic.∥∥₁_map}
use Rattle.std.specs.Prelude.{is_some}
use Rattle.hart.specs.State.{ArchState}
use Rattle.sbi_calls.specs.Both.{known}
use Rattle.board_model.specs.declared.durable.Entry.{Entry}
use Rattle.hart_threads.specs.{Begun.BeginsAs, Ends.HasGone, Seated.AreOfHart, Threads.{has_ended, seated}}
use Rattle.hart_threads.specs.declared.{bus_turns.BusTurn.BusTurn, loops.Why.Why}
use Rattle.hart_threads.proofs.Looping.{has_gone}
use Rattle.tallies.specs.declared.book_views.PartView.{PartView}
use Rattle.hart_threads.proofs.drives.loop_of.Goals as goal

pub at_rest-requires-clause-gone : goal.at_rest-requires-clause-gone
at_rest-requires-clause-gone g c =
    let w = c.args.work in
    let a = w.acting in
    let m = g.J.Threaded.machine in
    let gate = w.gate.now in
    let loop = c.hart_loop-ended in
    subst (λ (o : Option (ℕ × Entry)). ∥ HasGone m g.J.Threaded.turns loop.result.made (seated loop.result.hart (known loop.result.local.seats) loop.result.local.doze loop.result.local.run) loop.result.why o ∥₁) (sym c.end_by-set.ensures.same)
    (∥∥₁_map w.begins (λ begins. has_gone m _ (g.G.Gate.answers gate a.hart.id) (g.G.Gate.hears gate a.hart.id) g.J.Threaded.turns w.turns loop.result.made a.hart.id _ _ _ _ (w.named ∙ sym c.of_loop.ensures.shape) w.given loop.ensures.id
    (subst (λ (d : PartView BusTurn). BeginsAs m a.hart.id (seated a.hart (known a.seats) a.doze d)) (sym w.numbered) begins) loop.ensures.once))

pub hart_loop-ended-requires-clause-run : goal.hart_loop-ended-requires-clause-run
hart_loop-ended-requires-clause-run g c κs within = ap (λ (d : PartView BusTurn). d.who) c.args.work.numbered

pub at_rest-requires-clause-alone : goal.at_rest-requires-clause-alone
at_rest-requires-clause-alone g c =
    let w = c.args.work in
    let loop = c.hart_loop-ended in
    subst (λ (k : ℕ). AreOfHart k loop.result.local.seats) (sym loop.ensures.id)
    (loop.ensures.gives.others.harts ∙ w.alone.0, loop.ensures.gives.pairs.harts ∙ w.alone.1)

pub returns : goal.returns
returns g c = ap (λ (s : ArchState). s.id) c.at_rest.ensures.hart ∙ c.hart_loop-ended.ensures.id

pub at_rest-requires-clause-halted : goal.at_rest-requires-clause-halted
at_rest-requires-clause-halted g c = λ is.
    let e = c.hart_loop-ended.result in
    c.end_by-set.ensures.set (subst (λ (w : Why). has_ended g.J.Threaded.turns g.J.Threaded.gated e.made (is_some e.shut) e.told w ≡ true) is e.ended)
