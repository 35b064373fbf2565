use Rattle.std.{proofs.Common.{◌≡◌, ℕ, ◌+◌, true, false, arith, ap, refl, sym, ◌∙◌, subst}, specs.Prelude.None}
use Rattle.hart.specs.State.{ArchState}
use Rattle.sbi_calls.specs.Both.{GivesBack, known}
use Rattle.hart_threads.{specs.{Bused.part_of_hart, Noted.part_after, Seated.{IsSeated, StandsAfterTurn, StandsAfter}}, proofs.Told.equals}
use Rattle.hart_threads.{specs.Threads.{seated, TurnsOn}, proofs.Whose.turn_whose}
use Rattle.hart_threads.proofs.Looping.{gives_none, rests_on, stands_over, one_more, ended_life, kept_part}
use Rattle.hart_threads.proofs.Ending.{few_asked, as_often, once_more, asked_before, as_it_was, as_both_were, seated_as, said_so, turn_told, none_noted, one_noted}
use Rattle.turns.proofs.Begun.{gives_then}
use Rattle.hart_threads.specs.declared.loops.Why.TheVariants as whys
use Rattle.hart_threads.proofs.loops.hart_loop.Goals as goal

pub loop-made-init : goal.loop-made-init
loop-made-init g c = record {
  gives = gives_none c.args.board.tables.now c.args.hart.id c.args.local.seats c.requires.seated.0;
  rests = c.requires.seated.2;
  id = refl;
  part = refl;
  turns = refl;
  asked = c.none.ensures;
  whose = c.requires.run;
  free = c.requires.free;
}

pub loop-made-preserved : goal.loop-made-preserved
loop-made-preserved g c =
    let i = c.loop-made.invariant in let by = c.args.hart.id in let t = c.whole_turn-end in
    let r = c.loop-made.run in let b = t.result.0.local in
    let on = sym c.goes_on.ensures ∙ c.if-not-goes_on.false in
    let gate = c.args.gate.now in
    let said = subst (λ (k : ℕ). g.G.Gate.answers gate k c.loop-made.made true) (c.id.ensures ∙ i.id) c.in-Some.ensures.asked in
    let is : t.result.1 ≡ (by, c.loop-made.made) = t.ensures.made ∙ (c.in-Some.ensures.turn ∙ ap (λ (k : ℕ). let p : ℕ × ℕ = (k, c.loop-made.made) in p) (c.id.ensures ∙ i.id)) in
    let heard = subst (λ (p : ℕ × ℕ). g.G.Gate.hears gate p.0 p.1) is c.tell-locks.ensures.told in
    record {
      gives = gives_then c.args.board.tables.now by c.args.local.seats r.local.seats b.seats i.gives (subst (λ (k : ℕ). GivesBack c.args.board.tables.now k r.local.seats b.seats) i.id t.ensures.gives);
      rests = rests_on by b.seats t.result.0.word b.doze on (subst (λ (k : ℕ). StandsAfterTurn t.result.0.word b.doze k b.seats) i.id t.ensures.stands);
      id = t.ensures.id ∙ i.id;
      part = kept_part c.args.board.shape.now (seated r.hart (known r.local.seats) r.local.doze r.local.run) (seated t.new.hart (known b.seats) b.doze b.run) t.result.0.word t.result.0.told c.args.local.part r.local.part b.part t.ensures.once on i.part t.ensures.noted;
      turns = one_more c.args.board.shape.now (g.G.Gate.answers gate by) (g.G.Gate.hears gate by) c.loop-made.made (seated c.args.hart (known c.args.local.seats) c.args.local.doze c.args.local.run) (seated r.hart (known r.local.seats) r.local.doze r.local.run) (seated t.new.hart (known b.seats) b.doze b.run) t.result.0.word t.result.0.told i.turns t.ensures.once on said heard;
      asked = c.in-Ok.ensures ∙ ap (λ (n : ℕ). n + 1) i.asked;
      free = c.tell-locks.ensures.free;
      whose = turn_whose c.args.board.shape.now (seated r.hart (known r.local.seats) r.local.doze r.local.run) (seated t.new.hart (known b.seats) b.doze b.run) t.result.0.word t.result.0.told t.ensures.once ∙ i.whose;
    }

pub whole_turn-end-requires-clause-seated : goal.whole_turn-end-requires-clause-seated
whole_turn-end-requires-clause-seated g c κs within =
    let i = c.loop-made.invariant in let r = c.loop-made.run in
    subst (λ (k : ℕ). IsSeated c.args.board.tables.now k r.local.seats r.local.doze) (sym i.id) (i.gives.seats, c.requires.seated.1, i.rests)

pub look-requires-clause-free : goal.look-requires-clause-free
look-requires-clause-free g c κs within = c.loop-made.invariant.free

pub whole_turn-end-requires-clause-tables : goal.whole_turn-end-requires-clause-tables
whole_turn-end-requires-clause-tables g c κs within = c.requires.tables

pub whole_turn-end-requires-clause-run : goal.whole_turn-end-requires-clause-run
whole_turn-end-requires-clause-run g c κs within = c.loop-made.invariant.whose ∙ ap part_of_hart (sym c.loop-made.invariant.id)

pub whole_turn-end-requires-clause-board : goal.whole_turn-end-requires-clause-board
whole_turn-end-requires-clause-board g c κs within = c.requires.board

pub whole_turn-end-requires-clause-allowed : goal.whole_turn-end-requires-clause-allowed
whole_turn-end-requires-clause-allowed g c κs within = ap (λ (p : ℕ × ℕ). p.0) c.in-Some.ensures.turn ∙ c.id.ensures

-- ---- something ended all loops
pub end-requires-clause-noted : goal.end-requires-clause-noted
end-requires-clause-noted g c = none_noted c.args.local.part c.loop-made.run.local.part c.loop-made.invariant.part c.requires.fresh

pub end-requires-clause-ended : goal.end-requires-clause-ended
end-requires-clause-ended g c = refl

pub end-requires-clause-ends : goal.end-requires-clause-ends
end-requires-clause-ends g c = refl

pub end-requires-clause-looked : goal.end-requires-clause-looked
end-requires-clause-looked g c = as_often c.loop-made.made _ (c.in-Err.ensures ∙ c.loop-made.invariant.asked)

pub returns-in-Err-clause-gives : goal.returns-in-Err-clause-gives
returns-in-Err-clause-gives g c = as_it_was c.end.ensures.hart.1 (λ l. GivesBack c.args.board.tables.now c.args.hart.id c.args.local.seats l.seats) c.loop-made.invariant.gives

pub returns-in-Err-clause-stands : goal.returns-in-Err-clause-stands
returns-in-Err-clause-stands g c = as_both_were c.end.ensures.hart.1 c.end.ensures.end.1 (λ l w. StandsAfter w l.doze c.args.hart.id l.seats) c.loop-made.invariant.rests

pub returns-in-Err-clause-id : goal.returns-in-Err-clause-id
returns-in-Err-clause-id g c = ap (λ (s : ArchState). s.id) c.end.ensures.hart.0 ∙ c.loop-made.invariant.id

pub returns-in-Err-clause-noted : goal.returns-in-Err-clause-noted
returns-in-Err-clause-noted g c = as_both_were c.end.ensures.hart.1 c.end.ensures.end.2 (λ l told. l.part ≡ part_after told c.args.local.part) c.loop-made.invariant.part

pub returns-in-Err-clause-once : goal.returns-in-Err-clause-once
returns-in-Err-clause-once g c =
    let e = c.end.ensures in let gate = c.args.gate.now in let by = c.args.hart.id in let l = c.loop-made.run.local in
    let begun = seated c.args.hart (known c.args.local.seats) c.args.local.doze c.args.local.run in
    let now = seated c.loop-made.run.hart (known l.seats) l.doze l.run in
    said_so c.args.board.shape.now (g.G.Gate.answers gate by) (g.G.Gate.hears gate by) c.args.turns c.loop-made.made _ begun now _ whys.Closed _ None _
    (seated_as e.hart.0 e.hart.1 (λ s x. seated s (known x.seats) x.doze x.run)) e.end.0 e.end.1 e.end.2
    (c.loop-made.invariant.turns, c.loop-made-test.true, refl)

-- ---- the gate did
pub end-requires-in_default-clause-noted : goal.end-requires-in_default-clause-noted
end-requires-in_default-clause-noted g c = none_noted c.args.local.part c.loop-made.run.local.part c.loop-made.invariant.part c.requires.fresh

pub end-requires-in_default-clause-ended : goal.end-requires-in_default-clause-ended
end-requires-in_default-clause-ended g c = c.requires.gated _ _ c.in_default.ensures.asked

pub end-requires-in_default-clause-ends : goal.end-requires-in_default-clause-ends
end-requires-in_default-clause-ends g c = refl

pub end-requires-in_default-clause-looked : goal.end-requires-in_default-clause-looked
end-requires-in_default-clause-looked g c = asked_before c.loop-made.made _ _ c.in-Ok.ensures c.loop-made.invariant.asked

pub returns-in_default-clause-gives : goal.returns-in_default-clause-gives
returns-in_default-clause-gives g c = as_it_was c.end-in_default.ensures.hart.1 (λ l. GivesBack c.args.board.tables.now c.args.hart.id c.args.local.seats l.seats) c.loop-made.invariant.gives

pub returns-in_default-clause-stands : goal.returns-in_default-clause-stands
returns-in_default-clause-stands g c = as_both_were c.end-in_default.ensures.hart.1 c.end-in_default.ensures.end.1 (λ l w. StandsAfter w l.doze c.args.hart.id l.seats) c.loop-made.invariant.rests

pub returns-in_default-clause-id : goal.returns-in_default-clause-id
returns-in_default-clause-id g c = ap (λ (s : ArchState). s.id) c.end-in_default.ensures.hart.0 ∙ c.loop-made.invariant.id

pub returns-in_default-clause-noted : goal.returns-in_default-clause-noted
returns-in_default-clause-noted g c = as_both_were c.end-in_default.ensures.hart.1 c.end-in_default.ensures.end.2 (λ l told. l.part ≡ part_after told c.args.local.part) c.loop-made.invariant.part

pub returns-in_default-clause-once : goal.returns-in_default-clause-once
returns-in_default-clause-once g c =
    let e = c.end-in_default.ensures in let gate = c.args.gate.now in let by = c.args.hart.id in let l = c.loop-made.run.local in
    let begun = seated c.args.hart (known c.args.local.seats) c.args.local.doze c.args.local.run in
    let now = seated c.loop-made.run.hart (known l.seats) l.doze l.run in
    said_so c.args.board.shape.now (g.G.Gate.answers gate by) (g.G.Gate.hears gate by) c.args.turns c.loop-made.made _ begun now _ whys.Gate _ None _
    (seated_as e.hart.0 e.hart.1 (λ s x. seated s (known x.seats) x.doze x.run)) e.end.0 e.end.1 e.end.2
    (c.loop-made.invariant.turns, c.loop-made-test.true, refl, subst (λ (k : ℕ). g.G.Gate.answers gate k c.loop-made.made false) (c.id.ensures ∙ c.loop-made.invariant.id) c.in_default.ensures.asked)

-- ---- its last turn ended the life
pub end-requires-then-not-goes_on-clause-noted : goal.end-requires-then-not-goes_on-clause-noted
end-requires-then-not-goes_on-clause-noted g c = let t = c.whole_turn-end in one_noted t.result.0.told c.args.local.part c.loop-made.run.local.part t.result.0.local.part t.ensures.noted c.loop-made.invariant.part c.requires.fresh

pub end-requires-then-not-goes_on-clause-ended : goal.end-requires-then-not-goes_on-clause-ended
end-requires-then-not-goes_on-clause-ended g c =
    let t = c.whole_turn-end in let r = c.loop-made.run in let b = t.result.0.local in
    (turn_told c.args.board.shape.now (seated r.hart (known r.local.seats) r.local.doze r.local.run) (seated t.new.hart (known b.seats) b.doze b.run) t.result.0.word t.result.0.told t.ensures.once (sym c.goes_on.ensures ∙ c.if-not-goes_on.true)).0

pub end-requires-then-not-goes_on-clause-ends : goal.end-requires-then-not-goes_on-clause-ends
end-requires-then-not-goes_on-clause-ends g c =
    let t = c.whole_turn-end in let r = c.loop-made.run in let b = t.result.0.local in
    (turn_told c.args.board.shape.now (seated r.hart (known r.local.seats) r.local.doze r.local.run) (seated t.new.hart (known b.seats) b.doze b.run) t.result.0.word t.result.0.told t.ensures.once (sym c.goes_on.ensures ∙ c.if-not-goes_on.true)).1

pub end-requires-then-not-goes_on-clause-looked : goal.end-requires-then-not-goes_on-clause-looked
end-requires-then-not-goes_on-clause-looked g c = once_more c.loop-made.made _ _ c.in-Ok.ensures c.loop-made.invariant.asked

pub returns-then-not-goes_on-clause-gives : goal.returns-then-not-goes_on-clause-gives
returns-then-not-goes_on-clause-gives g c =
    let i = c.loop-made.invariant in let by = c.args.hart.id in let t = c.whole_turn-end in let r = c.loop-made.run in let b = t.result.0.local in
    as_it_was c.end-then-not-goes_on.ensures.hart.1 (λ l. GivesBack c.args.board.tables.now by c.args.local.seats l.seats)
    (gives_then c.args.board.tables.now by c.args.local.seats r.local.seats b.seats i.gives (subst (λ (k : ℕ). GivesBack c.args.board.tables.now k r.local.seats b.seats) i.id t.ensures.gives))

pub returns-then-not-goes_on-clause-stands : goal.returns-then-not-goes_on-clause-stands
returns-then-not-goes_on-clause-stands g c =
    let i = c.loop-made.invariant in let t = c.whole_turn-end in let b = t.result.0.local in
    let off = sym c.goes_on.ensures ∙ c.if-not-goes_on.true in
    as_both_were c.end-then-not-goes_on.ensures.hart.1 c.end-then-not-goes_on.ensures.end.1 (λ l w. StandsAfter w l.doze c.args.hart.id l.seats)
    (subst (λ (k : ℕ). StandsAfter whys.Life b.doze k b.seats) i.id (stands_over c.loop-made.run.hart.id b.seats t.result.0.word b.doze off t.ensures.stands))

pub returns-then-not-goes_on-clause-id : goal.returns-then-not-goes_on-clause-id
returns-then-not-goes_on-clause-id g c = ap (λ (s : ArchState). s.id) c.end-then-not-goes_on.ensures.hart.0 ∙ (c.whole_turn-end.ensures.id ∙ c.loop-made.invariant.id)

pub returns-then-not-goes_on-clause-noted : goal.returns-then-not-goes_on-clause-noted
returns-then-not-goes_on-clause-noted g c =
    let t = c.whole_turn-end in
    as_both_were c.end-then-not-goes_on.ensures.hart.1 c.end-then-not-goes_on.ensures.end.2 (λ l told. l.part ≡ part_after told c.args.local.part) (t.ensures.noted ∙ ap (λ p. part_after t.result.0.told p) c.loop-made.invariant.part)

pub returns-then-not-goes_on-clause-once : goal.returns-then-not-goes_on-clause-once
returns-then-not-goes_on-clause-once g c =
    let e = c.end-then-not-goes_on.ensures in let gate = c.args.gate.now in let by = c.args.hart.id in let l = c.whole_turn-end.result.0.local in
    let begun = seated c.args.hart (known c.args.local.seats) c.args.local.doze c.args.local.run in
    let now = seated c.whole_turn-end.new.hart (known l.seats) l.doze l.run in
    let i = c.loop-made.invariant in let t = c.whole_turn-end in let r = c.loop-made.run in
    let off = sym c.goes_on.ensures ∙ c.if-not-goes_on.true in
    let said = subst (λ (k : ℕ). g.G.Gate.answers gate k c.loop-made.made true) (c.id.ensures ∙ i.id) c.in-Some.ensures.asked in
    let is : t.result.1 ≡ (by, c.loop-made.made) = t.ensures.made ∙ (c.in-Some.ensures.turn ∙ ap (λ (k : ℕ). let p : ℕ × ℕ = (k, c.loop-made.made) in p) (c.id.ensures ∙ i.id)) in
    let heard = subst (λ (p : ℕ × ℕ). g.G.Gate.hears gate p.0 p.1) is c.tell-locks.ensures.told in
    said_so c.args.board.shape.now (g.G.Gate.answers gate by) (g.G.Gate.hears gate by) c.args.turns (c.loop-made.made + 1) _ begun now _ whys.Life _ c.whole_turn-end.result.0.told _
    (seated_as e.hart.0 e.hart.1 (λ s x. seated s (known x.seats) x.doze x.run)) e.end.0 e.end.1 e.end.2
    (ended_life c.args.board.shape.now (g.G.Gate.answers gate by) (g.G.Gate.hears gate by) c.args.turns c.loop-made.made begun (seated r.hart (known r.local.seats) r.local.doze r.local.run) now t.result.0.word t.result.0.told i.turns t.ensures.once off said heard)

-- ---- it made all its turns
pub end-requires-2-clause-noted : goal.end-requires-2-clause-noted
end-requires-2-clause-noted g c = none_noted c.args.local.part c.loop-made.run.local.part c.loop-made.invariant.part c.requires.fresh

pub end-requires-2-clause-ended : goal.end-requires-2-clause-ended
end-requires-2-clause-ended g c = equals c.args.turns g.J.Threaded.turns c.requires.turns

pub end-requires-2-clause-ends : goal.end-requires-2-clause-ends
end-requires-2-clause-ends g c = refl

pub end-requires-2-clause-looked : goal.end-requires-2-clause-looked
end-requires-2-clause-looked g c = let all : c.loop-made.made ≡ c.args.turns = omega arith in as_often c.args.turns _ (c.loop-made.invariant.asked ∙ all)

pub returns-clause-gives : goal.returns-clause-gives
returns-clause-gives g c = as_it_was c.end-2.ensures.hart.1 (λ l. GivesBack c.args.board.tables.now c.args.hart.id c.args.local.seats l.seats) c.loop-made.invariant.gives

pub returns-clause-stands : goal.returns-clause-stands
returns-clause-stands g c = as_both_were c.end-2.ensures.hart.1 c.end-2.ensures.end.1 (λ l w. StandsAfter w l.doze c.args.hart.id l.seats) c.loop-made.invariant.rests

pub returns-clause-id : goal.returns-clause-id
returns-clause-id g c = ap (λ (s : ArchState). s.id) c.end-2.ensures.hart.0 ∙ c.loop-made.invariant.id

pub returns-clause-noted : goal.returns-clause-noted
returns-clause-noted g c = as_both_were c.end-2.ensures.hart.1 c.end-2.ensures.end.2 (λ l told. l.part ≡ part_after told c.args.local.part) c.loop-made.invariant.part

pub returns-clause-once : goal.returns-clause-once
returns-clause-once g c =
    let e = c.end-2.ensures in let gate = c.args.gate.now in let by = c.args.hart.id in let l = c.loop-made.run.local in
    let begun = seated c.args.hart (known c.args.local.seats) c.args.local.doze c.args.local.run in
    let now = seated c.loop-made.run.hart (known l.seats) l.doze l.run in
    let all : c.loop-made.made ≡ c.args.turns = omega arith in
    said_so c.args.board.shape.now (g.G.Gate.answers gate by) (g.G.Gate.hears gate by) c.args.turns c.args.turns _ begun now _ whys.Turns _ None _
    (seated_as e.hart.0 e.hart.1 (λ s x. seated s (known x.seats) x.doze x.run)) e.end.0 e.end.1 e.end.2
    (subst (λ (n : ℕ). TurnsOn c.args.board.shape.now (g.G.Gate.answers gate by) (g.G.Gate.hears gate by) n begun now) all c.loop-made.invariant.turns, refl, refl)

pub look-requires-clause-few : goal.look-requires-clause-few
look-requires-clause-few g c κs within = few_asked c.loop-made.run.asked c.loop-made.made c.args.turns c.loop-made.invariant.asked c.loop-made-test.true c.ranges.turns.fits
