use Rattle.std.proofs.Common.{◌<◌, ℕ, ◌∙◌, subst, refl, true≢false, arith, inr, inl}
use Rattle.debug_session.proofs.{Passed.within_less, Nexts.all_made}
use Rattle.debug_session.proofs.to_points.turns_to.Goals as goal

pub returns-in-Rests-clause-range : goal.returns-in-Rests-clause-range
returns-in-Rests-clause-range g c =
    let P : ℕ → Type 0 = λ n. n < c.args.most in
    c.one_more-longer.ensures.within c.args.most (subst P c.loop-made.invariant.made c.loop-made-test.true) c.loop-made.invariant.within

pub returns-in-Halts-clause-range : goal.returns-in-Halts-clause-range
returns-in-Halts-clause-range g c =
    let P : ℕ → Type 0 = λ n. n < c.args.most in
    c.one_more-longer.ensures.within c.args.most (subst P c.loop-made.invariant.made c.loop-made-test.true) c.loop-made.invariant.within

pub one_more-longer-requires-clause-some : goal.one_more-longer-requires-clause-some
one_more-longer-requires-clause-some g c = λ ks lives. within_less c.args.most 1000000 c.loop-made.row c.requires.most c.loop-made.invariant.within

pub returns-in-Rests-clause-reported : goal.returns-in-Rests-clause-reported
returns-in-Rests-clause-reported g c = λ size b shows.
    let was = c.loop-made.invariant.reported size b shows in
    let did = c.one_more-longer.ensures.reported size b was.0 was.1 was.2 was.3 was.4 in
    (did.0, did.1, did.2, did.3 c.in-Rests.is, did.4)

pub returns-in-Halts-clause-reported : goal.returns-in-Halts-clause-reported
returns-in-Halts-clause-reported g c = λ size b shows.
    let was = c.loop-made.invariant.reported size b shows in
    let did = c.one_more-longer.ensures.reported size b was.0 was.1 was.2 was.3 was.4 in
    (did.0, did.1, did.2, tt, did.4)

pub loop-made-preserved : goal.loop-made-preserved
loop-made-preserved g c =
    let one = c.one_more-longer.ensures in
    let was = c.loop-made.invariant in
    let goes = one.goes c.in-Goes.is in
    let P : ℕ → Type 0 = λ n. n < c.args.most in
    record {
      reported = λ size b shows. (let had = was.reported size b shows in let did = one.reported size b had.0 had.1 had.2 had.3 had.4 in (did.0, did.1, did.2, did.4, λ e. did.5 c.in-Goes.is));
      goes = goes.0;
      busy = one.busy;
      made = c.made-made.ensures;
      within = one.within c.args.most (subst P was.made c.loop-made-test.true) was.within;
      sound = one.sound;
      fill = one.fill ∙ was.fill;
    }

pub loop-made-init : goal.loop-made-init
loop-made-init g c = record { reported = λ size b shows. (b, refl, shows, (b, refl, refl), λ e. absurd (true≢false e)); goes = tt; busy = refl; made = refl; within = tt; sound = c.requires.sound; fill = refl }

pub one_more-longer-requires-clause-goes : goal.one_more-longer-requires-clause-goes
one_more-longer-requires-clause-goes g c κs within = c.loop-made.invariant.goes

pub one_more-longer-requires-clause-busy : goal.one_more-longer-requires-clause-busy
one_more-longer-requires-clause-busy g c κs within = c.loop-made.invariant.busy

pub one_more-longer-requires-clause-sound : goal.one_more-longer-requires-clause-sound
one_more-longer-requires-clause-sound g c κs within = c.loop-made.invariant.sound

pub one_more-longer-requires-clause-few : goal.one_more-longer-requires-clause-few
one_more-longer-requires-clause-few g c κs within = omega (arith, c.loop-made.invariant.made, c.loop-made-test.true, c.requires.most)

pub returns-in-Rests-clause-busy : goal.returns-in-Rests-clause-busy
returns-in-Rests-clause-busy g c = c.one_more-longer.ensures.busy

pub returns-in-Rests-clause-sound : goal.returns-in-Rests-clause-sound
returns-in-Rests-clause-sound g c = c.one_more-longer.ensures.sound

pub returns-in-Rests-clause-fill : goal.returns-in-Rests-clause-fill
returns-in-Rests-clause-fill g c = c.one_more-longer.ensures.fill ∙ c.loop-made.invariant.fill

pub returns-in-Halts-clause-busy : goal.returns-in-Halts-clause-busy
returns-in-Halts-clause-busy g c = c.one_more-longer.ensures.busy

pub returns-in-Halts-clause-sound : goal.returns-in-Halts-clause-sound
returns-in-Halts-clause-sound g c = c.one_more-longer.ensures.sound

pub returns-in-Halts-clause-fill : goal.returns-in-Halts-clause-fill
returns-in-Halts-clause-fill g c = c.one_more-longer.ensures.fill ∙ c.loop-made.invariant.fill

pub returns-in-Rests-clause-why : goal.returns-in-Rests-clause-why
returns-in-Rests-clause-why g c = λ e. absurd (true≢false e)

pub returns-in-Halts-clause-why : goal.returns-in-Halts-clause-why
returns-in-Halts-clause-why g c = λ e size b shows. (let was = c.loop-made.invariant.reported size b shows in inr (c.one_more-longer.ensures.halts c.in-Halts.is size was.0 was.2))

pub returns-clause-reported : goal.returns-clause-reported
returns-clause-reported g c = λ size b shows. (let was = c.loop-made.invariant.reported size b shows in (was.0, was.1, was.2, tt, was.3))

pub returns-clause-range : goal.returns-clause-range
returns-clause-range g c = c.loop-made.invariant.within

pub returns-clause-busy : goal.returns-clause-busy
returns-clause-busy g c = c.loop-made.invariant.busy

pub returns-clause-sound : goal.returns-clause-sound
returns-clause-sound g c = c.loop-made.invariant.sound

pub returns-clause-fill : goal.returns-clause-fill
returns-clause-fill g c = c.loop-made.invariant.fill

pub returns-clause-why : goal.returns-clause-why
returns-clause-why g c = λ e size b shows. inl (all_made c.args.most c.loop-made.made c.loop-made.row c.loop-made.invariant.made c.loop-made-test.false c.loop-made.invariant.within)
