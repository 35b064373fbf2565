use Rattle.std.{proofs.Common.{[], ◌∷◌, ◌++◌, ◌∙◌, ℕ, List, Option, of_calls, ap, refl, sym, subst}, specs.Io.KnownBytes.Consumes}
use Rattle.std.{specs.Io.Iter.bytes_remaining, proofs.{KnownBytes.{Consumes-nil, Consumes-trans}, lemmas.Fn.FoldsTo-push}}
use Rattle.sbigdb.{specs.Hearings.newly, proofs.Hearings.hears_more}
use Rattle.sbigdb.proofs.listening.listen.Goals as goal

pub loop-byte-init : goal.loop-byte-init
loop-byte-init g c =
    let bytes = bytes_remaining g.I.Read.remaining in
    let left = sym (ap bytes c.into_iter-byte-iterator.ensures.into_iter_gives ∙ c.bytes-byte-items.ensures) in
    let P : Option (List ℕ) → Type 0 = λ x. Consumes (g.I.Read.remaining c.args.input) x [] in
    record { callable = c.requires; heard = ([], [], refl, subst P left (Consumes-nil _), sym c.new-decoder.ensures) }

pub loop-byte-preserved : goal.loop-byte-preserved
loop-byte-preserved g c =
    let was = c.loop-byte.invariant.heard in
    let what = c.in-Ok-take.what in
    let told = c.in-Ok-take.ensures in
    record {
      callable = search of_calls;
      heard = (
        was.0 ++ what ∷ [],
        was.1 ++ c.in-Ok.byte ∷ [],
        FoldsTo-push _ _ was.0 _ what _ was.2 (rw c.if-not-give.false at c.give.ensures),
        Consumes-trans _ _ _ was.1 (c.in-Ok.byte ∷ []) was.3 (rw c.in-Ok.is at c.in-Some.ensures.steps),
        hears_more newly _ _ was.1 was.0 c.in-Ok.byte what was.4 told.told told.standing,
      );
    }

pub returns-then-not-give : goal.returns-then-not-give
returns-then-not-give g c =
    let was = c.loop-byte.invariant.heard in
    let what = c.in-Ok-take.what in
    let told = c.in-Ok-take.ensures in
    record {
      heard = was.0 ++ what ∷ [];
      last = c.give.new.self;
      handed = (was.0, what, _, refl, was.2, (rw c.if-not-give.true at c.give.ensures));
      bytes = was.1 ++ c.in-Ok.byte ∷ [];
      left = bytes_remaining g.I.Read.remaining c.next.new.self;
      taken = Consumes-trans _ _ _ was.1 (c.in-Ok.byte ∷ []) was.3 (rw c.in-Ok.is at c.in-Some.ensures.steps);
      standing = c.take.new.self;
      told = hears_more newly _ _ was.1 was.0 c.in-Ok.byte what was.4 told.told told.standing;
      ended = λ same. let never : ⊥ = cc in absurd never;
    }
