use Rattle.std.{proofs.Common.{◌≡◌, ◌+◌, ◌<◌, ℕ, Option, refl, sym, subst, arith}, specs.Prelude.{IfSome, replicate}}
use Rattle.std.proofs.lemmas.Result.{IfOk-from_err}
use Rattle.bench_report.specs.{Bench.Bench, Lives.Shows}
use Rattle.debug_session.{specs.{declared.halts.Stop.Stop, Backs.FoundIn, Firsts.one_turn}, proofs.Backs.{found_turn, later_within}}
use Rattle.debug_session.proofs.back.last_halt_in.Goals as goal

pub loop-k-init : goal.loop-k-init
loop-k-init g c = record { within = tt; found = λ size b shows. (b, refl, shows); sound = c.requires.sound }

pub loop-k-preserved : goal.loop-k-preserved
loop-k-preserved g c =
    let was = c.loop-k.invariant in
    let h = c.args.hart in
    let k = c.loop-k.k in
    let halt = c.in_ok-halt.halt in
    let seen = c.in_ok-halt.ensures in
    let same = sym c.later_turn-found.ensures in
    let P : Option (ℕ × Stop) → Type 0 = λ found. IfSome found (λ f. (f.1.hart ≡ h) × (f.0 < c.args.turns)) in
    record {
      within = subst P same (later_within c.loop-k.found k h c.args.turns halt c.loop-k-test.true was.within);
      found =
          λ size b shows. (let had = was.found size b shows in
          let did = seen.seen size had.0 had.2 in
          let Q : Option (ℕ × Stop) → Type 0 = λ found. FoundIn size c.args.stops.now found (replicate (k + 1) (one_turn h)) b did.0 in
          (did.0, subst Q same (found_turn size c.args.stops.now c.loop-k.found h k halt b had.0 did.0 had.1 did.1), did.2));
      sound = seen.sound;
    }

pub seen_back-requires-clause-sound : goal.seen_back-requires-clause-sound
seen_back-requires-clause-sound g c κs within = c.loop-k.invariant.sound

pub returns-clause-sound : goal.returns-clause-sound
returns-clause-sound g c = c.loop-k.invariant.sound

pub returns-clause-within : goal.returns-clause-within
returns-clause-within g c = c.loop-k.invariant.within

pub returns-clause-found : goal.returns-clause-found
returns-clause-found g c = λ size b shows.
    let P : ℕ → Type 0 = λ n. (new : Bench) × FoundIn size c.args.stops.now c.loop-k.found (replicate n (one_turn c.args.hart)) b new × Shows size new c.loop-k.bench in
    let all : c.loop-k.k ≡ c.args.turns = omega arith in
    subst P all (c.loop-k.invariant.found size b shows)

pub returns-in_err-halt-clause-within : goal.returns-in_err-halt-clause-within
returns-in_err-halt-clause-within g c = IfOk-from_err c.from_residual.result _ c.from_residual.ensures.0

pub returns-in_err-halt-clause-found : goal.returns-in_err-halt-clause-found
returns-in_err-halt-clause-found g c = IfOk-from_err c.from_residual.result _ c.from_residual.ensures.0

pub returns-in_err-halt-clause-sound : goal.returns-in_err-halt-clause-sound
returns-in_err-halt-clause-sound g c = IfOk-from_err c.from_residual.result _ c.from_residual.ensures.0
