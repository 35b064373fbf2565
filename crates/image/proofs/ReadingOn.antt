-- Reads of a disk, one after another.
use Rattle.std.proofs.Common.{◌≡◌, ◌∙◌, ◌≤◌, ◌+◌, ◌*◌, ℕ, Result, Ok, Err, OnOk, IfErr, refl, ap, subst, arith}
use Rattle.board_model.specs.declared.refusal.Refusal.{Refusal, TheVariants.{Device, BadImage}}
use Rattle.disk.specs.{Facts.{Facts, Lent, Stays, counted, most}, FaultState.{FaultState, Cause}, Calls.MakesCalls}
use Rattle.disk.specs.Moments.{passes_none, passes_stays}
use Rattle.image.{specs.Refusals.{ReadRefused, StopsWithin, ReadsOn, HasRead}, proofs.Calls.{calls_none, calls_more, stops_after}}

pub reads_none : (a : Facts) (m : FaultState) → a.lent.lanes ≡ 0 → a.calls ≤ most → HasRead 0 a m a m
reads_none a m idle few = record {
  content = refl;
  crash = passes_none a;
  unsynced = refl;
  none_out = idle;
  no_fewer = omega arith;
  no_failure = refl;
  unmoved = refl;
  refused = tt;
  calls = calls_none a.calls few;
  stops = tt;
}

-- a place was read, by two calls
pub reads_place : {T U E : Type 0} (v : T) (u : U) (a : Facts) (m : FaultState) (b : Facts) (n : FaultState) → a.lent.lanes ≡ 0
    → MakesCalls {T = T} {E = E} 2 Stays a b m n (Ok v) → b.moment ≡ a.moment → ReadsOn {T = U} 1 a m (Ok u) b n
reads_place v u a m b n idle made still = record {
  content = made.content;
  crash = made.crash;
  unsynced = still;
  none_out = ap (λ (l : Lent). l.lanes) made.lent ∙ idle;
  no_fewer = omega (arith, made.failures.ok);
  no_failure = made.failures.ok;
  unmoved = made.cause.ok;
  refused = tt;
  calls = made.calls.ok;
  stops = tt;
}

-- the disk failed at one of the two calls
pub reads_failed : {T U E : Type 0} (e : E) (a : Facts) (m : FaultState) (b : Facts) (n : FaultState) → a.failures ≤ most → a.lent.lanes ≡ 0
    → MakesCalls {T = T} {E = E} 2 Stays a b m n (Err e) → b.moment ≡ a.moment → ReadsOn {T = U} 1 a m (Err Device) b n
reads_failed e a m b n few idle made still = record {
  content = made.content;
  crash = made.crash;
  unsynced = still;
  none_out = ap (λ (l : Lent). l.lanes) made.lent ∙ idle;
  no_fewer = omega (arith, few, made.failures.err);
  no_failure = tt;
  unmoved = tt;
  refused = (omega (arith, made.failures.err), made.cause.err);
  calls = tt;
  stops = made.calls.err;
}

-- the header is not as it should be, and the page was not read
pub reads_spoilt : {T U E : Type 0} (v : T) (a : Facts) (m : FaultState) (b : Facts) (n : FaultState) → a.lent.lanes ≡ 0
    → MakesCalls {T = T} {E = E} 1 Stays a b m n (Ok v) → b.moment ≡ a.moment → ReadsOn {T = U} 1 a m (Err BadImage) b n
reads_spoilt v a m b n idle made still = record {
  content = made.content;
  crash = made.crash;
  unsynced = still;
  none_out = ap (λ (l : Lent). l.lanes) made.lent ∙ idle;
  no_fewer = omega (arith, made.failures.ok);
  no_failure = tt;
  unmoved = tt;
  refused = (made.failures.ok, made.cause.ok);
  calls = tt;
  stops = (0, omega arith, made.calls.ok);
}

still_refused : (old : Facts) (m : FaultState) (mid : Facts) (n : FaultState) (e : Refusal) (new : Facts) (o : FaultState) → mid.failures ≡ old.failures → n ≡ m → ReadRefused mid n e new o → ReadRefused old m e new o
still_refused old m mid n Device new o same calm why = (omega (arith, same, why.0), subst (λ (x : FaultState). Cause x o) calm why.1)
still_refused old m mid n BadImage new o same calm why = (why.0 ∙ same, why.1 ∙ calm)
still_refused old m mid n e new o same calm why = why

refused_still : {T : Type 0} (old : Facts) (m : FaultState) (mid : Facts) (n : FaultState) (r : Result T Refusal) (new : Facts) (o : FaultState) → mid.failures ≡ old.failures → n ≡ m
    → IfErr r (λ e. ReadRefused mid n e new o) → IfErr r (λ e. ReadRefused old m e new o)
refused_still old m mid n (Ok v) new o same calm why = tt
refused_still old m mid n (Err e) new o same calm why = still_refused old m mid n e new o same calm why

onward : {T A : Type 0} (r : Result T Refusal) (x y z : A) → y ≡ x → OnOk r (z ≡ y) → OnOk r (z ≡ x)
onward (Ok v) x y z was more = more ∙ was
onward (Err e) x y z was more = tt

calls_on : {T : Type 0} (r : Result T Refusal) (p q places n x y : ℕ) → x ≡ counted n (2 * p) → OnOk r (y ≡ counted x (2 * q)) → OnOk r (p + q ≡ places) → OnOk r (y ≡ counted n (2 * places))
calls_on (Ok v) p q places n x y was more all = calls_more n p q places x y was more all
calls_on (Err e) p q places n x y was more all = tt

stops_on : {T : Type 0} (r : Result T Refusal) (p q places n x y : ℕ) → x ≡ counted n (2 * p) → p + q ≤ places → IfErr r (λ e. StopsWithin q e x y) → IfErr r (λ e. StopsWithin places e n y)
stops_on (Ok v) p q places n x y was fits stops = tt
stops_on (Err e) p q places n x y was fits stops = stops_after p q places n x y e was fits stops

-- p places were read, and then q more were to be, of so many
pub reads_more : {T : Type 0} (p q places : ℕ) (a : Facts) (m : FaultState) (b : Facts) (n : FaultState) (r : Result T Refusal) (c : Facts) (o : FaultState)
    → HasRead p a m b n → ReadsOn q b n r c o → p + q ≤ places → OnOk r (p + q ≡ places) → ReadsOn places a m r c o
reads_more p q places a m b n r c o was more fits all = record {
  content = more.content ∙ was.content;
  crash = passes_stays a b c Stays was.crash more.crash;
  unsynced = more.unsynced ∙ was.unsynced;
  none_out = more.none_out;
  no_fewer = omega (arith, was.no_failure, more.no_fewer);
  no_failure = onward r a.failures b.failures c.failures was.no_failure more.no_failure;
  unmoved = onward r m n o was.unmoved more.unmoved;
  refused = refused_still a m b n r c o was.no_failure was.unmoved more.refused;
  calls = calls_on r p q places a.calls b.calls c.calls was.calls more.calls all;
  stops = stops_on r p q places a.calls b.calls c.calls was.calls fits more.stops;
}
