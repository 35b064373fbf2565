-- How runs of calls go on: what the layers above compose their moments by.
use Rattle.std.proofs.Common.{◌∙◌, ◌+◌, ◌≤◌, inl, inr, ⊎_elim, refl, sym, subst, arith, ℕ, Result, Ok, Err}
use Rattle.disk.specs.Facts.{Content, Facts, LeavesAfter, Passes, Stays, Torn, Unchanged, LeavesSince}
use Rattle.disk.specs.FaultState.{FaultState, Cause}
use Rattle.disk.specs.Calls.{MakesCalls}

-- no call at all
pub passes_none : (a : Facts) → Passes a a Stays
passes_none a = record {
  later = omega arith;
  now = λ x left. (x, left, refl);
  nothing_else = λ t x le left. inl left;
  keeps = λ t x le left. left;
}

-- two runs, one after the other
pub passes_then : (a b c : Facts) (first second : Content → Content → Type 0) → Passes a b first → Passes b c second
    → ((x y z : Content) → first x y → second y z → first x z) → Passes a c first
passes_then a b c first second p q goes = record {
  later = omega (arith, p.later, q.later);
  now = λ x left. both x (q.now x left);
  nothing_else = λ t x le left. ⊎_elim (λ past. p.nothing_else t x le past) (λ step. inr (both x step))
      (q.nothing_else t x (omega (arith, le, p.later)) left);
  keeps = λ t x le past. q.keeps t x (omega (arith, le, p.later)) (p.keeps t x le past);
}
  where
    both : (x : Content) → LeavesAfter b second x → LeavesAfter a first x
    both x step =
        let from = p.now step.0 step.1 in
        (from.0, from.1, goes from.0 step.0 x from.2 step.2)

-- and one in which a crash leaves what it might have left before
pub passes_stays : (a b c : Facts) (step : Content → Content → Type 0) → Passes a b step → Passes b c Stays
    → Passes a c step
passes_stays a b c step p q =
    passes_then a b c step Stays p q (λ x y z s same. subst (λ (w : Content). step x w) (sym same) s)

-- what each step does of which more is known
pub passes_weaker : (a b : Facts) (P Q : Content → Content → Type 0) → Passes a b P
    → ((x y : Content) → P x y → Q x y) → Passes a b Q
passes_weaker a b P Q p has = record {
  later = p.later;
  now = λ x left. is x (p.now x left);
  nothing_else = λ t x le left. ⊎_elim (λ past. inl past) (λ step. inr (is x step)) (p.nothing_else t x le left);
  keeps = p.keeps;
}
  where
    is : (x : Content) → LeavesAfter a P x → LeavesAfter a Q x
    is x step = (step.0, step.1, has step.0 x step.2)

-- a split, the lanes, which touch nothing of the disk, the join, and a sync: any bytes in what was lent, and
-- all else as it was
pub passes_lanes : (a b c d : Facts) (first n : ℕ) → Passes a b (Torn first n) → Passes b c Stays
    → Passes c d Stays → Passes a d (Torn first n)
passes_lanes a b c d first n split join sync =
    passes_stays a c d (Torn first n) (passes_stays a b c (Torn first n) split join) sync

-- arming a fault is no call
pub passes_unchanged : (a b : Facts) → Unchanged a b → Passes a b Stays
passes_unchanged a b same = record {
  later = omega (arith, same.moment);
  now = λ c left. (c, (same.now c).0 left, refl);
  nothing_else = λ t c le left. inl ((same.since t c).0 left);
  keeps = λ t c le left. (same.since t c).1 left;
}

-- before the first call
pub leaves_none : (a : Facts) (P : Content → Type 0) → ((c : Content) → a.since a.moment c → a.may_leave c)
    → ((c : Content) → a.may_leave c → P c) → LeavesSince a a P
leaves_none a P only here =
    record { later = omega arith; now = here; each = λ c left. here c (only c left); before = λ t c le left. inl left }

-- one run more
pub leaves_more : (a b c : Facts) (P : Content → Type 0) (step : Content → Content → Type 0) → LeavesSince a b P
    → Passes b c step
    → ((x y : Content) → b.may_leave x → step x y → P y) → LeavesSince a c P
leaves_more a b c P step so_far p has = record {
  later = omega (arith, so_far.later, p.later);
  now = λ x left. is x (p.now x left);
  each = λ x left. ⊎_elim (so_far.each x) (is x) (p.nothing_else a.moment x so_far.later left);
  before = λ t x le left. ⊎_elim (so_far.before t x le) (λ s. inr (is x s))
      (p.nothing_else t x (omega (arith, le, so_far.later)) left);
}
  where
    is : (x : Content) → LeavesAfter b step x → P x
    is x s = has s.0 x s.1 s.2

pub leaves_stays : (a b c : Facts) (P : Content → Type 0) → LeavesSince a b P → Passes b c Stays → LeavesSince a c P
leaves_stays a b c P so_far p =
    leaves_more a b c P Stays so_far p (λ x y left same. subst P (sym same) (so_far.now x left))

-- what holds of two runs, one after the other
pub leaves_then : (a b c : Facts) (P : Content → Type 0) → LeavesSince a b P → LeavesSince b c P → LeavesSince a c P
leaves_then a b c P first second = record {
  later = omega (arith, first.later, second.later);
  now = second.now;
  each = λ x left. ⊎_elim (first.each x) (λ has. has) (second.before a.moment x first.later left);
  before = λ t x le left. ⊎_elim (first.before t x le) (λ has. inr has)
      (second.before t x (omega (arith, le, first.later)) left);
}

-- what has P has Q
pub leaves_weaker : (a b : Facts) (P Q : Content → Type 0) → LeavesSince a b P → ((c : Content) → P c → Q c)
    → LeavesSince a b Q
leaves_weaker a b P Q only has = record {
  later = only.later;
  now = λ x left. has x (only.now x left);
  each = λ x left. has x (only.each x left);
  before = λ t x le left. ⊎_elim (λ past. inl past) (λ p. inr (has x p)) (only.before t x le left);
}

-- what a crash leaves from a split to the sync after the join
pub leaves_lanes : (a b c d : Facts) (first n : ℕ) (P : Content → Type 0)
    → ((x : Content) → a.since a.moment x → a.may_leave x) → ((x : Content) → a.may_leave x → P x)
    → ((x y : Content) → a.may_leave x → Torn first n x y → P y) → Passes a b (Torn first n) → Passes b c Stays
    → Passes c d Stays → LeavesSince a d P
leaves_lanes a b c d first n P only here has split join sync =
    leaves_more a a d P (Torn first n) (leaves_none a P only here) (passes_lanes a b c d first n split join sync) has

-- calls that all answered Ok, and then some more
pub called_then : {T E U F : Type 0} (n m : ℕ) (step : Content → Content
    → Type 0) (a b c : Facts) (x y z : FaultState) (v : T) (r : Result U F)
    → ((p q s : Content) → step p q → step q s → step p s) → MakesCalls {T = T} {E = E} n step a b x y (Ok v)
    → MakesCalls {T = U} {E = F} m step b c y z r → MakesCalls {T = U} {E = F} (n + m) step a c x z r
called_then n m step a b c x y z v (Ok w) goes p q = record {
  content = goes a.content b.content c.content p.content q.content;
  crash = passes_then a b c step step p.crash q.crash goes;
  lent = q.lent ∙ p.lent;
  calls = record { ok = omega (arith, p.calls.ok, q.calls.ok); err = tt };
  failures = record { ok = q.failures.ok ∙ p.failures.ok; err = tt };
  cause = record { ok = q.cause.ok ∙ p.cause.ok; err = tt };
  gone = p.gone;
}
called_then n m step a b c x y z v (Err f) goes p q = record {
  content = goes a.content b.content c.content p.content q.content;
  crash = passes_then a b c step step p.crash q.crash goes;
  lent = q.lent ∙ p.lent;
  calls =
      record { ok = tt; err = (omega (arith, p.calls.ok, q.calls.err.0), omega (arith, p.calls.ok, q.calls.err.1)) };
  failures = record { ok = tt; err = rw (← p.failures.ok) q.failures.err };
  cause = record { ok = tt; err = subst (λ (w : FaultState). Cause w z) p.cause.ok q.cause.err };
  gone = tt;
}

-- calls of which one failed, where more would have come
pub called_fewer : {T E U F : Type 0} (n m : ℕ) (step : Content → Content
    → Type 0) (a b : Facts) (x y : FaultState) (e : E) (f : F)
    → n ≤ m
    → MakesCalls {T = T} {E = E} n step a b x y (Err e) → MakesCalls {T = U} {E = F} m step a b x y (Err f)
called_fewer n m step a b x y e f le p = record {
  content = p.content;
  crash = p.crash;
  lent = p.lent;
  calls = record { ok = tt; err = (p.calls.err.0, omega (arith, le, p.calls.err.1)) };
  failures = record { ok = tt; err = p.failures.err };
  cause = record { ok = tt; err = p.cause.err };
  gone = tt;
}
