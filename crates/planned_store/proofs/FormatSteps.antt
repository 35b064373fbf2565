-- A call of a format makes of what was reached what its next step has reached.
use Rattle.std.proofs.Common.{◌≡◌, ◌∙◌, inl, inr, ◌+◌, ◌≤◌, ℕ, List, Result, Ok, Err, length, sym, ap, subst, arith}
use Rattle.board_model.specs.Shapes.{Size, sectors_of}
use Rattle.disk.specs.{Calls.MakesCalls, Facts.{Facts, Content, sector, Torn, Passes, Stays, Only}, FaultState.FaultState}
use Rattle.disk.specs.Moments.{called_then, passes_weaker}
use Rattle.layout.specs.Superblocks.{HasMagic, IsSuperblock}
use Rattle.store.{specs.Formats.HeadInOrder, proofs.{Contents.stands_there, Formatting.{order_behind, order_marked, passes_marked}}}
use Rattle.planned_store.specs.{Commits.Answer, Plans.{FormatPuts, FormatGoes, SuperblockStep, format_asks}, Served.IsServed}
use Rattle.planned_store.specs.{Reached.{Made, Behind, HasHead, FormatAt}, declared.formats.FormatStep.FormatStep}
use Rattle.planned_store.proofs.Calls.{called_stays, called_ok, stopped}
use Rattle.planned_store.specs.declared.formats.FormatStep.TheVariants as formats

behind_torn : (first n : ℕ) (a b : Content) → 1 ≤ first → first + n ≤ 3 → Torn first n a b → Behind a b
behind_torn first n a b from within torn = record {
  as_long = torn.as_long;
  before = λ k less. torn.before k (omega (arith, from, less));
  after = λ k far. torn.after k (omega (arith, within, far));
}

behind_then : (a b c : Content) → Behind a b → Behind b c → Behind a c
behind_then a b c p q = record {
  as_long = q.as_long ∙ p.as_long;
  before = λ k less. q.before k less ∙ p.before k less;
  after = λ k far. q.after k far ∙ p.after k far;
}

here_behind : (a b : Content) → Stays a b → Behind a b
here_behind a b same = record {
  as_long = ap length same;
  before = λ k less. ap (λ (c : Content). sector c k) same;
  after = λ k far. ap (λ (c : Content). sector c k) same;
}

-- calls of which less is told
loosely : {T E : Type 0} (n : ℕ) (step more : Content → Content → Type 0) (a b : Facts) (x y : FaultState) (r : Result T E) → ((c d : Content) → step c d → more c d) → MakesCalls {T = T} {E = E} n step a b x y r
    → MakesCalls {T = T} {E = E} n more a b x y r
loosely n step more a b x y r has p = record {
  content = has a.content b.content p.content;
  crash = passes_weaker a b step more p.crash has;
  lent = p.lent;
  calls = p.calls;
  failures = p.failures;
  cause = p.cause;
  gone = p.gone;
}

abbrev Any : Content → Content → Type 0
Any c d = Unit {0}

in_order : {T E : Type 0} (n : ℕ) (a b : Facts) (x y : FaultState) (r : Result T E) → MakesCalls {T = T} {E = E} n Any a b x y r → HeadInOrder a.content b.content → Passes a b HeadInOrder
    → MakesCalls {T = T} {E = E} n HeadInOrder a b x y r
in_order n a b x y r p content crash = record {
  content = content;
  crash = crash;
  lent = p.lent;
  calls = p.calls;
  failures = p.failures;
  cause = p.cause;
  gone = p.gone;
}

module _ {D : Type 0} (f : D → Facts) (m : D → FaultState) (size : Size) (bytes got : List ℕ) (a b c : D) where
  -- a sector before the superblock was written
  more_behind : {V E : Type 0} (n at : ℕ) (v : V) → 1 ≤ at → at + 1 ≤ 3 → Made f m n Behind a b (Ok tt) → MakesCalls {T = V} {E = E} 1 (Torn at 1) (f b) (f c) (m b) (m c) (Ok v) → Made f m (n + 1) Behind a c (Ok tt)
  more_behind n at v from within p q =
      called_then n 1 Behind (f a) (f b) (f c) (m a) (m b) (m c) tt (Ok tt) behind_then p
      (called_ok 1 Behind (f b) (f c) (m b) (m c) v tt (loosely 1 (Torn at 1) Behind (f b) (f c) (m b) (m c) (Ok v) (λ x y torn. behind_torn at 1 x y from within torn) q))

  failed_behind : {V E : Type 0} (n at : ℕ) (e : E) → 1 ≤ at → at + 1 ≤ 3 → n + 1 ≤ 6 → Made f m n Behind a b (Ok tt) → MakesCalls {T = V} {E = E} 1 (Torn at 1) (f b) (f c) (m b) (m c) (Err e) → Made f m 6 HeadInOrder a c (Err tt)
  failed_behind n at e from within few p q =
      loosely 6 Behind HeadInOrder (f a) (f c) (m a) (m c) (Err tt) order_behind
      (stopped (n + 1) 6 Behind (f a) (f c) (m a) (m c) tt few
      (called_then n 1 Behind (f a) (f b) (f c) (m a) (m b) (m c) tt (Err tt) behind_then p
      (stopped 1 1 Behind (f b) (f c) (m b) (m c) e (omega arith) (loosely 1 (Torn at 1) Behind (f b) (f c) (m b) (m c) (Err e) (λ x y torn. behind_torn at 1 x y from within torn) q))))

  -- and the superblock
  superblock_order : (r : Result (Unit {0}) (Unit {0})) → Made f m 4 Behind a b (Ok tt) → HasHead f m b → Only (f b).content (f b).may_leave → Made f m 1 (Torn 0 1) b c r → Made f m 5 HeadInOrder a c r
  superblock_order r p head only q =
      in_order 5 (f a) (f c) (m a) (m c) r
      (called_then 4 1 Any (f a) (f b) (f c) (m a) (m b) (m c) tt r (λ x y z one two. tt) (loosely 4 Behind Any (f a) (f b) (m a) (m b) (Ok tt) (λ x y is. tt) p) (loosely 1 (Torn 0 1) Any (f b) (f c) (m b) (m c) r (λ x y is. tt) q))
      (order_marked (f a).content (f b).content (f c).content p.content head.gate head.first q.content)
      (passes_marked (f a) (f b) (f c) p.crash only head.gate head.first q.crash)

  head_still : (first n : ℕ) → Torn first n (f b).content (f c).content → first + n ≤ 1 → HasHead f m b → HasHead f m c
  head_still first n torn few head = record {
    gate = torn.after 1 (omega (arith, few)) ∙ head.gate;
    first = torn.after 2 (omega (arith, few)) ∙ head.first;
  }

  head_same : (f c).content ≡ (f b).content → HasHead f m b → HasHead f m c
  head_same same head = record { gate = ap (λ (x : Content). sector x 1) same ∙ head.gate; first = ap (λ (x : Content). sector x 2) same ∙ head.first }

  still_only : (f c).content ≡ (f b).content → Only (f c).content (f c).may_leave → Only (f c).content (f c).may_leave
  still_only same only = only

  by : (s t : FormatStep) → t ≡ s → FormatAt f m size s a c → FormatAt f m size t a c
  by s t is at = subst (λ (x : FormatStep). FormatAt f m size x a c) (sym is) at

  looked : (t : FormatStep) → SuperblockStep got t → got ≡ sector (f a).content 0 → sectors_of size ≤ length (f a).content → Made f m 1 Stays a c (Ok tt) → FormatAt f m size t a c
  looked formats.Marked went there enough made = (enough, made, subst HasMagic there went)
  looked formats.WriteRecord went there enough made = (record { enough = enough; mark = λ has. went (subst HasMagic (sym there) has) }, made)
  looked t went there enough made = absurd went

  pub format_on : (s t : FormatStep) (r : Answer) → FormatAt f m size s a b → FormatPuts size s bytes → IsServed (format_asks s) bytes (f b) (f c) (m b) (m c) r got → FormatGoes s r got t → FormatAt f m size t a c
  format_on formats.ReadSuperblock t (Ok v) at puts served went =
      looked t went (served.1 ∙ ap (λ (d : D). sector (f d).content 0) at.0) at.1 (subst (λ (d : D). Made f m 1 Stays d c (Ok tt)) at.0 (called_ok 1 Stays (f b) (f c) (m b) (m c) v tt served.0))
  format_on formats.ReadSuperblock t (Err e) at puts served went =
      by formats.Failed t went (inl (at.1, subst (λ (d : D). Made f m 1 Stays d c (Err tt)) at.0 (stopped 1 1 Stays (f b) (f c) (m b) (m c) e (omega arith) served.0)))
  format_on formats.WriteRecord t (Ok v) at puts served went = by formats.WriteGate t went (
    at.0,
    more_behind 1 2 v (omega arith) (omega arith) (loosely 1 Stays Behind (f a) (f b) (m a) (m b) (Ok tt) here_behind at.1) served.0,
    stands_there 2 bytes (f b).content (f c).content served.1 ∙ puts,
  )
  format_on formats.WriteRecord t (Err e) at puts served went =
      by formats.Failed t went (inr (at.0, failed_behind 1 2 e (omega arith) (omega arith) (omega arith) (loosely 1 Stays Behind (f a) (f b) (m a) (m b) (Ok tt) here_behind at.1) served.0))
  format_on formats.WriteGate t (Ok v) at puts served went = by formats.SyncGate t went (
    at.0,
    more_behind 2 1 v (omega arith) (omega arith) at.1 served.0,
    record { gate = stands_there 1 bytes (f b).content (f c).content served.1 ∙ puts; first = served.0.content.after 2 (omega arith) ∙ at.2 },
  )
  format_on formats.WriteGate t (Err e) at puts served went = by formats.Failed t went (inr (at.0, failed_behind 2 1 e (omega arith) (omega arith) (omega arith) at.1 served.0))
  format_on formats.SyncGate t (Ok v) at puts served went = by formats.WriteSuperblock t went (
    at.0,
    called_stays 3 1 Behind (f a) (f b) (f c) (m a) (m b) (m c) tt (Ok tt) at.1 (called_ok 1 Stays (f b) (f c) (m b) (m c) v tt served.0),
    head_same served.0.content at.2,
    served.1,
  )
  format_on formats.SyncGate t (Err e) at puts served went =
      by formats.Failed t went
      (inr (
        at.0,
        loosely 6 Behind HeadInOrder (f a) (f c) (m a) (m c) (Err tt) order_behind
            (stopped 4 6 Behind (f a) (f c) (m a) (m c) tt (omega arith)
            (called_stays 3 1 Behind (f a) (f b) (f c) (m a) (m b) (m c) tt (Err tt) at.1 (stopped 1 1 Stays (f b) (f c) (m b) (m c) e (omega arith) served.0))),
      ))
  format_on formats.WriteSuperblock t (Ok v) at puts served went = by formats.SyncSuperblock t went (
    at.0,
    superblock_order (Ok tt) at.1 at.2 at.3 (called_ok 1 (Torn 0 1) (f b) (f c) (m b) (m c) v tt served.0),
    head_still 0 1 served.0.content (omega arith) at.2,
    subst (IsSuperblock size) (sym (stands_there 0 bytes (f b).content (f c).content served.1)) puts,
  )
  format_on formats.WriteSuperblock t (Err e) at puts served went =
      by formats.Failed t went
      (inr (at.0, stopped 5 6 HeadInOrder (f a) (f c) (m a) (m c) tt (omega arith) (superblock_order (Err tt) at.1 at.2 at.3 (stopped 1 1 (Torn 0 1) (f b) (f c) (m b) (m c) e (omega arith) served.0))))
  format_on formats.SyncSuperblock t (Ok v) at puts served went = by formats.Formatted t went (
    at.0,
    called_stays 5 1 HeadInOrder (f a) (f b) (f c) (m a) (m b) (m c) tt (Ok tt) at.1 (called_ok 1 Stays (f b) (f c) (m b) (m c) v tt served.0),
    head_same served.0.content at.2,
    subst (λ (x : Content). IsSuperblock size (sector x 0)) (sym served.0.content) at.3,
    served.1,
  )
  format_on formats.SyncSuperblock t (Err e) at puts served went =
      by formats.Failed t went
      (inr (at.0, called_stays 5 1 HeadInOrder (f a) (f b) (f c) (m a) (m b) (m c) tt (Err tt) at.1 (stopped 1 1 Stays (f b) (f c) (m b) (m c) e (omega arith) served.0)))
  format_on formats.Formatted t r at puts served went = absurd served
  format_on formats.TooSmall t r at puts served went = absurd served
  format_on formats.Marked t r at puts served went = absurd served
  format_on formats.Failed t r at puts served went = absurd served
