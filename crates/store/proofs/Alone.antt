-- Calls that read a disk alone, one after another, up to an inspection.
use Rattle.std.{proofs.Common.{◌≡◌, ◌∙◌, ◌≤◌, ◌<◌, ◌+◌, ◌*◌, ℕ, Result, Ok, Err, IfErr, ap, subst, arith}, specs.Prelude.IfOk}
use Rattle.board_model.specs.{Shapes.Size, declared.refusal.Refusal.{Refusal, TheVariants.{NotFormatted, BadShape, Device, Memory}}}
use Rattle.disk.specs.{Calls.MakesCalls, Facts.{Content, Facts, Lent, Stays, Failed, counted, most}, FaultState.FaultState}
use Rattle.disk.specs.Moments.{passes_stays}
use Rattle.layout.specs.declared.saved.Saved.{Saved}
use Rattle.store.specs.{Leaves.ReadsAlone, Opens.{IsBoard, ReadsAs, CausedRefusal, FailsForCause}, declared.inspects.ImageSeen.ImageSeen}
use Rattle.store.{specs.Inspects.{KeepsImage, IsInspected, InspectRefused, SeenCalls, ExaminedCalls, FailedCalls}, proofs.Called.counts_up}
use Rattle.store.{specs.declared.inspects.Inspection.Inspection, proofs.Loading.read_alone}

pub called_alone : {T E : Type 0} (n : ℕ) (a b : Facts) (m x : FaultState) (r : Result T E) → ((c : Content) → a.since a.moment c → a.may_leave c) → a.failures ≤ most → a.lent.lanes ≡ 0
    → MakesCalls {T = T} {E = E} n Stays a b m x r → ReadsAlone a b
called_alone n a b m x r only few idle made =
    read_alone a b only made.content made.crash (ap (λ (l : Lent). l.lanes) made.lent ∙ idle) (counts_up r a.failures b.failures few made.failures)

pub alone_then : {T E : Type 0} (n : ℕ) (a b d : Facts) (m x : FaultState) (v : T) → ((c : Content) → a.since a.moment c → a.may_leave c)
    → MakesCalls {T = T} {E = E} n Stays a b m x (Ok v) → ReadsAlone b d → ReadsAlone a d
alone_then n a b d m x v only made more =
    read_alone a d only (more.content ∙ made.content) (passes_stays a b d Stays made.crash more.crash) more.none_out (subst (λ (k : ℕ). k ≤ d.failures) made.failures.ok more.no_fewer)

-- the cause of a failure, where what came before did not fail
pub fails_after : {T U : Type 0} (a b d : Facts) (m x z : FaultState) (e : Refusal) → x ≡ m → FailsForCause {T = T} b x (Err e) d z → FailsForCause {T = U} a m (Err e) d z
fails_after a b d m x z e calm on = record { no_failure = tt; cause = subst (λ (w : FaultState). CausedRefusal w e z) calm on.cause }

pub none_after : {T U : Type 0} (a b d : Facts) (m x z : FaultState) (v : T) (u : U) → b.failures ≡ a.failures → x ≡ m → FailsForCause {T = T} b x (Ok v) d z → FailsForCause {T = U} a m (Ok u) d z
none_after a b d m x z v u still calm on = record { no_failure = on.no_failure ∙ still; cause = on.cause ∙ calm }

pub fails_on : {T : Type 0} (a b d : Facts) (m x z : FaultState) (r : Result T Refusal) → b.failures ≡ a.failures → x ≡ m → FailsForCause b x r d z → FailsForCause a m r d z
fails_on a b d m x z (Ok v) still calm on = none_after a b d m x z v v still calm on
fails_on a b d m x z (Err e) still calm on = fails_after a b d m x z e calm on

pub refused_after : (a b d : Facts) (e : Refusal) → b.content ≡ a.content → b.failures ≡ a.failures → InspectRefused b e d → InspectRefused a e d
refused_after a b d NotFormatted same still why = subst (λ (c : Content). ReadsAs c NotFormatted) same why
refused_after a b d BadShape same still why = subst (λ (c : Content). ReadsAs c BadShape) same why
refused_after a b d Device same still why = subst (λ (k : ℕ). Failed k d.failures) still why
refused_after a b d Memory same still why = subst (λ (c : Content). (size : Size) × IsBoard size c × ((saved : Saved) × KeepsImage size c saved)) same why
refused_after a b d e same still why = why

pub refused_on : (a b d : Facts) (r : Result Inspection Refusal) → b.content ≡ a.content → b.failures ≡ a.failures → IfErr r (λ e. InspectRefused b e d) → IfErr r (λ e. InspectRefused a e d)
refused_on a b d (Ok i) same still why = tt
refused_on a b d (Err e) same still why = refused_after a b d e same still why

pub inspected_on : (size : Size) (c d : Content) (r : Result Inspection Refusal) → d ≡ c → IsBoard size c → IfOk r (IsInspected size d) → IfOk r (λ i. (z : Size) × IsBoard z c × IsInspected z c i)
inspected_on size c d (Ok i) same board is = (size, board, subst (λ (x : Content). IsInspected size x i) same is)
inspected_on size c d (Err e) same board is = tt

-- ---- the calls of an examiner
pub none_there : (n : ℕ) → n ≡ 0 → 0 < n → ⊥
none_there n none some = omega (arith, none, some)

pub one_failed : (n k : ℕ) → k ≡ counted n 1 → Failed n k
one_failed n k is = omega (arith, is)

pub records_failed : (size : Size) (n k : ℕ) → (counted n 1 ≤ k) × (k ≤ counted n 3) → (counted n 1 ≤ k) × (k ≤ counted n (3 + 2 * size.pages))
records_failed size n k within = (within.0, omega (arith, within.1))

pub sector_failed : (c : Content) (n k : ℕ) → (counted n 1 ≤ k) × (k ≤ counted n 1) → FailedCalls c n k
sector_failed c n k within = record {
  some = within.0;
  few = λ size also. omega (arith, within.1);
  first = λ none. omega (arith, within.0, within.1);
}

pub image_failed : (size : Size) (n k l : ℕ) (e : Refusal) → k ≡ counted n 3 → SeenCalls size (Err e) k l → ExaminedCalls size (Err e) n l
image_failed size n k l Memory first calls = calls ∙ first
image_failed size n k l e first calls = (omega (arith, first, calls.0), omega (arith, first, calls.1))

pub image_seen : (size : Size) (n k l : ℕ) (seen : ImageSeen) → k ≡ counted n 3 → SeenCalls size (Ok seen) k l → SeenCalls size (Ok seen) (counted n 3) l
image_seen size n k l seen first calls = subst (λ (j : ℕ). SeenCalls size (Ok seen) j l) first calls
