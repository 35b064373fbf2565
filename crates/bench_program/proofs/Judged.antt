-- What a work made, and how it ended: what the writer held back is handed on after it.
use Rattle.std.proofs.Common.{◌≡◌, ◌∙◌, ◌<◌, inl, inr, ℕ, Bool, true, false, List, Option, None, Some, Result, Ok, Err, IfOk, IfErr, OnOk, sym, subst, arith}
use Rattle.std.{proofs.lemmas.Result.{on_ok_weaker, IfErr-weaker}, specs.Io.KnownBytes.{Appends, Keeps}}
use Rattle.board_model.specs.declared.refusal.Refusal.{Refusal, TheVariants.Output}
use Rattle.bench_sweep.specs.{declared.{judges.Sweep.Sweep, plan.SweepPlan.SweepPlan}, Swept.IsBenchOf, Shown.IsRowOf}
use Rattle.bench_sweep.specs.declared.points.BenchKind.{BenchKind}
use Rattle.script_lang.specs.Scripts.{script_of, Script as Said}
use Rattle.bench_schedules.specs.{declared.benches.SchedulePlan.SchedulePlan, Shrunk.Shrunk}
use Rattle.bench_program.{specs.{declared.{fault.BenchFault.BenchFault, usage.Work.Work}, Faults.IsEndOf}, proofs.Told.told}
use Rattle.bench_program.specs.declared.usage.Work.TheVariants.{Report, Judge, ShowRow, Compare, Show, Shrink}
use Rattle.bench_program.specs.Written.{IsCompared, IsFaultIn, IsMade, IsPut, IsRefusedWith, IsReported, IsShown, IsShrunk, MayTellWrong}

-- what is handed on stays written
handed_on : (a b c : Option (List ℕ)) (x : List ℕ) → Appends a b x → Keeps b c → Appends a c x
handed_on None b c x h k = tt
handed_on (Some a) (Some b) (Some c) x h k = k ∙ h
handed_on (Some a) None c x h k = absurd h
handed_on (Some a) (Some b) None x h k = absurd k

wrote_on : (plan : SweepPlan) (start : List (List ℕ)) (script : List ℕ) (a b c : Option (List ℕ)) (sweep : Sweep) → IsBenchOf plan start script a b sweep → Keeps b c → IsBenchOf plan start script a c sweep
wrote_on plan start script a b c sweep (said, is, w) keeps = (
  said,
  is,
  record {
    begin = w.begin;
    first = w.first;
    origin = w.origin;
    begins = w.begins;
    counts = w.counts;
    calls = w.calls;
    rows = w.rows;
    each = w.each;
    cells = w.cells;
    text = handed_on a b c _ w.text keeps;
    points = w.points;
    runs = w.runs;
    right = w.right;
  },
)

shrunk_on : (start : List (List ℕ)) (script : List ℕ) (a b c : Option (List ℕ)) → ((said : Said) × (script_of script ≡ Ok said) × Shrunk said start a b) → Keeps b c → IsShrunk start script a c
shrunk_on start script a b c (said, is, w) keeps = (
  said,
  is,
  record {
    own = w.own;
    ran_own = w.ran_own;
    drawn = w.drawn;
    drawn_order = w.drawn_order;
    schedule = w.schedule;
    order = w.order;
    writable = w.writable;
    reads = w.reads;
    text = handed_on a b c _ w.text keeps;
    shortened = w.shortened;
  },
)

row_on : (bench : BenchKind) (number : ℕ) (start : List (List ℕ)) (script : List ℕ) (a b c : Option (List ℕ)) → IsRowOf bench number start script a b → Keeps b c → IsRowOf bench number start script a c
row_on bench number start script a b c (said, is, row) keeps = (
  said,
  is,
  record {
    begin = row.begin;
    first = row.first;
    origin = row.origin;
    begins = row.begins;
    shows = record {
      run = row.shows.run;
      has = row.shows.has;
      count = row.shows.count;
      armed = row.shows.armed;
      written = record { writable = row.shows.written.writable; reads = row.shows.written.reads; text = handed_on a b c _ row.shows.written.text keeps };
    };
  },
)

compared_on : (plan : SchedulePlan) (start : List (List ℕ)) (script : List ℕ) (a b c : Option (List ℕ)) (differ : ℕ) → IsCompared plan start script a b differ → Keeps b c
    → IsCompared plan start script a c differ
compared_on plan start script a b c differ (said, is, w) keeps = (
  said,
  is,
  record {
    own = w.own;
    ran = w.ran;
    tight = w.tight;
    first = w.first;
    begun = w.begun;
    last = w.last;
    wrote = w.wrote;
    ended = handed_on w.last b c _ w.ended keeps;
  },
)

shown_on : (script : List ℕ) (a b c : Option (List ℕ)) → IsShown script a b → Keeps b c → IsShown script a c
shown_on script a b c (said, is, w) keeps = (
  said,
  is,
  record {
    schedule = w.schedule;
    order = w.order;
    writable = w.writable;
    reads = w.reads;
    text = handed_on a b c _ w.text keeps;
  },
)

reported_on : (start : List (List ℕ)) (script : List ℕ) (a b c : Option (List ℕ)) → IsReported start script a b → Keeps b c → IsReported start script a c
reported_on start script a b c (said, answers, end, is, report, text, law) keeps = (said, answers, end, is, report, handed_on a b c _ text keeps, law)

made_on : (work : Work) (start : List (List ℕ)) (script : List ℕ) (differ : ℕ) (a b c : Option (List ℕ)) → IsMade work start script differ a b → Keeps b c
    → IsMade work start script differ a c
made_on (Report savers) start script differ a b c w keeps = (w.0, reported_on start script a b c w.1 keeps)
made_on (Judge plan) start script differ a b c w keeps = (w.0, w.1, wrote_on plan start script a b c w.1 w.2 keeps)
made_on (ShowRow row) start script differ a b c w keeps = (w.0, row_on row.bench row.number start script a b c w.1 keeps)
made_on (Compare plan) start script differ a b c w keeps = (w.0, compared_on plan start script a b c differ w.1 keeps)
made_on (Show drawn) start script differ a b c w keeps = (w.0, shown_on script a b c w.1 keeps)
made_on (Shrink drawn) start script differ a b c w keeps = (w.0, shrunk_on start script a b c w.1 keeps)

none_tells : {A : Type 0} (differ : ℕ) → 0 < differ → differ ≡ 0 → A
none_tells differ some none = absurd (omega (arith, some, none))

-- a work of which some runs tell that something is wrong may tell that
may_tell : (work : Work) (start : List (List ℕ)) (script : List ℕ) (differ : ℕ) (a b : Option (List ℕ)) → 0 < differ → IsMade work start script differ a b → MayTellWrong work
may_tell (Report savers) start script differ a b some w = none_tells differ some w.0
may_tell (Judge plan) start script differ a b some w = none_tells differ some w.0
may_tell (ShowRow row) start script differ a b some w = none_tells differ some w.0
may_tell (Compare plan) start script differ a b some w = tt
may_tell (Show drawn) start script differ a b some w = none_tells differ some w.0
may_tell (Shrink drawn) start script differ a b some w = none_tells differ some w.0

-- any work is refused where its output fails
output_fails : (work : Work) (start : List (List ℕ)) (script : List ℕ) (e : Refusal) → e ≡ Output → IsRefusedWith work start script e
output_fails (Report savers) start script e is = inr (inl is)
output_fails (Judge plan) start script e is = inr (inl is)
output_fails (ShowRow row) start script e is = inr (inl is)
output_fails (Compare plan) start script e is = inr (inl is)
output_fails (Show drawn) start script e is = inr (inl is)
output_fails (Shrink drawn) start script e is = inr (inl is)

if_made : (made : Result ℕ Refusal) (P : ℕ → Type 0) (n : ℕ) → made ≡ Ok n → IfOk made P → P n
if_made made P n is all = subst (λ (r : Result ℕ Refusal). IfOk r P) is all

if_refused : (made : Result ℕ Refusal) (P : Refusal → Type 0) (e : Refusal) → made ≡ Err e → IfErr made P → P e
if_refused made P e is all = subst (λ (r : Result ℕ Refusal). IfErr r P) is all

-- ---- how a work ended, whether its text was made whole first or not
module _ (kept : Bool) (Comes : ℕ → List ℕ → List ℕ) (work : Work) (start : List (List ℕ)) (script : List ℕ) (a b c : Option (List ℕ)) (made : Result ℕ Refusal) (result : Result (Unit {0}) BenchFault)
    (all : IfOk made (λ differ. IsPut kept Comes (IsMade work start script) differ a b)) where
  abbrev Put : ℕ → Option (List ℕ) → Type 0
  Put differ now = IsPut kept Comes (IsMade work start script) differ a now

  put_on : (t : Bool) (differ : ℕ) → IsPut t Comes (IsMade work start script) differ a b → Keeps b c → IsPut t Comes (IsMade work start script) differ a c
  put_on true differ (text, is, wrote) keeps = (text, is, handed_on a b c _ wrote keeps)
  put_on false differ is keeps = made_on work start script differ a b c is keeps

  may_put : (t : Bool) (differ : ℕ) → 0 < differ → IsPut t Comes (IsMade work start script) differ a b → MayTellWrong work
  may_put true differ some (text, is, wrote) = may_tell work start script differ _ _ some is
  may_put false differ some is = may_tell work start script differ a b some is

  put : (differ : ℕ) → made ≡ Ok differ → IsPut kept Comes (IsMade work start script) differ a b
  put differ is = if_made made (λ n. IsPut kept Comes (IsMade work start script) n a b) differ is all

  pub did : (F : Type 0) → OnOk result ((made ≡ Ok 0) × (Keeps b c × F)) → OnOk result (Put 0 c × F)
  did F ended = on_ok_weaker result (λ w. (put_on kept 0 (put 0 w.0) w.1.0, w.1.1)) ended

  pub told_wrong : (F : Type 0) → ((differ : ℕ) × (0 < differ) × (made ≡ Ok differ) × (Keeps b c × F)) → (differ : ℕ) × (0 < differ) × (Put differ c × F)
  told_wrong F (differ, some, is, (keeps, f)) = (differ, some, (put_on kept differ (put differ is) keeps, f))

  fault_in : (gone : Bool) (fault : BenchFault) → IfErr made (IsRefusedWith work start script) → IsEndOf made gone fault → IsFaultIn work start script gone fault
  fault_in gone fault refused (inl (is, differ, some, ok)) =
      let P : BenchFault → Type 0 = λ f. IsFaultIn work start script gone f in
      subst P (sym is) (may_put kept differ some (put differ ok))
  fault_in gone fault refused (inr (e, is, inl err)) = told work start script gone e fault is (if_refused made _ e err refused)
  fault_in gone fault refused (inr (e, is, inr out)) = told work start script gone e fault is (output_fails work start script e out)

  pub faults : (gone : Bool) → IfErr made (IsRefusedWith work start script) → IfErr result (IsEndOf made gone) → IfErr result (IsFaultIn work start script gone)
  faults gone refused ended = IfErr-weaker result (IsEndOf made gone) (IsFaultIn work start script gone) (λ fault is. fault_in gone fault refused is) ended
