-- A format, from the end of its plan to what `format` of the crate `store` promises.
use Rattle.std.proofs.Common.{◌≡◌, ◌∙◌, inl, inr, ◌≤◌, ◌<◌, ℕ, Ok, Err, length, refl, sym, ap, subst, arith}
use Rattle.board_model.specs.{Shapes.{Size, sectors_of}, declared.refusal.Refusal.TheVariants.{BadShape, AlreadyFormatted, Device}}
use Rattle.disk.specs.{Facts.{Facts, Lent, most}, FaultState.FaultState, Moments.passes_none}
use Rattle.layout.{specs.Records.{selected_by, IsInRange}, proofs.SpelledRecords.selected_by-gate_of}
use Rattle.store.{specs.{Commits.IsUp, Formats.{formatted_record, HeadInOrder}}, proofs.{Formatting.head_read, Found.settled}}
use Rattle.store.proofs.States.{up_leaves}
use Rattle.planned_store.specs.{Formats.{answer_at, formatted_by, FormatsTo}, Plans.{asked, format_asks, Formats, task_of}}
use Rattle.planned_store.specs.{Reached.{Unmarked, FormatAt, Reached}, declared.{formats.FormatStep.FormatStep, plans.Plan.Plan}}
use Rattle.planned_store.specs.declared.plans.Plan.TheVariants.{Settling, ReadingSuperblock, ReadingGate, ReadingRecord, Found, Renewing, Committing, Formatting, Refused}
use Rattle.planned_store.specs.declared.plans.Request.TheVariants.{Done}
use Rattle.planned_store.specs.declared.formats.FormatStep.TheVariants as formats

in_range : (size : Size) → IsInRange size formatted_record
in_range size = record {
  slot = omega arith;
  image = λ x is. cc;
  trial = λ x is. cc;
  fit = (omega arith, (omega arith, (omega arith, (omega arith, (omega arith, tt)))));
}

too_few : (n k : ℕ) → n < k → k ≤ n → ⊥
too_few n k less le = omega (arith, less, le)

module _ {D : Type 0} (f : D → Facts) (m : D → FaultState) (bounded : (d : D) → (f d).failures ≤ most) (a : D) (idle : (f a).lent.lanes ≡ 0) (size : Size) where
  module _ (b : D) where
    formatted_up : Unmarked f m size a → HeadInOrder (f a).content (f b).content → FormatAt f m size formats.Formatted a b → IsUp (f b) size 0 formatted_record
    formatted_up unmarked order at =
        settled (f b) size 0 formatted_record at.4
        (record {
          board = at.3;
          enough = omega (arith, unmarked.enough, order.head.as_long);
          gate = ap selected_by at.2.gate ∙ selected_by-gate_of 0 (omega arith);
          is = (in_range size, at.2.first);
        })

    done_to : FormatAt f m size formats.Formatted a b → FormatsTo f m size a (Ok tt) b
    done_to at = record {
      ok = up_leaves (f b) size 0 formatted_record (formatted_up at.0 at.1.content at);
      unmarked = at.0.mark;
      no_failure = at.1.failures.ok;
      refused = tt;
      too_small = λ less. absurd (too_few (length (f a).content) (sectors_of size) less at.0.enough);
      marked = λ has. absurd (at.0.mark has);
      in_order = record { content = at.1.content; crash = at.1.crash; none_out = ap (λ (l : Lent). l.lanes) at.1.lent ∙ idle; no_fewer = omega (arith, at.1.failures.ok) };
      cause = at.1.cause.ok;
      calls = at.1.calls.ok;
    }

    failed_to : FormatAt f m size formats.Failed a b → FormatsTo f m size a (Err Device) b
    failed_to (inl at) = record {
      ok = tt;
      unmarked = tt;
      no_failure = tt;
      refused = (at.0, omega (arith, at.1.failures.err));
      too_small = λ less. absurd (too_few (length (f a).content) (sectors_of size) less at.0);
      marked = λ has. (at.1.crash, at.1.content);
      in_order = head_read (f a) (f b) at.1.content at.1.crash (ap (λ (l : Lent). l.lanes) at.1.lent ∙ idle) (omega (arith, at.1.failures.err, bounded a));
      cause = at.1.cause.err;
      calls = (at.1.calls.err.0, omega (arith, at.1.calls.err.1));
    }
    failed_to (inr at) = record {
      ok = tt;
      unmarked = tt;
      no_failure = tt;
      refused = (at.0.enough, omega (arith, at.1.failures.err));
      too_small = λ less. absurd (too_few (length (f a).content) (sectors_of size) less at.0.enough);
      marked = λ has. absurd (at.0.mark has);
      in_order = record { content = at.1.content; crash = at.1.crash; none_out = ap (λ (l : Lent). l.lanes) at.1.lent ∙ idle; no_fewer = omega (arith, at.1.failures.err, bounded a) };
      cause = at.1.cause.err;
      calls = at.1.calls.err;
    }

    marked_to : FormatAt f m size formats.Marked a b → FormatsTo f m size a (Err AlreadyFormatted) b
    marked_to at = record {
      ok = tt;
      unmarked = tt;
      no_failure = tt;
      refused = (at.2, at.1.content);
      too_small = λ less. absurd (too_few (length (f a).content) (sectors_of size) less at.0);
      marked = λ has. (at.1.crash, at.1.content);
      in_order = head_read (f a) (f b) at.1.content at.1.crash (ap (λ (l : Lent). l.lanes) at.1.lent ∙ idle) (omega (arith, at.1.failures.ok));
      cause = at.1.cause.ok;
      calls = at.1.calls.ok;
    }

    small_to : length (f a).content < sectors_of size → FormatsTo f m size a (Err BadShape) a
    small_to less = record {
      ok = tt;
      unmarked = tt;
      no_failure = tt;
      refused = (less, refl);
      too_small = λ also. (refl, refl);
      marked = λ has. (passes_none (f a), refl);
      in_order = head_read (f a) (f a) refl (passes_none (f a)) idle (omega arith);
      cause = refl;
      calls = refl;
    }

    step_to : (step : FormatStep) → FormatAt f m size step a b → format_asks step ≡ Done → FormatsTo f m size a (answer_at step) b
    step_to formats.ReadSuperblock at ended = cc
    step_to formats.WriteRecord at ended = cc
    step_to formats.WriteGate at ended = cc
    step_to formats.SyncGate at ended = cc
    step_to formats.WriteSuperblock at ended = cc
    step_to formats.SyncSuperblock at ended = cc
    step_to formats.Formatted at ended = done_to at
    step_to formats.TooSmall at ended = subst (λ (d : D). FormatsTo f m size a (Err BadShape) d) (sym at.0) (small_to at.1)
    step_to formats.Marked at ended = marked_to at
    step_to formats.Failed at ended = failed_to at

module _ {D : Type 0} (f : D → Facts) (m : D → FaultState) (bounded : (d : D) → (f d).failures ≤ most) (a : D) (idle : (f a).lent.lanes ≡ 0) (size : Size) (b : D) where
  same_size : (y z : Size) → Formats y ≡ Formats z → y ≡ z
  same_size y z is = cc

  pub formats_to : (q : Plan) → Reached f m q a b → asked q ≡ Done → task_of q ≡ Formats size → FormatsTo f m size a (formatted_by q) b
  formats_to (Formatting k) at ended task =
      subst (λ (z : Size). FormatsTo f m z a (answer_at k.step) b) (same_size k.shape size task) (step_to f m bounded a idle k.shape b k.step at ended)
  formats_to (Settling n) at ended task = cc
  formats_to (ReadingSuperblock n) at ended task = cc
  formats_to (ReadingGate z) at ended task = cc
  formats_to (ReadingRecord z side) at ended task = cc
  formats_to (Found found) at ended task = cc
  formats_to (Renewing k) at ended task = cc
  formats_to (Committing k) at ended task = cc
  formats_to (Refused e) at ended task = cc
