-- An open, from the end of its plan to what `Store::open` promises.
use Rattle.std.proofs.Common.{◌≡◌, ◌∙◌, inl, inr, ◌-◌, ◌≤◌, ◌<◌, ℕ, Ok, Err, length, refl, sym, ap, subst, arith}
use Rattle.board_model.specs.{Durable.DurableState, Shapes.{Size, sectors_of}, declared.refusal.Refusal.Refusal}
use Rattle.board_model.specs.declared.refusal.Refusal.TheVariants.{NotFormatted, BadShape, BadRecord, Device}
use Rattle.disk.specs.{Calls.MakesCalls, Facts.{Facts, Content, Lent, Stays, LeavesSince, counted, most}, FaultState.{FaultState, Cause}}
use Rattle.layout.specs.{Records.IsInRange, declared.records.{Record.Record, Version.TheVariants.{One, Two}}}
use Rattle.store.{specs.{Commits.{SameAreas, SelectsEither, IsUp}, Leaves.{Leaves, ReadsAlone, IsSettled}}, proofs.Alone.called_alone}
use Rattle.store.specs.{Opens.{ReadsAs, OpenRefused, OpenCalls, CausedRefusal, renewed_record}, Standing.{state_of, Selects, StandsFor}}
use Rattle.store.proofs.{Found.{settled, stands_read, left_earlier}, Loading.none_read, Reading.{some_sectors, none_stands, one_refusal}}
use Rattle.store.proofs.Renewing.{renewed_moment, leaves_two, in_range_two, still_settled, read_settled, settled_after, renewed_settled, renewed_state, calls_of, calls_on, calls_stop, open_by_find}
use Rattle.store.proofs.States.{up_leaves}
use Rattle.planned_store.specs.{Commits.asked_at, Opens.{opened_at, opened_by, OpensTo}, Plans.{asked, Opens, task_of}}
use Rattle.planned_store.specs.{Reached.{Made, CommitAt, ReadSo, FoundAt, RefusedAt, Reached}, declared.commits.CommitStep.CommitStep}
use Rattle.planned_store.specs.declared.commits.CommitStep.TheVariants.{WriteRecord, SyncRecord, WriteGate, SyncGate, Committed, Unchanged, InDoubt}
use Rattle.planned_store.{specs.declared.{commits.Selected.Selected, plans.{Plan.Plan, Request.TheVariants.Done}}, proofs.Calls.stopped}
use Rattle.planned_store.specs.declared.plans.Plan.TheVariants.{Settling, ReadingSuperblock, ReadingGate, ReadingRecord, Found, Renewing, Committing, Formatting, Refused}
use Rattle.planned_store.proofs.Committing.{done_up, done_moment, done_calls, unchanged_moment, unchanged_calls, doubt_moment, doubt_calls}

none_and_some : (n : ℕ) → n ≡ 0 → 0 < n → ⊥
none_and_some n none some = omega (arith, none, some)

module _ {D : Type 0} (f : D → Facts) (m : D → FaultState) (may_keep : (d : D) → (f d).may_leave (f d).content) (only_now : (d : D) (c : Content) → (f d).since (f d).moment c → (f d).may_leave c)
    (bounded : (d : D) → (f d).failures ≤ most) (a : D) (idle : (f a).lent.lanes ≡ 0) where
  -- ---- what was read
  module _ (b : D) (found : Selected) (at : FoundAt f m found a b) where
    found_up : IsUp (f b) found.shape found.side found.live
    found_up =
        settled (f b) found.shape found.side found.live at.read.only
        (subst (Selects found.shape found.side found.live) (sym at.read.called.content) at.selects)

    found_alone : ReadsAlone (f a) (f b)
    found_alone = called_alone 4 (f a) (f b) (m a) (m b) (Ok tt) (only_now a) (bounded a) idle at.read.called

    found_stands : StandsFor (f a).content found.shape (state_of found.shape found.live (f b).content)
    found_stands = stands_read (f a).content (f b) found.shape found.side found.live found_up (may_keep b) found_alone.content

    found_earlier : Leaves (f a) found.shape (state_of found.shape found.live (f b).content)
    found_earlier = left_earlier (f a) (f b) found.shape found.side found.live at.read.called.crash (may_keep b) found_up

    found_sectors : length (f a).content ≡ 0 → ⊥
    found_sectors none = some_sectors found.shape (f a).content (at.selects.board, at.selects.enough) none

    found_to : found.live.version ≡ Two → OpensTo f m a (opened_by (Found found)) b
    found_to two = record {
      opened = record {
        begins = refl;
        reads = found_stands;
        earlier = found_earlier;
        only = up_leaves (f b) found.shape found.side found.live found_up;
        no_failure = at.read.called.failures.ok;
        at_open = at.read.called.failures.ok;
      };
      begins = (refl, record { none_out = found_alone.none_out; known = at.known; up = λ _. found_up });
      version = leaves_two (f b) found.shape found.side found.live found_up two;
      refused = tt;
      refuses = λ e reads. none_stands (f a).content e found.shape (state_of found.shape found.live (f b).content) reads found_stands;
      opens = λ size s stands. tt;
      no_sectors = λ none. absurd (found_sectors none);
      reads_alone = tt;
      settles = read_settled (f a) (f b) found_alone;
      calls = λ some. at.read.called.calls.ok ∙ ap (λ (k : ℕ). counted (f a).calls k) (sym (calls_of found.shape found.side found.live Two (f a).content at.selects two));
      cause = at.read.called.cause.ok;
    }

  -- ---- what was written anew
  module _ (b d : D) (found : Selected) (next : Record) (at : FoundAt f m found a d) (one : found.live.version ≡ One) (next_is : next ≡ renewed_record found.live) where
    abbrev size : Size
    size = found.shape

    was : IsUp (f d) size found.side found.live
    was = found_up d found at

    alone : ReadsAlone (f a) (f d)
    alone = found_alone d found at

    range : IsInRange size next
    range = subst (IsInRange size) (sym next_is) (in_range_two size found.live at.selects.is.0)

    same : (c : Content) → state_of size next c ≡ state_of size found.live c
    same c = ap (λ (r : Record). state_of size r c) next_is

    abbrev state : DurableState
    state = state_of size found.live (f d).content

    settles : LeavesSince (f d) (f b) (SelectsEither size found.side found.live next (f d).content) → SameAreas (f d).content (f b).content → (f b).lent ≡ (f d).lent → (f d).failures ≤ (f b).failures → IsSettled (f a) (f b)
    settles moment areas lent fewer =
        settled_after (f a) (f d) alone (f b)
        (renewed_settled (f d) (f b) size found.side found.live was (may_keep d) (may_keep b) one
        (renewed_moment size found.side found.live next same (f d) (f b) moment) areas.as_long (ap (λ (l : Lent). l.lanes) lent ∙ alone.none_out) fewer)

    renewed_to : CommitAt f m found.side next Committed d b → OpensTo f m a (opened_at (record { from = found; next = next; step = Committed }) Committed) b
    renewed_to done =
        let up : IsUp (f b) size (1 - found.side) next = done_up f m may_keep only_now size found.side found.live next at.known d b was range done in
        let moment = done_moment f m may_keep only_now size found.side found.live next at.known d b was range done in
        let calls = done_calls f m may_keep only_now size found.side found.live next at.known d b was range done in
        let stands = (renewed_moment size found.side found.live next same (f d) (f b) moment).now (f b).content (may_keep b) in
        let now : state_of size next (f b).content ≡ state = renewed_state (f b) size size (1 - found.side) next state up (may_keep b) stands in
        record {
          opened = record {
            begins = refl;
            reads = subst (StandsFor (f a).content size) (sym now) (found_stands d found at);
            earlier = subst (Leaves (f a) size) (sym now) (found_earlier d found at);
            only = up_leaves (f b) size (1 - found.side) next up;
            no_failure = calls.failures.ok ∙ at.read.called.failures.ok;
            at_open = calls.failures.ok ∙ at.read.called.failures.ok;
          };
          begins = (refl, record { none_out = ap (λ (l : Lent). l.lanes) calls.lent ∙ alone.none_out; known = omega arith; up = λ _. up });
          version = leaves_two (f b) size (1 - found.side) next up (ap (λ (r : Record). r.version) next_is);
          refused = tt;
          refuses = λ e reads. none_stands (f a).content e size state reads (found_stands d found at);
          opens = λ z s there. tt;
          no_sectors = λ none. absurd (found_sectors d found at none);
          reads_alone = tt;
          settles = settles moment calls.content calls.lent (omega (arith, calls.failures.ok));
          calls = λ some. calls_on (f a).calls (f d).calls (f b).calls _ at.read.called.calls.ok calls.calls.ok (calls_of size found.side found.live One (f a).content at.selects one);
          cause = calls.cause.ok ∙ at.read.called.cause.ok;
        }

    failed_to : LeavesSince (f d) (f b) (SelectsEither size found.side found.live next (f d).content) → MakesCalls {T = Unit {0}} {E = Unit {0}} 4 SameAreas (f d) (f b) (m d) (m b) (Err tt) → OpensTo f m a (Err Device) b
    failed_to moment calls = record {
      opened = tt;
      begins = tt;
      version = tt;
      refused = omega (arith, calls.failures.err, at.read.called.failures.ok);
      refuses = λ e reads. inr refl;
      opens = λ z s there. refl;
      no_sectors = λ none. absurd (found_sectors d found at none);
      reads_alone = λ not_device. absurd (not_device refl);
      settles = settles moment calls.content calls.lent (omega (arith, calls.failures.err, bounded d));
      calls = λ some. calls_stop (f a).calls (f d).calls (f b).calls _ at.read.called.calls.ok calls.calls.err (calls_of size found.side found.live One (f a).content at.selects one);
      cause = subst (λ (x : FaultState). Cause x (m b)) at.read.called.cause.ok calls.cause.err;
    }

    renewing_to : (step : CommitStep) → CommitAt f m found.side next step d b → asked_at found.side step ≡ Done → OpensTo f m a (opened_at (record { from = found; next = next; step = step }) step) b
    renewing_to WriteRecord now ended = cc
    renewing_to SyncRecord now ended = cc
    renewing_to WriteGate now ended = cc
    renewing_to SyncGate now ended = cc
    renewing_to Committed now ended = renewed_to now
    renewing_to Unchanged now ended =
        let calls = unchanged_calls f m may_keep only_now size found.side found.live next at.known d b was range now in
        failed_to (unchanged_moment f m may_keep only_now size found.side found.live next at.known d b was range now) (stopped 2 4 SameAreas (f d) (f b) (m d) (m b) tt (omega arith) calls)
    renewing_to InDoubt now ended =
        failed_to (doubt_moment f m may_keep only_now size found.side found.live next at.known d b was range now) (doubt_calls f m may_keep only_now size found.side found.live next at.known d b was range now)

  -- ---- what was refused
  module _ (b : D) where
    read_to : (n : ℕ) (e : Refusal) → ReadSo f m n a b → ReadsAs (f a).content e → 0 < length (f a).content → OpenRefused (f a) e (f b) → OpenCalls (f a).content e (f a).calls (f b).calls → CausedRefusal (m a) e (m b) → OpensTo f m a (Err e) b
    read_to n e read reads some refused calls cause =
        let alone = called_alone n (f a) (f b) (m a) (m b) (Ok tt) (only_now a) (bounded a) idle read.called in
        record {
          opened = tt;
          begins = tt;
          version = tt;
          refused = refused;
          refuses = λ g also. one_refusal (f a) (f b) g e also refused;
          opens = λ size s stands. absurd (none_stands (f a).content e size s reads stands);
          no_sectors = λ none. absurd (none_and_some (length (f a).content) none some);
          reads_alone = λ _. alone;
          settles = read_settled (f a) (f b) alone;
          calls = λ _. calls;
          cause = cause;
        }

    none_to : length (f a).content ≡ 0 → OpensTo f m a (Err BadShape) a
    none_to none = record {
      opened = tt;
      begins = tt;
      version = tt;
      refused = inl none;
      refuses = λ g also. one_refusal (f a) (f a) g BadShape also (inl none);
      opens = λ size s stands. absurd (none_stands (f a).content BadShape size s (inl none) stands);
      no_sectors = λ _. (refl, refl);
      reads_alone = λ _. none_read (f a) (only_now a) idle;
      settles = still_settled (f a) (only_now a) idle;
      calls = λ some. absurd (none_and_some (length (f a).content) none some);
      cause = refl;
    }

    device_to : Made f m 4 Stays a b (Err tt) → 0 < length (f a).content → OpensTo f m a (Err Device) b
    device_to made some =
        let alone = called_alone 4 (f a) (f b) (m a) (m b) (Err tt) (only_now a) (bounded a) idle made in
        record {
          opened = tt;
          begins = tt;
          version = tt;
          refused = omega (arith, made.failures.err);
          refuses = λ g also. inr refl;
          opens = λ size s stands. refl;
          no_sectors = λ none. absurd (none_and_some (length (f a).content) none some);
          reads_alone = λ not_device. absurd (not_device refl);
          settles = read_settled (f a) (f b) alone;
          calls = λ _. open_by_find (f a).content Device (f a).calls (f b).calls made.calls.err;
          cause = made.cause.err;
        }

    board_some : (size : Size) → sectors_of size ≤ length (f a).content → 0 < length (f a).content
    board_some size enough = few (length (f a).content) (sectors_of size) enough (omega arith)
      where
        few : (n k : ℕ) → k ≤ n → 8 ≤ k → 0 < n
        few n k le more = omega arith

    refused_to : (e : Refusal) → RefusedAt f m e a b → OpensTo f m a (Err e) b
    refused_to NotFormatted at = read_to 2 NotFormatted at.0 at.1 at.1.0 at.1 at.0.called.calls.ok at.0.called.cause.ok
    refused_to BadShape (inl none) = subst (λ (d : D). OpensTo f m a (Err BadShape) d) (sym none.0) (none_to none.1)
    refused_to BadShape (inr at) = read_to 2 BadShape at.0 at.2 at.1 at.2 at.0.called.calls.ok at.0.called.cause.ok
    refused_to BadRecord at = read_to 4 BadRecord at.0 at.1 (board_some at.1.1 at.1.2.1) at.1 at.0.called.calls.ok at.0.called.cause.ok
    refused_to Device at = device_to at.0 at.1
    refused_to e at = absurd at

    pub opens_to : (q : Plan) → Reached f m q a b → asked q ≡ Done → task_of q ≡ Opens → OpensTo f m a (opened_by q) b
    opens_to (Found found) at ended task = found_to b found at.0 at.1
    opens_to (Renewing k) at ended task = renewing_to b at.0 k.from k.next at.1 at.2 at.3 k.step at.4 ended
    opens_to (Refused e) at ended task = refused_to e at
    opens_to (Settling n) at ended task = cc
    opens_to (ReadingSuperblock n) at ended task = cc
    opens_to (ReadingGate size) at ended task = cc
    opens_to (ReadingRecord size side) at ended task = cc
    opens_to (Committing k) at ended task = cc
    opens_to (Formatting k) at ended task = cc
