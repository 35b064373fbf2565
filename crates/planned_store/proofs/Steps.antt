-- A call that was asked for and served makes of what was reached what the next plan has reached.
use Rattle.std.proofs.Common.{◌≡◌, ◌∙◌, inr, ◌+◌, ◌-◌, ◌≤◌, ◌<◌, ℕ, List, [], ◌∷◌, Ok, Err, OnOk, length, refl, sym, ap, subst, arith}
use Rattle.board_model.specs.{Shapes.{Size, sectors_of}, declared.refusal.Refusal.TheVariants.{NotFormatted, BadShape, BadRecord, Device}}
use Rattle.disk.specs.{Calls.MakesCalls, Facts.{Facts, Content, sector, Torn, Written, Stays, Only}, FaultState.FaultState}
use Rattle.layout.specs.{Records.{record_of, gate_of, selected_by, IsRecord}, Superblocks.{HasMagic, IsSuperblock}}
use Rattle.layout.specs.declared.records.Record.{Record}
use Rattle.store.{specs.{Opens.IsBoard, Standing.{selected, Selects}}, proofs.{Found.still_only, Reading.board_marked}}
use Rattle.planned_store.specs.{Commits.{Answer, asked_at, PutsAt, step_after}, Plans.{asked, Puts, Goes, ReadsSuperblock, ReadsRecord}}
use Rattle.planned_store.specs.{Reached.{Made, CommitAt, ReadSo, Reached}, Served.IsServed, declared.commits.CommitStep.CommitStep}
use Rattle.planned_store.specs.declared.commits.CommitStep.TheVariants.{WriteRecord, SyncRecord, WriteGate, SyncGate, Committed, Unchanged, InDoubt}
use Rattle.planned_store.{specs.declared.{commits.Selected.Selected, plans.Plan.Plan}, proofs.FormatSteps.format_on}
use Rattle.planned_store.specs.declared.plans.Plan.TheVariants.{Settling, ReadingSuperblock, ReadingGate, ReadingRecord, Found, Renewing, Committing, Formatting, Refused}
use Rattle.planned_store.proofs.Calls.{called_stays, called_ok, stopped}

module _ {D : Type 0} (f : D → Facts) (m : D → FaultState) where
  -- ---- a commit
  still_written : (at : ℕ) (bytes : List ℕ) (a b c : Content) → c ≡ b → Written at (bytes ∷ []) a b → Written at (bytes ∷ []) a c
  still_written at bytes a b c same written = subst (Written at (bytes ∷ []) a) (sym same) written

  put : (at : ℕ) (bytes put : List ℕ) (a b : Content) → put ≡ bytes → Written at (put ∷ []) a b → Written at (bytes ∷ []) a b
  put at bytes given a b is written = subst (λ (s : List ℕ). Written at (s ∷ []) a b) is written

  module _ (side : ℕ) (next : Record) (bytes got : List ℕ) (a b c : D) where
    commit_on : (step : CommitStep) (r : Answer) → CommitAt f m side next step a b → PutsAt side next step bytes → IsServed (asked_at side step) bytes (f b) (f c) (m b) (m c) r got
        → CommitAt f m side next (step_after step r) a c
    commit_on WriteRecord (Ok v) at puts served = subst (λ (d : D). CommitAt f m side next SyncRecord d c) at (put (2 + (1 - side)) (record_of next) bytes (f b).content (f c).content puts served.1, called_ok 1 (Torn (2 + (1 - side)) 1) (f b) (f c) (m b) (m c) v tt served.0)
    commit_on WriteRecord (Err e) at puts served = subst (λ (d : D). CommitAt f m side next Unchanged d c) at (stopped 1 2 (Torn (2 + (1 - side)) 1) (f b) (f c) (m b) (m c) e (omega arith) served.0)
    commit_on SyncRecord (Ok v) at puts served = record {
      written = still_written (2 + (1 - side)) (record_of next) (f a).content (f b).content (f c).content served.0.content at.0;
      only = served.1;
      called = called_stays 1 1 (Torn (2 + (1 - side)) 1) (f a) (f b) (f c) (m a) (m b) (m c) tt (Ok tt) at.1 (called_ok 1 Stays (f b) (f c) (m b) (m c) v tt served.0);
    }
    commit_on SyncRecord (Err e) at puts served =
        called_stays 1 1 (Torn (2 + (1 - side)) 1) (f a) (f b) (f c) (m a) (m b) (m c) tt (Err tt) at.1 (stopped 1 1 Stays (f b) (f c) (m b) (m c) e (omega arith) served.0)
    commit_on WriteGate (Ok v) at puts served = (b, at, put 1 (gate_of (1 - side)) bytes (f b).content (f c).content puts served.1, called_ok 1 (Torn 1 1) (f b) (f c) (m b) (m c) v tt served.0)
    commit_on WriteGate (Err e) at puts served = (b, at, stopped 1 2 (Torn 1 1) (f b) (f c) (m b) (m c) e (omega arith) served.0)
    commit_on SyncGate (Ok v) at puts served = (
      at.0,
      at.1,
      record {
        written = still_written 1 (gate_of (1 - side)) (f at.0).content (f b).content (f c).content served.0.content at.2;
        only = served.1;
        called = called_stays 1 1 (Torn 1 1) (f at.0) (f b) (f c) (m at.0) (m b) (m c) tt (Ok tt) at.3 (called_ok 1 Stays (f b) (f c) (m b) (m c) v tt served.0);
      },
    )
    commit_on SyncGate (Err e) at puts served =
        (at.0, at.1, called_stays 1 1 (Torn 1 1) (f at.0) (f b) (f c) (m at.0) (m b) (m c) tt (Err tt) at.3 (stopped 1 1 Stays (f b) (f c) (m b) (m c) e (omega arith) served.0))
    commit_on Committed r at puts served = absurd served
    commit_on Unchanged r at puts served = absurd served
    commit_on InDoubt r at puts served = absurd served

  -- ---- an open
  module _ (a b c : D) where
    read_more : {V E : Type 0} (n : ℕ) (v : V) → ReadSo f m n a b → MakesCalls {T = V} {E = E} 1 Stays (f b) (f c) (m b) (m c) (Ok v) → ReadSo f m (n + 1) a c
    read_more n v read made = record {
      only = still_only (f b) (f c) read.only made.crash made.content;
      called = called_stays n 1 Stays (f a) (f b) (f c) (m a) (m b) (m c) tt (Ok tt) read.called (called_ok 1 Stays (f b) (f c) (m b) (m c) v tt made);
    }

    read_failed : {V E : Type 0} (n : ℕ) (e : E) → n + 1 ≤ 4 → ReadSo f m n a b → MakesCalls {T = V} {E = E} 1 Stays (f b) (f c) (m b) (m c) (Err e) → Made f m 4 Stays a c (Err tt)
    read_failed n e few read made =
        stopped (n + 1) 4 Stays (f a) (f c) (m a) (m c) tt few
        (called_stays n 1 Stays (f a) (f b) (f c) (m a) (m b) (m c) tt (Err tt) read.called (stopped 1 1 Stays (f b) (f c) (m b) (m c) e (omega arith) made))

    stands : (n k : ℕ) (got : List ℕ) → ReadSo f m n a b → got ≡ sector (f b).content k → got ≡ sector (f a).content k
    stands n k got read is = is ∙ ap (λ (x : Content). sector x k) read.called.content

    some : (n : ℕ) → n ≡ length (f a).content → 0 < n → 0 < length (f a).content
    some n is more = omega (arith, is, more)

    settled : (n : ℕ) (r : Answer) (got : List ℕ) (q : Plan) → Reached f m (Settling n) a b → MakesCalls 1 Stays (f b) (f c) (m b) (m c) r × OnOk r (Only (f c).content (f c).may_leave) → Goes (Settling n) r got q → Reached f m q a c
    settled n (Ok v) got q at served went =
        subst (λ (p : Plan). Reached f m p a c) (sym went)
        (subst (λ (d : D). ReadSo f m 1 d c) at.0 (record { only = served.1; called = called_ok 1 Stays (f b) (f c) (m b) (m c) v tt served.0 }), at.1, at.2)
    settled n (Err e) got q at served went =
        subst (λ (p : Plan). Reached f m p a c) (sym went)
        (subst (λ (d : D). Made f m 4 Stays d c (Err tt)) at.0 (stopped 1 4 Stays (f b) (f c) (m b) (m c) e (omega arith) served.0), some n at.1 at.2)

    superblock_read : (n : ℕ) (got : List ℕ) (q : Plan) → n ≡ length (f a).content → 0 < n → ReadSo f m 2 a c → got ≡ sector (f a).content 0 → ReadsSuperblock n got q → Reached f m q a c
    superblock_read n got (ReadingGate size) is more read there went = (read, (subst (IsSuperblock size) there went.0, omega (arith, is, went.1)))
    superblock_read n got (Refused NotFormatted) is more read there went = (read, (some n is more, λ has. went (subst HasMagic (sym there) has)))
    superblock_read n got (Refused BadShape) is more read there went = inr (
      read,
      some n is more,
      inr (subst HasMagic there went.0, λ size board. went.1 size (subst (IsSuperblock size) (sym there) board.0) (omega (arith, is, board.1))),
    )
    superblock_read n got (Refused e) is more read there went = absurd went
    superblock_read n got q is more read there went = absurd went

    selects : (found : Selected) (size : Size) (side : ℕ) (got : List ℕ) → found.shape ≡ size → found.side ≡ side → IsRecord size found.live got → got ≡ sector (f a).content (2 + side) → IsBoard size (f a).content → side ≡ selected (f a).content
        → Selects found.shape found.side found.live (f a).content
    selects found size side got sized sided is there board selected_is =
        subst (λ (z : Size). Selects z found.side found.live (f a).content) (sym sized)
        (subst (λ (k : ℕ). Selects size k found.live (f a).content) (sym sided)
        (record { board = board.0; enough = board.1; gate = sym selected_is; is = subst (IsRecord size found.live) there is }))

    record_read : (size : Size) (side : ℕ) (got : List ℕ) (q : Plan) → ReadSo f m 4 a c → IsBoard size (f a).content → side ≡ selected (f a).content → got ≡ sector (f a).content (2 + side) → ReadsRecord size side got q → Reached f m q a c
    record_read size side got (Found found) read board is there went = (record { read = read; selects = selects found size side got went.0 went.1 went.2 there board is; known = omega (arith, went.1, is) }, went.3)
    record_read size side got (Renewing k) read board is there went = (
      c,
      record { read = read; selects = selects k.from size side got went.0 went.1 went.2 there board is; known = omega (arith, went.1, is) },
      went.3,
      went.4,
      subst (λ (step : CommitStep). CommitAt f m k.from.side k.next step c c) (sym went.5) refl,
    )
    record_read size side got (Refused BadRecord) read board is there went = (
      read,
      (board_marked size (f a).content board, size, board, λ r live. went r (subst (IsRecord size r) (sym (there ∙ ap (λ (k : ℕ). sector (f a).content (2 + k)) is)) live)),
    )
    record_read size side got (Refused e) read board is there went = absurd went
    record_read size side got q read board is there went = absurd went

    failed : (r : Plan) (q : Plan) → q ≡ Refused Device → Made f m 4 Stays a c (Err tt) → 0 < length (f a).content → Reached f m q a c
    failed r q went made more = subst (λ (p : Plan). Reached f m p a c) (sym went) (made, more)

    board_some : (size : Size) → IsBoard size (f a).content → 0 < length (f a).content
    board_some size board = few (length (f a).content) (sectors_of size) board.1 (omega arith)
      where
        few : (n k : ℕ) → k ≤ n → 8 ≤ k → 0 < n
        few n k le more = omega arith

    pub goes_on : (p q : Plan) (r : Answer) (bytes got : List ℕ) → Reached f m p a b → Puts p bytes → IsServed (asked p) bytes (f b) (f c) (m b) (m c) r got → Goes p r got q → Reached f m q a c
    goes_on (Settling n) q r bytes got at puts served went = settled n r got q at served went
    goes_on (ReadingSuperblock n) q (Ok v) bytes got at puts served went = superblock_read n got q at.1 at.2 (read_more 1 v at.0 served.0) (stands 1 0 got at.0 served.1) went
    goes_on (ReadingSuperblock n) q (Err e) bytes got at puts served went = failed q q went (read_failed 1 e (omega arith) at.0 served.0) (some n at.1 at.2)
    goes_on (ReadingGate size) q (Ok v) bytes got at puts served went =
        subst (λ (p : Plan). Reached f m p a c) (sym went) (read_more 2 v at.0 served.0, at.1, ap selected_by (stands 2 1 got at.0 served.1))
    goes_on (ReadingGate size) q (Err e) bytes got at puts served went = failed q q went (read_failed 2 e (omega arith) at.0 served.0) (board_some size at.1)
    goes_on (ReadingRecord size side) q (Ok v) bytes got at puts served went = record_read size side got q (read_more 3 v at.0 served.0) at.1 at.2 (stands 3 (2 + side) got at.0 served.1) went
    goes_on (ReadingRecord size side) q (Err e) bytes got at puts served went = failed q q went (read_failed 3 e (omega arith) at.0 served.0) (board_some size at.1)
    goes_on (Renewing k) q r bytes got at puts served went =
        subst (λ (p : Plan). Reached f m p a c) (sym went) (at.0, at.1, at.2, at.3, commit_on k.from.side k.next bytes got at.0 b c k.step r at.4 puts served)
    goes_on (Committing k) q r bytes got at puts served went =
        subst (λ (p : Plan). Reached f m p a c) (sym went) (at.0, at.1, commit_on k.from.side k.next bytes got a b c k.step r at.2 puts served)
    goes_on (Formatting k) q r bytes got at puts served went =
        subst (λ (p : Plan). Reached f m p a c) (sym went.2) (format_on f m k.shape bytes got a b c k.step went.0 r at puts served went.1)
    goes_on (Found found) q r bytes got at puts served went = absurd served
    goes_on (Refused e) q r bytes got at puts served went = absurd served
