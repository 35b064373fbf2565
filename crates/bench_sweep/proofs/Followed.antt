-- Ledgers that follow what is told of the commands kept.
use Rattle.std.proofs.Common.{◌≡◌, ◌⊎◌, ℕ, inl, inr, Bool, true, false, List, [], ◌∷◌, ◌++◌, Option, None, Some, Result, Ok, Err, OnOk, length, refl, sym, ◌∙◌, ap, subst, if◌then◌else◌, ◌==◌, is_some}
use Rattle.std.proofs.lemmas.Bool.Decides.{Decides-eqb}
use Rattle.board_model.specs.Durable.{DurableState, Change, Slot, Reset, Suspend, Consume, Discard, Tries, Good, Attempt, refusal_of, after, IsWhole, CarriesWhole}
use Rattle.board_model.specs.{Kept.{Kept, MayKeep, TakesIn, found_of}, Shapes.Size, Plains.{image_in, state_in}, declared.plain.Plain.Plain}
use Rattle.board_model.specs.{Views.{change_in, durable_of, number_of_refusal}, declared.durable.{Entry.Entry, ImageHead.ImageHead}}
use Rattle.board_model.specs.declared.{durable.Reason.Reason, refusal.Refusal.{Refusal, TheVariants.{Memory, NoImage}}}
use Rattle.board_model.specs.declared.{plain.PlainImage.PlainImage, console_command.ConsoleCommand.ConsoleCommand}
use Rattle.board_model.{specs.ConsoleCommands.console_change, proofs.{Console.CarriesWhole-console, Steps.whole_after}}
use Rattle.board_model.specs.declared.durable.Entry.TheVariants as entries
use Rattle.report_lines.specs.declared.printed.Printed.{Printed}
use Rattle.sbi_calls.specs.declared.words.Did.{Did}
use Rattle.sbi.specs.declared.{resets.ResetType.ResetType, words.Word.Word}
use Rattle.sbi.specs.declared.words.Word.TheVariants as words
use Rattle.sbi.specs.declared.words.LifeEnd.TheVariants as life_ends
use Rattle.bench_report.specs.{Views.{SimBoard, store_in, machine_in, store_now, store_doubt}, Agree.{BoardIs, OnIs, IsOver}}
use Rattle.bench_report.specs.Bench.{DiskState, Formatted, BenchLife, Bench}
use Rattle.bench_sweep.specs.{declared.ledgers.RunLedger.RunLedger, Ledgers.{Tells, more_kept, in_doubt, settled, doubted, kept_by}}
use Rattle.bench_sweep.{proofs.KnownLedgers.found_more, specs.Runs.{TellsWhole, Follows, HartMoves}}
use Rattle.bench_sweep.specs.Told.{IssuedTold, CommandTold, IsOfHart, HartTold}

pub whole_more : (size : Size) (cs : List Change) (c : Change) → IsWhole size (found_of cs) → CarriesWhole size c → IsWhole size (found_of (cs ++ c ∷ []))
whole_more size cs c whole carries =
    let P : DurableState → Type 0 = λ s. IsWhole size s in
    subst P (sym (found_more cs c)) (whole_after size (found_of cs) c whole carries)

-- none is in doubt
none_doubted : (size : Size) (doubt : Option Change) → doubt ≡ None → (c : Change) → doubt ≡ Some c → CarriesWhole size c
none_doubted size doubt calm c is = absurd (let e : None ≡ Some c = sym calm ∙ is in let no : ⊥ = cc in no)

some_doubted : (size : Size) (c : Change) → CarriesWhole size c → (d : Change) → Some c ≡ Some d → CarriesWhole size d
some_doubted size c carries d is = let e : c ≡ d = cc in let P : Change → Type 0 = λ x. CarriesWhole size x in subst P e carries

-- the same commands are kept
pub as_before : (size : Size) (ledger : RunLedger) (old new : Kept) → TellsWhole size ledger old → new ≡ old → TellsWhole size ledger new
as_before size ledger old new was e = let P : Kept → Type 0 = λ k. TellsWhole size ledger k in subst P (sym e) was

-- a command that was answered 6 where another is in doubt, or otherwise, changed nothing
kept_same : (n : ℕ) (c : Change) (old : Kept) → ((n ≡ 6) → (d : Change) × (old.doubt ≡ Some d)) → kept_by (Some n) c old ≡ old
kept_same n c old but = by (n == 6) (Decides-eqb n 6).0
  where
    by : (t : Bool) → (t ≡ true → n ≡ 6) → (if t then doubted old.doubt c old else old) ≡ old
    by true is = ap (λ (o : Option Change). doubted o c old) (but (is refl)).1
    by false is = refl

module _ (size : Size) (l m : RunLedger) (c : Change) (old new : Kept) (was : TellsWhole size l old) (carries : CarriesWhole size c) where
  -- acknowledged
  pub acknowledged : (old.doubt ≡ None) → new ≡ more_kept c old → Tells m (more_kept c old) → TellsWhole size m new
  acknowledged calm is tells =
      let P : Kept → Type 0 = λ k. TellsWhole size m k in
      subst P (sym is) (record { tells = tells; whole = whole_more size old.changes c was.whole carries; doubt = none_doubted size old.doubt calm })

  -- in doubt
  doubts : new ≡ in_doubt c old → Tells m (in_doubt c old) → TellsWhole size m new
  doubts is tells =
      let P : Kept → Type 0 = λ k. TellsWhole size m k in
      subst P (sym is) (record { tells = tells; whole = was.whole; doubt = some_doubted size c carries })

  -- the ledger took the answer
  pub taken : (said : Option ℕ) → IssuedTold said c old new → ((kept : Kept) → Tells l kept → (said ≡ None → kept.doubt ≡ None) → Tells m (kept_by said c kept)) → TellsWhole size m new
  taken None (calm, allowed, is) takes = acknowledged calm is (takes old was.tells (λ e. calm))
  taken (Some n) (inl (but, is)) takes =
      let P : Kept → Type 0 = λ k. Tells m k in
      let tells : Tells m old = subst P (kept_same n c old but) (takes old was.tells (λ e. absurd (let no : ⊥ = cc in no))) in
      as_before size m old new (record { tells = tells; whole = was.whole; doubt = was.doubt }) is
  taken (Some n) (inr (six, calm, allowed, is)) takes =
      let P : ℕ → Type 0 = λ k. Tells m (kept_by (Some k) c old) in
      let Q : Option Change → Type 0 = λ o. Tells m (doubted o c old) in
      doubts is (subst Q calm (subst P six (takes old was.tells (λ e. absurd (let no : ⊥ = cc in no)))))

  -- the table refuses it to the ledger, which stays as it was
  pub refused : (said : Option ℕ) → IssuedTold said c old new → m ≡ l → (k : ℕ) → refusal_of (state_in l.state) c ≡ Some k → TellsWhole size m new
  refused said told same k table =
      let Q : RunLedger → Type 0 = λ x. TellsWhole size x new in
      subst Q (sym same) (by said told)
    where
      never : {A : Type 0} → refusal_of (found_of old.changes) c ≡ None → A
      never allowed =
          let P : DurableState → Type 0 = λ s. refusal_of s c ≡ Some k in
          let e : refusal_of (found_of old.changes) c ≡ Some k = subst P was.tells.state table in
          absurd (let f : None ≡ Some k = sym allowed ∙ e in let no : ⊥ = cc in no)

      by : (said : Option ℕ) → IssuedTold said c old new → TellsWhole size l new
      by None (calm, allowed, is) = never allowed
      by (Some n) (inl (but, is)) = as_before size l old new was is
      by (Some n) (inr (six, calm, allowed, is)) = never allowed

-- what an open may find is whole
module _ (size : Size) (ledger : RunLedger) (old : Kept) (changes : List Change) (was : TellsWhole size ledger old) where
  takes : (o : Option Change) → old.doubt ≡ o → TakesIn o old.changes changes → IsWhole size (found_of changes)
  takes None is x = absurd x
  takes (Some c) is x =
      let P : List Change → Type 0 = λ cs. IsWhole size (found_of cs) in
      subst P (sym x.1) (whole_more size old.changes c was.whole (was.doubt c is))

  pub whole_found : MayKeep old changes → IsWhole size (found_of changes)
  whole_found (inl e) = let P : List Change → Type 0 = λ cs. IsWhole size (found_of cs) in subst P (sym e) was.whole
  whole_found (inr x) = takes old.doubt refl x

-- an open settled what was in doubt
pub settles : (size : Size) (l m : RunLedger) (old : Kept) (changes : List Change) → TellsWhole size l old → MayKeep old changes → Tells m (settled changes) → TellsWhole size m (settled changes)
settles size l m old changes was may tells = record { tells = tells; whole = whole_found size l old changes was may; doubt = none_doubted size None refl }

-- where another is in doubt, a refusal changes nothing
pub already : (size : Size) (l m : RunLedger) (c d : Change) (n : ℕ) (kept : Kept) (said : Option ℕ) → TellsWhole size l kept → kept.doubt ≡ Some d → said ≡ Some n → ((k : Kept) → Tells l k → (said ≡ None → k.doubt ≡ None) → Tells m (kept_by said c k)) → TellsWhole size m kept
already size l m c d n kept said was is refused takes =
    let S : Option ℕ → Type 0 = λ o. (k : Kept) → Tells l k → (o ≡ None → k.doubt ≡ None) → Tells m (kept_by o c k) in
    let P : Kept → Type 0 = λ k. Tells m k in
    let tells : Tells m kept = subst P (kept_same n c kept (λ e. (d, is))) (subst S refused takes kept was.tells (λ e. absurd (let no : ⊥ = cc in no))) in
    record { tells = tells; whole = was.whole; doubt = was.doubt }

-- no image to resume
pub no_image : {A : Type 0} (s : DurableState) (p : Plain) → state_in p ≡ s → p.image ≡ None → refusal_of s Consume ≡ None → A
no_image s p is none allowed =
    let P : DurableState → Type 0 = λ t. refusal_of t Consume ≡ None in
    let by : Bool → Option ℕ = λ t. if t then None else Some 8 in
    let Q : Option PlainImage → Type 0 = λ o. by (is_some (image_in o)) ≡ None in
    let e : ◌≡◌ {A = Option ℕ} (Some 8) None = subst Q none (subst P (sym is) allowed) in
    absurd (let no : ⊥ = cc in no)

-- ---- harts
-- the command in doubt is the store's
doubt_link : (size : Size) (b : Bench) (board : SimBoard) → b.disk_state ≡ Formatted → OnIs size b board → b.kept.doubt ≡ store_doubt (store_in board)
doubt_link size b board formatted on =
    let M : DiskState → Type 0 = λ m. BoardIs size m b.kept b.power board in
    go b.power (subst M formatted on.0)
  where
    go : (p : Option BenchLife) → BoardIs size Formatted b.kept p board → b.kept.doubt ≡ store_doubt (store_in board)
    go None is = absurd is
    go (Some life) is = is.0.0.0 ∙ sym is.0.1.2

pub follows_same : (size : Size) (b new : Bench) (l : RunLedger) → Follows size b l → new.kept ≡ b.kept → new.disk_state ≡ b.disk_state → new.growths ≡ b.growths → Follows size new l
follows_same size b new l f kept disk enough = record { formatted = disk ∙ f.formatted; kept = as_before size l b.kept new.kept f.kept kept; enough = enough ∙ f.enough }

module _ (size : Size) (b new : Bench) (board : SimBoard) (l : RunLedger) (was : Follows size b l) where
  abbrev ram : List ℕ
  ram = (machine_in board).memory

  -- a hart goes on, and none of its commands is in doubt
  pub calm_hart : (did : Did) → HartMoves size b (words.Goes did) new board → store_doubt (store_in board) ≡ None → Follows size new l
  calm_hart did moved none = by moved.told
    where
      no_doubt : new.kept.doubt ≡ None
      no_doubt = doubt_link size new board (moved.same ∙ was.formatted) moved.after ∙ none

      by : HartTold size (words.Goes did) ram b.kept new.kept → Follows size new l
      by (inl e) = follows_same size b new l was e moved.same moved.enough
      by (inr (next, c, of_hart, inl x)) = follows_same size b new l was x.1 moved.same moved.enough
      by (inr (next, c, of_hart, inr (six, calm, allowed, is))) = absurd (let e : Some c ≡ None = sym (ap (λ (k : Kept). k.doubt) is) ∙ no_doubt in let no : ⊥ = cc in no)

  -- the command of an entry, with the memory of this moment
  entry_is : (e : Entry) (bytes : List ℕ) (c : Change) → c ≡ change_in e bytes → IsOfHart size ram c → (change_in e ram ≡ c) × CarriesWhole size c
  entry_is (entries.Command command) bytes c is of_hart = (sym is, carries c of_hart)
    where
      carries : (c : Change) → IsOfHart size ram c → CarriesWhole size c
      carries (Slot n) x = absurd x
      carries (Reset r) x = tt
      carries (Suspend h a o m) x = ap length x.0 ∙ x.1
      carries Consume x = absurd x
      carries Discard x = absurd x
      carries (Tries n boots) x = absurd x
      carries Good x = absurd x
      carries Attempt x = absurd x
  entry_is (entries.Suspend hart address opaque) bytes c is of_hart =
      let P : Change → Type 0 = λ x. IsOfHart size ram x in
      let at : IsOfHart size ram (Suspend hart address opaque bytes) = subst P is of_hart in
      let Q : Change → Type 0 = λ x. CarriesWhole size x in
      (ap (λ m. Suspend hart address opaque m) (sym at.0) ∙ sym is, subst Q (sym is) (ap length at.0 ∙ at.1))

  -- a hart goes on, and a command is in doubt
  pub doubted_hart : (did : Did) (e : Entry) (bytes : List ℕ) (m : RunLedger) → HartMoves size b (words.Goes did) new board → store_doubt (store_in board) ≡ Some (change_in e bytes)
      → ((z : Size) (k : Kept) (d : Change) → TellsWhole z l k → k.doubt ≡ Some d → TellsWhole z m k)
      → ((z : Size) (k n : Kept) → TellsWhole z l k → CarriesWhole z (change_in e ram) → IssuedTold (Some 6) (change_in e ram) k n → TellsWhole z m n) → Follows size new m
  doubted_hart did e bytes m moved some stays takes = by moved.told
    where
      doubt : new.kept.doubt ≡ Some (change_in e bytes)
      doubt = doubt_link size new board (moved.same ∙ was.formatted) moved.after ∙ some

      same : new.kept ≡ b.kept → Follows size new m
      same is = record {
        formatted = moved.same ∙ was.formatted;
        kept = as_before size m b.kept new.kept (stays size b.kept (change_in e bytes) was.kept (ap (λ (k : Kept). k.doubt) (sym is) ∙ doubt)) is;
        enough = moved.enough ∙ was.enough;
      }

      by : HartTold size (words.Goes did) ram b.kept new.kept → Follows size new m
      by (inl is) = same is
      by (inr (next, c, of_hart, inl x)) = same x.1
      by (inr (next, c, of_hart, inr (six, calm, allowed, is))) =
          let f : Some c ≡ Some (change_in e bytes) = sym (ap (λ (k : Kept). k.doubt) is) ∙ doubt in
          let g : c ≡ change_in e bytes = cc in
          let at = entry_is e bytes c g of_hart in
          let C : Change → Type 0 = λ x. CarriesWhole size x in
          let T : Change → Type 0 = λ x. IssuedTold (Some 6) x b.kept new.kept in
          record { formatted = moved.same ∙ was.formatted; kept = takes size b.kept new.kept was.kept (subst C (sym at.0) at.1) (subst T (sym at.0) (inr (six, calm, allowed, is))); enough = moved.enough ∙ was.enough }

  -- a life that ended: what its store stands for
  over_link : new.disk_state ≡ Formatted → IsOver size new.disk_state new.kept (store_in board) → store_now (store_in board) ≡ found_of new.kept.changes
  over_link formatted over = let M : DiskState → Type 0 = λ m. IsOver size m new.kept (store_in board) in let is = subst M formatted over in is.1

  abbrev now_after : Change → Type 0
  now_after c = store_now (store_in board) ≡ after (found_of b.kept.changes) c

  now_is : (c : Change) → new.disk_state ≡ Formatted → IsOver size new.disk_state new.kept (store_in board) → new.kept ≡ more_kept c b.kept → now_after c
  now_is c formatted over is = over_link formatted over ∙ ap (λ (k : Kept). found_of k.changes) is ∙ found_more b.kept.changes c

  -- what a board that sleeps tells of its suspension
  pub asleep : HartMoves size b (words.Over life_ends.Asleep) new board → (h a o : ℕ) × ((durable_of (store_now (store_in board))).image ≡ Some (record { serial = (found_of b.kept.changes).next; hart = h; address = a; opaque = o })) × CarriesWhole size (Suspend h a o ram) × IssuedTold None (Suspend h a o ram) b.kept new.kept
  asleep moved =
      let t = moved.told in
      let now = now_is (Suspend t.0 t.1 t.2 ram) (moved.same ∙ was.formatted) moved.after.1 t.4.2 in
      (t.0, t.1, t.2, ap (λ (s : DurableState). (durable_of s).image) now, t.3, t.4)

  -- and one that was reset of its reset
  pub reset : (kind : ResetType) → HartMoves size b (words.Over (life_ends.Reset kind)) new board → IssuedTold None (Reset (durable_of (store_now (store_in board))).reason) b.kept new.kept
  reset kind moved =
      let t = moved.told in
      let now = now_is (Reset t.0) (moved.same ∙ was.formatted) moved.after.1 t.1.2 in
      let e : t.0 ≡ (durable_of (store_now (store_in board))).reason = sym (ap (λ (s : DurableState). (durable_of s).reason) now) in
      let P : Reason → Type 0 = λ r. IssuedTold None (Reset r) b.kept new.kept in
      subst P e t.1

-- ---- what the calls of the ledger say where they are answered
abbrev pub IssuedKept : RunLedger → RunLedger → Option ℕ → Change → Type 0
IssuedKept l m said c = (size : Size) (old new : Kept) → TellsWhole size l old → CarriesWhole size c → IssuedTold said c old new → TellsWhole size m new

abbrev pub Already : RunLedger → RunLedger → Option ℕ → Type 0
Already l m said = (size : Size) (kept : Kept) (d : Change) (n : ℕ) → TellsWhole size l kept → kept.doubt ≡ Some d → said ≡ Some n → TellsWhole size m kept

-- the table refused it, since memory did not
abbrev StayedBy : RunLedger → RunLedger → Change → Refusal → Type 0
StayedBy l m c e = (m ≡ l) × ((refusal_of (state_in l.state) c ≡ Some (number_of_refusal e)) ⊎ (e ≡ Memory))

pub refused_kept : {E : Type 0} (r : Result (Unit {0}) E) (l m : RunLedger) (said : Option ℕ) (c : Change) (e : Refusal) → StayedBy l m c e → OnOk r (e ≡ Memory → ⊥) → OnOk r (IssuedKept l m said c)
refused_kept (Err f) l m said c e stayed other = tt
refused_kept (Ok u) l m said c e (same, inl table) other = λ size old new was carries told. refused size l m c old new was carries said told same (number_of_refusal e) table
refused_kept (Ok u) l m said c e (same, inr memory) other = absurd (other memory)

pub refused_already : {E : Type 0} (r : Result (Unit {0}) E) (l m : RunLedger) (said : Option ℕ) → m ≡ l → OnOk r (Already l m said)
refused_already (Err f) l m said same = tt
refused_already (Ok u) l m said same = λ size kept d n was is refused_by. (let P : RunLedger → Type 0 = λ x. TellsWhole size x kept in subst P (sym same) was)

abbrev pub ResumedKept : RunLedger → RunLedger → Type 0
ResumedKept l m = (size : Size) (old new : Kept) → TellsWhole size l old → IssuedTold None Consume old new → TellsWhole size m new

pub no_resume : {E : Type 0} (r : Result (Unit {0}) E) (l m : RunLedger) (e : Refusal) → (e ≡ Memory) ⊎ ((e ≡ NoImage) × (l.state.image ≡ None) × (m ≡ l)) → OnOk r (e ≡ Memory → ⊥) → OnOk r (ResumedKept l m)
no_resume (Err f) l m e why other = tt
no_resume (Ok u) l m e (inl memory) other = absurd (other memory)
no_resume (Ok u) l m e (inr none) other = λ size old new was told. no_image (found_of old.changes) l.state was.tells.state none.1 told.1

-- a hart goes on, and a command is in doubt
pub doubted_kept : {E : Type 0} (r : Result (Unit {0}) E) (l m : RunLedger) (board : SimBoard) (e : Entry) (bytes : List ℕ) → store_doubt (store_in board) ≡ Some (change_in e bytes)
    → OnOk r (Already l m (Some 6)) → OnOk r (IssuedKept l m (Some 6) (change_in e (machine_in board).memory))
    → OnOk r ((size : Size) (b new : Bench) (did : Did) → Follows size b l → HartMoves size b (words.Goes did) new board → Follows size new m)
doubted_kept (Err f) l m board e bytes some stays takes = tt
doubted_kept (Ok u) l m board e bytes some stays takes = λ size b new did was moved. doubted_hart size b new board l was did e bytes m moved some (λ z k d t is. stays z k d 6 t is refl) takes

-- a board sleeps
pub asleep_kept : {E : Type 0} (r : Result (Unit {0}) E) (l m : RunLedger) (board : SimBoard) (head : ImageHead) → (durable_of (store_now (store_in board))).image ≡ Some head
    → OnOk r (IssuedKept l m None (Suspend head.hart head.address head.opaque (machine_in board).memory))
    → OnOk r ((size : Size) (b new : Bench) → Follows size b l → HartMoves size b (words.Over life_ends.Asleep) new board → Follows size new m)
asleep_kept (Err f) l m board head is takes = tt
asleep_kept (Ok u) l m board head is takes = λ size b new was moved.
    (let t = asleep size b new board l was moved in
    let e : Some (record { serial = (found_of b.kept.changes).next; hart = t.0; address = t.1; opaque = t.2 }) ≡ Some head = sym t.3 ∙ is in
    let f : ◌≡◌ {A = ImageHead} (record { serial = (found_of b.kept.changes).next; hart = t.0; address = t.1; opaque = t.2 }) head = cc in
    let C : ImageHead → Type 0 = λ h. CarriesWhole size (Suspend h.hart h.address h.opaque (machine_in board).memory) in
    let I : ImageHead → Type 0 = λ h. IssuedTold None (Suspend h.hart h.address h.opaque (machine_in board).memory) b.kept new.kept in
    record { formatted = moved.same ∙ was.formatted; kept = takes size b.kept new.kept was.kept (subst C f t.4) (subst I f t.5); enough = moved.enough ∙ was.enough })

-- there is an image then
pub asleep_has : {A : Type 0} (size : Size) (b new : Bench) (board : SimBoard) (l : RunLedger) → Follows size b l → HartMoves size b (words.Over life_ends.Asleep) new board → (durable_of (store_now (store_in board))).image ≡ None → A
asleep_has size b new board l was moved none =
    let t = asleep size b new board l was moved in
    absurd (let e : Some (record { serial = (found_of b.kept.changes).next; hart = t.0; address = t.1; opaque = t.2 }) ≡ None = sym t.3 ∙ none in let no : ⊥ = cc in no)

-- a board was reset
pub reset_kept : {E : Type 0} (r : Result (Unit {0}) E) (l m : RunLedger) (board : SimBoard) (cause : Reason) → (durable_of (store_now (store_in board))).reason ≡ cause → OnOk r (IssuedKept l m None (Reset cause))
    → OnOk r ((size : Size) (b new : Bench) (kind : ResetType) → Follows size b l → HartMoves size b (words.Over (life_ends.Reset kind)) new board → Follows size new m)
reset_kept (Err f) l m board cause is takes = tt
reset_kept (Ok u) l m board cause is takes = λ size b new kind was moved.
    (let I : Reason → Type 0 = λ r. IssuedTold None (Reset r) b.kept new.kept in
    record { formatted = moved.same ∙ was.formatted; kept = takes size b.kept new.kept was.kept tt (subst I is (reset size b new board l was kind moved)); enough = moved.enough ∙ was.enough })

-- ---- a turn or a call of a hart, by its word
abbrev pub HartKept : RunLedger → RunLedger → Word → SimBoard → Type 0
HartKept l m word board = (size : Size) (b new : Bench) → Follows size b l → HartMoves size b word new board → Follows size new m

pub by_word : {E : Type 0} (r : Result (Unit {0}) E) (l m : RunLedger) (board : SimBoard) (word x : Word) → word ≡ x → OnOk r (HartKept l m x board) → OnOk r (HartKept l m word board)
by_word r l m board word x is kept = let P : Word → Type 0 = λ w. OnOk r (HartKept l m w board) in subst P (sym is) kept

pub own_kept : {E : Type 0} (r : Result (Unit {0}) E) (l m : RunLedger) (board : SimBoard) (did : Did) → OnOk r ((size : Size) (b new : Bench) (did : Did) → Follows size b l → HartMoves size b (words.Goes did) new board → Follows size new m)
    → OnOk r (HartKept l m (words.Goes did) board)
own_kept (Err f) l m board did kept = tt
own_kept (Ok u) l m board did kept = λ size b new was moved. kept size b new did was moved

pub resets_kept : {E : Type 0} (r : Result (Unit {0}) E) (l m : RunLedger) (board : SimBoard) (kind : ResetType) → OnOk r ((size : Size) (b new : Bench) (kind : ResetType) → Follows size b l → HartMoves size b (words.Over (life_ends.Reset kind)) new board → Follows size new m)
    → OnOk r (HartKept l m (words.Over (life_ends.Reset kind)) board)
resets_kept (Err f) l m board kind kept = tt
resets_kept (Ok u) l m board kind kept = λ size b new was moved. kept size b new kind was moved

-- ---- what is told in other words
-- where Told holds of what was kept before and after, the ledger follows
abbrev pub TakesKept : RunLedger → RunLedger → (Kept → Kept → Type 0) → Type 0
TakesKept l m Told = (size : Size) (old new : Kept) → TellsWhole size l old → Told old new → TellsWhole size m new

pub weaker : {E : Type 0} (r : Result (Unit {0}) E) (l m : RunLedger) (P Q : Kept → Kept → Type 0) → ((old new : Kept) → Q old new → P old new) → OnOk r (TakesKept l m P) → OnOk r (TakesKept l m Q)
weaker (Err f) l m P Q from kept = tt
weaker (Ok u) l m P Q from kept = λ size old new was told. kept size old new was (from old new told)

pub issued_told : {E : Type 0} (r : Result (Unit {0}) E) (l m : RunLedger) (said : Option ℕ) (c : Change) → ((size : Size) → CarriesWhole size c) → OnOk r (IssuedKept l m said c) → OnOk r (TakesKept l m (IssuedTold said c))
issued_told (Err f) l m said c carries kept = tt
issued_told (Ok u) l m said c carries kept = λ size old new was told. kept size old new was (carries size) told

-- a command of the console, by what it says
pub commands_kept : {E : Type 0} (r : Result (Unit {0}) E) (l m : RunLedger) (line x : Printed) (said : Option ℕ) (c : ConsoleCommand) → line ≡ x → ((old new : Kept) → CommandTold x (console_change c) old new → IssuedTold said (console_change c) old new)
    → OnOk r (IssuedKept l m said (console_change c)) → OnOk r (TakesKept l m (CommandTold line (console_change c)))
commands_kept (Err f) l m line x said c is tells kept = tt
commands_kept (Ok u) l m line x said c is tells kept = λ size old new was told.
    (let P : Printed → Type 0 = λ y. CommandTold y (console_change c) old new in kept size old new was (CarriesWhole-console c size) (tells old new (subst P is told)))
