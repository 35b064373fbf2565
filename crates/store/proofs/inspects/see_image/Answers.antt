use Rattle.std.proofs.Common.{◌≡◌, ◌≢◌, ◌∙◌, ℕ, Result, Ok, Err, Some, List, [], OnOk, IfErr, length, refl, sym, ap, subst, arith}
use Rattle.std.{specs.Prelude.{IfOk, IsErrOf}, proofs.{Math.ListN.length-replicate, lemmas.Result.err_from_is_err_and}}
use Rattle.board_model.specs.{Shapes.{Size, IsSize, ram_bytes_of}, declared.refusal.Refusal.Refusal}
use Rattle.board_model.specs.declared.refusal.Refusal.TheVariants.{Device, Memory, BadImage}
use Rattle.disk.specs.{Facts.{Content, Facts}, FaultState.FaultState}
use Rattle.image.specs.Refusals.{ReadsOn}
use Rattle.layout.specs.{Records.IsRecord, declared.{records.Record.Record, saved.Saved.Saved}}
use Rattle.store.{specs.{Opens.{IsBoard, FailsForCause}, Standing.{live_sector, saved_memory}}, proofs.Loading.{read_alone, none_read}}
use Rattle.store.specs.Inspects.{InspectRefused, IsImageSeen, KeepsImage, SeenCalls, seen_by}
use Rattle.store.proofs.inspects.see_image.Goals as goal

-- what a read of the area tells of the image: its refusal, its cause and its calls
seen_refused : (n : ℕ) (a b : Facts) (m o : FaultState) (r : Result (Unit {0}) Refusal) → ReadsOn n a m r b o → IfErr (seen_by r) (λ e. InspectRefused a e b)
seen_refused n a b m o (Ok read) on = tt
seen_refused n a b m o (Err BadImage) on = tt
seen_refused n a b m o (Err Device) on = on.refused.0
seen_refused n a b m o (Err e) on = absurd on.refused

seen_cause : (n : ℕ) (a b : Facts) (m o : FaultState) (r : Result (Unit {0}) Refusal) → ReadsOn n a m r b o → FailsForCause a m (seen_by r) b o
seen_cause n a b m o (Ok read) on = record { no_failure = on.no_failure; cause = on.unmoved }
seen_cause n a b m o (Err BadImage) on = record { no_failure = on.refused.0; cause = on.refused.1 }
seen_cause n a b m o (Err Device) on = record { no_failure = tt; cause = on.refused.1 }
seen_cause n a b m o (Err e) on = absurd on.refused

seen_calls : (size : Size) (a b : Facts) (m o : FaultState) (r : Result (Unit {0}) Refusal) → ReadsOn size.pages a m r b o → SeenCalls size (seen_by r) a.calls b.calls
seen_calls size a b m o (Ok read) on = on.calls
seen_calls size a b m o (Err BadImage) on = on.stops
seen_calls size a b m o (Err Device) on = on.stops
seen_calls size a b m o (Err e) on = absurd on.refused

pub returns-clause-reads_alone : goal.returns-clause-reads_alone
returns-clause-reads_alone g c = let did = c.read_area-read.ensures.read in read_alone _ _ (g.met.D.Disk.only_now _) did.content did.crash did.none_out did.no_fewer

pub returns-clause-refused : goal.returns-clause-refused
returns-clause-refused g c = rw c.seen.ensures (seen_refused _ _ _ _ _ c.read_area-read.result c.read_area-read.ensures.read)

pub returns-clause-cause : goal.returns-clause-cause
returns-clause-cause g c = rw c.seen.ensures (seen_cause _ _ _ _ _ c.read_area-read.result c.read_area-read.ensures.read)

pub returns-clause-calls : goal.returns-clause-calls
returns-clause-calls g c = rw c.seen.ensures (seen_calls c.args.shape.now _ _ _ _ c.read_area-read.result c.read_area-read.ensures.read)

-- the image of the record, where it keeps one
image_in : (live : Result Record Refusal) (r s : Record) (saved : Saved) → live ≡ Ok r → live ≡ Ok s → s.image ≡ Some saved → r.image ≡ Some saved
image_in live r s saved is also has = let same : r ≡ s = cc in subst (λ (x : Record). x.image ≡ Some saved) (sym same) has

keeps_image : (size : Size) (c : Content) (live : Result Record Refusal) (r : Record) (saved : Saved) → live ≡ Ok r → r.image ≡ Some saved → IfOk live (λ x. IsRecord size x (live_sector c)) → KeepsImage size c saved
keeps_image size c live r saved is has stands = (r, subst (λ (x : Result Record Refusal). IfOk x (λ y. IsRecord size y (live_sector c))) is stands, has)

refused_memory : {T : Type 0} (size : Size) (a b : Facts) (m : Result T Refusal) (e : Refusal) (saved : Saved) → m ≡ Err e → m ≡ Err Memory → IsBoard size a.content → KeepsImage size a.content saved → InspectRefused a e b
refused_memory size a b m e saved is memory board keeps = let same : e ≡ Memory = cc in subst (λ (x : Refusal). InspectRefused a x b) (sym same) (size, board, (saved, keeps))

some_bytes : (size : Size) (ram : List ℕ) → IsSize size → length ram ≡ ram_bytes_of size → ram ≢ []
some_bytes size ram is long none = let short : length ram ≡ 0 = ap length none in omega (arith, is.2, long, short)

seen_image : (size : Size) (c : Content) (saved : Saved) (ram : List ℕ) (r : Result (Unit {0}) Refusal) → KeepsImage size c saved → ram ≢ [] → OnOk r (ram ≡ saved_memory size saved c)
    → (IsErrOf r BadImage → saved_memory size saved c ≡ []) → IfOk (seen_by r) (IsImageSeen size c)
seen_image size c saved ram (Ok read) keeps some reads spoilt = (saved, keeps, λ none. some (reads ∙ none))
seen_image size c saved ram (Err BadImage) keeps some reads spoilt = (saved, keeps, spoilt refl)
seen_image size c saved ram (Err e) keeps some reads spoilt = tt

pub returns-clause-seen : goal.returns-clause-seen
returns-clause-seen g c =
    let size = c.args.shape.now in
    let content = (g.D.Disk.facts c.args.disk.now).content in
    let has : c.in-Ok.record.image ≡ Some c.in-Some.saved = c.in-Some.is in
    let long : length c.read_area-read.new.ram ≡ ram_bytes_of size = c.read_area-read.ensures.length ∙ ap (λ (m : List ℕ). length m) c.in_ok-ram.ensures.zeros ∙ length-replicate _ _ in
    rw c.seen.ensures
    (seen_image size content c.in-Some.saved c.read_area-read.new.ram c.read_area-read.result (keeps_image size content c.args.live.now c.in-Ok.record c.in-Some.saved c.in-Ok.is has c.requires.live)
    (some_bytes size c.read_area-read.new.ram c.requires.board.0.0 long) c.read_area-read.ensures.reads c.read_area-read.ensures.spoilt)

pub returns-clause-unsynced : goal.returns-clause-unsynced
returns-clause-unsynced g c = c.read_area-read.ensures.read.unsynced

-- no image stands
pub returns-in_default-clause-seen : goal.returns-in_default-clause-seen
returns-in_default-clause-seen g c saved keeps = c.in_default.not-Ok keeps.0 (c.requires.exact keeps.0 keeps.1)

pub returns-in_default-image-clause-seen : goal.returns-in_default-image-clause-seen
returns-in_default-image-clause-seen g c saved keeps = c.in_default-image.not-Some saved (image_in c.args.live.now c.in-Ok.record keeps.0 saved c.in-Ok.is (c.requires.exact keeps.0 keeps.1) keeps.2)

pub returns-in_default-clause-refused : goal.returns-in_default-clause-refused
returns-in_default-clause-refused g c = tt

pub returns-in_default-clause-reads_alone : goal.returns-in_default-clause-reads_alone
returns-in_default-clause-reads_alone g c = none_read _ (g.met.D.Disk.only_now _) c.requires.none_out

pub returns-in_default-clause-unsynced : goal.returns-in_default-clause-unsynced
returns-in_default-clause-unsynced g c = refl

pub returns-in_default-clause-cause : goal.returns-in_default-clause-cause
returns-in_default-clause-cause g c = record { no_failure = refl; cause = refl }

pub returns-in_default-clause-calls : goal.returns-in_default-clause-calls
returns-in_default-clause-calls g c = refl

pub returns-in_default-image-clause-refused : goal.returns-in_default-image-clause-refused
returns-in_default-image-clause-refused g c = tt

pub returns-in_default-image-clause-reads_alone : goal.returns-in_default-image-clause-reads_alone
returns-in_default-image-clause-reads_alone g c = none_read _ (g.met.D.Disk.only_now _) c.requires.none_out

pub returns-in_default-image-clause-unsynced : goal.returns-in_default-image-clause-unsynced
returns-in_default-image-clause-unsynced g c = refl

pub returns-in_default-image-clause-cause : goal.returns-in_default-image-clause-cause
returns-in_default-image-clause-cause g c = record { no_failure = refl; cause = refl }

pub returns-in_default-image-clause-calls : goal.returns-in_default-image-clause-calls
returns-in_default-image-clause-calls g c = refl

-- there was no room for its memory
pub returns-in_err-ram-clause-refused : goal.returns-in_err-ram-clause-refused
returns-in_err-ram-clause-refused g c =
    let p = err_from_is_err_and c.from_residual.result c.from_residual.ensures.1 in
    let a = g.D.Disk.facts c.args.disk.now in
    let has : c.in-Ok.record.image ≡ Some c.in-Some.saved = c.in-Some.is in
    rw (p.1, p.2)
    (refused_memory c.args.shape.now a a (Err c.in_err-ram.field-0.0) c.in_err-ram.field-0.0 c.in-Some.saved refl c.in_err-ram.ensures.refused c.requires.board
    (keeps_image c.args.shape.now a.content c.args.live.now c.in-Ok.record c.in-Some.saved c.in-Ok.is has c.requires.live))

pub returns-in_err-ram-clause-seen : goal.returns-in_err-ram-clause-seen
returns-in_err-ram-clause-seen g c = let p = err_from_is_err_and c.from_residual.result c.from_residual.ensures.1 in rw p.1 tt

pub returns-in_err-ram-clause-reads_alone : goal.returns-in_err-ram-clause-reads_alone
returns-in_err-ram-clause-reads_alone g c = none_read _ (g.met.D.Disk.only_now _) c.requires.none_out

pub returns-in_err-ram-clause-unsynced : goal.returns-in_err-ram-clause-unsynced
returns-in_err-ram-clause-unsynced g c = refl

pub read_area-read-requires-clause-ram : goal.read_area-read-requires-clause-ram
read_area-read-requires-clause-ram g c κs within = ap (λ (m : List ℕ). length m) c.in_ok-ram.ensures.zeros ∙ length-replicate _ _
