-- What a run leaves, and what a power-on that keeps its image finds of it.
use Rattle.std.proofs.Common.{◌≡◌, ◌≤◌, ◌⊎◌, ℕ, inl, inr, true, false, List, [], ◌∷◌, Option, None, Some, Result, Ok, Err, OnOk, refl, sym, ◌∙◌, ap, subst, arith, length}
use Rattle.std.{specs.Prelude.{IfSome, is_some, if◌then◌else◌, length}, proofs.lemmas.List.{append-nil, Elements.{All-cons, All-nil}}}
use Rattle.board_model.{proofs.Attempts.attempt_image, specs.Durable.{DurableState, Image, Change, Attempt, IsWhole, after, refusal_of}}
use Rattle.board_model.specs.{Kept.{Kept, MayKeep, found_of}, Plains.{HasMemory, state_in, IsPlainOf}, Shapes.{Size, IsSize, ram_bytes_of}}
use Rattle.board_model.specs.{Views.{head_of, durable_of}, declared.{boot_mode.BootMode.BootMode, durable.{Durable.Durable, Trial.Trial}}}
use Rattle.board_model.specs.declared.{durable.ImageHead.ImageHead, plain.Plain.Plain}
use Rattle.board_model.specs.declared.boot_mode.BootMode.TheVariants as modes
use Rattle.disk.specs.{Facts.IsLeft, FaultState.{Armed, Unarmed, FaultArmed, CutArmed, FaultState, Cause, fault_state_left}}
use Rattle.disk.specs.declared.device.ArmedFault.{ArmedFault}
use Rattle.simdisk.specs.declared.SimDisk.{SimDisk}
use Rattle.board.specs.{Boots.PayloadsFit, Moments.attempts_of}
use Rattle.bench_report.specs.{declared.power.{OffDisk.OffDisk, Power.{Power, TheVariants.{Off, On}}}, Commands.{Writes, Issued, IssuesAll}}
use Rattle.bench_report.specs.{Views.{SimBoard, store_in, facts, fault_state, store_now}, Uncut.TellsIts, Lives.Shows, Steps.Step}
use Rattle.bench_report.specs.{Bench.{DiskState, Formatted, BenchLife, Bench, no_payloads}, declared.live.LiveBench.LiveBench}
use Rattle.bench_report.specs.Happens.{FailsByFault, acknowledged, armed_with, in_doubt, off, on_with, says, settled, unpowered, has_machine}
use Rattle.bench_report.{specs.PowerOns.{life_begun, IsBooted, Boots, Opens, ShowsFound, IsOpenRefusal, PowersOn}, proofs.Sides.sides_stay}
use Rattle.bench_report.{specs.Agree.{BoardIs, OffIs, OnIs, Agrees, IsUnstruck, Matches}, proofs.Determined.found_as}
use Rattle.bench_report.proofs.{Ended.{left_on, cut_leaves}, KeptDisks.{GoesOn as KeepsOn, less}, Issues.{GoesOn, IsSound}}
use Rattle.bench_report.specs.Prefix.{AskedLine, Boot, asked_by}
use Rattle.report_lines.specs.declared.printed.{Answer.Answer, Printed.Printed}
use Rattle.report_lines.specs.declared.printed.Printed.TheVariants as printed
use Rattle.script_lang.specs.declared.line.Line.{Line}
use Rattle.script_lang.specs.declared.line.Line.TheVariants as lines
use Rattle.bench_sweep.specs.{declared.{ledgers.RunLedger.RunLedger, site.Going.Going}, Ledgers.Tells, Lines.LineMoves, Made.shows}
use Rattle.bench_sweep.specs.{Resumes.{asked_resumes, line_resumes, Resumes}, declared.site.Site.Site, Swept.IsPlainLine}
use Rattle.bench_sweep.specs.Runs.{TellsWhole, Follows, Runs, RunsAt, RunsCalm, LeftOff, IsSpoilt, FindsState, Finds, PowerFinds}
use Rattle.bench_sweep.{specs.Told.{is_boot, moves_harts, powers_on, LineTold}, proofs.Followed.whole_found}
use Rattle.bench_sweep.proofs.Told.{line_tells}

-- ---- a power cut
pub left_off : KeepsOn → (size : Size) (b : Bench) (old new : SimDisk) → OffIs size b old → IsLeft (facts old) (facts new) → fault_state new ≡ fault_state_left (fault_state old) → OffIs size (unpowered b) new
left_off goes_on size b old new off left m = (
  refl,
  left_on goes_on size b.disk_state b.kept old new off.1 (less old new (cut_leaves old new left)),
  (ap fault_state_left off.2.0 ∙ sym m, omega (arith, off.2.1, left.failures), omega (arith, off.2.2), sides_stay size b (facts old) (facts new) (cut_leaves old new left) off.2.3),
)

-- a ledger that tells the same
tells_on : (size : Size) (b : Bench) (was ledger : RunLedger) → Follows size b was → ((kept : Kept) → Tells was kept → Tells ledger kept) → Follows size b ledger
tells_on size b was ledger f tells = record {
  formatted = f.formatted;
  kept = record { tells = tells b.kept f.kept.tells; whole = f.kept.whole; doubt = f.kept.doubt };
  enough = f.enough;
}

-- what a cut leaves of a site's disk, with a ledger that tells the same
pub left_by : (size : Size) (b : Bench) (site : Site) (disk : OffDisk) (slots : List (List ℕ)) (ledger : RunLedger) → RunsAt size b site → OffIs size (unpowered b) disk.disk → slots ≡ site.payloads → ((kept : Kept) → Tells site.ledger kept → Tells ledger kept)
    → LeftOff size (unpowered b) disk slots ledger
left_by size b site disk slots ledger r cut same tells =
    let f = tells_on size b site.ledger ledger r.follows tells in
    record { off = cut; same = same ∙ r.same; follows = record { formatted = f.formatted; kept = f.kept; enough = f.enough }; left = refl }

-- a cut or a failure is armed
pub armed_runs : (size : Size) (b : Bench) (old new : Going) (fault is : ArmedFault) → fault ≡ is → RunsCalm size b old → ((z : Size) (c : Bench) → Agrees z c old.bench.power → Agrees z (armed_with fault c) new.bench.power) → new.bench.payloads ≡ old.bench.payloads
    → new.ledger ≡ old.ledger → RunsCalm size (armed_with is b) new
armed_runs size b old new fault is e r arms slots ledger =
    let B : ArmedFault → Type 0 = λ f. Agrees size (armed_with f b) new.bench.power in
    let L : RunLedger → Type 0 = λ l. TellsWhole size l b.kept in record {
      agrees = subst B e (arms size b r.agrees);
      same = slots ∙ r.same;
      follows = record { formatted = r.follows.formatted; kept = subst L (sym ledger) r.follows.kept; enough = r.follows.enough };
      calm = r.calm;
    }

-- the board was copied, with its payloads and the ledger
pub copied_runs : (size : Size) (b : Bench) (old new : Going) → RunsCalm size b old → Agrees size b new.bench.power → new.bench.payloads ≡ old.bench.payloads → ((kept : Kept) → Tells old.ledger kept → Tells new.ledger kept) → RunsCalm size b new
copied_runs size b old new r agrees same tells = record { agrees = agrees; same = same ∙ r.same; follows = tells_on size b old.ledger new.ledger r.follows tells; calm = r.calm }

-- no cut has struck the board's own disk either
pub unstruck : (size : Size) (b : Bench) (power : Power) → Agrees size b power → b.fault_state.struck ≡ false → IsUnstruck power
unstruck size b (Off off) agrees calm = refl
unstruck size b (On board) agrees calm = ap (λ (m : FaultState). m.struck) (sym agrees.1.0) ∙ calm

-- the board is off
pub off_runs : (size : Size) (b : Bench) (going : Going) (site : Site) → Runs size b going → OffIs size (off b) site.off.disk → site.payloads ≡ going.bench.payloads → site.ledger ≡ going.ledger → RunsAt size (off b) site
off_runs size b going site r agrees same ledger =
    let L : RunLedger → Type 0 = λ l. TellsWhole size l b.kept in
    record { agrees = agrees; same = same ∙ r.same; follows = record { formatted = r.follows.formatted; kept = subst L (sym ledger) r.follows.kept; enough = r.follows.enough } }

sound_of : (size : Size) (b : Bench) (power : Power) → b.disk_state ≡ Formatted → Agrees size b power → IsSound b
sound_of size b power formatted agrees = (formatted, by power agrees)
  where
    life : (p : Option BenchLife) (board : SimBoard) → BoardIs size Formatted b.kept p board → GoesOn b.kept p
    life None board is = tt
    life (Some l) board is = (is.0.0.0, is.0.0.1)

    by : (power : Power) → Agrees size b power → GoesOn b.kept b.power
    by (Off disk) is = let P : Option BenchLife → Type 0 = λ p. GoesOn b.kept p in subst P (sym is.0) tt
    by (On board) is = let M : DiskState → Type 0 = λ m. BoardIs size m b.kept b.power board in life b.power board (subst M formatted is.0)

-- a line that powers no board on resumes nothing
still_resumes : (asked : AskedLine) (a : Answer) → is_boot asked ≡ false → asked_resumes asked a ≡ []
still_resumes (Boot mode) a unasked = absurd (let no : ⊥ = cc in no)
still_resumes asked a unasked = refl

same_serials : (was ledger : RunLedger) → ledger.resumed ≡ was.resumed → Resumes was ledger []
same_serials was ledger same = ap (λ (v : _). v.items) same ∙ sym (append-nil was.resumed.items)

pub not_boot : (line : Line) → ((mode : BootMode) → line ≡ lines.On mode → ⊥) → powers_on line ≡ false
not_boot (lines.On mode) not = absurd (not mode refl)
not_boot line not = refl

pub no_serials : (line : Line) (a : Answer) (was ledger : RunLedger) → powers_on line ≡ false → ledger.resumed ≡ was.resumed → Resumes was ledger (line_resumes line a)
no_serials line a was ledger unasked same =
    let P : List ℕ → Type 0 = λ xs. Resumes was ledger xs in subst P (sym (still_resumes (asked_by line) a unasked)) (same_serials was ledger same)

-- a line that moves no hart, as far as no armed cut strikes, and what it says of the state; memory was refused to none
abbrev pub Said : Size → Line → LiveBench → Answer → Option Durable → LiveBench → Type 0
Said size line old answer now new = (b : Bench) → Shows size b old → (x : Bench) × Step size line b answer x × TellsIts line answer now x × Matches size x new.power new.payloads × (x.growths ≡ b.growths)

line_runs : (size : Size) (line : Line) (b : Bench) (old new : Going) (answer : Answer) (now : Option Durable) → IsPlainLine line → moves_harts line ≡ false → RunsCalm size b old
    → ((x : Bench) × Step size line b answer x × TellsIts line answer now x × Matches size x new.bench.power new.bench.payloads × (x.growths ≡ b.growths))
    → ((z : Size) (k n : Kept) → TellsWhole z old.ledger k → LineTold line answer now k n → TellsWhole z new.ledger n)
    → ((z : Size) (k n : Kept) → TellsWhole z old.ledger k → LineTold line answer now k n → Resumes old.ledger new.ledger (line_resumes line answer)) → LineMoves size line b old new
line_runs size line b old new answer now plain none r (x, step, tells, matches, fed) follows serial =
    let told = line_tells size line b answer now x plain none (sound_of size b old.bench.power r.follows.formatted r.agrees) step tells in record {
      bench = x;
      does = (answer, step);
      resumed = serial size b.kept x.kept r.follows.kept told.0;
      runs = record { agrees = matches.0; same = matches.1; follows = record { formatted = told.1 ∙ r.follows.formatted; kept = follows size b.kept x.kept r.follows.kept told.0; enough = fed ∙ r.follows.enough } };
    }

pub said_runs : {E : Type 0} (r : Result (Unit {0}) E) (size : Size) (line : Line) (old new : Going) (answer : Answer) (now : Option Durable) → IsPlainLine line → moves_harts line ≡ false → Said size line old.bench answer now new.bench
    → OnOk r ((z : Size) (k n : Kept) → TellsWhole z old.ledger k → LineTold line answer now k n → TellsWhole z new.ledger n)
    → OnOk r ((z : Size) (k n : Kept) → TellsWhole z old.ledger k → LineTold line answer now k n → Resumes old.ledger new.ledger (line_resumes line answer)) → OnOk r ((b : Bench) → RunsCalm size b old → LineMoves size line b old new)
said_runs (Err e) size line old new answer now plain none said follows serial = tt
said_runs (Ok u) size line old new answer now plain none said follows serial = λ b r. line_runs size line b old new answer now plain none r (said b (r.agrees, r.same, r.calm)) follows serial

-- ---- a disk with nothing armed fails by itself alone
differ : {A : Type 0} (a b c : Armed) → a ≡ b → a ≡ c → (b ≡ c → ⊥) → A
differ a b c e f not = absurd (not (sym e ∙ f))

pub fails_itself : (m n : FaultState) → m ≡ fault_state_left m → Cause m n → IsSpoilt n
fails_itself m n left (inl e) = let f : n.own ≡ _ = ap (λ (x : FaultState). x.own) e in omega (arith, f)
fails_itself m n left (inr (inl x)) = differ m.armed FaultArmed Unarmed x.0 (ap (λ (y : FaultState). y.armed) left) (λ e. let no : ⊥ = cc in no)
fails_itself m n left (inr (inr (inl x))) = differ m.armed CutArmed Unarmed x.0 (ap (λ (y : FaultState). y.armed) left) (λ e. let no : ⊥ = cc in no)
fails_itself m n left (inr (inr (inr x))) = absurd (let e : true ≡ false = sym x.0 ∙ ap (λ (y : FaultState). y.struck) left in let no : ⊥ = cc in no)

-- ---- a state with its memory
same_image : (i j : Option Image) (bytes : List ℕ) → head_of i ≡ head_of j → HasMemory bytes i → HasMemory bytes j → i ≡ j
same_image None None bytes e a b = refl
same_image None (Some j) bytes e a b = cc
same_image (Some i) None bytes e a b = cc
same_image (Some i) (Some j) bytes e a b =
    let h : ◌≡◌ {A = ImageHead} (record { serial = i.serial; hart = i.hart; address = i.address; opaque = i.opaque }) (record { serial = j.serial; hart = j.hart; address = j.address; opaque = j.opaque }) = cc in
    let m : i.memory ≡ j.memory = a ∙ sym b in
    let F : ImageHead → List ℕ → Option Image = λ x y. Some (record { serial = x.serial; hart = x.hart; address = x.address; opaque = x.opaque; memory = y }) in
    ap (λ x. F x i.memory) h ∙ ap (F (record { serial = j.serial; hart = j.hart; address = j.address; opaque = j.opaque })) m

same_state : (s t : DurableState) (bytes : List ℕ) → durable_of s ≡ durable_of t → HasMemory bytes s.image → HasMemory bytes t.image → s ≡ t
same_state s t bytes e a b =
    let image : s.image ≡ t.image = same_image s.image t.image bytes (ap (λ (d : Durable). d.image) e) a b in
    let F : Durable → Option Image → DurableState = λ d i. record { slot = d.slot; reason = d.reason; next = d.next; trial = d.trial; image = i } in
    ap (λ d. F d s.image) e ∙ ap (F (durable_of t)) image

pub plain_is : (s : DurableState) (d : Durable) (bytes : List ℕ) (p : Plain) → d ≡ durable_of s → IsPlainOf d bytes p → HasMemory bytes s.image → state_in p ≡ s
plain_is s d bytes p e is has = same_state (state_in p) s bytes (is.head ∙ e) is.memory has

-- a state without an image
pub has_none : (i : Option Image) (bytes : List ℕ) → head_of i ≡ None → HasMemory bytes i
has_none None bytes e = tt
has_none (Some i) bytes e = cc

-- and with one that was loaded
pub has_loaded : (i : Option Image) (bytes : List ℕ) → (j : Image) × (i ≡ Some j) × (bytes ≡ j.memory) → HasMemory bytes i
has_loaded i bytes (j, is, loaded) = let P : Option Image → Type 0 = λ o. HasMemory bytes o in subst P (sym is) (sym loaded)

-- ---- a power-on that keeps its image
life_is : (x life : BenchLife) (b : Bench) → b.power ≡ Some x → b.power ≡ Some life → life ≡ x
life_is x life b e f = let g : Some x ≡ Some life = sym e ∙ f in cc

-- the attempt of a slot on trial was acknowledged, or the disk failed in it
module _ (z : Size) (s : DurableState) (b : Bench) where
  abbrev start : Bench
  start = on_with (life_begun s z) b

  abbrev GoesFrom : Result ℕ ℕ → Bench → Type 0
  GoesFrom o mid =
      ((k : ℕ) × (o ≡ Ok k) × (life : BenchLife) × (mid.power ≡ Some life) × (life.now.image ≡ s.image) × (mid.fault_state ≡ b.fault_state) × (mid.disk_state ≡ b.disk_state))
      ⊎ ((k : ℕ) × (o ≡ Err k) × (m : FaultState) × Cause b.fault_state m × (mid.fault_state ≡ m))

  -- what follows from the answer to the attempt
  abbrev Then : Result ℕ ℕ → Bench → Result ℕ ℕ → Bench → Type 0
  Then first m o mid = ((n : ℕ) × (first ≡ Ok n) × IssuesAll [] m o mid) ⊎ ((n : ℕ) × (first ≡ Err n) × (o ≡ Err n) × (mid ≡ m))

  failed_in : (first : Result ℕ ℕ) (k : ℕ) (m n : Bench) (o : Result ℕ ℕ) (mid : Bench) → first ≡ Err k → n.fault_state ≡ b.fault_state → FailsByFault n m → Then first m o mid → GoesFrom o mid
  failed_in first k m n o mid err same fails (inl x) = absurd (let e : Err k ≡ Ok x.0 = sym err ∙ x.1 in let no : ⊥ = cc in no)
  failed_in first k m n o mid err same fails (inr (j, is, e, at)) =
      let C : FaultState → Type 0 = λ f. Cause f fails.0 in inr (j, e, fails.0, subst C same fails.1, ap (λ (x : Bench). x.fault_state) at ∙ ap (λ (x : Bench). x.fault_state) fails.2)

  wrote : (first : Result ℕ ℕ) (m : Bench) (o : Result ℕ ℕ) (mid : Bench) → Writes None Attempt (life_begun s z) start first m → Then first m o mid → GoesFrom o mid
  wrote first m o mid (inl (ok, is)) (inl (n, at, all)) =
      let e : mid ≡ acknowledged Attempt (life_begun s z) start = all.1 ∙ is in
      inl (0, all.0, record (life_begun s z) { now = after s Attempt; receipts = 1 }, ap (λ (x : Bench). x.power) e, attempt_image s s.trial, ap (λ (x : Bench). x.fault_state) e, ap (λ (x : Bench). x.disk_state) e)
  wrote first m o mid (inl (ok, is)) (inr x) = absurd (let e : Ok 1 ≡ Err x.0 = sym ok ∙ x.1 in let no : ⊥ = cc in no)
  wrote first m o mid (inr (inl w)) rest = failed_in first 5 m start o mid w.0 refl w.1 rest
  wrote first m o mid (inr (inr w)) rest = failed_in first 6 m (in_doubt Attempt (life_begun s z) start) o mid w.0 refl w.1 rest

  goes_from : (trial : Option Trial) → s.trial ≡ trial → (o : Result ℕ ℕ) (mid : Bench) → IssuesAll (attempts_of trial) start o mid → GoesFrom o mid
  goes_from None is o mid (ok, same) = inl (0, ok, life_begun s z, ap (λ (x : Bench). x.power) same, refl, ap (λ (x : Bench). x.fault_state) same, ap (λ (x : Bench). x.disk_state) same)
  goes_from (Some t) is o mid (life, on, first, m, issued, rest) =
      let I : BenchLife → Type 0 = λ l. Issued Attempt l start first m in
      by (subst I (life_is (life_begun s z) life start refl on) issued) rest
    where
      allowed : refusal_of s Attempt ≡ None
      allowed = let table : Option Trial → Option ℕ = λ o. if is_some o then None else Some 20 in ap table is

      by : Issued Attempt (life_begun s z) start first m → Then first m o mid → GoesFrom o mid
      by (inl full) rest = absurd (let e : 0 ≡ 4096 = full.0 in omega (arith, e))
      by (inr (room, w)) rest = let P : Option ℕ → Type 0 = λ r. Writes r Attempt (life_begun s z) start first m in wrote first m o mid (subst P allowed w) rest

-- the board is on
record Booted (b : Bench) (a : Answer) (new : Bench) : Type 0 where
  pub changes : List Change
  pub may : MayKeep b.kept changes
  pub shows : a.found ≡ Some (durable_of (found_of changes))
  pub line : a.line ≡ printed.On modes.Keep
  pub life : BenchLife
  pub on : new.power ≡ Some life
  pub image : life.now.image ≡ (found_of changes).image
  pub fault : new.fault_state ≡ b.fault_state
  pub disk : new.disk_state ≡ Formatted

-- slots that are empty fit into any RAM
pub empty_fit : (z : Size) → PayloadsFit z no_payloads
empty_fit z = one ([] ∷ [] ∷ [] ∷ []) (one ([] ∷ [] ∷ []) (one ([] ∷ []) (one [] (All-nil (λ (payload : List ℕ). length payload ≤ ram_bytes_of z)))))
  where
    one : (more : List (List ℕ)) → PayloadsFit z more → PayloadsFit z ([] ∷ more)
    one more rest = All-cons (λ (payload : List ℕ). length payload ≤ ram_bytes_of z) [] more (omega arith) rest

-- or it is off, and why
record Unbooted (b : Bench) (line : Printed) (new : Bench) : Type 0 where
  pub off : new.power ≡ None
  pub why : (line ≡ printed.OnRefused 11) ⊎ ((m : FaultState) × Cause b.fault_state m × (new.fault_state ≡ m))

module _ (size : Size) (b : Bench) (a : Answer) (new : Bench) (formatted : b.disk_state ≡ Formatted) (none : b.power ≡ None) (left : b.fault_state ≡ fault_state_left b.fault_state) (fits : (z : Size) → PayloadsFit z b.payloads) where
  abbrev Ended : Type 0
  Ended = Booted b a new ⊎ Unbooted b a.line new

  stands : (z : Size) (s : DurableState) (changes : List Change) → MayKeep b.kept changes → s ≡ found_of changes → ShowsFound a.found s → Boots None modes.Keep z s (settled changes b) a.line new → Ended
  stands z s changes may found shows_it (inl (fit, (o, mid, issues, booted))) = by (goes_from z s (settled changes b) s.trial refl o mid issues)
    where
      by : GoesFrom z s (settled changes b) o mid → Ended
      by (inl (k, ok, life, on, image, fault, disk)) =
          let Q : Result ℕ ℕ → Type 0 = λ r. IsBooted r modes.Keep z s mid a.line new in
          let did = subst Q ok booted in
          let same : did.0 ≡ life = life_is life did.0 mid on did.1 in
          inl (record {
            changes = changes;
            may = may;
            shows = found_as a.found s shows_it ∙ ap (λ (t : DurableState). Some (durable_of t)) found;
            line = did.2;
            life = has_machine did.3 did.0;
            on = ap (λ (x : Bench). x.power) did.5;
            image = ap (λ (l : BenchLife). l.now.image) same ∙ image ∙ ap (λ (t : DurableState). t.image) found;
            fault = ap (λ (x : Bench). x.fault_state) did.5 ∙ fault;
            disk = ap (λ (x : Bench). x.disk_state) did.5 ∙ disk ∙ formatted;
          })
      by (inr (k, err, m, cause, is)) =
          let Q : Result ℕ ℕ → Type 0 = λ r. IsBooted r modes.Keep z s mid a.line new in
          let did = subst Q err booted in
          inr (record { off = ap (λ (x : Bench). x.power) did.1; why = inr (m, cause, ap (λ (x : Bench). x.fault_state) did.1 ∙ is) })
  stands z s changes may found shows_it (inr (inl x)) = absurd (x.0 (fits z))
  stands z s changes may found shows_it (inr (inr x)) = inr (record { off = ap (λ (y : Bench). y.power) x.2 ∙ none; why = inl x.1 })

  powers : PowersOn size modes.Keep b a new → Ended
  powers (inl (s, z, mid, opens, shows_it, booted)) =
      let O : DiskState → Type 0 = λ m. Opens size m b s z mid in
      let did = subst O formatted opens in
      let S : Bench → Type 0 = λ m. Boots None modes.Keep z s m a.line new in
      stands z s did.0 did.1 did.2 shows_it (subst S did.4 booted)
  powers (inr (inl (n, refused, e, is))) = let P : DiskState → Type 0 = λ m. IsOpenRefusal m n in absurd (subst P formatted refused)
  powers (inr (inr (inl x))) = inr (record { off = ap (λ (y : Bench). y.power) x.2 ∙ none; why = inl (ap (λ (y : Answer). y.line) x.1) })
  powers (inr (inr (inr x))) =
      inr (record { off = ap (λ (y : Bench). y.power) x.1.2 ∙ none; why = inr (x.1.0, x.1.1, ap (λ (y : Bench). y.fault_state) x.1.2) })

  -- of a board that is off memory was refused
  spoilt : (disk : SimDisk) → Unbooted b a.line new → OffIs size new disk → (a.line ≡ printed.OnRefused 11) ⊎ IsSpoilt (fault_state disk)
  spoilt disk u off = by u.why
    where
      by : ((a.line ≡ printed.OnRefused 11) ⊎ ((m : FaultState) × Cause b.fault_state m × (new.fault_state ≡ m))) → (a.line ≡ printed.OnRefused 11) ⊎ IsSpoilt (fault_state disk)
      by (inl e) = inl e
      by (inr (m, cause, e)) = let P : FaultState → Type 0 = λ x. IsSpoilt x in inr (subst P (sym e ∙ off.2.0) (fails_itself b.fault_state m left cause))

  -- a store that goes on from what was found
  abbrev Stored : SimBoard → Booted b a new → Type 0
  Stored board k = FindsState size (store_in board) × ((found_of k.changes).image ≡ (store_now (store_in board)).image)

  stored : (board : SimBoard) (k : Booted b a new) → IsSize size → IsWhole size (found_of k.changes) → OnIs size new board → Stored board k
  stored board k is_size whole on =
      let M : DiskState → Type 0 = λ m. BoardIs size m new.kept new.power board in
      let P : Option BenchLife → Type 0 = λ p. BoardIs size Formatted new.kept p board in
      let is = subst P k.on (subst M k.disk on.0) in
      let image : (store_now (store_in board)).image ≡ (found_of k.changes).image = ap (λ (s : DurableState). s.image) is.0.1.0 ∙ k.image in
      let W : Option Image → Type 0 = λ o. IfSome o (λ i. length i.memory ≡ ram_bytes_of size) in
      let F : FaultState → Type 0 = λ m. m ≡ fault_state_left m in
      (record { sized = is.0.0.2; is_size = is_size; whole = subst W (sym image) whole; left = subst F (sym k.fault ∙ on.1.0) left }, sym image)

  -- and that was said
  said : (k : Booted b a new) (p : Plain) → state_in p ≡ found_of k.changes → a ≡ shows (durable_of (state_in p))
  said k p is =
      ap (λ (o : Option Durable). record { found = o; line = a.line }) (k.shows ∙ ap (λ (s : DurableState). Some (durable_of s)) (sym is))
      ∙ ap (λ (l : Printed). record { found = Some (durable_of (state_in p)); line = l }) k.line

  -- what was found is what the ledger tells
  pub finds : (ledger : RunLedger) (power : Power) (found : Option Plain) → IsSize size → TellsWhole size ledger b.kept → PowersOn size modes.Keep b a new → Agrees size new power → PowerFinds size power a.found a.line found → Finds ledger found a
  finds ledger (Off off) found is_size tells did agrees sees = elim (powers did) [
    | inl k ↦ absurd (let e : None ≡ Some k.life = sym agrees.0 ∙ k.on in let no : ⊥ = cc in no)
    | inr u ↦ absurd (sees (spoilt off.disk u agrees))
  ]
  finds ledger (On board) found is_size tells did agrees sees = elim (powers did) [
    | inr u ↦ (let P : Option BenchLife → Type 0 = λ p. BoardIs size new.disk_state new.kept p board in absurd (subst P u.off agrees.0))
    | inl k ↦ (
        let x = stored board k is_size (whole_found size ledger b.kept k.changes tells k.may) agrees in
        let p = sees (durable_of (found_of k.changes)) (found_of k.changes) k.shows refl x.1 x.0 in
        record { kept = b.kept; tells = tells.tells; plain = p.0; is = p.1; may = (k.changes, k.may, p.2); says = said k p.0 p.2 }
        )
  ]
