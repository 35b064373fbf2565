-- What a turn of a hart, or its call, tells of the commands kept.
use Rattle.board_model.specs.{declared.{call_words.CallWords.CallWords, durable.Reason.Reason}, Durable.{Change, Reset, Suspend}, Kept.Kept}
use Rattle.board_model.specs.Shapes.{Size, ram_bytes_of}
use Rattle.std.proofs.Common.{◌≡◌, ◌⊎◌, ◌-◌, ◌<◌, ◌≤◌, ℕ, suc, inl, inr, true, false, List, Option, None, Some, Result, Ok, Err, length, refl, sym, ◌∙◌, ap, subst, arith}
use Rattle.store.specs.{Follows.FitsBoard, Views.was_refused_memory}
use Rattle.sbi_abi.specs.{Calls.call_of, declared.{call.Call.Call, ret.SbiError.{SbiError, TheVariants.{Failed, NotSupported, Denied}}}}
use Rattle.sbi_abi.specs.declared.call.Call.TheVariants as calls
use Rattle.susp.specs.{Dozes.doze_of, declared.sleeps.Sleep.{Sleep, TheVariants.{ToRam, ToDisk}}}
use Rattle.sbi.specs.{declared.{resets.ResetType.ResetType, words.Word.Word}, Resets.reset_of, Words.{ends, word_of_sleep}}
use Rattle.sbi_calls.specs.declared.words.{Turned.{Turned, TheVariants.{Made, Durable}}, Did.TheVariants.Next}
use Rattle.machine.specs.{Machine.{Machine, hart_at}, Turns.{MakesTurn, MakesOneCall, calling}, Shows.{HasHart, own_line}}
use Rattle.sbi.specs.declared.words.Word.TheVariants as words
use Rattle.sbi.specs.declared.words.LifeEnd.TheVariants as life_ends
use Rattle.machine.specs.declared.line.MachineLine.TheVariants as shown
use Rattle.script_lang.specs.declared.line.Line.{Line}
use Rattle.script_lang.specs.declared.line.Line.TheVariants as lines
use Rattle.disk.specs.FaultState.{FaultState}
use Rattle.board.specs.Turns as boards
use Rattle.bench_report.specs.Views.{SimStore, SimBoard, store_in, machine_in, store_size, store_facts, store_fault_state}
use Rattle.bench_report.specs.{Bench.{DiskState, Formatted, BenchLife, Bench}, Happens.{shows, out_of_memory, off, on_with, has_machine}}
use Rattle.bench_report.{specs.{Commands.Issued, Steps.{CallReported, GuestCall, TurnStep, CallStep}}, proofs.Came.{has_other, comes}}
use Rattle.bench_report.specs.Turns.{refused, AnswersError, HartCommand, Resets, dozes, BenchFallsAsleep, BenchSleeps, BenchSleepsBy, BenchMakesCall, ComesTo, IsLastTurn, GuestTurns}
use Rattle.bench_report.{specs.Agree.{LifeIs, StoreIs, BoardIs, DeviceIs, OffIs, OnIs, BoardAfter, Agrees}, proofs.Issues.GoesOn}
use Rattle.bench_report.{proofs.{Dozed.{turn_size, call_size}, Lines.stands_by}, specs.declared.power.Power.{Power, TheVariants.{Off, On}}}
use Rattle.bench_report.specs.Prefix.{AskedLine, Boot, asked_by}
use Rattle.report_lines.specs.declared.printed.Answer.{Answer}
use Rattle.bench_sweep.specs.{declared.{ledgers.RunLedger.RunLedger, site.Going.Going}, Runs.{Follows, RunsCalm, HartMoves}}
use Rattle.bench_sweep.{specs.Lines.{TurnsOnce, TurnsMany, DoesLine, HartGoes, LineGoes, LineMoves}, proofs.Left.no_serials}
use Rattle.bench_sweep.{specs.Told.{is_boot, is_guest, moves_harts, powers_on, IssuedTold, IsOfHart, HartTold}, proofs.Told.issued_tells}
use Rattle.bench_sweep.proofs.Followed.{follows_same}

-- ---- what comes of what a hart did
abbrev TurnTold : Size → List ℕ → Bench → Word → Bench → Type 0
TurnTold size memory b word new = HartTold size word memory b.kept new.kept × (new.disk_state ≡ b.disk_state)

told_by : (size : Size) (memory : List ℕ) (b : Bench) (word x : Word) (new n : Bench) → word ≡ x → new ≡ n → TurnTold size memory b x n → TurnTold size memory b word new
told_by size memory b word x new n e f h =
    let P : Word → Type 0 = λ w. TurnTold size memory b w new in
    let Q : Bench → Type 0 = λ m. TurnTold size memory b x m in
    subst P (sym e) (subst Q (sym f) h)

module _ (size : Size) (h : ℕ) (life : BenchLife) (b : Bench) (word : Word) (new : Bench) (sound : GoesOn b.kept b.power) (on : b.power ≡ Some life) (sized : life.machine.size ≡ size) where
  abbrev memory : List ℕ
  memory = life.machine.memory

  -- a hart that was answered goes on
  refuses : (e : SbiError) (life2 : BenchLife) (mid : Bench) → HartTold size (words.Goes Next) memory b.kept mid.kept → mid.disk_state ≡ b.disk_state → AnswersError e h life2 mid word new → TurnTold size memory b word new
  refuses e life2 mid tells same x = told_by size memory b word (words.Goes Next) new (on_with (refused h e life2) mid) x.0 x.1 (tells, same)

  -- its command was refused
  hides : (c : Change) (n : ℕ) (old now : Kept) → IsOfHart size memory c → IssuedTold (Some n) c old now → HartTold size (words.Goes Next) memory old now
  hides c n old now of_hart (inl x) = inl x.1
  hides c n old now of_hart (inr x) = inr (refl, c, of_hart, inr (refl, x.1, x.2, x.3))

  reset : (kind : ResetType) (r : Reason) (o : Result ℕ ℕ) (mid : Bench) → Issued (Reset r) life b o mid → HartCommand o (life_ends.Reset kind) h mid word new → TurnTold size memory b word new
  reset kind r (Ok n) mid issued x =
      let t = issued_tells (Reset r) life b (Ok n) mid sound on issued in
      told_by size memory b word (words.Over (life_ends.Reset kind)) new (off mid) x.0 x.1 ((r, t.0), t.1)
  reset kind r (Err n) mid issued (life2, at, x) =
      let t = issued_tells (Reset r) life b (Err n) mid sound on issued in
      refuses Failed life2 mid (hides (Reset r) n b.kept mid.kept tt t.0) t.1 x

  resets : (asked : Result (ResetType × Reason) SbiError) → Resets asked h life b word new → TurnTold size memory b word new
  resets (Err e) x = refuses e life b (inl refl) refl x
  resets (Ok reset_it) (o, mid, issued, x) = reset reset_it.0 reset_it.1 o mid issued x

  long : (id site : ℕ) → FitsBoard life.machine.size memory id site → length memory ≡ ram_bytes_of size
  long id site fits = fits.0 ∙ ap ram_bytes_of sized

  slept : (id site opaque : ℕ) (o : Result ℕ ℕ) (mid : Bench) → FitsBoard life.machine.size memory id site → Issued (Suspend id site opaque memory) life b o mid → HartCommand o life_ends.Asleep h mid word new → TurnTold size memory b word new
  slept id site opaque (Ok n) mid fits issued x =
      let t = issued_tells (Suspend id site opaque memory) life b (Ok n) mid sound on issued in
      told_by size memory b word (words.Over life_ends.Asleep) new (off mid) x.0 x.1 ((id, site, opaque, long id site fits, t.0), t.1)
  slept id site opaque (Err n) mid fits issued (life2, at, x) =
      let t = issued_tells (Suspend id site opaque memory) life b (Err n) mid sound on issued in
      refuses Failed life2 mid (hides (Suspend id site opaque memory) n b.kept mid.kept (refl, long id site fits) t.0) t.1 x

  -- a suspension that never came to the disk
  awake : (n : ℕ) (o : Result ℕ ℕ) (mid as_was : Bench) → o ≡ Err n → mid ≡ as_was → as_was.kept ≡ b.kept → as_was.disk_state ≡ b.disk_state → HartCommand o life_ends.Asleep h mid word new → TurnTold size memory b word new
  awake n o mid as_was e is kept same x =
      let P : Result ℕ ℕ → Type 0 = λ r. HartCommand r life_ends.Asleep h mid word new in
      let y = subst P e x in
      refuses Failed y.0 mid (inl (ap (λ (m : Bench). m.kept) is ∙ kept)) (ap (λ (m : Bench). m.disk_state) is ∙ same) y.2

  -- to RAM nothing is asked of the disk
  falls : (sleep : Sleep) (site opaque : ℕ) → BenchFallsAsleep sleep site opaque h life b word new → TurnTold size memory b word new
  falls ToRam site opaque x = told_by size memory b word (word_of_sleep ToRam) new (on_with (dozes h site opaque life) b) x.0 x.1 (inl refl, refl)
  falls ToDisk site opaque (o, mid, inl x, y) = slept (hart_at life.machine h).id site opaque o mid x.0 x.1 y
  falls ToDisk site opaque (o, mid, inr (inl x), y) = awake 11 o mid (out_of_memory b) x.1 x.2 refl refl y
  falls ToDisk site opaque (o, mid, inr (inr x), y) = awake 3 o mid b x.1 x.2 refl refl y

  sleeps : (sleep : Sleep) (site opaque : ℕ) → BenchSleeps sleep site opaque h life b word new → TurnTold size memory b word new
  sleeps sleep site opaque (inl x) = refuses Denied life b (inl refl) refl x.1
  sleeps sleep site opaque (inr x) = falls sleep site opaque x.1

  sleeps_by : (asked : Result (Sleep × ℕ) SbiError) (opaque : ℕ) → BenchSleepsBy asked opaque h life b word new → TurnTold size memory b word new
  sleeps_by (Err e) opaque x = refuses e life b (inl refl) refl x
  sleeps_by (Ok asked) opaque x = sleeps asked.0 asked.1 opaque x

  makes : (call : Call) → BenchMakesCall call h life b word new → TurnTold size memory b word new
  makes (calls.SystemReset kind reason) x = resets (reset_of kind reason) x
  makes (calls.SystemSuspend kind address opaque) (asked, checked, x) = sleeps_by asked opaque x
  makes call x = refuses NotSupported life b (inl refl) refl x

  came_to : (did : Turned) → ComesTo did h life b word new → TurnTold size memory b word new
  came_to Durable x = makes (call_of (hart_at life.machine h)) x
  came_to (Made did) x = told_by size memory b word (words.Goes did) new b x.0 x.1 (inl refl, refl)

-- the memory stays
memory_stays : (did : Turned) (h : ℕ) (m n : Machine) (old new : SimStore) (word : Word) → boards.Comes did h m n old new word → n.memory ≡ m.memory
memory_stays Durable h m n old new word (doze, after, does, e) = ap (λ (k : Machine). k.memory) e ∙ does.2
memory_stays (Made did) h m n old new word x = ap (λ (k : Machine). k.memory) x.0

-- ---- on a board
-- a life of a formatted disk goes on from what it keeps, on a board of its size
linked : (size : Size) (b : Bench) (life : BenchLife) (z : Size) → b.disk_state ≡ Formatted → LifeIs size b.disk_state b.kept life z → GoesOn b.kept (Some life) × (life.machine.size ≡ size)
linked size b life z formatted is =
    let P : DiskState → Type 0 = λ m. LifeIs size m b.kept life z in
    let l = subst P formatted is in
    ((l.0, l.1), l.3 ∙ l.2)

-- a board that is on has a life
by_life : (size : Size) (b : Bench) (board : SimBoard) (X : Type 0) → OnIs size b board → ((life : BenchLife) → b.power ≡ Some life → BoardIs size b.disk_state b.kept (Some life) board → X) → X
by_life size b board X was then = go b.power refl was.0
  where
    go : (p : Option BenchLife) → b.power ≡ p → BoardIs size b.disk_state b.kept p board → X
    go None e is = absurd is
    go (Some life) e is = then life e is

-- what the line of a call says of its hart then
reports : (size : Size) (h : ℕ) (word : Word) (b : Bench) (board : SimBoard) → BoardAfter size word b board → (a : Answer) × CallReported h word b a
reports size h (words.Goes did) b board is = by_life size b board ((a : Answer) × CallReported h (words.Goes did) b a) is (λ life on at. (shows (own_line h (hart_at life.machine h) did), (life, on, refl)))
reports size h (words.Over end) b board is = (shows (shown.Called h (words.Over end)), refl)

module _ (size : Size) (b : Bench) (old new : SimBoard) (h : ℕ) (formatted : b.disk_state ≡ Formatted) where
  -- the bench then, what it tells, and the step
  abbrev Came : BenchLife → Machine → Turned → Word → Type 0
  Came life mid did word = (x : Bench) × HartMoves size b word x new × ComesTo did h (has_machine mid life) (on_with (has_machine mid life) b) word x

  -- what comes of what a hart did, once the machine is mid
  moved : (life : BenchLife) (mid : Machine) (did : Turned) (word : Word) → BoardIs size b.disk_state b.kept (Some life) old → DeviceIs size b (store_fault_state (store_in old)) (store_facts (store_in old)) → mid.size ≡ life.machine.size
      → was_refused_memory (store_in new) ≡ false → boards.Comes did h mid (machine_in new) (store_in old) (store_in new) word → Came life mid did word
  moved life mid did word is device same enough came =
      let life2 : BenchLife = has_machine mid life in
      let b2 : Bench = on_with life2 b in
      let link = linked size b life (store_size (store_in old)) formatted is.0.0 in
      let x = comes size b2 life2 h (machine_in new) (store_in old) (store_in new) refl (has_other size b life mid (store_in old) same is.0) device did word came in
      let told = came_to size h life2 b2 word x.0 link.0 refl (same ∙ link.1) did x.1 in
      let P : List ℕ → Type 0 = λ m. HartTold size word m b.kept x.0.kept in
      (x.0, record { told = subst P (sym (memory_stays did h mid (machine_in new) (store_in old) (store_in new) word came)) told.0; same = told.1; slots = x.3; enough = x.4 enough; after = stands_by size word x.0 new x.2 }, x.1)

  -- a turn
  abbrev pub TurnMoves : Word → Type 0
  TurnMoves word = (x : Bench) × HartMoves size b word x new × TurnsOnce h b word x

  pub turn_moves : (word : Word) → OnIs size b old → was_refused_memory (store_in new) ≡ false → boards.TurnsHeld h (machine_in old) (machine_in new) (store_in old) (store_in new) word → TurnMoves word
  turn_moves word was enough (mid, did, turned, came) = by_life size b old (TurnMoves word) was turns_by
    where
      turns_by : (life : BenchLife) → b.power ≡ Some life → BoardIs size b.disk_state b.kept (Some life) old → TurnMoves word
      turns_by life on is =
          let M : Machine → Type 0 = λ m. MakesTurn h m mid did in
          let x = moved life mid did word is was.1 (turn_size (doze_of h (machine_in old).doze) h (machine_in old) mid did turned ∙ ap (λ (k : Machine). k.size) is.1) enough came in
          (x.0, x.1, (life, on, (mid, did, subst M is.1 turned, x.2)))

  -- a call with these registers, of a hart that the board has
  module _ (asked : CallWords) (has : HasHart (machine_in old) h) where
    abbrev pub Does : Bench → Type 0
    Does n = (a : Answer) × CallStep b.power h asked b a n

    abbrev pub CallMoves : Option Word → Type 0
    CallMoves None = (n : Bench) × OnIs size n new × (n.kept ≡ b.kept) × (n.disk_state ≡ b.disk_state) × (n.payloads ≡ b.payloads) × (n.growths ≡ b.growths) × Does n
    CallMoves (Some word) = was_refused_memory (store_in new) ≡ false → (n : Bench) × HartMoves size b word n new × Does n

    does : (life : BenchLife) (mid : Machine) (by : Option Turned) (a : Answer) (n : Bench) → b.power ≡ Some life → machine_in old ≡ life.machine → MakesOneCall h asked life.machine mid by
        → GuestCall by h (has_machine mid life) (on_with (has_machine mid life) b) a n → Does n
    does life mid by a n on same makes_it did =
        let H : Machine → Type 0 = λ m. HasHart m h in
        let P : Option BenchLife → Type 0 = λ p. CallStep p h asked b a n in
        (a, subst P (sym on) (inl (subst H same has, mid, by, makes_it, did)))

    called : (life : BenchLife) (mid : Machine) (by : Option Turned) (said : Option Word) → b.power ≡ Some life → BoardIs size b.disk_state b.kept (Some life) old → DeviceIs size b (store_fault_state (store_in old)) (store_facts (store_in old)) → mid.size ≡ life.machine.size
        → MakesOneCall h asked life.machine mid by → boards.ComesOf by h mid (machine_in new) (store_in old) (store_in new) said → CallMoves said
    called life mid None said on is device same makes_it (machine, still, none) =
        let n : Bench = on_with (has_machine mid life) b in
        let Q : SimStore → Type 0 = λ store. StoreIs size b.disk_state b.kept (has_machine mid life) store in
        let S : SimStore → Type 0 = λ store. DeviceIs size b (store_fault_state store) (store_facts store) in
        let C : Option Word → Type 0 = CallMoves in
        let did = does life mid None (shows (shown.NotStarted h)) n on is.1 makes_it (refl, refl) in
        subst C (sym none) (n, ((subst Q (sym still) (has_other size b life mid (store_in old) same is.0), machine), subst S (sym still) device), refl, refl, refl, refl, did)
    called life mid (Some did) said on is device same makes_it (word, came, some) =
        let C : Option Word → Type 0 = CallMoves in
        subst C (sym some) (λ enough.
        (let m = moved life mid did word is device same enough came in
        let r = reports size h word m.0 new m.1.after in
        (m.0, m.1, does life mid (Some did) r.0 m.0 on is.1 makes_it (word, m.2, r.1))))

    pub call_moves : (said : Option Word) → OnIs size b old → boards.CallsHeld h asked (machine_in old) (machine_in new) (store_in old) (store_in new) said → CallMoves said
    call_moves said was (mid, by, makes_it, came) = by_life size b old (CallMoves said) was calls_by
      where
        calls_by : (life : BenchLife) → b.power ≡ Some life → BoardIs size b.disk_state b.kept (Some life) old → CallMoves said
        calls_by life on is =
            let M : Machine → Type 0 = λ m. MakesOneCall h asked m mid by in
            let sized = call_size (doze_of h (machine_in old).doze) h (calling (hart_at (machine_in old) h) asked) (machine_in old) mid by makes_it ∙ ap (λ (k : Machine). k.size) is.1 in
            called life mid by said on is was.1 sized (subst M is.1 makes_it) came

-- ---- the ledger follows
-- one turn
pub turn_goes : (size : Size) (b : Bench) (old new : SimBoard) (h : ℕ) (word : Word) (l m : RunLedger) → OnIs size b old → Follows size b l → was_refused_memory (store_in new) ≡ false → boards.TurnsHeld h (machine_in old) (machine_in new) (store_in old) (store_in new) word
    → ((n : Bench) → Follows size b l → HartMoves size b word n new → Follows size n m) → HartGoes size b (TurnsOnce h b word) word new m
turn_goes size b old new h word l m was told enough turned followed =
    let did = turn_moves size b old new h told.formatted word was enough turned in
    record { bench = did.0; does = did.2; slots = did.1.slots; after = did.1.after; follows = followed did.0 told did.1 }

-- a call that was not made
module _ (size : Size) (b : Bench) (old new : SimBoard) (h : ℕ) (asked : CallWords) (l : RunLedger) (has : HasHart (machine_in old) h) (was : OnIs size b old) (told : Follows size b l) where
  abbrev Calls : Option Word → Type 0
  Calls said = boards.CallsHeld h asked (machine_in old) (machine_in new) (store_in old) (store_in new) said

  pub call_unmade : Calls None → LineGoes size b (λ n. (a : Answer) × CallStep b.power h asked b a n) None new l
  call_unmade held =
      let did = call_moves size b old new h told.formatted asked has None was held in
      (did.0, did.6, did.4, did.1, follows_same size b did.0 l told did.2 did.3 did.5)

  -- and one that was
  pub call_made : (word : Word) (m : RunLedger) → was_refused_memory (store_in new) ≡ false → Calls (Some word) → ((n : Bench) → Follows size b l → HartMoves size b word n new → Follows size n m) → HartGoes size b (λ n. (a : Answer) × CallStep b.power h asked b a n) word new m
  call_made word m enough held followed =
      let did = call_moves size b old new h told.formatted asked has (Some word) was held enough in
      record { bench = did.0; does = did.2; slots = did.1.slots; after = did.1.after; follows = followed did.0 told did.1 }

-- ---- turns in a line
-- Turns were made, and `left` may follow. Where the last was the last of the line, that is the line; else the line
-- comes to what those that follow come to.
pub record SoFar (h left count : ℕ) (b : Bench) (word : Word) (mid : Bench) : Type 0 where
  pub last : IsLastTurn word left mid → TurnsMany h count b word mid
  pub more : ends word ≡ false → mid.fault_state.struck ≡ false → (k : ℕ) (w : Word) (n : Bench) → GuestTurns h left mid k w n → TurnsMany h count b w n

first_turn : (h left : ℕ) (b : Bench) (word : Word) (mid : Bench) → TurnsOnce h b word mid → SoFar h left (suc left) b word mid
first_turn h left b word mid (life, on, turn) = record {
  last = λ is. (1, (life, on, word, mid, turn, inl (is, refl, refl, refl)));
  more = λ still calm k w n rest. (suc k, (life, on, word, mid, turn, inr (still, calm, k, refl, rest)));
}

next_turn : (h left count : ℕ) (b : Bench) (word : Word) (mid : Bench) (said : Word) (new : Bench) → SoFar h (suc left) count b word mid → ends word ≡ false → mid.fault_state.struck ≡ false → TurnsOnce h mid said new → SoFar h left count b said new
next_turn h left count b word mid said new far goes_on calm (life, on, turn) = record {
  last = λ is. far.more goes_on calm 1 said new (life, on, said, new, turn, inl (is, refl, refl, refl));
  more = λ still calm2 k w n rest. far.more goes_on calm (suc k) w n (life, on, said, new, turn, inr (still, calm2, k, refl, rest));
}

-- a board whose life goes on
goes_still : (size : Size) (word : Word) (b : Bench) (board : SimBoard) → ends word ≡ false → BoardAfter size word b board → OnIs size b board
goes_still size (words.Goes did) b board e is = is
goes_still size (words.Over end) b board e is = absurd (let no : ⊥ = cc in no)

-- whether a cut struck, by the disk
struck_as : (size : Size) (word : Word) (b : Bench) (board : SimBoard) → BoardAfter size word b board → b.fault_state.struck ≡ (store_fault_state (store_in board)).struck
struck_as size (words.Goes did) b board is = ap (λ (m : FaultState). m.struck) is.1.0
struck_as size (words.Over end) b board is = ap (λ (m : FaultState). m.struck) is.2.0

module _ (size : Size) (h count : ℕ) (b : Bench) where
  -- the turns so far
  abbrev pub GoesFar : ℕ → Word → SimBoard → RunLedger → Type 0
  GoesFar left word board l = HartGoes size b (SoFar h left count b word) word board l

  pub far_first : (left : ℕ) (word : Word) (board : SimBoard) (l : RunLedger) → left ≡ count - 1 → 1 ≤ count → HartGoes size b (TurnsOnce h b word) word board l → GoesFar left word board l
  far_first left word board l is some r =
      let e : suc left ≡ count = omega (arith, is, some) in
      let P : ℕ → Type 0 = λ k. SoFar h left k b word r.bench in
      record { bench = r.bench; does = subst P e (first_turn h left b word r.bench r.does); slots = r.slots; after = r.after; follows = r.follows }

  pub far_more : (left rest : ℕ) (word said : Word) (board new : SimBoard) (l m : RunLedger) → rest ≡ left - 1 → 0 < left → ends word ≡ false → (store_fault_state (store_in board)).struck ≡ false → GoesFar left word board l
      → ((x : Bench) → OnIs size x board → Follows size x l → HartGoes size x (TurnsOnce h x said) said new m) → GoesFar rest said new m
  far_more left rest word said board new l m is some on calm r turns_it =
      let e : left ≡ suc rest = omega (arith, is, some) in
      let P : ℕ → Type 0 = λ k. SoFar h k count b word r.bench in
      let t = turns_it r.bench (goes_still size word r.bench board on r.after) r.follows in
      record { bench = t.bench; does = next_turn h rest count b word r.bench said t.bench (subst P e r.does) on (struck_as size word r.bench board r.after ∙ calm) t.does; slots = t.slots ∙ r.slots; after = t.after; follows = t.follows }

  pub far_all : (left : ℕ) (word : Word) (board : SimBoard) (l : RunLedger) → (ends word ≡ true) ⊎ (left ≡ 0) ⊎ ((store_fault_state (store_in board)).struck ≡ true) → GoesFar left word board l → HartGoes size b (TurnsMany h count b word) word board l
  far_all left word board l last r = record { bench = r.bench; does = r.does.last (by last); slots = r.slots; after = r.after; follows = r.follows }
    where
      by : ((ends word ≡ true) ⊎ (left ≡ 0) ⊎ ((store_fault_state (store_in board)).struck ≡ true)) → IsLastTurn word left r.bench
      by (inl e) = inl e
      by (inr (inl e)) = inr (inl e)
      by (inr (inr e)) = inr (inr (struck_as size word r.bench board r.after ∙ e))

-- ---- a line
module _ (size : Size) (b : Bench) (line x : Line) (is : line ≡ x) where
  -- the line's step, by the harts'
  does_as : (n : Bench) → DoesLine size x b n → DoesLine size line b n
  does_as n d = let P : Line → Type 0 = λ k. DoesLine size k b n in subst P (sym is) d

  pub hart_line : (Does : Bench → Type 0) (word : Word) (board : SimBoard) (l : RunLedger) → ((n : Bench) → Does n → DoesLine size x b n) → HartGoes size b Does word board l → HartGoes size b (DoesLine size line b) word board l
  hart_line Does word board l steps r = record { bench = r.bench; does = does_as r.bench (steps r.bench r.does); slots = r.slots; after = r.after; follows = r.follows }

-- turns of a hart that the board has
pub turn_line : (size : Size) (b : Bench) (old : SimBoard) (h count : ℕ) (word : Word) (n : Bench) → HasHart (machine_in old) h → OnIs size b old → TurnsMany h count b word n → DoesLine size (lines.Turn h count) b n
turn_line size b old h count word n has was (made, turns_it) = by_life size b old (DoesLine size (lines.Turn h count) b n) was by
  where
    by : (life : BenchLife) → b.power ≡ Some life → BoardIs size b.disk_state b.kept (Some life) old → DoesLine size (lines.Turn h count) b n
    by life on is =
        let H : Machine → Type 0 = λ m. HasHart m h in
        let P : Option BenchLife → Type 0 = λ p. TurnStep p h count b (shows (shown.Turn h made word)) n in
        (shows (shown.Turn h made word), subst P (sym on) (inl (subst H is.1 has, made, word, turns_it, refl)))

-- a line whose hart the board lacks
module _ (size : Size) (b : Bench) (line x : Line) (is : line ≡ x) (board : SimBoard) (h : ℕ) (l : RunLedger) (lacks : HasHart (machine_in board) h → ⊥) (was : OnIs size b board) (told : Follows size b l) where
  off_line : ((life : BenchLife) → b.power ≡ Some life → (HasHart life.machine h → ⊥) → DoesLine size x b b) → LineGoes size b (DoesLine size line b) None board l
  off_line does = (b, does_as size b line x is b (by_life size b board (DoesLine size x b b) was by), refl, was, told)
    where
      by : (life : BenchLife) → b.power ≡ Some life → BoardIs size b.disk_state b.kept (Some life) board → DoesLine size x b b
      by life on at = let H : Machine → Type 0 = λ m. HasHart m h in does life on (λ has. lacks (subst H (sym at.1) has))

pub turn_lacks : (size : Size) (b : Bench) (line : Line) (board : SimBoard) (h count : ℕ) (l : RunLedger) → line ≡ lines.Turn h count → (HasHart (machine_in board) h → ⊥) → OnIs size b board → Follows size b l → LineGoes size b (DoesLine size line b) None board l
turn_lacks size b line board h count l is lacks was told = off_line size b line (lines.Turn h count) is board h l lacks was told (λ life on not.
    (let P : Option BenchLife → Type 0 = λ p. TurnStep p h count b (shows shown.Off) b in (shows shown.Off, subst P (sym on) (inr (not, refl, refl)))))

pub call_lacks : (size : Size) (b : Bench) (line : Line) (board : SimBoard) (h : ℕ) (asked : CallWords) (l : RunLedger) → line ≡ lines.Call h asked → (HasHart (machine_in board) h → ⊥) → OnIs size b board → Follows size b l → LineGoes size b (DoesLine size line b) None board l
call_lacks size b line board h asked l is lacks was told = off_line size b line (lines.Call h asked) is board h l lacks was told (λ life on not.
    (let P : Option BenchLife → Type 0 = λ p. CallStep p h asked b (shows shown.Off) b in (shows shown.Off, subst P (sym on) (inr (not, refl, refl)))))

-- ---- the board after it
-- a line of harts powers no board on
no_boot : (line : Line) → moves_harts line ≡ true → powers_on line ≡ false
no_boot line of_harts = by (asked_by line) of_harts
  where
    by : (asked : AskedLine) → is_guest asked ≡ true → is_boot asked ≡ false
    by (Boot mode) is = absurd (let no : ⊥ = cc in no)
    by asked is = refl

abbrev pub LeavesBy : Size → Option Word → SimBoard → Power → Type 0
LeavesBy size None board now = (n : Bench) → OnIs size n board → Agrees size n now
LeavesBy size (Some word) board now = (n : Bench) → BoardAfter size word n board → Agrees size n now

pub still_on : (size : Size) (said : Option Word) (board : SimBoard) → ((word : Word) → said ≡ Some word → ⊥) → LeavesBy size said board (On board)
still_on size None board none = λ n on. on
still_on size (Some word) board none = absurd (none word refl)

line_left : (size : Size) (line : Line) (b : Bench) (said : Option Word) (board : SimBoard) (old new : Going) → moves_harts line ≡ true → new.ledger.resumed ≡ old.ledger.resumed → new.bench.payloads ≡ b.payloads → LeavesBy size said board new.bench.power
    → LineGoes size b (DoesLine size line b) said board new.ledger → LineMoves size line b old new
line_left size line b None board old new of_harts serials same leaves (n, does, kept, on, follows) = record { bench = n; does = does; resumed = no_serials line does.0 old.ledger new.ledger (no_boot line of_harts) serials; runs = record { agrees = leaves n on; same = same ∙ sym kept; follows = follows } }
line_left size line b (Some word) board old new of_harts serials same leaves r = record { bench = r.bench; does = r.does; resumed = no_serials line r.does.0 old.ledger new.ledger (no_boot line of_harts) serials; runs = record { agrees = leaves r.bench r.after; same = same ∙ sym r.slots; follows = r.follows } }

-- on a board that is on
pub line_on : (size : Size) (line : Line) (b : Bench) (was now : SimBoard) (said is_said : Option Word) (old new : Going) → moves_harts line ≡ true → new.ledger.resumed ≡ old.ledger.resumed → new.bench.payloads ≡ old.bench.payloads → old.bench.power ≡ On was → said ≡ is_said
    → LeavesBy size is_said now new.bench.power → ((c : Bench) → OnIs size c was → Follows size c old.ledger → LineGoes size c (DoesLine size line c) said now new.ledger) → RunsCalm size b old → LineMoves size line b old new
line_on size line b was now said is_said old new of_harts serials same is e leaves goes r =
    let P : Power → Type 0 = λ p. Agrees size b p in
    let L : Option Word → Type 0 = λ o. LeavesBy size o now new.bench.power in
    line_left size line b said now old new of_harts serials (same ∙ r.same) (subst L (sym e) leaves) (goes b (subst P is r.agrees) r.follows)

-- on one that is off nothing is done
off_does : (size : Size) (line : Line) (b : Bench) → moves_harts line ≡ true → b.power ≡ None → DoesLine size line b b
off_does size (lines.Turn h n) b of_harts off = let P : Option BenchLife → Type 0 = λ p. TurnStep p h n b (shows shown.Off) b in (shows shown.Off, subst P (sym off) (refl, refl))
off_does size (lines.Call h asked) b of_harts off = let P : Option BenchLife → Type 0 = λ p. CallStep p h asked b (shows shown.Off) b in (shows shown.Off, subst P (sym off) (refl, refl))
off_does size line b of_harts off = absurd (let no : ⊥ = cc in no)

is_off : (size : Size) (b : Bench) (power : Power) → ((board : SimBoard) → power ≡ On board → ⊥) → Agrees size b power → b.power ≡ None
is_off size b (Off disk) none is = is.0
is_off size b (On board) none is = absurd (none board refl)

pub line_off : (size : Size) (line : Line) (b : Bench) (going : Going) → moves_harts line ≡ true → ((board : SimBoard) → going.bench.power ≡ On board → ⊥) → RunsCalm size b going → LineMoves size line b going going
line_off size line b going of_harts none r =
    let does = off_does size line b of_harts (is_off size b going.bench.power none r.agrees) in
    record { bench = b; does = does; resumed = no_serials line does.0 going.ledger going.ledger (no_boot line of_harts) refl; runs = record { agrees = r.agrees; same = r.same; follows = r.follows } }
