-- What comes of turns and calls of harts on a board, in the words of the bench.
use Rattle.std.proofs.Common.{◌≡◌, ◌⊎◌, ℕ, zero, suc, inl, inr, List, true, false, Option, None, Some, Result, Ok, Err, length, slice_set, refl, sym, ◌∙◌, ap, subst, arith}
use Rattle.std.proofs.lemmas.{Bool.cases_lt, List.set-get_or}
use Rattle.board_model.specs.{Durable.{Change, Reset, Suspend}, Shapes.{Size, IsValidAddress, ram_bytes_of}, Views.number_of_refusal}
use Rattle.board_model.specs.declared.{durable.Reason.Reason, refusal.Refusal.Refusal}
use Rattle.board_model.specs.declared.refusal.Refusal.TheVariants.{Device, Down, Memory, BadShape, JournalFull}
use Rattle.hart.specs.State.{ArchState, answered, never_started}
use Rattle.hsm.specs.Views.{listed}
use Rattle.store.specs.{Lives.{Life as StoreLife, Applied, Refused, Suspended, SuspendRefused}, Follows.FitsBoard, Opens.CausedRefusal}
use Rattle.store.specs.{Views.{life_of, doubt_of, was_refused_memory}, Answers.CountedRefusal, Asked.Asked}
use Rattle.susp.specs.{Checks.IsChecked, Sleeps.{FallsAsleepBy, SleepsBy as StoreSleeps, Answers}, Dozes.{dozing, doze_of}}
use Rattle.susp.specs.declared.{buses.{Bus.Bus, Doze.Doze}, sleeps.Sleep.{Sleep, TheVariants.{ToRam, ToDisk}}}
use Rattle.sbi_abi.specs.{Answers.error_of, Calls.call_of, declared.{call.Call.Call, ret.SbiError.SbiError}}
use Rattle.sbi_abi.specs.declared.ret.SbiError.TheVariants.{Failed, NotSupported, Denied}
use Rattle.sbi_abi.specs.declared.call.Call.TheVariants as calls
use Rattle.sbi.specs.{declared.{resets.ResetType.ResetType, words.LifeEnd.LifeEnd}, Words.{ends, word_of_sleep}, Resets.reset_of}
use Rattle.sbi.specs.{Helds.{Refuses as Refused_to, EndsReset, EndsSleep, MakesReset, SleepsIn, HeldIn}, declared.words.Word.Word}
use Rattle.sbi.specs.declared.words.LifeEnd.TheVariants as life_ends
use Rattle.sbi_calls.specs.declared.words.{Turned.{Turned, TheVariants.{Made, Durable}}, Did.TheVariants.Next}
use Rattle.machine.specs.{Machine.{Machine, hart_at}, Durables.{MakesCall as MachineCall}}
use Rattle.sbi.specs.declared.words.Word.TheVariants as words
use Rattle.board.specs.Turns as boards
use Rattle.bench_report.specs.{Views.{SimStore, IsLife, IsAs, store_size, store_fault_state, store_facts}, Bench.{BenchLife, Bench}}
use Rattle.bench_report.specs.{Happens.{out_of_memory, off, on_with, has_machine, acknowledged}, Commands.Issued, Sides.SidesAre}
use Rattle.bench_report.specs.Turns.{refused, AnswersError, HartCommand, Resets, SuspendIssued, IsAlone, dozes, BenchSleeps, BenchSleepsBy, BenchMakesCall, ComesTo, GuestTurn, IsLastTurn, GuestTurns}
use Rattle.bench_report.{specs.Agree.{StoreIs, DeviceIs, IsOver}, proofs.{Adapted.{calm as untouched}, Dozed.turn_size}}
use Rattle.bench_report.proofs.{Growths.issued_keeps, Remembered.turns_before, Sides.starved_sides}
use Rattle.bench_report.proofs.Commanded.{Running, follows_with, sized_for, reported_end, reported_err, reported_up, reported_down, again, calm_device, still_sides, unmoved}

-- the store of a life that its own command ended
abbrev pub IsEnded : Size → Bench → SimStore → Type 0
IsEnded size b store = (b.power ≡ None) × IsOver size b.disk_state b.kept store × DeviceIs size b (store_fault_state store) (store_facts store)

-- a board after what is said of a turn or a call
abbrev pub Stands : Size → Word → Bench → Machine → SimStore → Type 0
Stands size (words.Goes did) b m store = Running size b m store
Stands size (words.Over end) b m store = IsEnded size b store

-- the machine whose hart h is answered with the error
abbrev answering : ℕ → SbiError → Machine → Machine
answering h e m = record m { harts = slice_set m.harts h (answered (hart_at m h) (error_of (Err e)) 0) }

-- the board with another machine of its size
pub has_other : (size : Size) (b : Bench) (life : BenchLife) (m : Machine) (store : SimStore) → m.size ≡ life.machine.size → StoreIs size b.disk_state b.kept life store → StoreIs size b.disk_state b.kept (has_machine m life) store
has_other size b life m store same is = (follows_with size b.disk_state b.kept life m (store_size store) same is.0, is.1)

-- ---- how often memory was refused
-- the store was refused memory, or the bench counts no more refusals of it
abbrev pub CountsRefused : SimStore → Bench → Bench → Type 0
CountsRefused store b x = was_refused_memory store ≡ false → x.growths ≡ b.growths

-- a command of hart h, which the store was asked for on a board that is on
module _ (size : Size) (b : Bench) (life : BenchLife) (h : ℕ) (n : Machine) (old new : SimStore) (on : b.power ≡ Some life) (was : StoreIs size b.disk_state b.kept life old) (device : DeviceIs size b (store_fault_state old) (store_facts old))
    (t : ArchState) (doze : Option Doze) (made : n ≡ record life.machine { doze = doze; harts = slice_set life.machine.harts h t }) where
  -- it came to that
  abbrev pub Came : (Word → Bench → Type 0) → Word → Type 0
  Came step word =
      (x : Bench) × step word x × Stands size word x n new × (x.payloads ≡ b.payloads) × CountsRefused new b x

  by_held : (step : Word → Bench → Type 0) (held reported : Word) → held ≡ reported → Came step reported → Came step held
  by_held step held reported e came = subst (Came step) (sym e) came

  -- the hart was answered so, and goes on
  goes : (e : SbiError) (mid : Bench) → doze ≡ life.machine.doze → Running size mid life.machine new → t ≡ answered (hart_at life.machine h) (error_of (Err e)) 0
      → (next : BenchLife) × (mid.power ≡ Some next) × Running size (on_with (refused h e next) mid) n new
  goes e mid still (next, at, store, same, now) is =
      let F : ArchState → Machine = λ s. record life.machine { doze = doze; harts = slice_set life.machine.harts h s } in
      let G : Option Doze → Machine = λ d. record (answering h e life.machine) { doze = d } in
      (next, at, (refused h e next, refl, (follows_with size mid.disk_state mid.kept next (answering h e next.machine) (store_size new) refl store.0, store.1), made ∙ ap F is ∙ ap G still ∙ ap (answering h e) same, now))

  -- it was refused by its arguments
  refuses : (e : SbiError) (held : Word) → Refused_to e (hart_at life.machine h) t held → doze ≡ life.machine.doze → new ≡ old → Came (λ word x. AnswersError e h life b word x) held
  refuses e held (is, at) still same =
      let Q : SimStore → Type 0 = λ store. StoreIs size b.disk_state b.kept life store in
      let S : SimStore → Type 0 = λ store. DeviceIs size b (store_fault_state store) (store_facts store) in
      let did = goes e b still (life, on, subst Q (sym same) was, refl, subst S (sym same) device) is in
      let next : did.0 ≡ life = one did.0 did.1 in
      let P : BenchLife → Type 0 = λ l. Running size (on_with (refused h e l) b) n new in
      by_held (λ word x. AnswersError e h life b word x) held (words.Goes Next) at (on_with (refused h e life) b, (refl, refl), subst P next did.2, refl, λ _. refl)
    where
      one : (l : BenchLife) → b.power ≡ Some l → l ≡ life
      one l f = let g : Some l ≡ Some life = sym f ∙ on in let i : l ≡ life = cc in i

  -- its command was refused by the store
  fails : (n : ℕ) (said : LifeEnd) (mid : Bench) (held : Word) → doze ≡ life.machine.doze → Running size mid life.machine new → mid.payloads ≡ b.payloads → CountsRefused new b mid → Refused_to Failed (hart_at life.machine h) t held
      → Came (λ word x. HartCommand (Err n) said h mid word x) held
  fails n said mid held still is payloads counts (at, e) =
      let did = goes Failed mid still is at in
      by_held (λ word x. HartCommand (Err n) said h mid word x) held (words.Goes Next) e (on_with (refused h Failed did.0) mid, (did.0, did.1, (refl, refl)), did.2, payloads, counts)

  calm_life : life.doubt ≡ None → IsLife (life_of old) life.now life.receipts None
  calm_life none = let Q : Option Change → Type 0 = λ d. IsAs old life.now life.receipts d in subst Q none was.1

  -- ---- a reset
  resets_ok : (kind : ResetType) (r : Reason) (k : ℕ) (held : Word) → Asked Applied old (Reset r) (Ok k) new → held ≡ words.Over (life_ends.Reset kind) → Came (λ word x. Resets (Ok (kind, r)) h life b word x) held
  resets_ok kind r k held asked e =
      let did = reported_end size b life (Reset r) old new (life_of old) on was device asked.stays.board asked.stays.length asked.stays.no_fewer calm_life life.doubt refl k
      (λ none. (asked.answered none).life) asked.down (λ none. (asked.answered none).cause) (λ none. ((asked.answered none).written, (asked.answered none).leaves.acknowledged.kept)) in
      let mid = acknowledged (Reset r) life b in
      by_held (λ word x. Resets (Ok (kind, r)) h life b word x) held (words.Over (life_ends.Reset kind)) e (off mid, (Ok k, mid, did.0, (refl, refl)), (refl, did.1, did.2), refl, λ _. refl)

  resets_err : (kind : ResetType) (r : Reason) (e : Refusal) (held : Word) → doze ≡ life.machine.doze → Asked Applied old (Reset r) (Err e) new → Refused_to Failed (hart_at life.machine h) t held → Came (λ word x. Resets (Ok (kind, r)) h life b word x) held
  resets_err kind r e held still asked refused =
      let did = reported_err size b life (Reset r) old new (life_of old) on was device asked.stays.board asked.stays.length asked.stays.no_fewer calm_life life.doubt refl e
      (λ none. (asked.answered none).life) asked.down (λ none. (asked.answered none).cause) (λ none. (asked.answered none).counts) asked.untouched in
      let grows = issued_keeps life.doubt (Reset r) life b (Err (number_of_refusal e)) did.0 did.1 in
      let last = fails (number_of_refusal e) (life_ends.Reset kind) did.0 held still did.2 did.3 (λ _. grows) refused in
      (last.0, (Err (number_of_refusal e), did.0, did.1, last.1), last.2, last.3, last.4)

  resets_by : (kind : ResetType) (r : Reason) (o : Result ℕ Refusal) (held : Word) → doze ≡ life.machine.doze → Asked Applied old (Reset r) o new → EndsReset kind o (hart_at life.machine h) t held → Came (λ word x. Resets (Ok (kind, r)) h life b word x) held
  resets_by kind r (Ok k) held still asked ended = resets_ok kind r k held asked ended.1
  resets_by kind r (Err e) held still asked ended = resets_err kind r e held still asked ended

  resets : (asked : Result (ResetType × Reason) SbiError) (held : Word) → doze ≡ life.machine.doze → MakesReset asked (hart_at life.machine h) t old new held → Came (λ word x. Resets asked h life b word x) held
  resets (Err e) held still x = refuses e held x.0 still x.1
  resets (Ok reset) held still (o, asked, ended) = resets_by reset.0 reset.1 o held still asked ended

  -- ---- a suspension
  module _ (id site opaque : ℕ) (memory : List ℕ) (address : IsValidAddress life.machine.size site) where
    abbrev Fits : Type 0
    Fits = FitsBoard life.machine.size memory id site

    abbrev command : Change
    command = Suspend id site opaque memory

    fits_or_not : Fits ⊎ (Fits → ⊥)
    fits_or_not = elim (cases_lt id life.machine.size.harts) [
      | inl lt ↦ elim (cases_lt (length memory) (ram_bytes_of life.machine.size)) [
        | inl less ↦ inr (λ fits. omega (arith, fits.0, less))
        | inr more ↦ elim (cases_lt (ram_bytes_of life.machine.size) (length memory)) [
          | inl less ↦ inr (λ fits. omega (arith, fits.0, less))
          | inr few ↦ inl (omega (arith, more, few), lt, address)
        ]
      ]
      | inr past ↦ inr (λ fits. omega (arith, fits.1, past))
    ]

    -- the refusal left the store as it was, where it is neither the disk's nor for memory
    abbrev Keeps_store : Refusal → Type 0
    Keeps_store e = (e ≡ Device → ⊥) → (e ≡ Down → ⊥) → (e ≡ Memory → ⊥) → new ≡ old

    -- the command was refused so, and the life goes on
    abbrev Suspending : ℕ → Type 0
    Suspending k =
        (x : Bench) × SuspendIssued Fits command life b (Err k) x × Running size x life.machine new × (x.payloads ≡ b.payloads)
        × CountsRefused new b x

    module _ (r : Result ℕ Refusal) (asked : Asked (Suspended Fits) old command r new) where
      abbrev seen : StoreLife
      seen = record (life_of old) { found = (life_of new).found }

      none_of : life.doubt ≡ None → doubt_of old ≡ None
      none_of none = was.1.2 ∙ none

      seen_as : life.doubt ≡ None → IsLife seen life.now life.receipts None
      seen_as none = let is = calm_life none in ((asked.answered (none_of none)).life.reseen.now ∙ is.0, is.1, is.2, is.3)

      as_it_was : life.doubt ≡ None → (e : Refusal) → (e ≡ Down → ⊥) → (e ≡ Device → ⊥) → CausedRefusal (store_fault_state old) e (store_fault_state new) → life_of new ≡ seen → (x : Bench) → x.disk_state ≡ b.disk_state → x.kept ≡ b.kept → x.power ≡ b.power
          → x.fault_state ≡ b.fault_state → x.failures ≡ b.failures → SidesAre size x (store_facts new) → Running size x life.machine new
      as_it_was none e up is cause same x disk_state kept power fault_state failures sides =
          let P : StoreLife → Type 0 = λ l. IsLife l life.now life.receipts None in
          again size b life command old new seen on was device asked.stays.board asked.stays.length asked.stays.no_fewer x disk_state kept power none (subst P (sym same) (seen_as none))
          (calm_device size b life command old new seen on was device asked.stays.board asked.stays.length asked.stays.no_fewer x fault_state failures sides (untouched e (store_fault_state old) (store_fault_state new) cause up is))

      still : new ≡ old → SidesAre size b (store_facts new)
      still unmoved_store = still_sides size b life command old new seen on was device asked.stays.board asked.stays.length asked.stays.no_fewer unmoved_store

      unfit : life.doubt ≡ None → (Fits → ⊥) → (e : Refusal) → (e ≡ Down → ⊥) → (e ≡ Device → ⊥) → (e ≡ Memory → ⊥) → Keeps_store e → CausedRefusal (store_fault_state old) e (store_fault_state new) → life_of new ≡ seen → Suspending 3
      unfit none not e up is room keeps cause same = (b, inr (inr (not, refl, refl)), as_it_was none e up is cause same b refl refl refl refl refl (still (keeps is up room)), refl, λ _. refl)

      issued : Fits → (e : Refusal) → ((x : Bench) × Issued command life b (Err (number_of_refusal e)) x × Running size x life.machine new × (x.payloads ≡ b.payloads)) → (k : ℕ) × Suspending k
      issued fits e did =
          let grows = issued_keeps life.doubt command life b (Err (number_of_refusal e)) did.0 did.1 in
          (number_of_refusal e, (did.0, inl (fits, did.1), did.2, did.3, λ _. grows))

      goes_up : life.doubt ≡ None → Fits → (e : Refusal) → Refused seen command e (life_of new) → CausedRefusal (store_fault_state old) e (store_fault_state new) → CountedRefusal (store_facts old).failures e (store_facts new).failures → Keeps_store e → (k : ℕ) × Suspending k
      goes_up none fits e up cause counts keeps = issued fits e (reported_up size b life command old new seen on was device asked.stays.board asked.stays.length asked.stays.no_fewer seen_as none e up cause counts keeps)

      fit_err : life.doubt ≡ None → Fits → (e : Refusal) → SuspendRefused Fits seen command e (life_of new) → CausedRefusal (store_fault_state old) e (store_fault_state new) → CountedRefusal (store_facts old).failures e (store_facts new).failures
          → Keeps_store e → (e ≡ Memory → was_refused_memory new ≡ true) → (k : ℕ) × Suspending k
      fit_err none fits e (inl x) cause counts keeps remembers = goes_up none fits e x.1 cause counts keeps
      fit_err none fits e (inr (inl x)) cause counts keeps remembers = absurd (x.1 fits)
      fit_err none fits e (inr (inr (inl x))) cause counts keeps remembers =
          let up : e ≡ Down → ⊥ = λ f. (let g : Memory ≡ Down = sym x.0 ∙ f in let no : ⊥ = cc in no) in
          let is : e ≡ Device → ⊥ = λ f. (let g : Memory ≡ Device = sym x.0 ∙ f in let no : ⊥ = cc in no) in
          (11, (out_of_memory b, inr (inl (fits, refl, refl)), as_it_was none e up is cause x.3 (out_of_memory b) refl refl refl refl refl (starved_sides size (out_of_memory b) b.growths (store_facts new) refl), refl, λ none_was. absurd (let g : true ≡ false = sym (remembers x.0) ∙ none_was in let no : ⊥ = cc in no)))
      fit_err none fits e (inr (inr (inr (inl x)))) cause counts keeps remembers = absurd (let g : true ≡ false = sym x.1 ∙ (seen_as none).3 in let no : ⊥ = cc in no)
      fit_err none fits e (inr (inr (inr (inr x)))) cause counts keeps remembers = goes_up none fits e (inr (inr (inr (inl (x.0, x.1, x.2, x.3))))) cause counts keeps

      unfit_err : life.doubt ≡ None → (Fits → ⊥) → (e : Refusal) → SuspendRefused Fits seen command e (life_of new) → CausedRefusal (store_fault_state old) e (store_fault_state new) → Keeps_store e → (k : ℕ) × Suspending k
      unfit_err none not e (inl x) cause keeps = absurd (not x.0)
      unfit_err none not e (inr (inl x)) cause keeps =
          let up : e ≡ Down → ⊥ = λ f. (let g : BadShape ≡ Down = sym x.0 ∙ f in let no : ⊥ = cc in no) in
          let is : e ≡ Device → ⊥ = λ f. (let g : BadShape ≡ Device = sym x.0 ∙ f in let no : ⊥ = cc in no) in
          let room : e ≡ Memory → ⊥ = λ f. (let g : BadShape ≡ Memory = sym x.0 ∙ f in let no : ⊥ = cc in no) in
          (3, unfit none not e up is room keeps cause x.4)
      unfit_err none not e (inr (inr (inl x))) cause keeps = absurd (not x.1)
      unfit_err none not e (inr (inr (inr (inl x)))) cause keeps = absurd (let g : true ≡ false = sym x.1 ∙ (seen_as none).3 in let no : ⊥ = cc in no)
      unfit_err none not e (inr (inr (inr (inr x)))) cause keeps =
          let up : e ≡ Down → ⊥ = λ f. (let g : JournalFull ≡ Down = sym x.0 ∙ f in let no : ⊥ = cc in no) in
          let is : e ≡ Device → ⊥ = λ f. (let g : JournalFull ≡ Device = sym x.0 ∙ f in let no : ⊥ = cc in no) in
          let room : e ≡ Memory → ⊥ = λ f. (let g : JournalFull ≡ Memory = sym x.0 ∙ f in let no : ⊥ = cc in no) in
          (3, unfit none not e up is room keeps cause x.3)

    -- refused by the store
    suspend_err : (e : Refusal) → Asked (Suspended Fits) old command (Err e) new → (k : ℕ) × Suspending k
    suspend_err e asked = by life.doubt refl fits_or_not
      where
        by : (doubt : Option Change) → life.doubt ≡ doubt → Fits ⊎ (Fits → ⊥) → (k : ℕ) × Suspending k
        by None none (inl fits) = let did = asked.answered (was.1.2 ∙ none) in fit_err (Err e) asked none fits e did.life.told did.cause did.counts asked.untouched (λ f. asked.remembered (ap (λ k. Err k) f))
        by None none (inr not) = let did = asked.answered (was.1.2 ∙ none) in unfit_err (Err e) asked none not e did.life.told did.cause asked.untouched
        by (Some d) at (inl fits) =
            issued (Err e) asked fits e (reported_down size b life command old new (life_of old) on was device asked.stays.board asked.stays.length asked.stays.no_fewer calm_life d at e (asked.down d (was.1.2 ∙ at)))
        by (Some d) at (inr not) =
            (3, (b, inr (inr (not, refl, refl)), unmoved size b life command old new (life_of old) on was device asked.stays.board asked.stays.length asked.stays.no_fewer (asked.down d (was.1.2 ∙ at)).1, refl, λ _. refl))

    -- acknowledged
    suspend_ok : (k : ℕ) → Asked (Suspended Fits) old command (Ok k) new → (x : Bench) × SuspendIssued Fits command life b (Ok k) x × (x ≡ acknowledged command life b) × IsEnded size (off x) new
    suspend_ok k asked =
        let did = reported_end size b life command old new (seen (Ok k) asked) on was device asked.stays.board asked.stays.length asked.stays.no_fewer (seen_as (Ok k) asked) life.doubt refl k
        (λ none. (asked.answered none).life.told.1) asked.down (λ none. (asked.answered none).cause) (λ none. ((asked.answered none).written, (asked.answered none).leaves.acknowledged.kept)) in
        (acknowledged command life b, inl (fits life.doubt refl, did.0), refl, (refl, did.1, did.2))
      where
        fits : (doubt : Option Change) → life.doubt ≡ doubt → Fits
        fits None none = (asked.answered (was.1.2 ∙ none)).life.told.0
        fits (Some d) at = absurd (let e = (asked.down d (was.1.2 ∙ at)).0 in let no : ⊥ = cc in no)

  abbrev the_hart : ArchState
  the_hart = hart_at life.machine h

  -- the bus of the board's memory, with that doze
  abbrev bus : Option Doze → Bus
  bus d = record { ram = life.machine.memory; doze = d }

  same_doze : bus doze ≡ bus life.machine.doze → doze ≡ life.machine.doze
  same_doze e = ap (λ (x : Bus). x.doze) e

  -- once every other hart is STOPPED: to RAM
  dozes_so : (site opaque : ℕ) (held : Word) → IsAlone the_hart.id life.machine → doze ≡ Some (dozing the_hart.id site opaque) → new ≡ old → t ≡ the_hart → held ≡ word_of_sleep ToRam
      → Came (λ word x. BenchSleeps ToRam site opaque h life b word x) held
  dozes_so site opaque held alone fell same as_before at =
      let next : BenchLife = dozes h site opaque life in
      let G : Option Doze → Machine = λ d. record life.machine { doze = d; harts = slice_set life.machine.harts h t } in
      let F : ArchState → Machine = λ s. record next.machine { harts = slice_set life.machine.harts h s } in
      let H : List ArchState → Machine = λ hs. record next.machine { harts = hs } in
      let is : n ≡ next.machine = made ∙ ap G fell ∙ ap F as_before ∙ ap H (set-get_or life.machine.harts h (never_started h)) in
      let Q : SimStore → Type 0 = λ store. StoreIs size b.disk_state b.kept life store in
      let S : SimStore → Type 0 = λ store. DeviceIs size b (store_fault_state store) (store_facts store) in
      by_held (λ word x. BenchSleeps ToRam site opaque h life b word x) held (word_of_sleep ToRam) at
      (on_with next b, inr (alone, (refl, refl)), (next, refl, has_other size b life next.machine new refl (subst Q (sym same) was), is, subst S (sym same) device), refl, λ _. refl)

  -- to disk
  sleeps_by : (site opaque : ℕ) (r : Result ℕ Refusal) (fell : Result Sleep SbiError) (held : Word) → doze ≡ life.machine.doze → IsValidAddress life.machine.size site → IsAlone the_hart.id life.machine
      → Asked (Suspended (FitsBoard life.machine.size life.machine.memory the_hart.id site)) old (Suspend the_hart.id site opaque life.machine.memory) r new
      → Answers r fell → EndsSleep fell the_hart t held → Came (λ word x. BenchSleeps ToDisk site opaque h life b word x) held
  sleeps_by site opaque (Ok k) fell held still address alone asked e ended =
      let P : Result Sleep SbiError → Type 0 = λ o. EndsSleep o the_hart t held in
      let did = suspend_ok the_hart.id site opaque life.machine.memory address k asked in
      by_held (λ word x. BenchSleeps ToDisk site opaque h life b word x) held (words.Over life_ends.Asleep) (subst P e ended).1 (off did.0, inr (alone, (Ok k, did.0, did.1, (refl, refl))), did.3, ap (λ (y : Bench). y.payloads) did.2, λ _. ap (λ (y : Bench). y.growths) did.2)
  sleeps_by site opaque (Err f) fell held still address alone asked e ended =
      let P : Result Sleep SbiError → Type 0 = λ o. EndsSleep o the_hart t held in
      let did = suspend_err the_hart.id site opaque life.machine.memory address f asked in
      let last = fails did.0 life_ends.Asleep did.1.0 held still did.1.2 did.1.3 did.1.4 (subst P e ended) in
      (last.0, inr (alone, (Err did.0, did.1.0, did.1.1, last.1)), last.2, last.3, last.4)

  falls : (sleep : Sleep) (site opaque : ℕ) (fell : Result Sleep SbiError) (held : Word) → IsValidAddress life.machine.size site → IsAlone the_hart.id life.machine
      → FallsAsleepBy sleep the_hart.id site opaque (bus life.machine.doze) old fell (bus doze) new → life.machine.size ≡ store_size old → EndsSleep fell the_hart t held
      → Came (λ word x. BenchSleeps sleep site opaque h life b word x) held
  falls ToRam site opaque fell held address alone (is, dozed, same) sized ended =
      let P : Result Sleep SbiError → Type 0 = λ o. EndsSleep o the_hart t held in
      let did = subst P is ended in
      dozes_so site opaque held alone (ap (λ (x : Bus). x.doze) dozed) same did.0 did.1
  falls ToDisk site opaque fell held address alone (r, asked, answers, kept) sized ended =
      let P : Size → Type 0 = λ z. Asked (Suspended (FitsBoard z life.machine.memory the_hart.id site)) old (Suspend the_hart.id site opaque life.machine.memory) r new in
      sleeps_by site opaque r fell held (same_doze kept) address alone (subst P (sym sized) asked) answers ended

  sleeps : (kind address opaque : ℕ) (asked : Result (Sleep × ℕ) SbiError) (fell : Result Sleep SbiError) (held : Word) → IsChecked life.machine.size kind address asked
      → StoreSleeps life.machine.size.harts the_hart.id asked opaque (listed life.machine.table.states) (bus life.machine.doze) old fell (bus doze) new → life.machine.size ≡ store_size old → EndsSleep fell the_hart t held
      → Came (λ word x. BenchSleepsBy asked opaque h life b word x) held
  sleeps kind address opaque (Err e) fell held checked (is, kept, same) sized ended =
      let P : Result Sleep SbiError → Type 0 = λ o. EndsSleep o the_hart t held in refuses e held (subst P is ended) (same_doze kept) same
  sleeps kind address opaque (Ok asked) fell held checked (inl (busy, is, kept, same)) sized ended =
      let P : Result Sleep SbiError → Type 0 = λ o. EndsSleep o the_hart t held in
      let did = refuses Denied held (subst P is ended) (same_doze kept) same in
      (did.0, inl (busy, did.1), did.2, did.3, did.4)
  sleeps kind address opaque (Ok asked) fell held checked (inr (alone, so)) sized ended =
      let Q : ℕ → Type 0 = λ a. IsValidAddress life.machine.size a in
      falls asked.0 asked.1 opaque fell held (subst Q (sym checked.1) (valid checked)) alone so sized ended
    where
      valid : IsChecked life.machine.size kind address (Ok asked) → IsValidAddress life.machine.size address
      valid x = x.2

  -- ---- the call
  suspends : (kind address opaque : ℕ) (held : Word) → SleepsIn life.machine.size.harts kind address opaque the_hart t life.machine.table (bus life.machine.doze) (bus doze) old new held → life.machine.size ≡ store_size old
      → Came (λ word x. (asked : Result (Sleep × ℕ) SbiError) × IsChecked life.machine.size kind address asked × BenchSleepsBy asked opaque h life b word x) held
  suspends kind address opaque held (fell, alone, ended) sized =
      let P : Size → Type 0 = λ z. IsChecked z kind address alone.asked in
      let checked = subst P (sym sized) alone.checked in
      let did = sleeps kind address opaque alone.asked fell held checked alone.slept sized ended in
      (did.0, (alone.asked, checked, did.1), did.2, did.3, did.4)

  makes : (call : Call) (held : Word) → HeldIn life.machine.size.harts call the_hart t life.machine.table (bus life.machine.doze) (bus doze) old new held → life.machine.size ≡ store_size old → Came (λ word x. BenchMakesCall call h life b word x) held
  makes (calls.SystemReset kind reason) held x sized = resets (reset_of kind reason) held (same_doze x.1) x.0
  makes (calls.SystemSuspend kind address opaque) held x sized = suspends kind address opaque held x sized
  makes call held x sized = refuses NotSupported held x.0 (same_doze x.2) x.1

-- ---- what comes of what a hart did, and the bench counts what the store was refused
abbrev pub Comes_counting : Size → (Word → Bench → Type 0) → Bench → Word → Machine → SimStore → Type 0
Comes_counting size step b word n new =
    (x : Bench) × step word x × Stands size word x n new × (x.payloads ≡ b.payloads) × CountsRefused new b x

module _ (size : Size) (b : Bench) (life : BenchLife) (h : ℕ) (n : Machine) (old new : SimStore) (on : b.power ≡ Some life) (was : StoreIs size b.disk_state b.kept life old) (device : DeviceIs size b (store_fault_state old) (store_facts old)) where
  called : (held : Word) → MachineCall h life.machine n old new held → Comes_counting size (λ word x. ComesTo Durable h life b word x) b held n new
  called held (doze, after, is, e) =
      let F : Machine = record life.machine { doze = doze; harts = slice_set life.machine.harts h after.hart } in
      let made : n ≡ F = e ∙ ap (λ x. record { size = life.machine.size; memory = after.memory; doze = doze; harts = slice_set life.machine.harts h after.hart; table = x }) is.1
      ∙ ap (λ y. record { size = life.machine.size; memory = y; doze = doze; harts = slice_set life.machine.harts h after.hart; table = life.machine.table }) is.2 in
      let P : List ℕ → Type 0 = λ m. HeldIn life.machine.size.harts (call_of (hart_at life.machine h)) (hart_at life.machine h) after.hart life.machine.table
      (record { ram = life.machine.memory; doze = life.machine.doze }) (record { ram = m; doze = doze }) old new held in
      makes size b life h n old new on was device after.hart doze made (call_of (hart_at life.machine h)) held (subst P is.2 is.0) (sized_for size b.disk_state b.kept life (store_size old) was.0)

  pub comes : (did : Turned) (word : Word) → boards.Comes did h life.machine n old new word → Comes_counting size (λ word x. ComesTo did h life b word x) b word n new
  comes Durable word made = called word made
  comes (Made did) word (same, still, e) =
      let P : Word → Type 0 = λ w. Comes_counting size (λ word x. ComesTo (Made did) h life b word x) b w n new in
      let Q : SimStore → Type 0 = λ store. StoreIs size b.disk_state b.kept life store in
      let S : SimStore → Type 0 = λ store. DeviceIs size b (store_fault_state store) (store_facts store) in
      subst P (sym e) (b, (refl, refl), (life, on, subst Q (sym still) was, same, subst S (sym still) device), refl, λ _. refl)

-- ---- turns
turn : (size : Size) (h : ℕ) (b : Bench) (life : BenchLife) (n : Machine) (old new : SimStore) (word : Word) → b.power ≡ Some life → StoreIs size b.disk_state b.kept life old → DeviceIs size b (store_fault_state old) (store_facts old)
    → boards.TurnsHeld h life.machine n old new word → Comes_counting size (λ word x. GuestTurn h life b word x) b word n new
turn size h b life n old new word on was device (m, did, turned, came) =
    let same : m.size ≡ life.machine.size = turn_size (doze_of h life.machine.doze) h life.machine m did turned in
    let rest = comes size (on_with (has_machine m life) b) (has_machine m life) h n old new refl (has_other size b life m old same was) device did word came in
    (rest.0, (m, did, turned, rest.1), rest.2, rest.3, rest.4)

struck_as : (size : Size) (word : Word) (b : Bench) (m : Machine) (store : SimStore) → Stands size word b m store → b.fault_state.struck ≡ (store_fault_state store).struck
struck_as size (words.Goes did) b m store (life, on, is, same, device) = ap (λ x. x.struck) device.0
struck_as size (words.Over end) b m store (off, is, device) = ap (λ x. x.struck) device.0

runs : (size : Size) (word : Word) (b : Bench) (m : Machine) (store : SimStore) → ends word ≡ false → Stands size word b m store → Running size b m store
runs size (words.Goes did) b m store e is = is
runs size (words.Over end) b m store e is = absurd (let no : ⊥ = cc in no)

pub turns : (size : Size) (h count : ℕ) (b : Bench) (m n : Machine) (old new : SimStore) (made : ℕ) (word : Word) → Running size b m old → boards.TurnsManyHeld h count m n old new made word
    → Comes_counting size (λ word x. GuestTurns h count b made word x) b word n new
turns size h zero b m n old new made word is x = absurd x
turns size h (suc count) b m n old new made word (life, on, was, same, device) (mid, store, first, turned, more) =
    let P : Machine → Type 0 = λ k. boards.TurnsHeld h k mid old store first in
    let one = turn size h b life mid old store first on was device (subst P same turned) in
    go one more (λ x rest runs_on after. turns size h count x mid n store new rest word runs_on after)
  where
    go : Comes_counting size (λ word x. GuestTurn h life b word x) b first mid store
        → ((boards.IsLastHeld first count store × (n ≡ mid) × (new ≡ store) × (made ≡ 1) × (word ≡ first)) ⊎ ((ends first ≡ false) × ((store_fault_state store).struck ≡ false) × (rest : ℕ) × (made ≡ suc rest) × boards.TurnsManyHeld h count mid n store new rest word))
        → ((x : Bench) (rest : ℕ) → Running size x mid store → boards.TurnsManyHeld h count mid n store new rest word → Comes_counting size (λ word y. GuestTurns h count x rest word y) x word n new)
        → Comes_counting size (λ word x. GuestTurns h (suc count) b made word x) b word n new
    go (x, did, stands, payloads, counts) (inl (last, e, f, k, w)) others =
        let M : Machine → Type 0 = λ y. Stands size first x y new in
        let S : SimStore → Type 0 = λ y. Stands size first x mid y in
        let W : Word → Type 0 = λ y. Stands size y x n new in
        (x, (life, on, first, x, did, inl (is_last last, k, w, refl)), subst W (sym w) (subst M (sym e) (subst S (sym f) stands)), payloads, λ none. counts (sym (ap was_refused_memory f) ∙ none))
      where
        is_last : boards.IsLastHeld first count store → IsLastTurn first count x
        is_last (inl t) = inl t
        is_last (inr (inl z)) = inr (inl z)
        is_last (inr (inr s)) = inr (inr (struck_as size first x mid store stands ∙ s))
    go (x, did, stands, payloads, counts) (inr (still, calm, rest, k, more)) others =
        let last = others x rest (runs size first x mid store still stands) more in
        (last.0, (life, on, first, x, did, inr (still, struck_as size first x mid store stands ∙ calm, rest, k, last.1)), last.2, last.3 ∙ payloads, λ none. last.4 none ∙ counts (turns_before h count mid n store new rest word more none))
