-- What the store answers a hart of a board, as the model board has it.
use Rattle.std.proofs.Common.{◌≡◌, ◌∙◌, ◌⊎◌, ⊎_elim, inl, inr, ℕ, zero, suc, Bool, true, false, not, List, Option, None, Some, Result, Ok, Err, refl, sym, ap, subst, ◌<◌, length, [], ◌∷◌, ◌++◌, arith}
use Rattle.std.{specs.Prelude.{IfOk, slice_set, is_some}, proofs.lemmas.{Bool.cases_eq, List.{get_or-set_other, set-get_or, length-set}}}
use Rattle.board.specs.{Begins.{IsBegun, IsResumed}, Boots.{booted, life_after, payload_at}, Moments.attempts_of, PowersOn.IsOn}
use Rattle.board.specs.Turns.{TurnsHeld, Comes as ComesOf}
use Rattle.board_model.specs.Durable.{DurableState, Image, Change, Reset, Suspend, after, attempted, booted_by, fold, refusal_of}
use Rattle.board_model.specs.{Views.{number_of_refusal, reason_number}, declared.{boot_mode.BootMode.BootMode, durable.Trial.Trial}}
use Rattle.board_model.specs.{Shapes.{Size, IsValidAddress}, declared.{durable.Reason.Reason, refusal.Refusal.Refusal}}
use Rattle.board_model.specs.declared.refusal.Refusal.TheVariants.{BadShape, Device, Down, JournalFull, Memory, Over as OverRefusal}
use Rattle.board_model.proofs.Table.{of_table}
use Rattle.board_model.specs.declared.boot_mode.BootMode.TheVariants as modes
use Rattle.disk.specs.{declared.{device.{Disk.Ghosts, Lane.{Ghosts as Lanes}}}, Facts.{Content, Facts, LeavesSince}}
use Rattle.hart.specs.State.{ArchState, never_started, answered, started as fresh}
use Rattle.hsm.specs.{States.HartState, Views.listed}
use Rattle.sbi_abi.specs.{Answers.error_of, Calls.call_of, declared.{call.Call.Call, ret.SbiError.SbiError}}
use Rattle.sbi_abi.specs.declared.ret.SbiError.TheVariants.{Failed, NotSupported, Denied}
use Rattle.sbi_abi.specs.declared.call.Call.TheVariants as calls
use Rattle.sbi_calls.specs.{Both.TableState, declared.words.{Did.TheVariants.Next, Turned.{Turned, TheVariants.{Made, Durable}}}}
use Rattle.sbi.specs.{Helds.{HeldIn, MakesReset, EndsReset, EndsSleep, Refuses}, Resets.reset_of, declared.resets.ResetType.ResetType}
use Rattle.sbi.specs.declared.{resets.ResetType.TheVariants.{Shutdown, ColdReboot}, words.Word.{Word, TheVariants.Goes}}
use Rattle.store.specs.{Answers.StoreView, Asked.Asked, Follows.FitsBoard, Views.{disk_of, size_of_store, life_of, doubt_of}}
use Rattle.store.specs.{Lives.{Life, now_of, Refused as CommandRefused, Applied, Suspended}, declared.stores.Store.Store}
use Rattle.store.specs.Leaves.{IsKept, Leaves, LeavesOnly, StandsForEither}
use Rattle.susp.specs.{Checks.{IsChecked, to_disk}, Dozes.{dozing, doze_of}, declared.{buses.{Bus.Bus, Doze.Doze}, sleeps.Sleep.Sleep}}
use Rattle.susp.specs.Sleeps.{Answers, AsksToSleep, Dozes, FallsAsleepBy, SleepsAlone, SleepsBy}
use Rattle.susp.specs.declared.sleeps.Sleep.TheVariants.{ToRam, ToDisk}
use Rattle.turns.specs.Turns.{Moment}
use Rattle.machine.{specs.{Durables.{bus_at, MakesCall}, Held.AreNumbered}, proofs.{Opening.{long, stopped_numbered}, Asking.IsOneNumber}}
use Rattle.machine.specs.Machine.{Machine, hart_at, machine_begun, stopped_harts, woken}
use Rattle.machine.specs.Turns.{moment_of, with_moment, DozeTurn, MakesTurn, TurnBy}
use Rattle.model_board.specs.Boards as models
use Rattle.model_board.specs.Boards.{Standing, Board, On, Off, image_of, powered, powered_by, standing_of}
use Rattle.model_board.specs.Held.{HeldBy, AsksStore, IsAlone, Sleeps, after_reset, reset_by, refused, slept_by, with_hart}
use Rattle.model_board.{proofs.Kept.{numbered_with, turn_kept}, specs.Events.{Event, Turn, Refused, Cut, Does, TurnOn}}
use Rattle.theorem.specs.Models.{image_kept, kept_of, shown_on, shown_after, IsTurnOf, IsOfBoard, IsLeftBy, rule_by}

fold_more : (s : DurableState) (cs : List Change) (c : Change) → fold s (cs ++ c ∷ []) ≡ after (fold s cs) c
fold_more s [] c = refl
fold_more s (d ∷ cs) c = fold_more (after s d) cs c

-- the table refuses nothing by 6
not_six : (s : DurableState) (c : Change) → refusal_of s c ≡ Some 6 → ⊥
not_six s c is = let six = of_table s c 6 is in cc

-- ---- what a command makes of a life
-- acknowledged it makes the next state, and refused it leaves the state
abbrev pub Comes : Life → Change → Result ℕ Refusal → Life → Type 0
Comes old c (Ok n) new = now_of new ≡ after (now_of old) c
Comes old c (Err e) new = now_of new ≡ now_of old

refused_stays : (old new : Life) (c : Change) (e : Refusal) → CommandRefused old c e new → now_of new ≡ now_of old
refused_stays old new c e why =
    ⊎_elim (λ x. ap now_of x.2)
    (⊎_elim (λ x. ap now_of x.2)
    (⊎_elim (λ x. ap now_of x.2)
    (⊎_elim (λ x. ap now_of x.3)
    (λ x. ap now_of x.3)))) why

pub applied_comes : (old : Life) (c : Change) (r : Result ℕ Refusal) (new : Life) → Applied old c r new → Comes old c r new
applied_comes old c (Ok n) new did = ap now_of did.2 ∙ fold_more old.found old.journal c
applied_comes old c (Err e) new did = refused_stays old new c e did

pub suspended_comes : (Fits : Type 0) (old : Life) (c : Change) (r : Result ℕ Refusal) (new : Life) → Suspended Fits old c r new → Comes old c r new
suspended_comes Fits old c (Ok n) new did =
    applied_comes (record old { found = new.found }) c (Ok n) new did.told.1 ∙ ap (λ (s : DurableState). after s c) did.reseen.now
suspended_comes Fits old c (Err e) new did = stays ∙ did.reseen.now
  where
    seen : Life
    seen = record old { found = new.found }

    stays : now_of new ≡ now_of seen
    stays =
        ⊎_elim (λ x. refused_stays seen new c e x.1)
        (⊎_elim (λ x. ap now_of x.4)
        (⊎_elim (λ x. ap now_of x.3)
        (⊎_elim (λ x. ap now_of x.2)
        (λ x. ap now_of x.3)))) did.told

-- refused 6, it is in doubt
down_doubts : (old new : Life) (c : Change) (e : Refusal) → CommandRefused old c e new → e ≡ Down → new.doubt ≡ Some c
down_doubts old new c e why is =
    ⊎_elim (λ x. let no : Device ≡ Down = sym x.0 ∙ is in absurd (cc))
    (⊎_elim (λ x. ap (λ (k : Life). k.doubt) x.2)
    (⊎_elim (λ x. let no : OverRefusal ≡ Down = sym x.0 ∙ is in absurd (cc))
    (⊎_elim (λ x. let no : JournalFull ≡ Down = sym x.0 ∙ is in absurd (cc))
    (λ x. absurd (not_six (now_of old) c (x.0 ∙ ap (λ (r : Refusal). Some (number_of_refusal r)) is)))))) why

pub applied_doubts : (old new : Life) (c : Change) (e : Refusal) → Applied old c (Err e) new → e ≡ Down → new.doubt ≡ Some c
applied_doubts old new c e did is = down_doubts old new c e did is

pub suspended_doubts : (Fits : Type 0) (old new : Life) (c : Change) (e : Refusal) → Suspended Fits old c (Err e) new → e ≡ Down → new.doubt ≡ Some c
suspended_doubts Fits old new c e did is =
    ⊎_elim (λ x. down_doubts (record old { found = new.found }) new c e x.1 is)
    (⊎_elim (λ x. let no : BadShape ≡ Down = sym x.0 ∙ is in absurd (cc))
    (⊎_elim (λ x. let no : Memory ≡ Down = sym x.0 ∙ is in absurd (cc))
    (⊎_elim (λ x. let no : OverRefusal ≡ Down = sym x.0 ∙ is in absurd (cc))
    (λ x. let no : JournalFull ≡ Down = sym x.0 ∙ is in absurd (cc))))) did.told

-- ---- the machine of a hart that was answered
abbrev machine_as : (h : ℕ) (m : Machine) (hart : ArchState) (memory : List ℕ) (table : TableState) (doze : Option Doze) → Machine
machine_as h m hart memory table doze =
    record { size = m.size; memory = memory; doze = doze; harts = slice_set m.harts h hart; table = table }

-- ---- a call of the store, by the one who stands at it
module _ {D L : Type 0} {g : Ghosts D L} {l : Lanes L} where
  -- what a store says of a command: it is down and refuses each, or it made this of the life
  abbrev Said : Store D L g l → Store D L g l → Change → Result ℕ Refusal → Type 0
  Said old new c r =
      ((d : Change) × (doubt_of old ≡ Some d) × (r ≡ Err Down) × (new ≡ old))
      ⊎ ((doubt_of old ≡ None) × Comes (life_of old) c r (life_of new))

  answer : (Does : Life → Change → Result ℕ Refusal → Life → Type 0) (old new : Store D L g l) (c : Change) (r : Result ℕ Refusal) → ((a b : Life) (q : Result ℕ Refusal) → Does a c q b → Comes a c q b) → Asked Does old c r new
      → Said old new c r
  answer Does old new c r comes asked = by (doubt_of old) refl
    where
      by : (o : Option Change) → doubt_of old ≡ o → Said old new c r
      by None e = inr (e, comes (life_of old) (life_of new) r (asked.answered e).life)
      by (Some d) e = inl (d, e, (asked.down d e).0, (asked.down d e).1)

  -- the life of a board whose machine is that
  abbrev pub held_life : Machine → Store D L g l → models.Life
  held_life m old = record { machine = m; stands = kept_of (now_of (life_of old)); down = is_some (doubt_of old) }

  -- What a call comes to in the model. The store was not asked, so that it is the same whatever it would answer; it granted the
  -- command, or refused it; or it is down.
  abbrev pub Held : (Bool → models.Life → Board → Type 0) → Type 0 → Machine → Store D L g l → Board → Type 0
  Held Does Asks m old c =
      ((granted : Bool) → Does granted (held_life m old) c)
      ⊎ ((doubt_of old ≡ None) × Does true (held_life m old) c)
      ⊎ ((doubt_of old ≡ None) × Asks × ((down : Bool) × Does false (record (held_life m old) { down = down }) c))
      ⊎ ((d : Change) × (doubt_of old ≡ Some d) × Does false (held_life m old) c)

  -- where one stands
  module _ (h : ℕ) (mid n : Machine) (next : Moment) (doze : Option Doze) (old new : Store D L g l) (word : Word)
      (is : n ≡ record (with_moment h mid next) { doze = doze }) (table : next.table ≡ mid.table) (memory : next.memory ≡ mid.memory) where
    same_machine : doze ≡ mid.doze → n ≡ with_hart h mid next.hart
    same_machine same =
        is
        ∙ (ap (λ (t : TableState). machine_as h mid next.hart next.memory t doze) table
        ∙ (ap (λ (m : List ℕ). machine_as h mid next.hart m mid.table doze) memory
        ∙ ap (λ (d : Option Doze). machine_as h mid next.hart mid.memory mid.table d) same))

    -- the hart was answered, and the life goes on
    goes_on : (e : SbiError) (stands : Standing) (down : Bool) → next.hart ≡ answered (hart_at mid h) (error_of (Err e)) 0 → word ≡ Goes Next → bus_at next doze ≡ bus_at (moment_of h mid) mid.doze
        → kept_of (now_of (life_of new)) ≡ stands → is_some (doubt_of new) ≡ down
        → shown_after word n (life_of new) ≡ refused e h (record { machine = mid; stands = stands; down = down })
    goes_on e stands down found said bus now doubt =
        ap (λ (w : Word). shown_after w n (life_of new)) said
        ∙ (ap (λ (m : Machine). shown_on m (life_of new)) (same_machine (ap (λ (b : Bus). b.doze) bus) ∙ ap (with_hart h mid) found)
        ∙ (ap (λ (s : Standing). On (record { machine = with_hart h mid (answered (hart_at mid h) (error_of (Err e)) 0); stands = s; down = is_some (doubt_of new) })) now
        ∙ ap (λ (d : Bool). On (record { machine = with_hart h mid (answered (hart_at mid h) (error_of (Err e)) 0); stands = stands; down = d })) doubt))

    -- it was answered, and the store was not asked
    unasked : (e : SbiError) → next.hart ≡ answered (hart_at mid h) (error_of (Err e)) 0 → word ≡ Goes Next → bus_at next doze ≡ bus_at (moment_of h mid) mid.doze → new ≡ old
        → shown_after word n (life_of new) ≡ refused e h (held_life mid old)
    unasked e found said bus same =
        goes_on e (kept_of (now_of (life_of old))) (is_some (doubt_of old)) found said bus
        (ap (λ (s : Store D L g l). kept_of (now_of (life_of s))) same) (ap (λ (s : Store D L g l). is_some (doubt_of s)) same)

    -- it was refused what it asked of the store
    refused_so : (Kind : Bool → models.Life → Board → Type 0) (Asks : Type 0) (c : Change) (e : Refusal)
        → ((k : models.Life) (b : Board) → k.machine ≡ mid → b ≡ refused Failed h k → Kind false k b) → Asks
        → Said old new c (Err e)
        → next.hart ≡ answered (hart_at mid h) (error_of (Err Failed)) 0 → word ≡ Goes Next → bus_at next doze ≡ bus_at (moment_of h mid) mid.doze
        → Held Kind Asks mid old (shown_after word n (life_of new))
    refused_so Kind Asks c e gives asks came found said bus =
        ⊎_elim
        (λ down. inr (inr (inr (down.0, down.1, gives (held_life mid old) _ refl (unasked Failed found said bus down.3)))))
        (λ up. inr (inr (inl (
          up.0,
          asks,
          (
            is_some (doubt_of new),
            gives (record (held_life mid old) { down = is_some (doubt_of new) }) _ refl
                (goes_on Failed (kept_of (now_of (life_of old))) (is_some (doubt_of new)) found said bus (ap kept_of up.1) refl),
          ),
        ))))
        came

    -- ---- a reset
    abbrev AsksReset : Result (ResetType × Reason) SbiError → Type 0
    AsksReset r = (reset : ResetType × Reason) × (r ≡ Ok reset)

    error_resets : (granted : Bool) (k : models.Life) (e : SbiError) → reset_by granted h k (Err e) ≡ refused e h k
    error_resets true k e = refl
    error_resets false k e = refl

    reset_held : (r : Result (ResetType × Reason) SbiError) → MakesReset r (hart_at mid h) next.hart old new word → bus_at next doze ≡ bus_at (moment_of h mid) mid.doze
        → Held (λ granted k c. c ≡ reset_by granted h k r) (AsksReset r) mid old (shown_after word n (life_of new))
    reset_held (Err e) makes bus = inl (λ granted. unasked e makes.0.0 makes.0.1 bus makes.1 ∙ sym (error_resets granted (held_life mid old) e))
    reset_held (Ok reset) makes bus = by makes.0 makes.2
        (answer Applied old new (Reset reset.1) makes.0 (λ a b q did. applied_comes a (Reset reset.1) q b did) makes.1)
      where
        by : (q : Result ℕ Refusal) → EndsReset reset.0 q (hart_at mid h) next.hart word
            → Said old new (Reset reset.1) q
            → Held (λ granted k c. c ≡ reset_by granted h k (Ok reset)) (AsksReset (Ok reset)) mid old (shown_after word n (life_of new))
        by (Ok receipt) ended said =
            ⊎_elim
            (λ down. let no : Ok receipt ≡ Err Down = down.2 in absurd (cc))
            (λ up. inr (inl (
              up.0,
              ap (λ (w : Word). shown_after w n (life_of new)) ended.1
                  ∙ ap (λ (s : DurableState). after_reset reset.0 (kept_of s)) up.1,
            )))
            said
        by (Err e) ended said =
            refused_so (λ granted k c. c ≡ reset_by granted h k (Ok reset)) (AsksReset (Ok reset)) (Reset reset.1) e
            (λ k b at x. x) (reset, refl) said ended.0 ended.1 bus

    -- ---- a suspend
    abbrev AsksSleep : ℕ → ℕ → Type 0
    AsksSleep kind address = (kind ≡ to_disk) × IsValidAddress mid.size address × IsAlone h mid

    -- how one that may fall asleep does
    abbrev IsSlept : (sleep : Sleep) (site kind address opaque : ℕ) → Board → Type 0
    IsSlept sleep site kind address opaque c = Held (λ granted k b. Sleeps granted h k kind address opaque b) (AsksSleep kind address) mid old c

    to_ram : (site kind address opaque : ℕ) (fell : Result Sleep SbiError) → IsChecked mid.size kind address (Ok (ToRam, site)) → IsAlone h mid
        → Dozes h site opaque (bus_at (moment_of h mid) mid.doze) old fell (bus_at next doze) new
        → EndsSleep fell (hart_at mid h) next.hart word → IsSlept ToRam site kind address opaque (shown_after word n (life_of new))
    to_ram site kind address opaque fell checked alone slept ended =
        let told : EndsSleep (Ok ToRam) (hart_at mid h) next.hart word = subst (λ (f : Result Sleep SbiError). EndsSleep f (hart_at mid h) next.hart word) slept.0 ended in
        let doze_is : doze ≡ Some (dozing h site opaque) = ap (λ (b : Bus). b.doze) slept.1 in
        let machine : n ≡ record mid { doze = Some (dozing h site opaque) } =
        is
        ∙ (ap (λ (t : TableState). machine_as h mid next.hart next.memory t doze) table
        ∙ (ap (λ (m : List ℕ). machine_as h mid next.hart m mid.table doze) memory
        ∙ (ap (λ (s : ArchState). machine_as h mid s mid.memory mid.table doze) told.0
        ∙ (ap (λ (d : Option Doze). machine_as h mid (hart_at mid h) mid.memory mid.table d) doze_is
        ∙ ap (λ (s : List ArchState). record { size = mid.size; memory = mid.memory; doze = Some (dozing h site opaque); harts = s; table = mid.table }) (set-get_or mid.harts h (never_started h)))))) in
        let is_so : shown_after word n (life_of new) ≡ slept_by true ToRam site opaque h (held_life mid old) =
        ap (λ (w : Word). shown_after w n (life_of new)) told.1
        ∙ (ap (λ (m : Machine). shown_on m (life_of new)) machine
        ∙ ap (λ (s : Store D L g l). shown_on (record mid { doze = Some (dozing h site opaque) }) (life_of s)) slept.2) in
        inl (λ granted. (Ok (ToRam, site), checked, inr (alone, is_so ∙ sym (same_doze granted))))
      where
        same_doze : (granted : Bool) → slept_by granted ToRam site opaque h (held_life mid old) ≡ slept_by true ToRam site opaque h (held_life mid old)
        same_doze true = refl
        same_doze false = refl

    to_disk_by : (site kind address opaque : ℕ) (fell : Result Sleep SbiError) (r : Result ℕ Refusal) → IsChecked mid.size kind address (Ok (ToDisk, site)) → IsAlone h mid
        → AsksToSleep h site opaque mid.memory old r new → Answers r fell → bus_at next doze ≡ bus_at (moment_of h mid) mid.doze
        → EndsSleep fell (hart_at mid h) next.hart word → IsSlept ToDisk site kind address opaque (shown_after word n (life_of new))
    to_disk_by site kind address opaque fell r checked alone asked answers bus ended =
        by r answers (answer (Suspended (FitsBoard (size_of_store old) mid.memory h site)) old new (Suspend h site opaque mid.memory) r
        (λ a b q did. suspended_comes (FitsBoard (size_of_store old) mid.memory h site) a (Suspend h site opaque mid.memory) q b did) asked)
      where
        by : (q : Result ℕ Refusal) → Answers q fell
            → Said old new (Suspend h site opaque mid.memory) q
            → IsSlept ToDisk site kind address opaque (shown_after word n (life_of new))
        by (Ok receipt) fallen said =
            let told : EndsSleep (Ok ToDisk) (hart_at mid h) next.hart word = subst (λ (f : Result Sleep SbiError). EndsSleep f (hart_at mid h) next.hart word) fallen ended in
            ⊎_elim
            (λ down. let no : Ok receipt ≡ Err Down = down.2 in absurd (cc))
            (λ up. inr (inl (
              up.0,
              (
                Ok (ToDisk, site),
                checked,
                inr (
                  alone,
                  ap (λ (w : Word). shown_after w n (life_of new)) told.1
                      ∙ ap (λ (s : DurableState). Off (kept_of s)) up.1,
                ),
              ),
            )))
            said
        by (Err e) fallen said =
            let told : EndsSleep (Err Failed) (hart_at mid h) next.hart word = subst (λ (f : Result Sleep SbiError). EndsSleep f (hart_at mid h) next.hart word) fallen ended in
            refused_so (λ granted k c. Sleeps granted h k kind address opaque c) (AsksSleep kind address) (Suspend h site opaque mid.memory) e
            (λ k b at x. (
              Ok (ToDisk, site),
              subst (λ (m : Machine). IsChecked m.size kind address (Ok (ToDisk, site))) (sym at) checked,
              inr (subst (λ (m : Machine). IsAlone h m) (sym at) alone, x),
            ))
            (checked.0, checked.2, alone) said told.0 told.1 bus

    asleep : (sleep : Sleep) (site kind address opaque : ℕ) (fell : Result Sleep SbiError) → IsChecked mid.size kind address (Ok (sleep, site)) → IsAlone h mid
        → FallsAsleepBy sleep h site opaque (bus_at (moment_of h mid) mid.doze) old fell (bus_at next doze) new
        → EndsSleep fell (hart_at mid h) next.hart word → IsSlept sleep site kind address opaque (shown_after word n (life_of new))
    asleep ToRam site kind address opaque fell checked alone slept ended = to_ram site kind address opaque fell checked alone slept ended
    asleep ToDisk site kind address opaque fell checked alone slept ended = to_disk_by site kind address opaque fell slept.0 checked alone slept.1 slept.2 slept.3 ended

    falls : (kind address opaque : ℕ) (asked : Result (Sleep × ℕ) SbiError) (fell : Result Sleep SbiError) → IsChecked mid.size kind address asked
        → SleepsBy mid.size.harts h asked opaque (listed mid.table.states) (bus_at (moment_of h mid) mid.doze) old fell (bus_at next doze) new
        → EndsSleep fell (hart_at mid h) next.hart word
        → Held (λ granted k c. Sleeps granted h k kind address opaque c) (AsksSleep kind address) mid old (shown_after word n (life_of new))
    falls kind address opaque (Err e) fell checked slept ended =
        let ended : EndsSleep (Err e) (hart_at mid h) next.hart word = subst (λ (f : Result Sleep SbiError). EndsSleep f (hart_at mid h) next.hart word) slept.0 ended in
        inl (λ granted. (Err e, checked, unasked e ended.0 ended.1 slept.1 slept.2))
    falls kind address opaque (Ok (sleep, site)) fell checked slept ended =
        ⊎_elim
        (λ x.
        let told : EndsSleep (Err Denied) (hart_at mid h) next.hart word = subst (λ (f : Result Sleep SbiError). EndsSleep f (hart_at mid h) next.hart word) x.1 ended in
        inl (λ granted. (Ok (sleep, site), checked, inl (x.0, unasked Denied told.0 told.1 x.2 x.3))))
        (λ x. asleep sleep site kind address opaque fell checked x.0 x.1 ended)
        slept

    -- ---- a call, whichever it is
    held : (call : Call) → (hart_at mid h).id ≡ h → mid.size ≡ size_of_store old
        → HeldIn mid.size.harts call (hart_at mid h) next.hart mid.table (bus_at (moment_of h mid) mid.doze) (bus_at next doze) old new word
        → Held (λ granted k c. HeldBy granted h k call c) (AsksStore h mid call) mid old (shown_after word n (life_of new))
    held (calls.SystemReset kind reason) number size makes = reset_held (reset_of kind reason) makes.0 makes.1
    held (calls.SystemSuspend kind address opaque) number size makes =
        let slept : SleepsAlone mid.size.harts h kind address opaque (listed mid.table.states) (bus_at (moment_of h mid) mid.doze) old makes.0 (bus_at next doze) new =
        subst (λ (k : ℕ). SleepsAlone mid.size.harts k kind address opaque (listed mid.table.states) (bus_at (moment_of h mid) mid.doze) old makes.0 (bus_at next doze) new) number makes.1 in
        falls kind address opaque slept.asked makes.0 (subst (λ (s : Size). IsChecked s kind address slept.asked) (sym size) slept.checked) slept.slept makes.2
    held calls.SpecVersion number size makes = inl (λ granted. unasked NotSupported makes.0.0 makes.0.1 makes.2 makes.1)
    held calls.ImplementationId number size makes = inl (λ granted. unasked NotSupported makes.0.0 makes.0.1 makes.2 makes.1)
    held calls.ImplementationVersion number size makes = inl (λ granted. unasked NotSupported makes.0.0 makes.0.1 makes.2 makes.1)
    held (calls.Probe extension) number size makes = inl (λ granted. unasked NotSupported makes.0.0 makes.0.1 makes.2 makes.1)
    held calls.VendorId number size makes = inl (λ granted. unasked NotSupported makes.0.0 makes.0.1 makes.2 makes.1)
    held calls.ArchitectureId number size makes = inl (λ granted. unasked NotSupported makes.0.0 makes.0.1 makes.2 makes.1)
    held calls.MachineId number size makes = inl (λ granted. unasked NotSupported makes.0.0 makes.0.1 makes.2 makes.1)
    held (calls.HartStart hart address opaque) number size makes = inl (λ granted. unasked NotSupported makes.0.0 makes.0.1 makes.2 makes.1)
    held calls.HartStop number size makes = inl (λ granted. unasked NotSupported makes.0.0 makes.0.1 makes.2 makes.1)
    held (calls.HartStatus hart) number size makes = inl (λ granted. unasked NotSupported makes.0.0 makes.0.1 makes.2 makes.1)
    held (calls.HartSuspend kind address opaque) number size makes = inl (λ granted. unasked NotSupported makes.0.0 makes.0.1 makes.2 makes.1)
    held (calls.SendIpi mask base) number size makes = inl (λ granted. unasked NotSupported makes.0.0 makes.0.1 makes.2 makes.1)
    held calls.Unknown number size makes = inl (λ granted. unasked NotSupported makes.0.0 makes.0.1 makes.2 makes.1)

    -- ---- it keeps the hart's number and the board's size
    abbrev Keeps : Type 0
    Keeps = (next.hart.id ≡ (hart_at mid h).id) × (size_of_store new ≡ size_of_store old)

    same_size : new ≡ old → size_of_store new ≡ size_of_store old
    same_size same = ap (λ (s : Store D L g l). size_of_store s) same

    refuses_keeps : (e : SbiError) → Refuses e (hart_at mid h) next.hart word × (new ≡ old) → Keeps
    refuses_keeps e x = (ap (λ (s : ArchState). s.id) x.0.0, same_size x.1)

    reset_ended : (kind : ResetType) (q : Result ℕ Refusal) → EndsReset kind q (hart_at mid h) next.hart word → next.hart.id ≡ (hart_at mid h).id
    reset_ended kind (Ok n) x = ap (λ (s : ArchState). s.id) x.0
    reset_ended kind (Err e) x = ap (λ (s : ArchState). s.id) x.0

    reset_keeps : (r : Result (ResetType × Reason) SbiError) → MakesReset r (hart_at mid h) next.hart old new word → Keeps
    reset_keeps (Err e) x = refuses_keeps e x
    reset_keeps (Ok reset) x = (reset_ended reset.0 x.0 x.2, x.1.stays.board)

    sleep_ended : (fell : Result Sleep SbiError) → EndsSleep fell (hart_at mid h) next.hart word → next.hart.id ≡ (hart_at mid h).id
    sleep_ended (Ok sleep) x = ap (λ (s : ArchState). s.id) x.0
    sleep_ended (Err e) x = ap (λ (s : ArchState). s.id) x.0

    fell_keeps : (sleep : Sleep) (by site opaque : ℕ) (bus bus' : Bus) (fell : Result Sleep SbiError) → FallsAsleepBy sleep by site opaque bus old fell bus' new → size_of_store new ≡ size_of_store old
    fell_keeps ToRam by site opaque bus bus' fell x = same_size x.2
    fell_keeps ToDisk by site opaque bus bus' fell x = x.1.stays.board

    slept_keeps : (harts by opaque : ℕ) (asked : Result (Sleep × ℕ) SbiError) (states : ℕ → HartState) (bus bus' : Bus) (fell : Result Sleep SbiError) → SleepsBy harts by asked opaque states bus old fell bus' new → size_of_store new ≡ size_of_store old
    slept_keeps harts by opaque (Err e) states bus bus' fell x = same_size x.2
    slept_keeps harts by opaque (Ok asked) states bus bus' fell x = ⊎_elim (λ y. same_size y.3) (λ y. fell_keeps asked.0 by asked.1 opaque bus bus' fell y.1) x

    keeps : (call : Call) → HeldIn mid.size.harts call (hart_at mid h) next.hart mid.table (bus_at (moment_of h mid) mid.doze) (bus_at next doze) old new word → Keeps
    keeps (calls.SystemReset kind reason) x = reset_keeps (reset_of kind reason) x.0
    keeps (calls.SystemSuspend kind address opaque) x = (sleep_ended x.0 x.2, slept_keeps mid.size.harts (hart_at mid h).id opaque x.1.asked (listed mid.table.states) (bus_at (moment_of h mid) mid.doze) (bus_at next doze) x.0 x.1.slept)
    keeps calls.SpecVersion x = refuses_keeps NotSupported (x.0, x.1)
    keeps calls.ImplementationId x = refuses_keeps NotSupported (x.0, x.1)
    keeps calls.ImplementationVersion x = refuses_keeps NotSupported (x.0, x.1)
    keeps (calls.Probe extension) x = refuses_keeps NotSupported (x.0, x.1)
    keeps calls.VendorId x = refuses_keeps NotSupported (x.0, x.1)
    keeps calls.ArchitectureId x = refuses_keeps NotSupported (x.0, x.1)
    keeps calls.MachineId x = refuses_keeps NotSupported (x.0, x.1)
    keeps (calls.HartStart hart address opaque) x = refuses_keeps NotSupported (x.0, x.1)
    keeps calls.HartStop x = refuses_keeps NotSupported (x.0, x.1)
    keeps (calls.HartStatus hart) x = refuses_keeps NotSupported (x.0, x.1)
    keeps (calls.HartSuspend kind address opaque) x = refuses_keeps NotSupported (x.0, x.1)
    keeps (calls.SendIpi mask base) x = refuses_keeps NotSupported (x.0, x.1)
    keeps calls.Unknown x = refuses_keeps NotSupported (x.0, x.1)

    -- ---- what it may leave where power fails in its midst
    -- It went to the disk with that command, and granted it is that board whose standing the command makes; or the store stayed.
    abbrev WentOut : (Bool → models.Life → Board → Type 0) → Type 0
    WentOut Kind =
        (new ≡ old)
        ⊎ ((c : Change)
        × (doubt_of old ≡ None → LeavesSince (disk_of old) (disk_of new) (StandsForEither (size_of_store old) (now_of (life_of old)) (after (now_of (life_of old)) c)))
        × ((b : Board) × Kind true (held_life mid old) b × (standing_of b ≡ kept_of (after (now_of (life_of old)) c))))

    reset_stands : (kind : ResetType) (s : Standing) → standing_of (after_reset kind s) ≡ s
    reset_stands Shutdown s = refl
    reset_stands ColdReboot s = refl

    reset_goes : (r : Result (ResetType × Reason) SbiError) → MakesReset r (hart_at mid h) next.hart old new word → WentOut (λ granted k c. c ≡ reset_by granted h k r)
    reset_goes (Err e) x = inl x.1
    reset_goes (Ok reset) x =
        inr (Reset reset.1, λ up. (x.1.answered up).leaves.any_moment, (after_reset reset.0 (record (kept_of (now_of (life_of old))) { reason = reset.1 }), refl, reset_stands reset.0 _))

    fell_goes : (sleep : Sleep) (site kind address opaque : ℕ) (fell : Result Sleep SbiError) → IsChecked mid.size kind address (Ok (sleep, site)) → IsAlone h mid
        → FallsAsleepBy sleep h site opaque (bus_at (moment_of h mid) mid.doze) old fell (bus_at next doze) new → WentOut (λ granted k c. Sleeps granted h k kind address opaque c)
    fell_goes ToRam site kind address opaque fell checked alone x = inl x.2
    fell_goes ToDisk site kind address opaque fell checked alone x =
        inr (
          Suspend h site opaque mid.memory,
          λ up. (x.1.answered up).leaves.any_moment,
          (Off (record (kept_of (now_of (life_of old))) { image = Some (image_of h site opaque mid.memory) }), (Ok (ToDisk, site), checked, inr (alone, refl)), refl),
        )

    slept_goes : (kind address opaque : ℕ) (asked : Result (Sleep × ℕ) SbiError) (fell : Result Sleep SbiError) → IsChecked mid.size kind address asked
        → SleepsBy mid.size.harts h asked opaque (listed mid.table.states) (bus_at (moment_of h mid) mid.doze) old fell (bus_at next doze) new → WentOut (λ granted k c. Sleeps granted h k kind address opaque c)
    slept_goes kind address opaque (Err e) fell checked x = inl x.2
    slept_goes kind address opaque (Ok (sleep, site)) fell checked x =
        ⊎_elim (λ y. inl y.3) (λ y. fell_goes sleep site kind address opaque fell checked y.0 y.1) x

    goes : (call : Call) → (hart_at mid h).id ≡ h → mid.size ≡ size_of_store old
        → HeldIn mid.size.harts call (hart_at mid h) next.hart mid.table (bus_at (moment_of h mid) mid.doze) (bus_at next doze) old new word → WentOut (λ granted k c. HeldBy granted h k call c)
    goes (calls.SystemReset kind reason) number size x = reset_goes (reset_of kind reason) x.0
    goes (calls.SystemSuspend kind address opaque) number size makes =
        let slept : SleepsAlone mid.size.harts h kind address opaque (listed mid.table.states) (bus_at (moment_of h mid) mid.doze) old makes.0 (bus_at next doze) new =
        subst (λ (k : ℕ). SleepsAlone mid.size.harts k kind address opaque (listed mid.table.states) (bus_at (moment_of h mid) mid.doze) old makes.0 (bus_at next doze) new) number makes.1 in
        slept_goes kind address opaque slept.asked makes.0 (subst (λ (s : Size). IsChecked s kind address slept.asked) (sym size) slept.checked) slept.slept
    goes calls.SpecVersion number size x = inl x.1
    goes calls.ImplementationId number size x = inl x.1
    goes calls.ImplementationVersion number size x = inl x.1
    goes (calls.Probe extension) number size x = inl x.1
    goes calls.VendorId number size x = inl x.1
    goes calls.ArchitectureId number size x = inl x.1
    goes calls.MachineId number size x = inl x.1
    goes (calls.HartStart hart address opaque) number size x = inl x.1
    goes calls.HartStop number size x = inl x.1
    goes (calls.HartStatus hart) number size x = inl x.1
    goes (calls.HartSuspend kind address opaque) number size x = inl x.1
    goes (calls.SendIpi mask base) number size x = inl x.1
    goes calls.Unknown number size x = inl x.1

    -- ---- what a crash leaves after it, where no command is in doubt then
    abbrev LeavesNow : Store D L g l → Type 0
    LeavesNow s = LeavesOnly (disk_of s) (size_of_store s) (now_of (life_of s))

    asked_leaves : (Kind : Life → Change → Result ℕ Refusal → Life → Type 0) (c : Change) (r : Result ℕ Refusal) → ((a b : Life) (q : Result ℕ Refusal) → Kind a c q b → Comes a c q b)
        → ((a b : Life) (e : Refusal) → Kind a c (Err e) b → e ≡ Down → b.doubt ≡ Some c) → Asked Kind old c r new → doubt_of old ≡ None → doubt_of new ≡ None → LeavesNow new
    asked_leaves Kind c (Ok k) comes doubts x up sure =
        let did = x.answered up in
        subst (λ (s : Size). LeavesOnly (disk_of new) s (now_of (life_of new))) (sym x.stays.board)
        (subst (λ (s : DurableState). LeavesOnly (disk_of new) (size_of_store old) s) (sym (comes (life_of old) (life_of new) (Ok k) did.life)) did.leaves.acknowledged)
    asked_leaves Kind c (Err e) comes doubts x up sure =
        let did = x.answered up in
        let calm : e ≡ Down → ⊥ = λ is. let no : Some c ≡ None = sym (doubts (life_of old) (life_of new) e did.life is) ∙ sure in cc in
        subst (λ (s : Size). LeavesOnly (disk_of new) s (now_of (life_of new))) (sym x.stays.board)
        (subst (λ (s : DurableState). LeavesOnly (disk_of new) (size_of_store old) s) (sym (comes (life_of old) (life_of new) (Err e) did.life)) (did.leaves.unchanged calm))

    abbrev GoesSure : Type 0
    GoesSure = (new ≡ old) ⊎ (doubt_of old ≡ None → doubt_of new ≡ None → LeavesNow new)

    reset_sure : (r : Result (ResetType × Reason) SbiError) → MakesReset r (hart_at mid h) next.hart old new word → GoesSure
    reset_sure (Err e) x = inl x.1
    reset_sure (Ok reset) x =
        inr (asked_leaves Applied (Reset reset.1) x.0 (λ a b q did. applied_comes a (Reset reset.1) q b did) (λ a b e did is. applied_doubts a b (Reset reset.1) e did is) x.1)

    fell_sure : (sleep : Sleep) (by site opaque : ℕ) (bus bus' : Bus) (fell : Result Sleep SbiError) → FallsAsleepBy sleep by site opaque bus old fell bus' new → GoesSure
    fell_sure ToRam by site opaque bus bus' fell x = inl x.2
    fell_sure ToDisk by site opaque bus bus' fell x =
        inr (asked_leaves (Suspended (FitsBoard (size_of_store old) bus.ram by site)) (Suspend by site opaque bus.ram) x.0
        (λ a b q did. suspended_comes (FitsBoard (size_of_store old) bus.ram by site) a (Suspend by site opaque bus.ram) q b did)
        (λ a b e did is. suspended_doubts (FitsBoard (size_of_store old) bus.ram by site) a b (Suspend by site opaque bus.ram) e did is) x.1)

    slept_sure : (harts by opaque : ℕ) (asked : Result (Sleep × ℕ) SbiError) (states : ℕ → HartState) (bus bus' : Bus) (fell : Result Sleep SbiError) → SleepsBy harts by asked opaque states bus old fell bus' new → GoesSure
    slept_sure harts by opaque (Err e) states bus bus' fell x = inl x.2
    slept_sure harts by opaque (Ok asked) states bus bus' fell x = ⊎_elim (λ y. inl y.3) (λ y. fell_sure asked.0 by asked.1 opaque bus bus' fell y.1) x

    sure : (call : Call) → HeldIn mid.size.harts call (hart_at mid h) next.hart mid.table (bus_at (moment_of h mid) mid.doze) (bus_at next doze) old new word → GoesSure
    sure (calls.SystemReset kind reason) x = reset_sure (reset_of kind reason) x.0
    sure (calls.SystemSuspend kind address opaque) x = slept_sure mid.size.harts (hart_at mid h).id opaque x.1.asked (listed mid.table.states) (bus_at (moment_of h mid) mid.doze) (bus_at next doze) x.0 x.1.slept
    sure calls.SpecVersion x = inl x.1
    sure calls.ImplementationId x = inl x.1
    sure calls.ImplementationVersion x = inl x.1
    sure (calls.Probe extension) x = inl x.1
    sure calls.VendorId x = inl x.1
    sure calls.ArchitectureId x = inl x.1
    sure calls.MachineId x = inl x.1
    sure (calls.HartStart hart address opaque) x = inl x.1
    sure calls.HartStop x = inl x.1
    sure (calls.HartStatus hart) x = inl x.1
    sure (calls.HartSuspend kind address opaque) x = inl x.1
    sure (calls.SendIpi mask base) x = inl x.1
    sure calls.Unknown x = inl x.1

    -- ---- a store that is down stays as it is
    abbrev Stays : Type 0
    Stays = (d : Change) → doubt_of old ≡ Some d → new ≡ old

    reset_stays : (r : Result (ResetType × Reason) SbiError) → MakesReset r (hart_at mid h) next.hart old new word → Stays
    reset_stays (Err e) x d is = x.1
    reset_stays (Ok reset) x d is = (x.1.down d is).1

    fell_stays : (sleep : Sleep) (by site opaque : ℕ) (bus bus' : Bus) (fell : Result Sleep SbiError) → FallsAsleepBy sleep by site opaque bus old fell bus' new → Stays
    fell_stays ToRam by site opaque bus bus' fell x d is = x.2
    fell_stays ToDisk by site opaque bus bus' fell x d is = (x.1.down d is).1

    slept_stays : (harts by opaque : ℕ) (asked : Result (Sleep × ℕ) SbiError) (states : ℕ → HartState) (bus bus' : Bus) (fell : Result Sleep SbiError) → SleepsBy harts by asked opaque states bus old fell bus' new → Stays
    slept_stays harts by opaque (Err e) states bus bus' fell x d is = x.2
    slept_stays harts by opaque (Ok asked) states bus bus' fell x d is = ⊎_elim (λ y. y.3) (λ y. fell_stays asked.0 by asked.1 opaque bus bus' fell y.1 d is) x

    stays : (call : Call) → HeldIn mid.size.harts call (hart_at mid h) next.hart mid.table (bus_at (moment_of h mid) mid.doze) (bus_at next doze) old new word → Stays
    stays (calls.SystemReset kind reason) x d is = reset_stays (reset_of kind reason) x.0 d is
    stays (calls.SystemSuspend kind address opaque) x d is = slept_stays mid.size.harts (hart_at mid h).id opaque x.1.asked (listed mid.table.states) (bus_at (moment_of h mid) mid.doze) (bus_at next doze) x.0 x.1.slept d is
    stays calls.SpecVersion x d is = x.1
    stays calls.ImplementationId x d is = x.1
    stays calls.ImplementationVersion x d is = x.1
    stays (calls.Probe extension) x d is = x.1
    stays calls.VendorId x d is = x.1
    stays calls.ArchitectureId x d is = x.1
    stays calls.MachineId x d is = x.1
    stays (calls.HartStart hart address opaque) x d is = x.1
    stays calls.HartStop x d is = x.1
    stays (calls.HartStatus hart) x d is = x.1
    stays (calls.HartSuspend kind address opaque) x d is = x.1
    stays (calls.SendIpi mask base) x d is = x.1
    stays calls.Unknown x d is = x.1

  -- ---- a turn that comes to a durable call
  held_event : (payload : List ℕ) (h : ℕ) (m mid n : Machine) (old new : Store D L g l) (word : Word) → (hart_at mid h).id ≡ h → mid.size ≡ size_of_store old
      → MakesTurn h m mid Durable → MakesCall h mid n old new word
      → (e : Event) × IsTurnOf h e × Does payload (size_of_store old) e (shown_on m (life_of old)) (shown_after word n (life_of new))
  held_event payload h m mid n old new word number size turn call =
      let did = call.2 in
      let b : Board = shown_after word n (life_of new) in
      let came : Held (λ granted k c. HeldBy granted h k (call_of (hart_at mid h)) c) (AsksStore h mid (call_of (hart_at mid h))) mid old b =
      held h mid n call.1 call.0 old new word call.3 did.1 did.2 (call_of (hart_at mid h)) number size did.0 in
      let k : models.Life = record { machine = m; stands = kept_of (now_of (life_of old)); down = is_some (doubt_of old) } in
      let by : (granted : Bool) → not (is_some (doubt_of old)) ≡ granted → HeldBy granted h (held_life mid old) (call_of (hart_at mid h)) b → TurnOn h (On k) b =
      λ granted is does. (mid, Durable, turn, subst (λ (x : Bool). HeldBy x h (held_life mid old) (call_of (hart_at mid h)) b) (sym is) does) in
      ⊎_elim
      (λ any. (Turn h, inl refl, by (not (is_some (doubt_of old))) refl (any (not (is_some (doubt_of old))))))
      (⊎_elim
      (λ granted. (Turn h, inl refl, by true (ap (λ (o : Option Change). not (is_some o)) granted.0) granted.1))
      (⊎_elim
      (λ no. (Refused h no.2.0, inr (no.2.0, refl), (ap (λ (o : Option Change). is_some o) no.0, (mid, turn, no.1), (mid, Durable, turn, no.2.1))))
      (λ down. (Turn h, inl refl, by false (ap (λ (o : Option Change). not (is_some o)) down.1) down.2))))
      came

put_in_place : (board : Size) (h : ℕ) (m n : Machine) (t : ArchState) → IsOfBoard board m → h < length m.harts → n.size ≡ m.size → n.harts ≡ slice_set m.harts h t → t.id ≡ h → IsOfBoard board n × ((hart_at n h).id ≡ h)
put_in_place board h m n t of low size harts number =
    let all : AreNumbered n.harts = subst AreNumbered (sym harts) (numbered_with m.harts h t of.numbered low number) in
    let long : length n.harts ≡ length m.harts = ap (λ (s : List ArchState). length s) harts ∙ length-set m.harts h t in
    (record { size = size ∙ of.size; long = long ∙ of.long; numbered = all }, all h (subst (λ (k : ℕ). h < k) (sym long) low))

-- a turn leaves a board of that size, each of whose harts has its number
turned_board : IsOneNumber → (board : Size) (h : ℕ) (m mid : Machine) (word : Turned) → IsOfBoard board m → h < length m.harts → MakesTurn h m mid word → IsOfBoard board mid × ((hart_at mid h).id ≡ h)
turned_board one board h m mid word of low turn = by (doze_of h m.doze) turn
  where
    of_doze : (woken : Bool) (d : Doze) → DozeTurn woken d h m mid word → IsOfBoard board mid × ((hart_at mid h).id ≡ h)
    of_doze false d did = (subst (IsOfBoard board) (sym did.0) of, ap (λ (x : Machine). (hart_at x h).id) did.0 ∙ of.numbered h low)
    of_doze true d did =
        put_in_place board h m mid (fresh (hart_at m h).id d.at.address d.at.opaque) of low (ap (λ (x : Machine). x.size) did.0) (ap (λ (x : Machine). x.harts) did.0) (of.numbered h low)

    by : (o : Option Doze) → TurnBy o h m mid word → IsOfBoard board mid × ((hart_at mid h).id ≡ h)
    by None did =
        put_in_place board h m mid did.0.hart of low (ap (λ (x : Machine). x.size) did.2) (ap (λ (x : Machine). x.harts) did.2)
        ((turn_kept one m.size (moment_of h m) did.0 word did.1).number ∙ of.numbered h low)
    by (Some d) did = of_doze d.woken d did

module _ {D L : Type 0} {g : Ghosts D L} {l : Lanes L} (one : IsOneNumber) (h : ℕ) (m n : Machine) (old new : Store D L g l) (word : Word) (of : IsOfBoard (size_of_store old) m) (low : h < length m.harts) where
  pub turn_is_event : (payload : List ℕ) → TurnsHeld h m n old new word
      → (e : Event) × IsTurnOf h e × Does payload (size_of_store old) e (shown_on m (life_of old)) (shown_after word n (life_of new))
  turn_is_event payload (mid, turned, turn, comes) = by turned turn comes
    where
      by : (t : Turned) → MakesTurn h m mid t → ComesOf t h mid n old new word
          → (e : Event) × IsTurnOf h e × Does payload (size_of_store old) e (shown_on m (life_of old)) (shown_after word n (life_of new))
      by (Made did) turn x = (
        Turn h,
        inl refl,
        (
          mid,
          Made did,
          turn,
          ap (λ (w : Word). shown_after w n (life_of new)) x.2
              ∙ (ap (λ (k : Machine). shown_on k (life_of new)) x.0
              ∙ ap (λ (s : Store D L g l). shown_on mid (life_of s)) x.1),
        ),
      )
      by Durable turn x =
          let board = turned_board one (size_of_store old) h m mid Durable of low turn in
          held_event payload h m mid n old new word board.1 board.0.size turn x

  pub turn_leaves_board : TurnsHeld h m n old new word → IsOfBoard (size_of_store new) n
  turn_leaves_board (mid, turned, turn, comes) = by turned turn comes
    where
      by : (t : Turned) → MakesTurn h m mid t → ComesOf t h mid n old new word → IsOfBoard (size_of_store new) n
      by (Made did) turn x =
          let board = turned_board one (size_of_store old) h m mid (Made did) of low turn in
          subst (λ (s : Size). IsOfBoard s n) (sym (ap (λ (s : Store D L g l). size_of_store s) x.1)) (subst (IsOfBoard (size_of_store old)) (sym x.0) board.0)
      by Durable turn x =
          let board = turned_board one (size_of_store old) h m mid Durable of low turn in
          let did = x.2 in
          let stays = keeps h mid n x.1 x.0 old new word x.3 did.1 did.2 (call_of (hart_at mid h)) did.0 in
          let below : h < length mid.harts = subst (λ (k : ℕ). h < k) (of.long ∙ sym board.0.long) low in
          subst (λ (s : Size). IsOfBoard s n) (sym stays.1)
          (put_in_place (size_of_store old) h mid n x.1.hart board.0 below (ap (λ (k : Machine). k.size) x.3) (ap (λ (k : Machine). k.harts) x.3) (stays.0 ∙ board.1)).0

  -- where power fails now: each crash leaves the state now
  pub cut_now : (c : Content) → doubt_of old ≡ None → LeavesOnly (disk_of old) (size_of_store old) (now_of (life_of old)) → (disk_of old).may_leave c → IsLeftBy m old c
  unfolding IsKept Leaves
  cut_now c up only left =
      let stands = only.kept c left in
      (stands.0, stands.1, λ payload. (Cut ∷ [], (Off (kept_of stands.0), ap (λ (s : DurableState). Off (kept_of s)) (only.only (size_of_store old) stands.0 (c, left, stands.1)).1, refl)))

  -- and in the midst of the turn
  pub cut_within : ((c : Content) → (disk_of old).since (disk_of old).moment c → (disk_of old).may_leave c) → doubt_of old ≡ None → LeavesOnly (disk_of old) (size_of_store old) (now_of (life_of old))
      → TurnsHeld h m n old new word → LeavesSince (disk_of old) (disk_of new) (IsLeftBy m old)
  cut_within only_now up only (mid, turned, turn, comes) = by turned turn comes
    where
      nothing : new ≡ old → LeavesSince (disk_of old) (disk_of new) (IsLeftBy m old)
      nothing same =
          subst (λ (s : Store D L g l). LeavesSince (disk_of old) (disk_of s) (IsLeftBy m old)) (sym same) (record {
            later = omega arith;
            now = λ c left. cut_now c up only left;
            each = λ c left. cut_now c up only (only_now c left);
            before = λ t c le left. inl left;
          })

      by : (t : Turned) → MakesTurn h m mid t → ComesOf t h mid n old new word → LeavesSince (disk_of old) (disk_of new) (IsLeftBy m old)
      by (Made did) turn x = nothing x.1
      by Durable turn x =
          let board = turned_board one (size_of_store old) h m mid Durable of low turn in
          let did = x.2 in
          ⊎_elim nothing
          (λ went.
          let since = went.1 up in
          let left : (c : Content) → StandsForEither (size_of_store old) (now_of (life_of old)) (after (now_of (life_of old)) went.0) c → IsLeftBy m old c =
          λ c stands.
          ⊎_elim
          (λ was. (now_of (life_of old), was, λ payload. (Cut ∷ [], (Off (kept_of (now_of (life_of old))), refl, refl))))
          (λ is. (
            after (now_of (life_of old)) went.0,
            is,
            λ payload. (
              Turn h ∷ Cut ∷ [],
              (
                went.2.0,
                (
                  mid,
                  Durable,
                  turn,
                  subst (λ (o : Option Change). HeldBy (not (is_some o)) h (record { machine = mid; stands = kept_of (now_of (life_of old)); down = is_some o }) (call_of (hart_at mid h)) went.2.0) (sym up)
                      (subst (λ (o : Option Change). HeldBy true h (record { machine = mid; stands = kept_of (now_of (life_of old)); down = is_some o }) (call_of (hart_at mid h)) went.2.0) up went.2.1),
                ),
                (Off (kept_of (after (now_of (life_of old)) went.0)), ap (λ (s : Standing). Off s) (sym went.2.2), refl),
              ),
            ),
          ))
          stands in
          record {
            later = since.later;
            now = λ c may. left c (since.now c may);
            each = λ c may. left c (since.each c may);
            before = λ t c le may. ⊎_elim (λ was. inl was) (λ is. inr (left c is)) (since.before t c le may);
          })
          (goes h mid n x.1 x.0 old new word x.3 did.1 did.2 (call_of (hart_at mid h)) board.1 board.0.size did.0)

  -- and after it, where no command is in doubt then
  pub leaves_now : doubt_of old ≡ None → doubt_of new ≡ None → LeavesOnly (disk_of old) (size_of_store old) (now_of (life_of old)) → TurnsHeld h m n old new word
      → LeavesOnly (disk_of new) (size_of_store new) (now_of (life_of new))
  leaves_now up calm only (mid, turned, turn, comes) = by turned turn comes
    where
      nothing : new ≡ old → LeavesOnly (disk_of new) (size_of_store new) (now_of (life_of new))
      nothing same = subst (λ (s : Store D L g l). LeavesOnly (disk_of s) (size_of_store s) (now_of (life_of s))) (sym same) only

      by : (t : Turned) → MakesTurn h m mid t → ComesOf t h mid n old new word → LeavesOnly (disk_of new) (size_of_store new) (now_of (life_of new))
      by (Made did) turn x = nothing x.1
      by Durable turn x = ⊎_elim nothing (λ leaves. leaves up calm) (sure h mid n x.1 x.0 old new word x.3 x.2.1 x.2.2 (call_of (hart_at mid h)) x.2.0)

  -- a store that is down stays as it is
  pub stays_down : (d : Change) → doubt_of old ≡ Some d → TurnsHeld h m n old new word → new ≡ old
  stays_down d is (mid, turned, turn, comes) = by turned turn comes
    where
      by : (t : Turned) → MakesTurn h m mid t → ComesOf t h mid n old new word → new ≡ old
      by (Made did) turn x = x.1
      by Durable turn x = stays h mid n x.1 x.0 old new word x.3 x.2.1 x.2.2 (call_of (hart_at mid h)) x.2.0 d is

-- ---- a power-on
booted_keeps : (s : DurableState) (fallback left : ℕ) → kept_of (booted_by s fallback left) ≡ kept_of s
booted_keeps s fallback zero = refl
booted_keeps s fallback (suc left) = refl

attempted_keeps : (s : DurableState) (o : Option Trial) → kept_of (attempted s o) ≡ kept_of s
attempted_keeps s None = refl
attempted_keeps s (Some t) = booted_keeps s t.fallback t.left

attempts_keep : (s : DurableState) (o : Option Trial) → kept_of (fold s (attempts_of o)) ≡ kept_of s
attempts_keep s None = refl
attempts_keep s (Some t) = attempted_keeps s s.trial

module _ (payloads : List (List ℕ)) (disk : Facts) (v : StoreView) (m : Machine) where
  abbrev IsPoweredOn : DurableState → Type 0
  IsPoweredOn s = shown_on m v.life ≡ On (powered (payload_at payloads (now_of v.life).slot) v.size (kept_of s))

  fresh_on : (s : DurableState) → s.image ≡ None → v.life ≡ life_after modes.Fresh s → m ≡ booted payloads (now_of (life_after modes.Fresh s)) v.size → IsPoweredOn s
  fresh_on s none life is =
      let keeps : kept_of (now_of v.life) ≡ kept_of s = ap (λ (k : Life). kept_of (now_of k)) life ∙ attempts_keep s s.trial in
      let begun_so : m ≡ machine_begun (payload_at payloads (now_of v.life).slot) s.reason v.size =
      is
      ∙ (ap (λ (k : Life). booted payloads (now_of k) v.size) (sym life)
      ∙ ap (λ (r : Reason). machine_begun (payload_at payloads (now_of v.life).slot) r v.size) (ap (λ (k : Standing). k.reason) keeps)) in
      ap (λ (k : Machine). shown_on k v.life) begun_so
      ∙ (ap (λ (k : Standing). On (record { machine = machine_begun (payload_at payloads (now_of v.life).slot) s.reason v.size; stands = k; down = is_some v.life.doubt })) keeps
      ∙ (ap (λ (k : Life). On (record { machine = machine_begun (payload_at payloads (now_of v.life).slot) s.reason v.size; stands = kept_of s; down = is_some k.doubt })) life
      ∙ (ap (λ (o : Option Image). On (record { machine = machine_begun (payload_at payloads (now_of v.life).slot) s.reason v.size; stands = record { reason = s.reason; image = image_kept o }; down = false })) none
      ∙ ap (λ (o : Option Image). On (powered_by (payload_at payloads (now_of v.life).slot) v.size s.reason (image_kept o))) (sym none))))

  resumed_on : (s : DurableState) (i : Image) → s.image ≡ Some i → v.life ≡ life_after modes.Resume s → m ≡ woken i v.size → IsPoweredOn s
  resumed_on s i stands life is =
      ap (λ (k : Machine). shown_on k v.life) is
      ∙ (ap (λ (k : Life). shown_on (woken i v.size) k) life
      ∙ ap (λ (o : Option Image). On (powered_by (payload_at payloads (now_of v.life).slot) v.size s.reason (image_kept o))) (sym stands))

  pub on_is_event : (mode : BootMode) → IsOn mode payloads disk v m → mode ≡ rule_by v.life.found.image → IsPoweredOn v.life.found
  on_is_event mode on rule = by v.life.found.image refl
    where
      by : (o : Option Image) → v.life.found.image ≡ o → IsPoweredOn v.life.found
      by None none =
          let is : mode ≡ modes.Fresh = rule ∙ ap rule_by none in
          fresh_on v.life.found none (on.life ∙ ap (λ (k : BootMode). life_after k v.life.found) is)
          (subst (λ (k : BootMode). IsBegun k v.size payloads v.life.found m) is on.begun)
      by (Some i) some =
          let is : mode ≡ modes.Resume = rule ∙ ap rule_by some in
          let begun : IsResumed v.size v.life.found m = subst (λ (k : BootMode). IsBegun k v.size payloads v.life.found m) is on.begun in
          resumed_on v.life.found begun.image begun.stands (on.life ∙ ap (λ (k : BootMode). life_after k v.life.found) is) begun.is

  pub on_is_sure : (mode : BootMode) → IsOn mode payloads disk v m → v.life.doubt ≡ None
  on_is_sure mode on = ap (λ (k : Life). k.doubt) on.life

  -- each hart of a board that was just powered on has its number
  set_numbered : (harts : List ArchState) (i : ℕ) (s : ArchState) → AreNumbered harts → s.id ≡ i → AreNumbered (slice_set harts i s)
  set_numbered harts i s numbered is h below =
      let low : h < length harts = subst (λ (n : ℕ). h < n) (length-set harts i s) below in
      elim (cases_eq h i) [
        | inl e ↦ numbered_with harts i s numbered (subst (λ (n : ℕ). n < length harts) e low) is h below
        | inr other ↦ ap (λ (a : ArchState). a.id) (get_or-set_other harts i h s (never_started h) other) ∙ numbered h low
      ]

  one_runs : (i pc a1 : ℕ) → m.size ≡ v.size → m.harts ≡ slice_set (stopped_harts v.size.harts) i (fresh i pc a1) → IsOfBoard v.size m
  one_runs i pc a1 size harts = record {
    size = size;
    long = ap (λ (s : List ArchState). length s) harts ∙ (length-set (stopped_harts v.size.harts) i (fresh i pc a1) ∙ long v.size.harts);
    numbered = subst AreNumbered (sym harts) (set_numbered (stopped_harts v.size.harts) i (fresh i pc a1) (stopped_numbered v.size.harts) refl);
  }

  booted_board : (s : DurableState) → m ≡ booted payloads s v.size → IsOfBoard v.size m
  booted_board s is = one_runs 0 0x80000000 (reason_number s.reason) (ap (λ (k : Machine). k.size) is) (ap (λ (k : Machine). k.harts) is)

  pub on_of_board : (mode : BootMode) → IsBegun mode v.size payloads v.life.found m → IsOfBoard v.size m
  on_of_board modes.Fresh is = booted_board (now_of (life_after modes.Fresh v.life.found)) is
  on_of_board modes.Keep is = booted_board (now_of (life_after modes.Keep v.life.found)) is
  on_of_board modes.Discard is = booted_board (now_of (life_after modes.Discard v.life.found)) is
  on_of_board modes.Resume is = one_runs is.image.hart is.image.address is.image.opaque (ap (λ (k : Machine). k.size) is.is) (ap (λ (k : Machine). k.harts) is.is)

-- of a value that is there
pub if_so : {T E : Type 0} (r : Result T E) (P Q : T → Type 0) → ((x : T) → P x → Q x) → IfOk r P → IfOk r Q
if_so (Ok x) P Q so is = so x is
if_so (Err e) P Q so is = is
