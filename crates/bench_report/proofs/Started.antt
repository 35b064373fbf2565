-- A power-on whose open succeeded.
use Rattle.std.proofs.Common.{◌≡◌, ◌≢◌, ◌≤◌, ◌+◌, ℕ, List, [], ◌∷◌, ◌++◌, Option, None, Some, Ok, Err, inl, inr, refl, sym, ◌∙◌, ap, subst, arith, length}
use Rattle.board_model.specs.{Durable.{DurableState, Change, after, fold, refusal_of}, Kept.{Kept, found_of}, Shapes.Size}
use Rattle.board_model.specs.{Views.{durable_of, number_of_refusal}, declared.{boot_mode.BootMode.BootMode, durable.Durable.Durable}}
use Rattle.board_model.specs.declared.refusal.Refusal.{Refusal, TheVariants.{BadShape, Memory, Device, Down, BadImage}}
use Rattle.board_model.specs.declared.boot_mode.BootMode.TheVariants as modes
use Rattle.disk.specs.Facts.{Content, Facts}
use Rattle.simdisk.specs.declared.SimDisk.{SimDisk}
use Rattle.store.specs.{Leaves.{Leaves, LeavesOnly, LeavesEither, LeftAsBefore, IsRenewed, SameLength}, Opens.CausedRefusal}
use Rattle.store.specs.{Lives.{Life as StoreLife, begun as started, now_of}, Views.{life_of, view_of}}
use Rattle.machine.specs.Machine.{Machine}
use Rattle.board.specs.{Boots.{boot_refusal, life_after, PayloadsFit}, Begins.{IsBegun, IsLateRefusal, IsBootRefusal}}
use Rattle.board.{specs.Moments.{commands_by, gone_before, MayLeave, AreWritten, LeavesFrom}, proofs.Few.few_commands}
use Rattle.board.specs.{PowersOn.{IsOn, IsUnpowered, KeepsDisk, GivesDisk}, Unbooted.{doubt_by, IsLifeLeft, LeavesLife, CountsRefusal}}
use Rattle.report_lines.specs.declared.printed.{Answer.Answer, Printed.Printed}
use Rattle.report_lines.specs.declared.printed.Printed.TheVariants as printed
use Rattle.bench_report.specs.Views.{SimStore, SimBoard, store_in, machine_in, facts, fault_state, store_size, store_now, store_facts, store_fault_state, IsLife, IsAs}
use Rattle.bench_report.specs.{Bench.{DiskState, Blank, Unknown, Formatted, BenchLife, Bench, IsClean}, Commands.{Writes, IssuesAll}}
use Rattle.bench_report.specs.Happens.{says, out_of_memory, failed, off, on_with, has_machine, life_with, all_acknowledged, in_doubt}
use Rattle.bench_report.{specs.PowerOns.{life_begun, ShowsFound, Opens, BootsFrom, Begins, Boots, PowersOn, TellsNow}, proofs.Adapted.calm}
use Rattle.bench_report.specs.{Sides.{SidesOf, SidesAre}, Agree.{BoardIs, DiskIs, DeviceIs, LifeIs, OffIs, OnIs}}
use Rattle.bench_report.proofs.{Commanded.follows_with, Determined.{begun_size, kept_as}, Devices.{fails_as, stays_as}}
use Rattle.bench_report.proofs.{Sides.{sides_before, starved_sides, all_written}, Ended.{left_only, left_either}, Opening.{opens, open_err}}
use Rattle.bench_report.proofs.TurnLines.{AreTaken, taken_at, commands_taken, few_of, follows_all, all_issue, all_but}
use Rattle.bench_report.proofs.{KeptDisks.{KeptLaw, BlankLaw}, Table.{mode_not_device, mode_not_down}}

no_doubt : (cs : List Change) (e : Refusal) → e ≢ Down → doubt_by e cs ≡ None
no_doubt cs Down up = absurd (up refl)
no_doubt cs e up = refl

-- no command went to the disk before a refusal that is not the disk's
none_gone : (e : Refusal) (cs : List Change) → e ≢ Down → e ≢ Device → gone_before e cs ≡ []
none_gone Device cs up is = absurd (is refl)
none_gone Down cs up is = absurd (up refl)
none_gone e cs up is = refl

as_issued : (store : SimStore) (s : DurableState) (cs : List Change) → life_of store ≡ record (started s) { journal = cs } → IsAs store (fold s cs) (0 + length cs) None
as_issued store s cs e =
    let P : StoreLife → Type 0 = λ life. IsLife life (fold s cs) (0 + length cs) None in
    let long : length cs ≡ 0 + length cs = omega arith in
    subst P (sym e) (refl, long, refl, refl)

-- what a crash leaves of a disk whose life ends with the boot
kept_only : (size z : Size) (m : DiskState) (k : Kept) (life : BenchLife) (disk : Facts) → LifeIs size m k life z → LeavesOnly disk z life.now → DiskIs size m k disk
kept_only size z Blank k life disk follows l = absurd follows
kept_only size z Unknown k life disk follows l = tt
kept_only size z Formatted k life disk follows l = left_only size z k life.now disk follows.1 follows.2 l

kept_either : (size z : Size) (m : DiskState) (k : Kept) (life : BenchLife) (c : Change) (disk : Facts) → LifeIs size m k life z → refusal_of life.now c ≡ None → LeavesEither disk z life.now (after life.now c)
    → DiskIs size m (record k { doubt = Some c }) disk
kept_either size z Blank k life c disk follows allowed l = absurd follows
kept_either size z Unknown k life c disk follows allowed l = tt
kept_either size z Formatted k life c disk follows allowed l = left_either size z (record k { doubt = Some c }) c life.now disk refl follows.1 allowed follows.2 l

-- an open that found a state
opened : KeptLaw → BlankLaw → (size : Size) (b : Bench) (old : SimDisk) (z : Size) (s : DurableState) → OffIs size b old → Leaves (facts old) z s → (k : Kept) × Opens size b.disk_state b s z (record b { kept = k }) × LifeIs size b.disk_state k (life_begun s z) z
opened kept blank size b old z s off leaves = opens size b.disk_state b (facts old) z s off.1 leaves (λ is. blank.stands old z s is leaves) (λ y is. kept.one_size old y z s leaves is)

-- gate and records stay as they are where an open settles what is in doubt
settled_sides : (size : Size) (m : DiskState) (b : Bench) (k : Kept) (s : DurableState) (z : Size) → Opens size m b s z (record b { kept = k }) → (c : Content) → SidesOf m b.kept size c → SidesOf m k size c
settled_sides size Blank b k s z h c was = absurd h
settled_sides size Unknown b k s z h c was = was
settled_sides size Formatted b k s z (changes, may, is, sized, e) c was =
    let P : List Change → Type 0 = λ cs. SidesOf Formatted (record { changes = cs; doubt = None }) size c in
    let Q : Kept → Type 0 = λ x. SidesOf Formatted x size c in
    subst Q (sym (ap (λ (x : Bench). x.kept) e)) (subst P (kept_as b.kept changes was.0 may) (refl, was.1, was.2, was.3, was.4))

-- a life that an open begins is none of a blank disk
never_blank : (size : Size) (m : DiskState) (k : Kept) (s : DurableState) (z : Size) (old : Facts) → LifeIs size m k (life_begun s z) z → m ≡ Blank → (b c : Content) → old.may_leave b → IsRenewed b c → ⊥
never_blank size m k s z old follows at b c may renewed = let P : DiskState → Type 0 = λ x. LifeIs size x k (life_begun s z) z in subst P at follows

-- ---- the board is on
abbrev BoardStarts : Size → BootMode → Size → DurableState → Bench → Printed → SimBoard → Type 0
BoardStarts size mode z s b line board = (x : Bench) × BootsFrom mode z s b line x × OnIs size x board × (x.payloads ≡ b.payloads)

abbrev BoardOn : Size → BootMode → Size → DurableState → Bench → Printed → SimBoard → Type 0
BoardOn size mode z s b line board = (x : Bench) × Begins mode z s b line x × OnIs size x board × (x.payloads ≡ b.payloads)

module _ (size : Size) (b : Bench) (s : DurableState) (board : SimBoard) (line : Printed) (follows : LifeIs size b.disk_state b.kept (life_begun s (store_size (store_in board))) (store_size (store_in board)))
    (device : (x : Bench) → x.fault_state ≡ b.fault_state → x.failures ≡ b.failures → SidesAre size x (store_facts (store_in board)) → DeviceIs size x (store_fault_state (store_in board)) (store_facts (store_in board)))
    (before : Facts) (sides : SidesAre size b before) where
  abbrev z : Size
  z = store_size (store_in board)

  -- these commands made each content that a crash may leave of one that it could have left before the open
  abbrev Written : List Change → Type 0
  Written cs = (c : Content) → (store_facts (store_in board)).may_leave c → LeavesFrom before (AreWritten z s cs) c

  abbrev machine : Machine
  machine = machine_in board

  abbrev start : Bench
  start = on_with (life_begun s z) b

  -- gate and records after these commands
  sides_with : (cs : List Change) → Written cs → IsClean b → (y : Content) → (store_facts (store_in board)).may_leave y → SidesOf b.disk_state (record b.kept { changes = b.kept.changes ++ cs }) size y
  sides_with cs written clean y left =
      let did = written y left in
      all_written size z b.disk_state b.kept cs s (life_begun s z) did.0 y follows did.2 (sides_before size b.disk_state b.kept before (never_blank size b.disk_state b.kept s z before follows) (sides clean) did.0 did.1)

  starts : (mode : BootMode) → Written (commands_by mode s) → IsBegun mode z b.payloads s machine → life_of (store_in board) ≡ life_after mode s → boot_refusal s mode ≡ None → line ≡ printed.On mode → BoardStarts size mode z s b line board
  starts mode written begins life allowed h =
      let cs : List Change = commands_by mode s in
      let next : BenchLife = life_with cs (life_begun s z) in
      let mid : Bench = all_acknowledged cs (life_begun s z) b in
      let x : Bench = on_with (has_machine machine next) mid in
      let all : IssuesAll cs start (Ok 0) mid = all_issue cs (life_begun s z) start refl refl (omega (arith, few_commands mode s)) (commands_taken mode s allowed) in
      let goes : LifeIs size b.disk_state mid.kept next z = follows_all size b.disk_state b.kept cs (life_begun s z) z follows in (
        x,
        (Ok 0, mid, all, (next, refl, h, machine, begins, refl)),
        (((follows_with size b.disk_state mid.kept next machine z (begun_size mode z b.payloads s machine begins) goes, as_issued (store_in board) s cs life), refl), device x refl refl (λ clean y left. sides_with cs written clean y left)),
        refl,
      )

  on_begun : (mode : BootMode) → BoardStarts size mode z s b line board → BoardOn size mode z s b line board
  on_begun modes.Fresh did = did
  on_begun modes.Keep did = did
  on_begun modes.Discard did = did
  on_begun modes.Resume did = (did.0, inl did.1, did.2, did.3)

pub power_ok : KeptLaw → BlankLaw → (size : Size) (mode : BootMode) (b : Bench) (payloads : List (List ℕ)) (old : SimDisk) (board : SimBoard) (a : Answer) → OffIs size b old → payloads ≡ b.payloads
    → IsOn mode payloads (facts old) (view_of (store_in board)) (machine_in board) → KeepsDisk (facts old) (fault_state old) (store_facts (store_in board)) (store_fault_state (store_in board))
    → ShowsFound a.found (life_of (store_in board)).found → a.line ≡ printed.On mode → (x : Bench) × PowersOn size mode b a x × OnIs size x board × (x.payloads ≡ b.payloads)
power_ok kept blank size mode b payloads old board a off same on keeps shows h =
    let z = store_size (store_in board) in
    let s : DurableState = (life_of (store_in board)).found in
    let m = opened kept blank size b old z s off on.found in
    let c : Bench = record b { kept = m.0 } in
    let sides : SidesAre size c (facts old) = λ clean x left. settled_sides size b.disk_state b m.0 s z m.1 x (off.2.3 clean x left) in
    let device : (x : Bench) → x.fault_state ≡ b.fault_state → x.failures ≡ b.failures → SidesAre size x (store_facts (store_in board)) → DeviceIs size x (store_fault_state (store_in board)) (store_facts (store_in board)) =
    λ x fault failures now. stays_as size b x (fault_state old) (store_fault_state (store_in board)) (facts old) (store_facts (store_in board)) off.2 fault failures keeps.cause (omega (arith, keeps.no_failure)) keeps.length now in
    let Q : List (List ℕ) → Type 0 = λ ps. IsBegun mode z ps s (machine_in board) in
    let did = on_begun size c s board a.line m.2 device (facts old) sides mode (starts size c s board a.line m.2 device (facts old) sides mode on.written (subst Q same on.begun) on.life on.allowed h) in
    let P : Option ℕ → Type 0 = λ o. Boots o mode z s c a.line did.0 in
    let F : List (List ℕ) → Type 0 = PayloadsFit z in
    (did.0, inl (s, z, c, m.1, shows, subst P (sym on.allowed) (inl (subst F same on.fits, did.1))), did.2, did.3)

-- a life goes on from what the disk keeps
held : (size : Size) (m : DiskState) (kept : Kept) (life : BenchLife) (z : Size) → m ≡ Formatted → LifeIs size m kept life z → life.now ≡ found_of kept.changes
held size m kept life z formatted follows = let L : DiskState → Type 0 = λ x. LifeIs size x kept life z in (subst L formatted follows).1

-- ---- the board is off, after an open that left this bench
module _ (size : Size) (b : Bench) (old new : SimDisk) (z : Size) (s : DurableState) (payloads : List (List ℕ)) (line : Printed) (none : b.power ≡ None) (device : DeviceIs size b (fault_state old) (facts old))
    (follows : LifeIs size b.disk_state b.kept (life_begun s z) z) (same : payloads ≡ b.payloads) (no_fewer : (facts old).failures ≤ (facts new).failures) (long : SameLength (facts old) (facts new)) where
  -- what a crash leaves after a boot that was refused so
  abbrev Moments : BootMode → Refusal → Type 0
  Moments mode e = (c : Content) → (facts new).may_leave c → MayLeave (facts old) z s (gone_before e (commands_by mode s)) c

  -- the state after these commands of the boot is that of the bench then
  abbrev Held : List Change → Bench → Type 0
  Held done x = x.disk_state ≡ Formatted → fold s done ≡ found_of x.kept.changes

  abbrev Left : List Change → Option ℕ → BootMode → Type 0
  Left done o mode = (x : Bench) × Boots o mode z s b line x × OffIs size x new × (x.payloads ≡ b.payloads) × Held done x

  -- none of them was issued
  none_held : (done : List Change) → done ≡ [] → b.disk_state ≡ Formatted → fold s done ≡ found_of b.kept.changes
  none_held done none formatted = ap (λ cs. fold s cs) none ∙ held size b.disk_state b.kept (life_begun s z) z formatted follows

  -- the life that the refused boot left, and what a crash leaves of it
  abbrev Stopped : BootMode → Refusal → Type 0
  Stopped mode e = (life : StoreLife) × IsLifeLeft (commands_by mode s) e s life × LeavesLife life.doubt (facts new) z (now_of life)

  -- those commands are acknowledged, and the next one is in doubt after 6
  left_as : (mode : BootMode) (e : Refusal) (stop : Stopped mode e) → LeavesLife (doubt_by e stop.1.later) (facts new) z (fold s stop.1.done)
  left_as mode e (life, stopped, left) = let P : StoreLife → Type 0 = λ l. LeavesLife l.doubt (facts new) z (now_of l) in subst P stopped.is left

  quiet : (mode : BootMode) (e : Refusal) → e ≢ Down → e ≢ Device → Moments mode e → CausedRefusal (fault_state old) e (fault_state new) → Stopped mode e → OffIs size b new
  quiet mode e up is moments cause stop =
      let less : (c : Content) → (facts new).may_leave c → LeftAsBefore (facts old) c = λ c may. (let M : List Change → Type 0 = λ cs. MayLeave (facts old) z s cs c in subst M (none_gone e (commands_by mode s) up is) (moments c may)) in
      let sides : SidesAre size b (facts new) = λ clean c may. sides_before size b.disk_state b.kept (facts old) (never_blank size b.disk_state b.kept s z (facts old) follows) (device.3 clean) c (less c may) in
      let P : Option Change → Type 0 = λ d. LeavesLife d (facts new) z (fold s stop.1.done) in
      let Q : List Change → Type 0 = λ done. LeavesOnly (facts new) z (fold s done) in
      let only : LeavesOnly (facts new) z s = subst Q (stop.1.by_disk is up) (subst P (no_doubt stop.1.later e up) (left_as mode e stop)) in
      (none, kept_only size z b.disk_state b.kept (life_begun s z) (facts new) follows only, stays_as size b b (fault_state old) (fault_state new) (facts old) (facts new) device refl refl (calm e (fault_state old) (fault_state new) cause up is) no_fewer long sides)

  -- by a mode whose commands are these, of which the disk refused that one
  module _ (mode : BootMode) (done : List Change) (c : Change) (later : List Change) (parts : commands_by mode s ≡ done ++ c ∷ later) (allowed : boot_refusal s mode ≡ None) where
    abbrev life : BenchLife
    life = life_with done (life_begun s z)

    abbrev first : Bench
    first = all_acknowledged done (life_begun s z) b

    taken : AreTaken (done ++ c ∷ later) s
    taken = let P : List Change → Type 0 = λ cs. AreTaken cs s in subst P parts (commands_taken mode s allowed)

    goes : LifeIs size b.disk_state first.kept life z
    goes = follows_all size b.disk_state b.kept done (life_begun s z) z follows

    refuses_it : (n : ℕ) (mid : Bench) → Writes None c life first (Err n) mid → line ≡ printed.OnRefused n → BootsFrom mode z s b line (off mid)
    refuses_it n mid writes h =
        let start : Bench = on_with (life_begun s z) b in
        let Q : List Change → Type 0 = λ cs. IssuesAll cs start (Err n) mid in
        let few : length done ≤ 1 = few_of (commands_by mode s) done c later (few_commands mode s) parts in
        (Err n, mid, subst Q (sym parts) (all_but done c later (life_begun s z) start n mid refl refl (omega (arith, few)) taken writes), (h, refl))

    abbrev StartsOff : Type 0
    StartsOff = (x : Bench) × BootsFrom mode z s b line x × OffIs size x new × (x.payloads ≡ b.payloads) × Held done x

    -- the disk failed before the command could take effect
    failed_at : line ≡ printed.OnRefused 5 → LeavesOnly (facts new) z life.now → CausedRefusal (fault_state old) Device (fault_state new) → CountsRefusal (facts old).failures Device (facts new).failures → StartsOff
    failed_at h left cause counts =
        let did = fails_as size b first (fault_state old) (fault_state new) (facts old) (facts new) device refl refl cause counts long in
        let mid = failed (fault_state new) first in
        (off mid, refuses_it 5 mid (inr (inl (refl, did.0))) h, (refl, kept_only size z b.disk_state first.kept life (facts new) goes left, did.1), refl, λ is. held size b.disk_state first.kept life z is goes)

    -- it failed where the command may have taken effect
    doubted_at : line ≡ printed.OnRefused 6 → LeavesEither (facts new) z life.now (after life.now c) → CausedRefusal (fault_state old) Down (fault_state new) → CountsRefusal (facts old).failures Down (facts new).failures → StartsOff
    doubted_at h left cause counts =
        let d : Bench = in_doubt c life first in
        let did = fails_as size b d (fault_state old) (fault_state new) (facts old) (facts new) device refl refl cause counts long in
        let mid = failed (fault_state new) d in
        (off mid, refuses_it 6 mid (inr (inr (refl, did.0))) h, (refl, kept_either size z b.disk_state first.kept life c (facts new) goes (taken_at done c later s taken) left, did.1), refl, λ is. held size b.disk_state first.kept life z is goes)

  -- the bench boots what the call was given
  fit_here : PayloadsFit z payloads → PayloadsFit z b.payloads
  fit_here fits = let P : List (List ℕ) → Type 0 = PayloadsFit z in subst P same fits

  fit_there : PayloadsFit z b.payloads → PayloadsFit z payloads
  fit_there fits = let P : List (List ℕ) → Type 0 = PayloadsFit z in subst P (sym same) fits

  started_off : (mode : BootMode) (done : List Change) → PayloadsFit z payloads → ((x : Bench) × BootsFrom mode z s b line x × OffIs size x new × (x.payloads ≡ b.payloads) × Held done x) → Left done None mode
  started_off modes.Fresh done fits did = (did.0, inl (fit_here fits, did.1), did.2, did.3, did.4)
  started_off modes.Keep done fits did = (did.0, inl (fit_here fits, did.1), did.2, did.3, did.4)
  started_off modes.Discard done fits did = (did.0, inl (fit_here fits, did.1), did.2, did.3, did.4)
  started_off modes.Resume done fits did = (did.0, inl (fit_here fits, inl did.1), did.2, did.3, did.4)

  late_device : (mode : BootMode) (done later : List Change) → PayloadsFit z payloads → commands_by mode s ≡ done ++ later → (later ≡ [] → ⊥) → boot_refusal s mode ≡ None → line ≡ printed.OnRefused 5 → LeavesLife (doubt_by Device later) (facts new) z (fold s done)
      → CausedRefusal (fault_state old) Device (fault_state new) → CountsRefusal (facts old).failures Device (facts new).failures → Left done None mode
  late_device mode done [] fits parts some allowed h left cause counts = absurd (some refl)
  late_device mode done (c ∷ later) fits parts some allowed h left cause counts = started_off mode done fits (failed_at mode done c later parts allowed h left cause counts)

  late_down : (mode : BootMode) (done later : List Change) → PayloadsFit z payloads → commands_by mode s ≡ done ++ later → (later ≡ [] → ⊥) → boot_refusal s mode ≡ None → line ≡ printed.OnRefused 6 → LeavesLife (doubt_by Down later) (facts new) z (fold s done)
      → CausedRefusal (fault_state old) Down (fault_state new) → CountsRefusal (facts old).failures Down (facts new).failures → Left done None mode
  late_down mode done [] fits parts some allowed h left cause counts = absurd (some refl)
  late_down mode done (c ∷ later) fits parts some allowed h left cause counts = started_off mode done fits (doubted_at mode done c later parts allowed h left cause counts)

  late : (mode : BootMode) (e : Refusal) → boot_refusal s mode ≡ None → line ≡ printed.OnRefused (number_of_refusal e) → IsLateRefusal mode z payloads s e → Moments mode e → (stop : Stopped mode e) → CausedRefusal (fault_state old) e (fault_state new)
      → CountsRefusal (facts old).failures e (facts new).failures → Left stop.1.done None mode
  late mode BadShape allowed h why moments stop cause counts =
      let other : BadShape ≢ Down = λ f. (let no : ⊥ = cc in no) in
      let another : BadShape ≢ Device = λ f. (let no : ⊥ = cc in no) in (
        b,
        inr (inl (λ fits. why (fit_there fits), h, refl)),
        quiet mode BadShape other another moments cause stop,
        refl,
        none_held stop.1.done (stop.1.by_disk another other),
      )
  late mode Memory allowed h why moments stop cause counts =
      let x : Bench = out_of_memory b in
      let did = quiet mode Memory (λ f. (let no : ⊥ = cc in no)) (λ f. (let no : ⊥ = cc in no)) moments cause stop in
      (x, inr (inr (fit_here why, h, refl)), (did.0, did.1, (did.2.0, did.2.1, did.2.2, starved_sides size x b.growths (facts new) refl)), refl, none_held stop.1.done (stop.1.by_disk (λ f. (let no : ⊥ = cc in no)) (λ f. (let no : ⊥ = cc in no))))
  late mode Device allowed h why moments stop cause counts = late_device mode stop.1.done stop.1.later why.0 stop.1.parts (λ none. why.1 (stop.1.refused none)) allowed h (left_as mode Device stop) cause counts
  late mode Down allowed h why moments stop cause counts = late_down mode stop.1.done stop.1.later why.0 stop.1.parts (λ none. why.1 (stop.1.refused none)) allowed h (left_as mode Down stop) cause counts
  late mode BadImage allowed h why moments stop cause counts =
      let P : BootMode → Type 0 = λ y. Boots None y z s b line b in
      (b, subst P (sym why.1) (inl (fit_here why.0, inr (why.2, h, refl))), quiet mode BadImage (λ f. (let no : ⊥ = cc in no)) (λ f. (let no : ⊥ = cc in no)) moments cause stop, refl, none_held stop.1.done (stop.1.by_disk (λ f. (let no : ⊥ = cc in no)) (λ f. (let no : ⊥ = cc in no))))
  late mode e allowed h why moments stop cause counts = absurd why

  refused : (mode : BootMode) (o : Option ℕ) (e : Refusal) → boot_refusal s mode ≡ o → line ≡ printed.OnRefused (number_of_refusal e) → IsBootRefusal o mode z payloads s e → Moments mode e → (stop : Stopped mode e)
      → CausedRefusal (fault_state old) e (fault_state new) → CountsRefusal (facts old).failures e (facts new).failures → Left stop.1.done o mode
  refused mode None e at h why moments stop cause counts = late mode e at h why moments stop cause counts
  refused mode (Some n) e at h why moments stop cause counts = (
    b,
    (h ∙ ap (λ k. printed.OnRefused k) why, refl),
    quiet mode e (mode_not_down s mode n e at why) (mode_not_device s mode n e at why) moments cause stop,
    refl,
    none_held stop.1.done (stop.1.by_disk (mode_not_device s mode n e at why) (mode_not_down s mode n e at why)),
  )

-- a bench after a power-on that was refused
abbrev pub Unpowered : Size → BootMode → Bench → Answer → Option Durable → SimDisk → Type 0
Unpowered size mode b a now new = (x : Bench) × (PowersOn size mode b a x × TellsNow a.found now x) × OffIs size x new × (x.payloads ≡ b.payloads)

-- the board stays off, whether the open found a state or not
pub unpowered : KeptLaw → BlankLaw → (size : Size) (mode : BootMode) (b : Bench) (old new : SimDisk) (payloads : List (List ℕ)) (e : Refusal) (n : ℕ) (o p : Option Durable) → OffIs size b old → payloads ≡ b.payloads → n ≡ number_of_refusal e
    → IsUnpowered mode payloads o p (facts old) e (facts new) → GivesDisk (facts old) (fault_state old) e (facts new) (fault_state new) → Unpowered size mode b (record { found = o; line = printed.OnRefused n }) p new
unpowered kept blank size mode b old new payloads e n None None off same code is gives =
    let did = open_err kept blank size mode b old new (says (printed.OnRefused n)) e off.0 off.2 is.why gives.cause gives.no_fewer gives.length is.any_moment.now (ap (λ k. says (printed.OnRefused k)) code) off.1 in
    (did.0, (did.1, tt), did.2, did.3)
unpowered kept blank size mode b old new payloads e n (Some d) (Some now) off same code is gives =
    let z : Size = is.size in
    let s : DurableState = is.state in
    let m = opened kept blank size b old z s off is.earlier in
    let c : Bench = record b { kept = m.0 } in
    let sides : SidesAre size c (facts old) = λ clean x left. settled_sides size b.disk_state b m.0 s z m.1 x (off.2.3 clean x left) in
    let did = refused size c old new z s payloads (printed.OnRefused n) off.0 (off.2.0, off.2.1, off.2.2, sides) m.2 same gives.no_fewer gives.length mode (boot_refusal s mode) e refl
    (ap (λ k. printed.OnRefused k) code) is.why is.any_moment.now (is.life, is.stopped, is.left) gives.cause gives.counts in
    let now_is : now ≡ durable_of (fold s is.stopped.done) = is.tells ∙ ap (λ (l : StoreLife). durable_of (now_of l)) is.stopped.is in
    (did.0, (inl (s, z, c, m.1, is.shows, did.1), λ formatted. now_is ∙ ap durable_of (did.4 formatted)), did.2, did.3)
unpowered kept blank size mode b old new payloads e n None (Some now) off same code is gives = absurd is
unpowered kept blank size mode b old new payloads e n (Some d) None off same code is gives = absurd is

-- the state now of a board that is on
pub on_now : (size : Size) (x : Bench) (board : SimBoard) → OnIs size x board → x.disk_state ≡ Formatted → store_now (store_in board) ≡ found_of x.kept.changes
on_now size x board on formatted =
    let M : DiskState → Type 0 = λ m. BoardIs size m x.kept x.power board in
    go x.power (subst M formatted on.0)
  where
    go : (p : Option BenchLife) → BoardIs size Formatted x.kept p board → store_now (store_in board) ≡ found_of x.kept.changes
    go None is = absurd is
    go (Some life) is = is.0.1.0 ∙ is.0.0.1
