-- What a command answers on a board that is on.
use Rattle.std.proofs.Common.{◌≡◌, ◌≤◌, ℕ, ◌+◌, [], ◌∷◌, ◌++◌, inl, inr, Option, None, Some, Result, Ok, Err, false, refl, sym, ◌∙◌, ap, subst}
use Rattle.board_model.specs.{Durable.{Change, after, ends_life}, Kept.Kept, Shapes.Size, Views.number_of_refusal}
use Rattle.board_model.specs.declared.refusal.Refusal.{Refusal, TheVariants.{Device, Down, Memory, JournalFull}}
use Rattle.disk.specs.Facts.{Failed}
use Rattle.machine.specs.Machine.{Machine}
use Rattle.simdisk.specs.contracts.device.SimDiskDisk.TheImpl.Laws.{may_keep-law}
use Rattle.store.specs.{Leaves.{SameLength, IsKept, WroteACommand}, Lives.{Life as StoreLife, Applied, Refused}, Opens.CausedRefusal}
use Rattle.store.specs.{Views.{life_of, doubt_of, device_of}, Answers.CountedRefusal}
use Rattle.bench_report.specs.Views.{SimStore, SimBoard, store_in, machine_in, IsLife, IsAs, store_size, store_now, store_doubt, store_fault_state, store_facts}
use Rattle.bench_report.specs.{Bench.{DiskState, Blank, Unknown, Formatted, BenchLife, Bench}, Happens.{failed, acknowledged, in_doubt}}
use Rattle.bench_report.{specs.{Commands.{Writes, IssuedBy, Issued}, Sides.SidesAre}, proofs.Devices.{fails_by_fault, fails_as, stays_as}}
use Rattle.bench_report.{specs.Agree.{StoreIs, BoardIs, LifeIs, DeviceIs, OnIs, IsOver}, proofs.{Sides.commanded, Ended.found_more}}
use Rattle.bench_report.proofs.Adapted.{Reaches, Acknowledges, Refuses, acknowledged as acknowledges, ended, refused, struck, downed, calm as untouched}
use Rattle.bench_report.proofs.{Formats.same_error, Table.{not_device, not_down, not_memory}}

-- a board that is on, by its machine and its store
abbrev pub Running : Size → Bench → Machine → SimStore → Type 0
Running size b m store = (life : BenchLife) × (b.power ≡ Some life) × StoreIs size b.disk_state b.kept life store × (m ≡ life.machine) × DeviceIs size b (store_fault_state store) (store_facts store)

pub running_on : (size : Size) (b : Bench) (board : SimBoard) → Running size b (machine_in board) (store_in board) → OnIs size b board
running_on size b board (life, on, store, machine, device) =
    let P : Option BenchLife → Type 0 = λ p. BoardIs size b.disk_state b.kept p board in
    (subst P (sym on) (store, machine), device)

-- a board with that machine
pub goes_on : (size : Size) (b : Bench) (m : Machine) (board : SimBoard) → Running size b m (store_in board) → machine_in board ≡ m → OnIs size b board
goes_on size b m board is same = let P : Machine → Type 0 = λ n. Running size b n (store_in board) in running_on size b board (subst P (sym same) is)

pub follows_more : (size : Size) (m : DiskState) (k : Kept) (c : Change) (life : BenchLife) (z : Size) → LifeIs size m k life z → LifeIs size m (record k { changes = k.changes ++ c ∷ [] }) (record life { now = after life.now c; receipts = life.receipts + 1 }) z
follows_more size Blank k c life z h = h
follows_more size Unknown k c life z h = h
follows_more size Formatted k c life z h = (h.0, found_more k.changes c life.now h.1, h.2, h.3)

follows_doubt : (size : Size) (m : DiskState) (k : Kept) (c : Change) (life : BenchLife) (z : Size) → LifeIs size m k life z → LifeIs size m (record k { doubt = Some c }) (record life { doubt = Some c }) z
follows_doubt size Blank k c life z h = h
follows_doubt size Unknown k c life z h = h
follows_doubt size Formatted k c life z h = (refl, h.1, h.2, h.3)

-- a life goes on from what the disk keeps, whatever its memory and harts are
pub follows_with : (size : Size) (m : DiskState) (k : Kept) (life : BenchLife) (machine : Machine) (z : Size) → machine.size ≡ life.machine.size → LifeIs size m k life z → LifeIs size m k (record life { machine = machine }) z
follows_with size Blank k life machine z same h = h
follows_with size Unknown k life machine z same h = same ∙ h
follows_with size Formatted k life machine z same h = (h.0, h.1, h.2, same ∙ h.3)

-- its memory is that of the board of its store
pub sized_for : (size : Size) (m : DiskState) (k : Kept) (life : BenchLife) (z : Size) → LifeIs size m k life z → life.machine.size ≡ z
sized_for size Blank k life z h = absurd h
sized_for size Unknown k life z h = h
sized_for size Formatted k life z h = h.3

sized : (size : Size) (m : DiskState) (k : Kept) (life : BenchLife) (z y : Size) → y ≡ z → LifeIs size m k life z → LifeIs size m k life y
sized size m k life z y same h = let P : Size → Type 0 = λ x. LifeIs size m k life x in subst P (sym same) h

over_more : (size : Size) (m : DiskState) (k : Kept) (c : Change) (life : BenchLife) (store : SimStore) → LifeIs size m k life (store_size store) → life.doubt ≡ None → store_now store ≡ after life.now c → store_doubt store ≡ None
    → IsOver size m (record k { changes = k.changes ++ c ∷ [] }) store
over_more size Blank k c life store h calm now doubt = h
over_more size Unknown k c life store h calm now doubt = tt
over_more size Formatted k c life store h calm now doubt = (h.0 ∙ calm, now ∙ found_more k.changes c life.now h.1, h.2, doubt)

-- A command on a board whose life has a command in doubt, or none. Where none is, the store's life is seen so
-- when it is asked.
module _ (size : Size) (b : Bench) (life : BenchLife) (c : Change) (old new : SimStore) (seen : StoreLife)
    (on : b.power ≡ Some life) (was : StoreIs size b.disk_state b.kept life old) (device : DeviceIs size b (store_fault_state old) (store_facts old))
    (same_size : store_size new ≡ store_size old) (fits : SameLength (store_facts old) (store_facts new)) (no_fewer : (store_facts old).failures ≤ (store_facts new).failures) where
  -- the command is answered so, and the board is on
  abbrev pub Goes : Result ℕ ℕ → Type 0
  Goes o = (x : Bench) × Issued c life b o x × Running size x life.machine new × (x.payloads ≡ b.payloads)

  here : LifeIs size b.disk_state b.kept life (store_size new)
  here = sized size b.disk_state b.kept life (store_size old) (store_size new) same_size was.0

  -- the life is as it was
  pub again : (x : Bench) → x.disk_state ≡ b.disk_state → x.kept ≡ b.kept → x.power ≡ b.power → life.doubt ≡ None → IsAs new life.now life.receipts None → DeviceIs size x (store_fault_state new) (store_facts new) → Running size x life.machine new
  again x disk_state kept power calm is now =
      let P : Option Change → Type 0 = λ d. IsAs new life.now life.receipts d in
      let M : DiskState → Type 0 = λ m. StoreIs size m x.kept life new in
      let K : Kept → Type 0 = λ k. StoreIs size b.disk_state k life new in
      (life, power ∙ on, subst M (sym disk_state) (subst K (sym kept) (here, subst P (sym calm) is)), refl, now)

  pub calm_device : (x : Bench) → x.fault_state ≡ b.fault_state → x.failures ≡ b.failures → SidesAre size x (store_facts new) → store_fault_state new ≡ store_fault_state old → DeviceIs size x (store_fault_state new) (store_facts new)
  calm_device x fault_state failures sides same =
      stays_as size b x (store_fault_state old) (store_fault_state new) (store_facts old) (store_facts new) device fault_state failures same no_fewer fits sides

  -- an acknowledged command was written, and each crash leaves a state
  abbrev pub Writing : Type 0
  Writing = WroteACommand (store_facts old) (store_facts new) × IsKept (store_facts new) (store_size old)

  written_sides : Writing → SidesAre size (acknowledged c life b) (store_facts new)
  written_sides writing clean x left =
      commanded size (store_size old) b.kept c life (store_facts old) (store_facts new) (may_keep-law (device_of old)) b.disk_state was.0 writing.0 writing.1 (device.3 clean) x left

  -- a refusal that is neither the disk's nor for memory left the store as it was
  abbrev pub Untouched : Refusal → Type 0
  Untouched e = (e ≡ Device → ⊥) → (e ≡ Down → ⊥) → (e ≡ Memory → ⊥) → new ≡ old

  pub still_sides : new ≡ old → SidesAre size b (store_facts new)
  still_sides same = let P : SimStore → Type 0 = λ store. SidesAre size b (store_facts store) in subst P (sym same) device.3

  with_none : life.doubt ≡ None → (o : Result ℕ ℕ) (x : Bench) → IssuedBy None c life b o x → Issued c life b o x
  with_none calm o x i = let P : Option Change → Type 0 = λ d. IssuedBy d c life b o x in subst P (sym calm) i

  issued_ok : life.doubt ≡ None → (n : ℕ) → Reaches life.now life.receipts c → n ≡ life.receipts + 1 → Issued c life b (Ok n) (acknowledged c life b)
  issued_ok calm n reaches is =
      let x = acknowledged c life b in
      let Q : Option ℕ → Type 0 = λ r. Writes r c life b (Ok n) x in
      with_none calm (Ok n) x (inr (reaches.0, subst Q (sym reaches.1) (inl (ap (λ k. Ok k) is, refl))))

  up_ok : life.doubt ≡ None → (n : ℕ) → Acknowledges life.now life.receipts c n (life_of new) → DeviceIs size (acknowledged c life b) (store_fault_state new) (store_facts new) → Goes (Ok n)
  up_ok calm n did now =
      let x = acknowledged c life b in
      let P : Option Change → Type 0 = λ d. IsAs new (after life.now c) (life.receipts + 1) d in (
        x,
        issued_ok calm n did.0 did.1,
        (record life { now = after life.now c; receipts = life.receipts + 1 }, refl, (follows_more size b.disk_state b.kept c life (store_size new) here, subst P (sym calm) did.2), refl, now),
        refl,
      )

  number : (e f : Refusal) → e ≡ f → ◌≡◌ {A = Result ℕ ℕ} (Err (number_of_refusal e)) (Err (number_of_refusal f))
  number e f is = ap (λ x. Err (number_of_refusal x)) is

  up_err : life.doubt ≡ None → (e : Refusal) → Refuses life.now life.receipts c e (life_of new) → CausedRefusal (store_fault_state old) e (store_fault_state new)
      → (e ≡ Device → Failed (store_facts old).failures (store_facts new).failures) → (e ≡ Down → Failed (store_facts old).failures (store_facts new).failures)
      → Untouched e → Goes (Err (number_of_refusal e))
  up_err calm e (inl did) cause fails downs still =
      let x = fails_by_fault size b (store_fault_state old) (store_fault_state new) (store_facts old) (store_facts new) device (struck e (store_fault_state old) (store_fault_state new) cause did.0) (fails did.0) fits in
      let y = failed (store_fault_state new) b in
      let Q : Option ℕ → Type 0 = λ r. Writes r c life b (Err (number_of_refusal e)) y in
      (y, with_none calm (Err (number_of_refusal e)) y (inr (did.1.0, subst Q (sym did.1.1) (inr (inl (number e Device did.0, x.0))))), again y refl refl refl calm did.2 x.1, refl)
  up_err calm e (inr (inl did)) cause fails downs still =
      let d = in_doubt c life b in
      let x = fails_as size b d (store_fault_state old) (store_fault_state new) (store_facts old) (store_facts new) device refl refl (downed e (store_fault_state old) (store_fault_state new) cause did.0) (downs did.0) fits in
      let y = failed (store_fault_state new) d in
      let Q : Option ℕ → Type 0 = λ r. Writes r c life b (Err (number_of_refusal e)) y in (
        y,
        with_none calm (Err (number_of_refusal e)) y (inr (did.1.0, subst Q (sym did.1.1) (inr (inr (number e Down did.0, x.0))))),
        (record life { doubt = Some c }, refl, (follows_doubt size b.disk_state b.kept c life (store_size new) here, did.2), refl, x.1),
        refl,
      )
  up_err calm e (inr (inr (inl did))) cause fails downs still =
      let same = untouched e (store_fault_state old) (store_fault_state new) cause (λ f. (let no : ⊥ = cc in no)) (λ f. (let no : ⊥ = cc in no)) in
      let sides = still_sides (still (λ f. (let no : ⊥ = cc in no)) (λ f. (let no : ⊥ = cc in no)) (λ f. (let no : ⊥ = cc in no))) in
      (b, with_none calm (Err (number_of_refusal e)) b (inl (did.1, number e JournalFull did.0, refl)), again b refl refl refl calm did.2 (calm_device b refl refl sides same), refl)
  up_err calm e (inr (inr (inr did))) cause fails downs still =
      let sides = still_sides (still (not_device life.now c e did.0) (not_down life.now c e did.0) (not_memory life.now c e did.0)) in
      let same = untouched e (store_fault_state old) (store_fault_state new) cause (not_down life.now c e did.0) (not_device life.now c e did.0) in
      let Q : Option ℕ → Type 0 = λ r. Writes r c life b (Err (number_of_refusal e)) b in
      (b, with_none calm (Err (number_of_refusal e)) b (inr (did.1, subst Q (sym did.0) (refl, refl))), again b refl refl refl calm did.2 (calm_device b refl refl sides same), refl)

  -- the store as it was
  pub unmoved : new ≡ old → Running size b life.machine new
  unmoved same =
      let Q : SimStore → Type 0 = λ store. StoreIs size b.disk_state b.kept life store in
      let S : SimStore → Type 0 = λ store. DeviceIs size b (store_fault_state store) (store_facts store) in
      (life, on, subst Q (sym same) was, refl, subst S (sym same) device)

  module _ (is : life.doubt ≡ None → IsLife seen life.now life.receipts None) where
    never_ok : {A : Type 0} (d : Change) → life.doubt ≡ Some d → (n : ℕ) → ((d : Change) → doubt_of old ≡ Some d → (◌≡◌ {A = Result ℕ Refusal} (Ok n) (Err Down)) × (new ≡ old)) → A
    never_ok d calm n down = absurd (let e = (down d (was.1.2 ∙ calm)).0 in let no : ⊥ = cc in no)

    pub reported_ok : ends_life c ≡ false → (doubt : Option Change) → life.doubt ≡ doubt → (n : ℕ)
        → (doubt_of old ≡ None → Applied seen c (Ok n) (life_of new)) → ((d : Change) → doubt_of old ≡ Some d → (◌≡◌ {A = Result ℕ Refusal} (Ok n) (Err Down)) × (new ≡ old))
        → (doubt_of old ≡ None → store_fault_state new ≡ store_fault_state old) → (doubt_of old ≡ None → Writing) → Goes (Ok n)
    reported_ok goes None calm n up down unmoved wrote =
        let did = acknowledges life.now life.receipts c seen (life_of new) (is calm) goes n (up (was.1.2 ∙ calm)) in
        up_ok calm n did (calm_device (acknowledged c life b) refl refl (written_sides (wrote (was.1.2 ∙ calm))) (unmoved (was.1.2 ∙ calm)))
    reported_ok goes (Some d) calm n up down unmoved wrote = never_ok d calm n down

    -- a command that ended the life
    pub reported_end : (doubt : Option Change) → life.doubt ≡ doubt → (n : ℕ)
        → (doubt_of old ≡ None → Applied seen c (Ok n) (life_of new)) → ((d : Change) → doubt_of old ≡ Some d → (◌≡◌ {A = Result ℕ Refusal} (Ok n) (Err Down)) × (new ≡ old))
        → (doubt_of old ≡ None → store_fault_state new ≡ store_fault_state old) → (doubt_of old ≡ None → Writing)
        → Issued c life b (Ok n) (acknowledged c life b) × IsOver size b.disk_state (acknowledged c life b).kept new × DeviceIs size (acknowledged c life b) (store_fault_state new) (store_facts new)
    reported_end None calm n up down unmoved wrote =
        let did = ended life.now life.receipts c seen (life_of new) (is calm) n (up (was.1.2 ∙ calm)) in
        (issued_ok calm n did.0 did.1, over_more size b.disk_state b.kept c life new here calm did.2 did.3, calm_device (acknowledged c life b) refl refl (written_sides (wrote (was.1.2 ∙ calm))) (unmoved (was.1.2 ∙ calm)))
    reported_end (Some d) calm n up down unmoved wrote = never_ok d calm n down

    pub reported_up : life.doubt ≡ None → (e : Refusal) → Refused seen c e (life_of new) → CausedRefusal (store_fault_state old) e (store_fault_state new) → CountedRefusal (store_facts old).failures e (store_facts new).failures
        → Untouched e → Goes (Err (number_of_refusal e))
    reported_up calm e up cause counts still =
        let did = refused life.now life.receipts c seen (life_of new) (is calm) e up in
        let P : Refusal → Type 0 = λ f. CountedRefusal (store_facts old).failures f (store_facts new).failures in
        up_err calm e did cause (λ is. subst P is counts) (λ is. subst P is counts) still

    pub reported_down : (d : Change) → life.doubt ≡ Some d → (e : Refusal) → ((◌≡◌ {A = Result ℕ Refusal} (Err e) (Err Down)) × (new ≡ old)) → Goes (Err (number_of_refusal e))
    reported_down d calm e did =
        let P : Option Change → Type 0 = λ d. IssuedBy d c life b (Err (number_of_refusal e)) b in
        (b, subst P (sym calm) (number e Down (same_error did.0), refl), unmoved did.1, refl)

    pub reported_err : (doubt : Option Change) → life.doubt ≡ doubt → (e : Refusal)
        → (doubt_of old ≡ None → Refused seen c e (life_of new)) → ((d : Change) → doubt_of old ≡ Some d → (◌≡◌ {A = Result ℕ Refusal} (Err e) (Err Down)) × (new ≡ old))
        → (doubt_of old ≡ None → CausedRefusal (store_fault_state old) e (store_fault_state new))
        → (doubt_of old ≡ None → CountedRefusal (store_facts old).failures e (store_facts new).failures) → Untouched e → Goes (Err (number_of_refusal e))
    reported_err None calm e up down cause counts still = let none = was.1.2 ∙ calm in reported_up calm e (up none) (cause none) (counts none) still
    reported_err (Some d) calm e up down cause counts still = reported_down d calm e (down d (was.1.2 ∙ calm))
