-- Lines that speak of memory and harts, or keep a payload, by what the code's board did.
use Rattle.board_model.specs.{declared.call_words.CallWords.CallWords, Shapes.Size}
use Rattle.std.proofs.Common.{◌≡◌, inl, inr, slice_set, ℕ, List, length, Option, None, Some, Result, Ok, MatchResult, refl, sym, ◌∙◌, ap, subst}
use Rattle.std.specs.declared.alloc.AllocError.{AllocError}
use Rattle.script_lang.specs.declared.line.Line.{Line}
use Rattle.script_lang.specs.declared.line.Line.TheVariants as lines
use Rattle.machine.specs.{Machine.{Machine, hart_at}, Turns.{MakesOneCall, calling}, Shows.{HasHart, own_line, made_line, called_line}}
use Rattle.machine.specs.declared.line.MachineLine.{MachineLine}
use Rattle.susp.specs.Dozes.{doze_of}
use Rattle.sbi.specs.declared.words.Word.{Word}
use Rattle.sbi.specs.declared.words.Word.TheVariants as words
use Rattle.board.specs.Turns as boards
use Rattle.sbi_calls.specs.declared.words.Turned.{Turned}
use Rattle.machine.specs.declared.line.MachineLine.TheVariants as shown
use Rattle.bench_report.specs.{declared.power.{Power.{Power, TheVariants.{Off, On}}, OffDisk.OffDisk}, Bench.{BenchLife, Bench}}
use Rattle.bench_report.{specs.Views.{SimStore, SimBoard, store_in, machine_in, store_facts, store_fault_state}, proofs.Dozed.call_size}
use Rattle.bench_report.specs.{Happens.{shows, on_with, has_machine}, PowerOns.FormatsOn, Examined.{InspectsOn, InspectStep}}
use Rattle.bench_report.specs.{Steps.{Step, FormatStep, CallReported, GuestCall, TurnStep, CallStep, ReadStep}, Turns.ComesTo}
use Rattle.bench_report.proofs.{Commanded.{Running, running_on}, Came.{CountsRefused, Stands, has_other, comes, turns}}
use Rattle.bench_report.{proofs.FailureFree.comes_free, specs.{Asides.AsideStep, Deeds.SetSlot}}
use Rattle.bench_report.specs.Agree.{StoreIs, BoardIs, CountsNone, DeviceIs, HadEnough, OffIs, OnIs, BoardAfter, Agrees, IsBench, Matches, StaysOn, StepsEnough, StepsTo}
use Rattle.report_lines.specs.declared.printed.Answer.{Answer}

-- a board that is off
pub off_formats : (size : Size) (b : Bench) (a : Answer) (after : Power) → b.power ≡ None → StepsTo size b after (FormatsOn b.disk_state b a) → StepsTo size b after (FormatStep b.power b a)
off_formats size b a after none did = let P : Option BenchLife → Type 0 = λ p. FormatStep p b a did.0 in (did.0, subst P (sym none) did.1, did.2, did.3)

pub off_inspects : (size : Size) (b : Bench) (a : Answer) (after : Power) → b.power ≡ None → StepsTo size b after (InspectsOn size b a) → StepsTo size b after (InspectStep size b.power b a)
off_inspects size b a after none did = let P : Option BenchLife → Type 0 = λ p. InspectStep size p b a did.0 in (did.0, subst P (sym none) did.1, did.2, did.3)

-- a board that is on has a life
life_by : {X : Type 0} (size : Size) (b : Bench) (board : SimBoard) (p : Option BenchLife) → b.power ≡ p → OnIs size b board → ((life : BenchLife) → b.power ≡ Some life → X) → X
life_by size b board None e was then = let P : Option BenchLife → Type 0 = λ p. BoardIs size b.disk_state b.kept p board in absurd (subst P e was.0)
life_by size b board (Some life) e was then = then life e

pub on_life : {X : Type 0} (size : Size) (b : Bench) (board : SimBoard) → OnIs size b board → ((life : BenchLife) → b.power ≡ Some life → X) → X
on_life size b board was then = life_by size b board b.power refl was then

pub on_reads : (size : Size) (b : Bench) (board : SimBoard) (says_so : Machine → MachineLine → Type 0) (line : MachineLine) → OnIs size b board → says_so (machine_in board) line → ReadStep b.power says_so b (shows line) b
on_reads size b board says_so line was so = by b.power was.0
  where
    by : (p : Option BenchLife) → BoardIs size b.disk_state b.kept p board → ReadStep p says_so b (shows line) b
    by None is = absurd is
    by (Some life) is = let P : Machine → Type 0 = λ m. says_so m line in (line, subst P is.1 so, refl, refl)

-- a board of which nothing changed
pub as_it_was : (size : Size) (b : Bench) (old new : SimBoard) → OnIs size b old → machine_in new ≡ machine_in old → store_in new ≡ store_in old → OnIs size b new
as_it_was size b old new was still same =
    let R : SimStore → Type 0 = λ store. DeviceIs size b (store_fault_state store) (store_facts store) in
    (by b.power was.0, subst R (sym same) was.1)
  where
    by : (p : Option BenchLife) → BoardIs size b.disk_state b.kept p old → BoardIs size b.disk_state b.kept p new
    by None is = absurd is
    by (Some life) is = let Q : SimStore → Type 0 = λ store. StoreIs size b.disk_state b.kept life store in (subst Q (sym same) is.0, still ∙ is.1)

-- a board by what is said of it, and by its machine and its store
on_runs : (size : Size) (b : Bench) (life : BenchLife) (board : SimBoard) → b.power ≡ Some life → BoardIs size b.disk_state b.kept (Some life) board → DeviceIs size b (store_fault_state (store_in board)) (store_facts (store_in board))
    → Running size b (machine_in board) (store_in board)
on_runs size b life board on is device = (life, on, is.0, is.1, device)

pub stands_by : (size : Size) (word : Word) (b : Bench) (board : SimBoard) → Stands size word b (machine_in board) (store_in board) → BoardAfter size word b board
stands_by size (words.Goes did) b board is = running_on size b board is
stands_by size (words.Over end) b board is = is

-- a line of turns, by what the board did
pub on_turns : (size : Size) (b : Bench) (old new : SimBoard) (h n made : ℕ) (word : Word) (after : Power) → OnIs size b old → HasHart (machine_in old) h
    → boards.TurnsManyHeld h n (machine_in old) (machine_in new) (store_in old) (store_in new) made word → ((x : Bench) → BoardAfter size word x new → Agrees size x after)
    → StepsTo size b after (TurnStep b.power h n b (shows (shown.Turn h made word)))
on_turns size b old new h n made word after was has turned agrees = by b.power was.0 refl
  where
    by : (p : Option BenchLife) → BoardIs size b.disk_state b.kept p old → b.power ≡ p → StepsTo size b after (TurnStep p h n b (shows (shown.Turn h made word)))
    by None is on = absurd is
    by (Some life) is on =
        let P : Machine → Type 0 = λ m. HasHart m h in
        let did = turns size h n b (machine_in old) (machine_in new) (store_in old) (store_in new) made word (on_runs size b life old on is was.1) turned in
        (did.0, inl (subst P is.1 has, made, word, did.1, refl), agrees did.0 (stands_by size word did.0 new did.2), did.3)

-- a line whose hart the board lacks
lacks : (size : Size) (b : Bench) (board : SimBoard) (h : ℕ) (p : Option BenchLife) → BoardIs size b.disk_state b.kept p board → (HasHart (machine_in board) h → ⊥) → (step : Option BenchLife → Type 0) → ((life : BenchLife) → (HasHart life.machine h → ⊥) → step (Some life)) → step p
lacks size b board h None is not step then = absurd is
lacks size b board h (Some life) is not step then = let P : Machine → Type 0 = λ m. HasHart m h → ⊥ in then life (subst P is.1 not)

pub call_lacks : (size : Size) (b : Bench) (board : SimBoard) (h : ℕ) (asked : CallWords) → OnIs size b board → (HasHart (machine_in board) h → ⊥)
    → StepsTo size b (On board) (λ w. CallStep b.power h asked b (shows shown.Off) w × CountsNone (On board) b w)
call_lacks size b board h asked was not =
    (b, (lacks size b board h b.power was.0 not (λ p. CallStep p h asked b (shows shown.Off) b) (λ life no. inr (no, refl, refl)), λ had. refl), was, refl)

-- a line of a call, by what the board did
reported_as : (size : Size) (h : ℕ) (word : Word) (b : Bench) (n : Machine) (store : SimStore) (line : MachineLine) → Stands size word b n store → line ≡ made_line h (hart_at n h) word → CallReported h word b (shows line)
reported_as size h (words.Goes did) b n store line (life, on, is, same, device) e = (life, on, ap shows (e ∙ ap (λ m. own_line h (hart_at m h) did) same))
reported_as size h (words.Over end) b n store line is e = ap shows e

module _ (size : Size) (b : Bench) (old new : SimBoard) (h : ℕ) (asked : CallWords) (said : Option Word) (line : MachineLine) (after : Power) (was : OnIs size b old) (has : HasHart (machine_in old) h) (shows_it : line ≡ called_line h (hart_at (machine_in new) h) said) where
  -- what the board is, where a word was said and where none was
  abbrev pub Follows : Option Word → Type 0
  Follows None = (w : Bench) → OnIs size w new → Agrees size w after
  Follows (Some word) = ((w : Bench) → BoardAfter size word w new → Agrees size w after) × StaysOn word new after

  -- a call that ends the life was refused no memory
  enough : (did : Turned) (life : BenchLife) (x : Bench) (word : Word) (w : Bench) → StaysOn word new after → ComesTo did h life x word w → CountsRefused (store_in new) x w → CountsNone after x w
  enough did life x (words.Goes by) w is step counts = λ had. counts (subst HadEnough is had)
  enough did life x (words.Over end) w is step counts = λ had. (comes_free did h life x (words.Over end) w step (λ e. (let no : ⊥ = cc in no))).0

  came : (life : BenchLife) (m : Machine) (called : Option Turned) → b.power ≡ Some life → BoardIs size b.disk_state b.kept (Some life) old → m.size ≡ life.machine.size
      → boards.ComesOf called h m (machine_in new) (store_in old) (store_in new) said → Follows said
      → (w : Bench) × GuestCall called h (has_machine m life) (on_with (has_machine m life) b) (shows line) w × Agrees size w after × (w.payloads ≡ b.payloads) × CountsNone after b w
  came life m None on is sized (same, still, none) follows =
      let x : Bench = on_with (has_machine m life) b in
      let Q : SimStore → Type 0 = λ store. StoreIs size b.disk_state b.kept (has_machine m life) store in
      let S : SimStore → Type 0 = λ store. DeviceIs size b (store_fault_state store) (store_facts store) in
      let F : Option Word → Type 0 = Follows in
      let on_new : OnIs size x new = ((subst Q (sym still) (has_other size b life m (store_in old) sized is.0), same), subst S (sym still) was.1) in
      (x, (ap shows (shows_it ∙ ap (called_line h (hart_at (machine_in new) h)) none), refl), subst F none follows x on_new, refl, λ had. refl)
  came life m (Some did) on is sized (word, made, some) follows =
      let x : Bench = on_with (has_machine m life) b in
      let F : Option Word → Type 0 = Follows in
      let did_so = comes size x (has_machine m life) h (machine_in new) (store_in old) (store_in new) refl (has_other size b life m (store_in old) sized is.0) was.1 did word made in
      let reported = reported_as size h word did_so.0 (machine_in new) (store_in new) line did_so.2 (shows_it ∙ ap (called_line h (hart_at (machine_in new) h)) some) in
      let goes = subst F some follows in
      (did_so.0, (word, did_so.1, reported), goes.0 did_so.0 (stands_by size word did_so.0 new did_so.2), did_so.3, enough did (has_machine m life) x word did_so.0 goes.1 did_so.1 did_so.4)

  pub on_calls : boards.CallsHeld h asked (machine_in old) (machine_in new) (store_in old) (store_in new) said → Follows said → StepsTo size b after (λ w. CallStep b.power h asked b (shows line) w × CountsNone after b w)
  on_calls (m, called, call, comes_of) follows = by b.power was.0 refl
    where
      by : (p : Option BenchLife) → BoardIs size b.disk_state b.kept p old → b.power ≡ p → StepsTo size b after (λ w. CallStep p h asked b (shows line) w × CountsNone after b w)
      by None is on = absurd is
      by (Some life) is on =
          let P : Machine → Type 0 = λ k. HasHart k h in
          let C : Machine → Type 0 = λ k. MakesOneCall h asked k m called in
          let sized : m.size ≡ life.machine.size = call_size (doze_of h (machine_in old).doze) h (calling (hart_at (machine_in old) h) asked) (machine_in old) m called call ∙ ap (λ (k : Machine). k.size) is.1 in
          let did = came life m called on is sized comes_of follows in
          (did.0, (inl (subst P is.1 has, m, called, subst C is.1 call, did.1), did.4), did.2, did.3)

-- a look that leaves the board as it was
pub on_looks : (size : Size) (b : Bench) (old new : SimBoard) (says_so : Machine → MachineLine → Type 0) (line : MachineLine) → OnIs size b old → says_so (machine_in old) line → machine_in new ≡ machine_in old → store_in new ≡ store_in old
    → StepsTo size b (On new) (ReadStep b.power says_so b (shows line))
on_looks size b old new says_so line was so still same = (b, on_reads size b old says_so line was so, as_it_was size b old new was still same, refl)

-- a payload
abbrev pub Keeps : Size → Bench → Power → ℕ → List ℕ → MachineLine → List (List ℕ) → Type 0
Keeps size b power slot bytes line payloads = (new : Bench) × AsideStep (SetSlot slot bytes) b.power b (shows line) new × Matches size new power payloads

pub keeps_off : (size : Size) (b : Bench) (power : Power) (disk : OffDisk) (slot : ℕ) (bytes : List ℕ) (old new : List (List ℕ)) → power ≡ Off disk → IsBench size b power old → new ≡ slice_set old slot bytes
    → Keeps size b power slot bytes (shown.Payload slot (length bytes)) new
keeps_off size b power disk slot bytes old new at was set =
    let next : Bench = record b { payloads = slice_set b.payloads slot bytes } in
    let P : Option BenchLife → Type 0 = λ p. AsideStep (SetSlot slot bytes) p b (shows (shown.Payload slot (length bytes))) next in
    let Q : Power → Type 0 = λ p. Agrees size b p in
    let R : Power → Type 0 = λ p. Agrees size next p in
    let off : OffIs size b disk.disk = subst Q at was.0 in
    let next_off : OffIs size next disk.disk = off in
    (next, subst P (sym off.0) (refl, refl), (subst R (sym at) next_off, set ∙ ap (λ ps. slice_set ps slot bytes) was.1))

busy_on : (size : Size) (b : Bench) (power : Power) (board : SimBoard) (p : Option BenchLife) (slot : ℕ) (bytes : List ℕ) (old : List (List ℕ)) → BoardIs size b.disk_state b.kept p board → IsBench size b power old
    → (new : Bench) × AsideStep (SetSlot slot bytes) p b (shows shown.Busy) new × Matches size new power old
busy_on size b power board None slot bytes old is was = absurd is
busy_on size b power board (Some life) slot bytes old is was = (b, (refl, refl), (was.0, was.1))

pub keeps_on : (size : Size) (b : Bench) (power : Power) (board : SimBoard) (slot : ℕ) (bytes : List ℕ) (old : List (List ℕ)) → power ≡ On board → IsBench size b power old → Keeps size b power slot bytes shown.Busy old
keeps_on size b power board slot bytes old at was = let Q : Power → Type 0 = λ p. Agrees size b p in let on : OnIs size b board = subst Q at was.0 in busy_on size b power board b.power slot bytes old on.0 was

-- a row of the script's lines, which is never refused, by what the call that made it reported
pub row_reported : (size : Size) (line said : Line) (b : Bench) (r : Result Answer AllocError) (answer : Answer) (after made : Power) (payloads : List (List ℕ)) → line ≡ said → r ≡ Ok answer → after ≡ made → payloads ≡ b.payloads
    → StepsTo size b made (Step size said b answer)
    → MatchResult r (λ a. (new : Bench) × Step size line b a new × Matches size new after payloads) (λ e. Matches size b after payloads)
row_reported size line said b r answer after made payloads is ok same kept did = rw ok (rw same (rw is (did.0, did.1, (did.2, kept ∙ sym did.3))))

-- a line of a call
pub call_reported : (size : Size) (line : Line) (h : ℕ) (asked : CallWords) (r : Result Answer AllocError) (answer : Answer) (before after made : Power) (old now : List (List ℕ)) → line ≡ lines.Call h asked → r ≡ Ok answer → after ≡ made → now ≡ old
    → ((b : Bench) → Agrees size b before → StepsTo size b made (λ new. CallStep b.power h asked b answer new × CountsNone made b new)) → StepsEnough size line before old r after now
call_reported size line h asked r answer before after made old now is ok same kept did =
    rw ok (rw same (rw is (λ had b was. (let x = did b was.0 in (x.0, x.1.0, (x.2, kept ∙ was.1 ∙ sym x.3), x.1.1 had)))))
