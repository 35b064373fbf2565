-- How many calls of the disk a boot makes, put together from those of its parts.
use Rattle.std.proofs.Common.{◌≡◌, ◌≢◌, ◌⊎◌, ◌∙◌, inl, inr, ℕ, ◌+◌, ◌*◌, ◌≤◌, List, length, Option, None, Some, Result, Ok, Err, OnOk, refl, sym, ap, subst, subst₂, arith, length-append}
use Rattle.disk.specs.{Facts.{Content, Facts, counted, most}, FaultState.FaultState}
use Rattle.board_model.specs.{Durable.{DurableState, Change}, Shapes.Size, declared.{boot_mode.BootMode.BootMode, refusal.Refusal.Refusal}}
use Rattle.board_model.specs.declared.refusal.Refusal.TheVariants.{Device, Down, BadShape, Memory, NoImage, ImageThere, BadImage}
use Rattle.board_model.specs.declared.boot_mode.BootMode.TheVariants as modes
use Rattle.store.specs.{Answers.StoreView, Lives.{Life, LoadRefused, now_of}, Opens.{IsBoard, open_calls}, Standing.StandsFor}
use Rattle.susp.specs.Wakes.{WakeStops}
use Rattle.board.specs.{Issues.{AreIssued, drops_by}, Moments.{attempts_of, commands_by}, Unbooted.{IsStartRefusal, RefusesMode}}
use Rattle.board.{specs.Readies.{IsOpen, IsIssued, boot_calls, UnbootedCalls}, proofs.Issued.{commands_are, drops_none}}

-- ---- sums of calls
pub no_call : (n : ℕ) → n ≤ most → n ≡ counted n 0
no_call n within = omega (arith, within)

pub more_then : (j k old mid new : ℕ) → mid ≡ counted old j → new ≡ counted mid k → new ≡ counted old (j + k)
more_then j k old mid new first second = omega (arith, first, second)

-- ---- a boot of a slot
pub none_dropped_calls : (mode : BootMode) (n : ℕ) → n ≤ most → (mode ≡ modes.Fresh) ⊎ (mode ≡ modes.Keep) ⊎ (mode ≡ modes.Resume) → n ≡ counted n (4 * length (drops_by mode))
none_dropped_calls mode n within is = subst (λ (cs : List Change). n ≡ counted n (4 * length cs)) (sym (drops_none mode is)) (no_call n within)

boots_a_slot : (mode : BootMode) (size : Size) (s : DurableState) → mode ≢ modes.Resume → boot_calls mode size s ≡ 4 * length (commands_by mode s)
boots_a_slot modes.Fresh size s boots = refl
boots_a_slot modes.Keep size s boots = refl
boots_a_slot modes.Discard size s boots = refl
boots_a_slot modes.Resume size s boots = absurd (boots refl)

module _ (mode : BootMode) (old mid new : StoreView) (opened : IsOpen old) (dropped : AreIssued (drops_by mode) old mid) (boots : mode ≢ modes.Resume) where
  all_calls : 4 * length (drops_by mode) + 4 * length (attempts_of (now_of mid.life).trial) ≡ boot_calls mode old.size old.life.found
  all_calls =
      let parts = sym (length-append (drops_by mode) (attempts_of (now_of mid.life).trial)) ∙ ap length (commands_are mode old mid new opened dropped boots) in
      omega (arith, parts, boots_a_slot mode old.size old.life.found boots)

  pub boot_made : {T : Type 0} (r : Result T Refusal) (a b c : ℕ) → b ≡ counted a (4 * length (drops_by mode)) → OnOk r (c ≡ counted b (4 * length (attempts_of (now_of mid.life).trial)))
      → OnOk r (c ≡ counted a (boot_calls mode old.size old.life.found))
  boot_made (Ok done) a b c first second = more_then (4 * length (drops_by mode)) (4 * length (attempts_of (now_of mid.life).trial)) a b c first second ∙ ap (counted a) all_calls
  boot_made (Err e) a b c first second = tt

-- ---- an image
pub resumed_calls : (mode : BootMode) (size : Size) (s : DurableState) (old new : ℕ) → mode ≡ modes.Resume → new ≡ counted old (2 * size.pages + 4) → new ≡ counted old (boot_calls mode size s)
resumed_calls mode size s old new is made = subst (λ (m : BootMode). new ≡ counted old (boot_calls m size s)) (sym is) made

-- ---- refusals, by where they come
pub by_disk : (size : Size) (e : Refusal) (a b : ℕ) → (e ≡ Device) ⊎ (e ≡ Down) → UnbootedCalls size e a b
by_disk size e a b (inl is) = subst (λ (x : Refusal). UnbootedCalls size x a b) (sym is) tt
by_disk size e a b (inr is) = subst (λ (x : Refusal). UnbootedCalls size x a b) (sym is) tt

pub by_load : (size : Size) (state : DurableState) (memory : List ℕ) (old : Facts) (m : FaultState) (e : Refusal) (new : Facts) (n : FaultState) (a b : ℕ) → LoadRefused size state memory old m e new n
    → WakeStops size.pages e a b → UnbootedCalls size e a b
by_load size state memory old m BadShape new n a b why stops = stops
by_load size state memory old m NoImage new n a b why stops = stops
by_load size state memory old m Device new n a b why stops = tt
by_load size state memory old m BadImage new n a b why stops = stops
by_load size state memory old m e new n a b why stops = absurd why

pub by_mode : (o : Option ℕ) (size : Size) (e : Refusal) (a : ℕ) → RefusesMode o (Some e) → UnbootedCalls size e a a
by_mode None size e a why = absurd why
by_mode (Some n) size e a why = of_mode why.1
  where
    of_mode : (e ≡ ImageThere) ⊎ (e ≡ NoImage) → UnbootedCalls size e a a
    of_mode (inl is) = subst (λ (x : Refusal). UnbootedCalls size x a a) (sym is) refl
    of_mode (inr is) = subst (λ (x : Refusal). UnbootedCalls size x a a) (sym is) refl

pub by_start : (size : Size) (payloads : List (List ℕ)) (e : Refusal) (a : ℕ) → IsStartRefusal size payloads e → UnbootedCalls size e a a
by_start size payloads BadShape a why = refl
by_start size payloads Memory a why = refl
by_start size payloads e a why = absurd why

-- ---- after the open
board_of : (c : Content) (size : Size) (s : DurableState) → StandsFor c size s → IsBoard size c
unfolding StandsFor
board_of c size s stands = (stands.2.board, stands.2.enough)

pub off_calls : (c : Content) (size : Size) (s : DurableState) (e : Refusal) (start mid new left : ℕ) → StandsFor c size s → mid ≡ counted start (open_calls c) → UnbootedCalls size e mid new → left ≡ new
    → (z : Size) × IsBoard z c × UnbootedCalls z e (counted start (open_calls c)) left
off_calls c size s e start mid new left stands opened made same = (size, board_of c size s stands, subst₂ (UnbootedCalls size e) opened (sym same) made)

pub on_calls : (mode : BootMode) (c : Content) (old new : StoreView) (start : ℕ) → IsIssued mode old new → old.disk.calls ≡ counted start (open_calls c) → new.disk.calls ≡ counted old.disk.calls (boot_calls mode old.size old.life.found)
    → new.disk.calls ≡ counted start (open_calls c + boot_calls mode new.size new.life.found)
on_calls mode c old new start issued opened made =
    subst₂ (λ (z : Size) (s : DurableState). new.disk.calls ≡ counted start (open_calls c + boot_calls mode z s)) (sym issued.size) (sym (ap (λ (l : Life). l.found) issued.life))
    (more_then (open_calls c) (boot_calls mode old.size old.life.found) start old.disk.calls new.disk.calls opened made)
