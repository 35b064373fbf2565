-- Ledgers that tell which images were resumed.
use Rattle.std.proofs.Common.{◌≡◌, ℕ, List, [], ◌∷◌, ◌++◌, Option, None, Some, Result, Ok, Err, OnOk, ◌⊎◌, inl, inr, refl, sym, ◌∙◌, ap, subst}
use Rattle.std.proofs.lemmas.List.{append-nil}
use Rattle.board_model.specs.{Durable.{DurableState, Change}, Kept.{Kept, MayKeep, found_of}, Plains.image_in, Shapes.Size}
use Rattle.board_model.specs.{Views.{durable_of, head_of}, declared.{boot_mode.BootMode.BootMode, durable.Durable.Durable}}
use Rattle.board_model.specs.declared.{durable.ImageHead.ImageHead, plain.PlainImage.PlainImage, refusal.Refusal.Refusal}
use Rattle.board_model.specs.declared.refusal.Refusal.TheVariants.{Memory, NoImage}
use Rattle.board_model.specs.declared.boot_mode.BootMode.TheVariants as modes
use Rattle.report_lines.specs.declared.printed.Printed.{Printed}
use Rattle.bench_sweep.specs.{declared.ledgers.RunLedger.RunLedger, Ledgers.{Tells, settled}, Runs.TellsWhole, Told.PowerTold}
use Rattle.bench_sweep.specs.Resumes.{image_told, serial_of, booted, powered, power_resumes, Resumes}

-- none more
none_more : (l m : RunLedger) → m.resumed ≡ l.resumed → Resumes l m []
none_more l m same = ap (λ (v : _). v.items) same ∙ sym (append-nil l.resumed.items)

pub kept_none : {E : Type 0} (r : Result (Unit {0}) E) (l m : RunLedger) → m.resumed ≡ l.resumed → OnOk r (Resumes l m [])
kept_none (Err f) l m same = tt
kept_none (Ok u) l m same = none_more l m same

-- the same, told in other words
pub as_told : {E A : Type 0} (r : Result (Unit {0}) E) (l m : RunLedger) (F : A → List ℕ) (x y : A) → x ≡ y → OnOk r (Resumes l m (F y)) → OnOk r (Resumes l m (F x))
as_told {A = A} r l m F x y is h = let P : A → Type 0 = λ z. OnOk r (Resumes l m (F z)) in subst P (sym is) h

pub refused_boot : (n : ℕ) (mode : BootMode) (image : Option ImageHead) → booted (Some n) mode image ≡ []
refused_boot n modes.Fresh image = refl
refused_boot n modes.Keep image = refl
refused_boot n modes.Discard image = refl
refused_boot n modes.Resume image = refl

-- the image that stands is resumed
pub one_more : (l m : RunLedger) (image : PlainImage) → l.state.image ≡ Some image → m.resumed.items ≡ l.resumed.items ++ image.head.serial ∷ [] → Resumes l m (serial_of (image_told l))
one_more l m image is more = let P : Option PlainImage → Type 0 = λ o. Resumes l m (serial_of (head_of (image_in o))) in subst P (sym is) more

-- or none stands
pub no_serial : {E : Type 0} (r : Result (Unit {0}) E) (l m : RunLedger) (e : Refusal) → (e ≡ Memory) ⊎ ((e ≡ NoImage) × (l.state.image ≡ None) × (m ≡ l)) → OnOk r (e ≡ Memory → ⊥) → OnOk r (Resumes l m (serial_of (image_told l)))
no_serial (Err f) l m e why other = tt
no_serial (Ok u) l m e (inl memory) other = absurd (other memory)
no_serial (Ok u) l m e (inr (is, none, same)) other =
    let P : Option PlainImage → Type 0 = λ o. Resumes l m (serial_of (head_of (image_in o))) in subst P (sym none) (none_more l m (ap (λ (x : RunLedger). x.resumed) same))

-- a power-on
abbrev pub PowerResumes : RunLedger → RunLedger → BootMode → Option Durable → Printed → Option Durable → Type 0
PowerResumes l m mode found said now = (size : Size) (old new : Kept) → TellsWhole size l old → PowerTold mode found said now old new → Resumes l m (power_resumes mode found said)

pub resumes_none : (l : RunLedger) (mode : BootMode) (found : Option Durable) (said : Printed) (now : Option Durable) → found ≡ None → PowerResumes l l mode found said now
resumes_none l mode found said now none size old new was told =
    let P : Option Durable → Type 0 = λ o. Resumes l l (power_resumes mode o said) in subst P (sym none) (none_more l l refl)

pub resumes_found : {E : Type 0} (r : Result (Unit {0}) E) (l s m : RunLedger) (mode : BootMode) (found : Option Durable) (said : Printed) (now : Option Durable) (d : Durable) → found ≡ Some d
    → ((kept : Kept) (changes : List Change) → Tells l kept → MayKeep kept changes → d ≡ durable_of (found_of changes) → Tells s (settled changes)) → s.resumed ≡ l.resumed
    → OnOk r (Resumes s m (powered said mode (image_told s))) → OnOk r (PowerResumes l m mode found said now)
resumes_found (Err f) l s m mode found said now d some settles_it same more = tt
resumes_found (Ok u) l s m mode found said now d some settles_it same more = λ size old new was told.
    (let P : Option Durable → Type 0 = λ o. PowerTold mode o said now old new in
    let t = subst P some told in
    let x = t.1 in
    let tells : Tells s (settled x.0) = settles_it old x.0 was.tells x.1 x.2 in
    let image : image_told s ≡ d.image = ap (λ (y : DurableState). (durable_of y).image) tells.state ∙ sym (ap (λ (y : Durable). y.image) x.2) in
    let Q : Option Durable → Type 0 = λ o. Resumes l m (power_resumes mode o said) in
    subst Q (sym some) (more ∙ ap (λ (xs : _). xs.items ++ powered said mode (image_told s)) same ∙ ap (λ (o : Option ImageHead). l.resumed.items ++ powered said mode o) image))
