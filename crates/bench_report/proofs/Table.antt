-- The numbers of the table of commands, and of the modes of a boot.
use Rattle.std.proofs.Common.{◌≡◌, ◌≢◌, ◌⊎◌, ℕ, inl, inr, Option, None, Some, ◌∙◌, refl, sym, ap, arith, Bool, true, false, is_some, if◌then◌else◌}
use Rattle.board_model.{specs.{Durable.{DurableState, Change, refusal_of, is_table_number}, Views.number_of_refusal}, proofs.Table.of_table}
use Rattle.board_model.specs.declared.{boot_mode.BootMode.BootMode, refusal.Refusal.{Refusal, TheVariants.{Device, Down, Memory}}}
use Rattle.board_model.specs.declared.boot_mode.BootMode.TheVariants as modes
use Rattle.board.specs.Boots.{boot_refusal}

one_of : (t : Bool) (x y : Option ℕ) (n : ℕ) → (if t then x else y) ≡ Some n → (x ≡ Some n) ⊎ (y ≡ Some n)
one_of true x y n h = inl h
one_of false x y n h = inr h

-- a number with which the table refuses is none of the others
differs : (s : DurableState) (c : Change) (k n : ℕ) → is_table_number k ≡ false → refusal_of s c ≡ Some n → n ≢ k
differs s c k n other h same = let no : true ≡ false = sym (of_table s c n h) ∙ ap is_table_number same ∙ other in absurd (let n : ⊥ = cc in n)

pub not_device : (s : DurableState) (c : Change) (e : Refusal) → refusal_of s c ≡ Some (number_of_refusal e) → e ≢ Device
not_device s c e h is = differs s c 5 (number_of_refusal e) refl h (ap number_of_refusal is)

pub not_down : (s : DurableState) (c : Change) (e : Refusal) → refusal_of s c ≡ Some (number_of_refusal e) → e ≢ Down
not_down s c e h is = differs s c 6 (number_of_refusal e) refl h (ap number_of_refusal is)

pub not_memory : (s : DurableState) (c : Change) (e : Refusal) → refusal_of s c ≡ Some (number_of_refusal e) → e ≢ Memory
not_memory s c e h is = differs s c 11 (number_of_refusal e) refl h (ap number_of_refusal is)

pub table_not_six : (s : DurableState) (c : Change) (n : ℕ) → refusal_of s c ≡ Some n → n ≢ 6
table_not_six s c n h = differs s c 6 n refl h

pub table_not_thirteen : (s : DurableState) (c : Change) (n : ℕ) → refusal_of s c ≡ Some n → n ≢ 13
table_not_thirteen s c n h = differs s c 13 n refl h

abbrev pub IsOfModes : ℕ → Type 0
IsOfModes n = (15 ≡ n) ⊎ (8 ≡ n)

-- the numbers with which a mode is refused
pub of_modes : (s : DurableState) (mode : BootMode) (n : ℕ) → boot_refusal s mode ≡ Some n → IsOfModes n
of_modes s modes.Fresh n h = elim (one_of (is_some s.image) (Some 15) None n h) [ inl e ↦ inl (let f : 15 ≡ n = cc in f) | inr e ↦ absurd (let no : ⊥ = cc in no) ]
of_modes s modes.Keep n h = absurd (let no : ⊥ = cc in no)
of_modes s modes.Discard n h = elim (one_of (is_some s.image) None (Some 8) n h) [ inl e ↦ absurd (let no : ⊥ = cc in no) | inr e ↦ inr (let f : 8 ≡ n = cc in f) ]
of_modes s modes.Resume n h = elim (one_of (is_some s.image) None (Some 8) n h) [ inl e ↦ absurd (let no : ⊥ = cc in no) | inr e ↦ inr (let f : 8 ≡ n = cc in f) ]

-- a refusal of a mode is none of the disk
pub mode_not_device : (s : DurableState) (mode : BootMode) (n : ℕ) (e : Refusal) → boot_refusal s mode ≡ Some n → number_of_refusal e ≡ n → e ≢ Device
mode_not_device s mode n e h at is = elim (of_modes s mode n h) [ inl f ↦ omega (arith, f, at, ap number_of_refusal is) | inr f ↦ omega (arith, f, at, ap number_of_refusal is) ]

pub mode_not_thirteen : (s : DurableState) (mode : BootMode) (n : ℕ) → boot_refusal s mode ≡ Some n → n ≢ 13
mode_not_thirteen s mode n h is = elim (of_modes s mode n h) [ inl f ↦ omega (arith, f, is) | inr f ↦ omega (arith, f, is) ]

pub mode_not_down : (s : DurableState) (mode : BootMode) (n : ℕ) (e : Refusal) → boot_refusal s mode ≡ Some n → number_of_refusal e ≡ n → e ≢ Down
mode_not_down s mode n e h at is = elim (of_modes s mode n h) [ inl f ↦ omega (arith, f, at, ap number_of_refusal is) | inr f ↦ omega (arith, f, at, ap number_of_refusal is) ]
