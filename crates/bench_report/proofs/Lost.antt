-- Whatever a line tells, power that was lost within it would have left: some first of its commands took
-- effect.
use Rattle.std.proofs.Common.{◌≡◌, ◌⊎◌, ℕ, inl, inr, ◌-◌, ◌^◌, ◌==◌, List, [], ◌∷◌, Bool, true, false, MatchBool}
use Rattle.board_model.specs.{Durable.{DurableState, Change, after}, declared.boot_mode.BootMode.BootMode}
use Rattle.sbi.specs.declared.words.Word.{Word}
use Rattle.sbi.specs.declared.words.Word.TheVariants as words
use Rattle.machine.specs.declared.line.MachineLine.{MachineLine}
use Rattle.machine.specs.declared.line.MachineLine.TheVariants as shown_lines
use Rattle.report_lines.specs.declared.printed.Printed.{Printed}
use Rattle.report_lines.specs.declared.printed.Printed.TheVariants as printed
use Rattle.bench_report.{specs.{PowerOns.commands_of, Taken.{TakesAll, TakesSome, TakesFewer}}, proofs.Unsaid.of_harts}
use Rattle.bench_report.specs.Prefix.{AskedLine, Boot, Command, Guest, Nothing, IsOfHarts, Keeps, Hides, may_hide, TellsTurns, TellsCall, TellsLine, RefusedChange, Lost, LineImplies}

none_some : (cs : List Change) (s t : DurableState) → t ≡ s → TakesSome cs s t
none_some [] s t e = e
none_some (c ∷ cs) s t e = inl e

all_some : (cs : List Change) (s t : DurableState) → TakesAll cs s t → TakesSome cs s t
all_some [] s t e = e
all_some (c ∷ cs) s t h = inr (h.0, all_some cs (after s c) t h.1)

fewer_some : (cs : List Change) (s t : DurableState) → TakesFewer cs s t → TakesSome cs s t
fewer_some [] s t h = absurd h
fewer_some (c ∷ cs) s t (inl e) = inl e
fewer_some (c ∷ cs) s t (inr h) = inr (h.0, fewer_some cs (after s c) t h.1)

lost_refused : (n : ℕ) (c : Change) (s t : DurableState) (up now : Bool) → RefusedChange n c s up t now → (t ≡ s) ⊎ ((up ≡ true) × TakesSome (c ∷ []) s t)
lost_refused n c s t up now (inl h) = inl h.1
lost_refused n c s t up now (inr h) = h.2

lost_boot : (mode : BootMode) (x : Printed) (s t : DurableState) (up now : Bool) → LineImplies (Boot mode) x s up t now → TakesSome (commands_of mode s) s t
lost_boot mode (printed.On m) s t up now h = all_some (commands_of mode s) s t h.2
lost_boot mode (printed.OnRefused n) s t up now (a, b, inl e) = none_some (commands_of mode s) s t e
lost_boot mode (printed.OnRefused n) s t up now (a, b, inr (inl h)) = fewer_some (commands_of mode s) s t h
lost_boot mode (printed.OnRefused n) s t up now (a, b, inr (inr h)) = h.1
lost_boot mode (printed.Acknowledged word k) s t up now h = absurd h
lost_boot mode (printed.CommandRefused word n) s t up now h = absurd h
lost_boot mode printed.Formatted s t up now h = absurd h
lost_boot mode printed.PowerLost s t up now h = h.0
lost_boot mode x s t up now h = none_some (commands_of mode s) s t h.0

lost_command : (c : Change) (x : Printed) (s t : DurableState) (up now : Bool) → LineImplies (Command c) x s up t now → (t ≡ s) ⊎ ((up ≡ true) × TakesSome (c ∷ []) s t)
lost_command c (printed.Acknowledged word k) s t up now h = inr (h.0, all_some (c ∷ []) s t h.1)
lost_command c (printed.CommandRefused word n) s t up now h = lost_refused n c s t up now h.0
lost_command c (printed.On m) s t up now h = absurd h
lost_command c (printed.OnRefused n) s t up now h = absurd h
lost_command c printed.Formatted s t up now h = absurd h
lost_command c printed.PowerLost s t up now h = h.0
lost_command c x s t up now h = inl h.0

-- what power lost in a line of turns or a call may leave
abbrev LostGuest : DurableState → Bool → DurableState → Type 0
LostGuest s up t = (t ≡ s) ⊎ ((up ≡ true) × (c : Change) × IsOfHarts c × TakesSome (c ∷ []) s t)

lost_hides : (s t : DurableState) (up now : Bool) → Hides s up t now → LostGuest s up t
lost_hides s t up now (inl h) = inl h.0
lost_hides s t up now (inr h) = inr (h.0, h.2, h.3, h.4)

lost_either : (hidden : Bool) (s t : DurableState) (up now : Bool) → MatchBool hidden (Hides s up t now) (Keeps s up t now) → LostGuest s up t
lost_either true s t up now h = lost_hides s t up now h
lost_either false s t up now h = inl h.0

lost_turns : (made : ℕ) (word : Word) (s t : DurableState) (up now : Bool) → TellsTurns made word s up t now → LostGuest s up t
lost_turns made (words.Goes did) s t up now h = lost_either (may_hide made did) s t up now h
lost_turns made (words.Over end) s t up now h = inr (h.0, h.2, of_harts end h.2 h.3, all_some (h.2 ∷ []) s t h.4)

lost_call : (word : Word) (s t : DurableState) (up now : Bool) → TellsCall word s up t now → LostGuest s up t
lost_call (words.Goes did) s t up now h = inl h.0
lost_call (words.Over end) s t up now h = inr (h.0, h.2, of_harts end h.2 h.3, all_some (h.2 ∷ []) s t h.4)

lost_line : (line : MachineLine) (s t : DurableState) (up now : Bool) → TellsLine line s up t now → LostGuest s up t
lost_line (shown_lines.Turn h made word) s t up now x = lost_turns made word s t up now x
lost_line (shown_lines.Called h word) s t up now x = lost_call word s t up now x
lost_line (shown_lines.Answered h error value) s t up now x = lost_either (error == 2 ^ 64 - 1) s t up now x
lost_line line s t up now x = inl x.0

lost_guest : (x : Printed) (s t : DurableState) (up now : Bool) → LineImplies Guest x s up t now → LostGuest s up t
lost_guest (printed.Shown line) s t up now h = lost_line line s t up now h
lost_guest (printed.On m) s t up now h = absurd h
lost_guest (printed.OnRefused n) s t up now h = absurd h
lost_guest (printed.Acknowledged word k) s t up now h = absurd h
lost_guest (printed.CommandRefused word n) s t up now h = absurd h
lost_guest printed.Formatted s t up now h = absurd h
lost_guest printed.PowerLost s t up now h = h.0
lost_guest x s t up now h = inl h.0

lost_nothing : (x : Printed) (s t : DurableState) (up now : Bool) → LineImplies Nothing x s up t now → t ≡ s
lost_nothing (printed.On m) s t up now h = absurd h
lost_nothing (printed.OnRefused n) s t up now h = absurd h
lost_nothing (printed.Acknowledged word k) s t up now h = absurd h
lost_nothing (printed.CommandRefused word n) s t up now h = absurd h
lost_nothing printed.Formatted s t up now h = absurd h
lost_nothing printed.PowerLost s t up now h = h.0
lost_nothing x s t up now h = h.0

pub lost : (asked : AskedLine) (x : Printed) (s t : DurableState) (up now : Bool) → LineImplies asked x s up t now → Lost asked s up t
lost (Boot mode) x s t up now h = lost_boot mode x s t up now h
lost (Command c) x s t up now h = lost_command c x s t up now h
lost Guest x s t up now h = lost_guest x s t up now h
lost Nothing x s t up now h = lost_nothing x s t up now h
