-- How many commands a boot issues. Of one at most that its disk refused none was acknowledged, and after 6 the first is in doubt.
use Rattle.std.proofs.Common.{◌≡◌, ◌≤◌, List, [], ◌∷◌, ◌++◌, Option, None, Some, length, refl, sym, ap, ◌∙◌, subst, arith, length-append}
use Rattle.disk.specs.Facts.{Facts}
use Rattle.board_model.specs.{Durable.{DurableState, Change}, Shapes.Size, declared.{boot_mode.BootMode.BootMode, durable.Trial.Trial}}
use Rattle.board_model.specs.declared.refusal.Refusal.{Refusal}
use Rattle.board_model.specs.declared.boot_mode.BootMode.TheVariants as modes
use Rattle.store.specs.Lives.{Life, begun, now_of}
use Rattle.board.specs.{Moments.{attempts_of, commands_by}, Unbooted.{doubt_by, IsLifeLeft, LeavesLife}}

one_attempt : (trial : Option Trial) → length (attempts_of trial) ≤ 1
one_attempt None = omega arith
one_attempt (Some t) = omega arith

pub few_commands : (mode : BootMode) (s : DurableState) → length (commands_by mode s) ≤ 2
few_commands modes.Fresh s = omega (arith, one_attempt s.trial)
few_commands modes.Keep s = omega (arith, one_attempt s.trial)
few_commands modes.Discard s = omega (arith, one_attempt s.trial)
few_commands modes.Resume s = omega arith

-- of one command at most, where not all are done none is
none_done : (cs done later : List Change) → length cs ≤ 1 → cs ≡ done ++ later → (later ≡ [] → cs ≡ []) → (done ≡ []) × (later ≡ cs)
none_done cs [] later short parts refused = (refl, sym parts)
none_done cs (d ∷ done) [] short parts refused = absurd (let none : cs ≡ [] = refused refl in let no : ⊥ = cc in no)
none_done cs (d ∷ done) (c ∷ later) short parts refused =
    absurd (let long : length cs ≡ length (d ∷ (done ++ c ∷ later)) = ap length parts in omega (arith, length-append done (c ∷ later)))

abbrev left_with : DurableState → Refusal → List Change → List Change → Life
left_with s e done later = record (begun s) { journal = done; doubt = doubt_by e later }

pub none_acknowledged : (mode : BootMode) (e : Refusal) (s : DurableState) (life : Life) → length (commands_by mode s) ≤ 1 → IsLifeLeft (commands_by mode s) e s life → life ≡ record (begun s) { doubt = doubt_by e (commands_by mode s) }
none_acknowledged mode e s life few left =
    let none = none_done (commands_by mode s) left.done left.later few left.parts left.refused in
    left.is ∙ ap (λ (done : List Change). left_with s e done left.later) none.0 ∙ ap (left_with s e []) none.1

pub left_at : (mode : BootMode) (e : Refusal) (s : DurableState) (life : Life) (disk : Facts) (size : Size) → length (commands_by mode s) ≤ 1 → IsLifeLeft (commands_by mode s) e s life → LeavesLife life.doubt disk size (now_of life)
    → LeavesLife (doubt_by e (commands_by mode s)) disk size s
left_at mode e s life disk size few left leaves = subst (λ (l : Life). LeavesLife l.doubt disk size (now_of l)) (none_acknowledged mode e s life few left) leaves
