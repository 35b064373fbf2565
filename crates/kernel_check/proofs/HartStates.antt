-- The states of harts, by the copy of their table.
use Rattle.std.proofs.Common.{◌≡◌, ◌∙◌, ◌<◌, ◌≤◌, ℕ, Option, Some, false, length, take, get_or, ap, arith, refl, subst, sym}
use Rattle.std.proofs.lemmas.List.{get_or-map, get_or-take, get_or_read, length-take, length-take-le}
use Rattle.hart.specs.{Csrs.{csr_number, csr_read}, State.ArchState, declared.csr.Csr.{Csr, TheVariants.Stvec}}
use Rattle.hsm.specs.{Copies.state_told, States.stopped, declared.standings.Standing.Standing}
use Rattle.hsm.specs.declared.standings.Standing.TheVariants as told
use Rattle.machine.specs.Machine.{Machine, state_at}
use Rattle.model_board.specs.{Boards.{Board, Life, On, Off, Ended}, Plain.{Sized, status_of}, Rests.{Fits, IsCopy, IsRest, table_copied}}
use Rattle.model_board.specs.declared.{rests.Rest.Rest, tables.TableCopy.TableCopy}
use Rattle.model_board.specs.declared.powers.Status.TheVariants as statuses
use Rattle.kernel_check.specs.Failures.{IsOnAs}

-- the copy has a place for each hart
is_enough : (n : ℕ) (copy : TableCopy) → IsCopy n copy → n ≤ length copy.states
is_enough n copy is = omega (arith, is.1, length-take n copy.states)

told_at : (n h : ℕ) (copy : TableCopy) → h < n → n ≤ length copy.states → get_or (table_copied n copy).states h stopped ≡ state_told (get_or copy.states h told.Stopped)
told_at n h copy low enough =
    get_or-map state_told (take n copy.states) h told.Stopped stopped (omega (arith, low, length-take-le n copy.states enough))
    ∙ ap (λ (s : Standing). state_told s) (get_or-take n copy.states h told.Stopped low)

pub state_copied : (rest : Rest) (b : Sized) (place h : ℕ) (read : Standing) → IsRest rest b → Fits b.machine.size.harts rest → place ≡ h → h < b.machine.size.harts → read ≡ get_or rest.tables.states place read → state_told read ≡ state_at b.machine h
state_copied rest b place h read is fits at low one =
    let enough : b.machine.size.harts ≤ length rest.tables.states = is_enough b.machine.size.harts rest.tables fits.tables in
    let own : read ≡ get_or rest.tables.states h told.Stopped =
    get_or_read rest.tables.states place read (omega (arith, at, low, enough)) one told.Stopped
    ∙ ap (λ (k : ℕ). get_or rest.tables.states k told.Stopped) at in
    ap (λ (s : Standing). state_told s) own ∙ sym (told_at b.machine.size.harts h rest.tables low enough)
    ∙ sym (ap (λ (s : Sized). state_at s.machine h) is)

-- what is so of the machine of a board that is on
pub on_as : (Is : Machine → Type 0) (b : Board) (m : Machine) → status_of b ≡ statuses.On → ((l : Life) → b ≡ On l → m ≡ l.machine) → Is m → IsOnAs Is b
on_as Is (On l) m on same is = subst Is (same l refl) is
on_as Is (Off s) m on same is = absurd (cc)
on_as Is (Ended s) m on same is = absurd (cc)

-- what is read of stvec
pub reads_stvec : (s : ArchState) (read : Option ℕ) → ((c : Csr) → csr_number c ≡ 0x105 → read ≡ Some (csr_read c s false)) → read ≡ Some s.stvec
reads_stvec s read found = found Stvec refl
