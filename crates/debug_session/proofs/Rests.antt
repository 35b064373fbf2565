-- One turn more of a row.
use Rattle.std.proofs.Common.{◌≡◌, ◌⊎◌, inl, inr, ℕ, Bool, true, false, not, List, Option, None, refl, subst, arith}
use Rattle.board_model.specs.Shapes.{Size}
use Rattle.machine.specs.declared.line.MachineLine.TheVariants as shown
use Rattle.script_lang.specs.declared.line.Line.TheVariants as lines
use Rattle.machine.specs.Machine.{Machine}
use Rattle.bench_report.specs.{Bench.Bench, Happens.shows, Steps.Moves, declared.rows.TurnRow.TurnRow}
use Rattle.bench_report.specs.Rows.{IdleTurnStays, IsWithin, RowMoves, goes_on, is_idle_row, row_then}
use Rattle.bench_report.specs.declared.rows.TurnRow.TheVariants as rows
use Rattle.debug_session.specs.Lives.{HasHalted, Rests, pc_in, stands_in}

-- an idle turn left the bench as it was
pub idle_stays : (stays : IdleTurnStays) (size : Size) (h : ℕ) (next : TurnRow) (mid new : Bench) → is_idle_row next ≡ true → IsWithin 1 next → RowMoves size h next mid new → (new ≡ mid) × Rests size h true mid
idle_stays stays size h rows.Off mid new idle one moves = absurd (let never : ⊥ = cc in never)
idle_stays stays size h (rows.Lost n) mid new idle one moves = absurd (let never : ⊥ = cc in never)
idle_stays stays size h (rows.Made n word) mid new idle one moves =
    let single : n ≡ 1 = omega (arith, one) in
    let P : ℕ → Type 0 = λ k. RowMoves size h (rows.Made k word) mid new in
    let turn : RowMoves size h (rows.Made 1 word) mid new = subst P single moves in
    let same : new ≡ mid = stays size h word mid new idle turn in
    let Q : Bench → Type 0 = λ x. Moves size (lines.Turn h 1) mid (shows (shown.Turn h 1 word)) x in
    (same, (word, idle, subst Q same turn))

pub not_true : (e : Bool) → not e ≡ true → e ≡ false
not_true true h = absurd (let never : ⊥ = cc in never)
not_true false h = refl

-- why no other follows
pub halted : (h : ℕ) (points : List ℕ) (row next : TurnRow) (machine : Option Machine) → (next ≡ rows.Off → pc_in h machine ≡ None)
    → (goes_on next ≡ false) ⊎ (stands_in points (pc_in h machine) ≡ true) → HasHalted h points (row_then row next) machine
halted h points row rows.Off machine off why = inr (off refl)
halted h points row (rows.Made n word) machine off why = inl (refl, why)
halted h points row (rows.Lost n) machine off why = inl (refl, inl refl)
