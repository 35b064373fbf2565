-- A line that a bench under way runs.
use Rattle.std.proofs.Common.{◌≡◌, ◌∙◌, Bool, List, ℕ, inl, inr, true, false, refl, sym, subst}
use Rattle.board_model.specs.Shapes.{Size}
use Rattle.machine.specs.declared.line.MachineLine.TheVariants as shown
use Rattle.script_lang.specs.declared.line.Line.{Line}
use Rattle.script_lang.specs.declared.line.Line.TheVariants as lines
use Rattle.simdisk.specs.declared.fill.Fill.{Fill}
use Rattle.sbi.specs.{Words.life_goes_on, declared.words.Word.Word}
use Rattle.sbi.specs.declared.words.Word.TheVariants as words
use Rattle.bench_report.specs.{Agree.{Agrees, CountsNone, IsBench}, Bench.Bench, Deeds.{IsNoRow, deed_of}, Happens.{shows, unpowered}, Steps.Moves}
use Rattle.bench_report.specs.{Lives.{IsAfter, IsCutIn, IsSettled, LineDid, WentInPlace}, Rows.{RowMoves, row_answer}}
use Rattle.bench_report.specs.declared.{power.Power.{Power, TheVariants.{Off, On}}, rows.TurnRow.TurnRow}
use Rattle.bench_report.specs.declared.rows.TurnRow.TheVariants as rows
use Rattle.bench_report.proofs.InPlace.{lost_of, row_of, step_of}
use Rattle.report_lines.specs.declared.printed.Answer.{Answer}

-- a line that is no row of turns
pub no_row : (line : Line) → ((h n : ℕ) → line ≡ lines.Turn h n → ⊥) → IsNoRow (deed_of line)
no_row (lines.Turn h n) not = absurd (not h n refl)
no_row line not = tt

-- turns after which the board is on
pub stays : (size : Size) (word : Word) (x : Bench) (power : Power) → life_goes_on word ≡ true → IsAfter size word x power → Agrees size x power
stays size (words.Goes did) x (On board) e is = is
stays size (words.Goes did) x (Off disk) e is = absurd is
stays size (words.Over end) x power e is = absurd (let no : ⊥ = cc in no)

-- turns that were made in place, as a line: of a board that is left as it is, and of one that was settled
module _ (size : Size) (h n made : ℕ) (word : Word) (b : Bench) (before after : Power) (old : List (List ℕ)) (goes : Agrees size b before → WentInPlace size h n b made word after) (was : IsBench size b before old) where
  went : WentInPlace size h n b made word after
  went = goes was.0

  abbrev Rowed : TurnRow → Power → List (List ℕ) → Type 0
  Rowed row end slots = (x : Bench) × RowMoves size h row b x × Moves size (lines.Turn h n) b (row_answer h row) x × IsBench size x end slots × CountsNone after b x

  pub still_row : life_goes_on word ≡ true → ((x : Bench) → Agrees size x after → x.fault_state.struck ≡ false) → Rowed (rows.Made made word) after old
  still_row on calm =
      let agrees = stays size word went.0 after on went.5 in
      let quiet = calm went.0 agrees in
      let m = row_of size h n b made word went.0 went.1 went.2 went.3 went.4 quiet in (went.0, m.0, m.1, (agrees, was.1 ∙ sym went.6, quiet), went.7)

  module _ (fill : Fill) (lost : Bool) (left : Power) (slots : List (List ℕ)) (same : slots ≡ old) (settled : IsSettled word fill after left lost) where
    settled_shows : (x : Bench) → IsBench size x left old → IsBench size x left slots
    settled_shows x so = rw same so

    pub made_row : lost ≡ false → Rowed (rows.Made made word) left slots
    made_row calm =
        let told = settled size went.0 went.5 in
        let quiet = sym told.0 ∙ calm in
        let m = row_of size h n b made word went.0 went.1 went.2 went.3 went.4 quiet in (went.0, m.0, m.1, settled_shows went.0 (told.1 calm, was.1 ∙ sym went.6, quiet), went.7)

    pub lost_row : lost ≡ true → Rowed (rows.Lost made) left slots
    lost_row hit =
        let told = settled size went.0 went.5 in
        let m = lost_of size h n b made word went.0 went.1 went.2 went.3 went.4 (sym told.0 ∙ hit) in (unpowered went.0, m.0, m.1, settled_shows (unpowered went.0) (told.2 hit, was.1 ∙ sym went.6, refl), went.7)

-- and what it did beside
pub did_from : (size : Size) (line : Line) (fill other : Fill) (b : Bench) (answer : Answer) (before left : Power) → other ≡ fill → LineDid size line fill b answer before left → LineDid size line other b answer before left
did_from size line fill other b answer before left same did = let F : Fill → Type 0 = λ f. LineDid size line f b answer before left in subst F (sym same) did

module _ (size : Size) (h n made : ℕ) (word : Word) (fill : Fill) (b : Bench) (before after left : Power) (went : WentInPlace size h n b made word after) where
  pub made_did : went.0.fault_state.struck ≡ false → LineDid size (lines.Turn h n) fill b (row_answer h (rows.Made made word)) before left
  made_did calm = (inl (went.0, step_of size h n b made word went.0 went.1 went.2 went.3 went.4, calm), tt, tt, tt, inr tt)

  pub lost_did : went.0.fault_state.struck ≡ true → IsCutIn size fill went.0 after left → LineDid size (lines.Turn h n) fill b (row_answer h (rows.Lost made)) before left
  lost_did hit cut = (
    inr (shows (shown.Turn h made word), went.0, cut.0, cut.1, step_of size h n b made word went.0 went.1 went.2 went.3 went.4, hit, cut.3, cut.4, cut.5),
    tt,
    tt,
    tt,
    inr tt,
  )
