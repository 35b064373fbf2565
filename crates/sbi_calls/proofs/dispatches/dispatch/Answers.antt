use Rattle.std.proofs.Common.{◌≡◌, ℕ, ap, sym, ◌∙◌, subst}
use Rattle.board_model.specs.Shapes.{Size}
use Rattle.hart.specs.State.{ArchState}
use Rattle.sbi_abi.specs.Calls.{call_of}
use Rattle.sbi_calls.specs.{declared.{tables.Seats.Seats, endings.Ending.Ending, words.Turned.Turned}, Both.IsTable}
use Rattle.sbi_calls.specs.{Requests.{Checked, request_of}, Answers.{CallRow, row, answer, Ends, DoesAlone, CallsAlone}}
use Rattle.sbi_calls.proofs.dispatches.dispatch.Goals as goal

-- with the numbers by other names
answered : (n by : ℕ) (size : Size) (asked : Checked) (old new : ArchState) (s s' : Seats) (end : Ending) (word : Turned)
    → n ≡ size.harts → by ≡ old.id → asked ≡ request_of size (call_of old) → DoesAlone n by asked s s' end → Ends end old new word → CallsAlone size old new s s' word
answered n by size asked old new s s' end word e f g does ends t are =
    let a = does t (subst (λ (k : ℕ). IsTable k s t) (sym e) are) in
    let r : row by asked t ≡ answer size old.id (call_of old) t = ap (λ (k : ℕ). row k asked t) f ∙ ap (λ (x : Checked). row old.id x t) g in (
      subst (λ (x : Ending). Ends x old new word) (a.0 ∙ ap (λ (w : CallRow). w.ending) r) ends,
      subst (λ (k : ℕ). IsTable k s' (answer size old.id (call_of old) t).table) e (subst (λ (w : CallRow). IsTable n s' w.table) r a.1),
    )

pub returns-clause-alone : goal.returns-clause-alone
returns-clause-alone c =
    answered _ c.id-by.result c.args.shape.now c.request_of-asked.result c.args.hart.now c.end.new.hart c.args.seats c.serve-seats.result.0 c.serve-seats.result.1 c.end.result
    c.requires.tables c.id-by.ensures (c.request_of-asked.ensures.value ∙ ap (request_of c.args.shape.now) c.of.ensures) c.serve-seats.ensures.alone c.end.ensures.ends
