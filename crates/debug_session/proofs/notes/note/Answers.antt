use Rattle.std.proofs.Common.{◌∙◌, ℕ, Bool, sym, subst}
use Rattle.debug_session.specs.{Pasts.IsAdded, Notes.Joins}
use Rattle.debug_session.proofs.Noted.{row_noted, nothing_noted, added_ranges, added_fills, within_made, not_off, off_is}
use Rattle.debug_session.proofs.notes.note.Goals as goal

pub returns-clause-left : goal.returns-clause-left
returns-clause-left c = λ size start b after leaves was moves.
    let P : ℕ → Type 0 = λ n. IsAdded c.args.hart n c.args.joins c.args.history.now c.add_turns.new.self in
    let line = subst P c.made.ensures c.in_ok-add_turns.ensures.line in
    let some = not_off c.args.row (sym c.is_off.ensures ∙ c.if-is_off.false) in
    let did = row_noted size start c.args.hart c.args.row c.args.joins c.args.history.now c.add_turns.new.self b after some line leaves was moves in
    let Q : Bool → Type 0 = λ next. Joins size start next c.add_turns.new.self after in
    (did.0, subst Q (sym c.goes_on.ensures) did.1)

pub returns-clause-ranges : goal.returns-clause-ranges
returns-clause-ranges c = λ size hart are.
    let P : ℕ → Type 0 = λ n. IsAdded c.args.hart n c.args.joins c.args.history.now c.add_turns.new.self in
    let line = subst P c.made.ensures c.in_ok-add_turns.ensures.line in
    let within = within_made 1000000 c.args.row (not_off c.args.row (sym c.is_off.ensures ∙ c.if-is_off.false)) c.requires.within in
    added_ranges size c.args.hart _ c.args.joins c.args.history.now c.add_turns.new.self line hart within.0 within.1 are

pub returns-clause-fill : goal.returns-clause-fill
returns-clause-fill c = λ fill. added_fills c.args.hart c.made.result c.args.joins c.args.history.now c.add_turns.new.self fill c.in_ok-add_turns.ensures.line

pub returns-then-is_off-clause-left : goal.returns-then-is_off-clause-left
returns-then-is_off-clause-left c = λ size start b after leaves was moves.
    nothing_noted size start c.args.hart c.args.row c.args.joins c.args.history.now b after (off_is c.args.row (sym c.is_off.ensures ∙ c.if-is_off.true)) leaves was moves
