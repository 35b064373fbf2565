use Rattle.std.proofs.Common.{◌≡◌, ◌∙◌, ◌<◌, ◌≤◌, ℕ, List, Bool, Ok, ap, sym, subst, arith}
use Rattle.model_board.specs.{Boards.Board, Plain.Sized}
use Rattle.state_space.specs.{Successors.{found_count, found_event, found_row}, Systems.IsExpanded}
use Rattle.board_space.specs.{declared.board_rows.BoardRows.BoardRows, Covering.StandsAll, Expanding.AreTold, Mapped.map_in, Rows.Stands}
use Rattle.board_space.specs.{OneBoard.one_board, Settings.{Setting, asked_of}, Space.{IsFor, KeepsSure, board_rules, sure_rules}}
use Rattle.board_space.proofs.{Covered.{stay_by, expanded_for}, EventNumbers.{small, below}, Moves.{told_all, told_stays, keeps_sure}}
use Rattle.board_space.proofs.space.BoardSpaceSystem.expand.Goals as goal

pub put-requires-clause-known : goal.put-requires-clause-known
put-requires-clause-known c = let known = c.requires.known in (known.1.0, known.1.1)

pub add_all-requires-clause-at : goal.add_all-requires-clause-at
add_all-requires-clause-at c =
    let first = c.in_default.ensures in
    let known = c.requires.known.1 in
    let rows = c.note.ensures.rows ∙ (c.stand.ensures.rows ∙ first.rows) in
    let board = ap (λ (s : Sized). s.board) (c.note.ensures.board ∙ (c.stand.ensures.board ∙ first.board)) ∙ c.put.ensures.stands known.0 known.1 in
    subst (λ (r : BoardRows). Stands r c.note.new.self.row.items c.note.new.self.board.board) (sym rows)
    (subst (λ (r : List ℕ). Stands c.args.self.now.rows r c.note.new.self.board.board) (sym c.in_ok-note.ensures.row)
    (subst (λ (b : Board). Stands c.args.self.now.rows c.args.row.now b) (sym board) known.1))

pub add_all-requires-clause-known : goal.add_all-requires-clause-known
add_all-requires-clause-known c =
    let known = c.requires.known.1 in
    let rows = c.note.ensures.rows ∙ (c.stand.ensures.rows ∙ c.in_default.ensures.rows) in
    (known.0, subst (λ (r : BoardRows). Stands r c.args.row.now known.0) (sym rows) known.1)

pub add_all-requires-clause-keeps : goal.add_all-requires-clause-keeps
add_all-requires-clause-keeps c b stands h lt =
    let first = c.in_default.ensures in
    let rows = c.note.ensures.rows ∙ (c.stand.ensures.rows ∙ first.rows) in
    let setting = c.note.ensures.setting ∙ (c.stand.ensures.setting ∙ first.setting) in
    let at : Stands c.args.self.now.rows c.args.row.now b = subst (λ (r : BoardRows). Stands r c.args.row.now b) rows stands in
    subst (λ (t : Setting). KeepsSure t.map t.leaves h b) (sym setting)
    (subst (λ (d : Board). KeepsSure (map_in c.args.self.now.map) c.args.self.now.leaves h d) (c.put.ensures.stands b at) (first.keeps h (subst (λ (t : Setting). h < t.asked.size.harts) setting lt)))

pub is_end-requires-clause-known : goal.is_end-requires-clause-known
is_end-requires-clause-known c =
    let first = c.in_default.ensures in
    let known = c.requires.known.1 in
    let at : Stands c.note.new.self.rows c.args.row.now known.0 = subst (λ (r : BoardRows). Stands r c.args.row.now known.0) (sym (c.note.ensures.rows ∙ (c.stand.ensures.rows ∙ first.rows))) known.1 in
    (known.0, c.in_ok-moves.ensures.stay c.args.row.now known.0 at)

pub is_end-requires-clause-keeps : goal.is_end-requires-clause-keeps
is_end-requires-clause-keeps c b stands h lt =
    let first = c.in_default.ensures in
    let added = c.in_ok-moves.ensures in
    let known = c.requires.known.1 in
    let setting = added.setting ∙ (c.note.ensures.setting ∙ (c.stand.ensures.setting ∙ first.setting)) in
    let there : Stands c.add_all.new.self.rows c.args.row.now known.0 = added.stay c.args.row.now known.0 (subst (λ (r : BoardRows). Stands r c.args.row.now known.0) (sym (c.note.ensures.rows ∙ (c.stand.ensures.rows ∙ first.rows))) known.1) in
    let is : known.0 ≡ b = one_board c.add_all.new.self.rows c.args.row.now known.0 b there stands in
    subst (λ (t : Setting). KeepsSure t.map t.leaves h b) (sym setting)
    (subst (λ (d : Board). KeepsSure (map_in c.args.self.now.map) c.args.self.now.leaves h d) (c.put.ensures.stands known.0 known.1 ∙ is) (first.keeps h (subst (λ (t : Setting). h < t.asked.size.harts) setting lt)))

pub is_end-requires-clause-moves : goal.is_end-requires-clause-moves
is_end-requires-clause-moves c is d all end =
    let first = c.in_default.ensures in
    let added = c.in_ok-moves.ensures in
    let known = c.requires.known.1 in
    let setting = c.note.ensures.setting ∙ (c.stand.ensures.setting ∙ first.setting) in
    let at : Stands c.note.new.self.rows c.args.row.now known.0 = subst (λ (r : BoardRows). Stands r c.args.row.now known.0) (sym (c.note.ensures.rows ∙ (c.stand.ensures.rows ∙ first.rows))) known.1 in
    let same : known.0 ≡ all.0 = one_board c.add_all.new.self.rows c.args.row.now known.0 all.0 (added.stay c.args.row.now known.0 at) all.1 in
    added.moves is known.0 d at
    (subst (λ (t : Setting). IsFor t.leaves known.0 d) added.setting (subst (λ (b : Board). IsFor c.add_all.new.self.leaves b d) (sym same) all.2))
    end

pub returns-then-is_end-clause-successors : goal.returns-then-is_end-clause-successors
returns-then-is_end-clause-successors c d all =
    let first = c.in_default.ensures in
    let added = c.in_ok-moves.ensures in
    let asked = asked_of c.args.self.now in
    let map = map_in c.args.self.now.map in
    let leaves = c.args.self.now.leaves in
    let b = all.0 in
    let few : c.args.self.now.shape.harts ≤ 8 = omega (arith, c.harts-harts.ensures.value, c.harts-harts.ensures.range.1) in
    let before = c.note.ensures.setting ∙ (c.stand.ensures.setting ∙ first.setting) in
    let at : Stands c.note.new.self.rows c.args.row.now all.0 = subst (λ (r : BoardRows). Stands r c.args.row.now all.0) (sym (c.note.ensures.rows ∙ (c.stand.ensures.rows ∙ first.rows))) all.1 in
    let told : AreTold asked map leaves (StandsAll leaves c.add_all.new.self.rows) c.add_all.new.found all.0 27 = subst (λ (t : Setting). AreTold t.asked t.map t.leaves (StandsAll t.leaves c.add_all.new.self.rows) c.add_all.new.found all.0 27) before (added.told b at) in
    let keeps = keeps_sure asked map leaves b (λ h lt. subst (λ (e : Board). KeepsSure map leaves h e) (c.put.ensures.stands b all.1) (first.keeps h lt)) in
    let sure : IsExpanded (sure_rules asked map leaves) (StandsAll leaves c.is_end.new.self.rows) (found_count c.add_all.new.found) (found_event c.add_all.new.found) (found_row c.add_all.new.found) all.0 = told_all asked map leaves (StandsAll leaves c.is_end.new.self.rows) c.add_all.new.found b 27 (λ f one. below f (small asked f few one)) keeps
    (told_stays asked map leaves (StandsAll leaves c.add_all.new.self.rows) (StandsAll leaves c.is_end.new.self.rows) c.add_all.new.found b 27 (λ r e x. (x.0, c.in_ok-is_end.ensures.stay r x.0 x.1, x.2)) told) in
    subst (λ (t : Setting). IsExpanded (board_rules t.asked t.map) (StandsAll t.leaves c.is_end.new.self.rows) (found_count c.add_all.new.found) (found_event c.add_all.new.found) (found_row c.add_all.new.found) d)
    (sym (c.in_ok-is_end.ensures.setting ∙ (added.setting ∙ before)))
    (expanded_for c.boards_stand.ensures asked map leaves c.is_end.new.self.rows (found_count c.add_all.new.found) (found_event c.add_all.new.found) (found_row c.add_all.new.found) b d all.2 sure)

pub returns-clause-successors : goal.returns-clause-successors
returns-clause-successors c d all =
    let first = c.in_default.ensures in
    let added = c.in_ok-moves.ensures in
    let asked = asked_of c.args.self.now in
    let map = map_in c.args.self.now.map in
    let leaves = c.args.self.now.leaves in
    let b = all.0 in
    let few : c.args.self.now.shape.harts ≤ 8 = omega (arith, c.harts-harts.ensures.value, c.harts-harts.ensures.range.1) in
    let before = c.note.ensures.setting ∙ (c.stand.ensures.setting ∙ first.setting) in
    let at : Stands c.note.new.self.rows c.args.row.now all.0 = subst (λ (r : BoardRows). Stands r c.args.row.now all.0) (sym (c.note.ensures.rows ∙ (c.stand.ensures.rows ∙ first.rows))) all.1 in
    let told : AreTold asked map leaves (StandsAll leaves c.add_all.new.self.rows) c.add_all.new.found all.0 27 = subst (λ (t : Setting). AreTold t.asked t.map t.leaves (StandsAll t.leaves c.add_all.new.self.rows) c.add_all.new.found all.0 27) before (added.told b at) in
    let keeps = keeps_sure asked map leaves b (λ h lt. subst (λ (e : Board). KeepsSure map leaves h e) (c.put.ensures.stands b all.1) (first.keeps h lt)) in
    let sure : IsExpanded (sure_rules asked map leaves) (StandsAll leaves c.is_end.new.self.rows) (found_count c.add_all.new.found) (found_event c.add_all.new.found) (found_row c.add_all.new.found) all.0 = told_all asked map leaves (StandsAll leaves c.is_end.new.self.rows) c.add_all.new.found b 27 (λ f one. below f (small asked f few one)) keeps
    (told_stays asked map leaves (StandsAll leaves c.add_all.new.self.rows) (StandsAll leaves c.is_end.new.self.rows) c.add_all.new.found b 27 (λ r e x. (x.0, c.in_ok-is_end.ensures.stay r x.0 x.1, x.2)) told) in
    subst (λ (t : Setting). IsExpanded (board_rules t.asked t.map) (StandsAll t.leaves c.is_end.new.self.rows) (found_count c.add_all.new.found) (found_event c.add_all.new.found) (found_row c.add_all.new.found) d)
    (sym (c.in_ok-is_end.ensures.setting ∙ (added.setting ∙ before)))
    (expanded_for c.boards_stand.ensures asked map leaves c.is_end.new.self.rows (found_count c.add_all.new.found) (found_event c.add_all.new.found) (found_row c.add_all.new.found) b d all.2 sure)

pub returns-in_err-note-clause-stays : goal.returns-in_err-note-clause-stays
returns-in_err-note-clause-stays c =
    let first = c.in_default.ensures in
    let setting = c.note.ensures.setting ∙ (c.stand.ensures.setting ∙ first.setting) in
    stay_by c.args.self.now.leaves c.note.new.self.leaves c.args.self.now.rows c.note.new.self.rows (ap (λ (t : Setting). t.leaves) setting)
    (λ r b stands. subst (λ (x : BoardRows). Stands x r b) (sym (c.note.ensures.rows ∙ (c.stand.ensures.rows ∙ first.rows))) stands)

pub returns-in_err-moves-clause-stays : goal.returns-in_err-moves-clause-stays
returns-in_err-moves-clause-stays c =
    let first = c.in_default.ensures in
    let setting = c.note.ensures.setting ∙ (c.stand.ensures.setting ∙ first.setting) in
    let before : (r : List ℕ) (b : Board) → Stands c.args.self.now.rows r b → Stands c.add_all.new.self.rows r b = λ r b stands. c.add_all.ensures.stay r b (subst (λ (x : BoardRows). Stands x r b) (sym (c.note.ensures.rows ∙ (c.stand.ensures.rows ∙ first.rows))) stands) in
    stay_by c.args.self.now.leaves c.add_all.new.self.leaves c.args.self.now.rows c.add_all.new.self.rows (ap (λ (t : Setting). t.leaves) (c.add_all.ensures.setting ∙ setting)) before

pub returns-in_err-is_end-clause-stays : goal.returns-in_err-is_end-clause-stays
returns-in_err-is_end-clause-stays c =
    let first = c.in_default.ensures in
    let setting = c.note.ensures.setting ∙ (c.stand.ensures.setting ∙ first.setting) in
    let before : (r : List ℕ) (b : Board) → Stands c.args.self.now.rows r b → Stands c.add_all.new.self.rows r b = λ r b stands. c.add_all.ensures.stay r b (subst (λ (x : BoardRows). Stands x r b) (sym (c.note.ensures.rows ∙ (c.stand.ensures.rows ∙ first.rows))) stands) in
    stay_by c.args.self.now.leaves c.is_end.new.self.leaves c.args.self.now.rows c.is_end.new.self.rows (ap (λ (t : Setting). t.leaves) (c.is_end.ensures.setting ∙ (c.add_all.ensures.setting ∙ setting)))
    (λ r b stands. c.is_end.ensures.stay r b (before r b stands))

pub returns-then-is_some-clause-stays : goal.returns-then-is_some-clause-stays
returns-then-is_some-clause-stays c =
    let first = c.in_default.ensures in
    let setting = c.note.ensures.setting ∙ (c.stand.ensures.setting ∙ first.setting) in
    let before : (r : List ℕ) (b : Board) → Stands c.args.self.now.rows r b → Stands c.add_all.new.self.rows r b = λ r b stands. c.add_all.ensures.stay r b (subst (λ (x : BoardRows). Stands x r b) (sym (c.note.ensures.rows ∙ (c.stand.ensures.rows ∙ first.rows))) stands) in
    stay_by c.args.self.now.leaves c.is_end.new.self.leaves c.args.self.now.rows c.is_end.new.self.rows (ap (λ (t : Setting). t.leaves) (c.is_end.ensures.setting ∙ (c.add_all.ensures.setting ∙ setting)))
    (λ r b stands. c.is_end.ensures.stay r b (before r b stands))

pub returns-then-is_end-clause-stays : goal.returns-then-is_end-clause-stays
returns-then-is_end-clause-stays c =
    let first = c.in_default.ensures in
    let setting = c.note.ensures.setting ∙ (c.stand.ensures.setting ∙ first.setting) in
    let before : (r : List ℕ) (b : Board) → Stands c.args.self.now.rows r b → Stands c.add_all.new.self.rows r b = λ r b stands. c.add_all.ensures.stay r b (subst (λ (x : BoardRows). Stands x r b) (sym (c.note.ensures.rows ∙ (c.stand.ensures.rows ∙ first.rows))) stands) in
    stay_by c.args.self.now.leaves c.is_end.new.self.leaves c.args.self.now.rows c.is_end.new.self.rows (ap (λ (t : Setting). t.leaves) (c.is_end.ensures.setting ∙ (c.add_all.ensures.setting ∙ setting)))
    (λ r b stands. c.is_end.ensures.stay r b (before r b stands))

pub returns-clause-stays : goal.returns-clause-stays
returns-clause-stays c =
    let first = c.in_default.ensures in
    let setting = c.note.ensures.setting ∙ (c.stand.ensures.setting ∙ first.setting) in
    let before : (r : List ℕ) (b : Board) → Stands c.args.self.now.rows r b → Stands c.add_all.new.self.rows r b = λ r b stands. c.add_all.ensures.stay r b (subst (λ (x : BoardRows). Stands x r b) (sym (c.note.ensures.rows ∙ (c.stand.ensures.rows ∙ first.rows))) stands) in
    stay_by c.args.self.now.leaves c.is_end.new.self.leaves c.args.self.now.rows c.is_end.new.self.rows (ap (λ (t : Setting). t.leaves) (c.is_end.ensures.setting ∙ (c.add_all.ensures.setting ∙ setting)))
    (λ r b stands. c.is_end.ensures.stay r b (before r b stands))

pub returns-then-is_end-clause-ends : goal.returns-then-is_end-clause-ends
returns-then-is_end-clause-ends c d all =
    let first = c.in_default.ensures in
    let setting = c.note.ensures.setting ∙ (c.stand.ensures.setting ∙ first.setting) in
    let before : (r : List ℕ) (b : Board) → Stands c.args.self.now.rows r b → Stands c.add_all.new.self.rows r b = λ r b stands. c.add_all.ensures.stay r b (subst (λ (x : BoardRows). Stands x r b) (sym (c.note.ensures.rows ∙ (c.stand.ensures.rows ∙ first.rows))) stands) in
    let at = (stay_by c.args.self.now.leaves c.add_all.new.self.leaves c.args.self.now.rows c.add_all.new.self.rows (ap (λ (t : Setting). t.leaves) (c.add_all.ensures.setting ∙ setting)) before) c.args.row.now d d all in
    c.in_ok-is_end.ensures.ends (ap (λ (x : Bool). Ok x) c.if-is_end.true) d (at.0 all)

pub returns-clause-ends : goal.returns-clause-ends
returns-clause-ends c d all end =
    let first = c.in_default.ensures in
    let setting = c.note.ensures.setting ∙ (c.stand.ensures.setting ∙ first.setting) in
    let before : (r : List ℕ) (b : Board) → Stands c.args.self.now.rows r b → Stands c.add_all.new.self.rows r b = λ r b stands. c.add_all.ensures.stay r b (subst (λ (x : BoardRows). Stands x r b) (sym (c.note.ensures.rows ∙ (c.stand.ensures.rows ∙ first.rows))) stands) in
    let at = (stay_by c.args.self.now.leaves c.add_all.new.self.leaves c.args.self.now.rows c.add_all.new.self.rows (ap (λ (t : Setting). t.leaves) (c.add_all.ensures.setting ∙ setting)) before) c.args.row.now d d all in
    c.in_ok-is_end.ensures.goes (ap (λ (x : Bool). Ok x) c.if-is_end.false) d (at.0 all) end
