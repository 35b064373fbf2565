use Rattle.std.proofs.{Common.{ℕ, [], true, ◌≡◌, ◌∙◌, ◌<◌, ◌≤◌, inl, inr, sym, ap, subst, arith}, lemmas.Bool.cases_lt}
use Rattle.model_board.specs.{Boards.Board, Events.{Turn, TurnOn}, LeftOut.AreProbed}
use Rattle.board_space.{specs.{Mapped.map_in, OneBoard.one_board, Settings.Setting, Space.{IsFor, KeepsSure}}, proofs.Covered.rest_for}
use Rattle.board_space.proofs.space.BoardSpace.rests.Goals as goal

pub changes_by-requires-clause-keeps : goal.changes_by-requires-clause-keeps
changes_by-requires-clause-keeps c b stands h lt =
    let until = c.loop-number.invariant in
    let known = c.requires.known in
    let is : known.0 ≡ b = one_board c.loop-number.self.rows c.args.row.now known.0 b (until.stay c.args.row.now known.0 known.1) stands in
    subst (λ (t : Setting). KeepsSure t.map t.leaves h b) (sym until.setting)
    (subst (λ (d : Board). KeepsSure (map_in c.args.self.now.map) c.args.self.now.leaves h d) is (c.requires.keeps known.0 known.1 h (subst (λ (t : Setting). h < t.asked.size.harts) until.setting lt)))

pub loop-number-preserved : goal.loop-number-preserved
loop-number-preserved c =
    let until = c.loop-number.invariant in
    let by = c.in_ok-changes_by.ensures in
    let shape = ap (λ (t : Setting). t.asked.size.harts) until.setting in
    record {
      stay = λ r b stands. by.stay r b (until.stay r b stands);
      setting = by.setting ∙ until.setting;
      rests = λ h low b stands lt. elim (cases_lt h c.loop-number.number) [
        | inl below ↦ until.rests h below b stands lt
        | inr from ↦ (
            let same : h ≡ c.loop-number.number = omega arith in
            subst (λ (n : ℕ). TurnOn n b b) (sym same) (by.stays (cc) b (until.stay c.args.row.now b stands) (omega (arith, shape, same, lt))))
      ];
    }

pub returns-then-branch-clause-moves : goal.returns-then-branch-clause-moves
returns-then-branch-clause-moves c is b d stands for all =
    let until = c.loop-number.invariant in
    let shape = ap (λ (t : Setting). t.asked.size.harts) until.setting in
    let here = subst (λ (t : Setting). IsFor t.leaves b d) (sym until.setting) for in
    c.in_ok-changes_by.ensures.changes (cc) b d (until.stay c.args.row.now b stands) here (λ h f lt turn. all h f (subst (λ (n : _). h < n) shape lt) turn)

-- all that is known of the row before it was asked for probes
pub all_probed-requires-clause-known : goal.all_probed-requires-clause-known
all_probed-requires-clause-known c =
    (c.requires.known.0, c.loop-number.invariant.stay c.args.row.now c.requires.known.0 c.requires.known.1)

pub all_probed-requires-clause-keeps : goal.all_probed-requires-clause-keeps
all_probed-requires-clause-keeps c b stands h lt =
    let until = c.loop-number.invariant in
    let known = c.requires.known in
    let is : known.0 ≡ b = one_board c.loop-number.self.rows c.args.row.now known.0 b (until.stay c.args.row.now known.0 known.1) stands in
    subst (λ (t : Setting). KeepsSure t.map t.leaves h b) (sym until.setting)
    (subst (λ (d : Board). KeepsSure (map_in c.args.self.now.map) c.args.self.now.leaves h d) is (c.requires.keeps known.0 known.1 h (subst (λ (t : Setting). h < t.asked.size.harts) until.setting lt)))

pub returns-clause-rests : goal.returns-clause-rests
returns-clause-rests c is b d stands for h e lt turn =
    let until = c.loop-number.invariant in
    let eight : c.loop-number.number ≡ 8 = omega arith in
    let few : c.args.self.now.shape.harts ≤ 8 = omega (arith, c.harts-harts.ensures.value, c.harts-harts.ensures.range.1) in
    let rests : TurnOn h b b = until.rests h (omega (arith, eight, few, lt)) b stands lt in
    let same = ap (λ (t : Setting). t.leaves) until.setting in
    let probes : c.args.self.now.leaves ≡ true → AreProbed h b = λ are. c.in_ok-all_probed.ensures.probed (same ∙ are) b (until.stay c.args.row.now b stands) h (subst (λ (t : Setting). h < t.asked.size.harts) (sym until.setting) lt) in
    c.event_determines_board.ensures [] c.args.self.now.shape (Turn h) d e d turn
    (rest_for c.boards_stand.ensures c.args.self.now.leaves [] c.args.self.now.shape h b d for (c.requires.keeps b stands h lt).1 probes rests)
