use Rattle.std.proofs.Common.{ℕ, suc, ◌≡◌, ◌∙◌, ◌+◌, ◌<◌, ◌≤◌, subst, arith}
use Rattle.model_board.specs.Boards.{Board}
use Rattle.state_space.specs.Bounded.{Turns}
use Rattle.board_space.specs.{Few.{turn_number, MOST_WAITED}, Rows.Stands, Settings.asked_of, Space.Steps}
use Rattle.board_space.proofs.Waiting.{turns_more, turn_step, away_more}
use Rattle.board_space.proofs.space.BoardSpace.waits_at.Goals as goal

pub loop-turn-preserved : goal.loop-turn-preserved
loop-turn-preserved c =
    let asked = asked_of c.args.self.now in
    let few : c.args.self.now.shape.harts ≤ 8 = omega (arith, c.harts-harts.ensures.value, c.harts-harts.ensures.range.1) in
    let n = c.loop-turn.turn in
    let h = c.args.hart in
    let until = c.loop-turn.invariant in
    let by = c.in_ok-turns_back.ensures in
    let was = c.loop-turn.self.board.board in
    let now = c.turns_back.new.self.board.board in
    let same : suc n ≡ n + 1 = omega arith in
    let made : (b : Board) → Stands c.args.self.now.rows c.args.row.now b → Turns (Steps (asked_of c.args.self.now)) turn_number c.args.hart (suc c.loop-turn.turn) b c.turns_back.new.self.board.board
    = λ b stands. turns_more asked h n b was now (until.turned b stands) (turn_step asked h was now c.requires.hart few by.turns) in
    record {
      stay = λ r b stands. by.stay r b (until.stay r b stands);
      setting = by.setting ∙ until.setting;
      turned = λ b stands. subst (λ (k : ℕ). Turns (Steps (asked_of c.args.self.now)) turn_number c.args.hart k b c.turns_back.new.self.board.board) same (made b stands);
      away = λ b stands k low back. away_more asked few (λ e x y z p q. c.event_determines_board.ensures asked.payload asked.size e x y z p q) h n b was now (made b stands) (by.away (cc) b (until.stay c.args.row.now b stands)) (until.away b stands) k low back;
    }

pub returns-then-branch-clause-waits : goal.returns-then-branch-clause-waits
returns-then-branch-clause-waits c is b stands =
    let asked = asked_of c.args.self.now in
    let few : c.args.self.now.shape.harts ≤ 8 = omega (arith, c.harts-harts.ensures.value, c.harts-harts.ensures.range.1) in
    let n = c.loop-turn.turn in
    let h = c.args.hart in
    let until = c.loop-turn.invariant in
    let by = c.in_ok-turns_back.ensures in
    let was = c.loop-turn.self.board.board in
    let now = c.turns_back.new.self.board.board in
    let there : c.turns_back.new.self.board.board ≡ b = by.back (cc) b (until.stay c.args.row.now b stands) in
    let low : c.loop-turn.turn < MOST_WAITED = omega (arith, c.loop-turn-test.true) in
    (n, low, subst (λ (d : Board). Turns (Steps (asked_of c.args.self.now)) turn_number c.args.hart (suc c.loop-turn.turn) b d) there (turns_more asked h n b was now (until.turned b stands) (turn_step asked h was now c.requires.hart few by.turns)))

pub returns-clause-goes : goal.returns-clause-goes
returns-clause-goes c is b stands waits =
    c.loop-turn.invariant.away b stands waits.0 (omega (arith, waits.1, c.loop-turn-test.false)) waits.2
