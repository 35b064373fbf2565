use Rattle.std.proofs.Common.{ℕ, ◌≡◌, ◌∙◌, ◌<◌, ◌+◌, refl, sym, subst, arith}
use Rattle.model_board.specs.Events.{IsEnd}
use Rattle.board_space.specs.{Covering.StandsAll, Expanding.{AreTold, AsksNone}, Mapped.map_in, Settings.{Setting, asked_of}}
use Rattle.board_space.{specs.Space.{IsFor, KeepsSure}, proofs.{Moves.told_none, Seen.held_on}}
use Rattle.board_space.proofs.space.BoardSpace.add_turns.Goals as goal

pub add_turn_of-requires-clause-known : goal.add_turn_of-requires-clause-known
add_turn_of-requires-clause-known c =
    (c.requires.known.0, c.loop-number.invariant.stay c.args.row.now c.requires.known.0 c.requires.known.1)

pub add_turn_of-requires-clause-keeps : goal.add_turn_of-requires-clause-keeps
add_turn_of-requires-clause-keeps c =
    let until = c.loop-number.invariant in
    held_on c.args.self.now.rows c.loop-number.self.rows c.args.row.now c.requires.known.0 (λ b. (h : ℕ) → h < c.loop-number.self.shape.harts → KeepsSure (map_in c.loop-number.self.map) c.loop-number.self.leaves h b) c.requires.known.1 until.stay
    (λ b stands. subst (λ (t : Setting). (h : ℕ) → h < t.asked.size.harts → KeepsSure t.map t.leaves h b) (sym until.setting) (c.requires.keeps b stands))

pub add_turn_of-requires-clause-told : goal.add_turn_of-requires-clause-told
add_turn_of-requires-clause-told c =
    let until = c.loop-number.invariant in
    let s = c.loop-number.self in
    held_on c.args.self.now.rows c.loop-number.self.rows c.args.row.now c.requires.known.0 (λ b. AreTold (asked_of c.loop-number.self) (map_in c.loop-number.self.map) c.loop-number.self.leaves (StandsAll c.loop-number.self.leaves c.loop-number.self.rows) c.loop-number.found b c.loop-number.number) c.requires.known.1 until.stay
    (λ b stands. subst (λ (t : Setting). AreTold t.asked t.map t.leaves (StandsAll t.leaves c.loop-number.self.rows) c.loop-number.found b c.loop-number.number) (sym until.setting) (until.told b stands))

pub add_turn_of-requires-clause-asks : goal.add_turn_of-requires-clause-asks
add_turn_of-requires-clause-asks c is =
    let until = c.loop-number.invariant in
    held_on c.args.self.now.rows c.loop-number.self.rows c.args.row.now c.requires.known.0 (λ b. (h : ℕ) → h < c.loop-number.number → AsksNone (asked_of c.loop-number.self) h b) c.requires.known.1 until.stay
    (λ b stands. subst (λ (t : Setting). (h : ℕ) → h < c.loop-number.number → AsksNone t.asked h b) (sym until.setting) (until.asks is b stands))

pub add_turn_of-requires-clause-moves : goal.add_turn_of-requires-clause-moves
add_turn_of-requires-clause-moves c is b d stands =
    let until = c.loop-number.invariant in
    held_on c.args.self.now.rows c.loop-number.self.rows c.args.row.now c.requires.known.0 (λ b. IsFor c.loop-number.self.leaves b d → IsEnd d → ⊥) c.requires.known.1 until.stay
    (λ b stands. subst (λ (t : Setting). IsFor t.leaves b d → IsEnd d → ⊥) (sym until.setting) (until.moves is b d stands))
    b stands

pub loop-number-init : goal.loop-number-init
loop-number-init c = record {
  at = c.requires.at;
  stay = λ r b stands. stands;
  setting = refl;
  width = refl;
  told = λ b stands. told_none (asked_of c.args.self.now) (map_in c.args.self.now.map) c.args.self.now.leaves (StandsAll c.args.self.now.leaves c.args.self.now.rows) c.args.found.now b c.requires.none;
  asks = λ is b stands h low. absurd (omega (arith, low));
  moves = λ is b d stands for end. cc;
}

pub loop-number-preserved : goal.loop-number-preserved
loop-number-preserved c =
    let until = c.loop-number.invariant in
    let done = c.in_ok-seen.ensures in
    record {
      at = done.at;
      stay = λ r b stands. done.stay r b (until.stay r b stands);
      setting = done.setting ∙ until.setting;
      width = done.width ∙ until.width;
      told = λ b stands. subst (λ (t : Setting). AreTold t.asked t.map t.leaves (StandsAll t.leaves c.add_turn_of.new.self.rows) c.add_turn_of.new.found b (c.loop-number.number + 1)) until.setting (done.told b (until.stay c.args.row.now b stands));
      asks = λ is b stands. subst (λ (t : Setting). (h : ℕ) → h < c.loop-number.number + 1 → AsksNone t.asked h b) until.setting (done.asks is b (until.stay c.args.row.now b stands));
      moves = λ is b d stands for end. done.moves is b d (until.stay c.args.row.now b stands) (subst (λ (t : Setting). IsFor t.leaves b d) (sym until.setting) for) end;
    }

pub returns-clause-told : goal.returns-clause-told
returns-clause-told c b stands =
    let all : c.loop-number.number ≡ 8 = omega arith in
    subst (λ (n : ℕ). AreTold (asked_of c.args.self.now) (map_in c.args.self.now.map) c.args.self.now.leaves (StandsAll c.args.self.now.leaves c.loop-number.self.rows) c.loop-number.found b n) all (c.loop-number.invariant.told b stands)

pub returns-clause-asks : goal.returns-clause-asks
returns-clause-asks c is b stands h low = c.loop-number.invariant.asks is b stands h (omega (arith, low))
