use Rattle.std.proofs.Common.{◌<◌, ℕ, sym, subst}
use Rattle.model_board.specs.Events.{Event}
use Rattle.board_space.specs.{Covering.StandsAll, Expanding.{AreTold, AsksNone}, Mapped.map_in, Settings.{Setting, asked_of}}
use Rattle.board_space.{specs.Space.KeepsEach, proofs.{Moves.keeps_each, Seen.held_on}}
use Rattle.board_space.proofs.space.BoardSpace.add_all.Goals as goal

pub add_happenings-requires-clause-known : goal.add_happenings-requires-clause-known
add_happenings-requires-clause-known c =
    (c.requires.known.0, c.in_ok-seen.ensures.stay c.args.row.now c.requires.known.0 c.requires.known.1)

pub add_happenings-requires-clause-keeps : goal.add_happenings-requires-clause-keeps
add_happenings-requires-clause-keeps c =
    let turns = c.in_ok-seen.ensures in
    held_on c.args.self.now.rows c.add_turns.new.self.rows c.args.row.now c.requires.known.0 (λ b. (e : Event) → KeepsEach (asked_of c.add_turns.new.self) (map_in c.add_turns.new.self.map) e b) c.requires.known.1 turns.stay
    (λ b stands. subst (λ (t : Setting). (e : Event) → KeepsEach t.asked t.map e b) (sym turns.setting)
    (keeps_each (asked_of c.args.self.now) (map_in c.args.self.now.map) b (λ h lt. (c.requires.keeps b stands h lt).0)))

pub add_happenings-requires-clause-told : goal.add_happenings-requires-clause-told
add_happenings-requires-clause-told c =
    let turns = c.in_ok-seen.ensures in
    held_on c.args.self.now.rows c.add_turns.new.self.rows c.args.row.now c.requires.known.0 (λ b. AreTold (asked_of c.add_turns.new.self) (map_in c.add_turns.new.self.map) c.add_turns.new.self.leaves (StandsAll c.add_turns.new.self.leaves c.add_turns.new.self.rows) c.add_turns.new.found b 8) c.requires.known.1 turns.stay
    (λ b stands. subst (λ (t : Setting). AreTold t.asked t.map t.leaves (StandsAll t.leaves c.add_turns.new.self.rows) c.add_turns.new.found b 8) (sym turns.setting) (turns.told b stands))

pub add_happenings-requires-clause-asks : goal.add_happenings-requires-clause-asks
add_happenings-requires-clause-asks c is =
    let turns = c.in_ok-seen.ensures in
    held_on c.args.self.now.rows c.add_turns.new.self.rows c.args.row.now c.requires.known.0 (λ b. (h : ℕ) → h < 8 → AsksNone (asked_of c.add_turns.new.self) h b) c.requires.known.1 turns.stay
    (λ b stands. subst (λ (t : Setting). (h : ℕ) → h < 8 → AsksNone t.asked h b) (sym turns.setting) (turns.asks is b stands))

pub returns-clause-told : goal.returns-clause-told
returns-clause-told c b stands =
    let turns = c.in_ok-seen.ensures in
    subst (λ (t : Setting). AreTold t.asked t.map t.leaves (StandsAll t.leaves c.add_happenings.new.self.rows) c.add_happenings.new.found b 27) turns.setting
    (c.in_ok-add_happenings.ensures.told b (turns.stay c.args.row.now b stands))
