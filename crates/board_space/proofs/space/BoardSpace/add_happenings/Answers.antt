use Rattle.std.proofs.Common.{sym, subst}
use Rattle.model_board.specs.Events.{Event}
use Rattle.board_space.specs.{Covering.StandsAll, Expanding.AreTold, Mapped.map_in, Settings.{Setting, asked_of}, Space.KeepsEach}
use Rattle.board_space.proofs.Seen.{held_on}
use Rattle.board_space.proofs.space.BoardSpace.add_happenings.Goals as goal

pub add_others-requires-clause-known : goal.add_others-requires-clause-known
add_others-requires-clause-known c =
    (c.requires.known.0, c.add_refusals.ensures.stay c.args.row.now c.requires.known.0 c.requires.known.1)

pub add_others-requires-clause-keeps : goal.add_others-requires-clause-keeps
add_others-requires-clause-keeps c =
    let after = c.add_refusals.ensures in
    held_on c.args.self.now.rows c.add_refusals.new.self.rows c.args.row.now c.requires.known.0 (λ b. (e : Event) → KeepsEach (asked_of c.add_refusals.new.self) (map_in c.add_refusals.new.self.map) e b) c.requires.known.1 after.stay
    (λ b stands. subst (λ (t : Setting). (e : Event) → KeepsEach t.asked t.map e b) (sym after.setting) (c.requires.keeps b stands))

pub add_others-requires-clause-told : goal.add_others-requires-clause-told
add_others-requires-clause-told c =
    let after = c.in_ok-add_refusals.ensures in
    held_on c.args.self.now.rows c.add_refusals.new.self.rows c.args.row.now c.requires.known.0 (λ b. AreTold (asked_of c.add_refusals.new.self) (map_in c.add_refusals.new.self.map) c.add_refusals.new.self.leaves (StandsAll c.add_refusals.new.self.leaves c.add_refusals.new.self.rows) c.add_refusals.new.found b 24) c.requires.known.1 after.stay
    (λ b stands. subst (λ (t : Setting). AreTold t.asked t.map t.leaves (StandsAll t.leaves c.add_refusals.new.self.rows) c.add_refusals.new.found b 24) (sym after.setting) (after.told b stands))

pub returns-clause-told : goal.returns-clause-told
returns-clause-told c b stands =
    let after = c.in_ok-add_refusals.ensures in
    subst (λ (t : Setting). AreTold t.asked t.map t.leaves (StandsAll t.leaves c.add_others.new.self.rows) c.add_others.new.found b 27) after.setting
    (c.in_ok-add_others.ensures.told b (after.stay c.args.row.now b stands))
