use Rattle.std.proofs.Common.{Bool, true, ℕ, ◌≡◌, ◌+◌, length, ap, refl, sym, subst}
use Rattle.board_model.specs.Shapes.{Size}
use Rattle.model_board.specs.Boards.{Life}
use Rattle.state_space.proofs.Carrying.{stays_same}
use Rattle.board_space.specs.{Carried.AreLearned, Covering.StandsAll, Knowing.{AreAlike, Knows, knows_later}, Layouts.tracked_of}
use Rattle.board_space.{specs.{Settings.{Setting, setting_of}, Space.IsFor, Tracked.segment_count}, proofs.Covered.all_stays}
use Rattle.board_space.proofs.Remembered.{alike_made, knows_more, knows_none, right_harts, right_words}
use Rattle.board_space.proofs.carrying.BoardSpaceCarries.carry.Goals as goal

pub carry-requires-clause-harts : goal.carry-requires-clause-harts
carry-requires-clause-harts c = right_harts c.args.from.now c.args.self.now c.requires.setting c.args.memo.now c.requires.knows

pub carry-requires-clause-words : goal.carry-requires-clause-words
carry-requires-clause-words c = right_words c.args.from.now c.args.self.now c.requires.setting c.args.memo.now c.requires.knows

pub returns-in-Ok-clause-stays : goal.returns-in-Ok-clause-stays
returns-in-Ok-clause-stays c = all_stays c.args.self.now.leaves c.args.self.now.rows c.carry.new.self c.carry.ensures.stay

pub returns-in-Err-clause-stays : goal.returns-in-Err-clause-stays
returns-in-Err-clause-stays c = all_stays c.args.self.now.leaves c.args.self.now.rows c.carry.new.self c.carry.ensures.stay

pub returns-in-Ok-clause-width : goal.returns-in-Ok-clause-width
returns-in-Ok-clause-width c = (c.in-Ok.ensures.stands c.requires.known.1.0 c.requires.known.1.1).long

pub returns-in-Ok-clause-stands : goal.returns-in-Ok-clause-stands
returns-in-Ok-clause-stands c b all =
    (all.0, c.in-Ok.ensures.stands all.0 all.1, subst (λ (l : Bool). IsFor l all.0 b) (sym (ap (λ (t : Setting). t.leaves) c.requires.setting)) all.2)

-- what was remembered stays, and what is new is of rows that are alike
pub returns-in-Ok-clause-knows : goal.returns-in-Ok-clause-knows
returns-in-Ok-clause-knows c =
    let from = c.args.from.now in
    let self = c.args.self.now in
    let new = c.carry.new.self in
    let known = c.requires.known.1 in
    let setting = setting_of from in
    let before : Knows setting (StandsAll from.leaves from.rows) (StandsAll self.leaves new) c.args.memo.now =
    knows_later setting setting (StandsAll from.leaves from.rows) (StandsAll from.leaves from.rows) (StandsAll self.leaves self.rows) (StandsAll self.leaves new) c.args.memo.now refl
    (stays_same (StandsAll from.leaves from.rows)) (all_stays self.leaves self.rows new c.carry.ensures.stay) c.requires.knows in
    let alike : c.is_awake-learns.result ≡ true → (l : Life) × AreAlike (StandsAll from.leaves from.rows) (StandsAll self.leaves new) c.args.row.now c.carry.new.out.items l =
    λ is.
    let awake = c.is_awake-learns.ensures is known.0 known.1 in (
      awake.0,
      subst (λ (l : Bool). AreAlike (StandsAll from.leaves from.rows) (StandsAll l new) c.args.row.now c.carry.new.out.items awake.0) (sym (ap (λ (t : Setting). t.leaves) c.requires.setting))
          (alike_made from.leaves from.rows new c.args.row.now c.carry.new.out.items known.0 known.1 c.in-Ok.ensures.stands awake.0 awake.1),
    ) in
    record {
      harts = knows_more c.is_awake-learns.result (StandsAll from.leaves from.rows) (StandsAll self.leaves self.rows) (StandsAll self.leaves new) 1 setting.asked.size.harts c.args.memo.now.harts c.carry.new.memo.harts c.args.row.now c.carry.new.out.items
          before.harts alike (subst (λ (s : Size). AreLearned c.is_awake-learns.result c.args.memo.now.harts c.carry.new.memo.harts c.args.row.now 1 c.carry.new.out.items 1 s.harts) from.size c.in-Ok.ensures.harts);
      words = knows_more c.is_awake-learns.result (StandsAll from.leaves from.rows) (StandsAll self.leaves self.rows) (StandsAll self.leaves new) (1 + setting.asked.size.harts) (length setting.laid.ends) c.args.memo.now.words c.carry.new.memo.words c.args.row.now c.carry.new.out.items
          before.words alike
          (subst (λ (n : ℕ). AreLearned c.is_awake-learns.result c.args.memo.now.words c.carry.new.memo.words c.args.row.now (1 + from.shape.harts) c.carry.new.out.items (1 + from.shape.harts) n) (from.rows.layout.tracked.ends.ok.0)
          (subst (λ (s : Size). AreLearned c.is_awake-learns.result c.args.memo.now.words c.carry.new.memo.words c.args.row.now (1 + s.harts) c.carry.new.out.items (1 + s.harts) (segment_count (tracked_of from.rows.layout))) from.size c.in-Ok.ensures.words));
    }

pub returns-in-Err-clause-knows : goal.returns-in-Err-clause-knows
returns-in-Err-clause-knows c =
    knows_none (setting_of c.args.from.now) (StandsAll c.args.from.now.leaves c.args.from.now.rows) (StandsAll c.args.self.now.leaves c.carry.new.self) c.new.result c.new.ensures.harts c.new.ensures.words
