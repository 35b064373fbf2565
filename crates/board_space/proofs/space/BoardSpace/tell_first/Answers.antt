use Rattle.std.proofs.{Common.{◌∙◌, ap, sym, subst}, lemmas.Result.IfOk-weaker}
use Rattle.board_space.specs.{Layouts.{laid_by, width_of}, Mapped.map_in, Settings.asked_of, declared.row_layout.Layout.Layout, Rows.Stands}
use Rattle.board_space.proofs.Ready.{boot_on_base}
use Rattle.model_board.specs.Boards.{Board}
use Rattle.board_space.proofs.space.BoardSpace.tell_first.Goals as goal

pub row_of-requires : goal.row_of-requires
row_of-requires c = record {
  size = c.in_ok-board.ensures.raw ∙ sym c.args.self.now.size;
  memory = boot_on_base c.args.self.now.rows.layout c.in_ok-board.board.machine.memory (c.in_ok-board.ensures.memory ∙ sym c.args.self.now.base);
}

pub invariant_of-self : goal.invariant_of-self
invariant_of-self c = rw c.row_of.ensures.layout (record {
  fits = c.args.self.now.fits;
  size = c.args.self.now.size;
  base = c.args.self.now.base;
  tracks = c.args.self.now.tracks;
  based = c.args.self.now.based;
})

pub returns-clause-first : goal.returns-clause-first
returns-clause-first c =
    IfOk-weaker c.row_of.result _ _ (λ done. subst (λ (b : Board). Stands c.row_of.new.self c.row_of.new.row.items b) c.in_ok-board.ensures.board) c.row_of.ensures.stands

pub returns-clause-setting : goal.returns-clause-setting
returns-clause-setting c =
    let s = c.args.self.now in
    ap (λ (l : Layout). record { asked = asked_of s; map = map_in s.map; leaves = s.leaves; width = width_of l; laid = laid_by l }) c.row_of.ensures.layout
