use Rattle.std.proofs.Common.{Bool, ap, sym, subst}
use Rattle.board_space.{specs.{Settings.Setting, Space.IsFor}, proofs.Remembered.{right_harts, right_words}}
use Rattle.board_space.proofs.carrying.BoardSpaceCarries.find.Goals as goal

pub find-requires-clause-harts : goal.find-requires-clause-harts
find-requires-clause-harts c = right_harts c.args.from.now c.args.self.now c.requires.setting c.args.memo.now c.requires.knows

pub find-requires-clause-words : goal.find-requires-clause-words
find-requires-clause-words c = right_words c.args.from.now c.args.self.now c.requires.setting c.args.memo.now c.requires.knows

pub returns : goal.returns
returns c = record {
  stands = λ done b all.
      (all.0, c.find.ensures.stands done all.0 all.1, subst (λ (l : Bool). IsFor l all.0 b) (sym (ap (λ (t : Setting). t.leaves) c.requires.setting)) all.2);
}
