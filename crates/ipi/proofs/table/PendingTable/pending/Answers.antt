use Rattle.std.proofs.Common.{◌↔◌, ℕ, Bool, not, IsTrue, subst}
use Rattle.board_model.specs.HartSets.{Has}
use Rattle.ipi.{specs.declared.view.IpiAction.TheVariants.Looked, proofs.Alone.{same_harts, look_alone, few_senders, has_some}}
use Rattle.ipi.proofs.table.PendingTable.pending.Goals.{After-is_empty}
use Rattle.ipi.proofs.table.PendingTable.pending.Goals as goal

pub of-requires : goal.of-requires
of-requires c = few_senders c.args.self.now.table.shared.key c.look_by-found.result c.args.self.now.few c.look_by-found.ensures.range

-- the answer is whether the word has a sender
answered : (c : After-is_empty) → IsTrue (not c.is_empty.result) ↔ ((s : ℕ) × Has s c.look_by-found.result)
answered c =
    let empty : Bool = c.is_empty.result in
    subst (λ (n : ℕ). IsTrue (not empty) ↔ ((s : ℕ) × Has s n)) c.of.ensures (has_some empty c.of.result c.is_empty.ensures.none c.is_empty.ensures.some)

pub returns-clause-harts : goal.returns-clause-harts
returns-clause-harts c = same_harts c.args.by (Looked c.look_by-found.result) c.args.seat.me.0 c.look_by-found.new.seat.me.0 c.look_by-found.ensures.told

pub returns-clause-steps : goal.returns-clause-steps
returns-clause-steps c = (c.look_by-found.result, c.look_by-found.ensures.told, answered (goal.at.returns-clause-steps c).After-is_empty)

pub returns-clause-alone : goal.returns-clause-alone
returns-clause-alone c = λ pairs shown.
    look_alone c.args.self.now.table.shared.key c.args.by c.look_by-found.result c.args.seat.me.0 c.look_by-found.new.seat.me.0 shown.0 c.requires.by c.look_by-found.ensures.told (c.look_by-found.ensures.tells shown.0)
    (not c.is_empty.result) (answered (goal.at.returns-clause-alone c).After-is_empty) pairs shown
