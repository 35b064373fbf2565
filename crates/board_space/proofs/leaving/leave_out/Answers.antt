use Rattle.std.proofs.Common.{◌≡◌, ◌∙◌, ◌<◌, ℕ, length, ap, sym, subst}
use Rattle.hart.specs.State.{ArchState}
use Rattle.machine.specs.Machine.{Machine, hart_at}
use Rattle.model_board.specs.{Held.with_hart, LeftOut.StandsFor, Plain.{Sized, with_machine}}
use Rattle.board_space.{specs.Leaving.IsLeft, proofs.LeftHarts.left_sized}
use Rattle.board_space.proofs.leaving.leave_out.Goals as goal

pub returns-else-not-has_more-clause-stands : goal.returns-else-not-has_more-clause-stands
returns-else-not-has_more-clause-stands c =
    let b = c.args.board.now in
    let left = c.left_out-left.result in
    let machine : c.machine.result.now ≡ c.args.board.now.machine = c.machine.ensures.machine in
    let own : c.hart-own.result.now ≡ hart_at c.args.board.now.machine c.args.hart = c.hart-own.ensures.stands ∙ ap (λ (m : Machine). hart_at m c.args.hart) machine in
    let id : c.left_out-left.result.id ≡ c.args.hart = c.left_out-left.ensures.id ∙ c.hart-own.ensures.numbered in
    let size = ap (λ (m : Machine). m.size) (sym machine) ∙ c.machine.ensures.size in
    let has : c.args.hart < length c.args.board.now.machine.harts = subst (λ (k : ℕ). c.args.hart < k) (sym (c.rest-plain.ensures.plain.long ∙ ap (λ s. s.harts) size)) c.requires in
    subst (λ (s : Sized). StandsFor s.board c.args.board.now.board) (sym c.put_hart.ensures)
    (subst (λ (i : ℕ). StandsFor (with_machine (with_hart i c.args.board.now.machine c.left_out-left.result) c.args.board.now).board c.args.board.now.board) (sym id)
    (left_sized c.rest-plain.result b c.args.hart left c.rest-plain.ensures.rest c.in-On.ensures has
    (subst (λ (s : ArchState). IsLeft s c.left_out-left.result) own c.left_out-left.ensures.left)))
