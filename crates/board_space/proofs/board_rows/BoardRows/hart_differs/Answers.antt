use Rattle.std.{proofs.Common.{ℕ, ◌≡◌, ◌+◌, ◌∙◌, ap, sym, subst}, specs.Prelude.slice_index}
use Rattle.hart.specs.State.{ArchState}
use Rattle.machine.specs.Machine.{Machine, hart_at}
use Rattle.model_board.specs.LeftOut.{HartFor}
use Rattle.board_space.{specs.Records.IsAt, proofs.Differing.{same_read, same_pending, same_hart}}
use Rattle.board_space.proofs.board_rows.BoardRows.hart_differs.Goals as goal

pub returns-then-state_differs : goal.returns-then-state_differs
returns-then-state_differs c is n d x first second =
    c.state_differs.ensures c.if-state_differs.true
    (sym c.index-rest-place.is
    ∙ (same_read c.args.self.now c.args.row.now c.args.board.now c.args.rest.now c.args.own.now c.requires.rested c.requires.on n d x first second c.requires.own
    c.index-place.result c.args.hart c.index-rest-place.result c.index-own-place.result
    c.index-place.ensures.value c.requires.within c.requires.fits c.requires.size c.index-rest-place.is c.index-own-place.is
    ∙ c.index-own-place.is))

pub returns-then-pending_differs : goal.returns-then-pending_differs
returns-then-pending_differs c is n d x first second =
    c.pending_differs.ensures c.if-pending_differs.true
    (same_pending c.args.self.now c.args.row.now c.args.board.now c.args.rest.now c.args.own.now c.requires.rested c.requires.on n d x first second c.requires.own
    c.index-place.result c.args.hart
    c.index-place.ensures.value c.requires.within c.requires.fits c.requires.size)

pub returns : goal.returns
returns c is n d x first second =
    let place : c.index-place.result ≡ c.args.hart = c.index-place.ensures.value in
    let at : IsAt c.args.self.now.harts.records.items (slice_index c.args.row.now (1 + c.args.hart)) c.get.result.now = subst (λ (k : ℕ). IsAt c.args.self.now.harts.records.items (slice_index c.args.row.now (1 + k)) c.get.result.now) place c.get.ensures in
    let met = same_hart c.args.self.now c.args.row.now c.args.board.now c.args.rest.now c.args.own.now c.requires.rested c.requires.on n d x first second c.requires.own
    c.args.hart c.get.result.now c.requires.within at in
    let own : c.hart.result.now ≡ hart_at c.args.board.now.machine c.args.hart = c.hart.ensures.stands ∙ ap (λ (m : Machine). hart_at m c.args.hart) c.machine.ensures.machine in
    c.hart_differs.ensures is met.0 met.1 (subst (λ (s : ArchState). HartFor s met.0) (sym own) met.2)
