use Rattle.std.{proofs.Common.{ℕ, List, ◌≡◌, ◌∙◌, ◌+◌, ◌<◌, length, sym, ap, subst}, specs.Prelude.slice_index}
use Rattle.board_model.specs.Shapes.{Size}
use Rattle.machine.specs.Machine.{Machine}
use Rattle.model_board.specs.Plain.{Sized}
use Rattle.board_space.{specs.Rows.{AreHarts, AreSegments}, proofs.Putting.{known_segments, is_board}}
use Rattle.board_space.proofs.board_rows.BoardRows.put.Goals as goal

pub put_harts-requires-clause-many : goal.put_harts-requires-clause-many
put_harts-requires-clause-many c =
    ap (λ (s : Sized). length s.machine.harts) c.put_rest.ensures
    ∙ (c.rest-plain.ensures.plain.long ∙ (ap (λ (s : Size). s.harts) c.requires.based.size ∙ sym c.harts-harts.ensures))

pub put_segments-requires-clause-known : goal.put_segments-requires-clause-known
put_segments-requires-clause-known c =
    subst (λ (n : ℕ). (m : List ℕ) × AreSegments c.args.self.now.layout c.args.self.now.words c.args.row.now (1 + n) m) (sym c.harts-harts.ensures)
    (known_segments c.args.self.now c.args.row.now c.requires.known.0 c.requires.known.1 c.args.board.now c.requires.based)

pub returns-clause-stands : goal.returns-clause-stands
returns-clause-stands c b stands =
    let rows = c.args.self.now in
    let row = c.args.row.now in
    let memory = c.put_segments.new.board.machine.memory in
    let same : c.bytes.result.now ≡ memory = c.bytes.ensures.value ∙ (c.ram.ensures ∙ ap (λ (m : Machine). m.memory) c.machine.ensures.machine) in
    is_board rows row c.requires.known.0 c.requires.known.1 c.get.result.now c.args.board.now c.put_rest.new.self c.put_harts.new.board c.put_segments.new.board
    c.get.ensures c.requires.based c.put_rest.ensures
    (subst (λ (n : ℕ). AreHarts rows.harts.records.items row 1 n c.put_harts.new.board.machine.harts) c.harts-harts.ensures c.put_harts.ensures.harts)
    (c.put_harts.ensures.many ∙ c.harts-harts.ensures)
    c.put_harts.ensures.others
    (subst (λ (n : ℕ). AreSegments rows.layout rows.words row (1 + n) memory) c.harts-harts.ensures c.put_segments.ensures.segments)
    c.put_segments.ensures.outside c.put_segments.ensures.room c.put_segments.ensures.others
    (subst (λ (m : List ℕ). (i : ℕ) → i < length m → slice_index m i < 256) same c.bytes_in.ensures)
    b stands
