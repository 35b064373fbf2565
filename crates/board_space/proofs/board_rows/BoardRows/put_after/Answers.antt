use Rattle.std.{proofs.Common.{rules, ℕ, List, ◌≡◌, ◌∙◌, ◌+◌, ◌<◌, length, sym, ap, subst}, specs.Prelude.slice_index}
use Rattle.board_model.specs.Shapes.{Size}
use Rattle.hart.specs.State.{ArchState}
use Rattle.machine.specs.Machine.{Machine}
use Rattle.model_board.specs.Plain.{Sized}
use Rattle.model_board.specs.declared.powers.Power.TheVariants as powers
use Rattle.board_space.{specs.Rows.{AreHarts, AreSegments}, proofs.Putting.{known_segments, words_within, is_board}}
use Rattle.board_space.proofs.PutOver.{there_harts, there_segments}
use Rattle.board_space.proofs.board_rows.BoardRows.put_after.Goals as goal

pub put_other_harts-requires-clause-many : goal.put_other_harts-requires-clause-many
put_other_harts-requires-clause-many c =
    ap (λ (s : Sized). length s.machine.harts) c.put_rest.ensures
    ∙ (c.rest-plain.ensures.plain.long ∙ (ap (λ (s : Size). s.harts) c.requires.based.size ∙ sym c.harts-harts.ensures))

pub put_other_harts-requires-clause-there : goal.put_other_harts-requires-clause-there
put_other_harts-requires-clause-there c =
    let on : c.get.result.now.power ≡ powers.On = search rules in
    subst (λ (n : ℕ). AreHarts c.args.self.now.harts.records.items c.args.from.now 1 n c.put_rest.new.self.machine.harts) (sym c.harts-harts.ensures)
    (subst (λ (hs : List ArchState). AreHarts c.args.self.now.harts.records.items c.args.from.now 1 c.args.self.now.layout.shape.harts hs) (sym (ap (λ (s : Sized). s.machine.harts) c.put_rest.ensures))
    (there_harts c.args.self.now c.args.from.now c.args.board.now c.get.result.now c.rest-plain.result c.get.ensures on c.requires.from c.rest-plain.ensures.rest))

pub put_other_segments-requires-clause-known : goal.put_other_segments-requires-clause-known
put_other_segments-requires-clause-known c =
    subst (λ (n : ℕ). (m : List ℕ) × AreSegments c.args.self.now.layout c.args.self.now.words c.args.row.now (1 + n) m) (sym c.harts-harts.ensures)
    (known_segments c.args.self.now c.args.row.now c.requires.known.0 c.requires.known.1 c.args.board.now c.requires.based)

pub put_other_segments-requires-clause-within : goal.put_other_segments-requires-clause-within
put_other_segments-requires-clause-within c =
    words_within c.args.self.now c.args.row.now c.requires.known.0 c.requires.known.1 c.args.board.now c.requires.based c.put_other_harts.new.board.machine.memory
    (ap (λ (s : Sized). s.machine.memory) c.put_other_harts.ensures.others ∙ ap (λ (s : Sized). s.machine.memory) c.put_rest.ensures)

pub put_other_segments-requires-clause-there : goal.put_other_segments-requires-clause-there
put_other_segments-requires-clause-there c =
    let on : c.get.result.now.power ≡ powers.On = search rules in
    let memory : c.put_other_harts.new.board.machine.memory ≡ c.args.board.now.machine.memory = ap (λ (s : Sized). s.machine.memory) c.put_other_harts.ensures.others ∙ ap (λ (s : Sized). s.machine.memory) c.put_rest.ensures in
    subst (λ (n : ℕ). AreSegments c.args.self.now.layout c.args.self.now.words c.args.from.now (1 + n) c.put_other_harts.new.board.machine.memory) (sym c.harts-harts.ensures)
    (subst (λ (m : List ℕ). AreSegments c.args.self.now.layout c.args.self.now.words c.args.from.now (1 + c.args.self.now.layout.shape.harts) m) (sym memory)
    (there_segments c.args.self.now c.args.from.now c.args.board.now c.get.result.now c.rest-plain.result c.get.ensures on c.requires.from c.rest-plain.ensures.rest))

pub returns-clause-stands : goal.returns-clause-stands
returns-clause-stands c b stands =
    let rows = c.args.self.now in
    let row = c.args.row.now in
    let memory = c.put_other_segments.new.board.machine.memory in
    let same : c.bytes.result.now ≡ memory = c.bytes.ensures.value ∙ (c.ram.ensures ∙ ap (λ (m : Machine). m.memory) c.machine.ensures.machine) in
    is_board rows row c.requires.known.0 c.requires.known.1 c.get-2.result.now c.args.board.now c.put_rest.new.self c.put_other_harts.new.board c.put_other_segments.new.board
    c.get-2.ensures c.requires.based c.put_rest.ensures
    (subst (λ (n : ℕ). AreHarts rows.harts.records.items row 1 n c.put_other_harts.new.board.machine.harts) c.harts-harts.ensures c.put_other_harts.ensures.harts)
    (c.put_other_harts.ensures.many ∙ c.harts-harts.ensures)
    c.put_other_harts.ensures.others
    (subst (λ (n : ℕ). AreSegments rows.layout rows.words row (1 + n) memory) c.harts-harts.ensures c.put_other_segments.ensures.segments)
    c.put_other_segments.ensures.outside c.put_other_segments.ensures.room c.put_other_segments.ensures.others
    (subst (λ (m : List ℕ). (i : ℕ) → i < length m → slice_index m i < 256) same c.bytes_in.ensures)
    b stands
