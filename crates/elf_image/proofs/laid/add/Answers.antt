use Rattle.std.proofs.{Common.{◌≡◌, ◌∙◌, ℕ, ◌<◌, ◌≤◌, ◌++◌, replicate, ◌-◌, length, sym, subst, arith}, lemmas.Bool.false≢true}
use Rattle.std.proofs.lemmas.Result.{on_ok_weaker}
use Rattle.elf_image.specs.{Fields.part_of, Program.{Loads, TakesMemory, segment_at, start_of}, declared.program.Segment.Segment}
use Rattle.elf_image.proofs.Laying.{loaded_more, loaded_same, room_before}
use Rattle.elf_image.proofs.laid.add.Goals as goal

abbrev Adds : Segment → Type 0
Adds s = TakesMemory s × (0 < s.file_bytes)

pub returns-then-not-has_bytes : goal.returns-then-not-has_bytes
returns-then-not-has_bytes c =
    let T : Segment → Type 0 = λ s. Adds s in
    loaded_same c.args.bytes.now c.args.k c.args.memory.now.items
    (λ l some. false≢true (sym c.if-not-has_bytes.true ∙ c.has_bytes.ensures.1 (subst T (sym c.at-segment.ensures) (l.takes, some))))
    c.requires.before

pub lay-requires-clause-room : goal.lay-requires-clause-room
lay-requires-clause-room c =
    let T : Segment → Type 0 = λ s. Adds s in
    let P : Segment → Type 0 = λ s. length c.args.memory.now.items ≤ start_of s in
    let adds = subst T c.at-segment.ensures (c.has_bytes.ensures.0 c.if-not-has_bytes.false) in
    let loads : Loads c.args.bytes.now c.args.k = record { there = c.requires.there; takes = adds.0 } in
    let room = room_before c.args.bytes.now c.requires.fits.0 c.args.k c.args.memory.now.items c.requires.fits.1 c.requires.inside loads c.requires.before in
    omega (arith, c.args.memory.now.ok.0, subst P (sym c.at-segment.ensures) room)

pub returns : goal.returns
returns c =
    let T : Segment → Type 0 = λ s. Adds s in
    let old = c.args.memory.now.items in
    let new = c.lay.new.memory.items in
    let adds = subst T c.at-segment.ensures (c.has_bytes.ensures.0 c.if-not-has_bytes.false) in
    let loads : Loads c.args.bytes.now c.args.k = record { there = c.requires.there; takes = adds.0 } in
    let room = room_before c.args.bytes.now c.requires.fits.0 c.args.k old c.requires.fits.1 c.requires.inside loads c.requires.before in
    let L : Segment → ℕ → Type 0 =
    λ s n. new ≡ old ++ replicate (start_of s - n) 0 ++ part_of s.offset s.file_bytes c.args.bytes.now in
    let N : ℕ → Type 0 = λ n. L (segment_at c.args.bytes.now c.args.k) n in
    let S : Segment → Type 0 = λ s. L s c.args.memory.now.len in
    on_ok_weaker c.lay.result
    (λ laid. loaded_more c.args.bytes.now c.args.k old new loads room (c.requires.inside c.args.k loads).0 adds.1 c.requires.before
    (subst N c.args.memory.now.ok.0 (subst S c.at-segment.ensures laid)))
    c.lay.ensures
