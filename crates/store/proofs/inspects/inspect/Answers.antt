use Rattle.std.proofs.{Common.{◌≡◌, ◌∙◌, ◌⊎◌, inl, inr, refl, ℕ, List, ◌<◌, ◌≤◌, length, sym, subst}, lemmas.Result.IfOk-from_err}
use Rattle.std.specs.Prelude.{Result, Ok, Err, IfErr}
use Rattle.board_model.specs.{Shapes.{Size, sectors_of}, declared.refusal.Refusal.Refusal}
use Rattle.board_model.specs.declared.refusal.Refusal.TheVariants.{NotFormatted, BadShape, Device, Memory}
use Rattle.disk.specs.Facts.{Content, Facts, counted}
use Rattle.layout.specs.Superblocks.{IsSuperblock}
use Rattle.store.specs.{Opens.{IsBoard, FailsForCause}, Inspects.{InspectRefused, InspectCalls}, declared.inspects.Inspection.Inspection}
use Rattle.store.proofs.{Reading.{board_marked, some_sectors}, Inspecting.inspect_calls, Loading.none_read, inspects.inspect.Given.Over}
use Rattle.store.proofs.Alone.{called_alone, alone_then, fails_on, refused_on, inspected_on, none_there, one_failed, sector_failed}
use Rattle.store.proofs.inspects.inspect.Goals.{After-examine}
use Rattle.store.proofs.inspects.inspect.Goals as goal

-- the disk of that shape is a board's
board_here : (g : Over) (c : After-examine g) → IsBoard c.in_ok-shape.shape (g.D.Disk.facts c.args.disk.now).content
board_here g c =
    let ok = c.in_ok-shape.ensures.ok in
    (subst (λ (s : List ℕ). IsSuperblock c.in_ok-shape.shape s) c.in-Ok.ensures.found ok.0, subst (λ (n : ℕ). sectors_of c.in_ok-shape.shape ≤ n) c.sectors-sectors.ensures ok.1)

pub returns-clause-calls : goal.returns-clause-calls
returns-clause-calls g c some =
    let a = g.D.Disk.facts c.args.disk.now in
    let m = g.D.Disk.facts c.read_sector.new.disk in
    let b = g.D.Disk.facts c.examine.new.disk in
    let same : m.content ≡ a.content = c.read_sector.ensures.called.content in
    let board : IsBoard c.in_ok-shape.shape m.content = subst (IsBoard c.in_ok-shape.shape) (sym same) (board_here g (goal.at.returns-clause-calls g c).After-examine) in
    let first : m.calls ≡ counted a.calls 1 = c.in-Ok.ensures.called.calls.ok in
    let long : 0 < length m.content = subst (λ (d : Content). 0 < length d) (sym same) some in
    subst (λ (d : Content). InspectCalls d c.examine.result a.calls b.calls) same
    (inspect_calls m b c.in_ok-shape.shape a.calls m.calls b.calls c.examine.result board first long c.examine.ensures.refused c.examine.ensures.calls)

-- the disk of a board is refused with 5 or 11 alone
of_board : (a b : Facts) (size : Size) (r : Result Inspection Refusal) → IsBoard size a.content → IfErr r (λ e. InspectRefused a e b) → IfErr r (λ e. (e ≡ Device) ⊎ (e ≡ Memory))
of_board a b size (Ok i) is why = tt
of_board a b size (Err NotFormatted) is why = absurd (why.1 (board_marked size a.content is))
of_board a b size (Err BadShape) is why = absurd (elim why [ inl none ↦ some_sectors size a.content is none | inr bad ↦ bad.1 size is ])
of_board a b size (Err Device) is why = inl refl
of_board a b size (Err Memory) is why = inr refl
of_board a b size (Err e) is why = absurd why

pub returns-clause-board : goal.returns-clause-board
returns-clause-board g c size is =
    of_board (g.D.Disk.facts c.read_sector.new.disk) (g.D.Disk.facts c.examine.new.disk) size c.examine.result
    (subst (IsBoard size) (sym c.read_sector.ensures.called.content) is) c.examine.ensures.refused

pub returns-clause-unformatted : goal.returns-clause-unformatted
returns-clause-unformatted g c reads =
    let content = (g.D.Disk.facts c.args.disk.now).content in
    let board = board_here g (goal.at.returns-clause-unformatted g c).After-examine in
    absurd (reads.1 (board_marked c.in_ok-shape.shape content board))

pub returns-clause-bad_shape : goal.returns-clause-bad_shape
returns-clause-bad_shape g c reads =
    let content = (g.D.Disk.facts c.args.disk.now).content in
    let board = board_here g (goal.at.returns-clause-bad_shape g c).After-examine in
    absurd (elim reads [ inl none ↦ some_sectors c.in_ok-shape.shape content board none | inr bad ↦ bad.1 c.in_ok-shape.shape board ])

pub returns-clause-inspected : goal.returns-clause-inspected
returns-clause-inspected g c =
    inspected_on c.in_ok-shape.shape _ _ c.examine.result c.read_sector.ensures.called.content (board_here g (goal.at.returns-clause-inspected g c).After-examine) c.examine.ensures.inspected

pub returns-clause-refused : goal.returns-clause-refused
returns-clause-refused g c =
    let first = c.in-Ok.ensures.called in
    refused_on (g.D.Disk.facts c.args.disk.now) (g.D.Disk.facts c.read_sector.new.disk) (g.D.Disk.facts c.examine.new.disk) c.examine.result first.content first.failures.ok c.examine.ensures.refused

pub returns-clause-reads_alone : goal.returns-clause-reads_alone
returns-clause-reads_alone g c = alone_then 1 _ _ _ _ _ _ (g.met.D.Disk.only_now _) c.in-Ok.ensures.called c.examine.ensures.reads_alone

-- and why it failed, where it did
caused : (g : Over) (c : After-examine g) → FailsForCause (g.D.Disk.facts c.args.disk.now) (g.D.Disk.fault_state c.args.disk.now) c.examine.result (g.D.Disk.facts c.examine.new.disk) (g.D.Disk.fault_state c.examine.new.disk)
caused g c = let first = c.in-Ok.ensures.called in fails_on _ _ _ _ _ _ c.examine.result first.failures.ok first.cause.ok c.examine.ensures.cause

pub returns-clause-cause : goal.returns-clause-cause
returns-clause-cause g c = let on = caused g (goal.at.returns-clause-cause g c).After-examine in on.cause

pub returns-clause-no_failure : goal.returns-clause-no_failure
returns-clause-no_failure g c = let on = caused g (goal.at.returns-clause-no_failure g c).After-examine in on.no_failure

pub returns-clause-no_sectors : goal.returns-clause-no_sectors
returns-clause-no_sectors g c = λ none. absurd (c.if-sectors-eq0.false (c.sectors-sectors.ensures ∙ none))

-- the superblock was refused
pub returns-in_err-shape-clause-reads_alone : goal.returns-in_err-shape-clause-reads_alone
returns-in_err-shape-clause-reads_alone g c = called_alone 1 _ _ _ _ _ (g.met.D.Disk.only_now _) (g.met.D.Disk.bounded _) c.requires.none_out c.read_sector.ensures.called

pub returns-in_err-shape-clause-no_sectors : goal.returns-in_err-shape-clause-no_sectors
returns-in_err-shape-clause-no_sectors g c = λ none. absurd (c.if-sectors-eq0.false (c.sectors-sectors.ensures ∙ none))

-- there is no sector
pub returns-then-sectors-eq0-clause-refused : goal.returns-then-sectors-eq0-clause-refused
returns-then-sectors-eq0-clause-refused g c = inl (sym c.sectors-sectors.ensures ∙ c.if-sectors-eq0.true)

pub returns-then-sectors-eq0-clause-unformatted : goal.returns-then-sectors-eq0-clause-unformatted
returns-then-sectors-eq0-clause-unformatted g c = λ reads. absurd (none_there _ (sym c.sectors-sectors.ensures ∙ c.if-sectors-eq0.true) reads.0)

pub returns-then-sectors-eq0-clause-bad_shape : goal.returns-then-sectors-eq0-clause-bad_shape
returns-then-sectors-eq0-clause-bad_shape g c = λ reads. inl refl

pub returns-then-sectors-eq0-clause-board : goal.returns-then-sectors-eq0-clause-board
returns-then-sectors-eq0-clause-board g c = λ size is. absurd (some_sectors size _ is (sym c.sectors-sectors.ensures ∙ c.if-sectors-eq0.true))

pub returns-then-sectors-eq0-clause-reads_alone : goal.returns-then-sectors-eq0-clause-reads_alone
returns-then-sectors-eq0-clause-reads_alone g c = none_read _ (g.met.D.Disk.only_now _) c.requires.none_out

pub returns-then-sectors-eq0-clause-cause : goal.returns-then-sectors-eq0-clause-cause
returns-then-sectors-eq0-clause-cause g c = refl

pub returns-then-sectors-eq0-clause-calls : goal.returns-then-sectors-eq0-clause-calls
returns-then-sectors-eq0-clause-calls g c = λ some. absurd (none_there _ (sym c.sectors-sectors.ensures ∙ c.if-sectors-eq0.true) some)

-- sector 0 could not be read
pub returns-in_default-clause-unformatted : goal.returns-in_default-clause-unformatted
returns-in_default-clause-unformatted g c reads = inr refl

pub returns-in_default-clause-bad_shape : goal.returns-in_default-clause-bad_shape
returns-in_default-clause-bad_shape g c reads = inr refl

pub returns-in_default-clause-board : goal.returns-in_default-clause-board
returns-in_default-clause-board g c size is = inl refl

pub returns-in_default-clause-refused : goal.returns-in_default-clause-refused
returns-in_default-clause-refused g c = one_failed _ _ c.in_default.ensures.called.failures.err

pub returns-in_default-clause-no_sectors : goal.returns-in_default-clause-no_sectors
returns-in_default-clause-no_sectors g c = λ none. absurd (c.if-sectors-eq0.false (c.sectors-sectors.ensures ∙ none))

pub returns-in_default-clause-reads_alone : goal.returns-in_default-clause-reads_alone
returns-in_default-clause-reads_alone g c = called_alone 1 _ _ _ _ _ (g.met.D.Disk.only_now _) (g.met.D.Disk.bounded _) c.requires.none_out c.read_sector.ensures.called

pub returns-in_default-clause-cause : goal.returns-in_default-clause-cause
returns-in_default-clause-cause g c = c.in_default.ensures.called.cause.err

pub returns-in_default-clause-calls : goal.returns-in_default-clause-calls
returns-in_default-clause-calls g c = λ some. sector_failed _ _ _ c.in_default.ensures.called.calls.err

pub returns-in_err-shape-clause-inspected : goal.returns-in_err-shape-clause-inspected
returns-in_err-shape-clause-inspected g c = IfOk-from_err c.from_residual.result _ c.from_residual.ensures.0

pub returns-in_err-shape-clause-no_failure : goal.returns-in_err-shape-clause-no_failure
returns-in_err-shape-clause-no_failure g c = IfOk-from_err c.from_residual.result _ c.from_residual.ensures.0
