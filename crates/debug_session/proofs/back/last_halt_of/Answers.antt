use Rattle.std.{proofs.Common.{◌≡◌, ◌<◌, ℕ, Option, sym, subst}, specs.Prelude.{IfSome, replicate}}
use Rattle.board_model.specs.Shapes.{Size}
use Rattle.debug_session.specs.{Pasts.singles, declared.halts.Stop.Stop, Backs.{FoundIn, IsRowPast}, Firsts.one_turn}
use Rattle.debug_session.proofs.{Backs.{other_passed, row_past}, Firsts.ok_more}
use Rattle.bench_report.specs.{Bench.Bench, Lives.Shows}
use Rattle.script_lang.specs.declared.line.Line.{Line}
use Rattle.debug_session.proofs.back.last_halt_of.Goals as goal

pub returns-in-Turn-clause-row : goal.returns-in-Turn-clause-row
returns-in-Turn-clause-row g c =
    let line = c.args.line.now in
    let h = c.in-Turn.hart in
    let n = c.in-Turn.count in
    let P : Option (ℕ × Stop) → Type 0 = λ found. IfSome found (λ f. (f.1.hart ≡ h) × (f.0 < n)) in
    let Q : Option (ℕ × Stop) → Type 0 = λ found. IfSome found (IsRowPast line) in
    ok_more c.last_halt_in.result P Q (λ found within. row_past found line h n c.in-Turn.is within) c.last_halt_in.ensures.within

pub returns-in-Turn-clause-found : goal.returns-in-Turn-clause-found
returns-in-Turn-clause-found g c =
    let at = c.args.setting.now.shape.now in
    let stops = c.args.stops.now in
    let was = c.args.bench.now in
    let now = c.last_halt_in.new.bench in
    let P : Option (ℕ × Stop) → Type 0 = λ found. (size : Size) (b : Bench) → Shows size b was → (new : Bench) × FoundIn size stops found (replicate c.in-Turn.count (one_turn c.in-Turn.hart)) b new × Shows size new now in
    let Q : Option (ℕ × Stop) → Type 0 = λ found. (b : Bench) → Shows at b was → (new : Bench) × FoundIn at stops found (singles c.args.line.now) b new × Shows at new now in
    ok_more c.last_halt_in.result P Q (λ found did b shows. (let x = did at b shows in let R : Line → Type 0 = λ line. FoundIn at stops found (singles line) b x.0 in (x.0, subst R (sym c.in-Turn.is) x.1, x.2))) c.last_halt_in.ensures.found

pub returns-in_ok-replay-in_default-clause-found : goal.returns-in_ok-replay-in_default-clause-found
returns-in_ok-replay-in_default-clause-found g c = λ b shows.
    let did = c.in_ok-replay-in_default.ensures.moves b shows in
    (did.1, other_passed c.args.setting.now.shape.now c.args.stops.now c.args.line.now b did.1 c.in_default.not-Turn (did.0, did.2), did.3)

pub last_halt_in-requires-clause-sound : goal.last_halt_in-requires-clause-sound
last_halt_in-requires-clause-sound g c κs within = c.requires.sound

pub replay-requires-clause-sound : goal.replay-requires-clause-sound
replay-requires-clause-sound g c κs within = c.requires.sound

pub replay-requires-clause-range : goal.replay-requires-clause-range
replay-requires-clause-range g c κs within = c.requires.range

pub returns-in-Turn-clause-sound : goal.returns-in-Turn-clause-sound
returns-in-Turn-clause-sound g c = c.last_halt_in.ensures.sound

pub returns-in_ok-replay-in_default-clause-row : goal.returns-in_ok-replay-in_default-clause-row
returns-in_ok-replay-in_default-clause-row g c = tt

pub returns-in_ok-replay-in_default-clause-sound : goal.returns-in_ok-replay-in_default-clause-sound
returns-in_ok-replay-in_default-clause-sound g c = c.in_ok-replay-in_default.ensures.sound
