use Rattle.std.proofs.Common.{Some, refl}
use Rattle.bench_sweep.proofs.Turned.{line_off, line_on, still_on}
use Rattle.bench_sweep.proofs.site.Going.harts.Goals as goal

pub run_in_place-requires-clause-of_harts : goal.run_in_place-requires-clause-of_harts
run_in_place-requires-clause-of_harts g c κs within = c.requires.of_harts

pub run_in_place-requires-clause-range : goal.run_in_place-requires-clause-range
run_in_place-requires-clause-range g c κs within = c.requires.range

pub returns-in_default : goal.returns-in_default
returns-in_default g c = record { runs = λ b r. line_off c.args.setting.now.shape.now c.args.line.now b c.args.self.now c.requires.of_harts c.in_default.not-On r }

pub returns-in-Some : goal.returns-in-Some
returns-in-Some g c = record {
  runs = λ b r.
      (let size = c.args.setting.now.shape.now in
      let new = c.run_in_place.new in
      line_on size c.args.line.now b c.in-On.board new.board c.in_ok-word.field-0 (Some c.in-Some.word) c.args.self.now _ c.requires.of_harts c.run_in_place.ensures.resumed c.end.ensures.payloads c.in-On.is c.in-Some.is
      (λ n at. c.end.ensures.after size n at) (λ x at follows. c.in_ok-word.ensures.goes size x at follows) r);
}

pub returns-in_default-2 : goal.returns-in_default-2
returns-in_default-2 g c = record {
  runs = λ b r.
      (let size = c.args.setting.now.shape.now in
      let new = c.run_in_place.new in
      let said = c.in_ok-word.field-0 in
      line_on size c.args.line.now b c.in-On.board new.board said said c.args.self.now _ c.requires.of_harts c.run_in_place.ensures.resumed refl c.in-On.is refl
      (still_on size said new.board c.in_default-2.not-Some) (λ x at follows. c.in_ok-word.ensures.goes size x at follows) r);
}
