use Rattle.std.{proofs.Common.{◌∙◌, List, ℕ, OnOk, Bor, ap, map, subst}, specs.Io.KnownBytes.Appends}
use Rattle.bench_program.specs.Taps.{tap_lines}
use Rattle.bench_program.proofs.taps.write_tap.Goals as goal

pub returns : goal.returns
returns g c = record {
  ok = (
      let P : List (List ℕ) → Type 0 = λ ls. OnOk c.write_lines.result (Appends (g.W.Write.contents c.args.out.now) (g.W.Write.contents c.write_lines.new.out) (tap_lines c.args.well c.args.shown ls)) in
      subst P (ap (λ (ls : List (Bor (List ℕ))). map (λ w. w.now) ls) c.deref.ensures.value ∙ c.in_ok-lines.ensures) c.write_lines.ensures.ok);
}
