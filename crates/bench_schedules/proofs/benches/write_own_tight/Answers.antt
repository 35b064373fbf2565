use Rattle.std.{proofs.Common.{◌∙◌, ◌++◌, Bool, [], if◌then◌else◌, sym, subst}, specs.Io.KnownBytes.Appends}
use Rattle.board_model.proofs.Written.{unwritten}
use Rattle.bench_schedules.{proofs.Ledgers.tight_more, specs.Schedules.tight_text}
use Rattle.bench_schedules.proofs.benches.write_own_tight.Goals as goal

pub returns-then-not-writes_tight : goal.returns-then-not-writes_tight
returns-then-not-writes_tight g c = record {
  ok = (
      let P : Bool → Type 0 = λ (some : Bool). Appends (g.W.Write.contents c.args.out.now) (g.W.Write.contents c.args.out.now) (tight_text (if some then [] else [])) in
      ([], subst P (sym c.if-not-writes_tight.true ∙ c.writes_tight.ensures) (unwritten _)));
}

pub loop-place-init : goal.loop-place-init
loop-place-init g c = ([], unwritten _)

pub loop-place-preserved : goal.loop-place-preserved
loop-place-preserved g c =
    let so_far = c.loop-place.invariant in
    let more = c.in_ok-write_one_tight.ensures.ok in
    (so_far.0 ++ more.0, tight_more _ _ _ so_far.0 more.0 so_far.1 more.1)

pub returns : goal.returns
returns g c = record {
  ok = (
      let did = c.loop-place.invariant in
      let P : Bool → Type 0 = λ (some : Bool). Appends (g.W.Write.contents c.args.out.now) (g.W.Write.contents c.loop-place.out) (tight_text (if some then did.0 else [])) in
      (did.0, subst P (sym c.if-not-writes_tight.false ∙ c.writes_tight.ensures) did.1));
}
