use Rattle.std.proofs.Common.{◌≡◌, ◌∙◌, ◌++◌, ◌∷◌, List, [], length, map, vec_len, refl, sym, ap, arith}
use Rattle.std.proofs.lemmas.Result.{err_from_is_err_and}
use Rattle.tallies.specs.{Books.fresh_from, declared.book_views.PartView.PartView}
use Rattle.hart_threads.specs.{declared.{bus_turns.BusTurn.BusTurn, shared.HartParts.HartParts}, Views.{bus_parts, parts_with}}
use Rattle.hart_threads.proofs.{Numbered.{all_runs, one_run_off, run_left}, UntoldParts.{all_nil, all_pushed, all_off, one_more_off}}
use Rattle.hart_threads.proofs.unshared.Unshared.hand_out_all.Goals as goal

pub returns-in_err-parts-clause-store : goal.returns-in_err-parts-clause-store
returns-in_err-parts-clause-store g c = refl

pub returns-in_err-parts-clause-fresh : goal.returns-in_err-parts-clause-fresh
returns-in_err-parts-clause-fresh g c = c.requires.fresh

pub returns-in_err-parts-clause-count : goal.returns-in_err-parts-clause-count
returns-in_err-parts-clause-count g c = rw (err_from_is_err_and c.from_residual.result c.from_residual.ensures.1).1 tt

pub returns-in_err-parts-clause-told : goal.returns-in_err-parts-clause-told
returns-in_err-parts-clause-told g c = rw (err_from_is_err_and c.from_residual.result c.from_residual.ensures.1).1 tt

pub returns-in_err-parts-clause-rest : goal.returns-in_err-parts-clause-rest
returns-in_err-parts-clause-rest g c = rw (err_from_is_err_and c.from_residual.result c.from_residual.ensures.1).1 tt

pub returns-in_err-parts-clause-none : goal.returns-in_err-parts-clause-none
returns-in_err-parts-clause-none g c = rw (err_from_is_err_and c.from_residual.result c.from_residual.ensures.1).1 refl

pub loop-made-init : goal.loop-made-init
loop-made-init g c = record {
  store = refl;
  moments = refl;
  fresh = c.requires.fresh;
  told = all_nil (λ (d : HartParts _). d.receipts.told ≡ []) c.in_ok-parts.parts.items c.in_ok-parts.ensures.items;
  bus = refl;
  runs = ap (λ (ps : List (HartParts _)). map (λ d. d.run) ps ++ bus_parts c.args.bus.now) c.in_ok-parts.ensures.items ∙ c.requires.bus;
  off = omega (arith, c.in_ok-parts.ensures.len);
  made = c.in_ok-parts.ensures.len;
  room = c.in_ok-parts.ensures.exact;
}

pub push_reserved-requires : goal.push_reserved-requires
push_reserved-requires g c = omega (arith, c.loop-made.invariant.made, c.loop-made.invariant.room, c.loop-made-test.true)

pub loop-made-smaller : goal.loop-made-smaller
loop-made-smaller g c = omega (arith, c.loop-made-test.true)

pub loop-made-preserved : goal.loop-made-preserved
loop-made-preserved g c =
    let was = c.loop-made.invariant in
    record {
      store = c.hand_out-part.ensures.store ∙ was.store;
      moments = c.hand_out-part.ensures.moments ∙ was.moments;
      fresh = c.hand_out-part.ensures.fresh;
      told = all_pushed (λ (d : HartParts _). d.receipts.told ≡ []) c.loop-made.parts.items c.push_reserved.new.self.items (record { receipts = c.hand_out-part.result; run = c.hand_out-run.result }) c.push_reserved.ensures.items was.told c.hand_out-part.ensures.told;
      bus = c.hand_out-run.ensures.bus ∙ was.bus;
      runs =
          let some = run_left (λ (d : HartParts _). d.run) c.loop-made.parts.items (bus_parts c.loop-made.bus) c.args.count c.loop-made.made was.runs (sym c.loop-made.parts.ok.0 ∙ was.made) c.loop-made-test.true in
          let off = one_run_off (λ (d : HartParts _). d.run) c.loop-made.parts.items (record { receipts = c.hand_out-part.result; run = c.hand_out-run.result }) (bus_parts c.loop-made.bus) (fresh_from 2 c.args.count) was.runs some c.hand_out-run.ensures.part in
          ap (λ (ps : List (HartParts _)). map (λ d. d.run) ps ++ bus_parts c.hand_out-run.new.self) c.push_reserved.ensures.items
          ∙ ap (λ (ds : List (PartView BusTurn)). map (λ (d : HartParts _). d.run) (c.loop-made.parts.items ++ (record { receipts = c.hand_out-part.result; run = c.hand_out-run.result }) ∷ []) ++ ds) c.hand_out-run.ensures.parts ∙ off;
      off = one_more_off (length (parts_with c.loop-made.self)) (vec_len c.loop-made.parts) (vec_len c.push_reserved.new.self) (length (parts_with c.hand_out-part.new.self)) (length (parts_with c.args.self.now)) was.off c.hand_out-part.ensures.rest c.push_reserved.ensures.len;
      made = omega (arith, c.push_reserved.ensures.len, was.made);
      room = c.push_reserved.ensures.capacity ∙ was.room;
    }

pub returns-clause-store : goal.returns-clause-store
returns-clause-store g c = c.loop-made.invariant.store

pub returns-clause-fresh : goal.returns-clause-fresh
returns-clause-fresh g c = c.loop-made.invariant.fresh

pub returns-clause-count : goal.returns-clause-count
returns-clause-count g c = all_off (vec_len c.loop-made.parts) c.loop-made.made c.args.count c.loop-made.invariant.made c.loop-made-test.false c.loop-made.auto.made-end

pub returns-clause-told : goal.returns-clause-told
returns-clause-told g c = c.loop-made.invariant.told

pub returns-clause-rest : goal.returns-clause-rest
returns-clause-rest g c = omega (arith, c.loop-made.invariant.off, c.loop-made.invariant.made, c.loop-made-test.false, c.loop-made.auto.made-end)

pub returns-clause-moments : goal.returns-clause-moments
returns-clause-moments g c = c.loop-made.invariant.moments

pub returns-in_err-parts-clause-moments : goal.returns-in_err-parts-clause-moments
returns-in_err-parts-clause-moments g c = refl

pub hand_out-run-requires : goal.hand_out-run-requires
hand_out-run-requires g c =
    let was = c.loop-made.invariant in
    record { some = run_left (λ (d : HartParts _). d.run) c.loop-made.parts.items (bus_parts c.loop-made.bus) c.args.count c.loop-made.made was.runs (sym c.loop-made.parts.ok.0 ∙ was.made) c.loop-made-test.true }

pub returns-clause-runs : goal.returns-clause-runs
returns-clause-runs g c =
    let was = c.loop-made.invariant in
    let all : vec_len c.loop-made.parts ≡ c.args.count = all_off (vec_len c.loop-made.parts) c.loop-made.made c.args.count was.made c.loop-made-test.false c.loop-made.auto.made-end in
    all_runs (λ (d : HartParts _). d.run) c.loop-made.parts.items (bus_parts c.loop-made.bus) c.args.count was.runs (sym c.loop-made.parts.ok.0 ∙ all)

pub returns-clause-bus : goal.returns-clause-bus
returns-clause-bus g c = c.loop-made.invariant.bus

pub returns-in_err-parts-clause-bus : goal.returns-in_err-parts-clause-bus
returns-in_err-parts-clause-bus g c = refl

pub returns-in_err-parts-clause-runs : goal.returns-in_err-parts-clause-runs
returns-in_err-parts-clause-runs g c = rw (err_from_is_err_and c.from_residual.result c.from_residual.ensures.1).1 tt
