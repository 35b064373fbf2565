use Rattle.std.proofs.{Common.{◌≡◌, ◌∙◌, ap, sym, ◌+◌, ◌*◌, ◌<◌, length, get_or, map, arith, rules}, lemmas.Nat.row_fits}
use Rattle.disk.specs.Facts.{LaneFacts, Written, lane_at}
use Rattle.simdisk.{specs.Lanes.lane_view_of, proofs.Rows.{joined_more, at_map}}
use Rattle.simdisk.proofs.lending.lay_row.Goals as goal

pub loop-i-preserved : goal.loop-i-preserved
loop-i-preserved c =
    let lanes = c.args.lanes.now in
    let i = c.loop-i.i in
    let lane = c.index-lanes-i.result in
    let less : i < length lanes = search rules in
    let known : lane ≡ get_or lanes i lane = search rules in
    let at : lane_at (map (lane_view_of c.args.bytes) lanes) i ≡ lane_view_of c.args.bytes lane = at_map (lane_view_of c.args.bytes) lanes i lane less known in
    let here : i < c.args.count = omega (arith, c.requires.count, less) in
    let written : Written (c.args.first + i * c.args.each) (lane_at (map (lane_view_of c.args.bytes) lanes) i).content c.loop-i.content.items c.overwrite.new.content.items =
    rw at (rw (← c.bytes.ensures) c.overwrite.ensures.written) in
    joined_more c.args.first i c.args.each (map (lane_view_of c.args.bytes) lanes) c.args.content.now.items c.loop-i.content.items c.overwrite.new.content.items c.loop-i.invariant (c.requires.each i here) written

pub overwrite-requires : goal.overwrite-requires
overwrite-requires c =
    let lanes = c.args.lanes.now in
    let i = c.loop-i.i in
    let lane = c.index-lanes-i.result in
    let less : i < length lanes = search rules in
    let known : lane ≡ get_or lanes i lane = search rules in
    let at : lane_at (map (lane_view_of c.args.bytes) lanes) i ≡ lane_view_of c.args.bytes lane = at_map (lane_view_of c.args.bytes) lanes i lane less known in
    let here : i < c.args.count = omega (arith, c.requires.count, less) in
    let long : length c.bytes.result.now ≡ c.args.each = ap length c.bytes.ensures ∙ ap (λ (f : LaneFacts). length f.content) (sym at) ∙ c.requires.each i here in
    omega (arith, long, row_fits i c.args.each c.args.count c.args.each here (omega arith), c.requires.within, c.loop-i.invariant.elsewhere.as_long)
