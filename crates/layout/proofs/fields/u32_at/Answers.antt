use Rattle.std.proofs.{Common.{◌∙◌, ◌≤◌, ◌-◌, length, ap, drop, arith, length-drop}, lemmas.List.take_all}
use Rattle.byteorder.specs.Endian.{little_number}
use Rattle.layout.specs.Fields.{number_at}
use Rattle.layout.proofs.fields.u32_at.Goals as goal

pub returns : goal.returns
unfolding number_at
returns c =
    let long : length (drop c.args.place c.args.sector.now) ≤ 512 - c.args.place = omega (arith, c.told-sector, length-drop c.args.place c.args.sector.now) in
    c.read_u32.ensures ∙ ap (little_number 4) (take_all (512 - c.args.place) (drop c.args.place c.args.sector.now) long)
