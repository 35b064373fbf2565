use Rattle.std.proofs.Common.{◌∙◌, length, sym, ap, arith, length-drop}
use Rattle.byteorder.specs.Endian.{little_number}
use Rattle.elf_image.proofs.Numbers.{number_at-none, number_at-some}
use Rattle.elf_image.proofs.fields.u16_at.Goals as goal

pub returns-then-rest-lt2 : goal.returns-then-rest-lt2
returns-then-rest-lt2 c = sym (number_at-none 2 c.args.place c.args.bytes.now (omega (arith, c.if-rest-lt2.true, ap length c.rest_at-rest.ensures, length-drop c.args.place c.args.bytes.now)))

pub returns : goal.returns
returns c =
    c.read_u16.ensures ∙ ap (little_number 2) c.rest_at-rest.ensures
    ∙ sym (number_at-some 2 c.args.place c.args.bytes.now (omega (arith, c.if-rest-lt2.false, ap length c.rest_at-rest.ensures, length-drop c.args.place c.args.bytes.now)))
