use Rattle.std.{proofs.Common.{◌≡◌, ◌<◌, [], ◌∷◌, Some, ap, arith}, specs.Fmt.styled_digits_output}
use Rattle.simdisk.specs.declared.fill.Fill.TheVariants.{Byte}
use Rattle.hex.specs.Hex.{encode_lower}
use Rattle.bench_sweep.proofs.Spelled.{padded_byte, fill_part-byte}
use Rattle.bench_sweep.proofs.rows.FillPartDisplay.fmt.Goals as goal

pub returns-in-Some-Byte-clause-writes : goal.returns-in-Some-Byte-clause-writes
returns-in-Some-Byte-clause-writes g c =
    let byte = c.in-Some-Byte.byte in
    let lt : byte < 256 = omega arith in
    let same : styled_digits_output c.in_radix.result c.laid_out.result ≡ Some (encode_lower (byte ∷ [])) =
    rw c.laid_out.ensures (rw c.in_radix.ensures (ap Some (padded_byte byte lt))) in
    let inner : c.in-Some-Byte.field-0 ≡ Byte byte = rw c.in-Some-Byte.is at c.in-Some-Byte.field-0-is in
    let writes = c.write.ensures.writes in
    rw (fill_part-byte c.args.self.now.0 c.in-Some-Byte.field-0 byte c.in-Some-Byte.is inner) (rw same at writes)
