use Rattle.std.{proofs.Common.{◌≡◌, Some, ap}, specs.Fmt.styled_digits_output}
use Rattle.board_model.{specs.Texts.hex_text, proofs.Padded.padded_zeros}
use Rattle.board_model.proofs.values.ValueDisplay.fmt.Goals as goal

pub returns-clause-writes : goal.returns-clause-writes
returns-clause-writes g c =
    let same : styled_digits_output c.in_radix.result c.laid_out.result ≡ Some (hex_text 16 c.args.self.now.0) =
    rw c.laid_out.ensures (rw c.in_radix.ensures (ap Some (padded_zeros 16 _))) in
    let writes = c.write.ensures.writes in
    rw same at writes
