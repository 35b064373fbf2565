use Rattle.std.proofs.{Common.{◌≡◌, ◌*◌, length, arith}, lemmas.Grind.common_steps}
use Rattle.hex.proofs.HexLemmas.{decode_of-ok}
use Rattle.script_lang.proofs.words.bytes.Goals as goal

pub returns-in-Ok-clause-some : goal.returns-in-Ok-clause-some
returns-in-Ok-clause-some c =
    let twice : length c.args.word.now ≡ 2 * length c.in-Ok.items.items = (decode_of-ok _ _ c.in-Ok.ensures.ok).2 in
    rw c.new.ensures (grind (arith, common_steps, twice, c.if-is_empty.ensures))
