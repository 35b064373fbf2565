-- Each line that arms a fault is read from its spelling.
use Rattle.std.proofs.Common.{◌≡◌, Some, refl, arith}
use Rattle.board_model.specs.Shapes.{Size, IsSize}
use Rattle.script_lang.{specs.Lines.line_of, proofs.Numerals.{IsWord-decimal, IsWord-fill, ranged-decimal, fill_of-text}}
use Rattle.script_lang.{proofs.Spells.{SpellsLine, short, fill_short}, specs.declared.armings.Arming.Arming}
use Rattle.script_lang.specs.declared.armings.Arming.TheVariants.{CutAt, CutLane, FailAt, FailLane}
use Rattle.script_lang.specs.Armings.{arming_spelling, IsArmingInRange, FitsArming}
use Rattle.script_lang.specs.declared.line.Line.TheVariants as lines

-- a line is read from the words of its spelling
pub line_of-arming : (size : Size) (arming : Arming) → IsSize size → IsArmingInRange size arming → FitsArming arming → line_of size (arming_spelling arming) ≡ Some (lines.Arm arming)
line_of-arming size (CutAt calls fill) z r f = rw (ranged-decimal 1 1000001 calls r.0 (omega arith) (omega arith), fill_of-text fill f)
line_of-arming size (CutLane lane calls fill) z r f = rw (ranged-decimal 0 size.lanes lane (omega arith) r.0 (omega arith), ranged-decimal 1 1000001 calls r.1.0 (omega arith) (omega arith), fill_of-text fill f)
line_of-arming size (FailAt calls) z r f = rw (ranged-decimal 1 1000001 calls r.0 (omega arith) (omega arith))
line_of-arming size (FailLane lane calls) z r f = rw (ranged-decimal 0 size.lanes lane (omega arith) r.0 (omega arith), ranged-decimal 1 1000001 calls r.1.0 (omega arith) (omega arith))

pub SpellsLine-arming : (size : Size) (arming : Arming) → IsSize size → IsArmingInRange size arming → FitsArming arming → SpellsLine (arming_spelling arming)
SpellsLine-arming size (CutAt calls fill) z r f = record { are = (refl, (IsWord-decimal calls (omega arith), (IsWord-fill fill f, tt))); begins = refl; room = omega (arith, short calls (omega arith), fill_short fill) }
SpellsLine-arming size (CutLane lane calls fill) z r f = record { are = (refl, (IsWord-decimal lane (omega arith), (IsWord-decimal calls (omega arith), (IsWord-fill fill f, tt)))); begins = refl; room = omega (arith, short lane (omega arith), short calls (omega arith), fill_short fill) }
SpellsLine-arming size (FailAt calls) z r f = record { are = (refl, (IsWord-decimal calls (omega arith), tt)); begins = refl; room = omega (arith, short calls (omega arith)) }
SpellsLine-arming size (FailLane lane calls) z r f = record { are = (refl, (IsWord-decimal lane (omega arith), (IsWord-decimal calls (omega arith), tt))); begins = refl; room = omega (arith, short lane (omega arith), short calls (omega arith)) }
