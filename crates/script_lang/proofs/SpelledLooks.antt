-- Each line that shows memory or harts is read from its spelling.
use Rattle.std.proofs.{Common.{◌≡◌, ℕ, ◌+◌, ◌^◌, ◌<◌, true, nat_le, ◌&&◌, Some, refl, arith}, lemmas.Bool.Decides.nat_tests}
use Rattle.board_model.specs.Shapes.{Size, IsSize, ram_bytes_of}
use Rattle.script_lang.{specs.Lines.line_of, proofs.Numerals.{IsWord-decimal, number_of-decimal, ranged-decimal}}
use Rattle.script_lang.{proofs.Spells.{SpellsLine, short}, specs.declared.looks.Look.{Look, TheVariants.{Reg, Pc, Csr, Pending, Mem}}}
use Rattle.script_lang.specs.Looks.{look_spelling, is_csr, IsCsr, IsLookInRange}
use Rattle.script_lang.specs.declared.line.Line.TheVariants as lines

csr_test : (n : ℕ) → IsCsr n → is_csr n ≡ true
csr_test n h = grind (arith, nat_tests, h)

-- a line is read from the words of its spelling
pub line_of-look : (size : Size) (look : Look) → IsSize size → IsLookInRange size look → Unit {0} → line_of size (look_spelling look) ≡ Some (lines.Show look)
line_of-look size (Reg hart register) z r f = rw (ranged-decimal 0 size.harts hart (omega arith) r.0 (omega arith), ranged-decimal 0 32 register (omega arith) (omega arith) (omega arith))
line_of-look size (Pc hart) z r f = rw (ranged-decimal 0 size.harts hart (omega arith) r (omega arith))
line_of-look size (Csr hart csr) z r f =
    let small : csr < 2 ^ 64 = omega (arith, r.1) in
    rw (ranged-decimal 0 size.harts hart (omega arith) r.0 (omega arith), number_of-decimal csr small, csr_test csr r.1)
line_of-look size Pending z r f = refl
line_of-look size (Mem address count) z r f =
    let t : (nat_le 0x80000000 address && nat_le (address + count) (0x80000000 + ram_bytes_of size)) ≡ true = grind (arith, nat_tests, r.2, r.3) in
    rw (number_of-decimal address (omega arith), ranged-decimal 1 65 count r.0 (omega arith) (omega arith), t)

pub SpellsLine-look : (size : Size) (look : Look) → IsSize size → IsLookInRange size look → Unit {0} → SpellsLine (look_spelling look)
SpellsLine-look size (Reg hart register) z r f = record { are = (refl, (IsWord-decimal hart (omega arith), (IsWord-decimal register (omega arith), tt))); begins = refl; room = omega (arith, short hart (omega arith), short register (omega arith)) }
SpellsLine-look size (Pc hart) z r f = record { are = (refl, (IsWord-decimal hart (omega arith), tt)); begins = refl; room = omega (arith, short hart (omega arith)) }
SpellsLine-look size (Csr hart csr) z r f = record { are = (refl, (IsWord-decimal hart (omega arith), (IsWord-decimal csr (omega (arith, r.1)), tt))); begins = refl; room = omega (arith, short hart (omega arith), short csr (omega (arith, r.1))) }
SpellsLine-look size Pending z r f = record { are = (refl, tt); begins = refl; room = omega arith }
SpellsLine-look size (Mem address count) z r f = record { are = (refl, (IsWord-decimal address (omega arith), (IsWord-decimal count (omega arith), tt))); begins = refl; room = omega (arith, short address (omega arith), short count (omega arith)) }
