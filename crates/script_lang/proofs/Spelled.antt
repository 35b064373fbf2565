-- Each line in its ranges is read from its spelling.
use Rattle.std.proofs.Common.{◌≡◌, ℕ, ◌+◌, ◌^◌, ◌<◌, ◌==◌, true, false, nat_le, List, [], ◌∷◌, length, Some, ◌∙◌, refl, arith}
use Rattle.std.{proofs.lemmas.{Bool.Decides.nat_tests, Fmt.decimal_is_IsNumeral, Str.Parse.digit_from_value}, specs.Fmt.decimal}
use Rattle.std.specs.Str.{bytes_eq, Parse.AllDigits}
use Rattle.hex.{specs.Hex.lower_digits, proofs.HexLemmas.length-encode_with}
use Rattle.board_model.specs.Shapes.{Size, IsSize, sectors_of}
use Rattle.board_model.specs.declared.boot_mode.BootMode.TheVariants as modes
use Rattle.script_lang.specs.{Words.{words_of, number_of}, Lines.{line_of, extension_of, spelling_of, text_of, FitsLine, IsLineInRange}}
use Rattle.script_lang.{specs.declared.line.Line.Line, proofs.Spells.{SpellsLine, short, fill_short, join_back}}
use Rattle.script_lang.specs.declared.line.Line.TheVariants.{Payload, Format, On, Command, Turn, Call, Show, Arm, Cut, Poke, Inspect, Wake}
use Rattle.script_lang.proofs.Numerals.{IsWord-decimal, IsWord-encode, IsWord-fill, number_of-decimal, ranged-decimal, hex_of-encode, fill_of-text}
use Rattle.script_lang.proofs.{SpelledCommands.{line_of-command, SpellsLine-command}, SpelledLooks.{line_of-look, SpellsLine-look}}
use Rattle.script_lang.proofs.SpelledArmings.{line_of-arming, SpellsLine-arming}
use lib.Chars.{codes}

differs : (c : ℕ) (cs : List ℕ) (x : ℕ) (xs : List ℕ) → (c == x) ≡ false → bytes_eq (c ∷ cs) (x ∷ xs) ≡ false
differs c cs x xs e = rw e refl

-- digits are no name of an extension
extension_digits : (ds : List ℕ) → AllDigits 10 ds → 0 < length ds → extension_of ds ≡ number_of ds
extension_digits [] h some = absurd (omega arith)
extension_digits (c ∷ cs) h some =
    let d = digit_from_value c h.0 in
    let b = differs c cs 98 (codes "ase") (grind (arith, nat_tests, d)) in
    let m = differs c cs 104 (codes "sm") (grind (arith, nat_tests, d)) in
    let i = differs c cs 105 (codes "pi") (grind (arith, nat_tests, d)) in
    let r = differs c cs 115 (codes "rst") (grind (arith, nat_tests, d)) in
    let u = differs c cs 115 (codes "usp") (grind (arith, nat_tests, d)) in
    rw (b, m, i, r, u)

extension_of-decimal : (n : ℕ) → n < 2 ^ 64 → extension_of (decimal n) ≡ Some n
extension_of-decimal n h = let is = (decimal_is_IsNumeral n h).0 in extension_digits (decimal n) is.1 is.0 ∙ number_of-decimal n h

-- a line is read from the words of its spelling
line_of-spelling : (size : Size) (line : Line) → IsSize size → IsLineInRange size line → FitsLine line → line_of size (spelling_of line) ≡ Some line
line_of-spelling size (Payload slot bytes) z r f = let t : nat_le (length bytes) 1024 ≡ true = grind (arith, nat_tests, r.2) in rw (ranged-decimal 0 4 slot (omega arith) (omega arith) (omega arith), hex_of-encode bytes f r.1, t)
line_of-spelling size Format z r f = refl
line_of-spelling size (On modes.Fresh) z r f = refl
line_of-spelling size (On modes.Keep) z r f = refl
line_of-spelling size (On modes.Discard) z r f = refl
line_of-spelling size (On modes.Resume) z r f = refl
line_of-spelling size (Turn hart turns) z r f = rw (ranged-decimal 0 size.harts hart (omega arith) r.0 (omega arith), ranged-decimal 1 1000001 turns r.1.0 (omega arith) (omega arith))
line_of-spelling size (Call hart words) z r f =
    rw (ranged-decimal 0 size.harts hart (omega arith) r (omega arith), extension_of-decimal words.eid f.0, number_of-decimal words.fid f.1, number_of-decimal words.a0 f.2, number_of-decimal words.a1 f.3, number_of-decimal words.a2 f.4)
line_of-spelling size (Cut fill) z r f = rw (fill_of-text fill f)
line_of-spelling size (Poke sector offset bytes) z r f =
    let t : nat_le (offset + length bytes) 512 ≡ true = grind (arith, nat_tests, r.2) in
    rw (ranged-decimal 0 (sectors_of size) sector (omega arith) r.0 (omega arith), ranged-decimal 0 512 offset (omega arith) (omega arith) (omega arith), hex_of-encode bytes f.1 r.1, t)
line_of-spelling size Inspect z r f = refl
line_of-spelling size Wake z r f = refl
line_of-spelling size (Command command) z r f = line_of-command size command z r tt
line_of-spelling size (Show look) z r f = line_of-look size look z r tt
line_of-spelling size (Arm arming) z r f = line_of-arming size arming z r f

pub SpellsLine-spelling : (size : Size) (line : Line) → IsSize size → IsLineInRange size line → FitsLine line → SpellsLine (spelling_of line)
SpellsLine-spelling size (Payload slot bytes) z r f = record { are = (refl, (IsWord-decimal slot (omega arith), (IsWord-encode bytes f, tt))); begins = refl; room = omega (arith, short slot (omega arith), length-encode_with lower_digits bytes) }
SpellsLine-spelling size Format z r f = record { are = (refl, tt); begins = refl; room = omega arith }
SpellsLine-spelling size (On modes.Fresh) z r f = record { are = (refl, (refl, tt)); begins = refl; room = omega arith }
SpellsLine-spelling size (On modes.Keep) z r f = record { are = (refl, (refl, tt)); begins = refl; room = omega arith }
SpellsLine-spelling size (On modes.Discard) z r f = record { are = (refl, (refl, tt)); begins = refl; room = omega arith }
SpellsLine-spelling size (On modes.Resume) z r f = record { are = (refl, (refl, tt)); begins = refl; room = omega arith }
SpellsLine-spelling size (Turn hart turns) z r f = record { are = (refl, (IsWord-decimal hart (omega arith), (IsWord-decimal turns (omega arith), tt))); begins = refl; room = omega (arith, short hart (omega arith), short turns (omega arith)) }
SpellsLine-spelling size (Call hart words) z r f = record { are = (refl, (IsWord-decimal hart (omega arith), (IsWord-decimal words.eid f.0, (IsWord-decimal words.fid f.1, (IsWord-decimal words.a0 f.2, (IsWord-decimal words.a1 f.3, (IsWord-decimal words.a2 f.4, tt))))))); begins = refl; room = omega (arith, short hart (omega arith), short words.eid f.0, short words.fid f.1, short words.a0 f.2, short words.a1 f.3, short words.a2 f.4) }
SpellsLine-spelling size (Cut fill) z r f = record { are = (refl, (IsWord-fill fill f, tt)); begins = refl; room = omega (arith, fill_short fill) }
SpellsLine-spelling size (Poke sector offset bytes) z r f = record { are = (refl, (IsWord-decimal sector (omega arith), (IsWord-decimal offset (omega arith), (IsWord-encode bytes f.1, tt)))); begins = refl; room = omega (arith, short sector (omega arith), short offset (omega arith), length-encode_with lower_digits bytes) }
SpellsLine-spelling size Inspect z r f = record { are = (refl, tt); begins = refl; room = omega arith }
SpellsLine-spelling size Wake z r f = record { are = (refl, tt); begins = refl; room = omega arith }
SpellsLine-spelling size (Command command) z r f = SpellsLine-command size command z r tt
SpellsLine-spelling size (Show look) z r f = SpellsLine-look size look z r tt
SpellsLine-spelling size (Arm arming) z r f = SpellsLine-arming size arming z r f

-- a line is read from its text
pub line_of-text : (size : Size) (line : Line) → IsSize size → IsLineInRange size line → FitsLine line → line_of size (words_of (text_of line)) ≡ Some line
line_of-text size line z r f =
    let spells = SpellsLine-spelling size line z r f in
    rw (join_back (spelling_of line) spells.begins spells.are) (line_of-spelling size line z r f)
