-- A script is read from its text.
use Rattle.std.proofs.Common.{◌≡◌, ℕ, ◌+◌, ◌-◌, ◌<◌, ◌≤◌, ◌==◌, true, false, List, [], ◌∷◌, ◌++◌, length, map, slice_index_or, Ok, All, ap, ◌∙◌, refl, arith, lit<}
use Rattle.std.{proofs.lemmas.{Bool.Decides.nat_tests, List.Elements.{All-cons, All-head, All-nil, All-tail}}, specs.Fmt.decimal}
use Rattle.std.specs.List.{join_with_byte}
use Rattle.board_model.specs.Shapes.{Size, IsSize}
use Rattle.script_lang.specs.{Words.words_of, Lines.{spelling_of, text_of, FitsLine, IsLineInRange}, declared.line.Line.Line}
use Rattle.script_lang.specs.Scripts.{Script, is_sound, is_passed, is_size, whole_lines, lines_of, board_of, said_of, rest_of, lines_from, script_of}
use Rattle.script_lang.{specs.Spellings.{board_text, script_text, IsWritable}, proofs.Spelled.{SpellsLine-spelling, line_of-text}}
use Rattle.script_lang.proofs.Numerals.{AreWords, AreFree, IsWord-free, slice_split-join, words_of-join, IsWord-decimal, number_of-decimal}
use Rattle.script_lang.proofs.Spells.{short, text_short, text_not_passed, text_filled}
use lib.Chars.{codes}

abbrev IsNoFeed : ℕ → Type 0
IsNoFeed b = (b == 10) ≡ false

-- ---- a line's text holds no line feed

join_two : (w rest : List ℕ) → All IsNoFeed w → All IsNoFeed rest → All IsNoFeed (w ++ 32 ∷ rest)
join_two [] rest h k = All-cons IsNoFeed 32 rest refl k
join_two (b ∷ bs) rest h k = All-cons IsNoFeed b (bs ++ 32 ∷ rest) (All-head IsNoFeed b bs h) (join_two bs rest (All-tail IsNoFeed b bs h) k)

no_feed : (words : List (List ℕ)) → AreWords words → All IsNoFeed (join_with_byte 32 words)
no_feed [] h = All-nil IsNoFeed
no_feed (w ∷ []) h = IsWord-free 10 w (lit< tt) h.0
no_feed (w ∷ v ∷ ws) h = join_two w (join_with_byte 32 (v ∷ ws)) (IsWord-free 10 w (lit< tt) h.0) (no_feed (v ∷ ws) h.1)

-- ---- the lines after the board line

said_back : (size : Size) (n : ℕ) (line : Line) → IsSize size → IsLineInRange size line → FitsLine line → n ≤ 65536 → said_of size n (text_of line) ≡ Ok (line ∷ [])
said_back size n line z r f few =
    let spells = SpellsLine-spelling size line z r f in
    let fits = text_short (spelling_of line) 4096 spells.room in
    let s : is_sound n (text_of line) ≡ true = grind (arith, nat_tests, few, fits) in
    rw (s, text_not_passed (spelling_of line) spells.begins, line_of-text size line z r f)

rest_back : (size : Size) (n : ℕ) (lines : List Line) → IsSize size → All (IsLineInRange size) lines → All FitsLine lines → n + length lines ≤ 65537 → rest_of size n (map text_of lines) ≡ Ok lines
unfolding rest_of
rest_back size n [] z r f few = refl
rest_back size n (line ∷ more) z r f few =
    let one = said_back size n line z (All-head (IsLineInRange size) line more r) (All-head FitsLine line more f) (omega arith) in
    let others = rest_back size (n + 1) more z (All-tail (IsLineInRange size) line more r) (All-tail FitsLine line more f) (omega arith) in
    rw (one, others)

-- ---- the board line

board_words : (size : Size) → IsSize size → AreWords (codes "board" ∷ decimal size.harts ∷ decimal size.pages ∷ decimal size.lanes ∷ [])
board_words size z = (refl, (IsWord-decimal size.harts (omega arith), (IsWord-decimal size.pages (omega arith), (IsWord-decimal size.lanes (omega arith), tt))))

size_test : (size : Size) → IsSize size → is_size size.harts size.pages size.lanes ≡ true
size_test size z = grind (arith, nat_tests, z)

board_read : (size : Size) (n : ℕ) → IsSize size → board_of n (codes "board" ∷ decimal size.harts ∷ decimal size.pages ∷ decimal size.lanes ∷ []) ≡ Ok size
board_read size n z = rw (number_of-decimal size.harts (omega arith), number_of-decimal size.pages (omega arith), number_of-decimal size.lanes (omega arith), size_test size z)

board_back : (size : Size) (n : ℕ) → IsSize size → board_of n (words_of (board_text size)) ≡ Ok size
board_back size n z =
    let words = words_of-join (codes "board") (decimal size.harts ∷ decimal size.pages ∷ decimal size.lanes ∷ []) (board_words size z) in
    ap (board_of n) words ∙ board_read size n z

board_sound : (size : Size) → IsSize size → is_sound 1 (board_text size) ≡ true
board_sound size z =
    let fits : length (board_text size) ≤ 4096 = omega (arith, text_short (codes "board" ∷ decimal size.harts ∷ decimal size.pages ∷ decimal size.lanes ∷ []) 4096 (omega (arith, short size.harts (omega arith), short size.pages (omega arith), short size.lanes (omega arith))), short size.harts (omega arith), short size.pages (omega arith), short size.lanes (omega arith)) in
    grind (arith, nat_tests, fits)

-- ---- the lines of a text

texts_free : (size : Size) (lines : List Line) → IsSize size → All (IsLineInRange size) lines → All FitsLine lines → AreFree 10 (map text_of lines)
texts_free size [] z r f = tt
texts_free size (line ∷ more) z r f =
    let one = SpellsLine-spelling size line z (All-head (IsLineInRange size) line more r) (All-head FitsLine line more f) in
    (no_feed (spelling_of line) one.are, texts_free size more z (All-tail (IsLineInRange size) line more r) (All-tail FitsLine line more f))

abbrev IsFilled : List ℕ → Type 0
IsFilled text = 0 < length text

texts_filled : (size : Size) (lines : List Line) → IsSize size → All (IsLineInRange size) lines → All FitsLine lines → All IsFilled (map text_of lines)
texts_filled size [] z r f = All-nil IsFilled
texts_filled size (line ∷ more) z r f =
    let one = SpellsLine-spelling size line z (All-head (IsLineInRange size) line more r) (All-head FitsLine line more f) in
    All-cons IsFilled (text_of line) (map text_of more) (text_filled (spelling_of line) one.begins) (texts_filled size more z (All-tail (IsLineInRange size) line more r) (All-tail FitsLine line more f))

whole : (parts : List (List ℕ)) → 0 < length parts → All IsFilled parts → whole_lines parts ≡ parts
whole parts some filled =
    let last : 0 < length (slice_index_or parts (length parts - 1) []) = filled (length parts - 1) [] (omega arith) in
    let e : (length (slice_index_or parts (length parts - 1) []) == 0) ≡ false = grind (arith, nat_tests, last) in
    rw e refl

lines_back : (script : Script) → IsWritable script → lines_of (script_text script) ≡ board_text script.size ∷ map text_of script.lines
lines_back script h =
    let free : AreFree 10 (board_text script.size ∷ map text_of script.lines) = (no_feed (codes "board" ∷ decimal script.size.harts ∷ decimal script.size.pages ∷ decimal script.size.lanes ∷ []) (board_words script.size h.size), texts_free script.size script.lines h.size h.ranges h.fits) in
    rw (slice_split-join 10 (board_text script.size) (map text_of script.lines) free)
    (whole (board_text script.size ∷ map text_of script.lines) (omega arith) (All-cons IsFilled (board_text script.size) (map text_of script.lines) (omega arith) (texts_filled script.size script.lines h.size h.ranges h.fits)))

-- a script is read from its text
pub script_of-text : (script : Script) → IsWritable script → script_of (script_text script) ≡ Ok script
unfolding lines_from
script_of-text script h =
    let begins : is_passed (board_text script.size) ≡ false = text_not_passed (codes "board" ∷ decimal script.size.harts ∷ decimal script.size.pages ∷ decimal script.size.lanes ∷ []) refl in
    rw (lines_back script h, board_sound script.size h.size, begins, board_back script.size 1 h.size, rest_back script.size 2 script.lines h.size h.ranges h.fits (omega (arith, h.few)))
