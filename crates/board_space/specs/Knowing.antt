-- What one space remembers of the numbers of another one stays right.
use Rattle.std.proofs.Common.{subst, sym}
use Rattle.std.specs.Prelude.{◌≡◌, ℕ, ◌+◌, ◌<◌, List, length, slice_index}
use Rattle.model_board.specs.Boards.{Board, Life, On}
use Rattle.state_space.specs.Systems.{Stay}
use Rattle.board_space.specs.Carried.{Has}
use Rattle.board_space.specs.Settings.{Setting}
use Rattle.board_space.specs.declared.carrying.Numbers.{Numbers}
use Rattle.board_space.specs.declared.carrying.RowMemo.{RowMemo}

-- the rows of two spaces stand for the same boards, one of which is on
pub record AreAlike (from to : List ℕ → Board → Type 0) (row out : List ℕ) (life : Life) : Type 0 where
  pub has : from row (On life)
  pub there : (b : Board) → from row b → to out b
  pub back : (b : Board) → to out b → from row b

-- what is remembered of a number stands where that number does, in rows that are alike: at one of `count` places from one on
abbrev pub KnowsFrom : (List ℕ → Board → Type 0) → (List ℕ → Board → Type 0) → ℕ → ℕ → Numbers → Type 0
KnowsFrom from to first count memo = (n m : ℕ) → Has memo n m → (h : ℕ) × (row : List ℕ) × (out : List ℕ) × (l : Life) × (h < count)
    × (slice_index row (first + h) ≡ n) × (slice_index out (first + h) ≡ m) × AreAlike from to row out l

-- of harts and of segments
pub record Knows (setting : Setting) (from to : List ℕ → Board → Type 0) (memo : RowMemo) : Type 0 where
  pub harts : KnowsFrom from to 1 setting.asked.size.harts memo.harts
  pub words : KnowsFrom from to (1 + setting.asked.size.harts) (length setting.laid.ends) memo.words

alike_later : (a a' b b' : List ℕ → Board → Type 0) (row out : List ℕ) (l : Life) → Stay a a' → Stay b b' → AreAlike a b row out l → AreAlike a' b' row out l
alike_later a a' b b' row out l stays grows is = record {
  has = (stays row (On l) (On l) is.has).0 is.has;
  there = λ c at. (grows out (On l) c (is.there (On l) is.has)).0 (is.there c ((stays row (On l) c is.has).1 at));
  back = λ c at. (stays row (On l) c is.has).0 (is.back c ((grows out (On l) c (is.there (On l) is.has)).1 at));
}

from_later : (a a' b b' : List ℕ → Board → Type 0) (first count : ℕ) (memo : Numbers) → Stay a a' → Stay b b' → KnowsFrom a b first count memo → KnowsFrom a' b' first count memo
from_later a a' b b' first count memo stays grows knows n m has =
    let k = knows n m has in
    (k.0, k.1, k.2, k.3, k.4, k.5, k.6, alike_later a a' b b' k.1 k.2 k.3 stays grows k.7)

pub knows_later : (s t : Setting) (a a' b b' : List ℕ → Board → Type 0) (memo : RowMemo) → t ≡ s → Stay a a' → Stay b b' → Knows s a b memo → Knows t a' b' memo
knows_later s t a a' b b' memo same stays grows knows = subst (λ (u : Setting). Knows u a' b' memo) (sym same) (record {
  harts = from_later a a' b b' 1 s.asked.size.harts memo.harts stays grows knows.harts;
  words = from_later a a' b b' (1 + s.asked.size.harts) (length s.laid.ends) memo.words stays grows knows.words;
})
