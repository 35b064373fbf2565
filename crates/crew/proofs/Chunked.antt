-- Chunks of a window, one after another, are the window.
use Rattle.std.proofs.Common.{◌≡◌, ◌≤◌, ◌<◌, ◌⊎◌, ◌+◌, ◌-◌, ◌*◌, ◌/◌, ◌%◌, ℕ, Bool, true, List, [], ◌∷◌, ◌++◌, length, min, inl, inr, refl, ◌∙◌, ap, subst, arith}
use Rattle.std.proofs.lemmas.{List.length-append, Bool.cases_lt, Grind.div_ceil_times}
use Rattle.crew.{specs.Handed.{AreRows, TakesAll, IsChunk, Handed}, proofs.HandedOn.{taken_both, rows_both}}

pub chunks_cover : (n each : ℕ) → 0 < each → n ≤ (n / each + min 1 (n % each)) * each
chunks_cover n each some = (div_ceil_times n each some).0

-- the first of the last chunk is one of them
pub chunk_begins : (from to each k : ℕ) → 0 < each → from ≤ to → k < (to - from) / each + min 1 ((to - from) % each) → from + k * each < to
chunk_begins from to each k some order less =
    let n = to - from in
    let few = (div_ceil_times n each some).1 in
    let chunks = n / each + min 1 (n % each) in
    let down : (k + 1) * each ≤ chunks * each = grind (arith, less) in
    let one : (k + 1) * each ≡ k * each + each = grind arith in
    omega (arith, few, down, one, order)

-- rows of nothing are of any numbers
none_are : {Row : Type 0} (is : ℕ → Row → Type 0) (a b : ℕ) (rows : List Row) → length rows ≡ 0 → AreRows is a rows → AreRows is b rows
none_are is a b [] none are = are
none_are is a b (row ∷ rows) none are = absurd (let long : length (row ∷ rows) ≡ length rows + 1 = omega arith in omega (arith, none, long))

-- A chunk may say that it is whole. What takes chunks takes whole ones.
module _ {Row Chunk S : Type 0} (whole : Chunk → Bool) (items : Chunk → List Row) (is : ℕ → Row → Type 0) (takes : S → Row → S → Type 0) (from to each : ℕ) where
  -- the rows of chunks from number k on, one after another
  pub record Joined (k m : ℕ) (old new : S) : Type 0 where
    pub rows : List Row
    pub many : length rows ≡ min to (from + (k + m) * each) - (from + k * each)
    pub are : AreRows is (from + k * each) rows
    pub taken : TakesAll takes old rows new

  -- it has its rows, where it is whole; and it is taken as a whole
  abbrev IsMadeSo : ℕ → Chunk → Type 0
  IsMadeSo i c = whole c ≡ true → IsChunk is from to each i (items c)

  abbrev TakesWhole : S → Chunk → S → Type 0
  TakesWhole s c t = (whole c ≡ true) × TakesAll takes s (items c) t

  join : (k : ℕ) (chunks : List Chunk) (old new : S) → AreRows IsMadeSo k chunks → TakesAll TakesWhole old chunks new → Joined k (length chunks) old new
  join k [] old new are taken = record {
    rows = [];
    many = (let none : 0 ≡ min to (from + k * each) - (from + k * each) = omega arith in none) ∙ ap (λ (i : ℕ). min to (from + i * each) - (from + k * each)) (let same : k ≡ k + 0 = omega arith in same);
    are = tt;
    taken = taken;
  }
  join k (c ∷ cs) old new are taken =
      let later = join (k + 1) cs taken.0 new are.1 taken.2 in
      let chunk = are.0 taken.1.0 in
      let one : (k + 1) * each ≡ k * each + each = grind arith in
      let ends : (k + 1 + length cs) * each ≡ k * each + each + length cs * each = grind arith in
      let long : length (c ∷ cs) ≡ length cs + 1 = omega arith in
      let all : (k + (length cs + 1)) * each ≡ k * each + each + length cs * each = grind arith in
      let all' : (k + length (c ∷ cs)) * each ≡ k * each + each + length cs * each = ap (λ (i : ℕ). (k + i) * each) long ∙ all in
      record {
        rows = items c ++ later.rows;
        many = omega (arith, length-append (items c) later.rows, chunk.many, later.many, one, ends, all');
        are = rows_both is (from + k * each) (length (items c)) (items c) later.rows refl chunk.are (behind later chunk.many (cases_lt to (from + k * each + each)) one ends);
        taken = taken_both takes old taken.0 new (items c) later.rows taken.1.1 later.taken;
      }
    where
      behind : (later : Joined (k + 1) (length cs) taken.0 new) → length (items c) ≡ min to (from + k * each + each) - (from + k * each) → (to < from + k * each + each) ⊎ (from + k * each + each ≤ to) → (k + 1) * each ≡ k * each + each → (k + 1 + length cs) * each ≡ k * each + each + length cs * each → AreRows is (from + k * each + length (items c)) later.rows
      behind later many (inl last) one ends = none_are is (from + (k + 1) * each) (from + k * each + length (items c)) later.rows (omega (arith, later.many, last, one, ends)) later.are
      behind later many (inr more) one ends = subst (λ (i : ℕ). AreRows is i later.rows) (let same : from + (k + 1) * each ≡ from + k * each + length (items c) = omega (arith, one, more, many) in same) later.are

  -- and so the rows of the window were handed on
  pub chunks_handed : (count : ℕ) (old new : S) → from ≤ to → to - from ≤ count * each → Handed IsMadeSo TakesWhole 0 count old new → Handed is takes from (to - from) old new
  chunks_handed count old new order cover handed =
      let did = join 0 handed.rows old new handed.each handed.taken in
      let none : 0 * each ≡ 0 = grind arith in
      let all : (0 + length handed.rows) * each ≡ count * each = ap (λ (i : ℕ). i * each) (let same : 0 + length handed.rows ≡ count = omega (arith, handed.many) in same) in
      record {
        rows = did.rows;
        many = omega (arith, did.many, none, all, cover, order);
        each = subst (λ (i : ℕ). AreRows is i did.rows) (let first : from + 0 * each ≡ from = omega (arith, none) in first) did.are;
        taken = did.taken;
      }
