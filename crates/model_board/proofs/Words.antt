-- Memories that agree on words, and a memory that has the changes of two.
use Rattle.std.proofs.Common.{ℕ, zero, suc, List, [], ◌∷◌, ◌≡◌, ◌+◌, ◌-◌, ◌/◌, ◌%◌, ◌<◌, ◌≤◌, length, slice_index, refl, sym, ap, ◌∙◌, inl, inr, arith}
use Rattle.std.proofs.lemmas.List.{ext_get_or}
use Rattle.ram.{specs.Memory.{value, AreBytes, Stored, IsInside}, proofs.Keeping.same_value}
use Rattle.rv_decode.specs.declared.ops.{LoadOp.LoadOp, StoreOp.StoreOp}
use Rattle.rv_decode.specs.declared.ops.LoadOp.TheVariants as load
use Rattle.rv_decode.specs.declared.ops.StoreOp.TheVariants as store
use Rattle.hart.{specs.Means.{load_bytes, store_bytes}, proofs.Decided.{IsDecided, either, same_number}}
use Rattle.model_board.specs.Touches.{word_of}

-- the word k is the same in both
abbrev pub SameWord : List ℕ → List ℕ → ℕ → Type 0
SameWord m n k = (j : ℕ) → j / 8 ≡ k → slice_index n j ≡ slice_index m j

-- r is n with what l changed of m
pub record Merges (m l n r : List ℕ) : Type 0 where
  pub long : length r ≡ length n
  pub kept : (j : ℕ) → slice_index l j ≡ slice_index m j → slice_index r j ≡ slice_index n j
  pub new : (j : ℕ) → (slice_index l j ≡ slice_index m j → ⊥) → slice_index r j ≡ slice_index l j

-- where nothing was changed, nothing is
pub still : (m l n r : List ℕ) → Merges m l n r → l ≡ m → r ≡ n
still m l n r x e = ext_get_or 0 r n x.long (λ j within. x.kept j (ap (λ (b : List ℕ). slice_index b j) e))

-- ---- bytes of an access that is aligned lie in one word
pub in_load : (op : LoadOp) (a j : ℕ) → a % load_bytes op ≡ 0 → 0x80000000 ≤ a → a - 0x80000000 ≤ j → j < a - 0x80000000 + load_bytes op → j / 8 ≡ word_of a
in_load load.Lb a j h low from to = omega arith
in_load load.Lh a j h low from to = omega arith
in_load load.Lw a j h low from to = omega arith
in_load load.Ld a j h low from to = omega arith
in_load load.Lbu a j h low from to = omega arith
in_load load.Lhu a j h low from to = omega arith
in_load load.Lwu a j h low from to = omega arith

pub in_store : (op : StoreOp) (a j : ℕ) → a % store_bytes op ≡ 0 → 0x80000000 ≤ a → a - 0x80000000 ≤ j → j < a - 0x80000000 + store_bytes op → j / 8 ≡ word_of a
in_store store.Sb a j h low from to = omega arith
in_store store.Sh a j h low from to = omega arith
in_store store.Sw a j h low from to = omega arith
in_store store.Sd a j h low from to = omega arith

pub in_fetch : (a j : ℕ) → a % 4 ≡ 0 → 0x80000000 ≤ a → a - 0x80000000 ≤ j → j < a - 0x80000000 + 4 → j / 8 ≡ word_of a
in_fetch a j h low from to = omega arith

-- ---- numbers in memory
pub value_in : (m n : List ℕ) (a k c : ℕ) → SameWord m n k → ((j : ℕ) → a ≤ j → j < a + c → j / 8 ≡ k) → value n a c ≡ value m a c
value_in m n a k c same within = same_value m n a c (λ j from to. same j (within j from to))

are_bytes : (m n : List ℕ) (o c : ℕ) → ((j : ℕ) → o ≤ j → j < o + c → slice_index n j ≡ slice_index m j) → AreBytes m o c → AreBytes n o c
are_bytes m n o zero same x = x
are_bytes m n o (suc c) same x =
    let here : slice_index n o ≡ slice_index m o = same o (omega arith) (omega arith) in
    (omega (arith, here, x.0), are_bytes m n (o + 1) c (λ j from to. same j (omega arith) (omega arith)) x.1)

-- a store, where the bytes that it writes are the same in both memories before it
pub stored : (m l n r : List ℕ) (o c v : ℕ) → length n ≡ length m → Merges m l n r → ((j : ℕ) → o ≤ j → j < o + c → slice_index n j ≡ slice_index m j) → Stored m l o c v → Stored n r o c v
stored m l n r o c v long x same st =
    let now : (j : ℕ) → o ≤ j → j < o + c → slice_index r j ≡ slice_index l j =
    λ j from to. either (same_number (slice_index l j) (slice_index m j)) (λ e. x.kept j e ∙ (same j from to ∙ sym e)) (λ d. x.new j d) in
    (x.long, are_bytes l r o c now st.1, same_value l r o c now ∙ st.2, λ k out. x.kept k (st.3 k out))

pub inside_in : (m n : List ℕ) (a c : ℕ) → length n ≡ length m → IsInside n a c → IsInside m a c
inside_in m n a c e x = (x.0, omega (arith, e, x.1))

-- ---- a memory that has the changes of both
byte_of : (l m n : ℕ) → IsDecided (l ≡ m) → ℕ
byte_of l m n d = elim d [ inl e ↦ n | inr ne ↦ l ]

pub merged : List ℕ → List ℕ → List ℕ → List ℕ
merged m l [] = []
merged [] l (c ∷ n) = c ∷ n
merged (b ∷ m) [] (c ∷ n) = c ∷ n
merged (b ∷ m) (a ∷ l) (c ∷ n) = byte_of a b c (same_number a b) ∷ merged m l n

merged_long : (m l n : List ℕ) → length (merged m l n) ≡ length n
unfolding merged
merged_long m l [] = refl
merged_long [] l (c ∷ n) = refl
merged_long (b ∷ m) [] (c ∷ n) = refl
merged_long (b ∷ m) (a ∷ l) (c ∷ n) = ap (λ (k : ℕ). suc k) (merged_long m l n)

kept_byte : (l m n : ℕ) (d : IsDecided (l ≡ m)) → l ≡ m → byte_of l m n d ≡ n
unfolding byte_of
kept_byte l m n (inl e) same = refl
kept_byte l m n (inr ne) same = absurd (ne same)

new_byte : (l m n : ℕ) (d : IsDecided (l ≡ m)) → (l ≡ m → ⊥) → byte_of l m n d ≡ l
unfolding byte_of
new_byte l m n (inl e) differ = absurd (differ e)
new_byte l m n (inr ne) differ = refl

merged_kept : (m l n : List ℕ) → length l ≡ length m → length n ≡ length m → (j : ℕ) → slice_index l j ≡ slice_index m j → slice_index (merged m l n) j ≡ slice_index n j
unfolding merged
merged_kept m l [] p q j e = refl
merged_kept [] l (c ∷ n) p q j e = refl
merged_kept (b ∷ m) [] (c ∷ n) p q j e = refl
merged_kept (b ∷ m) (a ∷ l) (c ∷ n) p q zero e = kept_byte a b c (same_number a b) e
merged_kept (b ∷ m) (a ∷ l) (c ∷ n) p q (suc j) e = merged_kept m l n (omega (arith, p)) (omega (arith, q)) j e

merged_new : (m l n : List ℕ) → length l ≡ length m → length n ≡ length m → (j : ℕ) → (slice_index l j ≡ slice_index m j → ⊥) → slice_index (merged m l n) j ≡ slice_index l j
unfolding merged
merged_new [] [] [] p q j d = refl
merged_new [] (a ∷ l) n p q j d = absurd (omega (arith, p))
merged_new [] [] (c ∷ n) p q j d = absurd (omega (arith, q))
merged_new (b ∷ m) [] n p q j d = absurd (omega (arith, p))
merged_new (b ∷ m) (a ∷ l) [] p q j d = absurd (omega (arith, q))
merged_new (b ∷ m) (a ∷ l) (c ∷ n) p q zero d = new_byte a b c (same_number a b) d
merged_new (b ∷ m) (a ∷ l) (c ∷ n) p q (suc j) d = merged_new m l n (omega (arith, p)) (omega (arith, q)) j d

pub merges : (m l n : List ℕ) → length l ≡ length m → length n ≡ length m → Merges m l n (merged m l n)
merges m l n p q = record { long = merged_long m l n; kept = merged_kept m l n p q; new = merged_new m l n p q }

-- the changes of either to the other's, where both never change one byte
pub merges_back : (m l n r : List ℕ) → length l ≡ length n → ((j : ℕ) → (slice_index l j ≡ slice_index m j → ⊥) → slice_index n j ≡ slice_index m j) → Merges m l n r → Merges m n l r
merges_back m l n r long apart x = record {
  long = x.long ∙ sym long;
  kept = λ j e. either (same_number (slice_index l j) (slice_index m j)) (λ f. x.kept j f ∙ (e ∙ sym f)) (λ d. x.new j d);
  new = λ j d. either (same_number (slice_index l j) (slice_index m j)) (λ f. x.kept j f) (λ c. absurd (d (apart j c)));
}
