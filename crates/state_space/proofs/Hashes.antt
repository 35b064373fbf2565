-- A hash is made word by word.
use Rattle.std.proofs.Common.{◌≡◌, ℕ, ◌+◌, ◌<◌, ◌≤◌, List, ◌∷◌, length, drop, get_or, refl, sym, ap, add-one, drop-cons}
use Rattle.std.{proofs.lemmas.List.drop_all, specs.Prelude.bit_xor}
use Rattle.state_space.specs.Hash.{mixed, hash_from}

pub hash_more : (words : List ℕ) (i hash : ℕ) → i < length words → hash_from (mixed (bit_xor hash (get_or words i 0))) (drop (i + 1) words) ≡ hash_from hash (drop i words)
hash_more words i hash lt = sym (ap (hash_from hash) (rest i lt))
  where
    rest : (k : ℕ) → k < length words → drop k words ≡ get_or words k 0 ∷ drop (k + 1) words
    rest k less = rw (add-one, drop-cons words k 0) refl

pub hash_all : (words : List ℕ) (i hash : ℕ) → length words ≤ i → hash_from hash (drop i words) ≡ hash
hash_all words i hash le = ap (hash_from hash) (drop_all i words le)
