-- What a turn reads is one thing.
use Rattle.std.proofs.Common.{◌≡◌, ℕ, Bool, true, false, List, length, nat_lt, Option, Some, None, refl, sym, ap, subst, ◌∙◌}
use Rattle.std.specs.Bool.{MatchBool}
use Rattle.hart.specs.Means.{word_at}
use Rattle.machine.specs.Machine.{Machine, hart_at}
use Rattle.rv_decode.{proofs.Unique.unique, specs.{Spells.Reads, declared.instr.Instr.Instr}}
use Rattle.debug_session.specs.{Loads.{Fetches, LoadsAt, LoadsNext, is_stepping, is_there, load_in, made_load}, declared.loads.Load.Load}

both : (A : Type 0) (t : Bool) (P : Option A → Type 0) (a b : Option A) → ((x y : Option A) → P x → P y → x ≡ y) → MatchBool t (P a) (a ≡ None) → MatchBool t (P b) (b ≡ None) → a ≡ b
both A true P a b same one two = same a b one two
both A false P a b same one two = one ∙ sym two

word_determines_instruction : (w : ℕ) (a b : Option Instr) → Reads a w → Reads b w → a ≡ b
word_determines_instruction w None None one two = refl
word_determines_instruction w None (Some j) one two = absurd (one j two)
word_determines_instruction w (Some i) None one two = absurd (two i one)
word_determines_instruction w (Some i) (Some j) one two = ap (λ (x : Instr). Some x) (unique i j w one two)

pub one_fetch : (memory : List ℕ) (pc : ℕ) (a b : Option Instr) → Fetches memory pc a → Fetches memory pc b → a ≡ b
one_fetch memory pc a b one two =
    let P : Option Instr → Type 0 = λ x. Reads x (word_at memory pc) in both Instr (is_there memory pc 4) P a b (word_determines_instruction (word_at memory pc)) one two

one_at : (m : Machine) (h : ℕ) (a b : Option Load) → LoadsAt m h a → LoadsAt m h b → a ≡ b
one_at m h a b one two =
    let P : Option Load → Type 0 = λ x. (i : Option Instr) × Fetches m.memory (hart_at m h).pc i × (x ≡ made_load m.memory (load_in i (hart_at m h))) in
    both Load (is_stepping m h) P a b
    (λ x y px py. px.2 ∙ ap (λ (i : Option Instr). made_load m.memory (load_in i (hart_at m h))) (one_fetch m.memory (hart_at m h).pc px.0 py.0 px.1 py.1) ∙ sym py.2)
    one two

pub one_load : (m : Option Machine) (h : ℕ) (a b : Option Load) → LoadsNext m h a → LoadsNext m h b → a ≡ b
one_load None h a b one two = one ∙ sym two
one_load (Some m) h a b one two = let P : Option Load → Type 0 = λ x. LoadsAt m h x in both Load (nat_lt h (length m.harts)) P a b (one_at m h) one two

-- ---- as the code finds it
-- of an instruction that reads nothing there, whether or not the turn is that of one
pub loads_none : (m : Machine) (h : ℕ) (i : Option Instr) (found : Option Load) → Fetches m.memory (hart_at m h).pc i → found ≡ made_load m.memory (load_in i (hart_at m h)) → found ≡ None → LoadsAt m h found
loads_none m h i found fetch is none = by_stepping (is_stepping m h)
  where
    by_stepping : (t : Bool) → MatchBool t ((j : Option Instr) × Fetches m.memory (hart_at m h).pc j × (found ≡ made_load m.memory (load_in j (hart_at m h)))) (found ≡ None)
    by_stepping true = (i, fetch, is)
    by_stepping false = none

-- of one that its turn carries out
pub loads_there : (m : Machine) (h : ℕ) (i : Option Instr) (found : Option Load) → is_stepping m h ≡ true → Fetches m.memory (hart_at m h).pc i → found ≡ made_load m.memory (load_in i (hart_at m h)) → LoadsAt m h found
loads_there m h i found steps fetch is =
    let P : Bool → Type 0 = λ t. MatchBool t ((j : Option Instr) × Fetches m.memory (hart_at m h).pc j × (found ≡ made_load m.memory (load_in j (hart_at m h)))) (found ≡ None) in
    subst P (sym steps) (i, fetch, is)
