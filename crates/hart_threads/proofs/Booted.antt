-- The commands that a boot issued are noted, one after another, for the boot's part.
use Rattle.std.proofs.Common.{◌≡◌, ◌∙◌, ◌⊎◌, ⊎_elim, ℕ, suc, ◌+◌, ◌-◌, ◌<◌, ◌≤◌, List, [], ◌∷◌, ◌++◌, length, get_or, take, drop, refl, sym, ap, subst, arith}
use Rattle.std.proofs.lemmas.List.{append_assoc, append-nil, drop_more, length-drop, nil_from_length, take_at}
use Rattle.board_model.{specs.{Durable.Change, Views.{change_in, entry_of}, declared.durable.Entry.Entry}, proofs.Steps.entry_of_change}
use Rattle.tallies.specs.{Logs.Log, Books.entries_of}
use Rattle.hart_threads.specs.{Legal.BeginsWith, Noted.{boot_told, entries_in, told_on}}

-- so many of the journal's commands were noted, and the one part that there is was told their receipts
pub record AreNoted (journal : List Change) (k : ℕ) (log : Log Entry) (told : List (ℕ × Entry)) : Type 0 where
  pub tied : entries_of log ++ entries_in (drop k journal) ≡ entries_in journal
  pub receipts : told_on (drop k journal) told ≡ boot_told journal
  pub long : length log ≡ k
  pub many : length told ≡ k
  pub within : k ≤ length journal

-- the next command of the journal
next_is : (journal : List Change) (k : ℕ) (e : Entry) (memory : List ℕ) → k + 1 ≤ length journal → get_or journal k (change_in e memory) ≡ change_in e memory
    → drop k journal ≡ change_in e memory ∷ drop (k + 1) journal
next_is journal k e memory lt is = drop_more journal k (change_in e memory) (omega (arith, lt)) ∙ ap (λ (c : Change). c ∷ drop (k + 1) journal) is

pub one_noted : (journal : List Change) (k : ℕ) (log : Log Entry) (told : List (ℕ × Entry)) (who : ℕ) (e : Entry) (memory : List ℕ) → AreNoted journal k log told → k + 1 ≤ length journal
    → get_or journal k (change_in e memory) ≡ change_in e memory → AreNoted journal (k + 1) ((who, e) ∷ log) ((suc (length log), e) ∷ told)
one_noted journal k log told who e memory n lt is =
    let rest = drop (k + 1) journal in
    let next = next_is journal k e memory lt is in
    let same : entry_of (change_in e memory) ≡ e = entry_of_change e memory in
    let place : length told ≡ length log = n.many ∙ sym n.long in
    record {
      tied = append_assoc (entries_of log) (e ∷ []) (entries_in rest) ∙ ap (λ (x : Entry). entries_of log ++ x ∷ entries_in rest) (sym same)
          ∙ ap (λ (cs : List Change). entries_of log ++ entries_in cs) (sym next) ∙ n.tied;
      receipts = ap (λ (x : Entry). told_on rest ((suc (length log), x) ∷ told)) (sym same) ∙ ap (λ (m : ℕ). told_on rest ((suc m, entry_of (change_in e memory)) ∷ told)) (sym place)
          ∙ ap (λ (cs : List Change). told_on cs told) (sym next) ∙ n.receipts;
      long = let l = n.long in omega (arith, l);
      many = let m = n.many in omega (arith, m);
      within = lt;
    }

-- the place after so many is past the journal's end
pub none_left : (place count many : ℕ) → (place ≡ 0) ⊎ (many < place) → place ≡ count + 1 → count ≤ many → count ≡ many
none_left place count many past is within = ⊎_elim (λ none. absurd (omega (arith, none, is))) (λ lt. omega (arith, lt, is, within)) past

pub none_noted : (journal : List Change) (log : Log Entry) (told : List (ℕ × Entry)) → log ≡ [] → told ≡ [] → AreNoted journal 0 log told
none_noted journal log told nothing none =
    subst (λ (l : Log Entry). AreNoted journal 0 l told) (sym nothing)
    (subst (λ (t : List (ℕ × Entry)). AreNoted journal 0 [] t) (sym none) (record { tied = refl; receipts = refl; long = refl; many = refl; within = omega arith }))

module _ (journal : List Change) (k : ℕ) (log : Log Entry) (told : List (ℕ × Entry)) (n : AreNoted journal k log told) (all : k ≡ length journal) where
  done : drop k journal ≡ []
  done = nil_from_length (drop k journal) (length-drop k journal ∙ (let none : length journal - k ≡ 0 = omega (arith, all) in none))

  pub all_tied : entries_in journal ≡ entries_of log
  all_tied = sym n.tied ∙ ap (λ (cs : List Change). entries_of log ++ entries_in cs) done ∙ append-nil (entries_of log)

  pub all_told : told ≡ boot_told journal
  all_told = ap (λ (cs : List Change). told_on cs told) (sym done) ∙ n.receipts

-- a life's journal that is what its boot issued
pub begins_same : (issued journal : List Change) → journal ≡ issued → BeginsWith issued journal
begins_same issued journal is = ap (λ (l : List Change). take (length issued) l) (is ∙ sym (append-nil issued)) ∙ take_at issued [] (length issued) refl

-- as many as there may be were counted
pub all_counted : (count many : ℕ) → 4096 ≤ count → many ≤ 4096 → count ≤ many → count ≡ many
all_counted count many most few within = omega (arith, most, few, within)
