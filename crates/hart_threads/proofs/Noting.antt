-- A command that was acknowledged is noted in the book, and the book stays the journal's.
use Rattle.std.proofs.{Common.{◌≡◌, ◌∙◌, ℕ, suc, ◌+◌, List, [], ◌∷◌, ◌++◌, length, ap, arith}, lemmas.List.{length-map, map-append}}
use Rattle.board_model.specs.{Durable.Change, Views.entry_of, declared.durable.Entry.Entry}
use Rattle.tallies.{specs.{Logs.Log, Books.entries_of}, proofs.Closing.length_journal}
use Rattle.hart_threads.specs.Noted.{entries_in}

-- the log is as long as the journal, so the next place is the next receipt
pub number : (journal : List Change) (log : Log Entry) (n : ℕ) → entries_in journal ≡ entries_of log → n ≡ length journal + 1 → n ≡ suc (length log)
number journal log n tied is =
    let a = length-map journal entry_of in
    let b = ap length tied in
    let d = length_journal log in
    omega arith

pub tied_on : (journal new : List Change) (log : Log Entry) (c : Change) (e : Entry) (who : ℕ) → entries_in journal ≡ entries_of log → entry_of c ≡ e
    → new ≡ journal ++ c ∷ [] → entries_in new ≡ entries_of ((who, e) ∷ log)
tied_on journal new log c e who tied is grown =
    ap entries_in grown ∙ (map-append entry_of journal (c ∷ []) ∙ (ap (λ xs. xs ++ entry_of c ∷ []) tied ∙ ap (λ x. entries_of log ++ x ∷ []) is))
