-- What a command makes of a store.
use Rattle.std.proofs.Common.{◌≡◌, ◌∙◌, inl, inr, ⊎_elim, ℕ, ◌-◌, ◌<◌, List, [], ◌∷◌, ◌++◌, map, Option, None, option_map, Bool, true, refl, sym, ap, subst}
use Rattle.std.proofs.lemmas.Bool.{and_parts, and_from}
use Rattle.board_model.specs.{Durable.{DurableState, Change, refusal_of, after, fold}, Shapes.Size, Views.change_in}
use Rattle.board_model.specs.declared.durable.Entry.{Entry}
use Rattle.disk.specs.{Facts.{Facts, LeavesSince}, Moments.leaves_weaker}
use Rattle.layout.specs.{Records.IsInRange, declared.records.Record.Record}
use Rattle.store.specs.{Entries.{is_plain, are_plain}, Taken.are_taken, Standing.{state_of, memory_in, StandsFor}, Follows.Follows}
use Rattle.store.specs.{Leaves.{LeavesOnly, LeavesEither, StandsForEither}, Commits.{SameAreas, SelectsAs, SelectsEither, IsUp, IsInDoubt}}
use Rattle.store.{specs.Lives.Life, proofs.Taken.taken_more}
use Rattle.store.proofs.States.{state_same, memory_same, of_areas, up_leaves, doubt_leaves, stands_for, either_stands}
use Rattle.board_model.specs.declared.durable.Entry.TheVariants as entries

-- the journal, where the image's memory is this one
abbrev pub told : List ℕ → List Entry → List Change
told memory journal = map (λ e. change_in e memory) journal

pub told_more : (m : List ℕ) (journal : List Entry) (e : Entry) → told m (journal ++ e ∷ []) ≡ told m journal ++ change_in e m ∷ []
told_more m [] e = refl
told_more m (d ∷ journal) e = ap (λ (cs : List Change). change_in d m ∷ cs) (told_more m journal e)

-- commands have no memory
plain_entry : (m n : List ℕ) (e : Entry) → is_plain e ≡ true → change_in e m ≡ change_in e n
plain_entry m n (entries.Command c) plain = refl
plain_entry m n (entries.Suspend h a o) plain = cc

pub plain_told : (m n : List ℕ) (journal : List Entry) → are_plain journal ≡ true → told m journal ≡ told n journal
plain_told m n [] plain = refl
plain_told m n (e ∷ journal) plain =
    let parts = and_parts (is_plain e) (are_plain journal) plain in
    ap (λ (c : Change). c ∷ told m journal) (plain_entry m n e parts.0) ∙ ap (λ (cs : List Change). change_in e n ∷ cs) (plain_told m n journal parts.1)

pub plain_more : (journal : List Entry) (e : Entry) → are_plain journal ≡ true → is_plain e ≡ true → are_plain (journal ++ e ∷ []) ≡ true
plain_more [] e plain is = and_from (is_plain e) true is refl
plain_more (d ∷ journal) e plain is =
    let parts = and_parts (is_plain d) (are_plain journal) plain in
    and_from (is_plain d) (are_plain (journal ++ e ∷ [])) parts.0 (plain_more journal e parts.1 is)

one_more : (s : DurableState) (cs : List Change) (c : Change) → fold s (cs ++ c ∷ []) ≡ after (fold s cs) c
one_more s [] c = refl
one_more s (d ∷ cs) c = one_more (after s d) cs c

pub none_maps : (A : Type 0) (f g : A → Change) (d : Option A) → d ≡ None → option_map f d ≡ option_map g d
none_maps A f g d is = ap (option_map f) is ∙ sym (ap (option_map g) is)

pub life_is : (f g : DurableState) (i j : List Change) (c d : Option Change) (n o : Bool) → f ≡ g → i ≡ j → c ≡ d → n ≡ o
    → ◌≡◌ {A = Life} (record { found = f; journal = i; doubt = c; over = n }) (record { found = g; journal = j; doubt = d; over = o })
life_is f g i j c d n o fg ij cd ends =
    ap (λ (x : DurableState). made x i c n) fg ∙ ap (λ (x : List Change). made g x c n) ij ∙ ap (λ (x : Option Change). made g j x n) cd ∙ ap (λ (x : Bool). made g j d x) ends
  where
    made : DurableState → List Change → Option Change → Bool → Life
    made found journal doubt over = record { found = found; journal = journal; doubt = doubt; over = over }

-- the state of a life, by the disk as a read gives it
abbrev pub now_by : Facts → Size → Record → Record → List Entry → DurableState
now_by a size opened current journal = fold (state_of size opened a.content) (told (memory_in size current a.content) journal)

-- What a commit of an entry leaves of a life, whether it was done, was left undone or is in doubt.
pub record Issues (a b : Facts) (size : Size) (side : ℕ) (opened current next : Record) (journal : List Entry) (entry : Entry) : Type 0 where
  pub found : state_of size opened b.content ≡ state_of size opened a.content
  pub journal_still : told (memory_in size current b.content) journal ≡ told (memory_in size current a.content) journal
  pub change : change_in entry (memory_in size next b.content) ≡ change_in entry (memory_in size next a.content)
  pub folded : fold (state_of size opened b.content) (told (memory_in size current b.content) journal) ≡ state_of size current b.content
  pub allowed : refusal_of (now_by a size opened current journal) (change_in entry (memory_in size next a.content)) ≡ None → refusal_of (state_of size current b.content) (change_in entry (memory_in size next b.content)) ≡ None
  pub legal : are_taken (state_of size opened a.content) (told (memory_in size current a.content) journal) ≡ true → are_taken (state_of size opened b.content) (told (memory_in size current b.content) journal) ≡ true
  pub legal_with : are_plain journal ≡ true → are_taken (state_of size opened a.content) (told (memory_in size current a.content) journal) ≡ true
      → refusal_of (now_by a size opened current journal) (change_in entry (memory_in size next a.content)) ≡ None → are_taken (state_of size opened b.content) (told (memory_in size next b.content) (journal ++ entry ∷ [])) ≡ true
  pub journal_with : are_plain journal ≡ true
      → told (memory_in size next b.content) (journal ++ entry ∷ []) ≡ told (memory_in size current a.content) journal ++ change_in entry (memory_in size next a.content) ∷ []
  pub folded_with : are_plain journal ≡ true → fold (state_of size opened b.content) (told (memory_in size next b.content) (journal ++ entry ∷ [])) ≡ state_of size next b.content
  pub up : IsUp a size side current
  pub range : IsInRange size next
  pub any_moment : LeavesSince a b (StandsForEither size (now_by a size opened current journal) (after (now_by a size opened current journal) (change_in entry (memory_in size next a.content))))
  pub done : IsUp b size (1 - side) next → LeavesOnly b size (after (now_by a size opened current journal) (change_in entry (memory_in size next a.content)))
  pub undone : IsUp b size side current → LeavesOnly b size (now_by a size opened current journal)
  pub still : LeavesSince a b (SelectsAs size side current a.content) → LeavesSince a b (λ x. StandsFor x size (now_by a size opened current journal))
  pub either : side < 2 → IsInDoubt b size side current next
      → LeavesEither b size (now_by a size opened current journal) (after (now_by a size opened current journal) (change_in entry (memory_in size next a.content)))

module _ (a b : Facts) (size : Size) (side : ℕ) (opened current next : Record) (journal : List Entry) (entry : Entry) (follows : Follows size current entry next)
    (areas : SameAreas a.content b.content) (folded : fold (state_of size opened a.content) (told (memory_in size current a.content) journal) ≡ state_of size current a.content)
    (up : IsUp a size side current) (range : IsInRange size next) (only : LeavesSince a b (SelectsEither size side current next a.content)) where
  abbrev now : DurableState
  now = now_by a size opened current journal

  abbrev change : Change
  change = change_in entry (memory_in size next a.content)

  found_still : state_of size opened b.content ≡ state_of size opened a.content
  found_still = state_same size opened a.content b.content (of_areas size opened.image a.content b.content areas)

  current_memory : memory_in size current b.content ≡ memory_in size current a.content
  current_memory = memory_same size current a.content b.content (of_areas size current.image a.content b.content areas)

  next_memory : memory_in size next b.content ≡ memory_in size next a.content
  next_memory = memory_same size next a.content b.content (of_areas size next.image a.content b.content areas)

  told_still : told (memory_in size current b.content) journal ≡ told (memory_in size current a.content) journal
  told_still = ap (λ (m : List ℕ). told m journal) current_memory

  pub change_still : change_in entry (memory_in size next b.content) ≡ change
  change_still = ap (change_in entry) next_memory

  now_still : state_of size current b.content ≡ now
  now_still = state_same size current a.content b.content (of_areas size current.image a.content b.content areas) ∙ sym folded

  -- a command that the table does not refuse is not refused then
  allowed_still : refusal_of now change ≡ None → refusal_of (state_of size current b.content) (change_in entry (memory_in size next b.content)) ≡ None
  allowed_still allowed = ap (λ (s : DurableState). refusal_of s (change_in entry (memory_in size next b.content))) now_still ∙ ap (λ (c : Change). refusal_of now c) change_still ∙ allowed

  next_is : state_of size next b.content ≡ after now change
  next_is = follows.state b.content ∙ ap (after (state_of size current b.content)) change_still ∙ ap (λ (s : DurableState). after s change) now_still

  folded_still : fold (state_of size opened b.content) (told (memory_in size current b.content) journal) ≡ state_of size current b.content
  folded_still = ap (fold (state_of size opened b.content)) told_still ∙ ap (λ (s : DurableState). fold s (told (memory_in size current a.content) journal)) found_still ∙ sym now_still

  -- the journal with the command
  told_next : are_plain journal ≡ true → told (memory_in size next b.content) (journal ++ entry ∷ []) ≡ told (memory_in size current a.content) journal ++ change ∷ []
  told_next plain =
      told_more (memory_in size next b.content) journal entry
      ∙ ap (λ (cs : List Change). cs ++ change_in entry (memory_in size next b.content) ∷ []) (plain_told (memory_in size next b.content) (memory_in size current a.content) journal plain)
      ∙ ap (λ (c : Change). told (memory_in size current a.content) journal ++ c ∷ []) change_still

  folded_more : are_plain journal ≡ true → fold (state_of size opened b.content) (told (memory_in size next b.content) (journal ++ entry ∷ [])) ≡ state_of size next b.content
  folded_more plain =
      ap (fold (state_of size opened b.content)) (told_next plain)
      ∙ ap (λ (s : DurableState). fold s (told (memory_in size current a.content) journal ++ change ∷ [])) found_still
      ∙ one_more (state_of size opened a.content) (told (memory_in size current a.content) journal) change
      ∙ sym next_is

  legal_still : are_taken (state_of size opened a.content) (told (memory_in size current a.content) journal) ≡ true → are_taken (state_of size opened b.content) (told (memory_in size current b.content) journal) ≡ true
  legal_still legal =
      ap (are_taken (state_of size opened b.content)) told_still ∙ ap (λ (s : DurableState). are_taken s (told (memory_in size current a.content) journal)) found_still ∙ legal

  legal_more : are_plain journal ≡ true → are_taken (state_of size opened a.content) (told (memory_in size current a.content) journal) ≡ true → refusal_of now change ≡ None
      → are_taken (state_of size opened b.content) (told (memory_in size next b.content) (journal ++ entry ∷ [])) ≡ true
  legal_more plain legal free =
      ap (are_taken (state_of size opened b.content)) (told_next plain)
      ∙ ap (λ (s : DurableState). are_taken s (told (memory_in size current a.content) journal ++ change ∷ [])) found_still
      ∙ taken_more (state_of size opened a.content) (told (memory_in size current a.content) journal) change legal free

  leaves_next : IsUp b size (1 - side) next → LeavesOnly b size (after now change)
  leaves_next up = subst (LeavesOnly b size) next_is (up_leaves b size (1 - side) next up)

  leaves_before : IsUp b size side current → LeavesOnly b size now
  leaves_before up = subst (LeavesOnly b size) now_still (up_leaves b size side current up)

  leaves_one : side < 2 → IsInDoubt b size side current next → LeavesEither b size now (after now change)
  leaves_one known doubt =
      subst (λ (s : DurableState). LeavesEither b size s (after now change)) now_still
      (subst (λ (s : DurableState). LeavesEither b size (state_of size current b.content) s) next_is (doubt_leaves b size side current next known doubt))

  pub issues : Issues a b size side opened current next journal entry
  issues = record {
    found = found_still;
    journal_still = told_still;
    change = change_still;
    folded = folded_still;
    allowed = allowed_still;
    legal = legal_still;
    legal_with = legal_more;
    journal_with = told_next;
    folded_with = folded_more;
    up = up;
    range = range;
    any_moment = leaves_weaker a b (SelectsEither size side current next a.content) (StandsForEither size now (after now change)) only
        (λ x either.
        ⊎_elim
        (λ old. inl (subst (StandsFor x size) (sym folded) old))
        (λ new. inr (subst (StandsFor x size) (follows.state a.content ∙ ap (λ (s : DurableState). after s change) (sym folded)) new))
        (either_stands size side current next a.content x either));
    done = leaves_next;
    undone = leaves_before;
    still = λ each. leaves_weaker a b (SelectsAs size side current a.content) (λ x. StandsFor x size now) each
        (λ x chosen. subst (StandsFor x size) (sym folded) (stands_for size side current a.content x chosen));
    either = leaves_one;
  }
