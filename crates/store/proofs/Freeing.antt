-- The area that the live image does not use may hold anything: the state stays, also while it is written.
use Rattle.std.proofs.Common.{◌≡◌, ◌∙◌, ◌⊎◌, ◌||◌, zero, suc, inl, inr, ⊎_elim, ℕ, ◌+◌, ◌*◌, ◌≤◌, ◌<◌, List, [], ◌∷◌, Option, Some, true, false, refl, sym, ap, subst, arith}
use Rattle.std.proofs.lemmas.Bool.{cases_Bool}
use Rattle.board_model.specs.{Durable.{Image, DurableState, ImageStep, after, fold}, Shapes.{Size, area_sectors_of}}
use Rattle.board_model.{specs.Views.{change_of, durable_of}, proofs.Steps.{ByCommand, Drops, Keeps, by_command}}
use Rattle.board_model.specs.declared.durable.{Command.Command, Entry.Entry}
use Rattle.disk.specs.{Facts.{Content, Facts, sector, Torn, Passes, LeavesSince}, Moments.{leaves_none, leaves_more}}
use Rattle.layout.specs.{Superblocks.IsSuperblock, Records.{selected_by, IsRecord}, Sizes.area_start, declared.saved.Saved.Saved}
use Rattle.layout.specs.declared.records.Record.{Record}
use Rattle.store.{specs.{Entries.{is_change, drop_image}, Taken.are_taken, Commits.{SameImage, IsUp}}, proofs.Applies.{told, now_by}}
use Rattle.store.{specs.Standing.{image_of, state_of, memory_in, selected, live_sector, Selects, StandsFor}, proofs.Following.durable_same}
use Rattle.store.proofs.{Taken.taken_so, States.{image_then, state_same, memory_same, stands_for}}
use Rattle.board_model.specs.declared.durable.Entry.TheVariants as entries

-- the two areas have no sector in common
apart : (i j n k : ℕ) → i < 2 → j < 2 → (i ≡ 0 → j ≡ 0 → ⊥) → (i ≡ 1 → j ≡ 1 → ⊥) → 8 + j * n ≤ k → k < 8 + j * n + n → (k < 8 + i * n) ⊎ (8 + i * n + n ≤ k)
apart zero zero n k il jl first second from below = absurd (first refl refl)
apart zero (suc zero) n k il jl first second from below = inr (omega arith)
apart (suc zero) zero n k il jl first second from below = inl (omega arith)
apart (suc zero) (suc zero) n k il jl first second from below = absurd (second refl refl)
apart (suc (suc i)) j n k il jl first second from below = absurd (omega arith)
apart zero (suc (suc j)) n k il jl first second from below = absurd (omega arith)
apart (suc zero) (suc (suc j)) n k il jl first second from below = absurd (omega arith)

-- where a command dropped the image, nothing is left of it
forget_by : (c : Command) (e : ByCommand c) (m : List ℕ) (journal : List Entry)
    → (drop_image journal ≡ true → (s : DurableState) (x y : Option Image) → fold (record s { image = x }) (told m journal) ≡ fold (record s { image = y }) (told m journal))
    → drop_image (entries.Command c ∷ journal) ≡ true → (s : DurableState) (x y : Option Image)
    → fold (after (record s { image = x }) (change_of c)) (told m journal) ≡ fold (after (record s { image = y }) (change_of c)) (told m journal)
forget_by c (Drops step drops) m journal rest dropped s x y =
    ap (λ (q : DurableState). fold q (told m journal)) (drops (record s { image = x }) ∙ sym (drops (record s { image = y })))
forget_by c (Keeps leaves) m journal rest dropped s x y =
    ap (λ (q : DurableState). fold q (told m journal)) (leaves.apart s x)
    ∙ rest (sym (ap (λ (i : ImageStep). is_change i || drop_image journal) leaves.step) ∙ dropped) (after s (change_of c)) x y
    ∙ sym (ap (λ (q : DurableState). fold q (told m journal)) (leaves.apart s y))

forget : (m : List ℕ) (journal : List Entry) → drop_image journal ≡ true → (s : DurableState) (x y : Option Image)
    → fold (record s { image = x }) (told m journal) ≡ fold (record s { image = y }) (told m journal)
forget m [] drops s x y = cc
forget m (entries.Command c ∷ journal) drops s x y = forget_by c (by_command c) m journal (forget m journal) drops s x y
forget m (entries.Suspend h a o ∷ journal) drops s x y = refl

image_back : (size : Size) (image : Option Saved) (c d : Content) → SameImage size image c d → SameImage size image d c
image_back size image c d same = record { as_long = sym same.as_long; same = λ saved is k from below. sym (same.same saved is k from below) }

-- what a write of the area that the live image does not use leaves of a life
pub record Frees (a b : Facts) (size : Size) (opened current : Record) (journal : List Entry) : Type 0 where
  pub journal_still : told (memory_in size current b.content) journal ≡ told (memory_in size current a.content) journal
  pub heads : durable_of (state_of size opened b.content) ≡ durable_of (state_of size opened a.content)
  pub now : fold (state_of size opened b.content) (told (memory_in size current a.content) journal) ≡ now_by a size opened current journal
  pub any_moment : LeavesSince a b (λ c. StandsFor c size (now_by a size opened current journal))
  pub selected_still : selected b.content ≡ selected a.content
  pub live_still : live_sector b.content ≡ live_sector a.content

module _ (a b : Facts) (size : Size) (side : ℕ) (opened current : Record) (journal : List Entry) (area : ℕ) (known : side < 2) (two : area < 2)
    (free : (saved : Saved) → current.image ≡ Some saved → (area ≡ 0 → saved.area ≡ 0 → ⊥) × (area ≡ 1 → saved.area ≡ 1 → ⊥))
    (up : IsUp a size side current) (may_keep : a.may_leave a.content)
    (content : Torn (area_start size area) (area_sectors_of size) a.content b.content) (crash : Passes a b (Torn (area_start size area) (area_sectors_of size))) where
  clear : (x y : Content) → Torn (area_start size area) (area_sectors_of size) x y → SameImage size current.image x y
  clear x y torn = record {
    as_long = torn.as_long;
    same = λ saved is k from below.
        let kept = (up a.content may_keep).selects.is.0.image saved is in
        let not = free saved is in
        ⊎_elim (torn.before k) (torn.after k) (apart area saved.area (area_sectors_of size) k two kept.area not.0 not.1 from below);
  }

  still_selects : (x y : Content) → Torn (area_start size area) (area_sectors_of size) x y → Selects size side current x → Selects size side current y
  still_selects x y torn s = record {
    board = subst (IsSuperblock size) (sym (torn.before 0 (omega arith))) s.board;
    enough = omega (arith, s.enough, torn.as_long);
    gate = ap selected_by (torn.before 1 (omega arith)) ∙ s.gate;
    is = subst (IsRecord size current) (sym (torn.before (2 + side) (omega arith))) s.is;
  }

  here : SameImage size current.image a.content b.content
  here = clear a.content b.content content

  pub free_up : IsUp b size side current
  free_up x left =
      let from = crash.now x left in
      let chosen = up from.0 from.1 in
      record {
        selects = still_selects from.0 x from.2 chosen.selects;
        image = image_then size current.image b.content a.content x (image_back size current.image a.content b.content here) (image_then size current.image a.content from.0 x chosen.image (clear from.0 x from.2));
      }

  pub free_memory : memory_in size current b.content ≡ memory_in size current a.content
  free_memory = memory_same size current a.content b.content here

  free_told : told (memory_in size current b.content) journal ≡ told (memory_in size current a.content) journal
  free_told = ap (λ (m : List ℕ). told m journal) free_memory

  free_heads : durable_of (state_of size opened b.content) ≡ durable_of (state_of size opened a.content)
  free_heads = durable_same size opened b.content ∙ sym (durable_same size opened a.content)

  -- the gate, and the record that it selects
  free_selected : selected b.content ≡ selected a.content
  free_selected = ap selected_by (content.before 1 (omega arith))

  free_live : live_sector b.content ≡ live_sector a.content
  free_live =
      let gate : selected a.content ≡ side = (up a.content may_keep).selects.gate in
      ap (λ (k : ℕ). sector b.content (2 + k)) free_selected ∙ content.before (2 + selected a.content) (omega (arith, known, gate))

  -- the table of commands refuses none of the journal, as before
  pub free_legal : are_taken (state_of size opened a.content) (told (memory_in size current a.content) journal) ≡ true → are_taken (state_of size opened b.content) (told (memory_in size current b.content) journal) ≡ true
  free_legal legal =
      ap (are_taken (state_of size opened b.content)) free_told
      ∙ taken_so (state_of size opened b.content) (state_of size opened a.content) (told (memory_in size current a.content) journal) free_heads
      ∙ legal

  module _ (same : drop_image journal ≡ false → current.image ≡ opened.image) where
    free_fold : fold (state_of size opened b.content) (told (memory_in size current a.content) journal) ≡ now_by a size opened current journal
    free_fold =
        ⊎_elim
        (λ drops. forget (memory_in size current a.content) journal drops (state_of size opened a.content) (image_of size opened.image b.content) (image_of size opened.image a.content))
        (λ keeps. ap (λ (s : DurableState). fold s (told (memory_in size current a.content) journal)) (state_same size opened a.content b.content (subst (λ (i : Option Saved). SameImage size i a.content b.content) (same keeps) here)))
        (cases_Bool (drop_image journal))

    module _ (folded : fold (state_of size opened a.content) (told (memory_in size current a.content) journal) ≡ state_of size current a.content) where
      pub free_folded : fold (state_of size opened b.content) (told (memory_in size current b.content) journal) ≡ state_of size current b.content
      free_folded =
          ap (fold (state_of size opened b.content)) free_told
          ∙ free_fold
          ∙ folded
          ∙ sym (state_same size current a.content b.content here)

      -- at each moment
      free_moment : ((x : Content) → a.since a.moment x → a.may_leave x) → LeavesSince a b (λ c. StandsFor c size (now_by a size opened current journal))
      free_moment only_now =
          let now = now_by a size opened current journal in
          let P : Content → Type 0 = λ c. StandsFor c size now in
          leaves_more a a b P (Torn (area_start size area) (area_sectors_of size))
          (leaves_none a P only_now (λ x left. subst (StandsFor x size) (sym folded) (stands_for size side current a.content x (up x left))))
          crash
          (λ x y left torn.
          let chosen = up x left in
          subst (StandsFor y size) (sym folded)
          (stands_for size side current a.content y (record { selects = still_selects x y torn chosen.selects; image = image_then size current.image a.content x y chosen.image (clear x y torn) })))

      pub frees : ((x : Content) → a.since a.moment x → a.may_leave x) → Frees a b size opened current journal
      frees only_now = record { journal_still = free_told; heads = free_heads; now = free_fold; any_moment = free_moment only_now; selected_still = free_selected; live_still = free_live }
