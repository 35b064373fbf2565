-- Commands over a disk that is kept in a file.
use Rattle.std.proofs.{Common.{◌≡◌, ◌⊎◌, ◌∙◌, ◌≤◌, ◌+◌, ℕ, List, Option, inl, inr, sym, ap, subst, arith}, Math.Logic.∥∥₁_map}
use Rattle.board_model.specs.{Durable.DurableState, Shapes.Size, declared.{durable.Command.Command, refusal.Refusal.Refusal}}
use Rattle.disk.specs.Facts.{Content, Facts, IsFresh, Unchanged}
use Rattle.board_files.specs.Files.{FileKnown, Unknown, Known, IfKnown, LeavesNoMore, EverAllowed}
use Rattle.store.specs.{Answers.{StoreView, Opened}, Leaves.{IsSettled, LeftAsBefore}, Lives.now_of, Standing.StandsFor}
use Rattle.theorem.{specs.{Files.KeepsCommands, Prefixes.{IsAfterFirst, in_doubt}}, proofs.PowerLost.OneStanding}

module _ (one : OneStanding) (memory made : Facts) (size : Size) (s : DurableState) (fresh : IsFresh memory.content memory) (same : Unchanged memory made) (stands : StandsFor memory.content size s) where
  -- a crash of a disk that was just made leaves what stands for s
  at_first : (c : Content) → made.may_leave c → StandsFor c size s
  at_first c may = subst (λ (x : Content). StandsFor x size s) (sym (fresh.durable c ((same.now c).0 may))) stands

  -- and so does one within its open
  settled : (c : Content) → LeftAsBefore made c → StandsFor c size s
  settled c (inl may) = at_first c may
  settled c (inr (b, may, (version, z, t, before, after))) =
      let is = one b z size t s before (at_first b may) in
      subst (λ (u : DurableState). StandsFor c size u) is.1 (subst (λ (y : Size). StandsFor c y t) is.0 after)

  -- the open finds s, of that board
  found : (view : StoreView) → Opened made view → (view.size ≡ size) × (now_of view.life ≡ s)
  found view opened =
      let is = one memory.content view.size size view.life.found s (subst (λ (x : Content). StandsFor x view.size view.life.found) same.content opened.reads) stands in
      (is.0, ap now_of opened.begins ∙ is.1)

  module _ (view : StoreView) (ended given : Facts) (commands : List Command) (n : ℕ) (why : Option Refusal) (first : memory.moment ≡ 0) (opened : Opened made view) (open_settles : IsSettled made view.disk)
      (wherever : (t : ℕ) (c : Content) → t ≤ view.disk.moment → ended.since t c → view.disk.since t c ⊎ IsAfterFirst view.size (now_of view.life) commands 0 (n + 1) c)
      (at_end : (c : Content) → ended.may_leave c → IsAfterFirst view.size (now_of view.life) commands n (n + in_doubt why) c) (back : Unchanged ended given) where
    after_found : (least most : ℕ) (c : Content) → IsAfterFirst view.size (now_of view.life) commands least most c → IsAfterFirst size s commands least most c
    after_found least most c is =
        let f = found view opened in
        subst (λ (t : DurableState). IsAfterFirst size t commands least most c) f.1 (subst (λ (y : Size). IsAfterFirst y (now_of view.life) commands least most c) f.0 is)

    since_made : (c : Content) → given.since 0 c → IsAfterFirst size s commands 0 (n + 1) c
    since_made c left = elim (wherever 0 c (omega arith) ((back.since 0 c).0 left)) [
      | inl early ↦ (0, omega arith, omega arith, settled c (open_settles.any_moment.each c (subst (λ (t : ℕ). view.disk.since t c) (sym (same.moment ∙ first)) early)))
      | inr is ↦ after_found 0 (n + 1) c is
    ]

    pub keeps : (file : FileKnown) → IfKnown file (LeavesNoMore given) → IfKnown file (EverAllowed given) → IfKnown file (KeepsCommands size s commands n why)
    keeps Unknown now ever = tt
    keeps (Known f) now ever = record {
      now = λ c may. after_found n (n + in_doubt why) c (at_end c ((back.now c).0 (now c may)));
      ever = λ c was. ∥∥₁_map (ever c was) (since_made c);
    }
