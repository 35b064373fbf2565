-- What an open store keeps, in durable states.
use Rattle.std.proofs.Common.{◌≡◌, ◌∙◌, ℕ, ◌<◌, None, sym, ap, subst}
use Rattle.board_model.specs.{Durable.{DurableState, Change, refusal_of, after}, Shapes.Size, Views.change_in}
use Rattle.disk.specs.Facts.{Facts}
use Rattle.layout.specs.declared.records.Record.{Record}
use Rattle.store.specs.{Standing.{state_of, memory_in}, Leaves.{LeavesOnly, LeavesEither}, Commits.{IsUp, IsInDoubt}}
use Rattle.store.{specs.declared.doubts.Doubt.Doubt, proofs.States.{up_leaves, doubt_leaves}}

module _ (disk : Facts) (size : Size) (side : ℕ) (current : Record) (now s : DurableState) (folded : now ≡ state_of size current disk.content) (s_is : s ≡ now) where
  pub kept_up : IsUp disk size side current → LeavesOnly disk size s
  kept_up up = subst (LeavesOnly disk size) (sym (s_is ∙ folded)) (up_leaves disk size side current up)

  pub kept_down : (d : Doubt) (c : Change) (t : DurableState) → side < 2 → IsInDoubt disk size side current d.next
      → state_of size d.next disk.content ≡ after (state_of size current disk.content) (change_in d.entry (memory_in size d.next disk.content)) → change_in d.entry (memory_in size d.next disk.content) ≡ c → t ≡ after s c
      → LeavesEither disk size s t
  kept_down d c t known doubt doubted same t_is =
      let here = state_of size current disk.content in
      let next : t ≡ state_of size d.next disk.content = t_is ∙ ap (λ (x : DurableState). after x c) (s_is ∙ folded) ∙ ap (λ (x : Change). after here x) (sym same) ∙ sym doubted in
      subst (λ (x : DurableState). LeavesEither disk size x t) (sym (s_is ∙ folded))
      (subst (λ (x : DurableState). LeavesEither disk size here x) (sym next) (doubt_leaves disk size side current d.next known doubt))

-- the table does not refuse the command in doubt
pub kept_allowed : (here now : DurableState) (c d : Change) → now ≡ here → c ≡ d → refusal_of here c ≡ None → refusal_of now d ≡ None
kept_allowed here now c d folded same allowed = ap (λ (s : DurableState). refusal_of s d) folded ∙ ap (λ (x : Change). refusal_of here x) (sym same) ∙ allowed
