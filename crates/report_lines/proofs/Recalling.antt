-- Why the memory of an image is not read, and what reading it does to the disk.
use Rattle.std.proofs.Common.{◌≡◌, ◌∙◌, ◌⊎◌, inl, inr, ℕ, ◌≤◌, length, sym, ap, subst, arith}
use Rattle.board_model.specs.declared.refusal.Refusal.{Refusal, TheVariants.{NotFormatted, BadShape, BadRecord, Device, Memory}}
use Rattle.disk.specs.Facts.{Content, Facts}
use Rattle.store.specs.{Answers.{StoreView, Opened}, Leaves.{ReadsAlone, IsSettled, IsRenewed, LeftAsBefore}, Opens.OpenRefused}
use Rattle.report_lines.{specs.Memories.MemoryRefused, proofs.Seeing.stands_board}

pub not_opened : (disk new : Facts) (e : Refusal) → OpenRefused disk e new → MemoryRefused disk e new
not_opened disk new NotFormatted why = why
not_opened disk new BadShape why = why
not_opened disk new BadRecord why = why
not_opened disk new Device why = why
not_opened disk new Memory why = (why.0, stands_board disk.content why.0 (why.1, why.2))
not_opened disk new e why = absurd why

-- there is no room for the memory
pub no_room : (disk : Facts) (v : StoreView) (new : Facts) (e : Refusal) → Opened disk v → e ≡ Memory → MemoryRefused disk e new
no_room disk v new e opened is = subst (λ f. MemoryRefused disk f new) (sym is) (v.size, stands_board disk.content v.size (v.life.found, opened.reads))

-- what was settled, and then read alone
module _ (a b c : Facts) (s : IsSettled a b) (reads : ReadsAlone b c) where
  now_left : (x : Content) → c.may_leave x → LeftAsBefore a x
  now_left x left = s.any_moment.now x (reads.any_moment.now x left)

  each_left : (x : Content) → c.since a.moment x → LeftAsBefore a x
  each_left x left = by (reads.any_moment.before a.moment x s.any_moment.later left)
    where
      by : b.since a.moment x ⊎ b.may_leave x → LeftAsBefore a x
      by (inl was) = s.any_moment.each x was
      by (inr now) = s.any_moment.now x now

  before_left : (t : ℕ) (x : Content) → t ≤ a.moment → c.since t x → a.since t x ⊎ LeftAsBefore a x
  before_left t x early left = by (reads.any_moment.before t x (omega (arith, early, s.any_moment.later)) left)
    where
      by : b.since t x ⊎ b.may_leave x → a.since t x ⊎ LeftAsBefore a x
      by (inl was) = s.any_moment.before t x early was
      by (inr now) = inr (s.any_moment.now x now)

  pub read_later : IsSettled a c
  read_later = record {
    content = subst (λ x. (x ≡ a.content) ⊎ IsRenewed a.content x) (sym reads.content) s.content;
    any_moment = record { later = omega (arith, s.any_moment.later, reads.any_moment.later); now = now_left; each = each_left; before = before_left };
    as_long = ap length reads.content ∙ s.as_long;
    none_out = reads.none_out;
    no_fewer = omega (arith, s.no_fewer, reads.no_fewer);
  }
