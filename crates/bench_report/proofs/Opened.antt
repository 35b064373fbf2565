-- What a power-on says of the content that it opened.
use Rattle.std.proofs.Common.{◌≡◌, ◌⊎◌, ◌∙◌, ℕ, List, Option, None, Some, IfSome, inl, inr, ap}
use Rattle.board_model.specs.{Views.{durable_of, number_of_refusal}, declared.{boot_mode.BootMode.BootMode, durable.Durable.Durable}}
use Rattle.board_model.specs.{declared.refusal.Refusal.{Refusal, TheVariants.Device}, Durable.DurableState, Shapes.Size}
use Rattle.disk.specs.Facts.{Facts}
use Rattle.machine.specs.Machine.{Machine}
use Rattle.store.specs.{Answers.StoreView, Opens.ReadsAs, Standing.StandsFor}
use Rattle.board.specs.PowersOn.{IsOn, IsUnpowered}
use Rattle.report_lines.specs.declared.printed.Answer.{Answer}
use Rattle.report_lines.specs.declared.printed.Printed.TheVariants as printed
use Rattle.bench_report.specs.{Happens.says, Examined.OpensOf}

pub opened_ok : (mode : BootMode) (payloads : List (List ℕ)) (disk : Facts) (store : StoreView) (machine : Machine) (found : Durable) → IsOn mode payloads disk store machine
    → ((e : Refusal) → ReadsAs disk.content e → ⊥) → found ≡ durable_of store.life.found → OpensOf disk.content (record { found = Some found; line = printed.On mode })
opened_ok mode payloads disk store machine found on none is = record { shows = (store.size, store.life.found, on.reads, is); refuses = λ e reads. absurd (none e reads) }

-- what is told of an open or a boot that was refused by this number
abbrev told : Option Durable → ℕ → Answer
told found n = record { found = found; line = printed.OnRefused n }

module _ (mode : BootMode) (payloads : List (List ℕ)) (old new : Facts) where
  shows : (found now : Option Durable) (e : Refusal) → IsUnpowered mode payloads found now old e new
      → IfSome found (λ d. (size : Size) × (s : DurableState) × StandsFor old.content size s × (d ≡ durable_of s))
  shows None now e off = tt
  shows (Some found) (Some now) e off = (off.size, off.state, off.reads, off.shows)
  shows (Some found) None e off = absurd off

  refused : (found : Option Durable) (e f : Refusal) (n : ℕ) → n ≡ number_of_refusal e → found ≡ None → e ≡ f → told found n ≡ says (printed.OnRefused (number_of_refusal f))
  refused found e f n code none is = ap (λ (o : Option Durable). told o n) none ∙ ap (λ k. says (printed.OnRefused k)) (code ∙ ap number_of_refusal is)

  by_reason : (found : Option Durable) (e f : Refusal) (n : ℕ) → n ≡ number_of_refusal e → found ≡ None → (e ≡ f) ⊎ (e ≡ Device)
      → (told found n ≡ says (printed.OnRefused (number_of_refusal f))) ⊎ (told found n ≡ says (printed.OnRefused 5))
  by_reason found e f n code none (inl is) = inl (refused found e f n code none is)
  by_reason found e f n code none (inr is) = inr (refused found e Device n code none is)

  pub opened_err : (found now : Option Durable) (e : Refusal) (n : ℕ) → IsUnpowered mode payloads found now old e new
      → ((f : Refusal) → ReadsAs old.content f → (found ≡ None) × ((e ≡ f) ⊎ (e ≡ Device))) → n ≡ number_of_refusal e
      → OpensOf old.content (told found n)
  opened_err found now e n off none code = record {
    shows = shows found now e off;
    refuses = λ f reads. (let at = none f reads in by_reason found e f n code at.0 at.1);
  }
