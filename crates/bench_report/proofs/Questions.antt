-- What is known of a question, by what is said of it: nothing but what was refused is counted.
use Rattle.std.proofs.Common.{◌≡◌, ◌⊎◌, Bool, false, inl, inr, Option, Some, None, refl}
use Rattle.board_model.specs.{Durable.DurableState, Shapes.Size}
use Rattle.disk.specs.Facts.{Content}
use Rattle.machine.specs.declared.line.MachineLine.TheVariants as shown
use Rattle.report_lines.specs.declared.printed.{Printed.Printed, Answer.Answer}
use Rattle.report_lines.specs.declared.printed.Printed.TheVariants as printed
use Rattle.bench_report.specs.{Bench.{BenchLife, Bench}, Deeds.{Question, OfBoard, OfDisk}, Happens.{says, out_of_memory, FailsByFault}}
use Rattle.bench_report.specs.{Examined.Tells, Prefix.{Nothing, LineImplies, is_format_ok}, Steps.QuestionStep}

-- what is said tells of no command and of no format
pub record TellsOfNone (said : Printed) : Type 0 where
  pub tells : (s t : DurableState) (up : Bool) → t ≡ s → LineImplies Nothing said s up t up
  pub no_format : is_format_ok said ≡ false

-- it was answered, and the bench is as it was; or memory was refused, or the disk failed
abbrev pub IsAsked : Bench → Answer → Bench → Type 0
IsAsked b a new =
    ((said : Printed) × TellsOfNone said × (a ≡ says said) × (new ≡ b))
    ⊎ ((a ≡ says (printed.InspectRefused 11)) × (new ≡ out_of_memory b))
    ⊎ ((a ≡ says (printed.InspectRefused 5)) × FailsByFault b new)

of_content : (c : Content) (line : Printed) → Tells c line → TellsOfNone line
of_content c (printed.Inspected i) told = record { tells = λ s t up e. (e, refl); no_format = refl }
of_content c (printed.InspectRefused n) told = record { tells = λ s t up e. (e, refl); no_format = refl }
of_content c line told = absurd told

pub is_asked : (size : Size) (question : Question) (p : Option BenchLife) (b : Bench) (a : Answer) (new : Bench) → QuestionStep size question p b a new → IsAsked b a new
is_asked size (OfBoard look) None b a new x = inl (printed.Shown shown.Off, record { tells = λ s t up e. (e, refl); no_format = refl }, x.0, x.1)
is_asked size (OfBoard look) (Some life) b a new (line, so, e, is) = inl (printed.Shown line, record { tells = λ s t up e. (e, refl); no_format = refl }, e, is)
is_asked size OfDisk None b a new (inl (c, reads, inl (line, told, e, is))) = inl (line, of_content c line told, e, is)
is_asked size OfDisk None b a new (inl (c, reads, inr x)) = inr (inl (x.1, x.2))
is_asked size OfDisk None b a new (inr x) = inr (inr x)
is_asked size OfDisk (Some life) b a new x = inl (printed.Busy, record { tells = λ s t up e. (e, refl); no_format = refl }, x.0, x.1)
