-- Of which task a plan is when it begins.
use Rattle.std.proofs.Common.{◌≡◌, ◌∙◌, inl, inr, ℕ, ap}
use Rattle.board_model.specs.Shapes.{Size}
use Rattle.planned_store.specs.{Plans.{BeginsOpen, BeginsFormat, FormatBegins, Opens, Formats, task_of}, declared.plans.Plan.Plan}
use Rattle.planned_store.specs.declared.formats.Formatting.{Formatting as Format}

pub open_task : (n : ℕ) (p : Plan) → BeginsOpen n p → task_of p ≡ Opens
open_task n p (inl begins) = ap task_of begins.1
open_task n p (inr begins) = ap task_of begins.1

format_shape : (n : ℕ) (size : Size) (f : Format) → FormatBegins n size f → f.shape ≡ size
format_shape n size f (inl begins) = ap (λ (x : Format). x.shape) begins.1
format_shape n size f (inr begins) = ap (λ (x : Format). x.shape) begins.1

pub format_task : (n : ℕ) (size : Size) (p : Plan) → BeginsFormat n size p → task_of p ≡ Formats size
format_task n size p begins = ap task_of begins.2 ∙ ap Formats (format_shape n size begins.0 begins.1)
