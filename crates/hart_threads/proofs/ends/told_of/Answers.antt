use Rattle.std.proofs.Common.{◌∙◌, ℕ, Option, Some, ap₂, sym}
use Rattle.board_model.specs.declared.durable.Entry.{Entry}
use Rattle.hart_threads.proofs.ends.told_of.Goals as goal

pub returns-in-Some : goal.returns-in-Some
returns-in-Some g c = ap₂ (λ (n : ℕ) (e : Entry). let o : Option (ℕ × Entry) = Some (n, e) in o) c.number.ensures c.entry.ensures ∙ sym c.in-Some.is
