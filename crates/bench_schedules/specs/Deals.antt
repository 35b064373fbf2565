-- Turns that are dealt out to lines. Source: docs/SCRIPT.md, "Schedules".
use Rattle.std.specs.Prelude.{◌≡◌, ℕ, ◌+◌, ◌≤◌, List, [], ◌∷◌, ◌++◌, Option, Some, None, All, ⊤}
use Rattle.script_lang.specs.declared.line.Line.{Line}
use Rattle.script_lang.specs.declared.line.Line.TheVariants as lines
use Rattle.bench_schedules.specs.declared.deal.Deal.{Deal}
use Rattle.bench_schedules.specs.Orders.{IsTurn, named, left_of}

-- the deal goes on: each hart has as many turns as before, dealt and left together, and all lines are of turns
pub record GoesOn (old new : Deal) : Type 0 where
  pub same : (h : ℕ) → named h new.lines.items + left_of h new.left ≡ named h old.lines.items + left_of h old.left
  pub turns : All IsTurn old.lines.items → All IsTurn new.lines.items

-- the last line names n turns of hart h, and may name so many more
abbrev pub IsOpen : ℕ → ℕ → List Line → Option ℕ → Type 0
IsOpen h more made None = ⊤
IsOpen h more made (Some n) = (n + more ≤ 1000000) × ((before : List Line) × (made ≡ before ++ lines.Turn h n ∷ []))
