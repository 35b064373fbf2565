-- Events that lead on.
use Rattle.std.proofs.Common.{◌≡◌, ℕ, List, [], ◌∷◌, ◌++◌, refl, subst}
use Rattle.model_board.specs.{Boards.Board, Events.Event}
use Rattle.state_space.specs.Orders.{Leads, Runs}
use Rattle.board_space.specs.Space.{Asked, Happens, number_of}

runs_on : (asked : Asked) (xs ys : List Event) (a b c : Board) → Runs (Happens asked) xs a b → Runs (Happens asked) ys b c
    → Runs (Happens asked) (xs ++ ys) a c
runs_on asked [] ys a b c one two = subst (λ (s : Board). Runs (Happens asked) ys s c) one two
runs_on asked (x ∷ xs) ys a b c one two = (one.0, one.1, runs_on asked xs ys one.0 b c one.2 two)

pub leads_none : (asked : Asked) (a : Board) → Leads (Happens asked) a a
leads_none asked a = ([], refl)

pub leads_on : (asked : Asked) (a b c : Board) → Leads (Happens asked) a b → Leads (Happens asked) b c → Leads (Happens asked) a c
leads_on asked a b c one two = (one.0 ++ two.0, runs_on asked one.0 two.0 a b c one.1 two.1)

-- an event of that number, if one led on
pub leads_once : (asked : Asked) (n : ℕ) (a b : Board) → ((e : Event) × (number_of e ≡ n) × Happens asked e a b) → Leads (Happens asked) a b
leads_once asked n a b one = (one.0 ∷ [], (b, one.2, refl))
