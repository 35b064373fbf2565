-- Local turns one after another, and what they leave of the memory.
use Rattle.std.proofs.Common.{ℕ, zero, suc, Bool, List, refl, ◌∙◌, subst}
use Rattle.board_model.specs.Shapes.{Size}
use Rattle.model_board.specs.{Boards.Board, Maps.{Map, SameOutside}}
use Rattle.state_space.specs.Orders.{Chain}
use Rattle.board_space.specs.Space.{IsSureTurn, SettlesSure}

pub same_outside : (map : Map) (m : List ℕ) → SameOutside map m m
same_outside map m = record { long = refl; same = λ j none. refl }

pub outside_on : (map : Map) (m n o : List ℕ) → SameOutside map m n → SameOutside map n o → SameOutside map m o
outside_on map m n o first then = record {
  long = then.long ∙ first.long;
  same = λ j none. then.same j none ∙ first.same j none;
}

pub settled : (size : Size) (map : Map) (leaves : Bool) (b : Board) → SettlesSure size map leaves b b
settled size map leaves b = (0, refl)

chain_on : (local : ℕ → Board → Board → Type 0) (n k : ℕ) (b c d : Board) → Chain local n b c → Chain local k c d → (m : ℕ) × Chain local m b d
chain_on local zero k b c d is then = (k, subst (λ x. Chain local k x d) is then)
chain_on local (suc n) k b c d chain then =
    let rest = chain_on local n k chain.1 c d chain.3 then in
    (suc rest.0, (chain.0, chain.1, chain.2, rest.1))

pub settles_on : (size : Size) (map : Map) (leaves : Bool) (b c d : Board) → SettlesSure size map leaves b c → SettlesSure size map leaves c d → SettlesSure size map leaves b d
settles_on size map leaves b c d first then = chain_on (IsSureTurn size map leaves) first.0 then.0 b c d first.1 then.1

pub settles_by : (size : Size) (map : Map) (leaves : Bool) (h : ℕ) (b c d : Board) → SettlesSure size map leaves b c → IsSureTurn size map leaves h c d → SettlesSure size map leaves b d
settles_by size map leaves h b c d first local = settles_on size map leaves b c d first (1, (h, d, local, refl))
