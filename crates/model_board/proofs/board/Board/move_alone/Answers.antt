use Rattle.std.proofs.Common.{ℕ, Bool, true, false, ◌≡◌, refl, sym, ap, subst}
use Rattle.sbi_calls.specs.declared.words.Turned.TheVariants.{Made}
use Rattle.sbi_calls.specs.declared.words.Did.TheVariants as dids
use Rattle.board_model.specs.declared.durable.Reason.{Reason}
use Rattle.machine.specs.Machine.{Machine, hart_at}
use Rattle.model_board.specs.{Boards.Board, Registers.MovesPc, declared.powers.Power.Power, Maps.{Map, MovesTo, SameOutside, moved}}
use Rattle.model_board.{specs.{Masks.map_of, Plain.{Sized, board_shown}}, proofs.{Locals.keeps_own, Outside.{turn_outside, same_memory}}}
use Rattle.model_board.proofs.Swaps.{local_turn}
use Rattle.model_board.specs.declared.powers.Power.TheVariants as powers
use Rattle.model_board.proofs.board.Board.move_alone.Goals as goal

-- what a machine that made a local turn leaves of its memory, or that made none
outside_moved : (map : Map) (h : ℕ) (m n : Machine) (made : Bool) → (made ≡ true → MovesTo map h m n) → (made ≡ false → n ≡ m) → SameOutside map m.memory n.memory
outside_moved map h m n true moves stays =
    let x = moves refl in
    subst (λ (k : Machine). SameOutside map m.memory k.memory) (sym x.3)
    (turn_outside map h m (moved h x.0 x.1 m) (Made dids.Next) (keeps_own map h m x.0 x.1 x.2) (local_turn map h m x.0 x.1 x.2))
outside_moved map h m n false moves stays =
    same_memory map m.memory n.memory (ap (λ (k : Machine). k.memory) (stays refl))

pub returns-in-On-clause-outside : goal.returns-in-On-clause-outside
returns-in-On-clause-outside c =
    let is : c.self.inside.machine ≡ c.args.self.now.machine = ap (λ (b : Sized). b.machine) c.self.view_is in
    subst (λ (m : Machine). SameOutside (map_of c.args.map.now) m.memory c.move_alone.new.self.memory) is
    (outside_moved (map_of c.args.map.now) c.args.hart c.self.inside.machine c.move_alone.new.self c.move_alone.result c.move_alone.ensures.local c.move_alone.ensures.stays)

-- both boards are on
moves_shown : (h : ℕ) (power : Power) (reason : Reason) (down : Bool) (m n : Machine) (b : Board) → board_shown power reason down m ≡ b → power ≡ powers.On → ((hart_at n h).pc ≡ (hart_at m h).pc → ⊥) → MovesPc h b (board_shown power reason down n)
moves_shown h powers.On reason down m n b shown is moves =
    subst (λ (x : Board). MovesPc h x (board_shown powers.On reason down n)) shown moves
moves_shown h (powers.Off at) reason down m n b shown is moves = absurd (cc)
moves_shown h powers.Ended reason down m n b shown is moves = absurd (cc)

pub returns-in-On-clause-moves : goal.returns-in-On-clause-moves
returns-in-On-clause-moves c = λ e.
    moves_shown c.args.hart c.self.inside.power c.self.inside.reason c.self.inside.down c.self.inside.machine c.move_alone.new.self c.args.self.now.board (ap (λ (b : Sized). b.board) c.self.view_is) c.in-On.is (c.move_alone.ensures.moves e)
