-- Whether a board is at an end, by its power, its doze and the turns of its harts.
use Rattle.std.{proofs.Common.{◌≡◌, ℕ, ◌<◌, Bool, true, false, Option, Some, None, refl, sym, ap, subst}, specs.Option.is_some}
use Rattle.board_model.specs.{Shapes.Size, declared.durable.Reason.Reason}
use Rattle.machine.specs.Machine.{Machine}
use Rattle.model_board.specs.{Boards.{Board, Life, Standing, On, Off, Ended, standing_of}, Events.{TurnOn, IsEnd}}
use Rattle.model_board.specs.{Plain.{status_of, board_shown}, declared.powers.Power.Power}
use Rattle.model_board.specs.declared.powers.Power.TheVariants as powers
use Rattle.model_board.specs.declared.powers.Status.TheVariants as statuses

pub ended_ends : (b : Board) → statuses.Ended ≡ status_of b → IsEnd b
ended_ends (On l) is = absurd (cc)
ended_ends (Off s) is = absurd (cc)
ended_ends (Ended s) is = tt

pub off_goes : (b : Board) → statuses.Off ≡ status_of b → IsEnd b → ⊥
off_goes (On l) is end = cc
off_goes (Off s) is end = end
off_goes (Ended s) is end = cc

pub life_of_on : (b : Board) → statuses.On ≡ status_of b → (l : Life) × (b ≡ On l)
life_of_on (On l) is = (l, refl)
life_of_on (Off s) is = absurd (cc)
life_of_on (Ended s) is = absurd (cc)

none_of : {T : Type 0} (o : Option T) → false ≡ is_some o → o ≡ None
none_of None is = refl
none_of (Some x) is = absurd (cc)

some_not : {T : Type 0} (o : Option T) → true ≡ is_some o → o ≡ None → ⊥
some_not None is none = cc
some_not (Some x) is none = cc

pub doze_goes : (l : Life) → true ≡ is_some l.machine.doze → IsEnd (On l) → ⊥
doze_goes l some end = some_not l.machine.doze some end.0

pub rest_ends : (l : Life) (shape : Size) → false ≡ is_some l.machine.doze → l.machine.size ≡ shape → ((h : ℕ) (c : Board) → h < shape.harts → TurnOn h (On l) c → c ≡ On l) → IsEnd (On l)
rest_ends l shape none size rests = (none_of l.machine.doze none, λ h c lt turn. rests h c (subst (λ (s : Size). h < s.harts) size lt) turn)

pub move_goes : (l : Life) (shape : Size) → l.machine.size ≡ shape → (((h : ℕ) (c : Board) → h < shape.harts → TurnOn h (On l) c → c ≡ On l) → ⊥) → IsEnd (On l) → ⊥
move_goes l shape size moves end = moves (λ h c lt turn. end.1 h c (subst (λ (s : Size). h < s.harts) (sym size) lt) turn)

pub standing_of_ended : (b : Board) → statuses.Ended ≡ status_of b → (s : Standing) × (b ≡ Ended s)
standing_of_ended (On l) is = absurd (cc)
standing_of_ended (Off s) is = absurd (cc)
standing_of_ended (Ended s) is = (s, refl)

-- the reason of a board that ended
pub ended_reason : (power : Power) (why : Reason) (down : Bool) (m : Machine) (s : Standing) → board_shown power why down m ≡ Ended s → s.reason ≡ why
ended_reason powers.On why down m s e = absurd (cc)
ended_reason (powers.Off at) why down m s e = absurd (cc)
ended_reason powers.Ended why down m s e = sym (ap (λ (b : Board). (standing_of b).reason) e)
