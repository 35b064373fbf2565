-- What is known of the board of a row, while others are made of it.
use Rattle.std.{proofs.Common.{◌≡◌, ℕ, ◌<◌, Bool, List, None, refl, sym, ap, subst, ◌∙◌}, specs.Prelude.slice_index}
use Rattle.board_model.specs.{Shapes.Size, declared.durable.Reason.Reason}
use Rattle.machine.specs.Machine.{Machine}
use Rattle.model_board.specs.{Boards.{Board, Life, On, Off, Ended}, Events.{TurnOn, IsEnd}, Plain.{board_shown, standing}}
use Rattle.model_board.specs.declared.{powers.Power.Power, rests.Rest.Rest}
use Rattle.model_board.specs.declared.powers.Power.TheVariants as powers
use Rattle.board_space.specs.{Few.IsAway, Layouts.size_of, OneBoard.{one_at, one_board}, Records.IsAt, Rows.{IsAwake, Stands}, Space.IsFor}
use Rattle.board_space.{specs.declared.board_rows.BoardRows.BoardRows, proofs.Covered.{on_for, same_off, same_ended}}

-- what holds of the board of a row still holds of it where tables grew
pub held_on : (old new : BoardRows) (row : List ℕ) (known : Board) (P : Board → Type 0) → Stands old row known → ((r : List ℕ) (b : Board) → Stands old r b → Stands new r b) → ((b : Board) → Stands old row b → P b) → (b : Board) → Stands new row b → P b
held_on old new row known P at stay all b stands =
    subst P (one_board new row known b (stay row known at) stands) (all known at)

-- ---- on and awake
pub awake_by : (rows : BoardRows) (row : List ℕ) (b : Board) (rest : Rest) → IsAt rows.rests.records.items (slice_index row 0) rest → rest.power ≡ powers.On → rest.doze ≡ None → Stands rows row b → IsAwake b
awake_by rows row b rest at on none x =
    let same : x.rest ≡ rest = one_at rows.rests.records.items (slice_index row 0) x.rest rest x.rested at in (
      record { machine = x.machine; stands = standing x.rest.reason None; down = x.rest.down },
      x.shown ∙ ap (λ (p : Power). board_shown p x.rest.reason x.rest.down x.machine) (ap (λ (r : Rest). r.power) same ∙ on),
      x.is.doze ∙ (ap (λ (r : Rest). r.doze) same ∙ none),
    )

-- ---- off
-- the same of each board for which it stands
pub away_for : (leaves : Bool) (b d : Board) → IsFor leaves b d → IsAway b → IsAway d
away_for leaves (On l) d is away = absurd away
away_for leaves (Off s) d is away = subst IsAway (sym (same_off leaves (Off s) d refl is)) tt
away_for leaves (Ended s) d is away = absurd away

pub for_away : (leaves : Bool) (b d : Board) → IsFor leaves b d → IsAway d → IsAway b
for_away leaves (On l) d is away =
    let on = on_for leaves l d is in
    subst IsAway on.1 away
for_away leaves (Off s) d is away = tt
for_away leaves (Ended s) d is away = subst IsAway (same_ended leaves (Ended s) d refl is) away

-- ---- at no end
abbrev life_in : Life → Board → Life
life_in d (On l) = l
life_in d (Off s) = d
life_in d (Ended s) = d

size_on : (power : Power) (reason : Reason) (down : Bool) (m : Machine) (l : Life) → board_shown power reason down m ≡ On l → l.machine.size ≡ m.size
size_on powers.On reason down m l e = sym (ap (λ (b : Board). (life_in l b).machine.size) e)
size_on (powers.Off at) reason down m l e = absurd (cc)
size_on powers.Ended reason down m l e = absurd (cc)

-- a turn of a hart changes it
pub moved_goes : (rows : BoardRows) (row : List ℕ) (leaves : Bool) (h : ℕ) (b d : Board) → Stands rows row b → IsFor leaves b d → h < (size_of rows.layout).harts → (((c : Board) → TurnOn h d c → c ≡ d) → ⊥) → IsEnd d → ⊥
moved_goes rows row leaves h (On l) d stands is low moves end =
    let on = on_for leaves l d is in
    let size : l.machine.size ≡ stands.machine.size = size_on stands.rest.power stands.rest.reason stands.rest.down stands.machine l (sym stands.shown) in
    let lt : h < on.0.machine.size.harts = subst (λ (s : Size). h < s.harts) (sym (on.3 ∙ (size ∙ stands.is.size))) low in
    subst (λ (a : Board). ((c : Board) → TurnOn h a c → c ≡ a) → ⊥) on.1 moves (λ c turn. (subst (λ (a : Board). IsEnd a) on.1 end).1 h c lt turn)
moved_goes rows row leaves h (Off s) d stands is low moves end =
    subst (λ (a : Board). IsEnd a) (same_off leaves (Off s) d refl is) end
moved_goes rows row leaves h (Ended s) d stands is low moves end =
    subst (λ (a : Board). ((c : Board) → TurnOn h a c → c ≡ a) → ⊥) (same_ended leaves (Ended s) d refl is) moves (λ c turn. turn)
