use Rattle.std.{proofs.{Common.{◌≡◌, List, [], ◌∷◌, Some, length, ap, arith}, lemmas.List.Elements.{All-head, All-tail}}, specs.List.All}
use Rattle.board_model.{proofs.Steps.whole_after, specs.Durable.{DurableState, Image, Change, after, fold, IsWhole, CarriesWhole}}
use Rattle.board_model.specs.Shapes.{Size, IsSize, ram_bytes_of}
use Rattle.board_model.proofs.laws.images_stay_whole.Goals as goal

all_stay : (size : Size) (s : DurableState) (cs : List Change) → IsWhole size s → All (CarriesWhole size) cs → IsWhole size (fold s cs)
all_stay size s [] whole carry = whole
all_stay size s (c ∷ cs) whole carry = all_stay size (after s c) cs (whole_after size s c whole (All-head (CarriesWhole size) c cs carry)) (All-tail (CarriesWhole size) c cs carry)

some_bytes : (size : Size) (s : DurableState) (i : Image) → IsSize size → IsWhole size s → s.image ≡ Some i → i.memory ≡ [] → ⊥
some_bytes size s i is whole image none =
    let long : length i.memory ≡ ram_bytes_of size = rw image at whole in
    let short : length i.memory ≡ 0 = ap length none in
    omega (arith, is.2, long, short)

pub returns-clause-next : goal.returns-clause-next
returns-clause-next c = whole_after

pub returns-clause-all : goal.returns-clause-all
returns-clause-all c = all_stay

pub returns-clause-some : goal.returns-clause-some
returns-clause-some c = some_bytes
