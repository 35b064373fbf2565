-- A story goes on by one step.
use Rattle.std.proofs.{Common.{◌≡◌, ◌+◌, ◌<◌, ℕ, List, [], ◌∷◌, ◌++◌, refl, sym, subst, length, get_or, take}, lemmas.List.take_more}
use Rattle.board_model.specs.Shapes.{Size}
use Rattle.theorem.specs.{Story.{Now, Step, Tells}, declared.asks.{Asked.Asked, Seen.Seen}}

one_more : (size : Size) (w u v : Now) (asks : List Asked) (answers : List Seen) (ask : Asked) (answer : Seen) → Tells size w asks answers u → Step size u ask answer v → Tells size w (asks ++ ask ∷ []) (answers ++ answer ∷ []) v
one_more size w u v [] [] ask answer told step = (v, subst (λ (x : Now). Step size x ask answer v) told step, refl)
one_more size w u v (a ∷ asks) (s ∷ answers) ask answer told step = (told.0, told.1, one_more size told.0 u v asks answers ask answer told.2 step)
one_more size w u v [] (s ∷ answers) ask answer told step = absurd told
one_more size w u v (a ∷ asks) [] ask answer told step = absurd told

pub more : (size : Size) (w u v : Now) (asks : List Asked) (i : ℕ) (ask : Asked) (answers new : List Seen) (answer : Seen) → i < length asks → ask ≡ get_or asks i ask → new ≡ answers ++ answer ∷ []
    → Tells size w (take i asks) answers u → Step size u ask answer v → Tells size w (take (i + 1) asks) new v
more size w u v asks i ask answers new answer lt is grown told step =
    let P : List Asked → Type 0 = λ xs. Tells size w xs new v in
    let Q : List Seen → Type 0 = λ ys. Tells size w (take i asks ++ ask ∷ []) ys v in
    let same : take (i + 1) asks ≡ take i asks ++ ask ∷ [] = subst (λ (x : Asked). take (i + 1) asks ≡ take i asks ++ x ∷ []) (sym is) (take_more asks i ask lt) in
    subst P (sym same) (subst Q (sym grown) (one_more size w u v (take i asks) answers ask answer told step))
