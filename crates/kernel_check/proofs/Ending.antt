-- What an end shows of which the whole memory is known.
use Rattle.std.proofs.Common.{Bool, true, Result, IfOk, inr, Option, Some, IfSome, subst, ◌≡◌, ◌∙◌, ◌≤◌, ◌+◌, ◌-◌, ℕ, List, [], ◌∷◌, ◌++◌, Vec, Global, drop, take, ap, arith, refl, sym}
use Rattle.std.{specs.Prelude.slice_range, proofs.lemmas.{List.{drop-take, take-take, Elements.{All-head, All-tail}}, Result.IfOk-weaker}}
use Rattle.board_model.specs.declared.{durable.Reason.Reason, refusal.Refusal.Refusal}
use Rattle.model_board.specs.{Boards.{Board, On, Off, Ended}, Events.IsEnd}
use Rattle.board_space.specs.{Shown.Shows, Space.{Asked, Happens, start_of}, declared.outcomes.Outcome.{Outcome, TheVariants.{Rests, Ends}}}
use Rattle.state_space.specs.Orders.{Leads}
use Rattle.kernel_check.specs.{Failures.{AreOthers, AreSame, Differ}, declared.facts.EndShown.EndShown, Shown.{AreIn, IsIn, looked}}
use Rattle.kernel_check.specs.{Tells.{Comes, EndsWith, ShownBy}, declared.looks.Look.Look}
use Rattle.kernel_check.specs.declared.facts.EndShown.TheVariants as shown

-- bytes among the first `ram`
part_in : (memory : List ℕ) (ram start bytes : ℕ) → start + bytes ≤ ram
    → slice_range (take ram memory) start (start + bytes) ≡ slice_range memory start (start + bytes)
part_in memory ram start bytes within =
    let more : ram ≡ start + (ram - start) = omega (arith, within) in
    ap (λ (n : ℕ). slice_range (take n memory) start (start + bytes)) more
    ∙ ap (λ (l : List ℕ). take (start + bytes - start) l) (drop-take start (ram - start) memory)
    ∙ take-take (start + bytes - start) (ram - start) (drop start memory) (omega (arith, within))

looked_in : (looks : List Look) (ram : ℕ) (memory : List ℕ) → AreIn ram looks → looked looks (take ram memory) ≡ looked looks memory
looked_in [] ram memory are = refl
looked_in (look ∷ looks) ram memory are =
    ap (λ (part : List ℕ). part ++ looked looks (take ram memory)) (part_in memory ram look.start look.bytes (All-head (IsIn ram) look looks are))
    ∙ ap (λ (rest : List ℕ). slice_range memory look.start (look.start + look.bytes) ++ rest) (looked_in looks ram memory (All-tail (IsIn ram) look looks are))

-- the first `ram` bytes
whole : (memory : List ℕ) (ram : ℕ) → slice_range memory 0 ram ≡ take ram memory
whole memory ram = let e : ram - 0 ≡ ram = omega arith in ap (λ (n : ℕ). take n memory) e

rests_so : (looks : List Look) (ram : ℕ) (memory bytes : Vec ℕ Global) (b : Board) → AreIn ram looks → bytes.items ≡ looked looks memory.items
    → Shows 0 ram (Rests memory) b → ShownBy looks b (shown.On bytes)
rests_so looks ram memory bytes (On l) are is shows =
    sym (is ∙ ap (looked looks) (sym shows ∙ whole l.machine.memory ram) ∙ looked_in looks ram l.machine.memory are)
rests_so looks ram memory bytes (Off s) are is shows = tt
rests_so looks ram memory bytes (Ended s) are is shows = absurd shows

pub rests_with : (asked : Asked) (looks : List Look) (ram : ℕ) (memory bytes : Vec ℕ Global) → AreIn ram looks → bytes.items ≡ looked looks memory.items
    → Comes asked (λ b. IsEnd b × Shows 0 ram (Rests memory) b) → EndsWith asked looks (shown.On bytes)
rests_with asked looks ram memory bytes are is comes =
    (comes.0, comes.1, (comes.2.0, rests_so looks ram memory bytes comes.0 are is comes.2.1))

-- what a search finds of an end
abbrev IsFoundEnd : Asked → ℕ → Outcome → Type 0
IsFoundEnd asked ram outcome = (b : Board) × Leads (Happens asked) (start_of asked) b × IsEnd b × Shows 0 ram outcome b

pub rests_found : (asked : Asked) (looks : List Look) (ram : ℕ) (found : Option Outcome) (outcome : Outcome) (memory bytes : Vec ℕ Global)
    → AreIn ram looks → bytes.items ≡ looked looks memory.items → found ≡ Some outcome → outcome ≡ Rests memory
    → IfSome found (λ o. (b : Board) × Leads (Happens asked) (start_of asked) b × IsEnd b × Shows 0 ram o b) → EndsWith asked looks (shown.On bytes)
rests_found asked looks ram found outcome memory bytes are is some rests end =
    let known : IsFoundEnd asked ram outcome = subst (λ (f : Option Outcome). IfSome f (IsFoundEnd asked ram)) some end in
    let e : IsFoundEnd asked ram (Rests memory) = subst (IsFoundEnd asked ram) rests known in
    rests_with asked looks ram memory bytes are is (e.0, e.1, (e.2, e.3))

ends_so : (looks : List Look) (ram : ℕ) (why : Reason) (b : Board) → Shows 0 ram (Ends why) b → ShownBy looks b (shown.Shutdown why)
ends_so looks ram why (On l) shows = absurd shows
ends_so looks ram why (Off s) shows = tt
ends_so looks ram why (Ended s) shows = shows

pub ends_with : (asked : Asked) (looks : List Look) (ram : ℕ) (why : Reason) → Comes asked (λ b. IsEnd b × Shows 0 ram (Ends why) b)
    → EndsWith asked looks (shown.Shutdown why)
ends_with asked looks ram why comes = (comes.0, comes.1, (comes.2.0, ends_so looks ram why comes.0 comes.2.1))

-- an end that shows the same as another thing
shown_as : (looks : List Look) (b : Board) (one other : EndShown) → AreSame one other → ShownBy looks b one → ShownBy looks b other
shown_as looks (On l) (shown.On bytes) (shown.On others) same shows = shows ∙ same
shown_as looks (Off s) (shown.On bytes) (shown.On others) same shows = tt
shown_as looks (Ended s) (shown.On bytes) (shown.On others) same shows = shows
shown_as looks (On l) (shown.Shutdown why) (shown.Shutdown other) same shows = shows
shown_as looks (Off s) (shown.Shutdown why) (shown.Shutdown other) same shows = tt
shown_as looks (Ended s) (shown.Shutdown why) (shown.Shutdown other) same shows = shows ∙ same
shown_as looks b (shown.On bytes) (shown.Shutdown why) same shows = absurd same
shown_as looks b (shown.Shutdown why) (shown.On bytes) same shows = absurd same

pub same_end : (asked : Asked) (looks : List Look) (one other : EndShown) → AreSame one other → EndsWith asked looks one → EndsWith asked looks other
same_end asked looks one other same ends = (ends.0, ends.1, (ends.2.0, shown_as looks ends.0 one other same ends.2.1))

-- an end, and another one that shows not the same
pub differ_by : (asked a : Asked) (looks : List Look) (found : Option EndShown) (one : EndShown) (r : Result Bool Refusal)
    → a ≡ asked → found ≡ Some one → IfSome found (EndsWith asked looks)
    → IfOk r (λ yes. yes ≡ true → (other : EndShown) × EndsWith a looks other × AreOthers one other) → IfOk r (λ yes. yes ≡ true → Differ asked looks)
differ_by asked a looks found one r same some ends others =
    let first : EndsWith asked looks one = subst (λ (o : Option EndShown). IfSome o (EndsWith asked looks)) some ends in
    IfOk-weaker r _ _ (λ yes is so. let x = is so in (one, first, inr (x.0, subst (λ (b : Asked). EndsWith b looks x.0) same x.1, x.2))) others
