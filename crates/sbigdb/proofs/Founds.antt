-- A script up to where what was found parts from it.
use Rattle.std.proofs.Common.{◌≡◌, ◌⊎◌, inl, inr, ◌∙◌, ℕ, List, [], ◌∷◌, ◌++◌, Some, Result, Ok, Err, refl, ap, subst, sym}
use Rattle.std.{specs.Prelude.IfOk, proofs.lemmas.Result.IfOk-weaker}
use Rattle.board_model.specs.{Shapes.Size, declared.refusal.Refusal.{Refusal, TheVariants.{BadShape, Memory, NotPlain, Output}}}
use Rattle.script_lang.specs.{Scripts.{Script, script_of}, Spellings.script_text, Views.view}
use Rattle.script_lang.specs.declared.scripts.Script as code
use Rattle.bench_schedules.specs.Orders.{IsScheduleOf}
use Rattle.sbigdb.specs.declared.given.{ScheduleChoice.ScheduleChoice, Begin.TheVariants.{Cut, End, Failure, Schedule}}
use Rattle.sbigdb.{specs.{Begins.{BeginsAt, IsRow, NoRow, PartsAt}, Strikes.StopsBefore}, proofs.Partings.{parts_nowhere, same_script}}
use Rattle.bench_sweep.specs.{Shown.{NoRowOf, ShownRow}, Swept.NoBenchRuns, declared.points.BenchKind.BenchKind}
use Rattle.bench_sweep.specs.declared.points.BenchKind.TheVariants.{Cuts, Fails}

pub begins_end : (text : List ℕ) (payloads : List (List ℕ)) (own : Script) → script_of text ≡ Ok own → BeginsAt End text payloads own
begins_end text payloads own read = record {
  said = own;
  read = read;
  found = own;
  is = refl;
  board = refl;
  stops = parts_nowhere own.lines;
}

both_parts : (r : Result code.Script Refusal) (own found : code.Script) → IfOk r (λ s. s.shape ≡ own.shape) → IfOk r (λ s. PartsAt own.lines.items found.lines.items s.lines.items)
    → IfOk r (λ s. ((view s).size ≡ (view own).size) × PartsAt (view own).lines (view found).lines (view s).lines)
both_parts (Ok s) own found board parts = (board, parts)
both_parts (Err e) own found board parts = tt

pub begins_schedule : (drawn : ScheduleChoice) (text : List ℕ) (payloads : List (List ℕ)) (own found : code.Script) (said : Script) (r : Result code.Script Refusal) → script_of text ≡ Ok said → script_of text ≡ Ok (view own)
    → IsScheduleOf said (view found) → IfOk r (λ s. s.shape ≡ own.shape) → IfOk r (λ s. PartsAt own.lines.items found.lines.items s.lines.items) → IfOk r (λ s. BeginsAt (Schedule drawn) text payloads (view s))
begins_schedule drawn text payloads own found said r one other is board parts =
    let same = same_script _ _ _ one other in
    IfOk-weaker r _ _
    (λ s both. record {
      said = view own;
      read = other;
      found = view found;
      is = subst (λ (x : Script). IsScheduleOf x (view found)) same is;
      board = both.0;
      stops = both.1;
    })
    (both_parts r own found board parts)

-- ---- a row
pub row_shown : (kind : BenchKind) (number : ℕ) (said : Script) (begins payloads : List (List ℕ)) (old new text : List ℕ) → begins ≡ payloads → old ≡ [] → new ≡ text
    → ShownRow kind said.size begins said.lines number (Some old) (Some new) → ShownRow kind said.size payloads said.lines number (Some []) (Some text)
row_shown kind number said begins payloads old new text one two three shown =
    let A : List (List ℕ) → Type 0 = λ x. ShownRow kind said.size x said.lines number (Some old) (Some new) in
    let B : List ℕ → Type 0 = λ x. ShownRow kind said.size payloads said.lines number (Some x) (Some new) in
    let C : List ℕ → Type 0 = λ x. ShownRow kind said.size payloads said.lines number (Some []) (Some x) in
    subst C three (subst B two (subst A one shown))

pub row_text : (old new : List ℕ) (found is : Script) → old ≡ [] → new ≡ old ++ (script_text found ++ 10 ∷ []) → is ≡ found → new ≡ script_text is ++ 10 ∷ []
row_text old new found is none text same = text ∙ ap (λ (x : List ℕ). x ++ (script_text found ++ 10 ∷ [])) none ∙ ap (λ (s : Script). script_text s ++ 10 ∷ []) (sym same)

pub row_refused : (kind : BenchKind) (number : ℕ) (text : List ℕ) (begins payloads : List (List ℕ)) (e : Refusal) → begins ≡ payloads
    → (e ≡ Memory) ⊎ (e ≡ Output) ⊎ (script_of text ≡ Err e) ⊎ ((e ≡ NotPlain) × NoBenchRuns text) ⊎ ((e ≡ BadShape) × NoRowOf kind number begins text)
    → (e ≡ Memory) ⊎ (e ≡ Output) ⊎ (script_of text ≡ Err e) ⊎ NoRow kind number text payloads e
row_refused kind number text begins payloads e same (inl memory) = inl memory
row_refused kind number text begins payloads e same (inr (inl output)) = inr (inl output)
row_refused kind number text begins payloads e same (inr (inr (inl fault))) = inr (inr (inl fault))
row_refused kind number text begins payloads e same (inr (inr (inr (inl plain)))) = inr (inr (inr (inl plain)))
row_refused kind number text begins payloads e same (inr (inr (inr (inr none)))) =
    let P : List (List ℕ) → Type 0 = λ x. NoRowOf kind number x text in inr (inr (inr (inr (none.0, subst P same none.1))))

-- up to where it strikes
pub row_stops : (kind : BenchKind) (number : ℕ) (text : List ℕ) (payloads : List (List ℕ)) (found : code.Script) (said : Script) (r : Result code.Script Refusal) → script_of text ≡ Ok said → (view found).size ≡ said.size
    → IsRow kind number said payloads (view found) → IfOk r (λ s. StopsBefore found.shape payloads found.lines.items s.lines.items) → IfOk r (λ s. s.shape ≡ found.shape)
    → IfOk r (λ s. (said : Script) × (found : Script) × (script_of text ≡ Ok said) × IsRow kind number said payloads found × ((view s).size ≡ said.size) × StopsBefore said.size payloads found.lines (view s).lines)
row_stops kind number text payloads found said (Ok s) read size is stops board =
    let P : Size → Type 0 = λ z. StopsBefore z payloads found.lines.items s.lines.items in (said, view found, read, is, board ∙ size, subst P size stops)
row_stops kind number text payloads found said (Err e) read size is stops board = tt

pub begins_cut : (number : ℕ) (text : List ℕ) (payloads : List (List ℕ)) (script : Script) → (said : Script) × (found : Script) × (script_of text ≡ Ok said) × IsRow Cuts number said payloads found × (script.size ≡ said.size)
    × StopsBefore said.size payloads found.lines script.lines → BeginsAt (Cut number) text payloads script
begins_cut number text payloads script (said, found, read, is, board, stops) = record { said = said; read = read; found = found; is = is; board = board; stops = stops }

pub begins_failure : (number : ℕ) (text : List ℕ) (payloads : List (List ℕ)) (script : Script) → (said : Script) × (found : Script) × (script_of text ≡ Ok said) × IsRow Fails number said payloads found × (script.size ≡ said.size)
    × StopsBefore said.size payloads found.lines script.lines → BeginsAt (Failure number) text payloads script
begins_failure number text payloads script (said, found, read, is, board, stops) =
    record { said = said; read = read; found = found; is = is; board = board; stops = stops }
