-- A turn that reads nothing that is minded.
use Rattle.std.proofs.Common.{◌≡◌, ◌==◌, ◌%◌, ℕ, Bool, true, false, List, [], ◌∷◌, length, nat_lt, Option, Some, None, refl, sym, ap, ap₂, ◌∙◌, arith}
use Rattle.std.{specs.{Prelude.{All, ◌&&◌, not, if◌then◌else◌}, Bool.MatchBool}, proofs.lemmas.List.Elements.{All-head, All-tail}}
use Rattle.hart.specs.{Means.word_at, State.ArchState}
use Rattle.machine.specs.Machine.{Machine, hart_at}
use Rattle.rv_decode.specs.{Spells.{Reads, spells}, declared.instr.Instr.Instr}
use Rattle.rv_decode.specs.declared.instr.Instr.TheVariants as instr
use Rattle.debug_session.specs.Firsts.{ReadsAs, is_kept, is_unread, minds_reads, seen_by, seen_in, touched_since}
use Rattle.debug_session.specs.Loads.{Fetches, LoadsAt, LoadsNext, LoadsNone, is_stepping, is_there, load_in, made_load}
use Rattle.debug_session.specs.declared.{loads.Load.Load, stops.{SeenBytes.SeenBytes, Watchpoint.Watchpoint}}
use Rattle.debug_session.proofs.OneLoad.{one_fetch, one_load}

-- ---- a word that is that of no load
other_word : (w : ℕ) → (w % 128 == 3) ≡ false → w % 128 ≡ 3 → ⊥
other_word w other three = let no : true ≡ false = ap (λ (n : ℕ). n == 3) (sym three) ∙ other in absurd (let never : ⊥ = cc in never)

no_load_in : (i : Instr) (w : ℕ) (s : ArchState) → spells i w → (w % 128 == 3) ≡ false → load_in (Some i) s ≡ None
no_load_in (instr.Load op rd rs1 imm) w s is other = absurd (other_word w other (omega (arith, is)))
no_load_in i w s is other = refl

pub no_load_word : (m : Machine) (h w : ℕ) → w ≡ word_at m.memory (hart_at m h).pc → (w % 128 == 3) ≡ false → LoadsNone m h
no_load_word m h w is other = λ i fetch. by_fetch (is_there m.memory (hart_at m h).pc 4) i fetch
  where
    at : ℕ
    at = word_at m.memory (hart_at m h).pc

    by_fetch : (t : Bool) (i : Option Instr) → MatchBool t (Reads i at) (i ≡ None) → load_in i (hart_at m h) ≡ None
    by_fetch t None fetch = refl
    by_fetch true (Some i) fetch = no_load_in i at (hart_at m h) fetch (ap (λ (n : ℕ). n % 128 == 3) (sym is) ∙ other)
    by_fetch false (Some i) fetch = absurd (let never : ⊥ = cc in never)

-- ---- what nothing minds
none_unread : (minds : Bool) → (if minds then not false else true) ≡ true
none_unread true = refl
none_unread false = refl

unread_since : (now : Option Machine) (load : Option Load) (xs : List SeenBytes) → All (λ was. is_unread was.watch load ≡ true) xs → touched_since now load (seen_in xs) ≡ touched_since now None (seen_in xs)
unread_since now load [] all = refl
unread_since now load (was ∷ more) all =
    let Unread : SeenBytes → Type 0 = λ x. is_unread x.watch load ≡ true in
    let here : is_unread was.watch load ≡ is_unread was.watch None = All-head Unread was more all ∙ sym (none_unread (minds_reads was.watch.kind)) in
    let kept = is_kept was.watch was.bytes.items (seen_by now was.watch) in
    ap₂ (λ (unread : Bool) (rest : Option Watchpoint). if kept && unread then rest else Some was.watch) here (unread_since now load more (All-tail Unread was more all))

made_since : (memory : List ℕ) (now : Option Machine) (load : Option Load) (xs : List SeenBytes) → All (λ was. is_unread was.watch load ≡ true) xs → touched_since now (made_load memory load) (seen_in xs) ≡ touched_since now None (seen_in xs)
made_since memory now None xs all = refl
made_since memory now (Some l) xs all = by_there (is_there memory l.address l.count)
  where
    by_there : (t : Bool) → touched_since now (if t then Some l else None) (seen_in xs) ≡ touched_since now None (seen_in xs)
    by_there true = unread_since now (Some l) xs all
    by_there false = refl

-- ---- what the next turn reads
-- a turn of an instruction, or one that reads nothing
reads_none_as : (m : Machine) (h : ℕ) (before : List (Watchpoint × List ℕ))
    → ((i : Option Instr) → Fetches m.memory (hart_at m h).pc i → (now : Option Machine) → touched_since now (made_load m.memory (load_in i (hart_at m h))) before ≡ touched_since now None before)
    → ReadsAs (Some m) h before None
reads_none_as m h before same = λ now load next. by_hart now load (nat_lt h (length m.harts)) next
  where
    none_as : (now : Option Machine) (load : Option Load) → load ≡ None → touched_since now load before ≡ touched_since now None before
    none_as now load is = ap (λ (x : Option Load). touched_since now x before) is

    by_stepping : (now : Option Machine) (load : Option Load) (t : Bool) → MatchBool t ((i : Option Instr) × Fetches m.memory (hart_at m h).pc i × (load ≡ made_load m.memory (load_in i (hart_at m h)))) (load ≡ None)
        → touched_since now load before ≡ touched_since now None before
    by_stepping now load true (i, fetch, is) = ap (λ (x : Option Load). touched_since now x before) is ∙ same i fetch now
    by_stepping now load false is = none_as now load is

    by_hart : (now : Option Machine) (load : Option Load) (t : Bool) → MatchBool t (LoadsAt m h load) (load ≡ None) → touched_since now load before ≡ touched_since now None before
    by_hart now load true at = by_stepping now load (is_stepping m h) at
    by_hart now load false is = none_as now load is

pub reads_none : (m : Machine) (h : ℕ) (before : List (Watchpoint × List ℕ)) → LoadsNone m h → ReadsAs (Some m) h before None
reads_none m h before none = reads_none_as m h before (λ i fetch now. ap (λ (x : Option Load). touched_since now (made_load m.memory x) before) (none i fetch))

pub reads_unread : (m : Machine) (h : ℕ) (i : Option Instr) (load : Option Load) (xs : List SeenBytes) → Fetches m.memory (hart_at m h).pc i → load ≡ load_in i (hart_at m h) → All (λ was. is_unread was.watch load ≡ true) xs → ReadsAs (Some m) h (seen_in xs) None
reads_unread m h i load xs fetch is all = reads_none_as m h (seen_in xs) (λ j other now. ap (λ (x : Option Load). touched_since now (made_load m.memory x) (seen_in xs)) (same j other) ∙ made_since m.memory now load xs all)
  where
    same : (j : Option Instr) → Fetches m.memory (hart_at m h).pc j → load_in j (hart_at m h) ≡ load
    same j other = ap (λ (x : Option Instr). load_in x (hart_at m h)) (one_fetch m.memory (hart_at m h).pc j i other fetch) ∙ sym is

pub reads_next : (m : Option Machine) (h : ℕ) (before : List (Watchpoint × List ℕ)) (found : Option Load) → LoadsNext m h found → ReadsAs m h before found
reads_next m h before found at = λ now load next. ap (λ (x : Option Load). touched_since now x before) (one_load m h load found next at)
