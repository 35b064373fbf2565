-- Running forward ends at the first halt.
use Rattle.std.proofs.Common.{Result, Ok, Err, ◌≡◌, ◌<◌, ◌==◌, take, get_or, length, ◌+◌, ◌-◌, ℕ, zero, suc, Bool, true, false, List, [], ◌∷◌, ◌++◌, Option, Some, None, refl, sym, ap, ap₂, ◌∙◌, subst, append_assoc, arith}
use Rattle.std.specs.{Option.is_some, Prelude.{IfOk, ◌&&◌, bytes_eq, map, replicate, if◌then◌else◌}}
use Rattle.std.proofs.lemmas.{Slice.Eq.bytes_eq-Decides, List.{append-nil, map-append, replicate-append-replicate, take_more}}
use Rattle.board_model.specs.Shapes.{Size}
use Rattle.machine.specs.Machine.{Machine}
use Rattle.sbi.specs.{Words.ends, declared.words.Word.Word}
use Rattle.sbi.specs.declared.words.Word.TheVariants as words
use Rattle.sbi_calls.specs.declared.words.Did.TheVariants as dids
use Rattle.script_lang.specs.declared.line.Line.{Line}
use Rattle.script_lang.specs.declared.line.Line.TheVariants as lines
use Rattle.debug_session.specs.{Pasts.moments, declared.timeline.Timeline.Timeline, Ats.IsLeft, Lives.{machine_of, pc_in, stands_in}}
use Rattle.debug_session.specs.{Passes.{GoesTo, Passes, machine_left}, Loads.LoadsNext, declared.{loads.Load.Load, stops.Stops.Stops}}
use Rattle.debug_session.{proofs.{Passed.shown_machine, Unread.reads_next}, specs.{declared.halts.HaltReason.HaltReason, Steps.halt_step}}
use Rattle.debug_session.specs.{declared.stops.Watchpoint.Watchpoint, Withins.halt_within}
use Rattle.debug_session.specs.Firsts.{KeepsWatched, PassAll, RanBy, RanTo, ReadsAs, Stretched, ToHalt, Touches, halt_after, halt_seen, halts_all, is_at_point, is_kept, is_of_turn, is_quiet, is_unread, minds_changes, one_turn, seen_all, seen_by, TellsTouched, touched_in, touched_since}
use Rattle.bench_report.specs.{Bench.Bench, declared.rows.TurnRow.TurnRow, Rows.{IsWithin, RowMoves, last_of, made_in}}
use Rattle.bench_report.specs.declared.rows.TurnRow.TheVariants as rows
use Rattle.debug_session.specs.declared.halts.HaltReason.TheVariants as halts

pub ok_more : {A E : Type 0} (r : Result A E) (P Q : A → Type 0) → ((x : A) → P x → Q x) → IfOk r P → IfOk r Q
ok_more (Ok x) P Q more h = more x h
ok_more (Err e) P Q more h = tt

pub none_of : (o : Option HaltReason) → false ≡ is_some o → o ≡ None
none_of None e = refl
none_of (Some halt) e = absurd (let never : ⊥ = cc in never)

-- what is watched, one more
pub seen_more : (watches : List Watchpoint) (i : ℕ) (d : Watchpoint) (m : Option Machine) → i < length watches → seen_all m (take (i + 1) watches) ≡ seen_all m (take i watches) ++ (get_or watches i d, seen_by m (get_or watches i d)) ∷ []
seen_more watches i d m less =
    ap (seen_all m) (take_more watches i d less) ∙ map-append (λ w. (w, seen_by m w)) (take i watches) (get_or watches i d ∷ [])

-- of what was seen, the first that is another now
since_seen : (before now : Option Machine) (load : Option Load) (watches : List Watchpoint) → touched_since now load (seen_all before watches) ≡ touched_in before now load watches
since_seen before now load [] = refl
since_seen before now load (w ∷ more) =
    ap (λ (rest : Option Watchpoint). if is_quiet load w (seen_by before w) (seen_by now w) then rest else Some w) (since_seen before now load more)

pub tells_seen : (m : Option Machine) (watches : List Watchpoint) (before : List (Watchpoint × List ℕ)) → before ≡ seen_all m watches → TellsTouched m watches before
tells_seen m watches before had = λ now load. ap (touched_since now load) had ∙ since_seen m now load watches

-- ---- what was seen, after a turn that touches nothing
kept_by : (minds : Bool) (was now later : List ℕ) → (if minds then bytes_eq was now else true) ≡ true → (if minds then bytes_eq was later else true) ≡ (if minds then bytes_eq now later else true)
kept_by true was now later kept = ap (λ (bytes : List ℕ). bytes_eq bytes later) ((bytes_eq-Decides was now).0 kept)
kept_by false was now later kept = refl

both_true : (a b : Bool) → (a && b) ≡ true → a ≡ true
both_true true b e = refl
both_true false b e = e

quiet_by : (w : Watchpoint) (load : Option Load) (was now later : List ℕ) → is_kept w was now ≡ true → is_quiet load w was later ≡ is_quiet load w now later
quiet_by w load was now later kept = ap (λ (k : Bool). k && is_unread w load) (kept_by (minds_changes w.kind) was now later kept)

goes_quiet : (quiet : Bool) (w : Watchpoint) (rest : Option Watchpoint) → (if quiet then rest else Some w) ≡ None → (quiet ≡ true) × (rest ≡ None)
goes_quiet true w rest e = (refl, e)
goes_quiet false w rest e = absurd (let no : ⊥ = cc in no)

quiet_on : (m new now : Option Machine) (load other : Option Load) (watches : List Watchpoint) → touched_in m new load watches ≡ None → touched_in m now other watches ≡ touched_in new now other watches
quiet_on m new now load other [] none = refl
quiet_on m new now load other (w ∷ more) none =
    let was = seen_by m w in
    let is = seen_by new w in
    let here = goes_quiet (is_quiet load w was is) w (touched_in m new load more) none in
    let same = quiet_by w other was is (seen_by now w) (both_true (is_kept w was is) (is_unread w load) here.0) in
    ap₂ (λ (quiet : Bool) (rest : Option Watchpoint). if quiet then rest else Some w) same (quiet_on m new now load other more here.1)

pub tells_on : (m new : Option Machine) (load : Option Load) (watches : List Watchpoint) (before : List (Watchpoint × List ℕ)) → TellsTouched m watches before → touched_since new load before ≡ None → TellsTouched new watches before
tells_on m new load watches before tells none = λ now other. tells now other ∙ quiet_on m new now load other watches (sym (tells new load) ∙ none)

some_halts : (halt : HaltReason) → Some halt ≡ None → ⊥
some_halts halt e = let no : ⊥ = cc in no

-- nothing halts: nothing was touched
pub untouched : (halt : Option HaltReason) (touched : Option Watchpoint) → halt_seen halt touched ≡ None → touched ≡ None
untouched None None e = refl
untouched None (Some w) e = absurd (let no : ⊥ = cc in no)
untouched (Some halts.Point) None e = refl
untouched (Some halts.Point) (Some w) e = absurd (let no : ⊥ = cc in no)
untouched (Some halt) touched e = absurd (some_halts _ e)

module _ (size : Size) (stops : Stops) where
  -- ---- turns, and then others
  pass_more : (xs ys : List ℕ) (b mid new : Bench) → PassAll size stops xs b mid → PassAll size stops ys mid new → PassAll size stops (xs ++ ys) b new
  pass_more [] ys b mid new one two = let P : Bench → Type 0 = λ x. PassAll size stops ys x new in subst P one two
  pass_more (h ∷ xs) ys b mid new (x, first, one) two = (x, first, pass_more xs ys x mid new one two)

  by_more : (of_turn : Bool) (h : ℕ) (halt : HaltReason) (xs ys : List ℕ) (b mid new : Bench) → PassAll size stops xs b mid → RanBy of_turn size stops h halt ys mid new → RanBy of_turn size stops h halt (xs ++ ys) b new
  by_more false h halt xs ys b mid new one two = pass_more xs ys b mid new one two
  by_more true h halt xs ys b mid new one (before, x, row, is, passed, single, moves, why) =
      (xs ++ before, x, row, ap (λ (zs : List ℕ). xs ++ zs) is ∙ sym (append_assoc xs before (h ∷ [])), pass_more xs before b mid x one passed, single, moves, why)

  ran_more : (h : ℕ) (halt : Option HaltReason) (xs ys : List ℕ) (b mid new : Bench) → PassAll size stops xs b mid → RanTo size stops h halt ys mid new → RanTo size stops h halt (xs ++ ys) b new
  ran_more h None xs ys b mid new one two = pass_more xs ys b mid new one two
  ran_more h (Some halt) xs ys b mid new one two = by_more (is_of_turn halt) h halt xs ys b mid new one two

  -- ---- one turn
  -- what was seen before a turn tells what it touched, where both machines are those of its benches
  touched_told : (h : ℕ) (was now : Option Machine) (load : Option Load) (before : List (Watchpoint × List ℕ)) (touched : Option Watchpoint) (b new : Bench) → TellsTouched was stops.watches.items before → was ≡ machine_left b.power → now ≡ machine_left new.power
      → ReadsAs was h before load → touched ≡ touched_since now load before → Touches stops h b new touched
  touched_told h was now load before touched b new tells at_first at_last reads is other loads =
      let P : Option Machine → Type 0 = λ m. touched ≡ touched_in m now other stops.watches.items in
      let Q : Option Machine → Type 0 = λ m. touched ≡ touched_in (machine_left b.power) m other stops.watches.items in
      let R : Option Machine → Type 0 = λ m. LoadsNext m h other in
      let same : touched_since now other before ≡ touched_since now load before = reads now other (subst R (sym at_first) loads) in
      sym (subst Q at_last (subst P at_first (is ∙ sym same ∙ tells now other)))

  pub touched_along : (h : ℕ) (was now : Option Machine) (load : Option Load) (before : List (Watchpoint × List ℕ)) (touched : Option Watchpoint) (b new : Bench) → before ≡ seen_all was stops.watches.items → was ≡ machine_left b.power → now ≡ machine_left new.power
      → LoadsNext was h load → touched ≡ touched_since now load before → Touches stops h b new touched
  touched_along h was now load before touched b new had at_first at_last loads is = touched_told h was now load before touched b new (tells_seen was stops.watches.items before had) at_first at_last (reads_next was h before load loads) is

  made_ran : (h : ℕ) (word : Word) (changed : Option Watchpoint) (b new : Bench) (ended stands : Bool) → halts_all word ≡ ended → is_at_point stops h new ≡ stands
      → RowMoves size h (rows.Made 1 word) b new → Touches stops h b new changed
      → RanTo size stops h (halt_seen (if ended then Some halts.Ended else (if stands then Some halts.Point else None)) changed) (h ∷ []) b new
  made_ran h word changed b new true stands e s moves same = ([], b, rows.Made 1 word, refl, refl, refl, moves, e)
  made_ran h word (Some a) b new false true e s moves same = ([], b, rows.Made 1 word, refl, refl, refl, moves, same)
  made_ran h word (Some a) b new false false e s moves same = ([], b, rows.Made 1 word, refl, refl, refl, moves, same)
  made_ran h word None b new false true e s moves same = ([], b, rows.Made 1 word, refl, refl, refl, moves, s)
  made_ran h word None b new false false e s moves same = (new, (word, moves, e, s, same), refl)

  -- the row of one turn, or of none
  pub one_ran : (h : ℕ) (row : TurnRow) (rests : Bool) (changed : Option Watchpoint) (b new : Bench) → IsWithin 1 row → RowMoves size h row b new → (made_in row ≡ 0 → changed ≡ None)
      → (made_in row ≡ 1 → Touches stops h b new changed)
      → RanTo size stops h (halt_seen (halt_after row rests (is_at_point stops h new)) changed) (replicate (made_in row) h) b new
  one_ran h rows.Off true changed b new one moves none same = let P : Option Watchpoint → Type 0 = λ c. RanTo size stops h (halt_seen None c) [] b new in subst P (sym (none refl)) moves
  one_ran h rows.Off false changed b new one moves none same = moves
  one_ran h (rows.Lost n) rests changed b new one moves none same =
      let single : n ≡ 1 = omega (arith, one) in
      let P : ℕ → Type 0 = λ k. RowMoves size h (rows.Lost k) b new in
      let Q : ℕ → Type 0 = λ k. RanTo size stops h (Some halts.Ended) (replicate k h) b new in
      subst Q (sym single) ([], b, rows.Lost 1, refl, refl, refl, subst P single moves, refl)
  one_ran h (rows.Made n word) rests changed b new one moves none same =
      let single : n ≡ 1 = omega (arith, one) in
      let P : ℕ → Type 0 = λ k. RowMoves size h (rows.Made k word) b new in
      let Q : ℕ → Type 0 = λ k. RanTo size stops h (halt_seen (halt_after (rows.Made n word) rests (is_at_point stops h new)) changed) (replicate k h) b new in
      subst Q (sym single) (made_ran h word changed b new (halts_all word) (is_at_point stops h new) refl refl (subst P single moves) (same single))

  -- ---- a row of turns, where nothing is watched
  runs_on : (word : Word) → ends word ≡ false → halts_all word ≡ false
  runs_on (words.Over end) e = absurd (let never : ⊥ = cc in never)
  runs_on (words.Goes dids.Dozing) e = absurd (let never : ⊥ = cc in never)
  runs_on (words.Goes dids.Idle) e = refl
  runs_on (words.Goes dids.Stopped) e = refl
  runs_on (words.Goes dids.Suspended) e = refl
  runs_on (words.Goes dids.Entered) e = refl
  runs_on (words.Goes dids.Woke) e = refl
  runs_on (words.Goes dids.Resumed) e = refl
  runs_on (words.Goes dids.Next) e = refl

  unwatched : stops.watches.items ≡ [] → (h : ℕ) (b new : Bench) → KeepsWatched stops h b new
  unwatched none h b new load loads =
      let P : List Watchpoint → Type 0 = λ ws. touched_in (machine_left b.power) (machine_left new.power) load ws ≡ None in subst P (sym none) refl

  replicate_snoc : (n h : ℕ) → replicate n h ++ h ∷ [] ≡ replicate (suc n) h
  replicate_snoc zero h = refl
  replicate_snoc (suc n) h = ap (λ (xs : List ℕ). h ∷ xs) (replicate_snoc n h)

  passes_ran : stops.watches.items ≡ [] → (h n : ℕ) (b new : Bench) → Passes size h stops.points.items n b new → PassAll size stops (replicate n h) b new
  passes_ran none h zero b new passed = passed
  passes_ran none h (suc n) b new (mid, passed, (word, moves, runs, stands)) =
      let one : PassAll size stops (h ∷ []) mid new = (new, (word, moves, runs_on word runs, stands, unwatched none h mid new), refl) in
      let P : List ℕ → Type 0 = λ xs. PassAll size stops xs b new in
      subst P (replicate_snoc n h) (pass_more (replicate n h) (h ∷ []) b mid new (passes_ran none h n b mid passed) one)

  last_after : (row : TurnRow) (rests stands : Bool) → halt_after (last_of row) rests stands ≡ halt_after row rests stands
  last_after rows.Off rests stands = refl
  last_after (rows.Made n word) rests stands = refl
  last_after (rows.Lost n) rests stands = refl

  last_within : (row : TurnRow) → IsWithin 1 (last_of row)
  last_within rows.Off = tt
  last_within (rows.Made n word) = (omega arith, omega arith)
  last_within (rows.Lost n) = (omega arith, omega arith)

  last_made : (most : ℕ) (row : TurnRow) → IsWithin most row → made_in row - 1 + made_in (last_of row) ≡ made_in row
  last_made most rows.Off within = refl
  last_made most (rows.Made n word) within = omega (arith, within)
  last_made most (rows.Lost n) within = omega (arith, within)

  seen_none : (halt : Option HaltReason) → halt_seen halt None ≡ halt
  seen_none None = refl
  seen_none (Some halts.Point) = refl
  seen_none (Some halts.Stepped) = refl
  seen_none (Some (halts.Watched a)) = refl
  seen_none (Some halts.Ended) = refl
  seen_none (Some halts.Off) = refl
  seen_none (Some halts.Idle) = refl
  seen_none (Some halts.Spent) = refl
  seen_none (Some halts.AtLine) = refl
  seen_none (Some halts.Interrupted) = refl
  seen_none (Some halts.Begin) = refl

  row_ran : stops.watches.items ≡ [] → (h most : ℕ) (row : TurnRow) (rests : Bool) (b new : Bench) → IsWithin most row → GoesTo size h stops.points.items row b new
      → RanTo size stops h (halt_after row rests (is_at_point stops h new)) (replicate (made_in row) h) b new
  row_ran none h most row rests b new within (mid, passed, last) =
      let stands = is_at_point stops h new in
      let one = one_ran h (last_of row) rests None mid new (last_within row) last (λ e. refl) (λ e. unwatched none h mid new) in
      let P : Option HaltReason → Type 0 = λ halt. RanTo size stops h halt (replicate (made_in (last_of row)) h) mid new in
      let there = subst P (seen_none (halt_after (last_of row) rests stands) ∙ last_after row rests stands) one in
      let all = ran_more h (halt_after row rests stands) (replicate (made_in row - 1) h) (replicate (made_in (last_of row)) h) b mid new (passes_ran none h (made_in row - 1) b mid passed) there in
      let Q : List ℕ → Type 0 = λ xs. RanTo size stops h (halt_after row rests stands) xs b new in
      subst Q (replicate-append-replicate (made_in row - 1) (made_in (last_of row)) h ∙ ap (λ (k : ℕ). replicate k h) (last_made most row within)) all

  -- ---- with their history
  map_turns : (n h : ℕ) → replicate n (lines.Turn h 1) ≡ map one_turn (replicate n h)
  map_turns zero h = refl
  map_turns (suc n) h = ap (λ (xs : List Line). lines.Turn h 1 ∷ xs) (map_turns n h)

  shown : (t : Timeline) (b : Bench) → IsLeft size t b → machine_of t.bench ≡ machine_left b.power
  shown t b left = shown_machine size b t.bench.power t.bench.payloads left.2

  pub stretch_halts : (h most made : ℕ) (rests : Bool) (halt : Option HaltReason) (old new : Timeline) → stops.watches.items ≡ [] → Stretched size h most stops.points.items made rests halt old new
      → ToHalt size stops h halt old new
  stretch_halts h most made rests halt old new none (row, turns, count, within, why, is) = record {
    harts = replicate (made_in row) h;
    grew = turns.grew ∙ ap (λ (xs : List Line). moments old.history ++ xs) (map_turns (made_in row) h);
    ran = λ b left. (let did = turns.moves b left in
        let stands : stands_in stops.points.items (pc_in h (machine_of new.bench)) ≡ is_at_point stops h did.0 = ap (λ (m : Option Machine). stands_in stops.points.items (pc_in h m)) (shown new did.0 did.2) in
        let P : Option HaltReason → Type 0 = λ x. RanTo size stops h x (replicate (made_in row) h) b did.0 in
        (did.0, subst P (sym (is ∙ ap (halt_after row rests) stands)) (row_ran none h most row rests b did.0 within did.4), did.2));
  }

  -- one turn, where bytes are watched
  pub watched_halts : (h made : ℕ) (rests : Bool) (at halt : Option HaltReason) (load : Option Load) (changed : Option Watchpoint) (before : List (Watchpoint × List ℕ)) (old new : Timeline) → ReadsAs (machine_of old.bench) h before load → Stretched size h 1 stops.points.items made rests at old new
      → halt ≡ halt_seen at changed → (made ≡ 0 → changed ≡ None) → TellsTouched (machine_of old.bench) stops.watches.items before
      → ((made ≡ 0 → ⊥) → changed ≡ touched_since (machine_of new.bench) load before)
      → ToHalt size stops h halt old new
  watched_halts h made rests at halt load changed before old new reads (row, turns, count, within, why, is) seen none had same = record {
    harts = replicate (made_in row) h;
    grew = turns.grew ∙ ap (λ (xs : List Line). moments old.history ++ xs) (map_turns (made_in row) h);
    ran = λ b left. (let did = turns.moves b left in
        let stands : stands_in stops.points.items (pc_in h (machine_of new.bench)) ≡ is_at_point stops h did.0 = ap (λ (m : Option Machine). stands_in stops.points.items (pc_in h m)) (shown new did.0 did.2) in
        let P : Option HaltReason → Type 0 = λ x. RanTo size stops h x (replicate (made_in row) h) b did.0 in
        let facts = λ (one : made_in row ≡ 1). touched_told h (machine_of old.bench) (machine_of new.bench) load before changed b did.0 had (shown old b left) (shown new did.0 did.2) reads (same (λ zero. absurd (omega (arith, one, zero, count)))) in
        (did.0, subst P (sym (seen ∙ ap (λ (x : Option HaltReason). halt_seen x changed) (is ∙ ap (halt_after row rests) stands))) (one_ran h row rests changed b did.0 within did.1 (λ e. none (count ∙ e)) facts), did.2));
  }

  pub no_halt : (h : ℕ) (t : Timeline) → ToHalt size stops h None t t
  no_halt h t = record { harts = []; grew = sym (append-nil (moments t.history)); ran = λ b left. (b, refl, left) }

  pub halt_more : (g h : ℕ) (halt : Option HaltReason) (first mid last : Timeline) → ToHalt size stops g None first mid → ToHalt size stops h halt mid last → ToHalt size stops h halt first last
  halt_more g h halt first mid last one two = record {
    harts = one.harts ++ two.harts;
    grew = two.grew ∙ ap (λ (xs : List Line). xs ++ map one_turn two.harts) one.grew ∙ append_assoc (moments first.history) (map one_turn one.harts) (map one_turn two.harts) ∙ ap (λ (xs : List Line). moments first.history ++ xs) (sym (map-append one_turn one.harts two.harts));
    ran = λ b left. (let did = one.ran b left in let more = two.ran did.0 did.2 in (more.0, ran_more h halt one.harts two.harts b did.0 more.0 did.1 more.1, more.2));
  }

  -- of no halt, any hart
  pub none_along : (g h : ℕ) (old new : Timeline) → ToHalt size stops g None old new → ToHalt size stops h None old new
  none_along g h old new did = record { harts = did.harts; grew = did.grew; ran = did.ran }

  -- no turn is why
  pub other_halt : (g h : ℕ) (halt : HaltReason) (old new : Timeline) → is_of_turn halt ≡ false → ToHalt size stops g None old new → ToHalt size stops h (Some halt) old new
  other_halt g h halt old new other did = record {
    harts = did.harts;
    grew = did.grew;
    ran = λ b left. (let one = did.ran b left in let P : Bool → Type 0 = λ of_turn. RanBy of_turn size stops h halt did.harts b one.0 in (one.0, subst P (sym other) one.1, one.2));
  }

  -- turns after which nothing halts, and then others
  pub halt_then : (g h : ℕ) (found halt : Option HaltReason) (first mid last : Timeline) → found ≡ halt → ToHalt size stops g None first mid → ToHalt size stops h found mid last → ToHalt size stops h halt first last
  halt_then g h found halt first mid last is one two = let P : Option HaltReason → Type 0 = λ x. ToHalt size stops h x first last in subst P is (halt_more g h found first mid last one two)

  -- a step, which ends where nothing halts too
  by_count : (h made : ℕ) (none : Bool) (old new : Timeline) → ToHalt size stops h None old new → ToHalt size stops h (Some (if none then halts.Idle else halts.Stepped)) old new
  by_count h made true old new did = other_halt h h halts.Idle old new refl did
  by_count h made false old new did = other_halt h h halts.Stepped old new refl did

  pub step_halts : (h made : ℕ) (halt : Option HaltReason) (old new : Timeline) → ToHalt size stops h halt old new → ToHalt size stops h (Some (halt_step halt made)) old new
  step_halts h made None old new did = by_count h made (made == 0) old new did
  step_halts h made (Some halt) old new did = did

  -- a turn within addresses, after which the hart steps on or no more
  by_place : (h : ℕ) (none stands : Bool) (old new : Timeline) → ToHalt size stops h None old new → ToHalt size stops h (if none then Some halts.Idle else (if stands then None else Some halts.Stepped)) old new
  by_place h true stands old new did = other_halt h h halts.Idle old new refl did
  by_place h false true old new did = did
  by_place h false false old new did = other_halt h h halts.Stepped old new refl did

  pub within_halts : (h made : ℕ) (stands : Bool) (halt : Option HaltReason) (old new : Timeline) → ToHalt size stops h halt old new → ToHalt size stops h (halt_within halt made stands) old new
  within_halts h made stands None old new did = by_place h (made == 0) stands old new did
  within_halts h made stands (Some halt) old new did = did
