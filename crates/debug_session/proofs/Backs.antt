-- Running back ends at the last halt.
use Rattle.std.proofs.Common.{◌≡◌, ◌<◌, ◌+◌, ℕ, Bool, true, false, List, [], ◌∷◌, ◌++◌, Option, Some, None, length, take, get_or, refl, sym, ap, ◌∙◌, subst, append_assoc}
use Rattle.std.{specs.Prelude.{All, IfSome, replicate}, proofs.lemmas.{Grind.flat_map-append, List.Elements.{All-head, All-tail}}}
use Rattle.std.proofs.lemmas.List.{append-nil, replicate-append-replicate, take_more}
use Rattle.board_model.specs.Shapes.{Size}
use Rattle.script_lang.specs.declared.line.Line.{Line}
use Rattle.script_lang.specs.declared.line.Line.TheVariants as lines
use Rattle.debug_session.specs.{Pasts.{moments, singles, some_turns}, Notes.Leaves, Ats.IsPlace, declared.timeline.Timeline.Timeline}
use Rattle.debug_session.{proofs.Histories.{left_moments, place_at, place_before}, specs.Firsts.{Touches, is_at_point, one_turn}}
use Rattle.debug_session.specs.Backs.{BackTo, EndsAt, FoundIn, FoundOf, IsEnd, IsRowPast, IsSeen, IsWhyBack, MayMove, PassBack, before_place, halt_back, later_place, later_turn}
use Rattle.debug_session.specs.{Steps.MakesNone, declared.{back.TurnPlace.TurnPlace, halts.{HaltReason.HaltReason, Stop.Stop}}}
use Rattle.debug_session.specs.declared.stops.{Stops.Stops, Watchpoint.Watchpoint}
use Rattle.report_lines.specs.declared.printed.Answer.{Answer}
use Rattle.bench_report.specs.{Bench.{Bench, bench_with}, Steps.Run}
use Rattle.debug_session.specs.declared.halts.HaltReason.TheVariants as halts

-- a run, and then another
run_append : (size : Size) (xs ys : List Line) (answers : List Answer) (a b c : Bench) → Run size a xs answers b → Leaves size b ys c → Leaves size a (xs ++ ys) c
run_append size [] ys [] a b c same two = let P : Bench → Type 0 = λ x. Leaves size x ys c in subst P same two
run_append size [] ys (answer ∷ answers) a b c run two = absurd run
run_append size (x ∷ xs) ys [] a b c run two = absurd run
run_append size (x ∷ xs) ys (answer ∷ answers) a b c (mid, moves, run) two =
    let more = run_append size xs ys answers mid b c run two in (answer ∷ more.0, (mid, moves, more.1))

-- a history of lines that make no turns is one of single turns
none_same : (xs : List Line) → All MakesNone xs → moments xs ≡ xs
none_same [] all = refl
none_same (x ∷ xs) all = one x (All-head MakesNone x xs all) (none_same xs (All-tail MakesNone x xs all))
  where
    one : (line : Line) → MakesNone line → moments xs ≡ xs → moments (line ∷ xs) ≡ line ∷ xs
    one (lines.Turn h n) none same = absurd none
    one line none same = ap (λ (ys : List Line). line ∷ ys) same

-- the moments of one line more
moments_more : (past : List Line) (i : ℕ) (d : Line) → i < length past → moments (take (i + 1) past) ≡ moments (take i past) ++ singles (get_or past i d)
moments_more past i d less =
    ap moments (take_more past i d less) ∙ flat_map-append singles (take i past) (get_or past i d ∷ []) ∙ ap (λ (xs : List Line). moments (take i past) ++ xs) (append-nil (singles (get_or past i d)))

pub some_more : {A : Type 0} (o : Option A) (P Q R : A → Type 0) → IfSome o P → IfSome o Q → ((x : A) → P x → Q x → R x) → IfSome o R
some_more None P Q R p q more = tt
some_more (Some x) P Q R p q more = more x p q

-- of the last place that was found
pub later_within : (found : Option (ℕ × Stop)) (k h turns : ℕ) (halt : Option HaltReason) → k < turns → IfSome found (λ f. (f.1.hart ≡ h) × (f.0 < turns)) → IfSome (later_turn found k h halt) (λ f. (f.1.hart ≡ h) × (f.0 < turns))
later_within found k h turns None less was = was
later_within found k h turns (Some halt) less was = (refl, less)

pub row_past : (found : Option (ℕ × Stop)) (line : Line) (h n : ℕ) → line ≡ lines.Turn h n → IfSome found (λ f. (f.1.hart ≡ h) × (f.0 < n)) → IfSome found (IsRowPast line)
row_past None line h n is within = tt
row_past (Some f) line h n is within = (n, is ∙ ap (λ (x : ℕ). lines.Turn x n) (sym within.0), within.1)

pub later_at : (found : Option TurnPlace) (last : Option (ℕ × Stop)) (past : List Line) (i : ℕ) (d : Line) → i < length past → IfSome found (λ place. IsPlace place.stop.hart place.line place.turns past) → IfSome last (IsRowPast (get_or past i d))
    → IfSome (later_place found i last) (λ place. IsPlace place.stop.hart place.line place.turns past)
later_at found None past i d less was row = was
later_at found (Some f) past i d less was (n, is, few) = place_at f.1.hart i f.0 n past d less is few

module _ (size : Size) (stops : Stops) where
  pass_more : (xs ys : List Line) (b mid new : Bench) → PassBack size stops xs b mid → PassBack size stops ys mid new → PassBack size stops (xs ++ ys) b new
  pass_more [] ys b mid new one two = let P : Bench → Type 0 = λ x. PassBack size stops ys x new in subst P one two
  pass_more (x ∷ xs) ys b mid new (next, first, one) two = (next, first, pass_more xs ys next mid new one two)

  pass_split : (xs ys : List Line) (b new : Bench) → PassBack size stops (xs ++ ys) b new → (mid : Bench) × PassBack size stops xs b mid × PassBack size stops ys mid new
  pass_split [] ys b new passed = (b, refl, passed)
  pass_split (x ∷ xs) ys b new (next, first, passed) = let more = pass_split xs ys next new passed in (more.0, (next, first, more.1), more.2)

  pass_run : (xs : List Line) (b new : Bench) → PassBack size stops xs b new → Leaves size b xs new
  pass_run [] b new passed = ([], passed)
  pass_run (x ∷ xs) b new (next, (move, is), passed) = let more = pass_run xs next new passed in (move.0 ∷ more.0, (next, move.1, more.1))

  -- what is seen of a turn
  pub is_seen : (h : ℕ) (b new : Bench) (stands : Bool) (touched : Option Watchpoint) → is_at_point stops h b ≡ stands → Touches stops h b new touched → IsSeen (halt_back stands touched) stops h b new
  is_seen h b new true None at told = at
  is_seen h b new false None at told = (at, told)
  is_seen h b new stands (Some w) at told = told

  -- a line that makes no turns is passed
  pub other_passed : (line : Line) (b new : Bench) → ((h n : ℕ) → line ≡ lines.Turn h n → ⊥) → MayMove size line b new → PassBack size stops (singles line) b new
  other_passed (lines.Turn h n) b new not move = absurd (not h n refl)
  other_passed line b new not move = (new, (move, tt), refl)

  -- ---- a run with the last end of the way back
  ends_more : (Why : Bench → Bench → Type 0) (h : ℕ) (before all more : List Line) (b mid new : Bench) → EndsAt size stops Why h before all b mid → PassBack size stops more mid new → EndsAt size stops Why h before (all ++ more) b new
  ends_more Why h before all more b mid new e passed = record {
    after = e.after ++ more;
    parted = ap (λ (xs : List Line). xs ++ more) e.parted ∙ append_assoc before (one_turn h ∷ e.after) more;
    there = e.there;
    mid = e.mid;
    left = e.left;
    turn = e.turn;
    why = e.why;
    passed = pass_more e.after more e.mid mid new e.passed passed;
  }

  ends_behind : (Why : Bench → Bench → Type 0) (h : ℕ) (xs before all : List Line) (a b new : Bench) → Leaves size a xs b → EndsAt size stops Why h before all b new → EndsAt size stops Why h (xs ++ before) (xs ++ all) a new
  ends_behind Why h xs before all a b new left e = record {
    after = e.after;
    parted = ap (λ (ys : List Line). xs ++ ys) e.parted ∙ sym (append_assoc xs before (one_turn h ∷ e.after));
    there = e.there;
    mid = e.mid;
    left = run_append size xs before left.0 a b e.there left.1 e.left;
    turn = e.turn;
    why = e.why;
    passed = e.passed;
  }

  ends_run : (Why : Bench → Bench → Type 0) (h : ℕ) (before all : List Line) (b new : Bench) → EndsAt size stops Why h before all b new → Leaves size b all new
  ends_run Why h before all b new e =
      let rest = pass_run e.after e.mid new e.passed in
      let P : List Line → Type 0 = λ xs. Leaves size b xs new in
      subst P (sym e.parted) (run_append size before (one_turn h ∷ e.after) e.left.0 b e.there new e.left.1 (e.turn.0 ∷ rest.0, (e.mid, e.turn.1, rest.1)))

  -- ---- in a row of turns
  found_run : (found : Option (ℕ × Stop)) (all : List Line) (b new : Bench) → FoundIn size stops found all b new → Leaves size b all new
  found_run None all b new passed = pass_run all b new passed
  found_run (Some f) all b new e = ends_run (IsSeen (Some f.1.halt) stops f.1.hart) f.1.hart (replicate f.0 (one_turn f.1.hart)) all b new e

  found_more : (found : Option (ℕ × Stop)) (all more : List Line) (b mid new : Bench) → FoundIn size stops found all b mid → PassBack size stops more mid new → FoundIn size stops found (all ++ more) b new
  found_more None all more b mid new was passed = pass_more all more b mid new was passed
  found_more (Some f) all more b mid new was passed = ends_more (IsSeen (Some f.1.halt) stops f.1.hart) f.1.hart (replicate f.0 (one_turn f.1.hart)) all more b mid new was passed

  pub found_turn : (found : Option (ℕ × Stop)) (h k : ℕ) (halt : Option HaltReason) (b mid new : Bench) → FoundIn size stops found (replicate k (one_turn h)) b mid → MayMove size (one_turn h) mid new × IsSeen halt stops h mid new
      → FoundIn size stops (later_turn found k h halt) (replicate (k + 1) (one_turn h)) b new
  found_turn found h k None b mid new was did =
      let P : List Line → Type 0 = λ xs. FoundIn size stops found xs b new in
      subst P (replicate-append-replicate k 1 (one_turn h)) (found_more found (replicate k (one_turn h)) (one_turn h ∷ []) b mid new was (new, did, refl))
  found_turn found h k (Some halt) b mid new was did = record {
    after = [];
    parted = sym (replicate-append-replicate k 1 (one_turn h));
    there = mid;
    mid = new;
    left = found_run found (replicate k (one_turn h)) b mid was;
    turn = did.0;
    why = did.1;
    passed = refl;
  }

  -- ---- in a history
  place_run : (found : Option TurnPlace) (past all : List Line) (b new : Bench) → FoundOf size stops found past all b new → Leaves size b all new
  place_run None past all b new passed = pass_run all b new passed
  place_run (Some place) past all b new e = ends_run (IsSeen (Some place.stop.halt) stops place.stop.hart) place.stop.hart (before_place place past) all b new e

  place_more : (found : Option TurnPlace) (past all more : List Line) (b mid new : Bench) → FoundOf size stops found past all b mid → PassBack size stops more mid new → FoundOf size stops found past (all ++ more) b new
  place_more None past all more b mid new was passed = pass_more all more b mid new was passed
  place_more (Some place) past all more b mid new was passed = ends_more (IsSeen (Some place.stop.halt) stops place.stop.hart) place.stop.hart (before_place place past) all more b mid new was passed

  either_line : (found : Option TurnPlace) (last : Option (ℕ × Stop)) (past : List Line) (i : ℕ) (line : Line) (b mid new : Bench) → FoundOf size stops found past (moments (take i past)) b mid → FoundIn size stops last (singles line) mid new
      → FoundOf size stops (later_place found i last) past (moments (take i past) ++ singles line) b new
  either_line found None past i line b mid new was passed = place_more found past (moments (take i past)) (singles line) b mid new was passed
  either_line found (Some f) past i line b mid new was e =
      ends_behind (IsSeen (Some f.1.halt) stops f.1.hart) f.1.hart (moments (take i past)) (replicate f.0 (one_turn f.1.hart)) (singles line) b mid new (place_run found past (moments (take i past)) b mid was) e

  pub found_line : (found : Option TurnPlace) (last : Option (ℕ × Stop)) (past : List Line) (i : ℕ) (d : Line) (b mid new : Bench) → i < length past → FoundOf size stops found past (moments (take i past)) b mid → FoundIn size stops last (singles (get_or past i d)) mid new
      → FoundOf size stops (later_place found i last) past (moments (take (i + 1) past)) b new
  found_line found last past i d b mid new less was did =
      let P : List Line → Type 0 = λ xs. FoundOf size stops (later_place found i last) past xs b new in
      subst P (sym (moments_more past i d less)) (either_line found last past i (get_or past i d) b mid new was did)

  -- ---- where the way back ends
  why_back : (halt : HaltReason) (h : ℕ) (before : List Line) (b new : Bench) → IsSeen (Some halt) stops h b new → IsWhyBack halt stops h before b new
  why_back halts.Begin h before b new seen = absurd seen
  why_back halts.Stepped h before b new seen = seen
  why_back halts.Point h before b new seen = seen
  why_back (halts.Watched w) h before b new seen = seen
  why_back halts.Ended h before b new seen = seen
  why_back halts.Off h before b new seen = seen
  why_back halts.Idle h before b new seen = seen
  why_back halts.Spent h before b new seen = seen
  why_back halts.AtLine h before b new seen = seen
  why_back halts.Interrupted h before b new seen = seen

  pub end_found : (place : TurnPlace) (past : List Line) (b last : Bench) → FoundOf size stops (Some place) past (moments past) b last → IsEnd size stops place past b
  end_found place past b last e = (
    last,
    record {
      after = e.after;
      parted = e.parted;
      there = e.there;
      mid = e.mid;
      left = e.left;
      turn = e.turn;
      why = why_back place.stop.halt place.stop.hart (before_place place past) e.there e.mid e.why;
      passed = e.passed;
    },
  )

  pub end_first : (place : TurnPlace) (past : List Line) (b last : Bench) → IsPlace place.stop.hart place.line place.turns past → place.turns ≡ 0 → place.stop.halt ≡ halts.Begin → All MakesNone (take place.line past) → PassBack size stops (moments past) b last
      → IsEnd size stops place past b
  end_first place past b last at zero begin none passed =
      let h = place.stop.hart in
      let front : List Line = take place.line past in
      let before : List Line = before_place place past in
      let cut : List Line = front ++ some_turns h place.turns in
      let rest = place_before h place.line place.turns past cut at refl in
      let parted : moments past ≡ before ++ one_turn h ∷ rest.0 = rest.1 ∙ ap (λ (xs : List Line). xs ++ one_turn h ∷ rest.0) (left_moments h place.line place.turns past) in
      let P : List Line → Type 0 = λ xs. PassBack size stops xs b last in
      let parts = pass_split before (one_turn h ∷ rest.0) b last (subst P parted passed) in
      let empty : replicate place.turns (one_turn h) ≡ [] = ap (λ (k : ℕ). replicate k (one_turn h)) zero in
      let same : before ≡ front = ap (λ (xs : List Line). moments front ++ xs) empty ∙ append-nil (moments front) ∙ none_same front none in
      let Q : List Line → Type 0 = λ xs. All MakesNone xs in
      let R : HaltReason → Type 0 = λ halt. IsWhyBack halt stops h before parts.0 parts.2.0 in (
        last,
        record {
          after = rest.0;
          parted = parted;
          there = parts.0;
          mid = parts.2.0;
          left = pass_run before b parts.0 parts.1;
          turn = parts.2.1.0;
          why = subst R (sym begin) (subst Q (sym same) none, parts.2.1.1);
          passed = parts.2.2;
        },
      )

  -- the history is cut there
  pub went_back : (place : TurnPlace) (old new : Timeline) → new.history ≡ take place.line old.history ++ some_turns place.stop.hart place.turns → IsEnd size stops place old.history (bench_with old.begins) → BackTo size stops place.stop old new
  went_back place old new cut (last, e) =
      let h = place.stop.hart in
      let same : moments new.history ≡ before_place place old.history = ap moments cut ∙ left_moments h place.line place.turns old.history in
      let P : List Line → Type 0 = λ xs. EndsAt size stops (IsWhyBack place.stop.halt stops h xs) h xs (moments old.history) (bench_with old.begins) last in
      (last, subst P (sym same) e)
