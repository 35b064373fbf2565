-- Stepping while the pc lies within addresses.
use Rattle.std.proofs.Common.{◌≡◌, ◌≤◌, ◌+◌, ◌⊎◌, inl, inr, ℕ, suc, Bool, true, false, List, ◌++◌, Option, Some, None, refl, sym, ap, ◌∙◌, subst, append_assoc, arith}
use Rattle.std.{specs.Prelude.{IfSome, replicate, ◌==◌, if◌then◌else◌}, proofs.lemmas.Bool.{eqb-false, eqb-true}}
use Rattle.std.proofs.lemmas.List.{append-nil, replicate-append-replicate}
use Rattle.board_model.specs.Shapes.{Size}
use Rattle.machine.specs.Machine.{Machine}
use Rattle.script_lang.specs.declared.line.Line.{Line}
use Rattle.debug_session.specs.{Pasts.moments, declared.timeline.Timeline.Timeline, Ats.{IsLeft, MadeTurns}, Passes.machine_left}
use Rattle.debug_session.{specs.{Lives.{Rests, machine_of, pc_in}, declared.forth.RoundPart.RoundPart}, proofs.Passed.shown_machine}
use Rattle.debug_session.specs.declared.{steps.StepRange.StepRange, halts.HaltReason.HaltReason, stops.Watchpoint.Watchpoint}
use Rattle.debug_session.specs.Firsts.{Stretched, halt_after, halt_seen, halts_all, is_of_turn, one_turn}
use Rattle.debug_session.specs.Withins.{HaltsBy, LeftBy, MadeOne, StayedWithin, StaysWithin, IsSpent, StepsWithin, TurnsOnce, WithinTo, halt_within, is_in, is_pc_in}
use Rattle.bench_report.specs.{Bench.Bench, declared.rows.TurnRow.TurnRow, Rows.{IsWithin, is_off, made_in}}
use Rattle.bench_report.specs.declared.rows.TurnRow.TheVariants as rows
use Rattle.debug_session.specs.declared.halts.HaltReason.TheVariants as halts

-- ---- one turn at most
behind_turn : (ended stands : Bool) (changed : Option Watchpoint) → IfSome (halt_seen (if ended then Some halts.Ended else (if stands then Some halts.Point else None)) changed) (λ x. is_of_turn x ≡ true)
behind_turn true stands changed = refl
behind_turn false true None = refl
behind_turn false true (Some w) = refl
behind_turn false false None = tt
behind_turn false false (Some w) = refl

or_never : (P : Type 0) → (◌≡◌ {A = ℕ} 1 0) ⊎ P → P
or_never P either = elim either [ inl never ↦ absurd (omega (arith, never)) | inr p ↦ p ]

halts_by : (row : TurnRow) (rests stands : Bool) (pc : Option ℕ) (changed : Option Watchpoint) (halt : Option HaltReason) → halt ≡ halt_seen (halt_after row rests stands) changed → (made_in row ≡ 0 → changed ≡ None)
    → (is_off row ≡ true → rests ≡ false → (◌≡◌ {A = ℕ} 1 0) ⊎ (pc ≡ None)) → HaltsBy row rests pc halt
halts_by rows.Off true stands pc changed halt is none why = is ∙ ap (halt_seen None) (none refl)
halts_by rows.Off false stands pc changed halt is none why = (is, or_never (pc ≡ None) (why refl refl))
halts_by (rows.Made n word) rests stands pc changed halt is none why =
    let P : Option HaltReason → Type 0 = λ x. IfSome x (λ y. is_of_turn y ≡ true) in subst P (sym is) (behind_turn (halts_all word) stands changed)
halts_by (rows.Lost n) rests stands pc changed halt is none why = is

pub made_one : (size : Size) (h made : ℕ) (points : List ℕ) (rests : Bool) (at halt : Option HaltReason) (changed : Option Watchpoint) (old new : Timeline) → Stretched size h 1 points made rests at old new → halt ≡ halt_seen at changed → (made ≡ 0 → changed ≡ None)
    → (row : TurnRow) × MadeTurns size h points row rests old new × IsWithin 1 row × (made ≡ made_in row) × HaltsBy row rests (pc_in h (machine_of new.bench)) halt
made_one size h made points rests at halt changed old new (row, turns, count, within, why, is) seen none =
    (row, turns, within, count, halts_by row rests _ (pc_in h (machine_of new.bench)) changed halt (seen ∙ ap (λ (x : Option HaltReason). halt_seen x changed) is) (λ e. none (count ∙ e)) why)

left_by : (within : StepRange) (h : ℕ) (halt : HaltReason) (b : Bench) → is_of_turn halt ≡ true → LeftBy within h halt b
left_by within h halts.Stepped b of_turn = absurd (let never : ⊥ = cc in never)
left_by within h halts.Point b of_turn = of_turn
left_by within h (halts.Watched w) b of_turn = of_turn
left_by within h halts.Ended b of_turn = of_turn
left_by within h halts.Off b of_turn = of_turn
left_by within h halts.Idle b of_turn = of_turn
left_by within h halts.Spent b of_turn = of_turn
left_by within h halts.AtLine b of_turn = of_turn
left_by within h halts.Interrupted b of_turn = of_turn
left_by within h halts.Begin b of_turn = of_turn

some_is : (o : Option HaltReason) (halt : HaltReason) (P : HaltReason → Type 0) → o ≡ Some halt → IfSome o P → P halt
some_is None halt P e has = absurd (let never : ⊥ = cc in never)
some_is (Some x) halt P e has = let same : x ≡ halt = cc in subst P same has

module _ (size : Size) (within : StepRange) (h : ℕ) where
  is_shown : (t : Timeline) (b : Bench) → IsLeft size t b → is_in within (pc_in h (machine_of t.bench)) ≡ is_pc_in within h b
  is_shown t b left = ap (λ (m : Option Machine). is_in within (pc_in h m)) (shown_machine size b t.bench.power t.bench.payloads left.2)

  joined : (n made : ℕ) (old mid new : Timeline) → moments mid.history ≡ moments old.history ++ replicate n (one_turn h) → moments new.history ≡ moments mid.history ++ replicate made (one_turn h)
      → moments new.history ≡ moments old.history ++ replicate (n + made) (one_turn h)
  joined n made old mid new one two =
      two ∙ ap (λ (xs : List Line). xs ++ replicate made (one_turn h)) one ∙ append_assoc (moments old.history) (replicate n (one_turn h)) (replicate made (one_turn h))
      ∙ ap (λ (xs : List Line). moments old.history ++ xs) (replicate-append-replicate n made (one_turn h))

  -- a turn more that left the pc within
  one_more : (n : ℕ) (b mid new : Bench) → StaysWithin size within h n b mid → TurnsOnce size h mid new → is_pc_in within h new ≡ true → StaysWithin size within h (n + 1) b new
  one_more n b mid new stays once is =
      let more : suc n ≡ n + 1 = omega arith in
      let P : ℕ → Type 0 = λ k. StaysWithin size within h k b new in
      subst P more (mid, stays, (once, is))

  same_bench : (n : ℕ) (b mid new : Bench) → new ≡ mid → StaysWithin size within h n b mid → StaysWithin size within h n b new
  same_bench n b mid new same stays = let P : Bench → Type 0 = λ x. StaysWithin size within h n b x in subst P (sym same) stays

  pub stayed_none : (t : Timeline) → StayedWithin size within h 0 t t
  stayed_none t = record { grew = sym (append-nil (moments t.history)); ran = λ b left. (b, refl, left) }

  -- the hart steps no more, though each turn left the pc within
  of_stayed : (n : ℕ) (halt : HaltReason) (first last : Timeline) → StayedWithin size within h n first last → ((b : Bench) → IsSpent size within h halt n b) → StepsWithin size within h halt first last
  of_stayed n halt first last stayed spent = record {
    count = n;
    grew = stayed.grew;
    ran = λ b left. (let was = stayed.ran b left in (was.0, inl (was.1, spent was.0), was.2));
  }

  pub steps_spent : (n : ℕ) (first last : Timeline) → StayedWithin size within h n first last → n ≡ within.most → StepsWithin size within h halts.Spent first last
  steps_spent n first last stayed all = of_stayed n halts.Spent first last stayed (λ b. all)

  pub steps_asked : (n : ℕ) (first last : Timeline) → StayedWithin size within h n first last → StepsWithin size within h halts.Interrupted first last
  steps_asked n first last stayed = of_stayed n halts.Interrupted first last stayed (λ b. tt)

  module _ (n : ℕ) (points : List ℕ) (part : RoundPart) (first mid last : Timeline) (stayed : StayedWithin size within h n first mid) where
    -- a turn was made
    once_grew : (row : TurnRow) → MadeTurns size h points row part.rests mid last → made_in row ≡ 1 → moments last.history ≡ moments first.history ++ replicate (n + 1) (one_turn h)
    once_grew row turns one =
        let P : ℕ → Type 0 = λ j. moments last.history ≡ moments first.history ++ replicate (n + j) (one_turn h) in
        subst P one (joined n (made_in row) first mid last stayed.grew turns.grew)

    -- and the hart steps on
    pub stayed_more : MadeOne size h points part mid last → part.made ≡ 1 → is_in within (pc_in h (machine_of last.bench)) ≡ true → StayedWithin size within h (n + 1) first last
    stayed_more (row, turns, few, count, found) made is = record {
      grew = once_grew row turns (sym count ∙ made);
      ran = λ b left. (let was = stayed.ran b left in let did = turns.moves was.0 was.2 in (did.0, one_more n b was.0 did.0 was.1 (row, sym count ∙ made, did.1) (sym (is_shown last did.0 did.2) ∙ is), did.2));
    }

    -- and is the last
    once_left : (row : TurnRow) (halt : HaltReason) → MadeTurns size h points row part.rests mid last → made_in row ≡ 1 → ((b : Bench) → IsLeft size last b → LeftBy within h halt b) → StepsWithin size within h halt first last
    once_left row halt turns one why = record {
      count = n + 1;
      grew = once_grew row turns one;
      ran = λ b left. (let was = stayed.ran b left in let did = turns.moves was.0 was.2 in (did.0, inr (n, was.0, refl, was.1, (row, one, did.1), why did.0 did.2), did.2));
    }

    pub steps_out : MadeOne size h points part mid last → part.made ≡ 1 → is_in within (pc_in h (machine_of last.bench)) ≡ false → StepsWithin size within h halts.Stepped first last
    steps_out (row, turns, few, count, found) made is = once_left row halts.Stepped turns (sym count ∙ made) (λ b left. sym (is_shown last b left) ∙ is)

    -- no turn was made
    none_made : (halt : HaltReason) → MadeTurns size h points rows.Off part.rests mid last → ((b : Bench) → IsLeft size last b → Rests size h part.rests b → IsSpent size within h halt n b) → StepsWithin size within h halt first last
    none_made halt turns spent = record {
      count = n;
      grew = (let same : n + 0 ≡ n = omega arith in
          let P : ℕ → Type 0 = λ j. moments last.history ≡ moments first.history ++ replicate j (one_turn h) in
          subst P same (joined n 0 first mid last stayed.grew turns.grew));
      ran = λ b left. (let was = stayed.ran b left in let did = turns.moves was.0 was.2 in (did.0, inl (same_bench n b was.0 did.0 did.1 was.1, spent did.0 did.2 did.3), did.2));
    }

    -- since the board is off, or lacks the hart
    off_so : pc_in h (machine_of last.bench) ≡ None → (b : Bench) → IsLeft size last b → pc_in h (machine_left b.power) ≡ None
    off_so off b left = sym (ap (λ (m : Option Machine). pc_in h m) (shown_machine size b last.bench.power last.bench.payloads left.2)) ∙ off

    -- since the hart has nothing to do
    idle_none : (rests : Bool) → part.rests ≡ rests → MadeTurns size h points rows.Off part.rests mid last → HaltsBy rows.Off rests (pc_in h (machine_of last.bench)) part.halt → part.halt ≡ None → StepsWithin size within h halts.Idle first last
    idle_none true idle turns found none = none_made halts.Idle turns (λ b left so. let P : Bool → Type 0 = λ x. Rests size h x b in subst P idle so)
    idle_none false idle turns found none = absurd (let never : ◌≡◌ {A = Option HaltReason} None (Some halts.Off) = sym none ∙ found.0 in let never_so : ⊥ = cc in never_so)

    pub steps_idle : MadeOne size h points part mid last → part.made ≡ 0 → part.halt ≡ None → StepsWithin size within h halts.Idle first last
    steps_idle (rows.Off, turns, few, count, found) empty none = idle_none part.rests refl turns found none
    steps_idle (rows.Made k word, turns, few, count, found) empty none = absurd (omega (arith, few, count, empty))
    steps_idle (rows.Lost k, turns, few, count, found) empty none = absurd (omega (arith, few, count, empty))

    off_none : (why : HaltReason) (rests : Bool) → part.rests ≡ rests → MadeTurns size h points rows.Off part.rests mid last → HaltsBy rows.Off rests (pc_in h (machine_of last.bench)) part.halt → part.halt ≡ Some why → StepsWithin size within h why first last
    off_none why true idle turns found is = absurd (let never : ◌≡◌ {A = Option HaltReason} None (Some why) = sym found ∙ is in let never_so : ⊥ = cc in never_so)
    off_none why false idle turns found is =
        let both : ◌≡◌ {A = Option HaltReason} (Some halts.Off) (Some why) = sym found.0 ∙ is in
        let same : halts.Off ≡ why = cc in
        let P : HaltReason → Type 0 = λ x. StepsWithin size within h x first last in
        subst P same (none_made halts.Off turns (λ b left so. off_so found.1 b left))

    pub steps_halt : (why : HaltReason) → MadeOne size h points part mid last → part.halt ≡ Some why → StepsWithin size within h why first last
    steps_halt why (rows.Off, turns, few, count, found) is = off_none why part.rests refl turns found is
    steps_halt why (rows.Made k word, turns, few, count, found) is = once_left (rows.Made k word) why turns (omega (arith, few)) (λ b left. left_by within h why b (some_is part.halt why (λ x. is_of_turn x ≡ true) is found))
    steps_halt why (rows.Lost k, turns, few, count, found) is =
        let both : ◌≡◌ {A = Option HaltReason} (Some halts.Ended) (Some why) = sym found ∙ is in
        let same : halts.Ended ≡ why = cc in
        let P : HaltReason → Type 0 = λ x. StepsWithin size within h x first last in
        subst P same (once_left (rows.Lost k) halts.Ended turns (omega (arith, few)) (λ b left. refl))

    -- the hart steps on, or no more
    none_halted : (none stands : Bool) → (part.made == 0) ≡ none → stands ≡ is_in within (pc_in h (machine_of last.bench)) → MadeOne size h points part mid last → part.made ≤ 1 → part.halt ≡ None
        → WithinTo size within h n (if none then Some halts.Idle else (if stands then None else Some halts.Stepped)) first last
    none_halted true stands empty at made few none = steps_idle made (eqb-true part.made 0 empty) none
    none_halted false true some at made few none = stayed_more made (omega (arith, few, eqb-false part.made 0 some)) (sym at)
    none_halted false false some at made few none = steps_out made (omega (arith, few, eqb-false part.made 0 some)) (sym at)

    pub turned_within : (halt : Option HaltReason) (stands : Bool) → part.halt ≡ halt → stands ≡ is_in within (pc_in h (machine_of last.bench)) → MadeOne size h points part mid last → part.made ≤ 1 → WithinTo size within h n (halt_within halt part.made stands) first last
    turned_within None stands is at made few = none_halted (part.made == 0) stands refl at made few is
    turned_within (Some why) stands is at made few = steps_halt why made is

-- where it steps on a turn was made, and nothing halts
some_made : (made : ℕ) (none stands : Bool) → (made == 0) ≡ none → (if none then Some halts.Idle else (if stands then None else Some halts.Stepped)) ≡ None → made ≡ 0 → ⊥
some_made made true stands empty on zero = let never : ⊥ = cc in never
some_made made false stands some on zero = eqb-false made 0 some zero

pub steps_on : (halt : Option HaltReason) (made : ℕ) (stands : Bool) → halt_within halt made stands ≡ None → (halt ≡ None) × (made ≡ 0 → ⊥)
steps_on None made stands on = (refl, some_made made (made == 0) stands refl on)
steps_on (Some halt) made stands on = absurd (let never : ⊥ = cc in never)
