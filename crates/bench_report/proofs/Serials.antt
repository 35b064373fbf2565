-- The serials of the images that are resumed rise strictly: a consequence of the prefix law alone.
use Rattle.std.proofs.Common.{◌≡◌, ◌≤◌, ◌<◌, ◌+◌, ℕ, inl, inr, List, [], ◌∷◌, Option, None, Some, IfSome, refl, sym, subst, arith, Bool, false}
use Rattle.board_model.{specs.Durable.{Image, DurableState, Change, Consume, formatted, after}, proofs.Steps.{by_image, image_after}}
use Rattle.board_model.specs.{Views.head_of, declared.{durable.Durable.Durable, boot_mode.BootMode.BootMode}}
use Rattle.board_model.specs.declared.boot_mode.BootMode.TheVariants as modes
use Rattle.board.specs.Boots.{boot_refusal}
use Rattle.script_lang.specs.declared.line.Line.{Line}
use Rattle.report_lines.specs.declared.printed.{Answer.Answer, Printed.Printed}
use Rattle.report_lines.specs.declared.printed.Printed.TheVariants as printed
use Rattle.bench_report.{specs.{PowerOns.commands_of, Taken.{TakesAll, TakesSome}}, proofs.{Lost.lost, Allowed.all_issued}}
use Rattle.bench_report.specs.Prefix.{AskedLine, Boot, Command, Guest, Nothing, line_asks, Lost, LineImplies, ShowsIts, ShowsBy, IsPrefixedTo, serial_then, resumed, resumes, RisesFrom}

-- no serial below n will be resumed again
abbrev Above : ℕ → DurableState → Type 0
Above n s = (n ≤ s.next) × IfSome s.image (λ i. (n ≤ i.serial) × (i.serial < s.next))

above_after : (n : ℕ) (s : DurableState) (c : Change) → Above n s → Above n (after s c)
above_after n s c a =
    let P : ℕ → Option Image → Type 0 = λ m image. (n ≤ m) × IfSome image (λ i. (n ≤ i.serial) × (i.serial < m)) in
    image_after P s c (by_image c) (λ i at. (omega (arith, a.0), (omega (arith, a.0, at), omega (arith, at)))) (a.0, tt) a

same : (n : ℕ) (s t : DurableState) → t ≡ s → Above n s → Above n t
same n s t e a = let P : DurableState → Type 0 = Above n in subst P (sym e) a

some : (cs : List Change) (n : ℕ) (s t : DurableState) → TakesSome cs s t → Above n s → Above n t
some [] n s t e a = same n s t e a
some (c ∷ cs) n s t (inl e) a = same n s t e a
some (c ∷ cs) n s t (inr h) a = some cs n (after s c) t h.1 (above_after n s c a)

above_lost : (asked : AskedLine) (up : Bool) (n : ℕ) (s t : DurableState) → Lost asked s up t → Above n s → Above n t
above_lost (Boot mode) up n s t h a = some (commands_of mode s) n s t h a
above_lost (Command c) up n s t (inl e) a = same n s t e a
above_lost (Command c) up n s t (inr h) a = some (c ∷ []) n s t h.1 a
above_lost Guest up n s t (inl e) a = same n s t e a
above_lost Guest up n s t (inr h) a = some (h.1 ∷ []) n s t h.3 a
above_lost Nothing up n s t e a = same n s t e a

-- what is resumed has a serial that no later one has
consumed : (n : ℕ) (s t : DurableState) (o : Option Image) (rest : List ℕ) → s.image ≡ o → TakesAll (Consume ∷ []) s t → Above n s → ((k : ℕ) → Above k t → RisesFrom k rest) → RisesFrom n (serial_then (head_of o) rest)
consumed n s t None rest e h a more = more n (same n (after s Consume) t h.1 (a.0, tt))
consumed n s t (Some i) rest e h a more =
    let P : Option Image → Type 0 = λ o. IfSome o (λ i. (n ≤ i.serial) × (i.serial < s.next)) in
    let at : (n ≤ i.serial) × (i.serial < s.next) = subst P e a.1 in
    (at.0, more (i.serial + 1) (same (i.serial + 1) (after s Consume) t h.1 (omega (arith, at.1), tt)))

goes_on : (asked : AskedLine) (said : Printed) (up now : Bool) (n : ℕ) (s t : DurableState) (rest : List ℕ) → LineImplies asked said s up t now → Above n s → ((k : ℕ) → Above k t → RisesFrom k rest) → RisesFrom n rest
goes_on asked said up now n s t rest h a more = more n (above_lost asked up n s t (lost asked said s t up now h) a)

line_rises : (found : Option Durable) (said : Printed) (asked : AskedLine) (up now : Bool) (n : ℕ) (s t : DurableState) (rest : List ℕ) → ShowsIts found s → LineImplies asked said s up t now → Above n s
    → ((k : ℕ) → Above k t → RisesFrom k rest) → RisesFrom n (resumed found said rest)
line_rises None said asked up now n s t rest shows h a more = goes_on asked said up now n s t rest h a more
line_rises (Some d) (printed.On modes.Resume) (Boot mode) up now n s t rest shows h a more =
    let P : BootMode → Type 0 = λ m. (boot_refusal s m ≡ None) × TakesAll (commands_of m s) s t in
    let at : P modes.Resume = subst P (sym h.0) (h.4, h.2) in
    let Q : Durable → Type 0 = λ d. RisesFrom n (serial_then d.image rest) in
    subst Q (sym shows) (consumed n s t s.image rest refl (subst (λ (cs : List Change). TakesAll cs s t) (sym (all_issued modes.Resume s at.0)) at.1) a more)
line_rises (Some d) (printed.On modes.Resume) (Command c) up now n s t rest shows h a more = absurd h
line_rises (Some d) (printed.On modes.Resume) Guest up now n s t rest shows h a more = absurd h
line_rises (Some d) (printed.On modes.Resume) Nothing up now n s t rest shows h a more = absurd h
line_rises (Some d) (printed.On modes.Fresh) asked up now n s t rest shows h a more = goes_on asked (printed.On modes.Fresh) up now n s t rest h a more
line_rises (Some d) (printed.On modes.Keep) asked up now n s t rest shows h a more = goes_on asked (printed.On modes.Keep) up now n s t rest h a more
line_rises (Some d) (printed.On modes.Discard) asked up now n s t rest shows h a more = goes_on asked (printed.On modes.Discard) up now n s t rest h a more
line_rises (Some d) said asked up now n s t rest shows h a more = goes_on asked said up now n s t rest h a more

-- what is shown is the state before the line
shows_its : (said : Printed) (found : Option Durable) (s : DurableState) → ShowsBy said found s → ShowsIts found s
shows_its (printed.On mode) found s is = subst (λ (o : Option Durable). ShowsIts o s) (sym is) refl
shows_its said found s is = is

rises : (Ends : DurableState → Type 0) (ls : List Line) (answers : List Answer) (n : ℕ) (s : DurableState) (up : Bool) → IsPrefixedTo Ends s up ls answers → Above n s → RisesFrom n (resumes answers)
rises Ends [] [] n s up h a = tt
rises Ends (l ∷ ls) (x ∷ answers) n s up h a =
    line_rises x.found x.line (line_asks l) up h.2 n s h.1 (resumes answers) (shows_its x.line x.found s h.0) h.3 a (λ k above. rises Ends ls answers k h.1 h.2 h.4 above)
rises Ends [] (x ∷ answers) n s up h a = absurd h
rises Ends (l ∷ ls) [] n s up h a = absurd h

pub serials_rise : (Ends : DurableState → Type 0) (ls : List Line) (answers : List Answer) → IsPrefixedTo Ends formatted false ls answers → RisesFrom 0 (resumes answers)
serials_rise Ends ls answers h = rises Ends ls answers 0 formatted false h (omega arith, tt)
