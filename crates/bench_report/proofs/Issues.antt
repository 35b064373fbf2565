-- What one command, and commands in a row, make of the state that the disk stands for, read backwards:
-- whatever the next open may find after them comes of a state that an open could have found before.
use Rattle.std.proofs.Common.{◌≡◌, ◌≢◌, ◌⊎◌, ℕ, ◌+◌, inl, inr, List, [], ◌∷◌, Option, None, Some, Result, Ok, Err, refl, sym, ◌∙◌, ap, subst, arith, Bool, true, false}
use Rattle.std.specs.Bool.{⊤}
use Rattle.board_model.specs.{Durable.{DurableState, Change, formatted, refusal_of, after}, Kept.{Kept, found_of, MayFind, TakesIn}}
use Rattle.bench_report.{specs.{Taken.{TakesAll, TakesSome, TakesFewer}, Bench.{Formatted, BenchLife, Bench}}, proofs.Table.table_not_six}
use Rattle.bench_report.specs.{Happens.{failed, acknowledged, in_doubt}, Commands.{Writes, IssuedBy, Issued, IssuesAll}}
use Rattle.board.proofs.Issued.{fold_more}

-- whether a board takes commands: it is on, with none in doubt
abbrev pub takes_more : Option Change → Bool
takes_more None = true
takes_more (Some c) = false

abbrev pub is_up : Option BenchLife → Bool
is_up None = false
is_up (Some life) = takes_more life.doubt

-- a life goes on from what the disk keeps
abbrev pub GoesOn : Kept → Option BenchLife → Type 0
GoesOn kept None = ⊤
GoesOn kept (Some life) = (kept.doubt ≡ life.doubt) × (life.now ≡ found_of kept.changes)

abbrev pub IsSound : Bench → Type 0
IsSound b = (b.disk_state ≡ Formatted) × GoesOn b.kept b.power

-- what may be found after comes, by R, of what could be found before
abbrev pub Back : Bench → Bench → (DurableState → DurableState → Type 0) → Type 0
Back b new R = IsSound new × ((t : DurableState) → MayFind new.kept t → (s : DurableState) × MayFind b.kept s × R s t)

pub joined : (b mid new : Bench) (R Q P : DurableState → DurableState → Type 0) → Back b mid R → Back mid new Q → ((s u t : DurableState) → R s u → Q u t → P s t) → Back b new P
joined b mid new R Q P x y joins = (y.0, λ t found. (let u = y.1 t found in let s = x.1 u.0 u.1 in (s.0, s.1, joins s.0 u.0 t s.2 u.2)))

pub said : (b new : Bench) (R Q : DurableState → DurableState → Type 0) → Back b new R → ((s t : DurableState) → R s t → Q s t) → Back b new Q
said b new R Q x more = (x.0, λ t found. (let s = x.1 t found in (s.0, s.1, more s.0 t s.2)))

-- one command
abbrev pub Went : Result ℕ ℕ → Change → Bool → Bool → DurableState → DurableState → Type 0
Went (Ok n) c up now s t = (up ≡ true) × (refusal_of s c ≡ None) × (t ≡ after s c) × (now ≡ true)
Went (Err n) c up now s t =
    ((n ≢ 6) × (t ≡ s) × (now ≡ up))
    ⊎ ((n ≡ 6) × (t ≡ s) × (up ≡ false) × (now ≡ false))
    ⊎ ((n ≡ 6) × (up ≡ true) × (now ≡ false) × TakesSome (c ∷ []) s t)

abbrev pub Does : Change → Bool → Bench → Result ℕ ℕ → Bench → Type 0
Does c up b o new = Back b new (Went o c up (is_up new.power))

module _ (c : Change) (life : BenchLife) (b : Bench) (o : Result ℕ ℕ) (new : Bench) (sound : IsSound b) (on : b.power ≡ Some life) where
  abbrev Follow : Option BenchLife → Type 0
  Follow p = GoesOn b.kept p

  follow : (b.kept.doubt ≡ life.doubt) × (life.now ≡ found_of b.kept.changes)
  follow = subst Follow on sound.1

  up_as : (d : Option Change) → life.doubt ≡ d → is_up b.power ≡ takes_more d
  up_as d e = ap is_up on ∙ ap takes_more e

  by_eqs : (p : Result ℕ ℕ) (n : Bench) → o ≡ p → new ≡ n → Does c (is_up b.power) b p n → Does c (is_up b.power) b o new
  by_eqs p n e f x =
      let P : Result ℕ ℕ → Type 0 = λ r. Does c (is_up b.power) b r new in
      let Q : Bench → Type 0 = λ m. Does c (is_up b.power) b p m in
      subst P (sym e) (subst Q (sym f) x)

  -- found where nothing is in doubt
  sure : (kept : Kept) (t : DurableState) → kept.doubt ≡ None → MayFind kept t → t ≡ found_of kept.changes
  sure kept t calm (changes, inl e, is) = is ∙ ap found_of e
  sure kept t calm (changes, inr e, is) = let P : Option Change → Type 0 = λ d. TakesIn d kept.changes changes in absurd (subst P calm e)

  up_back : life.doubt ≡ None → (r : Option ℕ) → refusal_of life.now c ≡ r → Writes r c life b o new → Does c (is_up b.power) b o new
  up_back calm (Some n) table w = by_eqs (Err n) b w.0 w.1 (sound, λ t found. (t, found, inl (table_not_six life.now c n table, refl, refl)))
  up_back calm None table (inl w) =
      by_eqs (Ok (life.receipts + 1)) (acknowledged c life b) w.0 w.1 (
        (sound.0, (follow.0, ap (λ s. after s c) follow.1 ∙ sym (fold_more formatted b.kept.changes (c ∷ [])))),
        λ t found. (
          life.now,
          (b.kept.changes, inl refl, follow.1),
          (
            up_as None calm,
            table,
            sure (acknowledged c life b).kept t (follow.0 ∙ calm) found ∙ fold_more formatted b.kept.changes (c ∷ []) ∙ ap (λ s. after s c) (sym follow.1),
            ap takes_more calm,
          ),
        ),
      )
  up_back calm None table (inr (inl w)) =
      by_eqs (Err 5) (failed w.1.0 b) w.0 w.1.2 (sound, λ t found. (t, found, inl (λ f. omega (arith, f), refl, refl)))
  up_back calm None table (inr (inr w)) =
      by_eqs (Err 6) (failed w.1.0 (in_doubt c life b)) w.0 w.1.2 (
        (sound.0, (refl, follow.1)),
        λ t found. (
          life.now,
          (b.kept.changes, inl refl, follow.1),
          inr (inr (refl, up_as None calm, refl, either t found)),
        ),
      )
    where
      either : (t : DurableState) → MayFind (record b.kept { doubt = Some c }) t → TakesSome (c ∷ []) life.now t
      either t (changes, inl e, is) = inl (is ∙ ap found_of e ∙ sym follow.1)
      either t (changes, inr e, is) = inr (table, is ∙ ap found_of e.1 ∙ fold_more formatted b.kept.changes (c ∷ []) ∙ ap (λ s. after s c) (sym follow.1))

  issued_by : (d : Option Change) → life.doubt ≡ d → IssuedBy d c life b o new → Does c (is_up b.power) b o new
  issued_by (Some d) is i = by_eqs (Err 6) b i.0 i.1 (sound, λ t found. (t, found, inr (inl (refl, refl, up_as (Some d) is, up_as (Some d) is))))
  issued_by None calm (inl i) = by_eqs (Err 10) b i.1 i.2 (sound, λ t found. (t, found, inl (λ f. omega (arith, f), refl, refl)))
  issued_by None calm (inr i) = up_back calm (refusal_of life.now c) refl i.1

  pub issued_back : Issued c life b o new → Does c (is_up b.power) b o new
  issued_back i = issued_by life.doubt refl i

-- commands in a row
abbrev pub AllWent : Result ℕ ℕ → List Change → Bool → DurableState → DurableState → Type 0
AllWent (Ok n) cs now s t = TakesAll cs s t × (now ≡ true)
AllWent (Err n) cs now s t = TakesFewer cs s t ⊎ ((n ≡ 6) × TakesSome cs s t)

one_some : (c : Change) (cs : List Change) (s t : DurableState) → TakesSome (c ∷ []) s t → TakesSome (c ∷ cs) s t
one_some c cs s t (inl e) = inl e
one_some c [] s t (inr h) = inr h
one_some c (d ∷ cs) s t (inr h) = inr (h.0, inl h.1)

first_went : (n : ℕ) (c : Change) (cs : List Change) (up now : Bool) (s t : DurableState) → Went (Err n) c up now s t → AllWent (Err n) (c ∷ cs) now s t
first_went n c cs up now s t (inl w) = inl (inl w.1)
first_went n c cs up now s t (inr (inl w)) = inl (inl w.1)
first_went n c cs up now s t (inr (inr w)) = inr (w.0, one_some c cs s t w.3)

more_went : (o : Result ℕ ℕ) (c : Change) (cs : List Change) (now : Bool) (s u t : DurableState) → refusal_of s c ≡ None → u ≡ after s c → AllWent o cs now u t → AllWent o (c ∷ cs) now s t
more_went (Ok n) c cs now s u t table is w = let P : DurableState → Type 0 = λ x. TakesAll cs x t in ((table, subst P is w.0), w.1)
more_went (Err n) c cs now s u t table is (inl w) = let P : DurableState → Type 0 = λ x. TakesFewer cs x t in inl (inr (table, subst P is w))
more_went (Err n) c cs now s u t table is (inr w) = let P : DurableState → Type 0 = λ x. TakesSome cs x t in inr (w.0, inr (table, subst P is w.1))

pub all_back : (cs : List Change) (b : Bench) (o : Result ℕ ℕ) (new : Bench) → IsSound b → is_up b.power ≡ true → IssuesAll cs b o new → Back b new (AllWent o cs (is_up new.power))
all_back [] b o new sound up h =
    let P : Result ℕ ℕ → Type 0 = λ r. Back b new (AllWent r [] (is_up new.power)) in
    let Q : Bench → Type 0 = λ m. Back b m (AllWent (Ok 0) [] (is_up m.power)) in
    subst P (sym h.0) (subst Q (sym h.1) (sound, λ t found. (t, found, (refl, up))))
all_back (c ∷ cs) b o new sound up (life, on, first, mid, issued, inl h) =
    let P : Result ℕ ℕ → Type 0 = λ r. Does c (is_up b.power) b r mid in
    let one : Does c (is_up b.power) b (Ok h.0) mid = subst P h.1 (issued_back c life b first mid sound on issued) in
    let any = one.1 (found_of mid.kept.changes) (mid.kept.changes, inl refl, refl) in
    let rest : Back mid new (AllWent o cs (is_up new.power)) = all_back cs mid o new one.0 any.2.3 h.2 in
    joined b mid new (Went (Ok h.0) c (is_up b.power) (is_up mid.power)) (AllWent o cs (is_up new.power)) (AllWent o (c ∷ cs) (is_up new.power)) one rest
    (λ s u t w v. more_went o c cs (is_up new.power) s u t w.1 w.2 v)
all_back (c ∷ cs) b o new sound up (life, on, first, mid, issued, inr h) =
    let P : Result ℕ ℕ → Type 0 = λ r. Does c (is_up b.power) b r mid in
    let one : Does c (is_up b.power) b (Err h.0) mid = subst P h.1 (issued_back c life b first mid sound on issued) in
    let R : Result ℕ ℕ → Type 0 = λ r. Back b new (AllWent r (c ∷ cs) (is_up new.power)) in
    let Q : Bench → Type 0 = λ m. Back b m (AllWent (Err h.0) (c ∷ cs) (is_up m.power)) in
    let all : Back b mid (AllWent (Err h.0) (c ∷ cs) (is_up mid.power)) =
    said b mid (Went (Err h.0) c (is_up b.power) (is_up mid.power)) (AllWent (Err h.0) (c ∷ cs) (is_up mid.power)) one (λ s t w. first_went h.0 c cs (is_up b.power) (is_up mid.power) s t w) in
    subst R (sym h.2) (subst Q (sym h.3) all)
