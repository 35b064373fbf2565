-- What a crash left while a session ran.
use Rattle.std.proofs.Common.{◌≡◌, ◌∙◌, ◌⊎◌, ◌≤◌, ◌<◌, ◌+◌, ◌-◌, ℕ, suc, List, [], ◌∷◌, ◌++◌, false, inl, inr, sym, ap, subst, length, take, slice_index, arith}
use Rattle.std.proofs.{lemmas.List.{append_assoc, length-append, take-append-le}, Math.Logic.{∥∥₁_elim, ∥∥₁_map, ∥∥₁_prop}}
use Rattle.std.specs.Option.{option_to_list}
use Rattle.board_model.specs.{Durable.{DurableState, Change, after, fold}, Shapes.Size}
use Rattle.disk.specs.Facts.{Content, Facts}
use Rattle.store.specs.{Leaves.{LeavesOnly, LeftAsBefore}, Standing.StandsFor}
use Rattle.board.{specs.Moments.{IsAlong, MayLeave}, proofs.Issued.stands_alone}
use Rattle.hart_threads.specs.{Heard.Hearing, Since.{IsOfFirst, sent}}
use Rattle.board_session.specs.Sessions.{LeftBefore}
use Rattle.board_files.specs.Files.{FileKnown, Unknown, Known, IfKnown, AllowedSince, LeavesNoMore}
use Rattle.theorem.{specs.Sessions.{IsCutAnywhere, KeepsJournal, KeepsSession}, proofs.PowerLost.OneStanding}

-- some first of these commands make it
along : (cs : List Change) (s t : DurableState) → IsAlong cs s t → (k : ℕ) × (k ≤ length cs) × (t ≡ fold s (take k cs))
along [] s t is = (0, omega arith, is)
along (c ∷ cs) s t (inl is) = (0, omega arith, is)
along (c ∷ cs) s t (inr on) = let more = along cs (after s c) t on in (suc more.0, (let le = more.1 in omega (arith, le)), more.2)

module _ (one : OneStanding) (size : Size) (s : DurableState) (old : Facts) (only : LeavesOnly old size s) where
  stood : (c : Content) → old.may_leave c → StandsFor c size s
  stood c may = stands_alone old size s only c may

  -- also where the record was made anew
  as_before : (c : Content) → LeftAsBefore old c → StandsFor c size s
  as_before c (inl may) = stood c may
  as_before c (inr (b, may, (version, z, t, before, after_it))) =
      let is = one b z size t s before (stood b may) in
      subst (λ (u : DurableState). StandsFor c size u) is.1 (subst (λ (y : Size). StandsFor c y t) is.0 after_it)

  of_none : (cs : List Change) (c : Content) → StandsFor c size s → IsOfFirst size s cs 0 c
  of_none cs c stands = (0, omega arith, omega arith, stands)

  of_some : (issued more : List Change) (k : ℕ) (t : DurableState) (c : Content) → k ≤ length issued → t ≡ fold s (take k issued) → StandsFor c size t → IsOfFirst size s (issued ++ more) 0 c
  of_some issued more k t c le is stands = (
    k,
    omega arith,
    (let e = length-append issued more in omega (arith, le, e)),
    subst (λ (u : DurableState). StandsFor c size u) (is ∙ ap (λ (cs : List Change). fold s cs) (sym (take-append-le k issued more le))) stands,
  )

  while_booted : (issued more : List Change) (c : Content) → MayLeave old size s issued c → IsOfFirst size s (issued ++ more) 0 c
  while_booted [] more c left = of_none ([] ++ more) c (as_before c left)
  while_booted (d ∷ issued) more c (inl left) = of_none ((d ∷ issued) ++ more) c (as_before c left)
  while_booted (d ∷ issued) more c (inr (t, is, stands)) =
      let first = along (d ∷ issued) s t is in
      of_some (d ∷ issued) more first.0 t c first.1 first.2 stands

  from_least : (cs : List Change) (least : ℕ) (c : Content) → IsOfFirst size s cs least c → IsOfFirst size s cs 0 c
  from_least cs least c of = (of.0, omega arith, of.2, of.3)

  each : (issued cs more : List Change) (c : Content) → cs ≡ issued ++ more → ((x : Content) → old.since old.moment x → old.may_leave x)
      → LeftBefore false old size s issued old.moment c ⊎ IsOfFirst size s cs (length issued) c → IsOfFirst size s cs 0 c
  each issued cs more c is only_now (inl (inl early)) = of_none cs c (stood c (only_now c early))
  each issued cs more c is only_now (inl (inr left)) = subst (λ (ds : List Change). IsOfFirst size s ds 0 c) (sym is) (while_booted issued more c left)
  each issued cs more c is only_now (inr of) = from_least cs (length issued) c of

  at_any_moment : (issued cs more : List Change) (disk : Facts) → cs ≡ issued ++ more → ((x : Content) → old.since old.moment x → old.may_leave x)
      → ((t : ℕ) (c : Content) → t ≤ old.moment → disk.since t c → ∥ LeftBefore false old size s issued t c ⊎ IsOfFirst size s cs (length issued) c ∥₁)
      → (c : Content) → disk.since old.moment c → ∥ IsOfFirst size s cs 0 c ∥₁
  at_any_moment issued cs more disk is only_now ever c left = ∥∥₁_map (ever old.moment c (omega arith) left) (each issued cs more c is only_now)

  -- of a session
  pub cut_anywhere : ((x : Content) → old.since old.moment x → old.may_leave x) → (issued : List Change) (moments : List ℕ) (heard : Hearing) (disk : Facts) (kept : KeepsJournal size s issued old disk moments heard)
      → IsCutAnywhere size s (sent kept.life.journal kept.life.doubt) old disk
  cut_anywhere only_now issued moments heard disk kept =
      let doubted = option_to_list kept.life.doubt in
      let is = ap (λ (js : List Change). js ++ doubted) kept.life.begun.1 ∙ append_assoc issued kept.life.begun.0 doubted in
      at_any_moment issued (sent kept.life.journal kept.life.doubt) (kept.life.begun.0 ++ doubted) disk is only_now kept.life.kept.ever

-- ---- over a file
module _ (size : Size) (s : DurableState) (issued : List Change) (old disk : Facts) (moments : List ℕ) (heard : Hearing) where
  -- what the file has left, the disk might have left
  pub keeps_session : (file : FileKnown) (kept : KeepsJournal size s issued old disk moments heard) → IsCutAnywhere size s (sent kept.life.journal kept.life.doubt) old disk
      → ((t : ℕ) (x : Content) → t ≤ disk.moment → disk.may_leave x → disk.since t x) → IfKnown file (LeavesNoMore disk) → IfKnown file (AllowedSince disk)
      → IfKnown file (KeepsSession size s (sent kept.life.journal kept.life.doubt) (length issued) (length kept.life.journal) old.moment disk moments)
  keeps_session Unknown kept cut counts now since = tt
  keeps_session (Known f) kept cut counts now since =
      let many = kept.life.kept.many in
      let some = kept.life.kept.first.0 in
      let first = kept.life.kept.first.1 in
      let at = kept.life.kept.passed 0 some in
      let last = length moments - 1 in
      let under : last < length moments = omega (arith, some) in
      let all : length issued + last ≡ length kept.life.journal = omega (arith, many, some) in
      record {
        now = λ c may. subst (λ (n : ℕ). ∥ IsOfFirst size s (sent kept.life.journal kept.life.doubt) n c ∥₁) all
            (kept.life.kept.kept last under c (counts (slice_index moments last) c (kept.life.kept.passed last under) (now c may)));
        ever = λ c was. ∥∥₁_elim (since old.moment c (omega (arith, first, at)) was) ∥∥₁_prop (λ is. cut c is);
        kept = λ i less c was. ∥∥₁_elim (since (slice_index moments i) c (kept.life.kept.passed i less) was) ∥∥₁_prop (λ is. kept.life.kept.kept i less c is);
      }
