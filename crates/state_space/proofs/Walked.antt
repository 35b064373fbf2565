-- A way is walked back, step by step.
use Rattle.std.proofs.Common.{◌≡◌, ⊎_elim, ℕ, ◌+◌, ◌-◌, ◌<◌, ◌≤◌, List, [], ◌∷◌, ◌++◌, length, get_or, map, reverse, refl, sym, ap, subst, ◌∙◌, arith, length-append}
use Rattle.std.proofs.lemmas.{Bool.cases_lt, List.reverse-append}
use Rattle.state_space.specs.{declared.{graph.Graph.Graph, ways.Finding.Finding}, Orders.Runs, Graphs.{StepOf, event_of}}
use Rattle.state_space.{specs.Ways.{IsFinding, AreFindings}, proofs.Growth.{earlier_one, last_one}}

pub findings_more : (graph : Graph) (findings : List Finding) (finding : Finding) → AreFindings graph findings → IsFinding graph (length findings) finding → AreFindings graph (findings ++ finding ∷ [])
findings_more graph findings finding each last k d lt =
    ⊎_elim
    (λ before. subst (IsFinding graph k) (sym (earlier_one findings (findings ++ finding ∷ []) finding d k refl before)) (each k d before))
    (λ after.
    let is : k ≡ length findings = omega (arith, length-append findings (finding ∷ [])) in
    subst (IsFinding graph k) (sym (last_one findings (findings ++ finding ∷ []) finding d k refl is))
    (subst (λ n. IsFinding graph n finding) (sym is) last))
    (cases_lt k (length findings))

pub way_more : (graph : Graph) (way : List ℕ) (step from at row : ℕ) → ((steps : List ℕ) × Runs (StepOf graph) steps at row × (map (event_of graph) steps ≡ reverse way)) → StepOf graph step from at → (steps : List ℕ) × Runs (StepOf graph) steps from row × (map (event_of graph) steps ≡ reverse (way ++ event_of graph step ∷ []))
way_more graph way step from at row was leads = (
  step ∷ was.0,
  (at, leads, was.1),
  ap (λ l. event_of graph step ∷ l) was.2 ∙ sym (reverse-append way (event_of graph step ∷ [])),
)

-- the step that a finding tells, before the way so far
pub way_back : (graph : Graph) (findings : List Finding) (way longer : List ℕ) (event at row : ℕ) (finding : Finding) → AreFindings graph findings → 0 < at → at ≤ length findings → finding ≡ get_or findings (at - 1) finding → event ≡ event_of graph finding.step → longer ≡ way ++ event ∷ [] → ((steps : List ℕ) × Runs (StepOf graph) steps at row × (map (event_of graph) steps ≡ reverse way)) → (steps : List ℕ) × Runs (StepOf graph) steps finding.from row × (map (event_of graph) steps ≡ reverse longer)
way_back graph findings way longer event at row finding each some within is event_is longer_is was =
    let found : IsFinding graph (at - 1) finding = subst (IsFinding graph (at - 1)) (sym is) (each (at - 1) finding (omega arith)) in
    let here : at - 1 + 1 ≡ at = omega arith in
    let more = way_more graph way finding.step finding.from at row was (subst (λ n. StepOf graph finding.step finding.from n) here found.1) in (
      more.0,
      more.1,
      more.2 ∙ ap (λ e. reverse (way ++ e ∷ [])) (sym event_is) ∙ ap reverse (sym longer_is),
    )
