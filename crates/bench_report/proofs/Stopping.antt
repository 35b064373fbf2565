-- A run that stops before a board is made: its refusal, and no disk.
use Rattle.std.proofs.Common.{◌≡◌, ◌∙◌, ◌⊎◌, None, Result, Ok, Err, IfOk, IfErr, MatchResult, inl, inr, refl, sym, ap, subst}
use Rattle.std.{specs.{Option.IfSome, Result.IsErrAnd}, proofs.lemmas.Result.err_from_is_err_and}
use Rattle.board_model.specs.declared.refusal.Refusal.{Refusal, TheVariants.{Memory, Output}}
use Rattle.report_lines.specs.declared.report.Report.{Report}
use Rattle.script_lang.specs.Scripts.{Fails, Script}
use Rattle.simdisk.specs.declared.SimDisk.{SimDisk}
use Rattle.bench_report.specs.declared.runs.StoppedRun.{StoppedRun}

same_fault : (read : Result Script Refusal) (e d : Refusal) → read ≡ Err e → read ≡ Err d → e ≡ d
same_fault read e d one two = cc

-- a script that was read has no fault
pub no_fault : (read : Result Script Refusal) (script : Script) (e : Refusal) → read ≡ Ok script → read ≡ Err e → ⊥
no_fault read script e ok err = cc

module _ (r : Result (Report × SimDisk) StoppedRun) (e : Refusal) (is : IsErrAnd r (λ s. s ≡ record { refusal = e; disk = None })) where
  abbrev stop : StoppedRun
  stop = record { refusal = e; disk = None }

  whole : Err stop ≡ r
  whole = let p = err_from_is_err_and r is in sym (p.1 ∙ ap (λ (s : StoppedRun). Err s) p.2)

  pub no_report : (P : Report × SimDisk → Type 0) → IfOk r P
  no_report P = subst (λ (x : Result (Report × SimDisk) StoppedRun). IfOk x P) whole tt

  pub no_disk : (P : SimDisk → Type 0) → IfErr r (λ s. IfSome s.disk P)
  no_disk P = subst (λ (x : Result (Report × SimDisk) StoppedRun). IfErr x (λ s. IfSome s.disk P)) whole tt

  pub none_idle : (A : Report × SimDisk → Type 0) (P : SimDisk → Type 0) → MatchResult r A (λ s. IfSome s.disk P)
  none_idle A P = subst (λ (x : Result (Report × SimDisk) StoppedRun). MatchResult x A (λ s. IfSome s.disk P)) whole tt

  pub none_written : {X : Type 0} (a : X) → IfErr r (λ s. s.disk ≡ None → a ≡ a)
  none_written {X} a = subst (λ (x : Result (Report × SimDisk) StoppedRun). IfErr x (λ s. s.disk ≡ None → a ≡ a)) whole (λ none. refl)

  module _ (read : Result Script Refusal) (fails : Fails e read) where
    by_fault : (stop.refusal ≡ Memory) ⊎ (stop.refusal ≡ Output) ⊎ (read ≡ Err stop.refusal)
    by_fault = elim fails [
      | inl memory ↦ inl memory
      | inr fault ↦ inr (inr fault)
    ]

    pub fault_or_memory : IfErr r (λ s. (s.refusal ≡ Memory) ⊎ (s.refusal ≡ Output) ⊎ (read ≡ Err s.refusal))
    fault_or_memory = subst (λ (x : Result (Report × SimDisk) StoppedRun). IfErr x (λ s. (s.refusal ≡ Memory) ⊎ (s.refusal ≡ Output) ⊎ (read ≡ Err s.refusal))) whole by_fault

    its_fault : (d : Refusal) → read ≡ Err d → (stop.refusal ≡ d) ⊎ (stop.refusal ≡ Memory)
    its_fault d is_d = elim fails [
      | inl memory ↦ inr memory
      | inr fault ↦ inl (same_fault read e d fault is_d)
    ]

    pub runs_nothing : {X : Type 0} (a : X) (d : Refusal) → read ≡ Err d → (a ≡ a) × MatchResult r (λ left. ⊥) (λ s. ((s.refusal ≡ d) ⊎ (s.refusal ≡ Memory)) × (s.disk ≡ None))
    runs_nothing {X} a d is_d =
        (refl, subst (λ (x : Result (Report × SimDisk) StoppedRun). MatchResult x (λ left. ⊥) (λ s. ((s.refusal ≡ d) ⊎ (s.refusal ≡ Memory)) × (s.disk ≡ None))) whole (its_fault d is_d, refl))
