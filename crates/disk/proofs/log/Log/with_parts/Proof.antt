-- A value of no bytes, whose ghost data is what the caller picks.
use Rattle.std.proofs.Common.{List, [], ◌∷◌, ◌++◌, refl}
use seplogic.Ra.Ura.{Ura}
use mir.Syntax.{Fn, Args, a_type}
use mir.Val.{Val, vptr, vstruct, vcons, vnil}
use mir.MapTy.{inst_fn}
use base.Logic.{SProp, ent}
use prog.Memory.{Memory}
use prog.Routine.{Routine}
use prog.Wp.{Calls, Loops, WpFn, Tables}
use contract.Monad.{Fun}
use contract.Running.{tables, tables_of}
use sound.WpLaws.{WpFn-mono}
use types.Logic.{Logic}
use types.Kit.{‵, raw, ◌⊛◌, prop, ◌$◌, ◌∵◌, !, qed, move, keep, drop, split, fsplit, fjoin, feq_l, regoal, suffices, done}
use types.Part.{agg}
use types.Run.{enter, returns, and_then, no_more}
use types.ByLocal.{alloc_all, pass_all, free_all, look_at, get, sets}
use denote.Exit.{yes}
use denote.RattleType.{RattleType, owns}
use denote.Builtin.{RefOf}
use denote.Param.{param, layouts}
use denote.Shadow.{pure_i}
use denote.Signature.{plain, types_at}
use denote.Steps.{nothing}
use denote.Triple.Clauses.{Clauses, Ended, closing}
use denote.Triple.Entry.{alive}
use denote.Triple.Spec.{Meets, triple_of}
use denote.Triple.Table.{entered}
use denote.Triple.Walked.{says, Stays, stay_dropped, walk_of, ends_at, walk_Meets, Goes-dropped}
use Rattle.disk.specs.{declared.log.Log.Log, contracts.{log.{Log.{with_parts.{Key.{name as #it}}}}}}
use Rattle.disk.specs.contracts.log.Log as T
use Rattle.disk.specs.contracts.log.Log.with_parts as it
use Rattle.disk.proofs.log.Log.with_parts.Statement as stated
use Rattle.disk.proofs.log.Log.with_parts.Code as code

-- what it is in memory
abbrev bare : Val
bare = vstruct (vcons (vstruct vnil) vnil)

module _ (A : RattleType) where
  abbrev args : Args
  args = layouts (a_type ∷ []) (A, tt)

  abbrev function : Fn
  function = inst_fn args code.function

  abbrev ended : Ended
  ended = it.ended A

  abbrev stayed : Stays ended.signature.params ended.kept
  stayed = (stay_dropped (RefOf (0 ∷ []) tt (plain (λ _. param 0 A)) (λ _. tt)) yes, tt)

  module _ {M : Type 1} {𝓤 : Ura M} (𝓛 : Logic 𝓤) (at_mem : Memory → SProp 𝓤) (run : Routine → Fun 𝓤) where
    open 𝓛 use {H}

    abbrev held : Clauses 𝓤 ended
    held = it.clauses A 𝓛 at_mem run

    module _ (C : Calls 𝓤 H) (Λ : Loops 𝓤 H) (z : (walk_of 𝓛 ended stayed held).Ghost) where
      abbrev Post : Val → SProp 𝓤
      Post = (walk_of 𝓛 ended stayed held).post z

      abbrev toks : SProp 𝓤
      toks = alive 𝓛 ended.signature z.0.0 z.0.1

      abbrev made : Log
      made = record { marker = record {}; log = z.1.0; calls = z.1.1; armings = z.1.2; contents = z.1.3 }

      walks : ent 𝓤 ((walk_of 𝓛 ended stayed held).pre z) (WpFn 𝓤 H C Λ function ((walk_of 𝓛 ended stayed held).args z) Post)
      walks =
          let a = z.0.3 in
          let vss = z.0.4 in
          let p = vptr a.0.ref_ptr.0 a.0.ref_ptr.1 in
          qed 𝓛 ((raw toks ⊛ ‵ (owns (types_at ended.signature.params z.0.0) a vss)) ∷ raw ((held z.0.0 a).requires z.1) ∷ []) ∵
          keep ! (0 ∷ []) $ split ! $ move ! (1 ∷ []) $
          fsplit ! $ fsplit ! $ feq_l ! (λ is. drop ! $ drop ! $
          regoal ! (λ (us : List Val). prop (WpFn 𝓤 H C Λ function (us ++ []) Post)) is refl $
          enter ! C Λ function (p ∷ []) Post $ alloc_all ! (λ l. pass_all ! refl ((tt, tt), tt) $
          sets ! (agg ! (no_more !)) refl (tt, tt) $
          sets ! (agg ! (and_then ! (get ! refl) (no_more !))) refl (tt, (tt, tt)) $
          returns ! (look_at ! 0 refl) $ free_all ! refl $
          pure_i ! ((T.the_row).own_val made (bare ∷ [])) ((λ vss. (tt, ((λ uss. (tt, tt)), tt))), tt) (((vstruct vnil ∷ [], tt), (refl, ((tt, (refl, tt)), tt))), tt) $
          suffices ! _ (ends_at 𝓛 ended stayed held z bare made (tt, tt) (tt, tt)) $ says ! (refl, refl, refl, refl) $
          nothing ! $ nothing ! $ fjoin ! $ move ! (2 ∷ 0 ∷ 1 ∷ []) $ done !))

    meets : (𝓣 : Tables 𝓤 H) → Meets 𝓛 ended.signature (WpFn 𝓤 H 𝓣.C 𝓣.Λ function) (closing 𝓛 ended held)
    meets 𝓣 =
        walk_Meets 𝓛 ended stayed (Goes-dropped 𝓛 2 (RefOf (0 ∷ []) tt (plain (λ _. param 0 A)) (λ _. tt)) yes (λ κs x f. refl), tt) held
        (WpFn 𝓤 H 𝓣.C 𝓣.Λ function) (WpFn-mono 𝓤 H 𝓛.laws 𝓣 function) (walks 𝓣.C 𝓣.Λ)

pub with_parts_spec : {M : Type 1} → stated.statement M
unfolding tables_of
with_parts_spec 𝓤 𝓛 𝓜 𝓡 wired A LA =
    let 𝓣 : Tables 𝓤 𝓛.H = tables_of 𝓤 𝓛.H 𝓜 (tables 𝓤 𝓛.H 𝓜 𝓡 𝓡.env) in
    entered 𝓤 𝓛.H (triple_of 𝓛 (ended A).signature (closing 𝓛 (ended A) (held A 𝓛 𝓜.mem 𝓡.returns))) 𝓣.C 𝓣.Λ (#it (args A)) (function A)
    (code.unfolded 𝓤 𝓛.H 𝓜 𝓡 wired (A, tt)) (meets A 𝓛 𝓜.mem 𝓡.returns 𝓣)
