use Rattle.std.proofs.{Common.{◌≡◌, ◌+◌, List, [], ◌∷◌, ℕ, ◌++◌, map, take, get_or, sym, ap, ◌∙◌}, lemmas.List.map-append}
use Rattle.std.proofs.lemmas.Result.{IfOk-from_err}
use Rattle.debug_session.specs.{Lives.machine_of, declared.stops.{SeenBytes.SeenBytes, Watchpoint.Watchpoint}, Firsts.{seen_all, seen_by}}
use Rattle.debug_session.proofs.Firsts.{seen_more}
use Rattle.debug_session.specs.declared.stops.WatchKind.TheVariants as kinds
use Rattle.debug_session.proofs.stops.Stops.watched.Goals as goal

pub loop-watch-preserved : goal.loop-watch-preserved
loop-watch-preserved c =
    let m = machine_of c.args.bench.now in
    let pair : SeenBytes → Watchpoint × List ℕ = λ was. (was.watch, was.bytes.items) in
    let d : Watchpoint = record { kind = kinds.Changes; address = 0; count = 0 } in
    let i = c.loop-watch.watch-index in
    let same = c.deref-watch-items.ensures.value in
    let items = c.deref-watch-items.result.now in
    let watch = get_or items i d in
    let was : map pair c.loop-watch.all.items ≡ seen_all m (take i items) = c.loop-watch.invariant ∙ ap (λ (ws : List Watchpoint). seen_all m (take i ws)) (sym same) in
    let bytes : c.in_ok-bytes.bytes.items ≡ seen_by m watch = c.in_ok-bytes.ensures.items ∙ c.bytes_of.ensures in
    ap (map pair) c.in_ok-push.ensures.items ∙ map-append pair c.loop-watch.all.items _ ∙ ap (λ (xs : List (Watchpoint × List ℕ)). xs ++ (watch, c.in_ok-bytes.bytes.items) ∷ []) was ∙ ap (λ (bs : List ℕ). seen_all m (take i items) ++ (watch, bs) ∷ []) bytes ∙ sym (seen_more items i d m c.loop-watch-test.true) ∙ ap (λ (ws : List Watchpoint). seen_all m (take (i + 1) ws)) same

pub returns-in_err-bytes : goal.returns-in_err-bytes
returns-in_err-bytes c = record { seen = (IfOk-from_err c.from_residual.result _ c.from_residual.ensures.0) }

pub returns-in_err-push : goal.returns-in_err-push
returns-in_err-push c = record { seen = (IfOk-from_err c.from_residual-in_err-push.result _ c.from_residual-in_err-push.ensures.0) }
