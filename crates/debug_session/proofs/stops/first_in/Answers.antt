use Rattle.std.proofs.{Common.{suc, ℕ, List, Option, map, drop, sym, ap, ◌∙◌}, Math.Seq.drop-cons}
use Rattle.debug_session.specs.{Lives.machine_of, declared.stops.{SeenBytes.SeenBytes, Watchpoint.Watchpoint}}
use Rattle.debug_session.specs.Others.{first_other, or_later, other_of}
use Rattle.debug_session.proofs.stops.first_in.Goals as goal

pub returns-in-Some : goal.returns-in-Some
returns-in-Some c =
    let m = machine_of c.args.bench.now in
    let xs : List SeenBytes = c.args.before.now in
    let i = c.loop-was.was-index in
    let pair : SeenBytes → Watchpoint × List ℕ = λ was. (was.watch, was.bytes.items) in
    let rest : Option Watchpoint = first_other m c.args.load (map pair (drop (suc i) xs)) in
    sym (c.loop-was.invariant ∙ ap (λ (ys : List SeenBytes). first_other m c.args.load (map pair ys)) (drop-cons xs i c.was-item.result c.loop-was-test.true) ∙ ap (λ (x : SeenBytes). or_later (other_of m c.args.load (pair x)) rest) (sym c.was-item.is) ∙ ap (λ (o : Option Watchpoint). or_later o rest) (sym c.other_now.ensures ∙ c.in-Some.is))
