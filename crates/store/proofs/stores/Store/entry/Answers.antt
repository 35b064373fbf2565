use Rattle.std.proofs.{Common.{◌≡◌, ◌∙◌, ◌-◌, ℕ, List, length, map, sym, ap, arith, inr}, lemmas.List.length-map, Math.ListN.get_or-map}
use Rattle.board_model.specs.{Durable.Change, Views.change_in, declared.durable.Entry.Entry}
use Rattle.store.specs.Standing.{memory_in}
use Rattle.store.proofs.stores.Store.entry.Goals as goal

pub returns-clause-some : goal.returns-clause-some
returns-clause-some g c =
    let s = c.args.self.now in
    let memory : List ℕ = memory_in s.shape s.current (g.D.Disk.facts s.disk).content in
    let told : Entry → Change = λ e. change_in e memory in
    let long : length (map told s.journal) ≡ length s.journal = length-map s.journal told in
    (omega (arith, c.if-number-eq0.false), omega (arith, c.if-len-number.false, c.len.ensures, long), (memory, get_or-map told s.journal (c.args.number - 1) c.entry.result ∙ ap told (sym c.entry.ensures)))

pub returns-then-len-number-clause-none : goal.returns-then-len-number-clause-none
returns-then-len-number-clause-none g c = λ none.
    let s = c.args.self.now in
    let memory : List ℕ = memory_in s.shape s.current (g.D.Disk.facts s.disk).content in
    let long : length (map (λ (e : Entry). change_in e memory) s.journal) ≡ length s.journal = length-map s.journal (λ (e : Entry). change_in e memory) in
    inr (omega (arith, long, c.if-len-number.true, c.len.ensures))
