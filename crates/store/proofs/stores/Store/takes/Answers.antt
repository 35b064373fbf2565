use Rattle.std.proofs.{Common.{sym, inr, refl, ◌∙◌, ◌≡◌, ℕ, List, length, map, arith}, lemmas.List.length-map}
use Rattle.board_model.specs.{Views.change_in, declared.durable.Entry.Entry}
use Rattle.store.{specs.Standing.memory_in, proofs.Copied.none_of}
use Rattle.store.proofs.stores.Store.takes.Goals as goal

pub returns-clause-ok : goal.returns-clause-ok
returns-clause-ok g c =
    let s = c.args.self.now in
    let memory : List ℕ = memory_in s.shape s.current (g.D.Disk.facts s.disk).content in
    let long : length (map (λ (e : Entry). change_in e memory) s.journal) ≡ length s.journal = length-map s.journal (λ (e : Entry). change_in e memory) in
    (none_of s.doubt (sym c.if-is_some.false ∙ c.is_some.ensures), c.if-self.false, omega (arith, long, s.few, c.len.ensures, c.if-len-eq-MAX_COMMANDS.false))

pub returns-then-len-eq-MAX_COMMANDS-clause-refused : goal.returns-then-len-eq-MAX_COMMANDS-clause-refused
returns-then-len-eq-MAX_COMMANDS-clause-refused g c = λ none.
    let s = c.args.self.now in
    let memory : List ℕ = memory_in s.shape s.current (g.D.Disk.facts s.disk).content in
    inr (refl, c.if-self.false, length-map s.journal (λ (e : Entry). change_in e memory) ∙ (sym c.len.ensures ∙ c.if-len-eq-MAX_COMMANDS.true))
