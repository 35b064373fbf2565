use Rattle.std.proofs.{Common.{◌≡◌, ◌≤◌, ◌<◌, ℕ, Bool, List, true, false, slice_index_or, refl, sym, subst}, lemmas.Result.on_ok_weaker}
use Rattle.std.specs.Prelude.{OnOk, replicate}
use Rattle.debug_session.{specs.Steps.Went, proofs.Turns.left_few}
use Rattle.debug_session.proofs.session.Session.go_on_to.Goals as goal

pub go-requires-clause-at : goal.go-requires-clause-at
go-requires-clause-at g c κs within = c.requires.at

pub go-requires-clause-first : goal.go-requires-clause-first
go-requires-clause-first g c κs within = let P : ℕ → Type 0 = λ h. h < c.args.self.now.setting.shape.now.harts in subst P (sym c.new-round.ensures.first) c.requires.first

pub returns-clause-went : goal.returns-clause-went
returns-clause-went g c =
    let round = c.new-round in
    let P : List Bool → ℕ → Type 0 = λ harts most. OnOk c.go.result ((n : ℕ) × (n ≤ most)
    × Went (λ h. slice_index_or harts h false ≡ true) n c.args.self.now.setting.shape.now c.args.self.now.timeline c.go.new.timeline) in
    on_ok_weaker c.go.result
    (λ did. (let less = left_few _ _ did.0 _ c.args.turns _ did.1 c.turns_left-most.ensures c.lines.ensures in (did.0, less.0, less.1, did.2)))
    (subst (P (replicate 8 true)) round.ensures.left (subst (λ (harts : List Bool). P harts round.result.left) round.ensures.harts c.go.ensures.went))

pub returns-clause-rest : goal.returns-clause-rest
returns-clause-rest g c = ((refl, refl), refl)

pub returns-clause-first : goal.returns-clause-first
returns-clause-first g c = c.go.ensures.first
