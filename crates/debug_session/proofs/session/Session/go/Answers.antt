use Rattle.std.{proofs.Common.{◌≡◌, ◌≤◌, ◌<◌, ℕ, Bool, List, true, false, slice_index_or, refl, sym, subst}, specs.Prelude.OnOk}
use Rattle.debug_session.specs.Steps.{Went}
use Rattle.debug_session.proofs.session.Session.go.Goals as goal

pub go-requires-clause-at : goal.go-requires-clause-at
go-requires-clause-at g c κs within = c.requires.at

pub go-requires-clause-first : goal.go-requires-clause-first
go-requires-clause-first g c κs within = let P : ℕ → Type 0 = λ h. h < c.args.self.now.setting.shape.now.harts in subst P (sym c.new-round.ensures.first) c.requires.first

pub returns-clause-rest : goal.returns-clause-rest
returns-clause-rest g c = ((refl, refl), refl)

pub returns-clause-first : goal.returns-clause-first
returns-clause-first g c = c.go.ensures.first

pub returns-clause-there : goal.returns-clause-there
returns-clause-there g c = c.go.ensures.there

pub returns-clause-went : goal.returns-clause-went
returns-clause-went g c =
    let round = c.new-round in
    let P : List Bool → ℕ → Type 0 = λ harts most. OnOk c.go.result ((n : ℕ) × (n ≤ most)
    × Went (λ h. slice_index_or harts h false ≡ true) n c.args.self.now.setting.shape.now c.args.self.now.timeline c.go.new.timeline) in
    subst (P c.args.harts.now) round.ensures.left (subst (λ (harts : List Bool). P harts round.result.left) round.ensures.harts c.go.ensures.went)
