use Rattle.std.{proofs.{Common.{ℕ, List, ◌≤◌, length, map, subst, IsTrue}, lemmas.List.Elements.All-map}, specs.List.All}
use Rattle.board_model.specs.Shapes.{ram_bytes_of}
use Rattle.board.proofs.Mapped.{all_unmapped}
use Rattle.board.proofs.payloads.Payloads.fit.Goals as goal

pub returns-clause-told : goal.returns-clause-told
returns-clause-told c =
    let P : List ℕ → Type 0 = λ payload. length payload ≤ ram_bytes_of c.args.shape.now in
    let Q : List (List ℕ) → Type 0 = λ payloads. (IsTrue c.all_fit.result → All P payloads) × (All P payloads → IsTrue c.all_fit.result) in
    let inside : Q (map (λ v. v.items) c.self.inside.slots) =
    (λ true. All-map P (λ v. v.items) c.self.inside.slots (c.all_fit.ensures.told.0 true), λ fits. c.all_fit.ensures.told.1 (all_unmapped P (λ v. v.items) c.self.inside.slots fits)) in
    subst Q c.self.view_is inside
