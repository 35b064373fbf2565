use Rattle.std.proofs.{Common.{◌≡◌, ◌∙◌, ◌++◌, ◌-◌, ℕ, List, [], ◌∷◌, ap, length, replicate, arith}, lemmas.Bool.Decides.nat_tests}
use Rattle.board_model.specs.Shapes.{ram_bytes_of}
use Rattle.machine.proofs.begun.put_payload.Goals as goal

-- zeros alone are what no payload leaves
none_put : (payload ram : List ℕ) (n : ℕ) → length payload ≡ 0 → ram ≡ replicate n 0 → ram ≡ payload ++ replicate (n - length payload) 0
none_put [] ram n none zeros = let all : n ≡ n - 0 = omega arith in zeros ∙ ap (λ (k : ℕ). replicate k 0) all
none_put (x ∷ xs) ram n none zeros = absurd (omega (arith, none))

pub returns-else-not-is_empty : goal.returns-else-not-is_empty
returns-else-not-is_empty c =
    none_put c.args.payload.now c.args.ram.now (ram_bytes_of c.args.shape.now) (grind (arith, nat_tests, c.is_empty.ensures, c.if-not-is_empty.false)) c.requires.zeros
