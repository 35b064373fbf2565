-- A durable command of the bench: its receipt, or the number with which it is refused. Source:
-- docs/DURABLE.md, "The commands"; docs/STORE.md, "A life".
use Rattle.std.specs.Prelude.{◌≡◌, ℕ, ◌+◌, ◌<◌, ◌⊎◌, List, [], ◌∷◌, Option, Some, None, Result, Ok, Err}
use Rattle.board_model.specs.Durable.{Change, refusal_of}
use Rattle.bench_report.specs.Bench.{BenchLife, Bench}
use Rattle.bench_report.specs.Happens.{FailsByFault, acknowledged, in_doubt}

-- by the number with which the table of commands refuses it: else it is acknowledged, or the disk fails
-- before it could take effect (5) or where it may have (6)
abbrev pub Writes : Option ℕ → Change → BenchLife → Bench → Result ℕ ℕ → Bench → Type 0
Writes (Some n) c life b o new = (o ≡ Err n) × (new ≡ b)
Writes None c life b o new =
    ((o ≡ Ok (life.receipts + 1)) × (new ≡ acknowledged c life b))
    ⊎ ((o ≡ Err 5) × FailsByFault b new)
    ⊎ ((o ≡ Err 6) × FailsByFault (in_doubt c life b) new)

-- by the command that is in doubt: after it each is refused 6, and after 4,096 commands each is refused 10
abbrev pub IssuedBy : Option Change → Change → BenchLife → Bench → Result ℕ ℕ → Bench → Type 0
IssuedBy (Some d) c life b o new = (o ≡ Err 6) × (new ≡ b)
IssuedBy None c life b o new =
    ((life.receipts ≡ 4096) × (o ≡ Err 10) × (new ≡ b))
    ⊎ ((life.receipts < 4096) × Writes (refusal_of life.now c) c life b o new)

abbrev pub Issued : Change → BenchLife → Bench → Result ℕ ℕ → Bench → Type 0
Issued c life b o new = IssuedBy life.doubt c life b o new

-- commands in a row: the first that is refused ends it
abbrev pub IssuesAll : List Change → Bench → Result ℕ ℕ → Bench → Type 0
IssuesAll [] b o new = (o ≡ Ok 0) × (new ≡ b)
IssuesAll (c ∷ cs) b o new =
    (life : BenchLife) × (b.power ≡ Some life) × (first : Result ℕ ℕ) × (mid : Bench) × Issued c life b first mid
    × (((n : ℕ) × (first ≡ Ok n) × IssuesAll cs mid o new) ⊎ ((n : ℕ) × (first ≡ Err n) × (o ≡ Err n) × (new ≡ mid)))
