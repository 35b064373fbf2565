-- A line of turns, taken apart and put together.
use Rattle.std.proofs.Common.{◌≡◌, ◌≤◌, ◌+◌, inl, inr, ℕ, zero, suc, true, false, Option, Some, None, refl, sym, ap, ◌∙◌, subst, arith}
use Rattle.board_model.specs.Shapes.{Size}
use Rattle.machine.specs.Shows.{HasHart}
use Rattle.machine.specs.declared.line.MachineLine.TheVariants as shown
use Rattle.sbi.specs.{Words.ends, declared.words.Word.Word}
use Rattle.script_lang.specs.declared.line.Line.TheVariants as lines
use Rattle.report_lines.specs.declared.printed.Answer.{Answer}
use Rattle.report_lines.specs.declared.printed.Printed.TheVariants as printed
use Rattle.bench_report.specs.{Bench.{BenchLife, Bench}, Happens.{says, shows, unpowered}, Steps.{TurnStep, Moves}, Turns.GuestTurns}

-- a row of n turns of hart h of a board that is on
pub record Went (h n : ℕ) (b : Bench) (made : ℕ) (word : Word) (new : Bench) : Type 0 where
  pub life : BenchLife
  pub on : b.power ≡ Some life
  pub has : HasHart life.machine h
  pub guest : GuestTurns h n b made word new

-- what a row says of its line
pub went_step : {h n : ℕ} {b : Bench} {made : ℕ} {word : Word} {new : Bench} → Went h n b made word new → TurnStep b.power h n b (shows (shown.Turn h made word)) new
went_step {h = h} {n = n} {b = b} {made = made} {word = word} {new = new} went =
    let P : Option BenchLife → Type 0 = λ p. TurnStep p h n b (shows (shown.Turn h made word)) new in
    subst P (sym went.on) (inl (went.has, made, word, went.guest, refl))

not_off : (h made : ℕ) (word : Word) → shows (shown.Turn h made word) ≡ shows shown.Off → ⊥
not_off h made word e = let no : printed.Shown (shown.Turn h made word) ≡ printed.Shown shown.Off = ap (λ (a : Answer). a.line) e in let never : ⊥ = cc in never

not_lost : (h made : ℕ) (word : Word) → shows (shown.Turn h made word) ≡ says printed.PowerLost → ⊥
not_lost h made word e = let no : printed.Shown (shown.Turn h made word) ≡ printed.PowerLost = ap (λ (a : Answer). a.line) e in let never : ⊥ = cc in never

lost_not_off : says printed.PowerLost ≡ shows shown.Off → ⊥
lost_not_off e = let no : printed.PowerLost ≡ printed.Shown shown.Off = ap (λ (a : Answer). a.line) e in let never : ⊥ = cc in never

step_in : (p : Option BenchLife) (h n : ℕ) (b : Bench) (made : ℕ) (word : Word) (new : Bench) → b.power ≡ p → TurnStep p h n b (shows (shown.Turn h made word)) new → Went h n b made word new
step_in None h n b made word new on (says_off, still) = absurd (not_off h made word says_off)
step_in (Some life) h n b made word new on (inl (has, k, w, guest, same)) =
    let line : printed.Shown (shown.Turn h made word) ≡ printed.Shown (shown.Turn h k w) = ap (λ (a : Answer). a.line) same in
    let a : made ≡ k = cc in
    let c : word ≡ w = cc in
    record {
      life = life;
      on = on;
      has = has;
      guest = subst (λ (x : ℕ). GuestTurns h n b x word new) (sym a) (subst (λ (x : Word). GuestTurns h n b k x new) (sym c) guest);
    }
step_in (Some life) h n b made word new on (inr (lacks, says_off, still)) = absurd (not_off h made word says_off)

-- the row of a line that says of turns
pub went_in : (size : Size) (h n : ℕ) (b : Bench) (made : ℕ) (word : Word) (new : Bench) → Moves size (lines.Turn h n) b (shows (shown.Turn h made word)) new → Went h n b made word new × (new.fault_state.struck ≡ false)
went_in size h n b made word new (inl (step, calm)) = (step_in b.power h n b made word new refl step, calm)
went_in size h n b made word new (inr (would, mid, step, hit, lost, off)) = absurd (not_lost h made word lost)

-- a row in which a cut struck
pub record Struck (h n : ℕ) (b new : Bench) : Type 0 where
  pub made : ℕ
  pub word : Word
  pub mid : Bench
  pub went : Went h n b made word mid
  pub hit : mid.fault_state.struck ≡ true
  pub off : new ≡ unpowered mid

calm_is : {b mid : Bench} → b.fault_state.struck ≡ false → mid.fault_state.struck ≡ true → mid ≡ b → ⊥
calm_is calm hit same = let no : true ≡ false = sym hit ∙ ap (λ (x : Bench). x.fault_state.struck) same ∙ calm in let never : ⊥ = cc in never

struck_in : (p : Option BenchLife) (h n : ℕ) (b : Bench) (would : Answer) (mid new : Bench) → b.power ≡ p → b.fault_state.struck ≡ false → mid.fault_state.struck ≡ true → new ≡ unpowered mid → TurnStep p h n b would mid → Struck h n b new
struck_in None h n b would mid new on calm hit off (says_off, still) = absurd (calm_is calm hit still)
struck_in (Some life) h n b would mid new on calm hit off (inl (has, made, word, guest, same)) =
    record { made = made; word = word; mid = mid; went = record { life = life; on = on; has = has; guest = guest }; hit = hit; off = off }
struck_in (Some life) h n b would mid new on calm hit off (inr (lacks, says_off, still)) = absurd (calm_is calm hit still)

no_loss : (p : Option BenchLife) (h n : ℕ) (b new : Bench) → TurnStep p h n b (says printed.PowerLost) new → ⊥
no_loss None h n b new (says_off, still) = lost_not_off says_off
no_loss (Some life) h n b new (inl (has, made, word, guest, same)) = not_lost h made word (sym same)
no_loss (Some life) h n b new (inr (lacks, says_off, still)) = lost_not_off says_off

pub lost_in : (size : Size) (h n : ℕ) (b new : Bench) → b.fault_state.struck ≡ false → Moves size (lines.Turn h n) b (says printed.PowerLost) new → Struck h n b new
lost_in size h n b new calm (inl (step, still)) = absurd (no_loss b.power h n b new step)
lost_in size h n b new calm (inr (would, mid, step, hit, lost, off)) = struck_in b.power h n b would mid new refl calm hit off step

-- and put together
pub moves_of : (size : Size) (h n : ℕ) (b : Bench) (made : ℕ) (word : Word) (new : Bench) → Went h n b made word new → new.fault_state.struck ≡ false → Moves size (lines.Turn h n) b (shows (shown.Turn h made word)) new
moves_of size h n b made word new went calm = inl (went_step went, calm)

pub loss_of : (size : Size) (h n : ℕ) (b new : Bench) → Struck h n b new → Moves size (lines.Turn h n) b (says printed.PowerLost) new
loss_of size h n b new struck = inr (shows (shown.Turn h struck.made struck.word), struck.mid, went_step struck.went, struck.hit, refl, struck.off)

-- ---- rows
as_many : (h n m : ℕ) (b : Bench) (made k : ℕ) (word : Word) (new : Bench) → n ≡ m → made ≡ k → GuestTurns h n b made word new → GuestTurns h m b k word new
as_many h n m b made k word new e f guest = subst (λ (x : ℕ). GuestTurns h m b x word new) f (subst (λ (x : ℕ). GuestTurns h x b made word new) e guest)

-- as many turns as were made are the same row
pub trimmed : (h n : ℕ) (b : Bench) (made : ℕ) (word : Word) (new : Bench) → GuestTurns h n b made word new → GuestTurns h made b made word new
trimmed h zero b made word new guest = absurd guest
trimmed h (suc n) b made word new (life, on, said, mid, turn, inl (last, one, same, is)) =
    let g : GuestTurns h 1 b 1 word new = (life, on, said, mid, turn, inl (inr (inl refl), refl, same, is)) in
    as_many h 1 made b 1 made word new (sym one) (sym one) g
trimmed h (suc n) b made word new (life, on, said, mid, turn, inr (goes, calm, rest, e, more)) =
    let g : GuestTurns h (suc rest) b (suc rest) word new = (life, on, said, mid, turn, inr (goes, calm, rest, refl, trimmed h n mid rest word new more)) in
    as_many h (suc rest) made b (suc rest) made word new (sym e) (sym e) g

-- how many are made at least and at most
pub made_range : (h n : ℕ) (b : Bench) (made : ℕ) (word : Word) (new : Bench) → GuestTurns h n b made word new → (1 ≤ made) × (made ≤ n)
made_range h zero b made word new guest = absurd guest
made_range h (suc n) b made word new (life, on, said, mid, turn, inl (last, one, same, is)) = (omega (arith, one), omega (arith, one))
made_range h (suc n) b made word new (life, on, said, mid, turn, inr (goes, calm, rest, e, more)) =
    let r = made_range h n mid rest word new more in (omega (arith, e), omega (arith, e, r.1))

-- a row after one that may go on
pub merged : (h n c : ℕ) (b : Bench) (k : ℕ) (w : Word) (mid : Bench) (made : ℕ) (word : Word) (new : Bench) → k ≡ n → GuestTurns h n b k w mid → ends w ≡ false → mid.fault_state.struck ≡ false → GuestTurns h c mid made word new
    → GuestTurns h (n + c) b (n + made) word new
merged h zero c b k w mid made word new e guest runs calm more = absurd guest
merged h (suc n) c b k w mid made word new e (life, on, said, first, turn, inl (last, one, same, is)) runs calm more =
    let none : n ≡ 0 = omega (arith, e, one) in
    let goes : ends said ≡ false = ap ends (sym same) ∙ runs in
    let fair : first.fault_state.struck ≡ false = ap (λ (x : Bench). x.fault_state.struck) (sym is) ∙ calm in
    let P : Bench → Type 0 = λ x. GuestTurns h c x made word new in
    let g : GuestTurns h (suc c) b (suc made) word new = (life, on, said, first, turn, inr (goes, fair, made, refl, subst P is more)) in
    as_many h (suc c) (suc n + c) b (suc made) (suc n + made) word new (omega (arith, none)) (omega (arith, none)) g
merged h (suc n) c b k w mid made word new e (life, on, said, first, turn, inr (goes, fair, rest, f, run)) runs calm more =
    let next = merged h n c first rest w mid made word new (omega (arith, e, f)) run runs calm more in
    let g : GuestTurns h (suc (n + c)) b (suc (n + made)) word new = (life, on, said, first, turn, inr (goes, fair, n + made, refl, next)) in
    as_many h (suc (n + c)) (suc n + c) b (suc (n + made)) (suc n + made) word new (omega arith) (omega arith) g
