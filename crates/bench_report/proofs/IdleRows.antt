-- A row of turns that begins with an idle one, and a row after another turn.
use Rattle.std.proofs.Common.{◌≡◌, ◌∙◌, ◌⊎◌, ◌≤◌, ◌+◌, ◌-◌, inl, inr, ℕ, zero, suc, true, false, refl, sym, ap, subst, arith}
use Rattle.board_model.specs.Shapes.{Size}
use Rattle.disk.specs.FaultState.{FaultState}
use Rattle.machine.specs.{Machine.Machine, Shows.HasHart}
use Rattle.machine.specs.declared.line.MachineLine.TheVariants as shown
use Rattle.sbi.specs.{Words.ends, declared.words.Word.Word}
use Rattle.sbi.specs.declared.words.Word.TheVariants as words
use Rattle.sbi_calls.specs.declared.words.Did.TheVariants as dids
use Rattle.script_lang.specs.declared.line.Line.TheVariants as lines
use Rattle.board.specs.Turns as boards
use Rattle.bench_report.specs.{declared.power.Power.TheVariants.On, Agree.OnIs, Bench.Bench, Happens.shows, Steps.{Moves, TurnStep}}
use Rattle.bench_report.specs.{Turns.{GuestTurn, GuestTurns}, Views.{SimStore, SimBoard, store_in, machine_in, store_fault_state}}
use Rattle.bench_report.{proofs.{Lines.on_turns, Turns.went_in}, specs.{Lives.WentInPlace, Rows.{IdleTurnStays, is_idle}}}

-- one idle turn, as often as wanted
idle_guest : (h : ℕ) (b x : Bench) (word : Word) (count : ℕ) → x ≡ b → ends word ≡ false → b.fault_state.struck ≡ false → 1 ≤ count → GuestTurns h 1 b 1 word x → GuestTurns h count b count word b
idle_guest h b x word zero same goes calm some guest = absurd (omega (arith, some))
idle_guest h b x word (suc n) same goes calm some (life, on, said, mid, turn, inr more) = absurd more.4
idle_guest h b x word (suc n) same goes calm some (life, on, said, mid, turn, inl (last, one, w, is)) = many n
  where
    again : GuestTurn h life b word b
    again =
        let P : Word → Type 0 = λ v. GuestTurn h life b v b in
        let Q : Bench → Type 0 = λ m. GuestTurn h life b said m in
        subst P (sym w) (subst Q (sym is ∙ same) turn)

    many : (k : ℕ) → GuestTurns h (suc k) b (suc k) word b
    many zero = (life, on, word, b, again, inl (inr (inl refl), refl, refl, refl))
    many (suc k) = (life, on, word, b, again, inr (goes, calm, suc k, refl, many k))

-- a row that begins with an idle turn, of which only that was made
pub idle_row : (size : Size) (b : Bench) (old new : SimBoard) (h count made : ℕ) (word : Word) → OnIs size b old → HasHart (machine_in old) h
    → boards.TurnsManyHeld h 1 (machine_in old) (machine_in new) (store_in old) (store_in new) made word → 1 ≤ count → 1 ≤ made → made ≤ 1
    → is_idle word ≡ true → (store_fault_state (store_in new)).struck ≡ false → IdleTurnStays
    → WentInPlace size h count b count word (On new)
idle_row size b old new h count made (words.Goes dids.Idle) was has turned some least most idle calm stays =
    let word : Word = words.Goes dids.Idle in
    let did = on_turns size b old new h 1 made word (On new) was has turned (λ x is. is) in
    let one : made ≡ 1 = omega (arith, least, most) in
    let P : ℕ → Type 0 = λ k. TurnStep b.power h 1 b (shows (shown.Turn h k word)) did.0 in
    let still : did.0.fault_state.struck ≡ false = ap (λ (m : FaultState). m.struck) did.2.1.0 ∙ calm in
    let moves : Moves size (lines.Turn h 1) b (shows (shown.Turn h 1 word)) did.0 = inl (subst P one did.1, still) in
    let same : did.0 ≡ b = stays size h word b did.0 refl moves in
    let went = (went_in size h 1 b 1 word did.0 moves).0 in
    let O : Bench → Type 0 = λ x. OnIs size x new in
    let S : Bench → Type 0 = λ x. x.fault_state.struck ≡ false in
    (b, went.life, went.on, went.has, idle_guest h b did.0 word count same refl (subst S same still) some went.guest, subst O same did.2, refl, λ had. refl)
idle_row size b old new h count made (words.Goes did) was has turned some least most idle calm stays = absurd (let no : ⊥ = cc in no)
idle_row size b old new h count made (words.Over end) was has turned some least most idle calm stays = absurd (let no : ⊥ = cc in no)

-- more turns of a row, after a first one that does not end it
behind_one : (h n made one : ℕ) (m mid new : Machine) (s t u : SimStore) (first word : Word) → boards.TurnsManyHeld h 1 m mid s t one first → ends first ≡ false → (store_fault_state t).struck ≡ false
    → boards.TurnsManyHeld h n mid new t u made word → boards.TurnsManyHeld h (suc n) m new s u (suc made) word
behind_one h n made one m mid new s t u first word (x, y, said, held, inr none) goes calm more = absurd none.4
behind_one h n made one m mid new s t u first word (x, y, said, held, inl (last, machine, store, k, w)) goes calm more =
    let P : Machine → Type 0 = λ z. boards.TurnsHeld h m z s y said in
    let Q : SimStore → Type 0 = λ z. boards.TurnsHeld h m mid s z said in
    let R : Word → Type 0 = λ z. boards.TurnsHeld h m mid s t z in
    (mid, t, first, subst R (sym w) (subst Q (sym store) (subst P (sym machine) held)), inr (goes, calm, made, refl, more))

pub row_behind : (h count made one all : ℕ) (m mid new : Machine) (s t u : SimStore) (first word : Word) → 1 ≤ count → 1 ≤ one → one ≤ 1 → all ≡ one + made → boards.TurnsManyHeld h 1 m mid s t one first → ends first ≡ false → (store_fault_state t).struck ≡ false
    → boards.TurnsManyHeld h (count - 1) mid new t u made word → boards.TurnsManyHeld h count m new s u all word
row_behind h zero made one all m mid new s t u first word some least most is held goes calm more = absurd (omega (arith, some))
row_behind h (suc n) made one all m mid new s t u first word some least most is held goes calm more =
    let e : suc n - 1 ≡ n = omega arith in
    let f : suc made ≡ all = omega (arith, is, least, most) in
    let N : ℕ → Type 0 = λ k. boards.TurnsManyHeld h k mid new t u made word in
    let A : ℕ → Type 0 = λ k. boards.TurnsManyHeld h (suc n) m new s u k word in
    subst A f (behind_one h n made one m mid new s t u first word held goes calm (subst N e more))

-- how many are made at least and at most
pub held_range : (h n : ℕ) (m k : Machine) (s t : SimStore) (made : ℕ) (word : Word) → boards.TurnsManyHeld h n m k s t made word → (1 ≤ made) × (made ≤ n)
held_range h zero m k s t made word held = absurd held
held_range h (suc n) m k s t made word (mid, store, first, turned, inl x) = (omega (arith, x.3), omega (arith, x.3))
held_range h (suc n) m k s t made word (mid, store, first, turned, inr x) = let r = held_range h n mid k store t x.2 word x.4 in (omega (arith, x.3), omega (arith, x.3, r.1))

-- a turn after which the row has no more
pub last_row : (h count made : ℕ) (m mid : Machine) (s t : SimStore) (word : Word) → 1 ≤ count → (count ≡ 1) ⊎ (ends word ≡ true) ⊎ ((store_fault_state t).struck ≡ true)
    → boards.TurnsManyHeld h 1 m mid s t made word → boards.TurnsManyHeld h count m mid s t made word
last_row h zero made m mid s t word some why held = absurd (omega (arith, some))
last_row h (suc n) made m mid s t word some why (x, y, said, held, inr none) = absurd none.4
last_row h (suc n) made m mid s t word some why (x, y, said, held, inl (last, machine, store, k, w)) = (x, y, said, held, inl (by why, machine, store, k, w))
  where
    by : (suc n ≡ 1) ⊎ (ends word ≡ true) ⊎ ((store_fault_state t).struck ≡ true) → boards.IsLastHeld said n y
    by (inl one) = inr (inl (omega (arith, one)))
    by (inr (inl e)) = inl (ap ends (sym w) ∙ e)
    by (inr (inr e)) = inr (inr (ap (λ (z : SimStore). (store_fault_state z).struck) (sym store) ∙ e))
