-- What the table of answers says in the words of the calls.
use Rattle.std.proofs.Common.{rules, ◌≡◌, ◌⊎◌, ℕ, ◌<◌, ◌%◌, ◌+◌, Bool, true, false, List, Ok, Err, refl, sym, ap, ◌∙◌, inl, inr, arith, if◌then◌else◌, ◌&&◌, ◌==◌}
use Rattle.std.{specs.Prelude.{nat_lt, nat_le}, proofs.lemmas.List.set-get_or}
use Rattle.board_model.specs.Shapes.{Size, IsValidAddress, ram_bytes_of}
use Rattle.hsm.specs.{States.{HartState, stopped, start_pending, started, suspended, grant, is_stopped}, Calls.{code_of, named}}
use Rattle.hsm.specs.Views.{listed}
use Rattle.sbi_abi.specs.declared.ret.SbiError.{SbiError, TheVariants.{InvalidParam, InvalidAddress}}
use Rattle.sbi_calls.specs.declared.requests.Request.TheVariants.{Value, Start, Stop, Status, Suspend, SuspendAfresh, Send, Command}
use Rattle.sbi_calls.specs.{declared.endings.Ending.{Ending, TheVariants.Answers}, Requests.{Checked, request_of, checked}, Both.TableState}
use Rattle.sbi_calls.specs.{Answers.{row, with_state, start_answer}, Laws.{ErrorsChangeNothing, StartsTheStopped, StatusIsOne}}

-- ---- an error changes nothing
unchanged : (t : TableState) (h : ℕ) (y : HartState) → y ≡ listed t.states h → with_state t h y ≡ t
unchanged t h y e = ap (λ (x : HartState). with_state t h x) e ∙ ap (λ (l : List HartState). record t { states = l }) (set-get_or t.states h stopped)

start_refused : (t : TableState) (h a o : ℕ) (e : SbiError) (y : HartState) → y ≡ listed t.states h → Answers (start_answer (is_stopped y)) ≡ Answers (Err e) → with_state t h (grant a o y) ≡ t
start_refused t h a o e stopped is end = absurd (cc)
start_refused t h a o e (start_pending b d) is end = unchanged t h (start_pending b d) is
start_refused t h a o e started is end = unchanged t h started is
start_refused t h a o e suspended is end = unchanged t h suspended is

row_refused : (by : ℕ) (asked : Checked) (t : TableState) (e : SbiError) → (row by asked t).ending ≡ Answers (Err e) → (row by asked t).table ≡ t
row_refused by (Err x) t e end = refl
row_refused by (Ok (Value v)) t e end = refl
row_refused by (Ok (Start h a o)) t e end = start_refused t h a o e (listed t.states h) refl end
row_refused by (Ok Stop) t e end = absurd (cc)
row_refused by (Ok (Status h)) t e end = refl
row_refused by (Ok Suspend) t e end = absurd (cc)
row_refused by (Ok (SuspendAfresh a o)) t e end = absurd (cc)
row_refused by (Ok (Send targets)) t e end = absurd (cc)
row_refused by (Ok Command) t e end = refl

pub errors_change_nothing : ErrorsChangeNothing
errors_change_nothing size by call t e end = row_refused by (request_of size call) t e end

-- ---- hart_start
abbrev start_ending : Bool → Bool → HartState → Ending
start_ending true true y = Answers (start_answer (is_stopped y))
start_ending true false y = Answers (Err InvalidAddress)
start_ending false good y = Answers (Err InvalidParam)

abbrev start_checked : Bool → Bool → ℕ → ℕ → ℕ → Checked
start_checked b c h a o = checked (if b then Ok h else Err InvalidParam) (λ target. checked (if c then Ok a else Err InvalidAddress) (λ site. Ok (Start target site o)))

ends_so : (b c : Bool) (by h a o : ℕ) (t : TableState) → (row by (start_checked b c h a o) t).ending ≡ start_ending b c (listed t.states h)
ends_so true true by h a o t = refl
ends_so true false by h a o t = refl
ends_so false true by h a o t = refl
ends_so false false by h a o t = refl

granted : (b c : Bool) (y : HartState) → start_ending b c y ≡ Answers (Ok 0) → (b ≡ true) × (c ≡ true) × (y ≡ stopped)
granted true true stopped e = (refl, refl, refl)
granted true true (start_pending a o) e = absurd (cc)
granted true true started e = absurd (cc)
granted true true suspended e = absurd (cc)
granted true false y e = absurd (cc)
granted false true y e = absurd (cc)
granted false false y e = absurd (cc)

good_hart : (h n : ℕ) → nat_lt h n ≡ true → h < n
good_hart h n e = search (rules, arith)

is_hart : (h n : ℕ) → h < n → nat_lt h n ≡ true
is_hart h n lt = search (arith, rules)

abbrev is_good : Size → ℕ → Bool
is_good size a = nat_le 0x80000000 a && (nat_lt a (0x80000000 + ram_bytes_of size) && (a % 4 == 0))

good_address : (size : Size) (a : ℕ) → is_good size a ≡ true → IsValidAddress size a
good_address size a e = search (rules, arith)

is_address : (size : Size) (a : ℕ) → IsValidAddress size a → is_good size a ≡ true
is_address size a v = search (arith, rules)

pub starts_the_stopped : StartsTheStopped
starts_the_stopped size by h a o t =
    let so = ends_so (nat_lt h size.harts) (is_good size a) by h a o t in (
      (λ end. let g = granted (nat_lt h size.harts) (is_good size a) (listed t.states h) (sym so ∙ end) in (good_hart h size.harts g.0, good_address size a g.1, g.2)),
      (λ g. so ∙ (ap (λ (b : Bool). start_ending b (is_good size a) (listed t.states h)) (is_hart h size.harts g.0)
          ∙ (ap (λ (c : Bool). start_ending true c (listed t.states h)) (is_address size a g.1)
          ∙ ap (λ (y : HartState). start_ending true true y) g.2))),
    )

-- ---- hart_get_status
abbrev status_ending : Bool → HartState → Ending
status_ending true y = Answers (Ok (code_of (named y)))
status_ending false y = Answers (Err InvalidParam)

shows_so : (b : Bool) (by h : ℕ) (t : TableState) → (row by (checked (if b then Ok h else Err InvalidParam) (λ hart. Ok (Status hart))) t).ending ≡ status_ending b (listed t.states h)
shows_so true by h t = refl
shows_so false by h t = refl

one_of_four : (b : Bool) (y : HartState) (v : ℕ) → status_ending b y ≡ Answers (Ok v) → (v ≡ 0) ⊎ ((v ≡ 1) ⊎ ((v ≡ 2) ⊎ (v ≡ 4)))
one_of_four true stopped v e = inr (inl (cc))
one_of_four true (start_pending a o) v e = inr (inr (inl (cc)))
one_of_four true started v e = inl (cc)
one_of_four true suspended v e = inr (inr (inr (cc)))
one_of_four false y v e = absurd (cc)

pub status_is_one : StatusIsOne
status_is_one size by h v t e = one_of_four (nat_lt h size.harts) (listed t.states h) v (sym (shows_so (nat_lt h size.harts) by h t) ∙ e)
