-- What a hart's state, its stage and the first word say of one another.
use Rattle.std.{proofs.Common.{◌≡◌, ◌≢◌, ℕ, ◌+◌, true, false, true≢false, None, refl, sym, ◌∙◌, arith}, specs.Int.bit_at}
use Rattle.hsm.specs.{declared.view.Stage.{Stage, TheVariants.{Running, Suspended}}, Calls.{state_in_word, named, is_ready}}
use Rattle.hsm.specs.States.{HartState, stopped, start_pending, started, suspended, awaits, Says, is_outside, is_running, is_suspended, IsAt, is_stopped, grant, entry, begin}

-- ---- states and stages
pub runs_settled : (z : HartState) → IsAt z Running → (a o : ℕ) → awaits z a o ≡ 0
runs_settled stopped at a o = refl
runs_settled (start_pending b d) at a o = absurd (cc)
runs_settled started at a o = refl
runs_settled suspended at a o = refl

pub suspends_settled : (z : HartState) → IsAt z Suspended → (a o : ℕ) → awaits z a o ≡ 0
suspends_settled stopped at a o = refl
suspends_settled (start_pending b d) at a o = absurd (cc)
suspends_settled started at a o = refl
suspends_settled suspended at a o = refl

-- a hart outside stays outside
pub at_outside : (st st' : Stage) → is_running st ≡ false → is_suspended st ≡ false → is_outside st' ≡ true → (y : HartState) → IsAt y st → IsAt y st'
at_outside st st' p q r stopped at = r
at_outside st st' p q r (start_pending a o) at = r
at_outside st st' p q r started at = absurd (true≢false (sym at ∙ p))
at_outside st st' p q r suspended at = absurd (true≢false (sym at ∙ q))

-- a running one stays running
pub at_running : (st st' : Stage) → is_outside st ≡ false → is_suspended st ≡ false → is_running st' ≡ true → (y : HartState) → IsAt y st → IsAt y st'
at_running st st' p q r stopped at = absurd (true≢false (sym at ∙ p))
at_running st st' p q r (start_pending a o) at = absurd (true≢false (sym at ∙ p))
at_running st st' p q r started at = r
at_running st st' p q r suspended at = absurd (true≢false (sym at ∙ q))

-- ---- what the word says
pub stopped_of : (found h : ℕ) (x : HartState) → Says found h x → bit_at found h ≡ 0 → x ≡ stopped
stopped_of found h stopped says z = refl
stopped_of found h (start_pending a o) says z = let one = says.0 in absurd (omega arith)
stopped_of found h started says z = let one = says.0 in absurd (omega arith)
stopped_of found h suspended says z = let one = says.0 in absurd (omega arith)

pub taken_of : (found h : ℕ) (x : HartState) → Says found h x → bit_at found h ≢ 0 → is_stopped x ≡ false
taken_of found h stopped says n = absurd (n says)
taken_of found h (start_pending a o) says n = refl
taken_of found h started says n = refl
taken_of found h suspended says n = refl

pub grant_taken : (a o : ℕ) (x : HartState) → is_stopped x ≡ false → grant a o x ≡ x
grant_taken a o stopped e = absurd (true≢false e)
grant_taken a o (start_pending b d) e = refl
grant_taken a o started e = refl
grant_taken a o suspended e = refl

pub named_is : (found h : ℕ) (x : HartState) → Says found h x → state_in_word h found ≡ named x
named_is found h stopped says = rw says refl
named_is found h (start_pending a o) says = rw (says.0, says.1) refl
named_is found h started says = rw (says.0, says.1, says.2) refl
named_is found h suspended says = rw (says.0, says.1, says.2) refl

pub not_pending : (found h : ℕ) (x : HartState) → Says found h x → bit_at found (8 + h) ≡ bit_at found h → is_ready h found ≡ false → (entry x ≡ None) × (begin x ≡ x)
not_pending found h stopped says armed z = (refl, refl)
not_pending found h (start_pending a o) says armed z = let r : is_ready h found ≡ true = rw (armed ∙ says.0, says.1) refl in absurd (true≢false (sym r ∙ z))
not_pending found h started says armed z = (refl, refl)
not_pending found h suspended says armed z = (refl, refl)
