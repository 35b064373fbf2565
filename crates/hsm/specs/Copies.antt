-- A table of the same states, which is made by the calls of its own harts.
use Rattle.std.specs.Prelude.{◌≡◌, ℕ, ◌<◌, ◌==◌, nat_lt, if◌then◌else◌, Option, Some, None}
use Rattle.tallies.specs.Notes.{numbers}
use Rattle.tallies.specs.Seats.{numbers_from}
use Rattle.hsm.specs.declared.view.Stage.{Stage}
use Rattle.hsm.specs.declared.view.Stage.TheVariants.{Out, Running, Suspended, Quiet}
use Rattle.hsm.specs.Words.{HartSeatView}
use Rattle.hsm.specs.Rule.{stands}
use Rattle.hsm.specs.States.{HartState, stopped, start_pending, started, suspended, Shows, change_at}
use Rattle.hsm.specs.Views.{state_in}
use Rattle.hsm.specs.declared.standings.Standing.{Standing}
use Rattle.hsm.specs.declared.standings.Standing.TheVariants as told

-- the state that an answer names
abbrev pub state_told : Standing → HartState
state_told told.Stopped = stopped
state_told (told.StartPending a o) = start_pending a o
state_told told.Started = started
state_told told.Suspended = suspended

-- no start of the hart is pending
abbrev pub IsSettled : HartState → Type 0
IsSettled stopped = Unit {0}
IsSettled (start_pending a o) = ⊥
IsSettled started = Unit {0}
IsSettled suspended = Unit {0}

-- where a hart in a state stands that is in no call and not quiet
abbrev pub rest_stage : HartState → Stage
rest_stage stopped = Out
rest_stage (start_pending a o) = Out
rest_stage started = Running
rest_stage suspended = Suspended

-- and where it stands where one hart is quiet
abbrev pub stage_by : Option ℕ → ℕ → HartState → Stage
stage_by None h x = rest_stage x
stage_by (Some q) h x = if q == h then Quiet else rest_stage x

-- the view of a seat of all harts shows the state of each
abbrev pub IsShown : ℕ → HartSeatView → Type 0
IsShown harts c = Shows harts c (state_in c)

-- and each stands where its state has it rest
pub record IsAtRest (harts : ℕ) (c : HartSeatView) : Type 0 where
  pub shown : IsShown harts c
  pub each : (h : ℕ) → h < harts → stands h (rest_stage (state_in c h)) c.harts

-- one hart comes to a state, and of the others nothing is new
pub record Becomes (harts h : ℕ) (x : HartState) (c c' : HartSeatView) : Type 0 where
  pub rests : IsAtRest harts c'
  pub numbered : numbers c'.harts ≡ numbers c.harts
  pub states : (k : ℕ) → k < harts → state_in c' k ≡ change_at h (λ _. x) (state_in c) k

-- the states while a table is made: the first hart runs, those below n stand as they are to, the others are
-- STOPPED
abbrev pub so_far : ℕ → ℕ → (ℕ → HartState) → ℕ → HartState
so_far first n states k = if k == first then started else (if nat_lt k n then states k else stopped)

pub record IsMade (harts first n : ℕ) (old c : HartSeatView) : Type 0 where
  pub rests : IsAtRest harts c
  pub numbered : numbers c.harts ≡ numbers_from 0 harts
  pub states : (k : ℕ) → k < harts → state_in c k ≡ so_far first n (state_in old) k
