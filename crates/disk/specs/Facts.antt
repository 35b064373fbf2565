-- What a disk is, to a contract: what a read gives, what a crash may leave, and how often it has failed.
use Rattle.std.specs.Prelude.{◌≡◌, ◌⊎◌, ℕ, ◌+◌, ◌*◌, ◌-◌, ◌^◌, ◌≤◌, ◌<◌, min, List, [], ◌∷◌, length, get_or, Result, OnOk, OnErr}
use Rattle.disk.specs.declared.device.LaneCall.{LaneCall}

-- the sectors in order, each a list of its 512 bytes
abbrev pub Content : Type 0
Content = List (List ℕ)

abbrev pub sector : Content → ℕ → List ℕ
sector c k = get_or c k []

-- the sectors that are lent: so many lanes, of so many sectors each, in a row from the first
pub record Lent : Type 0 where
  pub first : ℕ
  pub lanes : ℕ
  pub each : ℕ

abbrev pub nothing : Lent
nothing = record { first = 0; lanes = 0; each = 0 }

abbrev pub lent_sectors : Lent → ℕ
lent_sectors l = l.lanes * l.each

-- the facts of a disk
pub record Facts : Type 1 where
  -- what a read gives
  pub content : Content
  -- what a crash now may leave
  pub may_leave : Content → Type 0
  -- the moment, a number that doesn't fall
  pub moment : ℕ
  -- what a crash at some moment since that one might have left
  pub since : ℕ → Content → Type 0
  -- how often it has failed
  pub failures : ℕ
  -- how many calls were made of it: reads, writes and syncs, those that failed too
  pub calls : ℕ
  pub lent : Lent

-- the facts of a lane
pub record LaneFacts : Type 0 where
  pub content : Content
  pub failures : ℕ
  -- where on the disk it begins
  pub first : ℕ
  -- each call that was made of it since the split, in order
  pub calls : List LaneCall

-- new is old but for n sectors in a row, which are any
pub record Torn (first n : ℕ) (old new : Content) : Type 0 where
  pub as_long : length new ≡ length old
  pub before : (k : ℕ) → k < first → sector new k ≡ sector old k
  pub after : (k : ℕ) → first + n ≤ k → sector new k ≡ sector old k

-- new is old with these sectors from that place on
pub record Written (first : ℕ) (sectors old new : Content) : Type 0 where
  pub elsewhere : Torn first (length sectors) old new
  pub there : (i : ℕ) → i < length sectors → sector new (first + i) ≡ sector sectors i

-- new is old
abbrev pub Stays : Content → Content → Type 0
Stays old new = new ≡ old

-- what a crash might have left, after that step
abbrev pub LeavesAfter : Facts → (Content → Content → Type 0) → Content → Type 0
LeavesAfter old step c = (d : Content) × old.may_leave d × step d c

-- Calls went by. A crash then, or at some moment of them, leaves what it might have left before, after that
-- step.
pub record Passes (old new : Facts) (step : Content → Content → Type 0) : Type 0 where
  pub later : old.moment ≤ new.moment
  pub now : (c : Content) → new.may_leave c → LeavesAfter old step c
  pub nothing_else : (t : ℕ) (c : Content) → t ≤ old.moment → new.since t c → old.since t c ⊎ LeavesAfter old step c
  pub keeps : (t : ℕ) (c : Content) → t ≤ old.moment → old.since t c → new.since t c

-- A crash at any moment since old leaves what has P.
pub record LeavesSince (old new : Facts) (P : Content → Type 0) : Type 0 where
  pub later : old.moment ≤ new.moment
  pub now : (c : Content) → new.may_leave c → P c
  pub each : (c : Content) → new.since old.moment c → P c
  -- for a run that began earlier
  pub before : (t : ℕ) (c : Content) → t ≤ old.moment → new.since t c → old.since t c ⊎ P c

-- a crash leaves this and nothing else
abbrev pub Only : Content → (Content → Type 0) → Type 0
Only content may_leave = (c : Content) → may_leave c → c ≡ content

-- a disk that was just made, or that a crash has left: what is read is durable
pub record IsFresh (content : Content) (disk : Facts) : Type 0 where
  pub reads : disk.content ≡ content
  pub durable : Only content disk.may_leave
  pub none_out : disk.lent ≡ nothing

-- no fact of it has changed
pub record Unchanged (old new : Facts) : Type 0 where
  pub content : new.content ≡ old.content
  pub moment : new.moment ≡ old.moment
  pub failures : new.failures ≡ old.failures
  pub calls : new.calls ≡ old.calls
  pub lent : new.lent ≡ old.lent
  pub now : (c : Content) → (new.may_leave c → old.may_leave c) × (old.may_leave c → new.may_leave c)
  pub since : (t : ℕ) (c : Content) → (new.since t c → old.since t c) × (old.since t c → new.since t c)

-- a crash has left the one as the other, which goes on counting failures and calls
pub record IsLeft (before after : Facts) : Type 0 where
  pub left : before.may_leave after.content
  pub fresh : IsFresh after.content after
  pub failures : after.failures ≡ before.failures
  pub calls : after.calls ≡ before.calls

-- none of these sectors is lent
abbrev pub Apart : ℕ → ℕ → Lent → Type 0
Apart first n l = (l.lanes ≡ 0) ⊎ (first + n ≤ l.first) ⊎ (l.first + lent_sectors l ≤ first)

-- these sectors are what stands from that place on
abbrev pub AreSectorsAt : ℕ → Content → Content → Type 0
AreSectorsAt first content sectors = (i : ℕ) → i < length sectors → sector sectors i ≡ sector content (first + i)

-- a count that stays where it ends
abbrev pub most : ℕ
most = 2 ^ 64 - 1

abbrev pub counted : ℕ → ℕ → ℕ
counted n more = min (n + more) most

-- an error is one failure more, and Ok is none
pub record Counts {T E : Type 0} (before now : ℕ) (result : Result T E) : Type 0 where
  pub ok : OnOk result (now ≡ before)
  pub err : OnErr result (now ≡ counted before 1)

-- The disk counted a failure in between. Where the count has come to its end, it is held to have counted one.
abbrev pub Failed : ℕ → ℕ → Type 0
Failed before now = counted before 1 ≤ now

-- past the end of a list of lanes
abbrev pub no_lane : LaneFacts
no_lane = record { content = []; failures = 0; first = 0; calls = [] }

abbrev pub lane_at : List LaneFacts → ℕ → LaneFacts
lane_at lanes i = get_or lanes i no_lane

-- the lanes that are lent, in a row
pub record InRow (l : Lent) (lanes : List LaneFacts) : Type 0 where
  pub count : length lanes ≡ l.lanes
  pub first : (i : ℕ) → i < l.lanes → (lane_at lanes i).first ≡ l.first + i * l.each
  pub each : (i : ℕ) → i < l.lanes → length (lane_at lanes i).content ≡ l.each

-- the lanes hold what stands in these sectors
abbrev pub Hold : Lent → List LaneFacts → Content → Type 0
Hold l lanes content =
    (i j : ℕ) → i < l.lanes → j < l.each
    → sector (lane_at lanes i).content j ≡ sector content (l.first + i * l.each + j)

-- the lanes that a split hands out
pub record Handed (l : Lent) (content : Content) (lanes : List LaneFacts) : Type 0 where
  pub row : InRow l lanes
  pub same : Hold l lanes content
  pub no_failure : (i : ℕ) → i < l.lanes → (lane_at lanes i).failures ≡ 0
  pub no_call : (i : ℕ) → i < l.lanes → (lane_at lanes i).calls ≡ []

-- the content after a join
pub record Joined (l : Lent) (lanes : List LaneFacts) (old new : Content) : Type 0 where
  pub elsewhere : Torn l.first (lent_sectors l) old new
  pub there : Hold l lanes new

-- the failures of all of them
abbrev pub lane_failures : List LaneFacts → ℕ
lane_failures [] = 0
lane_failures (lane ∷ lanes) = lane.failures + lane_failures lanes
