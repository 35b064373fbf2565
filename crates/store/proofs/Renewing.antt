-- A commit of the same state leaves it, at each moment; and what an open leaves.
use Rattle.std.proofs.Common.{◌≡◌, ◌∙◌, ◌⊎◌, inl, inr, ℕ, ◌+◌, ◌≤◌, ◌==◌, Option, length, refl, sym, ap, subst, ⊎_elim, Bool, true, false, if◌then◌else◌, arith}
use Rattle.board_model.specs.{Durable.DurableState, Shapes.{Size, sectors_of}, declared.{durable.Trial.Trial, refusal.Refusal.Refusal}}
use Rattle.board_model.specs.declared.refusal.Refusal.TheVariants.{NotFormatted, BadShape, BadRecord, Device, Memory}
use Rattle.disk.specs.{Facts.{Content, Facts, sector, counted, Failed, LeavesSince}, Moments.{leaves_none, leaves_then, leaves_weaker}}
use Rattle.layout.specs.{Records.{version_number, IsTrialIn, IsInRange}, declared.records.{Record.Record, Version.Version}}
use Rattle.layout.{specs.declared.records.Version.TheVariants.{One, Two}, proofs.SpelledRecords.version_in}
use Rattle.store.{specs.{Commits.{SelectsEither, IsUp}, Opens.{open_calls, OpenRefused, FindCalls, OpenCalls}}, proofs.Found.stands_here}
use Rattle.store.specs.Leaves.{SameLength, ReadsAlone, IsRenewed, LeftAsBefore, IsSettled, LeavesVersionTwo}
use Rattle.store.specs.Standing.{live_sector, version_at, state_of, Selects, StandsFor}
use Rattle.store.proofs.States.{content_determines_state, either_stands}

module _ (size : Size) (side : ℕ) (r next : Record) (same : (c : Content) → state_of size next c ≡ state_of size r c) where
  one : (base c : Content) → SelectsEither size side r next base c → StandsFor c size (state_of size r base)
  one base c either = ⊎_elim (λ old. old) (λ new. subst (StandsFor c size) (same base) new) (either_stands size side r next base c either)

  pub renewed_moment : (a b : Facts) → LeavesSince a b (SelectsEither size side r next a.content) → LeavesSince a b (λ c. StandsFor c size (state_of size r a.content))
  renewed_moment a b any = leaves_weaker a b (SelectsEither size side r next a.content) (λ c. StandsFor c size (state_of size r a.content)) any (one a.content)

-- ---- the version
-- that of the record which the gate selects
pub version_selected : (size : Size) (side : ℕ) (r : Record) (c : Content) → Selects size side r c → version_at (live_sector c) ≡ version_number r.version
version_selected size side r c s = ap (λ (k : ℕ). version_at (sector c (2 + k))) s.gate ∙ version_in size r (sector c (2 + side)) s.is

pub leaves_two : (disk : Facts) (size : Size) (side : ℕ) (r : Record) → IsUp disk size side r → r.version ≡ Two → LeavesVersionTwo disk
unfolding LeavesVersionTwo
leaves_two disk size side r up two c left = version_selected size side r c (up c left).selects ∙ ap version_number two

-- a record of version 1 is in range as one of version 2 too
pub trial_in_two : (v : Version) (t : Option Trial) → IsTrialIn v t → IsTrialIn Two t
trial_in_two v t is x some = let few = is x some in (refl, few.1, few.2)

pub in_range_two : (size : Size) (r : Record) → IsInRange size r → IsInRange size (record r { version = Two })
in_range_two size r range = record {
  slot = range.slot;
  image = range.image;
  trial = trial_in_two r.version r.trial range.trial;
  fit = (omega arith, range.fit.1);
}

-- ---- what an open leaves
renewed_then : (x y z : Content) → IsRenewed x y → IsRenewed y z → IsRenewed x z
renewed_then x y z xy yz =
    let one = content_determines_state y yz.1 xy.1 yz.2 xy.2 yz.3 xy.4 in
    (xy.0, xy.1, xy.2, xy.3, subst (λ (s : DurableState). StandsFor z xy.1 s) one.1 (subst (λ (size : Size). StandsFor z size yz.2) one.0 yz.4))

-- what was left as before one moment, after calls that left what there was before another
pub left_then : (a b : Facts) → ((x : Content) → b.may_leave x → LeftAsBefore a x) → (x : Content) → LeftAsBefore b x → LeftAsBefore a x
left_then a b before x (inl left) = before x left
left_then a b before x (inr r) = by (before r.0 r.1)
  where
    by : LeftAsBefore a r.0 → LeftAsBefore a x
    by (inl left) = inr (r.0, left, r.2)
    by (inr q) = inr (q.0, q.1, renewed_then q.0 r.0 x q.2 r.2)

pub still_settled : (a : Facts) → ((x : Content) → a.since a.moment x → a.may_leave x) → a.lent.lanes ≡ 0 → IsSettled a a
still_settled a only_now idle = record {
  content = inl refl;
  any_moment = leaves_none a (LeftAsBefore a) only_now (λ x left. inl left);
  as_long = refl;
  none_out = idle;
  no_fewer = omega arith;
}

-- what was read alone, and then went on
module _ (a b : Facts) (reads : ReadsAlone a b) where
  read_moment : LeavesSince a b (LeftAsBefore a)
  read_moment = leaves_weaker a b a.may_leave (LeftAsBefore a) reads.any_moment (λ x left. inl left)

  pub read_settled : IsSettled a b
  read_settled = record { content = inl reads.content; any_moment = read_moment; as_long = ap length reads.content; none_out = reads.none_out; no_fewer = reads.no_fewer }

  pub settled_after : (c : Facts) → IsSettled b c → IsSettled a c
  settled_after c s = record {
    content = subst (λ (x : Content). (c.content ≡ x) ⊎ IsRenewed x c.content) reads.content s.content;
    any_moment = leaves_then a b c (LeftAsBefore a) read_moment (leaves_weaker b c (LeftAsBefore b) (LeftAsBefore a) s.any_moment (left_then a b read_moment.now));
    as_long = s.as_long ∙ ap length reads.content;
    none_out = s.none_out;
    no_fewer = omega (arith, reads.no_fewer, s.no_fewer);
  }

-- a record of version 1 that is renewed, or was to be
pub renewed_settled : (a b : Facts) (size : Size) (side : ℕ) (r : Record) → IsUp a size side r → a.may_leave a.content → b.may_leave b.content → r.version ≡ One
    → LeavesSince a b (λ c. StandsFor c size (state_of size r a.content))
    → SameLength a b → b.lent.lanes ≡ 0 → a.failures ≤ b.failures → IsSettled a b
renewed_settled a b size side r up may_keep keeps one_is any long idle fewer = record {
  content = inr (is b.content (any.now b.content keeps));
  any_moment = leaves_weaker a b (λ c. StandsFor c size (state_of size r a.content)) (LeftAsBefore a) any (λ c there. inr (a.content, may_keep, is c there));
  as_long = long;
  none_out = idle;
  no_fewer = fewer;
}
  where
    is : (c : Content) → StandsFor c size (state_of size r a.content) → IsRenewed a.content c
    is c there = (version_selected size side r a.content (up a.content may_keep).selects ∙ ap version_number one_is, size, state_of size r a.content, stands_here a size side r up may_keep, there)

-- ---- how many calls
abbrev calls_by : ℕ → ℕ
calls_by version = if version == 1 then 8 else 4

pub calls_of : (size : Size) (side : ℕ) (r : Record) (v : Version) (c : Content) → Selects size side r c → r.version ≡ v → open_calls c ≡ calls_by (version_number v)
calls_of size side r v c s is = ap calls_by (version_selected size side r c s ∙ ap version_number is)

pub some_calls : (c : Content) → 4 ≤ open_calls c
some_calls c = by (version_at (live_sector c) == 1)
  where
    by : (b : Bool) → 4 ≤ (if b then 8 else 4)
    by true = omega arith
    by false = omega arith

more_calls : (old new k : ℕ) → 4 ≤ k → new ≤ counted old 4 → new ≤ counted old k
more_calls old new k more few = omega (arith, more, few)

-- a commit after what was read
pub calls_on : (start old new k : ℕ) → old ≡ counted start 4 → new ≡ counted old 4 → k ≡ 8 → new ≡ counted start k
calls_on start old new k read wrote is = omega (arith, read, wrote, is)

pub calls_stop : (start old new k : ℕ) → old ≡ counted start 4 → (counted old 1 ≤ new) × (new ≤ counted old 4) → k ≡ 8 → (counted start 1 ≤ new) × (new ≤ counted start k)
calls_stop start old new k read wrote is = (omega (arith, read, wrote.0), omega (arith, read, wrote.1, is))

-- what is read comes before what is written
pub open_by_find : (c : Content) (e : Refusal) (old new : ℕ) → FindCalls e old new → OpenCalls c e old new
open_by_find c NotFormatted old new made = made
open_by_find c BadShape old new made = made
open_by_find c BadRecord old new made = made
open_by_find c Memory old new made = made
open_by_find c e old new made = (made.0, more_calls old new (open_calls c) (some_calls c) made.1)

-- and what is written was to be so where it was not
pub open_by_renewal : (c d : Content) (e : Refusal) (start new : ℕ) → c ≡ d → e ≡ Device → (counted start 1 ≤ new) × (new ≤ counted start (open_calls c)) → OpenCalls d e start new
open_by_renewal c d e start new same is made =
    subst (λ (x : Refusal). OpenCalls d x start new) (sym is)
    (subst (λ (x : Content). (counted start 1 ≤ new) × (new ≤ counted start (open_calls x))) same made)

pub refused_by_renewal : (disk new : Facts) (e : Refusal) → e ≡ Device → Failed disk.failures new.failures → OpenRefused disk e new
refused_by_renewal disk new e is failed = subst (λ (x : Refusal). OpenRefused disk x new) (sym is) failed

-- ---- the record that is written anew
pub renewed_state : (b : Facts) (y z : Size) (side : ℕ) (r : Record) (s : DurableState) → IsUp b y side r → b.may_leave b.content → StandsFor b.content z s → state_of y r b.content ≡ s
renewed_state b y z side r s up may_keep stands = (content_determines_state b.content y z (state_of y r b.content) s (stands_here b y side r up may_keep) stands).1

pub four_sectors : (a : Facts) (size : Size) (side : ℕ) (r : Record) → IsUp a size side r → a.may_leave a.content → 4 ≤ length a.content
four_sectors a size side r up may_keep = few (length a.content) (sectors_of size) (up a.content may_keep).selects.enough (omega arith)
  where
    few : (n m : ℕ) → m ≤ n → 8 ≤ m → 4 ≤ n
    few n m le some = omega arith
