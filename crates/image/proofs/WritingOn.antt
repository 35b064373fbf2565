-- Lanes of an area are lent, come back, and are made durable.
use Rattle.std.proofs.Common.{◌≡◌, ◌∙◌, ◌≤◌, ◌<◌, ℕ, ◌+◌, ◌*◌, List, Ok, Err, refl, sym, ap, subst, arith}
use Rattle.board_model.specs.{Shapes.{Size, places_of, area_sectors_of, sectors_of}, declared.refusal.Refusal.Refusal}
use Rattle.board_model.specs.declared.refusal.Refusal.TheVariants.{Device, Memory}
use Rattle.disk.specs.{Calls.{MakesCalls, NoCall}, FaultState.{FaultState, Cause, CausedInLanes}, Moments.passes_stays}
use Rattle.disk.specs.Facts.{Content, Facts, LaneFacts, Lent, InRow, Joined, Only, Passes, Stays, Torn, lane_failures, nothing, counted, most}
use Rattle.layout.specs.Sizes.{area_start, lane_sectors}
use Rattle.savers.specs.{Saved.SamePlaces, Saves.SaveRefused}
use Rattle.image.{specs.Refusals.{WriteRefused, WritesOn}, proofs.Written.lanes_of}

abbrev row : ℕ → ℕ → ℕ → Lent
row first lanes each = record { first = first; lanes = lanes; each = each }

-- the lanes of an area
abbrev pub area_lent : Size → ℕ → Lent
area_lent size area = record { first = area_start size area; lanes = size.lanes; each = lane_sectors size }

-- where an area's lanes begin, how many they are, and their places: what is lent by these is the area
module _ (size : Size) (area first lanes places : ℕ) (begins : first ≡ area_start size area) (many : lanes ≡ size.lanes) (room : places ≡ places_of size) where
  pub lent_area : (l : Lent) → l ≡ record { first = first; lanes = lanes; each = 9 * places } → l ≡ area_lent size area
  lent_area l is =
      is
      ∙ ap (λ (k : ℕ). row k lanes (9 * places)) begins
      ∙ ap (λ (k : ℕ). row (area_start size area) k (9 * places)) many
      ∙ ap (λ (k : ℕ). row (area_start size area) size.lanes (9 * k)) room

  all : lanes * (9 * places) ≡ area_sectors_of size
  all = ap (λ (k : ℕ). k * (9 * places)) many ∙ ap (λ (k : ℕ). size.lanes * (9 * k)) room ∙ lanes_of size

  pub lent_within : (k : ℕ) → first + area_sectors_of size ≤ sectors_of size → sectors_of size ≤ k → first + lanes * (9 * places) ≤ k
  lent_within k within enough = subst (λ (n : ℕ). first + n ≤ k) (sym all) (omega (arith, within, enough))

  pub passes_area : (a b : Facts) → Passes a b (Torn first (lanes * (9 * places))) → Passes a b (Torn (area_start size area) (area_sectors_of size))
  passes_area a b p =
      subst (λ (k : ℕ). Passes a b (Torn k (area_sectors_of size))) begins (subst (λ (n : ℕ). Passes a b (Torn first n)) all p)

-- lanes that each stand where they did stand in their row
pub row_back : (l : Lent) (before after : List LaneFacts) → InRow l before → SamePlaces before after → InRow l after
row_back l before after in_row same = record {
  count = same.count ∙ in_row.count;
  first = λ i lt. same.first i (subst (λ (n : ℕ). i < n) (sym in_row.count) lt) ∙ in_row.first i lt;
  each = λ i lt. same.each i (subst (λ (n : ℕ). i < n) (sym in_row.count) lt) ∙ in_row.each i lt;
}

-- the area lies on the disk
pub area_within : (size : Size) (area first k : ℕ) → first ≡ area_start size area → first + area_sectors_of size ≤ sectors_of size → sectors_of size ≤ k → area_start size area + area_sectors_of size ≤ k
area_within size area first k begins within enough = omega arith

-- Lanes were lent and are back: these sectors alone may be others, and the lanes failed so often.
pub record AreBack (first n : ℕ) (old : Facts) (m : FaultState) (failed : ℕ) (new : Facts) (o : FaultState) : Type 0 where
  pub content : Torn first n old.content new.content
  pub crash : Passes old new (Torn first n)
  pub none_out : new.lent ≡ nothing
  pub failures : new.failures ≡ counted old.failures failed
  pub calls : new.calls ≡ old.calls
  pub cause : CausedInLanes m o failed

-- the lanes of an area, which a split lent and a join took back
pub area_back : (size : Size) (area : ℕ) (lanes : List LaneFacts) (a b d : Facts) (m x y : FaultState) → Passes a b (Torn (area_start size area) (area_sectors_of size))
    → b.content ≡ a.content → NoCall a b m x → Joined (area_lent size area) lanes b.content d.content → d.lent ≡ nothing → Passes b d Stays
    → d.failures ≡ counted b.failures (lane_failures lanes) → d.calls ≡ b.calls → CausedInLanes x y (lane_failures lanes)
    → AreBack (area_start size area) (area_sectors_of size) a m (lane_failures lanes) d y
area_back size area lanes a b d m x y lent same none joined back crash fails calls cause = record {
  content = subst (λ (c : Content). Torn (area_start size area) (area_sectors_of size) c d.content) same
      (subst (λ (n : ℕ). Torn (area_start size area) n b.content d.content) (lanes_of size) joined.elsewhere);
  crash = passes_stays a b d (Torn (area_start size area) (area_sectors_of size)) lent crash;
  none_out = back;
  failures = fails ∙ ap (λ (k : ℕ). counted k (lane_failures lanes)) none.failures;
  calls = calls ∙ none.calls;
  cause = subst (λ (w : FaultState). CausedInLanes w y (lane_failures lanes)) none.cause cause;
}

-- no memory was had for the split, which made no call
pub writes_none : {U : Type 0} (first n : ℕ) (a b : Facts) (m x : FaultState) → a.lent.lanes ≡ 0 → Passes a b (Torn first n) → b.content ≡ a.content → b.lent ≡ a.lent → NoCall a b m x
    → a.calls ≤ most → WritesOn {T = U} first n a m (Err Memory) b x
writes_none first n a b m x idle crash same still none few = record {
  content = subst (λ (c : Content). Torn first n a.content c) (sym same) (record { as_long = refl; before = λ k lt. refl; after = λ k le. refl });
  crash = crash;
  durable = tt;
  none_out = ap (λ (l : Lent). l.lanes) still ∙ idle;
  no_fewer = omega (arith, none.failures);
  no_failure = tt;
  unmoved = tt;
  refused = (none.failures, none.cause, none.calls);
  calls = tt;
  few_calls = omega (arith, none.calls, few);
}

write_refused : (size : Size) (before after : List LaneFacts) (first n : ℕ) (a d : Facts) (m y : FaultState) (e : Refusal) → a.failures ≤ most → lane_failures before ≡ 0
    → AreBack first n a m (lane_failures after) d y → SaveRefused size before e after → WriteRefused a m e d y
write_refused size before after first n a d m y Device few fresh back why = (omega (arith, back.failures, why.0), back.cause.some why.0)
write_refused size before after first n a d m y Memory few fresh back why =
    let zero : lane_failures after ≡ 0 = ap lane_failures why ∙ fresh in
    (omega (arith, back.failures, zero, few), back.cause.none zero, back.calls)
write_refused size before after first n a d m y e few fresh back why = absurd why

-- a lane failed, or memory was refused
pub writes_refused : {U : Type 0} (size : Size) (before after : List LaneFacts) (first n : ℕ) (a d : Facts) (m y : FaultState) (e : Refusal) → a.failures ≤ most → a.calls ≤ most
    → lane_failures before ≡ 0 → AreBack first n a m (lane_failures after) d y → SaveRefused size before e after → WritesOn {T = U} first n a m (Err e) d y
writes_refused size before after first n a d m y e few few_calls fresh back why = record {
  content = back.content;
  crash = back.crash;
  durable = tt;
  none_out = ap (λ (l : Lent). l.lanes) back.none_out;
  no_fewer = omega (arith, back.failures, few);
  no_failure = tt;
  unmoved = tt;
  refused = write_refused size before after first n a d m y e few fresh back why;
  calls = tt;
  few_calls = omega (arith, back.calls, few_calls);
}

-- no lane failed, and then a sync was made
module _ (first n : ℕ) (a d b : Facts) (m y z : FaultState) (failed : ℕ) (few : a.failures ≤ most) (none : failed ≡ 0) (back : AreBack first n a m failed d y) where
  still : d.failures ≡ a.failures
  still = omega (arith, back.failures, none, few)

  torn : b.content ≡ d.content → Torn first n a.content b.content
  torn same = subst (λ (c : Content). Torn first n a.content c) (sym same) back.content

  pub writes_failed : {U T E : Type 0} (e : E) → MakesCalls {T = T} {E = E} 1 Stays d b y z (Err e) → WritesOn {T = U} first n a m (Err Device) b z
  writes_failed e made = record {
    content = torn made.content;
    crash = passes_stays a d b (Torn first n) back.crash made.crash;
    durable = tt;
    none_out = ap (λ (l : Lent). l.lanes) (made.lent ∙ back.none_out);
    no_fewer = omega (arith, few, still, made.failures.err);
    no_failure = tt;
    unmoved = tt;
    refused = (omega (arith, still, made.failures.err), subst (λ (w : FaultState). Cause w z) (back.cause.none none) made.cause.err);
    calls = tt;
    few_calls = omega (arith, back.calls, made.calls.err.1);
  }

  pub writes_durable : {U T E : Type 0} (v : T) (u : U) → MakesCalls {T = T} {E = E} 1 Stays d b y z (Ok v) → Only b.content b.may_leave → WritesOn {T = U} first n a m (Ok u) b z
  writes_durable v u made only = record {
    content = torn made.content;
    crash = passes_stays a d b (Torn first n) back.crash made.crash;
    durable = only;
    none_out = ap (λ (l : Lent). l.lanes) (made.lent ∙ back.none_out);
    no_fewer = omega (arith, still, made.failures.ok);
    no_failure = made.failures.ok ∙ still;
    unmoved = made.cause.ok ∙ back.cause.none none;
    refused = tt;
    calls = made.calls.ok ∙ ap (λ (k : ℕ). counted k 1) back.calls;
    few_calls = omega (arith, back.calls, made.calls.ok);
  }
