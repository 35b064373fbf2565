-- A machine that begins, or begins again.
use Rattle.std.proofs.Common.{ℕ, Bool, true, false, List, ◌≡◌, ◌<◌, length, sym, ap, ◌∙◌, subst, arith}
use Rattle.std.{specs.Prelude.{Option, Some, None, slice_set, replicate, not}, proofs.lemmas.List.{length-set, length-replicate}}
use Rattle.board_model.specs.{Shapes.{Size, IsSize, ram_bytes_of}, declared.durable.Reason.Reason}
use Rattle.hart.specs.State.{ArchState, started as fresh}
use Rattle.hsm.specs.States.{HartState, stopped, started}
use Rattle.machine.{specs.{Held.AreNumbered, Machine.{Machine, stopped_harts, only_first}}, proofs.Opening.{long, stopped_numbered}}
use Rattle.sbi_calls.specs.Both.{TableState}
use Rattle.store.specs.declared.saving.Resumption.{Resumption}
use Rattle.susp.specs.declared.buses.Doze.{Doze}
use Rattle.model_board.specs.{Boards.{Board, On, powered_by}, Events.{PowersOn, TurnsBy, TurnOn, RefusedOn, Asks}}
use Rattle.model_board.specs.Plain.{IsPlain, Sized, Settles, HasSleeper, IsKnown, sized, board_shown, board_after, life_of, standing, image_at}
use Rattle.model_board.{specs.declared.{holds.Settled.Settled, powers.Power.Power}, proofs.Kept.{shown, numbered_with}}
use Rattle.model_board.specs.declared.powers.Power.TheVariants as powers

only_long : (n first : ℕ) → length (only_first n first) ≡ n
only_long n first = length-set (replicate n stopped) first started ∙ length-replicate n stopped

pub new_plain : (size : Size) (memory : List ℕ) (harts : List ArchState) (t : TableState) → IsSize size → memory ≡ replicate (ram_bytes_of size) 0 → harts ≡ stopped_harts size.harts → t.states ≡ only_first size.harts 0 → IsPlain size memory harts t
new_plain size memory harts t is m h s = record {
  some = is.0;
  few = is.1;
  room = ap (λ (b : List ℕ). length b) m ∙ length-replicate {A = ℕ} (ram_bytes_of size) 0;
  long = ap (λ (xs : List ArchState). length xs) h ∙ long size.harts;
  numbered = subst (λ (xs : List ArchState). AreNumbered xs) (sym h) (stopped_numbered size.harts);
  states = ap (λ (xs : List HartState). length xs) s ∙ only_long size.harts 0;
}

-- ---- every hart was stopped
low_in : (size : Size) (memory : List ℕ) (doze : Option Doze) (harts : List ArchState) (table : TableState) (old : Machine) (first : ℕ) → shown size memory doze harts table ≡ old → first < old.size.harts → first < size.harts
low_in size memory doze harts table old first view low = subst (λ (m : Machine). first < m.size.harts) (sym view) low

now_long : (harts now : List ArchState) → now ≡ stopped_harts (length harts) → length now ≡ length harts
now_long harts now e = ap (λ (xs : List ArchState). length xs) e ∙ long (length harts)

pub again_low : (size : Size) (memory : List ℕ) (doze : Option Doze) (harts now : List ArchState) (table : TableState) (old : Machine) (first i : ℕ) → shown size memory doze harts table ≡ old → first < old.size.harts → IsPlain size memory harts table → now ≡ stopped_harts (length harts) → i ≡ first → i < length now
again_low size memory doze harts now table old first i view low p e at =
    let below = low_in size memory doze harts table old first view low in
    let l = now_long harts now e in
    let k = p.long in
    omega (arith, below, l, k, at)

pub again_plain : (size : Size) (memory : List ℕ) (doze : Option Doze) (harts now : List ArchState) (table t : TableState) (old : Machine) (first i pc a1 : ℕ) (y : ArchState) → shown size memory doze harts table ≡ old → first < old.size.harts → IsPlain size memory harts table → now ≡ stopped_harts (length harts) → i ≡ first → y ≡ fresh first pc a1
    → t.states ≡ only_first (length table.states) first → IsPlain size memory (slice_set now i y) t
again_plain size memory doze harts now table t old first i pc a1 y view low p e at is s =
    let there : i < length now = again_low size memory doze harts now table old first i view low p e at in
    record {
      some = p.some;
      few = p.few;
      room = p.room;
      long = length-set now i y ∙ (now_long harts now e ∙ p.long);
      numbered = numbered_with now i y (subst (λ (xs : List ArchState). AreNumbered xs) (sym e) (stopped_numbered (length harts))) there (ap (λ (x : ArchState). x.id) is ∙ sym at);
      states = ap (λ (xs : List HartState). length xs) s ∙ (only_long (length table.states) first ∙ p.states);
    }

-- ---- a board is powered on
powers_by : (image : Option Resumption) (reason : Reason) (m m' : Machine) (payload : List ℕ) → m' ≡ (powered_by payload m.size reason (image_at m.memory image)).machine
    → On (record { machine = m'; stands = standing reason None; down = false }) ≡ On (powered_by payload m.size reason (image_at m.memory image))
powers_by None reason m m' payload e = ap (λ (n : Machine). On (record { machine = n; stands = standing reason None; down = false })) e
powers_by (Some at) reason m m' payload e = ap (λ (n : Machine). On (record { machine = n; stands = standing reason None; down = false })) e

pub powers_on : (power : Power) (image : Option Resumption) (reason : Reason) (down : Bool) (m m' : Machine) (old : Sized) (payload : List ℕ) → sized power reason down m ≡ old → power ≡ powers.Off image → m' ≡ (powered_by payload m.size reason (image_at m.memory image)).machine
    → PowersOn payload old.size old.board (On (record { machine = m'; stands = standing reason None; down = false }))
powers_on power image reason down m m' old payload view off e =
    let new : Board = On (record { machine = m'; stands = standing reason None; down = false }) in
    subst (λ (b : Sized). PowersOn payload b.size b.board new) view
    (subst (λ (p : Power). PowersOn payload m.size (board_shown p reason down m) new) (sym off) (powers_by image reason m m' payload e))

-- ---- a turn of a board that is on
pub known_then : (m m' : Machine) (s : Settled) (power : Power) → m'.size ≡ m.size → HasSleeper m.size.harts s → ((harts : ℕ) → HasSleeper harts s → IsKnown harts power) → IsKnown m'.size.harts power
known_then m m' s power e sleeper known = known m'.size.harts (subst (λ (z : Size). HasSleeper z.harts s) (sym e) sleeper)

module _ (h : ℕ) (power : Power) (reason : Reason) (down : Bool) (m m' : Machine) (old : Sized) (s : Settled) (power' : Power) (reason' : Reason)
    (view : sized power reason down m ≡ old) (on : power ≡ powers.On)
    (settled : (n : Machine) (d : Bool) → board_shown power' reason' d n ≡ board_after s (life_of (standing reason None) d n)) where
  stood : (P : Board → Type 0) → P (On (life_of (standing reason None) down m)) → P old.board
  stood P x = subst (λ (b : Sized). P b.board) view (subst (λ (p : Power). P (board_shown p reason down m)) (sym on) x)

  pub turned : (fell : Bool) → fell ≡ down → Settles (λ l c. TurnsBy (not down) h l c) m s m' → TurnOn h old.board (board_shown power' reason' fell m')
  turned fell e x =
      let new : board_shown power' reason' fell m' ≡ board_after s (life_of (standing reason None) down m') = ap (λ (d : Bool). board_shown power' reason' d m') e ∙ settled m' down in
      stood (λ b. TurnOn h b (board_shown power' reason' fell m'))
      (subst (λ (c : Board). TurnsBy (not down) h (life_of (standing reason None) down m) c) (sym new) (x (standing reason None) down))

  pub turned_up : (fell : Bool) → fell ≡ false → down ≡ false → Settles (λ l c. TurnsBy true h l c) m s m' → TurnOn h old.board (board_shown power' reason' fell m')
  turned_up fell e up x = turned fell (e ∙ sym up) (subst (λ (d : Bool). Settles (λ l c. TurnsBy (not d) h l c) m s m') (sym up) x)

  pub refused_so : (fell falls : Bool) → fell ≡ falls → down ≡ false → Asks h m → Settles (λ l c. TurnsBy false h l c) m s m' → RefusedOn h falls old.board (board_shown power' reason' fell m')
  refused_so fell falls e up asks x =
      let new : board_shown power' reason' fell m' ≡ board_after s (life_of (standing reason None) falls m') = ap (λ (d : Bool). board_shown power' reason' d m') e ∙ settled m' falls in
      stood (λ b. RefusedOn h falls b (board_shown power' reason' fell m'))
      (up, asks, subst (λ (c : Board). TurnsBy false h (life_of (standing reason None) falls m) c) (sym new) (x (standing reason None) falls))
