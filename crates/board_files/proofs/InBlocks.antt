-- A sector in its block, and the sectors of a device.
use Rattle.std.proofs.Common.{zero, suc, ◌≡◌, ◌∙◌, ℕ, ◌<◌, ◌⊎◌, ◌+◌, Bool, true, false, cond, List, [], ◌∷◌, length, map, take, drop, Result, Ok, Err, arith, inl, inr, refl, sym, ap, subst, ⊎_elim}
use Rattle.std.specs.{Prelude.nat_eq, List.starts_with}
use Rattle.disk.specs.Facts.{Content, Torn, Written, sector}
use Rattle.board_files.specs.Blocks.{sector_of, sectors_of, mark_at, known_in, facts_in, HoldsSectors}
use Rattle.board_files.specs.Files.{FileFacts, FileKnown, Unknown, Known, Goes, WritesSector, LeavesBut}

either : (b : Bool) (x : List ℕ) → x ≡ [] → cond b x [] ≡ []
either true x same = same
either false x same = refl

drop_none : (n : ℕ) → ◌≡◌ {A = List ℕ} (drop n []) []
drop_none zero = refl
drop_none (suc n) = refl

none : (mark : List ℕ) → sector_of mark [] ≡ []
none mark = either (starts_with nat_eq [] mark) (take 492 (drop (20 + length mark) [])) (ap (take 492) (drop_none (20 + length mark)))

map_at : (f : List ℕ → List ℕ) → f [] ≡ [] → (c : Content) (k : ℕ) → sector (map f c) k ≡ f (sector c k)
map_at f nil [] k = sym nil
map_at f nil (x ∷ c) zero = refl
map_at f nil (x ∷ c) (suc k) = map_at f nil c k

map_long : (f : List ℕ → List ℕ) (c : Content) → length (map f c) ≡ length c
map_long f [] = refl
map_long f (x ∷ c) = ap suc (map_long f c)

pub sector_at : (n : ℕ) (c : Content) (k : ℕ) → sector (sectors_of n c) k ≡ sector_of (mark_at n k) (sector c k)
sector_at n [] k = sym (none (mark_at n k))
sector_at n (x ∷ c) zero = refl
sector_at n (x ∷ c) (suc k) = map_at (sector_of []) (none []) c k

pub as_many : (n : ℕ) (c : Content) → length (sectors_of n c) ≡ length c
as_many n [] = refl
as_many n (x ∷ c) = ap suc (map_long (sector_of []) c)

same_at : (n k : ℕ) (old new : Content) → sector new k ≡ sector old k → sector (sectors_of n new) k ≡ sector (sectors_of n old) k
same_at n k old new same = sector_at n new k ∙ ap (sector_of (mark_at n k)) same ∙ sym (sector_at n old k)

torn_in : (n first count : ℕ) (old new : Content) → Torn first count old new → Torn first count (sectors_of n old) (sectors_of n new)
torn_in n first count old new torn = record {
  as_long = as_many n new ∙ torn.as_long ∙ sym (as_many n old);
  before = λ k less. same_at n k old new (torn.before k less);
  after = λ k more. same_at n k old new (torn.after k more);
}

written_in : (n number : ℕ) (block bytes : List ℕ) (old new : Content) → sector_of (mark_at n number) block ≡ bytes
    → Written number (block ∷ []) old new → Written number (bytes ∷ []) (sectors_of n old) (sectors_of n new)
written_in n number block bytes old new reads wrote = record {
  elsewhere = torn_in n number 1 old new wrote.elsewhere;
  there = λ i less. there i less (omega (arith, less));
}
  where
    there : (i : ℕ) → i < 1 → i ≡ 0 → sector (sectors_of n new) (number + i) ≡ sector (bytes ∷ []) i
    there i less first = rw first (sector_at n new (number + 0)
        ∙ ap (λ (k : ℕ). sector_of (mark_at n k) (sector new (number + 0))) (omega arith)
        ∙ ap (sector_of (mark_at n number)) (wrote.there 0 (omega arith)) ∙ reads)

leaves_in : (n number : ℕ) (before : Content → Type 0) (c d : Content) → LeavesBut number before d → c ≡ sectors_of n d
    → LeavesBut number (λ (x : Content). (e : Content) × before e × (x ≡ sectors_of n e)) c
leaves_in n number before c d but same = (
  sectors_of n but.0,
  (but.0, but.1, refl),
  subst (λ (x : Content). Torn number 1 (sectors_of n but.0) x) (sym same) (torn_in n number 1 but.0 d but.2),
)

-- what was left since a moment, before the block was written or by it
since_in : (n number : ℕ) (o m : FileFacts) (t : ℕ)
    → ((c : Content) → m.since t c → o.since t c ⊎ LeavesBut number o.may_leave c) → (c : Content) → (facts_in n m).since t c
    → (facts_in n o).since t c ⊎ LeavesBut number (facts_in n o).may_leave c
since_in n number o m t since c left = ⊎_elim (λ was. inl (left.0, was, left.2))
    (λ but. inr (leaves_in n number o.may_leave c left.0 but left.2)) (since left.0 left.1)

written_ok : {T E : Type 0} (n number : ℕ) (block bytes : List ℕ) (result : Result T E) (o m : FileFacts)
    → sector_of (mark_at n number) block ≡ bytes → WritesSector number block result o m
    → WritesSector number bytes result (facts_in n o) (facts_in n m)
written_ok n number block bytes (Ok v) o m reads wrote = record {
  written = written_in n number block bytes o.holds m.holds reads wrote.written;
  leaves = λ c left. leaves_in n number o.may_leave c left.0 (wrote.leaves left.0 left.1) left.2;
  syncs = wrote.syncs;
  since = λ t c le left. since_in n number o m t (λ d. wrote.since t d le) c left;
  keeps = λ t c le was. (was.0, wrote.keeps t was.0 le was.1, was.2);
}
written_ok n number block bytes (Err e) o m reads wrote = record {
  written = tt;
  leaves = λ c left. leaves_in n number o.may_leave c left.0 (wrote.leaves left.0 left.1) left.2;
  syncs = wrote.syncs;
  since = λ t c le left. since_in n number o m t (λ d. wrote.since t d le) c left;
  keeps = λ t c le was. (was.0, wrote.keeps t was.0 le was.1, was.2);
}

-- a block that was written is its sector
pub writes_in : {T E : Type 0} (n number : ℕ) (block bytes : List ℕ) (result : Result T E) (o m : FileKnown)
    → sector_of (mark_at n number) block ≡ bytes → Goes o m (WritesSector number block result)
    → Goes (known_in n o) (known_in n m) (WritesSector number bytes result)
writes_in n number block bytes result Unknown Unknown reads wrote = tt
writes_in n number block bytes result Unknown (Known m) reads wrote = wrote
writes_in n number block bytes result (Known o) Unknown reads wrote = wrote
writes_in n number block bytes result (Known o) (Known m) reads wrote = written_ok n number block bytes result o m reads wrote

-- as it is made, and as its device comes back
pub lies_in : (n : ℕ) (file : FileKnown) → Goes file (known_in n file) (HoldsSectors n)
lies_in n Unknown = tt
lies_in n (Known f) = record {
  holds = refl;
  leaves = λ d left. (d, left, refl);
  syncs = refl;
  since = λ t d was. (d, was, refl);
  left = λ c left. left;
  was = λ t c was. was;
}
