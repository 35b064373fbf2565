-- A disk comes into its file by one that is written beside and renamed.
use Rattle.std.proofs.Common.{zero, suc, ◌≡◌, ◌∙◌, ◌⊎◌, ◌==◌, ℕ, ◌<◌, ◌≤◌, ◌+◌, ◌*◌, ◌-◌, ◌^◌, ◌++◌, Bool, true, false, cond, if◌then◌else◌, List, [], ◌∷◌, length, take, drop, map, replicate, min, Option, None, Some, Result, Ok, Err, IfOk, IfSome, IsOk, OnOk, OnErr, arith, inl, inr, refl, sym, ap, subst, ⊎_elim, mul_comm}
use Rattle.std.{proofs.{Math.Nat.{min-eq_left, min-eq_right}, lemmas.Bool.{cases_lt, false≢true, Decides.nat_tests}}, specs.List.concat}
use Rattle.std.proofs.lemmas.List.{append-nil, append_assoc, drop-replicate, drop-take, drop_all, get_or-map, length-map, replicate-append-replicate, take-append-drop, take-replicate, take-take, take_all, take_more}
use Rattle.std.{specs.Option.option_map, proofs.lemmas.List.Folds.concat-append}
use Rattle.disk.specs.Facts.{Content, sector}
use Rattle.board_files.specs.{Blocks.{block_of, mark_at, mark_of}, Disks.{HoldsDisk, KeepsOrHolds}}
use Rattle.board_files.specs.Folders.{FolderFacts, IsBlankOf, IsKept, IsReady, MakesBeside, OneOfTwo, Puts, PutsDisk, Renames, Replaces, Stays, SyncsBeside, SyncsFolder, SyncsHeld, TakesPlace, blank_disk, block_in, blocks_of, cached_facts, left_of, with_disk}

-- ---- what is known
-- of the bytes, where they are known
of_known : (held : Option (List ℕ)) (P : List ℕ → Type 0) (all : List ℕ) → held ≡ Some all → IfSome held P → P all
of_known held P all is known = subst (λ (o : Option (List ℕ)). IfSome o P) is known

where_known : (held : Option (List ℕ)) (P : List ℕ → Type 0) → ((all : List ℕ) → held ≡ Some all → P all) → IfSome held P
where_known None P known = tt
where_known (Some all) P known = known all refl

stays_on : {a b c : FolderFacts} → Stays a b → Stays b c → Stays a c
stays_on first second = record {
  in_file = λ x left. first.in_file x (second.in_file x left);
  at_path = λ x left. first.at_path x (second.at_path x left);
  ever = λ x left. first.ever x (second.ever x left);
  keeps = λ x left. second.keeps x (first.keeps x left);
}

pub stays_same : (f : FolderFacts) → Stays f f
stays_same f = record { in_file = λ x left. left; at_path = λ x left. left; ever = λ x left. left; keeps = λ x left. left }

-- ---- the end of the file beside
module _ (T : Type 0) {E : Type 0} (held : Option (List ℕ)) where
  pub unsettled : (e : E) (o n : FolderFacts) → IfSome held (λ all. Stays o n) → IfSome held (λ all. SyncsBeside {T = T} (Err e) o n)
  unsettled e o n gone = where_known held _ (λ all is. record { stays = of_known held _ all is gone; same = tt; durable = tt })

  pub unsynced : (now : Option (List ℕ)) (e : E) (o m n : FolderFacts) → now ≡ held → IfSome held (λ all. SyncsBeside {T = T} (Err e) o m)
      → IfSome now (λ all. Stays m n) → IfSome held (λ all. SyncsBeside {T = T} (Err e) o n)
  unsynced now e o m n same synced gone = where_known held _ (λ all is. record {
    stays = stays_on (of_known held _ all is synced).stays (of_known now _ all (same ∙ is) gone);
    same = tt;
    durable = tt;
  })

  -- nothing was made
  pub unready : (bytes : List ℕ → List ℕ) (e : E) (o n : FolderFacts) → IfSome held (λ all. MakesBeside {T = T} [] (Err e) o n)
      → IfSome held (λ all. IsReady {T = T} (bytes all) (Err e) o n)
  unready bytes e o n made = where_known held _ (λ all is. record { stays = (of_known held _ all is made).stays; made = tt; durable = tt })

  pub unready_blank : (blank : List ℕ) (P : Type 0) (e : E) (o n : FolderFacts) → IfSome held (λ all. MakesBeside {T = T} [] (Err e) o n)
      → IfSome held (λ all. P → IsReady {T = T} blank (Err e) o n)
  unready_blank blank P e o n made = where_known held _ (λ all is given. record { stays = (of_known held _ all is made).stays; made = tt; durable = tt })

ready_by : {T E : Type 0} (bytes : List ℕ) (wrote result : Result T E) (a b n : FolderFacts) → OnOk result (IsOk wrote)
    → MakesBeside bytes wrote a b → SyncsBeside result b n → IsReady bytes result a n
ready_by bytes (Ok w) (Ok v) a b n whole made synced = record {
  stays = stays_on made.stays synced.stays;
  made = synced.same ∙ made.made;
  durable = λ c left. synced.durable c left ∙ made.made;
}
ready_by bytes (Err w) (Ok v) a b n whole made synced = absurd (false≢true whole)
ready_by bytes wrote (Err e) a b n whole made synced =
    record { stays = stays_on made.stays synced.stays; made = tt; durable = tt }

ready_later : {T E : Type 0} (bytes : List ℕ) (result : Result T E) (o a n : FolderFacts) → Stays o a → IsReady bytes result a n → IsReady bytes result o n
ready_later bytes result o a n first ready =
    record { stays = stays_on first ready.stays; made = ready.made; durable = ready.durable }

pub is_ready : {T E : Type 0} (bytes : List ℕ → List ℕ) (v : T) (wrote result : Result T E) (held h1 h2 : Option (List ℕ)) (o a b n : FolderFacts)
    → h1 ≡ held → h2 ≡ h1 → IfSome held (λ all. MakesBeside {E = E} [] (Ok v) o a)
    → IfSome h1 (λ all. MakesBeside (a.beside ++ bytes all) wrote a b) → OnOk result (IsOk wrote)
    → IfSome h2 (λ all. SyncsBeside result b n) → IfSome held (λ all. IsReady (bytes all) result o n)
is_ready bytes v wrote result held h1 h2 o a b n same still created made whole synced = where_known held _ (λ all is.
    let first = of_known held _ all is created in
    let wrote_it = of_known h1 _ all (same ∙ is) made in
    let empty : a.beside ++ bytes all ≡ bytes all = ap (λ (x : List ℕ). x ++ bytes all) first.made in
    ready_later (bytes all) result o a n first.stays
    (ready_by (bytes all) wrote result a b n whole (subst (λ (x : List ℕ). MakesBeside x wrote a b) empty wrote_it)
    (of_known h2 _ all (still ∙ same ∙ is) synced)))

pub is_blank_ready : {T E : Type 0} (blank : List ℕ) (P : Type 0) (v : T) (wrote result : Result T E) (held h1 h2 : Option (List ℕ)) (o a b n : FolderFacts)
    → h1 ≡ held → h2 ≡ h1 → IfSome held (λ all. MakesBeside {E = E} [] (Ok v) o a)
    → IfSome h1 (λ all. P → a.beside ≡ [] → MakesBeside blank wrote a b) → OnOk result (IsOk wrote)
    → IfSome h2 (λ all. SyncsBeside result b n) → IfSome held (λ all. P → IsReady blank result o n)
is_blank_ready blank P v wrote result held h1 h2 o a b n same still created made whole synced = where_known held _ (λ all is p.
    let first = of_known held _ all is created in
    ready_later blank result o a n first.stays
    (ready_by blank wrote result a b n whole (of_known h1 _ all (same ∙ is) made p first.made) (of_known h2 _ all (still ∙ same ∙ is) synced)))

-- ---- into the place of the disk's file
pub not_renamed : (T : Type 0) {E : Type 0} (e : E) (held now : Option (List ℕ)) (o n : FolderFacts) → TakesPlace {T = T} (Err e) o.beside held now
    → IfSome held (λ all. Renames {T = T} (Err e) o n) → IfSome held (λ all. Replaces {T = T} all (Err e) now o n)
not_renamed T e held now o n place renamed = where_known held _ (λ all is.
    let r = of_known held _ all is renamed in
    record { holds = tt; kept = inl (place ∙ is); in_file = tt; at_path = tt; ever = r.ever; keeps = r.keeps })

renamed_by : {T E : Type 0} (v : T) (result : Result T E) (all : List ℕ) (now : Option (List ℕ)) (o m n : FolderFacts) → now ≡ Some o.beside
    → Renames {E = E} (Ok v) o m → SyncsFolder result m n → Replaces all result now o n
renamed_by v (Ok w) all now o m n is renamed synced = record {
  holds = is;
  kept = tt;
  in_file = λ c left. renamed.in_file c (synced.stays.in_file c left);
  at_path = λ c left. renamed.in_file c (synced.durable c left);
  ever = λ c left. renamed.ever c (synced.stays.ever c left);
  keeps = λ c left. synced.stays.keeps c (renamed.keeps c left);
}
renamed_by v (Err e) all now o m n is renamed synced = record {
  holds = tt;
  kept = inr is;
  in_file = tt;
  at_path = tt;
  ever = λ c left. renamed.ever c (synced.stays.ever c left);
  keeps = λ c left. synced.stays.keeps c (renamed.keeps c left);
}

pub replaced : {T E : Type 0} (v : T) (result : Result T E) (held mid now : Option (List ℕ)) (o m n : FolderFacts)
    → TakesPlace {E = E} (Ok v) o.beside held mid → now ≡ mid → IfSome held (λ all. Renames {E = E} (Ok v) o m)
    → IfSome mid (λ all. SyncsFolder result m n) → IfSome held (λ all. Replaces all result now o n)
replaced v result None mid now o m n place same renamed synced = tt
replaced v result (Some all) mid now o m n place same renamed synced =
    renamed_by v result all now o m n (same ∙ place) renamed (of_known mid _ o.beside place synced)

-- of a file of which nothing is known
pub stays_unknown : {T E : Type 0} (result : Result T E) (beside : List ℕ) (held mid now : Option (List ℕ)) → TakesPlace result beside held mid
    → now ≡ mid → held ≡ None → now ≡ None
stays_unknown (Ok v) beside held mid now place same none = same ∙ place ∙ ap (λ (o : Option (List ℕ)). option_map (λ _. beside) o) none
stays_unknown (Err e) beside held mid now place same none = same ∙ place ∙ none

-- ---- a disk that is put there
module _ (n : ℕ) (is_new : Bool) (sectors : Content) where
  abbrev disk : List ℕ → List ℕ
  disk all = with_disk n is_new sectors all

  pub held_already : {T : Type 0} (E : Type 0) (v : T) (held : Option (List ℕ)) (o : FolderFacts) → IfSome held (λ all. disk all ≡ all)
      → IfSome held (λ all. Puts {E = E} n is_new sectors all (Ok v) held o o)
  held_already E v held o there = where_known held _ (λ all is. let same = of_known held _ all is there in record {
    holds = is ∙ ap Some (sym same);
    kept = tt;
    durable = inr (same, λ c left. left);
    ever = λ c left. inl left;
    keeps = λ c left. left;
  })

  pub not_made : (T U : Type 0) {E G : Type 0} (e : E) (g : G) (held now : Option (List ℕ)) (o m : FolderFacts) → now ≡ held
      → IfSome held (λ all. IsReady {T = U} (disk all) (Err e) o m) → IfSome held (λ all. Puts {T = T} n is_new sectors all (Err g) now o m)
  not_made T U e g held now o m same ready = where_known held _ (λ all is. let r = of_known held _ all is ready in record {
    holds = tt;
    kept = inl (same ∙ is);
    durable = tt;
    ever = λ c left. inl (r.stays.ever c left);
    keeps = r.stays.keeps;
  })

  was : {T E U F : Type 0} (v : T) (all : List ℕ) (result : Result U F) (now : Option (List ℕ)) (o m p : FolderFacts) → IsReady {E = E} (disk all) (Ok v) o m
      → Replaces all result now m p → (c : List ℕ) → p.ever c → o.ever c ⊎ (c ≡ disk all)
  was v all result now o m p ready there c left = ⊎_elim (λ before. inl (ready.stays.ever c before)) (λ beside. inr (ready.durable c beside)) (there.ever c left)

  pub put_there : {T U : Type 0} (E G : Type 0) (v : U) (w : T) (x : U) (held mid now : Option (List ℕ)) (o m p : FolderFacts) → mid ≡ held
      → IfSome held (λ all. IsReady {E = E} (disk all) (Ok v) o m) → IfSome mid (λ all. Replaces {E = E} all (Ok x) now m p)
      → IfSome held (λ all. Puts {E = G} n is_new sectors all (Ok w) now o p)
  put_there E G v w x held mid now o m p same ready there = where_known held _ (λ all is.
      let r = of_known held _ all is ready in
      let t = of_known mid _ all (same ∙ is) there in
      record {
        holds = t.holds ∙ ap Some r.made;
        kept = tt;
        durable = inl (λ c left. r.durable c (t.at_path c left));
        ever = was v all (Ok x) now o m p r t;
        keeps = λ c left. t.keeps c (r.stays.keeps c left);
      })

  pub put_failed : (T : Type 0) {U E G : Type 0} (v : U) (e : E) (g : G) (held mid now : Option (List ℕ)) (o m p : FolderFacts) → mid ≡ held
      → IfSome held (λ all. IsReady {E = E} (disk all) (Ok v) o m) → IfSome mid (λ all. Replaces {T = U} all (Err e) now m p)
      → IfSome held (λ all. Puts {T = T} n is_new sectors all (Err g) now o p)
  put_failed T v e g held mid now o m p same ready there = where_known held _ (λ all is.
      let r = of_known held _ all is ready in
      let t = of_known mid _ all (same ∙ is) there in
      record {
        holds = tt;
        kept = ⊎_elim (λ old. inl old) (λ new. inr (new ∙ ap Some r.made)) t.kept;
        durable = tt;
        ever = was v all (Err e) now o m p r t;
        keeps = λ c left. t.keeps c (r.stays.keeps c left);
      })

-- ---- a disk whose sectors lie one after the other
map_plain : (c : Content) → map (block_in 512 []) c ≡ c
map_plain [] = refl
map_plain (x ∷ c) = ap (λ (r : Content). x ∷ r) (map_plain c)

blocks_plain : (c : Content) → blocks_of 512 c ≡ c
blocks_plain [] = refl
blocks_plain (x ∷ c) = ap (λ (r : Content). x ∷ r) (map_plain c)

holds_plain : (is_new : Bool) (sectors : Content) (all : List ℕ) → HoldsDisk is_new sectors (Some all) (with_disk 512 is_new sectors all)
holds_plain true sectors all = ap concat (blocks_plain sectors)
holds_plain false sectors all = ap (λ (c : Content). concat c ++ drop (512 * length sectors) all) (blocks_plain sectors)

-- what is read of a file, where its sectors lie so
abbrev plain : Bool → Option (List ℕ) → Option (List ℕ)
plain is held = cond is held None

module _ {T E : Type 0} (is_new : Bool) (sectors : Content) where
  written_at : (result : Result T E) (all : List ℕ) (after : Option (List ℕ)) (o p : FolderFacts) → Puts 512 is_new sectors all result after o p
      → OnOk result (IfSome after (HoldsDisk is_new sectors (Some all)))
  written_at (Ok v) all after o p puts = subst (λ (x : Option (List ℕ)). IfSome x (HoldsDisk is_new sectors (Some all))) (sym puts.holds) (holds_plain is_new sectors all)
  written_at (Err e) all after o p puts = tt

  kept_at : (result : Result T E) (all : List ℕ) (after : Option (List ℕ)) (o p : FolderFacts) → Puts 512 is_new sectors all result after o p
      → OnErr result (IfSome after (KeepsOrHolds is_new sectors (Some all)))
  kept_at (Ok v) all after o p puts = tt
  kept_at (Err e) all after o p puts = ⊎_elim
      (λ old. subst (λ (x : Option (List ℕ)). IfSome x (KeepsOrHolds is_new sectors (Some all))) (sym old) (inl refl))
      (λ new. subst (λ (x : Option (List ℕ)). IfSome x (KeepsOrHolds is_new sectors (Some all))) (sym new) (inr (holds_plain is_new sectors all))) puts.kept

  crash_at : (result : Result T E) (all : List ℕ) (after : Option (List ℕ)) (o p : FolderFacts) → Puts 512 is_new sectors all result after o p
      → PutsDisk is_new sectors all result after (left_of o) (left_of p)
  crash_at (Ok v) all after o p puts = record {
    durable = (with_disk 512 is_new sectors all, puts.holds, holds_plain is_new sectors all, puts.durable);
    ever = λ c left. ⊎_elim (λ was. inl was) (λ is. inr (subst (HoldsDisk is_new sectors (Some all)) (sym is) (holds_plain is_new sectors all))) (puts.ever c left);
    keeps = puts.keeps;
  }
  crash_at (Err e) all after o p puts = record {
    durable = tt;
    ever = λ c left. ⊎_elim (λ was. inl was) (λ is. inr (subst (HoldsDisk is_new sectors (Some all)) (sym is) (holds_plain is_new sectors all))) (puts.ever c left);
    keeps = puts.keeps;
  }

  if_ok : (result : Result T E) (P : Type 0) → P → OnOk result P
  if_ok (Ok v) P p = p
  if_ok (Err e) P p = tt

  if_err : (result : Result T E) (P : Type 0) → P → OnErr result P
  if_err (Ok v) P p = tt
  if_err (Err e) P p = p

  -- a clause of it, for any P of the bytes before and after
  none_after : (result : Result T E) (P : List ℕ → Type 0) (after : Option (List ℕ)) → after ≡ None → IfSome after P
  none_after result P after none = subst (λ (x : Option (List ℕ)). IfSome x P) (sym none) tt

  written_by : (b : Bool) (n : ℕ) (result : Result T E) (held after : Option (List ℕ)) (o p : FolderFacts) → (b ≡ true → n ≡ 512)
      → (held ≡ None → after ≡ None) → IfSome held (λ all. Puts n is_new sectors all result after o p)
      → OnOk result (IfSome (plain b after) (HoldsDisk is_new sectors (plain b held)))
  written_by false n result held after o p is still puts = if_ok result _ tt
  written_by true n result None after o p is still puts = if_ok result _ (none_after result (HoldsDisk is_new sectors None) after (still refl))
  written_by true n result (Some all) after o p is still puts =
      written_at result all after o p (subst (λ (k : ℕ). Puts k is_new sectors all result after o p) (is refl) puts)

  kept_by : (b : Bool) (n : ℕ) (result : Result T E) (held after : Option (List ℕ)) (o p : FolderFacts) → (b ≡ true → n ≡ 512)
      → (held ≡ None → after ≡ None) → IfSome held (λ all. Puts n is_new sectors all result after o p)
      → OnErr result (IfSome (plain b after) (KeepsOrHolds is_new sectors (plain b held)))
  kept_by false n result held after o p is still puts = if_err result _ tt
  kept_by true n result None after o p is still puts = if_err result _ (none_after result (KeepsOrHolds is_new sectors None) after (still refl))
  kept_by true n result (Some all) after o p is still puts =
      kept_at result all after o p (subst (λ (k : ℕ). Puts k is_new sectors all result after o p) (is refl) puts)

  crash_by : (b : Bool) (n : ℕ) (result : Result T E) (held after : Option (List ℕ)) (o p : FolderFacts) → (b ≡ true → n ≡ 512)
      → IfSome held (λ all. Puts n is_new sectors all result after o p)
      → IfSome (plain b held) (λ all. PutsDisk is_new sectors all result (plain b after) (left_of o) (left_of p))
  crash_by false n result held after o p is puts = tt
  crash_by true n result None after o p is puts = tt
  crash_by true n result (Some all) after o p is puts =
      crash_at result all after o p (subst (λ (k : ℕ). Puts k is_new sectors all result after o p) (is refl) puts)

equal : (a b : ℕ) → (a == b) ≡ true → a ≡ b
equal a b is = grind (arith, nat_tests)

-- the clauses of a disk that is put into its file
pub disk_written : {T E : Type 0} (n : ℕ) (is_new : Bool) (sectors : Content) (result : Result T E) (held after : Option (List ℕ)) (o p : FolderFacts)
    → (held ≡ None → after ≡ None) → IfSome held (λ all. Puts n is_new sectors all result after o p)
    → OnOk result (IfSome (if n == 512 then after else None) (HoldsDisk is_new sectors (if n == 512 then held else None)))
disk_written n is_new sectors result held after o p still puts = written_by is_new sectors (n == 512) n result held after o p (equal n 512) still puts

pub disk_kept : {T E : Type 0} (n : ℕ) (is_new : Bool) (sectors : Content) (result : Result T E) (held after : Option (List ℕ)) (o p : FolderFacts)
    → (held ≡ None → after ≡ None) → IfSome held (λ all. Puts n is_new sectors all result after o p)
    → OnErr result (IfSome (if n == 512 then after else None) (KeepsOrHolds is_new sectors (if n == 512 then held else None)))
disk_kept n is_new sectors result held after o p still puts = kept_by is_new sectors (n == 512) n result held after o p (equal n 512) still puts

pub disk_left : {T E : Type 0} (n : ℕ) (is_new : Bool) (sectors : Content) (result : Result T E) (held after : Option (List ℕ)) (o p : FolderFacts)
    → IfSome held (λ all. Puts n is_new sectors all result after o p)
    → IfSome (if n == 512 then held else None) (λ all. PutsDisk is_new sectors all result (if n == 512 then after else None) (left_of o) (left_of p))
disk_left n is_new sectors result held after o p puts = crash_by is_new sectors (n == 512) n result held after o p (equal n 512) puts

-- ---- block by block
block_at : (n : ℕ) (c : Content) (k : ℕ) → k < length c → sector (blocks_of n c) k ≡ block_in n (mark_at n k) (sector c k)
block_at n [] k less = absurd (omega (arith, less))
block_at n (x ∷ c) zero less = refl
block_at n (x ∷ c) (suc k) less = get_or-map (block_in n []) c k [] [] (omega (arith, less))

as_many : (n : ℕ) (c : Content) → length (blocks_of n c) ≡ length c
as_many n [] = refl
as_many n (x ∷ c) = ap suc (length-map c (block_in n []))

block_more : (n k : ℕ) (c : Content) → k < length c → concat (take (k + 1) (blocks_of n c)) ≡ concat (take k (blocks_of n c)) ++ block_in n (mark_at n k) (sector c k)
block_more n k c less =
    ap concat (take_more (blocks_of n c) k [] (omega (arith, less, as_many n c)))
    ∙ concat-append (take k (blocks_of n c)) (sector (blocks_of n c) k ∷ [])
    ∙ ap (λ (x : List ℕ). concat (take k (blocks_of n c)) ++ x) (append-nil (sector (blocks_of n c) k) ∙ block_at n c k less)

blocks_all : (n k : ℕ) (c : Content) → length c ≤ k → concat (take k (blocks_of n c)) ≡ concat (blocks_of n c)
blocks_all n k c all = ap concat (take_all k (blocks_of n c) (omega (arith, all, as_many n c)))

by_case : (b : Bool) (x y : List ℕ) → (b ≡ true → x ≡ y) → x ≡ cond b y x
by_case true x y same = same refl
by_case false x y same = refl

unmarked : (k : ℕ) → mark_at 512 k ≡ []
unmarked zero = refl
unmarked (suc k) = refl

-- a sector that was laid into its block
laid_in : (n k : ℕ) (s : List ℕ) → block_of n (mark_at n k) s ≡ block_in n (mark_at n k) s
laid_in n k s = by_case (n == 512) (block_of n (mark_at n k) s) s (λ is. at (equal n 512 is))
  where
    alone : block_of 512 [] s ≡ s
    alone = ap (λ (x : List ℕ). take 20 s ++ x) (append-nil (drop 20 s)) ∙ take-append-drop 20 s

    at : n ≡ 512 → block_of n (mark_at n k) s ≡ s
    at is = ap (λ (m : ℕ). block_of m (mark_at m k) s) is ∙ ap (λ (x : List ℕ). block_of 512 x s) (unmarked k) ∙ alone

-- so many blocks were written beside
pub record Appended (n : ℕ) (sectors : Content) (k : ℕ) (o m : FolderFacts) : Type 0 where
  pub stays : Stays o m
  pub made : m.beside ≡ o.beside ++ concat (take k (blocks_of n sectors))

pub none_appended : (n : ℕ) (sectors : Content) (held : Option (List ℕ)) (o : FolderFacts) → IfSome held (λ all. Appended n sectors 0 o o)
none_appended n sectors held o = where_known held _ (λ all is. record { stays = stays_same o; made = sym (append-nil o.beside) })

pub one_appended : {T : Type 0} (E : Type 0) (v : T) (n k : ℕ) (sectors : Content) (block s : List ℕ) (held h1 : Option (List ℕ)) (o m p : FolderFacts) → h1 ≡ held
    → IfSome held (λ all. Appended n sectors k o m) → IfSome h1 (λ all. MakesBeside {E = E} (m.beside ++ block) (Ok v) m p)
    → block ≡ block_of n (mark_at n k) s → s ≡ sector sectors k → k < length sectors → IfSome held (λ all. Appended n sectors (k + 1) o p)
one_appended E v n k sectors block s held h1 o m p same so_far made is there less = where_known held _ (λ all known.
    let a = of_known held _ all known so_far in
    let b = of_known h1 _ all (same ∙ known) made in
    let next : block ≡ block_in n (mark_at n k) (sector sectors k) = is ∙ laid_in n k s ∙ ap (block_in n (mark_at n k)) there in
    let done = concat (take k (blocks_of n sectors)) in
    record {
      stays = stays_on a.stays b.stays;
      made = b.made ∙ ap (λ (x : List ℕ). x ++ block) a.made ∙ append_assoc o.beside done block
          ∙ ap (λ (x : List ℕ). o.beside ++ (done ++ x)) next ∙ ap (λ (x : List ℕ). o.beside ++ x) (sym (block_more n k sectors less));
    })

pub not_appended : (T U : Type 0) {E : Type 0} (n k : ℕ) (sectors : Content) (e : E) (bytes : List ℕ) (held h1 : Option (List ℕ)) (other : List ℕ → List ℕ) (o m p : FolderFacts) → h1 ≡ held
    → IfSome held (λ all. Appended n sectors k o m) → IfSome h1 (λ all. MakesBeside {T = T} bytes (Err e) m p)
    → IfSome held (λ all. MakesBeside {T = U} (other all) (Err e) o p)
not_appended T U n k sectors e bytes held h1 other o m p same so_far made = where_known held _ (λ all known. record {
  stays = stays_on (of_known held _ all known so_far).stays (of_known h1 _ all (same ∙ known) made).stays;
  made = tt;
})

pub all_appended : {T : Type 0} (E : Type 0) (v : T) (n k : ℕ) (sectors : Content) (held : Option (List ℕ)) (o m : FolderFacts) → length sectors ≤ k
    → IfSome held (λ all. Appended n sectors k o m)
    → IfSome held (λ all. MakesBeside {E = E} (o.beside ++ concat (blocks_of n sectors)) (Ok v) o m)
all_appended E v n k sectors held o m end so_far = where_known held _ (λ all known. let a = of_known held _ all known so_far in record {
  stays = a.stays;
  made = a.made ∙ ap (λ (x : List ℕ). o.beside ++ x) (blocks_all n k sectors end);
})

-- ---- the bytes after the sectors
-- a place of a file that is past 64 bits is past its end
dropped : (n count at : ℕ) (all : List ℕ) → at ≡ min (count * n) (2 ^ 64 - 1) → length all < 2 ^ 64 → drop at all ≡ drop (n * count) all
dropped n count at all is few = elim (cases_lt (count * n) (2 ^ 64)) [
  | inl less ↦ ap (λ (k : ℕ). drop k all) (is ∙ min-eq_left (omega (arith, less)) ∙ mul_comm count n)
  | inr more ↦ drop_all at all (omega (arith, few, is ∙ min-eq_right (omega (arith, more))))
      ∙ sym (drop_all (n * count) all (omega (arith, few, more, mul_comm count n)))
]

module _ (n : ℕ) (is_new : Bool) (sectors : Content) where
  pub not_written : (T U : Type 0) {E : Type 0} (e : E) (bytes : List ℕ) (other : List ℕ → List ℕ) (held : Option (List ℕ)) (o m : FolderFacts)
      → IfSome held (λ all. MakesBeside {T = T} bytes (Err e) o m) → IfSome held (λ all. MakesBeside {T = U} (other all) (Err e) o m)
  not_written T U e bytes other held o m made = where_known held _ (λ all known. record { stays = (of_known held _ all known made).stays; made = tt })

  pub new_written : {T U : Type 0} (E : Type 0) (v : T) (w : U) (held : Option (List ℕ)) (o m : FolderFacts) → is_new ≡ true
      → IfSome held (λ all. MakesBeside {E = E} (o.beside ++ concat (blocks_of n sectors)) (Ok v) o m)
      → IfSome held (λ all. MakesBeside {E = E} (o.beside ++ with_disk n is_new sectors all) (Ok w) o m)
  new_written E v w held o m new made = where_known held _ (λ all known. let a = of_known held _ all known made in record {
    stays = a.stays;
    made = a.made ∙ ap (λ (b : Bool). o.beside ++ with_disk n b sectors all) (sym new);
  })

  rest : {T E : Type 0} (result : Result T E) (all bytes : List ℕ) (b c : List ℕ) (o m p : FolderFacts) → Stays o m → MakesBeside b result m p → b ≡ c
      → MakesBeside c result o p
  rest (Ok v) all bytes b c o m p stays made same = record { stays = stays_on stays made.stays; made = made.made ∙ same }
  rest (Err e) all bytes b c o m p stays made same = record { stays = stays_on stays made.stays; made = tt }

  pub old_written : {T U E : Type 0} (v : T) (result : Result U E) (at : ℕ) (held h1 : Option (List ℕ)) (o m p : FolderFacts) → is_new ≡ false
      → h1 ≡ held → at ≡ min (length sectors * n) (2 ^ 64 - 1) → IfSome held (λ all. length all < 2 ^ 64)
      → IfSome held (λ all. MakesBeside {E = E} (o.beside ++ concat (blocks_of n sectors)) (Ok v) o m)
      → IfSome h1 (λ all. MakesBeside (m.beside ++ drop at all) result m p)
      → IfSome held (λ all. MakesBeside (o.beside ++ with_disk n is_new sectors all) result o p)
  old_written v result at held h1 o m p old same place few made more = where_known held _ (λ all known.
      let a = of_known held _ all known made in
      let b = of_known h1 _ all (same ∙ known) more in
      let disk = concat (blocks_of n sectors) in
      let tail : drop at all ≡ drop (n * length sectors) all = dropped n (length sectors) at all place (of_known held _ all known few) in
      rest result all [] (m.beside ++ drop at all) (o.beside ++ with_disk n is_new sectors all) o m p a.stays b
      (ap (λ (x : List ℕ). x ++ drop at all) a.made ∙ append_assoc o.beside disk (drop at all)
      ∙ ap (λ (x : List ℕ). o.beside ++ (disk ++ x)) tail ∙ ap (λ (i : Bool). o.beside ++ with_disk n i sectors all) (sym old)))

-- ---- what is there already
take_sum : (a b : ℕ) (xs : List ℕ) → take (a + b) xs ≡ take a xs ++ take b (drop a xs)
take_sum a b xs = sym (take-append-drop a (take (a + b) xs))
    ∙ ap (λ (l : List ℕ). l ++ drop a (take (a + b) xs)) (take-take a (a + b) xs (omega arith))
    ∙ ap (λ (l : List ℕ). take a xs ++ l) (drop-take a b xs)

-- so many blocks are read as they would be written
pub none_there : (n : ℕ) (sectors : Content) (held : Option (List ℕ))
    → IfSome held (λ all. take (n * 0) all ≡ concat (take 0 (blocks_of n sectors)))
none_there n sectors held = where_known held _ (λ all known.
    let none : n * 0 ≡ 0 = omega arith in ap (λ (k : ℕ). take k all) none)

pub one_there : (n k at room : ℕ) (sectors : Content) (found block s : List ℕ) (held : Option (List ℕ)) → at ≡ min (k * n) (2 ^ 64 - 1)
    → IfSome held (λ all. length all < 2 ^ 64) → IfSome held (λ all. take (n * k) all ≡ concat (take k (blocks_of n sectors)))
    → room ≡ n → IfSome held (λ all. found ≡ take room (drop at all)) → found ≡ block → block ≡ block_of n (mark_at n k) s → s ≡ sector sectors k
    → k < length sectors → IfSome held (λ all. take (n * (k + 1)) all ≡ concat (take (k + 1) (blocks_of n sectors)))
one_there n k at room sectors found block s held place few so_far fits reads same is there less = where_known held _ (λ all known.
    let next : take n (drop (n * k) all) ≡ block_in n (mark_at n k) (sector sectors k) =
    sym (of_known held _ all known reads ∙ ap (λ (m : ℕ). take m (drop at all)) fits ∙ ap (take n) (dropped n k at all place (of_known held _ all known few)))
    ∙ same ∙ is ∙ laid_in n k s ∙ ap (block_in n (mark_at n k)) there in
    let one_more : n * (k + 1) ≡ n * k + n = omega arith in
    ap (λ (m : ℕ). take m all) one_more ∙ take_sum (n * k) n all
    ∙ ap (λ (l : List ℕ). l ++ take n (drop (n * k) all)) (of_known held _ all known so_far)
    ∙ ap (λ (l : List ℕ). concat (take k (blocks_of n sectors)) ++ l) next ∙ sym (block_more n k sectors less))

pub all_there : (n k : ℕ) (sectors : Content) (held : Option (List ℕ)) → length sectors ≤ k → k ≤ length sectors
    → IfSome held (λ all. take (n * k) all ≡ concat (take k (blocks_of n sectors)))
    → IfSome held (λ all. take (n * length sectors) all ≡ concat (blocks_of n sectors))
all_there n k sectors held end within so_far = where_known held _ (λ all known.
    let count : length sectors ≡ k = omega (arith, end, within) in
    ap (λ (m : ℕ). take (n * m) all) count ∙ of_known held _ all known so_far ∙ blocks_all n k sectors end)

-- the disk is there already: as an old one with what follows, or as a new one with nothing after it
pub old_there : (n : ℕ) (is_new : Bool) (sectors : Content) (held : Option (List ℕ)) → is_new ≡ false
    → IfSome held (λ all. take (n * length sectors) all ≡ concat (blocks_of n sectors)) → IfSome held (λ all. with_disk n is_new sectors all ≡ all)
old_there n is_new sectors held old begins = where_known held _ (λ all known.
    ap (λ (b : Bool). with_disk n b sectors all) old
    ∙ ap (λ (l : List ℕ). l ++ drop (n * length sectors) all) (sym (of_known held _ all known begins))
    ∙ take-append-drop (n * length sectors) all)

pub new_there : (n whole : ℕ) (is_new : Bool) (sectors : Content) (held : Option (List ℕ)) → is_new ≡ true
    → whole ≡ min (length sectors * n) (2 ^ 64 - 1) → IfSome held (λ all. whole ≡ length all)
    → IfSome held (λ all. take (n * length sectors) all ≡ concat (blocks_of n sectors)) → IfSome held (λ all. with_disk n is_new sectors all ≡ all)
new_there n whole is_new sectors held new is long begins = where_known held _ (λ all known.
    let turned : length sectors * n ≡ n * length sectors = mul_comm (length sectors) n in
    let fits : length all ≤ n * length sectors = omega (arith, sym (of_known held _ all known long) ∙ is, turned) in
    ap (λ (b : Bool). with_disk n b sectors all) new ∙ sym (of_known held _ all known begins) ∙ take_all (n * length sectors) all fits)

pub is_there : {E : Type 0} (result : Result Bool E) (n length_now whole : ℕ) (is_new : Bool) (sectors : Content) (held : Option (List ℕ))
    → (is_new ≡ true → length_now ≡ whole) → whole ≡ min (length sectors * n) (2 ^ 64 - 1) → IfSome held (λ all. length_now ≡ length all)
    → IfOk result (λ begins. begins ≡ true → IfSome held (λ all. take (n * length sectors) all ≡ concat (blocks_of n sectors)))
    → IfOk result (λ there. there ≡ true → IfSome held (λ all. with_disk n is_new sectors all ≡ all))
is_there (Err e) n length_now whole is_new sectors held ends is long begins = tt
is_there (Ok b) n length_now whole true sectors held ends is long begins = λ yes.
    new_there n length_now true sectors held refl (ends refl ∙ is) long (begins yes)
is_there (Ok b) n length_now whole false sectors held ends is long begins = λ yes. old_there n false sectors held refl (begins yes)

-- ---- a file in which a disk is kept
pub kept_old : {T : Type 0} (E : Type 0) (v : T) (held now : Option (List ℕ)) (o n : FolderFacts) → now ≡ held
    → IfSome held (λ all. SyncsHeld {E = E} all (Ok v) o n) → IfSome held (λ all. IsKept false all now n)
kept_old E v held now o n same synced = where_known held _ (λ all known. record {
  holds = same ∙ known;
  durable = (of_known held _ all known synced).durable;
  there = λ no. absurd (false≢true no);
})

pub kept_new : {T U : Type 0} (E : Type 0) (v : T) (w : U) (blank : List ℕ) (P : Type 0) (held mid now : Option (List ℕ)) (o m p : FolderFacts) → mid ≡ held
    → IfSome held (λ all. P → IsReady {E = E} blank (Ok v) o m) → IfSome mid (λ all. Replaces {E = E} all (Ok w) now m p)
    → IfSome held (λ all. P → IsKept true blank now p)
kept_new E v w blank P held mid now o m p same ready there = where_known held _ (λ all known given.
    let r = of_known held _ all known ready given in
    let t = of_known mid _ all (same ∙ known) there in
    record {
      holds = t.holds ∙ ap Some r.made;
      durable = λ c left. r.durable c (t.in_file c left);
      there = λ yes c left. r.durable c (t.at_path c left);
    })

-- ---- a blank disk
abbrev pub zeros : List ℕ
zeros = replicate 512 0

blank_block : (n : ℕ) → 512 ≤ n → block_in n [] zeros ≡ replicate n 0
blank_block n wide = sym (laid_in n 1 zeros)
    ∙ ap (λ (l : List ℕ). l ++ (drop 20 zeros ++ replicate (n - 512) 0)) (take-replicate 20 512 0 (omega arith))
    ∙ ap (λ (l : List ℕ). replicate 20 0 ++ (l ++ replicate (n - 512) 0)) (drop-replicate 20 512 0)
    ∙ ap (λ (l : List ℕ). replicate 20 0 ++ l) (replicate-append-replicate 492 (n - 512) 0)
    ∙ replicate-append-replicate 20 (492 + (n - 512)) 0
    ∙ ap (λ (k : ℕ). replicate k 0) (omega (arith, wide))

blank_blocks : (n k : ℕ) → 512 ≤ n → concat (map (block_in n []) (replicate k zeros)) ≡ replicate (n * k) 0
blank_blocks n zero wide = let none : 0 ≡ n * 0 = omega arith in ap (λ (k : ℕ). replicate k 0) none
blank_blocks n (suc k) wide =
    ap (λ (l : List ℕ). l ++ concat (map (block_in n []) (replicate k zeros))) (blank_block n wide)
    ∙ ap (λ (l : List ℕ). replicate n 0 ++ l) (blank_blocks n k wide)
    ∙ replicate-append-replicate n (n * k) 0
    ∙ ap (λ (j : ℕ). replicate j 0) (let e : n * suc k ≡ n + n * k = omega arith in sym e)

-- as long as a file can be
length_of : (n k at : ℕ) → IsBlankOf n (suc k) → at ≡ min (suc k * n) (2 ^ 64 - 1) → at ≡ n + n * k
length_of n k at blank is =
    let turned : suc k * n ≡ n * suc k = mul_comm (suc k) n in
    let more : n * suc k ≡ n + n * k = omega arith in
    let few : n * suc k < 2 ^ 64 = blank.1 in
    is ∙ min-eq_left (omega (arith, turned, few)) ∙ turned ∙ more

filled_plain : (n count at : ℕ) → n ≡ 512 → IsBlankOf n count → at ≡ min (count * n) (2 ^ 64 - 1) → replicate at 0 ≡ blank_disk n count
filled_plain n zero at small blank is = absurd (omega (arith, blank.0))
filled_plain n (suc k) at small blank is =
    let long : at ≡ n + n * k = length_of n k at blank is in
    ap (λ (j : ℕ). replicate j 0) (long ∙ ap (λ (m : ℕ). m + m * k) small)
    ∙ sym (replicate-append-replicate 512 (512 * k) 0)
    ∙ ap (λ (l : List ℕ). zeros ++ l) (sym (blank_blocks 512 k (omega arith)))
    ∙ ap (λ (m : ℕ). blank_disk m (suc k)) (sym small)

filled_blocks : (n count at : ℕ) (block : List ℕ) → 512 ≤ n → IsBlankOf n count → at ≡ min (count * n) (2 ^ 64 - 1)
    → block ≡ block_of n (mark_at n 0) zeros → length block ≡ n → block ++ replicate (at - length block) 0 ≡ blank_disk n count
filled_blocks n zero at block wide blank is laid long = absurd (omega (arith, blank.0))
filled_blocks n (suc k) at block wide blank is laid long =
    let whole : at ≡ n + n * k = length_of n k at blank is in
    let left : at - length block ≡ n * k = omega (arith, whole, long) in
    ap (λ (l : List ℕ). l ++ replicate (at - length block) 0) (laid ∙ laid_in n 0 zeros)
    ∙ ap (λ (j : ℕ). block_in n (mark_of n) zeros ++ replicate j 0) left
    ∙ ap (λ (l : List ℕ). block_in n (mark_of n) zeros ++ l) (sym (blank_blocks n k wide))

as_made : {T E : Type 0} (b c : List ℕ) (result : Result T E) (o n : FolderFacts) → b ≡ c → MakesBeside b result o n → MakesBeside c result o n
as_made b c result o n same made = subst (λ (x : List ℕ). MakesBeside x result o n) same made

pub plain_filled : {T E : Type 0} (result : Result T E) (n count at : ℕ) (none : List ℕ) (held : Option (List ℕ)) (o p : FolderFacts) → n ≡ 512
    → at ≡ min (count * n) (2 ^ 64 - 1) → none ≡ [] → IfSome held (λ all. o.beside ≡ [] → MakesBeside (none ++ replicate (at - length none) 0) result o p)
    → IfSome held (λ all. IsBlankOf n count → o.beside ≡ [] → MakesBeside (blank_disk n count) result o p)
plain_filled result n count at none held o p small is empty made = where_known held _ (λ all known blank new.
    let whole : at - 0 ≡ at = omega arith in
    as_made (none ++ replicate (at - length none) 0) (blank_disk n count) result o p
    (ap (λ (l : List ℕ). l ++ replicate (at - length l) 0) empty ∙ ap (λ (m : ℕ). replicate m 0) whole ∙ filled_plain n count at small blank is)
    (of_known held _ all known made new))

pub blocks_filled : {T E : Type 0} (result : Result T E) (n count at : ℕ) (block : List ℕ) (held : Option (List ℕ)) (o p : FolderFacts) → 512 ≤ n
    → at ≡ min (count * n) (2 ^ 64 - 1) → block ≡ block_of n (mark_at n 0) zeros → length block ≡ n
    → IfSome held (λ all. o.beside ≡ [] → MakesBeside (block ++ replicate (at - length block) 0) result o p)
    → IfSome held (λ all. IsBlankOf n count → o.beside ≡ [] → MakesBeside (blank_disk n count) result o p)
blocks_filled result n count at block held o p wide is laid long made = where_known held _ (λ all known blank none.
    as_made (block ++ replicate (at - length block) 0) (blank_disk n count) result o p (filled_blocks n count at block wide blank is laid long) (of_known held _ all known made none))

-- memory was refused before anything was written
pub no_block : (T : Type 0) {E : Type 0} (e : E) (held : Option (List ℕ)) (bytes : List ℕ → List ℕ) (o : FolderFacts)
    → IfSome held (λ all. MakesBeside {T = T} (bytes all) (Err e) o o)
no_block T e held bytes o = where_known held _ (λ all known. record { stays = stays_same o; made = tt })

-- ---- a folder in memory
-- the file beside alone is another
pub stays_cached : (f s b d b2 d2 p q : List ℕ) (r : Bool) → Stays (cached_facts f s b d r p q) (cached_facts f s b2 d2 r p q)
stays_cached f s b d b2 d2 p q r = record { in_file = λ c left. left; at_path = λ c left. left; ever = λ c left. tt; keeps = λ c left. tt }

pub beside_made : {T : Type 0} (E : Type 0) (v : T) (bytes f s b d b2 d2 p q : List ℕ) (r : Bool) → b2 ≡ bytes
    → MakesBeside {E = E} bytes (Ok v) (cached_facts f s b d r p q) (cached_facts f s b2 d2 r p q)
beside_made E v bytes f s b d b2 d2 p q r made = record { stays = stays_cached f s b d b2 d2 p q r; made = made }

pub beside_not_made : (T : Type 0) {E : Type 0} (e : E) (bytes f s b d b2 d2 p q : List ℕ) (r : Bool)
    → MakesBeside {T = T} bytes (Err e) (cached_facts f s b d r p q) (cached_facts f s b2 d2 r p q)
beside_not_made T e bytes f s b d b2 d2 p q r = record { stays = stays_cached f s b d b2 d2 p q r; made = tt }

pub beside_synced : {T : Type 0} (E : Type 0) (v : T) (f s b d b2 d2 p q : List ℕ) (r : Bool) → b2 ≡ b → d2 ≡ b
    → SyncsBeside {E = E} (Ok v) (cached_facts f s b d r p q) (cached_facts f s b2 d2 r p q)
beside_synced E v f s b d b2 d2 p q r same synced = record {
  stays = stays_cached f s b d b2 d2 p q r;
  same = same;
  durable = λ c left. ⊎_elim (λ is. is ∙ same) (λ is. is ∙ synced) left;
}

pub beside_not_synced : (T : Type 0) {E : Type 0} (e : E) (f s b d b2 d2 p q : List ℕ) (r : Bool)
    → SyncsBeside {T = T} (Err e) (cached_facts f s b d r p q) (cached_facts f s b2 d2 r p q)
beside_not_synced T e f s b d b2 d2 p q r = record { stays = stays_cached f s b d b2 d2 p q r; same = tt; durable = tt }

pub beside_renamed : {T : Type 0} (E : Type 0) (v : T) (f s b d b2 d2 p q : List ℕ) (r : Bool)
    → Renames {E = E} (Ok v) (cached_facts f s b d r p q) (cached_facts b d b2 d2 true f s)
beside_renamed E v f s b d b2 d2 p q r = record {
  in_file = λ c left. left;
  at_path = λ c left. ⊎_elim (λ is. inr is) (λ is. inl (inl is.1)) left;
  ever = λ c left. inl tt;
  keeps = λ c left. tt;
}

pub beside_not_renamed : (T : Type 0) {E : Type 0} (e : E) (f s b d p q : List ℕ) (r : Bool)
    → Renames {T = T} (Err e) (cached_facts f s b d r p q) (cached_facts f s b d r p q)
beside_not_renamed T e f s b d p q r = record { in_file = tt; at_path = λ c left. inl left; ever = λ c left. inl tt; keeps = λ c left. tt }

pub path_synced : {T : Type 0} (E : Type 0) (v : T) (f s b d p q : List ℕ) (r : Bool)
    → SyncsFolder {E = E} (Ok v) (cached_facts f s b d r p q) (cached_facts f s b d false p q)
path_synced E v f s b d p q r = record {
  stays = record {
    in_file = λ c left. left;
    at_path = λ c left. ⊎_elim (λ is. inl is) (λ is. absurd (false≢true is.0)) left;
    ever = λ c left. tt;
    keeps = λ c left. tt;
  };
  durable = λ c left. ⊎_elim (λ is. is) (λ is. absurd (false≢true is.0)) left;
}

pub path_not_synced : (T : Type 0) {E : Type 0} (e : E) (f s b d p q : List ℕ) (r : Bool)
    → SyncsFolder {T = T} (Err e) (cached_facts f s b d r p q) (cached_facts f s b d r p q)
path_not_synced T e f s b d p q r = record { stays = stays_cached f s b d b d p q r; durable = tt }

-- the disk's file was made durable, or was not
stays_in_file : (f s f2 s2 b d p q : List ℕ) (r : Bool) → f2 ≡ f → (s2 ≡ f) ⊎ (s2 ≡ s)
    → Stays (cached_facts f s b d r p q) (cached_facts f2 s2 b d r p q)
stays_in_file f s f2 s2 b d p q r same or = record {
  in_file = still;
  at_path = λ c left. ⊎_elim (λ is. inl (still c is)) (λ is. inr is) left;
  ever = λ c left. tt;
  keeps = λ c left. tt;
} where
  still : (c : List ℕ) → (c ≡ f2) ⊎ (c ≡ s2) → (c ≡ f) ⊎ (c ≡ s)
  still c left = ⊎_elim (λ is. inl (is ∙ same)) (λ is. ⊎_elim (λ at. inl (is ∙ at)) (λ at. inr (is ∙ at)) or) left

pub file_synced : {T : Type 0} (E : Type 0) (v : T) (f s f2 s2 b d p q : List ℕ) (r : Bool) → f2 ≡ f → s2 ≡ f
    → SyncsHeld {E = E} f (Ok v) (cached_facts f s b d r p q) (cached_facts f2 s2 b d r p q)
file_synced E v f s f2 s2 b d p q r same synced = record {
  stays = stays_in_file f s f2 s2 b d p q r same (inl synced);
  durable = λ c left. ⊎_elim (λ is. is ∙ same) (λ is. is ∙ synced) left;
}

pub file_not_synced : (T : Type 0) {E : Type 0} (e : E) (bytes f s f2 s2 b d p q : List ℕ) (r : Bool) → f2 ≡ f → s2 ≡ s
    → SyncsHeld {T = T} bytes (Err e) (cached_facts f s b d r p q) (cached_facts f2 s2 b d r p q)
file_not_synced T e bytes f s f2 s2 b d p q r same kept = record { stays = stays_in_file f s f2 s2 b d p q r same (inr kept); durable = tt }

-- ---- what a look at it finds
pub leaves_one : (one other f s b d p q : List ℕ) (r : Bool) → (f ≡ one) ⊎ (f ≡ other) → (s ≡ one) ⊎ (s ≡ other)
    → (r ≡ true → ((p ≡ one) ⊎ (p ≡ other)) × ((q ≡ one) ⊎ (q ≡ other))) → OneOfTwo one other (cached_facts f s b d r p q).at_path
leaves_one one other f s b d p q r file stood prior c left = ⊎_elim
    (λ is. ⊎_elim (λ at. by at file) (λ at. by at stood) is)
    (λ is. ⊎_elim (λ at. by at (prior is.0).0) (λ at. by at (prior is.0).1) is.1) left where
      by : {x : List ℕ} → c ≡ x → (x ≡ one) ⊎ (x ≡ other) → (c ≡ one) ⊎ (c ≡ other)
      by at or = ⊎_elim (λ is. inl (at ∙ is)) (λ is. inr (at ∙ is)) or
