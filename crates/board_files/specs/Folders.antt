-- The disk's file in its folder, and a file beside it that is written whole and then renamed over it: what a read gives, and what a crash
-- leaves. Source: docs/CONSOLE.md, "The disk's file".
use Rattle.std.specs.Prelude.{◌≡◌, ◌⊎◌, ℕ, ◌<◌, ◌*◌, ◌^◌, ◌++◌, ◌==◌, Bool, true, false, List, [], ◌∷◌, Option, None, Some, Result, IfSome, OnOk, OnErr, MatchResult, if◌then◌else◌, ⊤, length, map, drop, replicate}
use Rattle.std.specs.List.{concat}
use Rattle.std.specs.Option.{option_map}
use Rattle.disk.specs.Facts.{Content}
use Rattle.board_files.specs.Blocks.{block_of, mark_of}
use Rattle.board_files.specs.Disks.{HoldsDisk}

-- the facts of a folder, by bytes
pub record FolderFacts : Type 1 where
  -- what was written into the file beside
  pub beside : List ℕ
  -- what a crash now may leave in the file beside
  pub in_beside : List ℕ → Type 0
  -- in the disk's file
  pub in_file : List ℕ → Type 0
  -- at the disk's path: in that file, or in one that stood there, as long as the folder is not made durable
  pub at_path : List ℕ → Type 0
  -- what a crash might have left at the path, now or at an earlier moment
  pub ever : List ℕ → Type 0

-- for a folder of which nothing is known
abbrev pub no_facts : FolderFacts
no_facts = record { beside = []; in_beside = λ c. ⊤; in_file = λ c. ⊤; at_path = λ c. ⊤; ever = λ c. ⊤ }

-- Of one whose files hold these bytes, and held those at their last sync: the disk's, the one beside, and, where that was renamed since
-- the folder was made durable, the one that it replaced. A crash leaves the one or the other. Of earlier moments nothing is known.
abbrev pub cached_facts : (file stood beside beside_stood : List ℕ) (is_renamed : Bool) (prior prior_stood : List ℕ) → FolderFacts
cached_facts file stood beside beside_stood is_renamed prior prior_stood = record {
  beside = beside;
  in_beside = λ c. (c ≡ beside) ⊎ (c ≡ beside_stood);
  in_file = λ c. (c ≡ file) ⊎ (c ≡ stood);
  at_path = λ c. ((c ≡ file) ⊎ (c ≡ stood)) ⊎ ((is_renamed ≡ true) × ((c ≡ prior) ⊎ (c ≡ prior_stood)));
  ever = λ c. ⊤;
}

-- one of these two
abbrev pub OneOfTwo : List ℕ → List ℕ → (List ℕ → Type 0) → Type 0
OneOfTwo one other P = (c : List ℕ) → P c → (c ≡ one) ⊎ (c ≡ other)

-- only these bytes
abbrev pub OnlyThese : List ℕ → (List ℕ → Type 0) → Type 0
OnlyThese bytes P = (c : List ℕ) → P c → c ≡ bytes

-- nothing more of the one than of the other
abbrev pub NoMore : (List ℕ → Type 0) → (List ℕ → Type 0) → Type 0
NoMore old new = (c : List ℕ) → new c → old c

-- a step by which a crash leaves no more than before
pub record Stays (old new : FolderFacts) : Type 0 where
  pub in_file : NoMore old.in_file new.in_file
  pub at_path : NoMore old.at_path new.at_path
  pub ever : NoMore old.ever new.ever
  pub keeps : NoMore new.ever old.ever

-- with Ok that was written into the file beside; a crash may leave anything of it
pub record MakesBeside {T E : Type 0} (bytes : List ℕ) (result : Result T E) (old new : FolderFacts) : Type 0 where
  pub stays : Stays old new
  pub made : OnOk result (new.beside ≡ bytes)

-- with Ok a crash leaves the file beside whole
pub record SyncsBeside {T E : Type 0} (result : Result T E) (old new : FolderFacts) : Type 0 where
  pub stays : Stays old new
  pub same : OnOk result (new.beside ≡ old.beside)
  pub durable : OnOk result (OnlyThese old.beside new.in_beside)

-- The file beside takes the place of the disk's. From then on a crash may leave the one or the other there, also where it failed.
pub record Renames {T E : Type 0} (result : Result T E) (old new : FolderFacts) : Type 0 where
  pub in_file : OnOk result (NoMore old.in_beside new.in_file)
  pub at_path : (c : List ℕ) → new.at_path c → old.at_path c ⊎ old.in_beside c
  pub ever : (c : List ℕ) → new.ever c → old.ever c ⊎ old.in_beside c
  pub keeps : NoMore new.ever old.ever

-- what a read of the disk's file gives, before and after that
abbrev pub TakesPlace : {T E : Type 0} → Result T E → List ℕ → Option (List ℕ) → Option (List ℕ) → Type 0
TakesPlace result beside old new = MatchResult result (λ _. new ≡ option_map (λ _. beside) old) (λ _. new ≡ old)

-- with Ok a crash leaves the disk's file at its path, and no other
pub record SyncsFolder {T E : Type 0} (result : Result T E) (old new : FolderFacts) : Type 0 where
  pub stays : Stays old new
  pub durable : OnOk result (NoMore old.in_file new.at_path)

-- with Ok a crash leaves those bytes in the disk's file, which a read gives
pub record SyncsHeld {T E : Type 0} (bytes : List ℕ) (result : Result T E) (old new : FolderFacts) : Type 0 where
  pub stays : Stays old new
  pub durable : OnOk result (OnlyThese bytes new.in_file)

-- with Ok those bytes were written beside, and a crash leaves them there whole
pub record IsReady {T E : Type 0} (bytes : List ℕ) (result : Result T E) (old new : FolderFacts) : Type 0 where
  pub stays : Stays old new
  pub made : OnOk result (new.beside ≡ bytes)
  pub durable : OnOk result (OnlyThese bytes new.in_beside)

-- The file beside was put into the place of the disk's, which held those bytes; with Ok so that a crash leaves it there. With an error
-- the one or the other is there.
pub record Replaces {T E : Type 0} (bytes : List ℕ) (result : Result T E) (after : Option (List ℕ)) (old new : FolderFacts) : Type 0 where
  pub holds : OnOk result (after ≡ Some old.beside)
  pub kept : OnErr result ((after ≡ Some bytes) ⊎ (after ≡ Some old.beside))
  pub in_file : OnOk result (NoMore old.in_beside new.in_file)
  pub at_path : OnOk result (NoMore old.in_beside new.at_path)
  pub ever : (c : List ℕ) → new.ever c → old.ever c ⊎ old.in_beside c
  pub keeps : NoMore new.ever old.ever

-- ---- a disk in its file
-- a sector in its block of n bytes; one of 512 bytes is the sector alone
abbrev pub block_in : ℕ → List ℕ → List ℕ → List ℕ
block_in n mark sector = if n == 512 then sector else block_of n mark sector

-- the blocks of n bytes in which these sectors lie
abbrev pub blocks_of : ℕ → Content → Content
blocks_of n [] = []
blocks_of n (first ∷ sectors) = block_in n (mark_of n) first ∷ map (block_in n []) sectors

-- the bytes of a file that holds the disk; of a disk that came from the file, with the bytes after its sectors
abbrev pub with_disk : ℕ → Bool → Content → List ℕ → List ℕ
with_disk n true sectors old = concat (blocks_of n sectors)
with_disk n false sectors old = concat (blocks_of n sectors) ++ drop (n * length sectors) old

-- A disk is put into a file that held those bytes. With Ok it is there, and a crash leaves nothing else; or nothing was written, since it
-- was there. With an error the file is as it was, or as it was to become. At each moment a crash left at the path what it might have left
-- before, or the disk, whole.
pub record Puts {T E : Type 0} (n : ℕ) (is_new : Bool) (sectors : Content) (bytes : List ℕ) (result : Result T E) (after : Option (List ℕ))
    (old new : FolderFacts) : Type 0 where
  pub holds : OnOk result (after ≡ Some (with_disk n is_new sectors bytes))
  pub kept : OnErr result ((after ≡ Some bytes) ⊎ (after ≡ Some (with_disk n is_new sectors bytes)))
  pub durable : OnOk result (OnlyThese (with_disk n is_new sectors bytes) new.at_path
      ⊎ ((with_disk n is_new sectors bytes ≡ bytes) × NoMore old.at_path new.at_path))
  pub ever : (c : List ℕ) → new.ever c → old.ever c ⊎ (c ≡ with_disk n is_new sectors bytes)
  pub keeps : NoMore new.ever old.ever

-- a blank disk of so many sectors, in blocks of n bytes; and that there is one, which a file can hold
abbrev pub blank_disk : ℕ → ℕ → List ℕ
blank_disk n count = concat (blocks_of n (replicate count (replicate 512 0)))

abbrev pub IsBlankOf : ℕ → ℕ → Type 0
IsBlankOf n count = (0 < count) × (n * count < 2 ^ 64)

-- A file in which a disk is kept holds those bytes, and a crash leaves nothing else in it; if it is a new one, also at its path.
pub record IsKept (is_new : Bool) (bytes : List ℕ) (after : Option (List ℕ)) (f : FolderFacts) : Type 0 where
  pub holds : after ≡ Some bytes
  pub durable : OnlyThese bytes f.in_file
  pub there : is_new ≡ true → OnlyThese bytes f.at_path

-- ---- to a program
-- what a crash leaves at the path of a disk's file: now, and now or at an earlier moment
pub record LeftAt : Type 1 where
  pub now : List ℕ → Type 0
  pub ever : List ℕ → Type 0

abbrev pub left_of : FolderFacts → LeftAt
left_of f = record { now = f.at_path; ever = f.ever }

-- The same, of a disk whose sectors lie one after the other, in a file that held those bytes.
pub record PutsDisk {T E : Type 0} (is_new : Bool) (sectors : Content) (bytes : List ℕ) (result : Result T E) (after : Option (List ℕ))
    (old new : LeftAt) : Type 0 where
  pub durable : OnOk result ((all : List ℕ) × (after ≡ Some all) × HoldsDisk is_new sectors (Some bytes) all
      × (OnlyThese all new.now ⊎ ((all ≡ bytes) × NoMore old.now new.now)))
  pub ever : (c : List ℕ) → new.ever c → old.ever c ⊎ HoldsDisk is_new sectors (Some bytes) c
  pub keeps : NoMore new.ever old.ever

-- of a disk in a folder: what a crash leaves now is one of those
pub counts_in : (is_plain : Bool) (held : Option (List ℕ)) (f : FolderFacts)
    → IfSome held (λ all. NoMore f.at_path f.in_file × NoMore f.ever f.at_path)
    → IfSome (if is_plain then held else None) (λ all. NoMore f.ever f.at_path)
counts_in false held f counts = tt
counts_in true None f counts = tt
counts_in true (Some all) f counts = counts.1
