-- The disk that a session begins with, and why none begins.
use Rattle.std.proofs.Common.{◌≡◌, ◌∙◌, ℕ, Bool, true, false, List, Option, None, Some, IfSome, inl, subst}
use Rattle.board_files.specs.{Disks.{IsDiskFile, first_sectors}, Faults.IsFileFault}
use Rattle.board_model.specs.Shapes.{Size, sectors_of}
use Rattle.board_session.specs.Operated.{Begins, IsUnread}
use Rattle.command_line.specs.declared.fault.ProgramFault.{ProgramFault}
use Rattle.disk.specs.Facts.{Content, Facts, IsFresh, Unchanged}

pub begins_with : (known : Option (List ℕ)) (shape size : Size) (disk : Facts) → IfSome known (IsDiskFile size)
    → IfSome known (λ all. IsFresh (first_sectors (sectors_of size) all) disk) → Begins false shape known disk
begins_with None shape size disk is fresh = tt
begins_with (Some all) shape size disk is fresh = (size, is, fresh)

pub begins_by : (new old : Bool) (known at : Option (List ℕ)) (shape : Size) (disk : Facts) → new ≡ old → at ≡ known
    → Begins new shape at disk → Begins old shape known disk
begins_by new old known at shape disk is same begins = rw (← is, ← same) begins

-- what a crash leaves at a path under another name
pub left_by : (at : List ℕ → Option (List ℕ)) (found : List ℕ → List ℕ → Type 0) (ever : List ℕ → Type 0) (path named : List ℕ) → path ≡ named
    → IfSome (at path) (λ all. (c : List ℕ) → ever c → found path c) → IfSome (at named) (λ all. (c : List ℕ) → ever c → found named c)
left_by at found ever path named same left =
    subst (λ (p : List ℕ). IfSome (at p) (λ all. (c : List ℕ) → ever c → found p c)) same left

pub unread_by : (new old : Bool) (known at : Option (List ℕ)) (fault : ProgramFault) → new ≡ old → at ≡ known
    → IsUnread new at fault → IsUnread old known fault
unread_by new old known at fault is same unread = rw (← is, ← same) unread

pub unread_file : (new : Bool) (known : Option (List ℕ)) (fault : ProgramFault) → IsFileFault fault → IsUnread new known fault
unread_file true known fault is = is
unread_file false known fault is = inl is

fresh_unchanged : (c : Content) (old new : Facts) → Unchanged old new → IsFresh c old → IsFresh c new
fresh_unchanged c old new same fresh =
    record {
      reads = same.content ∙ fresh.reads;
      durable = λ d left. fresh.durable d ((same.now d).0 left);
      none_out = same.lent ∙ fresh.none_out;
    }

-- a disk that is as another one was begins as it did
pub begins_unchanged : (new : Bool) (shape : Size) (known : Option (List ℕ)) (disk kept : Facts) → Unchanged disk kept
    → Begins new shape known disk → Begins new shape known kept
begins_unchanged true shape known disk kept same begins = fresh_unchanged _ disk kept same begins
begins_unchanged false shape None disk kept same begins = tt
begins_unchanged false shape (Some all) disk kept same begins =
    (begins.0, begins.1, fresh_unchanged _ disk kept same begins.2)
