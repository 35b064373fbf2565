-- From the clause of a session to what the program made of its files.
use Rattle.std.proofs.Common.{◌≡◌, ◌⊎◌, ◌∙◌, ◌==◌, ℕ, Bool, true, false, List, [], Option, None, Some, Result, Ok, Err, IfSome, OnErr, OnOk, if◌then◌else◌, inl, inr, map, refl, string_bytes, subst, ⊎_elim}
use Rattle.std.specs.Io.{Buffered.{reader_buffer, reader_capacity, reader_inner, reader_remaining}, KnownBytes.prepend_known}
use Rattle.std.specs.{Option.option_map, declared.io.buffered.BufReader.BufReader}
use Rattle.board_session.specs.{Commands.party, Dialogues.{Written, dialogue_ends}, declared.{talks.Left.Left, given.Options.Options}}
use Rattle.board_session.{proofs.DiskBegun.begins_unchanged, specs.{Parses.AreRefused, Refused.AreNoOptions, Ran.HasRun}}
use Rattle.board_session.specs.Operated.{AskForNone, Begins, EndsInFile, HasLeft, IsUnread, IsWritten, Known, LeavesDisk, StaysInFile, known}
use Rattle.board_session.specs.{declared.runs.FileLeft.FileLeft, Sessions.{RanOver, RefusesSession, outcome_of}}
use Rattle.board_model.specs.declared.refusal.Refusal.{Refusal, TheVariants.Memory}
use Rattle.board_session.specs.declared.runs.FileLeft.TheVariants as lefts
use Rattle.board_files.specs.{Faults.IsFileFault, Disks.{HoldsDisk, KeepsOrHolds}, Files.FileKnown, Folders.{LeftAt, NoMore}}
use Rattle.board_files.specs.Named.{AreFilesOf}
use Rattle.clap.specs.declared.error.kind.ErrorKind.{ErrorKind, TheVariants.{OutOfMemory, ValueValidation}}
use Rattle.command_line.specs.{Kinds.no_work, declared.{NoWork.NoWork, fault.ProgramFault.{ProgramFault, TheVariants.Refused}}}
use Rattle.disk.specs.Facts.{Content, Facts, Unchanged}
use Rattle.hart_threads.specs.{declared.ends.HartEnd.HartEnd, Heard.{Hearing, heard_nothing}}
use Rattle.simdisk.specs.declared.sim.SimDisk.{SimDisk}

-- ---- a session
-- what a session gives back of a disk, an input and an output, by why its console left
abbrev pub HasEnded : Options → List (List ℕ) → Facts → Facts → List ℕ → Option (List ℕ) → Written → Option (List ℕ) → Written → Option Left → Hearing → List HartEnd
    → Result (Unit {0}) Refusal → Type 0
HasEnded o payloads old now moments input begun rest written left heard ends ran =
    (RefusesSession o.new o.shape o.mode payloads old ran now × (left ≡ None))
    ⊎ (RanOver o.new o.shape o.mode payloads o.turns old now moments left (dialogue_ends input begun (party [] heard_nothing)) rest written heard ends
    × (ran ≡ outcome_of left))

-- the output is told that the console begins, which changes nothing that is known of it
pub has_run : (o : Options) (payloads : List (List ℕ)) (old now : Facts) (moments : List ℕ) (input : Option (List ℕ)) (out begun : Written) (rest : Option (List ℕ)) (written : Written)
    (left : Option Left) (heard : Hearing) (ends : List HartEnd) (ran : Result (Unit {0}) Refusal)
    → HasEnded o payloads old now moments input begun rest written left heard ends ran
    → (left ≡ None → written ≡ begun) → begun ≡ out → HasRun o payloads old now moments input out written ran
has_run o payloads old now moments input out begun rest written left heard ends ran (inl refused) same u =
    inl (refused.0, same refused.1 ∙ u)
has_run o payloads old now moments input out begun rest written left heard ends ran (inr over) same u =
    inr (left, (rest, heard, ends, rw (← u) over.0), over.1)

through : (bytes : Option (List ℕ)) (held : List ℕ) (size : ℕ) → held ≡ [] → size ≡ 8192
    → (if size == 0 then None else prepend_known held bytes) ≡ bytes
through None held size h s = rw s refl
through (Some bytes) held size h s = rw (h, s) refl

-- a reader with an empty buffer gives what the reader below it does
pub read_through : {R A : Type 0} (remaining : R → Option (List ℕ)) (input : R) (r : BufReader R A) → reader_inner r ≡ input
    → reader_buffer r ≡ [] → reader_capacity r ≡ 8192 → reader_remaining remaining r ≡ remaining input
read_through remaining input r i h s =
    rw (← i) (through (remaining (reader_inner r)) (reader_buffer r) (reader_capacity r) h s)

-- ---- what is left
-- None was begun, and the fault is one of that.
pub none_left : {H D K : Type 0} (bytes : H → Option (List ℕ)) (at : H → LeftAt) (facts : SimDisk → Facts) (file_facts : D → Facts) (in_file : K → FileKnown) (o : Options)
    (bytes_at : List ℕ → Option (List ℕ)) (found : List ℕ → Type 0) (s : Known) (left : FileLeft H K) (done : Result (Unit {0}) ProgramFault) (fault : ProgramFault)
    → left ≡ lefts.None → done ≡ Err fault → IsUnread o.new s.disk fault → s.written ≡ s.out
    → HasLeft bytes at facts file_facts in_file o bytes_at found s left done
none_left bytes at facts file_facts in_file o bytes_at found s left done fault none is unread same = inl (none, rw is unread, same)

pub no_memory : (fault : ProgramFault) → fault ≡ Refused Memory → IsFileFault fault
no_memory fault is = inr is

-- what was found is no more than that
leaves_found : (new : Bool) (sectors : Content) (disk held now : Option (List ℕ)) (written : Result (Unit {0}) ProgramFault) (f g : List ℕ → Type 0) (left : LeftAt)
    → held ≡ disk → IfSome disk (λ all. NoMore g f) → IfSome held (λ all. LeavesDisk new sectors all written now f left)
    → IfSome disk (λ all. LeavesDisk new sectors all written now g left)
leaves_found new sectors None held now written f g left same more crash = tt
leaves_found new sectors (Some all) held now (Ok u) f g left same more crash =
    let there = subst (λ (x : Option (List ℕ)). IfSome x (λ all. LeavesDisk {E = ProgramFault} new sectors all (Ok u) now f left)) same crash in
    record {
      durable = (there.durable.0, there.durable.1, there.durable.2, ⊎_elim (λ only. inl only) (λ (none : (there.durable.0 ≡ all) × NoMore f left.now). inr (none.0, λ c is. more c (none.1 c is))) there.durable.3);
      ever = λ c is. ⊎_elim (λ was. inl (more c was)) (λ holds. inr holds) (there.ever c is);
    }
leaves_found new sectors (Some all) held now (Err e) f g left same more crash =
    let there = subst (λ (x : Option (List ℕ)). IfSome x (λ all. LeavesDisk {T = Unit {0}} new sectors all (Err e) now f left)) same crash in
    record { durable = tt; ever = λ c is. ⊎_elim (λ was. inl (more c was)) (λ holds. inr holds) (there.ever c is) }

written_found : (new : Bool) (disk : Facts) (ran : Result (Unit {0}) Refusal) (known held now : Option (List ℕ)) (f g : List ℕ → Type 0) (left : LeftAt)
    (done : Result (Unit {0}) ProgramFault) → held ≡ known → IfSome known (λ all. NoMore g f) → IsWritten new disk ran held now f left done
    → IsWritten new disk ran known now g left done
written_found new disk ran known held now f g left done same more is = record {
  written = is.written;
  stands = subst (λ (x : Option (List ℕ)). OnOk is.written (IfSome now (HoldsDisk new disk.content x))) same is.stands;
  kept = subst (λ (x : Option (List ℕ)). OnErr is.written (IfSome now (KeepsOrHolds new disk.content x))) same is.kept;
  crash = leaves_found new disk.content known held now is.written f g left same more is.crash;
  failed = is.failed;
  told = is.told;
}

module _ {H D K : Type 0} (bytes : H → Option (List ℕ)) (at : H → LeftAt) (facts : SimDisk → Facts) (file_facts : D → Facts) (in_file : K → FileKnown) (o : Options)
    (bytes_at : List ℕ → Option (List ℕ)) (found : List ℕ → Type 0) (payloads : List (List ℕ)) (begun : SimDisk) (held disk read input : Option (List ℕ)) (out written : Written)
    (left : FileLeft H K) (done : Result (Unit {0}) ProgramFault) (files : AreFilesOf bytes_at (map (option_map string_bytes) o.payloads) payloads)
    (begins : Begins o.new o.shape disk (facts begun)) (buffered : read ≡ input) where
  -- The disk that is there where the session begins is that of the file. It was written there at the end.
  pub ended_left : (f : List ℕ → Type 0) → EndsInFile bytes at facts o payloads (facts begun) f (known held read out written) left done → held ≡ disk
      → IfSome disk (λ all. NoMore found f) → o.sync ≡ false
      → HasLeft bytes at facts file_facts in_file o bytes_at found (known disk input out written) left done
  ended_left f ended same more unsynced = inr (payloads, files, inl (unsynced, begun, begins, ends left ended))
    where
      ends : (l : FileLeft H K) → EndsInFile bytes at facts o payloads (facts begun) f (known held read out written) l done
          → EndsInFile bytes at facts o payloads (facts begun) found (known disk input out written) l done
      ends lefts.None is = is
      ends (lefts.AtEnd file now) (ran, moments, run, is) = (
        ran,
        moments,
        subst (λ (x : Option (List ℕ)). HasRun o payloads (facts begun) (facts now) moments x out written ran) buffered run,
        written_found o.new (facts now) ran disk held (bytes file) f found (at file) done same more is,
      )
      ends (lefts.AllAlong now moments) is = is

  -- or it was kept there all along
  pub stayed_left : (kept : D) → Unchanged (facts begun) (file_facts kept)
      → StaysInFile file_facts in_file o payloads (file_facts kept) (known disk read out written) left done → o.sync ≡ true
      → HasLeft bytes at facts file_facts in_file o bytes_at found (known disk input out written) left done
  stayed_left kept same stayed synced =
      inr (payloads, files, inr (synced, kept, begins_unchanged o.new o.shape disk (facts begun) (file_facts kept) same begins, rw (← buffered) stayed))

-- ---- no session
-- the words of a command line whose own text has an error of that kind ask for none
pub asks_for_none : (words : List (List ℕ)) (kind : ErrorKind) (why : NoWork) → why ≡ no_work kind
    → (kind ≡ OutOfMemory) ⊎ AreRefused words kind ⊎ ((kind ≡ ValueValidation) × AreNoOptions words) → AskForNone words why
asks_for_none words kind why is (inl memory) = inl (rw (is, memory) refl)
asks_for_none words kind why is (inr (inl refused)) = inr (inl (kind, refused, is))
asks_for_none words kind why is (inr (inr none)) = inr (inr (rw (is, none.0) refl, none.1))
