-- No session has the status of a fault of the command line.
use Rattle.std.proofs.Common.{◌≡◌, ◌≤◌, ℕ, Bool, true, false, List, Option, Result, Ok, Err, IfErr, arith, inl, inr, refl, sym}
use Rattle.board_files.specs.{Faults.IsFileFault, Files.FileKnown, Folders.LeftAt}
use Rattle.board_model.specs.declared.refusal.Refusal.{Refusal}
use Rattle.board_session.specs.{declared.{given.Options.Options, runs.FileLeft.FileLeft}, Ran.told_of, Parses.AreRefused}
use Rattle.board_session.specs.Operated.{AskForNone, EndsInFile, GiveNoOptions, HasLeft, IsNotBegun, Known, StaysInFile}
use Rattle.board_session.specs.declared.runs.FileLeft.TheVariants as lefts
use Rattle.clap.specs.declared.error.kind.ErrorKind.{ErrorKind}
use Rattle.command_line.specs.{Faults.{first_fault, status_after, without_work}, Kinds.no_work, declared.NoWork.NoWork}
use Rattle.command_line.specs.declared.fault.ProgramFault.{ProgramFault}
use Rattle.command_line.specs.declared.NoWork.TheVariants as whys
use Rattle.disk.specs.Facts.{Facts}
use Rattle.simdisk.specs.declared.sim.SimDisk.{SimDisk}

by_file : (done : Result (Unit {0}) ProgramFault) (fault : ProgramFault) → done ≡ Err fault → IsFileFault fault → status_after done ≤ 1
by_file done fault is (inl file) = rw (is, file) (omega arith)
by_file done fault is (inr memory) = rw (is, memory) (omega arith)

if_file : (done : Result (Unit {0}) ProgramFault) → IfErr done IsFileFault → status_after done ≤ 1
if_file (Ok u) is = omega arith
if_file (Err fault) is = by_file (Err fault) fault refl is

not_begun : (new : Bool) (bytes : Option (List ℕ)) (done : Result (Unit {0}) ProgramFault) → IsNotBegun new bytes done → status_after done ≤ 1
not_begun new bytes (Ok u) is = absurd is
not_begun true bytes (Err fault) is = by_file (Err fault) fault refl is
not_begun false bytes (Err fault) (inl is) = by_file (Err fault) fault refl is
not_begun false bytes (Err fault) (inr (why, three_or_one, is, shows)) = rw is (omega arith)

told : (ran : Result (Unit {0}) Refusal) → status_after (told_of ran) ≤ 1
told (Ok u) = omega arith
told (Err e) = omega arith

first : (ran : Result (Unit {0}) Refusal) (written : Result (Unit {0}) ProgramFault) → IfErr written IsFileFault
    → status_after (first_fault (told_of ran) written) ≤ 1
first (Ok u) written failed = if_file written failed
first (Err e) written failed = omega arith

module _ {H D K : Type 0} (bytes : H → Option (List ℕ)) (at : H → LeftAt) (facts : SimDisk → Facts) (file_facts : D → Facts) (in_file : K → FileKnown) (o : Options) (found : List ℕ → Type 0) (s : Known) where
  ended : (payloads : List (List ℕ)) (begun : Facts) (left : FileLeft H K) (done : Result (Unit {0}) ProgramFault)
      → EndsInFile bytes at facts o payloads begun found s left done → status_after done ≤ 1
  ended payloads begun lefts.None done is = absurd is
  ended payloads begun (lefts.AtEnd held now) done (ran, moments, run, written) = rw written.told (first ran written.written written.failed)
  ended payloads begun (lefts.AllAlong kept moments) done is = absurd is

  stayed : (payloads : List (List ℕ)) (begun : Facts) (left : FileLeft H K) (done : Result (Unit {0}) ProgramFault)
      → StaysInFile file_facts in_file o payloads begun s left done → status_after done ≤ 1
  stayed payloads begun lefts.None done is = absurd is
  stayed payloads begun (lefts.AtEnd held now) done is = absurd is
  stayed payloads begun (lefts.AllAlong kept moments) done (now, ran, run, leaves, ever, since, is) = rw is (told ran)

  pub session_status : (bytes_at : List ℕ → Option (List ℕ)) (left : FileLeft H K) (done : Result (Unit {0}) ProgramFault)
      → HasLeft bytes at facts file_facts in_file o bytes_at found s left done → status_after done ≤ 1
  session_status bytes_at left done (inl none) = not_begun o.new s.disk done none.1
  session_status bytes_at left done (inr (payloads, files, inl (unsynced, begun, begins, is))) = ended payloads (facts begun) left done is
  session_status bytes_at left done (inr (payloads, files, inr (synced, begun, begins, is))) = stayed payloads (file_facts begun) left done is

  -- so of a status 2 nothing is to be shown
  pub no_usage : (P : Type 0) (bytes_at : List ℕ → Option (List ℕ)) (left : FileLeft H K) (done : Result (Unit {0}) ProgramFault) (status : ℕ)
      → HasLeft bytes at facts file_facts in_file o bytes_at found s left done → status ≡ status_after done → status ≡ 2 → P
  no_usage P bytes_at left done status is st two =
      let one = session_status bytes_at left done is in absurd (omega (arith, one, st, two))

-- ---- words without a session
refused_so : (words : List (List ℕ)) (why : NoWork) (kind : ErrorKind) (done : Result (Unit {0}) ProgramFault) (status : ℕ) → AreRefused words kind
    → why ≡ no_work kind → done ≡ without_work why → status ≡ status_after done → status ≡ 2 → GiveNoOptions words
refused_so words whys.Usage kind done status refused is did st two = inl (kind, refused, sym is)
refused_so words whys.Shown kind done status refused is did st two =
    let zero : status_after done ≡ 0 = rw did refl in absurd (omega (arith, zero, st, two))
refused_so words whys.Memory kind done status refused is did st two =
    let one : status_after done ≡ 1 = rw did refl in absurd (omega (arith, one, st, two))

pub gives_none : (words : List (List ℕ)) (why : NoWork) (done : Result (Unit {0}) ProgramFault) (status : ℕ) → AskForNone words why
    → done ≡ without_work why → status ≡ status_after done → status ≡ 2 → GiveNoOptions words
gives_none words why done status (inl memory) did st two =
    let one : status_after done ≡ 1 = rw (did, memory) refl in absurd (omega (arith, one, st, two))
gives_none words why done status (inr (inl (kind, refused, is))) did st two = refused_so words why kind done status refused is did st two
gives_none words why done status (inr (inr none)) did st two = inr none.1
