-- How a session ends, with which file a fault was left out.
use Rattle.std.proofs.Common.{◌≡◌, ◌∙◌, ℕ, Bool, List, Option, None, Some, Result, Ok, Err, IfErr, IfSome, OnErr, OnOk, ap, inl, inr, ⊎_elim}
use Rattle.board_files.specs.{Disks.{HoldsDisk, KeepsOrHolds}, Faults.IsFileFault, Folders.{LeftAt, PutsDisk}}
use Rattle.board_model.specs.declared.refusal.Refusal.{Refusal}
use Rattle.board_session.specs.{Operated.{IsWritten, LeavesDisk}, Ran.told_of}
use Rattle.command_line.specs.{Faults.first_fault, Told.fault_of, declared.{fault.ProgramFault.ProgramFault, files.FileFault.FileFault}}
use Rattle.disk.specs.Facts.{Content, Facts}

pub same_fault : (fault of : ProgramFault) → fault ≡ of → IsFileFault of → IsFileFault fault
same_fault fault of is was = rw is was

on_ok_fault : (P : Type 0) (r : Result (Unit {0}) FileFault) → OnOk r P → OnOk (fault_of r) P
on_ok_fault P (Ok done) p = p
on_ok_fault P (Err e) p = tt

if_err_fault : (r : Result (Unit {0}) FileFault) → IfErr r (λ e. IsFileFault e.fault) → IfErr (fault_of r) IsFileFault
if_err_fault (Ok done) p = tt
if_err_fault (Err e) p = p

on_err_fault : (P : Type 0) (r : Result (Unit {0}) FileFault) → OnErr r P → OnErr (fault_of r) P
on_err_fault P (Ok done) p = tt
on_err_fault P (Err e) p = p

-- a disk that was not put there, whatever fault is told of it
pub put_not : (new : Bool) (sectors : Content) (e of : FileFault) (held now : Option (List ℕ)) (old left : LeftAt)
    → IfSome held (λ all. PutsDisk {T = Unit {0}} new sectors all (Err of) now old left) → IfSome held (λ all. PutsDisk {T = Unit {0}} new sectors all (Err e) now old left)
put_not new sectors e of None now old left puts = tt
put_not new sectors e of (Some all) now old left puts = record { durable = tt; ever = puts.ever; keeps = puts.keeps }

leaves : (new : Bool) (sectors : Content) (all : List ℕ) (r : Result (Unit {0}) FileFault) (now : Option (List ℕ)) (old left : LeftAt)
    → ((c : List ℕ) → old.now c → old.ever c) → PutsDisk new sectors all r now old left → LeavesDisk new sectors all (fault_of r) now old.ever left
leaves new sectors all (Ok u) now old left counts puts = record {
  durable = (puts.durable.0, puts.durable.1, puts.durable.2, ⊎_elim (λ only. inl only) (λ (none : (puts.durable.0 ≡ all) × ((c : List ℕ) → left.now c → old.now c)). inr (none.0, λ c is. counts c (none.1 c is))) puts.durable.3);
  ever = puts.ever;
}
leaves new sectors all (Err e) now old left counts puts = record { durable = tt; ever = puts.ever }

-- where its bytes are known
leaves_if : (new : Bool) (sectors : Content) (r : Result (Unit {0}) FileFault) (held now : Option (List ℕ)) (old left : LeftAt)
    → IfSome held (λ all. (c : List ℕ) → old.now c → old.ever c) → IfSome held (λ all. PutsDisk new sectors all r now old left)
    → IfSome held (λ all. LeavesDisk new sectors all (fault_of r) now old.ever left)
leaves_if new sectors r None now old left counts puts = tt
leaves_if new sectors r (Some all) now old left counts puts = leaves new sectors all r now old left counts puts

pub is_written : (new : Bool) (disk : Facts) (ran : Result (Unit {0}) Refusal) (held left : Option (List ℕ)) (old at : LeftAt)
    (done : Result (Unit {0}) ProgramFault) (told written : Result (Unit {0}) FileFault)
    → OnOk written (IfSome left (HoldsDisk new disk.content held)) → OnErr written (IfSome left (KeepsOrHolds new disk.content held))
    → IfSome held (λ all. (c : List ℕ) → old.now c → old.ever c) → IfSome held (λ all. PutsDisk new disk.content all written left old at) → IfErr written (λ e. IsFileFault e.fault)
    → done ≡ first_fault (fault_of told) (fault_of written) → fault_of told ≡ told_of ran → IsWritten new disk ran held left old.ever at done
is_written new disk ran held left old at done told written stands kept counts puts failed is of =
    record {
      written = fault_of written;
      stands = on_ok_fault _ written stands;
      kept = on_err_fault _ written kept;
      crash = leaves_if new disk.content written held left old at counts puts;
      failed = if_err_fault written failed;
      told = is ∙ ap (λ (r : Result (Unit {0}) ProgramFault). first_fault r (fault_of written)) of;
    }
