-- The words of single options. Source: docs/CHECKING.md, "What is asked".
use Rattle.std.specs.Prelude.{◌*◌, ◌-◌, ◌^◌, ◌==◌, ℕ, List, Option, None, Some, if◌then◌else◌, length, nat_lt, slice_index, take, bytes_eq}
use Rattle.script_lang.specs.Words.{number_of}
use Rattle.kernel_check.specs.declared.given.FailureKind.{FailureKind}
use Rattle.kernel_check.specs.declared.given.FailureKind.TheVariants as failures
use lib.Chars.{codes}

-- n of a unit, below 2 ^ 64
abbrev pub times : ℕ → Option ℕ → Option ℕ
times unit None = None
times unit (Some n) = if nat_lt (n * unit) (2 ^ 64) then Some (n * unit) else None

abbrev pub last_of : List ℕ → ℕ
last_of word = slice_index word (length word - 1)

abbrev pub front_of : List ℕ → List ℕ
front_of word = take (length word - 1) word

-- a number of bytes, with K, M or G after it
abbrev pub size_of : List ℕ → Option ℕ
size_of word =
    if last_of word == 75 then times (2 ^ 10) (number_of (front_of word)) else
    (if last_of word == 77 then times (2 ^ 20) (number_of (front_of word)) else
    (if last_of word == 71 then times (2 ^ 30) (number_of (front_of word)) else times 1 (number_of word)))

abbrev pub failure_named : List ℕ → Option FailureKind
failure_named word =
    if bytes_eq word (codes "differs") then Some failures.Differs else
    (if bytes_eq word (codes "stuck") then Some failures.Stuck else
    (if bytes_eq word (codes "traps") then Some failures.Traps else
    (if bytes_eq word (codes "fails") then Some failures.Fails else None)))
