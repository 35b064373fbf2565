-- What is read through an empty buffer, and which errors of a command line ask for nothing more.
use Rattle.std.proofs.Common.{◌≡◌, ◌==◌, ℕ, List, [], Option, None, Some, Result, Ok, Err, ◌⊎◌, inl, inr, IfSome, IfErr, OnOk, if◌then◌else◌, refl, subst}
use Rattle.std.specs.Io.{Buffered.{reader_buffer, reader_capacity, reader_inner, reader_remaining}, KnownBytes.prepend_known}
use Rattle.std.specs.declared.io.buffered.BufReader.{BufReader}
use Rattle.clap.specs.{Words.{App, HasKind, IsAmong, fault_of, kind_of}, declared.builder.value_parser.ValueParser.ValueParser}
use Rattle.clap.specs.declared.error.{Error.Error, kind.ErrorKind.{ErrorKind, TheVariants.{ArgumentConflict, OutOfMemory}}}
use Rattle.board_model.specs.declared.refusal.Refusal.TheVariants.{Memory}
use Rattle.command_line.specs.{Kinds.no_work, declared.NoWork.NoWork}
use Rattle.command_line.specs.declared.NoWork.TheVariants as whys
use Rattle.bench_program.specs.{Faults.without_work, Usage.{sbibench, NamesNoWork}, declared.fault.BenchFault.BenchFault}
use Rattle.bench_program.specs.declared.fault.BenchFault.TheVariants.{Usage, Refused, Wrong}

-- a buffer of some size that holds nothing has just the bytes below it
pub of_those_behind : (Of : List ℕ → Type 0) (known : Option (List ℕ)) (held : List ℕ) (size : ℕ) → held ≡ [] → size ≡ 262144
    → IfSome (if size == 0 then None else prepend_known held known) Of → IfSome known Of
of_those_behind Of None held size h s of = tt
of_those_behind Of (Some bytes) held size h s of = rw (h, s) at of

-- a reader of that size that holds nothing gives what the reader below it does
pub of_what_is_behind : {R A : Type 0} (Of : List ℕ → Type 0) (remaining : R → Option (List ℕ)) (input : R) (r : BufReader R A)
    → reader_inner r ≡ input → reader_buffer r ≡ [] → reader_capacity r ≡ 262144 → IfSome (reader_remaining remaining r) Of → IfSome (remaining input) Of
of_what_is_behind Of remaining input r i h s of =
    rw (← i) (of_those_behind Of (remaining (reader_inner r)) (reader_buffer r) (reader_capacity r) h s of)

-- words that the parser refuses name no work, as the kind of its error says
pub not_taken : {T : Type 0} (r : Result T Error) (app : App) (crews : ValueParser) (words : List (List ℕ)) → app ≡ sbibench crews
    → IfErr r (HasKind (fault_of app words))
    → IfErr r (λ e. (kind_of e ≡ OutOfMemory) ⊎ NamesNoWork words (no_work (kind_of e)))
not_taken (Ok m) app crews words is has = tt
not_taken (Err e) app crews words is (inl memory) = inl memory
not_taken (Err e) app crews words is (inr among) =
    inr (crews, kind_of e, subst (λ (a : App). IsAmong (kind_of e) (fault_of a words)) is among, refl)

-- a command line that asks for no work has no fault only where it asks to be shown something
pub nothing_more : (kind : ErrorKind) (done : Result (Unit {0}) BenchFault) (A C : Type 0) (B : NoWork → Type 0) → done ≡ without_work (no_work kind)
    → (kind ≡ OutOfMemory) ⊎ ((kind ≡ ArgumentConflict) × C) ⊎ B (no_work kind) → OnOk done (A ⊎ B whys.Shown)
nothing_more kind done A C B e (inl memory) = rw (e, memory) tt
nothing_more kind done A C B e (inr (inl both)) = rw (e, both.0) tt
nothing_more kind done A C B e (inr (inr none)) = rw e (by (no_work kind) none)
  where
    by : (why : NoWork) → B why → OnOk (without_work why) (A ⊎ B whys.Shown)
    by whys.Shown is = inr is
    by whys.Usage is = tt
    by whys.Memory is = tt

-- and else it has one of these faults
pub line_fault : (kind : ErrorKind) (done : Result (Unit {0}) BenchFault) (A : BenchFault → Type 0) (C : Type 0) (B : NoWork → Type 0) → done ≡ without_work (no_work kind)
    → (kind ≡ OutOfMemory) ⊎ ((kind ≡ ArgumentConflict) × C) ⊎ B (no_work kind)
    → IfErr done (λ fault. A fault ⊎ ((fault ≡ Usage) × (B whys.Usage ⊎ C)) ⊎ (fault ≡ Refused Memory))
line_fault kind done A C B e (inl memory) = rw (e, memory) (inr (inr refl))
line_fault kind done A C B e (inr (inl both)) = rw (e, both.0) (inr (inl (refl, inr both.1)))
line_fault kind done A C B e (inr (inr none)) = rw e (by (no_work kind) none)
  where
    by : (why : NoWork) → B why → IfErr (without_work why) (λ fault. A fault ⊎ ((fault ≡ Usage) × (B whys.Usage ⊎ C)) ⊎ (fault ≡ Refused Memory))
    by whys.Shown is = tt
    by whys.Usage is = inr (inl (refl, inl is))
    by whys.Memory is = inr (inr refl)

-- nor does it tell that something is wrong
pub never_wrong : (why : NoWork) (done : Result (Unit {0}) BenchFault) (A : Type 0) → done ≡ without_work why → done ≡ Err Wrong → A
never_wrong whys.Shown done A is wrong = absurd (let no : ⊥ = cc in no)
never_wrong whys.Usage done A is wrong = absurd (let no : ⊥ = cc in no)
never_wrong whys.Memory done A is wrong = absurd (let no : ⊥ = cc in no)
