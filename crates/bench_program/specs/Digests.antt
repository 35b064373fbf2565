-- What a part of a bench is of, and its digest. Source: docs/SCRIPT.md, "Over many machines"; SHA-256: FIPS 180-4.
use Rattle.std.specs.Prelude.{ℕ, ◌-◌, Bool, true, false, List, [], ◌++◌, Option, None, Some, if◌then◌else◌, length, take}
use Rattle.std.specs.Fmt.{decimal}
use Rattle.board.specs.Boots.{payload_at}
use Rattle.hex.specs.Hex.{encode_lower}
use Rattle.sha2.specs.Sha256.{sha256}
use Rattle.bench_sweep.specs.declared.points.BenchKind.{BenchKind}
use Rattle.bench_sweep.specs.declared.points.BenchKind.TheVariants.{Cuts, Fails}
use Rattle.crew.specs.declared.part.Part.{Part}
use Rattle.bench_program.specs.declared.usage.Work.{Work}
use Rattle.bench_program.specs.declared.usage.Work.TheVariants.{Judge, Compare}
use lib.Chars.{codes}

abbrev pub bench_text : BenchKind → Bool → List ℕ
bench_text Cuts false = codes "sweep"
bench_text Cuts true = codes "sweep quiet"
bench_text Fails false = codes "faults"
bench_text Fails true = codes "faults quiet"

abbrev pub schedules_text : ℕ → ℕ → List ℕ
schedules_text count seed = codes "schedules " ++ decimal count ++ codes " seed " ++ decimal seed

-- the options by which a bench makes other runs, or tells of others
abbrev pub options_text : Work → List ℕ
options_text (Judge plan) = bench_text plan.bench plan.quiet
options_text (Compare plan) = schedules_text plan.count plan.seed
options_text work = []

-- a text after others, with its length before it
abbrev pub then_framed : List ℕ → List ℕ → List ℕ
then_framed m text = (m ++ (decimal (length text) ++ codes ":")) ++ text

-- these payloads in the slots
abbrev pub with_slots : List ℕ → List (List ℕ) → List ℕ
with_slots m payloads =
    then_framed
    (then_framed (then_framed (then_framed m (payload_at payloads 0)) (payload_at payloads 1)) (payload_at payloads 2))
    (payload_at payloads 3)

-- what each part of one bench is of: those options, these payloads in the slots, and that script
abbrev pub message : Work → List (List ℕ) → List ℕ → List ℕ
message work payloads script = then_framed (with_slots (then_framed [] (options_text work)) payloads) script

-- the first 8 bytes of its digest, in 16 digits
abbrev pub digest_text : Work → List (List ℕ) → List ℕ → List ℕ
digest_text work payloads script = encode_lower (take 8 (sha256 (message work payloads script)))

-- the last line of a text, which is ended, ends with that word too
abbrev pub with_tag : Option (List ℕ) → List ℕ → List ℕ
with_tag None text = text
with_tag (Some tag) text = ((take (length text - 1) text ++ codes " ") ++ tag) ++ codes "\n"

abbrev pub has_part : Option Part → Bool
has_part None = false
has_part (Some part) = true

-- a part of a bench is made
abbrev pub is_part : Work → Bool
is_part (Judge plan) = has_part plan.part
is_part (Compare plan) = has_part plan.part
is_part work = false

-- the digest where a part is made
abbrev pub part_tag : Work → List (List ℕ) → List ℕ → Option (List ℕ)
part_tag work payloads script = if is_part work then Some (digest_text work payloads script) else None
