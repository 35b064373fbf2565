-- The runs of the schedule bench. Source: docs/SCRIPT.md, "Schedules".
use Rattle.std.specs.Prelude.{Ok, Bool, true, ◌≡◌, ◌≢◌, ◌+◌, ◌-◌, ◌==◌, ℕ, suc, List, [], ◌∷◌, ◌++◌, Option, None, Some, All, length, take, if◌then◌else◌}
use Rattle.std.specs.Fmt.{decimal}
use Rattle.std.specs.List.{flat_map}
use Rattle.std.specs.Io.KnownBytes.{Appends}
use Rattle.board_model.specs.Shapes.{Size}
use Rattle.crew.specs.Parts.{begin_of, end_of, part_text}
use Rattle.crew.specs.declared.part.Part.{Part}
use Rattle.script_lang.specs.Scripts.{Script, script_of}
use Rattle.script_lang.specs.Spellings.{script_text, IsWritable}
use Rattle.script_lang.specs.declared.line.Line.{Line}
use Rattle.bench_report.specs.Bench.{Bench, bench_with}
use Rattle.bench_report.specs.Steps.{Run}
use Rattle.report_lines.specs.declared.printed.Answer.{Answer}
use Rattle.bench_schedules.specs.Orders.{IsScheduleOf, is_other}
use Rattle.bench_schedules.specs.Told.{IsFirstApart, told_lines}
use Rattle.bench_schedules.specs.declared.runs.Difference.{Difference}
use lib.Chars.{codes}

-- the answers of the lines that are no `turn`, as far as there are answers
abbrev pub other_answers : List Line → List Answer → List Answer
other_answers [] answers = []
other_answers (line ∷ more) [] = []
other_answers (line ∷ more) (a ∷ answers) = if is_other line then (a ∷ other_answers more answers) else other_answers more answers

-- the answer of one line, where that is no `turn`
abbrev pub other_answer : Bool → Answer → List Answer
other_answer other a = if other then (a ∷ []) else []

-- With these payloads in the slots the lines ran, and memory was never refused: to no power-on, to no suspension and to no examination
-- of the disk, and the disk always had it for its record.
pub record RanWell (size : Size) (start : List (List ℕ)) (those : List Line) (answers : List Answer) (end : Bench) : Type 0 where
  pub run : Run size (bench_with start) those answers end
  pub memory : end.growths ≡ 0
  pub disk : end.fault_state.own ≡ 0

-- The run answered as the script's own run did; or it did so up to a place, and answered otherwise there.
abbrev pub ToldLike : List Answer → List Answer → Option Difference → Type 0
ToldLike own ran None = ran ≡ own
ToldLike own ran (Some d) =
    (before after : List Answer) × (own ≡ before ++ d.own ∷ after) × (length before ≡ d.place) × (d.own ≢ d.answer)
    × (ran ≡ before ++ d.answer ∷ [])

-- Some first lines ran, up to the one that differs; or, where none does, all of them.
pub record RanLike (size : Size) (start : List (List ℕ)) (those : List Line) (own : List Answer) (differs : Option Difference) : Type 0 where
  pub n : ℕ
  pub answers : List Answer
  pub end : Bench
  pub ran : RanWell size start (take n those) answers end
  pub like : ToldLike own (other_answers (take n those) answers) differs

-- a schedule of the script was run, which began with these payloads as the script did
pub record Ran (said : Script) (start : List (List ℕ)) (own : List Answer) (differs : Option Difference) : Type 0 where
  pub schedule : Script
  pub order : IsScheduleOf said schedule
  pub writable : IsWritable schedule
  pub ran : RanLike said.size start schedule.lines own differs

-- the script's own run, by what its lines answered that are no turns
pub record RanOwn (size : Size) (start : List (List ℕ)) (those : List Line) (own : List Answer) : Type 0 where
  pub answers : List Answer
  pub end : Bench
  pub ran : RanWell size start those answers end
  pub told : own ≡ other_answers those answers

-- what is written of schedule k, where `number` gives the script's line at a place: the first line in which what is told of both
-- runs differs there, as the schedule's run has it and as the script's own run has it, which is another text
abbrev pub RunText : (ℕ → ℕ) → ℕ → Option Difference → List ℕ → Type 0
RunText number k None text = text ≡ []
RunText number k (Some d) text =
    (own said : List ℕ) × IsFirstApart (told_lines d.own) (told_lines d.answer) own said
    × (text ≡ codes "schedule " ++ decimal k ++ codes " line " ++ decimal (number d.place) ++ codes " " ++ said ++ codes " own " ++ own ++ 10 ∷ [])

-- what is written of the schedules from number k on
abbrev pub RunsText : (ℕ → ℕ) → ℕ → List (Option Difference) → List ℕ → Type 0
RunsText number k [] text = text ≡ []
RunsText number k (run ∷ runs) text =
    (first rest : List ℕ) × RunText number k run first × RunsText number (k + 1) runs rest × (text ≡ first ++ rest)

abbrev pub differing : List (Option Difference) → ℕ
differing [] = 0
differing (None ∷ runs) = differing runs
differing (Some d ∷ runs) = suc (differing runs)

-- the lines of stretches that name few turns
abbrev pub tight_text : List ℕ → List ℕ
tight_text numbers = flat_map (λ n. codes "line " ++ decimal n ++ codes " tight\n") numbers

-- the last line, of a part or of the whole
abbrev pub count_text : Option Part → ℕ → ℕ → List ℕ
count_text part n differ = part_text part ++ codes "schedules " ++ decimal n ++ codes " differ " ++ decimal differ ++ 10 ∷ []

-- These runs were made, of the n schedules from number k on: what was written of them, and how many differ.
pub record Wrote (said : Script) (start : List (List ℕ)) (number : ℕ → ℕ) (own : List Answer) (k n : ℕ)
    (old new : Option (List ℕ)) (differ : ℕ) : Type 0 where
  pub runs : List (Option Difference)
  pub all : length runs ≡ n
  pub each : All (Ran said start own) runs
  pub count : differ ≡ differing runs
  pub text : List ℕ
  pub tells : RunsText number k runs text
  pub written : Appends old new text

-- a run of that part tells of stretches that name few turns: the first does, and one of the whole
abbrev pub has_tight : Option Part → Bool
has_tight None = true
has_tight (Some part) = part.number == 1

abbrev pub own_tight : Option Part → List ℕ → List ℕ
own_tight part tight = if has_tight part then tight else []

-- how many schedules of n a part has, or the whole
abbrev pub own_count : Option Part → ℕ → ℕ
own_count part n = end_of part n - begin_of part n

-- All n schedules were run, or those of the part, under their own numbers, each was compared with the script's own run and counted, and
-- this was written of them.
pub record WroteSchedules (said : Script) (start : List (List ℕ)) (number : ℕ → ℕ) (part : Option Part) (n : ℕ)
    (old new : Option (List ℕ)) (differ : ℕ) : Type 0 where
  pub own : List Answer
  pub ran : RanOwn said.size start said.lines own
  pub tight : List ℕ
  pub first : Option (List ℕ)
  pub begun : Appends old first (tight_text (own_tight part tight))
  pub last : Option (List ℕ)
  pub wrote : Wrote said start number own (1 + begin_of part n) (own_count part n) first last differ
  pub ended : Appends last new (count_text part (own_count part n) differ)

-- `--show`: a schedule, as a text that is read back as it. A line feed ends its last line too.
pub record Shown (said : Script) (old new : Option (List ℕ)) : Type 0 where
  pub schedule : Script
  pub order : IsScheduleOf said schedule
  pub writable : IsWritable schedule
  pub reads : script_of (script_text schedule) ≡ Ok schedule
  pub text : Appends old new (script_text schedule ++ 10 ∷ [])
