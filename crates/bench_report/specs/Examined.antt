-- What a line that examines the disk answers: a function of the disk's content, which the bench knows as far as
-- a read may give it. Source: docs/SCRIPT.md, "The report"; docs/STORE.md, "Examining".
use Rattle.std.specs.Prelude.{IfSome, ◌≡◌, ◌≢◌, ◌⊎◌, ⊤, ℕ, ◌%◌, true, nat_lt, List, [], ◌∷◌, None, Option, Some, length}
use Rattle.board_model.specs.Durable.{DurableState, Image, Change}
use Rattle.board_model.specs.Kept.{Kept, MayFind, found_of}
use Rattle.board_model.specs.Shapes.{Size, sectors_of}
use Rattle.board_model.specs.Views.{durable_of, number_of_refusal}
use Rattle.board_model.specs.declared.refusal.Refusal.{Refusal}
use Rattle.board_model.specs.declared.refusal.Refusal.TheVariants.{NotFormatted, BadShape}
use Rattle.disk.specs.Facts.{Content}
use Rattle.store.specs.Leaves.{IsMarked}
use Rattle.store.specs.Opens.{IsBoard, ReadsAs}
use Rattle.store.specs.Standing.{StandsFor}
use Rattle.store.specs.Inspects.{IsInspected}
use Rattle.store.specs.declared.inspects.ImageSeen.{ImageSeen}
use Rattle.store.specs.declared.inspects.ImageSeen.TheVariants.{Absent, Whole, Bad}
use Rattle.store.specs.declared.inspects.Inspection.{Inspection}
use Rattle.report_lines.specs.declared.printed.Printed.{Printed}
use Rattle.report_lines.specs.declared.printed.Printed.TheVariants as printed
use Rattle.report_lines.specs.declared.printed.Answer.{Answer}
use Rattle.bench_report.specs.Bench.{DiskState, Blank, Unknown, Formatted, BenchLife, Bench, IsClean}
use Rattle.bench_report.specs.Sides.{SidesOf}
use Rattle.bench_report.specs.Happens.{says, out_of_memory, FailsByFault}

-- What a read may give of a disk of which so much is known. (A crash may leave what a read gives.)
abbrev pub ReadsOf : DiskState → Kept → Size → Content → Type 0
ReadsOf Blank kept size c = IsMarked c → ⊥
ReadsOf Unknown kept size c = ⊤
ReadsOf Formatted kept size c = (s : DurableState) × MayFind kept s × StandsFor c size s

abbrev pub MayRead : Size → Bench → Content → Type 0
MayRead size b c =
    (length c ≡ sectors_of size) × ReadsOf b.disk_state b.kept size c
    × (IsClean b → SidesOf b.disk_state b.kept size c)

-- what an examiner says of a content, which is one thing (law `content_determines_inspection` of `store`)
abbrev pub Tells : Content → Printed → Type 0
Tells c (printed.Inspected i) = (size : Size) × IsBoard size c × IsInspected size c i
Tells c (printed.InspectRefused n) = ((n ≡ 1) × ReadsAs c NotFormatted) ⊎ ((n ≡ 3) × ReadsAs c BadShape)
Tells c line = ⊥

-- what is said of the image that a state has, whose memory is that of its board
abbrev pub memory_seen : List ℕ → ImageSeen
memory_seen [] = Bad
memory_seen (byte ∷ more) = Whole

abbrev pub image_seen : Option Image → ImageSeen
image_seen None = Absent
image_seen (Some image) = memory_seen image.memory

-- what is said of a formatted disk by the commands that it keeps, where nothing failed and nobody but the
-- firmware wrote it
abbrev pub inspection_of : List Change → Inspection
inspection_of changes =
    record {
      gate = length changes % 2;
      live = true;
      other = nat_lt 0 (length changes);
      image = image_seen (found_of changes).image;
    }

-- an image stands, for whose memory there may be no room
abbrev pub HasImage : Content → Type 0
HasImage c = (size : Size) × (s : DurableState) × StandsFor c size s × (s.image ≢ None)

-- by a content: what is said of it, or that memory was refused
abbrev pub TellsOf : Content → Bench → Answer → Bench → Type 0
TellsOf c b answer new =
    ((line : Printed) × Tells c line × (answer ≡ says line) × (new ≡ b))
    ⊎ (HasImage c × (answer ≡ says (printed.InspectRefused 11)) × (new ≡ out_of_memory b))

-- of a board that is off; a failure of the disk is answered 5, and nothing of the disk changes
abbrev pub InspectsOn : Size → Bench → Answer → Bench → Type 0
InspectsOn size b answer new =
    ((c : Content) × MayRead size b c × TellsOf c b answer new)
    ⊎ ((answer ≡ says (printed.InspectRefused 5)) × FailsByFault b new)

abbrev pub InspectStep : Size → Option BenchLife → Bench → Answer → Bench → Type 0
InspectStep size (Some life) b answer new = (answer ≡ says printed.Busy) × (new ≡ b)
InspectStep size None b answer new = InspectsOn size b answer new

-- by the content itself: what is said of it, or 5, or where an image stands 11
abbrev pub AnswersOf : Content → Answer → Type 0
AnswersOf c answer =
    ((line : Printed) × Tells c line × (answer ≡ says line))
    ⊎ (answer ≡ says (printed.InspectRefused 5))
    ⊎ (HasImage c × (answer ≡ says (printed.InspectRefused 11)))

-- What a power-on says of a content, whatever is known of the disk: a state that is shown is the one that the content stands
-- for (law `content_determines_state` of `store`), and one that stands for none is refused so, or 5.
pub record OpensOf (c : Content) (answer : Answer) : Type 0 where
  pub shows : IfSome answer.found (λ d. (size : Size) × (s : DurableState) × StandsFor c size s × (d ≡ durable_of s))
  pub refuses : (e : Refusal) → ReadsAs c e
      → (answer ≡ says (printed.OnRefused (number_of_refusal e))) ⊎ (answer ≡ says (printed.OnRefused 5))
