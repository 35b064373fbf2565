-- The record that a command makes: of version 2, whatever the old one is of.
use Rattle.std.specs.Prelude.{◌≡◌, ℕ, ◌+◌, ◌<◌, List, length, Some, None, false, is_some, option_map, if◌then◌else◌}
use Rattle.board_model.specs.Durable.{after}
use Rattle.board_model.specs.Shapes.{Size, IsValidAddress, ram_bytes_of}
use Rattle.board_model.specs.declared.durable.Durable.{Durable}
use Rattle.store.specs.declared.saving.Resumption.{Resumption}
use Rattle.disk.specs.Facts.{Content}
use Rattle.layout.specs.Records.{IsInRange}
use Rattle.layout.specs.declared.records.Record.{Record}
use Rattle.layout.specs.declared.records.Version.TheVariants.{Two}
use Rattle.store.specs.Standing.{state_of, memory_in}
use Rattle.store.specs.Entries.{drops_image}
use Rattle.board_model.specs.Views.{change_in}
use Rattle.board_model.specs.declared.durable.Entry.{Entry}

-- the record of that durable state, whose image, where it has one, is the old record's
abbrev pub next_of : Record → Durable → Record
next_of r d =
    record {
      version = Two;
      slot = d.slot;
      reason = d.reason;
      next = d.next;
      image = (if is_some d.image then r.image else None);
      trial = d.trial;
    }

-- the durable state after a suspension, whatever the memory
abbrev pub durable_after : Record → Resumption → Durable
durable_after r at =
    record {
      image = Some (record { serial = r.next; hart = at.hart; address = at.address; opaque = at.opaque });
      slot = r.slot;
      reason = r.reason;
      next = r.next + 1;
      trial = r.trial;
    }

-- the record of that durable state, where the memory of its image stands in that area
abbrev pub suspended : Durable → ℕ → List ℕ → Record
suspended d area counts =
    record {
      version = Two;
      slot = d.slot;
      reason = d.reason;
      next = d.next;
      image = option_map (λ head. record { head = head; area = area; counts = counts }) d.image;
      trial = d.trial;
    }

-- the memory, the hart and the address are those of the board
abbrev pub FitsBoard : Size → List ℕ → ℕ → ℕ → Type 0
FitsBoard size memory hart address =
    (length memory ≡ ram_bytes_of size) × (hart < size.harts) × IsValidAddress size address

-- the next record is that of the state after the command, and in range where the old one is; a command that
-- keeps the image keeps its area
pub record Follows (size : Size) (r : Record) (entry : Entry) (next : Record) : Type 0 where
  pub state : (content : Content)
      → state_of size next content ≡ after (state_of size r content) (change_in entry (memory_in size next content))
  pub in_range : IsInRange size r → IsInRange size next
  pub version : next.version ≡ Two
  pub image : drops_image entry ≡ false → next.image ≡ r.image
