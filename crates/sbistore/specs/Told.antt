-- What C is told of a durable state: each number, and zeros where no trial or no image stands.
use Rattle.std.specs.Prelude.{Option, Some, None}
use Rattle.board_model.specs.Views.{reason_number}
use Rattle.board_model.specs.declared.durable.Durable.{Durable as State}
use Rattle.board_model.specs.declared.durable.ImageHead.{ImageHead}
use Rattle.board_model.specs.declared.durable.Trial.{Trial}
use Rattle.sbistore.specs.declared.state.Durable.{Durable as Told}

-- the state without trial and image
abbrev pub plain_of : State → Told
plain_of d = record {
  next = d.next;
  slot = d.slot;
  reason = reason_number d.reason;
  on_trial = 0;
  fallback = 0;
  left = 0;
  has_image = 0;
  image_serial = 0;
  image_address = 0;
  image_opaque = 0;
  image_hart = 0;
  padding = 0;
}

abbrev pub with_trial : Option Trial → Told → Told
with_trial None told = told
with_trial (Some trial) told = record told { on_trial = 1; fallback = trial.fallback; left = trial.left }

abbrev pub with_image : Option ImageHead → Told → Told
with_image None told = told
with_image (Some image) told =
    record told {
      has_image = 1;
      image_serial = image.serial;
      image_address = image.address;
      image_opaque = image.opaque;
      image_hart = image.hart;
    }

abbrev pub told_of : State → Told
told_of d = with_image d.image (with_trial d.trial (plain_of d))
