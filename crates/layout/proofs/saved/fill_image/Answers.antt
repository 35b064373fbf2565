use Rattle.std.proofs.Common.{◌∙◌, ◌++◌, ℕ, List, Option, sym, ap}
use Rattle.layout.{specs.{Fields.fields_bytes, Records.image_fields, declared.saved.Saved.Saved}, proofs.SpelledRecords.filled_no_image}
use Rattle.layout.proofs.saved.fill_image.Goals as goal

pub returns-in-None-clause-value : goal.returns-in-None-clause-value
returns-in-None-clause-value c =
    c.bytes.ensures.value ∙ ap (λ (b : List ℕ). c.args.sector.now ++ b) (sym filled_no_image)
    ∙ ap (λ (i : Option Saved). c.args.sector.now ++ fields_bytes (image_fields i)) (sym c.in-None.is)
