use Rattle.std.proofs.Common.{◌∙◌, ◌++◌, ℕ, List, sym, ap, append_assoc}
use Rattle.layout.specs.{Fields.{fields_bytes, sector_of}, Records.{head_fields, image_fields, trial_fields}}
use Rattle.layout.proofs.Spellings.{fields_bytes-append}
use Rattle.layout.proofs.records.record_bytes.Goals as goal

pub returns : goal.returns
returns c =
    let r = c.args.r.now in
    c.finish.ensures
    ∙ ap sector_of
    (c.fill_trial.ensures ∙ ap (λ (h : List ℕ). h ++ fields_bytes (trial_fields r.trial)) (c.fill_image.ensures.value ∙ ap (λ (h : List ℕ). h ++ fields_bytes (image_fields r.image)) c.head_of-sector.ensures.value)
    ∙ append_assoc (fields_bytes (head_fields r)) (fields_bytes (image_fields r.image)) (fields_bytes (trial_fields r.trial))
    ∙ ap (λ (b : List ℕ). fields_bytes (head_fields r) ++ b) (sym (fields_bytes-append (image_fields r.image) (trial_fields r.trial)))
    ∙ sym (fields_bytes-append (head_fields r) (image_fields r.image ++ trial_fields r.trial)))
