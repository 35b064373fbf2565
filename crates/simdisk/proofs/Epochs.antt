-- What was written since the last sync, beside what stood at it.
use Rattle.std.proofs.Common.{◌≡◌, ◌∙◌, ℕ, Bool, false, if◌then◌else◌, List, length, ap, sym, subst}
use Rattle.disk.{specs.{Facts.Content, WriteLog.{synced, newest, ranges, replay, AreWithin}}, proofs.Pieces.length_replay}
use Rattle.simdisk.specs.{declared.{history.History.History, patch.Patch.Patch}, History.{log_of, Stands}, Latest.HasPlace, Views.pieces}

-- it fits what stood then
pub fits_synced : (h : History) → AreWithin (length (synced (log_of h))) (ranges (pieces h.written.items))
fits_synced h = h.fits

-- what was written last is as long as what stood then
pub length_newest : (h : History) → length (newest (log_of h)) ≡ length (synced (log_of h))
length_newest h = length_replay (pieces h.written.items) (synced (log_of h)) (fits_synced h)

-- what is kept apart stands so on a disk of any content that is as long
pub stands_apart : (h : History) (old c : Content) → h.stood.as_read ≡ false → h.stood.sectors.items ≡ synced (log_of h) → HasPlace (length old) h.stood → length c ≡ length old → Stands c h
stands_apart h old c apart is place long = record {
  is = ap (λ (read : Bool). if read then c else h.stood.sectors.items) apart ∙ is;
  place = subst (λ (n : ℕ). HasPlace n h.stood) (sym long) place;
}

-- what a crash leaves is made of what stood, of the patches that were written, and of what was written
-- last
module _ (h : History) (content : Content) (written : List Patch) (stood : content ≡ synced (log_of h)) (same : written ≡ h.written.items) where
  pub leave_fits : AreWithin (length content) (ranges (pieces written))
  leave_fits =
      subst (λ (c : Content). AreWithin (length c) (ranges (pieces written))) (sym stood)
      (subst (λ (w : List Patch). AreWithin (length (synced (log_of h))) (ranges (pieces w))) (sym same) h.fits)

  pub leave_last : (last : Content) → last ≡ newest (log_of h) → last ≡ replay (pieces written) content
  leave_last last is =
      is ∙ ap (λ (c : Content). replay (pieces h.written.items) c) (sym stood)
      ∙ ap (λ (w : List Patch). replay (pieces w) content) (sym same)

  pub leave_long : (last : Content) → last ≡ newest (log_of h) → length last ≡ length content
  leave_long last is = ap (λ (c : Content). length c) is ∙ length_newest h ∙ ap (λ (c : Content). length c) (sym stood)
