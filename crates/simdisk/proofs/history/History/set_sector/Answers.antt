use Rattle.std.{proofs.Common.{◌≡◌, ◌∙◌, List, length, ap}, specs.List.flat_map}
use Rattle.disk.specs.{Facts.Content, WriteLog.{Piece, synced, synced_after}}
use Rattle.simdisk.{specs.{History.log_of, Pokes.parted, Views.pieces}, proofs.Parted.fits_parted}
use Rattle.simdisk.proofs.history.History.set_sector.Goals as goal

pub invariant_of-self : goal.invariant_of-self
invariant_of-self c =
    let s = c.args.self.now in
    let past = c.of-self.result in
    let written : pieces c.in_ok-written.written.items ≡ flat_map (parted c.args.sector) (pieces s.written.items) = rw (← c.deref.ensures.value) c.in_ok-written.ensures in
    let stands : synced_after past.kept.log.past past.kept.log.began ≡ c.overwrite.new.content.items = ap (λ (es : List (List Piece)). synced_after es past.kept.log.began) c.of-self.ensures.1 ∙ c.of-self.ensures.0 ∙ c.deref-2.ensures.value in
    let long : length c.overwrite.new.content.items ≡ length (synced (log_of s)) = c.overwrite.ensures.written.elsewhere.as_long ∙ ap (λ (k : Content). length k) (c.part.ensures.same ∙ c.requires.stands.is) in
    record { fits = rw (written, stands, long) (fits_parted (length (synced (log_of s))) c.args.sector (pieces s.written.items) s.fits) }
