use Rattle.std.proofs.{Common.{◌≡◌, ◌++◌, ◌∷◌, [], length, rules}, lemmas.List.map-append}
use Rattle.disk.{specs.WriteLog.synced, proofs.Pieces.fits_push}
use Rattle.simdisk.specs.{History.log_of, Views.pieces}
use Rattle.simdisk.proofs.history.History.note.Goals as goal

pub invariant_of-self-2 : goal.invariant_of-self-2
invariant_of-self-2 c =
    let s = c.args.self.now in
    let pushed : pieces c.push_reserved.new.self.items ≡ pieces s.written.items ++ (c.args.first, c.args.sectors.now) ∷ [] = search (rules, map-append) in
    record { fits = rw pushed (fits_push (length (synced (log_of s))) (pieces s.written.items) (c.args.first, c.args.sectors.now) s.fits c.requires.within) }
