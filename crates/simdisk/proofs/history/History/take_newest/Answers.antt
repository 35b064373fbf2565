use Rattle.std.proofs.{Common.{◌≡◌, ◌∙◌, ◌*◌, ◌<◌, ◌≤◌, ◌+◌, ℕ, length, set, ap, sym, arith}, Math.Nat.zero-mul, lemmas.List.length-map}
use Rattle.simdisk.{specs.{History.log_of, Views.{piece, pieces}}, proofs.{Epochs.{fits_synced, length_newest}, Notes.ranges_set}}
use Rattle.simdisk.proofs.{Replaced.{newest_retaken, range_copied, torn_nothing}, Walks.fits_read}
use Rattle.disk.specs.WriteLog.{range, ranges, synced, newest}
use Rattle.simdisk.proofs.history.History.take_newest.Goals as goal

pub retake-requires : goal.retake-requires
retake-requires c =
    let s = c.args.self.now in
    let some : 0 < c.args.loan.lanes = omega arith in
    let less : c.args.loan.patch < length s.written.items = omega (arith, (c.requires.noted some).noted.0, length-map (pieces s.written.items) range, length-map s.written.items piece) in
    omega (arith, c.requires.torn.as_long, length_newest s, fits_read (length (synced (log_of s))) s.written.items c.args.loan.patch c.index_mut.result.now less c.index_mut.ensures.value (fits_synced s))

pub invariant_of-self : goal.invariant_of-self
invariant_of-self c =
    let s = c.args.self.now in
    let x = c.index_mut.result.now in
    let new = c.retake.new.self in
    let some : 0 < c.args.loan.lanes = omega arith in
    let less : c.args.loan.patch < length s.written.items = omega (arith, (c.requires.noted some).noted.0, length-map (pieces s.written.items) range, length-map s.written.items piece) in
    let within : x.first + x.count ≤ length c.args.last.now =
    omega (arith, c.requires.torn.as_long, length_newest s, fits_read (length (synced (log_of s))) s.written.items c.args.loan.patch x less c.index_mut.ensures.value (fits_synced s)) in
    let same : ranges (pieces (set s.written.items c.args.loan.patch new)) ≡ ranges (pieces s.written.items) =
    ranges_set s.written.items c.args.loan.patch x new less c.index_mut.ensures.value (range_copied c.args.last.now x new c.retake.ensures within) in
    record { fits = rw same s.fits }

pub returns-clause-ranges : goal.returns-clause-ranges
returns-clause-ranges c =
    let s = c.args.self.now in
    let x = c.index_mut.result.now in
    let new = c.retake.new.self in
    let some : 0 < c.args.loan.lanes = omega arith in
    let less : c.args.loan.patch < length s.written.items = omega (arith, (c.requires.noted some).noted.0, length-map (pieces s.written.items) range, length-map s.written.items piece) in
    let within : x.first + x.count ≤ length c.args.last.now =
    omega (arith, c.requires.torn.as_long, length_newest s, fits_read (length (synced (log_of s))) s.written.items c.args.loan.patch x less c.index_mut.ensures.value (fits_synced s)) in
    ranges_set s.written.items c.args.loan.patch x new less c.index_mut.ensures.value (range_copied c.args.last.now x new c.retake.ensures within)

pub returns-clause-newest : goal.returns-clause-newest
returns-clause-newest c =
    let s = c.args.self.now in
    let some : 0 < c.args.loan.lanes = omega arith in
    let last = c.requires.noted some in
    let less : c.args.loan.patch < length s.written.items = omega (arith, last.noted.0, length-map (pieces s.written.items) range, length-map s.written.items piece) in
    newest_retaken s.written.items c.args.loan.patch c.index_mut.result.now c.retake.new.self c.args.loan.first (c.args.loan.lanes * c.args.loan.each) (synced (log_of s)) c.args.last.now
    less c.index_mut.ensures.value (fits_synced s) last c.retake.ensures c.requires.torn

-- nothing was lent
pub returns-then-loan-eq0-clause-newest : goal.returns-then-loan-eq0-clause-newest
returns-then-loan-eq0-clause-newest c =
    let s = c.args.self.now in
    let none : c.args.loan.lanes ≡ 0 = omega arith in
    let zero : c.args.loan.lanes * c.args.loan.each ≡ 0 = ap (λ (n : ℕ). n * c.args.loan.each) none ∙ zero-mul c.args.loan.each in
    sym (torn_nothing c.args.loan.first (c.args.loan.lanes * c.args.loan.each) (newest (log_of s)) c.args.last.now zero c.requires.torn)
