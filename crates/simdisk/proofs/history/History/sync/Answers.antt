use Rattle.std.proofs.Common.{◌≡◌, ◌∙◌, ◌++◌, ◌∷◌, [], List, map, refl, sym, ap}
use Rattle.disk.specs.{Facts.Content, WriteLog.{AgreesOutside, Piece, piece_in, ranges, replay, synced, synced_after}}
use Rattle.disk.proofs.Pieces.{synced_push, replay_copied}
use Rattle.simdisk.{specs.{declared.history.History.History, History.log_of, Views.pieces}, proofs.Epochs.fits_synced}
use Rattle.simdisk.proofs.history.History.sync.Goals as goal

-- what stands after an epoch more
epoch_more : (past past' : List (List Piece)) (began began' stood : Content) (epoch : List Piece) → began' ≡ began → past' ≡ past ++ epoch ∷ [] → synced_after past began ≡ stood → synced_after past' began' ≡ replay epoch stood
epoch_more past past' began began' stood epoch same more is =
    ap (λ (c : Content). synced_after past' c) same ∙ ap (λ (es : List (List Piece)). synced_after es began) more ∙ synced_push past epoch began ∙ ap (λ (c : Content). replay epoch c) is

-- it is the content
now_synced : (s : History) (began' : Content) (past' : List (List Piece)) (now : Content) → began' ≡ s.past.kept.log.began → past' ≡ s.past.kept.log.past ++ map (piece_in now) (pieces s.written.items) ∷ []
    → AgreesOutside (synced (log_of s)) (ranges (pieces s.written.items)) now → synced_after past' began' ≡ now
now_synced s began' past' now same more agrees =
    epoch_more s.past.kept.log.past past' s.past.kept.log.began began' (synced (log_of s)) (map (piece_in now) (pieces s.written.items)) same more refl
    ∙ replay_copied (synced (log_of s)) now (pieces s.written.items) agrees (fits_synced s)

pub catch_up-requires : goal.catch_up-requires
catch_up-requires c =
    record {
      place = c.requires.stands.place;
      fits = rw (c.deref-2.ensures.value, c.requires.agrees.as_long) (fits_synced c.args.self.now);
      agrees = rw (c.deref-2.ensures.value, c.requires.stands.is) c.requires.agrees;
    }

pub invariant_of-self : goal.invariant_of-self
invariant_of-self c =
    let past = c.sync.new.self.kept.log in
    let is : synced_after past.past past.began ≡ c.args.content.now = now_synced c.args.self.now past.began past.past c.args.content.now c.sync.ensures.0 (rw (← c.deref.ensures.value) c.sync.ensures.1) c.requires.agrees in
    record { fits = rw (is, c.requires.agrees.as_long) c.requires.fits }

pub returns-clause-synced : goal.returns-clause-synced
returns-clause-synced c =
    let past = c.sync.new.self.kept.log in
    now_synced c.args.self.now past.began past.past c.args.content.now c.sync.ensures.0 (rw (← c.deref.ensures.value) c.sync.ensures.1) c.requires.agrees

pub returns-clause-stands : goal.returns-clause-stands
returns-clause-stands c =
    let past = c.sync.new.self.kept.log in
    let is : synced_after past.past past.began ≡ c.args.content.now = now_synced c.args.self.now past.began past.past c.args.content.now c.sync.ensures.0 (rw (← c.deref.ensures.value) c.sync.ensures.1) c.requires.agrees in
    record { is = c.catch_up.ensures.same ∙ sym is; place = c.catch_up.ensures.place }
