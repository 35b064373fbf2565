-- A file in memory, which keeps its word: a crash leaves what a read gives, or what stood at its last sync.
use Rattle.std.proofs.Common.{◌≡◌, ◌⊎◌, ◌≤◌, ℕ, List, [], ◌∷◌, length, inl, inr, arith}
use Rattle.disk.specs.Facts.{Content}
use Rattle.disk.specs.WriteLog.{Piece, WriteLog}
use Rattle.board_files.specs.Files.{FileFacts}

-- one content more, which was left to a crash before
abbrev pub noted : Content → WriteLog → WriteLog
noted content r = record r { written = (0, content) ∷ r.written }

-- a sync more: those noted before it are its own
abbrev pub synced_once : WriteLog → WriteLog
synced_once r = record { began = r.began; past = r.written ∷ r.past; written = [] }

-- it is one of these
abbrev pub IsOneOf : List Piece → Content → Type 0
IsOneOf [] c = ⊥
IsOneOf (p ∷ ps) c = (c ≡ p.1) ⊎ IsOneOf ps c

-- it is one of those that were noted between the sync of that number and the last; the newest stand first
abbrev pub IsSince : ℕ → List (List Piece) → Content → Type 0
IsSince t [] c = ⊥
IsSince t (ps ∷ older) c = ((t ≤ length older) × IsOneOf ps c) ⊎ IsSince t older c

-- a file that reads so, where that stood at its last sync, and those were left to a crash before
abbrev pub kept_facts : Content → Content → WriteLog → FileFacts
kept_facts sectors stood past = record {
  holds = sectors;
  may_leave = λ c. (c ≡ sectors) ⊎ (c ≡ stood);
  syncs = length past.past;
  since = λ t c. ((c ≡ sectors) ⊎ (c ≡ stood)) ⊎ IsOneOf past.written c ⊎ IsSince t past.past c;
}

-- what was left since a moment was left since an earlier one
earlier_since : (past : List (List Piece)) (t u : ℕ) (c : Content) → t ≤ u → IsSince u past c → IsSince t past c
earlier_since [] t u c le is = is
earlier_since (ps ∷ older) t u c le (inl is) = let at = is.0 in inl (omega (arith, le, at), is.1)
earlier_since (ps ∷ older) t u c le (inr is) = inr (earlier_since older t u c le is)

pub earlier : (sectors stood : Content) (past : WriteLog) (t u : ℕ) (c : Content) → t ≤ u → (kept_facts sectors stood past).since u c → (kept_facts sectors stood past).since t c
earlier sectors stood past t u c le (inl is) = inl is
earlier sectors stood past t u c le (inr (inl is)) = inr (inl is)
earlier sectors stood past t u c le (inr (inr is)) = inr (inr (earlier_since past.past t u c le is))
