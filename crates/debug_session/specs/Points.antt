-- The lists of breakpoints and watchpoints. Source: "Debugging with GDB", appendix "GDB Remote Serial Protocol", "Packets",
-- `z` and `Z`: a packet sets one or takes it away. To set one that is set, or to take away one that is not, changes nothing.
use Rattle.std.specs.Prelude.{ℕ, Bool, true, false, List, [], ◌∷◌, ◌++◌, ◌==◌, ◌&&◌, not, if◌then◌else◌}
use Rattle.std.specs.List.{filter, list_any}
use Rattle.debug_session.specs.declared.stops.Watchpoint.{Watchpoint}
use Rattle.debug_session.specs.declared.stops.WatchKind.{WatchKind}
use Rattle.debug_session.specs.declared.stops.WatchKind.TheVariants as kinds

-- a breakpoint more: it stands once
abbrev pub with_point : ℕ → List ℕ → List ℕ
with_point address points = if list_any (λ p. p == address) points then points else points ++ address ∷ []

-- all but that one
abbrev pub without_point : ℕ → List ℕ → List ℕ
without_point address points = filter (λ p. not (p == address)) points

abbrev pub is_kind : WatchKind → WatchKind → Bool
is_kind kinds.Changes kinds.Changes = true
is_kind kinds.Reads kinds.Reads = true
is_kind kinds.Accesses kinds.Accesses = true
is_kind a b = false

-- they have one kind, and watch the same bytes
abbrev pub is_same : Watchpoint → Watchpoint → Bool
is_same watch w = is_kind w.kind watch.kind && (w.address == watch.address && w.count == watch.count)

-- a watchpoint more: it stands once
abbrev pub with_watch : Watchpoint → List Watchpoint → List Watchpoint
with_watch watch watches = if list_any (is_same watch) watches then watches else watches ++ watch ∷ []

-- all but that one
abbrev pub without_watch : Watchpoint → List Watchpoint → List Watchpoint
without_watch watch watches = filter (λ w. not (is_same watch w)) watches
