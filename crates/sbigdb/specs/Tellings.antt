-- Payload files as lines of a script. Source: docs/DEBUGGING.md, "How it works"; docs/SCRIPT.md: a line `payload` has 1 to
-- 1,024 bytes.
use Rattle.std.specs.Prelude.{◌≡◌, ℕ, Bool, false, List, [], ◌∷◌, ◌++◌, length, nat_le, ◌==◌, if◌then◌else◌}
use Rattle.board.specs.Boots.{payload_at}
use Rattle.script_lang.specs.declared.line.Line.{Line}
use Rattle.script_lang.specs.declared.line.Line.TheVariants as lines

-- a line has room for it
abbrev pub has_room : List ℕ → Bool
has_room bytes = if length bytes == 0 then false else nat_le (length bytes) 1024

-- the line of a slot's payload, where a line has room for it, and else what the slot begins with
abbrev pub line_for : ℕ → List ℕ → List Line
line_for number bytes = if has_room bytes then lines.Payload number bytes ∷ [] else []

abbrev pub begin_for : List ℕ → List ℕ
begin_for bytes = if has_room bytes then [] else bytes

-- the payloads of all slots, before these lines
abbrev pub AreTold : List (List ℕ) → List Line → List Line → List (List ℕ) → Type 0
AreTold payloads lines all begins =
    (all ≡ line_for 0 (payload_at payloads 0) ++ (line_for 1 (payload_at payloads 1) ++ (line_for 2 (payload_at payloads 2)
    ++ (line_for 3 (payload_at payloads 3) ++ lines))))
    × (begins ≡ begin_for (payload_at payloads 0) ∷ begin_for (payload_at payloads 1) ∷ begin_for (payload_at payloads 2)
    ∷ begin_for (payload_at payloads 3) ∷ [])
