-- What the slots begin with, by the files that a command line names. Source: docs/SCRIPT.md, "Payload files".
use Rattle.std.specs.Prelude.{◌≡◌, ℕ, List, [], ◌∷◌, Option, None, Some, IfSome, take}

-- The payload of one slot, by its path where a file is named: the bytes there, as far as they are known, up to one more
-- than the largest RAM has.
abbrev pub IsFileOf : (List ℕ → Option (List ℕ)) → Option (List ℕ) → List ℕ → Type 0
IsFileOf bytes_at None payload = payload ≡ []
IsFileOf bytes_at (Some path) payload = IfSome (bytes_at path) (λ bytes. payload ≡ take 1048577 bytes)

-- the payloads of all slots, each by its own path
abbrev pub AreFilesOf : (List ℕ → Option (List ℕ)) → List (Option (List ℕ)) → List (List ℕ) → Type 0
AreFilesOf bytes_at [] payloads = payloads ≡ []
AreFilesOf bytes_at (path ∷ paths) [] = ⊥
AreFilesOf bytes_at (path ∷ paths) (payload ∷ more) = IsFileOf bytes_at path payload × AreFilesOf bytes_at paths more
