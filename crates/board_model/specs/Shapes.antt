-- Shapes of boards, and the numbers that are valid on one. Source: docs/ARCHITECTURE.md, "Limits"; for harts
-- and addresses also the SBI specification 2.0, chapter HSM.
use Rattle.std.specs.Prelude.{◌≡◌, ℕ, ◌+◌, ◌-◌, ◌*◌, ◌/◌, ◌%◌, ◌<◌, ◌≤◌}

-- How many harts, pages of RAM and saver lanes a board has.
pub record Size : Type 0 where
  pub harts : ℕ
  pub pages : ℕ
  pub lanes : ℕ

abbrev pub board_size : ℕ → ℕ → ℕ → Size
board_size harts pages lanes = record { harts = harts; pages = pages; lanes = lanes }

-- 1 to 8 harts, 1 to 256 pages, 1 to 4 lanes
abbrev pub IsSize : Size → Type 0
IsSize s = (1 ≤ s.harts) × (s.harts ≤ 8) × (1 ≤ s.pages) × (s.pages ≤ 256) × (1 ≤ s.lanes) × (s.lanes ≤ 4)

-- The bytes of RAM: pages of 4,096 bytes.
abbrev pub ram_bytes_of : Size → ℕ
ram_bytes_of s = 4096 * s.pages

-- An address in a RAM of so many bytes from 0x80000000 that is a multiple of 4.
abbrev pub IsAddressIn : ℕ → ℕ → Type 0
IsAddressIn bytes a = (0x80000000 ≤ a) × (a < 0x80000000 + bytes) × (a % 4 ≡ 0)

-- An address that a hart can be started or resumed at on a board of this size.
abbrev pub IsValidAddress : Size → ℕ → Type 0
IsValidAddress s a = IsAddressIn (ram_bytes_of s) a

-- The places of a lane in one area of the disk: pages by lanes, rounded up. A place keeps one page.
abbrev pub places_of : Size → ℕ
places_of s = (s.pages + s.lanes - 1) / s.lanes

-- The sectors of an area: nine for each place of each lane.
abbrev pub area_sectors_of : Size → ℕ
area_sectors_of s = 9 * s.lanes * places_of s

-- The sectors of the smallest disk for a board: eight, and two areas (docs/STORE.md).
abbrev pub sectors_of : Size → ℕ
sectors_of s = 8 + 2 * area_sectors_of s
