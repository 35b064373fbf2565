-- Where everything stands on a disk, by the size of the board. Numbers are sectors.
-- Source: docs/STORE.md, "The disk".
use Rattle.std.specs.Prelude.{ℕ, ◌+◌, ◌*◌}
use Rattle.board_model.specs.Shapes.{Size, places_of, area_sectors_of}

-- the sectors of a lane: each place has a header and a page's 8 sectors
abbrev pub lane_sectors : Size → ℕ
lane_sectors size = 9 * places_of size

-- the first sector of an area, 0 or 1
abbrev pub area_start : Size → ℕ → ℕ
area_start size area = 8 + area * area_sectors_of size

-- the first sector of a lane of an area
abbrev pub lane_start : Size → ℕ → ℕ → ℕ
lane_start size area lane = area_start size area + lane * lane_sectors size

-- where the header of a place of a lane stands, from the lane's first sector on; the page stands after it
abbrev pub place_start : ℕ → ℕ
place_start place = 9 * place
