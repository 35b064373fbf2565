-- The map that the masks of a board's code are.
use Rattle.model_board.specs.Maps.{Map}
use Rattle.model_board.specs.Masks.{map_of}
use Rattle.model_board.specs.declared.touches.TouchMap.{TouchMap}

abbrev pub map_in : TouchMap → Map
map_in masks = map_of masks
