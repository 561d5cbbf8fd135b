-- How many words of each buffer a plan names, as the code counts them.
--
-- Main definitions: `Small`, `RoomsOf`.
use Rattle.std.specs.Prelude.{◌≡◌, ◌≤◌}
use Rattle.parameters.specs.Lookup.{width_of}
use Rattle.tree.specs.declared.plan.Outline.{Outline}
use Rattle.pieces.specs.Setting.{Setting, constant_room, copy_room, scratch_room, table_room}
use Rattle.columns.specs.declared.rooms.Rooms.{Rooms}

-- the numbers of a sound plan, so small that their products fit a word
pub record Small (o : Outline) : Type 0 where
  pub long : o.trace ≤ 65536
  pub columns : o.copy ≤ 64
  pub special : o.specialised ≤ 16
  pub variables : o.variables ≤ 1048576
  pub width : width_of o.lookup ≤ 16
  pub height : o.told.constants ≤ 47

-- the named words of each buffer
pub record RoomsOf (x : Setting) (r : Rooms) : Type 0 where
  pub constants_are : r.constants ≡ constant_room x
  pub copies_are : r.copies ≡ copy_room x
  pub scratch_is : r.scratch ≡ scratch_room x
  pub tables_are : r.tables ≡ table_room x
  pub small : r.constants ≤ 4194304
