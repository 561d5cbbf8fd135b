-- `columns::rooms::room_number` meets its contract: the buffers have room where none is shorter than its named words.
use Rattle.std.proofs.Common.{arith}
use Rattle.tree.proofs.TestLaws.{tests}
use Rattle.pieces.specs.Opening.{room_to_open}
use Rattle.columns.proofs.rooms.room_number.Goals as goal

pub returns-then-constants-rooms : goal.returns-then-constants-rooms
unfolding room_to_open
returns-then-constants-rooms c gs ns = let r = c.rooms_of-rooms.ensures gs ns in grind (arith, tests, r.constants_are, r.copies_are, r.scratch_is, r.tables_are)

pub returns : goal.returns
unfolding room_to_open
returns c gs ns = let r = c.rooms_of-rooms.ensures gs ns in grind (arith, tests, r.constants_are, r.copies_are, r.scratch_is, r.tables_are)
