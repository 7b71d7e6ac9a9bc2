-- `large_index` has room for as many rows as a file can have.
use Rattle.reading.specs.Room.{large_room}
use Rattle.reading.proofs.index.large_index.Goals as goal

pub returns : goal.returns
returns c = large_room
