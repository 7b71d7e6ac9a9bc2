-- `small_index` has room for as many rows as are few.
use Rattle.reading.specs.Room.{small_room}
use Rattle.reading.proofs.index.small_index.Goals as goal

pub returns : goal.returns
returns c = small_room
