-- `walk_entries` answers the walk over the entries' graph.
use Rattle.walking.proofs.Starts.{walked_entries}
use Rattle.walking.proofs.entered.walk_entries.Goals as goal

pub returns : goal.returns
returns c = walked_entries c.walk_along.ensures
