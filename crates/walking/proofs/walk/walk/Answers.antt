-- `walk` answers the model's walk: that over the graph of the picks.
use Rattle.walking.proofs.Starts.{walked_picks}
use Rattle.walking.proofs.walk.walk.Goals as goal

pub returns : goal.returns
returns c = walked_picks c.walk_along.ensures
