-- `put_list` copies the listed states and ends the list: the library's copy and fill make the list that is asked.
use Rattle.std.proofs.Common.{rules}
use Rattle.solving.proofs.Filling.{list_put}
use Rattle.solving.proofs.lent.put_list.Goals as goal

pub returns : goal.returns
returns c = search (rules, list_put)
