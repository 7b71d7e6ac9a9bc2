-- What an opening or a report hands on: the record after it, or a refusal, which leaves the record as it was.
use Rattle.std.specs.Prelude.{Result, Ok, Err}
use Rattle.model.specs.Following.{Report}
use Rattle.model.specs.Promises.{Answered}
use Rattle.model.specs.declared.AuditRefusal.{AuditRefusal}
use Rattle.model.specs.declared.Follower.{Follower}

abbrev pub Hands : Result Follower AuditRefusal → Follower → Report → Type 0
Hands (Ok after) w said = Answered (Ok tt) after said
Hands (Err refusal) w said = Answered (Err refusal) w said
