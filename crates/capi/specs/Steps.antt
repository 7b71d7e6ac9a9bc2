-- What handing on a step asks.
use Rattle.std.specs.Prelude.{◌≡◌, ◌<◌, ◌^◌}
use Rattle.model.specs.Answers.{follow_carries}
use Rattle.model.specs.Carried.{Said}
use Rattle.following.specs.declared.Stepped.{Stepped}

-- where a step is done its numbers fit in 63 bits
pub record Showable (s : Stepped) : Type 0 where
  pub state_fits : (follow_carries s.answer s.follower).said ≡ Said.done → s.follower.state < 2 ^ 63
  pub moves_fit : (follow_carries s.answer s.follower).said ≡ Said.done → s.follower.moves < 2 ^ 63
  pub seconds_fit : (follow_carries s.answer s.follower).said ≡ Said.done → s.follower.seconds < 2 ^ 63
