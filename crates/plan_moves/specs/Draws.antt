-- How many words a walk draws.
use Rattle.std.specs.Prelude.{◌≡◌, ℕ, zero, suc, ◌<◌, ◌≤◌, None, List, []}
use Rattle.rand_core.specs.Stream.{Stream, next_u32}
use Rattle.rand_core.specs.Steps.{first_words}
use Rattle.geo_orient.specs.declared.Point.{Point}
use Rattle.plan_law.specs.Plans.{Plan, moves}
use Rattle.plan_law.specs.Improvers.{walk}

-- what is left of a stream after so many words
abbrev pub left_after : ℕ → Stream → Stream
left_after zero words = words
left_after (suc count) words = left_after count (next_u32 words).1

-- a walk on a plan draws words, at most eight, and none where the plan has no move. With fewer words the walk finds no better plan
pub record Draws (points : List Point) (plan : Plan) (before after : Stream) : Type 0 where
  pub count : ℕ
  pub most : count ≤ 8
  pub left : after ≡ left_after count before
  pub needed : (fewer : ℕ) → fewer < count → walk points plan (first_words next_u32 fewer before) ≡ None
  pub idle : moves points plan ≡ [] → count ≡ 0
