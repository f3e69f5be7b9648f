use Rattle.std.proofs.Common.{◌≡◌, map, take}
use Rattle.instance_json.proofs.read.points_of.Given as goal

-- the points so far have these coordinates
abbrev pub invariant-loop-i : goal.invariant-loop-i
invariant-loop-i l = (map (λ p. p.x) l.points ≡ take l.i l.xs) × (map (λ p. p.y) l.points ≡ take l.i l.ys)
