use Rattle.std.proofs.Common.{◌≡◌, [], ◌∷◌, ◌++◌, map, take}
use Rattle.plan_core.proofs.moves.add_singles.Given as goal

-- the edges so far
abbrev pub invariant-loop-e : goal.invariant-loop-e
invariant-loop-e l = l.moves ≡ l.initial.moves ++ map (λ e. e ∷ []) (take l.e-index l.e-items)
