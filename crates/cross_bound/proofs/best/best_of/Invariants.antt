use Rattle.std.proofs.Common.{◌≡◌, ℕ, List, ◌++◌, map, take}
use Rattle.edge_table.specs.declared.edge.Edge.{Edge}
use Rattle.tri_theory.specs.Crossings.{crossings}
use Rattle.cross_bound.specs.declared.best.Side.{Side}
use Rattle.cross_bound.specs.Best.{IsBest}
use Rattle.cross_bound.proofs.best.best_of.Given as goal

-- the best with the edges so far
abbrev pub invariant-loop-i : goal.invariant-loop-i
invariant-loop-i l =
    (f : Side × Edge → ℕ) → ((e : Edge) → f (l.fn.from, e) ≡ crossings l.other.points l.other.edges e) → (xs : List (Side × Edge)) → IsBest f xs l.fn.best → IsBest f (xs ++ map (λ e. (l.fn.from, e)) (take l.i l.own.edges)) l.best
