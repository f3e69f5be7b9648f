-- Chains of the flips that change one segment, in order.
use Rattle.std.specs.Prelude.{◌≡◌, ℕ, ◌+◌, ◌<◌, ◌≤◌, Bool, true, false, Option, Some, None, List, length, slice_index_or}
use Rattle.formula_law.specs.Frames.{Pair, Frame}
use Rattle.formula_parts.specs.Building.{pair_at}
use Rattle.formula_parts.specs.Lists.{edge_at}
use Rattle.pruned_cnf.specs.declared.writing.chains.Change.{Change}
use Rattle.pruned_cnf.specs.declared.writing.chains.Chain.{Chain}
use Rattle.pruned_cnf.specs.Groups.{changed, is_change_of}

-- the place of the first pair from place i on that passes the test, if one does
abbrev pub IsNext : (Pair → Bool) → List Pair → ℕ → Option ℕ → Type 0
IsNext test pairs i None = (j : ℕ) → i ≤ j → j < length pairs → test (pair_at pairs j) ≡ false
IsNext test pairs i (Some n) = (i ≤ n) × (n < length pairs) × (test (pair_at pairs n) ≡ true) × ((j : ℕ) → i ≤ j → j < n → test (pair_at pairs j) ≡ false)

-- for each segment the first flip from place i on that changes it, and for each of those flips the next that changes the same segment
pub record AreChained (F : Frame) (change : Change) (firsts nexts : List (Option ℕ)) (i : ℕ) : Type 0 where
  pub segments : length firsts ≡ length F.segments
  pub flips : length nexts ≡ length F.flips
  pub first : (e : ℕ) → e < length F.segments → IsNext (is_change_of change (edge_at F.segments e)) F.flips i (slice_index_or firsts e None)
  pub next : (n : ℕ) → i ≤ n → n < length F.flips → IsNext (is_change_of change (changed change (pair_at F.flips n))) F.flips (n + 1) (slice_index_or nexts n None)

-- those of all flips
pub record IsChain (F : Frame) (change : Change) (chain : Chain) : Type 0 where
  pub kind : chain.change ≡ change
  pub chained : AreChained F change chain.firsts.items chain.nexts.items 0
