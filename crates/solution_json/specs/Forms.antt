-- The solution that a text spells.
use Rattle.std.specs.Prelude.{◌≡◌, ℕ, List, Some}
use Rattle.serde_json.specs.Data.{Data}
use Rattle.serde_json.specs.Find.{as_str}
use Rattle.json_value.specs.Values.{IsText, Lists}
use Rattle.solution_json.specs.Edges.{SpellsEdge}
use Rattle.solution_json.specs.Members.{IsAt}
use Rattle.solution_json.specs.declared.solution.Solution.{Solution}
use Rattle.solution_json.specs.declared.fault.SolMember.TheVariants.{Uid, Flips}

-- the value of a text spells the solution: its name, and the edges of its rounds
pub record IsSolution (d : Data) (s : Solution) : Type 0 where
  pub uid : (v : Data) × IsAt d Uid v × (as_str v ≡ Some s.uid)
  pub lists : (v : Data) × IsAt d Flips v × Lists (Lists (Lists SpellsEdge)) v s.lists

-- the bytes spell the solution
pub record Spells (bytes : List ℕ) (s : Solution) : Type 0 where
  pub value : Data
  pub text : IsText bytes value
  pub is : IsSolution value s

-- a text spells one solution at most
abbrev pub TextsSpellOnce : Type 0
TextsSpellOnce = (bytes : List ℕ) (r s : Solution) → Spells bytes r → Spells bytes s → r ≡ s
