-- What a move or a swap makes of a plan, or why it is refused.
use Rattle.std.specs.Prelude.{◌≡◌, ℕ, ◌+◌, ◌<◌, Some, Option, List}
use Rattle.geo_orient.specs.declared.Point.{Point}
use Rattle.edge_table.specs.declared.edge.Edge.{Edge}
use Rattle.tri_check.specs.Problems.{Problem}
use Rattle.bound_law.specs.Bounds.{input_at}
use Rattle.replay.specs.Faults.{IsFirstFault}
use Rattle.plan_law.specs.Plans.{Plan, plan_total, followed_all, swapped}
use Rattle.plan_law.specs.Books.{AreRoundsOf}
use Rattle.plan_law.specs.Worlds.{StopsAt, IsNoBetter}
use Rattle.plan_core.specs.declared.fault.SwapFault.{SwapFault}
use Rattle.plan_core.specs.declared.fault.SwapFault.TheVariants as fault
use Rattle.plan_core.specs.SwapFaults.{EndsElsewhere}
use Rattle.book_core.specs.declared.refusal.Refusal.{Refusal}
use Rattle.book_core.specs.declared.refusal.Refusal.TheVariants.{BadMove, BadSwap, NotBetter, OutOfMemory}

-- the plan after an entry is `next`, and its total is lower by so much
pub record IsLowered (plan : Plan) (after : Option Plan) (saved : ℕ) (next : Plan) : Type 0 where
  pub leads : after ≡ Some next
  pub saves : plan_total next + saved ≡ plan_total plan
  pub some : 0 < saved

-- why a move isn't made
abbrev pub IsNoMove : List Point → Plan → List Edge → Refusal → Type 0
IsNoMove points plan edges (BadMove place) = StopsAt points plan edges place
IsNoMove points plan edges (NotBetter held given) = IsNoBetter plan (followed_all points plan edges) held given
IsNoMove points plan edges OutOfMemory = Unit {0}
IsNoMove points plan edges _ = ⊥

-- the first fault of rounds that don't lead from an input to the centre
abbrev pub IsAstray : List Point → List Edge → List (List Edge) → List Edge → SwapFault → Type 0
IsAstray points input rounds centre (fault.Round f) = IsFirstFault points input rounds f
IsAstray points input rounds centre (fault.OtherEnd e) = EndsElsewhere points input rounds centre e
IsAstray points input rounds centre _ = ⊥

-- why a swap isn't made
abbrev pub IsNoSwap : Problem → Plan → ℕ → List (List Edge) → Refusal → Type 0
IsNoSwap problem plan t rounds (BadSwap f) = IsAstray problem.points (input_at problem.inputs t) rounds plan.centre f
IsNoSwap problem plan t rounds (NotBetter held given) = AreRoundsOf problem.points (input_at problem.inputs t) rounds plan.centre × IsNoBetter plan (swapped problem.points problem.inputs plan t rounds) held given
IsNoSwap problem plan t rounds OutOfMemory = Unit {0}
IsNoSwap problem plan t rounds _ = ⊥

-- a swap is made
pub record IsSwappedIn (problem : Problem) (plan : Plan) (t : ℕ) (rounds : List (List Edge)) (saved : ℕ) (next : Plan) : Type 0 where
  pub rounds_lead : AreRoundsOf problem.points (input_at problem.inputs t) rounds plan.centre
  pub lowered : IsLowered plan (swapped problem.points problem.inputs plan t rounds) saved next
