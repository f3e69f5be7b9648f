-- First faults of swaps are unique, and swaps have none.
use Rattle.std.proofs.Common.{◌≡◌, ◌≢◌, ◌⊎◌, inl, inr, ◌∙◌, ℕ, ◌<◌, List, [], length, take, slice_get, Contains, refl, sym, ap, ap₂, subst, arith}
use Rattle.std.proofs.lemmas.List.Elements.{Contains-get_or}
use Rattle.edge_table.specs.declared.edge.Edge.{Edge}
use Rattle.tri_theory.specs.Triangulations.{IsTriangulation}
use Rattle.tri_check.specs.Problems.{Problem, IsProblem}
use Rattle.flip_list_law.specs.FlipLists.{round_count}
use Rattle.bound_law.specs.Bounds.{input_at}
use Rattle.replay.specs.declared.fault.RoundFault.{RoundFault}
use Rattle.replay.specs.Independent.{AreRoundsOf}
use Rattle.replay.specs.Faults.{IsFirstWith, IsFirstFault}
use Rattle.replay.proofs.Unique.{same_some, found_in, found_before, apart_cases}
use Rattle.replay.proofs.ScoreLaws.{ends_are_unique, schedules_have_no_fault, first_faults_are_unique}
use Rattle.plan_law.specs.Plans.{Plan}
use Rattle.plan_core.specs.declared.fault.SwapFault.{SwapFault}
use Rattle.plan_core.specs.declared.fault.SwapFault.TheVariants.{Round, OtherEnd, NotFewer, OutOfMemory}
use Rattle.plan_core.specs.HeldPlans.{list_at}
use Rattle.plan_core.specs.SwapFaults.{IsSwapped, IsSwapFault}
use Rattle.plan_core.specs.Laws.{SwapsHaveNoFault, SwapFaultsAreUnique}

first_once : (P : Edge → Type 0) (es : List Edge) (e f : Edge) → IsFirstWith P es e → IsFirstWith P es f → e ≡ f
first_once P es e f A B = by_cases (apart_cases A.place B.place)
  where
    by_cases : (A.place < B.place) ⊎ ((A.place ≡ B.place) ⊎ (B.place < A.place)) → e ≡ f
    by_cases (inl l) = absurd (B.first e (found_in (take B.place es) A.place e (found_before es A.place B.place e l A.there)) A.holds)
    by_cases (inr (inl q)) = same_some e f (sym A.there ∙ (ap (slice_get es) q ∙ B.there))
    by_cases (inr (inr l)) = absurd (A.first f (found_in (take A.place es) B.place f (found_before es B.place A.place f l B.there)) B.holds)

module _ (problem : Problem) (plan : Plan) (t : ℕ) (rounds : List (List Edge)) (I : IsProblem problem.points problem.inputs) (h : t < length problem.inputs) where
  abbrev input : List Edge
  input = input_at problem.inputs t

  whole : IsTriangulation problem.points input
  whole = I.triangulated input (Contains-get_or problem.inputs t [] h)

  faultless : (fault : RoundFault) (to : List Edge) → AreRoundsOf problem.points input rounds to → ¬ IsFirstFault problem.points input rounds fault
  faultless fault to R F = schedules_have_no_fault problem.points input to rounds fault I.placed whole R F

  not_outside : (e : Edge) (end : List Edge) → AreRoundsOf problem.points input rounds end → AreRoundsOf problem.points input rounds plan.centre → ¬ IsFirstWith (λ f. ¬ Contains plan.centre f) end e
  not_outside e end R S F = F.holds (subst (λ es. Contains es e) (ends_are_unique problem.points input rounds end plan.centre R S) (found_in end F.place e F.there))

  one_next : (a b : Plan) → IsSwapped problem plan t rounds a → IsSwapped problem plan t rounds b → a ≡ b
  one_next a b A B = same_some a b (sym A.swapped ∙ B.swapped)

  pub unique : (f g : SwapFault) → f ≢ OutOfMemory → g ≢ OutOfMemory → IsSwapFault problem plan t rounds f → IsSwapFault problem plan t rounds g → f ≡ g
  unique (Round a) (Round b) _ _ F G = ap Round (first_faults_are_unique problem.points input rounds a b I.placed whole F G)
  unique (Round a) (OtherEnd e) _ _ F G = absurd (faultless a G.end G.leads F)
  unique (Round a) (NotFewer held given) _ _ F G = absurd (faultless a plan.centre G.is_swapped.leads F)
  unique (Round a) OutOfMemory _ n F G = absurd (n refl)
  unique (OtherEnd e) (Round b) _ _ F G = absurd (faultless b F.end F.leads G)
  unique (OtherEnd e) (OtherEnd d) _ _ F G =
      ap OtherEnd (first_once (λ f. ¬ Contains plan.centre f) G.end e d (subst (λ es. IsFirstWith (λ f. ¬ Contains plan.centre f) es e) (ends_are_unique problem.points input rounds F.end G.end F.leads G.leads) F.outside) G.outside)
  unique (OtherEnd e) (NotFewer held given) _ _ F G = absurd (not_outside e F.end F.leads G.is_swapped.leads F.outside)
  unique (OtherEnd e) OutOfMemory _ n F G = absurd (n refl)
  unique (NotFewer held given) (Round b) _ _ F G = absurd (faultless b plan.centre F.is_swapped.leads G)
  unique (NotFewer held given) (OtherEnd d) _ _ F G = absurd (not_outside d G.end G.leads F.is_swapped.leads G.outside)
  unique (NotFewer held given) (NotFewer others than) _ _ F G =
      ap₂ NotFewer (F.held_is ∙ sym G.held_is) (F.given_is ∙ (ap (λ (p : Plan). round_count (list_at p t)) (one_next F.next G.next F.is_swapped G.is_swapped) ∙ sym G.given_is))
  unique (NotFewer held given) OutOfMemory _ n F G = absurd (n refl)
  unique OutOfMemory g n _ F G = absurd (n refl)

  pub none : (next : Plan) (fault : SwapFault) → IsSwapped problem plan t rounds next → round_count (list_at next t) < round_count (list_at plan t) → fault ≢ OutOfMemory → ¬ IsSwapFault problem plan t rounds fault
  none next (Round a) S l n F = faultless a plan.centre S.leads F
  none next (OtherEnd e) S l n F = not_outside e F.end F.leads S.leads F.outside
  none next (NotFewer held given) S l n F =
      let same = ap (λ (p : Plan). round_count (list_at p t)) (one_next F.next next F.is_swapped S) in
      let a = F.held_is in
      let b = F.given_is in
      let c = F.not_fewer in
      omega arith
  none next OutOfMemory S l n F = n refl

pub swaps_have_no_fault : SwapsHaveNoFault
swaps_have_no_fault problem plan next t rounds fault I h S l n F = none problem plan t rounds I h next fault S l n F

pub swap_faults_are_unique : SwapFaultsAreUnique
swap_faults_are_unique problem plan t rounds f g I h m n F G = unique problem plan t rounds I h f g m n F G
