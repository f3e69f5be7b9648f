-- All lists of an instance: their rounds together, and where they end.
use Rattle.std.proofs.Common.{◌≡◌, ◌⊎◌, inl, inr, ℕ, zero, suc, ◌+◌, ◌<◌, List, [], ◌∷◌, length, Option, None, Some, sym, subst, arith}
use native.Mathlib.Decide.{dec_lt}
use Rattle.geo_orient.specs.declared.Point.{Point}
use Rattle.edge_table.specs.declared.edge.Edge.{Edge}
use Rattle.tri_theory.specs.Rounds.{IsPlan}
use Rattle.replay.specs.Independent.{AreRoundsOf}
use Rattle.replay.specs.declared.fault.ScoreFault.{ScoreFault}
use Rattle.replay.specs.declared.fault.ScoreFault.TheVariants.{InputCount, Round, NoCommonCentre, OutOfMemory}
use Rattle.replay.specs.Scores.{LeadsTo, AllLead, HasFirstFault, EndsApart, IsScoreFault, AreAllDistinct}
use Rattle.replay.specs.Ends.{IsCentre, IsEndFault, IsApart, IsNextApart}

below_last : (k t : ℕ) → k < t + 1 → (k < t) ⊎ (k ≡ t)
below_last k t h = by_test (dec_lt k t)
  where
    by_test : Dec (k < t) → (k < t) ⊎ (k ≡ t)
    by_test (yes l) = inl l
    by_test (no nl) = inr (omega arith)

module _ (points : List Point) (inputs : List (List Edge)) (lists : List (List (List Edge))) where
  pub lead_more : (t : ℕ) (end : List Edge) → AllLead points inputs lists t → LeadsTo points inputs lists t end → AllLead points inputs lists (t + 1)
  lead_more t end L h k l = by_cases (below_last k t l)
    where
      by_cases : (k < t) ⊎ (k ≡ t) → (end : List Edge) × LeadsTo points inputs lists k end
      by_cases (inl m) = L k m
      by_cases (inr e) = (end, subst (λ k. LeadsTo points inputs lists k end) (sym e) h)

  pub apart_more : (t : ℕ) (end centre : List Edge) (old new : Option ℕ) → LeadsTo points inputs lists t end → LeadsTo points inputs lists 0 centre → IsApart points inputs lists t centre old → IsNextApart old t end centre new → IsApart points inputs lists (t + 1) centre new
  apart_more t end centre (Some s) new h first A e = subst (IsApart points inputs lists (t + 1) centre) (sym e) A
  apart_more t end centre None None h first A e = λ k l. by_cases k (below_last k t l)
    where
      by_cases : (k : ℕ) → (k < t) ⊎ (k ≡ t) → LeadsTo points inputs lists k centre
      by_cases k (inl m) = A k m
      by_cases k (inr i) = subst (λ k. LeadsTo points inputs lists k centre) (sym i) (subst (LeadsTo points inputs lists t) e h)
  apart_more t end centre None (Some s) h first A e =
      subst (EndsApart points inputs lists) (sym e.0) (record { centre = centre; first = first; before = A; end = end; here = h; apart = e.1 })

-- the fault of a list after lists that lead somewhere
pub end_fault_first : (points : List Point) (inputs : List (List Edge)) (lists : List (List (List Edge))) (t : ℕ) (fault : ScoreFault) → length lists ≡ length inputs → AllLead points inputs lists t → IsEndFault points inputs lists t fault → IsScoreFault points inputs lists fault
end_fault_first points inputs lists t (InputCount said is) e L h = absurd h
end_fault_first points inputs lists t (Round k fault) e L h = (e, subst (AllLead points inputs lists) (sym h.0) L, subst (λ k. HasFirstFault points inputs lists k fault) (sym h.0) h.1)
end_fault_first points inputs lists t (NoCommonCentre k) e L h = absurd h
end_fault_first points inputs lists t OutOfMemory e L h = tt

later : (points : List Point) (input : List Edge) (rounds : List (List Edge)) (inputs : List (List Edge)) (lists : List (List (List Edge))) (k : ℕ) (end : List Edge) → LeadsTo points (input ∷ inputs) (rounds ∷ lists) (suc k) end → LeadsTo points inputs lists k end
later points input rounds inputs lists k end h = record { input = h.input; rounds = h.rounds; input_there = h.input_there; rounds_there = h.rounds_there; leads = h.leads }

same_some : {X : Type 0} (x y : X) → Some x ≡ Some y → x ≡ y
same_some x y e = cc

-- lists that all lead to the centre
pub all_to_centre : (points : List Point) (inputs : List (List Edge)) (lists : List (List (List Edge))) (centre : List Edge) → length lists ≡ length inputs → ((k : ℕ) → k < length inputs → LeadsTo points inputs lists k centre) → IsCentre points inputs lists centre
all_to_centre points [] [] centre e h = tt
all_to_centre points [] (rounds ∷ lists) centre e h = absurd (omega arith)
all_to_centre points (input ∷ inputs) [] centre e h = absurd (omega arith)
all_to_centre points (input ∷ inputs) (rounds ∷ lists) centre e h =
    (here (h 0 (omega arith)), all_to_centre points inputs lists centre (omega arith) (λ k l. later points input rounds inputs lists k centre (h (suc k) (omega arith))))
  where
    here : LeadsTo points (input ∷ inputs) (rounds ∷ lists) 0 centre → AreRoundsOf points input rounds centre
    here s = subst (λ i. AreRoundsOf points i rounds centre) (sym (same_some input s.input s.input_there)) (subst (λ r. AreRoundsOf points s.input r centre) (sym (same_some rounds s.rounds s.rounds_there)) s.leads)

pub centre_plan : (points : List Point) (inputs : List (List Edge)) (lists : List (List (List Edge))) (centre : List Edge) → IsCentre points inputs lists centre → IsPlan points inputs centre lists
centre_plan points [] [] centre h = tt
centre_plan points [] (rounds ∷ lists) centre h = h
centre_plan points (input ∷ inputs) [] centre h = h
centre_plan points (input ∷ inputs) (rounds ∷ lists) centre h = (h.0.leads, centre_plan points inputs lists centre h.1)

pub centre_distinct : (points : List Point) (inputs : List (List Edge)) (lists : List (List (List Edge))) (centre : List Edge) → IsCentre points inputs lists centre → AreAllDistinct lists
centre_distinct points [] [] centre h k d l = absurd (omega arith)
centre_distinct points [] (rounds ∷ lists) centre h k d l = absurd h
centre_distinct points (input ∷ inputs) [] centre h k d l = absurd h
centre_distinct points (input ∷ inputs) (rounds ∷ lists) centre h zero d l = h.0.distinct
centre_distinct points (input ∷ inputs) (rounds ∷ lists) centre h (suc k) d l = centre_distinct points inputs lists centre h.1 k d (omega arith)
