-- The edges of a round, taken one after the other.
use Rattle.std.proofs.Common.{◌≡◌, ◌≢◌, ◌⊎◌, inl, inr, ◌∙◌, ℕ, zero, suc, ◌<◌, List, [], ◌∷◌, ◌++◌, length, get_or, take, Contains, refl, sym, ap, subst, arith}
use Rattle.std.proofs.lemmas.List.Quantifiers.{all_pairs_push}
use Rattle.std.proofs.lemmas.List.Elements.{All-push, Contains-push_cases, Contains-get_or}
use Rattle.std.proofs.lemmas.Option.{slice_get_read}
use Rattle.geo_orient.specs.declared.Point.{Point}
use Rattle.edge_table.specs.declared.edge.Edge.{Edge}
use Rattle.edge_table.specs.Edges.{edge}
use Rattle.tri_theory.specs.Points.{ArePlaced}
use Rattle.tri_theory.specs.Triangulations.{AreJoined, IsEmptyTriangle, IsTriangulation}
use Rattle.tri_theory.specs.Flips.{Flips}
use Rattle.tri_theory.specs.Rounds.{IsRound}
use Rattle.tri_theory.proofs.Net.{Net}
use Rattle.tri_theory.proofs.Flip.{Same}
use Rattle.tri_theory.proofs.Edges.{edge_same}
use Rattle.tri_theory.proofs.Lists.{plane, net_of}
use Rattle.tri_theory.proofs.Schedules.{schedule_append}
use Rattle.replay.specs.Independent.{HasNoRepeats, AreIndependent, AreRoundsOf}
use Rattle.replay.specs.declared.fault.RoundFault.{RoundFault}
use Rattle.replay.specs.Faults.{IsFaultAfter, IsFaultIn, edge_at_fault}
use Rattle.replay.proofs.Lists.{no_member}
use Rattle.replay.specs.Steps.{IsEdgeTaken, AreTaken}

pub independent_none : (points : List Point) (T : List Edge) → AreIndependent points T []
independent_none points T = record { flips = λ e h. absurd (no_member e h); distinct = λ i j d l m. absurd (omega arith); apart = λ a b c t h. absurd (no_member (edge a b) h) }

module _ (points : List Point) (P : ArePlaced points) (T : List Edge) (I : IsTriangulation points T) where
  N : Net (plane points P) (AreJoined T)
  N = net_of points P T I

  -- two sides of an empty triangle are two edges
  sides_differ : (a b c : ℕ) → IsEmptyTriangle points T a b c → edge a b ≢ edge b c
  sides_differ a b c t i = by_same (edge_same a b b c (sym i))
    where
      by_same : Same a b b c → ⊥
      by_same (inl s) = N.apart t.ab (sym s.0)
      by_same (inr s) = N.apart t.ca s.1

  -- one edge more
  pub independent_more : (es : List Edge) (e : Edge) → AreIndependent points T es → IsEdgeTaken points T es e → AreIndependent points T (es ++ e ∷ [])
  independent_more es e A k = record {
    flips = λ f h. flips_by f (Contains-push_cases es e f h);
    distinct = all_pairs_push ◌≢◌ es e A.distinct (λ j d l i. k.fresh (subst (Contains es) i (Contains-get_or es j d l)));
    apart = λ a b c t h g. apart_by a b c t (Contains-push_cases es e (edge a b) h) (Contains-push_cases es e (edge b c) g);
  }
    where
      flips_by : (f : Edge) → Contains es f ⊎ (e ≡ f) → Flips points T f
      flips_by f (inl h) = A.flips f h
      flips_by f (inr i) = subst (Flips points T) i k.flips

      apart_by : (a b c : ℕ) → IsEmptyTriangle points T a b c → Contains es (edge a b) ⊎ (e ≡ edge a b) → Contains es (edge b c) ⊎ (e ≡ edge b c) → ⊥
      apart_by a b c t (inl h) (inl g) = A.apart a b c t h g
      apart_by a b c t (inl h) (inr i) = k.apart (edge a b) h (a, b, c, t, inr (inl i), inl refl)
      apart_by a b c t (inr i) (inl g) = k.apart (edge b c) g (a, b, c, t, inl i, inr (inl refl))
      apart_by a b c t (inr i) (inr j) = sides_differ a b c t (sym i ∙ j)

  pub taken_none : AreTaken points T [] []
  taken_none = record { all_taken = refl; independent = independent_none points T }

  pub taken_more : (es taken : List Edge) (e : Edge) → AreTaken points T es taken → IsEdgeTaken points T taken e → AreTaken points T (es ++ e ∷ []) (taken ++ e ∷ [])
  taken_more es taken e K k = record {
    all_taken = ap (λ l. l ++ e ∷ []) K.all_taken;
    independent = independent_more es e K.independent (subst (λ l. IsEdgeTaken points T l e) K.all_taken k);
  }

-- no round, and one round more
pub rounds_none : (points : List Point) (start now : List Edge) → start ≡ now → AreRoundsOf points start [] now
rounds_none points start now e = record { distinct = λ k d l. absurd (omega arith); leads = e }

pub rounds_more : (points : List Point) (start now next round : List Edge) (rounds : List (List Edge)) → AreRoundsOf points start rounds now → HasNoRepeats round → IsRound points now round next → AreRoundsOf points start (rounds ++ round ∷ []) next
rounds_more points start now next round rounds R up h = record {
  distinct = All-push HasNoRepeats rounds round R.distinct up;
  leads = schedule_append points start now next rounds (round ∷ []) R.leads (next, h, refl);
}

-- an edge with a fault, after those that are taken
pub fault_here : (points : List Point) (T round taken : List Edge) (i : ℕ) (e : Edge) (fault : RoundFault) → i < length round → e ≡ get_or round i e → AreTaken points T (take i round) taken → IsFaultAfter points T taken fault → edge_at_fault fault ≡ e → IsFaultIn points T round fault
fault_here points T round taken i e fault l m K h k = record {
  place = i;
  there = slice_get_read round (length round) i (edge_at_fault fault) refl l (k ∙ m ∙ same_default round i e (edge_at_fault fault) l);
  before = K.independent;
  fault_after = subst (λ es. IsFaultAfter points T es fault) K.all_taken h;
}
  where
    same_default : (es : List Edge) (i : ℕ) (d d' : Edge) → i < length es → get_or es i d ≡ get_or es i d'
    same_default [] i d d' l = absurd (omega arith)
    same_default (x ∷ xs) zero d d' l = refl
    same_default (x ∷ xs) (suc i) d d' l = same_default xs i d d' (omega arith)
