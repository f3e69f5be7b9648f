-- The ways of a triangulation with their third corners are a faithful mesh of it.
use Rattle.std.proofs.Common.{◌≡◌, ◌∙◌, ◌⊎◌, inl, inr, ℕ, ◌+◌, ◌<◌, ◌≤◌, List, length, get_or, None, Some, Contains, refl, sym, ap, subst, arith}
use Rattle.std.proofs.lemmas.List.{get_or_default}
use native.Mathlib.Decide.{ℕ_discrete}
use Rattle.geo_orient.specs.declared.Point.{Point}
use Rattle.edge_table.specs.declared.edge.Edge.{Edge}
use Rattle.edge_table.specs.Edges.{edge, IsAscending, AddsEdge}
use Rattle.edge_table.proofs.Edges.{edge_of}
use Rattle.edge_table.proofs.Ascending.{same_members}
use Rattle.tri_theory.specs.Points.{IsLeft}
use Rattle.tri_theory.specs.Triangulations.{AreJoined, IsEmptyTriangle}
use Rattle.tri_theory.proofs.Edges.{joined_swap}
use Rattle.tri_theory.proofs.Net.{Net}
use Rattle.tri_theory.proofs.Lists.{plane, net_of}
use Rattle.tri_check.specs.Layouts.{Layout, IsTriangulated}
use Rattle.side_table.specs.declared.side.Side.{Side}
use Rattle.side_table.specs.Sides.{side, HasSide, IsOrderedSides}
use Rattle.flip_mesh.specs.Sides.{edges_of}
use Rattle.flip_mesh.specs.Faithful.{IsFaithful}
use Rattle.flip_mesh.specs.Build.{AreWays, HaveApexes, AddsForward}
use Rattle.flip_mesh.proofs.Meshes.{edges_from, edges_to, edges_ascending}
use Rattle.flip_mesh.proofs.Built.{way_there}

module _ (points : List Point) (edges : List Edge) (ss : List Side) (I : IsTriangulated points edges) (W : AreWays ss edges) where
  N : Net (plane points I.placed) (AreJoined edges)
  N = net_of points I.placed edges I.triangulation

  pub edges_are : edges_of ss ≡ edges
  edges_are = same_members (edges_of ss) edges (edges_ascending ss W.ordered) I.triangulation.ascending (λ e. (from e, to e))
    where
      from : (e : Edge) → Contains (edges_of ss) e → Contains edges e
      from e k = let p = edges_from ss e k in subst (Contains edges) (edge_of e p.1) (W.joined e.0 e.1 p.0)

      to : (e : Edge) → Contains edges e → Contains (edges_of ss) e
      to e k = let h = (W.there e k).0 in edges_to ss e.0 e.1 h.apex h.there (I.triangulation.segments e k).low_first

  pub is_faithful : HaveApexes points edges ss → IsFaithful points ss
  is_faithful A = record {
    triangulated = subst (IsTriangulated points) (sym edges_are) I;
    ordered = W.ordered;
    apart = λ u h. N.apart (W.joined u u h) refl;
    both = λ u v h. way_there points edges ss I W v u (joined_swap edges u v (W.joined u v h));
    sound = λ u v w h. subst (λ T. IsEmptyTriangle points T u v w) (sym edges_are) (A (side u v (Some w)) h);
    bare = λ u v p h r l. bare u v p h r l;
  }
    where
      none : (u v : ℕ) → ((w : ℕ) → ¬ IsEmptyTriangle points edges u v w) → ¬ ((w : ℕ) × IsEmptyTriangle points edges u v w)
      none u v n (w, t) = n w t

      bare : (u v p : ℕ) → Contains ss (side u v None) → p < length points → ¬ IsLeft points u v p
      bare u v p h r l = none u v (A (side u v None) h) (I.triangulation.sides u v p (W.joined u v (record { apex = None; there = h })) r l)

-- the same for a mesh whose parts are read through equations
pub made : (value : Layout) (points : List Point) (ss read : List Side) → points ≡ value.points → read ≡ ss → IsTriangulated value.points value.edges → AreWays ss value.edges → HaveApexes value.points value.edges ss → IsFaithful points read
made value points ss read e f I W A =
    subst (λ ps. IsFaithful ps read) (sym e) (subst (IsFaithful value.points) (sym f) (is_faithful value.points value.edges ss I W A))

pub seen : (value : Layout) (points : List Point) (ss read : List Side) → points ≡ value.points → read ≡ ss → IsTriangulated value.points value.edges → AreWays ss value.edges → let v : Layout = record { points = points; edges = edges_of read } in v ≡ value
seen value points ss read e f I W = λ i. record { points = e i; edges = (ap_edges ∙ edges_are value.points value.edges ss I W) i }
  where
    ap_edges : edges_of read ≡ edges_of ss
    ap_edges = λ i. edges_of (f i)

-- ---- the edges of a mesh are collected from its sides
pub forward_added : (old new : List Edge) (s : Side) (e : Edge) → s.from < s.to → e ≡ edge s.from s.to → AddsEdge old new e → AddsForward old new s
forward_added old new s e l is a = record {
  kept = λ f h. (a f).1 (inl h);
  added = λ _. subst (Contains new) at ((a e).1 (inr refl));
  only = λ f h. by_cases f ((a f).0 h);
}
  where
    at : e ≡ (s.from, s.to)
    at = is ∙ edge_of (s.from, s.to) l

    by_cases : (f : Edge) → Contains old f ⊎ (f ≡ e) → Contains old f ⊎ ((s.from < s.to) × (f ≡ (s.from, s.to)))
    by_cases f (inl h) = inl h
    by_cases f (inr h) = inr (l, h ∙ at)

-- what is read at a place
pub read_at : (ss : List Side) (i : ℕ) (s : Side) → i < length ss → s ≡ get_or ss i s → (d : Side) → get_or ss i d ≡ s
read_at ss i s l e d = get_or_default ss i d s l ∙ sym e

-- the edges of the sides before a place are there
abbrev pub AreThere : List Side → List Edge → ℕ → Type 0
AreThere ss es i = (k : ℕ) (d : Side) → k < i → (get_or ss k d).from < (get_or ss k d).to → Contains es ((get_or ss k d).from, (get_or ss k d).to)

pub members_still : (ss : List Side) (es new : List Edge) (s : Side) (i : ℕ) → i < length ss → ((d : Side) → get_or ss i d ≡ s) → AddsForward es new s
    → ((e : Edge) → Contains es e → Contains (edges_of ss) e) → (e : Edge) → Contains new e → Contains (edges_of ss) e
members_still ss es new s i l at a m e h = by_cases (a.only e h)
  where
    by_cases : Contains es e ⊎ ((s.from < s.to) × (e ≡ (s.from, s.to))) → Contains (edges_of ss) e
    by_cases (inl k) = m e k
    by_cases (inr k) = subst (Contains (edges_of ss)) (sym k.1) (edges_to ss s.from s.to s.apex (i, l, at s) k.0)

pub all_more : (ss : List Side) (es new : List Edge) (s : Side) (i : ℕ) → ((d : Side) → get_or ss i d ≡ s) → AddsForward es new s → AreThere ss es i → AreThere ss new (i + 1)
all_more ss es new s i at a all k d m = by_test (ℕ_discrete k i)
  where
    by_test : Dec (k ≡ i) → (get_or ss k d).from < (get_or ss k d).to → Contains new ((get_or ss k d).from, (get_or ss k d).to)
    by_test (no n) l = a.kept _ (all k d (omega arith) l)
    by_test (yes q) l =
        let same : get_or ss k d ≡ s = ap (λ j. get_or ss j d) q ∙ at d in
        subst (λ (r : Side). Contains new (r.from, r.to)) (sym same) (a.added (subst (λ (r : Side). r.from < r.to) same l))

pub collected : (ss : List Side) (es : List Edge) (i : ℕ) → length ss ≤ i → IsOrderedSides ss → IsAscending es → ((e : Edge) → Contains es e → Contains (edges_of ss) e) → AreThere ss es i → es ≡ edges_of ss
collected ss es i l up ascending members all = same_members es (edges_of ss) ascending (edges_ascending ss up) (λ e. (members e, λ h. from e (edges_from ss e h)))
  where
    from : (e : Edge) → HasSide ss e.0 e.1 × (e.0 < e.1) → Contains es e
    from e p = by_place p.0.there
      where
        by_place : Contains ss (side e.0 e.1 p.0.apex) → Contains es e
        by_place (k, m, q) =
            subst (λ (r : Side). Contains es (r.from, r.to)) q
            (all k (side e.0 e.1 p.0.apex) (omega arith) (subst (λ (r : Side). r.from < r.to) (sym q) p.1))
