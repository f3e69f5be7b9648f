-- A faithful mesh: its edges, and the third corners at its sides.
use Rattle.std.proofs.Common.{◌≡◌, ◌∙◌, ◌⊎◌, inl, inr, ◌↔◌, ℕ, ◌<◌, List, [], ◌∷◌, length, Bool, true, false, cond, Option, None, Some, is_some, Contains, MatchOption, IfSome, true≢false, refl, sym, ap, subst, arith}
use Rattle.std.specs.Bool.{IsTrue}
use Rattle.std.specs.Prelude.{nat_lt}
use Rattle.std.proofs.lemmas.Bool.{ltb-true, lt-ltb}
use native.Mathlib.Decide.{dec_lt}
use Rattle.geo_orient.specs.declared.Point.{Point}
use Rattle.edge_table.specs.declared.edge.Edge.{Edge}
use Rattle.edge_table.specs.Edges.{edge, IsBefore, IsAscending}
use Rattle.edge_table.proofs.Edges.{edge_is, edge_of, edge_swap}
use Rattle.edge_table.proofs.Ascending.{ascending_cons}
use Rattle.tri_theory.specs.Triangulations.{AreJoined, IsEmptyTriangle}
use Rattle.tri_theory.proofs.Net.{Net}
use Rattle.tri_theory.proofs.Lists.{plane, net_of}
use Rattle.side_table.specs.declared.side.Side.{Side}
use Rattle.side_table.specs.Sides.{side, IsWay, HasSide, IsOrderedSides}
use Rattle.flip_mesh.specs.Sides.{edges_of}
use Rattle.flip_mesh.specs.Faithful.{IsFaithful}
use Rattle.flip_mesh.specs.Answers.{IsApex}
use Rattle.side_table.proofs.Ordered.{here, later, cases}
use Rattle.side_table.proofs.Ordered.{way, tail, head}

-- ---- the edges of a list of sides
add_to : Bool → Side → List Edge → List Edge
add_to b s es = cond b ((s.from, s.to) ∷ es) es

pub edges_from : (ss : List Side) (e : Edge) → Contains (edges_of ss) e → HasSide ss e.0 e.1 × (e.0 < e.1)
edges_from [] e (k, l, h) = absurd (omega arith)
edges_from (s ∷ ss) e h = by_test (nat_lt s.from s.to) refl (edges_from ss e) h
  where
    deeper : HasSide ss e.0 e.1 × (e.0 < e.1) → HasSide (s ∷ ss) e.0 e.1 × (e.0 < e.1)
    deeper p = (record { apex = p.0.apex; there = later (side e.0 e.1 p.0.apex) s ss p.0.there }, p.1)

    same : (s.from, s.to) ≡ e → s ≡ side e.0 e.1 s.apex
    same p = λ i. record { from = (p i).0; to = (p i).1; apex = s.apex }

    by_cases : s.from < s.to → (Contains (edges_of ss) e → HasSide ss e.0 e.1 × (e.0 < e.1)) → ((s.from, s.to) ≡ e) ⊎ Contains (edges_of ss) e → HasSide (s ∷ ss) e.0 e.1 × (e.0 < e.1)
    by_cases l rec (inl p) = (record { apex = s.apex; there = here (side e.0 e.1 s.apex) s ss (same p) }, subst (λ (f : Edge). f.0 < f.1) p l)
    by_cases l rec (inr k) = deeper (rec k)

    by_test : (b : Bool) → nat_lt s.from s.to ≡ b → (Contains (edges_of ss) e → HasSide ss e.0 e.1 × (e.0 < e.1)) → Contains (cond b ((s.from, s.to) ∷ edges_of ss) (edges_of ss)) e → HasSide (s ∷ ss) e.0 e.1 × (e.0 < e.1)
    by_test true t rec k = by_cases (ltb-true s.from s.to t) rec (cases e (s.from, s.to) (edges_of ss) k)
    by_test false t rec k = deeper (rec k)

pub edges_to : (ss : List Side) (u v : ℕ) (x : Option ℕ) → Contains ss (side u v x) → u < v → Contains (edges_of ss) (u, v)
edges_to [] u v x (k, l, h) lt = absurd (omega arith)
edges_to (s ∷ ss) u v x h lt = by_test (nat_lt s.from s.to) refl (cases (side u v x) s ss h) (λ k. edges_to ss u v x k lt)
  where
    by_test : (b : Bool) → nat_lt s.from s.to ≡ b → (s ≡ side u v x) ⊎ Contains ss (side u v x) → (Contains ss (side u v x) → Contains (edges_of ss) (u, v)) → Contains (cond b ((s.from, s.to) ∷ edges_of ss) (edges_of ss)) (u, v)
    by_test true t (inl p) rec = here (u, v) (s.from, s.to) (edges_of ss) (ap way p)
    by_test true t (inr k) rec = later (u, v) (s.from, s.to) (edges_of ss) (rec k)
    by_test false t (inl p) rec = absurd (true≢false (sym (subst (λ (z : Side). nat_lt z.from z.to ≡ true) (sym p) (lt-ltb u v lt)) ∙ t))
    by_test false t (inr k) rec = rec k

pub edges_ascending : (ss : List Side) → IsOrderedSides ss → IsAscending (edges_of ss)
edges_ascending [] up = λ i j d h k. absurd (omega arith)
edges_ascending (s ∷ ss) up = by_test (nat_lt s.from s.to) (edges_ascending ss (tail s ss up))
  where
    first : (e : Edge) → HasSide ss e.0 e.1 × (e.0 < e.1) → IsBefore (s.from, s.to) e
    first e p = head s ss up (side e.0 e.1 p.0.apex) p.0.there

    by_test : (b : Bool) → IsAscending (edges_of ss) → IsAscending (cond b ((s.from, s.to) ∷ edges_of ss) (edges_of ss))
    by_test true rest = ascending_cons (s.from, s.to) (edges_of ss) (λ e k. first e (edges_from ss e k)) rest
    by_test false rest = rest

-- ---- a faithful mesh
module _ (points : List Point) (sides : List Side) (M : IsFaithful points sides) where
  T : List Edge
  T = edges_of sides

  pub net : Net (plane points M.triangulated.placed) (AreJoined (edges_of sides))
  net = net_of points M.triangulated.placed (edges_of sides) M.triangulated.triangulation

  -- the members are the sides
  pub joined_side : (u v : ℕ) → AreJoined (edges_of sides) u v → HasSide sides u v
  joined_side u v j = by_cases (edge_is u v)
    where
      there : HasSide sides (edge u v).0 (edge u v).1
      there = (edges_from sides (edge u v) j).0

      by_cases : (edge u v ≡ (u, v)) ⊎ (edge u v ≡ (v, u)) → HasSide sides u v
      by_cases (inl e) = subst (λ (f : Edge). HasSide sides f.0 f.1) e there
      by_cases (inr e) = M.both v u (subst (λ (f : Edge). HasSide sides f.0 f.1) e there)

  pub side_joined : (u v : ℕ) → HasSide sides u v → AreJoined (edges_of sides) u v
  side_joined u v h = by_order (dec_lt u v) (dec_lt v u)
    where
      back : HasSide sides v u
      back = M.both u v h

      by_order : Dec (u < v) → Dec (v < u) → AreJoined (edges_of sides) u v
      by_order (yes l) _ = subst (Contains (edges_of sides)) (sym (edge_of (u, v) l)) (edges_to sides u v h.apex h.there l)
      by_order (no n) (yes l) = subst (Contains (edges_of sides)) (sym (edge_swap u v ∙ edge_of (v, u) l)) (edges_to sides v u back.apex back.there l)
      by_order (no n) (no m) = absurd (M.apart u (let e : v ≡ u = omega arith in subst (HasSide sides u) e h))

  pub side_apart : (u v : ℕ) → HasSide sides u v → u ≡ v → ⊥
  side_apart u v h e = M.apart u (subst (HasSide sides u) (sym e) h)

  -- whether an edge is a member
  pub has_answer : (u v : ℕ) (r : Option Side) → u < v → MatchOption r (¬ HasSide sides u v) (λ s. Contains sides s × IsWay s u v) → IsTrue (is_some r) ↔ Contains (edges_of sides) (u, v)
  has_answer u v None l h = (λ t. absurd (true≢false (sym t)), λ k. absurd (h (edges_from sides (u, v) k).0))
  has_answer u v (Some s) l h = (λ t. edges_to sides u v s.apex (subst (Contains sides) (same s h.1) h.0) l, λ k. refl)
    where
      same : (s : Side) → IsWay s u v → s ≡ side u v s.apex
      same s w = λ i. record { from = w.0 i; to = w.1 i; apex = s.apex }

  -- the third corner at a side
  pub apex_answer : (u v : ℕ) (s : Side) → Contains sides s → IsWay s u v → IsApex points (edges_of sides) u v s.apex
  apex_answer u v s h w = by_apex s.apex (subst (Contains sides) same h)
    where
      same : s ≡ side u v s.apex
      same = λ i. record { from = w.0 i; to = w.1 i; apex = s.apex }

      by_apex : (x : Option ℕ) → Contains sides (side u v x) → IsApex points (edges_of sides) u v x
      by_apex None k = λ z t. M.bare u v z k (net.in_range t.bc) t.turns
      by_apex (Some z) k = M.sound u v z k

  pub no_apex : (u v : ℕ) → ¬ HasSide sides u v → IsApex points (edges_of sides) u v None
  no_apex u v n = λ z t. n (joined_side u v t.ab)

  pub corners_in_range : (u v w : ℕ) → IsEmptyTriangle points (edges_of sides) u v w → (u < length points) × (v < length points) × (w < length points)
  corners_in_range u v w t = (net.in_range t.ca, net.in_range t.ab, net.in_range t.bc)

  pub apex_in_range : (u v : ℕ) (x : Option ℕ) → IsApex points (edges_of sides) u v x → IfSome x (λ w. (u < length points) × (v < length points) × (w < length points))
  apex_in_range u v None h = tt
  apex_in_range u v (Some w) h = corners_in_range u v w h

  -- each point has a side
  pub some_side : (u : ℕ) → u < length points → ((v : ℕ) → ¬ HasSide sides u v) → ⊥
  some_side u h n = by_end (net.ends u h)
    where
      by_end : (q : ℕ) × AreJoined (edges_of sides) u q → ⊥
      by_end (q, j) = n q (joined_side u q j)

  pub near_answer : (u : ℕ) (s : Side) → Contains sides s → s.from ≡ u → AreJoined (edges_of sides) u s.to
  near_answer u s h e = subst (λ w. AreJoined (edges_of sides) w s.to) e (side_joined s.from s.to (record { apex = s.apex; there = h }))
