-- A set of edges of n points has at most n * n of them, and so has what such a set counts.
use Rattle.std.proofs.Common.{◌≡◌, inl, inr, ℕ, suc, ◌+◌, ◌*◌, ◌^◌, ◌<◌, ◌≤◌, List, [], ◌∷◌, length, Contains, refl, ap, arith}
use Rattle.std.proofs.Math.Nat.{mul-le-mul_right}
use Rattle.std.proofs.lemmas.List.Sums.{count_by-le-length}
use Rattle.geo_orient.specs.declared.Point.{Point}
use Rattle.edge_table.specs.declared.edge.Edge.{Edge}
use Rattle.edge_table.specs.Edges.{IsBefore, IsAscending}
use Rattle.edge_table.proofs.Edges.{contains_here, contains_later}
use Rattle.edge_table.proofs.Ascending.{ascending_head, ascending_tail}
use Rattle.tri_theory.specs.Triangulations.{IsTriangulation}
use Rattle.tri_theory.specs.Crossings.{crosses, crossings}

module _ (n : ℕ) where
  number : Edge → ℕ
  number e = e.0 * n + e.1

  row_below : (a b : ℕ) → a < b → a * n + n ≤ b * n
  row_below a b l = let m = mul-le-mul_right {m = suc a} {n = b} n l in omega (arith, m)

  rises : (e f : Edge) → e.1 < n → IsBefore e f → number e < number f
  unfolding number
  rises e f l (inl h) = let m = row_below e.0 f.0 h in omega (arith, m)
  rises e f l (inr h) = let m : e.0 * n ≡ f.0 * n = ap (λ a. a * n) h.0 in let k = h.1 in omega (arith, m, k)

  number_below : (e : Edge) → e.0 < n → e.1 < n → number e < n * n
  unfolding number
  number_below e l k = let m = row_below e.0 n l in omega (arith, m)

  few : (es : List Edge) (k : ℕ) → IsAscending es → ((e : Edge) → Contains es e → (e.0 < n) × (e.1 < n)) → k ≤ n * n → ((e : Edge) → Contains es e → k ≤ number e) → k + length es ≤ n * n
  few [] k up small l above = omega (arith, l)
  few (e ∷ es) k up small l above =
      let s = small e (contains_here e e es refl) in
      let h = few es (suc (number e)) (ascending_tail e es up) (λ f i. small f (contains_later f e es i)) (number_below e s.0 s.1) (λ f i. rises e f s.1 (ascending_head e es up f i)) in
      let a = above e (contains_here e e es refl) in
      omega (arith, h, a)

  pub few_edges : (es : List Edge) → IsAscending es → ((e : Edge) → Contains es e → (e.0 < n) × (e.1 < n)) → length es ≤ n * n
  few_edges es up small = let h = few es 0 up small (omega arith) (λ e i. omega arith) in omega (arith, h)

-- the ends of the edges are points
pub ends_are_points : (points : List Point) (edges : List Edge) → IsTriangulation points edges → (e : Edge) → Contains edges e → (e.0 < length points) × (e.1 < length points)
ends_are_points points edges N e i = let g = N.segments e i in let a = g.low_first in let b = g.in_range in (omega (arith, a, b), b)

squared : (n k : ℕ) → n ≤ 16384 → k ≤ n * n → k < 2 ^ 32
squared n k l h = let m = mul-le-mul_right {m = n} {n = 16384} n l in omega (arith, m, h, l)

pub edges_fit : (n : ℕ) (edges : List Edge) → n ≤ 16384 → IsAscending edges → ((e : Edge) → Contains edges e → (e.0 < n) × (e.1 < n)) → length edges < 2 ^ 32
edges_fit n edges l up small = squared n (length edges) l (few_edges n edges up small)

pub crossings_fit : (points : List Point) (edges : List Edge) (e : Edge) → IsTriangulation points edges → length points ≤ 16384 → crossings points edges e < 2 ^ 32
crossings_fit points edges e N l =
    squared (length points) (crossings points edges e) l
    (let h = count_by-le-length (λ f. crosses points e f) edges in let m = few_edges (length points) edges N.ascending (λ f i. ends_are_points points edges N f i) in omega (arith, h, m))
