-- Lists of ways, and a mesh from them.
use Rattle.std.proofs.Common.{refl, ◌≡◌, ◌∙◌, ◌⊎◌, inl, inr, ℕ, ◌+◌, ◌<◌, ◌≤◌, List, [], length, get_or, Option, None, IfSome, Contains, sym, ap, subst, subst₂, arith}
use Rattle.std.proofs.Math.ListN.{set, length-set}
use Rattle.std.proofs.lemmas.List.{get_or_default, get_or-set_same, get_or-set_other}
use Rattle.std.proofs.lemmas.List.Elements.{Contains-get_or}
use native.Mathlib.Decide.{ℕ_discrete}
use Rattle.geo_orient.specs.declared.Point.{Point}
use Rattle.edge_table.specs.declared.edge.Edge.{Edge}
use Rattle.edge_table.specs.Edges.{edge, IsBefore}
use Rattle.edge_table.proofs.Edges.{edge_is, edge_of, edge_swap}
use Rattle.tri_theory.specs.Points.{IsLeft}
use Rattle.tri_theory.specs.Triangulations.{AreJoined}
use Rattle.tri_theory.proofs.Lists.{net_of}
use Rattle.tri_check.specs.Layouts.{IsTriangulated}
use Rattle.side_table.specs.declared.side.Side.{Side}
use Rattle.side_table.specs.Sides.{side, IsWay, HasSide, IsOrderedSides, AddsSide}
use Rattle.flip_mesh.specs.Places.{IsSideAt, LiesBetween, SideBelongsAt, BeginsAt, AreBegins}
use Rattle.flip_mesh.specs.Answers.{IsApex}
use Rattle.flip_mesh.specs.Build.{AddsWay, AreWays, GoesBothWays, HaveApexes, IsCorner, IsReached, IsNoFarther, SeenFrom}
use Rattle.flip_mesh.proofs.Writes.{below_or, set_cases, set_there, set_kept}
use Rattle.side_table.proofs.Ordered.{way}
use Rattle.side_table.proofs.Parts.{way_is}
use Rattle.flip_mesh.proofs.Writes.{set_ordered}
use Rattle.flip_mesh.proofs.Places.{dec_way}
use Rattle.flip_mesh.proofs.Nearest.{nearest_apex}

pub range : (points : List Point) (edges : List Edge) → IsTriangulated points edges → (u v : ℕ) → AreJoined edges u v → (u < length points) × (v < length points)
range points edges I u v j = let N = net_of points I.placed edges I.triangulation in (N.in_range (N.symm j), N.in_range j)

-- ---- one way more
pub added : (old new : List Side) (u v : ℕ) → AddsSide old new (side u v None) → AddsWay old new u v
added old new u v h = record { ordered = h.ordered; has = λ x y. (from x y, to x y) }
  where
    by_cases : (x y : ℕ) (z : Option ℕ) → Contains old (side x y z) ⊎ (side x y z ≡ side u v None) → HasSide old x y ⊎ ((x ≡ u) × (y ≡ v))
    by_cases x y z (inl k) = inl (record { apex = z; there = k })
    by_cases x y z (inr e) = inr (ap (λ (s : Side). s.from) e, ap (λ (s : Side). s.to) e)

    from : (x y : ℕ) → HasSide new x y → HasSide old x y ⊎ ((x ≡ u) × (y ≡ v))
    from x y p = by_cases x y p.apex ((h.members (side x y p.apex)).0 p.there)

    to : (x y : ℕ) → HasSide old x y ⊎ ((x ≡ u) × (y ≡ v)) → HasSide new x y
    to x y (inl p) = record { apex = p.apex; there = (h.members (side x y p.apex)).1 (inl p.there) }
    to x y (inr w) = subst₂ (λ m n. HasSide new m n) (sym w.0) (sym w.1) (record { apex = None; there = (h.members (side u v None)).1 (inr refl) })

pub nothing_added : (ss : List Side) (u v : ℕ) → IsOrderedSides ss → HasSide ss u v → AddsWay ss ss u v
nothing_added ss u v up h = record { ordered = up; has = λ x y. (λ p. inl p, elim [ inl p ↦ p | inr w ↦ subst₂ (λ m n. HasSide ss m n) (sym w.0) (sym w.1) h ]) }

-- ---- the ways of a triangulation
pub way_there : (points : List Point) (edges : List Edge) (ss : List Side) → IsTriangulated points edges → AreWays ss edges → (u v : ℕ) → AreJoined edges u v → HasSide ss u v
way_there points edges ss I W u v j = by_cases (edge_is u v)
  where
    both : GoesBothWays ss (edge u v)
    both = W.there (edge u v) j

    by_cases : (edge u v ≡ (u, v)) ⊎ (edge u v ≡ (v, u)) → HasSide ss u v
    by_cases (inl e) = subst (λ (f : Edge). HasSide ss f.0 f.1) e both.0
    by_cases (inr e) = subst (λ (f : Edge). HasSide ss f.1 f.0) e both.1

-- ---- a point that is joined to the one end of a way, and the other end
module _ (points : List Point) (edges : List Edge) (I : IsTriangulated points edges) (u v q w : ℕ) where
  pub reached_range : AreJoined edges u v → IsReached edges u v q w → (q < length points) × (w < length points)
  reached_range j (inl h) = (let r = range points edges I u v j in let e = h.0 in omega arith, (range points edges I u w h.1).1)
  reached_range j (inr h) = (let r = range points edges I u v j in let e = h.0 in omega arith, (range points edges I v w h.1).1)

pub corner_reached : (points : List Point) (edges : List Edge) (u v q w : ℕ) → IsReached edges u v q w → AreJoined edges q w → IsLeft points u v w → IsCorner points edges u v w
corner_reached points edges u v q w (inl h) j l = record { first = h.1; second = subst (λ r. AreJoined edges r w) h.0 j; on_left = l }
corner_reached points edges u v q w (inr h) j l = record { first = subst (λ r. AreJoined edges r w) h.0 j; second = h.1; on_left = l }

pub reached_there : (points : List Point) (edges : List Edge) (ss : List Side) → IsTriangulated points edges → AreWays ss edges → (u v q w : ℕ) → IsReached edges u v q w → IsCorner points edges u v w → HasSide ss q w
reached_there points edges ss I W u v q w (inl h) k = subst (λ r. HasSide ss r w) (sym h.0) (way_there points edges ss I W v w k.second)
reached_there points edges ss I W u v q w (inr h) k = subst (λ r. HasSide ss r w) (sym h.0) (way_there points edges ss I W u w k.first)

-- ---- the sides from one point
from_on : (u : ℕ) (w : Edge) → IsBefore (u, 0) w → u ≤ w.0
from_on u w (inl h) = omega arith
from_on u w (inr h) = let e = h.0 in omega arith

below_begin : (u : ℕ) (w : Edge) → IsBefore w (u, 0) → w.0 < u
below_begin u w (inl h) = h
below_begin u w (inr h) = let l = h.1 in omega arith

pub begins_at : (ss : List Side) (u i : ℕ) → IsOrderedSides ss → IsSideAt ss u 0 i → BeginsAt ss u i
begins_at ss u i up h = record { within = let l = h.within in omega arith; below = below; after = λ k d l m. after k d l m (ℕ_discrete k i) }
  where
    here : (d : Side) → way (get_or ss i d) ≡ (u, 0)
    here d = way_is (get_or ss i d) u 0 (h.from d, h.to d)

    below : (k : ℕ) (d : Side) → k < i → (get_or ss k d).from < u
    below k d l = below_begin u (way (get_or ss k d)) (subst (IsBefore (way (get_or ss k d))) (here d) (up k i d l h.within))

    after : (k : ℕ) (d : Side) → i ≤ k → k < length ss → Dec (k ≡ i) → u ≤ (get_or ss k d).from
    after k d l m (no n) = from_on u (way (get_or ss k d)) (subst (λ w. IsBefore w (way (get_or ss k d))) (here d) (up i k d (omega arith) m))
    after k d l m (yes e) = subst (λ j. u ≤ (get_or ss j d).from) (sym e) (let f = h.from d in omega arith)

pub begins_between : (ss : List Side) (u i : ℕ) → SideBelongsAt ss u 0 i → BeginsAt ss u i
begins_between ss u i h = record { within = h.within; below = λ k d l. below_begin u (way (get_or ss k d)) (h.below k d l); after = λ k d l m. from_on u (way (get_or ss k d)) (h.above k d l m) }

-- the sides from u stand between where they begin and where those of the next point do
pub between_begins : (ss : List Side) (u v low high : ℕ) → BeginsAt ss u low → BeginsAt ss (u + 1) high → LiesBetween ss u v low high
between_begins ss u v low high B C = record {
  ordered = ordered (below_or high low);
  within = C.within;
  below = λ k d l. inl (B.below k d l);
  above = λ k d l m. inl (let a = C.after k d l m in omega arith);
}
  where
    ordered : (high < low) ⊎ (low ≤ high) → low ≤ high
    ordered (inr l) = l
    ordered (inl l) = let w = B.within in let b = B.below high (side 0 0 None) l in let a = C.after high (side 0 0 None) (omega arith) (omega arith) in absurd (omega arith)

-- as the list of places says it
pub begins_from : (ss : List Side) (points : ℕ) (begins : List ℕ) (u v : ℕ) → AreBegins ss points begins → u < points → LiesBetween ss u v (get_or begins u 0) (get_or begins (u + 1) 0)
begins_from ss points begins u v A l = between_begins ss u v (get_or begins u 0) (get_or begins (u + 1) 0) (A.begin u 0 (omega arith)) (A.begin (u + 1) 0 (omega arith))

-- the places of a list whose ways are the same
pub begins_still : (ss ts : List Side) (points : ℕ) (begins : List ℕ) → length ts ≡ length ss → ((k : ℕ) (d : Side) → k < length ss → (get_or ts k d).from ≡ (get_or ss k d).from) → AreBegins ss points begins → AreBegins ts points begins
begins_still ss ts points begins e same A = record { long = A.long; begin = λ u d l. begin_at u (get_or begins u d) (A.begin u d l) }
  where
    begin_at : (u i : ℕ) → BeginsAt ss u i → BeginsAt ts u i
    begin_at u i B = record {
      within = let w = B.within in omega arith;
      below = λ k d l. let w = B.within in let f = same k d (omega arith) in let b = B.below k d l in omega arith;
      after = λ k d l m. let f = same k d (omega arith) in let a = B.after k d l (omega arith) in omega arith;
    }

-- one more is seen
pub seen_more : (points : List Point) (edges : List Edge) (ss : List Side) (u v begin i : ℕ) (d : Side) (best next : Option ℕ) → i < length ss
    → ((x : ℕ) → IsCorner points edges u v x → IsNoFarther points u x best → IsNoFarther points u x next)
    → (IsCorner points edges u v (get_or ss i d).to → IsNoFarther points u (get_or ss i d).to next)
    → SeenFrom points edges ss u v begin i best → SeenFrom points edges ss u v begin (i + 1) next
seen_more points edges ss u v begin i d best next l keeps here seen k e b m c = by_test (ℕ_discrete k i)
  where
    by_test : Dec (k ≡ i) → IsNoFarther points u (get_or ss k e).to next
    by_test (no n) = keeps (get_or ss k e).to c (seen k e b (omega arith) c)
    by_test (yes q) =
        let same : get_or ss k e ≡ get_or ss i d = ap (λ j. get_or ss j e) q ∙ get_or_default ss i e d l in
        subst (λ (s : Side). IsNoFarther points u s.to next) (sym same) (here (subst (λ (s : Side). IsCorner points edges u v s.to) same c))

-- all are seen: the best is the third corner of the empty triangle
pub all_seen : (points : List Point) (edges : List Edge) (ss : List Side) (u v p begin end i : ℕ) (best : Option ℕ) → (p ≡ u) ⊎ (p ≡ v) → IsTriangulated points edges → AreWays ss edges → AreJoined edges u v
    → IfSome best (IsCorner points edges u v) → SeenFrom points edges ss u v begin i best → BeginsAt ss p begin → BeginsAt ss (p + 1) end → end ≤ i
    → IsApex points edges u v best
all_seen points edges ss u v p begin end i best one I W j corner seen B C le = nearest_apex points I.placed edges I.triangulation u v j best corner (λ x c. found x c (way_from x c one))
  where
    way_from : (x : ℕ) → IsCorner points edges u v x → (p ≡ u) ⊎ (p ≡ v) → HasSide ss p x
    way_from x c (inl e) = subst (λ q. HasSide ss q x) (sym e) (way_there points edges ss I W u x c.first)
    way_from x c (inr e) = subst (λ q. HasSide ss q x) (sym e) (way_there points edges ss I W v x c.second)

    found : (x : ℕ) → IsCorner points edges u v x → HasSide ss p x → IsNoFarther points u x best
    found x c h = by_place h.there
      where
        by_place : Contains ss (side p x h.apex) → IsNoFarther points u x best
        by_place (k, l, e) = subst (λ y. IsNoFarther points u y best) to (seen k (side p x h.apex) (not_below (below_or k begin)) (not_above (below_or k i)) (subst (IsCorner points edges u v) (sym to) c))
          where
            from : (get_or ss k (side p x h.apex)).from ≡ p
            from = ap (λ (r : Side). r.from) e

            to : (get_or ss k (side p x h.apex)).to ≡ x
            to = ap (λ (r : Side). r.to) e

            not_below : (k < begin) ⊎ (begin ≤ k) → begin ≤ k
            not_below (inr m) = m
            not_below (inl m) = let f = from in let b = B.below k (side p x h.apex) m in absurd (omega arith)

            not_above : (k < i) ⊎ (i ≤ k) → k < i
            not_above (inl m) = m
            not_above (inr m) = let f = from in let a = C.after k (side p x h.apex) (omega arith) l in absurd (omega arith)

-- a side between where those of a point begin and where those of the next one do is one from that point
pub from_between : (ss : List Side) (p begin end i : ℕ) (d : Side) → BeginsAt ss p begin → BeginsAt ss (p + 1) end → begin ≤ i → i < end → (get_or ss i d).from ≡ p
from_between ss p begin end i d B C l m = let w = C.within in let b = B.after i d l (omega arith) in let a = C.below i d m in omega arith

-- ---- a third corner is written
pub side_there : (ss : List Side) (i : ℕ) (d : Side) → i < length ss → HasSide ss (get_or ss i d).from (get_or ss i d).to
side_there ss i d l = record { apex = (get_or ss i d).apex; there = Contains-get_or ss i d l }

module _ (edges : List Edge) (ss : List Side) (W : AreWays ss edges) (i : ℕ) (l : i < length ss) (d : Side) (x : Option ℕ) where
  abbrev t : Side
  t = side (get_or ss i d).from (get_or ss i d).to x

  same_way : (e : Side) → way (get_or ss i e) ≡ way t
  same_way e = ap way (get_or_default ss i e d l)

  has_still : (u v : ℕ) → HasSide ss u v → HasSide (set ss i t) u v
  has_still u v h = by_test (dec_way t u v)
    where
      by_test : Dec (IsWay t u v) → HasSide (set ss i t) u v
      by_test (yes w) = subst₂ (λ m n. HasSide (set ss i t) m n) w.0 w.1 (record { apex = x; there = set_there ss t i l })
      by_test (no n) = record { apex = h.apex; there = set_kept ss t (side u v h.apex) d i h.there (λ e. n (ap (λ (s : Side). s.from) e, ap (λ (s : Side). s.to) e)) }

  has_was : (u v : ℕ) → HasSide (set ss i t) u v → HasSide ss u v
  has_was u v h = by_cases (set_cases ss t (side u v h.apex) i h.there)
    where
      by_cases : Contains ss (side u v h.apex) ⊎ (side u v h.apex ≡ t) → HasSide ss u v
      by_cases (inl k) = record { apex = h.apex; there = k }
      by_cases (inr e) = subst₂ (λ m n. HasSide ss m n) (sym (ap (λ (s : Side). s.from) e)) (sym (ap (λ (s : Side). s.to) e)) (side_there ss i d l)

  pub ways_still : AreWays (set ss i t) edges
  ways_still = record {
    ordered = set_ordered ss t i W.ordered l same_way;
    joined = λ u v h. W.joined u v (has_was u v h);
    there = λ e h. let both = W.there e h in (has_still e.0 e.1 both.0, has_still e.1 e.0 both.1);
  }

  pub done_more : (points : List Point) → IsApex points edges (get_or ss i d).from (get_or ss i d).to x
      → ((k : ℕ) (e : Side) → k < i → IsApex points edges (get_or ss k e).from (get_or ss k e).to (get_or ss k e).apex)
      → (k : ℕ) (e : Side) → k < i + 1 → IsApex points edges (get_or (set ss i t) k e).from (get_or (set ss i t) k e).to (get_or (set ss i t) k e).apex
  done_more points h done k e m = by_test (ℕ_discrete k i)
    where
      by_test : Dec (k ≡ i) → IsApex points edges (get_or (set ss i t) k e).from (get_or (set ss i t) k e).to (get_or (set ss i t) k e).apex
      by_test (yes q) = subst (λ (s : Side). IsApex points edges s.from s.to s.apex) (sym (ap (λ j. get_or (set ss i t) j e) q ∙ get_or-set_same ss i t e l)) h
      by_test (no n) = subst (λ (s : Side). IsApex points edges s.from s.to s.apex) (sym (get_or-set_other ss i k t e n)) (done k e (omega arith))

pub all_done : (points : List Point) (edges : List Edge) (ss : List Side) (i : ℕ) → length ss ≤ i
    → ((k : ℕ) (e : Side) → k < i → IsApex points edges (get_or ss k e).from (get_or ss k e).to (get_or ss k e).apex) → HaveApexes points edges ss
all_done points edges ss i l done s (k, m, e) = subst (λ (s : Side). IsApex points edges s.from s.to s.apex) e (done k s (omega arith))

-- ---- both ways of an edge are added
pub both_joined : (edges : List Edge) (s₀ s₁ s₂ : List Side) (e : Edge) (u v : ℕ) → u ≡ e.0 → v ≡ e.1 → e.0 < e.1 → Contains edges e → AddsWay s₀ s₁ u v → AddsWay s₁ s₂ v u
    → ((x y : ℕ) → HasSide s₀ x y → AreJoined edges x y) → (x y : ℕ) → HasSide s₂ x y → AreJoined edges x y
both_joined edges s₀ s₁ s₂ e u v eu ev l k a₁ a₂ old x y h = second ((a₂.has x y).0 h)
  where
    uv : AreJoined edges u v
    uv = subst₂ (λ m n. AreJoined edges m n) (sym eu) (sym ev) (subst (Contains edges) (sym (edge_of e l)) k)

    vu : AreJoined edges v u
    vu = subst (Contains edges) (edge_swap u v) uv

    first : HasSide s₀ x y ⊎ ((x ≡ u) × (y ≡ v)) → AreJoined edges x y
    first (inl p) = old x y p
    first (inr w) = subst₂ (λ m n. AreJoined edges m n) (sym w.0) (sym w.1) uv

    second : HasSide s₁ x y ⊎ ((x ≡ v) × (y ≡ u)) → AreJoined edges x y
    second (inl p) = first ((a₁.has x y).0 p)
    second (inr w) = subst₂ (λ m n. AreJoined edges m n) (sym w.0) (sym w.1) vu

pub both_there : (edges : List Edge) (s₀ s₁ s₂ : List Side) (e : Edge) (u v i : ℕ) → u ≡ e.0 → v ≡ e.1 → ((d : Edge) → get_or edges i d ≡ e) → AddsWay s₀ s₁ u v → AddsWay s₁ s₂ v u
    → ((k : ℕ) (d : Edge) → k < i → GoesBothWays s₀ (get_or edges k d)) → (k : ℕ) (d : Edge) → k < i + 1 → GoesBothWays s₂ (get_or edges k d)
both_there edges s₀ s₁ s₂ e u v i eu ev at a₁ a₂ old k d m = by_test (ℕ_discrete k i)
  where
    keeps : (x y : ℕ) → HasSide s₀ x y → HasSide s₂ x y
    keeps x y h = (a₂.has x y).1 (inl ((a₁.has x y).1 (inl h)))

    by_test : Dec (k ≡ i) → GoesBothWays s₂ (get_or edges k d)
    by_test (no n) = let h = old k d (omega arith) in (keeps _ _ h.0, keeps _ _ h.1)
    by_test (yes q) =
        subst (GoesBothWays s₂) (sym (ap (λ j. get_or edges j d) q ∙ at d))
        ((a₂.has e.0 e.1).1 (inl ((a₁.has e.0 e.1).1 (inr (sym eu, sym ev)))), (a₂.has e.1 e.0).1 (inr (sym ev, sym eu)))

-- a side that was read is written with its third corner
module _ (edges : List Edge) (ss : List Side) (W : AreWays ss edges) (i : ℕ) (l : i < length ss) (s : Side) (is : s ≡ get_or ss i s) (x : Option ℕ) where
  pub read_joined : AreJoined edges s.from s.to
  read_joined = subst (λ (r : Side). AreJoined edges r.from r.to) (sym is) (W.joined _ _ (side_there ss i s l))

  pub written_ways : AreWays (set ss i (side s.from s.to x)) edges
  written_ways = subst (λ (r : Side). AreWays (set ss i (side r.from r.to x)) edges) (sym is) (ways_still edges ss W i l s x)

  pub written_done : (points : List Point) → IsApex points edges s.from s.to x
      → ((k : ℕ) (e : Side) → k < i → IsApex points edges (get_or ss k e).from (get_or ss k e).to (get_or ss k e).apex)
      → (k : ℕ) (e : Side) → k < i + 1 → IsApex points edges (get_or (set ss i (side s.from s.to x)) k e).from (get_or (set ss i (side s.from s.to x)) k e).to (get_or (set ss i (side s.from s.to x)) k e).apex
  written_done points h done =
      subst (λ (r : Side). (k : ℕ) (e : Side) → k < i + 1 → IsApex points edges (get_or (set ss i (side r.from r.to x)) k e).from (get_or (set ss i (side r.from r.to x)) k e).to (get_or (set ss i (side r.from r.to x)) k e).apex) (sym is)
      (done_more edges ss W i l s x points (subst (λ (r : Side). IsApex points edges r.from r.to x) is h) done)

-- and the places where the sides of each point begin are as they were
pub written_begins : (ss : List Side) (points : ℕ) (i : ℕ) → i < length ss → (s : Side) → s ≡ get_or ss i s → (x : Option ℕ) (begins : List ℕ) → AreBegins ss points begins → AreBegins (set ss i (side s.from s.to x)) points begins
written_begins ss points i l s is x begins A = begins_still ss (set ss i (side s.from s.to x)) points begins (length-set ss i (side s.from s.to x)) (λ k d m. same k d (ℕ_discrete k i)) A
  where
    same : (k : ℕ) (d : Side) → Dec (k ≡ i) → (get_or (set ss i (side s.from s.to x)) k d).from ≡ (get_or ss k d).from
    same k d (no n) = ap (λ (r : Side). r.from) (get_or-set_other ss i k (side s.from s.to x) d n)
    same k d (yes q) =
        ap (λ (r : Side). r.from) (ap (λ j. get_or (set ss i (side s.from s.to x)) j d) q ∙ get_or-set_same ss i (side s.from s.to x) d l)
        ∙ ap (λ (r : Side). r.from) (is ∙ get_or_default ss i s d l ∙ ap (λ j. get_or ss j d) (sym q))

pub none_yet : (edges : List Edge) (x y : ℕ) → HasSide [] x y → AreJoined edges x y
none_yet edges x y h = absurd (none h.there)
  where
    none : Contains [] (side x y h.apex) → ⊥
    none (k, l, e) = omega arith

-- ---- the sides from one end of a way
module _ (points : List Point) (edges : List Edge) (ss : List Side) (begins : List ℕ) (I : IsTriangulated points edges) (W : AreWays ss edges) (A : AreBegins ss (length points) begins) (u v p q : ℕ) (j : AreJoined edges u v) (ends : ((p ≡ u) × (q ≡ v)) ⊎ ((p ≡ v) × (q ≡ u))) where
  pub end_in_range : p < length points
  end_in_range = by_ends ends
    where
      by_ends : ((p ≡ u) × (q ≡ v)) ⊎ ((p ≡ v) × (q ≡ u)) → p < length points
      by_ends (inl h) = let r = range points edges I u v j in let e = h.0 in omega arith
      by_ends (inr h) = let r = range points edges I u v j in let e = h.0 in omega arith

  pub end_is : (p ≡ u) ⊎ (p ≡ v)
  end_is = by_ends ends
    where
      by_ends : ((p ≡ u) × (q ≡ v)) ⊎ ((p ≡ v) × (q ≡ u)) → (p ≡ u) ⊎ (p ≡ v)
      by_ends (inl h) = inl h.0
      by_ends (inr h) = inr h.0

  pub begin_there : BeginsAt ss p (get_or begins p 0)
  begin_there = A.begin p 0 (let r = end_in_range in omega arith)

  pub end_there : BeginsAt ss (p + 1) (get_or begins (p + 1) 0)
  end_there = A.begin (p + 1) 0 (let r = end_in_range in omega arith)

  pub reached_at : (i : ℕ) (d : Side) → get_or begins p 0 ≤ i → i < get_or begins (p + 1) 0 → IsReached edges u v q (get_or ss i d).to
  reached_at i d l m = by_ends ends
    where
      joined : AreJoined edges p (get_or ss i d).to
      joined =
          subst (λ r. AreJoined edges r (get_or ss i d).to) (from_between ss p (get_or begins p 0) (get_or begins (p + 1) 0) i d begin_there end_there l m)
          (W.joined (get_or ss i d).from (get_or ss i d).to (side_there ss i d (let w = end_there.within in omega arith)))

      by_ends : ((p ≡ u) × (q ≡ v)) ⊎ ((p ≡ v) × (q ≡ u)) → IsReached edges u v q (get_or ss i d).to
      by_ends (inl h) = inl (h.1, subst (λ r. AreJoined edges r (get_or ss i d).to) h.0 joined)
      by_ends (inr h) = inr (h.1, subst (λ r. AreJoined edges r (get_or ss i d).to) h.0 joined)
