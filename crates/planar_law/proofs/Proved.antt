-- Each law, proved, under its name.
use Rattle.std.proofs.Common.{◌≡◌, ◌≢◌, ◌⊎◌, inl, inr, ℕ, ◌<◌, min, max, List, length, Contains, sym, ap, ap₂, ◌∙◌, subst, arith}
use native.Mathlib.Decide.{ℕ_discrete}
use Rattle.geo_orient.specs.declared.Point.{Point}
use Rattle.edge_table.specs.declared.edge.Edge.{Edge}
use Rattle.edge_table.specs.Edges.{edge}
use Rattle.edge_table.proofs.Edges.{edge_is, dec_contains}
use Rattle.tri_theory.specs.Points.{IsLeft, Separates, ArePlaced}
use Rattle.tri_theory.specs.Triangulations.{AreJoined, IsTriangulation}
use Rattle.tri_theory.specs.Inputs.{IsHullSegment}
use Rattle.tri_theory.proofs.Plane.{Plane, left, turned, not_both, sides_of}
use Rattle.tri_theory.proofs.Edges.{joined_swap}
use Rattle.tri_theory.proofs.Lists.{plane, triangulation_of}
use Rattle.tri_theory.proofs.Net.{not_flat}
use Rattle.planar_law.specs.Patches.{IsTriangle, HasThird, IsPatched}
use Rattle.planar_law.specs.Laws.{PatchesAreTriangulations, ChainsAreHulls}
use Rattle.planar_law.proofs.Once.{Patch}
use Rattle.planar_law.proofs.Patches.{net}
use Rattle.planar_law.proofs.Halves.{way_linked, linked_way}

module _ (points : List Point) (edges : List Edge) (third : ℕ → ℕ → ℕ) (placed : ArePlaced points) (I : IsPatched points edges third) where
  abbrev S : Plane
  S = plane points placed

  abbrev J : ℕ → ℕ → Type 0
  J a b = AreJoined edges a b

  abbrev Tri : ℕ → ℕ → ℕ → Type 0
  Tri a b c = IsTriangle points edges third a b c

  in_range : (a b : ℕ) → J a b → b < length points
  in_range a b j = high (I.in_range (edge a b) j)
    where
      high : max a b < length points → b < length points
      high h = omega arith

  apart : (a b : ℕ) → J a b → a ≢ b
  apart a b j = differ (I.low_first (edge a b) j)
    where
      differ : min a b < max a b → a ≢ b
      differ h = omega arith

  next : (a b c : ℕ) → Tri a b c → Tri b c a
  next a b c t = record { turns = turned S t.turns; ab = t.bc; bc = t.ca; ca = t.ab; third_ab = t.third_bc; third_bc = t.third_ca; third_ca = t.third_ab }

  dec_left : (a b c : ℕ) → Dec (left S a b c)
  dec_left a b c = by_side (sides_of S a b c)
    where
      by_side : left S a b c ⊎ (left S b a c ⊎ (S.o a b c ≡ Rattle.std.proofs.Common.pos 0)) → Dec (left S a b c)
      by_side (inl h) = yes h
      by_side (inr (inl h)) = no (λ k. not_both S h k)
      by_side (inr (inr e)) = no (λ k. not_flat k e)

  is : (a b c : ℕ) → Dec (Tri a b c)
  is a b c = by_tests (dec_left a b c) (dec_contains edges (edge a b)) (dec_contains edges (edge b c)) (dec_contains edges (edge c a)) (ℕ_discrete (third a b) c) (ℕ_discrete (third b c) a) (ℕ_discrete (third c a) b)
    where
      by_tests : Dec (left S a b c) → Dec (J a b) → Dec (J b c) → Dec (J c a) → Dec (third a b ≡ c) → Dec (third b c ≡ a) → Dec (third c a ≡ b) → Dec (Tri a b c)
      by_tests (yes h) (yes j) (yes k) (yes l) (yes e) (yes f) (yes g) = yes (record { turns = h; ab = j; bc = k; ca = l; third_ab = e; third_bc = f; third_ca = g })
      by_tests (no n) _ _ _ _ _ _ = no (λ t. n t.turns)
      by_tests _ (no n) _ _ _ _ _ = no (λ t. n t.ab)
      by_tests _ _ (no n) _ _ _ _ = no (λ t. n t.bc)
      by_tests _ _ _ (no n) _ _ _ = no (λ t. n t.ca)
      by_tests _ _ _ _ (no n) _ _ = no (λ t. n t.third_ab)
      by_tests _ _ _ _ _ (no n) _ = no (λ t. n t.third_bc)
      by_tests _ _ _ _ _ _ (no n) = no (λ t. n t.third_ca)

  -- a member as a hull segment, and what it says of its two ways
  abbrev IsHull : ℕ → ℕ → Type 0
  IsHull a b = ((p : ℕ) → p < length points → ¬ Separates points a b p) × (((p : ℕ) → p < length points → ¬ IsLeft points a b p) ⊎ ((p : ℕ) → p < length points → ¬ IsLeft points b a p))

  abbrev Known : ℕ → ℕ → Type 0
  Known a b = (HasThird points edges third a b × HasThird points edges third b a) ⊎ (IsHull a b × (HasThird points edges third a b ⊎ HasThird points edges third b a))

  known_swap : (a b : ℕ) → Known a b → Known b a
  known_swap a b (inl (h, k)) = inl (k, h)
  known_swap a b (inr ((clear, one), some)) = inr ((λ p hp m. clear p hp (S.between_swap b a p m), other one), other some)
    where
      other : {X Y : Type 0} → X ⊎ Y → Y ⊎ X
      other (inl x) = inr x
      other (inr y) = inl y

  of_member : (e : Edge) → Contains edges e → Known e.0 e.1
  of_member e h = by_sides (I.sides e h)
    where
      by_sides : (HasThird points edges third e.0 e.1 × HasThird points edges third e.1 e.0) ⊎ (IsHullSegment points e × (HasThird points edges third e.0 e.1 ⊎ HasThird points edges third e.1 e.0)) → Known e.0 e.1
      by_sides (inl k) = inl k
      by_sides (inr (k, some)) = inr ((k.0.clear, k.1), some)

  known : (a b : ℕ) → J a b → Known a b
  known a b j = by_order (edge_is a b) (of_member (edge a b) j)
    where
      by_order : (edge a b ≡ (a, b)) ⊎ (edge a b ≡ (b, a)) → Known (min a b) (max a b) → Known a b
      by_order (inl e) k = subst (λ (g : Edge). Known g.0 g.1) e k
      by_order (inr e) k = known_swap b a (subst (λ (g : Edge). Known g.0 g.1) e k)

  full : (a b p : ℕ) → J a b → p < length points → left S a b p → (c : ℕ) × Tri a b c
  full a b p j hp h = by_known (known a b j)
    where
      by_known : Known a b → (c : ℕ) × Tri a b c
      by_known (inl (t, u)) = (third a b, t)
      by_known (inr (k, inl t)) = (third a b, t)
      by_known (inr ((clear, inl none), inr t)) = absurd (none p hp h)
      by_known (inr ((clear, inr none), inr t)) = absurd (none (third b a) (in_range a (third b a) t.bc) t.turns)

  outer : (a b : ℕ) → J a b → ((p : ℕ) → p < length points → ¬ left S a b p) → (p : ℕ) → p < length points → ¬ Separates points a b p
  outer a b j none p hp = by_known (known a b j)
    where
      by_known : Known a b → ¬ Separates points a b p
      by_known (inl (t, u)) m = none (third a b) (in_range b (third a b) t.bc) t.turns
      by_known (inr ((clear, one), some)) m = clear p hp m

  patch : Patch S J Tri
  patch = record {
    joined = λ a b. dec_contains edges (edge a b);
    symm = λ {a} {b} j. joined_swap edges a b j;
    in_range = λ {a} {b} j. in_range a b j;
    apart = λ {a} {b} j. apart a b j;
    ends = I.ends;
    is = is;
    turns = λ {a} {b} {c} t. t.turns;
    side = λ {a} {b} {c} t. t.ab;
    next = λ {a} {b} {c} t. next a b c t;
    one_third = λ {a} {b} {c} {d} t u. sym t.third_ab ∙ u.third_ab;
    full = λ {a} {b} p j hp h. full a b p j hp h;
    outer = λ {a} {b} j none p hp. outer a b j none p hp;
  }

  triangulation : IsTriangulation points edges
  triangulation = triangulation_of points placed edges I.ascending I.low_first (net S J Tri patch)

pub patches_are_triangulations : PatchesAreTriangulations
patches_are_triangulations points edges third placed I = triangulation points edges third placed I

pub chains_are_hulls : ChainsAreHulls
chains_are_hulls points keys chain a b placed reach K I = (way_linked points placed reach keys K chain I a b, linked_way points placed reach keys K chain I a b)
