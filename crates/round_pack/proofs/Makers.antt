-- The scan for the flip that last made a triangle.
use Rattle.std.proofs.Common.{◌≡◌, ◌∙◌, inl, inr, min, max, ℕ, suc, ◌<◌, Bool, true, false, ◌&&◌, ◌||◌, ◌==◌, cond, Option, Some, None, List, [], ◌∷◌, length, refl, sym, ap, arith, eq-eqb, eqb-true}
use native.Mathlib.Decide.{dec_lt}
use Rattle.flip_list_law.specs.declared.Flip.{Flip}
use Rattle.flip_list_law.specs.FlipLists.{Triangle, triangle, is_same, makes, last_maker}
use Rattle.flip_list_law.proofs.Triangles.{makes_means}

pub or_by_first : (a b : Bool) → a ≡ true → a ≡ a || b
or_by_first true b h = refl
or_by_first false b h = absurd (cc)

pub or_by_second : (a b : Bool) → a ≡ false → b ≡ a || b
or_by_second true b h = absurd (cc)
or_by_second false b h = refl

and_by_first : (a b : Bool) → a ≡ true → b ≡ a && b
and_by_first true b h = refl
and_by_first false b h = absurd (cc)

and_false : (a b : Bool) → (a ≡ true → ⊥) → a ≡ a && b
and_false true b h = absurd (h refl)
and_false false b h = refl

-- the test of equal triangles, corner by corner
pub same_by_high : (s t : Triangle) → s.0 ≡ t.0 → s.1 ≡ t.1 → (s.2 == t.2) ≡ is_same s t
unfolding is_same
same_by_high s t h k = and_by_first (s.1 == t.1) (s.2 == t.2) (eq-eqb _ _ k) ∙ and_by_first (s.0 == t.0) ((s.1 == t.1) && (s.2 == t.2)) (eq-eqb _ _ h)

pub same_by_middle : (s t : Triangle) → s.0 ≡ t.0 → (s.1 ≡ t.1 → ⊥) → (s.1 == t.1) ≡ is_same s t
unfolding is_same
same_by_middle s t h k = and_false (s.1 == t.1) (s.2 == t.2) (λ e. k (eqb-true _ _ e)) ∙ and_by_first (s.0 == t.0) ((s.1 == t.1) && (s.2 == t.2)) (eq-eqb _ _ h)

pub same_by_low : (s t : Triangle) → (s.0 ≡ t.0 → ⊥) → (s.0 == t.0) ≡ is_same s t
unfolding is_same
same_by_low s t h = and_false (s.0 == t.0) ((s.1 == t.1) && (s.2 == t.2)) (λ e. h (eqb-true _ _ e))

-- the place of a maker lies within the list
pub maker_within : (flips : List Flip) (t : Triangle) (i : ℕ) → last_maker flips t ≡ Some i → i < length flips
maker_within [] t i e = absurd (cc)
maker_within (flip ∷ flips) t i e = by_maker (last_maker flips t) (makes flip t) (maker_within flips t) e
  where
    by_test : (test : Bool) → cond test (Some 0) None ≡ Some i → i < suc (length flips)
    by_test true h = let z : 0 ≡ i = cc in omega arith
    by_test false h = absurd (cc)

    by_maker : (place : Option ℕ) (test : Bool) → ((k : ℕ) → place ≡ Some k → k < length flips) → elim place [ Some k ↦ Some (suc k) | None ↦ cond test (Some 0) None ] ≡ Some i → i < suc (length flips)
    by_maker (Some k) test h f = let l = h k refl in let z : suc k ≡ i = cc in omega arith
    by_maker None test h f = by_test test f

-- a flip whose image's lower end is neither of a triangle's two lower corners doesn't make it
pub not_made : (flip : Flip) (t : Triangle) → flip.image.0 < flip.image.1 → (flip.image.0 ≡ t.0 → ⊥) → (flip.image.0 ≡ t.1 → ⊥) → false ≡ makes flip t
unfolding triangle
not_made flip t l h k = by_test (makes flip t) refl
  where
    corner : (c : ℕ) → t ≡ triangle flip.image.0 flip.image.1 c → ⊥
    corner c e = by_order (ap (λ (s : Triangle). s.0) e) (ap (λ (s : Triangle). s.1) e) (dec_lt c flip.image.0)
      where
        by_order : t.0 ≡ min flip.image.0 (min flip.image.1 c) → t.1 ≡ max (min flip.image.0 flip.image.1) (min (max flip.image.0 flip.image.1) c) → Dec (c < flip.image.0) → ⊥
        by_order p q (yes m) = k (omega arith)
        by_order p q (no n) = h (omega arith)

    by_test : (b : Bool) → makes flip t ≡ b → false ≡ makes flip t
    by_test false e = sym e
    by_test true e = absurd (elim (makes_means flip t e) [ inl i ↦ corner _ i | inr i ↦ corner _ i ])
