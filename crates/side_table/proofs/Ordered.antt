-- Ordered lists of sides: their fronts, their backs, and how they are put together.
use Rattle.std.proofs.Common.{◌≡◌, ◌⊎◌, inl, inr, ap, length-append, zero, suc, ◌<◌, List, [], ◌∷◌, ◌++◌, length, get_or, Contains, refl, subst, arith}
use Rattle.std.proofs.lemmas.List.Elements.{Contains-get_or, Contains-append_left, Contains-append_right, Contains-append_cases}
use Rattle.edge_table.specs.declared.edge.Edge.{Edge}
use Rattle.edge_table.specs.Edges.{IsBefore}
use Rattle.side_table.specs.declared.side.Side.{Side}
use Rattle.side_table.specs.Sides.{IsOrderedSides}

abbrev pub way : Side → Edge
way s = (s.from, s.to)

-- ---- elements
module _ {X : Type 0} where
  pub here : (s t : X) (ss : List X) → t ≡ s → Contains (t ∷ ss) s
  here s t ss h = (0, omega arith, h)

  pub later : (s t : X) (ss : List X) → Contains ss s → Contains (t ∷ ss) s
  later s t ss (k, l, h) = (suc k, omega arith, h)

  pub cases : (s t : X) (ss : List X) → Contains (t ∷ ss) s → (t ≡ s) ⊎ Contains ss s
  cases s t ss (zero, l, h) = inl h
  cases s t ss (suc k, l, h) = inr (k, omega arith, h)

pub in_front : (l m : List Side) (s : Side) → Contains l s → Contains (l ++ m) s
in_front l m s h = Contains-append_left l m s h

pub in_back : (l m : List Side) (s : Side) → Contains m s → Contains (l ++ m) s
in_back l m s h = Contains-append_right l m s h

pub in_middle : (l : List Side) (t : Side) (r : List Side) (s : Side) → t ≡ s → Contains (l ++ t ∷ r) s
in_middle l t r s h = in_back l (t ∷ r) s (here s t r h)

pub in_after : (l : List Side) (t : Side) (r : List Side) (s : Side) → Contains r s → Contains (l ++ t ∷ r) s
in_after l t r s h = in_back l (t ∷ r) s (later s t r h)

pub three_cases : (l : List Side) (t : Side) (r : List Side) (s : Side) → Contains (l ++ t ∷ r) s → Contains l s ⊎ ((t ≡ s) ⊎ Contains r s)
three_cases l t r s h = by_cases (Contains-append_cases l (t ∷ r) s h)
  where
    by_cases : Contains l s ⊎ Contains (t ∷ r) s → Contains l s ⊎ ((t ≡ s) ⊎ Contains r s)
    by_cases (inl k) = inl k
    by_cases (inr k) = inr (cases s t r k)

-- ---- order
pub tail : (s : Side) (ss : List Side) → IsOrderedSides (s ∷ ss) → IsOrderedSides ss
tail s ss up i j d h k = up (suc i) (suc j) d (omega arith) (omega arith)

pub head : (s : Side) (ss : List Side) → IsOrderedSides (s ∷ ss) → (t : Side) → Contains ss t → IsBefore (way s) (way t)
head s ss up t (k, l, h) = subst (λ t. IsBefore (way s) (way t)) h (up 0 (suc k) t (omega arith) (omega arith))

pub cons : (s : Side) (ss : List Side) → ((t : Side) → Contains ss t → IsBefore (way s) (way t)) → IsOrderedSides ss → IsOrderedSides (s ∷ ss)
cons s ss first up zero zero d h k = absurd (omega arith)
cons s ss first up zero (suc j) d h k = first (get_or ss j d) (Contains-get_or ss j d (omega arith))
cons s ss first up (suc i) zero d h k = absurd (omega arith)
cons s ss first up (suc i) (suc j) d h k = up i j d (omega arith) (omega arith)

pub front : (l m : List Side) → IsOrderedSides (l ++ m) → IsOrderedSides l
front [] m up = λ i j d h k. absurd (omega arith)
front (x ∷ l) m up = cons x l (λ t k. head x (l ++ m) up t (in_front l m t k)) (front l m (tail x (l ++ m) up))

pub back : (l m : List Side) → IsOrderedSides (l ++ m) → IsOrderedSides m
back [] m up = up
back (x ∷ l) m up = back l m (tail x (l ++ m) up)

pub across : (l m : List Side) → IsOrderedSides (l ++ m) → (s t : Side) → Contains l s → Contains m t → IsBefore (way s) (way t)
across [] m up s t (k, b, e) h = absurd (omega arith)
across (x ∷ l) m up s t g h = by_cases (across l m (tail x (l ++ m) up) s t) (cases s x l g)
  where
    by_cases : (Contains l s → Contains m t → IsBefore (way s) (way t)) → (x ≡ s) ⊎ Contains l s → IsBefore (way s) (way t)
    by_cases rec (inl e) = subst (λ y. IsBefore (way y) (way t)) e (head x (l ++ m) up t (in_back l m t h))
    by_cases rec (inr k) = rec k h

pub joined : (l m : List Side) → IsOrderedSides l → IsOrderedSides m → ((s t : Side) → Contains l s → Contains m t → IsBefore (way s) (way t)) → IsOrderedSides (l ++ m)
joined [] m up vp far = vp
joined (x ∷ l) m up vp far = cons x (l ++ m) (λ t k. by_cases t (Contains-append_cases l m t k)) (joined l m (tail x l up) vp (λ s t h k. far s t (later s x l h) k))
  where
    by_cases : (t : Side) → Contains l t ⊎ Contains m t → IsBefore (way x) (way t)
    by_cases t (inl h) = head x l up t h
    by_cases t (inr h) = far x t (here x x l refl) h

-- ---- a list round one of its sides
pub record Parts (all l : List Side) (s : Side) (r : List Side) : Type 0 where
  pub is : all ≡ l ++ s ∷ r
  pub left : IsOrderedSides l
  pub right : IsOrderedSides r
  pub below : (t : Side) → Contains l t → IsBefore (way t) (way s)
  pub above : (t : Side) → Contains r t → IsBefore (way s) (way t)

pub parts : (all l : List Side) (s : Side) (r : List Side) → all ≡ l ++ s ∷ r → IsOrderedSides all → Parts all l s r
parts all l s r e up =
    let vp : IsOrderedSides (l ++ s ∷ r) = subst IsOrderedSides e up in
    record {
      is = e;
      left = front l (s ∷ r) vp;
      right = tail s r (back l (s ∷ r) vp);
      below = λ t h. across l (s ∷ r) vp t s h (here s s r refl);
      above = λ t h. head s r (back l (s ∷ r) vp) t h;
    }

pub shorter : (all l : List Side) (s : Side) (r : List Side) → all ≡ l ++ s ∷ r → (length l < length all) × (length r < length all)
shorter all l s r e = let f : length all ≡ length (l ++ s ∷ r) = ap (λ (ss : List Side). length ss) e in let g = length-append l (s ∷ r) in (omega arith, omega arith)
