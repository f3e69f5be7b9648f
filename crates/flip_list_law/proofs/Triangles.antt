-- Triangles by their corners, and the triangles that a flip has at its edge and makes at its image.
use Rattle.std.proofs.Common.{◌≡◌, ◌⊎◌, inl, inr, ◌↔◌, ℕ, ◌≤◌, min, max, Bool, true, false, ◌&&◌, ◌||◌, ◌==◌, refl, sym, ap, ap₂, ◌∙◌, subst, arith, eqb-true, eq-eqb}
use native.Mathlib.Decide.{dec_le}
use Rattle.edge_table.specs.declared.edge.Edge.{Edge}
use Rattle.edge_table.specs.Edges.{edge}
use Rattle.flip_list_law.specs.declared.Flip.{Flip}
use Rattle.flip_list_law.specs.FlipLists.{Triangle, triangle, one_side, other_side, is_same, makes}
use Rattle.tri_theory.proofs.Flip.{Same}
use Rattle.edge_table.proofs.Edges.{pair, edge_is}
use Rattle.tri_theory.proofs.Edges.{edge_same}

triple : {a b c x y z : ℕ} → a ≡ x → b ≡ y → c ≡ z → let s : Triangle = (a, b, c) in let t : Triangle = (x, y, z) in s ≡ t
triple {a} {b} {c} {x} {y} {z} e f g = λ i. (e i, f i, g i)

pub triangle_turn : (a b c : ℕ) → triangle a b c ≡ triangle b c a
unfolding triangle
triangle_turn a b c = triple (omega arith) (omega arith) (omega arith)

pub triangle_swap : (a b c : ℕ) → triangle a b c ≡ triangle b a c
unfolding triangle
triangle_swap a b c = triple (omega arith) (omega arith) (omega arith)

-- with the same third corner, the other two are the same
cancelled : (p q r s c : ℕ) → p ≤ q → r ≤ s → min p c ≡ min r c → max p (min q c) ≡ max r (min s c) → max q c ≡ max s c → (p ≡ r) × (q ≡ s)
cancelled p q r s c h k e f g = (omega arith, omega arith)

same_rest : (x y a b c : ℕ) → triangle x y c ≡ triangle a b c → edge x y ≡ edge a b
unfolding triangle
same_rest x y a b c e =
    let both = cancelled (min x y) (max x y) (min a b) (max a b) c (omega arith) (omega arith)
    (least x y c ∙ ap (λ (t : Triangle). t.0) e ∙ sym (least a b c)) (ap (λ (t : Triangle). t.1) e) (most x y c ∙ ap (λ (t : Triangle). t.2) e ∙ sym (most a b c)) in
    pair both.0 both.1
  where
    least : (x y c : ℕ) → min (min x y) c ≡ min x (min y c)
    least x y c = omega arith

    most : (x y c : ℕ) → max (max x y) c ≡ max x (max y c)
    most x y c = omega arith

abbrev One : ℕ → ℕ → ℕ → ℕ → Type 0
One z a b c = (z ≡ a) ⊎ ((z ≡ b) ⊎ (z ≡ c))

min_is : (a b : ℕ) → (min a b ≡ a) ⊎ (min a b ≡ b)
min_is a b = by_test (dec_le a b)
  where
    by_test : Dec (a ≤ b) → (min a b ≡ a) ⊎ (min a b ≡ b)
    by_test (yes h) = inl (omega arith)
    by_test (no h) = inr (omega arith)

max_is : (a b : ℕ) → (max a b ≡ a) ⊎ (max a b ≡ b)
max_is a b = by_test (dec_le a b)
  where
    by_test : Dec (a ≤ b) → (max a b ≡ a) ⊎ (max a b ≡ b)
    by_test (yes h) = inr (omega arith)
    by_test (no h) = inl (omega arith)

-- the third corner is one of the three numbers, and each of them is a corner
corner_in : (x y z : ℕ) → One z (triangle x y z).0 (triangle x y z).1 (triangle x y z).2
unfolding triangle
corner_in x y z = by_tests (dec_le z (min x y)) (dec_le (max x y) z)
  where
    by_tests : Dec (z ≤ min x y) → Dec (max x y ≤ z) → (z ≡ min x (min y z)) ⊎ ((z ≡ max (min x y) (min (max x y) z)) ⊎ (z ≡ max x (max y z)))
    by_tests (yes h) _ = inl (omega arith)
    by_tests (no h) (yes k) = inr (inr (omega arith))
    by_tests (no h) (no k) = inr (inl (omega arith))

lowest : (a b c : ℕ) → One (min a (min b c)) a b c
lowest a b c = by_cases (min_is a (min b c)) (min_is b c)
  where
    by_cases : (min a (min b c) ≡ a) ⊎ (min a (min b c) ≡ min b c) → (min b c ≡ b) ⊎ (min b c ≡ c) → (min a (min b c) ≡ a) ⊎ ((min a (min b c) ≡ b) ⊎ (min a (min b c) ≡ c))
    by_cases (inl e) _ = inl e
    by_cases (inr e) (inl f) = inr (inl (e ∙ f))
    by_cases (inr e) (inr f) = inr (inr (e ∙ f))

highest : (a b c : ℕ) → One (max a (max b c)) a b c
highest a b c = by_cases (max_is a (max b c)) (max_is b c)
  where
    by_cases : (max a (max b c) ≡ a) ⊎ (max a (max b c) ≡ max b c) → (max b c ≡ b) ⊎ (max b c ≡ c) → (max a (max b c) ≡ a) ⊎ ((max a (max b c) ≡ b) ⊎ (max a (max b c) ≡ c))
    by_cases (inl e) _ = inl e
    by_cases (inr e) (inl f) = inr (inl (e ∙ f))
    by_cases (inr e) (inr f) = inr (inr (e ∙ f))

middle : (a b c : ℕ) → One (max (min a b) (min (max a b) c)) a b c
middle a b c = by_cases (max_is (min a b) (min (max a b) c)) (min_is a b) (min_is (max a b) c) (max_is a b)
  where
    m : ℕ
    m = max (min a b) (min (max a b) c)

    by_cases : (m ≡ min a b) ⊎ (m ≡ min (max a b) c) → (min a b ≡ a) ⊎ (min a b ≡ b) → (min (max a b) c ≡ max a b) ⊎ (min (max a b) c ≡ c) → (max a b ≡ a) ⊎ (max a b ≡ b) → (m ≡ a) ⊎ ((m ≡ b) ⊎ (m ≡ c))
    by_cases (inl e) (inl f) _ _ = inl (e ∙ f)
    by_cases (inl e) (inr f) _ _ = inr (inl (e ∙ f))
    by_cases (inr e) _ (inl f) (inl g) = inl (e ∙ f ∙ g)
    by_cases (inr e) _ (inl f) (inr g) = inr (inl (e ∙ f ∙ g))
    by_cases (inr e) _ (inr f) _ = inr (inr (e ∙ f))

third_in : (x y z a b c : ℕ) → triangle x y z ≡ triangle a b c → One z a b c
unfolding triangle
third_in x y z a b c e = by_place (corner_in x y z)
  where
    by_place : (z ≡ min x (min y z)) ⊎ ((z ≡ max (min x y) (min (max x y) z)) ⊎ (z ≡ max x (max y z))) → (z ≡ a) ⊎ ((z ≡ b) ⊎ (z ≡ c))
    by_place (inl f) = subst (λ t. One t a b c) (sym (f ∙ ap (λ (t : Triangle). t.0) e)) (lowest a b c)
    by_place (inr (inl f)) = subst (λ t. One t a b c) (sym (f ∙ ap (λ (t : Triangle). t.1) e)) (middle a b c)
    by_place (inr (inr f)) = subst (λ t. One t a b c) (sym (f ∙ ap (λ (t : Triangle). t.2) e)) (highest a b c)

-- equal triangles have the same corners: the first two of one are a side of the other
pub side_of : (x y z a b c : ℕ) → triangle x y z ≡ triangle a b c → (edge x y ≡ edge a b) ⊎ ((edge x y ≡ edge b c) ⊎ (edge x y ≡ edge c a))
side_of x y z a b c e = by_place (third_in x y z a b c e)
  where
    by_place : (z ≡ a) ⊎ ((z ≡ b) ⊎ (z ≡ c)) → (edge x y ≡ edge a b) ⊎ ((edge x y ≡ edge b c) ⊎ (edge x y ≡ edge c a))
    by_place (inl f) = inr (inl (same_rest x y b c a (ap (triangle x y) (sym f) ∙ e ∙ triangle_turn a b c)))
    by_place (inr (inl f)) = inr (inr (same_rest x y c a b (ap (triangle x y) (sym f) ∙ e ∙ triangle_turn a b c ∙ triangle_turn b c a)))
    by_place (inr (inr f)) = inl (same_rest x y a b c (ap (triangle x y) (sym f) ∙ e))

-- where the first two corners are the same edge and the third is the same, the triangles are equal
pub triangle_of_edge : (a b x y c : ℕ) → edge x y ≡ edge a b → triangle x y c ≡ triangle a b c
triangle_of_edge a b x y c e = by_same (edge_same a b x y e)
  where
    by_same : Same a b x y → triangle x y c ≡ triangle a b c
    by_same (inl s) = ap₂ (λ u v. triangle u v c) s.0 s.1
    by_same (inr s) = ap₂ (λ u v. triangle u v c) s.0 s.1 ∙ triangle_swap b a c

-- ---- tests
pub and_both : (a b : Bool) → a && b ≡ true → (a ≡ true) × (b ≡ true)
and_both true b e = (refl, e)
and_both false b e = absurd (cc)

pub or_cases : (a b : Bool) → a || b ≡ true → (a ≡ true) ⊎ (b ≡ true)
or_cases true b e = inl refl
or_cases false b e = inr e

pub or_left : (a b : Bool) → a ≡ true → a || b ≡ true
or_left true b e = refl
or_left false b e = absurd (cc)

pub or_right : (a b : Bool) → b ≡ true → a || b ≡ true
or_right true b e = refl
or_right false b e = e

pub and_true : (a b : Bool) → a ≡ true → b ≡ true → a && b ≡ true
and_true true b e f = f
and_true false b e f = absurd (cc)

pub same_means : (s t : Triangle) → is_same s t ≡ true → s ≡ t
unfolding is_same
same_means (a, b, c) (x, y, z) e =
    let h = and_both (a == x) ((b == y) && (c == z)) e in
    let k = and_both (b == y) (c == z) h.1 in
    triple (eqb-true a x h.0) (eqb-true b y k.0) (eqb-true c z k.1)

pub same_shown : (s t : Triangle) → s ≡ t → is_same s t ≡ true
unfolding is_same
same_shown s t e = and_true _ _ (eq-eqb s.0 t.0 (ap (λ (t : Triangle). t.0) e)) (and_true _ _ (eq-eqb s.1 t.1 (ap (λ (t : Triangle). t.1) e)) (eq-eqb s.2 t.2 (ap (λ (t : Triangle). t.2) e)))

-- the flip makes the triangle: what the test says
abbrev pub Makes : Flip → Triangle → Type 0
Makes flip t = (t ≡ triangle flip.image.0 flip.image.1 flip.edge.0) ⊎ (t ≡ triangle flip.image.0 flip.image.1 flip.edge.1)

pub makes_means : (flip : Flip) (t : Triangle) → makes flip t ≡ true → Makes flip t
unfolding makes
makes_means flip t e = by_cases (or_cases _ _ e)
  where
    by_cases : (is_same t (triangle flip.image.0 flip.image.1 flip.edge.0) ≡ true) ⊎ (is_same t (triangle flip.image.0 flip.image.1 flip.edge.1) ≡ true) → Makes flip t
    by_cases (inl h) = inl (same_means _ _ h)
    by_cases (inr h) = inr (same_means _ _ h)

pub makes_shown : (flip : Flip) (t : Triangle) → Makes flip t → makes flip t ≡ true
unfolding makes
makes_shown flip t (inl e) = or_left _ _ (same_shown _ _ e)
makes_shown flip t (inr e) = or_right _ _ (same_shown _ _ e)

-- the triangles at a flip's edge and image, by the corners of its quadrilateral
abbrev pub Either : Triangle → Triangle → Triangle → Triangle → Type 0
Either s t u v = ((s ≡ u) × (t ≡ v)) ⊎ ((s ≡ v) × (t ≡ u))

pub taken : (flip : Flip) (a b c d : ℕ) → flip.edge ≡ edge a c → flip.image ≡ edge b d → Either (one_side flip) (other_side flip) (triangle a c b) (triangle a c d)
taken flip a b c d e f = by_ends (edge_is b d)
  where
    at_edge : (k : ℕ) → triangle flip.edge.0 flip.edge.1 k ≡ triangle a c k
    at_edge k = by_is (edge_is a c)
      where
        by_is : (edge a c ≡ (a, c)) ⊎ (edge a c ≡ (c, a)) → triangle flip.edge.0 flip.edge.1 k ≡ triangle a c k
        by_is (inl h) = ap (λ (g : Edge). triangle g.0 g.1 k) (e ∙ h)
        by_is (inr h) = ap (λ (g : Edge). triangle g.0 g.1 k) (e ∙ h) ∙ triangle_swap c a k

    by_ends : (edge b d ≡ (b, d)) ⊎ (edge b d ≡ (d, b)) → Either (one_side flip) (other_side flip) (triangle a c b) (triangle a c d)
    by_ends (inl h) = inl (at_edge flip.image.0 ∙ ap (λ (g : Edge). triangle a c g.0) (f ∙ h), at_edge flip.image.1 ∙ ap (λ (g : Edge). triangle a c g.1) (f ∙ h))
    by_ends (inr h) = inr (at_edge flip.image.0 ∙ ap (λ (g : Edge). triangle a c g.0) (f ∙ h), at_edge flip.image.1 ∙ ap (λ (g : Edge). triangle a c g.1) (f ∙ h))

-- the flip the other way round
abbrev pub reversed : Flip → Flip
reversed flip = record { edge = flip.image; image = flip.edge }

-- what a flip makes, by the corners of its quadrilateral
pub made : (flip : Flip) (a b c d : ℕ) → flip.edge ≡ edge a c → flip.image ≡ edge b d → (t : Triangle) → Makes flip t ↔ ((t ≡ triangle b d a) ⊎ (t ≡ triangle b d c))
made flip a b c d e f t = by_either (taken (reversed flip) b a d c f e)
  where
    by_either : Either (one_side (reversed flip)) (other_side (reversed flip)) (triangle b d a) (triangle b d c) → Makes flip t ↔ ((t ≡ triangle b d a) ⊎ (t ≡ triangle b d c))
    by_either (inl h) = (elim [ inl k ↦ inl (k ∙ h.0) | inr k ↦ inr (k ∙ h.1) ], elim [ inl k ↦ inl (k ∙ sym h.0) | inr k ↦ inr (k ∙ sym h.1) ])
    by_either (inr h) = (elim [ inl k ↦ inr (k ∙ h.0) | inr k ↦ inl (k ∙ h.1) ], elim [ inl k ↦ inr (k ∙ sym h.1) | inr k ↦ inl (k ∙ sym h.0) ])
