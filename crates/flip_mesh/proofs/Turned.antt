-- Six puts, one after the other, turn the diagonal of a quadrilateral.
use Rattle.std.proofs.Common.{◌≡◌, ◌⊎◌, inl, inr, ℕ, List, Some, Contains, refl, sym, subst}
use Rattle.side_table.specs.declared.side.Side.{Side}
use Rattle.side_table.specs.Sides.{PutsSide, side, IsWay, HasSide}
use Rattle.flip_mesh.specs.Sides.{CanTurn, IsElsewhere, IsTurned}

-- a side on another way stays
pub still : {old new : List Side} {u v : ℕ} {t : Side} → PutsSide old new u v t → (x y : ℕ) → HasSide old x y → ¬ ((x ≡ u) × (y ≡ v)) → HasSide new x y
still p x y h n = record { apex = h.apex; there = (p.members (side x y h.apex)).1 (inl (h.there, n)) }

-- and none comes but the one that is put
pub none_new : {old new : List Side} {u v : ℕ} {t : Side} → PutsSide old new u v t → (x y : ℕ) → ¬ HasSide old x y → ¬ IsWay t x y → ¬ HasSide new x y
none_new {old} {new} {u} {v} {t} p x y n m h = by_cases ((p.members (side x y h.apex)).0 h.there)
  where
    by_cases : (Contains old (side x y h.apex) × ¬ IsWay (side x y h.apex) u v) ⊎ (side x y h.apex ≡ t) → ⊥
    by_cases (inl k) = n (record { apex = h.apex; there = k.0 })
    by_cases (inr e) = m (subst (λ s. IsWay s x y) e (refl, refl))

-- what is put is there, and what was there on another way
pub here : {old new : List Side} {u v : ℕ} {t : Side} → PutsSide old new u v t → Contains new t
here {t = t} p = (p.members t).1 (inr refl)

pub stays : {old new : List Side} {u v : ℕ} {t : Side} → PutsSide old new u v t → (s : Side) → Contains old s → ¬ IsWay s u v → Contains new s
stays p s h n = (p.members s).1 (inl (h, n))

pub turned : {s₀ s₁ s₂ s₃ s₄ s₅ s₆ : List Side} (a b c d : ℕ) → CanTurn s₀ a b c d
    → PutsSide s₀ s₁ a c (side b d (Some a)) → PutsSide s₁ s₂ c a (side d b (Some c)) → PutsSide s₂ s₃ a b (side a b (Some d))
    → PutsSide s₃ s₄ b c (side b c (Some d)) → PutsSide s₄ s₅ c d (side c d (Some b)) → PutsSide s₅ s₆ d a (side d a (Some b)) → IsTurned s₀ s₆ a b c d
turned {s₀} {s₁} {s₂} {s₃} {s₄} {s₅} {s₆} a b c d k p₁ p₂ p₃ p₄ p₅ p₆ = record {
  ordered = p₆.ordered;
  kept = λ s h e. stays p₆ s (stays p₅ s (stays p₄ s (stays p₃ s (stays p₂ s (stays p₁ s h e.ac) e.ca) e.ab) e.bc) e.cd) e.da;
  bd = stays p₆ _ (stays p₅ _ (stays p₄ _ (stays p₃ _ (stays p₂ _ (here p₁) (λ w. k.b_c w.0)) (λ w. k.a_b (sym w.0))) (λ w. k.c_d (sym w.1))) (λ w. k.b_c w.0)) (λ w. k.b_d w.0);
  db = stays p₆ _ (stays p₅ _ (stays p₄ _ (stays p₃ _ (here p₂) (λ w. k.d_a w.0)) (λ w. k.b_d (sym w.0))) (λ w. k.c_d (sym w.0))) (λ w. k.a_b (sym w.1));
  ab = stays p₆ _ (stays p₅ _ (stays p₄ _ (here p₃) (λ w. k.a_b w.0)) (λ w. k.a_c w.0)) (λ w. k.d_a (sym w.0));
  bc = stays p₆ _ (stays p₅ _ (here p₄) (λ w. k.b_c w.0)) (λ w. k.b_d w.0);
  cd = stays p₆ _ (here p₅) (λ w. k.c_d w.0);
  da = here p₆;
  split = λ s h. by₆ s ((p₆.members s).0 h);
}
  where
    Out : Side → Type 0
    Out s = (Contains s₀ s × IsElsewhere s a b c d) ⊎ ((s ≡ side b d (Some a)) ⊎ ((s ≡ side d b (Some c)) ⊎ ((s ≡ side a b (Some d)) ⊎ ((s ≡ side b c (Some d)) ⊎ ((s ≡ side c d (Some b)) ⊎ (s ≡ side d a (Some b)))))))

    by₁ : (s : Side) → ¬ IsWay s d a → ¬ IsWay s c d → ¬ IsWay s b c → ¬ IsWay s a b → ¬ IsWay s c a → (Contains s₀ s × ¬ IsWay s a c) ⊎ (s ≡ side b d (Some a)) → Out s
    by₁ s n₆ n₅ n₄ n₃ n₂ (inl h) = inl (h.0, record { ac = h.1; ca = n₂; ab = n₃; bc = n₄; cd = n₅; da = n₆ })
    by₁ s n₆ n₅ n₄ n₃ n₂ (inr e) = inr (inl e)

    by₂ : (s : Side) → ¬ IsWay s d a → ¬ IsWay s c d → ¬ IsWay s b c → ¬ IsWay s a b → (Contains s₁ s × ¬ IsWay s c a) ⊎ (s ≡ side d b (Some c)) → Out s
    by₂ s n₆ n₅ n₄ n₃ (inl h) = by₁ s n₆ n₅ n₄ n₃ h.1 ((p₁.members s).0 h.0)
    by₂ s n₆ n₅ n₄ n₃ (inr e) = inr (inr (inl e))

    by₃ : (s : Side) → ¬ IsWay s d a → ¬ IsWay s c d → ¬ IsWay s b c → (Contains s₂ s × ¬ IsWay s a b) ⊎ (s ≡ side a b (Some d)) → Out s
    by₃ s n₆ n₅ n₄ (inl h) = by₂ s n₆ n₅ n₄ h.1 ((p₂.members s).0 h.0)
    by₃ s n₆ n₅ n₄ (inr e) = inr (inr (inr (inl e)))

    by₄ : (s : Side) → ¬ IsWay s d a → ¬ IsWay s c d → (Contains s₃ s × ¬ IsWay s b c) ⊎ (s ≡ side b c (Some d)) → Out s
    by₄ s n₆ n₅ (inl h) = by₃ s n₆ n₅ h.1 ((p₃.members s).0 h.0)
    by₄ s n₆ n₅ (inr e) = inr (inr (inr (inr (inl e))))

    by₅ : (s : Side) → ¬ IsWay s d a → (Contains s₄ s × ¬ IsWay s c d) ⊎ (s ≡ side c d (Some b)) → Out s
    by₅ s n₆ (inl h) = by₄ s n₆ h.1 ((p₄.members s).0 h.0)
    by₅ s n₆ (inr e) = inr (inr (inr (inr (inr (inl e)))))

    by₆ : (s : Side) → (Contains s₅ s × ¬ IsWay s d a) ⊎ (s ≡ side d a (Some b)) → Out s
    by₆ s (inl h) = by₅ s h.1 ((p₅.members s).0 h.0)
    by₆ s (inr e) = inr (inr (inr (inr (inr (inr e)))))
