-- The first place in a list of an edge with a property.
use Rattle.std.proofs.Common.{◌≡◌, ◌⊎◌, inl, inr, ◌∙◌, ℕ, ◌<◌, ◌≤◌, nat_lt, cond, Bool, true, false, List, length, get_or, take, Contains, Option, None, Some, position, refl, sym, subst, true≢false, ltb-true, arith}
use Rattle.std.proofs.lemmas.Bool.{ltb-false}
use Rattle.std.proofs.lemmas.List.{take-take, length-take, get_or-take}
use Rattle.std.proofs.lemmas.List.Sums.{fails_before_first}
use Rattle.std.proofs.lemmas.List.Quantifiers.{position-Some}
use Rattle.std.proofs.lemmas.Option.{slice_get-get_or}
use Rattle.std.specs.List.{position_or_len}
use Rattle.edge_table.specs.declared.edge.Edge.{Edge}
use Rattle.edge_table.specs.Edges.{edge, is_edge}
use Rattle.edge_table.proofs.Edges.{is_edge-Decides}
use Rattle.flip_mesh.specs.declared.mesh.Quad.{Quad}
use Rattle.replay.specs.Steps.{IsFirstAt, IsFirstPlace, IsOuterSide, earlier}
use Rattle.replay.proofs.Lists.{taken_inside}

taken_earlier : (es : List Edge) (i j : ℕ) (g : Edge) → i ≤ j → Contains (take i es) g → Contains (take j es) g
taken_earlier es i j g l h = taken_inside i (take j es) g (subst (λ xs. Contains xs g) (sym (take-take i j es l)) h)

-- the earlier of the first place with P and the first place with Q is the first place with one of them
pub earlier_first : (P Q : Edge → Type 0) (es : List Edge) (a b : Option ℕ) → IsFirstPlace P es a → IsFirstPlace Q es b → IsFirstPlace (λ f. P f ⊎ Q f) es (earlier a b)
earlier_first P Q es None None p q = λ f h. elim [ inl k ↦ p f h k | inr k ↦ q f h k ]
earlier_first P Q es None (Some j) p (f, B) = (f, record { there = B.there; holds = inr B.holds; first = λ g h. elim [ inl k ↦ p g (taken_inside j es g h) k | inr k ↦ B.first g h k ] })
earlier_first P Q es (Some i) None (f, A) q = (f, record { there = A.there; holds = inl A.holds; first = λ g h. elim [ inl k ↦ A.first g h k | inr k ↦ q g (taken_inside i es g h) k ] })
earlier_first P Q es (Some i) (Some j) (f, A) (e, B) = by_test (nat_lt i j) refl
  where
    Goal : Option ℕ → Type 0
    Goal a = IsFirstPlace (λ f. P f ⊎ Q f) es a

    later : nat_lt i j ≡ false → j ≤ i
    later t = ltb-false i j t

    by_test : (b : Bool) → nat_lt i j ≡ b → Goal (cond b (Some i) (Some j))
    by_test true t = (f, record { there = A.there; holds = inl A.holds; first = λ g h. elim [ inl k ↦ A.first g h k | inr k ↦ B.first g (taken_earlier es i j g (let l = ltb-true i j t in omega arith) h) k ] })
    by_test false t = (e, record { there = B.there; holds = inr B.holds; first = λ g h. elim [ inl k ↦ A.first g (taken_earlier es j i g (later t) h) k | inr k ↦ B.first g h k ] })

-- a test of equal edges finds the first place of an edge
pub place_first : (e : Edge) (es : List Edge) (r : Option ℕ) → position (is_edge e) es ≡ r → IsFirstPlace (λ f. f ≡ e) es r
place_first e es None p = λ f h i. missing f h i
  where
    past : (b : Bool) → nat_lt (position_or_len (is_edge e) es) (length es) ≡ b → cond b (Some (position_or_len (is_edge e) es)) None ≡ None → length es ≤ position_or_len (is_edge e) es
    past true t q = absurd (cc)
    past false t q = ltb-false (position_or_len (is_edge e) es) (length es) t

    missing : (f : Edge) → Contains es f → f ≡ e → ⊥
    missing f (k, l, h) i =
        let beyond : k < position_or_len (is_edge e) es = let m = past (nat_lt (position_or_len (is_edge e) es) (length es)) refl p in omega arith in
        true≢false (sym ((is_edge-Decides e (get_or es k f)).1 (sym (h ∙ i))) ∙ fails_before_first (is_edge e) es k f beyond)
place_first e es (Some i) p = (get_or es i e, by_place (position-Some (is_edge e) es i e p))
  where
    by_place : (i < length es) × (is_edge e (get_or es i e) ≡ true) × ((k : ℕ) → k < i → is_edge e (get_or es k e) ≡ false) → IsFirstAt (λ f. f ≡ e) es i (get_or es i e)
    by_place (l, t, n) = record {
      there = slice_get-get_or es i e l;
      holds = sym ((is_edge-Decides e (get_or es i e)).0 t);
      first = λ g (k, j, h) m. none g k j h m;
    }
      where
        none : (g : Edge) (k : ℕ) → k < length (take i es) → get_or (take i es) k g ≡ g → g ≡ e → ⊥
        none g k j h m =
            let below : k < i = let n = length-take i es in omega arith in
            true≢false (sym ((is_edge-Decides e (get_or es k g)).1 (sym (sym (get_or-take i es k g below) ∙ h ∙ m))) ∙ (position-Some (is_edge e) es i g p).2 k below)

-- the earliest of the first places of the four sides of a quadrilateral
pub side_first : (q : Quad) (es : List Edge) (ab bc cd da : Option ℕ) → IsFirstPlace (λ f. f ≡ edge q.a q.b) es ab → IsFirstPlace (λ f. f ≡ edge q.b q.c) es bc → IsFirstPlace (λ f. f ≡ edge q.c q.d) es cd → IsFirstPlace (λ f. f ≡ edge q.d q.a) es da → IsFirstPlace (IsOuterSide q) es (earlier ab (earlier bc (earlier cd da)))
side_first q es ab bc cd da h i j k =
    earlier_first (λ f. f ≡ edge q.a q.b) (λ f. (f ≡ edge q.b q.c) ⊎ ((f ≡ edge q.c q.d) ⊎ (f ≡ edge q.d q.a))) es ab (earlier bc (earlier cd da)) h
    (earlier_first (λ f. f ≡ edge q.b q.c) (λ f. (f ≡ edge q.c q.d) ⊎ (f ≡ edge q.d q.a)) es bc (earlier cd da) i (earlier_first (λ f. f ≡ edge q.c q.d) (λ f. f ≡ edge q.d q.a) es cd da j k))
