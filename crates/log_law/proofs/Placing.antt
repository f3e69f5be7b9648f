-- Places on the trail say what a resolution leaves.
use Rattle.std.proofs.Common.{◌≡◌, ◌≢◌, ◌⊎◌, ◌↔◌, inl, inr, ℕ, ◌<◌, None, List, [], ◌∷◌, length, Contains, refl, sym, ap, ◌∙◌, subst, arith}
use Rattle.std.specs.Prelude.{All, AllPairs}
use Rattle.std.proofs.lemmas.List.Elements.{All-contains}
use Rattle.log_law.specs.declared.Lit.{Lit}
use Rattle.log_law.specs.Clauses.{Clause, negated}
use Rattle.log_law.specs.Units.{IsLitFalse, IsFalsified}
use Rattle.log_law.specs.Trails.{Step, step_at, literals, Names, negated_at, IsTrail, Resolved, IsAsserting}
use Rattle.log_law.specs.Trails.Resolved.{begin, back}
use Rattle.log_law.proofs.Lists.{pairs_map, contains_map, map_from}
use Rattle.log_law.proofs.Values.{AreApart}
use Rattle.log_law.proofs.Steps.{lit, because, Falsifier, one_place, one_negated, falsifier, reason_falsifier}

module _ (clauses : List Clause) (trail : List Step) (level : ℕ) (T : IsTrail clauses trail level) where
  abbrev L : ℕ → Lit
  L p = lit clauses trail level T p

  abbrev AreOn : List ℕ → Type 0
  AreOn places = All (λ p. p < length trail) places

  negated_at_to : (places : List ℕ) (p : ℕ) → Contains places p → (k : Lit) → k ≡ negated (L p) → Contains (negated_at trail places) k
  negated_at_to places p h k e = subst (Contains (negated_at trail places)) (sym e) (contains_map (λ q. negated (L q)) places p h)

  negated_at_from : (places : List ℕ) (k : Lit) → Contains (negated_at trail places) k → (p : ℕ) × Contains places p × (negated (L p) ≡ k)
  negated_at_from places k h = map_from (λ q. negated (L q)) places k h

  -- the negation of a step's literal is a member exactly where its place is
  pub negated_at_member : (places : List ℕ) (p : ℕ) → AreOn places → p < length trail → Contains (negated_at trail places) (negated (L p)) ↔ Contains places p
  negated_at_member places p on b = (λ h. at (negated_at_from places (negated (L p)) h), λ h. negated_at_to places p h (negated (L p)) refl)
    where
      at : (q : ℕ) × Contains places q × (negated (L q) ≡ negated (L p)) → Contains places p
      at (q, h, e) = subst (Contains places) (one_negated clauses trail level T q p (All-contains (λ r. r < length trail) places q on h) b e) h

  -- a literal of a false clause is the negation of the step's whose variable it has
  same_step : (k : Lit) (q : ℕ) → q < length trail → k.var ≡ (L q).var → Falsifier clauses trail level T k → k ≡ negated (L q)
  same_step k q b v (r, c, f) = f ∙ ap (λ s. negated (L s)) (one_place clauses trail level T r q c b (sym (ap (λ (x : Lit). x.var) f) ∙ v))

  pub begin_places : (conflict : Clause) (places : List ℕ) → IsFalsified (literals trail) conflict → ((p : ℕ) → Contains places p ↔ ((p < length trail) × Names conflict (L p).var))
      → Resolved clauses trail conflict [] (negated_at trail places)
  begin_places conflict places F on = begin (negated_at trail places) (λ k. (λ h. to k (negated_at_from places k h), λ h. from k h (false_by k h)))
    where
      false_by : (k : Lit) → Contains conflict k → Falsifier clauses trail level T k
      false_by k h = falsifier clauses trail level T k (All-contains (IsLitFalse (literals trail)) conflict k F h)

      to : (k : Lit) → (p : ℕ) × Contains places p × (negated (L p) ≡ k) → Contains conflict k
      to k (p, h, e) = named ((on p).0 h)
        where
          named : (p < length trail) × Names conflict (L p).var → Contains conflict k
          named (b, (j, c, v)) = subst (Contains conflict) (same_step j p b v (false_by j c) ∙ e) c

      from : (k : Lit) → Contains conflict k → Falsifier clauses trail level T k → Contains (negated_at trail places) k
      from k h (q, b, e) = negated_at_to places q ((on q).1 (b, (k, h, ap (λ (x : Lit). x.var) e))) k e

  pub back_places : (conflict : Clause) (p : ℕ) (used places next : List ℕ) → Resolved clauses trail conflict used (negated_at trail places) → AreOn places → Contains places p
      → All (λ later. p < later) used → (step_at trail p).reason ≢ None
      → ((q : ℕ) → Contains next q ↔ ((Contains places q × (q ≢ p)) ⊎ ((q < p) × Names (because clauses trail level T p) (L q).var))) → Resolved clauses trail conflict (p ∷ used) (negated_at trail next)
  back_places conflict p used places next R on stands later reason moves =
      back p used (negated_at trail places) (negated_at trail next) R here later reason (negated_at_to places p stands (negated (L p)) refl) (λ k. (λ h. to k (negated_at_from next k h), from k))
    where
      here : p < length trail
      here = All-contains (λ q. q < length trail) places p on stands

      B : Clause
      B = because clauses trail level T p

      Parts : Lit → Type 0
      Parts k = (Contains (negated_at trail places) k × (k ≢ negated (L p))) ⊎ (Contains B k × (k ≢ L p))

      to : (k : Lit) → (q : ℕ) × Contains next q × (negated (L q) ≡ k) → Parts k
      to k (q, h, e) = sort ((moves q).0 h)
        where
          sort : (Contains places q × (q ≢ p)) ⊎ ((q < p) × Names B (L q).var) → Parts k
          sort (inl (c, n)) =
              let b : q < length trail = All-contains (λ r. r < length trail) places q on c in
              inl (negated_at_to places q c k (sym e), λ i. n (one_negated clauses trail level T q p b here (e ∙ i)))
          sort (inr (c, (j, m, v))) =
              let b : q < length trail = omega arith in
              let apart : (L q).var ≢ (L p).var = λ i. (let s : q ≡ p = one_place clauses trail level T q p b here i in omega arith) in
              let d : j ≢ L p = λ i. apart (sym v ∙ ap (λ (x : Lit). x.var) i) in
              inr (subst (Contains B) (of_reason j m d b v ∙ e) m, λ i. apart (ap (λ (x : Lit). x.var) (e ∙ i)))
            where
              of_reason : (j : Lit) → Contains B j → j ≢ L p → q < length trail → j.var ≡ (L q).var → j ≡ negated (L q)
              of_reason j m d b v = at (reason_falsifier clauses trail level T p here reason j m d)
                where
                  at : (r : ℕ) × (r < p) × (j ≡ negated (L r)) → j ≡ negated (L q)
                  at (r, l, f) = same_step j q b v (r, omega arith, f)

      from : (k : Lit) → Parts k → Contains (negated_at trail next) k
      from k (inl (h, n)) = at (negated_at_from places k h)
        where
          at : (q : ℕ) × Contains places q × (negated (L q) ≡ k) → Contains (negated_at trail next) k
          at (q, c, e) = negated_at_to next q ((moves q).1 (inl (c, λ i. n (sym e ∙ ap (λ r. negated (L r)) i)))) k (sym e)
      from k (inr (h, n)) = at (reason_falsifier clauses trail level T p here reason k h n)
        where
          at : (q : ℕ) × (q < p) × (k ≡ negated (L q)) → Contains (negated_at trail next) k
          at (q, l, e) = negated_at_to next q ((moves q).1 (inr (l, (k, h, ap (λ (x : Lit). x.var) e)))) k e

  pub assert_places : (p : ℕ) (places : List ℕ) → AreOn places → Contains places p → (step_at trail p).level ≡ level
      → ((q : ℕ) → Contains places q → (q ≡ p) ⊎ ((step_at trail q).level < level)) → IsAsserting trail level (negated_at trail places) p
  assert_places p places on stands l f = record {
    here = All-contains (λ q. q < length trail) places p on stands;
    stands = negated_at_to places p stands (negated (L p)) refl;
    at_level = l;
    others = λ q b h. f q ((negated_at_member places q on b).0 h);
  }

  pub apart_places : (places : List ℕ) → AreOn places → AllPairs (λ p q. p ≢ q) places → AreApart (negated_at trail places)
  apart_places places on h =
      pairs_map (λ (k l : Lit). k.var ≢ l.var) (λ p. negated (L p)) places
      (λ i j d b l e. h i j d b l (one_place clauses trail level T _ _ (on i d (omega arith)) (on j d l) e))
