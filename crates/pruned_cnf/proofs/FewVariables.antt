-- A pruned formula with few clauses has few variables: nearly each has a clause of its own.
use Rattle.std.proofs.Common.{◌≡◌, ◌⊎◌, inl, inr, ℕ, ◌+◌, ◌≤◌, Bool, true, false, cond, ◌&&◌, List, [], ◌∷◌, ◌++◌, length, map, Contains, arith, length-append}
use Rattle.std.specs.List.{filter, flat_map, list_all, range_with_len}
use Rattle.std.proofs.lemmas.List.{length-map}
use Rattle.std.proofs.lemmas.List.Sums.{sum_by-le-sum_by}
use Rattle.edge_table.specs.declared.edge.Edge.{Edge}
use Rattle.log_law.specs.declared.Lit.{Lit}
use Rattle.log_law.specs.Clauses.{Clause}
use Rattle.formula_law.specs.Frames.{Pair, Frame}
use Rattle.formula_law.specs.Formula.{literal, sides}
use Rattle.formula_law.specs.PrunedFormula.{Live, is_live_flip, live_there, live_made, live_variable_count, if_live, live_demands, live_flip_clauses, live_leave_clause, live_come_clause, live_change_clauses, pruned_formula}
use Rattle.formula_law.proofs.Clauses.{both, true_or_false, in_first, in_later, in_filter}
use Rattle.formula_law.proofs.PrunedCounts.{pruned_length}
use Rattle.pruned_cnf.proofs.Numbers.{kept_few, sum_more, places_sum, flips_sum}

-- one at least for each
pub each_some : {X Y : Type 0} (f : X → List Y) (xs : List X) → ((x : X) → Contains xs x → 1 ≤ length (f x)) → length xs ≤ length (flat_map f xs)
each_some f [] h = omega arith
each_some f (x ∷ xs) h =
    let again = each_some f xs (λ y i. h y (in_later y x xs i)) in
    omega (arith, again, h x (in_first x xs), length-append (f x) (flat_map f xs))

-- or for each that is kept
pub kept_some : {X Y : Type 0} (p : X → Bool) (f : X → List Y) (xs : List X) → ((x : X) → p x ≡ true → 1 ≤ length (f x)) → length (filter p xs) ≤ length (flat_map f xs)
kept_some p f [] h = omega arith
kept_some p f (x ∷ xs) h = by_test (true_or_false (p x)) (kept_some p f xs h)
  where
    by_test : (p x ≡ true) ⊎ (p x ≡ false) → length (filter p xs) ≤ length (flat_map f xs) → length (filter p (x ∷ xs)) ≤ length (flat_map f (x ∷ xs))
    by_test (inl e) again = let l = length-append (f x) (flat_map f xs) in let m = h x e in rw e (omega arith)
    by_test (inr e) again = let l = length-append (f x) (flat_map f xs) in rw e (omega arith)

first_some : {Y : Type 0} (b : Bool) (x : Y) (ys : List Y) → b ≡ true → 1 ≤ length (cond b (x ∷ []) [] ++ ys)
first_some true x ys e = omega (arith, length-append (x ∷ []) ys)
first_some false x ys e = absurd (cc)

front_some : {Y : Type 0} (b : Bool) (x : Y) (v w ys zs : List Y) → b ≡ true → 1 ≤ length (cond b (x ∷ []) [] ++ v ++ w ++ ys ++ zs)
front_some b x v w ys zs e =
    omega (arith, first_some b x v e, length-append (cond b (x ∷ []) [] ++ v) w, length-append (cond b (x ∷ []) [] ++ v ++ w) ys, length-append (cond b (x ∷ []) [] ++ v ++ w ++ ys) zs)

module _ (F : Frame) (live : Live) (k : ℕ) where
  leaves : (t : ℕ) → length (filter (live t) F.segments) ≤ length (live_change_clauses F live k t)
  leaves t =
      kept_some (live t) (λ e. cond (live t e) (live_leave_clause F live k t e ∷ []) [] ++ cond (live (t + 1) e) (live_come_clause F live k t e ∷ []) []) F.segments
      (λ e h. first_some (live t e) (live_leave_clause F live k t e) (cond (live (t + 1) e) (live_come_clause F live k t e ∷ []) []) h)

  asks : (t : ℕ) → length (filter (is_live_flip F live t) F.flips) ≤ length (live_flip_clauses F live k t)
  asks t = each_some (λ g. map (clause g) (live_demands F live k t g)) (filter (is_live_flip F live t) F.flips) (λ g i. one g (in_filter (is_live_flip F live t) F.flips g i).1)
    where
      clause : Pair → Lit → Clause
      clause g demand = literal (live_made F live k t g) false ∷ demand ∷ []

      one : (g : Pair) → is_live_flip F live t g ≡ true → 1 ≤ length (map (clause g) (live_demands F live k t g))
      one g h =
          let now = both (live t g.0) (live (t + 1) g.1) (both (live t g.0 && live (t + 1) g.1) (list_all (λ s. live t s && live (t + 1) s) (sides F g)) h).0 in
          let some = front_some (live t g.0) (literal (live_there F live k t g.0) true) (if_live F live k (t + 1) g.0 false) (if_live F live k t g.1 false) (if_live F live k (t + 1) g.1 true) (flat_map (λ s. if_live F live k t s true ++ if_live F live k (t + 1) s true) (sides F g)) now.0 in
          omega (arith, some, length-map (live_demands F live k t g) (clause g))

  pub few_variables : (A B : List Edge) → live_variable_count F live k ≤ length (pruned_formula F live A B k) + length F.segments
  few_variables A B =
      let leave = sum_by-le-sum_by (λ t. length (filter (live t) F.segments)) (λ t. length (live_change_clauses F live k t)) (range_with_len 0 k) leaves in
      let ask = sum_by-le-sum_by (λ t. length (filter (is_live_flip F live t) F.flips)) (λ t. length (live_flip_clauses F live k t)) (range_with_len 0 k) asks in
      omega (arith, leave, ask, places_sum F live k, flips_sum F live k, sum_more (λ t. length (filter (live t) F.segments)) k, kept_few (live k) F.segments, pruned_length F live A B k)
