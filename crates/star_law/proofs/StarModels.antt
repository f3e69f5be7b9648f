-- From a model of the star formula to a model of each leg's formula, and back.
use Rattle.std.proofs.Common.{◌≡◌, ◌⊎◌, inl, inr, ℕ, ◌+◌, ◌<◌, Bool, true, false, List, [], ◌∷◌, ◌++◌, map, Contains, refl, sym, ap, ◌∙◌, subst, arith}
use Rattle.std.specs.List.{Any, filter, flat_map, range_with_len}
use Rattle.std.proofs.lemmas.List.Elements.{All-append, All-contains, Contains-append_left, Contains-append_right}
use Rattle.geo_orient.specs.declared.Point.{Point}
use Rattle.edge_table.specs.declared.edge.Edge.{Edge}
use Rattle.formula_law.specs.Frames.{Pair, Frame, IsFrame}
use Rattle.log_law.specs.declared.Lit.{Lit}
use Rattle.log_law.specs.Clauses.{Clause, IsSatisfied, IsModel}
use Rattle.formula_law.specs.Formula.{literal, there, layer_clauses, crossing_clauses, formula}
use Rattle.edge_table.specs.Edges.{is_member}
use Rattle.star_law.specs.Legs.{Leg, Placed, all_rounds, placed}
use Rattle.star_law.proofs.Renamed.{in_star, renamed, renamed_changes, renamed_early, renamed_first, renamed_flips, renamed_hub, renamed_star}
use Rattle.formula_law.proofs.Clauses.{true_or_false, not_both, all_of, any_of, any_found, any_cases, any_none, in_first, in_later, in_filter, filtered, in_map, mapped, in_flat_map, flat_mapped, ranged, in_range}
use Rattle.formula_law.proofs.EdgeTests.{member_true, not_member}
use Rattle.formula_law.proofs.Traces.{group_1, group_2, group_3, group_4, group_5}
use Rattle.star_law.proofs.StarNumbers.{hub_there}

-- ---- clauses numbered anew
module _ (number : ℕ → ℕ) (truth : ℕ → Bool) where
  abbrev new_literal : Lit → Lit
  new_literal l = literal (number l.var) l.on

  abbrev new_clause : Clause → Clause
  new_clause c = map new_literal c

  abbrev Holds : Lit → Type 0
  Holds l = truth l.var ≡ l.on

  abbrev Held : Lit → Type 0
  Held l = truth (number l.var) ≡ l.on

  satisfied : (c : Clause) → Any Holds (new_clause c) → Any Held c
  satisfied c h = by_found (any_found Holds (new_clause c) h)
    where
      by_found : (l : Lit) × Contains (new_clause c) l × Holds l → Any Held c
      by_found (l, i, j) = by_source (in_map new_literal c l i)
        where
          by_source : (m : Lit) × Contains c m × (new_literal m ≡ l) → Any Held c
          by_source (m, g, e) = any_of Held m c g (subst Holds (sym e) j)

  satisfies : (c : Clause) → Any Held c → Any Holds (new_clause c)
  satisfies c h = by_found (any_found Held c h)
    where
      by_found : (l : Lit) × Contains c l × Held l → Any Holds (new_clause c)
      by_found (l, i, j) = any_of Holds (new_literal l) (new_clause c) (mapped new_literal c l i) j

  pub renamed_from : (cs : List Clause) → IsModel truth (renamed number cs) → IsModel (λ v. truth (number v)) cs
  renamed_from cs m = all_of (Any Held) cs (λ c h. satisfied c (All-contains (Any Holds) (renamed number cs) (new_clause c) m (mapped new_clause cs c h)))

  pub renamed_to : (cs : List Clause) → IsModel (λ v. truth (number v)) cs → IsModel truth (renamed number cs)
  renamed_to cs m = all_of (Any Holds) (renamed number cs) (λ c h. by_source c (in_map new_clause cs c h))
    where
      by_source : (c : Clause) → (d : Clause) × Contains cs d × (new_clause d ≡ c) → Any Holds c
      by_source c (d, i, e) = subst (Any Holds) e (satisfies d (All-contains (Any Held) cs d m i))

-- clauses that hold, and others among them
pub model_among : (truth : ℕ → Bool) (cs ds : List Clause) → IsModel truth cs → ((c : Clause) → Contains ds c → Contains cs c) → IsModel truth ds
model_among truth cs ds m h = all_of (IsSatisfied truth) ds (λ c i. All-contains (IsSatisfied truth) cs c m (h c i))

-- ---- layers that agree
pub filter_same : {X : Type 0} (p q : X → Bool) (xs : List X) → ((x : X) → Contains xs x → p x ≡ q x) → filter p xs ≡ filter q xs
filter_same p q [] h = refl
filter_same p q (x ∷ xs) h = by_test (true_or_false (q x)) (filter_same p q xs (λ y i. h y (in_later y x xs i)))
  where
    by_test : (q x ≡ true) ⊎ (q x ≡ false) → filter p xs ≡ filter q xs → filter p (x ∷ xs) ≡ filter q (x ∷ xs)
    by_test (inl e) again = rw (h x (in_first x xs), e) (ap (λ ys. x ∷ ys) again)
    by_test (inr e) again = rw (h x (in_first x xs), e) again

-- a member of the filtered list is a member that passes
pub member_of_filter : (p : Edge → Bool) (es : List Edge) (e : Edge) → Contains es e → is_member (filter p es) e ≡ p e
member_of_filter p es e h = by_test (true_or_false (p e))
  where
    by_test : (p e ≡ true) ⊎ (p e ≡ false) → is_member (filter p es) e ≡ p e
    by_test (inl i) = member_true (filter p es) e (filtered p es e h i) ∙ sym i
    by_test (inr i) = not_member (filter p es) e (λ g. not_both (in_filter p es e g).1 i) ∙ sym i

-- ---- the groups of the renamed_star
module _ (F : Frame) (x y z : Leg) where
  abbrev total : ℕ
  total = all_rounds x y z

  abbrev legs : List Placed
  legs = placed x y z

  abbrev pub firsts : List Clause
  firsts = flat_map (renamed_first F total) legs

  abbrev pub earlies : List Clause
  earlies = flat_map (renamed_early F total) legs

  abbrev pub flips : List Clause
  flips = flat_map (renamed_flips F total) legs

  abbrev pub changes : List Clause
  changes = flat_map (renamed_changes F total) legs

  abbrev pub hub : List Clause
  hub = crossing_clauses F (there F) 0

  pub in_changes : (c : Clause) → Contains changes c → Contains (renamed_star F x y z) c
  in_changes c h = Contains-append_right (firsts ++ hub ++ earlies ++ flips) changes c h

  to_flips : (c : Clause) → Contains (firsts ++ hub ++ earlies ++ flips) c → Contains (renamed_star F x y z) c
  to_flips c h = Contains-append_left (firsts ++ hub ++ earlies ++ flips) changes c h

  pub in_flips : (c : Clause) → Contains flips c → Contains (renamed_star F x y z) c
  in_flips c h = to_flips c (Contains-append_right (firsts ++ hub ++ earlies) flips c h)

  to_earlies : (c : Clause) → Contains (firsts ++ hub ++ earlies) c → Contains (renamed_star F x y z) c
  to_earlies c h = to_flips c (Contains-append_left (firsts ++ hub ++ earlies) flips c h)

  pub in_earlies : (c : Clause) → Contains earlies c → Contains (renamed_star F x y z) c
  in_earlies c h = to_earlies c (Contains-append_right (firsts ++ hub) earlies c h)

  pub in_hub : (c : Clause) → Contains hub c → Contains (renamed_star F x y z) c
  in_hub c h = to_earlies c (Contains-append_left (firsts ++ hub) earlies c (Contains-append_right firsts hub c h))

  pub in_firsts : (c : Clause) → Contains firsts c → Contains (renamed_star F x y z) c
  in_firsts c h = to_earlies c (Contains-append_left (firsts ++ hub) earlies c (Contains-append_left firsts hub c h))

  -- clauses of one leg are among those of all
  pub of_leg : (group : Placed → List Clause) (leg : Placed) → Contains legs leg → (c : Clause) → Contains (group leg) c → Contains (flat_map group legs) c
  of_leg group leg h c i = flat_mapped group legs leg c h i

  -- and those of all hold where those of each leg do
  pub each_leg : (truth : ℕ → Bool) (group : Placed → List Clause) → ((leg : Placed) → Contains legs leg → IsModel truth (group leg)) → IsModel truth (flat_map group legs)
  each_leg truth group h = all_of (IsSatisfied truth) (flat_map group legs) (λ c i. by_leg c (in_flat_map group legs c i))
    where
      by_leg : (c : Clause) → (leg : Placed) × Contains legs leg × Contains (group leg) c → IsSatisfied truth c
      by_leg c (leg, i, j) = All-contains (IsSatisfied truth) (group leg) c (h leg i) j

-- ---- a clause of two literals that say no
pub one_off : (truth : ℕ → Bool) (u v : ℕ) → IsSatisfied truth (literal u false ∷ literal v false ∷ []) → (truth u ≡ false) ⊎ (truth v ≡ false)
one_off truth u v h = by_first (any_cases (λ (l : Lit). truth l.var ≡ l.on) (literal u false) (literal v false ∷ []) h)
  where
    by_second : (truth v ≡ false) ⊎ Any (λ (l : Lit). truth l.var ≡ l.on) [] → (truth u ≡ false) ⊎ (truth v ≡ false)
    by_second (inl e) = inr e
    by_second (inr n) = absurd (any_none (λ (l : Lit). truth l.var ≡ l.on) n)

    by_first : (truth u ≡ false) ⊎ Any (λ (l : Lit). truth l.var ≡ l.on) (literal v false ∷ []) → (truth u ≡ false) ⊎ (truth v ≡ false)
    by_first (inl e) = inl e
    by_first (inr n) = by_second (any_cases (λ (l : Lit). truth l.var ≡ l.on) (literal v false) [] n)

pub off_one : (truth : ℕ → Bool) (u v : ℕ) → (truth u ≡ false) ⊎ (truth v ≡ false) → IsSatisfied truth (literal u false ∷ literal v false ∷ [])
off_one truth u v (inl e) = any_of (λ (l : Lit). truth l.var ≡ l.on) (literal u false) (literal u false ∷ literal v false ∷ []) (0, omega arith, refl) e
off_one truth u v (inr e) = any_of (λ (l : Lit). truth l.var ≡ l.on) (literal v false) (literal u false ∷ literal v false ∷ []) (1, omega arith, refl) e

-- ---- from a model of the renamed_star to one of each leg
module _ (points : List Point) (F : Frame) (I : IsFrame points F) (x y z : Leg) (truth : ℕ → Bool) (M : IsModel truth (renamed_star F x y z)) (leg : Placed) (H : Contains (placed x y z) leg) where
  abbrev all : ℕ
  all = all_rounds x y z

  abbrev number : ℕ → ℕ
  number v = in_star F all leg v

  abbrev own : ℕ → Bool
  own v = truth (number v)

  abbrev k : ℕ
  k = leg.0.rounds

  abbrev A : List Edge
  A = leg.0.from

  abbrev B : List Edge
  B = renamed_hub F truth

  -- the hub is the last layer
  pub own_hub : (e : Edge) → Contains F.segments e → own (there F k e) ≡ truth (there F 0 e)
  own_hub e h = ap truth (hub_there F all leg e h)

  group : (own_group : Placed → List Clause) → ((c : Clause) → Contains (flat_map own_group (placed x y z)) c → Contains (renamed_star F x y z) c) → IsModel truth (own_group leg)
  group own_group h = model_among truth (renamed_star F x y z) (own_group leg) M (λ c i. h c (of_leg F x y z own_group leg H c i))

  holds_1 : IsModel own (layer_clauses F (there F) 0 A)
  holds_1 = renamed_from number truth (layer_clauses F (there F) 0 A) (group (renamed_first F all) (in_firsts F x y z))

  holds_2 : IsModel own (layer_clauses F (there F) k B)
  holds_2 = all_of (IsSatisfied own) (layer_clauses F (there F) k B) (λ c h. by_edge c (in_map (λ e. literal (there F k e) (is_member B e) ∷ []) F.segments c h))
    where
      by_edge : (c : Clause) → (e : Edge) × Contains F.segments e × ((literal (there F k e) (is_member B e) ∷ []) ≡ c) → IsSatisfied own c
      by_edge c (e, h, i) =
          subst (IsSatisfied own) i (any_of (λ (l : Lit). own l.var ≡ l.on) (literal (there F k e) (is_member B e)) (literal (there F k e) (is_member B e) ∷ []) (0, omega arith, refl) (own_hub e h ∙ sym (member_of_filter (λ e. truth (there F 0 e)) F.segments e h)))

  earlies_hold : IsModel own (flat_map (crossing_clauses F (there F)) (range_with_len 0 k))
  earlies_hold = renamed_from number truth (flat_map (crossing_clauses F (there F)) (range_with_len 0 k)) (group (renamed_early F all) (in_earlies F x y z))

  holds_3 : IsModel own (flat_map (crossing_clauses F (there F)) (range_with_len 0 (k + 1)))
  holds_3 = all_of (IsSatisfied own) (flat_map (crossing_clauses F (there F)) (range_with_len 0 (k + 1))) (λ c h. by_layer c (in_flat_map (crossing_clauses F (there F)) (range_with_len 0 (k + 1)) c h))
    where
      pair : ℕ → Pair → Clause
      pair t g = literal (there F t g.0) false ∷ literal (there F t g.1) false ∷ []

      by_pair : (c : Clause) → (g : Pair) × Contains F.crossings g × (pair k g ≡ c) → IsSatisfied own c
      by_pair c (g, h, i) = subst (IsSatisfied own) i (off_one own (there F k g.0) (there F k g.1) (here (one_off truth (there F 0 g.0) (there F 0 g.1) (All-contains (IsSatisfied truth) (renamed_star F x y z) (pair 0 g) M (in_hub F x y z (pair 0 g) (mapped (pair 0) F.crossings g h))))))
        where
          ends : Contains F.segments g.0 × Contains F.segments g.1
          ends = let r = (I.crossings g.0 g.1).0 h in ((I.segments g.0).1 r.0, (I.segments g.1).1 r.1)

          here : (truth (there F 0 g.0) ≡ false) ⊎ (truth (there F 0 g.1) ≡ false) → (own (there F k g.0) ≡ false) ⊎ (own (there F k g.1) ≡ false)
          here (inl e) = inl (own_hub g.0 ends.0 ∙ e)
          here (inr e) = inr (own_hub g.1 ends.1 ∙ e)

      by_test : (c : Clause) (t : ℕ) → (t < k) ⊎ (t ≡ k) → Contains (crossing_clauses F (there F) t) c → IsSatisfied own c
      by_test c t (inl l) h = All-contains (IsSatisfied own) (flat_map (crossing_clauses F (there F)) (range_with_len 0 k)) c earlies_hold (flat_mapped (crossing_clauses F (there F)) (range_with_len 0 k) t c (ranged 0 k t (omega arith) (omega arith)) h)
      by_test c t (inr e) h = by_pair c (in_map (pair k) F.crossings c (subst (λ t. Contains (crossing_clauses F (there F) t) c) e h))

      below : (t : ℕ) → t < 0 + (k + 1) → (t < k) ⊎ (t ≡ k)
      below t l = grind arith

      by_layer : (c : Clause) → (t : ℕ) × Contains (range_with_len 0 (k + 1)) t × Contains (crossing_clauses F (there F) t) c → IsSatisfied own c
      by_layer c (t, h, i) = by_test c t (below t (in_range 0 (k + 1) t h).1) i

  pub leg_model : IsModel own (formula F A B k)
  leg_model =
      All-append (IsSatisfied own) (group_1 F A B k ++ group_2 F A B k ++ group_3 F A B k ++ group_4 F A B k) (group_5 F A B k)
      (All-append (IsSatisfied own) (group_1 F A B k ++ group_2 F A B k ++ group_3 F A B k) (group_4 F A B k)
      (All-append (IsSatisfied own) (group_1 F A B k ++ group_2 F A B k) (group_3 F A B k)
      (All-append (IsSatisfied own) (group_1 F A B k) (group_2 F A B k) holds_1 holds_2)
      holds_3)
      (renamed_from number truth (group_4 F A B k) (group (renamed_flips F all) (in_flips F x y z))))
      (renamed_from number truth (group_5 F A B k) (group (renamed_changes F all) (in_changes F x y z)))
