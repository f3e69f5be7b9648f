-- The steps of a trail, and the table of the place of the step about each variable.
use Rattle.std.proofs.Common.{◌≡◌, ◌≢◌, ◌⊎◌, inl, inr, ℕ, ◌+◌, ◌-◌, ◌<◌, ◌≤◌, true, false, cond, Option, Some, None, List, [], ◌∷◌, ◌++◌, map, length, get_or, set, Contains, refl, sym, ap, ◌∙◌, subst, arith, eqb, get_or-set_same, get_or-set_other}
use Rattle.std.specs.Prelude.{All, AllPairs, nat_eq, option_map}
use Rattle.std.specs.List.{list_any, IsDistinct}
use Rattle.std.proofs.lemmas.Bool.{cases_eq, ne_eqb, eqb-true, or_cases}
use Rattle.std.proofs.lemmas.List.{length_push, length-map, length-set, get_or-map, map_push, get_or_push}
use Rattle.std.proofs.lemmas.List.Elements.{All-push, All-map, Contains-get_or}
use Rattle.std.proofs.lemmas.List.Quantifiers.{all_pairs_push}
use Rattle.std.proofs.lemmas.Map.Keys.{IsDistinct-from_apart}
use Rattle.std.proofs.lemmas.Map.Steps.{length-le_from_distinct_below}
use Rattle.log_law.specs.declared.Lit.{Lit}
use Rattle.log_law.specs.declared.Step.{Step}
use Rattle.log_law.specs.Clauses.{Clause, IsVariable, IsClause}
use Rattle.log_law.specs.Units.{value, IsUnassigned}
use Rattle.log_law.specs.Trails.{no_step, step_of, place_of, literals}
use Rattle.log_law.proofs.Found.{place_found, place_none, values_are_of_steps}
use Rattle.log_law.proofs.Lists.{contains_here, contains_later, contains_map, contains_at, map_from, pairs_map, pairs_left}
use Rattle.log_law.proofs.Values.{AreApart, none_member, value_none}
use Rattle.sat_state.specs.Tables.{IsHeld}
use Rattle.sat_state.proofs.Pieces.{all_front, pairs_front}

-- ---- distinct variables up to a number are at most so many
is_member : (q : ℕ) (xs : List ℕ) → list_any (eqb q) xs ≡ true → Contains xs q
is_member q [] e = cc
is_member q (x ∷ xs) e = by_case (or_cases (eqb q x) (list_any (eqb q) xs) e) (is_member q xs)
  where
    by_case : (eqb q x ≡ true) ⊎ (list_any (eqb q) xs ≡ true) → (list_any (eqb q) xs ≡ true → Contains xs q) → Contains (x ∷ xs) q
    by_case (inl t) again = contains_here q x xs (sym (eqb-true q x t))
    by_case (inr t) again = contains_later q x xs (again t)

nothing : Lit
nothing = record { var = 0; on = false }

pub variables_fit : (n : ℕ) (ls : List Lit) → AreApart ls → All (λ l. IsVariable n l.var) ls → length ls ≤ n
variables_fit n ls apart range = omega (arith, length-map ls before, length-le_from_distinct_below (map before ls) n distinct below)
  where
    before : Lit → ℕ
    before l = l.var - 1

    below : (q : ℕ) → list_any (eqb q) (map before ls) ≡ true → q < n
    below q t = from (map_from before ls q (is_member q (map before ls) t))
      where
        at : (l : Lit) → IsVariable n l.var → l.var - 1 ≡ q → q < n
        at l r e = let a = r.0 in let b = r.1 in omega arith

        by_place : (l : Lit) → (k : ℕ) × (k < length ls) × (get_or ls k nothing ≡ l) → l.var - 1 ≡ q → q < n
        by_place l (k, b, i) e = at l (subst (λ (x : Lit). IsVariable n x.var) i (range k nothing b)) e

        from : (l : Lit) × Contains ls l × (before l ≡ q) → q < n
        from (l, c, e) = by_place l (contains_at ls l nothing c) e

    distinct : IsDistinct eqb (map before ls)
    distinct = IsDistinct-from_apart eqb (map before ls) (λ i j d b l. differ i j d b (omega (arith, length-map ls before)))
      where
        differ : (i j d : ℕ) → i < j → j < length ls → eqb (get_or (map before ls) i d) (get_or (map before ls) j d) ≡ false
        differ i j d b l =
            let p = get_or-map before ls i nothing d (omega arith) in
            let q = get_or-map before ls j nothing d l in
            let x = range i nothing (omega arith) in
            let y = range j nothing l in
            let x0 = x.0 in
            let y0 = y.0 in
            let a = apart i j nothing b l in
            ne_eqb (get_or (map before ls) i d) (get_or (map before ls) j d) (λ e. a (omega arith))

pub clause_short : (n : ℕ) (clause : Clause) → IsClause n clause → length clause ≤ n
clause_short n clause fit = variables_fit n clause fit.distinct fit.in_range

-- ---- one more step
pub literals_push : (steps : List Step) (s : Step) → literals (steps ++ s ∷ []) ≡ literals steps ++ s.literal ∷ []
literals_push steps s = map_push (λ (x : Step). x.literal) steps s

step_none : (o : Option Step) → option_map (λ (s : Step). s.literal.on) o ≡ None → o ≡ None
step_none None e = refl
step_none (Some s) e = cc

pub unplaced : (steps : List Step) (v : ℕ) → value (literals steps) v ≡ None → place_of steps v ≡ None
unplaced steps v e = (place_none steps v).1 (step_none (step_of steps v) (sym (values_are_of_steps steps v) ∙ e))

pub placed_other : (steps : List Step) (s : Step) (v : ℕ) → s.literal.var ≢ v → place_of (steps ++ s ∷ []) v ≡ place_of steps v
placed_other [] s v n = let t : nat_eq s.literal.var v ≡ false = ne_eqb s.literal.var v n in rw t refl
placed_other (x ∷ steps) s v n = ap (λ (o : Option ℕ). cond (nat_eq x.literal.var v) (Some 0) (option_map (λ place. place + 1) o)) (placed_other steps s v n)

abbrev pub Apart : Step → Step → Type 0
Apart s t = s.literal.var ≢ t.literal.var

abbrev pub InRange : ℕ → Step → Type 0
InRange n s = IsVariable n s.literal.var

pub apart_literals : (steps : List Step) → AllPairs Apart steps → AreApart (literals steps)
apart_literals steps a = pairs_map (λ (k l : Lit). k.var ≢ l.var) (λ (s : Step). s.literal) steps a

pub range_literals : (n : ℕ) (steps : List Step) → All (InRange n) steps → All (λ (l : Lit). IsVariable n l.var) (literals steps)
range_literals n steps h = All-map (λ (l : Lit). IsVariable n l.var) (λ (s : Step). s.literal) steps h

pub steps_fit : (n : ℕ) (steps : List Step) → AllPairs Apart steps → All (InRange n) steps → length steps ≤ n
steps_fit n steps a r = omega (arith, length-map steps (λ (s : Step). s.literal), variables_fit n (literals steps) (apart_literals steps a) (range_literals n steps r))

pub apart_push : (steps : List Step) (s : Step) → AllPairs Apart steps → IsUnassigned (literals steps) s.literal → AllPairs Apart (steps ++ s ∷ [])
apart_push steps s a free =
    all_pairs_push Apart steps s a (λ k d l. none_member (literals steps) s.literal.var free (get_or steps k d).literal (contains_map (λ (x : Step). x.literal) steps (get_or steps k d) (Contains-get_or steps k d l)))

pub placed_new : (steps : List Step) (s : Step) → AllPairs Apart (steps ++ s ∷ []) → place_of (steps ++ s ∷ []) s.literal.var ≡ Some (length steps)
placed_new steps s a =
    subst (λ (x : Step). place_of (steps ++ s ∷ []) x.literal.var ≡ Some (length steps)) (get_or_push steps s no_step (length steps) refl)
    (place_found (steps ++ s ∷ []) (length steps) a (omega (arith, length_push steps s)))

-- there is room for a step about a variable without one
pub room_left : (n : ℕ) (steps : List Step) (s : Step) → AllPairs Apart steps → All (InRange n) steps → IsVariable n s.literal.var → IsUnassigned (literals steps) s.literal → length steps < n
room_left n steps s a r v free = omega (arith, length_push steps s, steps_fit n (steps ++ s ∷ []) (apart_push steps s a free) (All-push (InRange n) steps s r v))

pub held_push : (n : ℕ) (steps : List Step) (places : List (Option ℕ)) (s : Step) → IsHeld n steps places → IsVariable n s.literal.var → IsUnassigned (literals steps) s.literal → IsHeld n (steps ++ s ∷ []) (set places s.literal.var (Some (length steps)))
held_push n steps places s H v free = record {
  small = H.small;
  in_range = All-push (InRange n) steps s H.in_range v;
  apart = apart_push steps s H.apart free;
  wide = length-set places s.literal.var (Some (length steps)) ∙ H.wide;
  same = λ w. by_var w (cases_eq s.literal.var w);
}
  where
    by_var : (w : ℕ) → (s.literal.var ≡ w) ⊎ (s.literal.var ≢ w) → get_or (set places s.literal.var (Some (length steps))) w None ≡ place_of (steps ++ s ∷ []) w
    by_var w (inl e) =
        subst (λ x. get_or (set places s.literal.var (Some (length steps))) x None ≡ place_of (steps ++ s ∷ []) x) e
        (let b = H.wide in let c = v.1 in get_or-set_same places s.literal.var (Some (length steps)) None (omega arith) ∙ sym (placed_new steps s (apart_push steps s H.apart free)))
    by_var w (inr m) = get_or-set_other places s.literal.var w (Some (length steps)) None (λ e. m (sym e)) ∙ (H.same w ∙ sym (placed_other steps s w m))

-- ---- without the last step
pub last_unassigned : (steps : List Step) (s : Step) → AllPairs Apart (steps ++ s ∷ []) → IsUnassigned (literals steps) s.literal
last_unassigned steps s a = value_none (literals steps) s.literal.var (λ l c. from l (map_from (λ (x : Step). x.literal) steps l c))
  where
    from : (l : Lit) → (x : Step) × Contains steps x × (x.literal ≡ l) → l.var ≢ s.literal.var
    from l (x, c, e) = subst (λ (k : Lit). k.var ≢ s.literal.var) e (pairs_left Apart steps [] s a x c)

pub last_range : (n : ℕ) (steps : List Step) (s : Step) → All (InRange n) (steps ++ s ∷ []) → IsVariable n s.literal.var
last_range n steps s h = subst (λ (x : Step). InRange n x) (get_or_push steps s no_step (length steps) refl) (h (length steps) no_step (omega (arith, length_push steps s)))

pub held_pop : (n : ℕ) (steps : List Step) (places : List (Option ℕ)) (s : Step) → IsHeld n (steps ++ s ∷ []) places → IsHeld n steps (set places s.literal.var None)
held_pop n steps places s H = record {
  small = H.small;
  in_range = all_front (InRange n) steps (s ∷ []) H.in_range;
  apart = pairs_front Apart steps (s ∷ []) H.apart;
  wide = length-set places s.literal.var None ∙ H.wide;
  same = λ w. by_var w (cases_eq s.literal.var w);
}
  where
    range : IsVariable n s.literal.var
    range = last_range n steps s H.in_range

    by_var : (w : ℕ) → (s.literal.var ≡ w) ⊎ (s.literal.var ≢ w) → get_or (set places s.literal.var None) w None ≡ place_of steps w
    by_var w (inl e) =
        subst (λ x. get_or (set places s.literal.var None) x None ≡ place_of steps x) e
        (let b = H.wide in let c = range.1 in get_or-set_same places s.literal.var None None (omega arith) ∙ sym (unplaced steps s.literal.var (last_unassigned steps s H.apart)))
    by_var w (inr m) = get_or-set_other places s.literal.var w None None (λ e. m (sym e)) ∙ (H.same w ∙ placed_other steps s w m)
