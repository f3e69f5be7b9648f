-- The way back along a trail, kept as places: what is pending, what is left, and where it stops.
use Rattle.std.proofs.Common.{◌≡◌, ◌≢◌, ◌⊎◌, ◌↔◌, inl, inr, ℕ, suc, ◌+◌, ◌-◌, ◌<◌, ◌≤◌, Option, Some, None, true, false, List, [], ◌∷◌, ◌++◌, length, get_or, reverse, take, max, Contains, refl, sym, ap, ◌∙◌, subst, arith}
use Rattle.std.specs.Prelude.{unwrap_or, option_map, is_some, nat_lt, IsSome, All, slice_get}
use Rattle.std.specs.BTreeSet.{insert_key}
use Rattle.std.specs.BTreeMap.Range.{IsLtBy}
use Rattle.std.specs.declared.cmp.Ordering.{Ordering}
use Rattle.std.specs.declared.cmp.Ordering.TheVariants.{Less, Equal, Greater}
use Rattle.std.specs.Ordering.{nat_cmp, match_ordering, is_lt}
use Rattle.std.proofs.lemmas.Bool.{false≢true, cases_lt, ltb-true, ltb-false}
use Rattle.std.proofs.lemmas.List.{reverse-append, take_more, take_all}
use Rattle.std.proofs.lemmas.List.Elements.{All-push, All-contains, Contains-append_left, Contains-append_right, Contains-append_cases, Contains-push, Contains-push_cases, Contains-get_or}
use Rattle.std.proofs.lemmas.List.Quantifiers.{all_pairs_push}
use Rattle.std.proofs.lemmas.Cmp.{ranked}
use Rattle.std.proofs.lemmas.Map.Keys.{ge_from_not_lt}
use Rattle.std.proofs.lemmas.Map.Lookups.{exact_unsigned}
use Rattle.std.proofs.lemmas.Option.{get_or_from_slice_get, slice_get_within}
use Rattle.log_law.specs.declared.Lit.{Lit}
use Rattle.log_law.specs.declared.Step.{Step}
use Rattle.log_law.specs.Clauses.{Clause, negated, IsVariable, IsClause}
use Rattle.log_law.specs.Logs.{IsIdentifier, clause_at}
use Rattle.log_law.specs.Trails.{no_step, step_at, place_of, level_of, reason_of, reason_at, Names, negated_at, HaveSame, Resolved}
use Rattle.log_law.specs.Trails.Resolved.{begin, back}
use Rattle.log_law.specs.SearchLaws.{IsConflict}
use Rattle.log_law.proofs.Lists.{all_members, contains_here, contains_later, contains_cases, contains_none, contains_one, contains_map, map_from}
use Rattle.log_law.proofs.Steps.{one_place}
use Rattle.log_law.proofs.Found.{steps_are_found}
use Rattle.log_law.proofs.Proved.{places_are_found, places_have_steps, places_begin, places_go_back, resolutions_keep_the_level, later_steps_have_reasons, reasons_are_earlier}
use Rattle.sat_state.specs.Searches.{Search, IsSearch}
use Rattle.sat_search.specs.Resolutions.{IsResolving, IsLast, IsResolved}

-- ---- sets of places
-- one more than the greatest
abbrev pub end_of : List ℕ → ℕ
end_of [] = 0
end_of (p ∷ ps) = max (suc p) (end_of ps)

pub end_below : (n : ℕ) (ps : List ℕ) → ((p : ℕ) → Contains ps p → p < n) → end_of ps ≤ n
end_below n [] f = omega arith
end_below n (p ∷ ps) f =
    let a : p < n = f p (0, omega arith, refl) in
    let b = end_below n ps (λ q c. f q (later q c)) in
    omega (arith, a, b)
  where
    later : (q : ℕ) → Contains ps q → Contains (p ∷ ps) q
    later q (k, l, e) = (suc k, omega arith, e)

pub end_past : (ps : List ℕ) (p : ℕ) → p < end_of (ps ++ p ∷ [])
end_past [] p = omega arith
end_past (q ∷ ps) p = let a = end_past ps p in omega (arith, a)

contains_insert : (ks : List ℕ) (k p : ℕ) → Contains (insert_key nat_cmp ks k) p ↔ (Contains ks p ⊎ (p ≡ k))
contains_insert [] k p = (λ c. inr (contains_one p k c), from)
  where
    from : Contains [] p ⊎ (p ≡ k) → Contains (k ∷ []) p
    from (inl c) = absurd (contains_none p c)
    from (inr e) = contains_here p k [] (sym e)
contains_insert (x ∷ xs) k p = at (nat_cmp k x) refl (contains_insert xs k p)
  where
    Inserted : List ℕ → Type 0
    Inserted ks = Contains ks p ↔ (Contains (x ∷ xs) p ⊎ (p ≡ k))

    front : Contains (x ∷ xs) p ⊎ (p ≡ k) → Contains (k ∷ x ∷ xs) p
    front (inl c) = contains_later p k (x ∷ xs) c
    front (inr e) = contains_here p k (x ∷ xs) (sym e)

    in_front : (k ≡ p) ⊎ Contains (x ∷ xs) p → Contains (x ∷ xs) p ⊎ (p ≡ k)
    in_front (inl e) = inr (sym e)
    in_front (inr c) = inl c

    there : k ≡ x → Contains (x ∷ xs) p ⊎ (p ≡ k) → Contains (x ∷ xs) p
    there i (inl c) = c
    there i (inr e) = contains_here p x xs (sym i ∙ sym e)

    deeper : Contains xs p ⊎ (p ≡ k) → Contains (x ∷ xs) p ⊎ (p ≡ k)
    deeper (inl c) = inl (contains_later p x xs c)
    deeper (inr e) = inr e

    behind : Contains (insert_key nat_cmp xs k) p ↔ (Contains xs p ⊎ (p ≡ k)) → (x ≡ p) ⊎ Contains (insert_key nat_cmp xs k) p → Contains (x ∷ xs) p ⊎ (p ≡ k)
    behind again (inl e) = inl (contains_here p x xs e)
    behind again (inr c) = deeper (again.0 c)

    first : Contains (insert_key nat_cmp xs k) p ↔ (Contains xs p ⊎ (p ≡ k)) → (x ≡ p) ⊎ Contains xs p → Contains (x ∷ insert_key nat_cmp xs k) p
    first again (inl e) = contains_here p x (insert_key nat_cmp xs k) e
    first again (inr c) = contains_later p x (insert_key nat_cmp xs k) (again.1 (inl c))

    put : Contains (insert_key nat_cmp xs k) p ↔ (Contains xs p ⊎ (p ≡ k)) → Contains (x ∷ xs) p ⊎ (p ≡ k) → Contains (x ∷ insert_key nat_cmp xs k) p
    put again (inl c) = first again (contains_cases p x xs c)
    put again (inr e) = contains_later p x (insert_key nat_cmp xs k) (again.1 (inr e))

    at : (o : Ordering) → nat_cmp k x ≡ o → Contains (insert_key nat_cmp xs k) p ↔ (Contains xs p ⊎ (p ≡ k)) → Inserted (match_ordering (nat_cmp k x) (k ∷ x ∷ xs) (x ∷ xs) (x ∷ insert_key nat_cmp xs k))
    at Less e again = subst (λ (o : Ordering). Inserted (match_ordering o (k ∷ x ∷ xs) (x ∷ xs) (x ∷ insert_key nat_cmp xs k))) (sym e) (λ c. in_front (contains_cases p k (x ∷ xs) c), front)
    at Equal e again = subst (λ (o : Ordering). Inserted (match_ordering o (k ∷ x ∷ xs) (x ∷ xs) (x ∷ insert_key nat_cmp xs k))) (sym e) (λ c. inl c, there (exact_unsigned k x e))
    at Greater e again = subst (λ (o : Ordering). Inserted (match_ordering o (k ∷ x ∷ xs) (x ∷ xs) (x ∷ insert_key nat_cmp xs k))) (sym e) (λ c. behind again (contains_cases p x (insert_key nat_cmp xs k) c), put again)

-- ---- the literals of places
-- the order of what is left is free
pub resolved_same : (clauses : List Clause) (trail : List Step) (conflict : Clause) (used : List ℕ) (clause other : Clause) → Resolved clauses trail conflict used clause → HaveSame other clause → Resolved clauses trail conflict used other
resolved_same clauses trail conflict [] clause other (begin _ h) e = begin other (λ l. (λ c. (h l).0 ((e l).0 c), λ c. (e l).1 ((h l).1 c)))
resolved_same clauses trail conflict (place ∷ used) clause other (back _ _ before _ R b later reason stands res) e =
    back place used before other R b later reason stands (λ l. (λ c. (res l).0 ((e l).0 c), λ c. (e l).1 ((res l).1 c)))

-- ---- a set loses its greatest place
pub below_popped : (ps : List ℕ) (place : ℕ) → All (λ p. IsLtBy nat_cmp p place) ps → All (λ p. p < place) ps
below_popped ps place h k d l = less (get_or ps k d) place (h k d l)
  where
    less : (p q : ℕ) → nat_cmp p q ≡ Less → p < q
    less p q e = ranked p q Less (sym e)

pub end_less : (old new rest : List ℕ) (place : ℕ) → old ≡ rest ++ place ∷ [] → All (λ p. p < place) rest → ((p : ℕ) → Contains new p → Contains rest p ⊎ (p < place)) → end_of new < end_of old
end_less old new rest place e last f =
    let a = end_below place new (λ p c. at p (f p c)) in
    let b : place < end_of old = subst (λ (ps : List ℕ). place < end_of ps) (sym e) (end_past rest place) in
    omega (arith, a, b)
  where
    at : (p : ℕ) → Contains rest p ⊎ (p < place) → p < place
    at p (inl c) = All-contains (λ q. q < place) rest p last c
    at p (inr l) = l

pub none_popped : (ps : List ℕ) (told : Option ℕ) → IsSome told ↔ (0 < length ps) → told ≡ None → ps ≡ []
none_popped [] told h e = refl
none_popped (p ∷ ps) told h e = absurd (false≢true (ap (λ (o : Option ℕ). is_some o) (sym e) ∙ h.1 (omega arith)))

-- a set gets the places before one at which variables of a clause were assigned
abbrev pub AreAdded : Search → Clause → ℕ → List ℕ → List ℕ → Type 0
AreAdded s clause before old new = (p : ℕ) → Contains new p ↔ (Contains old p ⊎ ((p < before) × (p < length s.trail) × Names clause (step_at s.trail p).literal.var))

module _ (s : Search) (S : IsSearch s) where
  abbrev var_at : ℕ → ℕ
  var_at place = (step_at s.trail place).literal.var

  pub step_fits : (place : ℕ) → place < length s.trail → IsVariable s.variables (var_at place)
  step_fits place b = S.in_range place no_step b

  pub clause_fits : (id : ℕ) → IsIdentifier s.clauses id → IsClause s.variables (clause_at s.clauses id)
  clause_fits id i = S.clauses_fit (id - 1) [] (omega arith)

  pub step_level : (place : ℕ) → place < length s.trail → level_of s.trail (var_at place) ≡ Some (step_at s.trail place).level
  step_level place b = ap (option_map (λ (t : Step). t.level)) (steps_are_found s.clauses s.trail s.level place S.trail b)

  step_reason : (place : ℕ) → place < length s.trail → reason_of s.trail (var_at place) ≡ (step_at s.trail place).reason
  step_reason place b = ap (λ (o : Option Step). unwrap_or (option_map (λ (t : Step). t.reason) o) None) (steps_are_found s.clauses s.trail s.level place S.trail b)

  -- ---- what the state tells
  pub told_fits : (place : ℕ) (l : Lit) → place < length s.trail → l ≡ (step_at s.trail place).literal → IsVariable s.variables l.var
  told_fits place l b i = subst (λ (k : Lit). IsVariable s.variables k.var) (sym i) (step_fits place b)

  pub told_level : (place : ℕ) (l : Lit) (told : Option ℕ) → place < length s.trail → l ≡ (step_at s.trail place).literal → told ≡ level_of s.trail l.var → unwrap_or told 0 ≡ (step_at s.trail place).level
  told_level place l told b i e = ap (λ (o : Option ℕ). unwrap_or o 0) (e ∙ (ap (λ (k : Lit). level_of s.trail k.var) i ∙ step_level place b))

  pub told_reason : (place reason : ℕ) (l : Lit) (told : Option ℕ) → place < length s.trail → l ≡ (step_at s.trail place).literal → told ≡ reason_of s.trail l.var → told ≡ Some reason → reason_at s.trail place ≡ reason
  told_reason place reason l told b i e f = ap (λ (o : Option ℕ). unwrap_or o 0) (sym (step_reason place b) ∙ (sym (e ∙ ap (λ (k : Lit). reason_of s.trail k.var) i) ∙ f))

  pub told_none : (place : ℕ) (l : Lit) (told : Option ℕ) → place < length s.trail → (step_at s.trail place).reason ≢ None → l ≡ (step_at s.trail place).literal → told ≡ reason_of s.trail l.var → told ≡ None → ⊥
  told_none place l told b r i e f = r (sym (step_reason place b) ∙ (sym (e ∙ ap (λ (k : Lit). reason_of s.trail k.var) i) ∙ f))

  pub told_known : (place reason : ℕ) → place < length s.trail → (step_at s.trail place).reason ≢ None → reason_at s.trail place ≡ reason → IsIdentifier s.clauses reason
  told_known place reason b r e = let g = reasons_are_earlier s.clauses s.trail s.level place S.trail b r in subst (IsIdentifier s.clauses) e g.0

  pub told_clause : (id : ℕ) (clause : Clause) → IsIdentifier s.clauses id → clause ≡ clause_at s.clauses id → IsClause s.variables clause
  told_clause id clause i e = subst (IsClause s.variables) (sym e) (clause_fits id i)

  one_at : (p q : ℕ) → p < length s.trail → q < length s.trail → var_at p ≡ var_at q → p ≡ q
  one_at p q a b e = one_place s.clauses s.trail s.level S.trail p q a b e

  pub level_up : (p q : ℕ) → p ≤ q → q < length s.trail → (step_at s.trail p).level ≤ (step_at s.trail q).level
  level_up p q a b = sort (cases_lt p q)
    where
      sort : (p < q) ⊎ (q ≤ p) → (step_at s.trail p).level ≤ (step_at s.trail q).level
      sort (inl l) = S.trail.ascending p q no_step l b
      sort (inr l) = let e : p ≡ q = omega arith in let f : (step_at s.trail p).level ≡ (step_at s.trail q).level = ap (λ (x : ℕ). (step_at s.trail x).level) e in omega arith

  -- ---- adding the places of a clause
  pub added_none : (before : ℕ) (old : List ℕ) → AreAdded s [] before old old
  added_none before old p = (λ c. inl c, at)
    where
      at : Contains old p ⊎ ((p < before) × (p < length s.trail) × Names [] (var_at p)) → Contains old p
      at (inl c) = c
      at (inr (_, _, (l, c, _))) = absurd (contains_none l c)

  module _ (clause : Clause) (before i : ℕ) (x : Lit) (g : slice_get clause i ≡ Some x) (old now : List ℕ) (O : AreAdded s (take i clause) before old now) where
    grown : take (i + 1) clause ≡ take i clause ++ x ∷ []
    grown = take_more clause i x (slice_get_within clause i x g) ∙ ap (λ (y : Lit). take i clause ++ y ∷ []) (get_or_from_slice_get clause i x x g)

    names_more : (v : ℕ) → Names (take (i + 1) clause) v → Names (take i clause) v ⊎ (x.var ≡ v)
    names_more v (l, c, e) = sort (Contains-push_cases (take i clause) x l (subst (λ (d : Clause). Contains d l) grown c))
      where
        sort : Contains (take i clause) l ⊎ (x ≡ l) → Names (take i clause) v ⊎ (x.var ≡ v)
        sort (inl k) = inl (l, k, e)
        sort (inr k) = inr (ap (λ (y : Lit). y.var) k ∙ e)

    names_still : (v : ℕ) → Names (take i clause) v → Names (take (i + 1) clause) v
    names_still v (l, c, e) = (l, subst (λ (d : Clause). Contains d l) (sym grown) (Contains-append_left (take i clause) (x ∷ []) l c), e)

    names_here : Names (take (i + 1) clause) x.var
    names_here = (x, subst (λ (d : Clause). Contains d x) (sym grown) (Contains-push (take i clause) x), refl)

    abbrev Now : ℕ → Type 0
    Now p = (p < before) × (p < length s.trail) × Names (take (i + 1) clause) (var_at p)

    still : (p : ℕ) → Contains now p → Contains old p ⊎ Now p
    still p c = sort ((O p).0 c)
      where
        sort : Contains old p ⊎ ((p < before) × (p < length s.trail) × Names (take i clause) (var_at p)) → Contains old p ⊎ Now p
        sort (inl k) = inl k
        sort (inr (a, b, n)) = inr (a, b, names_still (var_at p) n)

    -- the variable has no step before the place
    pub added_same : ((p : ℕ) → p < before → p < length s.trail → var_at p ≢ x.var) → AreAdded s (take (i + 1) clause) before old now
    added_same none p = (still p, from)
      where
        named : p < before → p < length s.trail → Names (take i clause) (var_at p) ⊎ (x.var ≡ var_at p) → Contains now p
        named a b (inl n) = (O p).1 (inr (a, b, n))
        named a b (inr e) = absurd (none p a b (sym e))

        from : Contains old p ⊎ Now p → Contains now p
        from (inl c) = (O p).1 (inl c)
        from (inr (a, b, n)) = named a b (names_more (var_at p) n)

    pub added_here : (place : ℕ) (next : List ℕ) → place_of s.trail x.var ≡ Some place → place < before → next ≡ insert_key nat_cmp now place → AreAdded s (take (i + 1) clause) before old next
    added_here place next e b f p = (λ c. to ((added p).0 c), from)
      where
        stands : (place < length s.trail) × (var_at place ≡ x.var)
        stands = let h = places_have_steps s.trail x.var place e in (h.0, h.1)

        added : (q : ℕ) → Contains next q ↔ (Contains now q ⊎ (q ≡ place))
        added q = subst (λ (ks : List ℕ). Contains ks q ↔ (Contains now q ⊎ (q ≡ place))) (sym f) (contains_insert now place q)

        to : Contains now p ⊎ (p ≡ place) → Contains old p ⊎ Now p
        to (inl c) = still p c
        to (inr h) = inr (subst Now (sym h) (b, stands.0, subst (Names (take (i + 1) clause)) (sym stands.1) names_here))

        named : p < before → p < length s.trail → Names (take i clause) (var_at p) ⊎ (x.var ≡ var_at p) → Contains next p
        named a l (inl n) = (added p).1 (inl ((O p).1 (inr (a, l, n))))
        named a l (inr w) = (added p).1 (inr (one_at p place l stands.0 (sym w ∙ sym stands.1)))

        from : Contains old p ⊎ Now p → Contains next p
        from (inl c) = (added p).1 (inl ((O p).1 (inl c)))
        from (inr (a, l, n)) = named a l (names_more (var_at p) n)

    -- the step about the variable isn't before the place, or there is none
    pub added_late : (place : ℕ) → place_of s.trail x.var ≡ Some place → before ≤ place → AreAdded s (take (i + 1) clause) before old now
    added_late place e b = added_same (λ p a l w. let h = places_have_steps s.trail x.var place e in let f : p ≡ place = one_at p place l h.0 (w ∙ sym h.1) in omega arith)

    pub added_unassigned : place_of s.trail x.var ≡ None → AreAdded s (take (i + 1) clause) before old now
    added_unassigned e = added_same (λ p a l w. some_none p (sym (places_are_found s.clauses s.trail s.level p S.trail l) ∙ (ap (place_of s.trail) w ∙ e)))
      where
        some_none : (p : ℕ) → Some p ≡ None → ⊥
        some_none p f = cc

  pub added_all : (clause : Clause) (before i n : ℕ) (old new : List ℕ) → n ≡ length clause → n ≤ i → AreAdded s (take i clause) before old new → AreAdded s clause before old new
  added_all clause before i n old new e b O = subst (λ (c : Clause). AreAdded s c before old new) (take_all i clause (omega arith)) O

  -- ---- the begin
  pub begun : (conflict before : ℕ) (pending : List ℕ) → IsConflict s.clauses s.trail conflict → before ≡ length s.trail → AreAdded s (clause_at s.clauses conflict) before [] pending → IsResolving s conflict pending [] []
  begun conflict before pending X e O = record {
    pending_within = all_members (λ p. p < length s.trail) pending (λ p c. (member p ((O p).0 c)).0);
    left_within = λ k d l. absurd (omega arith);
    descending = λ i j d a b. absurd (omega arith);
    before_left = λ p q c d. absurd (contains_none q d);
    used = [];
    before_used = λ p q c d. absurd (contains_none q d);
    listed = refl;
    resolved = places_begin s.clauses s.trail s.level conflict pending S.trail X (λ p. (λ c. member p ((O p).0 c), λ (l, n). (O p).1 (inr (subst (λ (m : ℕ). p < m) (sym e) l, l, n))));
  }
    where
      member : (p : ℕ) → Contains [] p ⊎ ((p < before) × (p < length s.trail) × Names (clause_at s.clauses conflict) (var_at p)) → (p < length s.trail) × Names (clause_at s.clauses conflict) (var_at p)
      member p (inl c) = absurd (contains_none p c)
      member p (inr (_, l, n)) = (l, n)

  -- ---- a step back, and a step that stays
  module _ (conflict place : ℕ) (pending left reasons : List ℕ) (R : IsResolving s conflict (pending ++ place ∷ []) left reasons) (last : All (λ p. p < place) pending) where
    pub popped : Contains (pending ++ place ∷ []) place
    popped = Contains-push pending place

    pub popped_within : place < length s.trail
    popped_within = All-contains (λ p. p < length s.trail) (pending ++ place ∷ []) place R.pending_within popped

    below : (p : ℕ) → Contains pending p → p < place
    below p c = All-contains (λ q. q < place) pending p last c

    was : (p : ℕ) → Contains pending p → Contains (pending ++ place ∷ []) p
    was p c = Contains-append_left pending (place ∷ []) p c

    pub gone_back : (next more : List ℕ) (reason : ℕ) → (step_at s.trail place).reason ≢ None → reason_at s.trail place ≡ reason → AreAdded s (clause_at s.clauses reason) place pending next → more ≡ reasons ++ reason ∷ [] → IsResolving s conflict next left more
    gone_back next more reason r e O f = record {
      pending_within = all_members (λ p. p < length s.trail) next (λ p c. within p ((O p).0 c));
      left_within = R.left_within;
      descending = R.descending;
      before_left = λ p q c d. earlier p q ((O p).0 c) (λ b. R.before_left p q (was p b) d) (R.before_left place q popped d);
      used = place ∷ R.used;
      before_used = λ p q c d. used_before p q ((O p).0 c) (contains_cases q place R.used d);
      listed = ap reverse f ∙ (reverse-append reasons (reason ∷ []) ∙ (ap (λ (x : ℕ). x ∷ reverse reasons) (sym e) ∙ ap (λ (xs : List ℕ). reason_at s.trail place ∷ xs) R.listed));
      resolved = places_go_back s.clauses s.trail s.level conflict place R.used (left ++ (pending ++ place ∷ [])) (left ++ next) S.trail R.resolved all_within
          (Contains-append_right left (pending ++ place ∷ []) place popped) (all_members (λ later. place < later) R.used (λ q d. R.before_used place q popped d)) r (λ p. (to p, from p));
    }
      where
        Added : ℕ → Type 0
        Added p = (p < place) × (p < length s.trail) × Names (clause_at s.clauses reason) (var_at p)

        within : (p : ℕ) → Contains pending p ⊎ Added p → p < length s.trail
        within p (inl c) = All-contains (λ q. q < length s.trail) (pending ++ place ∷ []) p R.pending_within (was p c)
        within p (inr (_, l, _)) = l

        earlier : (p q : ℕ) → Contains pending p ⊎ Added p → (Contains pending p → p < q) → place < q → p < q
        earlier p q (inl c) g b = g c
        earlier p q (inr (a, _, _)) g b = omega arith

        used_before : (p q : ℕ) → Contains pending p ⊎ Added p → (place ≡ q) ⊎ Contains R.used q → p < q
        used_before p q (inl c) (inl i) = let a = below p c in omega (arith, a)
        used_before p q (inl c) (inr d) = R.before_used p q (was p c) d
        used_before p q (inr (a, _, _)) (inl i) = omega arith
        used_before p q (inr (a, _, _)) (inr d) = let b = R.before_used place q popped d in omega (arith, b)

        all_within : All (λ p. p < length s.trail) (left ++ (pending ++ place ∷ []))
        all_within = all_members (λ p. p < length s.trail) (left ++ (pending ++ place ∷ [])) (λ p c. at p (Contains-append_cases left (pending ++ place ∷ []) p c))
          where
            at : (p : ℕ) → Contains left p ⊎ Contains (pending ++ place ∷ []) p → p < length s.trail
            at p (inl c) = All-contains (λ q. q < length s.trail) left p R.left_within c
            at p (inr c) = All-contains (λ q. q < length s.trail) (pending ++ place ∷ []) p R.pending_within c

        Parts : ℕ → Type 0
        Parts p = (Contains (left ++ (pending ++ place ∷ [])) p × (p ≢ place)) ⊎ ((p < place) × Names (clause_at s.clauses (reason_at s.trail place)) (var_at p))

        to : (p : ℕ) → Contains (left ++ next) p → Parts p
        to p c = sort (Contains-append_cases left next p c)
          where
            from_reason : Contains pending p ⊎ Added p → Parts p
            from_reason (inl d) = let a = below p d in inl (Contains-append_right left (pending ++ place ∷ []) p (was p d), λ i. omega (arith, a, i))
            from_reason (inr (a, _, n)) = inr (a, subst (λ (m : ℕ). Names (clause_at s.clauses m) (var_at p)) (sym e) n)

            sort : Contains left p ⊎ Contains next p → Parts p
            sort (inl d) = let a = R.before_left place p popped d in inl (Contains-append_left left (pending ++ place ∷ []) p d, λ i. omega (arith, a, i))
            sort (inr d) = from_reason ((O p).0 d)

        from : (p : ℕ) → Parts p → Contains (left ++ next) p
        from p (inl (c, n)) = sort (Contains-append_cases left (pending ++ place ∷ []) p c)
          where
            inner : Contains pending p ⊎ (place ≡ p) → Contains (left ++ next) p
            inner (inl d) = Contains-append_right left next p ((O p).1 (inl d))
            inner (inr i) = absurd (n (sym i))

            sort : Contains left p ⊎ Contains (pending ++ place ∷ []) p → Contains (left ++ next) p
            sort (inl d) = Contains-append_left left next p d
            sort (inr d) = inner (Contains-push_cases pending place p d)
        from p (inr (a, n)) =
            let b = popped_within in
            Contains-append_right left next p ((O p).1 (inr (a, omega (arith, a, b), subst (λ (m : ℕ). Names (clause_at s.clauses m) (var_at p)) e n)))

    pub stayed : (next : List ℕ) → next ≡ left ++ place ∷ [] → IsResolving s conflict pending next reasons
    stayed next e = subst (λ (ps : List ℕ). IsResolving s conflict pending ps reasons) (sym e) record {
      pending_within = all_members (λ p. p < length s.trail) pending (λ p c. All-contains (λ q. q < length s.trail) (pending ++ place ∷ []) p R.pending_within (was p c));
      left_within = All-push (λ p. p < length s.trail) left place R.left_within popped_within;
      descending = all_pairs_push (λ later earlier. earlier < later) left place R.descending (λ k d b. R.before_left place (at k d) popped (Contains-get_or left k d b));
      before_left = λ p q c d. before p q c (Contains-push_cases left place q d);
      used = R.used;
      before_used = λ p q c d. R.before_used p q (was p c) d;
      listed = R.listed;
      resolved = resolved_same s.clauses s.trail (clause_at s.clauses conflict) R.used (negated_at s.trail (left ++ (pending ++ place ∷ []))) (negated_at s.trail ((left ++ place ∷ []) ++ pending)) R.resolved same;
    }
      where
        at : ℕ → ℕ → ℕ
        at k d = get_or left k d

        before : (p q : ℕ) → Contains pending p → Contains left q ⊎ (place ≡ q) → p < q
        before p q c (inl d) = R.before_left p q (was p c) d
        before p q c (inr i) = let a = below p c in omega (arith, a, i)

        to : (p : ℕ) → Contains ((left ++ place ∷ []) ++ pending) p → Contains (left ++ (pending ++ place ∷ [])) p
        to p c = sort (Contains-append_cases (left ++ place ∷ []) pending p c)
          where
            inner : Contains left p ⊎ (place ≡ p) → Contains (left ++ (pending ++ place ∷ [])) p
            inner (inl d) = Contains-append_left left (pending ++ place ∷ []) p d
            inner (inr i) = Contains-append_right left (pending ++ place ∷ []) p (subst (Contains (pending ++ place ∷ [])) i popped)

            sort : Contains (left ++ place ∷ []) p ⊎ Contains pending p → Contains (left ++ (pending ++ place ∷ [])) p
            sort (inl d) = inner (Contains-push_cases left place p d)
            sort (inr d) = Contains-append_right left (pending ++ place ∷ []) p (was p d)

        from : (p : ℕ) → Contains (left ++ (pending ++ place ∷ [])) p → Contains ((left ++ place ∷ []) ++ pending) p
        from p c = sort (Contains-append_cases left (pending ++ place ∷ []) p c)
          where
            inner : Contains pending p ⊎ (place ≡ p) → Contains ((left ++ place ∷ []) ++ pending) p
            inner (inl d) = Contains-append_right (left ++ place ∷ []) pending p d
            inner (inr i) = Contains-append_left (left ++ place ∷ []) pending p (subst (Contains (left ++ place ∷ [])) i (Contains-push left place))

            sort : Contains left p ⊎ Contains (pending ++ place ∷ []) p → Contains ((left ++ place ∷ []) ++ pending) p
            sort (inl d) = Contains-append_left (left ++ place ∷ []) pending p (Contains-append_left left (place ∷ []) p d)
            sort (inr d) = inner (Contains-push_cases pending place p d)

        -- the literals of places that are the same
        moved : (ps qs : List ℕ) → ((p : ℕ) → Contains ps p → Contains qs p) → (l : Lit) → Contains (negated_at s.trail ps) l → Contains (negated_at s.trail qs) l
        moved ps qs f l c = at_place (map_from (λ p. negated (step_at s.trail p).literal) ps l c)
          where
            at_place : (p : ℕ) × Contains ps p × (negated (step_at s.trail p).literal ≡ l) → Contains (negated_at s.trail qs) l
            at_place (p, d, i) = subst (Contains (negated_at s.trail qs)) i (contains_map (λ q. negated (step_at s.trail q).literal) qs p (f p d))

        same : HaveSame (negated_at s.trail ((left ++ place ∷ []) ++ pending)) (negated_at s.trail (left ++ (pending ++ place ∷ [])))
        same l = (moved ((left ++ place ∷ []) ++ pending) (left ++ (pending ++ place ∷ [])) to l, moved (left ++ (pending ++ place ∷ [])) ((left ++ place ∷ []) ++ pending) from l)

    pub rest_within : All (λ p. p < length s.trail) pending
    rest_within = all_members (λ p. p < length s.trail) pending (λ p c. All-contains (λ q. q < length s.trail) (pending ++ place ∷ []) p R.pending_within (was p c))

  -- ---- the levels of pending places
  module _ (places : List ℕ) (place told level : ℕ) (within : All (λ p. p < length s.trail) places) (last : slice_get places (length places - 1) ≡ Some place) (greatest : All (λ q. is_lt (nat_cmp place q) ≡ false) places) (t : told ≡ (step_at s.trail place).level) (e : level ≡ s.level) where
    there : Contains places place
    there = subst (Contains places) (get_or_from_slice_get places (length places - 1) place place last) (Contains-get_or places (length places - 1) place (slice_get_within places (length places - 1) place last))

    at_place : place < length s.trail
    at_place = All-contains (λ p. p < length s.trail) places place within there

    pub all_lower : nat_lt told level ≡ true → All (λ p. (step_at s.trail p).level < s.level) places
    all_lower h = all_members (λ p. (step_at s.trail p).level < s.level) places (λ p c.
        let a : p ≤ place = ge_from_not_lt place p (All-contains (λ q. is_lt (nat_cmp place q) ≡ false) places p greatest c) in
        let u : (step_at s.trail p).level ≤ (step_at s.trail place).level = level_up p place a at_place in
        let b : told < level = ltb-true told level h in
        omega (arith, u, b, t, e))

    pub another_there : nat_lt told level ≡ false → (p : ℕ) × Contains places p × ((step_at s.trail p).level ≡ s.level)
    another_there h =
        let b : level ≤ told = ltb-false told level h in
        let v : (step_at s.trail place).level ≤ s.level = S.trail.at_most place no_step at_place in
        (place, there, omega (arith, b, v, t, e))

  -- ---- the last place of the present level
  -- a place that is left or pending is of the present level
  present : (conflict : ℕ) (pending left reasons : List ℕ) → 0 < s.level → IsConflict s.clauses s.trail conflict → IsResolving s conflict pending left reasons → (q : ℕ) × Contains (left ++ pending) q × (q < length s.trail) × ((step_at s.trail q).level ≡ s.level)
  present conflict pending left reasons up X R = from (resolutions_keep_the_level s.clauses s.trail s.level conflict R.used (negated_at s.trail (left ++ pending)) up S.trail X R.resolved)
    where
      within : (p : ℕ) → Contains left p ⊎ Contains pending p → p < length s.trail
      within p (inl c) = All-contains (λ q. q < length s.trail) left p R.left_within c
      within p (inr c) = All-contains (λ q. q < length s.trail) pending p R.pending_within c

      at : (q : ℕ) → q < length s.trail → (step_at s.trail q).level ≡ s.level → (p : ℕ) × Contains (left ++ pending) p × (negated (step_at s.trail p).literal ≡ negated (step_at s.trail q).literal) → (q : ℕ) × Contains (left ++ pending) q × (q < length s.trail) × ((step_at s.trail q).level ≡ s.level)
      at q b e (p, c, i) =
          let f : p ≡ q = one_at p q (within p (Contains-append_cases left pending p c)) b (ap (λ (k : Lit). k.var) i) in
          (q, subst (Contains (left ++ pending)) f c, b, e)

      from : (q : ℕ) × (q < length s.trail) × ((step_at s.trail q).level ≡ s.level) × Contains (negated_at s.trail (left ++ pending)) (negated (step_at s.trail q).literal) → (q : ℕ) × Contains (left ++ pending) q × (q < length s.trail) × ((step_at s.trail q).level ≡ s.level)
      from (q, b, e, h) = at q b e (map_from (λ p. negated (step_at s.trail p).literal) (left ++ pending) (negated (step_at s.trail q).literal) h)

  pub never_none : (conflict : ℕ) (pending left reasons : List ℕ) → 0 < s.level → IsConflict s.clauses s.trail conflict → IsResolving s conflict pending left reasons → left ≡ [] → pending ≡ [] → ⊥
  never_none conflict pending left reasons up X R e f = from (present conflict pending left reasons up X R)
    where
      from : (q : ℕ) × Contains (left ++ pending) q × (q < length s.trail) × ((step_at s.trail q).level ≡ s.level) → ⊥
      from (q, c, _, _) = contains_none q (subst (λ (ps : List ℕ). Contains (ps ++ []) q) e (subst (λ (ps : List ℕ). Contains (left ++ ps) q) f c))

  module _ (conflict place : ℕ) (pending left reasons : List ℕ) (up : 0 < s.level) (X : IsConflict s.clauses s.trail conflict) (R : IsResolving s conflict (pending ++ place ∷ []) left reasons) (last : All (λ p. p < place) pending) (e : left ≡ []) where
    -- it is of the present level
    pub level_here : (step_at s.trail place).level ≡ s.level
    level_here = from (present conflict (pending ++ place ∷ []) left reasons up X R)
      where
        b : place < length s.trail
        b = popped_within conflict place pending left reasons R last

        upto : (q : ℕ) → Contains pending q ⊎ (place ≡ q) → q ≤ place
        upto q (inl c) = let a = below conflict place pending left reasons R last q c in omega (arith, a)
        upto q (inr i) = omega arith

        from : (q : ℕ) × Contains (left ++ (pending ++ place ∷ [])) q × (q < length s.trail) × ((step_at s.trail q).level ≡ s.level) → (step_at s.trail place).level ≡ s.level
        from (q, c, l, i) =
            let d : Contains (pending ++ place ∷ []) q = subst (λ (ps : List ℕ). Contains (ps ++ (pending ++ place ∷ [])) q) e c in
            let u : (step_at s.trail q).level ≤ (step_at s.trail place).level = level_up q place (upto q (Contains-push_cases pending place q d)) b in
            let v : (step_at s.trail place).level ≤ s.level = S.trail.at_most place no_step b in
            omega (arith, u, v, i)

    pub has_reason : (p : ℕ) × Contains pending p × ((step_at s.trail p).level ≡ s.level) → (step_at s.trail place).reason ≢ None
    has_reason (p, c, i) = later_steps_have_reasons s.clauses s.trail s.level place S.trail (popped_within conflict place pending left reasons R last) (inr (p, below conflict place pending left reasons R last p c, i ∙ sym level_here))

    pub is_last : (next : List ℕ) → next ≡ left ++ place ∷ [] → All (λ p. (step_at s.trail p).level < s.level) pending → IsLast s pending next
    is_last next f lower = record {
      place = place;
      only = f ∙ ap (λ (ps : List ℕ). ps ++ place ∷ []) e;
      at_level = level_here;
      lower = lower;
    }

  -- ---- level 0
  pub ground_reason : (place : ℕ) → place < length s.trail → (step_at s.trail place).level ≡ 0 → (step_at s.trail place).reason ≢ None
  ground_reason place b z = later_steps_have_reasons s.clauses s.trail s.level place S.trail b (inl z)

  -- ---- the end
  pub resolved_last : (pending left after : List ℕ) → 0 < s.level → IsLast s pending left → ((p : ℕ) → Contains left p → Contains after p) → ((p : ℕ) → Contains after p → Contains left p ⊎ (Contains pending p × (0 < (step_at s.trail p).level))) → IsResolved s after
  resolved_last pending left after up L stay from =
      inl (up, (L.place, stay L.place (subst (λ (ps : List ℕ). Contains ps L.place) (sym L.only) (0, omega arith, refl)), L.at_level, λ q c. sort q (from q c)))
    where
      sort : (q : ℕ) → Contains left q ⊎ (Contains pending q × (0 < (step_at s.trail q).level)) → (q ≡ L.place) ⊎ ((step_at s.trail q).level < s.level)
      sort q (inl c) = inl (contains_one q L.place (subst (λ (ps : List ℕ). Contains ps q) L.only c))
      sort q (inr (c, _)) = inr (All-contains (λ p. (step_at s.trail p).level < s.level) pending q L.lower c)

  pub resolved_ground : (pending left after : List ℕ) → s.level ≡ 0 → left ≡ [] → All (λ p. p < length s.trail) pending → ((p : ℕ) → Contains after p → Contains left p ⊎ (Contains pending p × (0 < (step_at s.trail p).level))) → IsResolved s after
  resolved_ground pending left after z e within from = inr (z, none after (λ p c. sort p (from p c)))
    where
      none : (ps : List ℕ) → ((p : ℕ) → Contains ps p → ⊥) → ps ≡ []
      none [] f = refl
      none (p ∷ ps) f = absurd (f p (0, omega arith, refl))

      sort : (p : ℕ) → Contains left p ⊎ (Contains pending p × (0 < (step_at s.trail p).level)) → ⊥
      sort p (inl c) = contains_none p (subst (λ (ps : List ℕ). Contains ps p) e c)
      sort p (inr (c, u)) = let v = S.trail.at_most p no_step (All-contains (λ q. q < length s.trail) pending p within c) in omega (arith, u, v, z)
