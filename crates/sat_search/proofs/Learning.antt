-- What a conflict teaches may be learnt where the search goes back to.
use Rattle.std.proofs.Common.{◌≡◌, ◌≢◌, ◌⊎◌, inl, inr, ℕ, ◌+◌, ◌<◌, ◌≤◌, true, Option, Some, List, [], ◌∷◌, ◌++◌, length, get_or, reverse, take, Contains, refl, sym, ap, ◌∙◌, subst, arith}
use Rattle.std.specs.Prelude.{All, AllPairs, filter, nat_le, slice_get}
use Rattle.std.proofs.lemmas.List.{append-nil, take_more, take_all}
use Rattle.std.proofs.lemmas.List.Elements.{Contains-push_cases, Contains-get_or}
use Rattle.std.proofs.lemmas.Option.{get_or_from_slice_get, slice_get_within}
use Rattle.log_law.specs.declared.Lit.{Lit}
use Rattle.log_law.specs.declared.Step.{Step}
use Rattle.log_law.specs.Clauses.{Clause, Formula, negated, IsClause}
use Rattle.log_law.specs.Units.{value, IsLitTrue, IsUnassigned, IsUnit}
use Rattle.log_law.specs.Logs.{Line, known, clause_at}
use Rattle.log_law.specs.Trails.{no_step, step_at, level_of, up_to, HaveSame, negated_at, IsTrail, Resolved, IsAsserting, IsLearnt}
use Rattle.log_law.specs.SearchLaws.{IsConflict, IsFresh}
use Rattle.log_law.proofs.Lists.{all_members, any_member, contains_at, filter_from}
use Rattle.log_law.proofs.Values.{lit_cases, none_is, true_false, unit_member, unit_others}
use Rattle.log_law.proofs.Proved.{learnt_lines_follow, learnt_lines_assert, places_assert}
use Rattle.sat_state.specs.Searches.{Search, IsSearch, MayLearn}
use Rattle.sat_search.specs.Resolutions.{IsResolving, IsResolved}
use Rattle.sat_search.specs.Lessons.{IsEnd, IsLesson}
use Rattle.sat_search.proofs.Resolving.{step_level}

-- ---- the line
pub lesson_is : (s : Search) (S : IsSearch s) (conflict : ℕ) (left reasons : List ℕ) (line : Line) → IsResolving s conflict [] left reasons → IsResolved s left
    → line.id ≡ length s.clauses + 1 → AllPairs (λ k l. k.var < l.var) line.literals → HaveSame line.literals (negated_at s.trail left) → line.hints ≡ reverse reasons ++ conflict ∷ [] → IsLesson s conflict line
lesson_is s S conflict left reasons line R E id up same hints = record {
  used = R.used;
  clause = negated_at s.trail left;
  resolved = subst (λ (ps : List ℕ). Resolved s.clauses s.trail (clause_at s.clauses conflict) R.used (negated_at s.trail ps)) (append-nil left) R.resolved;
  learnt = record {
    next_id = id;
    sorted = up;
    same = same;
    hints = hints ∙ ap (λ (xs : List ℕ). xs ++ conflict ∷ []) R.listed;
  };
  ends = ends E;
}
  where
    ends : IsResolved s left → IsEnd s (negated_at s.trail left)
    ends (inl (above, (place, c, e, f))) = inl (above, (place, places_assert s.clauses s.trail s.level place left S.trail R.left_within c e f))
    ends (inr (z, e)) = inr (z, ap (negated_at s.trail) e)

-- ---- the highest of the lower levels
abbrev pub IsHighest : Search → Clause → ℕ → Type 0
IsHighest s clause lower = (l : Lit) → Contains clause l → (level : ℕ) → level_of s.trail l.var ≡ Some level → level < s.level → level ≤ lower

abbrev pub IsMet : Search → Clause → ℕ → Type 0
IsMet s clause lower = (lower ≡ 0) ⊎ ((l : Lit) × Contains clause l × (level_of s.trail l.var ≡ Some lower))

pub highest_none : (s : Search) (lower : ℕ) → IsHighest s [] lower
highest_none s lower l (k, b, e) = absurd (omega arith)

pub highest_more : (s : Search) (clause : Clause) (i : ℕ) (x : Lit) (told : Option ℕ) (lower next : ℕ) → slice_get clause i ≡ Some x → told ≡ level_of s.trail x.var → lower ≤ next → ((level : ℕ) → told ≡ Some level → level < s.level → level ≤ next)
    → IsHighest s (take i clause) lower → IsHighest s (take (i + 1) clause) next
highest_more s clause i x told lower next g t m f h l c level e b = sort (Contains-push_cases (take i clause) x l (subst (λ (d : Clause). Contains d l) grown c))
  where
    grown : take (i + 1) clause ≡ take i clause ++ x ∷ []
    grown = take_more clause i x (slice_get_within clause i x g) ∙ ap (λ (y : Lit). take i clause ++ y ∷ []) (get_or_from_slice_get clause i x x g)

    sort : Contains (take i clause) l ⊎ (x ≡ l) → level ≤ next
    sort (inl k) = let a : level ≤ lower = h l k level e b in omega arith
    sort (inr k) = f level (t ∙ (ap (λ (y : Lit). level_of s.trail y.var) k ∙ e)) b

pub highest_all : (s : Search) (clause : Clause) (i n lower : ℕ) → n ≡ length clause → n ≤ i → IsHighest s (take i clause) lower → IsHighest s clause lower
highest_all s clause i n lower e b h = subst (λ (d : Clause). IsHighest s d lower) (take_all i clause (omega arith)) h

pub met_here : (s : Search) (clause : Clause) (i : ℕ) (x : Lit) (told : Option ℕ) (lower : ℕ) → slice_get clause i ≡ Some x → told ≡ level_of s.trail x.var → told ≡ Some lower → IsMet s clause lower
met_here s clause i x told lower g t e = inr (x, subst (Contains clause) (get_or_from_slice_get clause i x x g) (Contains-get_or clause i x (slice_get_within clause i x g)), sym t ∙ e)

-- ---- learning
abbrev own : Search → Formula
own s = record { variables = s.variables; clauses = s.clauses }

-- the state after going back
abbrev pub back_at : Search → ℕ → Search
back_at s lower = record { variables = s.variables; clauses = s.clauses; trail = filter (λ (step : Step). nat_le step.level lower) s.trail; level = lower }

module _ (s : Search) (S : IsSearch s) (conflict : ℕ) (X : IsConflict s.clauses s.trail conflict) (line : Line) (L : IsLesson s conflict line) where
  abbrev Fits : List Clause → Type 0
  Fits C = All (IsClause s.variables) C → IsTrail C s.trail s.level → IsConflict C s.trail conflict → Resolved C s.trail (clause_at C conflict) L.used L.clause → IsLearnt C s.trail conflict L.used L.clause line → IsClause s.variables line.literals

  pub lesson_fits : IsClause s.variables line.literals
  lesson_fits = subst Fits (append-nil s.clauses) base S.clauses_fit S.trail X L.resolved L.learnt
    where
      base : Fits (known (own s) [])
      base A T x R N = let f = learnt_lines_follow (own s) [] s.trail s.level conflict L.used L.clause line A T x R N in f.literals_fit

  module _ (lower place : ℕ) (A : IsAsserting s.trail s.level L.clause place) (below : lower < s.level) (highest : IsHighest s line.literals lower) where
    abbrev stands : Lit
    stands = negated (step_at s.trail place).literal

    abbrev Asserts : List Clause → Type 0
    Asserts C = IsTrail C s.trail s.level → IsConflict C s.trail conflict → Resolved C s.trail (clause_at C conflict) L.used L.clause → IsLearnt C s.trail conflict L.used L.clause line → IsUnit (up_to lower s.trail) line.literals stands

    others : (other : ℕ) → other < length s.trail → Contains L.clause (negated (step_at s.trail other).literal) → (other ≡ place) ⊎ ((step_at s.trail other).level ≤ lower)
    others other b c = sort (A.others other b c)
      where
        sort : (other ≡ place) ⊎ ((step_at s.trail other).level < s.level) → (other ≡ place) ⊎ ((step_at s.trail other).level ≤ lower)
        sort (inl e) = inl e
        sort (inr l) = let k = L.learnt.same (negated (step_at s.trail other).literal) in inr (highest (negated (step_at s.trail other).literal) (k.1 c) (step_at s.trail other).level (step_level s S other b) l)

    pub lesson_unit : IsUnit (up_to lower s.trail) line.literals stands
    lesson_unit = subst Asserts (append-nil s.clauses) base S.trail X L.resolved L.learnt
      where
        base : Asserts (known (own s) [])
        base T x R N = learnt_lines_assert (own s) [] s.trail s.level conflict L.used L.clause line place lower T x R N A.here A.stands (subst (λ (n : ℕ). lower < n) (sym A.at_level) below) others

    -- a literal of a level from the lower one on
    fresh : (l : Lit) (level : ℕ) → level_of s.trail l.var ≡ Some level → lower ≤ level → IsFresh (back_at s lower).trail lower l
    fresh l level e m p b v = at (step_at (back_at s lower).trail p) v (filter_from (λ (t : Step). nat_le t.level lower) s.trail (step_at (back_at s lower).trail p) (Contains-get_or (back_at s lower).trail p no_step b))
      where
        there : (step : Step) → step.literal.var ≡ l.var → (q : ℕ) × (q < length s.trail) × (get_or s.trail q no_step ≡ step) → lower ≤ step.level
        there step w (q, c, i) =
            let f : Some (step_at s.trail q).level ≡ Some level = sym (step_level s S q c) ∙ (ap (λ (t : Step). level_of s.trail t.literal.var) i ∙ (ap (level_of s.trail) w ∙ e)) in
            let g : (step_at s.trail q).level ≡ level = cc in
            let h : (step_at s.trail q).level ≡ step.level = ap (λ (t : Step). t.level) i in
            omega arith

        at : (step : Step) → step.literal.var ≡ l.var → Contains s.trail step × (nat_le step.level lower ≡ true) → lower ≤ step.level
        at step w (c, t) = there step w (contains_at s.trail step no_step c)

    two : IsMet s line.literals lower → 0 < lower → (k : Lit) × (l : Lit) × Contains line.literals k × Contains line.literals l × (k ≢ l) × IsFresh (back_at s lower).trail lower k × IsFresh (back_at s lower).trail lower l
    two (inl z) up = absurd (omega arith)
    two (inr (l, c, e)) up =
        (stands, l, unit_member (up_to lower s.trail) line.literals stands lesson_unit, c, differs, fresh stands s.level here (omega arith), fresh l lower e (omega arith))
      where
        here : level_of s.trail stands.var ≡ Some s.level
        here = step_level s S place A.here ∙ ap (λ (n : ℕ). Some n) A.at_level

        differs : stands ≢ l
        differs i =
            let f : Some s.level ≡ Some lower = sym here ∙ (ap (λ (k : Lit). level_of s.trail k.var) i ∙ e) in
            let g : s.level ≡ lower = cc in
            omega arith

    lesson_may : IsMet s line.literals lower → MayLearn (back_at s lower) line.literals
    lesson_may met = record {
      fits = lesson_fits;
      untrue = all_members (λ (l : Lit). ¬ IsLitTrue (up_to lower s.trail) l) line.literals (λ l c t. not_true l c t (lit_cases l stands));
      free = any_member (IsUnassigned (up_to lower s.trail)) line.literals stands (unit_member (up_to lower s.trail) line.literals stands lesson_unit) lesson_unit.unassigned;
      second = two met;
    }
      where
        not_true : (l : Lit) → Contains line.literals l → IsLitTrue (up_to lower s.trail) l → (l ≡ stands) ⊎ (l ≢ stands) → ⊥
        not_true l c t (inl e) = none_is (sym t ∙ (ap (λ (k : Lit). value (up_to lower s.trail) k.var) e ∙ lesson_unit.unassigned))
        not_true l c t (inr n) = true_false (up_to lower s.trail) l t (unit_others (up_to lower s.trail) line.literals stands lesson_unit l c n)

  pub may_learn : (lower : ℕ) → 0 < s.level → lower < s.level → IsHighest s line.literals lower → IsMet s line.literals lower → MayLearn (back_at s lower) line.literals
  may_learn lower up below highest met = from L.ends
    where
      from : IsEnd s L.clause → MayLearn (back_at s lower) line.literals
      from (inl (above, (place, A))) = lesson_may lower place A below highest met
      from (inr (z, e)) = absurd (omega arith)

  -- at level 0 nothing is left
  pub lesson_empty : s.level ≡ 0 → line.literals ≡ []
  lesson_empty z = from L.ends
    where
      none : (c : Clause) → ((l : Lit) → Contains c l → ⊥) → c ≡ []
      none [] f = refl
      none (l ∷ c) f = absurd (f l (0, omega arith, refl))

      from : IsEnd s L.clause → line.literals ≡ []
      from (inl (above, (place, A))) = absurd (omega arith)
      from (inr (_, e)) = none line.literals (λ l c. let k = L.learnt.same l in no_member l (subst (λ (d : Clause). Contains d l) e (k.0 c)))
        where
          no_member : (l : Lit) → Contains [] l → ⊥
          no_member l (k, b, i) = omega arith
