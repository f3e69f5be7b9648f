-- The variables that wait, and their ranks.
use Rattle.std.proofs.Common.{◌≡◌, ◌≢◌, ◌⊎◌, inl, inr, ℕ, ◌+◌, ◌<◌, ◌≤◌, Bool, true, false, Option, Some, None, List, [], ◌∷◌, ◌++◌, set, get_or, length, Contains, refl, sym, ap, ◌∙◌, subst, arith, length-set}
use Rattle.std.specs.Prelude.{All, IsPermutation, filter, is_some, nat_le, option_map}
use Rattle.std.proofs.lemmas.Bool.{cases_eq, cases_lt, le-leb, true≢false}
use Rattle.std.proofs.lemmas.List.{get_or-set_same, get_or-set_other, map-append}
use Rattle.std.proofs.lemmas.List.Elements.{All-cons, All-contains, All-head, All-tail, Contains-append_left, Contains-append_right}
use Rattle.std.proofs.lemmas.List.Sorted.{All-permutation, Contains-permutation, IsPermutation-map}
use Rattle.log_law.specs.declared.Lit.{Lit}
use Rattle.log_law.specs.declared.Step.{Step}
use Rattle.log_law.specs.Clauses.{IsVariable}
use Rattle.log_law.specs.Units.{Partial, value}
use Rattle.log_law.specs.Trails.{no_step, step_at, literals, level_of, up_to, IsTrail}
use Rattle.log_law.proofs.Found.{steps_are_found}
use Rattle.log_law.proofs.Lists.{all_members, contains_at, contains_here, contains_later, contains_cases, contains_map, map_from, filter_keeps}
use Rattle.log_law.proofs.Values.{value_member, value_none, none_member}
use Rattle.sat_state.specs.Searches.{Search, IsSearch, GoesOn}
use Rattle.sat_search.specs.declared.order.Rank.{Rank}
use Rattle.sat_search.specs.Choices.{Queue, IsWaiting, ranked, AreRanked, IsQueue, IsReady, KeepsWaiting}

abbrev variable_of : Rank → ℕ
variable_of rank = rank.var.0

-- ---- ranks that come in, and that go
module _ (x : Rank) (xs ys : List Rank) (p : IsPermutation (x ∷ xs) ys) where
  more : IsPermutation (ranked (x ∷ xs)) (ranked ys)
  more = IsPermutation-map variable_of (x ∷ xs) ys p

  pub in_range_more : (n : ℕ) → IsVariable n x.var.0 → All (IsVariable n) (ranked xs) → All (IsVariable n) (ranked ys)
  in_range_more n v a = All-permutation (IsVariable n) (ranked (x ∷ xs)) (ranked ys) more (All-cons (IsVariable n) x.var.0 (ranked xs) v a)

  ranked_now : Contains (ranked ys) x.var.0
  ranked_now = Contains-permutation (ranked (x ∷ xs)) (ranked ys) x.var.0 more (contains_here x.var.0 x.var.0 (ranked xs) refl)

  ranked_still : (v : ℕ) → Contains (ranked xs) v → Contains (ranked ys) v
  ranked_still v c = Contains-permutation (ranked (x ∷ xs)) (ranked ys) v more (contains_later v x.var.0 (ranked xs) c)

module _ (x : Rank) (xs ys : List Rank) (p : IsPermutation xs (x ∷ ys)) where
  fewer : IsPermutation (ranked xs) (ranked (x ∷ ys))
  fewer = IsPermutation-map variable_of xs (x ∷ ys) p

  in_range_here : (n : ℕ) → All (IsVariable n) (ranked xs) → IsVariable n x.var.0
  in_range_here n a = All-head (IsVariable n) x.var.0 (ranked ys) (All-permutation (IsVariable n) (ranked xs) (ranked (x ∷ ys)) fewer a)

  in_range_fewer : (n : ℕ) → All (IsVariable n) (ranked xs) → All (IsVariable n) (ranked ys)
  in_range_fewer n a = All-tail (IsVariable n) x.var.0 (ranked ys) (All-permutation (IsVariable n) (ranked xs) (ranked (x ∷ ys)) fewer a)

  ranked_other : (v : ℕ) → v ≢ x.var.0 → Contains (ranked xs) v → Contains (ranked ys) v
  ranked_other v n c = sort (contains_cases v x.var.0 (ranked ys) (Contains-permutation (ranked xs) (ranked (x ∷ ys)) v fewer c))
    where
      sort : (x.var.0 ≡ v) ⊎ Contains (ranked ys) v → Contains (ranked ys) v
      sort (inl e) = absurd (n (sym e))
      sort (inr k) = k

-- a rank for one more variable, or none where it doesn't wait
up_to_cases : (n v : ℕ) → IsVariable (n + 1) v → (v ≡ n + 1) ⊎ IsVariable n v
up_to_cases n v u = sort (cases_eq v (n + 1))
  where
    sort : (v ≡ n + 1) ⊎ (v ≢ n + 1) → (v ≡ n + 1) ⊎ IsVariable n v
    sort (inl e) = inl e
    sort (inr d) = inr (u.0, omega arith)

pub are_ranked_more : (n : ℕ) (waits : List Bool) (x : Rank) (xs ys : List Rank) → IsPermutation (x ∷ xs) ys → x.var.0 ≡ n + 1 → AreRanked n waits xs → AreRanked (n + 1) waits ys
are_ranked_more n waits x xs ys p i r v u h = sort (up_to_cases n v u)
  where
    sort : (v ≡ n + 1) ⊎ IsVariable n v → Contains (ranked ys) v
    sort (inl e) = subst (Contains (ranked ys)) (i ∙ sym e) (ranked_now x xs ys p)
    sort (inr w) = ranked_still x xs ys p v (r v w h)

pub are_ranked_still : (n : ℕ) (waits : List Bool) (xs : List Rank) → get_or waits (n + 1) false ≡ false → AreRanked n waits xs → AreRanked (n + 1) waits xs
are_ranked_still n waits xs none r v u h = sort (up_to_cases n v u)
  where
    sort : (v ≡ n + 1) ⊎ IsVariable n v → Contains (ranked xs) v
    sort (inl e) = absurd (true≢false (sym h ∙ (ap (λ w. get_or waits w false) e ∙ none)))
    sort (inr w) = r v w h

-- ---- one variable that waits from now on, or no more
abbrev with_wait : Queue → ℕ → Bool → Queue
with_wait queue v on = record queue { waits = set queue.waits v on }

waits_other : (queue : Queue) (v w : ℕ) → w ≢ v → IsWaiting queue w → IsWaiting (with_wait queue v false) w
waits_other queue v w n h = get_or-set_other queue.waits v w false false n ∙ h

-- what waits then waited before, but for the one
waited : (queue : Queue) (v w : ℕ) → IsWaiting (with_wait queue v true) w → (w ≡ v) ⊎ IsWaiting queue w
waited queue v w h = sort (cases_eq w v)
  where
    sort : (w ≡ v) ⊎ (w ≢ v) → (w ≡ v) ⊎ IsWaiting queue w
    sort (inl e) = inl e
    sort (inr n) = inr (sym (get_or-set_other queue.waits v w true false n) ∙ h)

waited_other : (queue : Queue) (v w : ℕ) → v < length queue.waits → IsWaiting (with_wait queue v false) w → (w ≢ v) × IsWaiting queue w
waited_other queue v w b h = sort (cases_eq w v)
  where
    sort : (w ≡ v) ⊎ (w ≢ v) → (w ≢ v) × IsWaiting queue w
    sort (inl e) = absurd (true≢false (sym h ∙ (ap (λ u. get_or (set queue.waits v false) u false) e ∙ get_or-set_same queue.waits v false false b)))
    sort (inr n) = (n, sym (get_or-set_other queue.waits v w false false n) ∙ h)

-- ---- an order where a rank comes in, and where one goes
module _ {queue : Queue} {activity : List ℕ} {phases : List Bool} {xs : List Rank} (Q : IsQueue queue activity phases xs) {x : Rank} {ys : List Rank} where
  pub queue_more : IsPermutation (x ∷ xs) ys → IsVariable queue.variables x.var.0 → IsQueue (with_wait queue x.var.0 true) activity phases ys
  queue_more p v = record {
    waits_wide = length-set queue.waits x.var.0 true ∙ Q.waits_wide;
    activity_wide = Q.activity_wide;
    phases_wide = Q.phases_wide;
    in_range = in_range_more x xs ys p queue.variables v Q.in_range;
    has_rank = λ w u h. sort w u (waited queue x.var.0 w h);
  }
    where
      sort : (w : ℕ) → IsVariable queue.variables w → (w ≡ x.var.0) ⊎ IsWaiting queue w → Contains (ranked ys) w
      sort w u (inl e) = subst (Contains (ranked ys)) (sym e) (ranked_now x xs ys p)
      sort w u (inr h) = ranked_still x xs ys p w (Q.has_rank w u h)

  pub popped_fits : IsPermutation xs (x ∷ ys) → IsVariable queue.variables x.var.0
  popped_fits p = in_range_here x xs ys p queue.variables Q.in_range

  pub queue_fewer : IsPermutation xs (x ∷ ys) → IsQueue (with_wait queue x.var.0 false) activity phases ys
  queue_fewer p = record {
    waits_wide = length-set queue.waits x.var.0 false ∙ Q.waits_wide;
    activity_wide = Q.activity_wide;
    phases_wide = Q.phases_wide;
    in_range = in_range_fewer x xs ys p queue.variables Q.in_range;
    has_rank = λ w u h. sort w u (waited_other queue x.var.0 w inside h);
  }
    where
      inside : x.var.0 < length queue.waits
      inside = let v = popped_fits p in let e = Q.waits_wide in omega arith

      sort : (w : ℕ) → IsVariable queue.variables w → (w ≢ x.var.0) × IsWaiting queue w → Contains (ranked ys) w
      sort w u (n, h) = ranked_other x xs ys p w n (Q.has_rank w u h)

-- ---- choices
pub unassigned_is : (o : Option Bool) → is_some o ≡ false → o ≡ None
unassigned_is None e = refl
unassigned_is (Some b) e = absurd (true≢false e)

pub assigned_is : (o : Option Bool) → is_some o ≡ true → o ≢ None
assigned_is None e i = true≢false (sym e)
assigned_is (Some b) e i = cc

-- what a longer assignment leaves unassigned, the shorter does
still_open : (P Q : Partial) (v : ℕ) → value (P ++ Q) v ≡ None → value P v ≡ None
still_open P Q v e = value_none P v (λ k c. none_member (P ++ Q) v e k (Contains-append_left P Q k c))

-- and its last literal isn't about it
not_last : (P : Partial) (l : Lit) (v : ℕ) → value (P ++ l ∷ []) v ≡ None → v ≢ l.var
not_last P l v e i = none_member (P ++ l ∷ []) v e l (Contains-append_right P (l ∷ []) l (contains_here l l [] refl)) (sym i)

-- more literals, and more variables that wait
ready_grown : {n : ℕ} {P : Partial} {queue : Queue} → IsReady n P queue → (Q : Partial) → IsReady n (P ++ Q) queue
ready_grown {P = P} R Q = record {
  same = R.same;
  waits = λ v u e. R.waits v u (still_open P Q v e);
}

pub ready_kept : {n : ℕ} {P : Partial} {old new : Queue} → KeepsWaiting old new → IsReady n P old → IsReady n P new
ready_kept K R = record {
  same = K.same ∙ R.same;
  waits = λ v u e. K.still v (R.waits v u e);
}

-- the same of another state
pub ready_same : (before after : Search) (old new : Queue) → after.variables ≡ before.variables → after.trail ≡ before.trail → new ≡ old → IsReady before.variables (literals before.trail) old → IsReady after.variables (literals after.trail) new
ready_same before after old new v t q R = record {
  same = ap (λ (r : Queue). r.variables) q ∙ (R.same ∙ sym v);
  waits = λ w u e. subst (λ (r : Queue). IsWaiting r w) (sym q) (R.waits w (subst (λ n. IsVariable n w) v u) (ap (λ (trail : List Step). value (literals trail) w) (sym t) ∙ e));
}

pub ready_on : (before after : Search) (queue : Queue) → after ≡ record before { trail = after.trail } → GoesOn before.level before.trail after.trail → IsReady before.variables (literals before.trail) queue → IsReady after.variables (literals after.trail) queue
ready_on before after queue e (steps, t, _) R =
    subst (λ n. IsReady n (literals after.trail) queue) (sym (ap (λ (s : Search). s.variables) e))
    (subst (λ (P : Partial). IsReady before.variables P queue) (sym (ap literals t ∙ map-append (λ (step : Step). step.literal) before.trail steps))
    (ready_grown R (literals steps)))

pub ready_chosen : {n : ℕ} {P : Partial} {queue : Queue} → IsReady n P queue → (l : Lit) → IsReady n (P ++ l ∷ []) (with_wait queue l.var false)
ready_chosen {P = P} {queue = queue} R l = record {
  same = R.same;
  waits = λ v u e. waits_other queue l.var v (not_last P l v e) (R.waits v u (still_open P (l ∷ []) v e));
}

-- a variable that has a value is passed over
pub ready_passed : {n : ℕ} {P : Partial} {queue : Queue} → IsReady n P queue → (w : ℕ) → value P w ≢ None → IsReady n P (with_wait queue w false)
ready_passed {P = P} {queue = queue} R w assigned = record {
  same = R.same;
  waits = λ v u e. waits_other queue w v (λ i. assigned (ap (value P) (sym i) ∙ e)) (R.waits v u e);
}

-- ---- going back
-- the step about a variable of the trail has a level
has_level : (s : Search) → IsSearch s → (place : ℕ) → place < length s.trail → level_of s.trail (step_at s.trail place).literal.var ≡ Some (step_at s.trail place).level
has_level s S place b = ap (option_map (λ (t : Step). t.level)) (steps_are_found s.clauses s.trail s.level place S.trail b)

pub level_found : (s : Search) → IsSearch s → (place : ℕ) → place < length s.trail → (l : Lit) (told : Option ℕ) → l ≡ (step_at s.trail place).literal → told ≡ level_of s.trail l.var → told ≡ Some (step_at s.trail place).level
level_found s S place b l told i t = t ∙ (ap (λ (k : Lit). level_of s.trail k.var) i ∙ has_level s S place b)

-- where a step isn't above a level, no earlier one is
pub low_before : (s : Search) → IsSearch s → (level place before : ℕ) → place < length s.trail → (step_at s.trail place).level ≤ level → before ≤ place → (step_at s.trail before).level ≤ level
low_before s S level place before b low m = sort (cases_lt before place)
  where
    T : IsTrail s.clauses s.trail s.level
    T = S.trail

    sort : (before < place) ⊎ (place ≤ before) → (step_at s.trail before).level ≤ level
    sort (inl l) = let a = T.ascending before place no_step l b in omega arith
    sort (inr l) = let e : before ≡ place = omega arith in subst (λ p. (step_at s.trail p).level ≤ level) (sym e) low

-- the steps from a place on were gone over, and those before it are low
pub all_freed : (trail : List Step) (level end : ℕ) (queue : Queue) → ((place : ℕ) → end ≤ place → place < length trail → IsWaiting queue (step_at trail place).literal.var)
    → ((place : ℕ) → place < end → place < length trail → (step_at trail place).level ≤ level) → All (λ step. level < step.level → IsWaiting queue step.literal.var) trail
all_freed trail level end queue freed low = all_members (λ (step : Step). level < step.level → IsWaiting queue step.literal.var) trail (λ step c up. from step up (contains_at trail step no_step c))
  where
    at : (place : ℕ) → place < length trail → level < (step_at trail place).level → (place < end) ⊎ (end ≤ place) → IsWaiting queue (step_at trail place).literal.var
    at place b up (inl l) = let a = low place l b in absurd (omega arith)
    at place b up (inr l) = freed place l b

    from : (step : Step) → level < step.level → (place : ℕ) × (place < length trail) × (get_or trail place no_step ≡ step) → IsWaiting queue step.literal.var
    from step up (place, b, e) = subst (λ (t : Step). IsWaiting queue t.literal.var) e (at place b (subst (λ (t : Step). level < t.level) (sym e) up) (cases_lt place end))

-- what is unassigned once the steps above a level are gone was unassigned before, or one of those steps is about it
pub ready_back : (s : Search) (lower : ℕ) (old new : Queue) → IsReady s.variables (literals s.trail) old → KeepsWaiting old new
    → All (λ step. lower < step.level → IsWaiting new step.literal.var) s.trail → IsReady s.variables (up_to lower s.trail) new
ready_back s lower old new R K freed = record {
  same = K.same ∙ R.same;
  waits = λ v u e. by_value v u e (value (literals s.trail) v) refl;
}
  where
    at : (v : ℕ) → value (up_to lower s.trail) v ≡ None → (step : Step) → Contains s.trail step → step.literal.var ≡ v → (lower < step.level) ⊎ (step.level ≤ lower) → IsWaiting new v
    at v e step c i (inl up) = subst (IsWaiting new) i (All-contains (λ (t : Step). lower < t.level → IsWaiting new t.literal.var) s.trail step freed c up)
    at v e step c i (inr down) =
        absurd (none_member (up_to lower s.trail) v e step.literal
        (contains_map (λ (t : Step). t.literal) (filter (λ (t : Step). nat_le t.level lower) s.trail) step (filter_keeps (λ (t : Step). nat_le t.level lower) s.trail step c (le-leb step.level lower down))) i)

    of_step : (v : ℕ) → value (up_to lower s.trail) v ≡ None → (l : Lit) → l.var ≡ v → (step : Step) × Contains s.trail step × (step.literal ≡ l) → IsWaiting new v
    of_step v e l i (step, c, j) = at v e step c (ap (λ (k : Lit). k.var) j ∙ i) (cases_lt lower step.level)

    of_lit : (v : ℕ) → value (up_to lower s.trail) v ≡ None → (b : Bool) → (l : Lit) × Contains (literals s.trail) l × (l.var ≡ v) × (l.on ≡ b) → IsWaiting new v
    of_lit v e b (l, c, i, _) = of_step v e l i (map_from (λ (t : Step). t.literal) s.trail l c)

    by_value : (v : ℕ) → IsVariable s.variables v → value (up_to lower s.trail) v ≡ None → (o : Option Bool) → value (literals s.trail) v ≡ o → IsWaiting new v
    by_value v u e None i = K.still v (R.waits v u i)
    by_value v u e (Some b) i = of_lit v e b (value_member (literals s.trail) v b i)
