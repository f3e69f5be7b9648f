-- Turns one after the other: what one turn more makes of the outcomes so far.
use Rattle.std.proofs.Common.{◌≡◌, ◌≢◌, ◌∙◌, ◌⊎◌, inl, inr, ℕ, zero, suc, ◌+◌, ◌<◌, ◌≤◌, true, Option, Some, None, List, [], ◌∷◌, ◌++◌, length, take, refl, sym, ap, subst, arith}
use Rattle.std.specs.Prelude.{slice_get, sum_by, eqb, ◌&&◌, option_map}
use Rattle.std.specs.Option.{option_or}
use Rattle.std.proofs.lemmas.Bool.{cases_lt}
use Rattle.std.proofs.lemmas.Option.{slice_get-map, slice_get_within}
use Rattle.std.proofs.lemmas.List.{map-append, take-append-le, take_all}
use Rattle.std.proofs.lemmas.List.Folds.{find-append}
use Rattle.std.proofs.lemmas.List.Sums.{sum_by-append, sum_by-cons, sum_by-take-le}
use mathlib.Core.List.{IsPrefix}
use Rattle.geo_orient.specs.declared.Point.{Point}
use Rattle.edge_table.specs.declared.edge.Edge.{Edge}
use Rattle.flip_cnf.specs.HeldFrames.{HeldFrame}
use Rattle.plan_law.specs.Plans.{Plan, plan_total}
use Rattle.plan_law.specs.Books as law
use Rattle.plan_law.specs.Books.{PairRow, State, is_plan_entry, row_of, opening_state, after_entry, state_after, front}
use Rattle.plan_law.specs.Improvers as improver
use Rattle.plan_law.specs.Improvers.{walk, descent}
use Rattle.plan_law.specs.Jobs as jobs
use Rattle.plan_law.specs.Solving.{turn_of, swap_of, move_of, answer}
use Rattle.plan_core.specs.HeldPlans.{HeldPlan}
use Rattle.book_core.specs.declared.entry.Entry.{Entry}
use Rattle.book_core.specs.declared.entry.Entry.TheVariants as entry
use Rattle.book_core.specs.Entries.{Shown, line_of, lines_of}
use Rattle.book_core.specs.HeldBooks.{HeldBook, ground_of}
use Rattle.worker_pool.specs.declared.limits.Limits.{Limits}
use Rattle.worker_pool.specs.declared.outcome.Outcome.{Outcome}
use Rattle.worker_pool.specs.declared.outcome.Outcome.TheVariants as outcome
use Rattle.worker_pool.specs.Jobs.{order_of}
use Rattle.worker_pool.specs.Outcomes.{state_at, IsBestAt, job_at, Fits, made_by, saved_by}
use Rattle.worker_pool.specs.Turns.{now_at}
use Rattle.worker_pool.specs.Runs.{StandsAt, IsInOrder, entries_below, AreTurnsInOrder, IsTurnAlone}
use Rattle.worker_pool.proofs.Replicas.{length-lines, first_lines}
use Rattle.worker_pool.proofs.Turned.{last_there}
use Rattle.worker_pool.proofs.Later.{there_later, state_later, row_later, no_rise_later, step_later, late_later, pack_later, none_later, stuck_later}

-- ---- lists with one item more
module _ {X : Type 0} where
  pub same : (x y : X) → Some x ≡ Some y → x ≡ y
  same x y e = let i : x ≡ y = cc in i

  one_more : (xs : List X) (y : X) (n : ℕ) (x : X) → slice_get (xs ++ y ∷ []) n ≡ Some x → (slice_get xs n ≡ Some x) ⊎ ((n ≡ length xs) × (y ≡ x))
  one_more [] y zero x e = inr (refl, same y x e)
  one_more [] y (suc n) x e = absurd (cc)
  one_more (z ∷ xs) y zero x e = inl e
  one_more (z ∷ xs) y (suc n) x e = lifted (one_more xs y n x e)
    where
      lifted : (slice_get xs n ≡ Some x) ⊎ ((n ≡ length xs) × (y ≡ x)) → (slice_get xs n ≡ Some x) ⊎ ((suc n ≡ suc (length xs)) × (y ≡ x))
      lifted (inl h) = inl h
      lifted (inr (a, b)) = inr (ap suc a, b)

  first_or_past : (xs ys : List X) (n : ℕ) (x : X) → slice_get (xs ++ ys) n ≡ Some x → (slice_get xs n ≡ Some x) ⊎ (length xs ≤ n)
  first_or_past [] ys n x e = inr (omega arith)
  first_or_past (z ∷ xs) ys zero x e = inl e
  first_or_past (z ∷ xs) ys (suc n) x e = lifted (first_or_past xs ys n x e)
    where
      lifted : (slice_get xs n ≡ Some x) ⊎ (length xs ≤ n) → (slice_get xs n ≡ Some x) ⊎ (suc (length xs) ≤ suc n)
      lifted (inl h) = inl h
      lifted (inr l) = inr (omega (arith, l))

  sum_more : (f : X → ℕ) (xs : List X) (y : X) → sum_by f (xs ++ y ∷ []) ≡ sum_by f xs + f y
  sum_more f xs y = let a = sum_by-append f xs (y ∷ []) in let b = sum_by-cons f y [] in let c : sum_by f [] ≡ 0 = refl in omega (arith, a, b, c)

  pub below_grows : (f : X → ℕ) (xs : List X) (u v : ℕ) (x : X) → slice_get xs u ≡ Some x → u < v → sum_by f (take u xs) + f x ≤ sum_by f (take v xs)
  below_grows f [] u v x e l = absurd (cc)
  below_grows f (y ∷ xs) u zero x e l = absurd (omega (arith, l))
  below_grows f (y ∷ xs) zero (suc v) x e l = let a = sum_by-cons f y (take v xs) in let b = ap f (same y x e) in let c : sum_by f [] ≡ 0 = refl in omega (arith, a, b, c)
  below_grows f (y ∷ xs) (suc u) (suc v) x e l =
      let h = below_grows f xs u v x e (omega (arith, l)) in let a = sum_by-cons f y (take u xs) in let b = sum_by-cons f y (take v xs) in omega (arith, h, a, b)

-- ---- the answer of a turn
module _ (words : ℕ → List ℕ) (points : List Point) (inputs : List (List Edge)) (plan : Plan) (u : ℕ) where
  -- it is a move or a swap of this turn
  abbrev IsStepOf : law.Entry Shown → Type 0
  IsStepOf line = (turn_of line ≡ u) × (is_plan_entry line ≡ true)

  move_step : (r : Option (List Edge)) (line : law.Entry Shown) → move_of u r ≡ Some line → IsStepOf line
  move_step (Some edges) line e = subst IsStepOf (same (law.Move u edges) line e) (refl, refl)
  move_step None line e = absurd (cc)

  swap_step : (input : ℕ) (d : improver.Descent) (line : law.Entry Shown) → swap_of u input d ≡ Some line → IsStepOf line
  swap_step input (improver.Better rounds) line e = subst IsStepOf (same (law.Swap u input rounds) line e) (refl, refl)
  swap_step input (improver.NotBetter held given) line e = absurd (cc)
  swap_step input (improver.Stuck round) line e = absurd (cc)

  pub answer_step : (j : jobs.Job) (line : law.Entry Shown) → answer words points inputs plan u j ≡ Some line → IsStepOf line
  answer_step (jobs.Walks p) line e = move_step (walk points plan (words p)) line e
  answer_step (jobs.Descends p t) line e = swap_step t (descent points inputs plan t) line e
  answer_step (jobs.Compares i j) line e = absurd (cc)
  answer_step jobs.Packs line e = absurd (cc)

-- ---- a row that is found stays found
module _ (points : List Point) (inputs : List (List Edge)) where
  rows_stay : (s : State Shown) (lines : List (law.Entry Shown)) (i j : ℕ) → row_of s.rows i j ≢ None → row_of (state_after points inputs s lines).rows i j ≢ None
  rows_stay s [] i j n = n
  rows_stay s (law.Move turn edges ∷ lines) i j n = rows_stay (after_entry points inputs s (law.Move turn edges)) lines i j n
  rows_stay s (law.Swap turn input rounds ∷ lines) i j n = rows_stay (after_entry points inputs s (law.Swap turn input rounds)) lines i j n
  rows_stay s (law.Row turn row ∷ lines) i j n = rows_stay (after_entry points inputs s (law.Row turn row)) lines i j (λ e. n (first_none (row_of s.rows i j) (row_of (row ∷ []) i j) (sym (find-append (λ (r : PairRow Shown). eqb r.low i && eqb r.high j) s.rows (row ∷ [])) ∙ e)))
    where
      first_none : (a b : Option (PairRow Shown)) → option_or a b ≡ None → a ≡ None
      first_none None b e = refl
      first_none (Some x) b e = absurd (let f : Some x ≡ None = e in cc)
  rows_stay s (law.Pack turn perm ∷ lines) i j n = rows_stay (after_entry points inputs s (law.Pack turn perm)) lines i j n

  state_join : (s : State Shown) (lines more : List (law.Entry Shown)) → state_after points inputs s (lines ++ more) ≡ state_after points inputs (state_after points inputs s lines) more
  state_join s [] more = refl
  state_join s (x ∷ lines) more = state_join (after_entry points inputs s x) lines more

-- ---- what fits a journal fits each that begins with it
module _ (limits : Limits) (ground : HeldPlan) (frame : HeldFrame) (u : ℕ) (seen journal : List Entry) (p : IsPrefix seen journal) where
  abbrev opened : State Shown
  opened = opening_state ground.plan

  all_of : (js : List Entry) → state_at ground js (length js) ≡ now_at ground js
  all_of js = ap (state_after ground.problem.points ground.problem.inputs opened) (take_all (length js) (lines_of js) (let l = length-lines js in omega (arith, l)))

  now_join : now_at ground journal ≡ state_after ground.problem.points ground.problem.inputs (now_at ground seen) (lines_of p.0)
  now_join =
      ap (λ (js : List Entry). now_at ground js) (sym p.1)
      ∙ (ap (state_after ground.problem.points ground.problem.inputs opened) (map-append line_of seen p.0) ∙ state_join ground.problem.points ground.problem.inputs opened (lines_of seen) (lines_of p.0))

  taken_later : (i j : ℕ) → Fits limits ground frame u seen (outcome.Taken i j) → Fits limits ground frame u journal (outcome.Taken i j)
  taken_later i j (h, n) = (
    h,
    λ e. rows_stay ground.problem.points ground.problem.inputs (now_at ground seen) (lines_of p.0) i j (λ f. n (ap (λ (s : State Shown). row_of s.rows i j) (all_of seen) ∙ f)) (ap (λ (s : State Shown). row_of s.rows i j) (sym now_join) ∙ (ap (λ (s : State Shown). row_of s.rows i j) (sym (all_of journal)) ∙ e)),
  )

  pub fits_later : (out : Outcome) → Fits limits ground frame u seen out → Fits limits ground frame u journal out
  fits_later (outcome.Published place saved) h = step_later limits ground frame u seen journal p place saved h
  fits_later (outcome.NotBetter base) h = none_later limits ground frame u seen journal p base h
  fits_later (outcome.Stuck base round) h = stuck_later limits ground frame u seen journal p base round h
  fits_later (outcome.Stale base is) h = late_later limits ground frame u seen journal p base is h
  fits_later (outcome.Kept place) h = row_later limits ground frame u seen journal p place h
  fits_later (outcome.Taken i j) h = taken_later i j h
  fits_later (outcome.Packed place limit) h = pack_later limits ground frame u seen journal p place limit h
  fits_later (outcome.NoRise held given) h = no_rise_later limits ground frame u seen journal p held given h
  fits_later outcome.NoMemory h = tt

-- ---- and what is in order stays so
module _ (ground : HeldPlan) (seen journal : List Entry) (p : IsPrefix seen journal) (n : ℕ) (l : n ≤ length seen) where
  same_state : state_at ground seen n ≡ state_at ground journal n
  same_state = sym (state_later ground seen journal n p l)

  front_later : (base : ℕ) → base ≡ front (take n (lines_of seen)) → base ≡ front (take n (lines_of journal))
  front_later base e = e ∙ ap front (sym (first_lines seen journal n p l))

  pub order_later : (out : Outcome) → IsInOrder ground seen n out → IsInOrder ground journal n out
  order_later (outcome.Published place saved) h = h
  order_later (outcome.NotBetter base) h = front_later base h
  order_later (outcome.Stuck base round) h = front_later base h
  order_later (outcome.Stale base is) h = absurd h
  order_later (outcome.Kept place) h = h
  order_later (outcome.Taken i j) h = h
  order_later (outcome.Packed place limit) h = subst (λ (s : State Shown). (place ≡ n) × ((perm : List ℕ) × IsBestAt s perm × (limit ≡ law.bound_of s perm))) same_state h
  order_later (outcome.NoRise held given) h = subst (λ (s : State Shown). (held ≡ law.bound s) × ((perm : List ℕ) × IsBestAt s perm × (given ≡ law.bound_of s perm))) same_state h
  order_later outcome.NoMemory h = tt

-- where an entry stands
pub stands_is : (ground : HeldPlan) (journal : List Entry) (m n : ℕ) (out : Outcome) → IsInOrder ground journal m out → StandsAt out n → (n ≡ m) × (made_by out ≡ 1)
stands_is ground journal m n (outcome.Published place saved) h s = (sym s ∙ h, refl)
stands_is ground journal m n (outcome.Kept place) h s = (sym s ∙ h, refl)
stands_is ground journal m n (outcome.Packed place limit) h s = (sym s ∙ h.0, refl)
stands_is ground journal m n (outcome.NotBetter base) h s = absurd s
stands_is ground journal m n (outcome.Stuck base round) h s = absurd s
stands_is ground journal m n (outcome.Stale base is) h s = absurd s
stands_is ground journal m n (outcome.Taken i j) h s = absurd s
stands_is ground journal m n (outcome.NoRise held given) h s = absurd s
stands_is ground journal m n outcome.NoMemory h s = absurd s

abbrev AllInOrder : HeldPlan → List Entry → List Outcome → Type 0
AllInOrder ground journal outcomes = (u : ℕ) (out : Outcome) → slice_get outcomes u ≡ Some out → IsInOrder ground journal (entries_below outcomes u) out

once_of : (ground : HeldPlan) (journal : List Entry) (outcomes : List Outcome) → AllInOrder ground journal outcomes
    → (u v n : ℕ) (one other : Outcome) → slice_get outcomes u ≡ Some one → slice_get outcomes v ≡ Some other → StandsAt one n → StandsAt other n → u ≡ v
once_of ground journal outcomes R u v n one other a b s t = by_place (cases_lt u v) (cases_lt v u)
  where
    at_u : (n ≡ entries_below outcomes u) × (made_by one ≡ 1)
    at_u = stands_is ground journal (entries_below outcomes u) n one (R u one a) s

    at_v : (n ≡ entries_below outcomes v) × (made_by other ≡ 1)
    at_v = stands_is ground journal (entries_below outcomes v) n other (R v other b) t

    by_place : (u < v) ⊎ (v ≤ u) → (v < u) ⊎ (u ≤ v) → u ≡ v
    by_place (inl l) _ = absurd (let g = below_grows made_by outcomes u v one a l in let x = at_u.0 in let y = at_v.0 in let m = at_u.1 in omega (arith, g, x, y, m))
    by_place (inr l) (inl k) = absurd (let g = below_grows made_by outcomes v u other b k in let x = at_u.0 in let y = at_v.0 in let m = at_v.1 in omega (arith, g, x, y, m))
    by_place (inr l) (inr k) = omega (arith, l, k)

-- ---- one turn more
module _ (limits : Limits) (frame : HeldFrame) (ground : HeldPlan) (outcomes : List Outcome) (u : ℕ) (next : u ≡ length outcomes) (J K : List Entry) (out : Outcome) (R : AreTurnsInOrder limits frame ground J outcomes) (p : IsPrefix J K) (fits : Fits limits ground frame u K out)
    (made : length K ≡ length J + made_by out) (order : IsInOrder ground K (length J) out) (saves : plan_total (now_at ground K).plan + saved_by out ≡ plan_total (now_at ground J).plan) where
  abbrev more : List Outcome
  more = outcomes ++ out ∷ []

  fit_more : (v : ℕ) (o : Outcome) → slice_get more v ≡ Some o → Fits limits ground frame v K o
  fit_more v o e = by_place (one_more outcomes out v o e)
    where
      by_place : (slice_get outcomes v ≡ Some o) ⊎ ((v ≡ length outcomes) × (out ≡ o)) → Fits limits ground frame v K o
      by_place (inl h) = fits_later limits ground frame v J K p o (R.turns.fit v o h)
      by_place (inr (a, b)) = subst (λ (o : Outcome). Fits limits ground frame v K o) b (subst (λ (v : ℕ). Fits limits ground frame v K out) (next ∙ sym a) fits)

  below_first : (v : ℕ) → v ≤ length outcomes → entries_below more v ≡ entries_below outcomes v
  below_first v l = ap (sum_by made_by) (take-append-le v outcomes (out ∷ []) l)

  order_more : AllInOrder ground K more
  order_more v o e = by_place (one_more outcomes out v o e)
    where
      by_place : (slice_get outcomes v ≡ Some o) ⊎ ((v ≡ length outcomes) × (out ≡ o)) → IsInOrder ground K (entries_below more v) o
      by_place (inl h) =
          let w = slice_get_within outcomes v o h in let t = sum_by-take-le made_by outcomes v in let m = R.turns.made in
          subst (λ (n : ℕ). IsInOrder ground K n o) (sym (below_first v (omega (arith, w)))) (order_later ground J K p (entries_below outcomes v) (omega (arith, t, m)) o (R.in_order v o h))
      by_place (inr (a, b)) =
          let all : entries_below outcomes v ≡ length J = ap (sum_by made_by) (take_all v outcomes (omega (arith, a))) ∙ R.turns.made in
          subst (λ (o : Outcome). IsInOrder ground K (entries_below more v) o) b (subst (λ (n : ℕ). IsInOrder ground K n out) (sym (below_first v (omega (arith, a)) ∙ all)) order)

  abbrev IsOwned : ℕ → Entry → Type 0
  IsOwned n x = (o : Outcome) × (slice_get more (turn_of (line_of x)) ≡ Some o) × StandsAt o n

  own_last : (n : ℕ) (x : Entry) (o : Outcome) → out ≡ o → turn_of (line_of x) ≡ u → StandsAt o n → IsOwned n x
  own_last n x o e t s = (o, ap (slice_get more) t ∙ (last_there outcomes out u next ∙ ap Some e), s)

  -- the entry that the turn made
  own_new : (n : ℕ) (x : Entry) → slice_get K n ≡ Some x → length J ≤ n → n < length J + made_by out → (o : Outcome) → out ≡ o → Fits limits ground frame u K o → IsInOrder ground K (length J) o → IsOwned n x
  own_new n x there from to (outcome.Published place saved) e f h = own_last n x (outcome.Published place saved) e turn here
    where
      here : place ≡ n
      here = let m = ap made_by e in let m1 : made_by (outcome.Published place saved) ≡ 1 = refl in omega (arith, from, to, m, m1, h)

      line : f.line ≡ line_of x
      line = same f.line (line_of x) (sym f.there ∙ (ap (slice_get (lines_of K)) here ∙ (slice_get-map line_of K n ∙ ap (option_map line_of) there)))

      turn : turn_of (line_of x) ≡ u
      turn = ap turn_of (sym line) ∙ (answer_step (order_of limits).words ground.problem.points ground.problem.inputs (state_at ground K place).plan u (job_at limits ground u) f.line f.answered).0
  own_new n x there from to (outcome.Kept place) e f h = own_last n x (outcome.Kept place) e (ap (λ (y : Entry). turn_of (line_of y)) (same x (entry.Row u f.found) (sym there ∙ (ap (slice_get K) (sym here) ∙ f.there)))) here
    where
      here : place ≡ n
      here = let m = ap made_by e in let m1 : made_by (outcome.Kept place) ≡ 1 = refl in omega (arith, from, to, m, m1, h)
  own_new n x there from to (outcome.Packed place limit) e f h = own_last n x (outcome.Packed place limit) e (ap (λ (y : Entry). turn_of (line_of y)) (same x (entry.Pack u f.perm) (sym there ∙ (ap (slice_get K) (sym here) ∙ f.there)))) here
    where
      here : place ≡ n
      here = let m = ap made_by e in let m1 : made_by (outcome.Packed place limit) ≡ 1 = refl in let h0 = h.0 in omega (arith, from, to, m, m1, h0)
  own_new n x there from to (outcome.NotBetter base) e f h = absurd (let m = ap made_by e in let z : made_by (outcome.NotBetter base) ≡ 0 = refl in omega (arith, from, to, m, z))
  own_new n x there from to (outcome.Stuck base round) e f h = absurd (let m = ap made_by e in let z : made_by (outcome.Stuck base round) ≡ 0 = refl in omega (arith, from, to, m, z))
  own_new n x there from to (outcome.Stale base is) e f h = absurd h
  own_new n x there from to (outcome.Taken i j) e f h = absurd (let m = ap made_by e in let z : made_by (outcome.Taken i j) ≡ 0 = refl in omega (arith, from, to, m, z))
  own_new n x there from to (outcome.NoRise held given) e f h = absurd (let m = ap made_by e in let z : made_by (outcome.NoRise held given) ≡ 0 = refl in omega (arith, from, to, m, z))
  own_new n x there from to outcome.NoMemory e f h = absurd (let m = ap made_by e in let z : made_by outcome.NoMemory ≡ 0 = refl in omega (arith, from, to, m, z))

  owned_more : (n : ℕ) (x : Entry) → slice_get K n ≡ Some x → IsOwned n x
  owned_more n x e = by_place (first_or_past J p.0 n x (ap (λ (js : List Entry). slice_get js n) p.1 ∙ e))
    where
      by_place : (slice_get J n ≡ Some x) ⊎ (length J ≤ n) → IsOwned n x
      by_place (inl h) = let o = R.turns.owned n x h in (o.0, there_later outcomes (out ∷ []) (turn_of (line_of x)) o.0 o.1, o.2)
      by_place (inr l) = let w = slice_get_within K n x e in own_new n x e l (omega (arith, w, made)) out refl fits order

  pub turns_more : AreTurnsInOrder limits frame ground K more
  turns_more = record {
    turns = record {
      fit = fit_more;
      made = let s = sum_more made_by outcomes out in let m = R.turns.made in omega (arith, s, m, made);
      owned = owned_more;
      once = once_of ground K more order_more;
      saved = let s = sum_more saved_by outcomes out in let m = R.turns.saved in omega (arith, s, m, saves);
    };
    in_order = order_more;
  }

-- before the first turn
pub no_turns : (limits : Limits) (frame : HeldFrame) (ground : HeldPlan) → AreTurnsInOrder limits frame ground [] []
no_turns limits frame ground = record {
  turns = record {
    fit = λ u o e. absurd (cc);
    made = refl;
    owned = λ n x e. absurd (cc);
    once = λ u v n one other e f s t. absurd (cc);
    saved = let z : sum_by saved_by [] ≡ 0 = refl in omega (arith, z);
  };
  in_order = λ u o e. absurd (cc);
}

-- a turn on a book after some turns
pub turn_more : (limits : Limits) (frame : HeldFrame) (ground : HeldPlan) (outcomes : List Outcome) (u : ℕ) (old new : HeldBook) (out : Outcome) → u ≡ length outcomes → ground_of old ≡ ground → AreTurnsInOrder limits frame ground old.journal outcomes → IsTurnAlone limits frame u old new out
    → (ground_of new ≡ ground) × AreTurnsInOrder limits frame ground new.journal (outcomes ++ out ∷ [])
turn_more limits frame ground outcomes u old new out next g R T = (
  T.of_ground ∙ g,
  subst (λ (G : HeldPlan). AreTurnsInOrder limits frame G new.journal (outcomes ++ out ∷ [])) g
      (turns_more limits frame (ground_of old) outcomes u next old.journal new.journal out (subst (λ (G : HeldPlan). AreTurnsInOrder limits frame G old.journal outcomes) (sym g) R) T.grows T.fits T.made T.in_order
      (ap (λ (q : HeldPlan). plan_total (now_at q new.journal).plan + saved_by out) (sym T.of_ground) ∙ T.saved)),
)
