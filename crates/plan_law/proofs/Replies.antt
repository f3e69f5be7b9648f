-- The reply to an event is determined.
use Rattle.std.proofs.Common.{◌≡◌, ◌⊎◌, inl, inr, ℕ, zero, suc, ◌-◌, ◌<◌, ◌≤◌, Bool, true, false, Option, Some, None, List, [], ◌∷◌, length, take, refl, sym, ap, ap₂, ◌∙◌, subst, arith}
use Rattle.std.specs.Prelude.{sum, slice_get}
use native.Mathlib.Decide.{dec_le, ℕ_discrete}
use Rattle.std.proofs.Math.Seq.{take-length}
use Rattle.geo_orient.specs.declared.Point.{Point}
use Rattle.edge_table.specs.declared.edge.Edge.{Edge}
use Rattle.plan_law.specs.Images.{image_of}
use Rattle.bound_law.specs.Bounds.{input_at}
use Rattle.plan_law.specs.Plans.{IsInstance, Plan, plan_total, with_flip, followed, followed_all, swapped}
use Rattle.plan_law.specs.Books.{PairRow, Entry, Move, Swap, Row, Pack, is_plan_entry, State, bound_of, bound, row_of, AreRoundsOf, MayBeOffered, IsFit, Book, state_of, front}
use Rattle.plan_law.specs.Worlds.{Replica, Refusal, Stale, BadMove, BadSwap, NotBetter, Taken, NoRise, StopsAt, IsNoBetter, IsUnfit, IsStale, IsRefused, IsAccepted, with_entry, Event, Join, Catch, Offer, Reply, Joined, Caught, Accepted, Refused, World, Step}
use Rattle.plan_law.specs.Replays.{SwapFault, swap_fault}
use Rattle.plan_law.specs.PlanLaws.{Swaps}
use Rattle.plan_law.specs.BookLaws.{Justification, IsState, RepliesAreDetermined, OffersAreAnswered}
use Rattle.plan_law.proofs.Plans.{centres_are_triangulations, swaps_keep_plans}
use Rattle.plan_law.proofs.Replays.{faultless_rounds_lead}
use Rattle.plan_law.proofs.Books.{books_keep_plans}

-- ---- moves that stop
module _ (points : List Point) where
  not_followed : (plan : Plan) (e : Edge) → image_of points plan.centre e ≡ None → followed points plan e ≡ None
  not_followed plan e h = ap (λ r. elim r as (λ _. Option Plan) [ Some f ↦ Some (with_flip plan (record { edge = e; image = f })) | None ↦ None ]) h

  stops : (edges : List Edge) (plan : Plan) (p n : ℕ) → StopsAt points plan edges p → p < n → followed_all points plan (take n edges) ≡ None
  stops [] plan p n (e, before, g, f, i) l = absurd (cc)
  stops (e0 ∷ edges) plan p zero h l = absurd (omega arith)
  stops (e0 ∷ edges) plan zero (suc n) (e, before, g, f, i) l =
      let a : e0 ≡ e = cc in let b : plan ≡ before = cc in
      let c : image_of points plan.centre e0 ≡ None = ap₂ (λ (q : Plan) (d : Edge). image_of points q.centre d) b a ∙ i in
      ap (λ r. elim r as (λ _. Option Plan) [ Some next ↦ followed_all points next (take n edges) | None ↦ None ]) (not_followed plan e0 c)
  stops (e0 ∷ edges) plan (suc p) (suc n) (e, before, g, f, i) l = by_next (followed points plan e0) f (λ next h. stops edges next p n h (omega arith))
    where
      by_next : (r : Option Plan) → elim r [ Some next ↦ followed_all points next (take p edges) | None ↦ None ] ≡ Some before → ((next : Plan) → StopsAt points next edges p → followed_all points next (take n edges) ≡ None)
          → elim r as (λ _. Option Plan) [ Some next ↦ followed_all points next (take n edges) | None ↦ None ] ≡ None
      by_next None k again = refl
      by_next (Some next) k again = again next (e, before, g, k, i)

  stops_before : (edges : List Edge) (plan : Plan) (p q : ℕ) → StopsAt points plan edges p → StopsAt points plan edges q → p < q → ⊥
  stops_before edges plan p q h (e, before, g, f, i) l = let k = stops edges plan p q h l in cc

  one_stop : (edges : List Edge) (plan : Plan) (p q : ℕ) → StopsAt points plan edges p → StopsAt points plan edges q → p ≡ q
  one_stop edges plan p q h k = by_tests (dec_le p q) (dec_le q p)
    where
      by_tests : Dec (p ≤ q) → Dec (q ≤ p) → p ≡ q
      by_tests (yes a) (yes b) = omega arith
      by_tests (yes a) (no b) = absurd (stops_before edges plan p q h k (omega arith))
      by_tests (no a) _ = absurd (stops_before edges plan q p k h (omega arith))

  stops_whole : (edges : List Edge) (plan next : Plan) (p : ℕ) → StopsAt points plan edges p → followed_all points plan edges ≡ Some next → ⊥
  stops_whole edges plan next p h f = by_place (dec_le (suc p) (length edges)) h
    where
      by_place : Dec (suc p ≤ length edges) → StopsAt points plan edges p → ⊥
      by_place (yes l) s = let k = stops edges plan p (length edges) s l in let m : followed_all points plan (take (length edges) edges) ≡ Some next = ap (followed_all points plan) (take-length edges) ∙ f in cc
      by_place (no l) (e, before, g, _, _) = past edges p l e g
        where
          past : (es : List Edge) (k : ℕ) → ¬ (suc k ≤ length es) → (e : Edge) → slice_get es k ≡ Some e → ⊥
          past [] k m e g = cc
          past (f ∷ es) zero m e g = m (omega arith)
          past (f ∷ es) (suc k) m e g = past es k (λ l. m (omega arith)) e g

-- ---- causes exclude each other
no_better : (plan next : Plan) (r : Option Plan) (held given : ℕ) → r ≡ Some next → IsNoBetter plan r held given → (held ≡ plan_total plan) × (given ≡ plan_total next) × (held ≤ given)
no_better plan next r held given e (other, f, h, g, l) = let i : next ≡ other = cc in (h, g ∙ ap plan_total (sym i), l)

one_no_better : (plan : Plan) (r : Option Plan) (held given m n : ℕ) → IsNoBetter plan r held given → IsNoBetter plan r m n → NotBetter held given ≡ NotBetter m n
one_no_better plan r held given m n (next, f, h, g, l) k = let s = no_better plan next r m n f k in ap₂ NotBetter (h ∙ sym s.0) (g ∙ sym s.1)

abbrev AreClear : List Point → List (List Edge) → Plan → Type 0
AreClear points inputs plan = (i : ℕ) (rounds : List (List Edge)) → i < length inputs → AreRoundsOf points (input_at inputs i) rounds plan.centre → swap_fault points (input_at inputs i) rounds plan.centre ≡ None

module _ (E : Type 0) (justified : PairRow E → Type 0) (points : List Point) (inputs : List (List Edge)) (copies : ℕ) (state : State E) (clear : AreClear points inputs state.plan) where
  abbrev May : Entry E → Type 0
  May entry = MayBeOffered justified (length inputs) copies entry

  fit_unfit : (entry : Entry E) (refusal : Refusal) → May entry → IsFit points inputs state entry → IsUnfit points inputs state entry refusal → ⊥
  fit_unfit (Move turn edges) (BadMove place) m (next, f, l) h = stops_whole points edges state.plan next place h f
  fit_unfit (Move turn edges) (NotBetter held given) m (next, f, l) h = let k = no_better state.plan next (followed_all points state.plan edges) held given f h in omega (arith, k.0, k.1, k.2, l)
  fit_unfit (Move turn edges) (Stale said is) m F h = h
  fit_unfit (Move turn edges) (BadSwap fault) m F h = h
  fit_unfit (Move turn edges) (Taken low high) m F h = h
  fit_unfit (Move turn edges) (NoRise held given) m F h = h
  fit_unfit (Swap turn input rounds) (BadSwap fault) m (R, F) h = let k = clear input rounds m R in cc
  fit_unfit (Swap turn input rounds) (NotBetter held given) m (R, (next, f, l)) (_, h) = let k = no_better state.plan next (swapped points inputs state.plan input rounds) held given f h in omega (arith, k.0, k.1, k.2, l)
  fit_unfit (Swap turn input rounds) (BadMove place) m F h = h
  fit_unfit (Swap turn input rounds) (Stale said is) m F h = h
  fit_unfit (Swap turn input rounds) (Taken low high) m F h = h
  fit_unfit (Swap turn input rounds) (NoRise held given) m F h = h
  fit_unfit (Row turn row) (Taken low high) m F (h, _, _) = h F
  fit_unfit (Row turn row) (BadMove place) m F h = h
  fit_unfit (Row turn row) (Stale said is) m F h = h
  fit_unfit (Row turn row) (BadSwap fault) m F h = h
  fit_unfit (Row turn row) (NotBetter held given) m F h = h
  fit_unfit (Row turn row) (NoRise held given) m F h = h
  fit_unfit (Pack turn assignment) (NoRise held given) m F (h, g, l) = omega (arith, F, h, g, l)
  fit_unfit (Pack turn assignment) (BadMove place) m F h = h
  fit_unfit (Pack turn assignment) (Stale said is) m F h = h
  fit_unfit (Pack turn assignment) (BadSwap fault) m F h = h
  fit_unfit (Pack turn assignment) (NotBetter held given) m F h = h
  fit_unfit (Pack turn assignment) (Taken low high) m F h = h

  abbrev Un : Entry E → Refusal → Type 0
  Un entry refusal = IsUnfit points inputs state entry refusal

  unfit_one : (entry : Entry E) (refusal other : Refusal) → May entry → Un entry refusal → Un entry other → refusal ≡ other
  unfit_one (Move turn edges) (BadMove p) (BadMove q) may h k = ap BadMove (one_stop points edges state.plan p q h k)
  unfit_one (Move turn edges) (BadMove p) (NotBetter m n) may h (next, f, _, _, _) = absurd (stops_whole points edges state.plan next p h f)
  unfit_one (Move turn edges) (NotBetter m n) (BadMove q) may (next, f, _, _, _) k = absurd (stops_whole points edges state.plan next q k f)
  unfit_one (Move turn edges) (NotBetter m n) (NotBetter o p) may h k = one_no_better state.plan (followed_all points state.plan edges) m n o p h k
  unfit_one (Swap turn input rounds) (BadSwap fault) (BadSwap other) may h k = let e : Some fault ≡ Some other = sym h ∙ k in let i : fault ≡ other = cc in ap BadSwap i
  unfit_one (Swap turn input rounds) (BadSwap fault) (NotBetter m n) may h (R, k) = absurd (let c = clear input rounds may R in cc)
  unfit_one (Swap turn input rounds) (NotBetter m n) (BadSwap fault) may (R, h) k = absurd (let c = clear input rounds may R in cc)
  unfit_one (Swap turn input rounds) (NotBetter m n) (NotBetter o p) may (R, h) (R', k) = one_no_better state.plan (swapped points inputs state.plan input rounds) m n o p h k
  unfit_one (Row turn row) (Taken i j) (Taken k l) may (_, a, b) (_, c, d) = ap₂ Taken (a ∙ sym c) (b ∙ sym d)
  unfit_one (Pack turn assignment) (NoRise i j) (NoRise k l) may (a, b, _) (c, d, _) = ap₂ NoRise (a ∙ sym c) (b ∙ sym d)
  unfit_one _ _ _ may h k = absurd (assumption (h, k))

-- ---- replies
module _ (E : Type 0) (justified : PairRow E → Type 0) (points : List Point) (inputs : List (List Edge)) where
  taken_kind : (state : State E) (entry : Entry E) (i j : ℕ) → IsUnfit points inputs state entry (Taken i j) → is_plan_entry entry ≡ false
  taken_kind state (Move turn edges) i j h = absurd h
  taken_kind state (Swap turn input rounds) i j h = absurd h
  taken_kind state (Row turn row) i j h = refl
  taken_kind state (Pack turn assignment) i j h = absurd h

  rise_kind : (state : State E) (entry : Entry E) (i j : ℕ) → IsUnfit points inputs state entry (NoRise i j) → is_plan_entry entry ≡ false
  rise_kind state (Move turn edges) i j h = absurd h
  rise_kind state (Swap turn input rounds) i j h = absurd h
  rise_kind state (Row turn row) i j h = absurd h
  rise_kind state (Pack turn assignment) i j h = refl

  -- a refusal says that the entry is stale, or why it is unfit
  refused_cases : (book : Book E) (base : ℕ) (entry : Entry E) (refusal : Refusal) → IsRefused points inputs book base entry refusal
      → (IsStale book base entry × (refusal ≡ Stale base (front book.journal))) ⊎ ((¬ IsStale book base entry) × IsUnfit points inputs (state_of points inputs book) entry refusal)
  refused_cases book base entry (Stale said is) (s, a, b) = inl (s, ap₂ Stale a b)
  refused_cases book base entry (BadMove place) h = inr h
  refused_cases book base entry (BadSwap fault) h = inr h
  refused_cases book base entry (NotBetter held given) h = inr h
  refused_cases book base entry (Taken i j) h = inr (λ s. let a = s.0 in let b = taken_kind (state_of points inputs book) entry i j h in cc, h)
  refused_cases book base entry (NoRise i j) h = inr (λ s. let a = s.0 in let b = rise_kind (state_of points inputs book) entry i j h in cc, h)

  accepted_refused : (copies : ℕ) (book : Book E) → AreClear points inputs (state_of points inputs book).plan → (base : ℕ) (entry : Entry E) (place saved : ℕ) (refusal : Refusal) → MayBeOffered justified (length inputs) copies entry → IsAccepted points inputs book base entry place saved → IsRefused points inputs book base entry refusal → ⊥
  accepted_refused copies book clear base entry place saved refusal m A R = by_cases (refused_cases book base entry refusal R)
    where
      by_cases : (IsStale book base entry × (refusal ≡ Stale base (front book.journal))) ⊎ ((¬ IsStale book base entry) × IsUnfit points inputs (state_of points inputs book) entry refusal) → ⊥
      by_cases (inl (s, _)) = A.fresh s
      by_cases (inr (_, u)) = fit_unfit E justified points inputs copies (state_of points inputs book) clear entry refusal m A.fit u

  one_refusal : (copies : ℕ) (book : Book E) → AreClear points inputs (state_of points inputs book).plan → (base : ℕ) (entry : Entry E) (refusal other : Refusal) → MayBeOffered justified (length inputs) copies entry → IsRefused points inputs book base entry refusal → IsRefused points inputs book base entry other → refusal ≡ other
  one_refusal copies book clear base entry refusal other m R R' = by_cases (refused_cases book base entry refusal R) (refused_cases book base entry other R')
    where
      Cause : Refusal → Type 0
      Cause r = (IsStale book base entry × (r ≡ Stale base (front book.journal))) ⊎ ((¬ IsStale book base entry) × IsUnfit points inputs (state_of points inputs book) entry r)

      by_cases : Cause refusal → Cause other → refusal ≡ other
      by_cases (inl (s, a)) (inl (_, b)) = a ∙ sym b
      by_cases (inl (s, a)) (inr (f, _)) = absurd (f s)
      by_cases (inr (f, _)) (inl (s, b)) = absurd (f s)
      by_cases (inr (f, u)) (inr (_, v)) = unfit_one E justified points inputs copies (state_of points inputs book) clear entry refusal other m u v

  same_replica : (replicas : List Replica) (r : ℕ) (a b : Replica) → slice_get replicas r ≡ Some a → slice_get replicas r ≡ Some b → a ≡ b
  same_replica replicas r a b h k = let e : Some a ≡ Some b = sym h ∙ k in cc

  offers : (old new other : World E) → AreClear points inputs (state_of points inputs old.book).plan → (r : ℕ) (entry : Entry E) (reply answer : Reply) → Step justified points inputs old (Offer r entry) (Some reply) new → Step justified points inputs old (Offer r entry) (Some answer) other → (reply ≡ answer) × (new ≡ other)
  offers old new other clear r entry (Accepted p s) (Accepted q t) (a, f, m, A, e) (b, g, n, B, h) = (ap₂ Accepted (A.at_end ∙ sym B.at_end) (A.saves ∙ sym B.saves), e ∙ sym h)
  offers old new other clear r entry (Accepted p s) (Refused refusal) (a, f, m, A, e) (b, g, n, B, h) =
      absurd (accepted_refused (sum old.book.opening.weights) old.book clear a.front entry p s refusal m A (subst (λ (c : Replica). IsRefused points inputs old.book c.front entry refusal) (same_replica old.replicas r b a g f) B))
  offers old new other clear r entry (Refused refusal) (Accepted q t) (a, f, m, A, e) (b, g, n, B, h) =
      absurd (accepted_refused (sum old.book.opening.weights) old.book clear b.front entry q t refusal m B (subst (λ (c : Replica). IsRefused points inputs old.book c.front entry refusal) (same_replica old.replicas r a b f g) A))
  offers old new other clear r entry (Refused refusal) (Refused cause) (a, f, m, A, e) (b, g, n, B, h) =
      (ap Refused (one_refusal (sum old.book.opening.weights) old.book clear a.front entry refusal cause m A (subst (λ (c : Replica). IsRefused points inputs old.book c.front entry cause) (same_replica old.replicas r b a g f) B)), e ∙ sym h)
  offers old new other clear r entry _ _ h k = absurd (assumption (h, k))

  replies : (old new other : World E) → AreClear points inputs (state_of points inputs old.book).plan → (event : Event E) (reply answer : Reply) → Step justified points inputs old event (Some reply) new → Step justified points inputs old event (Some answer) other → (reply ≡ answer) × (new ≡ other)
  replies old new other clear Join (Joined r) (Joined s) (a, e) (b, h) = (ap Joined (a ∙ sym b), e ∙ sym h)
  replies old new other clear (Catch r) (Caught m) (Caught n) (l, a, e) (l', b, h) = (ap Caught (a ∙ sym b), e ∙ sym h)
  replies old new other clear (Offer r entry) reply answer h k = offers old new other clear r entry reply answer h k
  replies old new other clear _ _ _ h k = absurd (assumption (h, k))

-- ---- every offer has a reply
stop_place : (points : List Point) (edges : List Edge) (plan : Plan) → followed_all points plan edges ≡ None → (p : ℕ) × StopsAt points plan edges p
stop_place points [] plan h = absurd (cc)
stop_place points (e ∷ edges) plan h = by_image (image_of points plan.centre e) refl h (λ next k. stop_place points edges next k)
  where
    shift : (f : Edge) → image_of points plan.centre e ≡ Some f → (p : ℕ) × StopsAt points (with_flip plan (record { edge = e; image = f })) edges p → (p : ℕ) × StopsAt points plan (e ∷ edges) p
    shift f i (p, (d, before, g, k, j)) = (
      suc p,
      (
        d,
        before,
        g,
        ap (λ r. elim r as (λ _. Option Plan) [ Some next ↦ followed_all points next (take p edges) | None ↦ None ]) (ap (λ r. elim r as (λ _. Option Plan) [ Some f ↦ Some (with_flip plan (record { edge = e; image = f })) | None ↦ None ]) i) ∙ k,
        j,
      ),
    )

    by_image : (r : Option Edge) → image_of points plan.centre e ≡ r
        → elim (elim r as (λ _. Option Plan) [ Some f ↦ Some (with_flip plan (record { edge = e; image = f })) | None ↦ None ]) as (λ _. Option Plan) [ Some next ↦ followed_all points next edges | None ↦ None ] ≡ None
        → ((next : Plan) → followed_all points next edges ≡ None → (p : ℕ) × StopsAt points next edges p) → (p : ℕ) × StopsAt points plan (e ∷ edges) p
    by_image None i k again = (0, (e, plan, refl, refl, i))
    by_image (Some f) i k again = shift f i (again (with_flip plan (record { edge = e; image = f })) k)

module _ (E : Type 0) (justified : PairRow E → Type 0) (points : List Point) (inputs : List (List Edge)) (N : IsInstance points inputs) (state : State E) (K : IsState justified points inputs state) where
  centre_clear : AreClear points inputs state.plan
  centre_clear i rounds l R = (faultless_rounds_lead points (input_at inputs i) state.plan.centre rounds N.placed (N.triangulated i [] l) (centres_are_triangulations points inputs state.plan N K.is_plan)).1 R

  judged : (copies : ℕ) (entry : Entry E) → MayBeOffered justified (length inputs) copies entry → IsFit points inputs state entry ⊎ ((refusal : Refusal) × IsUnfit points inputs state entry refusal)
  judged copies (Move turn edges) m = by_next (followed_all points state.plan edges) refl
    where
      stopped : (p : ℕ) × StopsAt points state.plan edges p → (refusal : Refusal) × IsUnfit points inputs state (Move turn edges) refusal
      stopped (p, s) = (BadMove p, s)

      by_total : (next : Plan) → followed_all points state.plan edges ≡ Some next → Dec (suc (plan_total next) ≤ plan_total state.plan) → IsFit points inputs state (Move turn edges) ⊎ ((refusal : Refusal) × IsUnfit points inputs state (Move turn edges) refusal)
      by_total next e (yes l) = inl (next, e, omega arith)
      by_total next e (no l) = inr (NotBetter (plan_total state.plan) (plan_total next), (next, e, refl, refl, omega arith))

      by_next : (r : Option Plan) → followed_all points state.plan edges ≡ r → IsFit points inputs state (Move turn edges) ⊎ ((refusal : Refusal) × IsUnfit points inputs state (Move turn edges) refusal)
      by_next None e = inr (stopped (stop_place points edges state.plan e))
      by_next (Some next) e = by_total next e (dec_le (suc (plan_total next)) (plan_total state.plan))
  judged copies (Swap turn input rounds) m = by_fault (swap_fault points (input_at inputs input) rounds state.plan.centre) refl
    where
      Goal : Type 0
      Goal = IsFit points inputs state (Swap turn input rounds) ⊎ ((refusal : Refusal) × IsUnfit points inputs state (Swap turn input rounds) refusal)

      by_swap : AreRoundsOf points (input_at inputs input) rounds state.plan.centre → Swaps points inputs state.plan input rounds → Goal
      by_swap R W = by_total (dec_le (suc (plan_total W.next)) (plan_total state.plan))
        where
          by_total : Dec (suc (plan_total W.next) ≤ plan_total state.plan) → Goal
          by_total (yes l) = inl (R, (W.next, W.is_swapped, omega arith))
          by_total (no l) = inr (NotBetter (plan_total state.plan) (plan_total W.next), (R, (W.next, W.is_swapped, refl, refl, omega arith)))

      by_fault : (r : Option SwapFault) → swap_fault points (input_at inputs input) rounds state.plan.centre ≡ r → Goal
      by_fault (Some fault) e = inr (BadSwap fault, e)
      by_fault None e =
          let R = (faultless_rounds_lead points (input_at inputs input) state.plan.centre rounds N.placed (N.triangulated input [] m) (centres_are_triangulations points inputs state.plan N K.is_plan)).0 e in
          by_swap R (swaps_keep_plans points inputs state.plan input rounds N K.is_plan m R)
  judged copies (Row turn row) m = by_row (row_of state.rows row.low row.high) refl
    where
      by_row : (r : Option (PairRow E)) → row_of state.rows row.low row.high ≡ r → IsFit points inputs state (Row turn row) ⊎ ((refusal : Refusal) × IsUnfit points inputs state (Row turn row) refusal)
      by_row None e = inl e
      by_row (Some old) e = inr (Taken row.low row.high, (λ n. cc, refl, refl))
  judged copies (Pack turn assignment) m = by_bound (dec_le (suc (bound state)) (bound_of state assignment))
    where
      by_bound : Dec (suc (bound state) ≤ bound_of state assignment) → IsFit points inputs state (Pack turn assignment) ⊎ ((refusal : Refusal) × IsUnfit points inputs state (Pack turn assignment) refusal)
      by_bound (yes l) = inl (omega arith)
      by_bound (no l) = inr (NoRise (bound state) (bound_of state assignment), (refl, refl, omega arith))

module _ (E : Type 0) (justified : PairRow E → Type 0) (points : List Point) (inputs : List (List Edge)) where
  refused_unfit : (book : Book E) (base : ℕ) (entry : Entry E) (refusal : Refusal) → ¬ IsStale book base entry → IsUnfit points inputs (state_of points inputs book) entry refusal → IsRefused points inputs book base entry refusal
  refused_unfit book base (Move turn edges) (Stale said is) n u = absurd u
  refused_unfit book base (Swap turn input rounds) (Stale said is) n u = absurd u
  refused_unfit book base (Row turn row) (Stale said is) n u = absurd u
  refused_unfit book base (Pack turn assignment) (Stale said is) n u = absurd u
  refused_unfit book base entry (BadMove place) n u = (n, u)
  refused_unfit book base entry (BadSwap fault) n u = (n, u)
  refused_unfit book base entry (NotBetter held given) n u = (n, u)
  refused_unfit book base entry (Taken low high) n u = u
  refused_unfit book base entry (NoRise held given) n u = u

  stale_decided : (book : Book E) (base : ℕ) (entry : Entry E) → Dec (IsStale book base entry)
  stale_decided book base entry = by_kind (is_plan_entry entry) refl (ℕ_discrete base (front book.journal))
    where
      by_kind : (v : Bool) → is_plan_entry entry ≡ v → Dec (base ≡ front book.journal) → Dec (IsStale book base entry)
      by_kind true e (yes i) = no (λ s. s.1 i)
      by_kind true e (no n) = yes (e, n)
      by_kind false e _ = no (λ s. let t = s.0 in cc)

  answered : (N : IsInstance points inputs) (old : World E) (r : ℕ) (replica : Replica) (entry : Entry E) → IsState justified points inputs (state_of points inputs old.book) → slice_get old.replicas r ≡ Some replica → MayBeOffered justified (length inputs) (sum old.book.opening.weights) entry
      → (reply : Reply) × (new : World E) × Step justified points inputs old (Offer r entry) (Some reply) new
  answered N old r replica entry K found m = by_stale (stale_decided old.book replica.front entry)
    where
      Goal : Type 0
      Goal = (reply : Reply) × (new : World E) × Step justified points inputs old (Offer r entry) (Some reply) new

      by_judged : ¬ IsStale old.book replica.front entry → IsFit points inputs (state_of points inputs old.book) entry ⊎ ((refusal : Refusal) × IsUnfit points inputs (state_of points inputs old.book) entry refusal) → Goal
      by_judged n (inl fit) = (
        Accepted (length old.book.journal) (plan_total (state_of points inputs old.book).plan - plan_total (state_of points inputs (with_entry old.book entry)).plan),
        record { book = with_entry old.book entry; replicas = old.replicas },
        (replica, found, m, record { fresh = n; fit = fit; at_end = refl; saves = refl }, refl),
      )
      by_judged n (inr (refusal, u)) = (Refused refusal, old, (replica, found, m, refused_unfit old.book replica.front entry refusal n u, refl))

      by_stale : Dec (IsStale old.book replica.front entry) → Goal
      by_stale (yes s) = (Refused (Stale replica.front (front old.book.journal)), old, (replica, found, m, (s, refl, refl), refl))
      by_stale (no n) = by_judged n (judged E justified points inputs N (state_of points inputs old.book) K (sum old.book.opening.weights) entry m)

pub replies_are_determined : (E : Type 0) (justified : Justification E) → RepliesAreDetermined E justified
replies_are_determined E justified points inputs old new other event reply answer N W h k =
    replies E (justified points inputs) points inputs old new other
    (centre_clear E (justified points inputs) points inputs N (state_of points inputs old.book) (books_keep_plans E justified points inputs old.book N W.book)) event reply answer h k

pub offers_are_answered : (E : Type 0) (justified : Justification E) → OffersAreAnswered E justified
offers_are_answered E justified points inputs old r replica entry N W found m = answered E (justified points inputs) points inputs N old r replica entry (books_keep_plans E justified points inputs old.book N W.book) found m
