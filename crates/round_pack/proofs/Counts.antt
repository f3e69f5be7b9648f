-- How many flips each round has: one more, one less, and no round is empty.
use Rattle.std.proofs.Common.{◌≡◌, ◌≢◌, ◌∙◌, ℕ, zero, suc, ◌+◌, ◌-◌, ◌<◌, ◌≤◌, ◌==◌, max, Bool, true, false, cond, List, [], ◌∷◌, ◌++◌, length, get_or, set, take, remove, Contains, length-append, length-take, get_or-set_same, get_or-set_other, get_or-take, refl, sym, ap, subst, arith, eq-eqb, eqb-true}
use native.Mathlib.Decide.{dec_lt, ℕ_discrete}
use Rattle.std.proofs.Math.ListN.{get_or-append}
use Rattle.std.proofs.Math.Seq.{get_or-append_seam}
use Rattle.edge_table.specs.declared.edge.Edge.{Edge}
use Rattle.edge_table.proofs.Edges.{contains_here}
use Rattle.flip_list_law.specs.declared.Flip.{Flip}
use Rattle.flip_list_law.specs.FlipLists.{greatest, grouped, round_numbers, flipped_edges}
use Rattle.flip_list_law.proofs.FlipLists.{greatest-append}
use Rattle.flip_list_law.proofs.GroupingShape.{all_rounds, length-grouped, grouped_filled}
use Rattle.flip_list_law.proofs.Proved.{rounds_group_by_number}
use Rattle.round_pack.specs.Counts.{how_many, AreFilled, AreCounted, IsRest}

-- ---- how often a number stands in a list
unlike : (a b : ℕ) → (a ≢ b) → (a == b) ≡ false
unlike a b n = by_test (a == b) refl
  where
    by_test : (u : Bool) → (a == b) ≡ u → (a == b) ≡ false
    by_test true h = absurd (n (eqb-true a b h))
    by_test false h = h

same_more : (n : ℕ) (ms : List ℕ) → how_many n (n ∷ ms) ≡ suc (how_many n ms)
same_more n ms = ap (λ b. cond b (suc (how_many n ms)) (how_many n ms)) (eq-eqb n n refl)

other_more : (n m : ℕ) (ms : List ℕ) → (n ≢ m) → how_many n (m ∷ ms) ≡ how_many n ms
other_more n m ms h = ap (λ b. cond b (suc (how_many n ms)) (how_many n ms)) (unlike m n (λ e. h (sym e)))

no_fewer : (n m : ℕ) (ms : List ℕ) → how_many n ms ≤ how_many n (m ∷ ms)
no_fewer n m ms = by_test (m == n)
  where
    by_test : (b : Bool) → how_many n ms ≤ cond b (suc (how_many n ms)) (how_many n ms)
    by_test true = omega arith
    by_test false = omega arith

-- none is above the greatest, and the greatest is there
pub none_above : (ms : List ℕ) (k : ℕ) → greatest ms < k → how_many k ms ≡ 0
none_above [] k l = refl
none_above (m ∷ ms) k l = other_more k m ms (λ e. absurd (omega arith)) ∙ none_above ms k (omega arith)

pub greatest_there : (ms : List ℕ) → 0 < greatest ms → 0 < how_many (greatest ms) ms
greatest_there [] l = absurd (omega arith)
greatest_there (m ∷ ms) l = by_order (greatest_there ms) (dec_lt (greatest ms) m)
  where
    by_order : (0 < greatest ms → 0 < how_many (greatest ms) ms) → Dec (greatest ms < m) → 0 < how_many (greatest (m ∷ ms)) (m ∷ ms)
    by_order again (yes u) =
        let e : m ≡ max m (greatest ms) = omega arith in
        subst (λ k. 0 < how_many k (m ∷ ms)) e (let s = same_more m ms in omega arith)
    by_order again (no n) =
        let e : greatest ms ≡ max m (greatest ms) = omega arith in
        subst (λ k. 0 < how_many k (m ∷ ms)) e (let h = again (omega arith) in let g = no_fewer (greatest ms) m ms in omega arith)

pub greatest_is : (ms : List ℕ) (r : ℕ) → ((k : ℕ) → r < k → how_many k ms ≡ 0) → (0 < r → 0 < how_many r ms) → r ≡ greatest ms
greatest_is ms r none some = by_order (dec_lt r (greatest ms)) (dec_lt (greatest ms) r)
  where
    by_order : Dec (r < greatest ms) → Dec (greatest ms < r) → r ≡ greatest ms
    by_order (yes l) _ = absurd (let z = none (greatest ms) l in let h = greatest_there ms (omega arith) in omega arith)
    by_order (no n) (yes l) = absurd (let z = none_above ms r l in let h = some (omega arith) in omega arith)
    by_order (no n) (no m) = omega arith

pub at_most : (ms : List ℕ) (k : ℕ) → how_many k ms ≤ length ms
at_most [] k = omega arith
at_most (m ∷ ms) k = let h = at_most ms k in by_test (m == k) h
  where
    by_test : (b : Bool) → how_many k ms ≤ length ms → cond b (suc (how_many k ms)) (how_many k ms) ≤ suc (length ms)
    by_test true h = omega arith
    by_test false h = omega arith

pub stands : (ms : List ℕ) (i n : ℕ) → i < length ms → get_or ms i 0 ≡ n → 0 < how_many n ms
stands [] i n l e = absurd (omega arith)
stands (m ∷ ms) zero n l e = subst (λ k. 0 < how_many k (m ∷ ms)) e (let s = same_more m ms in omega arith)
stands (m ∷ ms) (suc i) n l e = let h = stands ms i n (omega arith) e in let g = no_fewer n m ms in omega arith

-- ---- one number more, one less
move : (b : Bool) (x : ℕ) → cond b (suc (suc x)) (suc x) ≡ suc (cond b (suc x) x)
move true x = refl
move false x = refl

append_same : (ms : List ℕ) (n : ℕ) → how_many n (ms ++ n ∷ []) ≡ suc (how_many n ms)
append_same [] n = same_more n []
append_same (m ∷ ms) n = ap (λ x. cond (m == n) (suc x) x) (append_same ms n) ∙ move (m == n) (how_many n ms)

append_other : (ms : List ℕ) (n k : ℕ) → (k ≢ n) → how_many k (ms ++ n ∷ []) ≡ how_many k ms
append_other [] n k h = other_more k n [] h
append_other (m ∷ ms) n k h = ap (λ x. cond (m == k) (suc x) x) (append_other ms n k h)

greatest_append : (ms : List ℕ) (n : ℕ) → greatest (ms ++ n ∷ []) ≡ max (greatest ms) n
greatest_append ms n = let e = greatest-append ms (n ∷ []) in omega arith

remove_same : (ms : List ℕ) (i : ℕ) → i < length ms → how_many (get_or ms i 0) ms ≡ suc (how_many (get_or ms i 0) (remove ms i))
remove_same [] i l = absurd (omega arith)
remove_same (m ∷ ms) zero l = same_more m ms
remove_same (m ∷ ms) (suc i) l = ap (λ x. cond (m == get_or ms i 0) (suc x) x) (remove_same ms i (omega arith)) ∙ move (m == get_or ms i 0) (how_many (get_or ms i 0) (remove ms i))

remove_other : (ms : List ℕ) (i k : ℕ) → i < length ms → (k ≢ get_or ms i 0) → how_many k ms ≡ how_many k (remove ms i)
remove_other [] i k l h = absurd (omega arith)
remove_other (m ∷ ms) zero k l h = other_more k m ms h
remove_other (m ∷ ms) (suc i) k l h = ap (λ x. cond (m == k) (suc x) x) (remove_other ms i k (omega arith) h)

pub rest_of : (ms : List ℕ) (i n : ℕ) → i < length ms → n ≡ get_or ms i 0 → IsRest ms (remove ms i) n
rest_of ms i n l e = subst (IsRest ms (remove ms i)) (sym e) (record { one_less = remove_same ms i l; others = λ k h. remove_other ms i k l h })

-- ---- no round is empty
first_of : (es : List Edge) → 0 < length es → (e : Edge) × Contains es e
first_of [] l = absurd (omega arith)
first_of (e ∷ es) l = (e, contains_here e e es refl)

pub all_filled : (flips : List Flip) → AreFilled (round_numbers flips)
all_filled flips k l =
    let e = length-grouped flips in
    let some : 0 < length (get_or (grouped flips) k []) = all_rounds (λ round. 0 < length round) (grouped flips) (grouped_filled flips) k [] (omega arith) in
    let one = first_of (get_or (grouped flips) k []) some in
    by_place ((rounds_group_by_number flips k one.0).0 one.1)
  where
    by_place : {e : Edge} → (place : ℕ) × (place < length flips) × (get_or (round_numbers flips) place 0 ≡ suc k) × (get_or (flipped_edges flips) place e ≡ e) → 0 < how_many (suc k) (round_numbers flips)
    by_place (place, m, n, h) = within (dec_lt place (length (round_numbers flips)))
      where
        beyond : (ms : List ℕ) (i : ℕ) → ¬ (i < length ms) → get_or ms i 0 ≡ 0
        beyond [] i n = refl
        beyond (m ∷ ms) zero n = absurd (n (omega arith))
        beyond (m ∷ ms) (suc i) n = beyond ms i (λ l. n (omega arith))

        within : Dec (place < length (round_numbers flips)) → 0 < how_many (suc k) (round_numbers flips)
        within (yes u) = stands (round_numbers flips) place (suc k) u n
        within (no u) = absurd (let z = beyond (round_numbers flips) place u in omega arith)

-- ---- counts
length_set : (xs : List ℕ) (i x : ℕ) → length (set xs i x) ≡ length xs
length_set [] i x = refl
length_set (y ∷ xs) zero x = refl
length_set (y ∷ xs) (suc i) x = ap suc (length_set xs i x)

pub known : (xs : List ℕ) (i x : ℕ) → i < length xs → x ≡ get_or xs i x → x ≡ get_or xs i 0
known [] i x l h = absurd (omega arith)
known (y ∷ xs) zero x l h = h
known (y ∷ xs) (suc i) x l h = known xs i x (omega arith) h

module _ (counts numbers : List ℕ) (C : AreCounted counts numbers) where
  pub more_in_round : (n x : ℕ) → 0 < n → n - 1 < length counts → x ≡ get_or counts (n - 1) 0 + 1 → AreCounted (set counts (n - 1) x) (numbers ++ n ∷ [])
  more_in_round n x p l h = record {
    as_many = let e = length_set counts (n - 1) x in let f = C.as_many in let g = greatest_append numbers n in omega arith;
    each = λ k m. each k (let e = length_set counts (n - 1) x in omega arith) (ℕ_discrete k (n - 1));
    filled = λ k m. filled k (let e = length_set counts (n - 1) x in omega arith) (ℕ_discrete k (n - 1));
  }
    where
      here : (k : ℕ) → k ≡ n - 1 → get_or (set counts (n - 1) x) k 0 ≡ x
      here k e = ap (λ j. get_or (set counts (n - 1) x) j 0) e ∙ get_or-set_same counts (n - 1) x 0 l

      each : (k : ℕ) → k < length counts → Dec (k ≡ n - 1) → get_or (set counts (n - 1) x) k 0 ≡ how_many (suc k) (numbers ++ n ∷ [])
      each k m (yes e) =
          let s : n ≡ suc (n - 1) = omega arith in
          let t : suc k ≡ n = omega arith in
          let a = C.each (n - 1) l in
          let b : get_or counts (n - 1) 0 ≡ how_many n numbers = a ∙ ap (λ j. how_many j numbers) (sym s) in
          let d = append_same numbers n in
          here k e ∙ (let v : x ≡ how_many n (numbers ++ n ∷ []) = omega arith in v) ∙ ap (λ j. how_many j (numbers ++ n ∷ [])) (sym t)
      each k m (no u) = get_or-set_other counts (n - 1) k x 0 u ∙ C.each k m ∙ sym (append_other numbers n (suc k) (λ e. u (omega arith)))

      filled : (k : ℕ) → k < length counts → Dec (k ≡ n - 1) → 0 < get_or (set counts (n - 1) x) k 0
      filled k m (yes e) = let v = here k e in omega arith
      filled k m (no u) = let v = get_or-set_other counts (n - 1) k x 0 u in let w = C.filled k m in omega arith

  pub one_round_more : (n : ℕ) → 0 < n → n - 1 ≡ length counts → AreCounted (counts ++ 1 ∷ []) (numbers ++ n ∷ [])
  one_round_more n p l = record {
    as_many = let e = length-append counts (1 ∷ []) in let f = C.as_many in let g = greatest_append numbers n in omega arith;
    each = λ k m. each k (let e = length-append counts (1 ∷ []) in omega arith) (dec_lt k (length counts));
    filled = λ k m. filled k (let e = length-append counts (1 ∷ []) in omega arith) (dec_lt k (length counts));
  }
    where
      last : (k : ℕ) → k ≡ length counts → get_or (counts ++ 1 ∷ []) k 0 ≡ 1
      last k e = ap (λ j. get_or (counts ++ 1 ∷ []) j 0) e ∙ get_or-append_seam counts 1 [] 0

      each : (k : ℕ) → k ≤ length counts → Dec (k < length counts) → get_or (counts ++ 1 ∷ []) k 0 ≡ how_many (suc k) (numbers ++ n ∷ [])
      each k m (yes u) = get_or-append counts (1 ∷ []) 0 k u ∙ C.each k u ∙ sym (append_other numbers n (suc k) (λ e. absurd (omega arith)))
      each k m (no u) =
          let t : n ≡ suc k = omega arith in
          let f = C.as_many in
          let z = none_above numbers n (omega arith) in
          let d = append_same numbers n in
          last k (omega arith) ∙ (let v : 1 ≡ how_many n (numbers ++ n ∷ []) = omega arith in v) ∙ ap (λ j. how_many j (numbers ++ n ∷ [])) t

      filled : (k : ℕ) → k ≤ length counts → Dec (k < length counts) → 0 < get_or (counts ++ 1 ∷ []) k 0
      filled k m (yes u) = let v = get_or-append counts (1 ∷ []) 0 k u in let w = C.filled k u in omega arith
      filled k m (no u) = let v = last k (omega arith) in omega arith

  module _ (rest : List ℕ) (n : ℕ) (R : IsRest numbers rest n) (F : AreFilled rest) (p : 0 < n) (l : n ≤ length counts) where
    round_is : suc (n - 1) ≡ n
    round_is = omega arith

    -- how many flips with the number are left
    left_in_round : get_or counts (n - 1) 0 ≡ suc (how_many n rest)
    left_in_round = C.each (n - 1) (omega arith) ∙ ap (λ j. how_many j numbers) round_is ∙ R.one_less

    in_others : (k : ℕ) → k < length counts → (suc k ≢ n) → get_or counts k 0 ≡ how_many (suc k) rest
    in_others k m h = C.each k m ∙ R.others (suc k) h

    none_over : (k : ℕ) → length counts < k → how_many k rest ≡ 0
    none_over k m = let a = C.as_many in let z = none_above numbers k (omega arith) in let e = R.others k (λ i. absurd (omega arith)) in omega arith

    -- an emptied round is the last
    pub emptied_last : get_or counts (n - 1) 0 ≡ 1 → n ≡ length counts
    emptied_last h = by_case (ℕ_discrete n (length counts))
      where
        by_case : Dec (n ≡ length counts) → n ≡ length counts
        by_case (yes e) = e
        by_case (no u) =
            let c : suc (length counts - 1) ≡ length counts = omega arith in
            let some = C.filled (length counts - 1) (omega arith) in
            let e = in_others (length counts - 1) (omega arith) (λ i. u (omega arith)) ∙ ap (λ j. how_many j rest) c in
            let high : length counts ≤ greatest rest = reaches (dec_lt (greatest rest) (length counts)) (omega arith) in
            let f = F (n - 1) (omega arith) in
            let g = ap (λ j. how_many j rest) round_is in
            let b = left_in_round in
            absurd (omega arith)
          where
            reaches : Dec (greatest rest < length counts) → 0 < how_many (length counts) rest → length counts ≤ greatest rest
            reaches (yes v) w = absurd (let z = none_above rest (length counts) v in omega arith)
            reaches (no v) w = omega arith

    pub rounds_less : get_or counts (n - 1) 0 ≡ 1 → length counts - 1 ≡ greatest rest
    rounds_less h = greatest_is rest (length counts - 1) (λ k m. none k m (dec_lt (length counts) k)) some
      where
        last : n ≡ length counts
        last = emptied_last h

        none : (k : ℕ) → length counts - 1 < k → Dec (length counts < k) → how_many k rest ≡ 0
        none k m (yes u) = none_over k u
        none k m (no u) = let i = last in let e : k ≡ n = omega arith in ap (λ j. how_many j rest) e ∙ (let b = left_in_round in let z : how_many n rest ≡ 0 = omega arith in z)

        some : 0 < length counts - 1 → 0 < how_many (length counts - 1) rest
        some m =
            let c : suc (length counts - 1 - 1) ≡ length counts - 1 = omega arith in
            let f = C.filled (length counts - 1 - 1) (omega arith) in
            let e = in_others (length counts - 1 - 1) (omega arith) (λ i. absurd (let j = last in omega arith)) ∙ ap (λ j. how_many j rest) c in
            omega arith

    pub rounds_stay : get_or counts (n - 1) 0 ≢ 1 → length counts ≡ greatest rest
    rounds_stay h = greatest_is rest (length counts) none_over (λ m. some m (ℕ_discrete (length counts) n))
      where
        some : 0 < length counts → Dec (length counts ≡ n) → 0 < how_many (length counts) rest
        some m (yes e) = subst (λ j. 0 < how_many j rest) (sym e) (let b = left_in_round in stays (how_many n rest) b)
          where
            stays : (x : ℕ) → get_or counts (n - 1) 0 ≡ suc x → 0 < x
            stays zero b = absurd (h b)
            stays (suc x) b = omega arith
        some m (no u) =
            let c : suc (length counts - 1) ≡ length counts = omega arith in
            let f = C.filled (length counts - 1) (omega arith) in
            let e = in_others (length counts - 1) (omega arith) (λ i. u (omega arith)) ∙ ap (λ j. how_many j rest) c in
            omega arith

    pub one_round_less : get_or counts (n - 1) 0 ≡ 1 → AreCounted (take (length counts - 1) counts) rest
    one_round_less h = record { as_many = long ∙ rounds_less h; each = λ k m. each k (omega (arith, long)); filled = λ k m. filled k (omega (arith, long)) }
      where
        last : n ≡ length counts
        last = emptied_last h

        long : length (take (length counts - 1) counts) ≡ length counts - 1
        long = let e = length-take (length counts - 1) counts in omega arith

        each : (k : ℕ) → k < length counts - 1 → get_or (take (length counts - 1) counts) k 0 ≡ how_many (suc k) rest
        each k m = get_or-take (length counts - 1) counts k 0 m ∙ in_others k (omega arith) (λ i. absurd (let j = last in omega arith))

        filled : (k : ℕ) → k < length counts - 1 → 0 < get_or (take (length counts - 1) counts) k 0
        filled k m = let e = get_or-take (length counts - 1) counts k 0 m in let f = C.filled k (omega arith) in omega arith

    pub less_in_round : (x : ℕ) → get_or counts (n - 1) 0 ≢ 1 → x ≡ get_or counts (n - 1) 0 - 1 → AreCounted (set counts (n - 1) x) rest
    less_in_round x h e = record {
      as_many = length_set counts (n - 1) x ∙ rounds_stay h;
      each = λ k m. each k (let v = length_set counts (n - 1) x in omega arith) (ℕ_discrete k (n - 1));
      filled = λ k m. filled k (let v = length_set counts (n - 1) x in omega arith) (ℕ_discrete k (n - 1));
    }
      where
        here : (k : ℕ) → k ≡ n - 1 → get_or (set counts (n - 1) x) k 0 ≡ x
        here k i = ap (λ j. get_or (set counts (n - 1) x) j 0) i ∙ get_or-set_same counts (n - 1) x 0 (omega arith)

        each : (k : ℕ) → k < length counts → Dec (k ≡ n - 1) → get_or (set counts (n - 1) x) k 0 ≡ how_many (suc k) rest
        each k m (yes i) =
            let t : n ≡ suc k = omega arith in
            let b = left_in_round in
            here k i ∙ (let v : x ≡ how_many n rest = omega arith in v) ∙ ap (λ j. how_many j rest) t
        each k m (no u) = get_or-set_other counts (n - 1) k x 0 u ∙ in_others k m (λ i. u (omega arith))

        filled : (k : ℕ) → k < length counts → Dec (k ≡ n - 1) → 0 < get_or (set counts (n - 1) x) k 0
        filled k m (yes i) = let v = here k i in let b = left_in_round in stays (get_or counts (n - 1) 0) refl
          where
            stays : (y : ℕ) → get_or counts (n - 1) 0 ≡ y → 0 < get_or (set counts (n - 1) x) k 0
            stays zero g = absurd (let b = left_in_round in omega arith)
            stays (suc zero) g = absurd (h g)
            stays (suc (suc y)) g = let v = here k i in omega arith
        filled k m (no u) = let v = get_or-set_other counts (n - 1) k x 0 u in let w = C.filled k m in omega arith
