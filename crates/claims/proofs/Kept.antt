-- Each step keeps the rule of the counter of turns.
use Rattle.std.proofs.Common.{◌≡◌, ℕ, ◌+◌, ◌-◌, ◌%◌, ◌^◌, ◌<◌, ◌≤◌, List, [], ◌∷◌, ◌++◌, length, get_or, set, sym, refl, ap, ◌∙◌, arith, length-append}
use Rattle.std.specs.Prelude.{sum_by}
use Rattle.std.proofs.lemmas.Bool.Decides.{nat_tests}
use Rattle.std.proofs.lemmas.List.Sums.{sum_by_push}
use mathlib.Core.Option.{none, some}
use lib.ListN.{get_elem?}
use Rattle.atomic_table.specs.Table.{State, Me, step, keeps, Allows, Splits, Joins, opening}
use Rattle.atomic_table.proofs.Lists.{set_else}
use Rattle.claims.specs.declared.claims_rule.View.{View}
use Rattle.claims.specs.declared.claims_rule.Extent.{Extent}
use Rattle.claims.specs.Draws.{times, late, once_below}
use Rattle.claims.specs.Steps.{seat_view, IsInBounds, Keeps, first_view, Draws, without_one_seat, of_one_seat, of_both, spent}
use Rattle.claims.proofs.Numbers.{times-append, late-append, once_more, late_lone, late_more}
use Rattle.seat_list.proofs.Sums.{sum_by_exchange, sum_by_two, sum_by_lone, sum_by_below}
use Rattle.seat_list.proofs.Views.{each_set, each_snoc, each_lone}

abbrev St : Type 0
St = State (Unit {0}) View

abbrev seats_in : View → ℕ
seats_in v = v.seats

abbrev times_in : ℕ → View → ℕ
times_in x v = times x v.numbers

abbrev count_in : View → ℕ
count_in v = length v.numbers

abbrev late_in : ℕ → View → ℕ
late_in turns v = late turns v.numbers

pub starts : (k : Extent) → 0 < k.seats → k.seats ≤ 16 → k.turns ≤ 2000000 → Keeps k (opening (0 ∷ []) [] (first_view k))
starts k low high many = record {
  word = 0;
  words = refl;
  few = (high, many);
  seats = omega arith;
  once = λ x. grind (arith, nat_tests);
  count = refl;
  over = omega arith;
  bounds = each_lone (IsInBounds k.turns) (first_view k) (omega arith, λ _. refl);
}

-- how far the word may be
word_small : (k : Extent) (s : St) (r : Keeps k s) → r.word ≤ k.turns + 16
word_small k s r = let over = r.over in let seats = r.seats in let few = r.few.0 in let below = sum_by_below (late_in k.turns) seats_in s.views (λ i v e. (r.bounds i v e).0) in omega arith

pub draws : (k : Extent) (slots id : ℕ) (me : Me (Unit {0}) View) → 0 < me.0.seats → late k.turns me.0.numbers ≡ 0
    → Allows (Keeps k) slots id me 0 (λ n. (n + 1) % 2 ^ 64) (Draws (step slots 0 1 0 none) me)
draws k slots id me one no_late s r _ at fits = let n : ℕ = get_or s.words 0 0 in let w : View = seat_view me.0.seats (me.0.numbers ++ n ∷ []) in
    let found : n ≡ r.word = ap (λ (ws : List ℕ). get_or ws 0 0) r.words in let small = word_small k s r in let few = r.few.0 in let many = r.few.1 in
    let next : (n + 1) % 18446744073709551616 ≡ n + 1 = omega arith in (
      w,
      keeps,
      tt,
      record {
        word = n + 1;
        words = ap (λ (ws : List ℕ). set ws 0 ((n + 1) % 18446744073709551616)) r.words ∙ ap (λ (x : ℕ). x ∷ []) next;
        few = r.few;
        seats = let h = sum_by_exchange seats_in s.views id me.0 w at in let p = r.seats in omega arith;
        once = λ x. let h = sum_by_exchange (times_in x) s.views id me.0 w at in let a = times-append x me.0.numbers (n ∷ []) in let m = once_more x n in
            let o : sum_by (times_in x) s.views ≡ once_below n x = r.once x ∙ ap (λ (b : ℕ). once_below b x) (sym found) in omega arith;
        count = let h = sum_by_exchange count_in s.views id me.0 w at in let o = r.count in omega (arith, length-append me.0.numbers (n ∷ []));
        over = let h = sum_by_exchange (late_in k.turns) s.views id me.0 w at in let o = r.over in let a = late-append k.turns me.0.numbers (n ∷ []) in let m = late_more k.turns n in omega arith;
        bounds = each_set (IsInBounds k.turns) s.views id w
            ((let a = late-append k.turns me.0.numbers (n ∷ []) in let m = late_lone k.turns n in omega arith), λ z. absurd (omega arith)) (λ j v _. r.bounds j v);
      },
      (refl, refl),
    )

pub splits : (k : Extent) (id : ℕ) (v : View) → 1 < v.seats → v.numbers ≡ [] → Splits (Keeps k) id v (without_one_seat v) (of_one_seat v)
splits k id v many empty s r at = let l : View = without_one_seat v in let g : View = of_one_seat v in let vs : List View = set s.views id l in record {
  word = r.word;
  words = r.words;
  few = r.few;
  seats = let h = sum_by_exchange seats_in s.views id v l at in let h' = sum_by_push seats_in vs g in let p = r.seats in omega arith;
  once = λ x. let h = sum_by_exchange (times_in x) s.views id v l at in let h' = sum_by_push (times_in x) vs g in let o = r.once x in omega arith;
  count = let h = sum_by_exchange count_in s.views id v l at in let h' = sum_by_push count_in vs g in let o = r.count in omega arith;
  over = let h = sum_by_exchange (late_in k.turns) s.views id v l at in let h' = sum_by_push (late_in k.turns) vs g in let o = r.over in omega arith;
  bounds = each_snoc (IsInBounds k.turns) vs g (omega arith, λ _. refl)
      (each_set (IsInBounds k.turns) s.views id l ((let z : late k.turns v.numbers ≡ 0 = ap (late k.turns) empty in omega arith), λ _. empty) (λ j w _. r.bounds j w));
}

pub joins : (k : Extent) (id : ℕ) (v : View) (other : ℕ) (w : View) → Joins (Keeps k) id v other w (of_both v w) spent
joins k id v other w s r at apart there = let b : View = of_both v w in let vs : List View = set s.views id b in let was : get_elem? s.views other ≡ some w = sym (set_else s.views id other b apart) ∙ there in
    let ok = r.bounds id v at in let ok' = r.bounds other w was in let ok₀ = ok.0 in let ok'₀ = ok'.0 in record {
      word = r.word;
      words = r.words;
      few = r.few;
      seats = let h = sum_by_exchange seats_in s.views id v b at in let h' = sum_by_exchange seats_in vs other w spent there in let p = r.seats in omega arith;
      once = λ x. let h = sum_by_exchange (times_in x) s.views id v b at in let h' = sum_by_exchange (times_in x) vs other w spent there in let o = r.once x in
          let a = times-append x v.numbers w.numbers in omega arith;
      count = let h = sum_by_exchange count_in s.views id v b at in let h' = sum_by_exchange count_in vs other w spent there in let o = r.count in omega (arith, length-append v.numbers w.numbers);
      over = let h = sum_by_exchange (late_in k.turns) s.views id v b at in let h' = sum_by_exchange (late_in k.turns) vs other w spent there in let o = r.over in
          let a = late-append k.turns v.numbers w.numbers in omega arith;
      bounds = each_set (IsInBounds k.turns) vs other spent (omega arith, λ _. refl) (λ j' w' _ e'. each_set (IsInBounds k.turns) s.views id b
          ((let a = late-append k.turns v.numbers w.numbers in omega arith), λ z. let e = ok.1 (omega arith) in let e' = ok'.1 (omega arith) in λ i. e i ++ e' i) (λ j w _. r.bounds j w) j' w' e');
    }

-- who stands for all seats is the only one that isn't spent, so whatever adds up over the views is all in its own
alone : (k : Extent) (s : St) (id : ℕ) (v : View) (f : View → ℕ) → ((w : View) → w.numbers ≡ [] → f w ≡ 0) → Keeps k s → get_elem? s.views id ≡ some v → v.seats ≡ k.seats → sum_by f s.views ≡ f v
alone k s id v f empty r at all = sum_by_lone f s.views id v at (λ j w other e. let two = sum_by_two seats_in s.views j id w v e at other in let p = r.seats in empty w ((r.bounds j w e).1 (omega arith)))

word_is : (k : Extent) (s : St) (r : Keeps k s) → get_or s.words 0 0 ≡ r.word
word_is k s r = ap (λ (ws : List ℕ). get_or ws 0 0) r.words

-- it has as many numbers as were drawn
pub last_count : (k : Extent) (s : St) (id : ℕ) (v : View) → Keeps k s → get_elem? s.views id ≡ some v → v.seats ≡ k.seats → length v.numbers ≡ get_or s.words 0 0
last_count k s id v r at all = sym (alone k s id v count_in (λ w e. ap (length {A = ℕ}) e) r at all) ∙ (r.count ∙ sym (word_is k s r))

-- as many late ones as were drawn past the turns
pub last_late : (k : Extent) (s : St) (id : ℕ) (v : View) → Keeps k s → get_elem? s.views id ≡ some v → v.seats ≡ k.seats → late k.turns v.numbers ≡ get_or s.words 0 0 - k.turns
last_late k s id v r at all = sym (alone k s id v (late_in k.turns) (λ w e. ap (late k.turns) e) r at all) ∙ (r.over ∙ ap (λ (n : ℕ). n - k.turns) (sym (word_is k s r)))

-- and each number below the word, once
pub last_once : (k : Extent) (s : St) (id : ℕ) (v : View) → Keeps k s → get_elem? s.views id ≡ some v → v.seats ≡ k.seats → (x : ℕ) → times x v.numbers ≡ once_below (get_or s.words 0 0) x
last_once k s id v r at all x = sym (alone k s id v (times_in x) (λ w e. ap (times x) e) r at all) ∙ (r.once x ∙ ap (λ (n : ℕ). once_below n x) (sym (word_is k s r)))
