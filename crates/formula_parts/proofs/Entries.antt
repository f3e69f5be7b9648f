-- Tables with an entry for each three points.
use Rattle.std.proofs.Common.{◌≡◌, ◌↔◌, ℕ, ◌+◌, ◌*◌, ◌/◌, ◌%◌, ◌<◌, ◌≤◌, Bool, false, List, [], ◌∷◌, ◌++◌, get_or, sym, ap, ◌∙◌, subst, arith, length-append}
use Rattle.std.specs.Bool.{IsTrue}
use Rattle.std.proofs.lemmas.List.{get_or_append_left, get_or_push}
use Rattle.std.proofs.lemmas.Nat.{div-mul-add, mod-mul-add}
use native.Mathlib.Decide.{dec_lt}
use Rattle.formula_parts.specs.Tables.{place, IsTable, Tells, IsTableUpto}

low : (a b c : ℕ) → b < 64 → c < 64 → place a b c / 4096 ≡ a
low a b c hb hc = ap (λ k. k / 4096) (sums a b c) ∙ div-mul-add a 4096 (b * 64 + c) (omega arith)
  where
    sums : (a b c : ℕ) → a * 4096 + b * 64 + c ≡ a * 4096 + (b * 64 + c)
    sums a b c = omega arith

rows : (a b c : ℕ) → place a b c ≡ (a * 64 + b) * 64 + c
rows a b c = omega arith

middle : (a b c : ℕ) → b < 64 → c < 64 → place a b c / 64 % 64 ≡ b
middle a b c hb hc = ap (λ k. k / 64 % 64) (rows a b c) ∙ ap (λ k. k % 64) (div-mul-add (a * 64 + b) 64 c hc) ∙ mod-mul-add a 64 b hb

high : (a b c : ℕ) → c < 64 → place a b c % 64 ≡ c
high a b c hc = ap (λ k. k % 64) (rows a b c) ∙ mod-mul-add (a * 64 + b) 64 c hc

pub within_table : (n a b c : ℕ) → a < n → b < n → c < n → n ≤ 64 → place a b c < n * 4096
within_table n a b c ha hb hc hn = omega arith

module _ (P : ℕ → ℕ → ℕ → Type 0) (n : ℕ) where
  pub upto_none : IsTableUpto P n [] 0
  upto_none = record { long = omega arith; entries = λ k h. absurd (omega arith) }

  pub upto_more : (table new : List Bool) (i : ℕ) (b : Bool) → IsTableUpto P n table i → new ≡ table ++ b ∷ [] → Tells P n i b → IsTableUpto P n new (i + 1)
  upto_more table new i b U e t = subst (λ xs. IsTableUpto P n xs (i + 1)) (sym e) (record {
    long = let l = U.long in omega (arith, l, length-append table (b ∷ []));
    entries = λ k h. by_test k h (dec_lt k i);
  })
    where
      here : (k : ℕ) → k ≡ i → Tells P n k (get_or (table ++ b ∷ []) k false)
      here k q = subst (λ j. Tells P n j (get_or (table ++ b ∷ []) j false)) (sym q) (subst (λ x. Tells P n i x) (sym (get_or_push table b false i U.long)) t)

      by_test : (k : ℕ) → k < i + 1 → Dec (k < i) → Tells P n k (get_or (table ++ b ∷ []) k false)
      by_test k h (yes l) = subst (λ x. Tells P n k x) (sym (get_or_append_left table (b ∷ []) false k (let m = U.long in omega arith))) (U.entries k l)
      by_test k h (no m) = here k (omega arith)

  pub table_all : (table : List Bool) (i : ℕ) → n ≤ 64 → i ≡ n * 4096 → IsTableUpto P n table i → IsTable P n table
  table_all table i few e U = record {
    long = U.long ∙ e;
    entries = λ a b c ha hb hc. entry a b c ha hb hc;
  }
    where
      entry : (a b c : ℕ) → a < n → b < n → c < n → IsTrue (get_or table (place a b c) false) ↔ P a b c
      entry a b c ha hb hc =
          let x = low a b c (omega arith) (omega arith) in
          let y = middle a b c (omega arith) (omega arith) in
          let z = high a b c (omega arith) in
          let w = within_table n a b c ha hb hc few in
          told x y z (U.entries (place a b c) (omega arith) (subst (λ k. k < n) (sym y) hb) (subst (λ k. k < n) (sym z) hc))
        where
          told : {u v w : ℕ} → u ≡ a → v ≡ b → w ≡ c → IsTrue (get_or table (place a b c) false) ↔ P u v w → IsTrue (get_or table (place a b c) false) ↔ P a b c
          told {u} {v} {w} x y z h = subst (λ u. IsTrue (get_or table (place a b c) false) ↔ P u b c) x (subst (λ v. IsTrue (get_or table (place a b c) false) ↔ P u v c) y (subst (λ w. IsTrue (get_or table (place a b c) false) ↔ P u v w) z h))
