-- Loops over the numbers of a line.
use Rattle.std.proofs.Common.{◌≡◌, ℕ, ◌+◌, ◌-◌, ◌<◌, ◌≤◌, List, [], ◌∷◌, ◌++◌, length, drop, get_or, Option, Some, None, refl, sym, ap, ◌∙◌, arith}
use Rattle.std.proofs.lemmas.List.{append-nil, at_drop_more, at_drop_all, drop_more, drop_all}
use Rattle.edge_table.specs.declared.edge.Edge.{Edge}
use Rattle.line_text.specs.Words.{◌>>=◌, each_of}
use Rattle.line_text.proofs.Loops.{with_front, regroup}
use Rattle.cert_text.specs.Heads.{edge_of, edges_of}

-- ---- each number with its value
module _ {A B : Type 0} (f : A → Option B) where
  pub each_goes_on : (front : List B) (i : ℕ) (xs : List A) (d : A) (y : B) (total : Option (List B)) → i < length xs → f (get_or xs i d) ≡ Some y → with_front front (each_of f (drop i xs)) ≡ total → with_front (front ++ y ∷ []) (each_of f (drop (i + 1) xs)) ≡ total
  unfolding each_of
  each_goes_on front i xs d y total lt is so_far =
      let one : each_of f (drop i xs) ≡ (each_of f (drop (i + 1) xs) >>= λ ys. Some (y ∷ ys)) = at_drop_more (each_of f) xs i d lt ∙ rw is refl in
      sym (ap (with_front front) one ∙ regroup front y (each_of f (drop (i + 1) xs))) ∙ so_far

  pub each_fails : (front : List B) (i : ℕ) (xs : List A) (d : A) (total : Option (List B)) → i < length xs → f (get_or xs i d) ≡ None → with_front front (each_of f (drop i xs)) ≡ total → None ≡ total
  unfolding each_of
  each_fails front i xs d total lt is so_far =
      let one : each_of f (drop i xs) ≡ None = at_drop_more (each_of f) xs i d lt ∙ rw is refl in
      sym (ap (with_front front) one) ∙ so_far

  pub each_is_done : (front : List B) (i : ℕ) (xs : List A) (total : Option (List B)) → length xs ≤ i → with_front front (each_of f (drop i xs)) ≡ total → Some front ≡ total
  unfolding each_of
  each_is_done front i xs total le so_far = sym (ap (with_front front) (at_drop_all (each_of f) xs i le) ∙ ap (λ (ys : List B). Some ys) (append-nil front)) ∙ so_far

-- ---- edges, two numbers each
two_more : (numbers : List ℕ) (i d : ℕ) → i + 1 < length numbers → drop i numbers ≡ get_or numbers i d ∷ get_or numbers (i + 1) d ∷ drop (i + 2) numbers
two_more numbers i d lt =
    let n : i + 1 + 1 ≡ i + 2 = omega arith in
    drop_more numbers i d (omega arith) ∙ ap (λ ns. get_or numbers i d ∷ ns) (drop_more numbers (i + 1) d lt ∙ ap (λ k. get_or numbers (i + 1) d ∷ drop k numbers) n)

pub edges_go_on : (front : List Edge) (i : ℕ) (numbers : List ℕ) (d : ℕ) (e : Edge) (total : Option (List Edge)) → i + 1 < length numbers → edge_of (get_or numbers i d) (get_or numbers (i + 1) d) ≡ Some e
    → with_front front (edges_of (drop i numbers)) ≡ total → with_front (front ++ e ∷ []) (edges_of (drop (i + 2) numbers)) ≡ total
unfolding edges_of
edges_go_on front i numbers d e total lt is so_far =
    let one : edges_of (drop i numbers) ≡ (edges_of (drop (i + 2) numbers) >>= λ es. Some (e ∷ es)) = ap edges_of (two_more numbers i d lt) ∙ rw is refl in
    sym (ap (with_front front) one ∙ regroup front e (edges_of (drop (i + 2) numbers))) ∙ so_far

pub edges_fail : (front : List Edge) (i : ℕ) (numbers : List ℕ) (d : ℕ) (total : Option (List Edge)) → i + 1 < length numbers → edge_of (get_or numbers i d) (get_or numbers (i + 1) d) ≡ None
    → with_front front (edges_of (drop i numbers)) ≡ total → None ≡ total
unfolding edges_of
edges_fail front i numbers d total lt is so_far =
    let one : edges_of (drop i numbers) ≡ None = ap edges_of (two_more numbers i d lt) ∙ rw is refl in
    sym (ap (with_front front) one) ∙ so_far

pub edges_are_odd : (front : List Edge) (i : ℕ) (numbers : List ℕ) (total : Option (List Edge)) → i < length numbers → length numbers - i < 2 → with_front front (edges_of (drop i numbers)) ≡ total → None ≡ total
unfolding edges_of
edges_are_odd front i numbers total lt odd so_far =
    let last : drop (i + 1) numbers ≡ [] = drop_all (i + 1) numbers (omega arith) in
    let one : edges_of (drop i numbers) ≡ None = ap edges_of (drop_more numbers i 0 lt ∙ ap (λ ns. get_or numbers i 0 ∷ ns) last) in
    sym (ap (with_front front) one) ∙ so_far

pub edges_are_done : (front : List Edge) (i : ℕ) (numbers : List ℕ) (total : Option (List Edge)) → length numbers ≤ i → with_front front (edges_of (drop i numbers)) ≡ total → Some front ≡ total
unfolding edges_of
edges_are_done front i numbers total le so_far = sym (ap (with_front front) (at_drop_all edges_of numbers i le) ∙ ap (λ (es : List Edge). Some es) (append-nil front)) ∙ so_far
