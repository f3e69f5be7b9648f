-- The first elements of a list, with one more, and with all of them.
use Rattle.std.proofs.Common.{◌≡◌, ◌⊎◌, inl, inr, ◌∙◌, ℕ, ◌+◌, ◌<◌, ◌≤◌, List, [], ◌∷◌, ◌++◌, length, get_or, take, drop, Contains, Some, slice_get, Bool, true, false, ◌||◌, refl, sym, ap, subst, arith}
use Rattle.std.proofs.lemmas.List.{take_more, take_all, take-append-drop}
use Rattle.std.proofs.lemmas.List.Elements.{Contains-push, Contains-push_cases, Contains-append_left}
use Rattle.std.proofs.lemmas.Option.{get_or_from_slice_get}
use Rattle.edge_table.specs.declared.edge.Edge.{Edge}
use Rattle.edge_table.specs.Edges.{is_edge}
use Rattle.edge_table.proofs.Edges.{is_edge-Decides, contains_cases}
use Rattle.indexmap.proofs.CallerLemmas.{Contains-list_any}
use Rattle.std.specs.List.{list_any}

module _ {X : Type 0} where
  pub take_push : (xs : List X) (i : ℕ) (x : X) → i < length xs → x ≡ get_or xs i x → take (i + 1) xs ≡ take i xs ++ x ∷ []
  take_push xs i x l e = take_more xs i x l ∙ ap (λ y. take i xs ++ y ∷ []) (sym e)

  pub more_cases : (xs : List X) (i : ℕ) (x y : X) → i < length xs → x ≡ get_or xs i x → Contains (take (i + 1) xs) y → Contains (take i xs) y ⊎ (x ≡ y)
  more_cases xs i x y l e h = Contains-push_cases (take i xs) x y (subst (λ zs. Contains zs y) (take_push xs i x l e) h)

  pub more_here : (xs : List X) (i : ℕ) (x y : X) → i < length xs → x ≡ get_or xs i x → Contains (take i xs) y ⊎ (x ≡ y) → Contains (take (i + 1) xs) y
  more_here xs i x y l e h = subst (λ zs. Contains zs y) (sym (take_push xs i x l e)) (by_cases h)
    where
      by_cases : Contains (take i xs) y ⊎ (x ≡ y) → Contains (take i xs ++ x ∷ []) y
      by_cases (inl k) = Contains-append_left (take i xs) (x ∷ []) y k
      by_cases (inr k) = subst (Contains (take i xs ++ x ∷ [])) k (Contains-push (take i xs) x)

  pub taken_inside : (n : ℕ) (xs : List X) (y : X) → Contains (take n xs) y → Contains xs y
  taken_inside n xs y h = subst (λ zs. Contains zs y) (take-append-drop n xs) (Contains-append_left (take n xs) (drop n xs) y h)

  pub all_inside : (n : ℕ) (xs : List X) (y : X) → length xs ≤ n → Contains xs y → Contains (take n xs) y
  all_inside n xs y l h = subst (λ zs. Contains zs y) (sym (take_all n xs l)) h

  pub read_at : (xs : List X) (i : ℕ) (x : X) → slice_get xs i ≡ Some x → x ≡ get_or xs i x
  read_at xs i x h = sym (get_or_from_slice_get xs i x x h)

pub no_member : {X : Type 0} (x : X) → ¬ Contains [] x
no_member x (k, l, h) = omega arith

-- a list of edges has an edge where a test of equal edges finds it
pub edge_found : (es : List Edge) (e : Edge) → Contains es e → list_any (is_edge e) es ≡ true
edge_found [] e h = absurd (no_member e h)
edge_found (f ∷ es) e h = by_cases (contains_cases e f es h) (λ k. edge_found es e k)
  where
    or_true : (b c : Bool) → c ≡ true → b || c ≡ true
    or_true true c k = refl
    or_true false c k = k

    by_cases : (f ≡ e) ⊎ Contains es e → (Contains es e → list_any (is_edge e) es ≡ true) → is_edge e f || list_any (is_edge e) es ≡ true
    by_cases (inl i) _ = ap (λ b. b || list_any (is_edge e) es) ((is_edge-Decides e f).1 (sym i))
    by_cases (inr k) again = or_true (is_edge e f) (list_any (is_edge e) es) (again k)

pub edge_missing : (es : List Edge) (e : Edge) → ¬ Contains es e → list_any (is_edge e) es ≡ false
edge_missing es e n = by_test (list_any (is_edge e) es) refl
  where
    by_test : (b : Bool) → list_any (is_edge e) es ≡ b → list_any (is_edge e) es ≡ false
    by_test true h = absurd (n (Contains-list_any is_edge (λ x y k. (is_edge-Decides x y).0 k) es e h))
    by_test false h = h
