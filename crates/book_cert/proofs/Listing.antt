-- Lists that grow by what is found at one place more.
use Rattle.std.proofs.Common.{◌≡◌, ◌∙◌, ℕ, ◌+◌, ◌-◌, List, [], ◌∷◌, ◌++◌, map, flat_map, take, slice_get, Some, sym, refl, ap, ap₂}
use Rattle.std.specs.Prelude.{filter}
use Rattle.std.specs.List.{range_with_len}
use Rattle.std.proofs.lemmas.Grind.{flat_map-append}
use Rattle.std.proofs.lemmas.Option.{get_or_from_slice_get, slice_get_within}
use Rattle.std.proofs.lemmas.List.{append-nil, map-append, take_more}
use Rattle.std.proofs.lemmas.List.Elements.{filter-append}
use Rattle.std.proofs.lemmas.List.Folds.{flat_map-map}
use Rattle.std.proofs.lemmas.List.FromFn.{map-range_with_len_more}
use Rattle.plan_law.specs.Books.{is_plan_entry}
use Rattle.plan_law.specs.Jobs.{pairs}
use Rattle.book_core.specs.declared.entry.Entry.{Entry}
use Rattle.book_core.specs.Entries.{line_of}
use Rattle.book_solve.specs.Solved.{plan_lines}

module _ {X : Type 0} where
  -- what is listed of one number more
  pub of_one_more : (f : ℕ → List X) (a n j : ℕ) → a + n ≡ j → flat_map f (range_with_len a (n + 1)) ≡ flat_map f (range_with_len a n) ++ f j
  of_one_more f a n j e =
      sym (flat_map-map f (λ x. x) (range_with_len a (n + 1)))
      ∙ (ap (flat_map f) (map-range_with_len_more (λ x. x) a n j e)
      ∙ (flat_map-append f (map (λ x. x) (range_with_len a n)) (j ∷ []) ∙ ap₂ (λ xs ys. xs ++ ys) (flat_map-map f (λ x. x) (range_with_len a n)) (append-nil (f j))))

  of_pieces : (f : ℕ × ℕ → List X) (piece : ℕ → List ℕ) (xs : List ℕ) → flat_map f (flat_map (λ i. map (λ j. (i, j)) (piece i)) xs) ≡ flat_map (λ i. flat_map (λ j. f (i, j)) (piece i)) xs
  of_pieces f piece [] = refl
  of_pieces f piece (i ∷ xs) =
      flat_map-append f (map (λ j. (i, j)) (piece i)) (flat_map (λ i. map (λ j. (i, j)) (piece i)) xs) ∙ ap₂ (λ xs ys. xs ++ ys) (flat_map-map f (λ j. (i, j)) (piece i)) (of_pieces f piece xs)

  -- and of pairs: for each lower number in turn, with those above it
  pub of_pairs : (f : ℕ × ℕ → List X) (m : ℕ) → flat_map f (pairs m) ≡ flat_map (λ i. flat_map (λ j. f (i, j)) (range_with_len (i + 1) (m - (i + 1)))) (range_with_len 0 m)
  of_pairs f m = of_pieces f (λ i. range_with_len (i + 1) (m - (i + 1))) (range_with_len 0 m)

-- the moves and swaps of one entry more
pub lines_more : (journal : List Entry) (n : ℕ) (x : Entry) → slice_get journal n ≡ Some x → plan_lines (take (n + 1) journal) ≡ plan_lines (take n journal) ++ plan_lines (x ∷ [])
lines_more journal n x there =
    ap plan_lines (take_more journal n x (slice_get_within journal n x there) ∙ ap (λ y. take n journal ++ y ∷ []) (get_or_from_slice_get journal n x x there))
    ∙ (ap (filter is_plan_entry) (map-append line_of (take n journal) (x ∷ [])) ∙ filter-append is_plan_entry (map line_of (take n journal)) (map line_of (x ∷ [])))
