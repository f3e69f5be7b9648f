-- Justified star rows are true, and so a star bounds the total of each plan.
use Rattle.std.proofs.Common.{◌≡◌, ◌⊎◌, inl, inr, ℕ, ◌+◌, ◌<◌, List, [], ◌∷◌, length, Contains, sym, subst, arith}
use Rattle.std.specs.List.{All, AllZip}
use Rattle.std.proofs.lemmas.List.Elements.{All-contains}
use Rattle.geo_orient.specs.declared.Point.{Point}
use Rattle.edge_table.specs.declared.edge.Edge.{Edge}
use Rattle.tri_theory.specs.Points.{ArePlaced}
use Rattle.tri_theory.specs.Triangulations.{IsTriangulation}
use Rattle.bound_law.specs.Bounds.{input_at, AreLowerBounds}
use Rattle.log_law.specs.Logs.{Line, Refutes}
use Rattle.formula_law.specs.Frames.{Frame, IsFrame}
use Rattle.formula_law.proofs.Clauses.{all_of, in_none, in_cases, in_flat_map}
use Rattle.star_law.specs.Splits.{Split, splits, leg_of, SplitMeets, IsLowerOfThree}
use Rattle.star_law.specs.StarRows.{Evidence, Pairs, Refuted, Met, StarRow, OfBuilt, AreMet, IsEvidence, IsEnd, half_of_pairs, IsJustified, IsTrue}
use Rattle.star_law.specs.Stars.{taken, IsStar}
use Rattle.star_law.proofs.Splits.{splits_bound, pairs_bound}
use Rattle.star_law.proofs.StarFits.{refuted_meet}
use Rattle.star_law.proofs.StarBounds.{AreTrue}

-- each of the one list has one of the other
zip_at : {X Y : Type 0} (R : X → Y → Type 0) (xs : List X) (ys : List Y) (x : X) → AllZip R xs ys → Contains xs x → (y : Y) × R x y
zip_at R [] ys x h c = absurd (in_none x c)
zip_at R (z ∷ xs) [] x h c = absurd h
zip_at {X} {Y} R (z ∷ xs) (y ∷ ys) x h c = by_cases (in_cases x z xs c) (λ d. zip_at R xs ys x h.1 d)
  where
    by_cases : (z ≡ x) ⊎ Contains xs x → (Contains xs x → (y : Y) × R x y) → (y : Y) × R x y
    by_cases (inl e) again = (y, subst (λ u. R u y) e h.0)
    by_cases (inr d) again = again d

module _ (points : List Point) (P : ArePlaced points) (F : Frame) (I : IsFrame points F) (copies : List (List Edge)) (T : All (λ edges. IsTriangulation points edges) copies) (lower : ℕ → ℕ → ℕ) (L : AreLowerBounds points copies lower) where
  pub row_true : (row : StarRow) → IsJustified points F copies lower row → IsTrue points copies row
  row_true row J = by_evidence row.evidence J.evidence
    where
      A : List Edge
      A = input_at copies row.first

      B : List Edge
      B = input_at copies row.second

      C : List Edge
      C = input_at copies row.third

      third : row.third < length copies
      third = J.third

      second : row.second < length copies
      second = let h = J.second in omega (arith, third, h)

      first : row.first < length copies
      first = let h = J.first in omega (arith, second, h)

      by_evidence : (evidence : Evidence) → IsEvidence points F A B C (half_of_pairs lower row) row.lower evidence → IsLowerOfThree points A B C row.lower
      by_evidence Pairs e = subst (IsLowerOfThree points A B C) (sym e)
          (pairs_bound points P A B C (lower row.first row.second) (lower row.second row.third) (lower row.first row.third) (T row.first [] first) (T row.second [] second) (T row.third [] third)
          (λ k l. L row.first row.second k first second l) (λ k l. L row.second row.third k second third l) (λ k l. L row.first row.third k first third l))
      by_evidence (Refuted n logs) (e, h) = subst (IsLowerOfThree points A B C) (sym e) (splits_bound points P A B C n (T row.first [] first) (λ split c. by_log split (zip_at (λ split log. OfBuilt points F A B C split (λ formula. Refutes formula log)) (splits n) logs split h c)))
        where
          by_log : (split : Split) → (log : List Line) × OfBuilt points F A B C split (λ formula. Refutes formula log) → ¬ SplitMeets points A B C split
          by_log split (log, (small, few, r)) = refuted_meet points F I (leg_of A split.0) (leg_of B split.1) (leg_of C split.2) P (record { first = T row.first [] first; second = T row.second [] second; third = T row.third [] third }) log r

  -- the rows of a star are true
  pub star_true : (rows : List StarRow) (images : List ℕ) → IsStar points F copies lower rows images → AreTrue points copies rows images
  star_true rows images S = record {
    below = all_of (λ c. c < length copies) (taken rows) (λ c h. by_row c (in_flat_map three rows c h));
    distinct = S.distinct;
    lower = all_of (λ row. IsTrue points copies row) rows (λ row h. row_true row (justified row h));
    rest = S.rest;
  }
    where
      three : StarRow → List ℕ
      three row = row.first ∷ row.second ∷ row.third ∷ []

      justified : (row : StarRow) → Contains rows row → IsJustified points F copies lower row
      justified row h = All-contains (λ row. IsJustified points F copies lower row) rows row S.justified h

      by_place : (row : StarRow) (c : ℕ) → IsJustified points F copies lower row → Contains (three row) c → c < length copies
      by_place row c J h = by_first (in_cases c row.first (row.second ∷ row.third ∷ []) h)
        where
          order : (row.first < row.second) × (row.second < row.third) × (row.third < length copies)
          order = (J.first, J.second, J.third)

          by_third : (row.third ≡ c) ⊎ Contains [] c → c < length copies
          by_third (inl e) = omega (arith, e, order)
          by_third (inr d) = absurd (in_none c d)

          by_second : (row.second ≡ c) ⊎ Contains (row.third ∷ []) c → c < length copies
          by_second (inl e) = omega (arith, e, order)
          by_second (inr d) = by_third (in_cases c row.third [] d)

          by_first : (row.first ≡ c) ⊎ Contains (row.second ∷ row.third ∷ []) c → c < length copies
          by_first (inl e) = omega (arith, e, order)
          by_first (inr d) = by_second (in_cases c row.second (row.third ∷ []) d)

      by_row : (c : ℕ) → (row : StarRow) × Contains rows row × Contains (three row) c → c < length copies
      by_row c (row, h, i) = by_place row c (justified row h) i

-- ---- where the end is met
met_split : (points : List Point) (F : Frame) (A B C : List Edge) (split : Split) (legs : List (List (List Edge))) → AreMet points F A B C split legs → SplitMeets points A B C split
met_split points F A B C split [] h = absurd h
met_split points F A B C split (f ∷ []) h = absurd h
met_split points F A B C split (f ∷ g ∷ []) h = absurd h
met_split points F A B C split (f ∷ g ∷ h ∷ []) (hub, N, a, b, c) =
    (hub, N, (f, let e = a.count in omega (arith, e), a.schedule), (g, let e = b.count in omega (arith, e), b.schedule), (h, let e = c.count in omega (arith, e), c.schedule))
met_split points F A B C split (f ∷ g ∷ h ∷ r ∷ rest) m = absurd m

pub row_exact : (points : List Point) (F : Frame) (copies : List (List Edge)) (lower : ℕ → ℕ → ℕ) (row : StarRow) (split : Split) (legs : List (List (List Edge))) → IsJustified points F copies lower row → row.end ≡ Met split legs
    → SplitMeets points (input_at copies row.first) (input_at copies row.second) (input_at copies row.third) split × (split.0 + split.1 + split.2 ≡ row.lower)
row_exact points F copies lower row split legs J e = by_end (J.end)
  where
    A : List Edge
    A = input_at copies row.first

    B : List Edge
    B = input_at copies row.second

    C : List Edge
    C = input_at copies row.third

    by_end : IsEnd points F A B C row.lower row.end → SplitMeets points A B C split × (split.0 + split.1 + split.2 ≡ row.lower)
    by_end h = let m = subst (λ end. IsEnd points F A B C row.lower end) e h in (met_split points F A B C split legs m.1, m.0)
