-- The order of faults.
use Rattle.std.proofs.Common.{◌≡◌, ◌⊎◌, inl, inr, ℕ, ◌+◌, ◌<◌, ◌≤◌, List, [], ◌∷◌, refl, sym, ap, ◌∙◌, subst, arith}
use native.Mathlib.Decide.{dec_lt, ℕ_discrete}
use Rattle.std.specs.declared.cmp.Ordering.{Ordering}
use Rattle.std.specs.declared.cmp.Ordering.TheVariants.{Less, Equal, Greater}
use Rattle.std.specs.Ordering.{MatchOrdering, nat_cmp, ordering_then}
use Rattle.std.specs.Cmp.{nat_cmp_is}
use Rattle.std.specs.Cmp.Lexicographic.{slice_cmp}
use Rattle.geo_orient.specs.declared.Point.{Point}
use Rattle.edge_table.specs.declared.edge.Edge.{Edge}
use Rattle.edge_table.specs.Edges.{IsBefore}
use Rattle.edge_table.proofs.Edges.{pair}
use Rattle.tri_check.specs.declared.raw.RawPair.{RawPair}
use Rattle.tri_check.specs.declared.fault.Bad.{Bad}
use Rattle.tri_check.specs.declared.fault.Bad.TheVariants.{TooManyPoints, TooManyInputs, TooManyPairs, CoordinateRange, TooFewPoints, RepeatedPoint, Collinear, NoInput, BadVertex, Loop, Blocked, Crossing, LonePoint, OpenSide, WeightRange, WeightSum}
use Rattle.tri_check.specs.Faults.{HoldsOfShape, place_of}
use Rattle.tri_check.specs.Stages.{IsFirstOfShape, rank_of, input_of, kind_of, AreClear, IsFaultless}
use Rattle.tri_check.proofs.Searches.{split}

abbrev pub Less_than : List ℕ → List ℕ → Type 0
Less_than xs ys = slice_cmp nat_cmp xs ys ≡ Less

number_cmp : (a b : ℕ) (r : Ordering) → MatchOrdering r (a < b) (a ≡ b) (b < a) → nat_cmp a b ≡ r
number_cmp a b r h = sym (nat_cmp_is a b r h)

pub lex : (x y : ℕ) (xs ys : List ℕ) → Less_than (x ∷ xs) (y ∷ ys) → (x < y) ⊎ ((x ≡ y) × Less_than xs ys)
lex x y xs ys h = by_tests (ℕ_discrete x y) (dec_lt x y)
  where
    by_tests : Dec (x ≡ y) → Dec (x < y) → (x < y) ⊎ ((x ≡ y) × Less_than xs ys)
    by_tests (yes e) _ = inr (e, sym (ap (λ r. ordering_then r (slice_cmp nat_cmp xs ys)) (number_cmp x y Equal e)) ∙ h)
    by_tests (no n) (yes l) = inl l
    by_tests (no n) (no m) = absurd (let k = ap (λ r. ordering_then r (slice_cmp nat_cmp xs ys)) (number_cmp x y Greater (omega arith)) in cc)

pub lex_edge : (e f : Edge) (xs ys : List ℕ) → Less_than (e.0 ∷ e.1 ∷ xs) (f.0 ∷ f.1 ∷ ys) → IsBefore e f ⊎ ((e ≡ f) × Less_than xs ys)
lex_edge e f xs ys h = first (lex e.0 f.0 (e.1 ∷ xs) (f.1 ∷ ys) h)
  where
    second : e.0 ≡ f.0 → (e.1 < f.1) ⊎ ((e.1 ≡ f.1) × Less_than xs ys) → IsBefore e f ⊎ ((e ≡ f) × Less_than xs ys)
    second i (inl l) = inl (inr (i, l))
    second i (inr (j, l)) = inr (pair i j, l)

    first : (e.0 < f.0) ⊎ ((e.0 ≡ f.0) × Less_than (e.1 ∷ xs) (f.1 ∷ ys)) → IsBefore e f ⊎ ((e ≡ f) × Less_than xs ys)
    first (inl l) = inl (inl l)
    first (inr (i, l)) = second i (lex e.1 f.1 xs ys l)

pub not_less : (xs : List ℕ) → ¬ Less_than xs []
not_less [] h = cc
not_less (x ∷ xs) h = cc

pub lex_one : (x y : ℕ) → Less_than (x ∷ []) (y ∷ []) → x < y
lex_one x y h = by_cases (lex x y [] [] h)
  where
    by_cases : (x < y) ⊎ ((x ≡ y) × Less_than [] []) → x < y
    by_cases (inl l) = l
    by_cases (inr (e, l)) = absurd (not_less [] l)

-- ---- the parts of a place
abbrev pub rest : List ℕ → List ℕ
rest [] = []
rest (x ∷ xs) = xs

abbrev pub rest_of : Bad → List ℕ
rest_of c = rest (place_of c)

abbrev pub fields_of : Bad → List ℕ
fields_of c = rest (rest (rest (place_of c)))

pub placed : (c : Bad) → place_of c ≡ rank_of c ∷ rest_of c
placed (TooManyPoints n) = refl
placed (TooManyInputs n) = refl
placed (TooManyPairs n) = refl
placed (CoordinateRange i) = refl
placed (TooFewPoints n) = refl
placed (RepeatedPoint i j) = refl
placed Collinear = refl
placed NoInput = refl
placed (BadVertex t p) = refl
placed (Loop t p) = refl
placed (Blocked t e q) = refl
placed (Crossing t e f) = refl
placed (LonePoint t p) = refl
placed (OpenSide t e) = refl
placed (WeightRange t) = refl
placed (WeightSum s) = refl

placed_in : (c : Bad) → rank_of c ≡ 9 → rest_of c ≡ input_of c ∷ kind_of c ∷ fields_of c
placed_in (TooManyPoints n) r = absurd (omega arith)
placed_in (TooManyInputs n) r = absurd (omega arith)
placed_in (TooManyPairs n) r = absurd (omega arith)
placed_in (CoordinateRange i) r = absurd (omega arith)
placed_in (TooFewPoints n) r = absurd (omega arith)
placed_in (RepeatedPoint i j) r = absurd (omega arith)
placed_in Collinear r = absurd (omega arith)
placed_in NoInput r = absurd (omega arith)
placed_in (BadVertex t p) r = refl
placed_in (Loop t p) r = refl
placed_in (Blocked t e q) r = refl
placed_in (Crossing t e f) r = refl
placed_in (LonePoint t p) r = refl
placed_in (OpenSide t e) r = refl
placed_in (WeightRange t) r = absurd (omega arith)
placed_in (WeightSum s) r = absurd (omega arith)

pub ranked : (points : List Point) (inputs : List (List RawPair)) (c : Bad) → HoldsOfShape points inputs c → (rank_of c < 9) ⊎ (rank_of c ≡ 9)
ranked points inputs (TooManyPoints n) h = inl (omega arith)
ranked points inputs (TooManyInputs n) h = inl (omega arith)
ranked points inputs (TooManyPairs n) h = inl (omega arith)
ranked points inputs (CoordinateRange i) h = inl (omega arith)
ranked points inputs (TooFewPoints n) h = inl (omega arith)
ranked points inputs (RepeatedPoint i j) h = inl (omega arith)
ranked points inputs Collinear h = inl (omega arith)
ranked points inputs NoInput h = inl (omega arith)
ranked points inputs (BadVertex t p) h = inr refl
ranked points inputs (Loop t p) h = inr refl
ranked points inputs (Blocked t e q) h = inr refl
ranked points inputs (Crossing t e f) h = inr refl
ranked points inputs (LonePoint t p) h = inr refl
ranked points inputs (OpenSide t e) h = inr refl
ranked points inputs (WeightRange t) h = absurd h
ranked points inputs (WeightSum s) h = absurd h

pub kinds : (c : Bad) → rank_of c ≡ 9 → (9 ≤ kind_of c) × (kind_of c < 15)
kinds (BadVertex t p) r = (omega arith, omega arith)
kinds (Loop t p) r = (omega arith, omega arith)
kinds (Blocked t e q) r = (omega arith, omega arith)
kinds (Crossing t e f) r = (omega arith, omega arith)
kinds (LonePoint t p) r = (omega arith, omega arith)
kinds (OpenSide t e) r = (omega arith, omega arith)
kinds _ r = absurd (omega arith)

module _ (points : List Point) (inputs : List (List RawPair)) where
  -- ---- the first eight kinds
  pub first_of : (b : Bad) (x : ℕ) (xs : List ℕ) → place_of b ≡ x ∷ xs → AreClear points inputs x → HoldsOfShape points inputs b → ((c : Bad) → rank_of c ≡ x → Less_than (rest_of c) xs → ¬ HoldsOfShape points inputs c) → IsFirstOfShape points inputs b
  first_of b x xs is clear holds same = record { holds = holds; first = λ c l. by_cases c (lex (rank_of c) x (rest_of c) xs (subst (λ ys. Less_than ys (x ∷ xs)) (placed c) (subst (λ ys. Less_than (place_of c) ys) is l))) }
    where
      by_cases : (c : Bad) → (rank_of c < x) ⊎ ((rank_of c ≡ x) × Less_than (rest_of c) xs) → ¬ HoldsOfShape points inputs c
      by_cases c (inl l) = clear.none c l
      by_cases c (inr (e, l)) = same c e l

  -- of a kind with no order among its faults
  pub first_plain : (b : Bad) (x : ℕ) → place_of b ≡ x ∷ [] → AreClear points inputs x → HoldsOfShape points inputs b → IsFirstOfShape points inputs b
  first_plain b x is clear holds = first_of b x [] is clear holds (λ c e l. absurd (not_less (rest_of c) l))

  pub clear_next : (k : ℕ) → AreClear points inputs k → ((c : Bad) → rank_of c ≡ k → ¬ HoldsOfShape points inputs c) → AreClear points inputs (k + 1)
  clear_next k clear here = record { none = λ c l. by_cases c (split k (rank_of c) l) }
    where
      by_cases : (c : Bad) → (rank_of c < k) ⊎ (rank_of c ≡ k) → ¬ HoldsOfShape points inputs c
      by_cases c (inl l) = clear.none c l
      by_cases c (inr e) = here c e

  -- ---- the kinds that are looked for in each input
  module _ (t : ℕ) (clear : AreClear points inputs 9) (before : (s : ℕ) → s < t → IsFaultless points inputs s) where
    -- this input has no fault of a kind, or of a kind below one
    abbrev pub NoKind : ℕ → Type 0
    NoKind k = (c : Bad) → rank_of c ≡ 9 → input_of c ≡ t → kind_of c ≡ k → ¬ HoldsOfShape points inputs c

    abbrev pub NoneBelow : ℕ → Type 0
    NoneBelow k = (c : Bad) → rank_of c ≡ 9 → input_of c ≡ t → kind_of c < k → ¬ HoldsOfShape points inputs c

    pub none_at_first : NoneBelow 9
    none_at_first c r i l = absurd (let k = kinds c r in omega (arith, k.0))

    pub none_next : (k : ℕ) → NoneBelow k → NoKind k → NoneBelow (k + 1)
    none_next k below here c r i l = by_cases (split k (kind_of c) l)
      where
        by_cases : (kind_of c < k) ⊎ (kind_of c ≡ k) → ¬ HoldsOfShape points inputs c
        by_cases (inl m) = below c r i m
        by_cases (inr e) = here c r i e

    pub faultless : NoneBelow 15 → IsFaultless points inputs t
    faultless below = record { none = λ c r i. below c r i (kinds c r).1 }

    pub first_in : (b : Bad) (k : ℕ) (xs : List ℕ) → place_of b ≡ 9 ∷ t ∷ k ∷ xs → HoldsOfShape points inputs b → NoneBelow k → ((c : Bad) → rank_of c ≡ 9 → input_of c ≡ t → kind_of c ≡ k → Less_than (fields_of c) xs → ¬ HoldsOfShape points inputs c) → IsFirstOfShape points inputs b
    first_in b k xs is holds below same = first_of b 9 (t ∷ k ∷ xs) is clear holds earlier
      where
        by_kind : (c : Bad) → rank_of c ≡ 9 → input_of c ≡ t → (kind_of c < k) ⊎ ((kind_of c ≡ k) × Less_than (fields_of c) xs) → ¬ HoldsOfShape points inputs c
        by_kind c r i (inl l) = below c r i l
        by_kind c r i (inr (e, l)) = same c r i e l

        by_input : (c : Bad) → rank_of c ≡ 9 → (input_of c < t) ⊎ ((input_of c ≡ t) × Less_than (kind_of c ∷ fields_of c) (k ∷ xs)) → ¬ HoldsOfShape points inputs c
        by_input c r (inl l) = (before (input_of c) l).none c r refl
        by_input c r (inr (i, l)) = by_kind c r i (lex (kind_of c) k (fields_of c) xs l)

        earlier : (c : Bad) → rank_of c ≡ 9 → Less_than (rest_of c) (t ∷ k ∷ xs) → ¬ HoldsOfShape points inputs c
        earlier c r l = by_input c r (lex (input_of c) t (kind_of c ∷ fields_of c) (k ∷ xs) (subst (λ ys. Less_than ys (t ∷ k ∷ xs)) (placed_in c r) l))
