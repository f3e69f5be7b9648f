-- Weights: what each test finds is the first fault, and what it doesn't find isn't there.
use Rattle.std.proofs.Common.{◌≡◌, ◌⊎◌, inl, inr, ℕ, ◌+◌, ◌<◌, ◌≤◌, ℤ, pos, ◌+ℤ◌, List, [], ◌∷◌, ◌++◌, map, sum, length, refl, sym, ap, ap₂, ◌∙◌, subst, subst₂, arith, unsigned_abs, slice_index_or, drop}
use Rattle.std.proofs.lemmas.Int.{ints}
use Rattle.std.proofs.lemmas.Option.{slice_get_within, slice_get-get_or, get_or_from_slice_get}
use Rattle.std.proofs.lemmas.List.{map_push, take_all, take_more, length-map}
use Rattle.std.proofs.lemmas.List.Elements.{All-push}
use Rattle.std.proofs.lemmas.List.Sums.{sum_by-cons}
use Rattle.std.specs.List.{AllZip}
use Rattle.geo_orient.specs.declared.Point.{Point}
use Rattle.edge_table.specs.declared.edge.Edge.{Edge}
use Rattle.tri_check.specs.declared.raw.RawPair.{RawPair}
use Rattle.tri_check.specs.declared.fault.Bad.{Bad}
use Rattle.tri_check.specs.declared.fault.CheckFault.{CheckFault}
use Rattle.tri_check.specs.declared.fault.CheckFault.TheVariants as fault
use Rattle.tri_check.specs.Problems.{Problem, AreFewWeights}
use Rattle.tri_check.specs.Accepted.{IsAccepted, IsRefusal}
use Rattle.tri_check.specs.declared.fault.Bad.TheVariants.{WeightRange, WeightSum}
use Rattle.tri_check.specs.Faults.{Holds, HoldsOfShape, HoldsOfWeights, IsCompletedInput, IsWeight, IsEarlier, IsValid, whole_sum}
use Rattle.tri_check.specs.Stages.{IsLeast, AreInRange, AreNumbers, AreWeighed, IsFirstOfWeights, IsShapeRefusal, IsWeightRefusal, weight_at, rank_of}
use Rattle.tri_check.proofs.Order.{lex, lex_one, not_less, ranked, placed, rest_of, Less_than}

-- ---- numbers
pub numbers_once : (ns ms : List ℕ) → map pos ns ≡ map pos ms → ns ≡ ms
numbers_once [] [] e = refl
numbers_once [] (m ∷ ms) e = cc
numbers_once (n ∷ ns) [] e = cc
numbers_once (n ∷ ns) (m ∷ ms) e = ap₂ ◌∷◌ (ap (λ zs. unsigned_abs (slice_index_or zs 0 (pos n))) e) (numbers_once ns ms (ap (λ zs. drop 1 zs) e))

pub number_more : (weights : List ℤ) (numbers new : List ℕ) (t w : ℕ) → AreInRange weights → AreNumbers weights numbers t → t < length weights → pos w ≡ weight_at weights t → new ≡ numbers ++ w ∷ [] → AreNumbers weights new (t + 1)
number_more weights numbers new t w range N l e is = subst (λ ns. AreNumbers weights ns (t + 1)) (sym is) (record { same = take_more weights t (pos 0) l ∙ ap₂ (λ xs x. xs ++ x ∷ []) N.same (sym e) ∙ sym (map_push pos numbers w); positive = All-push (λ w. 1 ≤ w) numbers w N.positive low; small = All-push (λ w. w ≤ 16) numbers w N.small high })
  where
    bounds : IsWeight (pos w)
    bounds = subst IsWeight (sym e) (range t l)

    low : 1 ≤ w
    low = let b = bounds.0 in omega (arith, ints)

    high : w ≤ 16
    high = let b = bounds.1 in omega (arith, ints)

-- ---- faults
pub first_range : (weights : List ℤ) (t : ℕ) → IsLeast (length weights) (λ t. ¬ IsWeight (weight_at weights t)) t → IsFirstOfWeights weights (WeightRange t)
first_range weights t L = record { holds = (weight_at weights t, slice_get-get_or weights t (pos 0) L.below, L.holds); first = earlier }
  where
    by_place : (s : ℕ) → (10 < 10) ⊎ (◌≡◌ {A = ℕ} 10 10 × Less_than (s ∷ []) (t ∷ [])) → s < t
    by_place s (inl l) = absurd (omega arith)
    by_place s (inr (e, l)) = lex_one s t l

    later : (11 < 10) ⊎ (◌≡◌ {A = ℕ} 11 10 × Less_than [] (t ∷ [])) → ⊥
    later (inl l) = omega arith
    later (inr (e, l)) = omega arith

    earlier : (c : Bad) → IsEarlier c (WeightRange t) → ¬ HoldsOfWeights weights c
    earlier (WeightRange s) l (w, at, wrong) = L.least s (by_place s (lex 10 10 (s ∷ []) (t ∷ []) l)) (λ h. wrong (subst IsWeight (get_or_from_slice_get weights s w (pos 0) at) h))
    earlier (WeightSum s) l h = absurd (later (lex 11 10 [] (t ∷ []) l))
    earlier _ l h = h

summed : (numbers : List ℕ) → whole_sum (map pos numbers) ≡ pos (sum numbers)
summed [] = refl
summed (n ∷ ns) = ap (λ z. pos n +ℤ z) (summed ns) ∙ ap pos (sym (sum_by-cons (λ n. n) n ns))

module _ (weights : List ℤ) (numbers : List ℕ) (range : AreInRange weights) (N : AreNumbers weights numbers (length weights)) where
  no_range : (t : ℕ) → ¬ HoldsOfWeights weights (WeightRange t)
  no_range t (w, at, wrong) = wrong (subst IsWeight (get_or_from_slice_get weights t w (pos 0) at) (range t (slice_get_within weights t w at)))

  all_same : weights ≡ map pos numbers
  all_same = sym (take_all (length weights) weights (omega arith)) ∙ N.same

  pub first_sum : 256 < sum numbers → IsFirstOfWeights weights (WeightSum (sum numbers))
  first_sum many = record { holds = (sym (ap whole_sum all_same ∙ summed numbers), many); first = earlier }
    where
      not_itself : (11 < 11) ⊎ (◌≡◌ {A = ℕ} 11 11 × Less_than [] []) → ⊥
      not_itself (inl l) = omega arith
      not_itself (inr (e, l)) = not_less [] l

      earlier : (c : Bad) → IsEarlier c (WeightSum (sum numbers)) → ¬ HoldsOfWeights weights c
      earlier (WeightRange s) l h = no_range s h
      earlier (WeightSum s) l h = not_itself (lex 11 11 [] [] l)
      earlier _ l h = h

  pub weighed : sum numbers ≤ 256 → AreWeighed weights numbers
  weighed few = record { same = all_same; positive = N.positive; small = N.small; few = few; faultless = none }
    where
      none : (b : Bad) → ¬ HoldsOfWeights weights b
      none (WeightRange t) h = no_range t h
      none (WeightSum s) h = let e = h.0 ∙ ap whole_sum all_same ∙ summed numbers in let m = h.1 in omega (arith, ints)
      none _ h = h

-- ---- the instance
pub few_weights : (raw : List (List RawPair)) (inputs : List (List Edge)) (weights : List ℤ) (numbers : List ℕ) → length weights ≡ length raw → length inputs ≡ length raw → AreWeighed weights numbers → AreFewWeights inputs numbers
few_weights raw inputs weights numbers e f W = record { weighed = record { one_each = let n = ap (λ ws. length ws) W.same ∙ length-map numbers pos in omega (arith, n); positive = W.positive }; small = W.small; few = W.few }

module _ (points : List Point) (raw : List (List RawPair)) (weights : List ℤ) where
  by_part : ((b : Bad) → ¬ HoldsOfShape points raw b) → ((b : Bad) → ¬ HoldsOfWeights weights b) → IsValid points raw weights
  by_part s w b (inl h) = s b h
  by_part s w b (inr h) = w b h

  pub accepted : (name : List ℕ) (numbers : List ℕ) (problem : Problem) → ((b : Bad) → ¬ HoldsOfShape points raw b) → AllZip (IsCompletedInput points) raw problem.inputs → AreWeighed weights numbers → problem.uid ≡ name → problem.points ≡ points → problem.weights ≡ numbers → IsAccepted name points raw weights problem
  accepted name numbers problem s z W u p w = record { uid = u; points = p; inputs = z; weights = W.same ∙ ap (map pos) (sym w); valid = by_part s W.faultless }

  -- ---- refusals
  -- a fault of the points or the listed pairs stands before all of the weights
  early : (b : Bad) → HoldsOfShape points raw b → rank_of b < 10
  early b h = by_rank (ranked points raw b h)
    where
      by_rank : (rank_of b < 9) ⊎ (rank_of b ≡ 9) → rank_of b < 10
      by_rank (inl l) = omega arith
      by_rank (inr e) = omega arith

  late : (c : Bad) → HoldsOfWeights weights c → 10 ≤ rank_of c
  late (WeightRange t) h = omega arith
  late (WeightSum s) h = omega arith
  late _ h = absurd h

  not_earlier : (c b : Bad) → rank_of b < rank_of c → ¬ IsEarlier c b
  not_earlier c b l e = by_cases (lex (rank_of c) (rank_of b) (rest_of c) (rest_of b) (subst₂ Less_than (placed c) (placed b) e))
    where
      by_cases : (rank_of c < rank_of b) ⊎ ((rank_of c ≡ rank_of b) × Less_than (rest_of c) (rest_of b)) → ⊥
      by_cases (inl m) = omega arith
      by_cases (inr (i, m)) = omega arith

  pub shape_refusal : (f : CheckFault) → IsShapeRefusal points raw f → IsRefusal points raw weights f
  shape_refusal (fault.Bad b) F = record { holds = inl F.holds; first = earlier }
    where
      earlier : (c : Bad) → IsEarlier c b → ¬ Holds points raw weights c
      earlier c l (inl h) = F.first c l h
      earlier c l (inr h) = let i = early b F.holds in let j = late c h in not_earlier c b (omega arith) l
  shape_refusal fault.OutOfMemory F = tt

  pub weight_refusal : ((b : Bad) → ¬ HoldsOfShape points raw b) → (f : CheckFault) → IsWeightRefusal weights f → IsRefusal points raw weights f
  weight_refusal s (fault.Bad b) F = record { holds = inr F.holds; first = earlier }
    where
      earlier : (c : Bad) → IsEarlier c b → ¬ Holds points raw weights c
      earlier c l (inl h) = s c h
      earlier c l (inr h) = F.first c l h
  weight_refusal s fault.OutOfMemory F = tt
