-- Flip lists: one flip more at the end, and what the last maker of a triangle is.
use Rattle.std.proofs.Common.{◌≡◌, ℕ, zero, suc, ◌<◌, ◌==◌, eqb-true, max, Bool, true, false, cond, Option, Some, None, List, [], ◌∷◌, ◌++◌, length, remove, ◌≤◌, take, get_or, refl, sym, ap, ap₂, ◌∙◌, subst, arith}
use Rattle.geo_orient.specs.declared.Point.{Point}
use Rattle.tri_theory.specs.Points.{ArePlaced}
use Rattle.edge_table.specs.declared.edge.Edge.{Edge}
use Rattle.tri_theory.specs.Triangulations.{IsTriangulation}
use Rattle.flip_list_law.specs.declared.Flip.{Flip}
use Rattle.flip_list_law.specs.FlipLists.{flipped_edges, FlipInTurn, IsFlipList, Triangle, one_side, other_side, makes, last_maker, rounds_before, number_after, numbers_from, last_numbers_from, last_numbers, round_numbers, greatest, round_count, with_edge_in, grouped_from, same_place, undone_by}
use Rattle.flip_list_law.proofs.FlipSets.{flip_triangulation}

-- ---- lists one after the other
pub list_append : (points : List Point) (A B C : List Edge) (flips more : List Flip) → IsFlipList points A flips B → IsFlipList points B more C → IsFlipList points A (flips ++ more) C
list_append points A B C [] more e k = subst (λ T. IsFlipList points T more C) (sym e) k
list_append points A B C (flip ∷ flips) more (next, X, h) k = (next, X, list_append points next B C flips more h k)

pub list_triangulation : (points : List Point) → ArePlaced points → (A B : List Edge) (flips : List Flip) → IsTriangulation points A → IsFlipList points A flips B → IsTriangulation points B
list_triangulation points P A B [] I e = subst (IsTriangulation points) e I
list_triangulation points P A B (flip ∷ flips) I (next, X, h) = list_triangulation points P next B flips (flip_triangulation points P A next flip I X) h

pub turns_to_list : (points : List Point) (from es to : List Edge) → FlipInTurn points from es to → (flips : List Flip) × (flipped_edges flips ≡ es) × IsFlipList points from flips to
turns_to_list points from [] to e = ([], refl, e)
turns_to_list points from (e ∷ es) to (f, next, X, h) = longer (turns_to_list points next es to h)
  where
    longer : (flips : List Flip) × (flipped_edges flips ≡ es) × IsFlipList points next flips to → (flips : List Flip) × (flipped_edges flips ≡ e ∷ es) × IsFlipList points from flips to
    longer (flips, i, k) = (record { edge = e; image = f } ∷ flips, ap (λ fs. e ∷ fs) i, (next, X, k))

turns_of_list : (points : List Point) (from to : List Edge) (flips : List Flip) → IsFlipList points from flips to → FlipInTurn points from (flipped_edges flips) to
turns_of_list points from to [] e = e
turns_of_list points from to (flip ∷ flips) (next, X, h) = (flip.image, next, X, turns_of_list points next to flips h)

pub list_to_turns : (points : List Point) (from es to : List Edge) → (flips : List Flip) × (flipped_edges flips ≡ es) × IsFlipList points from flips to → FlipInTurn points from es to
list_to_turns points from es to (flips, i, h) = subst (λ fs. FlipInTurn points from fs to) i (turns_of_list points from to flips h)

-- ---- numbers and grouping of a list that goes on
pub numbers-append : (flips more : List Flip) (number_of : Triangle → ℕ) → numbers_from number_of (flips ++ more) ≡ numbers_from number_of flips ++ numbers_from (last_numbers_from number_of flips) more
numbers-append [] more number_of = refl
numbers-append (flip ∷ flips) more number_of = ap (λ ns. suc (rounds_before number_of flip) ∷ ns) (numbers-append flips more (number_after number_of flip))

pub made-append : (flips more : List Flip) (number_of : Triangle → ℕ) → last_numbers_from number_of (flips ++ more) ≡ last_numbers_from (last_numbers_from number_of flips) more
made-append [] more number_of = refl
made-append (flip ∷ flips) more number_of = made-append flips more (number_after number_of flip)

pub grouped-append : (flips more : List Flip) (number_of : Triangle → ℕ) (rounds : List (List Edge)) → grouped_from number_of rounds (flips ++ more) ≡ grouped_from (last_numbers_from number_of flips) (grouped_from number_of rounds flips) more
grouped-append [] more number_of rounds = refl
grouped-append (flip ∷ flips) more number_of rounds = grouped-append flips more (number_after number_of flip) (with_edge_in (rounds_before number_of flip) flip.edge rounds)

pub greatest-append : (ns ms : List ℕ) → greatest (ns ++ ms) ≡ max (greatest ns) (greatest ms)
greatest-append [] ms = none (greatest ms)
  where
    none : (n : ℕ) → n ≡ max 0 n
    none n = omega arith
greatest-append (n ∷ ns) ms = let again = greatest-append ns ms in chain n (greatest (ns ++ ms)) (greatest ns) (greatest ms) again
  where
    chain : (n g h k : ℕ) → g ≡ max h k → max n g ≡ max (max n h) k
    chain n g h k e = omega arith

pub length-numbers : (flips : List Flip) (number_of : Triangle → ℕ) → length (numbers_from number_of flips) ≡ length flips
length-numbers [] number_of = refl
length-numbers (flip ∷ flips) number_of = ap (λ n. suc n) (length-numbers flips (number_after number_of flip))

pub greatest_last : (flips : List Flip) (flip : Flip) → round_count (flips ++ (flip ∷ [])) ≡ max (round_count flips) (suc (rounds_before (last_numbers flips) flip))
greatest_last flips flip = ap greatest (numbers-append flips (flip ∷ []) (λ t. 0)) ∙ greatest-append (round_numbers flips) ((suc (rounds_before (last_numbers flips) flip)) ∷ []) ∙ ap (max (round_count flips)) (none (suc (rounds_before (last_numbers flips) flip)))
  where
    none : (n : ℕ) → max n 0 ≡ n
    none n = omega arith

-- ---- the number of a triangle is that of the flip that last made it
abbrev pub number_at : List ℕ → ℕ → Option ℕ → ℕ
number_at ns otherwise None = otherwise
number_at ns otherwise (Some place) = get_or ns place 0

made_by_last : (flips : List Flip) (number_of : Triangle → ℕ) (t : Triangle) → last_numbers_from number_of flips t ≡ number_at (numbers_from number_of flips) (number_of t) (last_maker flips t)
made_by_last [] number_of t = refl
made_by_last (flip ∷ flips) number_of t = by_maker (last_maker flips t) (makes flip t) (made_by_last flips (number_after number_of flip) t)
  where
    n : ℕ
    n = suc (rounds_before number_of flip)

    ns : List ℕ
    ns = numbers_from (number_after number_of flip) flips

    by_maker : (place : Option ℕ) (test : Bool) → last_numbers_from number_of (flip ∷ flips) t ≡ number_at ns (cond test n (number_of t)) place → last_numbers_from number_of (flip ∷ flips) t ≡ number_at (n ∷ ns) (number_of t) (elim place [ Some i ↦ Some (suc i) | None ↦ cond test (Some 0) None ])
    by_maker (Some i) test e = e
    by_maker None true e = e
    by_maker None false e = e

pub number_of_last : (flips : List Flip) (t : Triangle) → last_numbers flips t ≡ number_at (round_numbers flips) 0 (last_maker flips t)
number_of_last flips t = made_by_last flips (λ t. 0) t

-- each flip's number is the next number after the flips before it
pub number_in_list : (flips : List Flip) (number_of : Triangle → ℕ) (place : ℕ) (flip : Flip) → place < length flips → get_or flips place flip ≡ flip → get_or (numbers_from number_of flips) place 0 ≡ suc (rounds_before (last_numbers_from number_of (take place flips)) flip)
number_in_list [] number_of place flip l e = absurd (omega arith)
number_in_list (first ∷ flips) number_of zero flip l e = ap (λ f. suc (rounds_before number_of f)) e
number_in_list (first ∷ flips) number_of (suc place) flip l e = number_in_list flips (number_after number_of first) place flip (omega arith) e

-- ---- the place of the flip that last made a triangle
abbrev made_over : Option ℕ → Bool → Option ℕ
made_over place test = elim place [ Some i ↦ Some (suc i) | None ↦ cond test (Some 0) None ]

pub maker_append : (flips : List Flip) (flip : Flip) (t : Triangle) → last_maker (flips ++ (flip ∷ [])) t ≡ cond (makes flip t) (Some (length flips)) (last_maker flips t)
maker_append [] flip t = refl
maker_append (first ∷ flips) flip t = by_test (makes flip t) (last_maker flips t) (makes first t) (maker_append flips flip t)
  where
    by_test : (test : Bool) (place : Option ℕ) (own : Bool) → last_maker (flips ++ (flip ∷ [])) t ≡ cond test (Some (length flips)) place → made_over (last_maker (flips ++ (flip ∷ [])) t) own ≡ cond test (Some (suc (length flips))) (made_over place own)
    by_test true place own e = ap (λ p. made_over p own) e
    by_test false place own e = ap (λ p. made_over p own) e

abbrev pub NoneMakes : List Flip → Triangle → Type 0
NoneMakes [] t = Unit {0}
NoneMakes (flip ∷ flips) t = (makes flip t ≡ false) × NoneMakes flips t

abbrev pub LastAt : List Flip → ℕ → Triangle → Type 0
LastAt [] place t = ⊥
LastAt (flip ∷ flips) zero t = (makes flip t ≡ true) × NoneMakes flips t
LastAt (flip ∷ flips) (suc place) t = LastAt flips place t

none_makes : (flips : List Flip) (t : Triangle) → last_maker flips t ≡ None → NoneMakes flips t
none_makes [] t e = tt
none_makes (flip ∷ flips) t e = by_maker (last_maker flips t) refl (makes flip t) refl e (λ k. none_makes flips t k)
  where
    by_maker : (place : Option ℕ) → last_maker flips t ≡ place → (test : Bool) → makes flip t ≡ test → made_over place test ≡ None → (last_maker flips t ≡ None → NoneMakes flips t) → (makes flip t ≡ false) × NoneMakes flips t
    by_maker (Some i) f test g e again = absurd (cc)
    by_maker None f true g e again = absurd (cc)
    by_maker None f false g e again = (g, again f)

pub last_at : (flips : List Flip) (place : ℕ) (t : Triangle) → last_maker flips t ≡ Some place → LastAt flips place t
last_at [] place t e = absurd (cc)
last_at (flip ∷ flips) place t e = by_maker place (last_maker flips t) refl (makes flip t) refl e (λ i k. last_at flips i t k)
  where
    by_maker : (place : ℕ) (maker : Option ℕ) → last_maker flips t ≡ maker → (test : Bool) → makes flip t ≡ test → made_over maker test ≡ Some place → ((i : ℕ) → last_maker flips t ≡ Some i → LastAt flips i t) → LastAt (flip ∷ flips) place t
    by_maker zero (Some i) f test g e again = absurd (cc)
    by_maker (suc place) (Some i) f test g e again = let same : i ≡ place = cc in again place (f ∙ ap (λ n. Some n) same)
    by_maker zero None f true g e again = (g, none_makes flips t f)
    by_maker (suc place) None f true g e again = absurd (cc)
    by_maker place None f false g e again = absurd (cc)

pub undone_at : (flips : List Flip) (flip : Flip) (place : ℕ) → undone_by flips flip ≡ Some place → LastAt flips place (one_side flip) × LastAt flips place (other_side flip)
undone_at flips flip place e = by_makers (last_maker flips (one_side flip)) refl (last_maker flips (other_side flip)) refl e
  where
    Both : Type 0
    Both = LastAt flips place (one_side flip) × LastAt flips place (other_side flip)

    by_makers : (p : Option ℕ) → last_maker flips (one_side flip) ≡ p → (q : Option ℕ) → last_maker flips (other_side flip) ≡ q → same_place p q ≡ Some place → Both
    by_makers None f q g e = absurd (cc)
    by_makers (Some i) f None g e = absurd (cc)
    by_makers (Some i) f (Some j) g e = by_test (i == j) refl e
      where
        at : (k : ℕ) → k ≡ place → (t : Triangle) → last_maker flips t ≡ Some k → LastAt flips place t
        at k h t f = last_at flips place t (f ∙ ap (λ n. Some n) h)

        by_test : (v : Bool) → (i == j) ≡ v → cond v (Some i) None ≡ Some place → Both
        by_test true h k = let same : i ≡ place = cc in (at i same (one_side flip) f, at j (sym (eqb-true i j h) ∙ same) (other_side flip) g)
        by_test false h k = absurd (cc)

-- ---- a flip less
over_none : (place : Option ℕ) (own : Bool) → made_over place own ≡ None → (place ≡ None) × (own ≡ false)
over_none (Some i) own e = absurd (cc)
over_none None true e = absurd (cc)
over_none None false e = (refl, refl)

over_zero : (place : Option ℕ) (own : Bool) → made_over place own ≡ Some 0 → (place ≡ None) × (own ≡ true)
over_zero (Some i) own e = absurd (cc)
over_zero None true e = (refl, refl)
over_zero None false e = absurd (cc)

over_suc : (place : Option ℕ) (own : Bool) (k : ℕ) → made_over place own ≡ Some (suc k) → place ≡ Some k
over_suc (Some i) own k e = let same : i ≡ k = cc in ap (λ n. Some n) same
over_suc None true k e = absurd (cc)
over_suc None false k e = absurd (cc)

pub none_stays : (flips : List Flip) (place : ℕ) (t : Triangle) → last_maker flips t ≡ None → last_maker (remove flips place) t ≡ None
none_stays [] place t e = none_of place
  where
    none_of : (place : ℕ) → last_maker (remove [] place) t ≡ None
    none_of zero = refl
    none_of (suc place) = refl
none_stays (f ∷ flips) zero t e = (over_none (last_maker flips t) (makes f t) e).0
none_stays (f ∷ flips) (suc place) t e =
    let h = over_none (last_maker flips t) (makes f t) e in
    ap₂ made_over (none_stays flips place t h.0) h.1

pub before_stays : (flips : List Flip) (place : ℕ) (t : Triangle) (k : ℕ) → k < place → last_maker flips t ≡ Some k → last_maker (remove flips place) t ≡ Some k
before_stays [] place t k l e = absurd (cc)
before_stays (f ∷ flips) zero t k l e = absurd (omega arith)
before_stays (f ∷ flips) (suc place) t zero l e =
    let h = over_zero (last_maker flips t) (makes f t) e in
    ap₂ made_over (none_stays flips place t h.0) h.1
before_stays (f ∷ flips) (suc place) t (suc k) l e =
    ap (λ p. made_over p (makes f t)) (before_stays flips place t k (omega arith) (over_suc (last_maker flips t) (makes f t) k e))

pub after_stays : (flips : List Flip) (place : ℕ) (t : Triangle) (k : ℕ) → place ≤ k → last_maker flips t ≡ Some (suc k) → last_maker (remove flips place) t ≡ Some k
after_stays [] place t k l e = absurd (cc)
after_stays (f ∷ flips) zero t k l e = over_suc (last_maker flips t) (makes f t) k e
after_stays (f ∷ flips) (suc place) t zero l e = absurd (omega arith)
after_stays (f ∷ flips) (suc place) t (suc k) l e =
    ap (λ p. made_over p (makes f t)) (after_stays flips place t k (omega arith) (over_suc (last_maker flips t) (makes f t) (suc k) e))
