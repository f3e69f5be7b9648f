-- The first stage, where no input goes anywhere, and the last, whose matching is a best assignment.
use Rattle.std.proofs.Common.{◌≡◌, ◌≢◌, ℕ, pos, ◌+◌, ◌<◌, ◌≤◌, ◌^◌, ◌+ℤ◌, ◌≤ℤ◌, Option, Some, None, List, length, get_or, map, replicate, sym, ap, ◌∙◌, subst, arith}
use Rattle.std.specs.Prelude.{slice_index, sum_by, All, AllPairs}
use Rattle.std.proofs.Math.ListN.{get_or-map}
use Rattle.std.proofs.lemmas.List.{length-map, get_or-replicate, length-replicate, get_or_default}
use Rattle.std.proofs.lemmas.Int.{ints}
use Rattle.std.proofs.lemmas.List.Folds.{sum_by-replicate}
use Rattle.assignment_law.specs.Assignments.{IsAssignment, assignment_sum, HasGreatestSum}
use Rattle.assignment_law.proofs.Best.{potentials_best}
use Rattle.match_bound.specs.Matchings.{image_of, IsMatching, IsStage, IsListed}
use Rattle.match_bound.specs.Potentials.{potential, total, ArePotentials}
use Rattle.match_bound.proofs.Trees.{some_none, one_if_none}
use Rattle.match_bound.proofs.Zeros.{everywhere}
use Rattle.match_bound.proofs.Sums.{met_sum, total_pos}

pos_le : (a b : ℕ) → a ≤ b → pos a ≤ℤ pos b
pos_le a b h = omega (arith, ints, h)

all_small : (n x : ℕ) → x < 2 ^ 32 → All (λ y. y < 2 ^ 32) (replicate n x)
all_small n x s i d l = subst (λ y. y < 2 ^ 32) (sym (get_or-replicate n i x d (subst (λ k. i < k) (length-replicate n x) l))) s

pub stage_begins : (weight : ℕ → ℕ → ℕ) (m : ℕ) → ((i j : ℕ) → weight i j < 2 ^ 32) → IsStage weight m 0 (replicate m None) (replicate m 0) (replicate m 4294967295)
stage_begins weight m small = record {
  matching = record {
    long = length-replicate m None;
    below = λ i j e. absurd (nowhere i j e);
    apart = λ i k j e f. absurd (nowhere i j e);
    free = (let s = sum_by-replicate one_if_none m None in omega (arith, s));
  };
  covers = record {
    u_long = length-replicate m 0;
    v_long = length-replicate m 4294967295;
    above = λ i j li lj. let s = small i j in let q : slice_index (replicate m 4294967295) j ≡ 4294967295 = get_or-replicate m j _ 0 lj in omega (arith, s, q);
    u_small = all_small m 0 (omega arith);
    v_small = all_small m 4294967295 (omega arith);
  };
  meets = record {
    tight = λ i j e. absurd (nowhere i j e);
    idle = λ i e. everywhere m i 0;
  };
}
  where
    nowhere : (i j : ℕ) → image_of (replicate m None) i ≡ Some j → ⊥
    nowhere i j e = some_none (sym e ∙ everywhere m i None)

pub stage_begun : (weight : ℕ → ℕ → ℕ) (m n : ℕ) (image : List (Option ℕ)) (u v : List ℕ) → ((i j : ℕ) → weight i j < 2 ^ 32) → n ≡ m → image ≡ replicate n None → u ≡ replicate n 0 → v ≡ replicate n 4294967295 → IsStage weight m 0 image u v
stage_begun weight m n image u v small e i p q = rw (i, p, q, e) (stage_begins weight m small)

pub listed_assignment : (m : ℕ) (image : List (Option ℕ)) (perm : List ℕ) → IsMatching m m image → IsListed image perm → IsAssignment m perm
listed_assignment m image perm M L = record {
  long = L.long ∙ M.long;
  below = below;
  distinct = distinct;
}
  where
    each : (i d : ℕ) → i < length perm → image_of image i ≡ Some (get_or perm i d)
    each i d l = L.each i l ∙ ap Some (get_or_default perm i 0 d l)

    below : All (λ j. j < m) perm
    below i d l = M.below i (get_or perm i d) (each i d l)

    distinct : AllPairs (λ i j. i ≢ j) perm
    distinct i j d b l e =
        let bi : i < length perm = omega (arith, b, l) in
        let s = M.apart i j (get_or perm j d) (each i d bi ∙ ap Some e) (each j d l) in
        absurd (omega (arith, s, b))

module _ (weight : ℕ → ℕ → ℕ) (m : ℕ) (image : List (Option ℕ)) (us vs perm : List ℕ) (S : IsStage weight m m image us vs) (L : IsListed image perm) where
  pub stage_assignment : IsAssignment m perm
  stage_assignment = listed_assignment m image perm S.matching L

  met : (i : ℕ) → i < m → weight i (get_or perm i 0) ≡ get_or us i 0 + get_or vs (get_or perm i 0) 0
  met i l = S.meets.tight i (get_or perm i 0) (L.each i (subst (λ n. i < n) (sym stage_assignment.long) l))

  pub stage_greatest : HasGreatestSum weight m perm
  stage_greatest = potentials_best weight (slice_index us) (slice_index vs) m perm stage_assignment S.covers.above met

  pub stage_potentials : (sum : ℕ) → sum ≡ assignment_sum weight perm → ArePotentials weight m (map pos us) (map pos vs) sum
  stage_potentials sum e = record {
    u_long = length-map us pos ∙ S.covers.u_long;
    v_long = length-map vs pos ∙ S.covers.v_long;
    above = above;
    add_up = add_up;
  }
    where
      as_pos : (xs : List ℕ) (i : ℕ) → potential (map pos xs) i ≡ pos (slice_index xs i)
      as_pos xs i = get_or-map pos xs i 0

      above : (i j : ℕ) → i < m → j < m → pos (weight i j) ≤ℤ (potential (map pos us) i +ℤ potential (map pos vs) j)
      above i j li lj =
          let h = S.covers.above i j li lj in
          subst (λ z. pos (weight i j) ≤ℤ (z +ℤ potential (map pos vs) j)) (sym (as_pos us i))
          (subst (λ z. pos (weight i j) ≤ℤ (pos (slice_index us i) +ℤ z)) (sym (as_pos vs j)) (pos_le (weight i j) (slice_index us i + slice_index vs j) h))

      add_up : (total (map pos us) +ℤ total (map pos vs)) ≡ pos sum
      add_up =
          let met_up = met_sum weight m us vs perm S.covers.u_long S.covers.v_long stage_assignment met in
          ap (λ z. z +ℤ total (map pos vs)) (total_pos us) ∙ (ap (λ z. pos (sum_by (λ x. x) us) +ℤ z) (total_pos vs) ∙ ap pos (sym (e ∙ met_up)))
