-- The five groups of clauses, one after the other.
use Rattle.std.proofs.Common.{◌≡◌, ℕ, ◌+◌, ◌*◌, ◌≤◌, List, [], ◌++◌, length, sym, ap, ◌∙◌, subst, arith}
use Rattle.std.specs.List.{flat_map, range_with_len}
use Rattle.edge_table.specs.declared.edge.Edge.{Edge}
use Rattle.log_law.specs.Clauses.{Clause, Formula}
use Rattle.formula_law.specs.Frames.{Frame}
use Rattle.formula_law.specs.Formula.{layer_clauses, crossing_clauses, flip_clauses, change_clauses, formula, clause_count, variable_count, there, made}
use Rattle.formula_law.specs.RefutationLaws.{whole}
use Rattle.formula_law.proofs.Fits.{fits}
use Rattle.formula_law.proofs.FormulaCounts.{formula_length}
use Rattle.formula_parts.specs.Building.{IsFrameOfSome, adding, Takes}
use Rattle.formula_parts.proofs.Appending.{takes_first, next_takes, next_added}

pub fewer : (F : Frame) (k most : ℕ) → clause_count F k ≤ most → variable_count F k ≤ most
fewer F k most h = counted (length F.segments) (length F.crossings) (length F.flips) h
  where
    counted : (s c w : ℕ) → 2 * s + (k + 1) * c + k * (12 * w + 2 * s) ≤ most → (k + 1) * s + k * w ≤ most
    counted s c w h = omega (arith, h)

module _ (F : Frame) (A B : List Edge) (k : ℕ) where
  abbrev pub start : Formula
  start = record { variables = variable_count F k; clauses = [] }

  abbrev pub first : List Clause
  first = layer_clauses F (there F) 0 A

  abbrev pub second : List Clause
  second = layer_clauses F (there F) k B

  abbrev pub third : List Clause
  third = flat_map (crossing_clauses F (there F)) (range_with_len 0 (k + 1))

  abbrev pub fourth : List Clause
  fourth = flat_map (flip_clauses F (there F) (made F k)) (range_with_len 0 k)

  abbrev pub fifth : List Clause
  fifth = flat_map (change_clauses F (there F) (made F k)) (range_with_len 0 k)

  module _ (some : IsFrameOfSome F) (few : clause_count F k ≤ 400_000) (made : Formula) (is : made ≡ start) where
    pub takes_5 : Takes made (first ++ second ++ third ++ fourth ++ fifth)
    takes_5 = subst (λ m. Takes m (formula F A B k)) (sym is) (record {
      fit = fits some.points F some.frame A B k;
      room = let l = formula_length some.points some.placed F some.frame A B k in omega (arith, l, few);
    })

    pub takes_4 : Takes made (first ++ second ++ third ++ fourth)
    takes_4 = takes_first made (first ++ second ++ third ++ fourth) fifth takes_5

    pub takes_3 : Takes made (first ++ second ++ third)
    takes_3 = takes_first made (first ++ second ++ third) fourth takes_4

    pub takes_2 : Takes made (first ++ second)
    takes_2 = takes_first made (first ++ second) third takes_3

    pub takes_1 : Takes made first
    takes_1 = takes_first made first second takes_2

    module _ (m1 m2 : Formula) (e1 : m1 ≡ adding made first) (e2 : m2 ≡ adding m1 second) where
      added_2 : m2 ≡ adding made (first ++ second)
      added_2 = next_added made m1 m2 first second e1 e2

      pub takes_third : Takes m2 third
      takes_third = next_takes made m2 (first ++ second) third takes_3 added_2

      module _ (m3 : Formula) (e3 : m3 ≡ adding m2 third) where
        added_3 : m3 ≡ adding made (first ++ second ++ third)
        added_3 = next_added made m2 m3 (first ++ second) third added_2 e3

        pub takes_fourth : Takes m3 fourth
        takes_fourth = next_takes made m3 (first ++ second ++ third) fourth takes_4 added_3

        module _ (m4 : Formula) (e4 : m4 ≡ adding m3 fourth) where
          added_4 : m4 ≡ adding made (first ++ second ++ third ++ fourth)
          added_4 = next_added made m3 m4 (first ++ second ++ third) fourth added_3 e4

          pub takes_fifth : Takes m4 fifth
          takes_fifth = next_takes made m4 (first ++ second ++ third ++ fourth) fifth takes_5 added_4

          pub all_written : (m5 : Formula) → m5 ≡ adding m4 fifth → m5 ≡ whole F A B k
          all_written m5 e5 = next_added made m4 m5 (first ++ second ++ third ++ fourth) fifth added_4 e5 ∙ ap (λ m. adding m (first ++ second ++ third ++ fourth ++ fifth)) is
