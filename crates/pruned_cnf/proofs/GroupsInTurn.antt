-- The five groups of clauses of a pruned formula, one after the other.
use Rattle.std.proofs.Common.{◌≡◌, ℕ, ◌+◌, ◌≤◌, List, [], ◌++◌, length, sym, ap, ◌∙◌, subst, arith}
use Rattle.std.specs.List.{flat_map, range_with_len}
use Rattle.edge_table.specs.declared.edge.Edge.{Edge}
use Rattle.log_law.specs.Clauses.{Clause, Formula}
use Rattle.formula_law.proofs.Fits.{pruned_fits}
use Rattle.formula_parts.specs.Building.{adding, Takes}
use Rattle.formula_parts.proofs.Appending.{takes_first, next_takes, next_added}
use Rattle.pruned_cnf.specs.Groups.{layer_in, crossings_in, flips_in, changes_in}
use Rattle.pruned_cnf.specs.Queries.{Query, IsQuery, live_in, variables_in, clauses_in, formula_in}

module _ (q : Query) (A B : List Edge) (k : ℕ) where
  abbrev pub start : Formula
  start = record { variables = variables_in q; clauses = [] }

  abbrev pub first : List Clause
  first = layer_in q 0 A

  abbrev pub second : List Clause
  second = layer_in q k B

  abbrev pub third : List Clause
  third = flat_map (crossings_in q) (range_with_len 0 (q.rounds + 1))

  abbrev pub fourth : List Clause
  fourth = flat_map (flips_in q) (range_with_len 0 q.rounds)

  abbrev pub fifth : List Clause
  fifth = flat_map (changes_in q) (range_with_len 0 q.rounds)

  module _ (Q : IsQuery q) (few : length (clauses_in q) ≤ 400_000) (from : A ≡ q.from) (to : B ≡ q.to) (rounds : k ≡ q.rounds) (made : Formula) (is : made ≡ start) where
    all : first ++ second ++ third ++ fourth ++ fifth ≡ clauses_in q
    all = λ i. layer_in q 0 (from i) ++ layer_in q (rounds i) (to i) ++ third ++ fourth ++ fifth

    takes_5 : Takes made (first ++ second ++ third ++ fourth ++ fifth)
    takes_5 = subst (Takes made) (sym all) (subst (λ m. Takes m (clauses_in q)) (sym is) (record {
      fit = pruned_fits q.points q.frame Q.frame q.from q.to q.rounds Q.from Q.to (live_in q);
      room = omega (arith, few);
    }))

    takes_4 : Takes made (first ++ second ++ third ++ fourth)
    takes_4 = takes_first made (first ++ second ++ third ++ fourth) fifth takes_5

    takes_3 : Takes made (first ++ second ++ third)
    takes_3 = takes_first made (first ++ second ++ third) fourth takes_4

    takes_2 : Takes made (first ++ second)
    takes_2 = takes_first made (first ++ second) third takes_3

    pub takes_1 : Takes made first
    takes_1 = takes_first made first second takes_2

    module _ (m1 : Formula) (e1 : m1 ≡ adding made first) where
      pub takes_second : Takes m1 second
      takes_second = next_takes made m1 first second takes_2 e1

      module _ (m2 : Formula) (e2 : m2 ≡ adding m1 second) where
        added_2 : m2 ≡ adding made (first ++ second)
        added_2 = next_added made m1 m2 first second e1 e2

        pub takes_third : Takes m2 third
        takes_third = next_takes made m2 (first ++ second) third takes_3 added_2

        module _ (m3 : Formula) (e3 : m3 ≡ adding m2 third) where
          added_3 : m3 ≡ adding made (first ++ second ++ third)
          added_3 = next_added made m2 m3 (first ++ second) third added_2 e3

          pub takes_fourth : Takes m3 fourth
          takes_fourth = next_takes made m3 (first ++ second ++ third) fourth takes_4 added_3

          module _ (m4 : Formula) (e4 : m4 ≡ adding m3 fourth) where
            added_4 : m4 ≡ adding made (first ++ second ++ third ++ fourth)
            added_4 = next_added made m3 m4 (first ++ second ++ third) fourth added_3 e4

            pub takes_fifth : Takes m4 fifth
            takes_fifth = next_takes made m4 (first ++ second ++ third ++ fourth) fifth takes_5 added_4

            pub all_written : (m5 : Formula) → m5 ≡ adding m4 fifth → m5 ≡ formula_in q
            all_written m5 e5 = next_added made m4 m5 (first ++ second ++ third ++ fourth) fifth added_4 e5 ∙ ap (adding made) all ∙ ap (λ m. adding m (clauses_in q)) is
