-- The instance and the order decide which moves and swaps a solved book has.
use Rattle.std.proofs.Common.{◌≡◌, ◌∙◌, sym, ap, ap₂, refl, subst, ℕ, suc, ◌≤◌, List, [], ◌∷◌, ◌++◌, map, length, Some, arith}
use Rattle.std.specs.Prelude.{Contains}
use Rattle.std.specs.List.{AllZip}
use Rattle.geo_orient.specs.declared.Point.{Point}
use Rattle.edge_table.specs.declared.edge.Edge.{Edge}
use Rattle.tri_theory.specs.Points.{ArePlaced}
use Rattle.tri_theory.specs.Triangulations.{IsTriangulation}
use Rattle.tri_check.specs.Problems.{Problem, IsProblem}
use Rattle.flip_list_law.specs.declared.Flip.{Flip}
use Rattle.flip_list_law.specs.FlipLists.{IsFlipList, flipped_edges}
use Rattle.lawson_law.specs.LawsonRuns.{IsLawsonRun, IsOpening}
use Rattle.lawson_law.proofs.Proved.{runs_are_one, runs_end_in_one}
use Rattle.plan_law.specs.Plans.{Plan, Settles}
use Rattle.plan_law.specs.Solving.{turns_of, moves_at, plan_after_all, lines_alone}
use Rattle.plan_law.proofs.Proved.{flips_are_found, settling_is_determined, lines_are_determined}
use Rattle.book_core.specs.Entries.{Shown}
use Rattle.book_core.specs.HeldBooks.{HeldBook, now_of}
use Rattle.book_solve.specs.declared.order.Order.{Order}
use Rattle.book_solve.specs.Solved.{IsOpeningPlan, turns_for, AreLinesBy, IsSolvedBook}
use Rattle.book_solve.specs.Laws.{PlansAreDetermined}

some_same : {T : Type 0} (x y : T) → Some x ≡ Some y → x ≡ y
some_same x y same = cc

module _ (points : List Point) (P : ArePlaced points) (centre : List Edge) where
  abbrev AreTriangulations : List (List Edge) → Type 0
  AreTriangulations inputs = (edges : List Edge) → Contains inputs edges → IsTriangulation points edges

  abbrev Lead : List (List Edge) → List (List Flip) → Type 0
  Lead inputs lists = AllZip (λ input flips. IsFlipList points input flips centre) inputs lists

  abbrev Run : List (List Edge) → List (List Flip) → Type 0
  Run inputs lists = AllZip (λ input flips. IsLawsonRun points input flips centre) inputs (map flipped_edges lists)

  -- flips that lead on from one edge set are decided by their edges
  same_flips : (input : List Edge) (flips others : List Flip) → IsTriangulation points input → IsFlipList points input flips centre → IsFlipList points input others centre → flipped_edges flips ≡ flipped_edges others → flips ≡ others
  same_flips input flips others T leads led same =
      some_same flips others
      (sym ((flips_are_found points input (flipped_edges flips) flips P T).1 (refl, (centre, leads)))
      ∙ (flips_are_found points input (flipped_edges flips) others P T).1 (sym same, (centre, led)))

  -- so are the lists of an opening, by their inputs
  same_lists : (inputs : List (List Edge)) (lists others : List (List Flip)) → AreTriangulations inputs → Lead inputs lists → Lead inputs others → Run inputs lists → Run inputs others → lists ≡ others
  same_lists [] [] [] T leads led run ran = refl
  same_lists [] [] (other ∷ others) T leads led run ran = absurd led
  same_lists [] (flips ∷ lists) others T leads led run ran = absurd leads
  same_lists (input ∷ inputs) [] others T leads led run ran = absurd leads
  same_lists (input ∷ inputs) (flips ∷ lists) [] T leads led run ran = absurd led
  same_lists (input ∷ inputs) (flips ∷ lists) (other ∷ others) T leads led run ran =
      ap₂ (λ f fs. f ∷ fs)
      (same_flips input flips other (T input (0, omega arith, refl)) leads.0 led.0 (runs_are_one points input (flipped_edges flips) centre (flipped_edges other) centre P (T input (0, omega arith, refl)) run.0 ran.0).0)
      (same_lists inputs lists others (λ edges (k, lt, is). T edges (suc k, omega (arith, lt), is)) leads.1 led.1 run.1 ran.1)

-- the runs of an input end in one centre
same_centre : (points : List Point) (centre other : List Edge) (inputs : List (List Edge)) (lists others : List (List Edge)) → ArePlaced points → ((edges : List Edge) → Contains inputs edges → IsTriangulation points edges) → 1 ≤ length inputs
    → IsOpening points inputs lists centre → IsOpening points inputs others other → centre ≡ other
same_centre points centre other [] lists others P T some run ran = absurd (omega (arith, some))
same_centre points centre other (input ∷ inputs) [] others P T some run ran = absurd run
same_centre points centre other (input ∷ inputs) (flips ∷ lists) [] P T some run ran = absurd ran
same_centre points centre other (input ∷ inputs) (flips ∷ lists) (flips' ∷ others) P T some run ran =
    let I = T input (0, omega arith, refl) in
    runs_end_in_one points input flips centre input flips' other P I I run.0 ran.0

same_plan : (plan other : Plan) → plan.centre ≡ other.centre → plan.weights ≡ other.weights → plan.lists ≡ other.lists → plan ≡ other
same_plan plan other centre weights lists =
    ap₂ (λ c ls. record { centre = c; weights = plan.weights; lists = ls }) centre lists ∙ ap (λ ws. record { centre = other.centre; weights = ws; lists = other.lists }) weights

same_opening : (problem : Problem) (budget : ℕ) (plan other : Plan) → IsProblem problem.points problem.inputs → IsOpeningPlan problem budget plan → IsOpeningPlan problem budget other → plan ≡ other
same_opening problem budget plan other p opens opened =
    let centre = same_centre problem.points plan.centre other.centre problem.inputs (map flipped_edges plan.lists) (map flipped_edges other.lists) p.placed p.triangulated p.some_input opens.runs opened.runs in
    same_plan plan other centre (opens.weights ∙ sym opened.weights)
    (same_lists problem.points p.placed plan.centre problem.inputs plan.lists other.lists p.triangulated opens.is_plan.lead
    (subst (λ c. AllZip (λ input flips. IsFlipList problem.points input flips c) problem.inputs other.lists) (sym centre) opened.is_plan.lead)
    opens.runs
    (subst (λ c. AllZip (λ input flips. IsLawsonRun problem.points input flips c) problem.inputs (map flipped_edges other.lists)) (sym centre) opened.runs))

-- where no worker is asked for, the lines of a solved book are those that one thread makes
lines_are : (problem : Problem) (order : Order) (book : HeldBook) (S : IsSolvedBook problem order book) → order.workers ≡ 0 → S.lines ≡ lines_alone (turns_for problem order) problem.points problem.inputs book.opening
lines_are problem order book S alone =
    lines_are_determined Shown (turns_for problem order) problem.points problem.inputs book.opening (now_of book).plan S.lines S.made S.answers
    (subst (λ (w : ℕ). AreLinesBy w (turns_for problem order) problem.points problem.inputs book.opening S.lines) alone S.others)

pub plans_are_determined : PlansAreDetermined
plans_are_determined problem order book other alone p S O = (
  S.journal ∙ (ap₂ (λ lines made. lines ++ moves_at (turns_of (turns_for problem order) problem.inputs) made) lines settled.0 ∙ sym O.journal),
  settled.1,
)
  where
    opening : book.opening ≡ other.opening
    opening = same_opening problem order.flips book.opening other.opening p S.opens O.opens

    lines : S.lines ≡ O.lines
    lines = lines_are problem order book S alone ∙ (ap (lines_alone (turns_for problem order) problem.points problem.inputs) opening ∙ sym (lines_are problem order other O alone))

    worked_on : plan_after_all problem.points problem.inputs other.opening O.lines ≡ plan_after_all problem.points problem.inputs book.opening S.lines
    worked_on = sym (ap₂ (λ plan lines. plan_after_all problem.points problem.inputs plan lines) opening lines)

    settled : (S.made ≡ O.made) × ((now_of book).plan ≡ (now_of other).plan)
    settled = settling_is_determined problem.points (plan_after_all problem.points problem.inputs book.opening S.lines) (now_of book).plan (now_of other).plan S.made O.made S.answers.settles
        (subst (λ plan. Settles problem.points plan O.made (now_of other).plan) worked_on O.answers.settles)
