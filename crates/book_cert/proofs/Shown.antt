-- What is written for an instance is shown.
use Rattle.std.proofs.Common.{◌≡◌, ◌∙◌, ◌⊎◌, inl, inr, ℕ, ◌<◌, ◌≤◌, List, [], ◌∷◌, length, map, All, refl, sym, subst}
use Rattle.std.specs.List.{AllZip, AllPairs, AllByRecursion}
use Rattle.std.proofs.lemmas.Bool.{cases_lt}
use Rattle.std.proofs.lemmas.List.Elements.{All-from_recursion, All-weaker, All-contains}
use Rattle.std.proofs.lemmas.Option.{slice_get_within, get_or_from_slice_get}
use Rattle.geo_orient.specs.declared.Point.{Point}
use Rattle.edge_table.specs.declared.edge.Edge.{Edge}
use Rattle.edge_table.specs.Edges.{IsBefore, IsAscending}
use Rattle.tri_theory.specs.Points.{ArePlaced}
use Rattle.tri_theory.specs.Rounds.{IsPlan}
use Rattle.tri_check.specs.Problems.{Problem}
use Rattle.flip_list_law.specs.declared.Flip.{Flip}
use Rattle.flip_list_law.specs.FlipLists.{IsFlipList, grouped}
use Rattle.flip_list_law.proofs.Proved.{grouping_replays}
use Rattle.formula_law.proofs.Proved.{frames_are_one}
use Rattle.flip_cnf.specs.HeldFrames.{HeldFrame, Listed, Many, IsHeldFrame}
use Rattle.replay.specs.Independent.{HasNoRepeats}
use Rattle.replay.specs.Scores.{AreAllDistinct}
use Rattle.pair_rows.specs.declared.row.Row as row
use Rattle.pair_rows.specs.Versions.{formula_kind}
use Rattle.pair_rows.specs.Rows.{IsEarnedFor, IsJustified}
use Rattle.pair_rows.proofs.Formulas.{frames_dont_matter}
use Rattle.pair_rows.proofs.Climbing.{ascending_differ}
use Rattle.plan_law.specs.Plans.{IsInstance, Plan, IsPlanOf, schedules}
use Rattle.plan_law.specs.Books.{opening_state}
use Rattle.plan_law.specs.Jobs.{pairs}
use Rattle.plan_law.proofs.Plans.{Each, each_of}
use Rattle.plan_law.proofs.Proved.{plans_have_schedules}
use Rattle.plan_law.proofs.Books.{journal_keeps, opening_keeps}
use Rattle.plan_moves.proofs.Lowered.{instance_of}
use Rattle.book_core.specs.Entries.{Shown, IsJustifiedRow}
use Rattle.solution_json.specs.declared.solution.Solution.{Solution}
use Rattle.cert_text.specs.declared.cert.Cert.{Cert}
use Rattle.verify_core.specs.Faults.{AreSoundTo, IsVerified}
use Rattle.book_solve.specs.Solved.{log_budget}
use Rattle.book_cert.specs.Certificates.{entries_of}
use Rattle.book_cert.specs.Written.{IsReplayable}
use Rattle.book_cert.specs.Laws.{WhatIsWrittenIsShown}
use Rattle.book_cert.proofs.Journals.{plan_by_all}
use Rattle.book_cert.proofs.SoundRows.{pairs_ascend, comes_after, justified_sound}

-- each list of points has a frame
frame_for : (points : List Point) → (frame : HeldFrame) × IsHeldFrame points frame
frame_for points = by_number (cases_lt 64 (length points))
  where
    by_number : (64 < length points) ⊎ (length points ≤ 64) → (frame : HeldFrame) × IsHeldFrame points frame
    by_number (inl many) = (Many (length points), (many, refl))
    by_number (inr few) = let one = frames_are_one points in (Listed one.0, (few, one.1))

-- ---- the lists
-- no round of a plan's schedules names an edge twice
rounds_distinct : (points : List Point) → ArePlaced points → (centre : List Edge) (inputs : List (List Edge)) (lists : List (List Flip)) → Each points inputs → AllZip (λ input flips. IsFlipList points input flips centre) inputs lists
    → AllByRecursion (λ rounds. All HasNoRepeats rounds) (map grouped lists)
rounds_distinct points P centre [] [] I h = tt
rounds_distinct points P centre [] (flips ∷ lists) I h = absurd h
rounds_distinct points P centre (input ∷ inputs) [] I h = absurd h
rounds_distinct points P centre (input ∷ inputs) (flips ∷ lists) I h = (
  All-weaker IsAscending HasNoRepeats ascending_differ (grouped flips) (grouping_replays points input centre flips P I.0 h.0).in_order,
  rounds_distinct points P centre inputs lists I.1 h.1,
)

plan_distinct : (points : List Point) (inputs : List (List Edge)) (plan : Plan) → IsInstance points inputs → IsPlanOf points inputs plan → AreAllDistinct (schedules plan)
plan_distinct points inputs plan N h = All-from_recursion (λ rounds. All HasNoRepeats rounds) (schedules plan) (rounds_distinct points N.placed plan.centre inputs plan.lists (each_of points inputs N.triangulated) h.lead)

-- the journal leads from the opening to a plan
end_plan : (instance : Problem) (opening end : Plan) (s : Solution) (c : Cert) → IsInstance instance.points instance.inputs → IsPlanOf instance.points instance.inputs opening → IsReplayable instance opening end s c → IsPlanOf instance.points instance.inputs end
end_plan instance opening end s c N h R =
    let J = IsJustifiedRow instance.points instance.inputs in
    let K = journal_keeps Shown J instance.points instance.inputs N (entries_of c) (opening_state opening) (opening_keeps Shown J instance.points instance.inputs opening h) R.legal in
    subst (IsPlanOf instance.points instance.inputs) (plan_by_all instance.points instance.inputs (opening_state opening) (entries_of c) ∙ sym R.leads) K.is_plan

-- ---- the rows
rows_sound : (points : List Point) (inputs : List (List Edge)) (budget : ℕ) (frame : HeldFrame) (rows : List row.Row) → IsHeldFrame points frame → map (λ (r : row.Row). (r.i, r.j)) rows ≡ pairs (length inputs) → All (IsEarnedFor 3 points inputs budget) rows
    → AreSoundTo 3 points inputs frame rows (length rows)
rows_sound points inputs budget frame rows held order earned q r l there =
    justified_sound 3 points inputs frame _ r (comes_after rows (subst (AllPairs IsBefore) (sym order) (pairs_ascend (length inputs))) q r there)
    (justified (All-contains (IsEarnedFor 3 points inputs budget) rows r earned (q, slice_get_within rows q r there, get_or_from_slice_get rows q r r there)))
  where
    justified : IsEarnedFor 3 points inputs budget r → IsJustified (formula_kind 3) points inputs frame r
    justified (other, has, E) = (frames_dont_matter (formula_kind 3) points inputs other frame r has held).0.0 E.justified

pub what_is_written_is_shown : WhatIsWrittenIsShown
what_is_written_is_shown problem order s c I W = (held.0, verified)
  where
    held : (frame : HeldFrame) × IsHeldFrame problem.points frame
    held = frame_for problem.points

    N : IsInstance problem.points problem.inputs
    N = instance_of problem.points problem.inputs I

    is_plan : IsPlanOf problem.points problem.inputs W.end
    is_plan = end_plan problem W.opening W.end s c N W.opens.is_plan W.replayable

    verified : IsVerified problem held.0 s c
    verified = record {
      frame_held = held.1;
      solution_uid = W.replayable.named.solution_uid;
      certificate_uid = W.replayable.named.certificate_uid;
      lists = W.replayable.named.lists;
      inputs = W.replayable.named.inputs;
      copies = W.replayable.named.copies;
      centre = W.end.centre;
      plan = subst (IsPlan problem.points problem.inputs W.end.centre) (sym W.replayable.lists) (plans_have_schedules problem.points problem.inputs W.end N is_plan).0;
      distinct = subst AreAllDistinct (sym W.replayable.lists) (plan_distinct problem.points problem.inputs W.end N is_plan);
      total = W.replayable.rounds;
      rows = subst (λ (v : ℕ). AreSoundTo v problem.points problem.inputs held.0 c.rows (length c.rows)) (sym W.replayable.version)
          (rows_sound problem.points problem.inputs (log_budget (length problem.inputs)) held.0 c.rows held.1 W.best.in_order W.best.earned);
      assignment = W.best.best.0;
      bound = W.best.bound;
    }
