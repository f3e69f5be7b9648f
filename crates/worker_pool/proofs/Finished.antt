-- How a book is finished.
use Rattle.std.proofs.Common.{◌≡◌, ◌∙◌, ℕ, ◌+◌, ◌<◌, ◌≤◌, Bool, true, false, Option, Some, None, Result, Ok, Err, IfOk, IfErr, OnOk, OnErr, List, [], ◌∷◌, ◌++◌, length, refl, sym, ap, ap₂, subst, arith, append_assoc}
use Rattle.std.specs.Prelude.{sum, unwrap_or}
use Rattle.std.specs.declared.alloc.AllocError.{AllocError}
use Rattle.std.proofs.lemmas.List.{append-nil, map-append}
use Rattle.geo_orient.specs.declared.Point.{Point}
use Rattle.edge_table.specs.declared.edge.Edge.{Edge}
use Rattle.assignment_law.specs.Assignments.{IsAssignment, HasGreatestSum}
use Rattle.match_bound.specs.Tables.{weight}
use Rattle.plan_law.specs.Plans.{Plan, plan_total, followed_all, first_lowering, IsSettled, Settles}
use Rattle.plan_law.specs.Books.{State}
use Rattle.plan_law.proofs.Proved.{settling_ends}
use Rattle.plan_core.specs.HeldPlans.{HeldPlan}
use Rattle.plan_moves.specs.Ways.{IsFirstStep}
use Rattle.plan_moves.proofs.Begun.{begins, goes_on, ends}
use Rattle.plan_moves.proofs.Lowered.{first_made, first_lower}
use Rattle.book_core.specs.declared.entry.Entry.{Entry}
use Rattle.book_core.specs.declared.entry.Entry.TheVariants as entry
use Rattle.book_core.specs.declared.refusal.Accepted.{Accepted}
use Rattle.book_core.specs.declared.refusal.Refusal.{Refusal}
use Rattle.book_core.specs.declared.refusal.Refusal.TheVariants as refusal
use Rattle.book_core.specs.Entries.{Shown}
use Rattle.book_core.specs.HeldBooks.{HeldBook, ground_of, now_of, with_line, Refuses}
use Rattle.worker_pool.specs.Outcomes.{IsBestAt}
use Rattle.worker_pool.specs.Finishes.{moves_of, MovesOn, HasSettlingMoves, IsSettlingOn, IsPackedOn, IsFinished}
use Rattle.worker_pool.specs.Works.{table_at}
use Rattle.worker_pool.proofs.Best.{best_of}
use Rattle.worker_pool.proofs.OneThread.{now_more}

abbrev plan_of : HeldBook → Plan
plan_of b = (now_of b).plan

abbrev points_of : HeldBook → List Point
points_of b = b.problem.points

same_points : (old new : HeldBook) → ground_of new ≡ ground_of old → points_of new ≡ points_of old
same_points old new g = ap (λ (q : HeldPlan). q.problem.points) g

-- ---- settling
-- a move that was appended is made
made_on : (turn : ℕ) (old new : HeldBook) (move : List Edge) → first_lowering (points_of old) (plan_of old) ≡ Some move → new ≡ with_line old (entry.Move turn move) → IsFirstStep (points_of old) (plan_of old) move (plan_of new)
made_on turn old new move f e = by_made (first_made (points_of old) (plan_of old) move f)
  where
    by_made : (next : Plan) × (followed_all (points_of old) (plan_of old) move ≡ Some next) × (plan_total next < plan_total (plan_of old)) → IsFirstStep (points_of old) (plan_of old) move (plan_of new)
    by_made (next, i, l) = record {
      first = f;
      leads = i ∙ ap Some (sym (ap plan_of e ∙ (ap (λ (s : State Shown). s.plan) (now_more old (entry.Move turn move)) ∙ ap (λ (r : Option Plan). unwrap_or r (plan_of old)) i)));
    }

pub nothing_made : (turn : ℕ) (b : HeldBook) → HasSettlingMoves turn b b
nothing_made turn b = record { of_ground = refl; moves = []; appended = sym (append-nil b.journal); begun = begins (points_of b) (plan_of b) }

module _ (turn : ℕ) (start old new : HeldBook) (H : HasSettlingMoves turn start old) where
  on_move : (move : List Edge) → first_lowering (points_of old) (plan_of old) ≡ Some move → new ≡ with_line old (entry.Move turn move) → HasSettlingMoves turn start new
  on_move move f e = record {
    of_ground = ap ground_of e ∙ H.of_ground;
    moves = H.moves ++ move ∷ [];
    appended =
        ap (λ (b : HeldBook). b.journal) e
        ∙ (ap (λ (j : List Entry). j ++ entry.Move turn move ∷ []) H.appended ∙ (append_assoc start.journal (moves_of turn H.moves) (entry.Move turn move ∷ []) ∙ ap (λ (j : List Entry). start.journal ++ j) (sym (map-append (λ (edges : List Edge). entry.Move turn edges) H.moves (move ∷ [])))));
    begun = goes_on (points_of start) (plan_of start) (plan_of old) (plan_of new) H.moves move H.begun (subst (λ ps. IsFirstStep ps (plan_of old) move (plan_of new)) (same_points start old H.of_ground) (made_on turn old new move f e));
  }

  pub moved_on : (more : Bool) → MovesOn turn old more new → HasSettlingMoves turn start new
  moved_on true (move, f, e) = on_move move f e
  moved_on false (f, e) = subst (HasSettlingMoves turn start) (sym e) H

-- the total falls with each move
pub moved_lower : (turn : ℕ) (old new : HeldBook) (more : Bool) → MovesOn turn old more new → more ≡ true → plan_total (plan_of new) < plan_total (plan_of old)
moved_lower turn old new true (move, f, e) t = first_lower (points_of old) (plan_of old) (plan_of new) move (made_on turn old new move f e)
moved_lower turn old new false m t = absurd (cc)

-- no move is left
pub moved_out : (turn : ℕ) (start old new : HeldBook) (more : Bool) → HasSettlingMoves turn start old → MovesOn turn old more new → more ≡ false → first_lowering (points_of start) (plan_of new) ≡ None
moved_out turn start old new true H m f = absurd (cc)
moved_out turn start old new false H (n, e) f = ap₂ (λ ps p. first_lowering ps p) (sym (same_points start old H.of_ground)) (ap plan_of e) ∙ n

-- settling that is left
pub settling_left : (turn : ℕ) (old new : HeldBook) → HasSettlingMoves turn old new → IsSettlingOn turn old new
settling_left turn old new H = by_end (settling_ends (points_of old) (plan_of new))
  where
    by_end : (rest : List (List Edge)) × (end : Plan) × Settles (points_of old) (plan_of new) rest end × (length rest + plan_total end ≤ plan_total (plan_of new)) → IsSettlingOn turn old new
    by_end (rest, end, S, l) = record {
      of_ground = H.of_ground;
      way = record { made = H.moves; rest = rest; end = end; settles = H.begun.settles rest end S; stands = H.begun.stands };
      appended = H.appended;
    }

-- ---- packing
module _ (turn : ℕ) (b : HeldBook) (perm : List ℕ) (best : IsBestAt (now_of b) perm) where
  packed : (new : HeldBook) → new ≡ with_line b (entry.Pack turn perm) → IsPackedOn turn b new
  packed new e = subst (IsPackedOn turn b) (sym e) (record {
    of_ground = refl;
    packs = entry.Pack turn perm ∷ [];
    pack = refl;
    appended = refl;
    same_plan = ap (λ (s : State Shown). s.plan) (now_more b (entry.Pack turn perm));
    best = subst (λ (s : State Shown). IsBestAt s s.assignment) (sym (now_more b (entry.Pack turn perm))) best;
  })

  no_rise : (held : IsAssignment (sum (plan_of b).weights) (now_of b).assignment) (base was given : ℕ) (new : HeldBook) → Refuses b base (entry.Pack turn perm) (refusal.NoRise was given) → new ≡ b → IsPackedOn turn b new
  no_rise held base was given new r e = subst (IsPackedOn turn b) (sym e) (record {
    of_ground = refl;
    packs = [];
    pack = tt;
    appended = sym (append-nil b.journal);
    same_plan = refl;
    best = (held, λ other A. let l = best.1 other A in let x = r.0 in let y = r.1 in let z = r.2 in omega (arith, l, x, y, z));
  })

  pub pack_taken : (new : HeldBook) (answer : Result Accepted Refusal) (a : Accepted) → answer ≡ Ok a → OnOk answer (new ≡ with_line b (entry.Pack turn perm)) → IsPackedOn turn b new
  pack_taken new answer a e grown = packed new (subst (λ r. OnOk r (new ≡ with_line b (entry.Pack turn perm))) e grown)

  pub pack_refused : (held : IsAssignment (sum (plan_of b).weights) (now_of b).assignment) (base was given : ℕ) (new : HeldBook) (answer : Result Accepted Refusal) → answer ≡ Err (refusal.NoRise was given) → IfErr answer (Refuses b base (entry.Pack turn perm)) → OnErr answer (new ≡ b)
      → IsPackedOn turn b new
  pack_refused held base was given new answer e err kept =
      no_rise held base was given new (subst (λ r. IfErr r (Refuses b base (entry.Pack turn perm))) e err) (subst (λ r. OnErr r (new ≡ b)) e kept)

-- ---- both
settled_end : (points : List Point) (plan end : Plan) (moves : List (List Edge)) → Settles points plan moves end → IsSettled points end
settled_end points plan end [] (e, s) = subst (IsSettled points) e s
settled_end points plan end (move ∷ moves) (next, f, g, S) = settled_end points next end moves S

pub finished : (turn : ℕ) (old mid new : HeldBook) → HasSettlingMoves turn old mid → first_lowering (points_of old) (plan_of mid) ≡ None → IsPackedOn turn mid new → IsFinished turn old new
finished turn old mid new H n P = record {
  of_ground = P.of_ground ∙ H.of_ground;
  moves = H.moves;
  packs = P.packs;
  pack = P.pack;
  appended = P.appended ∙ (ap (λ (j : List Entry). j ++ P.packs) H.appended ∙ append_assoc old.journal (moves_of turn H.moves) P.packs);
  settles = settles;
  settled = settled_end (points_of old) (plan_of old) (plan_of new) H.moves settles;
  best = P.best;
}
  where
    settles : Settles (points_of old) (plan_of old) H.moves (plan_of new)
    settles = subst (Settles (points_of old) (plan_of old) H.moves) (sym P.same_plan) (ends (points_of old) (plan_of old) (plan_of mid) H.moves H.begun n)

-- the best assignment under the table of a book
pub best_for_book : (b : HeldBook) (table : List (List ℕ)) (r : Result (List ℕ) AllocError) → table ≡ table_at (now_of b) → IfOk r (HasGreatestSum (weight table) (length table)) → IfOk r (IsBestAt (now_of b))
best_for_book b table (Ok perm) e h = best_of (plan_of b).weights (now_of b).rows perm (subst (λ t. HasGreatestSum (weight t) (length t) perm) e h)
best_for_book b table (Err why) e h = tt

-- an end without a pack
pub on_ok : (turn : ℕ) (old mid new : HeldBook) (r : Result (Unit {0}) AllocError) → HasSettlingMoves turn old mid → first_lowering (points_of old) (plan_of mid) ≡ None → OnOk r (IsPackedOn turn mid new) → OnOk r (IsFinished turn old new)
on_ok turn old mid new (Ok v) H n h = finished turn old mid new H n h
on_ok turn old mid new (Err why) H n h = tt

pub on_err : (turn : ℕ) (old mid new : HeldBook) (r : Result (Unit {0}) AllocError) → HasSettlingMoves turn old mid → OnErr r (new ≡ mid) → OnErr r (IsSettlingOn turn old new)
on_err turn old mid new (Ok v) H h = tt
on_err turn old mid new (Err why) H h = subst (IsSettlingOn turn old) (sym h) (settling_left turn old mid H)
