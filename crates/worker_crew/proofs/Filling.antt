-- Outcomes that are put at the places of their turns.
use Rattle.std.proofs.Common.{◌≡◌, ◌∙◌, ℕ, zero, suc, ◌+◌, Some, List, [], ◌∷◌, ◌++◌, drop, All, refl, sym, ap, subst, arith}
use Rattle.std.specs.Prelude.{slice_get, slice_set}
use Rattle.seat_list.proofs.Ends.{all_left, all_right}
use Rattle.worker_pool.specs.declared.outcome.Outcome.{Outcome}
use Rattle.worker_pool.proofs.Ordered.{same}
use Rattle.worker_crew.specs.declared.taken.Taken.{Taken}
use Rattle.worker_crew.specs.Workers.{filled, all_taken}

filled-append : (outcomes : List Outcome) (taken more : List Taken) → filled outcomes (taken ++ more) ≡ filled (filled outcomes taken) more
filled-append outcomes [] more = refl
filled-append outcomes (t ∷ taken) more = filled-append (slice_set outcomes t.turn t.outcome) taken more

-- one worker's turns are among those of all
pub part_within : (P : Taken → Type 0) (parts : List (List Taken)) (k : ℕ) (part : List Taken) → slice_get parts k ≡ Some part → All P (all_taken parts) → All P part
part_within P [] k part e h = absurd (cc)
part_within P (first ∷ parts) zero part e h = subst (All P) (same first part e) (all_left P first (all_taken parts) h)
part_within P (first ∷ parts) (suc k) part e h = part_within P parts k part e (all_right P first (all_taken parts) h)

-- those of the workers from one on are that one's and then the others'
parts_from : (parts : List (List Taken)) (k : ℕ) (part : List Taken) → slice_get parts k ≡ Some part → all_taken (drop k parts) ≡ part ++ all_taken (drop (suc k) parts)
parts_from [] k part e = absurd (cc)
parts_from (first ∷ parts) zero part e = ap (λ (p : List Taken). p ++ all_taken parts) (same first part e)
parts_from (first ∷ parts) (suc k) part e = parts_from parts k part e

-- where the outcomes of one worker more are put
pub one_part_more : (blank outcomes new : List Outcome) (parts : List (List Taken)) (k : ℕ) (part : List Taken) → slice_get parts k ≡ Some part → new ≡ filled outcomes part
    → filled outcomes (all_taken (drop k parts)) ≡ filled blank (all_taken parts) → filled new (all_taken (drop (k + 1) parts)) ≡ filled blank (all_taken parts)
one_part_more blank outcomes new parts k part there put before =
    let next : k + 1 ≡ suc k = omega arith in
    ap (λ (n : ℕ). filled new (all_taken (drop n parts))) next
    ∙ (ap (λ (o : List Outcome). filled o (all_taken (drop (suc k) parts))) put ∙ (sym (filled-append outcomes part (all_taken (drop (suc k) parts))) ∙ (ap (filled outcomes) (sym (parts_from parts k part there)) ∙ before)))
