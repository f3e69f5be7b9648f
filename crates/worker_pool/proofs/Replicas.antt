-- Replicas at a lock: what they have seen of the passes' entries, and of the book that is found.
use Rattle.std.proofs.Common.{◌≡◌, ◌∙◌, ℕ, suc, ◌≤◌, List, [], ◌∷◌, length, take, refl, sym, ap, ap₂, arith, length-append}
use Rattle.std.proofs.lemmas.List.{map-append, take-append-le, take_all}
use mathlib.Core.List.{IsPrefix}
use Rattle.plan_law.specs.Books as law
use Rattle.plan_law.specs.Worlds.{replica_after}
use Rattle.plan_core.specs.HeldPlans.{HeldPlan}
use Rattle.book_core.specs.declared.entry.Entry.{Entry}
use Rattle.book_core.specs.Entries.{Shown, line_of, lines_of}
use Rattle.book_core.specs.HeldBooks.{HeldBook, ground_of}
use Rattle.book_core.specs.HeldReplicas.{HeldReplica, IsReplica, seen_first, seen_all}
use Rattle.worker_pool.specs.Turns.{IsReplicaAt}

pub length-lines : (journal : List Entry) → length (lines_of journal) ≡ length journal
length-lines [] = refl
length-lines (entry ∷ journal) = ap suc (length-lines journal)

-- the first entries of a journal that begins with what was seen
pub first_lines : (seen journal : List Entry) (n : ℕ) → IsPrefix seen journal → n ≤ length seen → take n (lines_of journal) ≡ take n (lines_of seen)
first_lines seen journal n (rest, e) l =
    ap (λ (j : List Entry). take n (lines_of j)) (sym e) ∙ (ap (take n) (map-append line_of seen rest) ∙ take-append-le n (lines_of seen) (lines_of rest) (omega (arith, l, length-lines seen)))

pub prefix_shorter : (seen journal : List Entry) → IsPrefix seen journal → length seen ≤ length journal
prefix_shorter seen journal (rest, e) = let l = ap (λ (j : List Entry). length j) e in omega (arith, l, length-append seen rest)

-- a replica of what a pass has seen is one of the book that it finds
pub replica_found : (ground : HeldPlan) (b : HeldBook) (seen : List Entry) (r : HeldReplica) → ground_of b ≡ ground → IsPrefix seen b.journal → IsReplicaAt ground seen r → IsReplica b r
replica_found ground b seen r g p R = record { most = omega (arith, R.most, prefix_shorter seen b.journal p); is = ap₂ (λ q s. record { problem = q; state = s }) (R.problem ∙ problem) state }
  where
    problem : ground.problem ≡ b.problem
    problem = ap (λ (x : HeldPlan). x.problem) (sym g)

    state : r.state ≡ (seen_first b r.state.seen).state
    state = R.state ∙ (ap (λ (x : HeldPlan). replica_after {E = Shown} x.problem.points x.problem.inputs x.plan (take r.state.seen (lines_of seen))) (sym g) ∙ ap (replica_after {E = Shown} b.problem.points b.problem.inputs b.opening) (sym (first_lines seen b.journal r.state.seen p R.most)))

-- and the other way round, once the pass has seen the book
pub replica_left : (ground : HeldPlan) (b : HeldBook) (r : HeldReplica) → ground_of b ≡ ground → IsReplica b r → IsReplicaAt ground b.journal r
replica_left ground b r g R = record {
  most = R.most;
  problem = ap (λ (x : HeldReplica). x.problem) R.is ∙ ap (λ (x : HeldPlan). x.problem) g;
  state = ap (λ (x : HeldReplica). x.state) R.is ∙ ap (λ (x : HeldPlan). replica_after {E = Shown} x.problem.points x.problem.inputs x.plan (take r.state.seen (lines_of b.journal))) g;
}

-- a replica that has seen all of a book
pub all_seen : (b : HeldBook) → IsReplica b (seen_all b)
all_seen b = record {
  most = omega (arith, length-lines b.journal);
  is = ap (λ (j : List (law.Entry Shown)). record { problem = b.problem; state = replica_after b.problem.points b.problem.inputs b.opening j }) (sym (take_all (length (lines_of b.journal)) (lines_of b.journal) (omega arith)));
}

-- a replica of what a pass has seen is one of what it has seen later
pub replica_later : (ground : HeldPlan) (seen later : List Entry) (r : HeldReplica) → IsPrefix seen later → IsReplicaAt ground seen r → IsReplicaAt ground later r
replica_later ground seen later r p R = record {
  most = omega (arith, R.most, prefix_shorter seen later p);
  problem = R.problem;
  state = R.state ∙ ap (replica_after {E = Shown} ground.problem.points ground.problem.inputs ground.plan) (sym (first_lines seen later r.state.seen p R.most));
}

-- what has seen all of a book is a replica of its journal
pub all_at : (b : HeldBook) → IsReplicaAt (ground_of b) b.journal (seen_all b)
all_at b = replica_left (ground_of b) b (seen_all b) refl (all_seen b)
