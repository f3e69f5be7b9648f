-- Replicas that have seen all of a book.
use Rattle.std.proofs.Common.{◌≡◌, suc, List, [], ◌∷◌, ◌++◌, length, All, refl, sym, ap, subst, arith}
use Rattle.std.proofs.lemmas.List.{take_all}
use Rattle.std.proofs.lemmas.List.Elements.{All-push}
use Rattle.plan_law.specs.Books as law
use Rattle.plan_law.specs.Worlds.{replica_after}
use Rattle.book_core.specs.declared.entry.Entry.{Entry}
use Rattle.book_core.specs.Entries.{Shown, lines_of}
use Rattle.book_core.specs.HeldBooks.{HeldBook}
use Rattle.book_core.specs.HeldReplicas.{HeldReplica, IsReplica, seen_all}

pub length-lines : (journal : List Entry) → length (lines_of journal) ≡ length journal
length-lines [] = refl
length-lines (entry ∷ journal) = ap suc (length-lines journal)

pub all_seen : (b : HeldBook) → IsReplica b (seen_all b)
all_seen b = record {
  most = omega (arith, length-lines b.journal);
  is = ap (λ (j : List (law.Entry Shown)). record { problem = b.problem; state = replica_after b.problem.points b.problem.inputs b.opening j }) (sym (take_all (length (lines_of b.journal)) (lines_of b.journal) (omega arith)));
}

-- one replica more
pub joined : (b : HeldBook) (olds news : List HeldReplica) (r : HeldReplica) → All (IsReplica b) olds → r ≡ seen_all b → news ≡ olds ++ r ∷ [] → All (IsReplica b) news
joined b olds news r h e n = subst (All (IsReplica b)) (sym n) (All-push (IsReplica b) olds r h (subst (IsReplica b) (sym e) (all_seen b)))
