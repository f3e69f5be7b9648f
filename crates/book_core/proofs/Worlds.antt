-- Events keep worlds.
use Rattle.std.proofs.Common.{◌≡◌, ◌∙◌, ℕ, suc, ◌+◌, ◌≤◌, cond, Option, Some, None, List, [], ◌∷◌, ◌++◌, length, take, All, refl, sym, ap, ap₂, subst, arith, append_assoc}
use Rattle.std.proofs.lemmas.List.{append-nil, map-append, take-append-le}
use Rattle.std.proofs.lemmas.List.Elements.{All-set, All-push}
use Rattle.std.proofs.lemmas.List.Sums.{sum_by-append}
use Rattle.geo_orient.specs.declared.Point.{Point}
use Rattle.edge_table.specs.declared.edge.Edge.{Edge}
use Rattle.tri_check.specs.Problems.{Problem}
use Rattle.plan_law.specs.Plans.{Plan, plan_total}
use Rattle.plan_law.specs.Books as law
use Rattle.plan_law.specs.Books.{State, is_plan_entry, opening_state, state_after, IsLegal, front, bound}
use Rattle.plan_law.specs.BookLaws.{Extends}
use Rattle.plan_law.specs.Worlds.{replica_after}
use Rattle.plan_law.proofs.Proved.{journals_improve, journals_never_worsen}
use Rattle.book_core.specs.declared.entry.Entry.{Entry}
use Rattle.book_core.specs.declared.world.Event.{Event}
use Rattle.book_core.specs.declared.world.Event.TheVariants.{Join, Catch, Offer}
use Rattle.book_core.specs.declared.world.Reply.{Reply}
use Rattle.book_core.specs.declared.world.Reply.TheVariants.{Joined, Caught, Accepted, Refused}
use Rattle.book_core.specs.Entries.{Shown, line_of, lines_of, IsJustifiedRow}
use Rattle.book_core.specs.HeldBooks.{HeldBook, book_of, now_of, front_of, with_line}
use Rattle.book_core.specs.HeldReplicas.{HeldReplica, IsReplica, seen_first, seen_all}
use Rattle.book_core.specs.HeldWorlds.{HeldWorld, IsHeldWorld, IsStep, IsRun}
use Rattle.book_core.specs.WorldLaws.{GoesOn, EventsKeepWorlds}
use Rattle.book_core.proofs.Caught.{length-lines, all_seen}
use Rattle.book_core.proofs.Grown.{legal_grows}

-- a replica of a book is one of the book with one entry more
still_first : (b : HeldBook) (entry : Entry) (n : ℕ) → n ≤ length b.journal → seen_first (with_line b entry) n ≡ seen_first b n
still_first b entry n l =
    ap (λ (j : List (law.Entry Shown)). record { problem = b.problem; state = replica_after {E = Shown} b.problem.points b.problem.inputs b.opening j })
    (ap (take n) (map-append line_of b.journal (entry ∷ [])) ∙ take-append-le n (lines_of b.journal) (line_of entry ∷ []) (omega (arith, l, length-lines b.journal)))

still_replica : (b : HeldBook) (entry : Entry) (r : HeldReplica) → IsReplica b r → IsReplica (with_line b entry) r
still_replica b entry r R = record { most = longer b.journal R.most; is = R.is ∙ sym (still_first b entry r.state.seen R.most) }
  where
    longer : (xs : List Entry) → r.state.seen ≤ length xs → r.state.seen ≤ length (xs ++ entry ∷ [])
    longer xs l = (let e = length-more xs in omega (arith, l, e))
      where
        length-more : (xs : List Entry) → length (xs ++ entry ∷ []) ≡ suc (length xs)
        length-more [] = refl
        length-more (x ∷ xs) = ap suc (length-more xs)

pub still_replicas : (b : HeldBook) (entry : Entry) (rs : List HeldReplica) → All (IsReplica b) rs → All (IsReplica (with_line b entry)) rs
still_replicas b entry rs h k d l = still_replica b entry _ (h k d l)

-- ---- one event
record Keeps (old new : HeldWorld) : Type 0 where
  pub is_world : IsHeldWorld new
  pub same_problem : new.book.problem ≡ old.book.problem
  pub begins : Extends (book_of old.book) (book_of new.book)

with_replicas : (old : HeldWorld) (rs : List HeldReplica) → IsHeldWorld old → All (IsReplica old.book) rs → Keeps old (record { book = old.book; replicas = rs })
with_replicas old rs W h = record {
  is_world = record { is_problem = W.is_problem; is_book = W.is_book; weighed = W.weighed; replicas = h };
  same_problem = refl;
  begins = record { opening = refl; more = []; journal = sym (append-nil (lines_of old.book.journal)) };
}

unchanged : (old new : HeldWorld) → IsHeldWorld old → new ≡ old → Keeps old new
unchanged old new W e = subst (Keeps old) (sym e) (with_replicas old old.replicas W W.replicas)

step_keeps : (old new : HeldWorld) (event : Event) (reply : Option Reply) → IsHeldWorld old → IsStep old event reply new → Keeps old new
step_keeps old new Join (Some (Joined r)) W (m, (i, e)) = subst (Keeps old) (sym e) (with_replicas old _ W (All-push (IsReplica old.book) old.replicas (seen_all old.book) W.replicas (all_seen old.book)))
step_keeps old new Join (Some (Caught n)) W (m, h) = absurd h
step_keeps old new Join (Some (Accepted a)) W (m, h) = absurd h
step_keeps old new Join (Some (Refused why)) W (m, h) = absurd h
step_keeps old new Join None W (m, e) = unchanged old new W e
step_keeps old new (Catch r) (Some (Joined s)) W (m, h) = absurd h
step_keeps old new (Catch r) (Some (Caught n)) W (m, (i, e)) = subst (Keeps old) (sym e) (with_replicas old _ W (All-set (IsReplica old.book) old.replicas r (seen_all old.book) (all_seen old.book) W.replicas))
step_keeps old new (Catch r) (Some (Accepted a)) W (m, h) = absurd h
step_keeps old new (Catch r) (Some (Refused why)) W (m, h) = absurd h
step_keeps old new (Catch r) None W (m, (x, y, i, F, e)) = subst (Keeps old) (sym e) (with_replicas old _ W (All-set (IsReplica old.book) old.replicas r y F.is_replica W.replicas))
step_keeps old new (Offer r entry) (Some (Joined s)) W (m, h) = absurd h
step_keeps old new (Offer r entry) (Some (Caught n)) W (m, h) = absurd h
step_keeps old new (Offer r entry) (Some (Accepted a)) W (m, (x, i, A, e)) = subst (Keeps old) (sym e) grown
  where
    grown : Keeps old (record { book = with_line old.book entry; replicas = old.replicas })
    grown = record {
      is_world = record {
        is_problem = W.is_problem;
        is_book = legal_grows old.book entry W.weighed W.is_book m.1 A.fit;
        weighed = W.weighed;
        replicas = still_replicas old.book entry old.replicas W.replicas;
      };
      same_problem = refl;
      begins = record { opening = refl; more = line_of entry ∷ []; journal = map-append line_of old.book.journal (entry ∷ []) };
    }
step_keeps old new (Offer r entry) (Some (Refused why)) W (m, (x, i, n, R, e)) = unchanged old new W e
step_keeps old new (Offer r entry) None W (m, e) = unchanged old new W e

-- ---- all events
then_keeps : (old mid new : HeldWorld) → Keeps old mid → Keeps mid new → Keeps old new
then_keeps old mid new K L = record {
  is_world = L.is_world;
  same_problem = L.same_problem ∙ K.same_problem;
  begins = record {
    opening = L.begins.opening ∙ K.begins.opening;
    more = K.begins.more ++ L.begins.more;
    journal = L.begins.journal ∙ (ap (λ j. j ++ L.begins.more) K.begins.journal ∙ append_assoc (lines_of old.book.journal) K.begins.more L.begins.more);
  };
}

run_keeps : (old new : HeldWorld) (events : List Event) (replies : List (Option Reply)) → IsHeldWorld old → IsRun old events replies new → Keeps old new
run_keeps old new [] [] W e = unchanged old new W e
run_keeps old new [] (reply ∷ replies) W h = absurd h
run_keeps old new (event ∷ events) [] W h = absurd h
run_keeps old new (event ∷ events) (reply ∷ replies) W (mid, s, rest) =
    let K = step_keeps old mid event reply W s in then_keeps old mid new K (run_keeps mid new events replies K.is_world rest)

module _ (P : List Point) (Q : List (List Edge)) (start : State Shown) (old more new : List (law.Entry Shown)) (e : new ≡ old ++ more) (L : IsLegal (IsJustifiedRow P Q) P Q start new) where
  along : (plan_total (state_after P Q start new).plan + front more ≤ plan_total (state_after P Q start old).plan) × (bound (state_after P Q start old) ≤ bound (state_after P Q start new))
  along =
      subst (λ j. (plan_total (state_after P Q start j).plan + front more ≤ plan_total (state_after P Q start old).plan) × (bound (state_after P Q start old) ≤ bound (state_after P Q start j))) (sym e)
      (journals_never_worsen Shown (λ points inputs r. IsJustifiedRow points inputs r) P Q start old more (subst (IsLegal (IsJustifiedRow P Q) P Q start) e L))

  fronts : front new ≡ front old + front more
  fronts = ap front e ∙ sum_by-append (λ x. cond (is_plan_entry x) 1 0) old more

  falls : plan_total (state_after P Q start new).plan + front new ≤ plan_total (state_after P Q start old).plan + front old
  falls = let a = along.0 in omega (arith, a, fronts)

module _ (old new : HeldWorld) (K : Keeps old new) where
  abbrev P : List Point
  P = new.book.problem.points

  abbrev Q : List (List Edge)
  Q = new.book.problem.inputs

  abbrev start : State Shown
  start = opening_state new.book.opening

  legal : IsLegal (IsJustifiedRow new.book.problem.points new.book.problem.inputs) P Q start (lines_of new.book.journal)
  legal = K.is_world.is_book.legal

  same : state_after P Q start (lines_of old.book.journal) ≡ now_of old.book
  same = ap₂ (λ (p : Problem) (o : Plan). state_after p.points p.inputs (opening_state {E = Shown} o) (lines_of old.book.journal)) K.same_problem K.begins.opening

  goes_on : GoesOn old new
  goes_on = record {
    is_world = K.is_world;
    same_problem = K.same_problem;
    begins = K.begins;
    total_falls =
        subst (λ (s : State Shown). plan_total (now_of new.book).plan + front_of new.book ≤ plan_total s.plan + front_of old.book) same
        (falls P Q start (lines_of old.book.journal) K.begins.more (lines_of new.book.journal) K.begins.journal legal);
    bound_kept =
        subst (λ (s : State Shown). bound s ≤ bound (now_of new.book)) same
        (along P Q start (lines_of old.book.journal) K.begins.more (lines_of new.book.journal) K.begins.journal legal).1;
    improves = λ k entry h. journals_improve Shown (λ points inputs r. IsJustifiedRow points inputs r) P Q start (lines_of new.book.journal) k entry legal h;
  }

pub events_keep_worlds : EventsKeepWorlds
events_keep_worlds old new events replies W R = goes_on old new (run_keeps old new events replies W R)
