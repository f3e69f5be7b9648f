-- The chains of the flips that change one segment, and the walk along one of them.
use Rattle.std.proofs.Common.{◌≡◌, ℕ, suc, ◌+◌, ◌-◌, ◌<◌, ◌≤◌, Bool, true, false, ◌&&◌, cond, Option, Some, None, List, [], ◌∷◌, ◌++◌, length, get_or, set, take, map, refl, sym, ap, ◌∙◌, subst, arith, append_assoc}
use Rattle.std.specs.List.{filter}
use Rattle.std.proofs.Math.ListN.{replicate}
use Rattle.std.proofs.lemmas.List.{append-nil, map-append, get_or-replicate, length-replicate, get_or-set_same, get_or-set_other, get_or_default, length-set}
use Rattle.std.proofs.lemmas.List.Elements.{filter_more}
use native.Mathlib.Decide.{dec_lt, ℕ_discrete}
use Rattle.geo_orient.specs.declared.Point.{Point}
use Rattle.edge_table.specs.declared.edge.Edge.{Edge}
use Rattle.edge_table.specs.Edges.{is_edge}
use Rattle.log_law.specs.declared.Lit.{Lit}
use Rattle.log_law.specs.Clauses.{Clause}
use Rattle.formula_law.specs.Frames.{Pair, Frame, IsFrame}
use Rattle.formula_law.specs.Formula.{literal}
use Rattle.formula_law.proofs.EdgeTests.{edge_equal}
use Rattle.formula_parts.specs.Lists.{edge_at}
use Rattle.formula_parts.specs.Building.{no_pair, pair_at}
use Rattle.formula_parts.proofs.Places.{same_segment, other_segment}
use Rattle.pruned_cnf.specs.declared.writing.chains.Change.{Change}
use Rattle.pruned_cnf.specs.Chains.{IsNext, AreChained}
use Rattle.pruned_cnf.specs.Groups.{changed, is_change_of, changing_flips, flip_literal}
use Rattle.pruned_cnf.specs.Queries.{Query, flip_in, is_live_flip_in}
use Rattle.pruned_cnf.proofs.Chosen.{map_one, none_between, none_after}

abbrev pub nothing : Option ℕ
nothing = None

-- ---- the making of the chains, from the last flip to the first
pub chains_begun : (F : Frame) (change : Change) (firsts nexts : List (Option ℕ)) (s f i : ℕ) → firsts ≡ replicate s nothing → nexts ≡ replicate f nothing → s ≡ length F.segments → f ≡ length F.flips → i ≡ length F.flips → AreChained F change firsts nexts i
chains_begun F change firsts nexts s f i es ef ls lf li = record {
  segments = ap length es ∙ length-replicate s nothing ∙ ls;
  flips = ap length ef ∙ length-replicate f nothing ∙ lf;
  first = λ e h. subst (IsNext (is_change_of change (edge_at F.segments e)) F.flips i) (sym (ap (λ xs. get_or xs e nothing) es ∙ get_or-replicate s e nothing nothing (omega arith))) (λ j l r. absurd (omega arith));
  next = λ n l h. absurd (omega arith);
}

module _ (points : List Point) (F : Frame) (I : IsFrame points F) (change : Change) (firsts nexts : List (Option ℕ)) (n k : ℕ) (C : AreChained F change firsts nexts (n + 1)) (hn : n < length F.flips) (hk : k < length F.segments) (is : edge_at F.segments k ≡ changed change (pair_at F.flips n)) where
  -- flip n doesn't pass the test
  sooner : (test : Pair → Bool) → test (pair_at F.flips n) ≡ false → (at : Option ℕ) → IsNext test F.flips (n + 1) at → IsNext test F.flips n at
  sooner test f None h = λ j l r. by_place j l r (dec_lt n j)
    where
      by_place : (j : ℕ) → n ≤ j → j < length F.flips → Dec (n < j) → test (pair_at F.flips j) ≡ false
      by_place j l r (yes m) = h j (omega arith) r
      by_place j l r (no m) = subst (λ j. test (pair_at F.flips j) ≡ false) (let e : n ≡ j = omega arith in e) f
  sooner test f (Some m) h = (let l = h.0 in omega arith, h.1, h.2, λ j l r. by_place j l r (dec_lt n j))
    where
      by_place : (j : ℕ) → n ≤ j → j < m → Dec (n < j) → test (pair_at F.flips j) ≡ false
      by_place j l r (yes o) = h.3 j (omega arith) r
      by_place j l r (no o) = subst (λ j. test (pair_at F.flips j) ≡ false) (let e : n ≡ j = omega arith in e) f

  test_of : (e : ℕ) (b : Bool) → is_edge (edge_at F.segments e) (edge_at F.segments k) ≡ b → is_change_of change (edge_at F.segments e) (pair_at F.flips n) ≡ b
  test_of e b h = ap (is_edge (edge_at F.segments e)) (sym is) ∙ h

  first_more : (e : ℕ) → e < length F.segments → Dec (e ≡ k) → IsNext (is_change_of change (edge_at F.segments e)) F.flips n (get_or (set firsts k (Some n)) e nothing)
  first_more e h (yes q) =
      let w : k < length firsts = (let s = C.segments in omega arith) in
      subst (IsNext (is_change_of change (edge_at F.segments e)) F.flips n) (sym (ap (λ i. get_or (set firsts k (Some n)) i nothing) q ∙ get_or-set_same firsts k (Some n) nothing w))
      (omega arith, hn, test_of e true (same_segment points F I e k (sym q)), λ j l r. absurd (omega arith))
  first_more e h (no m) =
      subst (IsNext (is_change_of change (edge_at F.segments e)) F.flips n) (sym (get_or-set_other firsts k e (Some n) nothing m))
      (sooner (is_change_of change (edge_at F.segments e)) (test_of e false (other_segment points F I e k h hk (λ q. m (sym q)))) (get_or firsts e nothing) (C.first e h))

  next_more : (i : ℕ) → n ≤ i → i < length F.flips → Dec (i ≡ n) → IsNext (is_change_of change (changed change (pair_at F.flips i))) F.flips (i + 1) (get_or (set nexts n (get_or firsts k nothing)) i nothing)
  next_more i l h (yes q) =
      let w : n < length nexts = (let s = C.flips in omega arith) in
      subst (λ i. IsNext (is_change_of change (changed change (pair_at F.flips i))) F.flips (i + 1) (get_or (set nexts n (get_or firsts k nothing)) i nothing)) (sym q)
      (subst (IsNext (is_change_of change (changed change (pair_at F.flips n))) F.flips (n + 1)) (sym (get_or-set_same nexts n (get_or firsts k nothing) nothing w))
      (subst (λ e. IsNext (is_change_of change e) F.flips (n + 1) (get_or firsts k nothing)) is (C.first k hk)))
  next_more i l h (no m) =
      subst (IsNext (is_change_of change (changed change (pair_at F.flips i))) F.flips (i + 1)) (sym (get_or-set_other nexts n i (get_or firsts k nothing) nothing m)) (C.next i (omega arith) h)

  pub chains_more : AreChained F change (set firsts k (Some n)) (set nexts n (get_or firsts k nothing)) n
  chains_more = record {
    segments = length-set firsts k (Some n) ∙ C.segments;
    flips = length-set nexts n (get_or firsts k nothing) ∙ C.flips;
    first = λ e h. first_more e h (ℕ_discrete e k);
    next = λ i l h. next_more i l h (ℕ_discrete i n);
  }

-- ---- the walk along the chain of e
-- the walk stands at the next flip from a place on, and what was put after the old literals is of the flips before it
pub record IsWalked (q : Query) (t : ℕ) (change : Change) (e : Edge) (old now : Clause) (at : Option ℕ) : Type 0 where
  pub place : ℕ
  pub within : place ≤ length q.frame.flips
  pub next : IsNext (is_change_of change e) q.frame.flips place at
  pub so_far : now ≡ old ++ map (λ g. literal (flip_in q t g) true) (filter (λ g. is_change_of change e g && is_live_flip_in q t g) (take place q.frame.flips))

module _ (q : Query) (t : ℕ) (change : Change) (e : Edge) (old : Clause) where
  abbrev flips : List Pair
  flips = q.frame.flips

  abbrev lit : Pair → Lit
  lit g = literal (flip_in q t g) true

  abbrev test : Pair → Bool
  test g = is_change_of change e g && is_live_flip_in q t g

  apart : (j : ℕ) → is_change_of change e (pair_at flips j) ≡ false → test (pair_at flips j) ≡ false
  apart j h = ap (λ b. b && is_live_flip_in q t (pair_at flips j)) h

  pub walk_starts : (at : Option ℕ) → IsNext (is_change_of change e) flips 0 at → IsWalked q t change e old old at
  walk_starts at h = record { place = 0; within = omega arith; next = h; so_far = sym (append-nil old) }

  pub walk_within : (now : Clause) (n : ℕ) → IsWalked q t change e old now (Some n) → n < length flips
  walk_within now n W = W.next.1

  module _ (firsts nexts : List (Option ℕ)) (C : AreChained q.frame change firsts nexts 0) (now : Clause) (n : ℕ) (W : IsWalked q t change e old now (Some n)) where
    pub next_at : IsNext (is_change_of change e) flips (n + 1) (get_or nexts n nothing)
    next_at = subst (λ e. IsNext (is_change_of change e) flips (n + 1) (get_or nexts n nothing)) (sym (edge_equal e (changed change (pair_at flips n)) W.next.2)) (C.next n (omega arith) W.next.1)

    kept_more : filter test (take (n + 1) flips) ≡ filter test (take W.place flips) ++ cond (is_live_flip_in q t (pair_at flips n)) (pair_at flips n ∷ []) []
    kept_more =
        filter_more test flips n no_pair W.next.1
        ∙ ap (λ b. filter test (take n flips) ++ cond (b && is_live_flip_in q t (pair_at flips n)) (pair_at flips n ∷ []) []) W.next.2
        ∙ ap (λ gs. gs ++ cond (is_live_flip_in q t (pair_at flips n)) (pair_at flips n ∷ []) []) (none_between test flips no_pair W.place n W.next.0 (let l = W.next.1 in omega arith) (λ j l r. apart j (W.next.3 j l r)))

    pub walk_on : (new : Clause) → new ≡ now ++ flip_literal q t (pair_at flips n) → IsWalked q t change e old new (get_or nexts n nothing)
    walk_on new h = record {
      place = n + 1;
      within = let l = W.next.1 in omega arith;
      next = next_at;
      so_far =
          h ∙ ap (λ ls. ls ++ flip_literal q t (pair_at flips n)) W.so_far
          ∙ append_assoc old (map lit (filter test (take W.place flips))) (flip_literal q t (pair_at flips n))
          ∙ ap (λ ls. old ++ ls)
          (ap (λ ls. map lit (filter test (take W.place flips)) ++ ls) (sym (map_one lit (pair_at flips n) (is_live_flip_in q t (pair_at flips n))))
          ∙ sym (map-append lit (filter test (take W.place flips)) (cond (is_live_flip_in q t (pair_at flips n)) (pair_at flips n ∷ []) []))
          ∙ ap (map lit) (sym kept_more));
    }

  pub walk_ends : (now : Clause) → IsWalked q t change e old now None → now ≡ old ++ changing_flips q t change e
  walk_ends now W = W.so_far ∙ ap (λ gs. old ++ map lit gs) (sym (none_after test flips no_pair W.place W.within (λ j l r. apart j (W.next j l r))))

-- ---- what is read at a place of a chain, and when the walk ends
pub read_at : (chain : List (Option ℕ)) (n : ℕ) (at : Option ℕ) → n < length chain → at ≡ get_or chain n at → at ≡ get_or chain n nothing
read_at chain n at h is = is ∙ get_or_default chain n at nothing h

pub at_end : (at : Option ℕ) → ((n : ℕ) → at ≡ Some n → ⊥) → at ≡ None
at_end None h = refl
at_end (Some n) h = absurd (h n refl)

-- how many flips a walk has before it
abbrev pub left : ℕ → Option ℕ → ℕ
left m (Some n) = suc (m - n)
left m None = 0

pub left_smaller : (test : Pair → Bool) (flips : List Pair) (n : ℕ) (at : Option ℕ) → n < length flips → IsNext test flips (n + 1) at → left (length flips) at < left (length flips) (Some n)
left_smaller test flips n None h i = omega arith
left_smaller test flips n (Some m) h i = let l = i.0 in let r = i.1 in omega arith
