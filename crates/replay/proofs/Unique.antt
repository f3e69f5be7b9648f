-- Rounds lead to one end at most or have one first fault at most, and never both.
use Rattle.std.proofs.Common.{◌≡◌, ◌≢◌, ◌⊎◌, inl, inr, ◌∙◌, ℕ, zero, suc, ◌<◌, List, [], ◌∷◌, take, Some, slice_get, Contains, refl, sym, ap, ap₂, subst, arith}
use native.Mathlib.Decide.{dec_lt, ℕ_discrete}
use Rattle.std.proofs.lemmas.List.{take-take, length-take, get_or-take}
use Rattle.std.proofs.lemmas.Option.{slice_get_within, get_or_from_slice_get}
use Rattle.geo_orient.specs.declared.Point.{Point}
use Rattle.edge_table.specs.declared.edge.Edge.{Edge}
use Rattle.edge_table.specs.Edges.{edge}
use Rattle.edge_table.proofs.Ascending.{same_members}
use Rattle.tri_theory.specs.Points.{ArePlaced}
use Rattle.tri_theory.specs.Triangulations.{IsEmptyTriangle, IsTriangulation}
use Rattle.tri_theory.specs.Flips.{Flips}
use Rattle.tri_theory.specs.Rounds.{IsRound, IsSchedule}
use Rattle.tri_theory.proofs.Schedules.{schedule_triangulation}
use Rattle.replay.specs.declared.fault.RoundFault.{RoundFault}
use Rattle.replay.specs.declared.fault.RoundFault.TheVariants.{NotEdge, Twice, NotConvex, SharedTriangle}
use Rattle.replay.specs.Independent.{HasNoRepeats, AreIndependent, AreRoundsOf, IsSide, ShareTriangle}
use Rattle.replay.specs.Faults.{round_of, edge_at_fault, IsFirstWith, IsFaultAfter, IsFaultIn, IsFirstFault}
use Rattle.replay.proofs.Lists.{taken_inside}
use Rattle.replay.proofs.Quads.{turn_triangle}

-- ---- lists
pub same_some : {X : Type 0} (x y : X) → Some x ≡ Some y → x ≡ y
same_some x y e = cc

pub found_in : {X : Type 0} (xs : List X) (k : ℕ) (x : X) → slice_get xs k ≡ Some x → Contains xs x
found_in xs k x h = (k, slice_get_within xs k x h, get_or_from_slice_get xs k x x h)

pub found_before : {X : Type 0} (xs : List X) (k n : ℕ) (x : X) → k < n → slice_get xs k ≡ Some x → slice_get (take n xs) k ≡ Some x
found_before [] k n x l h = absurd (let m = slice_get_within [] k x h in omega arith)
found_before (y ∷ xs) k zero x l h = absurd (omega arith)
found_before (y ∷ xs) zero (suc n) x l h = h
found_before (y ∷ xs) (suc k) (suc n) x l h = found_before xs k n x (omega arith) h

pub apart_cases : (k n : ℕ) → (k < n) ⊎ ((k ≡ n) ⊎ (n < k))
apart_cases k n = by_tests (dec_lt k n) (ℕ_discrete k n)
  where
    by_tests : Dec (k < n) → Dec (k ≡ n) → (k < n) ⊎ ((k ≡ n) ⊎ (n < k))
    by_tests (yes l) _ = inl l
    by_tests (no nl) (yes e) = inr (inl e)
    by_tests (no nl) (no ne) = inr (inr (omega arith))

first_unique : (P : Edge → Type 0) (es : List Edge) (e f : Edge) → IsFirstWith P es e → IsFirstWith P es f → e ≡ f
first_unique P es e f E F = by_places (apart_cases E.place F.place)
  where
    by_places : (E.place < F.place) ⊎ ((E.place ≡ F.place) ⊎ (F.place < E.place)) → e ≡ f
    by_places (inl l) = absurd (F.first e (found_in (take F.place es) E.place e (found_before es E.place F.place e l E.there)) E.holds)
    by_places (inr (inl i)) = same_some e f (sym E.there ∙ ap (slice_get es) i ∙ F.there)
    by_places (inr (inr l)) = absurd (E.first f (found_in (take E.place es) F.place f (found_before es F.place E.place f l F.there)) F.holds)

-- ---- one fault at a place
one_fault : (points : List Point) (T before : List Edge) (f g : RoundFault) → round_of f ≡ round_of g → edge_at_fault f ≡ edge_at_fault g → IsFaultAfter points T before f → IsFaultAfter points T before g → f ≡ g
one_fault points T before (NotEdge r e) (NotEdge s d) i j h k = ap₂ NotEdge i j
one_fault points T before (NotEdge r e) (Twice s d) i j h k = absurd (h (subst (Contains T) (sym j) k.0))
one_fault points T before (NotEdge r e) (NotConvex s d) i j h k = absurd (h (subst (Contains T) (sym j) k.0))
one_fault points T before (NotEdge r e) (SharedTriangle s d x) i j h k = absurd (h (subst (Contains T) (sym j) k.0))
one_fault points T before (Twice r e) (NotEdge s d) i j h k = absurd (k (subst (Contains T) j h.0))
one_fault points T before (Twice r e) (Twice s d) i j h k = ap₂ Twice i j
one_fault points T before (Twice r e) (NotConvex s d) i j h k = absurd (k.1 (subst (Contains before) j h.1))
one_fault points T before (Twice r e) (SharedTriangle s d x) i j h k = absurd (k.1 (subst (Contains before) j h.1))
one_fault points T before (NotConvex r e) (NotEdge s d) i j h k = absurd (k (subst (Contains T) j h.0))
one_fault points T before (NotConvex r e) (Twice s d) i j h k = absurd (h.1 (subst (Contains before) (sym j) k.1))
one_fault points T before (NotConvex r e) (NotConvex s d) i j h k = ap₂ NotConvex i j
one_fault points T before (NotConvex r e) (SharedTriangle s d x) i j h k = absurd (h.2 (subst (Flips points T) (sym j) k.2))
one_fault points T before (SharedTriangle r e x) (NotEdge s d) i j h k = absurd (k (subst (Contains T) j h.0))
one_fault points T before (SharedTriangle r e x) (Twice s d) i j h k = absurd (h.1 (subst (Contains before) (sym j) k.1))
one_fault points T before (SharedTriangle r e x) (NotConvex s d) i j h k = absurd (k.2 (subst (Flips points T) j h.2))
one_fault points T before (SharedTriangle r e x) (SharedTriangle s d y) i j h k =
    let same : x ≡ y = first_unique (ShareTriangle points T d) before x y (subst (λ z. IsFirstWith (ShareTriangle points T z) before x) j h.3) k.3 in
    λ n. SharedTriangle (i n) (j n) (same n)

-- ---- edges that can flip together have no fault
module _ (points : List Point) (P : ArePlaced points) (T : List Edge) (I : IsTriangulation points T) where
  turn : (a b c : ℕ) → IsEmptyTriangle points T a b c → IsEmptyTriangle points T b c a
  turn a b c t = turn_triangle points P T I a b c t

  flip_member : (e : Edge) → Flips points T e → Contains T e
  flip_member e (f, (a, b, c, d, he, hf, q)) = subst (Contains T) (sym he) q.left.ab

  no_sharing : (es : List Edge) (e f : Edge) → AreIndependent points T es → Contains es e → Contains es f → e ≢ f → ShareTriangle points T e f → ⊥
  no_sharing es e f A he hf ne (a, b, c, t, se, sf) = by_sides se sf
    where
      pair : (x y z : ℕ) → IsEmptyTriangle points T x y z → (d g : Edge) → Contains es d → Contains es g → d ≡ edge x y → g ≡ edge y z → ⊥
      pair x y z u d g hd hg i j = A.apart x y z u (subst (Contains es) i hd) (subst (Contains es) j hg)

      bca : IsEmptyTriangle points T b c a
      bca = turn a b c t

      cab : IsEmptyTriangle points T c a b
      cab = turn b c a bca

      by_sides : IsSide a b c e → IsSide a b c f → ⊥
      by_sides (inl i) (inl j) = ne (i ∙ sym j)
      by_sides (inl i) (inr (inl j)) = pair a b c t e f he hf i j
      by_sides (inl i) (inr (inr j)) = pair c a b cab f e hf he j i
      by_sides (inr (inl i)) (inl j) = pair a b c t f e hf he j i
      by_sides (inr (inl i)) (inr (inl j)) = ne (i ∙ sym j)
      by_sides (inr (inl i)) (inr (inr j)) = pair b c a bca e f he hf i j
      by_sides (inr (inr i)) (inl j) = pair c a b cab e f he hf i j
      by_sides (inr (inr i)) (inr (inl j)) = pair b c a bca f e hf he j i
      by_sides (inr (inr i)) (inr (inr j)) = ne (i ∙ sym j)

  not_before : (es : List Edge) (p : ℕ) (e : Edge) → HasNoRepeats es → slice_get es p ≡ Some e → ¬ Contains (take p es) e
  not_before es p e up h (k, l, i) =
      let m : k < p = let n = length-take p es in omega arith in
      up k p e m (slice_get_within es p e h) (sym (get_or-take p es k e m) ∙ i ∙ sym (get_or_from_slice_get es p e e h))

  pub no_fault_in : (es : List Edge) (fault : RoundFault) → AreIndependent points T es → ¬ IsFaultIn points T es fault
  no_fault_in es (NotEdge r e) A F = F.fault_after (flip_member e (A.flips e (found_in es F.place e F.there)))
  no_fault_in es (Twice r e) A F = not_before es F.place e A.distinct F.there F.fault_after.1
  no_fault_in es (NotConvex r e) A F = F.fault_after.2 (A.flips e (found_in es F.place e F.there))
  no_fault_in es (SharedTriangle r e f) A F =
      let s = F.fault_after.3 in let before = found_in (take F.place es) s.place f s.there in
      no_sharing es e f A (found_in es F.place e F.there) (taken_inside F.place es f before) (λ i. F.fault_after.1 (subst (Contains (take F.place es)) (sym i) before)) s.holds

  -- a fault is one in the edges up to any later place
  fault_cut : (es : List Edge) (n : ℕ) (fault : RoundFault) (F : IsFaultIn points T es fault) → F.place < n → IsFaultIn points T (take n es) fault
  fault_cut es n fault F l = record {
    place = F.place;
    there = found_before es F.place n (edge_at_fault fault) l F.there;
    before = subst (AreIndependent points T) (sym same) F.before;
    fault_after = subst (λ es. IsFaultAfter points T es fault) (sym same) F.fault_after;
  }
    where
      same : take F.place (take n es) ≡ take F.place es
      same = take-take F.place n es (omega arith)

  pub fault_in_unique : (es : List Edge) (f g : RoundFault) → round_of f ≡ round_of g → IsFaultIn points T es f → IsFaultIn points T es g → f ≡ g
  fault_in_unique es f g i F G = by_places (apart_cases F.place G.place)
    where
      by_places : (F.place < G.place) ⊎ ((F.place ≡ G.place) ⊎ (G.place < F.place)) → f ≡ g
      by_places (inl l) = absurd (no_fault_in (take G.place es) f G.before (fault_cut es G.place f F l))
      by_places (inr (inl e)) =
          one_fault points T (take G.place es) f g i (same_some _ _ (sym F.there ∙ ap (slice_get es) e ∙ G.there)) (subst (λ p. IsFaultAfter points T (take p es) f) e F.fault_after) G.fault_after
      by_places (inr (inr l)) = absurd (no_fault_in (take F.place es) g F.before (fault_cut es F.place g G l))

-- ---- rounds
round_unique : (points : List Point) (T F U V : List Edge) → IsRound points T F U → IsRound points T F V → U ≡ V
round_unique points T F U V R S = same_members U V R.ascending S.ascending (λ e. (λ h. (S.members e).1 ((R.members e).0 h), λ h. (R.members e).1 ((S.members e).0 h)))

pub schedule_unique : (points : List Point) (rounds : List (List Edge)) (A B C : List Edge) → IsSchedule points A rounds B → IsSchedule points A rounds C → B ≡ C
schedule_unique points [] A B C e f = sym e ∙ f
schedule_unique points (round ∷ rounds) A B C (U, R, s) (V, S, t) =
    schedule_unique points rounds V B C (subst (λ X. IsSchedule points X rounds B) (round_unique points A round U V R S) s) t

-- the round at a place of a schedule, from where the rounds before it lead
pub record RoundAt (points : List Point) (A : List Edge) (rounds : List (List Edge)) (r : ℕ) (round : List Edge) : Type 0 where
  pub from : List Edge
  pub next : List Edge
  pub before : IsSchedule points A (take r rounds) from
  pub is_round : IsRound points from round next

pub round_at : (points : List Point) (rounds : List (List Edge)) (A B : List Edge) (r : ℕ) (round : List Edge) → IsSchedule points A rounds B → slice_get rounds r ≡ Some round → RoundAt points A rounds r round
round_at points [] A B r round s h = absurd (let m = slice_get_within [] r round h in omega arith)
round_at points (x ∷ rounds) A B zero round (U, R, s) h = record { from = A; next = U; before = refl; is_round = subst (λ F. IsRound points A F U) (same_some x round h) R }
round_at points (x ∷ rounds) A B (suc r) round (U, R, s) h = later (round_at points rounds U B r round s h)
  where
    later : RoundAt points U rounds r round → RoundAt points A (x ∷ rounds) (suc r) round
    later k = record { from = k.from; next = k.next; before = (U, R, k.before); is_round = k.is_round }

pub no_fault : (points : List Point) (start to : List Edge) (rounds : List (List Edge)) (fault : RoundFault) → ArePlaced points → IsTriangulation points start → AreRoundsOf points start rounds to → ¬ IsFirstFault points start rounds fault
no_fault points start to rounds fault P I R F =
    no_fault_in points P F.edges J F.round fault (record { flips = k.flips; distinct = distinct; apart = k.apart }) F.fault_in
  where
    at : RoundAt points start rounds (round_of fault) F.round
    at = round_at points rounds start to (round_of fault) F.round R.leads F.there

    J : IsTriangulation points F.edges
    J = schedule_triangulation points P start F.edges (take (round_of fault) rounds) I F.before.leads

    k : IsRound points F.edges F.round at.next
    k = subst (λ T. IsRound points T F.round at.next) (schedule_unique points (take (round_of fault) rounds) start at.from F.edges at.before F.before.leads) at.is_round

    distinct : HasNoRepeats F.round
    distinct = subst HasNoRepeats (get_or_from_slice_get rounds (round_of fault) F.round [] F.there) (R.distinct (round_of fault) [] (slice_get_within rounds (round_of fault) F.round F.there))

-- a first fault is one of the rounds up to any later place
first_cut : (points : List Point) (start : List Edge) (rounds : List (List Edge)) (n : ℕ) (fault : RoundFault) → round_of fault < n → IsFirstFault points start rounds fault → IsFirstFault points start (take n rounds) fault
first_cut points start rounds n fault l F = record {
  edges = F.edges;
  before = subst (λ rs. AreRoundsOf points start rs F.edges) (sym (take-take (round_of fault) n rounds (omega arith))) F.before;
  round = F.round;
  there = found_before rounds (round_of fault) n F.round l F.there;
  fault_in = F.fault_in;
}

pub first_fault_unique : (points : List Point) (start : List Edge) (rounds : List (List Edge)) (f g : RoundFault) → ArePlaced points → IsTriangulation points start → IsFirstFault points start rounds f → IsFirstFault points start rounds g → f ≡ g
first_fault_unique points start rounds f g P I F G = by_rounds (apart_cases (round_of f) (round_of g))
  where
    by_rounds : (round_of f < round_of g) ⊎ ((round_of f ≡ round_of g) ⊎ (round_of g < round_of f)) → f ≡ g
    by_rounds (inl l) = absurd (no_fault points start G.edges (take (round_of g) rounds) f P I G.before (first_cut points start rounds (round_of g) f l F))
    by_rounds (inr (inr l)) = absurd (no_fault points start F.edges (take (round_of f) rounds) g P I F.before (first_cut points start rounds (round_of f) g l G))
    by_rounds (inr (inl e)) =
        fault_in_unique points P G.edges J G.round f g e (subst (λ T. IsFaultIn points T G.round f) edges (subst (λ r. IsFaultIn points F.edges r f) rounds_agree F.fault_in)) G.fault_in
      where
        edges : F.edges ≡ G.edges
        edges = schedule_unique points (take (round_of g) rounds) start F.edges G.edges (subst (λ r. IsSchedule points start (take r rounds) F.edges) e F.before.leads) G.before.leads

        rounds_agree : F.round ≡ G.round
        rounds_agree = same_some F.round G.round (sym F.there ∙ ap (slice_get rounds) e ∙ G.there)

        J : IsTriangulation points G.edges
        J = schedule_triangulation points P start G.edges (take (round_of g) rounds) I G.before.leads
