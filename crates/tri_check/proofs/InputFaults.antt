-- The faults of an input, kind by kind: what each search finds is the first fault, and what it doesn't find isn't there.
use Rattle.std.proofs.Common.{◌≡◌, ◌⊎◌, inl, inr, ℕ, ◌<◌, pos, unsigned_abs, List, [], ◌∷◌, map, length, Contains, Some, slice_get, slice_index_or, refl, sym, ap, ap₂, ◌∙◌, subst, arith}
use Rattle.std.proofs.lemmas.Option.{slice_get_within, slice_get-get_or, get_or_from_slice_get}
use Rattle.geo_orient.specs.declared.Point.{Point}
use Rattle.edge_table.specs.declared.edge.Edge.{Edge}
use Rattle.edge_table.specs.Edges.{IsBefore}
use Rattle.edge_table.proofs.Edges.{pair, edge_of, edge_swap}
use Rattle.edge_table.proofs.Ascending.{same_members}
use Rattle.tri_theory.specs.Points.{Separates}
use Rattle.tri_theory.specs.Triangulations.{AreJoined, IsTriangulation}
use Rattle.tri_theory.specs.Inputs.{IsCompleted}
use Rattle.tri_check.specs.declared.raw.RawPair.{RawPair}
use Rattle.tri_check.specs.declared.fault.Bad.{Bad}
use Rattle.tri_check.specs.declared.fault.Bad.TheVariants.{BadVertex, Loop, Blocked, Crossing, LonePoint, OpenSide}
use Rattle.tri_check.specs.Faults.{NamesPoint, IsPairAt, IsCompletedInput, HasMembers, HoldsOfShape}
use Rattle.tri_check.specs.Stages.{IsFirstOfShape, IsLeast, IsNone, IsFirstEdge, IsNoEdge, HasBadVertex, IsLoop, ArePairs, pair_at, IsBlocked, CrossesLater, IsCrossed, IsEnd, IsClosed, HasOpenSide, AreClosed, AreEdges, IsInput, rank_of, input_of, kind_of, AreClear, IsFaultless}
use Rattle.tri_check.proofs.Order.{Less_than, fields_of, lex_edge, lex_one, not_less, first_in, NoKind, NoneBelow, none_at_first, none_next, faultless}
use Rattle.tri_check.proofs.Whole.{whole}
use Rattle.tri_check.proofs.Nets.{not_open}

same_place : (inputs : List (List RawPair)) (t : ℕ) (raw other : List RawPair) → slice_get inputs t ≡ Some raw → slice_get inputs t ≡ Some other → other ≡ raw
same_place inputs t raw other h k = sym (get_or_from_slice_get inputs t other raw k) ∙ get_or_from_slice_get inputs t raw raw h

-- ---- the pairs that are listed, and so the members, are determined
abbrev raw_of : ℕ × ℕ → RawPair
raw_of pair = record { a = pos pair.0; b = pos pair.1 }

abbrev tail : List RawPair → List RawPair
tail [] = []
tail (r ∷ rs) = rs

abbrev head : List RawPair → RawPair
head rs = slice_index_or rs 0 (record { a = pos 0; b = pos 0 })

abbrev number_pair : ℕ → ℕ → ℕ × ℕ
number_pair a b = (a, b)

same_listed : (ps qs : List (ℕ × ℕ)) → map raw_of ps ≡ map raw_of qs → ps ≡ qs
same_listed [] [] e = refl
same_listed [] (q ∷ qs) e = absurd (let k = ap length e in omega arith)
same_listed (p ∷ ps) [] e = absurd (let k = ap length e in omega arith)
same_listed (p ∷ ps) (q ∷ qs) e =
    ap₂ ◌∷◌ (ap₂ number_pair (ap (λ rs. unsigned_abs (head rs).a) e) (ap (λ rs. unsigned_abs (head rs).b) e)) (same_listed ps qs (ap tail e))

members_same : (points : List Point) (pairs : List (ℕ × ℕ)) (es fs : List Edge) → IsCompleted points pairs es → IsCompleted points pairs fs → es ≡ fs
members_same points pairs es fs E F = same_members es fs E.ascending F.ascending (λ e. (λ h. (F.members e).1 ((E.members e).0 h), λ h. (E.members e).1 ((F.members e).0 h)))

completed_same : (points : List Point) (raw : List RawPair) (es fs : List Edge) → IsCompletedInput points raw es → IsCompletedInput points raw fs → es ≡ fs
completed_same points raw es fs (ps, hp, E) (qs, hq, F) = members_same points qs es fs (subst (λ rs. IsCompleted points rs es) (same_listed ps qs (sym hp ∙ hq)) E) F

module _ (points : List Point) (inputs : List (List RawPair)) (t : ℕ) (raw : List RawPair) (at : slice_get inputs t ≡ Some raw) (clear : AreClear points inputs 9) (before : (s : ℕ) → s < t → IsFaultless points inputs s) where
  -- ---- pairs
  there : (s p : ℕ) (q : RawPair) → s ≡ t → IsPairAt inputs s p q → (p < length raw) × (pair_at raw p ≡ q)
  there s p q i (other, h, k) = let found = subst (λ rs. slice_get rs p ≡ Some q) (same_place inputs t raw other at (subst (λ u. slice_get inputs u ≡ Some other) i h)) k in (slice_get_within raw p q found, get_or_from_slice_get raw p q (record { a = pos 0; b = pos 0 }) found)

  here : (p : ℕ) → p < length raw → IsPairAt inputs t p (pair_at raw p)
  here p l = (raw, at, slice_get-get_or raw p (record { a = pos 0; b = pos 0 }) l)

  bad_there : (s p : ℕ) → s ≡ t → HoldsOfShape points inputs (BadVertex s p) → (p < length raw) × HasBadVertex points raw p
  bad_there s p i (q, h, bad) = let k = there s p q i h in (k.0, subst (λ (r : RawPair). ¬ NamesPoint points r.a ⊎ ¬ NamesPoint points r.b) (sym k.1) bad)

  loop_there : (s p : ℕ) → s ≡ t → HoldsOfShape points inputs (Loop s p) → (p < length raw) × IsLoop raw p
  loop_there s p i (q, h, e) = let k = there s p q i h in (k.0, subst (λ (r : RawPair). r.a ≡ r.b) (sym k.1) e)

  pub first_bad : (p : ℕ) → IsLeast (length raw) (HasBadVertex points raw) p → NoneBelow points inputs t clear before 9 → IsFirstOfShape points inputs (BadVertex t p)
  first_bad p L below = first_in points inputs t clear before (BadVertex t p) 9 (p ∷ []) refl (pair_at raw p, here p L.below, L.holds) below same
    where
      same : (c : Bad) → rank_of c ≡ 9 → input_of c ≡ t → kind_of c ≡ 9 → Less_than (fields_of c) (p ∷ []) → ¬ HoldsOfShape points inputs c
      same (BadVertex s q) r i k l h = L.least q (lex_one q p l) (bad_there s q i h).1
      same _ r i k l h = absurd (omega arith)

  pub no_bad : ArePairs points raw → NoKind points inputs t clear before 9
  no_bad P (BadVertex s q) r i k h = by_cases (bad_there s q i h).0 (bad_there s q i h).1
    where
      by_cases : q < length raw → HasBadVertex points raw q → ⊥
      by_cases l (inl n) = n (P.first q l)
      by_cases l (inr n) = n (P.second q l)
  no_bad P _ r i k h = absurd (omega arith)

  pub first_loop : (p : ℕ) → IsLeast (length raw) (IsLoop raw) p → NoneBelow points inputs t clear before 10 → IsFirstOfShape points inputs (Loop t p)
  first_loop p L below = first_in points inputs t clear before (Loop t p) 10 (p ∷ []) refl (pair_at raw p, here p L.below, L.holds) below same
    where
      same : (c : Bad) → rank_of c ≡ 9 → input_of c ≡ t → kind_of c ≡ 10 → Less_than (fields_of c) (p ∷ []) → ¬ HoldsOfShape points inputs c
      same (Loop s q) r i k l h = L.least q (lex_one q p l) (loop_there s q i h).1
      same _ r i k l h = absurd (omega arith)

  pub no_loop : IsNone (length raw) (IsLoop raw) → NoKind points inputs t clear before 10
  no_loop N (Loop s q) r i k h = N q (loop_there s q i h).0 (loop_there s q i h).1
  no_loop N _ r i k h = absurd (omega arith)

  -- ---- members
  module _ (edges : List Edge) (is : IsCompletedInput points raw edges) where
    members : HasMembers points inputs t edges
    members = (raw, at, is)

    same_edges : (s : ℕ) (es : List Edge) → s ≡ t → HasMembers points inputs s es → es ≡ edges
    same_edges s es i (other, h, k) = completed_same points raw es edges (subst (λ rs. IsCompletedInput points rs es) (same_place inputs t raw other at (subst (λ u. slice_get inputs u ≡ Some other) i h)) k) is

    blocked_there : (s : ℕ) (f : Edge) (q : ℕ) → s ≡ t → HoldsOfShape points inputs (Blocked s f q) → Contains edges f × (q < length points) × Separates points f.0 f.1 q
    blocked_there s f q i (es, m, h, l, b) = (subst (λ fs. Contains fs f) (same_edges s es i m) h, l, b)

    crossing_there : (s : ℕ) (f g : Edge) → s ≡ t → HoldsOfShape points inputs (Crossing s f g) → Contains edges f × Contains edges g × CrossesLater points f g
    crossing_there s f g i (es, m, h, k, b, x) = (subst (λ fs. Contains fs f) (same_edges s es i m) h, subst (λ fs. Contains fs g) (same_edges s es i m) k, (b, x))

    lone_there : (s p : ℕ) → s ≡ t → HoldsOfShape points inputs (LonePoint s p) → (p < length points) × ((q : ℕ) → ¬ AreJoined edges p q)
    lone_there s p i (es, m, l, n) = (l, subst (λ fs. (q : ℕ) → ¬ AreJoined fs p q) (same_edges s es i m) n)

    open_there : (s : ℕ) (f : Edge) → s ≡ t → HoldsOfShape points inputs (OpenSide s f) → Contains edges f × HasOpenSide points edges f
    open_there s f i (es, m, h, o) = (subst (λ fs. Contains fs f) (same_edges s es i m) h, subst (λ fs. HasOpenSide points fs f) (same_edges s es i m) o)

    pub first_blocked : (e : Edge) (q : ℕ) → IsFirstEdge edges (IsBlocked points) e → IsLeast (length points) (Separates points e.0 e.1) q → NoneBelow points inputs t clear before 11 → IsFirstOfShape points inputs (Blocked t e q)
    first_blocked e q E L below = first_in points inputs t clear before (Blocked t e q) 11 (e.0 ∷ e.1 ∷ q ∷ []) refl (edges, members, E.member, L.below, L.holds) below same
      where
        by_order : (f : Edge) (r : ℕ) → IsBefore f e ⊎ ((f ≡ e) × Less_than (r ∷ []) (q ∷ [])) → Contains edges f → r < length points → Separates points f.0 f.1 r → ⊥
        by_order f r (inl b) h l s = E.first f h b (r, l, s)
        by_order f r (inr (same_edge, b)) h l s = L.least r (lex_one r q b) (subst (λ (g : Edge). Separates points g.0 g.1 r) same_edge s)

        same : (c : Bad) → rank_of c ≡ 9 → input_of c ≡ t → kind_of c ≡ 11 → Less_than (fields_of c) (e.0 ∷ e.1 ∷ q ∷ []) → ¬ HoldsOfShape points inputs c
        same (Blocked s f r) k i m l h = by_order f r (lex_edge f e (r ∷ []) (q ∷ []) l) (blocked_there s f r i h).0 (blocked_there s f r i h).1 (blocked_there s f r i h).2
        same _ r i k l h = absurd (omega arith)

    pub no_blocked : IsNoEdge edges (IsBlocked points) → NoKind points inputs t clear before 11
    no_blocked N (Blocked s f q) r i k h = N f (blocked_there s f q i h).0 (q, (blocked_there s f q i h).1, (blocked_there s f q i h).2)
    no_blocked N _ r i k h = absurd (omega arith)

    pub first_crossing : (e f : Edge) → IsFirstEdge edges (IsCrossed points edges) e → IsFirstEdge edges (CrossesLater points e) f → NoneBelow points inputs t clear before 12 → IsFirstOfShape points inputs (Crossing t e f)
    first_crossing e f E F below = first_in points inputs t clear before (Crossing t e f) 12 (e.0 ∷ e.1 ∷ f.0 ∷ f.1 ∷ []) refl (edges, members, E.member, F.member, F.holds.0, F.holds.1) below same
      where
        by_second : (d g : Edge) → IsBefore g f ⊎ ((g ≡ f) × Less_than [] []) → d ≡ e → Contains edges g → CrossesLater points d g → ⊥
        by_second d g (inl b) same_edge k x = F.first g k b (subst (λ u. CrossesLater points u g) same_edge x)
        by_second d g (inr (_, b)) same_edge k x = not_less [] b

        by_order : (d g : Edge) → IsBefore d e ⊎ ((d ≡ e) × Less_than (g.0 ∷ g.1 ∷ []) (f.0 ∷ f.1 ∷ [])) → Contains edges d → Contains edges g → CrossesLater points d g → ⊥
        by_order d g (inl b) h k x = E.first d h b (g, k, x)
        by_order d g (inr (same_edge, b)) h k x = by_second d g (lex_edge g f [] [] b) same_edge k x

        same : (c : Bad) → rank_of c ≡ 9 → input_of c ≡ t → kind_of c ≡ 12 → Less_than (fields_of c) (e.0 ∷ e.1 ∷ f.0 ∷ f.1 ∷ []) → ¬ HoldsOfShape points inputs c
        same (Crossing s d g) k i m l h = by_order d g (lex_edge d e (g.0 ∷ g.1 ∷ []) (f.0 ∷ f.1 ∷ []) l) (crossing_there s d g i h).0 (crossing_there s d g i h).1 (crossing_there s d g i h).2
        same _ r i k l h = absurd (omega arith)

    pub no_crossing : IsNoEdge edges (IsCrossed points edges) → NoKind points inputs t clear before 12
    no_crossing N (Crossing s f g) r i k h = N f (crossing_there s f g i h).0 (g, (crossing_there s f g i h).1, (crossing_there s f g i h).2)
    no_crossing N _ r i k h = absurd (omega arith)

    pub first_lone : (p : ℕ) → IsLeast (length points) (λ p. (q : ℕ) → ¬ AreJoined edges p q) p → NoneBelow points inputs t clear before 13 → IsFirstOfShape points inputs (LonePoint t p)
    first_lone p L below = first_in points inputs t clear before (LonePoint t p) 13 (p ∷ []) refl (edges, members, L.below, L.holds) below same
      where
        same : (c : Bad) → rank_of c ≡ 9 → input_of c ≡ t → kind_of c ≡ 13 → Less_than (fields_of c) (p ∷ []) → ¬ HoldsOfShape points inputs c
        same (LonePoint s q) r i k l h = L.least q (lex_one q p l) (lone_there s q i h).1
        same _ r i k l h = absurd (omega arith)

    pub no_lone : ((p : ℕ) → p < length points → IsEnd edges p) → NoKind points inputs t clear before 13
    no_lone N (LonePoint s p) r i k h = (lone_there s p i h).1 (N p (lone_there s p i h).0).0 (N p (lone_there s p i h).0).1
    no_lone N _ r i k h = absurd (omega arith)

    pub first_open : (e : Edge) → IsFirstEdge edges (HasOpenSide points edges) e → NoneBelow points inputs t clear before 14 → IsFirstOfShape points inputs (OpenSide t e)
    first_open e E below = first_in points inputs t clear before (OpenSide t e) 14 (e.0 ∷ e.1 ∷ []) refl (edges, members, E.member, E.holds) below same
      where
        by_order : (f : Edge) → IsBefore f e ⊎ ((f ≡ e) × Less_than [] []) → Contains edges f → HasOpenSide points edges f → ⊥
        by_order f (inl b) h o = E.first f h b o
        by_order f (inr (_, b)) h o = not_less [] b

        same : (c : Bad) → rank_of c ≡ 9 → input_of c ≡ t → kind_of c ≡ 14 → Less_than (fields_of c) (e.0 ∷ e.1 ∷ []) → ¬ HoldsOfShape points inputs c
        same (OpenSide s f) r i k l h = by_order f (lex_edge f e [] [] l) (open_there s f i h).0 (open_there s f i h).1
        same _ r i k l h = absurd (omega arith)

    pub no_open : AreClosed points edges → NoKind points inputs t clear before 14
    no_open N (OpenSide s f) r i k h = not_open points edges f (N f (open_there s f i h).0) (open_there s f i h).1
    no_open N _ r i k h = absurd (omega arith)

    -- ---- what is answered at each step
    below_11 : ArePairs points raw → IsNone (length raw) (IsLoop raw) → NoneBelow points inputs t clear before 11
    below_11 P N = none_next points inputs t clear before 10 (none_next points inputs t clear before 9 (none_at_first points inputs t clear before) (no_bad P)) (no_loop N)

    pub blocked_answer : ArePairs points raw → IsNone (length raw) (IsLoop raw) → (e : Edge) (q : ℕ) → IsFirstEdge edges (IsBlocked points) e → IsLeast (length points) (Separates points e.0 e.1) q → IsFirstOfShape points inputs (Blocked t e q)
    blocked_answer P N e q E L = first_blocked e q E L (below_11 P N)

    below_12 : ArePairs points raw → IsNone (length raw) (IsLoop raw) → IsNoEdge edges (IsBlocked points) → NoneBelow points inputs t clear before 12
    below_12 P N B = none_next points inputs t clear before 11 (below_11 P N) (no_blocked B)

    pub crossing_answer : ArePairs points raw → IsNone (length raw) (IsLoop raw) → IsNoEdge edges (IsBlocked points) → (e f : Edge) → IsFirstEdge edges (IsCrossed points edges) e → IsFirstEdge edges (CrossesLater points e) f → IsFirstOfShape points inputs (Crossing t e f)
    crossing_answer P N B e f E F = first_crossing e f E F (below_12 P N B)

    below_13 : ArePairs points raw → IsNone (length raw) (IsLoop raw) → IsNoEdge edges (IsBlocked points) → IsNoEdge edges (IsCrossed points edges) → NoneBelow points inputs t clear before 13
    below_13 P N B C = none_next points inputs t clear before 12 (below_12 P N B) (no_crossing C)

    pub lone_answer : ArePairs points raw → IsNone (length raw) (IsLoop raw) → IsNoEdge edges (IsBlocked points) → IsNoEdge edges (IsCrossed points edges) → (p : ℕ) → IsLeast (length points) (λ p. (q : ℕ) → ¬ AreJoined edges p q) p → IsFirstOfShape points inputs (LonePoint t p)
    lone_answer P N B C p L = first_lone p L (below_13 P N B C)

    below_14 : ArePairs points raw → IsNone (length raw) (IsLoop raw) → IsNoEdge edges (IsBlocked points) → IsNoEdge edges (IsCrossed points edges) → ((p : ℕ) → p < length points → IsEnd edges p) → NoneBelow points inputs t clear before 14
    below_14 P N B C ends = none_next points inputs t clear before 13 (below_13 P N B C) (no_lone ends)

    pub open_answer : ArePairs points raw → IsNone (length raw) (IsLoop raw) → IsNoEdge edges (IsBlocked points) → IsNoEdge edges (IsCrossed points edges) → ((p : ℕ) → p < length points → IsEnd edges p) → (e : Edge) → IsFirstEdge edges (HasOpenSide points edges) e → IsFirstOfShape points inputs (OpenSide t e)
    open_answer P N B C ends e E = first_open e E (below_14 P N B C ends)

    pub input_answer : ArePairs points raw → IsNone (length raw) (IsLoop raw) → AreEdges points edges → IsNoEdge edges (IsBlocked points) → IsNoEdge edges (IsCrossed points edges) → ((p : ℕ) → p < length points → IsEnd edges p) → AreClosed points edges → IsInput points inputs t edges
    input_answer P N E B C ends closed = record {
      completed = λ other h. subst (λ rs. IsCompletedInput points rs edges) (sym (same_place inputs t raw other at h)) is;
      triangulation = whole points edges is.2.ascending E B C ends closed;
      faultless = faultless points inputs t clear before (none_next points inputs t clear before 14 (below_14 P N B C ends) (no_open closed));
    }

    -- a triangulation has none of these faults
    pub quick_answer : ArePairs points raw → IsNone (length raw) (IsLoop raw) → AreEdges points edges → IsTriangulation points edges → IsInput points inputs t edges
    quick_answer P N E I = input_answer P N E (λ e h b. (I.segments e h).clear b.0 b.1 b.2) (λ e h x. I.planar e x.0 h x.1 x.2.1) I.ends (λ e h. (at_member e h, back_member e h))
      where
        joined : (e : Edge) → Contains edges e → AreJoined edges e.0 e.1
        joined e h = subst (Contains edges) (sym (edge_of e (E.low_first e h))) h

        at_member : (e : Edge) → Contains edges e → IsClosed points edges e.0 e.1
        at_member e h = λ p l left. I.sides e.0 e.1 p (joined e h) l left

        back_member : (e : Edge) → Contains edges e → IsClosed points edges e.1 e.0
        back_member e h = λ p l left. I.sides e.1 e.0 p (subst (Contains edges) (edge_swap e.0 e.1) (joined e h)) l left

  pub bad_answer : (p : ℕ) → IsLeast (length raw) (HasBadVertex points raw) p → IsFirstOfShape points inputs (BadVertex t p)
  bad_answer p L = first_bad p L (none_at_first points inputs t clear before)

  pub loop_answer : ArePairs points raw → (p : ℕ) → IsLeast (length raw) (IsLoop raw) p → IsFirstOfShape points inputs (Loop t p)
  loop_answer P p L = first_loop p L (none_next points inputs t clear before 9 (none_at_first points inputs t clear before) (no_bad P))
