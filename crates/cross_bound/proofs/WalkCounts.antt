-- A walk from the start of a segment to its end is as long as the number of members that cross it.
use Rattle.std.proofs.Common.{◌≡◌, ◌≢◌, ◌⊎◌, inl, inr, ℕ, suc, ◌≤◌, true, cond, List, [], ◌∷◌, length, map, filter, Contains, refl, sym, ap, ap₂, ◌∙◌, subst, subst₂, arith}
use Rattle.std.specs.Prelude.{count_by}
use Rattle.std.proofs.lemmas.List.{length-map}
use Rattle.std.proofs.lemmas.List.Sums.{length-filter, sum_by-cons}
use Rattle.geo_orient.specs.declared.Point.{Point}
use Rattle.edge_table.specs.declared.edge.Edge.{Edge}
use Rattle.edge_table.specs.Edges.{edge}
use Rattle.edge_table.proofs.Edges.{edge_of, edge_swap, contains_cases, contains_here, contains_later}
use Rattle.tri_theory.specs.Points.{ArePlaced, AreApart}
use Rattle.tri_theory.specs.Triangulations.{AreJoined, Crosses, IsSegment, IsTriangulation}
use Rattle.tri_theory.specs.Crossings.{crosses, crossings}
use Rattle.tri_theory.proofs.Plane.{Plane, left, not_both}
use Rattle.tri_theory.proofs.Net.{Tri, Net}
use Rattle.tri_theory.proofs.Flip.{Same, turn_tri, one_apex, never_left}
use Rattle.tri_theory.proofs.Edges.{edge_same, cross_to, cross_from, sides_agree}
use Rattle.tri_theory.proofs.Lists.{plane, net_of}
use Rattle.crossing_law.proofs.Counts.{cross_decided, AreDistinct, ascending_distinct, count_images, filter_keeps}
use Rattle.crossing_law.proofs.Pass.{Over, Leaves, pass}
use Rattle.cross_bound.proofs.Walking as walking
use Rattle.cross_bound.proofs.Walking.{Way, way_here, way_later, way_cases, head_crossed, later_ahead, no_return, extend, all_passed}

abbrev pub edge_at : Way → Edge
edge_at w = edge w.0 w.1

-- the number of elements is that of those that pass a test that all pass
count_all : (es : List Edge) → count_by (λ e. true) es ≡ length es
count_all [] = refl
count_all (e ∷ es) = (let h = sum_by-cons (λ e. cond true 1 0) e es in let k = count_all es in omega (arith, h, k))

in_map : (g : Edge) (ws : List Way) → Contains (map edge_at ws) g → (k : Way) × Contains ws k × (edge_at k ≡ g)
in_map g [] (k, l, h) = absurd (omega arith)
in_map g (w ∷ ws) h = by_cases (contains_cases g (edge_at w) (map edge_at ws) h) (λ i. in_map g ws i)
  where
    by_cases : (edge_at w ≡ g) ⊎ Contains (map edge_at ws) g → (Contains (map edge_at ws) g → (k : Way) × Contains ws k × (edge_at k ≡ g)) → (k : Way) × Contains (w ∷ ws) k × (edge_at k ≡ g)
    by_cases (inl e) _ = (w, way_here w w ws refl, e)
    by_cases (inr i) again = deeper (again i)
      where
        deeper : (k : Way) × Contains ws k × (edge_at k ≡ g) → (k : Way) × Contains (w ∷ ws) k × (edge_at k ≡ g)
        deeper (k, j, e) = (k, way_later w k ws j, e)

mapped : (k : Way) (ws : List Way) → Contains ws k → Contains (map edge_at ws) (edge_at k)
mapped k [] (i, l, h) = absurd (omega arith)
mapped k (w ∷ ws) h = by_cases (way_cases w k ws h) (λ i. mapped k ws i)
  where
    by_cases : (w ≡ k) ⊎ Contains ws k → (Contains ws k → Contains (map edge_at ws) (edge_at k)) → Contains (edge_at w ∷ map edge_at ws) (edge_at k)
    by_cases (inl e) _ = contains_here (edge_at k) (edge_at w) (map edge_at ws) (ap edge_at e)
    by_cases (inr i) again = contains_later (edge_at k) (edge_at w) (map edge_at ws) (again i)

module _ (points : List Point) (P : ArePlaced points) (T : List Edge) (I : IsTriangulation points T) (e : Edge) (s : IsSegment points e) where
  abbrev S : Plane
  S = plane points P

  abbrev J : ℕ → ℕ → Type 0
  J = AreJoined T

  abbrev N : Net S J
  N = net_of points P T I

  abbrev pub Crossed : Way → Type 0
  Crossed w = Over S J e.0 e.1 w.0 w.1

  abbrev pub Then : Way → Way → Type 0
  Then w m = walking.Then S J N e.0 e.1 s.in_range s.clear w m

  abbrev pub Path : List Way → Type 0
  Path ws = walking.Path S J N e.0 e.1 s.in_range s.clear ws

  abbrev pub Ends : List Way → Type 0
  Ends ws = walking.Ends S J N e.0 e.1 s.in_range s.clear ws

  crosses_way : (w : Way) → Crossed w → crosses points e (edge_at w) ≡ true
  crosses_way w c =
      (cross_decided points e (edge_at w)).1 (subst (λ g. Crosses points g (edge_at w)) (edge_of e s.low_first) (cross_to points e.0 e.1 w.0 w.1 (inl (c.on_left, c.on_right), inr (c.behind, c.before))))

  way_of : (f : Edge) → Contains T f → crosses points e f ≡ true → (w : Way) × Crossed w × (edge_at w ≡ f)
  way_of f h t = by_sides (cross_from points e.0 e.1 f.0 f.1 (subst₂ (λ g k. Crosses points g k) (sym (edge_of e s.low_first)) (sym f_of) ((cross_decided points e f).0 t)))
    where
      f_of : edge f.0 f.1 ≡ f
      f_of = let g = I.segments f h in edge_of f g.low_first

      joined : J f.0 f.1
      joined = subst (Contains T) (sym f_of) h

      by_sides : AreApart points e.0 e.1 f.0 f.1 × AreApart points f.0 f.1 e.0 e.1 → (w : Way) × Crossed w × (edge_at w ≡ f)
      by_sides (inl h, inl g) = absurd (sides_agree S e.0 e.1 f.0 f.1 h.0 h.1 g.0 g.1)
      by_sides (inl h, inr g) = ((f.0, f.1), record { joined = joined; on_left = h.0; on_right = h.1; before = g.1; behind = g.0 }, f_of)
      by_sides (inr h, inl g) = ((f.1, f.0), record { joined = N.symm joined; on_left = h.1; on_right = h.0; before = g.1; behind = g.0 }, edge_swap f.1 f.0 ∙ f_of)
      by_sides (inr h, inr g) = absurd (sides_agree S e.0 e.1 f.1 f.0 h.1 h.0 g.0 g.1)

  same_way : (w m : Way) → Crossed w → Crossed m → edge_at w ≡ edge_at m → w ≡ m
  same_way (x, y) (p, q) c d i = by_same (edge_same p q x y i)
    where
      by_same : Same p q x y → (let k : Way = (x, y) in let j : Way = (p, q) in k ≡ j)
      by_same (inl h) = ap₂ (λ a b. let k : Way = (a, b) in k) h.0 h.1
      by_same (inr h) = absurd (not_both S c.on_left (subst (λ k. left S e.1 e.0 k) (sym h.0) d.on_right))

  distinct : (w : Way) (rest : List Way) → Path (w ∷ rest) → AreDistinct (map edge_at (w ∷ rest))
  distinct w [] p = (λ (k, l, h). absurd (omega arith), tt)
  distinct w (m ∷ rest) p = (λ h. again (in_map (edge_at w) (m ∷ rest) h), distinct m rest p.2)
    where
      again : (k : Way) × Contains (m ∷ rest) k × (edge_at k ≡ edge_at w) → ⊥
      again (k, i, g) =
          let c = (later_ahead S J N e.0 e.1 s.in_range s.clear w (m ∷ rest) p k i).0 in
          no_return S J N e.0 e.1 s.in_range s.clear w (m ∷ rest) p (subst (Contains (m ∷ rest)) (same_way k w c p.0 g) i)

  all_crossed : (w : Way) (rest : List Way) → Path (w ∷ rest) → (k : Way) → Contains (w ∷ rest) k → Crossed k
  all_crossed w rest p k h = by_cases (way_cases w k rest h)
    where
      by_cases : (w ≡ k) ⊎ Contains rest k → Crossed k
      by_cases (inl g) = subst Crossed g (head_crossed S J N e.0 e.1 s.in_range s.clear w rest p)
      by_cases (inr i) = (later_ahead S J N e.0 e.1 s.in_range s.clear w rest p k i).0

  -- no walk is longer than the number of crossings
  short : (w : Way) (rest : List Way) → Path (w ∷ rest) → length (w ∷ rest) ≤ crossings points T e
  short w rest p = bounded (length (w ∷ rest)) (length (map edge_at (w ∷ rest))) (count_by (λ f. true) (map edge_at (w ∷ rest))) (length (filter (λ f. crosses points e f) T)) (crossings points T e)
      (length-map (w ∷ rest) edge_at) (count_all (map edge_at (w ∷ rest)))
      (count_images (λ f g. f ≡ g) (λ f g k i j. i ∙ sym j) (λ f. true) (map edge_at (w ∷ rest)) (filter (λ f. crosses points e f) T) (distinct w rest p) (λ f h t. image f (in_map f (w ∷ rest) h)))
      (length-filter (λ f. crosses points e f) T)
    where
      bounded : (a b c d k : ℕ) → b ≡ a → c ≡ b → c ≤ d → d ≡ k → a ≤ k
      bounded a b c d k f g h i = omega arith

      image : (f : Edge) → (k : Way) × Contains (w ∷ rest) k × (edge_at k ≡ f) → (g : Edge) × Contains (filter (λ f. crosses points e f) T) g × (f ≡ g)
      image f (k, i, g) = let c = all_crossed w rest p k i in (edge_at k, filter_keeps (λ f. crosses points e f) T (edge_at k) c.joined (crosses_way k c), sym g)

  -- so each leads on to the end
  to_end : (w : Way) → Crossed w → (rest : List Way) × Path (w ∷ rest) × Ends (w ∷ rest)
  to_end w c = by_cases (extend S J N e.0 e.1 s.in_range s.clear (crossings points T e) w c)
    where
      by_cases : ((rest : List Way) × Path (w ∷ rest) × Ends (w ∷ rest)) ⊎ ((rest : List Way) × Path (w ∷ rest) × (length rest ≡ crossings points T e)) → (rest : List Way) × Path (w ∷ rest) × Ends (w ∷ rest)
      by_cases (inl h) = h
      by_cases (inr (rest, p, l)) = absurd (let m = short w rest p in omega (arith, m, l))

  -- and one from the start passes all
  pub walk_length : (f : Way) (rest : List Way) → Path (f ∷ rest) → Ends (f ∷ rest) → Tri S J f.1 f.0 e.0 → length (f ∷ rest) ≡ crossings points T e
  walk_length f rest p g r = equal (short f rest p)
      (count_images (λ a b. a ≡ b) (λ a b k i j. i ∙ sym j) (λ a. crosses points e a) T (map edge_at (f ∷ rest)) (ascending_distinct T I.ascending) (λ a h t. image a (way_of a h t)))
    where
      equal : length (f ∷ rest) ≤ crossings points T e → crossings points T e ≤ length (map edge_at (f ∷ rest)) → length (f ∷ rest) ≡ crossings points T e
      equal h k = omega (arith, h, k, length-map (f ∷ rest) edge_at)

      image : (a : Edge) → (w : Way) × Crossed w × (edge_at w ≡ a) → (b : Edge) × Contains (map edge_at (f ∷ rest)) b × (a ≡ b)
      image a (w, c, i) = (edge_at w, mapped w (f ∷ rest) (passed (to_end w c)), sym i)
        where
          passed : (more : List Way) × Path (w ∷ more) × Ends (w ∷ more) → Contains (f ∷ rest) w
          passed (more, q, h) = all_passed S J N e.0 e.1 s.in_range s.clear f rest p g r w more q h

  -- the walk from the first way
  pub whole_walk : (f : Way) → Crossed f → Tri S J f.1 f.0 e.0 → (rest : List Way) × Path (f ∷ rest) × Ends (f ∷ rest) × (suc (length rest) ≡ crossings points T e)
  whole_walk f c r = by_walk (to_end f c)
    where
      by_walk : (rest : List Way) × Path (f ∷ rest) × Ends (f ∷ rest) → (rest : List Way) × Path (f ∷ rest) × Ends (f ∷ rest) × (suc (length rest) ≡ crossings points T e)
      by_walk (rest, p, g) = (rest, p, g, walk_length f rest p g r)

  pub first_crossed : (w : Way) (rest : List Way) → Path (w ∷ rest) → Crossed w
  first_crossed w rest p = head_crossed S J N e.0 e.1 s.in_range s.clear w rest p

  -- ---- one step of the walk
  apex_after : (w m : Way) → Then w m → (Tri S J w.0 w.1 m.0 × (m.1 ≡ w.1)) ⊎ (Tri S J w.0 w.1 m.1 × (m.0 ≡ w.0))
  apex_after (x, y) (p, q) (inl (i, t)) = inl (turn_tri S J (turn_tri S J (subst (λ k. Tri S J k p x) i t)), i)
  apex_after (x, y) (p, q) (inr (i, t)) = inr (turn_tri S J (subst (λ k. Tri S J q k y) i t), i)

  -- the walk ends where the segment does
  pub at_end : (w : Way) (rest : List Way) → Path (w ∷ rest) → Tri S J w.0 w.1 e.1 → rest ≡ []
  at_end w [] p t = refl
  at_end w (m ∷ rest) p t = absurd (by_apex (apex_after w m p.1))
    where
      c : Crossed m
      c = head_crossed S J N e.0 e.1 s.in_range s.clear m rest p.2

      by_apex : (Tri S J w.0 w.1 m.0 × (m.1 ≡ w.1)) ⊎ (Tri S J w.0 w.1 m.1 × (m.0 ≡ w.0)) → ⊥
      by_apex (inl h) = (never_left S e.0 e.1).1 (subst (λ k. left S e.0 e.1 k) (one_apex S J N w.0 w.1 m.0 e.1 h.0 t) c.on_left)
      by_apex (inr h) = (never_left S e.1 e.0).2 (subst (λ k. left S e.1 e.0 k) (one_apex S J N w.0 w.1 m.1 e.1 h.0 t) c.on_right)

  next_unique : (w k m : Way) → Crossed k → Crossed m → Then w k → Then w m → k ≡ m
  next_unique w k m c d t r = by_apex (apex_after w k t) (apex_after w m r)
    where
      pair : k.0 ≡ m.0 → k.1 ≡ m.1 → k ≡ m
      pair i j = ap₂ (λ a b. let h : Way = (a, b) in h) i j

      by_apex : (Tri S J w.0 w.1 k.0 × (k.1 ≡ w.1)) ⊎ (Tri S J w.0 w.1 k.1 × (k.0 ≡ w.0)) → (Tri S J w.0 w.1 m.0 × (m.1 ≡ w.1)) ⊎ (Tri S J w.0 w.1 m.1 × (m.0 ≡ w.0)) → k ≡ m
      by_apex (inl h) (inl g) = pair (one_apex S J N w.0 w.1 k.0 m.0 h.0 g.0) (h.1 ∙ sym g.1)
      by_apex (inr h) (inr g) = pair (h.1 ∙ sym g.1) (one_apex S J N w.0 w.1 k.1 m.1 h.0 g.0)
      by_apex (inl h) (inr g) = absurd (not_both S c.on_left (subst (λ z. left S e.1 e.0 z) (sym (one_apex S J N w.0 w.1 k.0 m.1 h.0 g.0)) d.on_right))
      by_apex (inr h) (inl g) = absurd (not_both S d.on_left (subst (λ z. left S e.1 e.0 z) (one_apex S J N w.0 w.1 k.1 m.0 h.0 g.0) c.on_right))

  -- and goes on to the next way
  pub at_step : (w m : Way) (rest : List Way) → Path (w ∷ rest) → Ends (w ∷ rest) → Crossed m → Then w m → (more : List Way) × Path (m ∷ more) × Ends (m ∷ more) × (length rest ≡ suc (length more))
  at_step w m [] p g c t = absurd (ended (at_end w (m ∷ []) (p, t, c) g))
    where
      ended : (let k : List Way = m ∷ [] in k ≡ []) → ⊥
      ended i = cc
  at_step w m (k ∷ rest) p g c t = (rest, subst (λ j. Path (j ∷ rest)) same p.2, subst (λ j. Ends (j ∷ rest)) same g, refl)
    where
      same : k ≡ m
      same = next_unique w k m (head_crossed S J N e.0 e.1 s.in_range s.clear k rest p.2) c p.1 t

  -- the next way, by the third corner of the triangle ahead
  pub leaves : (x y z : ℕ) → Crossed (x, y) → Tri S J x y z → e.1 ≢ z → Leaves S e.0 e.1 x y z
  leaves x y z c t ne = by_pass (pass S e.0 e.1 x y z t.turns c.on_left c.on_right c.before c.behind (s.clear z (N.in_range t.bc)) (inr (t.empty e.1 s.in_range not_x not_y ne)))
    where
      not_x : e.1 ≢ x
      not_x i = (never_left S e.0 e.1).1 (subst (λ k. left S e.0 e.1 k) (sym i) c.on_left)

      not_y : e.1 ≢ y
      not_y i = (never_left S e.1 e.0).2 (subst (λ k. left S e.1 e.0 k) (sym i) c.on_right)

      by_pass : (e.1 ≡ z) ⊎ Leaves S e.0 e.1 x y z → Leaves S e.0 e.1 x y z
      by_pass (inl i) = absurd (ne i)
      by_pass (inr h) = h

  pub on_left : (x y z : ℕ) → Crossed (x, y) → Tri S J x y z → e.1 ≢ z → left S e.0 e.1 z → Crossed (z, y) × Then (x, y) (z, y)
  on_left x y z c t ne h = by_sides (leaves x y z c t ne)
    where
      by_sides : Leaves S e.0 e.1 x y z → Crossed (z, y) × Then (x, y) (z, y)
      by_sides (inl k) = (record { joined = N.symm t.bc; on_left = k.0; on_right = c.on_right; before = k.1; behind = k.2 }, inl (refl, turn_tri S J t))
      by_sides (inr k) = absurd (not_both S h k.0)

  pub on_right : (x y z : ℕ) → Crossed (x, y) → Tri S J x y z → e.1 ≢ z → ¬ left S e.0 e.1 z → Crossed (x, z) × Then (x, y) (x, z)
  on_right x y z c t ne h = by_sides (leaves x y z c t ne)
    where
      by_sides : Leaves S e.0 e.1 x y z → Crossed (x, z) × Then (x, y) (x, z)
      by_sides (inl k) = absurd (h k.0)
      by_sides (inr k) = (record { joined = N.symm t.ca; on_left = c.on_left; on_right = k.0; before = k.1; behind = k.2 }, inr (refl, turn_tri S J (turn_tri S J t)))
