-- A turned diagonal leads from a faithful mesh to a faithful mesh.
use Rattle.std.proofs.Common.{◌≡◌, ◌≢◌, ◌∙◌, ◌⊎◌, inl, inr, ℕ, ◌<◌, List, length, Option, None, Some, Contains, refl, sym, ap, subst, subst₂, arith}
use native.Mathlib.Decide.{dec_lt}
use Rattle.geo_orient.specs.declared.Point.{Point}
use Rattle.edge_table.specs.declared.edge.Edge.{Edge}
use Rattle.edge_table.specs.Edges.{edge}
use Rattle.edge_table.proofs.Edges.{pair, edge_of, edge_swap, dec_contains}
use Rattle.tri_theory.specs.Points.{IsLeft, ArePlaced}
use Rattle.tri_theory.specs.Triangulations.{AreJoined, IsEmptyTriangle, IsTriangulation}
use Rattle.tri_theory.specs.Flips.{IsQuad, IsFlip}
use Rattle.tri_theory.proofs.Net.{Net}
use Rattle.tri_theory.proofs.Flip.{Quad, Same, Swapped, b_not_d, half_turn, half_swapped, image_tri}
use Rattle.tri_theory.proofs.Single.{flip_triangulation}
use Rattle.tri_theory.proofs.Edges.{edge_same, same_edge, joined_swap}
use Rattle.tri_theory.proofs.Lists.{plane, tri_from, quad_to}
use Rattle.side_table.specs.declared.side.Side.{Side}
use Rattle.side_table.specs.Sides.{side, HasSide}
use Rattle.flip_mesh.specs.Sides.{IsElsewhere, CanTurn, IsTurned, edges_of}
use Rattle.flip_mesh.specs.Faithful.{IsFaithful}
use Rattle.flip_mesh.proofs.Places.{dec_way}
use Rattle.flip_mesh.proofs.Meshes.{edges_from, edges_to, edges_ascending, net, joined_side, side_joined}
use Rattle.flip_mesh.proofs.Quads.{same_apex, turn_triangle}

module _ (points : List Point) (old : List Side) (M : IsFaithful points old) (a b c d : ℕ) (q : IsQuad points (edges_of old) a b c d) where
  abbrev P : ArePlaced points
  P = M.triangulated.placed

  abbrev N : Net (plane points P) (AreJoined (edges_of old))
  N = net points old M

  abbrev Q : Quad (plane points P) (AreJoined (edges_of old)) a b c d
  Q = quad_to points P (edges_of old) a b c d q

  -- ---- what a turn asks
  not_joined : ¬ AreJoined (edges_of old) b d
  not_joined j = M.triangulated.triangulation.planar (edge a c) (edge b d) (joined_swap (edges_of old) c a q.right.ca) j q.crosses

  pub can_turn : CanTurn old a b c d
  can_turn = record {
    a_b = N.apart q.right.ab;
    b_c = N.apart q.right.bc;
    c_d = N.apart q.left.bc;
    d_a = N.apart q.left.ca;
    a_c = N.apart q.left.ab;
    b_d = b_not_d (plane points P) (AreJoined (edges_of old)) (AreJoined (edges_of old)) N Q;
    ac = joined_side points old M a c q.left.ab;
    ca = joined_side points old M c a q.right.ca;
    ab = joined_side points old M a b q.right.ab;
    bc = joined_side points old M b c q.right.bc;
    cd = joined_side points old M c d q.left.bc;
    da = joined_side points old M d a q.left.ca;
    no_bd = λ h. not_joined (side_joined points old M b d h);
    no_db = λ h. not_joined (joined_swap (edges_of old) d b (side_joined points old M d b h));
  }

  -- ---- what it gives
  module _ (l : a < c) (new : List Side) (t : IsTurned old new a b c d) where
    -- a way that was there is there, but for the old diagonal
    pub present : (u v : ℕ) → HasSide old u v → ¬ ((u ≡ a) × (v ≡ c)) → ¬ ((u ≡ c) × (v ≡ a)) → HasSide new u v
    present u v h ac ca = by_tests (dec_way s a b) (dec_way s b c) (dec_way s c d) (dec_way s d a)
      where
        s : Side
        s = side u v h.apex

        on : (x y : ℕ) (z : Option ℕ) → Contains new (side x y z) → (u ≡ x) × (v ≡ y) → HasSide new u v
        on x y z k w = subst₂ (λ m n. HasSide new m n) (sym w.0) (sym w.1) (record { apex = z; there = k })

        by_tests : Dec ((u ≡ a) × (v ≡ b)) → Dec ((u ≡ b) × (v ≡ c)) → Dec ((u ≡ c) × (v ≡ d)) → Dec ((u ≡ d) × (v ≡ a)) → HasSide new u v
        by_tests (yes w) _ _ _ = on a b (Some d) t.ab w
        by_tests (no _) (yes w) _ _ = on b c (Some d) t.bc w
        by_tests (no _) (no _) (yes w) _ = on c d (Some b) t.cd w
        by_tests (no _) (no _) (no _) (yes w) = on d a (Some b) t.da w
        by_tests (no n₁) (no n₂) (no n₃) (no n₄) = record { apex = h.apex; there = t.kept (side u v h.apex) h.there (record { ac = ac; ca = ca; ab = n₁; bc = n₂; cd = n₃; da = n₄ }) }

    image_there : Contains (edges_of new) (edge b d)
    image_there = by_order (dec_lt b d)
      where
        by_order : Dec (b < d) → Contains (edges_of new) (edge b d)
        by_order (yes k) = subst (Contains (edges_of new)) (sym (edge_of (b, d) k)) (edges_to new b d (Some a) t.bd k)
        by_order (no n) =
            let k : d < b = (let ne = can_turn.b_d in omega arith) in
            subst (Contains (edges_of new)) (sym (edge_swap b d ∙ edge_of (d, b) k)) (edges_to new d b (Some c) t.db k)

    members_from : (g : Edge) → Contains (edges_of new) g → (Contains (edges_of old) g × (g ≢ (a, c))) ⊎ (g ≡ edge b d)
    members_from g h = by_split (t.split (side g.0 g.1 p.0.apex) p.0.there)
      where
        p : HasSide new g.0 g.1 × (g.0 < g.1)
        p = edges_from new g h

        was : (x y : ℕ) (z : Option ℕ) → HasSide old x y → ¬ ((x ≡ a) × (y ≡ c)) → side g.0 g.1 p.0.apex ≡ side x y z → (Contains (edges_of old) g × (g ≢ (a, c))) ⊎ (g ≡ edge b d)
        was x y z k n e =
            let at : g ≡ (x, y) = ap (λ (s : Side). (s.from, s.to)) e in
            inl (
              subst (Contains (edges_of old)) (sym at) (edges_to old x y k.apex k.there (subst (λ (f : Edge). f.0 < f.1) at p.1)),
              λ i. n (ap (λ (f : Edge). f.0) (sym at ∙ i), ap (λ (f : Edge). f.1) (sym at ∙ i)),
            )

        by_split : (Contains old (side g.0 g.1 p.0.apex) × IsElsewhere (side g.0 g.1 p.0.apex) a b c d) ⊎ ((side g.0 g.1 p.0.apex ≡ side b d (Some a)) ⊎ ((side g.0 g.1 p.0.apex ≡ side d b (Some c)) ⊎ ((side g.0 g.1 p.0.apex ≡ side a b (Some d)) ⊎ ((side g.0 g.1 p.0.apex ≡ side b c (Some d)) ⊎ ((side g.0 g.1 p.0.apex ≡ side c d (Some b)) ⊎ (side g.0 g.1 p.0.apex ≡ side d a (Some b)))))))
            → (Contains (edges_of old) g × (g ≢ (a, c))) ⊎ (g ≡ edge b d)
        by_split (inl k) = inl (edges_to old g.0 g.1 p.0.apex k.0 p.1, λ i. k.1.ac (ap (λ (f : Edge). f.0) i, ap (λ (f : Edge). f.1) i))
        by_split (inr (inl e)) =
            let at : g ≡ (b, d) = ap (λ (s : Side). (s.from, s.to)) e in
            inr (at ∙ sym (edge_of (b, d) (subst (λ (f : Edge). f.0 < f.1) at p.1)))
        by_split (inr (inr (inl e))) =
            let at : g ≡ (d, b) = ap (λ (s : Side). (s.from, s.to)) e in
            inr (at ∙ sym (edge_swap b d ∙ edge_of (d, b) (subst (λ (f : Edge). f.0 < f.1) at p.1)))
        by_split (inr (inr (inr (inl e)))) = was a b (Some d) can_turn.ab (λ w. can_turn.b_c w.1) e
        by_split (inr (inr (inr (inr (inl e))))) = was b c (Some d) can_turn.bc (λ w. can_turn.a_b (sym w.0)) e
        by_split (inr (inr (inr (inr (inr (inl e)))))) = was c d (Some b) can_turn.cd (λ w. can_turn.a_c (sym w.0)) e
        by_split (inr (inr (inr (inr (inr (inr e)))))) = was d a (Some b) can_turn.da (λ w. can_turn.d_a w.0) e

    members_to : (g : Edge) → (Contains (edges_of old) g × (g ≢ (a, c))) ⊎ (g ≡ edge b d) → Contains (edges_of new) g
    members_to g (inr e) = subst (Contains (edges_of new)) (sym e) image_there
    members_to g (inl h) =
        let p = edges_from old g h.0 in
        let k = present g.0 g.1 p.0 (λ w. h.1 (pair w.0 w.1)) (λ w. backwards g.0 g.1 p.1 w) in
        edges_to new g.0 g.1 k.apex k.there p.1
      where
        backwards : (x y : ℕ) → x < y → (x ≡ c) × (y ≡ a) → ⊥
        backwards x y r w = let e = w.0 in let f = w.1 in omega arith

    pub is_flip : IsFlip points (edges_of old) (a, c) (edge b d) (edges_of new)
    is_flip = record {
      flips = (a, b, c, d, sym (edge_of (a, c) l), refl, q);
      ascending = edges_ascending new t.ordered;
      members = λ g. (members_from g, members_to g);
    }

    swapped : Swapped (AreJoined (edges_of old)) (AreJoined (edges_of new)) a b c d
    swapped = record {
      decided = λ x y. dec_contains (edges_of new) (edge x y);
      split = λ {x} {y} k. by_cases x y (members_from (edge x y) k);
      old = λ {x} {y} j n. members_to (edge x y) (inl (j, λ e. n (edge_same a c x y (e ∙ sym (edge_of (a, c) l)))));
      new = λ {x} {y} s. members_to (edge x y) (inr (same_edge b d x y s));
    }
      where
        by_cases : (x y : ℕ) → (Contains (edges_of old) (edge x y) × (edge x y ≢ (a, c))) ⊎ (edge x y ≡ edge b d) → (AreJoined (edges_of old) x y × ¬ Same a c x y) ⊎ Same b d x y
        by_cases x y (inl h) = inl (h.0, λ s. h.1 (same_edge a c x y s ∙ edge_of (a, c) l))
        by_cases x y (inr e) = inr (edge_same b d x y e)

    I : IsTriangulation points (edges_of old)
    I = M.triangulated.triangulation

    pub next : IsTriangulation points (edges_of new)
    next = flip_triangulation points P (edges_of old) (edges_of new) (a, c) (edge b d) I is_flip

    -- ---- triangles
    kept_triangle : (u v w : ℕ) → IsEmptyTriangle points (edges_of old) u v w → (x : Option ℕ) → IsElsewhere (side u v x) a b c d → IsEmptyTriangle points (edges_of new) u v w
    kept_triangle u v w r x e = record {
      turns = r.turns;
      ab = swapped.old r.ab (elim [ inl s ↦ e.ac s | inr s ↦ e.ca s ]);
      bc = swapped.old r.bc not_vw;
      ca = swapped.old r.ca not_wu;
      empty = r.empty;
    }
      where
        on_left : (z : ℕ) → IsEmptyTriangle points (edges_of old) a c z → z ≡ d
        on_left z k = same_apex points P (edges_of old) I a c z d k q.left

        on_right : (z : ℕ) → IsEmptyTriangle points (edges_of old) c a z → z ≡ b
        on_right z k = same_apex points P (edges_of old) I c a z b k (turn_triangle points P (edges_of old) I b c a (turn_triangle points P (edges_of old) I a b c q.right))

        vwu : IsEmptyTriangle points (edges_of old) v w u
        vwu = turn_triangle points P (edges_of old) I u v w r

        wuv : IsEmptyTriangle points (edges_of old) w u v
        wuv = turn_triangle points P (edges_of old) I v w u vwu

        not_vw : ¬ Same a c v w
        not_vw (inl s) = e.da (on_left u (subst₂ (λ y z. IsEmptyTriangle points (edges_of old) y z u) s.0 s.1 vwu), s.0)
        not_vw (inr s) = e.bc (on_right u (subst₂ (λ y z. IsEmptyTriangle points (edges_of old) y z u) s.0 s.1 vwu), s.0)

        not_wu : ¬ Same a c w u
        not_wu (inl s) = e.cd (s.1, on_left v (subst₂ (λ y z. IsEmptyTriangle points (edges_of old) y z v) s.0 s.1 wuv))
        not_wu (inr s) = e.ab (s.1, on_right v (subst₂ (λ y z. IsEmptyTriangle points (edges_of old) y z v) s.0 s.1 wuv))

    turn_new : (x y z : ℕ) → IsEmptyTriangle points (edges_of new) x y z → IsEmptyTriangle points (edges_of new) y z x
    turn_new x y z k = turn_triangle points P (edges_of new) next x y z k

    bda : IsEmptyTriangle points (edges_of new) b d a
    bda = tri_from points P (edges_of new) b d a (image_tri (plane points P) (AreJoined (edges_of old)) (AreJoined (edges_of new)) N Q swapped)

    dbc : IsEmptyTriangle points (edges_of new) d b c
    dbc = tri_from points P (edges_of new) d b c (image_tri (plane points P) (AreJoined (edges_of old)) (AreJoined (edges_of new)) N (half_turn (plane points P) (AreJoined (edges_of old)) Q) (half_swapped swapped))

    -- ---- the mesh
    abbrev IsSound : ℕ → ℕ → Option ℕ → Type 0
    IsSound u v None = (p : ℕ) → p < length points → ¬ IsLeft points u v p
    IsSound u v (Some w) = IsEmptyTriangle points (edges_of new) u v w

    sound_old : (u v : ℕ) (x : Option ℕ) → Contains old (side u v x) → IsElsewhere (side u v x) a b c d → IsSound u v x
    sound_old u v None h e = λ p k. M.bare u v p h k
    sound_old u v (Some w) h e = kept_triangle u v w (M.sound u v w h) (Some w) e

    sound_new : (s : Side) → Contains new s → IsSound s.from s.to s.apex
    sound_new s h = by_split (t.split s h)
      where
        moved : (r : Side) → s ≡ r → IsSound r.from r.to r.apex → IsSound s.from s.to s.apex
        moved r e k = subst (λ (z : Side). IsSound z.from z.to z.apex) (sym e) k

        by_split : (Contains old s × IsElsewhere s a b c d) ⊎ ((s ≡ side b d (Some a)) ⊎ ((s ≡ side d b (Some c)) ⊎ ((s ≡ side a b (Some d)) ⊎ ((s ≡ side b c (Some d)) ⊎ ((s ≡ side c d (Some b)) ⊎ (s ≡ side d a (Some b)))))))
            → IsSound s.from s.to s.apex
        by_split (inl k) = sound_old s.from s.to s.apex k.0 k.1
        by_split (inr (inl e)) = moved (side b d (Some a)) e bda
        by_split (inr (inr (inl e))) = moved (side d b (Some c)) e dbc
        by_split (inr (inr (inr (inl e)))) = moved (side a b (Some d)) e (turn_new d a b (turn_new b d a bda))
        by_split (inr (inr (inr (inr (inl e))))) = moved (side b c (Some d)) e (turn_new d b c dbc)
        by_split (inr (inr (inr (inr (inr (inl e)))))) = moved (side c d (Some b)) e (turn_new b c d (turn_new d b c dbc))
        by_split (inr (inr (inr (inr (inr (inr e)))))) = moved (side d a (Some b)) e (turn_new b d a bda)

    apart_new : (s : Side) → Contains new s → s.from ≡ s.to → ⊥
    apart_new s h = by_split (t.split s h)
      where
        moved : (x y : ℕ) (z : Option ℕ) → s ≡ side x y z → x ≢ y → s.from ≡ s.to → ⊥
        moved x y z e n k = n (sym (ap (λ (r : Side). r.from) e) ∙ k ∙ ap (λ (r : Side). r.to) e)

        by_split : (Contains old s × IsElsewhere s a b c d) ⊎ ((s ≡ side b d (Some a)) ⊎ ((s ≡ side d b (Some c)) ⊎ ((s ≡ side a b (Some d)) ⊎ ((s ≡ side b c (Some d)) ⊎ ((s ≡ side c d (Some b)) ⊎ (s ≡ side d a (Some b)))))))
            → s.from ≡ s.to → ⊥
        by_split (inl k) = λ e. M.apart s.from (subst (HasSide old s.from) (sym e) (record { apex = s.apex; there = k.0 }))
        by_split (inr (inl e)) = moved b d (Some a) e can_turn.b_d
        by_split (inr (inr (inl e))) = moved d b (Some c) e (λ k. can_turn.b_d (sym k))
        by_split (inr (inr (inr (inl e)))) = moved a b (Some d) e can_turn.a_b
        by_split (inr (inr (inr (inr (inl e))))) = moved b c (Some d) e can_turn.b_c
        by_split (inr (inr (inr (inr (inr (inl e)))))) = moved c d (Some b) e can_turn.c_d
        by_split (inr (inr (inr (inr (inr (inr e)))))) = moved d a (Some b) e can_turn.d_a

    both_new : (s : Side) → Contains new s → HasSide new s.to s.from
    both_new s h = by_split (t.split s h)
      where
        moved : (x y : ℕ) (z : Option ℕ) → s ≡ side x y z → HasSide new y x → HasSide new s.to s.from
        moved x y z e k = subst (λ (r : Side). HasSide new r.to r.from) (sym e) k

        by_split : (Contains old s × IsElsewhere s a b c d) ⊎ ((s ≡ side b d (Some a)) ⊎ ((s ≡ side d b (Some c)) ⊎ ((s ≡ side a b (Some d)) ⊎ ((s ≡ side b c (Some d)) ⊎ ((s ≡ side c d (Some b)) ⊎ (s ≡ side d a (Some b)))))))
            → HasSide new s.to s.from
        by_split (inl k) = present s.to s.from (M.both s.from s.to (record { apex = s.apex; there = k.0 })) (λ w. k.1.ca (w.1, w.0)) (λ w. k.1.ac (w.1, w.0))
        by_split (inr (inl e)) = moved b d (Some a) e (record { apex = Some c; there = t.db })
        by_split (inr (inr (inl e))) = moved d b (Some c) e (record { apex = Some a; there = t.bd })
        by_split (inr (inr (inr (inl e)))) = moved a b (Some d) e (present b a (M.both a b can_turn.ab) (λ w. can_turn.a_b (sym w.0)) (λ w. can_turn.b_c w.0))
        by_split (inr (inr (inr (inr (inl e))))) = moved b c (Some d) e (present c b (M.both b c can_turn.bc) (λ w. can_turn.a_c (sym w.0)) (λ w. can_turn.a_b (sym w.1)))
        by_split (inr (inr (inr (inr (inr (inl e)))))) = moved c d (Some b) e (present d c (M.both c d can_turn.cd) (λ w. can_turn.d_a w.0) (λ w. can_turn.c_d (sym w.0)))
        by_split (inr (inr (inr (inr (inr (inr e)))))) = moved d a (Some b) e (present a d (M.both d a can_turn.da) (λ w. can_turn.c_d (sym w.1)) (λ w. can_turn.a_c w.0))

    pub after_turn : IsFaithful points new
    after_turn = record {
      triangulated = record { few = M.triangulated.few; in_reach = M.triangulated.in_reach; placed = P; triangulation = next };
      ordered = t.ordered;
      apart = λ u h. apart_new (side u u h.apex) h.there refl;
      both = λ u v h. both_new (side u v h.apex) h.there;
      sound = λ u v w h. sound_new (side u v (Some w)) h;
      bare = λ u v p h. sound_new (side u v None) h p;
    }
