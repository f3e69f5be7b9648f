-- What a sweep joins a point with: the points of the boundary that it sees.
use Rattle.std.proofs.Common.{◌≡◌, ◌⊎◌, inl, inr, ℕ, ◌+◌, ◌-◌, ◌<◌, ◌≤◌, ℤ, pos, ◌<ℤ◌, ◌≤ℤ◌, Bool, true, false, T, not, ◌&&◌, ◌||◌, cond, List, [], ◌∷◌, ◌++◌, length, get_or, Contains, refl, sym, ap, ◌∙◌, subst, arith}
use Rattle.std.proofs.lemmas.Int.{ints}
use Rattle.std.proofs.lemmas.Bool.{false≢true}
use Rattle.std.proofs.lemmas.Bool.Decides.{Decides-int_eq}
use Rattle.std.proofs.lemmas.List.{append-nil, append_assoc, map-append}
use Rattle.std.proofs.lemmas.List.Elements.{Contains-get_or}
use Rattle.std.proofs.lemmas.List.Folds.{list_any-append, list_any_none, list_any_at}
use Rattle.std.specs.List.{list_any, filter, fold}
use Rattle.std.specs.Ordering.{int_eq}
use lib.Signed.{lt_z}
use native.Mathlib.Decide.{ℕ_discrete}
use Rattle.geo_orient.specs.declared.Point.{Point}
use Rattle.geo_orient.specs.Predicates.{scalar}
use Rattle.edge_table.specs.Edges.{edge}
use Rattle.tri_theory.specs.Points.{point, turn, Separates}
use Rattle.tri_theory.specs.Crossings.{crosses}
use Rattle.tri_theory.specs.Triangulations.{Crosses}
use Rattle.tri_theory.proofs.Plane.{Plane, sides_of, left as lies_left}
use Rattle.tri_theory.proofs.Net.{not_flat}
use Rattle.tri_theory.proofs.Tests.{cross_means, cross_shown}
use Rattle.tri_theory.proofs.Edges.{cross_to, cross_from}
use Rattle.planar_law.specs.Chains.{link}
use Rattle.planar_law.proofs.Patches.{flat_last, flat_ends}
use Rattle.sweep_law.specs.Sweeps.{Pair, ComesBefore, sees, separates, tried, joined}
use Rattle.sweep_law.specs.Boundaries.{IsDirection, CanBeSwept, Side, right, left, ComesNext, IsBoundary, IsSeenFrom, IsFirstSeen, AreListed, IsSwept, AreTaken, pairs_with}
use Rattle.sweep_law.proofs.Directions.{S, slope, height, higher, distinct, not_both_before}
use Rattle.sweep_law.proofs.Ordered.{from_map, one_order, kept_sound, kept_all, kept_pairs}
use Rattle.sweep_law.proofs.Rays.{lies_between}
use Rattle.sweep_law.proofs.Sight.{Boundary, Further, Seen, Meet, Hidden, hidden_or_seen, not_between, not_met}
use Rattle.sweep_law.proofs.Sides.{sided, sloped, boundary, further, to_last, some_earlier, seen_to, seen_from, meet_to, meet_from, between_to, between_from}

-- ---- tests
shown : (b : Bool) → b ≡ true → T b
shown b e = subst T (sym e) tt

means : (b : Bool) → T b → b ≡ true
means true t = refl
means false t = absurd t

is_false : (b : Bool) → (b ≡ true → ⊥) → b ≡ false
is_false true h = absurd (h refl)
is_false false h = refl

both : (a b : Bool) → (a && b) ≡ true → (a ≡ true) × (b ≡ true)
both true b e = (refl, e)
both false b e = absurd (false≢true e)

joint : (a b : Bool) → a ≡ true → b ≡ true → (a && b) ≡ true
joint true b e f = f
joint false b e f = absurd (false≢true e)

module _ {X : Type 0} (test : X → Bool) where
  not_any : (xs : List X) → not (list_any test xs) ≡ true → (x : X) → Contains xs x → test x ≡ true → ⊥
  not_any xs e x (k, l, f) g = false≢true (ap not (sym (list_any_at test xs k x l (ap test f ∙ g))) ∙ e)

  none_any : (xs : List X) → ((x : X) → Contains xs x → test x ≡ true → ⊥) → list_any test xs ≡ false
  none_any xs none = list_any_none test xs (λ k d l. is_false (test (get_or xs k d)) (none (get_or xs k d) (Contains-get_or xs k d l)))

separates_means : (points : List Point) (r p s : ℕ) → separates points r p s ≡ true → Separates points r p s
separates_means points r p s e =
    let t = both (int_eq (turn points r p s) (pos 0)) _ e in
    ((Decides-int_eq (turn points r p s) (pos 0)).0 t.0, record { lt = shown (lt_z (scalar (point points s) (point points r) (point points p)) (pos 0)) t.1 })

separates_shown : (points : List Point) (r p s : ℕ) → Separates points r p s → separates points r p s ≡ true
separates_shown points r p s m =
    joint (int_eq (turn points r p s) (pos 0)) (lt_z (scalar (point points s) (point points r) (point points p)) (pos 0))
    ((Decides-int_eq (turn points r p s) (pos 0)).1 m.0) (means (lt_z (scalar (point points s) (point points r) (point points p)) (pos 0)) m.1.lt)

-- ---- no listed pair crosses that of r and p, and no earlier point lies between the two
pub record IsClear (points : List Point) (earlier : List ℕ) (listed : List Pair) (p r : ℕ) : Type 0 where
  pub uncrossed : (f : Pair) → Contains listed f → ¬ Crosses points (edge r p) (edge f.before f.joined)
  pub apart : (s : ℕ) → Contains earlier s → ¬ Separates points r p s

module _ (points : List Point) (earlier : List ℕ) (p : ℕ) where
  abbrev meets : ℕ → Pair → Bool
  meets r f = crosses points (edge r p) (edge f.before f.joined)

  sees_clear : (listed : List Pair) (r : ℕ) → sees points earlier listed p r ≡ true → IsClear points earlier listed p r
  sees_clear listed r e =
      let t = both (not (list_any (meets r) listed)) (not (list_any (separates points r p) earlier)) e in
      record {
        uncrossed = λ f h x. not_any (meets r) listed t.0 f h (means (meets r f) (cross_shown points (edge r p) (edge f.before f.joined) x));
        apart = λ s h m. not_any (separates points r p) earlier t.1 s h (separates_shown points r p s m);
      }

  clear_sees : (listed : List Pair) (r : ℕ) → IsClear points earlier listed p r → sees points earlier listed p r ≡ true
  clear_sees listed r c =
      joint (not (list_any (meets r) listed)) (not (list_any (separates points r p) earlier))
      (ap not (none_any (meets r) listed (λ f h e. c.uncrossed f h (cross_means points (edge r p) (edge f.before f.joined) (shown (meets r f) e)))))
      (ap not (none_any (separates points r p) earlier (λ s h e. c.apart s h (separates_means points r p s e))))

-- ---- the pairs that are added on the way hide nothing, as they end in p too
module _ (points : List Point) (a b : ℤ) (can : CanBeSwept points) (D : IsDirection a b) (earlier : List ℕ) (p : ℕ) where
  abbrev Q : Plane
  Q = S points a b can D

  ends_in_p : (r s : ℕ) → crosses points (edge r p) (edge s p) ≡ false
  ends_in_p r s = is_false (crosses points (edge r p) (edge s p)) (λ e. none (cross_from points r p s p (cross_means points (edge r p) (edge s p) (shown (crosses points (edge r p) (edge s p)) e))))
    where
      none : Meet Q r p s p → ⊥
      none (inl f, g) = not_flat f.1 (flat_ends Q p r)
      none (inr f, g) = not_flat f.1 (flat_last Q r p)

  unhidden : (r : ℕ) (ys : List ℕ) → list_any (meets points earlier p r) (pairs_with p ys) ≡ false
  unhidden r ys = none_any (meets points earlier p r) (pairs_with p ys) (λ f h e. by_pair f (from_map (λ s. record { before = s; joined = p }) ys f h) e)
    where
      by_pair : (f : Pair) → (s : ℕ) × Contains ys s × ((let g : Pair = record { before = s; joined = p } in g) ≡ f) → crosses points (edge r p) (edge f.before f.joined) ≡ true → ⊥
      by_pair f (s, h, i) e = false≢true (sym (ends_in_p r s) ∙ ap (λ (g : Pair). crosses points (edge r p) (edge g.before g.joined)) i ∙ e)

  or_false : (x y : Bool) → y ≡ false → (x || y) ≡ x
  or_false true y e = refl
  or_false false y e = e

  same_sight : (listed : List Pair) (ys : List ℕ) (r : ℕ) → sees points earlier (listed ++ pairs_with p ys) p r ≡ sees points earlier listed p r
  same_sight listed ys r =
      ap (λ t. not t && not (list_any (separates points r p) earlier))
      (list_any-append (meets points earlier p r) listed (pairs_with p ys) ∙ or_false (list_any (meets points earlier p r) listed) (list_any (meets points earlier p r) (pairs_with p ys)) (unhidden r ys))

  module _ (listed : List Pair) where
    abbrev pub sight : ℕ → Bool
    sight r = sees points earlier listed p r

    one_pair : ℕ → Pair
    one_pair r = record { before = r; joined = p }

    grows : (xs ys : List ℕ) → fold (tried points earlier p) (listed ++ pairs_with p ys) xs ≡ listed ++ pairs_with p (ys ++ filter sight xs)
    grows [] ys = ap (λ t. listed ++ pairs_with p t) (sym (append-nil ys))
    grows (x ∷ xs) ys = by_test (sight x) refl (λ zs. grows xs zs)
      where
        by_test : (t : Bool) → sight x ≡ t → ((zs : List ℕ) → fold (tried points earlier p) (listed ++ pairs_with p zs) xs ≡ listed ++ pairs_with p (zs ++ filter sight xs))
            → fold (tried points earlier p) (tried points earlier p (listed ++ pairs_with p ys) x) xs ≡ listed ++ pairs_with p (ys ++ cond t (x ∷ filter sight xs) (filter sight xs))
        by_test true e again = ap (λ t. fold (tried points earlier p) t xs) step ∙ again (ys ++ x ∷ []) ∙ ap (λ t. listed ++ pairs_with p t) (append_assoc ys (x ∷ []) (filter sight xs))
          where
            step : tried points earlier p (listed ++ pairs_with p ys) x ≡ listed ++ pairs_with p (ys ++ x ∷ [])
            step =
                ap (λ t. cond t ((listed ++ pairs_with p ys) ++ record { before = x; joined = p } ∷ []) (listed ++ pairs_with p ys)) (same_sight listed ys x ∙ e)
                ∙ append_assoc listed (pairs_with p ys) (record { before = x; joined = p } ∷ [])
                ∙ ap (λ t. listed ++ t) (sym (map-append (λ r. record { before = r; joined = p }) ys (x ∷ [])))
        by_test false e again = ap (λ t. fold (tried points earlier p) t xs) step ∙ again ys
          where
            step : tried points earlier p (listed ++ pairs_with p ys) x ≡ listed ++ pairs_with p ys
            step = ap (λ t. cond t ((listed ++ pairs_with p ys) ++ record { before = x; joined = p } ∷ []) (listed ++ pairs_with p ys)) (same_sight listed ys x ∙ e)

    pub joined_is : joined points earlier p listed ≡ listed ++ pairs_with p (filter sight earlier)
    joined_is = ap (λ t. fold (tried points earlier p) t earlier) (sym (append-nil listed)) ∙ grows earlier []

-- ---- what p sees and what is clear
module _ (points : List Point) (a b : ℤ) (can : CanBeSwept points) (D : IsDirection a b) (earlier : List ℕ) (listed : List Pair) (rights lefts : List ℕ) (W : IsSwept points a b earlier listed rights lefts) (p : ℕ) (N : ComesNext points a b earlier p) where
  abbrev R : Plane
  R = S points a b can D

  abbrev above : ℕ → ℤ
  above i = height points a b can D i

  module _ (side : Side) (chain : List ℕ) (I : IsBoundary side points a b earlier chain) where
    B : Boundary (sided points a b can D side) (sloped points a b can D side) (Contains earlier) (link chain) (length chain)
    B = boundary points a b can D earlier W.passed side chain I

    F : Further (sided points a b can D side) (sloped points a b can D side) (Contains earlier) p
    F = further points a b can D earlier W.passed side p N

    seen_clear : (k : ℕ) → Seen (sided points a b can D side) (link chain) (length chain) p k → IsClear points earlier listed p (link chain k)
    seen_clear k V = record {
      uncrossed = λ f h x. let e = W.among f h in
          not_met (sided points a b can D side) (sloped points a b can D side) (Contains earlier) (link chain) (length chain) B p F k V f.before f.joined e.0 e.1
          (meet_to points a b can D side (link chain k) p f.before f.joined (cross_from points (link chain k) p f.before f.joined x));
      apart = λ s h m. not_between (sided points a b can D side) (sloped points a b can D side) (Contains earlier) (link chain) (length chain) B p F k V s h (between_to points a b can D side (link chain k) p s m);
    }

    not_hidden : AreListed listed chain → (r : ℕ) → IsClear points earlier listed p r → Hidden (sided points a b can D side) (Contains earlier) (link chain) (length chain) p r → ⊥
    not_hidden L r c (inl (j, l, m)) = c.uncrossed (record { before = link chain j; joined = link chain (j + 1) }) (L j l) (cross_to points r p (link chain j) (link chain (j + 1)) (meet_from points a b can D side r p (link chain j) (link chain (j + 1)) m))
    not_hidden L r c (inr (s, es, m)) = c.apart s es (between_from points a b can D side r p s m)

    abbrev InView : ℕ → Type 0
    InView r = (k : ℕ) × (k < length chain) × (r ≡ link chain k) × Seen (sided points a b can D side) (link chain) (length chain) p k

    clear_in_view : AreListed listed chain → (r : ℕ) → Contains earlier r → IsClear points earlier listed p r → ((j : ℕ) → j + 1 ≡ length chain → lies_left (sided points a b can D side) r p (link chain j)) → InView r
    clear_in_view L r er c far = by_case (hidden_or_seen (sided points a b can D side) (sloped points a b can D side) (Contains earlier) (link chain) (length chain) B p F r er far)
      where
        by_case : ((k : ℕ) × (k < length chain) × (r ≡ link chain k) × Seen (sided points a b can D side) (link chain) (length chain) p k) ⊎ Hidden (sided points a b can D side) (Contains earlier) (link chain) (length chain) p r → InView r
        by_case (inl v) = v
        by_case (inr x) = absurd (not_hidden L r c x)

  -- the last earlier point
  abbrev place : ℕ
  place = length earlier - 1

  abbrev top : ℕ
  top = link earlier place

  at_end : place + 1 ≡ length earlier
  at_end = let s = some_earlier points a b can D earlier W.passed right rights W.on_right in omega (arith, s)

  top_in : Contains earlier top
  top_in = Contains-get_or earlier place 0 (let e = at_end in omega (arith, e))

  right_end : (j : ℕ) → j + 1 ≡ length rights → top ≡ link rights j
  right_end j e = sym (W.on_right.last j place e at_end)

  left_end : (j : ℕ) → j + 1 ≡ length lefts → top ≡ link lefts j
  left_end j e = sym (W.on_left.last j place e at_end)

  -- p sees the last point, along the right
  top_seen : InView right rights W.on_right top
  top_seen = (length rights - 1, omega (arith, some), right_end (length rights - 1) (omega (arith, some)), record { within = omega (arith, some); ways = λ i le l. absurd (omega (arith, le, l)) })
    where
      some : 0 < length rights
      some = W.on_right.some

  pub in_view : (r : ℕ) → Contains earlier r → IsClear points earlier listed p r → InView right rights W.on_right r ⊎ InView left lefts W.on_left r
  in_view r er c = by_side (sides_of R r p top)
    where
      strict : (x y : ℤ) → x ≤ℤ y → (x ≡ y → ⊥) → x <ℤ y
      strict x y l ne = omega (arith, ints, l, ne)

      hr : r < length points
      hr = W.passed.named r er

      ht : top < length points
      ht = W.passed.named top top_in

      under_top : (r ≡ top → ⊥) → above r <ℤ above top
      under_top ne = strict (above r) (above top) (to_last points a b can D earlier W.passed r place er at_end) (λ e. ne (distinct points a b can D r top hr ht e))

      on_line : turn points r p top ≡ pos 0 → Dec (r ≡ top) → InView right rights W.on_right r ⊎ InView left lefts W.on_left r
      on_line flat (yes e) = inl (subst (λ t. InView right rights W.on_right t) (sym e) top_seen)
      on_line flat (no ne) = absurd (c.apart top top_in (lies_between R (slope points a b can D) r p top hr N.named ht flat (under_top ne) (higher points a b can D top p ht N.named (N.after top top_in))))

      by_side : lies_left R r p top ⊎ (lies_left R p r top ⊎ (turn points r p top ≡ pos 0)) → InView right rights W.on_right r ⊎ InView left lefts W.on_left r
      by_side (inl l) = inl (clear_in_view right rights W.on_right W.rights_listed r er c (λ j e. subst (λ t. lies_left R r p t) (right_end j e) l))
      by_side (inr (inl l)) = inr (clear_in_view left lefts W.on_left W.lefts_listed r er c (λ j e. subst (λ t. lies_left R p r t) (left_end j e) l))
      by_side (inr (inr flat)) = on_line flat (ℕ_discrete r top)

  -- ---- those that are taken
  module _ (i j : ℕ) (taken : List ℕ) (first_right : IsFirstSeen right points rights p i) (first_left : IsFirstSeen left points lefts p j) (K : AreTaken points a b rights i lefts j taken) where
    from_on : (side : Side) (chain : List ℕ) (i k : ℕ) → i ≤ k → k < length chain → IsSeenFrom side points chain p i → Seen (sided points a b can D side) (link chain) (length chain) p k
    from_on side chain i k le l V = let v = seen_to points a b can D side chain p i V in record { within = l; ways = λ q g w. v.ways q (omega (arith, le, g)) w }

    clear_taken : (r : ℕ) → Contains earlier r → IsClear points earlier listed p r → Contains taken r
    clear_taken r er c = by_view (in_view r er c)
      where
        by_view : InView right rights W.on_right r ⊎ InView left lefts W.on_left r → Contains taken r
        by_view (inl (k, l, e, V)) = subst (Contains taken) (sym e) (K.rights_in k (first_right.lowest k (seen_from points a b can D right rights p k V)) l)
        by_view (inr (k, l, e, V)) = subst (Contains taken) (sym e) (K.lefts_in k (first_left.lowest k (seen_from points a b can D left lefts p k V)) l)

    taken_clear : (r : ℕ) → Contains taken r → Contains earlier r × IsClear points earlier listed p r
    taken_clear r h = by_sound (K.sound r h)
      where
        by_sound : ((k : ℕ) × (i ≤ k) × (k < length rights) × (r ≡ link rights k)) ⊎ ((k : ℕ) × (j ≤ k) × (k < length lefts) × (r ≡ link lefts k)) → Contains earlier r × IsClear points earlier listed p r
        by_sound (inl (k, le, l, e)) = (
          subst (Contains earlier) (sym e) (W.on_right.members (link rights k) (Contains-get_or rights k 0 l)),
          subst (λ t. IsClear points earlier listed p t) (sym e) (seen_clear right rights W.on_right k (from_on right rights i k le l first_right.seen)),
        )
        by_sound (inr (k, le, l, e)) = (
          subst (Contains earlier) (sym e) (W.on_left.members (link lefts k) (Contains-get_or lefts k 0 l)),
          subst (λ t. IsClear points earlier listed p t) (sym e) (seen_clear left lefts W.on_left k (from_on left lefts j k le l first_left.seen)),
        )

    abbrev Before : ℕ → ℕ → Type 0
    Before r s = ComesBefore a b (point points r) (point points s)

    kept_is_taken : filter (sight points a b can D earlier p listed) earlier ≡ taken
    kept_is_taken =
        one_order Before (λ r s. not_both_before a b (point points r) (point points s)) (filter test earlier) taken
        (kept_pairs test Before earlier W.passed.ascend) K.ascend
        (λ r h. let k = kept_sound test earlier r h in clear_taken r k.0 (sees_clear points earlier p listed r k.1))
        (λ r h. let k = taken_clear r h in kept_all test earlier r k.0 (clear_sees points earlier p listed r k.1))
      where
        test : ℕ → Bool
        test = sight points a b can D earlier p listed

    pub joins_what_is_seen : joined points earlier p listed ≡ listed ++ pairs_with p taken
    joins_what_is_seen = joined_is points a b can D earlier p listed ∙ ap (λ t. listed ++ pairs_with p t) kept_is_taken
