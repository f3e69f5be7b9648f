-- Keys of points in a sweep: they ascend as the sweep passes the points, and no two points have one key but for the number.
use Rattle.std.proofs.Common.{◌≡◌, ◌∙◌, ◌⊎◌, inl, inr, ℕ, ◌<◌, ℤ, pos, negsuc, ◌≤ℤ◌, ◌+ℤ◌, ◌-ℤ◌, ◌*ℤ◌, neg_ℤ, ◌<ℤ◌, Bool, true, false, ◌&&◌, List, [], ◌∷◌, length, map, get_or, Contains, refl, sym, ap, ap₂, subst, subst₂, arith, IsPermutation}
use Rattle.std.specs.Prelude.{nat_eq}
use Rattle.std.specs.declared.cmp.Ordering.{Ordering}
use Rattle.std.specs.declared.cmp.Ordering.TheVariants.{Less, Equal, Greater}
use Rattle.std.specs.Ordering.{MatchOrdering, nat_cmp, int_cmp, int_eq, is_eq, eq_by_cmp, ordering_then}
use Rattle.std.specs.Cmp.{IsTotalOrder, IsEquivalence, unsigned_ties, signed_Decides, unsigned_Decides}
use Rattle.std.specs.List.{All, AllPairs, dedup}
use Rattle.std.specs.List.Sorted.{IsSorted, IsStrictlySortedBy}
use Rattle.std.proofs.lemmas.Int.{ints}
use Rattle.std.proofs.lemmas.Cmp.{ranked, int_ranked, nat_cmp_total, int_cmp_total, nat_eq_equiv, int_eq_equiv, on_total, then_total, on_equiv, and_equiv}
use Rattle.std.proofs.lemmas.List.{length-map, get_or-map}
use Rattle.std.proofs.lemmas.List.Elements.{Contains-get_or, All-from_recursion, All-map, All-same, All-contains, All-get_or}
use Rattle.std.proofs.lemmas.List.Filters.{All-dedup}
use Rattle.std.proofs.lemmas.List.Kept.{AllPairs-cons, Contains-dedup, IsStrictlySortedBy-dedup}
use Rattle.std.proofs.lemmas.List.Sorted.{All-permutation, Contains-permutation}
use Rattle.geo_orient.specs.declared.Point.{Point}
use Rattle.geo_orient.proofs.IntSigns.{IsPos, signs, mul_pos, factor_zero}
use Rattle.geo_orient.proofs.Ring.{Term, solve}
use Rattle.geo_orient.proofs.Ring.Term.{var, plus, times, minus}
use Rattle.tri_theory.specs.Points.{point}
use Rattle.sweep_law.specs.Sweeps.{along, aside, ComesBefore}
use Rattle.sweep_law.specs.Boundaries.{IsDirection, CanBeSwept}
use Rattle.gen_instance.specs.declared.direction.Direction.{Direction}
use Rattle.gen_instance.specs.declared.order.Key.{Key}
use Rattle.gen_instance.specs.Orders.{AreNamed, key_of, AreInOrder}
use Rattle.gen_instance.proofs.Members.{contains_map, mapped}

-- ---- places along and aside of a direction
abbrev less : Term → Term → Term
less s t = plus s (minus t)

abbrev along_of : Term → Term → Term
along_of x y = plus (times (var 0) x) (times (var 1) y)

abbrev aside_of : Term → Term → Term
aside_of x y = less (times (var 1) x) (times (var 0) y)

abbrev norm : Term
norm = plus (times (var 0) (var 0)) (times (var 1) (var 1))

abbrev further : Term
further = less (along_of (var 2) (var 3)) (along_of (var 4) (var 5))

abbrev right_of : Term
right_of = less (aside_of (var 2) (var 3)) (aside_of (var 4) (var 5))

square : (z : ℤ) → pos 0 ≤ℤ (z *ℤ z)
square (pos n) = omega (arith, ints)
square (negsuc n) = omega (arith, ints)

square_pos : (z : ℤ) → IsPos z ⊎ (IsPos (neg_ℤ z) ⊎ (z ≡ pos 0)) → IsPos (z *ℤ z) ⊎ (z ≡ pos 0)
square_pos z (inl h) = inl (mul_pos z z h h)
square_pos z (inr (inl h)) = inl (subst IsPos (solve (z ∷ []) (times (minus (var 0)) (minus (var 0))) (times (var 0) (var 0)) tt) (mul_pos (neg_ℤ z) (neg_ℤ z) h h))
square_pos z (inr (inr e)) = inr e

module _ (a b : ℤ) (D : IsDirection a b) where
  norm_pos : IsPos (a *ℤ a +ℤ b *ℤ b)
  norm_pos = by_parts (square_pos a (signs a)) (square_pos b (signs b))
    where
      by_parts : IsPos (a *ℤ a) ⊎ (a ≡ pos 0) → IsPos (b *ℤ b) ⊎ (b ≡ pos 0) → IsPos (a *ℤ a +ℤ b *ℤ b)
      by_parts (inl h) _ = let s = square b in omega (arith, ints, h, s)
      by_parts (inr e) (inl h) = let s = square a in omega (arith, ints, h, s)
      by_parts (inr e) (inr f) = absurd (D.some e f)

  module _ (p q : Point) (same_along : along a b p ≡ along a b q) (same_aside : aside a b p ≡ aside a b q) where
    none : (x y : ℤ) → x ≡ y → x -ℤ y ≡ pos 0
    none x y e = omega (arith, ints)

    equal : (x y : ℤ) → x -ℤ y ≡ pos 0 → x ≡ y
    equal x y e = omega (arith, ints)

    zero_sum : (s t x y : ℤ) → x ≡ pos 0 → y ≡ pos 0 → s *ℤ x +ℤ t *ℤ y ≡ pos 0
    zero_sum s t x y e f = let g : s *ℤ x ≡ s *ℤ pos 0 = ap (λ z. s *ℤ z) e in let h : t *ℤ y ≡ t *ℤ pos 0 = ap (λ z. t *ℤ z) f in omega (arith, ints, g, h)

    zero_difference : (s t x y : ℤ) → x ≡ pos 0 → y ≡ pos 0 → s *ℤ x -ℤ t *ℤ y ≡ pos 0
    zero_difference s t x y e f = let g : s *ℤ x ≡ s *ℤ pos 0 = ap (λ z. s *ℤ z) e in let h : t *ℤ y ≡ t *ℤ pos 0 = ap (λ z. t *ℤ z) f in omega (arith, ints, g, h)

    abbrev parts : List ℤ
    parts = a ∷ b ∷ p.x ∷ p.y ∷ q.x ∷ q.y ∷ []

    wide : (p.x -ℤ q.x) *ℤ (a *ℤ a +ℤ b *ℤ b) ≡ a *ℤ (along a b p -ℤ along a b q) +ℤ b *ℤ (aside a b p -ℤ aside a b q)
    wide = solve parts (times (less (var 2) (var 4)) norm) (plus (times (var 0) further) (times (var 1) right_of)) tt

    high : (p.y -ℤ q.y) *ℤ (a *ℤ a +ℤ b *ℤ b) ≡ b *ℤ (along a b p -ℤ along a b q) -ℤ a *ℤ (aside a b p -ℤ aside a b q)
    high = solve parts (times (less (var 3) (var 5)) norm) (less (times (var 1) further) (times (var 0) right_of)) tt

    pub same_point : p ≡ q
    same_point = ap₂ (λ x y. let r : Point = record { x = x; y = y } in r)
        (equal p.x q.x (factor_zero (p.x -ℤ q.x) _ (wide ∙ zero_sum a b _ _ (none _ _ same_along) (none _ _ same_aside)) norm_pos))
        (equal p.y q.y (factor_zero (p.y -ℤ q.y) _ (high ∙ zero_difference b a _ _ (none _ _ same_along) (none _ _ same_aside)) norm_pos))

-- ---- the order of keys
abbrev pub key_cmp : Key → Key → Ordering
key_cmp x y = ordering_then (int_cmp x.along y.along) (ordering_then (int_cmp x.aside y.aside) (nat_cmp x.number y.number))

abbrev pub key_eq : Key → Key → Bool
key_eq x y = int_eq x.along y.along && (int_eq x.aside y.aside && nat_eq x.number y.number)

key_total : IsTotalOrder key_cmp
key_total = then_total (on_total (λ (k : Key). k.along) int_cmp_total) (then_total (on_total (λ (k : Key). k.aside) int_cmp_total) (on_total (λ (k : Key). k.number) nat_cmp_total))

key_equiv : IsEquivalence key_eq
key_equiv = and_equiv (on_equiv (λ (k : Key). k.along) int_eq_equiv) (and_equiv (on_equiv (λ (k : Key). k.aside) int_eq_equiv) (on_equiv (λ (k : Key). k.number) nat_eq_equiv))

tied : (o p q : Ordering) (b : Bool) → b ≡ is_eq q → is_eq o && (is_eq p && b) ≡ is_eq (ordering_then o (ordering_then p q))
tied Less p q b e = refl
tied Equal Less q b e = refl
tied Equal Equal q b e = e
tied Equal Greater q b e = refl
tied Greater p q b e = refl

key_ties : (x y : Key) → key_eq x y ≡ eq_by_cmp key_cmp x y
key_ties x y = tied (int_cmp x.along y.along) (int_cmp x.aside y.aside) (nat_cmp x.number y.number) (nat_eq x.number y.number) (unsigned_ties x.number y.number)

both : (b c : Bool) → b && c ≡ true → (b ≡ true) × (c ≡ true)
both true c e = (refl, e)
both false c e = absurd (cc)

key_same : (x y : Key) → key_eq x y ≡ true → x ≡ y
key_same x y e = by_parts (both _ _ e)
  where
    made : (r s u : ℤ) (t : ℤ) (m n : ℕ) → r ≡ s → u ≡ t → m ≡ n → ◌≡◌ {A = Key} (record { along = r; aside = u; number = m }) (record { along = s; aside = t; number = n })
    made r s u t m n f g h = cc

    by_parts : (int_eq x.along y.along ≡ true) × (int_eq x.aside y.aside && nat_eq x.number y.number ≡ true) → x ≡ y
    by_parts (h, g) = let k = both (int_eq x.aside y.aside) (nat_eq x.number y.number) g in
        made x.along y.along x.aside y.aside x.number y.number ((signed_Decides x.along y.along).0 h) ((signed_Decides x.aside y.aside).0 k.0) ((unsigned_Decides x.number y.number).0 k.1)

strict_pairs : {K : Type 0} (c : K → K → Ordering) (ks : List K) → IsStrictlySortedBy c ks → AllPairs (λ x y. c x y ≡ Less) ks
unfolding IsStrictlySortedBy
strict_pairs c [] h = λ i j d l m. absurd (omega (arith, m))
strict_pairs {K} c (x ∷ xs) h = AllPairs-cons (λ (y z : K). c y z ≡ Less) x xs (All-from_recursion (λ (y : K). c x y ≡ Less) xs h.0) (strict_pairs c xs h.1)

module _ (points : List Point) (d : Direction) (C : CanBeSwept points) (D : IsDirection d.a d.b) where
  abbrev way : ℕ → ℤ
  way i = along d.a d.b (point points i)

  abbrev right : ℕ → ℤ
  right i = aside d.a d.b (point points i)

  -- keys ascend as the sweep passes the points
  before_by : (i j : ℕ) → j < length points → key_cmp (key_of points d i) (key_of points d j) ≡ Less → ComesBefore d.a d.b (point points i) (point points j)
  before_by i j l e = by_along (int_cmp (way i) (way j)) (int_ranked (way i) (way j) (int_cmp (way i) (way j)) refl) e
    where
      by_number : way i ≡ way j → right i ≡ right j → nat_cmp i j ≡ Less → ⊥
      by_number f g h = C.placed.distinct i j (ranked i j Less (sym h)) l (same_point d.a d.b D (point points i) (point points j) f g)

      by_aside : (o : Ordering) → MatchOrdering o (right i <ℤ right j) (right i ≡ right j) (right j <ℤ right i) → way i ≡ way j → ordering_then o (nat_cmp i j) ≡ Less → ComesBefore d.a d.b (point points i) (point points j)
      by_aside Less m f h = inr (f, m)
      by_aside Equal m f h = absurd (by_number f m h)
      by_aside Greater m f h = absurd (cc)

      by_along : (o : Ordering) → MatchOrdering o (way i <ℤ way j) (way i ≡ way j) (way j <ℤ way i) → ordering_then o (ordering_then (int_cmp (right i) (right j)) (nat_cmp i j)) ≡ Less → ComesBefore d.a d.b (point points i) (point points j)
      by_along Less m h = inl m
      by_along Equal m h = by_aside (int_cmp (right i) (right j)) (int_ranked (right i) (right j) (int_cmp (right i) (right j)) refl) m h
      by_along Greater m h = absurd (cc)

  module _ (numbers : List ℕ) (keys sorted kept : List Key) (named : AreNamed points numbers) (K : keys ≡ map (key_of points d) numbers) (moved : IsPermutation keys sorted) (up : IsSorted key_cmp sorted) (once : kept ≡ dedup key_eq sorted) where
    IsNumbered : Key → Type 0
    IsNumbered k = (k ≡ key_of points d k.number) × Contains numbers k.number

    all_numbered : All IsNumbered kept
    unfolding IsNumbered
    all_numbered =
        All-same IsNumbered kept (dedup key_eq sorted) once (All-dedup key_eq IsNumbered sorted (All-permutation IsNumbered keys sorted moved
        (All-same IsNumbered keys (map (key_of points d) numbers) K (All-map IsNumbered (key_of points d) numbers (λ k e l. (refl, Contains-get_or numbers k e l))))))

    strict : AllPairs (λ x y. key_cmp x y ≡ Less) kept
    strict = strict_pairs key_cmp kept (subst (IsStrictlySortedBy key_cmp) (sym once) (IsStrictlySortedBy-dedup key_total key_ties sorted up))

    abbrev no_key : Key
    no_key = record { along = pos 0; aside = pos 0; number = 0 }

    abbrev number : Key → ℕ
    number k = k.number

    ascend : AllPairs (λ i j. ComesBefore d.a d.b (point points i) (point points j)) (map number kept)
    unfolding IsNumbered
    ascend i j e l m =
        subst₂ (λ r s. ComesBefore d.a d.b (point points r) (point points s)) (sym (get_or-map number kept i no_key e low)) (sym (get_or-map number kept j no_key e high'))
        (before_by x.number y.number (named y.number second.1) (subst₂ (λ r s. key_cmp r s ≡ Less) first.0 second.0 (strict i j no_key l high')))
      where
        high' : j < length kept
        high' = let h = length-map kept number in omega (arith, m, h)

        low : i < length kept
        low = omega (arith, l, high')

        x : Key
        x = get_or kept i no_key

        y : Key
        y = get_or kept j no_key

        first : IsNumbered (get_or kept i no_key)
        first = All-get_or IsNumbered kept i no_key low all_numbered

        second : IsNumbered (get_or kept j no_key)
        second = All-get_or IsNumbered kept j no_key high' all_numbered

    all_kept : (i : ℕ) → Contains numbers i → Contains (map number kept) i
    all_kept i h =
        contains_map number kept (key_of points d i) (subst (λ ks. Contains ks (key_of points d i)) (sym once)
        (Contains-dedup key_equiv key_same sorted (key_of points d i) (Contains-permutation keys sorted (key_of points d i) moved (subst (λ ks. Contains ks (key_of points d i)) (sym K) (contains_map (key_of points d) numbers i h)))))

    no_other : (i : ℕ) → Contains (map number kept) i → Contains numbers i
    unfolding IsNumbered
    no_other i h = by_key (mapped number kept no_key i h)
      where
        by_key : (k : Key) × Contains kept k × (k.number ≡ i) → Contains numbers i
        by_key (k, m, e) = subst (Contains numbers) e (All-contains IsNumbered kept k all_numbered m).1

    pub ordered : AreInOrder points d.a d.b numbers (map number kept)
    ordered = record { ascend = ascend; kept = all_kept; no_other = no_other }
