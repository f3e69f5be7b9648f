-- What a table says of a member at its place.
use Rattle.std.proofs.Common.{◌≡◌, ◌⊎◌, inl, inr, ℕ, zero, suc, ◌+◌, ◌<◌, ◌≤◌, min, max, Bool, true, false, cond, List, [], ◌∷◌, length, Contains, Some, slice_get, slice_index_or, refl, sym, ap, ◌∙◌, subst, subst₂, arith}
use Rattle.std.proofs.lemmas.Option.{slice_get_within, slice_get-get_or, get_or_from_slice_get}
use Rattle.edge_table.specs.declared.edge.Edge.{Edge}
use Rattle.edge_table.specs.Edges.{edge, is_edge, IsBefore, IsAscending}
use Rattle.edge_table.proofs.Edges.{edge_of, edge_swap, is_edge-Decides, contains_later, contains_here}
use Rattle.edge_table.proofs.Ascending.{not_before_itself}
use Rattle.geo_orient.specs.declared.Point.{Point}
use Rattle.tri_theory.specs.Points.{ArePlaced}
use Rattle.tri_theory.specs.Triangulations.{AreJoined, IsTriangulation}
use Rattle.planar_law.specs.Patches.{HasThird}
use Rattle.planar_law.proofs.Proved.{patches_are_triangulations}
use Rattle.tri_check.specs.Stages.{AreEdges, AreHull, IsEnd, AllBefore}
use Rattle.tri_check.proofs.Searches.{split}
use Rattle.tri_check.specs.declared.table.Thirds.{Thirds}
use Rattle.tri_check.specs.Tables.{third, Fits, IsTableOf}

abbrev AreOrdered : List Edge → Type 0
AreOrdered edges = (e : Edge) → Contains edges e → e.0 < e.1

yes_edge : (e f : Edge) → e ≡ f → is_edge e f ≡ true
yes_edge e f h = (is_edge-Decides e f).1 h

no_edge : (e f : Edge) → ¬ (e ≡ f) → is_edge e f ≡ false
no_edge e f n = by_value (is_edge e f) refl
  where
    by_value : (b : Bool) → is_edge e f ≡ b → is_edge e f ≡ false
    by_value true h = absurd (n ((is_edge-Decides e f).0 h))
    by_value false h = h

skip : (b c : Bool) (x y z : ℕ) → b ≡ false → c ≡ false → cond b x (cond c y z) ≡ z
skip b c x y z e f = ap (λ t. cond t x (cond c y z)) e ∙ ap (λ t. cond t y z) f

take_first : (b : Bool) (x z : ℕ) → b ≡ true → cond b x z ≡ x
take_first b x z e = ap (λ t. cond t x z) e

take_second : (b c : Bool) (x y z : ℕ) → b ≡ false → c ≡ true → cond b x (cond c y z) ≡ y
take_second b c x y z e f = ap (λ t. cond t x (cond c y z)) e ∙ ap (λ t. cond t y z) f

tail_ascending : (f : Edge) (es : List Edge) → IsAscending (f ∷ es) → IsAscending es
tail_ascending f es up = λ i j d h k. up (suc i) (suc j) d (omega arith) (omega arith)

first_before : (f : Edge) (es : List Edge) (k : ℕ) (e : Edge) → IsAscending (f ∷ es) → slice_get es k ≡ Some e → IsBefore f e
first_before f es k e up h = subst (IsBefore f) (get_or_from_slice_get es k e e h) (up 0 (suc k) e (omega arith) (let l = slice_get_within es k e h in omega (arith, l)))

apart : (f e : Edge) → IsBefore f e → ¬ (f ≡ e)
apart f e b i = not_before_itself e (subst (λ g. IsBefore g e) i b)

swapped : (f e : Edge) → f.0 < f.1 → e.0 < e.1 → ¬ (f ≡ (e.1, e.0))
swapped f e h k i = let i0 = ap (λ (g : Edge). g.0) i in let i1 = ap (λ (g : Edge). g.1) i in omega (arith, i0, i1, h, k)

head_in : (f : Edge) (es : List Edge) → Contains (f ∷ es) f
head_in f es = contains_here f f es refl

pub third_left : (edges : List Edge) (table : List Thirds) (i : ℕ) (e : Edge) (d : Thirds) → AreOrdered edges → IsAscending edges → length table ≡ length edges → slice_get edges i ≡ Some e → third edges table e.0 e.1 ≡ (slice_index_or table i d).left
unfolding third
third_left [] table i e d low up len h = absurd (let l = slice_get_within [] i e h in omega (arith, l))
third_left (f ∷ es) [] i e d low up len h = absurd (omega (arith, len))
third_left (f ∷ es) (t ∷ ts) zero e d low up len h = take_first _ _ _ (yes_edge f e (get_or_from_slice_get (f ∷ es) 0 e e h))
third_left (f ∷ es) (t ∷ ts) (suc k) e d low up len h =
    let before = first_before f es k e up h in let later = low e (contains_later e f es (k, slice_get_within es k e h, get_or_from_slice_get es k e e h)) in
    skip _ _ _ _ _ (no_edge f e (apart f e before)) (no_edge f (e.1, e.0) (swapped f e (low f (head_in f es)) later))
    ∙ third_left es ts k e d (λ g m. low g (contains_later g f es m)) (tail_ascending f es up) (omega (arith, len)) h

pub third_right : (edges : List Edge) (table : List Thirds) (i : ℕ) (e : Edge) (d : Thirds) → AreOrdered edges → IsAscending edges → length table ≡ length edges → slice_get edges i ≡ Some e → third edges table e.1 e.0 ≡ (slice_index_or table i d).right
unfolding third
third_right [] table i e d low up len h = absurd (let l = slice_get_within [] i e h in omega (arith, l))
third_right (f ∷ es) [] i e d low up len h = absurd (omega (arith, len))
third_right (f ∷ es) (t ∷ ts) zero e d low up len h =
    let same = get_or_from_slice_get (f ∷ es) 0 e e h in let l = low f (head_in f es) in
    take_second _ _ _ _ _ (no_edge f (e.1, e.0) (swapped f e l (subst (λ (g : Edge). g.0 < g.1) same l))) (yes_edge f (e.0, e.1) same)
third_right (f ∷ es) (t ∷ ts) (suc k) e d low up len h =
    let before = first_before f es k e up h in let later = low e (contains_later e f es (k, slice_get_within es k e h, get_or_from_slice_get es k e e h)) in
    skip _ _ _ _ _ (no_edge f (e.1, e.0) (swapped f e (low f (head_in f es)) later)) (no_edge f e (apart f e before))
    ∙ third_right es ts k e d (λ g m. low g (contains_later g f es m)) (tail_ascending f es up) (omega (arith, len)) h

-- ---- the way between two joined points
pub joined_at : (edges : List Edge) (i : ℕ) (e : Edge) (a b : ℕ) → slice_get edges i ≡ Some e → e ≡ edge a b → AreJoined edges a b
joined_at edges i e a b h is = subst (Contains edges) is (i, slice_get_within edges i e h, get_or_from_slice_get edges i e e h)

up_of : (edges : List Edge) (table : List Thirds) (e : Edge) (a b : ℕ) (x : ℕ) → e ≡ edge a b → a < b → third edges table e.0 e.1 ≡ x → third edges table a b ≡ x
up_of edges table e a b x is l h = subst (λ (g : Edge). third edges table g.0 g.1 ≡ x) (is ∙ edge_of (a, b) l) h

down_of : (edges : List Edge) (table : List Thirds) (e : Edge) (a b : ℕ) (x : ℕ) → e ≡ edge a b → b < a → third edges table e.1 e.0 ≡ x → third edges table a b ≡ x
down_of edges table e a b x is l h = subst (λ (g : Edge). third edges table g.1 g.0 ≡ x) (is ∙ edge_swap a b ∙ edge_of (b, a) l) h

pub third_up : (edges : List Edge) (table : List Thirds) (i : ℕ) (e : Edge) (d : Thirds) (a b : ℕ) → IsTableOf edges table → slice_get edges i ≡ Some e → e ≡ edge a b → a < b → third edges table a b ≡ (slice_index_or table i d).left
third_up edges table i e d a b I h is l = up_of edges table e a b _ is l (third_left edges table i e d I.low_first I.ascending I.count h)

pub third_down : (edges : List Edge) (table : List Thirds) (i : ℕ) (e : Edge) (d : Thirds) (a b : ℕ) → IsTableOf edges table → slice_get edges i ≡ Some e → e ≡ edge a b → b ≤ a → third edges table a b ≡ (slice_index_or table i d).right
third_down edges table i e d a b I h is n = down_of edges table e a b _ is (below (I.low_first (edge a b) (joined_at edges i e a b h is))) (third_right edges table i e d I.low_first I.ascending I.count h)
  where
    below : min a b < max a b → b < a
    below l = omega (arith, l, n)

-- ---- the two ways of a member
module _ (edges : List Edge) (table : List Thirds) (i : ℕ) (e : Edge) (d : Thirds) (x y : ℕ) (I : IsTableOf edges table) (h : slice_get edges i ≡ Some e) (hx : x ≡ e.0) (hy : y ≡ e.1) where
  there : Contains edges e
  there = (i, slice_get_within edges i e h, get_or_from_slice_get edges i e e h)

  pub joined_up : AreJoined edges x y
  joined_up = subst₂ (AreJoined edges) (sym hx) (sym hy) (subst (Contains edges) (sym (edge_of e (I.low_first e there))) there)

  pub joined_down : AreJoined edges y x
  joined_down = subst (Contains edges) (edge_swap x y) joined_up

  pub third_is_left : third edges table x y ≡ (slice_index_or table i d).left
  third_is_left = subst₂ (λ u v. third edges table u v ≡ (slice_index_or table i d).left) (sym hx) (sym hy) (third_left edges table i e d I.low_first I.ascending I.count h)

  pub third_is_right : third edges table y x ≡ (slice_index_or table i d).right
  third_is_right = subst₂ (λ u v. third edges table v u ≡ (slice_index_or table i d).right) (sym hx) (sym hy) (third_right edges table i e d I.low_first I.ascending I.count h)

module _ (points : List Point) (edges : List Edge) (table : List Thirds) (i : ℕ) (e : Edge) (x y : ℕ) (h : slice_get edges i ≡ Some e) (hx : x ≡ e.0) (hy : y ≡ e.1) where
  same_member : (f : Edge) → slice_get edges i ≡ Some f → e ≡ f
  same_member f k = sym (get_or_from_slice_get edges i e e h) ∙ get_or_from_slice_get edges i f e k

  pub fits_both : HasThird points edges (third edges table) x y → HasThird points edges (third edges table) y x → (f : Edge) → slice_get edges i ≡ Some f → Fits points edges table f
  fits_both l r f k = subst (Fits points edges table) (same_member f k) (inl (subst₂ (HasThird points edges (third edges table)) hx hy l, subst₂ (HasThird points edges (third edges table)) hy hx r))

  pub fits_one : (hull : List Edge) → AreHull points hull → Contains hull e → HasThird points edges (third edges table) x y ⊎ HasThird points edges (third edges table) y x → (f : Edge) → slice_get edges i ≡ Some f → Fits points edges table f
  fits_one hull H m some f k = subst (Fits points edges table) (same_member f k) (inr ((H.members e).0 m, named some))
    where
      named : HasThird points edges (third edges table) x y ⊎ HasThird points edges (third edges table) y x → HasThird points edges (third edges table) e.0 e.1 ⊎ HasThird points edges (third edges table) e.1 e.0
      named (inl l) = inl (subst₂ (HasThird points edges (third edges table)) hx hy l)
      named (inr r) = inr (subst₂ (HasThird points edges (third edges table)) hy hx r)

-- ---- all members fit, and all points are ends
pub triangulated : (points : List Point) (edges : List Edge) (table : List Thirds) → ArePlaced points → AreEdges points edges → IsAscending edges → ((p : ℕ) → p < length points → IsEnd edges p) → ((e : Edge) → Contains edges e → Fits points edges table e) → IsTriangulation points edges
triangulated points edges table P E up ends sides = patches_are_triangulations points edges (third edges table) P (record { ascending = up; low_first = E.low_first; in_range = E.in_range; ends = ends; sides = sides })

pub fits_more : (points : List Point) (edges : List Edge) (table : List Thirds) (i : ℕ) → i < length edges → AllBefore edges (Fits points edges table) i → ((e : Edge) → slice_get edges i ≡ Some e → Fits points edges table e) → AllBefore edges (Fits points edges table) (i + 1)
fits_more points edges table i l below here k d h = by_cases (split i k h)
  where
    by_cases : (k < i) ⊎ (k ≡ i) → Fits points edges table (slice_index_or edges k d)
    by_cases (inl m) = below k d m
    by_cases (inr e) = here (slice_index_or edges k d) (subst (λ j. slice_get edges j ≡ Some (slice_index_or edges k d)) e (slice_get-get_or edges k d (omega (arith, e, l))))
