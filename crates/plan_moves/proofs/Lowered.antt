-- Which moves lower the total of a plan, and the first of them.
use Rattle.std.proofs.Common.{◌≡◌, ◌∙◌, ℕ, zero, suc, ◌+◌, ◌<◌, Bool, true, false, cond, Option, Some, None, List, [], ◌∷◌, ◌++◌, length, get_or, drop, slice_get, refl, sym, ap, subst, subst₂, arith, drop-cons}
use Rattle.std.specs.Prelude.{◌↔◌, IsTrue, nat_lt, find}
use Rattle.std.proofs.lemmas.Option.{get_or_from_slice_get}
use Rattle.std.proofs.lemmas.List.Elements.{Contains-get_or}
use Rattle.geo_orient.specs.declared.Point.{Point}
use Rattle.edge_table.specs.declared.edge.Edge.{Edge}
use Rattle.tri_theory.specs.Flips.{Flips}
use Rattle.tri_check.specs.Problems.{IsProblem}
use Rattle.plan_law.specs.Images.{image_of}
use Rattle.plan_law.specs.Plans.{IsInstance, Plan, IsPlanOf, plan_total, with_flip, followed, followed_all, lowers, moves, first_lowering}
use Rattle.plan_law.proofs.Images.{find_passes}
use Rattle.plan_law.proofs.Plans.{lowers_means}
use Rattle.plan_law.proofs.Proved.{images_are_found, centres_are_triangulations}
use Rattle.plan_core.specs.HeldPlans.{TotalsAfter}
use Rattle.plan_moves.specs.Ways.{Follows, IsFirstStep}

-- ---- elements of a list, one after the other
pub apart : {X : Type 0} (xs : List X) (i : ℕ) (x : X) → i < length xs → slice_get xs i ≡ Some x → drop i xs ≡ x ∷ drop (i + 1) xs
apart xs i x h s = drop-cons xs i x h ∙ (ap (λ y. y ∷ drop (suc i) xs) (get_or_from_slice_get xs i x x s) ∙ ap (λ k. x ∷ drop k xs) next)
  where
    next : suc i ≡ i + 1
    next = omega arith

pub find_on : {X : Type 0} (test : X → Bool) (xs : List X) (i : ℕ) (x : X) → i < length xs → slice_get xs i ≡ Some x → test x ≡ false → find test (drop i xs) ≡ find test (drop (i + 1) xs)
find_on test xs i x h s f = ap (find test) (apart xs i x h s) ∙ ap (λ b. cond b (Some x) (find test (drop (i + 1) xs))) f

pub find_here : {X : Type 0} (test : X → Bool) (xs : List X) (i : ℕ) (x : X) → i < length xs → slice_get xs i ≡ Some x → test x ≡ true → find test (drop i xs) ≡ Some x
find_here test xs i x h s f = ap (find test) (apart xs i x h s) ∙ ap (λ b. cond b (Some x) (find test (drop (i + 1) xs))) f

-- the element at a place
pub there : {X : Type 0} (xs : List X) (k : ℕ) (d x : X) → k < length xs → get_or xs k d ≡ x → slice_get xs k ≡ Some x
there [] k d x l e = absurd (omega arith)
there (y ∷ xs) zero d x l e = ap (λ z. Some z) e
there (y ∷ xs) (suc k) d x l e = there xs k d x (omega arith) e

-- the only element
pub alone : {X : Type 0} (xs : List X) (x : X) → length xs ≡ 1 → slice_get xs 0 ≡ Some x → xs ≡ x ∷ []
alone [] x l s = absurd (cc)
alone (y ∷ []) x l s = ap (λ z. z ∷ []) (get_or_from_slice_get (y ∷ []) 0 x y s)
alone (y ∷ z ∷ xs) x l s = absurd (omega arith)

-- ---- following
pub instance_of : (points : List Point) (inputs : List (List Edge)) → IsProblem points inputs → IsInstance points inputs
instance_of points inputs p = record {
  placed = p.placed;
  triangulated = λ k d l. p.triangulated (get_or inputs k d) (Contains-get_or inputs k d l);
  some_input = (let h = p.some_input in omega arith);
}

-- an edge that doesn't flip can't be followed
pub not_followed : (points : List Point) (inputs : List (List Edge)) (plan : Plan) (e : Edge) → IsProblem points inputs → IsPlanOf points inputs plan → ¬ Flips points plan.centre e → followed points plan e ≡ None
not_followed points inputs plan e p h n = by_image (image_of points plan.centre e) refl
  where
    N : IsInstance points inputs
    N = instance_of points inputs p

    by_image : (r : Option Edge) → image_of points plan.centre e ≡ r → followed points plan e ≡ None
    by_image None i = ap (λ r. elim r as (λ _. Option Plan) [ Some f ↦ Some (with_flip plan (record { edge = e; image = f })) | None ↦ None ]) i
    by_image (Some f) i = absurd (n (f, (images_are_found points plan.centre e f N.placed (centres_are_triangulations points inputs plan N h)).0 i))

pub followed_first : (points : List Point) (plan next : Plan) (e : Edge) (es : List Edge) → followed points plan e ≡ Some next → followed_all points plan (e ∷ es) ≡ followed_all points next es
followed_first points plan next e es i = ap (λ r. elim r as (λ _. Option Plan) [ Some mid ↦ followed_all points mid es | None ↦ None ]) i

pub followed_not : (points : List Point) (plan : Plan) (e : Edge) (es : List Edge) → followed points plan e ≡ None → followed_all points plan (e ∷ es) ≡ None
followed_not points plan e es i = ap (λ r. elim r as (λ _. Option Plan) [ Some mid ↦ followed_all points mid es | None ↦ None ]) i

pub not_true : (b : Bool) → b ≡ false → IsTrue b → ⊥
not_true b e t = absurd (cc)

-- following stops at an edge that doesn't flip
pub stops : (start points : List Point) (inputs : List (List Edge)) (plan now : Plan) (es : List Edge) (i : ℕ) (e : Edge) (flips : Bool)
    → points ≡ start → IsProblem points inputs → IsPlanOf points inputs now → (IsTrue flips ↔ Flips points now.centre e) → flips ≡ false → i < length es → slice_get es i ≡ Some e
    → followed_all start plan es ≡ followed_all start now (drop i es) → followed_all start plan es ≡ None
stops start points inputs plan now es i e flips same p h t n l s r =
    r ∙ (ap (followed_all start now) (apart es i e l s) ∙ subst (λ ps. followed_all ps now (e ∷ drop (i + 1) es) ≡ None) same (followed_not points now e (drop (i + 1) es) none))
  where
    none : followed points now e ≡ None
    none = not_followed points inputs now e p h (λ f. not_true flips n (t.1 f))

-- and goes on with one that flips
pub follows_on : (start points : List Point) (plan now next : Plan) (es : List Edge) (i : ℕ) (e : Edge) → points ≡ start → followed points now e ≡ Some next → i < length es → slice_get es i ≡ Some e
    → followed_all start plan es ≡ followed_all start now (drop i es) → followed_all start plan es ≡ followed_all start next (drop (i + 1) es)
follows_on start points plan now next es i e same f l s r =
    r ∙ (ap (followed_all start now) (apart es i e l s) ∙ followed_first start now next e (drop (i + 1) es) (subst (λ ps. followed ps now e ≡ Some next) same f))

-- edges are followed by others
pub followed_then : (points : List Point) (plan next : Plan) (es fs : List Edge) → followed_all points plan es ≡ Some next → followed_all points plan (es ++ fs) ≡ followed_all points next fs
followed_then points plan next [] fs i = let e : plan ≡ next = cc in ap (λ p. followed_all points p fs) e
followed_then points plan next (e ∷ es) fs i = by_next (followed points plan e) refl i (λ mid k. followed_then points mid next es fs k)
  where
    by_next : (r : Option Plan) → followed points plan e ≡ r → elim r [ Some mid ↦ followed_all points mid es | None ↦ None ] ≡ Some next
        → ((mid : Plan) → followed_all points mid es ≡ Some next → followed_all points mid (es ++ fs) ≡ followed_all points next fs) → followed_all points plan (e ∷ (es ++ fs)) ≡ followed_all points next fs
    by_next None j k _ = absurd (cc)
    by_next (Some mid) j k again = followed_first points plan mid e (es ++ fs) j ∙ again mid k

-- ---- lowering
pub lowers_where : (points : List Point) (plan next : Plan) (es : List Edge) → followed_all points plan es ≡ Some next → lowers points plan es ≡ nat_lt (plan_total next) (plan_total plan)
lowers_where points plan next es i = ap (λ r. elim r as (λ _. Bool) [ Some next ↦ nat_lt (plan_total next) (plan_total plan) | None ↦ false ]) i

pub lowers_nowhere : (points : List Point) (plan : Plan) (es : List Edge) → followed_all points plan es ≡ None → lowers points plan es ≡ false
lowers_nowhere points plan es i = ap (λ r. elim r as (λ _. Bool) [ Some next ↦ nat_lt (plan_total next) (plan_total plan) | None ↦ false ]) i

-- one edge
pub lowers_one : (points : List Point) (plan : Plan) (e : Edge) (n : ℕ) → TotalsAfter points plan e n → lowers points plan (e ∷ []) ≡ nat_lt n (plan_total plan)
lowers_one points plan e n (next, i, t) = lowers_where points plan next (e ∷ []) (followed_first points plan next e [] i) ∙ ap (λ m. nat_lt m (plan_total plan)) (sym t)

-- the first lowering move can be made, and the total is lower then
pub first_made : (points : List Point) (plan : Plan) (move : List Edge) → first_lowering points plan ≡ Some move → (next : Plan) × (followed_all points plan move ≡ Some next) × (plan_total next < plan_total plan)
first_made points plan move e = lowers_means points plan move (find_passes (lowers points plan) (moves points plan) move e)

pub first_follows : (start points : List Point) (plan was next : Plan) (move : List Edge) (all : Bool) → points ≡ start → was ≡ plan → first_lowering start plan ≡ Some move → Follows points was move all next
    → IsFirstStep start plan move next
first_follows start points plan was next move all same kept e f = by_all all (subst₂ (λ ps p. Follows ps p move all next) same kept f)
  where
    by_made : followed_all start plan move ≡ None → (end : Plan) × (followed_all start plan move ≡ Some end) × (plan_total end < plan_total plan) → IsFirstStep start plan move next
    by_made g (end, i, l) = absurd (cc)

    by_all : (b : Bool) → Follows start plan move b next → IsFirstStep start plan move next
    by_all true g = record { first = e; leads = g }
    by_all false g = by_made g (first_made start plan move e)

pub first_lower : (points : List Point) (plan next : Plan) (move : List Edge) → IsFirstStep points plan move next → plan_total next < plan_total plan
first_lower points plan next move F = by_made (first_made points plan move F.first)
  where
    by_made : (end : Plan) × (followed_all points plan move ≡ Some end) × (plan_total end < plan_total plan) → plan_total next < plan_total plan
    by_made (end, i, l) = let j = F.leads in let k : end ≡ next = cc in let t = ap plan_total k in omega (arith, t, l)
