-- Edges that are followed in turn, up to the first that doesn't flip.
use Rattle.std.proofs.Common.{◌≡◌, ◌∙◌, ℕ, ◌+◌, ◌<◌, Bool, false, Option, Some, None, List, [], ◌∷◌, ◌++◌, length, get_or, take, slice_get, refl, ap, subst, arith}
use Rattle.std.specs.Prelude.{◌↔◌, IsTrue}
use Rattle.std.proofs.lemmas.Option.{get_or_from_slice_get}
use Rattle.std.proofs.lemmas.List.{take_more}
use Rattle.std.proofs.lemmas.List.Elements.{Contains-get_or}
use Rattle.geo_orient.specs.declared.Point.{Point}
use Rattle.edge_table.specs.declared.edge.Edge.{Edge}
use Rattle.tri_theory.specs.Flips.{Flips}
use Rattle.tri_check.specs.Problems.{IsProblem}
use Rattle.plan_law.specs.Images.{image_of}
use Rattle.plan_law.specs.Plans.{IsInstance, Plan, IsPlanOf, followed, followed_all}
use Rattle.plan_law.specs.Worlds.{StopsAt}
use Rattle.plan_law.proofs.Proved.{images_are_found, centres_are_triangulations}

pub instance_of : (points : List Point) (inputs : List (List Edge)) → IsProblem points inputs → IsInstance points inputs
instance_of points inputs p = record {
  placed = p.placed;
  triangulated = λ k d l. p.triangulated (get_or inputs k d) (Contains-get_or inputs k d l);
  some_input = (let h = p.some_input in omega arith);
}

-- the next edge of a list
taken_on : (es : List Edge) (i : ℕ) (e : Edge) → i < length es → slice_get es i ≡ Some e → take (i + 1) es ≡ take i es ++ e ∷ []
taken_on es i e l s = take_more es i e l ∙ ap (λ x. take i es ++ x ∷ []) (get_or_from_slice_get es i e e s)

followed_then : (points : List Point) (plan next : Plan) (es fs : List Edge) → followed_all points plan es ≡ Some next → followed_all points plan (es ++ fs) ≡ followed_all points next fs
followed_then points plan next [] fs i = let e : plan ≡ next = cc in ap (λ p. followed_all points p fs) e
followed_then points plan next (e ∷ es) fs i = by_next (followed points plan e) refl i (λ mid k. followed_then points mid next es fs k)
  where
    by_next : (r : Option Plan) → followed points plan e ≡ r → elim r [ Some mid ↦ followed_all points mid es | None ↦ None ] ≡ Some next
        → ((mid : Plan) → followed_all points mid es ≡ Some next → followed_all points mid (es ++ fs) ≡ followed_all points next fs) → followed_all points plan (e ∷ (es ++ fs)) ≡ followed_all points next fs
    by_next None j k _ = absurd (cc)
    by_next (Some mid) j k again = ap (λ r. elim r as (λ _. Option Plan) [ Some mid ↦ followed_all points mid (es ++ fs) | None ↦ None ]) j ∙ again mid k

-- one more edge is followed
pub goes_on : (start points : List Point) (plan now next : Plan) (es : List Edge) (i : ℕ) (e : Edge) → points ≡ start → followed points now e ≡ Some next → i < length es → slice_get es i ≡ Some e
    → followed_all start plan (take i es) ≡ Some now → followed_all start plan (take (i + 1) es) ≡ Some next
goes_on start points plan now next es i e same f l s r =
    ap (followed_all start plan) (taken_on es i e l s) ∙ (followed_then start plan now (take i es) (e ∷ []) r ∙ subst (λ ps. followed_all ps now (e ∷ []) ≡ Some next) same (ap (λ r. elim r as (λ _. Option Plan) [ Some mid ↦ Some mid | None ↦ None ]) f))

no_image : (points : List Point) (inputs : List (List Edge)) (plan : Plan) (e : Edge) → IsProblem points inputs → IsPlanOf points inputs plan → ¬ Flips points plan.centre e → image_of points plan.centre e ≡ None
no_image points inputs plan e p h n = by_image (image_of points plan.centre e) refl
  where
    N : IsInstance points inputs
    N = instance_of points inputs p

    by_image : (r : Option Edge) → image_of points plan.centre e ≡ r → image_of points plan.centre e ≡ None
    by_image None i = i
    by_image (Some f) i = absurd (n (f, (images_are_found points plan.centre e f N.placed (centres_are_triangulations points inputs plan N h)).0 i))

not_true : (b : Bool) → b ≡ false → IsTrue b → ⊥
not_true b e t = absurd (cc)

-- and following stops at one that doesn't flip
pub stops_at : (start points : List Point) (inputs : List (List Edge)) (plan now : Plan) (es : List Edge) (i : ℕ) (e : Edge) (flips : Bool)
    → points ≡ start → IsProblem points inputs → IsPlanOf points inputs now → (IsTrue flips ↔ Flips points now.centre e) → flips ≡ false → slice_get es i ≡ Some e
    → followed_all start plan (take i es) ≡ Some now → StopsAt start plan es i
stops_at start points inputs plan now es i e flips same p h t n s r =
    (e, now, s, r, subst (λ ps. image_of ps now.centre e ≡ None) same (no_image points inputs now e p h (λ f. not_true flips n (t.1 f))))
