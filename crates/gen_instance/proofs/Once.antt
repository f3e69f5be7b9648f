-- A seed names one instance.
use Rattle.std.proofs.Common.{◌≡◌, ◌∙◌, sym, ap, refl, ℕ, suc, List, [], ◌∷◌, length, map, slice_get, Some}
use Rattle.tri_check.specs.declared.raw.RawPair.{RawPair}
use Rattle.geo_orient.specs.declared.Point.{Point}
use Rattle.sweep_law.specs.Sweeps.{sweep_pairs}
use Rattle.sweep_law.proofs.Proved.{sweep_orders_are_unique}
use Rattle.gen_instance.specs.declared.direction.Direction.{Direction}
use Rattle.gen_instance.specs.Generated.{IsSweptAlong, raw_pair, points_of, direction_of}
use Rattle.gen_instance.specs.Laws.{InstancesAreGeneratedOnce}

swept_once : (points : List Point) (d : Direction) (pairs others : List RawPair) → IsSweptAlong points d pairs → IsSweptAlong points d others → pairs ≡ others
swept_once points d pairs others S T =
    S.lists ∙ ap (λ order. map raw_pair (sweep_pairs points order)) (sweep_orders_are_unique points d.a d.b S.order T.order S.orders T.orders) ∙ sym T.lists

-- lists of one length whose items at equal places are equal
lists_once : {X : Type 0} (xs ys : List X) → length xs ≡ length ys → ((t : ℕ) (x y : X) → slice_get xs t ≡ Some x → slice_get ys t ≡ Some y → x ≡ y) → xs ≡ ys
lists_once [] [] e same = refl
lists_once [] (y ∷ ys) e same = cc
lists_once (x ∷ xs) [] e same = cc
lists_once (x ∷ xs) (y ∷ ys) e same = λ i. same 0 x y refl refl i ∷ lists_once xs ys (cc e) (λ t v w a b. same (suc t) v w a b) i

pub instances_are_generated_once : InstancesAreGeneratedOnce
instances_are_generated_once seed n m raw other G H =
    let inputs = lists_once raw.inputs other.inputs (G.count ∙ sym H.count) (λ t pairs others a b. swept_once (points_of seed n) (direction_of seed t) pairs others (G.inputs t pairs a) (H.inputs t others b)) in
    let uid = G.uid ∙ sym H.uid in
    let points = G.points ∙ sym H.points in
    let weights = G.weights ∙ sym H.weights in
    ap (λ u. record raw { uid = u }) uid
    ∙ (ap (λ ps. record raw { uid = other.uid; points = ps }) points
    ∙ (ap (λ is. record raw { uid = other.uid; points = other.points; inputs = is }) inputs
    ∙ ap (λ ws. record raw { uid = other.uid; points = other.points; inputs = other.inputs; weights = ws }) weights))
