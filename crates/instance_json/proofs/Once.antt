-- A text spells one raw instance at most.
use Rattle.std.proofs.Common.{◌≡◌, ◌∙◌, sym, ap, ap₂, refl, subst, ℕ, List, [], ◌∷◌, map, drop, length, ℤ, Some, None, slice_index_or}
use Rattle.std.specs.Prelude.{Option}
use Rattle.geo_orient.specs.declared.Point.{Point}
use Rattle.serde_json.specs.Data.{Data}
use Rattle.serde_json.specs.Find.{as_str, get}
use Rattle.tri_check.specs.declared.raw.RawInstance.{RawInstance}
use Rattle.json_value.specs.Values.{IsNumber, IsPairOf, Lists}
use Rattle.json_value.proofs.Once.{some_once, lists_once, number_once, pair_once}
use Rattle.instance_json.specs.declared.fault.Member.{Member}
use Rattle.instance_json.specs.declared.fault.Member.TheVariants.{Uid, PointsX, PointsY, Triangulations, Weights}
use Rattle.instance_json.specs.Members.{IsAt, name_of}
use Rattle.instance_json.specs.Forms.{IsWeights, IsRaw, Spells}

-- points are their coordinates
points_once : (ps qs : List Point) → map (λ (p : Point). p.x) ps ≡ map (λ (p : Point). p.x) qs → map (λ (p : Point). p.y) ps ≡ map (λ (p : Point). p.y) qs → ps ≡ qs
points_once [] [] e f = refl
points_once [] (q ∷ qs) e f = cc
points_once (p ∷ ps) [] e f = cc
points_once (p ∷ ps) (q ∷ qs) e f =
    ap₂ (λ first rest. first ∷ rest)
    (ap₂ (λ a b. let point : Point = record { x = a; y = b } in point) (ap (λ zs. slice_index_or zs 0 p.x) e) (ap (λ zs. slice_index_or zs 0 p.y) f))
    (points_once ps qs (ap (λ zs. drop 1 zs) e) (ap (λ zs. drop 1 zs) f))

-- the value at a member is one
at_once : (P : Data → Type 0) (d : Data) (m : Member) (v w : Data) → IsAt d m v → IsAt d m w → P w → P v
at_once P d m v w e f p = subst P (sym (some_once v w (sym e ∙ f))) p

weights_once : (o : Option Data) (n : ℕ) (ws vs : List ℤ) → IsWeights o n ws → IsWeights o n vs → ws ≡ vs
weights_once None n ws vs a b = a ∙ sym b
weights_once (Some v) n ws vs a b = lists_once IsNumber number_once v ws vs a b

raw_once : (d : Data) (r s : RawInstance) → IsRaw d r → IsRaw d s → r ≡ s
raw_once d r s a b =
    let uid = some_once r.uid s.uid (sym a.uid.2 ∙ at_once (λ v. as_str v ≡ Some s.uid) d Uid a.uid.0 b.uid.0 a.uid.1 b.uid.1 b.uid.2) in
    let xs = lists_once IsNumber number_once a.xs.0 _ _ a.xs.2 (at_once (λ v. Lists IsNumber v (map (λ (p : Point). p.x) s.points)) d PointsX a.xs.0 b.xs.0 a.xs.1 b.xs.1 b.xs.2) in
    let ys = lists_once IsNumber number_once a.ys.0 _ _ a.ys.2 (at_once (λ v. Lists IsNumber v (map (λ (p : Point). p.y) s.points)) d PointsY a.ys.0 b.ys.0 a.ys.1 b.ys.1 b.ys.2) in
    let inputs = lists_once (Lists IsPairOf) (lists_once IsPairOf pair_once) a.inputs.0 r.inputs s.inputs a.inputs.2 (at_once (λ v. Lists (Lists IsPairOf) v s.inputs) d Triangulations a.inputs.0 b.inputs.0 a.inputs.1 b.inputs.1 b.inputs.2) in
    let weights = weights_once (get (name_of Weights) d) (length r.inputs) r.weights s.weights a.weights (subst (λ is. IsWeights (get (name_of Weights) d) (length is) s.weights) (sym inputs) b.weights) in
    ap (λ u. record r { uid = u }) uid
    ∙ (ap (λ ps. record r { uid = s.uid; points = ps }) (points_once r.points s.points xs ys)
    ∙ (ap (λ is. record r { uid = s.uid; points = s.points; inputs = is }) inputs
    ∙ ap (λ ws. record r { uid = s.uid; points = s.points; inputs = s.inputs; weights = ws }) weights))

pub spelled_once : (bytes : List ℕ) (r s : RawInstance) → Spells bytes r → Spells bytes s → r ≡ s
spelled_once bytes r s a b =
    let same = some_once a.value b.value (sym a.text.1 ∙ b.text.1) in
    raw_once a.value r s a.is (subst (λ d. IsRaw d s) (sym same) b.is)
