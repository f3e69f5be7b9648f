-- A text spells one solution at most.
use Rattle.std.proofs.Common.{◌≡◌, ◌∙◌, sym, ap, ap₂, subst, ℕ, ℤ, pos, List, Some, unsigned_abs}
use Rattle.serde_json.specs.Data.{Data}
use Rattle.serde_json.specs.Find.{as_str}
use Rattle.tri_check.specs.declared.raw.RawPair.{RawPair}
use Rattle.edge_table.specs.declared.edge.Edge.{Edge}
use Rattle.edge_table.specs.Edges.{edge}
use Rattle.json_value.specs.Values.{IsPairOf, Lists}
use Rattle.json_value.proofs.Once.{some_once, lists_once, pair_once}
use Rattle.solution_json.specs.Edges.{IsEdgeOf, SpellsEdge}
use Rattle.solution_json.specs.declared.fault.SolMember.{SolMember}
use Rattle.solution_json.specs.declared.fault.SolMember.TheVariants.{Uid, Flips}
use Rattle.solution_json.specs.Members.{IsAt}
use Rattle.solution_json.specs.Forms.{IsSolution, Spells}
use Rattle.solution_json.specs.declared.solution.Solution.{Solution}

-- the absolute value, to take a number out of `pos`
pos_once : (a b : ℕ) → pos a ≡ pos b → a ≡ b
pos_once a b e = ap unsigned_abs e

edge_once : (pair : RawPair) (e f : Edge) → IsEdgeOf pair e → IsEdgeOf pair f → e ≡ f
edge_once pair e f (n, (a, b, first, second, is)) (m, (c, d, third, fourth, was)) =
    is ∙ (ap₂ edge (pos_once a c (sym first ∙ third)) (pos_once b d (sym second ∙ fourth)) ∙ sym was)

spelled_edge_once : (d : Data) (e f : Edge) → SpellsEdge d e → SpellsEdge d f → e ≡ f
spelled_edge_once d e f (p, l, is) (q, m, was) = edge_once p e f is (subst (λ r. IsEdgeOf r f) (sym (pair_once d p q l m)) was)

-- the value at a member is one
at_once : (P : Data → Type 0) (d : Data) (m : SolMember) (v w : Data) → IsAt d m v → IsAt d m w → P w → P v
at_once P d m v w e f p = subst P (sym (some_once v w (sym e ∙ f))) p

solution_once : (d : Data) (r s : Solution) → IsSolution d r → IsSolution d s → r ≡ s
solution_once d r s a b =
    let uid = some_once r.uid s.uid (sym a.uid.2 ∙ at_once (λ v. as_str v ≡ Some s.uid) d Uid a.uid.0 b.uid.0 a.uid.1 b.uid.1 b.uid.2) in
    let lists = lists_once (Lists (Lists SpellsEdge)) (lists_once (Lists SpellsEdge) (lists_once SpellsEdge spelled_edge_once)) a.lists.0 r.lists s.lists a.lists.2 (at_once (λ v. Lists (Lists (Lists SpellsEdge)) v s.lists) d Flips a.lists.0 b.lists.0 a.lists.1 b.lists.1 b.lists.2) in
    ap (λ u. record r { uid = u }) uid ∙ ap (λ ls. record r { uid = s.uid; lists = ls }) lists

pub spelled_once : (bytes : List ℕ) (r s : Solution) → Spells bytes r → Spells bytes s → r ≡ s
spelled_once bytes r s a b =
    let same = some_once a.value b.value (sym a.text.1 ∙ b.text.1) in
    solution_once a.value r s a.is (subst (λ d. IsSolution d s) (sym same) b.is)
