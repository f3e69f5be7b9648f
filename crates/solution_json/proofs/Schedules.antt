-- Pairs, rounds and lists of rounds, and the edges that they name.
use Rattle.std.proofs.Common.{◌≡◌, ◌∙◌, sym, ap, refl, subst, ℕ, ◌+◌, ◌<◌, List, [], ◌∷◌, ◌++◌, length, get_or, take, drop, Some}
use Rattle.std.specs.Prelude.{All, slice_get}
use Rattle.std.specs.List.{AllZip, flat_map}
use Rattle.std.proofs.lemmas.Grind.{flat_map-append}
use Rattle.std.proofs.lemmas.List.{append-nil, length-append, take_more}
use Rattle.std.proofs.lemmas.List.Elements.{All-append, All-nil, All-cons}
use Rattle.std.proofs.lemmas.Option.{get_or_from_slice_get}
use Rattle.edge_table.specs.declared.edge.Edge.{Edge}
use Rattle.tri_check.specs.declared.raw.RawPair.{RawPair}
use Rattle.json_value.specs.Values.{IsFirstNot}
use Rattle.json_value.proofs.Steps.{Reading, steps_other}
use Rattle.solution_json.specs.Edges.{NamesEdge, IsEdgeOf, OnPair, IsMoved, pairs_within}
use Rattle.solution_json.specs.Faults.{IsPairFault, OnPairs}
use Rattle.solution_json.specs.declared.edges.PairFault.{PairFault}
use Rattle.solution_json.specs.declared.edges.PairFault.TheVariants.{BadPair, OutOfMemory}
use Rattle.solution_json.specs.declared.fault.SolutionFault.{SolutionFault}
use Rattle.solution_json.specs.declared.fault.SolutionFault.TheVariants as faults

-- an element that a list has at a place
pub at_place : {X : Type 0} (xs : List X) (i : ℕ) (x : X) → slice_get xs i ≡ Some x → x ≡ get_or xs i x
at_place xs i x e = sym (get_or_from_slice_get xs i x x e)

pub singles : {X : Type 0} (xs : List X) → flat_map (λ x. x ∷ []) xs ≡ xs
singles [] = refl
singles (x ∷ xs) = ap (λ t. x ∷ t) (singles xs)

pub one_names : (pair : RawPair) (e : Edge) → IsEdgeOf pair e → All NamesEdge (pair ∷ [])
one_names pair e is = All-cons NamesEdge pair [] is.0 (All-nil NamesEdge)

pub one_bad : (pair : RawPair) → ¬ NamesEdge pair → IsFirstNot NamesEdge (pair ∷ []) 0
one_bad pair fails = ([], pair, [], refl, All-nil NamesEdge, fails, refl)

pub all_name : (pairs : List RawPair) (edges : List Edge) → AllZip IsEdgeOf pairs edges → All NamesEdge pairs
all_name [] edges z = All-nil NamesEdge
all_name (p ∷ pairs) [] z = absurd z
all_name (p ∷ pairs) (e ∷ edges) z = All-cons NamesEdge p pairs z.0.0 (all_name pairs edges z.1)

pub all_name_within : (raw : List (List RawPair)) (rounds : List (List Edge)) → AllZip (AllZip IsEdgeOf) raw rounds → All NamesEdge (pairs_within raw)
all_name_within [] rounds z = All-nil NamesEdge
all_name_within (p ∷ raw) [] z = absurd z
all_name_within (p ∷ raw) (e ∷ rounds) z = All-append NamesEdge p (pairs_within raw) (all_name p e z.0) (all_name_within raw rounds z.1)

pub count_more : (raw : List (List RawPair)) (i : ℕ) (pairs : List RawPair) → i < length raw → pairs ≡ get_or raw i pairs
    → length (pairs_within (take (i + 1) raw)) ≡ length (pairs_within (take i raw)) + length pairs
count_more raw i pairs lt e =
    let one : take (i + 1) raw ≡ take i raw ++ pairs ∷ [] = take_more raw i pairs lt ∙ ap (λ t. take i raw ++ t ∷ []) (sym e) in
    let whole : pairs_within (take (i + 1) raw) ≡ pairs_within (take i raw) ++ pairs =
    ap pairs_within one ∙ flat_map-append (λ ps. ps) (take i raw) (pairs ∷ []) ∙ ap (λ t. pairs_within (take i raw) ++ t) (append-nil pairs) in
    ap length whole ∙ length-append (pairs_within (take i raw)) pairs

pub moved_on : {X : Type 0} (R : List RawPair → X → Type 0) (vs : List (List RawPair)) (i : ℕ) (v : List RawPair) (xs : List X) (place : ℕ) (e r : PairFault)
    → i < length vs → v ≡ get_or vs i v → IsMoved e place r → OnPair e v
    → Reading NamesEdge R (λ pairs. pairs) vs (drop i vs) xs place → OnPair r (pairs_within vs)
moved_on R vs i v xs place e OutOfMemory lt is moved on r = tt
moved_on R vs i v xs place e (BadPair p) lt is (k, fault, at) on r =
    subst (IsFirstNot NamesEdge (pairs_within vs)) (sym at)
    (steps_other NamesEdge R (λ pairs. pairs) vs i v xs place k lt is (subst (λ t. OnPair t v) fault on) r)

pub pairs_on : {X : Type 0} (R : List (List RawPair) → X → Type 0) (vs : List (List (List RawPair))) (i : ℕ) (v : List (List RawPair)) (xs : List X) (place : ℕ) (e : PairFault) (r : SolutionFault)
    → i < length vs → v ≡ get_or vs i v → IsPairFault e place r → OnPair e (pairs_within v)
    → Reading NamesEdge R pairs_within vs (drop i vs) xs place → OnPairs r (flat_map pairs_within vs)
pairs_on R vs i v xs place e faults.OutOfMemory lt is moved on r = tt
pairs_on R vs i v xs place e (faults.Form f) lt is (k, fault, at) on r =
    (place + k, at, steps_other NamesEdge R pairs_within vs i v xs place k lt is (subst (λ t. OnPair t (pairs_within v)) fault on) r)
