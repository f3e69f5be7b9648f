-- What the flips of a text say of the whole text.
use Rattle.std.proofs.Common.{◌≡◌, ◌∙◌, sym, ap, refl, subst, ℕ, ◌+◌, ◌*◌, ◌<◌, List, [], ◌∷◌, ◌++◌, length, get_or, drop, map, Some, arith}
use Rattle.std.specs.Prelude.{All}
use Rattle.std.specs.List.{AllZip, flat_map}
use Rattle.std.proofs.lemmas.List.{length-append}
use Rattle.std.proofs.lemmas.List.Elements.{All-append, All-nil, All-cons, All-head, All-tail}
use Rattle.serde_json.specs.Data.{Data}
use Rattle.serde_json.specs.Find.{as_str}
use Rattle.serde_json.specs.View.{view}
use Rattle.serde_json.specs.declared.value.Value.{Value}
use Rattle.edge_table.specs.declared.edge.Edge.{Edge}
use Rattle.tri_check.specs.declared.raw.RawPair.{RawPair}
use Rattle.json_value.specs.Values.{IsWhole, IsFirstNot, IsFirstOther, IsList, IsListOf, Lists, IsPair, IsPairOf, elements, numbers_of_pairs, numbers_of_lists}
use Rattle.json_value.specs.Faults.{OnOther}
use Rattle.json_value.specs.declared.text.NumberFault.{NumberFault}
use Rattle.json_value.proofs.Steps.{Reading, elements_are, same_list}
use Rattle.json_value.proofs.Rows.{pair_whole, numbers_length, step_other}
use Rattle.solution_json.specs.Edges.{NamesEdge, IsEdgeOf, IsEdgePair, SpellsEdge, pairs_within}
use Rattle.solution_json.specs.Members.{HasType, pairs_of_rounds}
use Rattle.solution_json.specs.Faults.{HoldsIn, IsFirstIn, OnFaultIn, OnNumbers, OnPairs, IsNumberFault}
use Rattle.solution_json.specs.Forms.{IsSolution}
use Rattle.solution_json.specs.declared.solution.Solution.{Solution}
use Rattle.solution_json.specs.declared.fault.SolMember.TheVariants.{Flips}
use Rattle.solution_json.specs.declared.fault.SolForm.{SolForm}
use Rattle.solution_json.specs.declared.fault.SolForm.TheVariants.{WrongType}
use Rattle.solution_json.specs.declared.fault.SolutionFault.{SolutionFault}
use Rattle.solution_json.specs.declared.fault.SolutionFault.TheVariants as faults
use Rattle.solution_json.proofs.Firsts.{HasMembers, first_flips, first_other, first_bad, no_fault}

-- ---- lists whose elements stand for others, one by one
pub zip_length : {A B : Type 0} (R : A → B → Type 0) (xs : List A) (ys : List B) → AllZip R xs ys → length xs ≡ length ys
zip_length R [] [] z = refl
zip_length R [] (y ∷ ys) z = absurd z
zip_length R (x ∷ xs) [] z = absurd z
zip_length R (x ∷ xs) (y ∷ ys) z = omega (arith, zip_length R xs ys z.1)

pub zip_all : {A B : Type 0} (R : A → B → Type 0) (P : A → Type 0) → ((x : A) (y : B) → R x y → P x) → (xs : List A) (ys : List B) → AllZip R xs ys → All P xs
zip_all R P h [] ys z = All-nil P
zip_all R P h (x ∷ xs) [] z = absurd z
zip_all R P h (x ∷ xs) (y ∷ ys) z = All-cons P x xs (h x y z.0) (zip_all R P h xs ys z.1)

pub zip_flat : {A B C : Type 0} (R : A → B → Type 0) (Q : C → Type 0) (f : A → List C) → ((x : A) (y : B) → R x y → All Q (f x)) → (xs : List A) (ys : List B) → AllZip R xs ys
    → All Q (flat_map f xs)
zip_flat R Q f h [] ys z = All-nil Q
zip_flat R Q f h (x ∷ xs) [] z = absurd z
zip_flat R Q f h (x ∷ xs) (y ∷ ys) z = All-append Q (f x) (flat_map f xs) (h x y z.0) (zip_flat R Q f h xs ys z.1)

pub zip_compose : {A B C : Type 0} (R : A → B → Type 0) (S : B → C → Type 0) (T : A → C → Type 0) → ((x : A) (y : B) (z : C) → R x y → S y z → T x z)
    → (xs : List A) (ys : List B) (zs : List C) → AllZip R xs ys → AllZip S ys zs → AllZip T xs zs
zip_compose R S T h [] [] [] r s = tt
zip_compose R S T h [] [] (z ∷ zs) r s = absurd s
zip_compose R S T h [] (y ∷ ys) zs r s = absurd r
zip_compose R S T h (x ∷ xs) [] zs r s = absurd r
zip_compose R S T h (x ∷ xs) (y ∷ ys) [] r s = absurd s
zip_compose R S T h (x ∷ xs) (y ∷ ys) (z ∷ zs) r s = (h x y z r.0 s.0, zip_compose R S T h xs ys zs r.1 s.1)

pub zip_append : {A B : Type 0} (R : A → B → Type 0) (xs : List A) (ys : List B) (as' : List A) (bs : List B) → AllZip R xs ys → AllZip R as' bs → AllZip R (xs ++ as') (ys ++ bs)
zip_append R [] [] as' bs r s = s
zip_append R [] (y ∷ ys) as' bs r s = absurd r
zip_append R (x ∷ xs) [] as' bs r s = absurd r
zip_append R (x ∷ xs) (y ∷ ys) as' bs r s = (r.0, zip_append R xs ys as' bs r.1 s)

pub lists_flat : {X C : Type 0} (R : Data → X → Type 0) (Q : C → Type 0) (f : Data → List C) → ((d : Data) (x : X) → R d x → All Q (f d)) → (d : Data) (xs : List X) → Lists R d xs
    → All Q (flat_map f (elements d))
lists_flat R Q f h d xs (es, is, zip) = subst (λ t. All Q (flat_map f t)) (sym (elements_are d es is)) (zip_flat R Q f h es xs zip)

pub lists_list_of : {X : Type 0} (R : Data → X → Type 0) (P : Data → Type 0) → ((d : Data) (x : X) → R d x → P d) → (d : Data) (xs : List X) → Lists R d xs → IsListOf P d
lists_list_of R P h d xs (es, is, zip) = (es, is, zip_all R P h es xs zip)

pub lists_compose : {X Y : Type 0} (R : Data → X → Type 0) (S : X → Y → Type 0) (T : Data → Y → Type 0) → ((d : Data) (x : X) (y : Y) → R d x → S x y → T d y)
    → (d : Data) (xs : List X) (ys : List Y) → Lists R d xs → AllZip S xs ys → Lists T d ys
lists_compose R S T h d xs ys (es, is, zip) s = (es, is, zip_compose R S T h es xs ys zip s)

-- ---- pairs and edges
spells : (d : Data) (pair : RawPair) (e : Edge) → IsPairOf d pair → IsEdgeOf pair e → SpellsEdge d e
spells d pair e is edge = (pair, is, edge)

pair_unique : (d : Data) (p q : RawPair) → IsPairOf d p → IsPairOf d q → p ≡ q
pair_unique d p q (a, b, e, ea, eb) (a', b', e', ea', eb') =
    let same : a ∷ b ∷ [] ≡ a' ∷ b' ∷ [] = same_list d (a ∷ b ∷ []) (a' ∷ b' ∷ []) e e' in
    let first : p.a ≡ q.a = cc in
    let second : p.b ≡ q.b = cc in
    rw (first, second) refl

-- the first pair that names no edge, among values
zip_first : (ds : List Data) (before : List RawPair) (x : RawPair) (after : List RawPair) → AllZip IsPairOf ds (before ++ x ∷ after) → All NamesEdge before → ¬ NamesEdge x
    → IsFirstNot IsEdgePair ds (length before)
zip_first [] [] x after z all fails = absurd z
zip_first [] (b ∷ before) x after z all fails = absurd z
zip_first (d ∷ ds) [] x after z all fails =
    ([], d, ds, refl, All-nil IsEdgePair, (λ h. fails (subst NamesEdge (pair_unique d h.0 x h.1 z.0) h.2)), refl)
zip_first (d ∷ ds) (b ∷ before) x after z all fails =
    let r = zip_first ds before x after z.1 (All-tail NamesEdge b before all) fails in
    (d ∷ r.0, r.1, r.2, ap (λ t. d ∷ t) r.3, All-cons IsEdgePair d r.0 (b, z.0, All-head NamesEdge b before all) r.4, r.5, omega (arith, r.6))

pub first_pair : (ds : List Data) (pairs : List RawPair) (k : ℕ) → AllZip IsPairOf ds pairs → IsFirstNot NamesEdge pairs k → IsFirstNot IsEdgePair ds k
first_pair ds pairs k z (before, x, after, e, all, fails, at) =
    subst (IsFirstNot IsEdgePair ds) (sym at) (zip_first ds before x after (subst (AllZip IsPairOf ds) e z) all fails)

rounds_zip : (es : List Data) (raws : List (List RawPair)) → AllZip (Lists IsPairOf) es raws → AllZip IsPairOf (flat_map elements es) (pairs_within raws)
rounds_zip [] [] z = tt
rounds_zip [] (r ∷ raws) z = absurd z
rounds_zip (e ∷ es) [] z = absurd z
rounds_zip (e ∷ es) (r ∷ raws) ((fs, is, zip), rest) =
    zip_append IsPairOf (elements e) r (flat_map elements es) (pairs_within raws) (subst (λ t. AllZip IsPairOf t r) (sym (elements_are e fs is)) zip) (rounds_zip es raws rest)

flips_zip : (es : List Data) (raws : List (List (List RawPair))) → AllZip (Lists (Lists IsPairOf)) es raws → AllZip IsPairOf (flat_map pairs_of_rounds es) (flat_map pairs_within raws)
flips_zip [] [] z = tt
flips_zip [] (r ∷ raws) z = absurd z
flips_zip (e ∷ es) [] z = absurd z
flips_zip (e ∷ es) (r ∷ raws) ((fs, is, zip), rest) =
    zip_append IsPairOf (pairs_of_rounds e) (pairs_within r) (flat_map pairs_of_rounds es) (flat_map pairs_within raws)
    (subst (λ t. AllZip IsPairOf (flat_map elements t) (pairs_within r)) (sym (elements_are e fs is)) (rounds_zip fs r zip)) (flips_zip es raws rest)

-- ---- numbers of lists of rounds
pub numbers_whole : (d : Data) (pairs : List RawPair) → Lists IsPairOf d pairs → All IsWhole (numbers_of_pairs d)
numbers_whole d pairs l = lists_flat IsPairOf IsWhole elements pair_whole d pairs l

pub rounds_whole : (d : Data) (rounds : List (List RawPair)) → Lists (Lists IsPairOf) d rounds → All IsWhole (numbers_of_lists d)
rounds_whole d rounds l = lists_flat (Lists IsPairOf) IsWhole numbers_of_pairs numbers_whole d rounds l

count_rounds : (es : List Data) (raws : List (List RawPair)) → AllZip (Lists IsPairOf) es raws → 2 * length (pairs_within raws) ≡ length (flat_map numbers_of_pairs es)
count_rounds [] [] z = refl
count_rounds [] (r ∷ raws) z = absurd z
count_rounds (e ∷ es) [] z = absurd z
count_rounds (e ∷ es) (r ∷ raws) ((fs, is, zip), rest) =
    omega (arith, length-append r (pairs_within raws), length-append (numbers_of_pairs e) (flat_map numbers_of_pairs es), numbers_length e fs r is zip, zip_length IsPairOf fs r zip, count_rounds es raws rest)

pub rounds_count : (d : Data) (es : List Data) (raws : List (List RawPair)) → IsList d es → AllZip (Lists IsPairOf) es raws → 2 * length (pairs_within raws) ≡ length (numbers_of_lists d)
rounds_count d es raws e z = count_rounds es raws z ∙ sym (ap (λ t. length (flat_map numbers_of_pairs t)) (elements_are d es e))

pub numbers_on : {X : Type 0} (R : Data → X → Type 0) (f : Data → List Data) (vs : List Value) (i : ℕ) (v : Value) (xs : List X) (place : ℕ) (e : NumberFault) (r : SolutionFault)
    → i < length vs → v ≡ get_or vs i v → IsNumberFault e place r → OnOther e (f (view v))
    → Reading IsWhole R f (map view vs) (map view (drop i vs)) xs place → OnNumbers r (flat_map f (map view vs))
numbers_on R f vs i v xs place e faults.OutOfMemory lt is moved on r = tt
numbers_on R f vs i v xs place e (faults.Form g) lt is (k, fault, at) on r =
    (place + k, at, step_other R f vs i v xs place k lt is (subst (λ t. OnOther t (f (view v))) fault on) r)

-- ---- faults of the flips of an object
pub wrong_flips : (d u v : Data) (s : List ℕ) → HasMembers d u v → as_str u ≡ Some s → ¬ HasType Flips v → IsFirstIn d (WrongType Flips)
wrong_flips d u v s m e wrong = first_flips d u v m (s, e) wrong

pub other_number : (d u v : Data) (s : List ℕ) (es : List Data) (e : SolutionFault) → HasMembers d u v → as_str u ≡ Some s → IsList v es → All (IsListOf (IsListOf IsPair)) es
    → OnNumbers e (flat_map numbers_of_lists es) → OnFaultIn d e
other_number d u v s es faults.OutOfMemory m is l all on = tt
other_number d u v s es (faults.Form f) m is l all (k, at, other) =
    subst (IsFirstIn d) (sym at)
    (first_other d u v k m (s, is) (es, l, all) (subst (λ t. IsFirstOther (flat_map numbers_of_lists t) k) (sym (elements_are v es l)) other))

pub bad_pair : (d u v : Data) (s : List ℕ) (es : List Data) (raws : List (List (List RawPair))) (e : SolutionFault) → HasMembers d u v → as_str u ≡ Some s → IsList v es
    → All (IsListOf (IsListOf IsPair)) es → AllZip (Lists (Lists IsPairOf)) es raws → OnPairs e (flat_map pairs_within raws) → OnFaultIn d e
bad_pair d u v s es raws faults.OutOfMemory m is l all zip on = tt
bad_pair d u v s es raws (faults.Form f) m is l all zip (k, at, bad) =
    let first : IsFirstNot IsEdgePair (flat_map pairs_of_rounds es) k = first_pair (flat_map pairs_of_rounds es) (flat_map pairs_within raws) k (flips_zip es raws zip) bad in
    subst (IsFirstIn d) (sym at)
    (first_bad d u v k m (s, is) (es, l, all) (lists_flat (Lists (Lists IsPairOf)) IsWhole numbers_of_lists rounds_whole v raws (es, l, zip))
    (subst (λ t. IsFirstNot IsEdgePair (flat_map pairs_of_rounds t) k) (sym (elements_are v es l)) first))

-- ---- a solution
edges_spelled : (d : Data) (pairs : List RawPair) (edges : List Edge) → Lists IsPairOf d pairs → AllZip IsEdgeOf pairs edges → Lists SpellsEdge d edges
edges_spelled d pairs edges l z = lists_compose IsPairOf IsEdgeOf SpellsEdge spells d pairs edges l z

rounds_spelled : (d : Data) (raws : List (List RawPair)) (rounds : List (List Edge)) → Lists (Lists IsPairOf) d raws → AllZip (AllZip IsEdgeOf) raws rounds → Lists (Lists SpellsEdge) d rounds
rounds_spelled d raws rounds l z = lists_compose (Lists IsPairOf) (AllZip IsEdgeOf) (Lists SpellsEdge) edges_spelled d raws rounds l z

pub lists_spelled : (v : Data) (es : List Data) (raws : List (List (List RawPair))) (lists : List (List (List Edge))) → IsList v es → AllZip (Lists (Lists IsPairOf)) es raws
    → AllZip (AllZip (AllZip IsEdgeOf)) raws lists → Lists (Lists (Lists SpellsEdge)) v lists
lists_spelled v es raws lists l zip z =
    lists_compose (Lists (Lists IsPairOf)) (AllZip (AllZip IsEdgeOf)) (Lists (Lists SpellsEdge)) rounds_spelled v raws lists (es, l, zip) z

edge_is_pair : (d : Data) (e : Edge) → SpellsEdge d e → IsPair d
edge_is_pair d e (pair, (a, b, is, ea, eb), edge) = (a, b, is)

edge_is_whole : (d : Data) (e : Edge) → SpellsEdge d e → All IsWhole (elements d)
edge_is_whole d e (pair, is, edge) = pair_whole d pair is

edge_is_named : (d : Data) (e : Edge) → SpellsEdge d e → IsEdgePair d
edge_is_named d e (pair, is, edge) = (pair, is, edge.0)

round_is_named : (d : Data) (es : List Edge) → Lists SpellsEdge d es → All IsEdgePair (elements d)
round_is_named d es (ds, is, zip) = subst (All IsEdgePair) (sym (elements_are d ds is)) (zip_all SpellsEdge IsEdgePair edge_is_named ds es zip)

pub no_form_fault : (d : Data) (s : Solution) → IsSolution d s → (f : SolForm) → ¬ HoldsIn d f
no_form_fault d s r f =
    let v = r.lists.0 in
    let l = r.lists.2 in
    no_fault d r.uid.0 v (r.uid.1, r.lists.1) (s.uid, r.uid.2)
    (lists_list_of (Lists (Lists SpellsEdge)) (IsListOf (IsListOf IsPair))
    (λ a as'. lists_list_of (Lists SpellsEdge) (IsListOf IsPair) (λ b bs. lists_list_of SpellsEdge IsPair edge_is_pair b bs) a as') v s.lists l)
    (lists_flat (Lists (Lists SpellsEdge)) IsWhole numbers_of_lists
    (λ a as'. lists_flat (Lists SpellsEdge) IsWhole numbers_of_pairs (λ b bs. lists_flat SpellsEdge IsWhole elements edge_is_whole b bs) a as') v s.lists l)
    (lists_flat (Lists (Lists SpellsEdge)) IsEdgePair pairs_of_rounds (λ a as'. lists_flat (Lists SpellsEdge) IsEdgePair elements round_is_named a as') v s.lists l) f
