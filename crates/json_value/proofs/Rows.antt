-- Lists of values, seen one value after another.
use Rattle.std.proofs.Common.{◌≡◌, ◌∙◌, sym, ap, refl, subst, ℕ, ◌+◌, ◌*◌, ◌<◌, ◌≤◌, List, [], ◌∷◌, ◌++◌, length, map, get_or, take, drop, Some, None, arith, ℤ}
use Rattle.std.specs.Prelude.{All}
use Rattle.std.specs.List.{AllZip, flat_map}
use Rattle.std.proofs.lemmas.List.{map_more, take_all, drop_more, drop_all, get_or-map, length-map, length-append}
use Rattle.std.proofs.lemmas.List.Elements.{All-push, All-nil, All-cons, All-append}
use Rattle.serde_json.specs.Data.{Data}
use Rattle.serde_json.specs.Find.{as_array}
use Rattle.serde_json.specs.View.{view, items_of}
use Rattle.serde_json.specs.declared.value.Value.{Value}
use Rattle.tri_check.specs.declared.raw.RawPair.{RawPair}
use Rattle.json_value.specs.Values.{IsWhole, IsNumber, whole_of, IsFirstOther, IsList, elements, IsPair, IsPairOf, IsListOf, Lists, numbers_of_pairs}
use Rattle.json_value.specs.Faults.{OnOther, IsMoved}
use Rattle.json_value.specs.declared.text.NumberFault.{NumberFault}
use Rattle.json_value.specs.declared.text.NumberFault.TheVariants.{NotInteger, OutOfMemory}
use Rattle.json_value.proofs.Steps.{Reading, reading_more, reading_other, reading_all, same_list, elements_are}

-- ---- what holds of each value
pub all_more : (P : Data → Type 0) (vs : List Value) (i : ℕ) (v : Value) → i < length vs → v ≡ get_or vs i v → P (view v)
    → All P (map view (take i vs)) → All P (map view (take (i + 1) vs))
all_more P vs i v lt e holds all =
    let now : P (view (get_or vs i v)) = subst (λ x. P (view x)) e holds in
    subst (All P) (sym (map_more view vs i v lt)) (All-push P (map view (take i vs)) (view (get_or vs i v)) all now)

pub all_of : (P : Data → Type 0) (vs : List Value) (i : ℕ) → length vs ≤ i → All P (map view (take i vs)) → All P (map view vs)
all_of P vs i le all = subst (λ xs. All P (map view xs)) (take_all i vs le) all

pub one_of : (P : Data → Type 0) (vs : List Value) (i : ℕ) (v : Value) → i < length vs → v ≡ get_or vs i v → All P (map view vs) → P (view v)
one_of P vs i v lt e all =
    let there : i < length (map view vs) = subst (λ n. i < n) (sym (length-map vs view)) lt in
    let is : get_or (map view vs) i (view v) ≡ view v = get_or-map view vs i v (view v) lt ∙ ap view (sym e) in
    subst P is (all i (view v) there)

-- ---- the values that are left
pub rest_more : (vs : List Value) (i : ℕ) (v : Value) → i < length vs → v ≡ get_or vs i v → map view (drop i vs) ≡ view v ∷ map view (drop (i + 1) vs)
rest_more vs i v lt e = ap (map view) (drop_more vs i v lt) ∙ ap (λ x. view x ∷ map view (drop (i + 1) vs)) (sym e)

pub rest_none : (vs : List Value) (i : ℕ) → length vs ≤ i → map view (drop i vs) ≡ []
rest_none vs i le = ap (map view) (drop_all i vs le)

pub step_more : {X : Type 0} (R : Data → X → Type 0) (f : Data → List Data) (vs : List Value) (i : ℕ) (v : Value) (xs : List X) (x : X) (place n : ℕ)
    → i < length vs → v ≡ get_or vs i v → R (view v) x → All IsWhole (f (view v)) → n ≡ length (f (view v))
    → Reading IsWhole R f (map view vs) (map view (drop i vs)) xs place → Reading IsWhole R f (map view vs) (map view (drop (i + 1) vs)) (xs ++ x ∷ []) (place + n)
step_more R f vs i v xs x place n lt e is whole len r =
    reading_more IsWhole R f (map view vs) (view v) (map view (drop (i + 1) vs)) xs x place n is whole len
    (subst (λ rest. Reading IsWhole R f (map view vs) rest xs place) (rest_more vs i v lt e) r)

pub step_other : {X : Type 0} (R : Data → X → Type 0) (f : Data → List Data) (vs : List Value) (i : ℕ) (v : Value) (xs : List X) (place k : ℕ)
    → i < length vs → v ≡ get_or vs i v → IsFirstOther (f (view v)) k
    → Reading IsWhole R f (map view vs) (map view (drop i vs)) xs place → IsFirstOther (flat_map f (map view vs)) (place + k)
step_other R f vs i v xs place k lt e h r =
    reading_other IsWhole R f (map view vs) (view v) (map view (drop (i + 1) vs)) xs place k h
    (subst (λ rest. Reading IsWhole R f (map view vs) rest xs place) (rest_more vs i v lt e) r)

pub step_all : {X : Type 0} (R : Data → X → Type 0) (f : Data → List Data) (vs : List Value) (i : ℕ) (xs : List X) (place : ℕ)
    → length vs ≤ i → Reading IsWhole R f (map view vs) (map view (drop i vs)) xs place → AllZip R (map view vs) xs
step_all R f vs i xs place le r = reading_all IsWhole R f (map view vs) xs place (subst (λ rest. Reading IsWhole R f (map view vs) rest xs place) (rest_none vs i le) r)

-- ---- one number
pub one_whole : (d : Data) (z : ℤ) → IsNumber d z → All IsWhole (d ∷ [])
one_whole d z e = All-cons IsWhole d [] (z, e) (All-nil IsWhole)

pub not_whole : (d : Data) → whole_of d ≡ None → ¬ IsWhole d
not_whole d e (z, is) = let h : None ≡ Some z = sym e ∙ is in cc

pub one_other : (d : Data) → whole_of d ≡ None → IsFirstOther (d ∷ []) 0
one_other d e = ([], d, [], refl, All-nil IsWhole, not_whole d e, refl)

-- ---- pairs
two_are : (vs : List Value) → length vs ≡ 2 → (a b : Data) × (map view vs ≡ a ∷ b ∷ [])
two_are [] e = absurd (omega (arith, e))
two_are (x ∷ []) e = absurd (omega (arith, e))
two_are (x ∷ y ∷ []) e = (view x, view y, refl)
two_are (x ∷ y ∷ z ∷ vs) e = absurd (omega (arith, e))

pub two_is_pair : (d : Data) (vs : List Value) → IsList d (map view vs) → length vs ≡ 2 → IsPair d
two_is_pair d vs e len = let t = two_are vs len in (t.0, t.1, e ∙ ap (λ xs. Some (items_of xs)) t.2)

pub pair_is_two : (d : Data) (vs : List Value) → IsList d (map view vs) → IsPair d → length vs ≡ 2
pair_is_two d vs e (a, b, p) = sym (length-map vs view) ∙ ap length (same_list d (map view vs) (a ∷ b ∷ []) e p)

pub list_is : (P : Data → Type 0) (d : Data) (vs : List Value) → IsList d (map view vs) → All P (map view vs) → IsListOf P d
list_is P d vs e all = (map view vs, e, all)

pub is_list : (P : Data → Type 0) (d : Data) (vs : List Value) → IsList d (map view vs) → IsListOf P d → All P (map view vs)
is_list P d vs e (es, is, all) = subst (All P) (same_list d es (map view vs) is e) all

-- the elements of a pair
split_two : (vs : List Value) (x y : Value) → length vs ≡ 2 → x ≡ get_or vs 0 x → y ≡ get_or vs 1 y → map view vs ≡ view x ∷ view y ∷ []
split_two [] x y len e f = absurd (omega (arith, len))
split_two (a ∷ []) x y len e f = absurd (omega (arith, len))
split_two (a ∷ b ∷ []) x y len e f = rw (e, f) refl
split_two (a ∷ b ∷ c ∷ vs) x y len e f = absurd (omega (arith, len))

split_one : (vs : List Value) (x : Value) → length vs ≡ 2 → x ≡ get_or vs 0 x → (b : Data) × (map view vs ≡ view x ∷ b ∷ [])
split_one [] x len e = absurd (omega (arith, len))
split_one (a ∷ []) x len e = absurd (omega (arith, len))
split_one (a ∷ b ∷ []) x len e = (view b, rw e refl)
split_one (a ∷ b ∷ c ∷ vs) x len e = absurd (omega (arith, len))

pub first_other : (d : Data) (vs : List Value) (x : Value) → IsList d (map view vs) → length vs ≡ 2 → x ≡ get_or vs 0 x
    → whole_of (view x) ≡ None → IsFirstOther (elements d) 0
first_other d vs x e len is none =
    let s = split_one vs x len is in
    ([], view x, s.0 ∷ [], elements_are d (map view vs) e ∙ s.1, All-nil IsWhole, not_whole (view x) none, refl)

pub second_other : (d : Data) (vs : List Value) (x y : Value) (z : ℤ) → IsList d (map view vs) → length vs ≡ 2 → x ≡ get_or vs 0 x → y ≡ get_or vs 1 y
    → IsNumber (view x) z → whole_of (view y) ≡ None → IsFirstOther (elements d) 1
second_other d vs x y z e len is is' whole none =
    (view x ∷ [], view y, [], elements_are d (map view vs) e ∙ split_two vs x y len is is', one_whole (view x) z whole, not_whole (view y) none, refl)

pub pair_of_two : (d : Data) (vs : List Value) (x y : Value) (pair : RawPair) → IsList d (map view vs) → length vs ≡ 2 → x ≡ get_or vs 0 x → y ≡ get_or vs 1 y
    → IsNumber (view x) pair.a → IsNumber (view y) pair.b → IsPairOf d pair
pair_of_two d vs x y pair e len is is' a b = (view x, view y, e ∙ ap (λ xs. Some (items_of xs)) (split_two vs x y len is is'), a, b)

pub pair_whole : (d : Data) (pair : RawPair) → IsPairOf d pair → All IsWhole (elements d)
pair_whole d pair (a, b, e, ea, eb) = subst (All IsWhole) (sym (elements_are d (a ∷ b ∷ []) e)) (All-cons IsWhole a (b ∷ []) (pair.a, ea) (one_whole b pair.b eb))

pub pair_length : (d : Data) (pair : RawPair) → IsPairOf d pair → 2 ≡ length (elements d)
pair_length d pair (a, b, e, ea, eb) = sym (ap length (elements_are d (a ∷ b ∷ []) e))

-- ---- lists of pairs
pub pairs_whole : (es : List Data) (pairs : List RawPair) → AllZip IsPairOf es pairs → All IsWhole (flat_map elements es)
pairs_whole [] pairs z = All-nil IsWhole
pairs_whole (e ∷ es) [] z = absurd z
pairs_whole (e ∷ es) (pair ∷ pairs) z = All-append IsWhole (elements e) (flat_map elements es) (pair_whole e pair z.0) (pairs_whole es pairs z.1)

pub pairs_length : (es : List Data) (pairs : List RawPair) → AllZip IsPairOf es pairs → 2 * length es ≡ length (flat_map elements es)
pairs_length [] pairs z = refl
pairs_length (e ∷ es) [] z = absurd z
pairs_length (e ∷ es) (pair ∷ pairs) z =
    omega (arith, length-append (elements e) (flat_map elements es), pair_length e pair z.0, pairs_length es pairs z.1)

pub numbers_are : (d : Data) (es : List Data) → IsList d es → numbers_of_pairs d ≡ flat_map elements es
numbers_are d es e = ap (flat_map elements) (elements_are d es e)

pub numbers_whole : (d : Data) (es : List Data) (pairs : List RawPair) → IsList d es → AllZip IsPairOf es pairs → All IsWhole (numbers_of_pairs d)
numbers_whole d es pairs e z = subst (All IsWhole) (sym (numbers_are d es e)) (pairs_whole es pairs z)

pub numbers_length : (d : Data) (es : List Data) (pairs : List RawPair) → IsList d es → AllZip IsPairOf es pairs → 2 * length es ≡ length (numbers_of_pairs d)
numbers_length d es pairs e z = pairs_length es pairs z ∙ sym (ap length (numbers_are d es e))

pub lists_are : (d : Data) (es : List Data) (pairs : List RawPair) → IsList d es → AllZip IsPairOf es pairs → Lists IsPairOf d pairs
lists_are d es pairs e z = (es, e, z)

pub not_list : (P : Data → Type 0) (d : Data) → None ≡ as_array d → IsListOf P d → ⊥
not_list P d e (es, is, all) = let h : None ≡ Some (items_of es) = e ∙ is in cc

-- the fault of a value, moved by what was read before it, is one of the whole
pub moved_other : {X : Type 0} (R : Data → X → Type 0) (f : Data → List Data) (vs : List Value) (i : ℕ) (v : Value) (xs : List X) (place : ℕ) (e r : NumberFault)
    → i < length vs → v ≡ get_or vs i v → IsMoved e place r → OnOther e (f (view v))
    → Reading IsWhole R f (map view vs) (map view (drop i vs)) xs place → OnOther r (flat_map f (map view vs))
moved_other R f vs i v xs place e OutOfMemory lt is moved on r = tt
moved_other R f vs i v xs place e (NotInteger p) lt is (k, fault, at) on r =
    subst (IsFirstOther (flat_map f (map view vs))) (sym at)
    (step_other R f vs i v xs place k lt is (subst (λ t. OnOther t (f (view v))) fault on) r)
