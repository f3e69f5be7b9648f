-- What a list of values gives, one value after another.
use Rattle.std.proofs.Common.{◌≡◌, ◌∙◌, sym, ap, refl, subst, ℕ, ◌+◌, ◌<◌, ◌≤◌, Some, get_or, drop, List, [], ◌∷◌, ◌++◌, length, append_assoc, length-append, arith}
use Rattle.std.specs.Prelude.{All, slice_get}
use Rattle.std.specs.List.{AllZip, flat_map}
use Rattle.std.proofs.lemmas.List.{append-nil, get_or_append_left, drop_more, drop_all}
use Rattle.std.proofs.lemmas.Option.{slice_get_within, get_or_from_slice_get, slice_get-get_or}
use Rattle.std.proofs.Math.Seq.{get_or-append_seam}
use Rattle.std.proofs.lemmas.List.Elements.{All-append}
use Rattle.serde_json.specs.Data.{Data}
use Rattle.serde_json.specs.View.{items_of}
use Rattle.json_value.specs.Values.{IsFirstNot, IsList, list_of, elements}

-- ---- the first element of which P doesn't hold
pub first_before : {X : Type 0} (P : X → Type 0) (xs ys : List X) (k : ℕ) → IsFirstNot P xs k → IsFirstNot P (xs ++ ys) k
first_before P xs ys k (before, x, after, e, all, fails, at) =
    (before, x, after ++ ys, ap (λ t. t ++ ys) e ∙ append_assoc before (x ∷ after) ys, all, fails, at)

pub first_behind : {X : Type 0} (P : X → Type 0) (xs ys : List X) (k n : ℕ) → All P xs → n ≡ length xs → IsFirstNot P ys k → IsFirstNot P (xs ++ ys) (n + k)
first_behind P xs ys k n holds len (before, x, after, e, all, fails, at) = (
  xs ++ before,
  x,
  after,
  ap (λ t. xs ++ t) e ∙ sym (append_assoc xs before (x ∷ after)),
  All-append P xs before holds all,
  fails,
  let sum : length (xs ++ before) ≡ length xs + length before = length-append xs before in omega (arith, sum, len, at),
)

pub first_is : {X : Type 0} (P : X → Type 0) (xs : List X) (k : ℕ) → IsFirstNot P xs k → (x : X) × (slice_get xs k ≡ Some x) × ¬ P x
first_is P xs k (before, x, after, e, all, fails, at) =
    let within : length before < length (before ++ x ∷ after) = omega (arith, length-append before (x ∷ after)) in
    (x, rw (e, at) (slice_get-get_or (before ++ x ∷ after) (length before) x within ∙ ap (λ t. Some t) (get_or-append_seam before x after x)), fails)

pub holds_before : {X : Type 0} (P : X → Type 0) (xs : List X) (k q : ℕ) (y : X) → IsFirstNot P xs k → q < k → slice_get xs q ≡ Some y → P y
holds_before P xs k q y (before, x, after, e, all, fails, at) lt found =
    let within : q < length before = omega (arith, lt, at) in
    let here : get_or (before ++ x ∷ after) q y ≡ y = get_or_from_slice_get (before ++ x ∷ after) q y y (subst (λ t. slice_get t q ≡ Some y) e found) in
    subst P (sym (get_or_append_left before (x ∷ after) y q within) ∙ here) (all q y within)

pub holds_at : {X : Type 0} (P : X → Type 0) (xs : List X) (q : ℕ) (y : X) → All P xs → slice_get xs q ≡ Some y → P y
holds_at P xs q y all is = subst P (get_or_from_slice_get xs q y y is) (all q y (slice_get_within xs q y is))

-- ---- reading a list: what is left of it, what was read, and the place of what is next. Each element has parts, of which P is to hold
pub record Reading {V X C : Type 0} (P : C → Type 0) (R : V → X → Type 0) (f : V → List C) (vs rest : List V) (xs : List X) (place : ℕ) : Type 0 where
  pub ok : (more : List X) → AllZip R rest more → AllZip R vs (xs ++ more)
  pub other : (k : ℕ) → IsFirstNot P (flat_map f rest) k → IsFirstNot P (flat_map f vs) (place + k)

pub reading_none : {V X C : Type 0} (P : C → Type 0) (R : V → X → Type 0) (f : V → List C) (vs : List V) → Reading P R f vs vs [] 0
reading_none P R f vs = record {
  ok = λ more h. h;
  other = λ k h. let e : k ≡ 0 + k = omega arith in subst (IsFirstNot P (flat_map f vs)) e h;
}

pub reading_more : {V X C : Type 0} (P : C → Type 0) (R : V → X → Type 0) (f : V → List C) (vs : List V) (v : V) (rest : List V) (xs : List X) (x : X) (place n : ℕ)
    → R v x → All P (f v) → n ≡ length (f v) → Reading P R f vs (v ∷ rest) xs place → Reading P R f vs rest (xs ++ x ∷ []) (place + n)
reading_more P R f vs v rest xs x place n is all len r = record {
  ok = λ more h. subst (AllZip R vs) (sym (append_assoc xs (x ∷ []) more)) (r.ok (x ∷ more) (is, h));
  other = λ k h. let e : place + (n + k) ≡ place + n + k = omega arith in
      subst (IsFirstNot P (flat_map f vs)) e (r.other (n + k) (first_behind P (f v) (flat_map f rest) k n all len h));
}

pub reading_other : {V X C : Type 0} (P : C → Type 0) (R : V → X → Type 0) (f : V → List C) (vs : List V) (v : V) (rest : List V) (xs : List X) (place k : ℕ)
    → IsFirstNot P (f v) k → Reading P R f vs (v ∷ rest) xs place → IsFirstNot P (flat_map f vs) (place + k)
reading_other P R f vs v rest xs place k h r = r.other k (first_before P (f v) (flat_map f rest) k h)

pub reading_all : {V X C : Type 0} (P : C → Type 0) (R : V → X → Type 0) (f : V → List C) (vs : List V) (xs : List X) (place : ℕ)
    → Reading P R f vs [] xs place → AllZip R vs xs
reading_all P R f vs xs place r = subst (AllZip R vs) (append-nil xs) (r.ok [] tt)

-- one step at a place of the list
pub steps_more : {V X C : Type 0} (P : C → Type 0) (R : V → X → Type 0) (f : V → List C) (vs : List V) (i : ℕ) (v : V) (xs : List X) (x : X) (place n : ℕ)
    → i < length vs → v ≡ get_or vs i v → R v x → All P (f v) → n ≡ length (f v) → Reading P R f vs (drop i vs) xs place → Reading P R f vs (drop (i + 1) vs) (xs ++ x ∷ []) (place + n)
steps_more P R f vs i v xs x place n lt e is all len r =
    reading_more P R f vs v (drop (i + 1) vs) xs x place n is all len (subst (λ rest. Reading P R f vs rest xs place) (drop_more vs i v lt ∙ ap (λ t. t ∷ drop (i + 1) vs) (sym e)) r)

pub steps_other : {V X C : Type 0} (P : C → Type 0) (R : V → X → Type 0) (f : V → List C) (vs : List V) (i : ℕ) (v : V) (xs : List X) (place k : ℕ)
    → i < length vs → v ≡ get_or vs i v → IsFirstNot P (f v) k → Reading P R f vs (drop i vs) xs place → IsFirstNot P (flat_map f vs) (place + k)
steps_other P R f vs i v xs place k lt e h r =
    reading_other P R f vs v (drop (i + 1) vs) xs place k h (subst (λ rest. Reading P R f vs rest xs place) (drop_more vs i v lt ∙ ap (λ t. t ∷ drop (i + 1) vs) (sym e)) r)

pub steps_all : {V X C : Type 0} (P : C → Type 0) (R : V → X → Type 0) (f : V → List C) (vs : List V) (i : ℕ) (xs : List X) (place : ℕ)
    → length vs ≤ i → Reading P R f vs (drop i vs) xs place → AllZip R vs xs
steps_all P R f vs i xs place le r = reading_all P R f vs xs place (subst (λ rest. Reading P R f vs rest xs place) (drop_all i vs le) r)

-- ---- lists
pub list_of-items_of : (ds : List Data) → list_of (items_of ds) ≡ ds
list_of-items_of [] = refl
list_of-items_of (d ∷ ds) = ap (λ t. d ∷ t) (list_of-items_of ds)

-- a value is one list at most
pub elements_are : (d : Data) (es : List Data) → IsList d es → elements d ≡ es
elements_are d es e = rw e (list_of-items_of es)

pub same_list : (d : Data) (es fs : List Data) → IsList d es → IsList d fs → es ≡ fs
same_list d es fs e f = sym (elements_are d es e) ∙ elements_are d fs f

pub flat_map-single : (ds : List Data) → flat_map (λ d. d ∷ []) ds ≡ ds
flat_map-single [] = refl
flat_map-single (d ∷ ds) = ap (λ t. d ∷ t) (flat_map-single ds)
