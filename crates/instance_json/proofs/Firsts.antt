-- Which fault is the first.
use Rattle.std.proofs.Common.{◌≡◌, ◌≢◌, ◌∙◌, ◌⊎◌, inl, inr, sym, ap, refl, subst, ℕ, zero, suc, ◌+◌, ◌<◌, List, [], ◌∷◌, length, Some, None, arith}
use Rattle.std.specs.Prelude.{All, slice_get}
use Rattle.std.specs.declared.cmp.Ordering.{Ordering}
use Rattle.std.specs.declared.cmp.Ordering.TheVariants.{Less, Equal, Greater}
use Rattle.std.specs.Ordering.{MatchOrdering, nat_cmp, ordering_then}
use Rattle.std.specs.Cmp.Lexicographic.{slice_cmp}
use Rattle.std.proofs.lemmas.Cmp.{ranked}
use Rattle.std.proofs.lemmas.Bool.{cases_lt}
use Rattle.serde_json.specs.Data.{Data, null, boolean, number, string, array, object}
use Rattle.serde_json.specs.Find.{get, as_object}
use Rattle.json_value.specs.Values.{IsText, IsWhole, IsFirstOther, elements}
use Rattle.json_value.proofs.Steps.{first_is, holds_before, holds_at}
use Rattle.instance_json.specs.Members.{name_of, number_of, IsNeeded, IsAt, HasType, numbers_of}
use Rattle.instance_json.specs.Faults.{HoldsIn, Holds, IsEarlier, IsFirstIn, IsFirstFormFault, OnFaultIn, OnFault, HasForm}
use Rattle.instance_json.specs.declared.fault.Member.{Member}
use Rattle.instance_json.specs.declared.fault.Member.TheVariants.{Uid, PointsX, PointsY, Triangulations, Weights}
use Rattle.instance_json.specs.declared.fault.Form.{Form}
use Rattle.instance_json.specs.declared.fault.Form.TheVariants.{NotJson, NotObject, Missing, WrongType, NotInteger, LengthMismatch, WeightCount}
use Rattle.instance_json.specs.declared.fault.InstanceFault.{InstanceFault}
use Rattle.instance_json.specs.declared.fault.InstanceFault.TheVariants as faults

-- ---- order
less_then : (P Q R : Type 0) (o r : Ordering) → MatchOrdering o P Q R → ordering_then o r ≡ Less → P ⊎ (Q × (r ≡ Less))
less_then P Q R Less r m e = inl m
less_then P Q R Equal r m e = inr (m, e)
less_then P Q R Greater r m e = absurd (let h : Greater ≡ Less = e in cc)

no_less : (o : Ordering) → o ≡ Equal → o ≡ Less → ⊥
no_less o e f = let h : Equal ≡ Less = sym e ∙ f in cc

pub less_first : (a b : ℕ) (as' bs : List ℕ) → slice_cmp nat_cmp (a ∷ as') (b ∷ bs) ≡ Less → (a < b) ⊎ ((a ≡ b) × (slice_cmp nat_cmp as' bs ≡ Less))
less_first a b as' bs e = less_then (a < b) (a ≡ b) (b < a) (nat_cmp a b) (slice_cmp nat_cmp as' bs) (ranked a b (nat_cmp a b) refl) e

pub less_one : (a b : ℕ) → slice_cmp nat_cmp (a ∷ []) (b ∷ []) ≡ Less → a < b
less_one a b e = elim (less_first a b [] [] e) [ inl lt ↦ lt | inr h ↦ absurd (no_less Equal refl h.1) ]

pub less_two : (a b p q : ℕ) → slice_cmp nat_cmp (a ∷ p ∷ []) (b ∷ q ∷ []) ≡ Less → (a < b) ⊎ ((a ≡ b) × (p < q))
less_two a b p q e = elim (less_first a b (p ∷ []) (q ∷ []) e) [ inl lt ↦ inl lt | inr h ↦ inr (h.0, less_one p q h.1) ]

not_less : Greater ≡ Less → ⊥
not_less e = cc

not_equal : Equal ≡ Less → ⊥
not_equal e = cc

-- ---- members
abbrev member_at : ℕ → Member
member_at zero = Uid
member_at (suc zero) = PointsX
member_at (suc (suc zero)) = PointsY
member_at (suc (suc (suc zero))) = Triangulations
member_at (suc (suc (suc (suc n)))) = Weights

at_number : (k : Member) → member_at (number_of k) ≡ k
at_number Uid = refl
at_number PointsX = refl
at_number PointsY = refl
at_number Triangulations = refl
at_number Weights = refl

pub same_member : (k m : Member) → number_of k ≡ number_of m → k ≡ m
same_member k m e = sym (at_number k) ∙ ap member_at e ∙ at_number m

pub few_members : (k : Member) → number_of k < 5
few_members Uid = omega arith
few_members PointsX = omega arith
few_members PointsY = omega arith
few_members Triangulations = omega arith
few_members Weights = omega arith

few_needed : (k : Member) → IsNeeded k → number_of k < 4
few_needed Uid need = omega arith
few_needed PointsX need = omega arith
few_needed PointsY need = omega arith
few_needed Triangulations need = omega arith
few_needed Weights need = absurd (need refl)

same_at : (d : Data) (m : Member) (v w : Data) → IsAt d m v → IsAt d m w → v ≡ w
same_at d m v w e f = let h : Some v ≡ Some w = sym e ∙ f in cc

-- each member before this number has a value
abbrev pub Present : Data → ℕ → Type 0
Present d n = (k : Member) → number_of k < n → (v : Data) × IsAt d k v

pub present_none : (d : Data) → Present d 0
present_none d k lt = absurd (omega (arith, lt))

pub present_more : (d : Data) (m : Member) (n : ℕ) → n ≡ number_of m + 1 → (v : Data) → IsAt d m v → Present d (number_of m) → Present d n
present_more d m n is v at there k lt =
    elim (cases_lt (number_of k) (number_of m)) [
      | inl less ↦ there k less
      | inr more ↦ let same : number_of k ≡ number_of m = omega (arith, lt, more, is) in
          subst (λ t. (v : Data) × IsAt d t v) (sym (same_member k m same)) (v, at)
    ]

-- of the value at each member before this number, if there is one, P holds
abbrev pub Below : Data → (Member → Data → Type 0) → ℕ → Type 0
Below d P n = (k : Member) → number_of k < n → (v : Data) → IsAt d k v → P k v

pub below_none : (d : Data) (P : Member → Data → Type 0) → Below d P 0
below_none d P k lt = absurd (omega (arith, lt))

pub below_next : (d : Data) (P : Member → Data → Type 0) (m : Member) (n : ℕ) → n ≡ number_of m + 1 → ((v : Data) → IsAt d m v → P m v) → Below d P (number_of m) → Below d P n
below_next d P m n is p below k lt =
    elim (cases_lt (number_of k) (number_of m)) [
      | inl less ↦ below k less
      | inr more ↦ let same : number_of k ≡ number_of m = omega (arith, lt, more, is) in
          subst (λ t. (v : Data) → IsAt d t v → P t v) (sym (same_member k m same)) p
    ]

pub below_more : (d : Data) (P : Member → Data → Type 0) (m : Member) (n : ℕ) → n ≡ number_of m + 1 → (v : Data) → IsAt d m v → P m v → Below d P (number_of m) → Below d P n
below_more d P m n is v at p = below_next d P m n is (λ w at'. subst (P m) (same_at d m v w at at') p)

-- what the values are known to be, step by step
abbrev pub IsTyped : Member → Data → Type 0
IsTyped m v = HasType m v

abbrev pub IsNumbered : Member → Data → Type 0
IsNumbered m v = All IsWhole (numbers_of m v)

-- ---- a fault that isn't there
not_missing : (d : Data) (n : ℕ) → Present d n → (k : Member) → number_of k < n → ¬ HoldsIn d (Missing k)
not_missing d n there k lt (need, f) = let (v, at) = there k lt in let h : Some v ≡ None = sym at ∙ f in cc

none_missing : (d : Data) → Present d 4 → (k : Member) → ¬ HoldsIn d (Missing k)
none_missing d there k (need, f) = not_missing d 4 there k (few_needed k need) (need, f)

not_wrong : (d : Data) (n : ℕ) → Below d IsTyped n → (k : Member) → number_of k < n → ¬ HoldsIn d (WrongType k)
not_wrong d n typed k lt (v, at, no') = no' (typed k lt v at)

not_other : (d : Data) (n : ℕ) → Below d IsNumbered n → (k : Member) (q : ℕ) → number_of k < n → ¬ HoldsIn d (NotInteger k q)
not_other d n numbered k q lt (v, x, at, is, no') = no' (holds_at IsWhole (numbers_of k v) q x (numbered k lt v at) is)

not_mismatch : (d xs ys : Data) → IsAt d PointsX xs → IsAt d PointsY ys → length (elements xs) ≡ length (elements ys) → (x y : ℕ) → ¬ HoldsIn d (LengthMismatch x y)
not_mismatch d xs ys ax ay same x y (v, w, av, aw, ex, ey, ne) =
    let vx : length (elements v) ≡ length (elements xs) = ap (λ t. length (elements t)) (same_at d PointsX v xs av ax) in
    let wy : length (elements w) ≡ length (elements ys) = ap (λ t. length (elements t)) (same_at d PointsY w ys aw ay) in
    ne (ex ∙ vx ∙ same ∙ sym wy ∙ sym ey)

-- the weights, if there are any, are as many as the inputs
abbrev pub IsCounted : Data → Data → Type 0
IsCounted d inputs = (v : Data) → IsAt d Weights v → length (elements v) ≡ length (elements inputs)

not_miscounted : (d inputs : Data) → IsAt d Triangulations inputs → IsCounted d inputs → (w m : ℕ) → ¬ HoldsIn d (WeightCount w m)
not_miscounted d inputs at counted w m (v, t, av, at', ew, em, ne) =
    let same : length (elements t) ≡ length (elements inputs) = ap (λ u. length (elements u)) (same_at d Triangulations t inputs at' at) in
    ne (ew ∙ counted v av ∙ sym same ∙ sym em)

is_object : (d : Data) (k : Member) (v : Data) → IsAt d k v → ¬ HoldsIn d NotObject
is_object null k v e f = let h : None ≡ Some v = e in cc
is_object (boolean b) k v e f = let h : None ≡ Some v = e in cc
is_object (number n) k v e f = let h : None ≡ Some v = e in cc
is_object (string s) k v e f = let h : None ≡ Some v = e in cc
is_object (array ds) k v e f = let h : None ≡ Some v = e in cc
is_object (object ms) k v e f = let h : Some ms ≡ None = f in cc

-- ---- each kind of fault as the first
pub first_object : (d : Data) → as_object d ≡ None → IsFirstIn d NotObject
first_object d e = record { holds = e; first = earlier }
  where
    earlier : (g : Form) → IsEarlier g NotObject → ¬ HoldsIn d g
    earlier NotJson e h = h
    earlier NotObject e h = not_equal e
    earlier (Missing k) e h = not_less e
    earlier (WrongType k) e h = not_less e
    earlier (NotInteger k q) e h = not_less e
    earlier (LengthMismatch x y) e h = not_less e
    earlier (WeightCount w m) e h = not_less e

pub first_missing : (d : Data) (m : Member) → ¬ HoldsIn d NotObject → IsNeeded m → Present d (number_of m) → get (name_of m) d ≡ None → IsFirstIn d (Missing m)
first_missing d m is_one need there e = record { holds = (need, e); first = earlier }
  where
    earlier : (g : Form) → IsEarlier g (Missing m) → ¬ HoldsIn d g
    earlier NotJson e h = h
    earlier NotObject e h = is_one h
    earlier (Missing k) e h = not_missing d (number_of m) there k (less_one (number_of k) (number_of m) e) h
    earlier (WrongType k) e h = not_less e
    earlier (NotInteger k q) e h = not_less e
    earlier (LengthMismatch x y) e h = not_less e
    earlier (WeightCount w n) e h = not_less e

pub first_wrong : (d : Data) (m : Member) (v : Data) → Present d 4 → Below d IsTyped (number_of m) → IsAt d m v → ¬ HasType m v → IsFirstIn d (WrongType m)
first_wrong d m v there below at wrong = record { holds = (v, at, wrong); first = earlier }
  where
    earlier : (g : Form) → IsEarlier g (WrongType m) → ¬ HoldsIn d g
    earlier NotJson e h = h
    earlier NotObject e h = is_object d m v at h
    earlier (Missing k) e h = none_missing d there k h
    earlier (WrongType k) e h = not_wrong d (number_of m) below k (less_one (number_of k) (number_of m) e) h
    earlier (NotInteger k q) e h = not_less e
    earlier (LengthMismatch x y) e h = not_less e
    earlier (WeightCount w n) e h = not_less e

pub first_other : (d : Data) (m : Member) (p : ℕ) (v : Data) → Present d 4 → Below d IsTyped 5 → Below d IsNumbered (number_of m) → IsAt d m v → IsFirstOther (numbers_of m v) p
    → IsFirstIn d (NotInteger m p)
first_other d m p v there typed below at other = record { holds = holds; first = earlier }
  where
    holds : HoldsIn d (NotInteger m p)
    holds = let o = first_is IsWhole (numbers_of m v) p other in (v, o.0, at, o.1, o.2)

    before : (q : ℕ) → q < p → ¬ HoldsIn d (NotInteger m q)
    before q lt (w, e, at', is, no') =
        no' (holds_before IsWhole (numbers_of m v) p q e other lt (subst (λ t. slice_get (numbers_of m t) q ≡ Some e) (same_at d m w v at' at) is))

    earlier : (g : Form) → IsEarlier g (NotInteger m p) → ¬ HoldsIn d g
    earlier NotJson e h = h
    earlier NotObject e h = is_object d m v at h
    earlier (Missing k) e h = none_missing d there k h
    earlier (WrongType k) e h = not_wrong d 5 typed k (few_members k) h
    earlier (NotInteger k q) e h =
        elim (less_two (number_of k) (number_of m) q p e) [
          | inl lt ↦ not_other d (number_of m) below k q lt h
          | inr same ↦ before q same.1 (subst (λ t. HoldsIn d (NotInteger t q)) (same_member k m same.0) h)
        ]
    earlier (LengthMismatch x y) e h = not_less e
    earlier (WeightCount w n) e h = not_less e

pub first_mismatch : (d xs ys : Data) (x y : ℕ) → Present d 4 → Below d IsTyped 5 → Below d IsNumbered 5 → IsAt d PointsX xs → IsAt d PointsY ys
    → x ≡ length (elements xs) → y ≡ length (elements ys) → x ≢ y → IsFirstIn d (LengthMismatch x y)
first_mismatch d xs ys x y there typed numbered ax ay ex ey ne = record { holds = (xs, ys, ax, ay, ex, ey, ne); first = earlier }
  where
    earlier : (g : Form) → IsEarlier g (LengthMismatch x y) → ¬ HoldsIn d g
    earlier NotJson e h = h
    earlier NotObject e h = is_object d PointsX xs ax h
    earlier (Missing k) e h = none_missing d there k h
    earlier (WrongType k) e h = not_wrong d 5 typed k (few_members k) h
    earlier (NotInteger k q) e h = not_other d 5 numbered k q (few_members k) h
    earlier (LengthMismatch x' y') e h = not_equal e
    earlier (WeightCount w m) e h = not_less e

-- what has no fault before the count of weights
pub record IsEven (d xs ys : Data) : Type 0 where
  pub there : Present d 4
  pub typed : Below d IsTyped 5
  pub numbered : Below d IsNumbered 5
  pub at_x : IsAt d PointsX xs
  pub at_y : IsAt d PointsY ys
  pub same : length (elements xs) ≡ length (elements ys)

pub first_count : (d xs ys ws inputs : Data) (w m : ℕ) → IsEven d xs ys → IsAt d Weights ws → IsAt d Triangulations inputs
    → w ≡ length (elements ws) → m ≡ length (elements inputs) → w ≢ m → IsFirstIn d (WeightCount w m)
first_count d xs ys ws inputs w m even aw at ew em ne = record { holds = (ws, inputs, aw, at, ew, em, ne); first = earlier }
  where
    earlier : (g : Form) → IsEarlier g (WeightCount w m) → ¬ HoldsIn d g
    earlier NotJson e h = h
    earlier NotObject e h = is_object d PointsX xs even.at_x h
    earlier (Missing k) e h = none_missing d even.there k h
    earlier (WrongType k) e h = not_wrong d 5 even.typed k (few_members k) h
    earlier (NotInteger k q) e h = not_other d 5 even.numbered k q (few_members k) h
    earlier (LengthMismatch x y) e h = not_mismatch d xs ys even.at_x even.at_y even.same x y h
    earlier (WeightCount w' m') e h = not_equal e

pub no_fault : (d xs ys inputs : Data) → IsEven d xs ys → IsAt d Triangulations inputs → IsCounted d inputs → (f : Form) → ¬ HoldsIn d f
no_fault d xs ys inputs even at counted NotJson h = h
no_fault d xs ys inputs even at counted NotObject h = is_object d PointsX xs even.at_x h
no_fault d xs ys inputs even at counted (Missing k) h = none_missing d even.there k h
no_fault d xs ys inputs even at counted (WrongType k) h = not_wrong d 5 even.typed k (few_members k) h
no_fault d xs ys inputs even at counted (NotInteger k q) h = not_other d 5 even.numbered k q (few_members k) h
no_fault d xs ys inputs even at counted (LengthMismatch x y) h = not_mismatch d xs ys even.at_x even.at_y even.same x y h
no_fault d xs ys inputs even at counted (WeightCount w m) h = not_miscounted d inputs at counted w m h

-- ---- from the value of a text to its bytes
same_text : (bytes : List ℕ) (c d : Data) → IsText bytes c → IsText bytes d → c ≡ d
same_text bytes c d e f = let h : Some c ≡ Some d = sym e.1 ∙ f.1 in cc

not_held : (bytes : List ℕ) (d : Data) → IsText bytes d → (f : Form) → ¬ HoldsIn d f → ¬ Holds bytes f
not_held bytes d t NotJson h none = none d t
not_held bytes d t NotObject h (c, s, held) = h (subst (λ t. HoldsIn t NotObject) (same_text bytes c d s t) held)
not_held bytes d t (Missing k) h (c, s, held) = h (subst (λ t. HoldsIn t (Missing k)) (same_text bytes c d s t) held)
not_held bytes d t (WrongType k) h (c, s, held) = h (subst (λ t. HoldsIn t (WrongType k)) (same_text bytes c d s t) held)
not_held bytes d t (NotInteger k q) h (c, s, held) = h (subst (λ t. HoldsIn t (NotInteger k q)) (same_text bytes c d s t) held)
not_held bytes d t (LengthMismatch x y) h (c, s, held) = h (subst (λ t. HoldsIn t (LengthMismatch x y)) (same_text bytes c d s t) held)
not_held bytes d t (WeightCount w m) h (c, s, held) = h (subst (λ t. HoldsIn t (WeightCount w m)) (same_text bytes c d s t) held)

held_by : (bytes : List ℕ) (d : Data) → IsText bytes d → (f : Form) → HoldsIn d f → Holds bytes f
held_by bytes d t NotJson h = absurd h
held_by bytes d t NotObject h = (d, t, h)
held_by bytes d t (Missing k) h = (d, t, h)
held_by bytes d t (WrongType k) h = (d, t, h)
held_by bytes d t (NotInteger k q) h = (d, t, h)
held_by bytes d t (LengthMismatch x y) h = (d, t, h)
held_by bytes d t (WeightCount w m) h = (d, t, h)

pub first_of_text : (bytes : List ℕ) (d : Data) → IsText bytes d → (f : Form) → IsFirstIn d f → IsFirstFormFault bytes f
first_of_text bytes d t f r = record {
  holds = held_by bytes d t f r.holds;
  first = λ g e. not_held bytes d t g (r.first g e);
}

pub cause_of_text : (bytes : List ℕ) (d : Data) → IsText bytes d → (e : InstanceFault) → OnFaultIn d e → OnFault bytes e
cause_of_text bytes d t (faults.Form f) r = first_of_text bytes d t f r
cause_of_text bytes d t faults.OutOfMemory r = tt

pub first_not_json : (bytes : List ℕ) → ((d : Data) → ¬ IsText bytes d) → IsFirstFormFault bytes NotJson
first_not_json bytes none = record { holds = none; first = earlier }
  where
    earlier : (g : Form) → IsEarlier g NotJson → ¬ Holds bytes g
    earlier NotJson e h = not_equal e
    earlier NotObject e h = not_less e
    earlier (Missing k) e h = not_less e
    earlier (WrongType k) e h = not_less e
    earlier (NotInteger k q) e h = not_less e
    earlier (LengthMismatch x y) e h = not_less e
    earlier (WeightCount w m) e h = not_less e

pub form_of_text : (bytes : List ℕ) (d : Data) → IsText bytes d → ((f : Form) → ¬ HoldsIn d f) → HasForm bytes
form_of_text bytes d t none f = not_held bytes d t f (none f)
