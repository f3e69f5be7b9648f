-- What the values at the members say of the whole text.
use Rattle.std.proofs.Common.{◌≡◌, ◌≢◌, ◌∙◌, sym, ap, refl, subst, ℕ, List, [], ◌∷◌, length, map, Some, None, arith, ℤ, pos}
use Rattle.std.specs.Prelude.{All, Option, IsSomeAnd, MatchOption, IfOk, Result, Ok, Err}
use Rattle.std.specs.Option.{option_map}
use Rattle.std.specs.List.{AllZip, flat_map}
use Rattle.std.proofs.lemmas.List.{length-map, length-replicate}
use Rattle.std.proofs.lemmas.List.Elements.{All-append, All-nil, All-cons}
use Rattle.serde_json.specs.Data.{Data}
use Rattle.serde_json.specs.Find.{get, as_array, as_str}
use Rattle.serde_json.specs.View.{items_of}
use Rattle.tri_check.specs.declared.raw.RawPair.{RawPair}
use Rattle.tri_check.specs.declared.raw.RawInstance.{RawInstance}
use Rattle.json_value.specs.Values.{IsWhole, IsNumber, IsFirstOther, IsList, IsListOf, Lists, IsPair, IsPairOf, elements, numbers_of_pairs, numbers_of_lists}
use Rattle.json_value.proofs.Steps.{elements_are}
use Rattle.json_value.proofs.Once.{some_once}
use Rattle.json_value.proofs.Rows.{numbers_whole}
use Rattle.instance_json.specs.Members.{name_of, HasType}
use Rattle.instance_json.specs.Faults.{HoldsIn, IsFirstIn, OnFaultIn, IsOther}
use Rattle.instance_json.specs.Forms.{IsListIfAny, WeighInputs, IsWeights, HasMembers, HasLists, IsRaw}
use Rattle.instance_json.specs.declared.fault.Member.TheVariants.{Uid, PointsX, PointsY, Triangulations, Weights}
use Rattle.instance_json.specs.declared.fault.Form.{Form}
use Rattle.instance_json.specs.declared.fault.Form.TheVariants.{WrongType, LengthMismatch, WeightCount}
use Rattle.instance_json.specs.declared.fault.InstanceFault.{InstanceFault}
use Rattle.instance_json.specs.declared.fault.InstanceFault.TheVariants as faults
use Rattle.instance_json.proofs.Firsts.{Present, present_none, present_more, Below, below_none, below_next, below_more, IsTyped, IsNumbered, IsEven, first_wrong, first_other, first_mismatch, first_count, no_fault}

-- ---- lists whose elements stand for something
pub zip_whole : (es : List Data) (zs : List ℤ) → AllZip IsNumber es zs → All IsWhole es
zip_whole [] zs z = All-nil IsWhole
zip_whole (e ∷ es) [] z = absurd z
zip_whole (e ∷ es) (x ∷ zs) z = All-cons IsWhole e es (x, z.0) (zip_whole es zs z.1)

pub zip_length : {X : Type 0} (R : Data → X → Type 0) (es : List Data) (xs : List X) → AllZip R es xs → length es ≡ length xs
zip_length R [] [] z = refl
zip_length R [] (x ∷ xs) z = absurd z
zip_length R (e ∷ es) [] z = absurd z
zip_length R (e ∷ es) (x ∷ xs) z = omega (arith, zip_length R es xs z.1)

pub lists_whole : (es : List Data) (lists : List (List RawPair)) → AllZip (Lists IsPairOf) es lists → All IsWhole (flat_map numbers_of_pairs es)
lists_whole [] lists z = All-nil IsWhole
lists_whole (e ∷ es) [] z = absurd z
lists_whole (e ∷ es) (pairs ∷ lists) ((fs, is, zip), rest) =
    All-append IsWhole (numbers_of_pairs e) (flat_map numbers_of_pairs es) (numbers_whole e fs pairs is zip) (lists_whole es lists rest)

pairs_typed : (es : List Data) (pairs : List RawPair) → AllZip IsPairOf es pairs → All IsPair es
pairs_typed [] pairs z = All-nil IsPair
pairs_typed (e ∷ es) [] z = absurd z
pairs_typed (e ∷ es) (pair ∷ pairs) ((a, b, is, ea, eb), rest) = All-cons IsPair e es (a, b, is) (pairs_typed es pairs rest)

pub lists_typed : (es : List Data) (lists : List (List RawPair)) → AllZip (Lists IsPairOf) es lists → All (IsListOf IsPair) es
lists_typed [] lists z = All-nil (IsListOf IsPair)
lists_typed (e ∷ es) [] z = absurd z
lists_typed (e ∷ es) (pairs ∷ lists) ((fs, is, zip), rest) =
    All-cons (IsListOf IsPair) e es (fs, is, pairs_typed fs pairs zip) (lists_typed es lists rest)

not_list : (v : Data) → as_array v ≡ None → ¬ HasType PointsX v
not_list v none (es, is) = let h : None ≡ Some (items_of es) = sym none ∙ is in cc

-- ---- the members of the object, one after another
module _ {d u x y t : Data} {w : Option Data} (m : HasMembers d u x y t w) where
  there : Present d 4
  there =
      present_more d Triangulations 4 refl t m.inputs
      (present_more d PointsY 3 refl y m.ys
      (present_more d PointsX 2 refl x m.xs
      (present_more d Uid 1 refl u m.uid (present_none d))))

  one_typed : (s : List ℕ) → as_str u ≡ Some s → Below d IsTyped 1
  one_typed s e = below_more d IsTyped Uid 1 refl u m.uid (s, e) (below_none d IsTyped)

  two_typed : (s : List ℕ) (es : List Data) → as_str u ≡ Some s → IsList x es → Below d IsTyped 2
  two_typed s es e l = below_more d IsTyped PointsX 2 refl x m.xs (es, l) (one_typed s e)

  three_typed : (s : List ℕ) (es fs : List Data) → as_str u ≡ Some s → IsList x es → IsList y fs → Below d IsTyped 3
  three_typed s es fs e l k = below_more d IsTyped PointsY 3 refl y m.ys (fs, k) (two_typed s es e l)

  four_typed : (s : List ℕ) (es fs gs : List Data) → as_str u ≡ Some s → IsList x es → IsList y fs → IsList t gs → All (IsListOf IsPair) gs → Below d IsTyped 4
  four_typed s es fs gs e l k j pairs = below_more d IsTyped Triangulations 4 refl t m.inputs (gs, j, pairs) (three_typed s es fs e l k)

  -- ---- wrong types
  pub wrong_xs : (s : List ℕ) → as_str u ≡ Some s → as_array x ≡ None → IsFirstIn d (WrongType PointsX)
  wrong_xs s e none = first_wrong d PointsX x there (one_typed s e) m.xs (not_list x none)

  pub wrong_ys : (s : List ℕ) (es : List Data) → as_str u ≡ Some s → IsList x es → as_array y ≡ None → IsFirstIn d (WrongType PointsY)
  wrong_ys s es e l none = first_wrong d PointsY y there (two_typed s es e l) m.ys (not_list y none)

  pub wrong_inputs : (s : List ℕ) (es fs : List Data) → as_str u ≡ Some s → IsList x es → IsList y fs → ¬ IsListOf (IsListOf IsPair) t → IsFirstIn d (WrongType Triangulations)
  wrong_inputs s es fs e l k wrong = first_wrong d Triangulations t there (three_typed s es fs e l k) m.inputs wrong

  pub wrong_weights : (s : List ℕ) (es fs gs : List Data) (v : Data) → as_str u ≡ Some s → IsList x es → IsList y fs → IsList t gs → All (IsListOf IsPair) gs
      → w ≡ Some v → as_array v ≡ None → IsFirstIn d (WrongType Weights)
  wrong_weights s es fs gs v e l k j pairs is none = first_wrong d Weights v there (four_typed s es fs gs e l k j pairs) (m.weights ∙ is) (not_list v none)

  pub has_lists : (s : List ℕ) (es fs gs : List Data) (vs : Option (List Data)) → as_str u ≡ Some s → IsList x es → IsList y fs → IsList t gs → IsListIfAny w vs → HasLists d s es fs gs vs
  has_lists s es fs gs vs e l k j i = record {
    uid = (u, m.uid, e);
    xs = (x, m.xs, l);
    ys = (y, m.ys, k);
    inputs = (t, m.inputs, j);
    weights = subst (λ o. IsListIfAny o vs) (sym m.weights) i;
  }

-- the faults of what may be missing
pub wrong_any : {V : Type 0} (see : V → Data) (o : Option V) {d u x y t : Data} (m : HasMembers d u x y t (option_map see o)) (s : List ℕ) (es fs gs : List Data) → as_str u ≡ Some s
    → IsList x es → IsList y fs → IsList t gs → All (IsListOf IsPair) gs → IsSomeAnd o (λ v. as_array (see v) ≡ None) → IsFirstIn d (WrongType Weights)
wrong_any see None m s es fs gs e l k j pairs none = absurd none
wrong_any see (Some v) m s es fs gs e l k j pairs none = wrong_weights m s es fs gs (see v) e l k j pairs refl none

-- ---- the weights, if there are any
weights_typed : (o : Option Data) (w : Option (List Data)) (v : Data) → IsListIfAny o w → o ≡ Some v → HasType Weights v
weights_typed None w v l e = let h : None ≡ Some v = e in cc
weights_typed (Some u) None v l e = absurd l
weights_typed (Some u) (Some es) v l e = (es, subst (λ a. IsList a es) (some_once u v e) l)

weights_numbered : (o : Option Data) (w : Option (List Data)) (n : ℕ) (ws : List ℤ) (v : Data) → IsListIfAny o w → WeighInputs w n ws → o ≡ Some v → All IsWhole (elements v)
weights_numbered None w n ws v l z e = let h : None ≡ Some v = e in cc
weights_numbered (Some u) None n ws v l z e = absurd l
weights_numbered (Some u) (Some es) n ws v l z e =
    subst (All IsWhole) (sym (elements_are u es l) ∙ ap elements (some_once u v e)) (zip_whole es ws z)

weights_length : (o : Option Data) (w : Option (List Data)) (n : ℕ) (ws : List ℤ) (v : Data) → IsListIfAny o w → WeighInputs w n ws → o ≡ Some v → length (elements v) ≡ length ws
weights_length None w n ws v l z e = let h : None ≡ Some v = e in cc
weights_length (Some u) None n ws v l z e = absurd l
weights_length (Some u) (Some es) n ws v l z e = ap length (sym (ap elements (some_once u v e)) ∙ elements_are u es l) ∙ zip_length IsNumber es ws z

at_weights : (es : List Data) (o : Option Data) → IsListIfAny o (Some es) → (v : Data) × (o ≡ Some v) × IsList v es
at_weights es None l = absurd l
at_weights es (Some v) l = (v, refl, l)

-- where the weights aren't as many as the inputs, they are listed
needs_weights : (w : Option (List Data)) (o : Option Data) (n : ℕ) (ws : List ℤ) → IsListIfAny o w → WeighInputs w n ws → length ws ≢ n → (v : Data) × (o ≡ Some v)
needs_weights None None n ws l z ne = absurd (ne (ap length z ∙ length-replicate n (pos 1)))
needs_weights (Some es) None n ws l z ne = absurd l
needs_weights w (Some v) n ws l z ne = (v, refl)

pub are_weights : (o : Option Data) (w : Option (List Data)) (n : ℕ) (ws : List ℤ) → IsListIfAny o w → WeighInputs w n ws → IsWeights o n ws
are_weights None None n ws l z = z
are_weights None (Some es) n ws l z = absurd l
are_weights (Some v) None n ws l z = absurd l
are_weights (Some v) (Some es) n ws l z = (es, l, z)

list_of_weights : (o : Option Data) (n : ℕ) (ws : List ℤ) → IsWeights o n ws → (w : Option (List Data)) × IsListIfAny o w × WeighInputs w n ws
list_of_weights None n ws z = (None, tt, z)
list_of_weights (Some v) n ws (es, l, z) = (Some es, l, z)

-- ---- the lists at the members, one after another
module _ {d : Data} {u : List ℕ} {x y t : List Data} {w : Option (List Data)} (h : HasLists d u x y t w) where
  have_lists : Present d 4
  have_lists =
      present_more d Triangulations 4 refl h.inputs.0 h.inputs.1
      (present_more d PointsY 3 refl h.ys.0 h.ys.1
      (present_more d PointsX 2 refl h.xs.0 h.xs.1
      (present_more d Uid 1 refl h.uid.0 h.uid.1 (present_none d))))

  typed : All (IsListOf IsPair) t → Below d IsTyped 5
  typed pairs =
      below_next d IsTyped Weights 5 refl (λ v at. weights_typed (get (name_of Weights) d) w v h.weights at)
      (below_more d IsTyped Triangulations 4 refl h.inputs.0 h.inputs.1 (t, h.inputs.2, pairs)
      (below_more d IsTyped PointsY 3 refl h.ys.0 h.ys.1 (y, h.ys.2)
      (below_more d IsTyped PointsX 2 refl h.xs.0 h.xs.1 (x, h.xs.2)
      (below_more d IsTyped Uid 1 refl h.uid.0 h.uid.1 (u, h.uid.2) (below_none d IsTyped)))))

  one_numbered : Below d IsNumbered 1
  one_numbered = below_more d IsNumbered Uid 1 refl h.uid.0 h.uid.1 (All-nil IsWhole) (below_none d IsNumbered)

  two_numbered : (xs : List ℤ) → AllZip IsNumber x xs → Below d IsNumbered 2
  two_numbered xs zx =
      below_more d IsNumbered PointsX 2 refl h.xs.0 h.xs.1 (subst (All IsWhole) (sym (elements_are h.xs.0 x h.xs.2)) (zip_whole x xs zx)) one_numbered

  three_numbered : (xs ys : List ℤ) → AllZip IsNumber x xs → AllZip IsNumber y ys → Below d IsNumbered 3
  three_numbered xs ys zx zy =
      below_more d IsNumbered PointsY 3 refl h.ys.0 h.ys.1 (subst (All IsWhole) (sym (elements_are h.ys.0 y h.ys.2)) (zip_whole y ys zy)) (two_numbered xs zx)

  lists_are : numbers_of_lists h.inputs.0 ≡ flat_map numbers_of_pairs t
  lists_are = ap (flat_map numbers_of_pairs) (elements_are h.inputs.0 t h.inputs.2)

  four_numbered : (xs ys : List ℤ) (lists : List (List RawPair)) → AllZip IsNumber x xs → AllZip IsNumber y ys → AllZip (Lists IsPairOf) t lists → Below d IsNumbered 4
  four_numbered xs ys lists zx zy zt =
      below_more d IsNumbered Triangulations 4 refl h.inputs.0 h.inputs.1 (subst (All IsWhole) (sym lists_are) (lists_whole t lists zt)) (three_numbered xs ys zx zy)

  numbered : (xs ys : List ℤ) (lists : List (List RawPair)) (n : ℕ) (ws : List ℤ) → AllZip IsNumber x xs → AllZip IsNumber y ys → AllZip (Lists IsPairOf) t lists → WeighInputs w n ws
      → Below d IsNumbered 5
  numbered xs ys lists n ws zx zy zt zw =
      below_next d IsNumbered Weights 5 refl (λ v at. weights_numbered (get (name_of Weights) d) w n ws v h.weights zw at) (four_numbered xs ys lists zx zy zt)

  even : (xs ys : List ℤ) (lists : List (List RawPair)) (n : ℕ) (ws : List ℤ) → All (IsListOf IsPair) t → AllZip IsNumber x xs → AllZip IsNumber y ys
      → AllZip (Lists IsPairOf) t lists → WeighInputs w n ws → length xs ≡ length ys → IsEven d h.xs.0 h.ys.0
  even xs ys lists n ws pairs zx zy zt zw same = record {
    there = have_lists;
    typed = typed pairs;
    numbered = numbered xs ys lists n ws zx zy zt zw;
    at_x = h.xs.1;
    at_y = h.ys.1;
    same = ap length (elements_are h.xs.0 x h.xs.2) ∙ zip_length IsNumber x xs zx ∙ same ∙ sym (zip_length IsNumber y ys zy) ∙ ap length (sym (elements_are h.ys.0 y h.ys.2));
  }

  inputs_length : (lists : List (List RawPair)) → AllZip (Lists IsPairOf) t lists → length (elements h.inputs.0) ≡ length lists
  inputs_length lists zt = ap length (elements_are h.inputs.0 t h.inputs.2) ∙ zip_length (Lists IsPairOf) t lists zt

  -- ---- numbers that aren't whole
  pub other_xs : (e : InstanceFault) → All (IsListOf IsPair) t → IsOther PointsX x e → OnFaultIn d e
  other_xs (faults.Form f) pairs (place, is, other) =
      subst (IsFirstIn d) (sym is)
      (first_other d PointsX place h.xs.0 have_lists (typed pairs) one_numbered h.xs.1 (subst (λ ds. IsFirstOther ds place) (sym (elements_are h.xs.0 x h.xs.2)) other))
  other_xs faults.OutOfMemory pairs o = tt

  pub other_ys : (xs : List ℤ) (e : InstanceFault) → All (IsListOf IsPair) t → AllZip IsNumber x xs → IsOther PointsY y e → OnFaultIn d e
  other_ys xs (faults.Form f) pairs zx (place, is, other) =
      subst (IsFirstIn d) (sym is)
      (first_other d PointsY place h.ys.0 have_lists (typed pairs) (two_numbered xs zx) h.ys.1 (subst (λ ds. IsFirstOther ds place) (sym (elements_are h.ys.0 y h.ys.2)) other))
  other_ys xs faults.OutOfMemory pairs zx o = tt

  pub other_inputs : (xs ys : List ℤ) (e : InstanceFault) → All (IsListOf IsPair) t → AllZip IsNumber x xs → AllZip IsNumber y ys
      → IsOther Triangulations (flat_map numbers_of_pairs t) e → OnFaultIn d e
  other_inputs xs ys (faults.Form f) pairs zx zy (place, is, other) =
      subst (IsFirstIn d) (sym is)
      (first_other d Triangulations place h.inputs.0 have_lists (typed pairs) (three_numbered xs ys zx zy) h.inputs.1 (subst (λ ds. IsFirstOther ds place) (sym lists_are) other))
  other_inputs xs ys faults.OutOfMemory pairs zx zy o = tt

  pub other_weights : (xs ys : List ℤ) (lists : List (List RawPair)) (es : List Data) (e : InstanceFault) → All (IsListOf IsPair) t → AllZip IsNumber x xs → AllZip IsNumber y ys
      → AllZip (Lists IsPairOf) t lists → w ≡ Some es → IsOther Weights es e → OnFaultIn d e
  other_weights xs ys lists es (faults.Form f) pairs zx zy zt some (place, is, other) =
      let (v, at, l) = at_weights es (get (name_of Weights) d) (subst (IsListIfAny (get (name_of Weights) d)) some h.weights) in
      subst (IsFirstIn d) (sym is)
      (first_other d Weights place v have_lists (typed pairs) (four_numbered xs ys lists zx zy zt) at (subst (λ ds. IsFirstOther ds place) (sym (elements_are v es l)) other))
  other_weights xs ys lists es faults.OutOfMemory pairs zx zy zt some o = tt

  -- ---- numbers that don't fit
  pub mismatch : (xs ys : List ℤ) (lists : List (List RawPair)) (k : ℕ) (ws : List ℤ) (n m : ℕ) → All (IsListOf IsPair) t → AllZip IsNumber x xs → AllZip IsNumber y ys
      → AllZip (Lists IsPairOf) t lists → WeighInputs w k ws → n ≡ length xs → m ≡ length ys → n ≢ m → IsFirstIn d (LengthMismatch n m)
  mismatch xs ys lists k ws n m pairs zx zy zt zw en em ne =
      first_mismatch d h.xs.0 h.ys.0 n m have_lists (typed pairs) (numbered xs ys lists k ws zx zy zt zw) h.xs.1 h.ys.1
      (en ∙ sym (zip_length IsNumber x xs zx) ∙ ap length (sym (elements_are h.xs.0 x h.xs.2)))
      (em ∙ sym (zip_length IsNumber y ys zy) ∙ ap length (sym (elements_are h.ys.0 y h.ys.2))) ne

  pub miscount : (xs ys : List ℤ) (lists : List (List RawPair)) (ws : List ℤ) (n m : ℕ) → All (IsListOf IsPair) t → AllZip IsNumber x xs → AllZip IsNumber y ys
      → AllZip (Lists IsPairOf) t lists → WeighInputs w (length lists) ws → length xs ≡ length ys → n ≡ length ws → m ≡ length lists → n ≢ m → IsFirstIn d (WeightCount n m)
  miscount xs ys lists ws n m pairs zx zy zt zw same en em ne =
      let (v, at) = needs_weights w (get (name_of Weights) d) (length lists) ws h.weights zw (λ e. ne (en ∙ e ∙ sym em)) in
      first_count d h.xs.0 h.ys.0 v h.inputs.0 n m (even xs ys lists (length lists) ws pairs zx zy zt zw same) at h.inputs.1
      (en ∙ sym (weights_length (get (name_of Weights) d) w (length lists) ws v h.weights zw at)) (em ∙ sym (inputs_length lists zt)) ne

  -- ---- what is read has no fault
  no_fault_in : (xs ys : List ℤ) (lists : List (List RawPair)) (ws : List ℤ) → AllZip IsNumber x xs → AllZip IsNumber y ys → AllZip (Lists IsPairOf) t lists
      → WeighInputs w (length lists) ws → length xs ≡ length ys → length ws ≡ length lists → (f : Form) → ¬ HoldsIn d f
  no_fault_in xs ys lists ws zx zy zt zw same counted =
      no_fault d h.xs.0 h.ys.0 h.inputs.0 (even xs ys lists (length lists) ws (lists_typed t lists zt) zx zy zt zw same) h.inputs.1
      (λ v at. weights_length (get (name_of Weights) d) w (length lists) ws v h.weights zw at ∙ counted ∙ sym (inputs_length lists zt))

pub other_any : {V : Type 0} (see : V → List Data) (o : Option V) {d : Data} {u : List ℕ} {x y t : List Data} (h : HasLists d u x y t (option_map see o)) (xs ys : List ℤ)
    (lists : List (List RawPair)) (e : InstanceFault) → All (IsListOf IsPair) t → AllZip IsNumber x xs → AllZip IsNumber y ys → AllZip (Lists IsPairOf) t lists
    → MatchOption o (e ≡ faults.OutOfMemory) (λ v. IsOther Weights (see v) e) → OnFaultIn d e
other_any see None {d = d} h xs ys lists e pairs zx zy zt o = subst (OnFaultIn d) (sym o) tt
other_any see (Some v) h xs ys lists e pairs zx zy zt o = other_weights h xs ys lists (see v) e pairs zx zy zt refl o

-- what holds of the value of a result, both together
pub both_ok : {T E : Type 0} (r : Result T E) (P Q : T → Type 0) → IfOk r P → IfOk r Q → IfOk r (λ x. P x × Q x)
both_ok (Ok x) P Q p q = (p, q)
both_ok (Err e) P Q p q = tt

pub raw_no_fault : (d : Data) (raw : RawInstance) → IsRaw d raw → length raw.weights ≡ length raw.inputs → (f : Form) → ¬ HoldsIn d f
raw_no_fault d raw r counted =
    let (w, l, z) = list_of_weights (get (name_of Weights) d) (length raw.inputs) raw.weights r.weights in
    let h : HasLists d raw.uid r.xs.2.0 r.ys.2.0 r.inputs.2.0 w = record {
      uid = r.uid;
      xs = (r.xs.0, r.xs.1, r.xs.2.1);
      ys = (r.ys.0, r.ys.1, r.ys.2.1);
      inputs = (r.inputs.0, r.inputs.1, r.inputs.2.1);
      weights = l;
    } in
    no_fault_in h (map (λ p. p.x) raw.points) (map (λ p. p.y) raw.points) raw.inputs raw.weights r.xs.2.2 r.ys.2.2 r.inputs.2.2 z
    (length-map raw.points (λ p. p.x) ∙ sym (length-map raw.points (λ p. p.y))) counted
