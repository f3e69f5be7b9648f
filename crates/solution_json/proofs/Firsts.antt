-- Which fault is the first.
use Rattle.std.proofs.Common.{◌≡◌, ◌∙◌, ◌⊎◌, inl, inr, sym, refl, subst, ℕ, ◌*◌, ◌<◌, List, [], ◌∷◌, Some, None, arith}
use Rattle.std.specs.Prelude.{All, slice_get}
use Rattle.std.specs.declared.cmp.Ordering.{Ordering}
use Rattle.std.specs.declared.cmp.Ordering.TheVariants.{Less, Equal, Greater}
use Rattle.std.specs.Ordering.{MatchOrdering, nat_cmp, ordering_then}
use Rattle.std.specs.Cmp.Lexicographic.{slice_cmp}
use Rattle.std.proofs.lemmas.Cmp.{ranked}
use Rattle.serde_json.specs.Data.{Data, null, boolean, number, string, array, object}
use Rattle.json_value.specs.Values.{IsText, IsWhole, IsFirstOther, IsFirstNot}
use Rattle.solution_json.specs.Edges.{IsEdgePair}
use Rattle.json_value.proofs.Steps.{first_is, holds_before, holds_at}
use Rattle.solution_json.specs.Members.{IsAt, HasType, pairs_of_flips, numbers_of_flips}
use Rattle.solution_json.specs.Faults.{HoldsIn, Holds, IsEarlier, IsFirstIn, IsFirstSolFault, OnFaultIn, OnFault, HasForm}
use Rattle.solution_json.specs.declared.fault.SolMember.{SolMember}
use Rattle.solution_json.specs.declared.fault.SolMember.TheVariants.{Uid, Flips}
use Rattle.solution_json.specs.declared.fault.SolForm.{SolForm}
use Rattle.solution_json.specs.declared.fault.SolForm.TheVariants.{NotJson, NotObject, Missing, WrongType, NotInteger, BadPair}
use Rattle.solution_json.specs.declared.fault.SolutionFault.{SolutionFault}
use Rattle.solution_json.specs.declared.fault.SolutionFault.TheVariants as faults

-- ---- order
less_then : (P Q R : Type 0) (o r : Ordering) → MatchOrdering o P Q R → ordering_then o r ≡ Less → P ⊎ (Q × (r ≡ Less))
less_then P Q R Less r m e = inl m
less_then P Q R Equal r m e = inr (m, e)
less_then P Q R Greater r m e = absurd (let h : Greater ≡ Less = e in cc)

no_less : (o : Ordering) → o ≡ Equal → o ≡ Less → ⊥
no_less o e f = let h : Equal ≡ Less = sym e ∙ f in cc

pub less_first : (a b : ℕ) (as' bs : List ℕ) → slice_cmp nat_cmp (a ∷ as') (b ∷ bs) ≡ Less → (a < b) ⊎ ((a ≡ b) × (slice_cmp nat_cmp as' bs ≡ Less))
less_first a b as' bs e = less_then (a < b) (a ≡ b) (b < a) (nat_cmp a b) (slice_cmp nat_cmp as' bs) (ranked a b (nat_cmp a b) refl) e

pub less_one : (a b : ℕ) → slice_cmp nat_cmp (a ∷ []) (b ∷ []) ≡ Less → a < b
less_one a b e = elim (less_first a b [] [] e) [ inl lt ↦ lt | inr h ↦ absurd (no_less Equal refl h.1) ]

pub less_two : (a b p q : ℕ) → slice_cmp nat_cmp (a ∷ p ∷ []) (b ∷ q ∷ []) ≡ Less → (a < b) ⊎ ((a ≡ b) × (p < q))
less_two a b p q e = elim (less_first a b (p ∷ []) (q ∷ []) e) [ inl lt ↦ inl lt | inr h ↦ inr (h.0, less_one p q h.1) ]

not_less : Greater ≡ Less → ⊥
not_less e = cc

not_equal : Equal ≡ Less → ⊥
not_equal e = cc

-- ---- a fault that isn't there
abbrev pub HasMembers : Data → Data → Data → Type 0
HasMembers d u v = IsAt d Uid u × IsAt d Flips v

same_at : (d : Data) (m : SolMember) (v w : Data) → IsAt d m v → IsAt d m w → v ≡ w
same_at d m v w e f = let h : Some v ≡ Some w = sym e ∙ f in cc

not_missing : (d : Data) (k : SolMember) (v : Data) → IsAt d k v → ¬ HoldsIn d (Missing k)
not_missing d k v e f = let h : Some v ≡ None = sym e ∙ f in cc

not_wrong : (d : Data) (k : SolMember) (v : Data) → IsAt d k v → HasType k v → ¬ HoldsIn d (WrongType k)
not_wrong d k v e t (w, at, fails) = fails (subst (HasType k) (same_at d k v w e at) t)

not_other : (d v : Data) (q : ℕ) → IsAt d Flips v → All IsWhole (numbers_of_flips v) → ¬ HoldsIn d (NotInteger q)
not_other d v q e all (w, x, at, is, fails) =
    fails (holds_at IsWhole (numbers_of_flips w) q x (subst (λ t. All IsWhole (numbers_of_flips t)) (same_at d Flips v w e at) all) is)

not_bad : (d v : Data) (q : ℕ) → IsAt d Flips v → All IsEdgePair (pairs_of_flips v) → ¬ HoldsIn d (BadPair q)
not_bad d v q e all (w, p, k, at, is, fails, place) =
    fails (holds_at IsEdgePair (pairs_of_flips w) k p (subst (λ t. All IsEdgePair (pairs_of_flips t)) (same_at d Flips v w e at) all) is)

is_object : (d : Data) (k : SolMember) (v : Data) → IsAt d k v → ¬ HoldsIn d NotObject
is_object null k v e f = let h : None ≡ Some v = e in cc
is_object (boolean b) k v e f = let h : None ≡ Some v = e in cc
is_object (number n) k v e f = let h : None ≡ Some v = e in cc
is_object (string s) k v e f = let h : None ≡ Some v = e in cc
is_object (array ds) k v e f = let h : None ≡ Some v = e in cc
is_object (object ms) k v e f = let h : Some ms ≡ None = f in cc

none_missing : (d u v : Data) → HasMembers d u v → (k : SolMember) → ¬ HoldsIn d (Missing k)
none_missing d u v m Uid = not_missing d Uid u m.0
none_missing d u v m Flips = not_missing d Flips v m.1

none_wrong : (d u v : Data) → HasMembers d u v → HasType Uid u → HasType Flips v → (k : SolMember) → ¬ HoldsIn d (WrongType k)
none_wrong d u v m s t Uid = not_wrong d Uid u m.0 s
none_wrong d u v m s t Flips = not_wrong d Flips v m.1 t

-- ---- each kind of fault as the first
pub first_flips : (d u v : Data) → HasMembers d u v → HasType Uid u → ¬ HasType Flips v → IsFirstIn d (WrongType Flips)
first_flips d u v m s wrong = record { holds = (v, m.1, wrong); first = earlier }
  where
    earlier : (g : SolForm) → IsEarlier g (WrongType Flips) → ¬ HoldsIn d g
    earlier NotJson e h = h
    earlier NotObject e h = is_object d Uid u m.0 h
    earlier (Missing k) e h = none_missing d u v m k h
    earlier (WrongType Uid) e h = not_wrong d Uid u m.0 s h
    earlier (WrongType Flips) e h = not_equal e
    earlier (NotInteger q) e h = not_less e
    earlier (BadPair q) e h = not_less e

pub first_other : (d u v : Data) (p : ℕ) → HasMembers d u v → HasType Uid u → HasType Flips v → IsFirstOther (numbers_of_flips v) p → IsFirstIn d (NotInteger p)
first_other d u v p m s t other = record { holds = holds; first = earlier }
  where
    holds : HoldsIn d (NotInteger p)
    holds = let o = first_is IsWhole (numbers_of_flips v) p other in (v, o.0, m.1, o.1, o.2)

    earlier : (g : SolForm) → IsEarlier g (NotInteger p) → ¬ HoldsIn d g
    earlier NotJson e h = h
    earlier NotObject e h = is_object d Uid u m.0 h
    earlier (Missing k) e h = none_missing d u v m k h
    earlier (WrongType k) e h = none_wrong d u v m s t k h
    earlier (NotInteger q) e (w, x, at, is, fails) =
        fails (holds_before IsWhole (numbers_of_flips v) p q x other (less_one q p e) (subst (λ t. slice_get (numbers_of_flips t) q ≡ Some x) (same_at d Flips w v at m.1) is))
    earlier (BadPair q) e h = not_less e

pub first_bad : (d u v : Data) (k : ℕ) → HasMembers d u v → HasType Uid u → HasType Flips v → All IsWhole (numbers_of_flips v) → IsFirstNot IsEdgePair (pairs_of_flips v) k
    → IsFirstIn d (BadPair (2 * k))
first_bad d u v k m s t whole bad = record { holds = holds; first = earlier }
  where
    holds : HoldsIn d (BadPair (2 * k))
    holds = let o = first_is IsEdgePair (pairs_of_flips v) k bad in (v, o.0, k, m.1, o.1, o.2, refl)

    earlier : (g : SolForm) → IsEarlier g (BadPair (2 * k)) → ¬ HoldsIn d g
    earlier NotJson e h = h
    earlier NotObject e h = is_object d Uid u m.0 h
    earlier (Missing i) e h = none_missing d u v m i h
    earlier (WrongType i) e h = none_wrong d u v m s t i h
    earlier (NotInteger q) e h = not_other d v q m.1 whole h
    earlier (BadPair q) e (w, x, j, at, is, fails, place) =
        let lt : q < 2 * k = less_one q (2 * k) e in
        let below : j < k = omega (arith, lt, place) in
        fails (holds_before IsEdgePair (pairs_of_flips v) k j x bad below (subst (λ t. slice_get (pairs_of_flips t) j ≡ Some x) (same_at d Flips w v at m.1) is))

pub no_fault : (d u v : Data) → HasMembers d u v → HasType Uid u → HasType Flips v → All IsWhole (numbers_of_flips v) → All IsEdgePair (pairs_of_flips v) → (f : SolForm) → ¬ HoldsIn d f
no_fault d u v m s t whole edges NotJson h = h
no_fault d u v m s t whole edges NotObject h = is_object d Uid u m.0 h
no_fault d u v m s t whole edges (Missing k) h = none_missing d u v m k h
no_fault d u v m s t whole edges (WrongType k) h = none_wrong d u v m s t k h
no_fault d u v m s t whole edges (NotInteger q) h = not_other d v q m.1 whole h
no_fault d u v m s t whole edges (BadPair q) h = not_bad d v q m.1 edges h

-- ---- from the value of a text to its bytes
same_text : (bytes : List ℕ) (c d : Data) → IsText bytes c → IsText bytes d → c ≡ d
same_text bytes c d e f = let h : Some c ≡ Some d = sym e.1 ∙ f.1 in cc

not_held : (bytes : List ℕ) (d : Data) → IsText bytes d → (f : SolForm) → ¬ HoldsIn d f → ¬ Holds bytes f
not_held bytes d t NotJson h none = none d t
not_held bytes d t NotObject h (c, s, held) = h (subst (λ t. HoldsIn t NotObject) (same_text bytes c d s t) held)
not_held bytes d t (Missing k) h (c, s, held) = h (subst (λ t. HoldsIn t (Missing k)) (same_text bytes c d s t) held)
not_held bytes d t (WrongType k) h (c, s, held) = h (subst (λ t. HoldsIn t (WrongType k)) (same_text bytes c d s t) held)
not_held bytes d t (NotInteger q) h (c, s, held) = h (subst (λ t. HoldsIn t (NotInteger q)) (same_text bytes c d s t) held)
not_held bytes d t (BadPair q) h (c, s, held) = h (subst (λ t. HoldsIn t (BadPair q)) (same_text bytes c d s t) held)

held_by : (bytes : List ℕ) (d : Data) → IsText bytes d → (f : SolForm) → HoldsIn d f → Holds bytes f
held_by bytes d t NotJson h = absurd h
held_by bytes d t NotObject h = (d, t, h)
held_by bytes d t (Missing k) h = (d, t, h)
held_by bytes d t (WrongType k) h = (d, t, h)
held_by bytes d t (NotInteger q) h = (d, t, h)
held_by bytes d t (BadPair q) h = (d, t, h)

pub first_of_text : (bytes : List ℕ) (d : Data) → IsText bytes d → (f : SolForm) → IsFirstIn d f → IsFirstSolFault bytes f
first_of_text bytes d t f r = record {
  holds = held_by bytes d t f r.holds;
  first = λ g e. not_held bytes d t g (r.first g e);
}

pub cause_of_text : (bytes : List ℕ) (d : Data) → IsText bytes d → (e : SolutionFault) → OnFaultIn d e → OnFault bytes e
cause_of_text bytes d t (faults.Form f) r = first_of_text bytes d t f r
cause_of_text bytes d t faults.OutOfMemory r = tt

pub first_not_json : (bytes : List ℕ) → ((d : Data) → ¬ IsText bytes d) → IsFirstSolFault bytes NotJson
first_not_json bytes none = record { holds = none; first = earlier }
  where
    earlier : (g : SolForm) → IsEarlier g NotJson → ¬ Holds bytes g
    earlier NotJson e h = not_equal e
    earlier NotObject e h = not_less e
    earlier (Missing k) e h = not_less e
    earlier (WrongType k) e h = not_less e
    earlier (NotInteger q) e h = not_less e
    earlier (BadPair q) e h = not_less e

pub form_of_text : (bytes : List ℕ) (d : Data) → IsText bytes d → ((f : SolForm) → ¬ HoldsIn d f) → HasForm bytes
form_of_text bytes d t none f = not_held bytes d t f (none f)
