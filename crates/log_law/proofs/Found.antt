-- Looking steps up by their variables.
use Rattle.std.proofs.Common.{◌≡◌, ◌≢◌, ◌⊎◌, ◌↔◌, inl, inr, ℕ, zero, suc, ◌+◌, ◌<◌, true, false, Option, Some, None, List, [], ◌∷◌, length, refl, sym, ap, ◌∙◌, arith}
use Rattle.std.specs.Prelude.{AllPairs, nat_eq, option_map}
use Rattle.std.proofs.lemmas.Bool.{eq-eqb, ne_eqb, cases_eq}
use Rattle.std.proofs.lemmas.List.Elements.{Contains-get_or}
use Rattle.log_law.specs.Clauses.{Clause}
use Rattle.log_law.specs.Units.{value}
use Rattle.log_law.specs.Trails.{Step, no_step, step_at, step_of, place_of, literals, IsTrail}
use Rattle.log_law.proofs.Lists.{pairs_head, pairs_tail}

abbrev AreApart : Step → Step → Type 0
AreApart s t = s.literal.var ≢ t.literal.var

-- ---- the first step about a variable, or the later ones

step_here : (s : Step) (trail : List Step) (v : ℕ) → s.literal.var ≡ v → step_of (s ∷ trail) v ≡ Some s
step_here s trail v e = let t : nat_eq s.literal.var v ≡ true = eq-eqb s.literal.var v e in rw t refl

step_later : (s : Step) (trail : List Step) (v : ℕ) → s.literal.var ≢ v → step_of (s ∷ trail) v ≡ step_of trail v
step_later s trail v n = let t : nat_eq s.literal.var v ≡ false = ne_eqb s.literal.var v n in rw t refl

place_here : (s : Step) (trail : List Step) (v : ℕ) → s.literal.var ≡ v → place_of (s ∷ trail) v ≡ Some 0
place_here s trail v e = let t : nat_eq s.literal.var v ≡ true = eq-eqb s.literal.var v e in rw t refl

place_later : (s : Step) (trail : List Step) (v : ℕ) → s.literal.var ≢ v → place_of (s ∷ trail) v ≡ option_map (λ place. place + 1) (place_of trail v)
place_later s trail v n = let t : nat_eq s.literal.var v ≡ false = ne_eqb s.literal.var v n in rw t refl

-- ---- the step at a place is found, and its place

found : (trail : List Step) (place : ℕ) → AllPairs AreApart trail → place < length trail → step_of trail (step_at trail place).literal.var ≡ Some (step_at trail place)
found [] place apart l = absurd (omega arith)
found (s ∷ trail) zero apart l = step_here s trail s.literal.var refl
found (s ∷ trail) (suc place) apart l =
    step_later s trail (step_at trail place).literal.var (pairs_head AreApart s trail apart (step_at trail place) (Contains-get_or trail place no_step (omega arith)))
    ∙ found trail place (pairs_tail AreApart s trail apart) (omega arith)

pub steps_are_found : (clauses : List Clause) (trail : List Step) (level place : ℕ) → IsTrail clauses trail level → place < length trail → step_of trail (step_at trail place).literal.var ≡ Some (step_at trail place)
steps_are_found clauses trail level place T l = found trail place T.distinct l

pub place_found : (trail : List Step) (place : ℕ) → AllPairs AreApart trail → place < length trail → place_of trail (step_at trail place).literal.var ≡ Some place
place_found [] place apart l = absurd (omega arith)
place_found (s ∷ trail) zero apart l = place_here s trail s.literal.var refl
place_found (s ∷ trail) (suc place) apart l =
    place_later s trail (step_at trail place).literal.var (pairs_head AreApart s trail apart (step_at trail place) (Contains-get_or trail place no_step (omega arith)))
    ∙ (ap (option_map (λ p. p + 1)) (place_found trail place (pairs_tail AreApart s trail apart) (omega arith)) ∙ ap Some (omega arith))

-- ---- places and steps

-- the place of a variable has the step about it
abbrev IsPlace : List Step → ℕ → ℕ → Type 0
IsPlace trail v place = (place < length trail) × ((step_at trail place).literal.var ≡ v) × (step_of trail v ≡ Some (step_at trail place))

pub place_step : (trail : List Step) (v place : ℕ) → place_of trail v ≡ Some place → IsPlace trail v place
place_step [] v place e = absurd (cc)
place_step (s ∷ trail) v place e = by_var (cases_eq s.literal.var v) (place_step trail v)
  where
    first : (p : ℕ) → Some 0 ≡ Some p → s.literal.var ≡ v → IsPlace (s ∷ trail) v p
    first zero i f = (omega arith, f, step_here s trail v f)
    first (suc p) i f = absurd (cc)

    deeper : s.literal.var ≢ v → (p q : ℕ) → p + 1 ≡ q → IsPlace trail v p → IsPlace (s ∷ trail) v q
    deeper n p zero i w = absurd (omega arith)
    deeper n p (suc q) i (l, f, g) =
        let k : p ≡ q = omega arith in
        (omega arith, ap (λ r. (step_at trail r).literal.var) (sym k) ∙ f, step_later s trail v n ∙ (g ∙ ap (λ r. Some (step_at trail r)) k))

    later : s.literal.var ≢ v → (o : Option ℕ) → place_of trail v ≡ o → option_map (λ p. p + 1) o ≡ Some place → ((p : ℕ) → place_of trail v ≡ Some p → IsPlace trail v p) → IsPlace (s ∷ trail) v place
    later n None g i again = absurd (cc)
    later n (Some p) g i again = let k : p + 1 ≡ place = cc in deeper n p place k (again p g)

    by_var : (s.literal.var ≡ v) ⊎ (s.literal.var ≢ v) → ((p : ℕ) → place_of trail v ≡ Some p → IsPlace trail v p) → IsPlace (s ∷ trail) v place
    by_var (inl f) again = first place (sym (place_here s trail v f) ∙ e) f
    by_var (inr n) again = later n (place_of trail v) refl (sym (place_later s trail v n) ∙ e) again

-- the step about a variable has a place
pub step_place : (trail : List Step) (v : ℕ) (step : Step) → step_of trail v ≡ Some step → (place : ℕ) × (place_of trail v ≡ Some place) × (step_at trail place ≡ step)
step_place [] v step e = absurd (cc)
step_place (s ∷ trail) v step e = by_var (cases_eq s.literal.var v) (step_place trail v step)
  where
    deeper : s.literal.var ≢ v → (p : ℕ) × (place_of trail v ≡ Some p) × (step_at trail p ≡ step) → (p : ℕ) × (place_of (s ∷ trail) v ≡ Some p) × (step_at (s ∷ trail) p ≡ step)
    deeper n (p, i, f) = (suc p, place_later s trail v n ∙ (ap (option_map (λ q. q + 1)) i ∙ ap Some (omega arith)), f)

    by_var : (s.literal.var ≡ v) ⊎ (s.literal.var ≢ v) → (step_of trail v ≡ Some step → (p : ℕ) × (place_of trail v ≡ Some p) × (step_at trail p ≡ step))
        → (p : ℕ) × (place_of (s ∷ trail) v ≡ Some p) × (step_at (s ∷ trail) p ≡ step)
    by_var (inl f) again = let i : Some s ≡ Some step = sym (step_here s trail v f) ∙ e in (zero, place_here s trail v f, cc)
    by_var (inr n) again = deeper n (again (sym (step_later s trail v n) ∙ e))

pub place_none : (trail : List Step) (v : ℕ) → (place_of trail v ≡ None) ↔ (step_of trail v ≡ None)
place_none trail v = (λ e. no_step_there (step_of trail v) refl e, λ e. no_place (place_of trail v) refl e)
  where
    no_step_there : (o : Option Step) → step_of trail v ≡ o → place_of trail v ≡ None → o ≡ None
    no_step_there None g e = refl
    no_step_there (Some s) g e = absurd (clash (step_place trail v s g))
      where
        clash : (p : ℕ) × (place_of trail v ≡ Some p) × (step_at trail p ≡ s) → ⊥
        clash (p, i, f) = cc

    no_place : (o : Option ℕ) → place_of trail v ≡ o → step_of trail v ≡ None → o ≡ None
    no_place None g e = refl
    no_place (Some p) g e = let w = place_step trail v p g in absurd (clash w.2)
      where
        clash : step_of trail v ≡ Some (step_at trail p) → ⊥
        clash i = cc

-- ---- the value of a variable is that of the step about it

pub values_are_of_steps : (trail : List Step) (v : ℕ) → value (literals trail) v ≡ option_map (λ step. step.literal.on) (step_of trail v)
values_are_of_steps [] v = refl
values_are_of_steps (s ∷ trail) v = by_var (cases_eq s.literal.var v) (values_are_of_steps trail v)
  where
    by_var : (s.literal.var ≡ v) ⊎ (s.literal.var ≢ v) → value (literals trail) v ≡ option_map (λ (x : Step). x.literal.on) (step_of trail v) → value (literals (s ∷ trail)) v ≡ option_map (λ (x : Step). x.literal.on) (step_of (s ∷ trail) v)
    by_var (inl e) again = let t : nat_eq s.literal.var v ≡ true = eq-eqb s.literal.var v e in rw t refl
    by_var (inr n) again = let t : nat_eq s.literal.var v ≡ false = ne_eqb s.literal.var v n in rw t again
