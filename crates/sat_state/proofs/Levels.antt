-- Levels as numbers of decisions.
use Rattle.std.proofs.Common.{◌≡◌, ◌≢◌, ◌⊎◌, inl, inr, ℕ, suc, ◌+◌, ◌<◌, ◌≤◌, Bool, true, false, cond, Option, Some, None, List, [], ◌∷◌, ◌++◌, length, take, drop, refl, sym, ap, ◌∙◌, subst, arith}
use Rattle.std.specs.Prelude.{All, filter, nat_le, is_none, is_some}
use Rattle.std.proofs.lemmas.Bool.{cases_lt, le-leb, lt-leb}
use Rattle.std.proofs.lemmas.List.{append-nil, append_assoc, length_push, get_or_append_left, get_or_push, take-append-le, take_all, take-append-drop, get_or_default}
use Rattle.std.proofs.lemmas.List.Elements.{filter-append, All-contains, All-head, All-tail}
use Rattle.log_law.specs.declared.Step.{Step}
use Rattle.log_law.specs.Trails.{no_step, step_at}
use Rattle.log_law.proofs.Search.{filter_all}
use Rattle.sat_state.specs.Searches.{GoesOn}
use Rattle.sat_state.specs.Tables.{decisions, IsLevelled}

pub decisions_append : (xs ys : List Step) → decisions (xs ++ ys) ≡ decisions xs + decisions ys
decisions_append [] ys = omega arith
decisions_append (x ∷ xs) ys = let again = decisions_append xs ys in omega arith

pub decisions_few : (xs : List Step) → decisions xs ≤ length xs
decisions_few [] = omega arith
decisions_few (x ∷ xs) = by_reason x.reason (decisions_few xs)
  where
    by_reason : (o : Option ℕ) → decisions xs ≤ length xs → cond (is_none o) 1 0 + decisions xs ≤ suc (length xs)
    by_reason None h = omega arith
    by_reason (Some r) h = omega arith

decisions_front : (n : ℕ) (xs : List Step) → decisions (take n xs) ≤ decisions xs
decisions_front n xs = let e = ap decisions (sym (take-append-drop n xs)) ∙ decisions_append (take n xs) (drop n xs) in omega arith

one : (s : Step) (b : Bool) → is_none s.reason ≡ b → decisions (s ∷ []) ≡ cond b 1 0
one s true e = ap (λ (x : Bool). cond x 1 0 + 0) e
one s false e = ap (λ (x : Bool). cond x 1 0 + 0) e

reasoned : (o : Option ℕ) → o ≢ None → is_none o ≡ false
reasoned None n = absurd (n refl)
reasoned (Some r) n = refl

pub levelled_none : IsLevelled [] 0
levelled_none = record { each = λ p l. absurd (omega arith); last = refl }

-- one more step
pub levelled_push : (steps : List Step) (s : Step) (level next : ℕ) (b : Bool) → IsLevelled steps level → is_none s.reason ≡ b → next ≡ level + cond b 1 0 → s.level ≡ next → IsLevelled (steps ++ s ∷ []) next
levelled_push steps s level next b L e n m = record { each = λ p l. by_place p l (cases_lt p (length steps)); last = total }
  where
    total : next ≡ decisions (steps ++ s ∷ [])
    total = let a = decisions_append steps (s ∷ []) in let f = one s b e in let t = L.last in omega arith

    by_place : (p : ℕ) → p < length (steps ++ s ∷ []) → (p < length steps) ⊎ (length steps ≤ p) → (step_at (steps ++ s ∷ []) p).level ≡ decisions (take (p + 1) (steps ++ s ∷ []))
    by_place p l (inl i) =
        ap (λ (x : Step). x.level) (get_or_append_left steps (s ∷ []) no_step p i) ∙ (L.each p i ∙ ap decisions (sym (take-append-le (p + 1) steps (s ∷ []) (omega arith))))
    by_place p l (inr i) =
        let k = length_push steps s in
        ap (λ (x : Step). x.level) (get_or_push steps s no_step p (omega arith)) ∙ (m ∙ (total ∙ ap decisions (sym (take_all (p + 1) (steps ++ s ∷ []) (omega arith)))))

pub levelled_decision : (steps : List Step) (s : Step) (level : ℕ) → IsLevelled steps level → s.reason ≡ None → s.level ≡ level + 1 → IsLevelled (steps ++ s ∷ []) (level + 1)
levelled_decision steps s level L e m = levelled_push steps s level (level + 1) true L (ap is_none e) refl m

pub levelled_goes : (level : ℕ) (a b : List Step) → IsLevelled a level → GoesOn level a b → IsLevelled b level
levelled_goes level a b L (x, e, f) = subst (λ (z : List Step). IsLevelled z level) (sym e) (go a x L f)
  where
    go : (a x : List Step) → IsLevelled a level → All (λ (s : Step). (s.level ≡ level) × (s.reason ≢ None)) x → IsLevelled (a ++ x) level
    go a [] L f = subst (λ (z : List Step). IsLevelled z level) (sym (append-nil a)) L
    go a (s ∷ x) L f =
        let h = All-head (λ (t : Step). (t.level ≡ level) × (t.reason ≢ None)) s x f in
        subst (λ (z : List Step). IsLevelled z level) (append_assoc a (s ∷ []) x)
        (go (a ++ s ∷ []) x (levelled_push a s level level false L (reasoned s.reason h.1) (omega arith) h.0) (All-tail (λ (t : Step). (t.level ≡ level) × (t.reason ≢ None)) s x f))

-- one less
pub levelled_last : (steps : List Step) (s : Step) (level : ℕ) → IsLevelled (steps ++ s ∷ []) level → s.level ≡ level
levelled_last steps s level L =
    let k = length_push steps s in
    sym (ap (λ (x : Step). x.level) (get_or_push steps s no_step (length steps) refl)) ∙ (L.each (length steps) (omega arith) ∙ (ap decisions (take_all (length steps + 1) (steps ++ s ∷ []) (omega arith)) ∙ sym L.last))

pub levelled_pop : (steps : List Step) (s : Step) (level next : ℕ) (b : Bool) → IsLevelled (steps ++ s ∷ []) level → is_none s.reason ≡ b → next + cond b 1 0 ≡ level → IsLevelled steps next
levelled_pop steps s level next b L e n = record {
  each = λ p l.
      let k = length_push steps s in
      sym (ap (λ (x : Step). x.level) (get_or_append_left steps (s ∷ []) no_step p l)) ∙ (L.each p (omega arith) ∙ ap decisions (take-append-le (p + 1) steps (s ∷ []) (omega arith)));
  last = let a = decisions_append steps (s ∷ []) in let f = one s b e in let t = L.last in omega arith;
}

-- no step is above the level
pub levelled_within : (steps : List Step) (level : ℕ) → IsLevelled steps level → All (λ (s : Step). s.level ≤ level) steps
levelled_within steps level L p d l =
    let e = L.each p l in
    let m = decisions_front (p + 1) steps in
    let t = L.last in
    let same = ap (λ (x : Step). x.level) (get_or_default steps p d no_step l) in
    omega arith

abbrev pub up_to_level : ℕ → List Step → List Step
up_to_level level steps = filter (λ (s : Step). nat_le s.level level) steps

pub kept_all : (steps : List Step) (level : ℕ) → IsLevelled steps level → up_to_level level steps ≡ steps
kept_all steps level L = filter_all (λ (s : Step). nat_le s.level level) steps (λ s c. le-leb s.level level (All-contains (λ (t : Step). t.level ≤ level) steps s (levelled_within steps level L) c))

pub kept_less : (steps : List Step) (s : Step) (level : ℕ) → level < s.level → up_to_level level steps ≡ up_to_level level (steps ++ s ∷ [])
kept_less steps s level l =
    sym (filter-append (λ (t : Step). nat_le t.level level) steps (s ∷ []) ∙ (ap (λ b. up_to_level level steps ++ cond b (s ∷ []) []) (lt-leb s.level level l) ∙ append-nil (up_to_level level steps)))

pub none_from : (o : Option ℕ) → false ≡ is_some o → is_none o ≡ true
none_from None e = refl
none_from (Some r) e = cc

pub some_from : (o : Option ℕ) → true ≡ is_some o → is_none o ≡ false
some_from None e = cc
some_from (Some r) e = refl
