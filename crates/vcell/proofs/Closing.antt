-- What the last seat shows of the passes that it took in.
use Rattle.std.proofs.Common.{◌≡◌, ℕ, ◌+◌, List, [], ◌∷◌, ◌++◌, length, refl, ap, sym, ◌∙◌, arith, All, Option, Some, None}
use Rattle.std.proofs.lemmas.List.Elements.{All-append}
use mathlib.Core.Option.{some, some-injective}
use mathlib.Core.Option as maybe
use mathlib.Core.List.{IsPrefix}
use lib.ListN.{get_elem?}
use Rattle.vcell.specs.declared.lock_rule.View.{View}
use Rattle.vcell.specs.Steps.{listed, longer, of_both, BeginsAll, Older, OlderIf, Keeps, seen_in}
use Rattle.seat_list.proofs.Ends.{all_left, all_right}
use Rattle.vcell.proofs.Kept.{listed_ok, last_one}
use Rattle.atomic_table.specs.Table.{State}
use Rattle.vcell.specs.declared.lock_rule.Origin.{Origin}
use Rattle.vcell.specs.declared.lock_rule.Stage.TheVariants.{Idle}

module _ {X E : Type 0} (entries : X → List E) where
  seen_listed : (xs : List E) (o : Option X) → All (λ x. IsPrefix (entries x) xs) (listed o) → IsPrefix (seen_in entries o) xs
  seen_listed xs None h = (xs, refl)
  seen_listed xs (Some x) h = h 0 x (omega arith)

  pub begins_seen : (xs : List E) (v : View X) → BeginsAll entries xs v → IsPrefix (seen_in entries v.last) xs
  begins_seen xs v h = seen_listed xs v.last (all_left (λ x. IsPrefix (entries x) xs) (listed v.last) v.olds h)

  pub begins_both : (xs : List E) (v w : View X) → BeginsAll entries xs (of_both entries v w) → BeginsAll entries xs v × IsPrefix (seen_in entries w.last) xs
  begins_both xs v w h = let P : X → Type 0 = λ x. IsPrefix (entries x) xs in
      let olds = all_right P (listed (longer entries v.last w.last)) ((v.olds ++ w.olds) ++ (listed v.last ++ listed w.last)) h in
      let a = all_left P (v.olds ++ w.olds) (listed v.last ++ listed w.last) olds in let b = all_right P (v.olds ++ w.olds) (listed v.last ++ listed w.last) olds in
      (All-append P (listed v.last) v.olds (all_left P (listed v.last) (listed w.last) b) (all_left P v.olds w.olds a), seen_listed xs w.last (all_right P (listed v.last) (listed w.last) b))

module _ {X E G : Type 0} (entries : X → List E) (ground : X → G) where
  pub begins_now : (now : X) (v : View X) → OlderIf entries ground now v.last → All (Older entries ground now) v.olds → BeginsAll entries (entries now) v
  begins_now now v seen old = let P : X → Type 0 = λ x. IsPrefix (entries x) (entries now) in
      All-append P (listed v.last) v.olds (λ k d lt. (listed_ok entries ground now v.last seen k d lt).0) (λ k d lt. (old k d lt).0)

-- what lies in the slot is the value that is at home
pub lies : {X : Type 0} (hs : List (maybe.Option (Option X))) (xs : List (Option X)) (now : X) (x : Option X) → hs ≡ some (Some now) ∷ [] → ((k : ℕ) (y : Option X) → get_elem? hs k ≡ some (some y) → get_elem? xs k ≡ some y)
    → get_elem? xs 0 ≡ some x → x ≡ Some now
lies {X} hs xs now x home there is = let a : get_elem? xs 0 ≡ some (Some now) = there 0 (Some now) (ap (λ (z : List (maybe.Option (Option X))). get_elem? z 0) home) in some-injective x (Some now) (sym is ∙ a)

module _ {X E G : Type 0} (entries : X → List E) (ground : X → G) where
  -- what the last seat finds in the slot
  pub ended : (k : Origin X) (s : State (Option X) (View X)) (id : ℕ) (v : View X) (xs : List (Option X)) (x : Option X) → Keeps entries ground k s → get_elem? s.views id ≡ some v → v.seats ≡ k.seats → v.stage ≡ Idle
      → ((k : ℕ) (y : Option X) → get_elem? s.homes k ≡ some (some y) → get_elem? xs k ≡ some y) → get_elem? xs 0 ≡ some x
      → (now : X) × (x ≡ Some now) × (ground now ≡ ground k.start.value) × BeginsAll entries (entries now) v × (length (entries now) ≡ length (entries k.start.value) + v.made)
  ended k s id v xs x r at all is there here = let e = last_one entries ground k s id v r at all is in (e.0, lies s.homes xs e.0 x e.1 there here, e.2, begins_now entries ground e.0 v e.3 e.4, e.5)
