-- Slots and the flips in them.
use Rattle.std.proofs.Common.{◌≡◌, ◌∙◌, ℕ, zero, suc, ◌+◌, ◌<◌, ◌≤◌, ◌==◌, Bool, true, false, cond, Option, None, Some, List, [], ◌∷◌, ◌++◌, length, get_or, set, take, remove, refl, sym, ap, ap₂, arith, eq-eqb, eqb-true}
use Rattle.flip_list_law.specs.declared.Flip.{Flip}
use Rattle.flip_list_law.specs.FlipLists.{Triangle, makes, one_side, other_side, last_maker, same_place, undone_by}
use Rattle.round_pack.specs.declared.slot.Entry.{Entry}
use Rattle.round_pack.specs.Slots.{Slot, flips_in, numbers_in, rank, ranked, slot_makes, slot_number}
use Rattle.round_pack.specs.Chains.{last_where, undone_slot}

abbrev step : Option ℕ → Bool → Option ℕ
step place test = elim place [ Some i ↦ Some (suc i) | None ↦ cond test (Some 0) None ]

pub flip_at_rank : (slots : List Slot) (i : ℕ) (e : Entry) → get_or slots i None ≡ Some e → (rank slots i < length (flips_in slots)) × ((d : Flip) → get_or (flips_in slots) (rank slots i) d ≡ e.flip)
flip_at_rank [] i e h = absurd (cc)
flip_at_rank (None ∷ slots) zero e h = absurd (cc)
flip_at_rank (Some x ∷ slots) zero e h = let s : x ≡ e = cc in (omega arith, λ d. ap (λ (y : Entry). y.flip) s)
flip_at_rank (None ∷ slots) (suc i) e h = flip_at_rank slots i e h
flip_at_rank (Some x ∷ slots) (suc i) e h = let r = flip_at_rank slots i e h in let l = r.0 in (omega arith, r.1)

pub number_at_rank : (slots : List Slot) (i : ℕ) (e : Entry) → get_or slots i None ≡ Some e → (rank slots i < length (numbers_in slots)) × (get_or (numbers_in slots) (rank slots i) 0 ≡ e.number)
number_at_rank [] i e h = absurd (cc)
number_at_rank (None ∷ slots) zero e h = absurd (cc)
number_at_rank (Some x ∷ slots) zero e h = let s : x ≡ e = cc in (omega arith, ap (λ (y : Entry). y.number) s)
number_at_rank (None ∷ slots) (suc i) e h = number_at_rank slots i e h
number_at_rank (Some x ∷ slots) (suc i) e h = let r = number_at_rank slots i e h in let l = r.0 in (omega arith, r.1)

pub flips_without : (slots : List Slot) (i : ℕ) (e : Entry) → get_or slots i None ≡ Some e → flips_in (set slots i None) ≡ remove (flips_in slots) (rank slots i)
flips_without [] i e h = absurd (cc)
flips_without (None ∷ slots) zero e h = absurd (cc)
flips_without (Some x ∷ slots) zero e h = refl
flips_without (None ∷ slots) (suc i) e h = flips_without slots i e h
flips_without (Some x ∷ slots) (suc i) e h = ap (λ fs. x.flip ∷ fs) (flips_without slots i e h)

pub numbers_without : (slots : List Slot) (i : ℕ) (e : Entry) → get_or slots i None ≡ Some e → numbers_in (set slots i None) ≡ remove (numbers_in slots) (rank slots i)
numbers_without [] i e h = absurd (cc)
numbers_without (None ∷ slots) zero e h = absurd (cc)
numbers_without (Some x ∷ slots) zero e h = refl
numbers_without (None ∷ slots) (suc i) e h = numbers_without slots i e h
numbers_without (Some x ∷ slots) (suc i) e h = ap (λ fs. x.number ∷ fs) (numbers_without slots i e h)

pub flips_append : (slots more : List Slot) → flips_in (slots ++ more) ≡ flips_in slots ++ flips_in more
flips_append [] more = refl
flips_append (None ∷ slots) more = flips_append slots more
flips_append (Some x ∷ slots) more = ap (λ fs. x.flip ∷ fs) (flips_append slots more)

pub numbers_append : (slots more : List Slot) → numbers_in (slots ++ more) ≡ numbers_in slots ++ numbers_in more
numbers_append [] more = refl
numbers_append (None ∷ slots) more = numbers_append slots more
numbers_append (Some x ∷ slots) more = ap (λ fs. x.number ∷ fs) (numbers_append slots more)

pub as_many_numbers : (slots : List Slot) → length (numbers_in slots) ≡ length (flips_in slots)
as_many_numbers [] = refl
as_many_numbers (None ∷ slots) = as_many_numbers slots
as_many_numbers (Some x ∷ slots) = ap suc (as_many_numbers slots)

pub no_more_flips : (slots : List Slot) → length (flips_in slots) ≤ length slots
no_more_flips [] = omega arith
no_more_flips (None ∷ slots) = let h = no_more_flips slots in omega arith
no_more_flips (Some x ∷ slots) = let h = no_more_flips slots in omega arith

-- the flip that last made a triangle
pub maker_in : (slots : List Slot) (t : Triangle) → last_maker (flips_in slots) t ≡ ranked slots (last_where (λ s. slot_makes s t) slots)
maker_in [] t = refl
maker_in (None ∷ slots) t = maker_in slots t ∙ past (last_where (λ s. slot_makes s t) slots)
  where
    past : (o : Option ℕ) → ranked slots o ≡ ranked (None ∷ slots) (step o false)
    past None = refl
    past (Some i) = refl
maker_in (Some x ∷ slots) t = ap (λ o. step o (makes x.flip t)) (maker_in slots t) ∙ past (last_where (λ s. slot_makes s t) slots) (makes x.flip t)
  where
    past : (o : Option ℕ) (b : Bool) → step (ranked slots o) b ≡ ranked (Some x ∷ slots) (step o b)
    past None true = refl
    past None false = refl
    past (Some i) b = refl

-- a slot that makes a triangle holds a flip
pub holds : (slots : List Slot) (t : Triangle) (i : ℕ) → last_where (λ s. slot_makes s t) slots ≡ Some i → (e : Entry) × (get_or slots i None ≡ Some e) × (i < length slots)
holds [] t i h = absurd (cc)
holds (slot ∷ slots) t i h = by_last (last_where (λ s. slot_makes s t) slots) refl i slot h (λ k. holds slots t k)
  where
    by_last : (o : Option ℕ) → last_where (λ s. slot_makes s t) slots ≡ o → (i : ℕ) (slot : Slot) → step o (slot_makes slot t) ≡ Some i
        → ((k : ℕ) → last_where (λ s. slot_makes s t) slots ≡ Some k → (e : Entry) × (get_or slots k None ≡ Some e) × (k < length slots)) → (e : Entry) × (get_or (slot ∷ slots) i None ≡ Some e) × (i < suc (length slots))
    by_last (Some k) f zero slot h again = absurd (cc)
    by_last (Some k) f (suc i) slot h again = let s : k ≡ i = cc in let r = again i (f ∙ ap (λ j. Some j) s) in let l = r.2 in (r.0, r.1, omega arith)
    by_last None f i None h again = absurd (cc)
    by_last None f zero (Some x) h again = (x, refl, omega arith)
    by_last None f (suc i) (Some x) h again = absurd (by_test (makes x.flip t) h)
      where
        by_test : (b : Bool) → cond b (Some 0) None ≡ Some (suc i) → ⊥
        by_test true h = cc
        by_test false h = cc

-- flips in two slots have two places
pub one_rank : (slots : List Slot) (i j : ℕ) (d e : Entry) → get_or slots i None ≡ Some d → get_or slots j None ≡ Some e → rank slots i ≡ rank slots j → i ≡ j
one_rank [] i j d e p q r = absurd (cc)
one_rank (None ∷ slots) zero j d e p q r = absurd (cc)
one_rank (None ∷ slots) (suc i) zero d e p q r = absurd (cc)
one_rank (None ∷ slots) (suc i) (suc j) d e p q r = ap suc (one_rank slots i j d e p q r)
one_rank (Some x ∷ slots) zero zero d e p q r = refl
one_rank (Some x ∷ slots) zero (suc j) d e p q r = absurd (omega arith)
one_rank (Some x ∷ slots) (suc i) zero d e p q r = absurd (omega arith)
one_rank (Some x ∷ slots) (suc i) (suc j) d e p q r = ap suc (one_rank slots i j d e p q (omega arith))

pub undone_in : (slots : List Slot) (flip : Flip) → undone_by (flips_in slots) flip ≡ ranked slots (same_place (last_where (λ s. slot_makes s (one_side flip)) slots) (last_where (λ s. slot_makes s (other_side flip)) slots))
undone_in slots flip =
    ap₂ same_place (maker_in slots (one_side flip)) (maker_in slots (other_side flip))
    ∙ same (last_where (λ s. slot_makes s (one_side flip)) slots) (last_where (λ s. slot_makes s (other_side flip)) slots) (holds slots (one_side flip)) (holds slots (other_side flip))
  where
    Held : Option ℕ → Type 0
    Held o = (i : ℕ) → o ≡ Some i → (e : Entry) × (get_or slots i None ≡ Some e) × (i < length slots)

    same : (o p : Option ℕ) → Held o → Held p → same_place (ranked slots o) (ranked slots p) ≡ ranked slots (same_place o p)
    same None p h k = refl
    same (Some i) None h k = refl
    same (Some i) (Some j) h k = by_test (i == j) refl
      where
        by_test : (b : Bool) → (i == j) ≡ b → cond (rank slots i == rank slots j) (Some (rank slots i)) None ≡ ranked slots (cond (i == j) (Some i) None)
        by_test true e = ap (λ b. cond b (Some (rank slots i)) None) (eq-eqb _ _ (ap (rank slots) (eqb-true i j e))) ∙ sym (ap (λ b. ranked slots (cond b (Some i) None)) e)
        by_test false e = ap (λ b. cond b (Some (rank slots i)) None) (apart (rank slots i == rank slots j) refl) ∙ sym (ap (λ b. ranked slots (cond b (Some i) None)) e)
          where
            unlike : i ≡ j → ⊥
            unlike s = let t = eq-eqb i j s in absurd (cc)

            apart : (b : Bool) → (rank slots i == rank slots j) ≡ b → (rank slots i == rank slots j) ≡ false
            apart false f = f
            apart true f = absurd (let x = h i refl in let y = k j refl in unlike (one_rank slots i j x.0 y.0 x.1 y.1 (eqb-true _ _ f)))

-- one slot after the other
take_next : (slots : List Slot) (i : ℕ) → i < length slots → take (suc i) slots ≡ take i slots ++ get_or slots i None ∷ []
take_next [] i l = absurd (omega arith)
take_next (slot ∷ slots) zero l = refl
take_next (slot ∷ slots) (suc i) l = ap (λ xs. slot ∷ xs) (take_next slots i (omega arith))

take_more : (slots : List Slot) (i : ℕ) → i < length slots → take (i + 1) slots ≡ take i slots ++ get_or slots i None ∷ []
take_more slots i l = let e : i + 1 ≡ suc i = omega arith in ap (λ k. take k slots) e ∙ take_next slots i l

pub slot_none : (slot : Slot) → ((e : Entry) → slot ≡ Some e → ⊥) → slot ≡ None
slot_none None h = refl
slot_none (Some e) h = absurd (h e refl)

pub same_slot : (slots : List Slot) (i : ℕ) (d : Slot) → i < length slots → get_or slots i d ≡ get_or slots i None
same_slot [] i d l = absurd (omega arith)
same_slot (slot ∷ slots) zero d l = refl
same_slot (slot ∷ slots) (suc i) d l = same_slot slots i d (omega arith)

pub flips_more : (slots kept : List Slot) (i : ℕ) (slot : Slot) → i < length slots → get_or slots i None ≡ slot → flips_in kept ≡ flips_in (take i slots) → flips_in (kept ++ slot ∷ []) ≡ flips_in (take (i + 1) slots)
flips_more slots kept i slot l e h =
    flips_append kept (slot ∷ []) ∙ ap (λ fs. fs ++ flips_in (slot ∷ [])) h ∙ sym (flips_append (take i slots) (slot ∷ [])) ∙ ap (λ s. flips_in (take i slots ++ s ∷ [])) (sym e) ∙ sym (ap flips_in (take_more slots i l))

pub numbers_more : (slots kept : List Slot) (i : ℕ) (slot : Slot) → i < length slots → get_or slots i None ≡ slot → numbers_in kept ≡ numbers_in (take i slots) → numbers_in (kept ++ slot ∷ []) ≡ numbers_in (take (i + 1) slots)
numbers_more slots kept i slot l e h =
    numbers_append kept (slot ∷ []) ∙ ap (λ fs. fs ++ numbers_in (slot ∷ [])) h ∙ sym (numbers_append (take i slots) (slot ∷ [])) ∙ ap (λ s. numbers_in (take i slots ++ s ∷ [])) (sym e) ∙ sym (ap numbers_in (take_more slots i l))

pub flips_past : (slots kept : List Slot) (i : ℕ) → i < length slots → get_or slots i None ≡ None → flips_in kept ≡ flips_in (take i slots) → flips_in kept ≡ flips_in (take (i + 1) slots)
flips_past slots kept i l e h = h ∙ past (flips_in (take i slots)) ∙ sym (flips_append (take i slots) (None ∷ [])) ∙ ap (λ s. flips_in (take i slots ++ s ∷ [])) (sym e) ∙ sym (ap flips_in (take_more slots i l))
  where
    past : (xs : List Flip) → xs ≡ xs ++ []
    past [] = refl
    past (x ∷ xs) = ap (λ ys. x ∷ ys) (past xs)

pub numbers_past : (slots kept : List Slot) (i : ℕ) → i < length slots → get_or slots i None ≡ None → numbers_in kept ≡ numbers_in (take i slots) → numbers_in kept ≡ numbers_in (take (i + 1) slots)
numbers_past slots kept i l e h = h ∙ past (numbers_in (take i slots)) ∙ sym (numbers_append (take i slots) (None ∷ [])) ∙ ap (λ s. numbers_in (take i slots ++ s ∷ [])) (sym e) ∙ sym (ap numbers_in (take_more slots i l))
  where
    past : (xs : List ℕ) → xs ≡ xs ++ []
    past [] = refl
    past (x ∷ xs) = ap (λ ys. x ∷ ys) (past xs)

-- ---- the flip that another undoes
pub undone_holds : (slots : List Slot) (flip : Flip) (place : ℕ) → undone_slot slots flip ≡ Some place → (e : Entry) × (get_or slots place None ≡ Some e) × (place < length slots)
undone_holds slots flip place u = holds slots (one_side flip) place (first (last_where (λ s. slot_makes s (one_side flip)) slots) (last_where (λ s. slot_makes s (other_side flip)) slots) u)
  where
    first : (p q : Option ℕ) → same_place p q ≡ Some place → p ≡ Some place
    first None q e = absurd (cc)
    first (Some i) None e = absurd (cc)
    first (Some i) (Some j) e = by_test (i == j) e
      where
        by_test : (b : Bool) → cond b (Some i) None ≡ Some place → Some i ≡ Some place
        by_test true h = h
        by_test false h = absurd (cc)

pub undone_place : (slots : List Slot) (flip : Flip) (place : ℕ) → undone_slot slots flip ≡ Some place → undone_by (flips_in slots) flip ≡ Some (rank slots place)
undone_place slots flip place u = undone_in slots flip ∙ ap (ranked slots) u

pub not_undone : (slots : List Slot) (flip : Flip) → undone_slot slots flip ≡ None → undone_by (flips_in slots) flip ≡ None
not_undone slots flip u = undone_in slots flip ∙ ap (ranked slots) u

pub number_here : (slots : List Slot) (place : ℕ) (e : Entry) → get_or slots place None ≡ Some e → (x : ℕ) → x ≡ slot_number (get_or slots place None) → x ≡ get_or (numbers_in slots) (rank slots place) 0
number_here slots place e h x i = i ∙ ap slot_number h ∙ sym (number_at_rank slots place e h).1

pub flips_listed : (slots : List Slot) (so_far xs : List Flip) (i : ℕ) (entry : Entry) → i < length slots → get_or slots i None ≡ Some entry → so_far ≡ flips_in (take i slots) → xs ≡ so_far ++ entry.flip ∷ [] → xs ≡ flips_in (take (i + 1) slots)
flips_listed slots so_far xs i entry l e h k =
    k ∙ ap (λ fs. fs ++ entry.flip ∷ []) h ∙ sym (flips_append (take i slots) (Some entry ∷ [])) ∙ ap (λ s. flips_in (take i slots ++ s ∷ [])) (sym e) ∙ sym (ap flips_in (take_more slots i l))

pub flips_passed : (slots : List Slot) (so_far : List Flip) (i : ℕ) → i < length slots → get_or slots i None ≡ None → so_far ≡ flips_in (take i slots) → so_far ≡ flips_in (take (i + 1) slots)
flips_passed slots so_far i l e h = h ∙ past (flips_in (take i slots)) ∙ sym (flips_append (take i slots) (None ∷ [])) ∙ ap (λ s. flips_in (take i slots ++ s ∷ [])) (sym e) ∙ sym (ap flips_in (take_more slots i l))
  where
    past : (xs : List Flip) → xs ≡ xs ++ []
    past [] = refl
    past (x ∷ xs) = ap (λ ys. x ∷ ys) (past xs)

pub numbers_listed : (slots : List Slot) (so_far xs : List ℕ) (i : ℕ) (entry : Entry) → i < length slots → get_or slots i None ≡ Some entry → so_far ≡ numbers_in (take i slots) → xs ≡ so_far ++ entry.number ∷ [] → xs ≡ numbers_in (take (i + 1) slots)
numbers_listed slots so_far xs i entry l e h k =
    k ∙ ap (λ fs. fs ++ entry.number ∷ []) h ∙ sym (numbers_append (take i slots) (Some entry ∷ [])) ∙ ap (λ s. numbers_in (take i slots ++ s ∷ [])) (sym e) ∙ sym (ap numbers_in (take_more slots i l))

pub numbers_passed : (slots : List Slot) (so_far : List ℕ) (i : ℕ) → i < length slots → get_or slots i None ≡ None → so_far ≡ numbers_in (take i slots) → so_far ≡ numbers_in (take (i + 1) slots)
numbers_passed slots so_far i l e h = h ∙ past (numbers_in (take i slots)) ∙ sym (numbers_append (take i slots) (None ∷ [])) ∙ ap (λ s. numbers_in (take i slots ++ s ∷ [])) (sym e) ∙ sym (ap numbers_in (take_more slots i l))
  where
    past : (xs : List ℕ) → xs ≡ xs ++ []
    past [] = refl
    past (x ∷ xs) = ap (λ ys. x ∷ ys) (past xs)
