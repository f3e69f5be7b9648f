-- The grouping of a list of flips: how many rounds it has, that none is empty, and which edges stand in each.
use Rattle.std.proofs.Common.{◌≡◌, ◌⊎◌, inl, inr, ◌↔◌, ℕ, zero, suc, ◌<◌, ◌≤◌, max, List, [], ◌∷◌, length, map, get_or, Contains, All, refl, sym, ap, ◌∙◌, arith}
use Rattle.edge_table.specs.declared.edge.Edge.{Edge}
use Rattle.flip_list_law.specs.declared.Flip.{Flip}
use Rattle.flip_list_law.specs.FlipLists.{Triangle, rounds_before, number_after, numbers_from, round_numbers, greatest, round_count, with_edge, with_edge_in, grouped_from, grouped}
use Rattle.edge_table.proofs.Edges.{contains_here, contains_later, contains_cases}
use Rattle.flip_list_law.proofs.FlipSets.{with_edge_cases, with_edge_has}
use Rattle.flip_list_law.proofs.Grouping.{EachRound, AreBounded, bounded_before, bounded_after, length-with_edge_in}

pub all_rounds : (P : List Edge → Type 0) (rounds : List (List Edge)) → EachRound P rounds → All P rounds
all_rounds P [] h k d l = absurd (omega arith)
all_rounds P (round ∷ rounds) h zero d l = h.0
all_rounds P (round ∷ rounds) h (suc k) d l = all_rounds P rounds h.1 k d (omega arith)

-- ---- how many rounds
length-grouped_from : (flips : List Flip) (number_of : Triangle → ℕ) (rounds : List (List Edge)) → length (grouped_from number_of rounds flips) ≡ max (length rounds) (greatest (numbers_from number_of flips))
length-grouped_from [] number_of rounds = omega arith
length-grouped_from (flip ∷ flips) number_of rounds =
    let again = length-grouped_from flips (number_after number_of flip) (with_edge_in (rounds_before number_of flip) flip.edge rounds) in
    let one = length-with_edge_in (rounds_before number_of flip) flip.edge rounds in
    chain _ _ _ _ _ again one
  where
    chain : (n m k l g : ℕ) → n ≡ max m g → m ≡ max l k → n ≡ max l (max k g)
    chain n m k l g e f = omega arith

pub length-grouped : (flips : List Flip) → length (grouped flips) ≡ round_count flips
length-grouped flips = length-grouped_from flips (λ t. 0) [] ∙ none (round_count flips)
  where
    none : (n : ℕ) → max 0 n ≡ n
    none n = omega arith

-- ---- none is empty
abbrev pub IsFilled : List Edge → Type 0
IsFilled round = 0 < length round

with_edge_filled : (e : Edge) (round : List Edge) → IsFilled (with_edge e round)
with_edge_filled e round = by_place (with_edge_has e e round (inl refl))
  where
    by_place : Contains (with_edge e round) e → IsFilled (with_edge e round)
    by_place (k, l, h) = omega arith

with_edge_in_filled : (before : ℕ) (e : Edge) (rounds : List (List Edge)) → before ≤ length rounds → EachRound IsFilled rounds → EachRound IsFilled (with_edge_in before e rounds)
with_edge_in_filled zero e [] l h = (omega arith, tt)
with_edge_in_filled zero e (round ∷ rounds) l h = (with_edge_filled e round, h.1)
with_edge_in_filled (suc before) e [] l h = absurd (omega arith)
with_edge_in_filled (suc before) e (round ∷ rounds) l h = (h.0, with_edge_in_filled before e rounds (omega arith) h.1)

grouped_from_filled : (flips : List Flip) (number_of : Triangle → ℕ) (rounds : List (List Edge)) → AreBounded number_of (length rounds) → EachRound IsFilled rounds → EachRound IsFilled (grouped_from number_of rounds flips)
grouped_from_filled [] number_of rounds up h = h
grouped_from_filled (flip ∷ flips) number_of rounds up h =
    grouped_from_filled flips (number_after number_of flip) (with_edge_in (rounds_before number_of flip) flip.edge rounds) (bounded_after number_of flip rounds up)
    (with_edge_in_filled (rounds_before number_of flip) flip.edge rounds (bounded_before number_of flip (length rounds) up) h)

pub grouped_filled : (flips : List Flip) → EachRound IsFilled (grouped flips)
grouped_filled flips = grouped_from_filled flips (λ t. 0) [] (λ t. omega arith) tt

-- ---- which edges stand in each

-- the edge of the flip that stands at a place and has the number
abbrev pub HasNumber : List Flip → List ℕ → ℕ → Edge → Type 0
HasNumber flips numbers n e = (place : ℕ) × (place < length flips) × (get_or numbers place 0 ≡ n) × (get_or (map (λ (flip : Flip). flip.edge) flips) place e ≡ e)

with_edge_in_members : (before : ℕ) (e : Edge) (rounds : List (List Edge)) (k : ℕ) (f : Edge) → Contains (get_or (with_edge_in before e rounds) k []) f ↔ (Contains (get_or rounds k []) f ⊎ ((k ≡ before) × (f ≡ e)))
with_edge_in_members zero e [] zero f = (λ h. by_cases (contains_cases f e [] h), λ h. back h)
  where
    by_cases : (e ≡ f) ⊎ Contains [] f → Contains [] f ⊎ ((zero ≡ zero) × (f ≡ e))
    by_cases (inl i) = inr (refl, sym i)
    by_cases (inr k) = inl k

    back : Contains [] f ⊎ ((zero ≡ zero) × (f ≡ e)) → Contains (e ∷ []) f
    back (inl k) = contains_later f e [] k
    back (inr h) = contains_here f e [] (sym h.1)
with_edge_in_members zero e [] (suc k) f = (λ h. inl h, elim [ inl h ↦ h | inr h ↦ absurd (apart h.0) ])
  where
    apart : suc k ≡ 0 → ⊥
    apart i = omega arith
with_edge_in_members zero e (round ∷ rounds) zero f = (λ h. by_cases (with_edge_cases e f round h), λ h. with_edge_has e f round (back h))
  where
    by_cases : (f ≡ e) ⊎ Contains round f → Contains round f ⊎ ((zero ≡ zero) × (f ≡ e))
    by_cases (inl i) = inr (refl, i)
    by_cases (inr k) = inl k

    back : Contains round f ⊎ ((zero ≡ zero) × (f ≡ e)) → (f ≡ e) ⊎ Contains round f
    back (inl k) = inr k
    back (inr h) = inl h.1
with_edge_in_members zero e (round ∷ rounds) (suc k) f = (λ h. inl h, elim [ inl h ↦ h | inr h ↦ absurd (apart h.0) ])
  where
    apart : suc k ≡ 0 → ⊥
    apart i = omega arith
with_edge_in_members (suc before) e [] zero f = (λ h. inl h, elim [ inl h ↦ h | inr h ↦ absurd (apart h.0) ])
  where
    apart : zero ≡ suc before → ⊥
    apart i = omega arith
with_edge_in_members (suc before) e [] (suc k) f = deeper (with_edge_in_members before e [] k f)
  where
    deeper : Contains (get_or (with_edge_in before e []) k []) f ↔ (Contains (get_or [] k []) f ⊎ ((k ≡ before) × (f ≡ e))) → Contains (get_or (with_edge_in before e []) k []) f ↔ (Contains [] f ⊎ ((suc k ≡ suc before) × (f ≡ e)))
    deeper again = (λ h. up (again.0 h), λ h. again.1 (down h))
      where
        up : Contains [] f ⊎ ((k ≡ before) × (f ≡ e)) → Contains [] f ⊎ ((suc k ≡ suc before) × (f ≡ e))
        up (inl h) = inl h
        up (inr h) = inr (ap (λ n. suc n) h.0, h.1)

        down : Contains [] f ⊎ ((suc k ≡ suc before) × (f ≡ e)) → Contains [] f ⊎ ((k ≡ before) × (f ≡ e))
        down (inl h) = inl h
        down (inr h) = inr (omega arith, h.1)
with_edge_in_members (suc before) e (round ∷ rounds) zero f = (λ h. inl h, elim [ inl h ↦ h | inr h ↦ absurd (apart h.0) ])
  where
    apart : zero ≡ suc before → ⊥
    apart i = omega arith
with_edge_in_members (suc before) e (round ∷ rounds) (suc k) f = deeper (with_edge_in_members before e rounds k f)
  where
    deeper : Contains (get_or (with_edge_in before e rounds) k []) f ↔ (Contains (get_or rounds k []) f ⊎ ((k ≡ before) × (f ≡ e))) → Contains (get_or (with_edge_in before e rounds) k []) f ↔ (Contains (get_or rounds k []) f ⊎ ((suc k ≡ suc before) × (f ≡ e)))
    deeper again = (λ h. up (again.0 h), λ h. again.1 (down h))
      where
        up : Contains (get_or rounds k []) f ⊎ ((k ≡ before) × (f ≡ e)) → Contains (get_or rounds k []) f ⊎ ((suc k ≡ suc before) × (f ≡ e))
        up (inl h) = inl h
        up (inr h) = inr (ap (λ n. suc n) h.0, h.1)

        down : Contains (get_or rounds k []) f ⊎ ((suc k ≡ suc before) × (f ≡ e)) → Contains (get_or rounds k []) f ⊎ ((k ≡ before) × (f ≡ e))
        down (inl h) = inl h
        down (inr h) = inr (omega arith, h.1)

grouped_from_members : (flips : List Flip) (number_of : Triangle → ℕ) (rounds : List (List Edge)) (k : ℕ) (e : Edge) → Contains (get_or (grouped_from number_of rounds flips) k []) e ↔ (Contains (get_or rounds k []) e ⊎ HasNumber flips (numbers_from number_of flips) (suc k) e)
grouped_from_members [] number_of rounds k e = (λ h. inl h, elim [ inl h ↦ h | inr h ↦ absurd (none h) ])
  where
    none : HasNumber [] [] (suc k) e → ⊥
    none (i, l, h, g) = omega arith
grouped_from_members (flip ∷ flips) number_of rounds k e =
    joined (grouped_from_members flips (number_after number_of flip) (with_edge_in b flip.edge rounds) k e) (with_edge_in_members b flip.edge rounds k e)
  where
    b : ℕ
    b = rounds_before number_of flip

    Later : Type 0
    Later = HasNumber flips (numbers_from (number_after number_of flip) flips) (suc k) e

    Now : Type 0
    Now = HasNumber (flip ∷ flips) (numbers_from number_of (flip ∷ flips)) (suc k) e

    later : Later → Now
    later (i, l, h, g) = (suc i, omega arith, h, g)

    here : k ≡ b → e ≡ flip.edge → Now
    here h g = (0, omega arith, ap (λ n. suc n) (sym h), sym g)

    split : Now → ((k ≡ b) × (e ≡ flip.edge)) ⊎ Later
    split (zero, l, h, g) = inl (omega arith, sym g)
    split (suc i, l, h, g) = inr (i, omega arith, h, g)

    Old : Type 0
    Old = Contains (get_or rounds k []) e

    joined : Contains (get_or (grouped_from number_of rounds (flip ∷ flips)) k []) e ↔ (Contains (get_or (with_edge_in b flip.edge rounds) k []) e ⊎ Later) → Contains (get_or (with_edge_in b flip.edge rounds) k []) e ↔ (Old ⊎ ((k ≡ b) × (e ≡ flip.edge))) → Contains (get_or (grouped_from number_of rounds (flip ∷ flips)) k []) e ↔ (Old ⊎ Now)
    joined again one = (λ h. to (again.0 h), λ h. again.1 (from h))
      where
        first : Old ⊎ ((k ≡ b) × (e ≡ flip.edge)) → Old ⊎ Now
        first (inl h) = inl h
        first (inr h) = inr (here h.0 h.1)

        to : Contains (get_or (with_edge_in b flip.edge rounds) k []) e ⊎ Later → Old ⊎ Now
        to (inl h) = first (one.0 h)
        to (inr h) = inr (later h)

        by_split : ((k ≡ b) × (e ≡ flip.edge)) ⊎ Later → Contains (get_or (with_edge_in b flip.edge rounds) k []) e ⊎ Later
        by_split (inl h) = inl (one.1 (inr h))
        by_split (inr h) = inr h

        from : Old ⊎ Now → Contains (get_or (with_edge_in b flip.edge rounds) k []) e ⊎ Later
        from (inl h) = inl (one.1 (inl h))
        from (inr h) = by_split (split h)

-- the round with k others before it has the edges of the flips with number k + 1
pub grouped_members : (flips : List Flip) (k : ℕ) (e : Edge) → Contains (get_or (grouped flips) k []) e ↔ HasNumber flips (round_numbers flips) (suc k) e
grouped_members flips k e = joined (grouped_from_members flips (λ t. 0) [] k e)
  where
    none : Contains [] e → ⊥
    none (i, l, h) = omega arith

    Numbered : Type 0
    Numbered = HasNumber flips (round_numbers flips) (suc k) e

    joined : Contains (get_or (grouped flips) k []) e ↔ (Contains (get_or [] k []) e ⊎ Numbered) → Contains (get_or (grouped flips) k []) e ↔ Numbered
    joined again = (λ h. by_cases (again.0 h), λ h. again.1 (inr h))
      where
        by_cases : Contains [] e ⊎ Numbered → Numbered
        by_cases (inl h) = absurd (none h)
        by_cases (inr h) = h
