-- Pairs of numbers that are found one after the other.
use Rattle.std.proofs.Common.{◌≡◌, ◌⊎◌, inl, inr, ◌↔◌, ℕ, ◌+◌, ◌*◌, ◌<◌, ◌≤◌, List, [], ◌∷◌, ◌++◌, length, get_or, Contains, refl, sym, subst, arith, length-append}
use Rattle.std.proofs.lemmas.List.Elements.{Contains-get_or, Contains-append_left, Contains-append_right, Contains-append_cases}
use Rattle.std.proofs.lemmas.List.Quantifiers.{all_pairs_push}
use native.Mathlib.Decide.{dec_lt}
use Rattle.edge_table.specs.Edges.{IsBefore}
use Rattle.edge_table.proofs.Edges.{pair}
use Rattle.formula_law.proofs.Clauses.{in_none, in_first, in_cases}
use Rattle.formula_parts.specs.Lists.{Link}
use Rattle.formula_parts.specs.Found.{link, AreFound}

next_one : (g : Link) (a b : ℕ) → IsBefore g (link a (b + 1)) → IsBefore g (link a b) ⊎ (g ≡ link a b)
next_one g a b (inl h) = inl (inl h)
next_one g a b (inr (k, h)) = by_test (dec_lt g.1 b)
  where
    by_test : Dec (g.1 < b) → IsBefore g (link a b) ⊎ (g ≡ link a b)
    by_test (yes l) = inl (inr (k, l))
    by_test (no n) = inr (pair k (omega arith))

still : (g : Link) (a b : ℕ) → IsBefore g (link a b) → IsBefore g (link a (b + 1))
still g a b (inl h) = inl h
still g a b (inr (k, h)) = inr (k, omega arith)

module _ (P : Link → Type 0) (w : ℕ) where
  pub found_none : AreFound P w [] 0 0
  found_none = record {
    ascending = λ i j d h k. absurd (omega arith);
    sound = λ g h. absurd (in_none g h);
    whole = λ g p h. absurd (first g h);
    few = omega arith;
  }
    where
      first : (g : Link) → IsBefore g (link 0 0) → ⊥
      first g (inl h) = omega arith
      first g (inr (k, h)) = omega arith

  module _ (found : List Link) (a b : ℕ) (F : AreFound P w found a b) where
    pub found_skip : ¬ P (link a b) → AreFound P w found a (b + 1)
    found_skip n = record {
      ascending = F.ascending;
      sound = λ g h. let r = F.sound g h in (r.0, still g a b r.1);
      whole = λ g p h. by_cases g p (next_one g a b h);
      few = let l = F.few in omega arith;
    }
      where
        by_cases : (g : Link) → P g → IsBefore g (link a b) ⊎ (g ≡ link a b) → Contains found g
        by_cases g p (inl h) = F.whole g p h
        by_cases g p (inr e) = absurd (n (subst P e p))

    pub found_add : (new : List Link) → new ≡ found ++ link a b ∷ [] → P (link a b) → AreFound P w new a (b + 1)
    found_add new e here = subst (λ xs. AreFound P w xs a (b + 1)) (sym e) (record {
      ascending = all_pairs_push IsBefore found (link a b) F.ascending (λ k d h. (F.sound (get_or found k d) (Contains-get_or found k d h)).1);
      sound = λ g h. sound g (Contains-append_cases found (link a b ∷ []) g h);
      whole = λ g p h. whole g p (next_one g a b h);
      few = let l = F.few in let m = length-append found (link a b ∷ []) in omega arith;
    })
      where
        last : (g : Link) → (link a b ≡ g) ⊎ Contains [] g → P g × IsBefore g (link a (b + 1))
        last g (inl i) = subst (λ x. P x × IsBefore x (link a (b + 1))) i (here, inr (refl, omega arith))
        last g (inr h) = absurd (in_none g h)

        sound : (g : Link) → Contains found g ⊎ Contains (link a b ∷ []) g → P g × IsBefore g (link a (b + 1))
        sound g (inl h) = let r = F.sound g h in (r.0, still g a b r.1)
        sound g (inr h) = last g (in_cases g (link a b) [] h)

        whole : (g : Link) → P g → IsBefore g (link a b) ⊎ (g ≡ link a b) → Contains (found ++ link a b ∷ []) g
        whole g p (inl h) = Contains-append_left found (link a b ∷ []) g (F.whole g p h)
        whole g p (inr i) = Contains-append_right found (link a b ∷ []) g (subst (λ x. Contains (link a b ∷ []) x) (sym i) (in_first (link a b) []))

    -- the last of a row
    pub found_end : (m : ℕ) → m ≤ b → b ≤ w → ((g : Link) → P g → g.1 < m) → AreFound P w found (a + 1) 0
    found_end m h k below = record {
      ascending = F.ascending;
      sound = λ g i. let r = F.sound g i in (r.0, inl (on g r.1));
      whole = λ g p i. F.whole g p (by_row g p i);
      few = let l = F.few in rows (length found) l;
    }
      where
        rows : (n : ℕ) → n ≤ a * w + b → n ≤ (a + 1) * w + 0
        rows n l = let e : (a + 1) * w ≡ a * w + w = omega arith in omega arith

        on : (g : Link) → IsBefore g (link a b) → g.0 < a + 1
        on g (inl i) = omega arith
        on g (inr i) = let e = i.0 in omega arith

        here : (g : Link) → P g → Dec (g.0 < a) → g.0 < a + 1 → IsBefore g (link a b)
        here g p (yes l) i = inl l
        here g p (no n) i = inr ((omega arith), (let l = below g p in omega arith))

        by_row : (g : Link) → P g → IsBefore g (link (a + 1) 0) → IsBefore g (link a b)
        by_row g p (inl i) = here g p (dec_lt g.0 a) i
        by_row g p (inr (j, i)) = absurd (omega arith)

  -- the first of a row, where the second number is above the first
  pub found_begin : (found : List Link) (a : ℕ) → ((g : Link) → P g → g.0 < g.1) → AreFound P w found a 0 → AreFound P w found a (a + 1)
  found_begin found a rises F = record {
    ascending = F.ascending;
    sound = λ g h. let r = F.sound g h in (r.0, on g r.1);
    whole = λ g p h. F.whole g p (back g p h);
    few = let l = F.few in omega arith;
  }
    where
      on : (g : Link) → IsBefore g (link a 0) → IsBefore g (link a (a + 1))
      on g (inl h) = inl h
      on g (inr (k, h)) = absurd (omega arith)

      back : (g : Link) → P g → IsBefore g (link a (a + 1)) → IsBefore g (link a 0)
      back g p (inl h) = inl h
      back g p (inr (k, h)) = absurd (let l = rises g p in omega arith)

  pub found_all : (found : List Link) (a : ℕ) → ((g : Link) → P g → g.0 < a) → AreFound P w found a 0 → (g : Link) → Contains found g ↔ P g
  found_all found a below F g = (λ h. (F.sound g h).0, λ p. F.whole g p (inl (below g p)))
