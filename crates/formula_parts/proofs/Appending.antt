-- Clauses that are added to a formula one group after the other.
use Rattle.std.proofs.Common.{◌≡◌, ℕ, ◌+◌, ◌<◌, ◌≤◌, List, [], ◌∷◌, ◌++◌, length, get_or, take, drop, map, Contains, sym, ap, ◌∙◌, subst, arith, append_assoc, length-append}
use Rattle.std.specs.List.{All, flat_map, range_with_len}
use Rattle.std.proofs.lemmas.List.{append-nil, take_more, take_all, take-append-drop}
use Rattle.std.proofs.lemmas.List.Concat.{flat_map_single}
use Rattle.std.proofs.lemmas.List.FromFn.{length-range_with_len, get_or-range_with_len}
use Rattle.std.proofs.lemmas.Grind.{flat_map-append}
use Rattle.std.proofs.lemmas.List.Elements.{Contains-append_left, Contains-append_right}
use Rattle.log_law.specs.Clauses.{Clause, Formula, IsClause}
use Rattle.formula_law.proofs.Clauses.{all_of}
use Rattle.formula_parts.specs.Building.{adding, Takes}

pub each : {X : Type 0} (P : X → Type 0) (xs : List X) → All P xs → (x : X) → Contains xs x → P x
each P xs a x (k, l, h) = subst P h (a k x l)

pub adding_none : (made : Formula) → made ≡ adding made []
adding_none made = λ i. record { variables = made.variables; clauses = sym (append-nil made.clauses) i }

pub adding_twice : (made : Formula) (cs ds : List Clause) → adding (adding made cs) ds ≡ adding made (cs ++ ds)
adding_twice made cs ds = λ i. record { variables = made.variables; clauses = append_assoc made.clauses cs ds i }

pub takes_first : (made : Formula) (cs ds : List Clause) → Takes made (cs ++ ds) → Takes made cs
takes_first made cs ds T = record {
  fit = all_of (IsClause made.variables) cs (λ c h. each (IsClause made.variables) (cs ++ ds) T.fit c (Contains-append_left cs ds c h));
  room = let r = T.room in omega (arith, r, length-append cs ds);
}

pub takes_rest : (made : Formula) (cs ds : List Clause) → Takes made (cs ++ ds) → Takes (adding made cs) ds
takes_rest made cs ds T = record {
  fit = all_of (IsClause made.variables) ds (λ c h. each (IsClause made.variables) (cs ++ ds) T.fit c (Contains-append_right cs ds c h));
  room = let r = T.room in omega (arith, r, length-append cs ds, length-append made.clauses cs);
}

-- a second group, after a first one
pub next_takes : (made now : Formula) (cs ds : List Clause) → Takes made (cs ++ ds) → now ≡ adding made cs → Takes now ds
next_takes made now cs ds T e = subst (λ m. Takes m ds) (sym e) (takes_rest made cs ds T)

pub next_added : (made now new : Formula) (cs ds : List Clause) → now ≡ adding made cs → new ≡ adding now ds → new ≡ adding made (cs ++ ds)
next_added made now new cs ds e f = f ∙ ap (λ m. adding m ds) e ∙ adding_twice made cs ds

-- one clause
pub single_fits : (made : Formula) (c : Clause) → Takes made (c ∷ []) → IsClause made.variables c
single_fits made c T = T.fit 0 c (omega arith)

pub single_room : (made : Formula) (c : Clause) → Takes made (c ∷ []) → length made.clauses < 2_000_000_000
single_room made c T = let r = T.room in omega (arith, r)

-- two clauses, one after the other
module _ (now mid : Formula) (x a b : Clause) (T : Takes now (a ∷ b ∷ [])) (is : x ≡ a) where
  pub first_fits : IsClause now.variables x
  first_fits = subst (IsClause now.variables) (sym is) (single_fits now a (takes_first now (a ∷ []) (b ∷ []) T))

  pub first_room : length now.clauses < 2_000_000_000
  first_room = single_room now a (takes_first now (a ∷ []) (b ∷ []) T)

  module _ (m : mid ≡ adding now (x ∷ [])) where
    between : mid ≡ adding now (a ∷ [])
    between = m ∙ ap (λ y. adding now (y ∷ [])) is

    pub second_takes : Takes mid (b ∷ [])
    second_takes = subst (λ z. Takes z (b ∷ [])) (sym between) (takes_rest now (a ∷ []) (b ∷ []) T)

    pub both_added : (new : Formula) (y : Clause) → y ≡ b → new ≡ adding mid (y ∷ []) → new ≡ adding now (a ∷ b ∷ [])
    both_added new y e n = n ∙ ap (λ z. adding mid (z ∷ [])) e ∙ ap (λ z. adding z (b ∷ [])) between ∙ adding_twice now (a ∷ []) (b ∷ [])

-- ---- a group of clauses for each element of a list
module _ {X : Type 0} (f : X → List Clause) (xs : List X) (made : Formula) where
  -- those of the first n elements are there
  abbrev pub Upto : ℕ → Formula → Type 0
  Upto n now = now ≡ adding made (flat_map f (take n xs))

  pub begun : Upto 0 made
  begun = adding_none made

  one_more : (n : ℕ) (d : X) → n < length xs → flat_map f (take (n + 1) xs) ≡ flat_map f (take n xs) ++ f (get_or xs n d)
  one_more n d h = ap (flat_map f) (take_more xs n d h) ∙ flat_map-append f (take n xs) (get_or xs n d ∷ []) ∙ ap (λ cs. flat_map f (take n xs) ++ cs) (append-nil (f (get_or xs n d)))

  cut : (n : ℕ) (d : X) → n < length xs → flat_map f xs ≡ (flat_map f (take n xs) ++ f (get_or xs n d)) ++ flat_map f (drop (n + 1) xs)
  cut n d h =
      ap (flat_map f) (sym (take-append-drop (n + 1) xs)) ∙ flat_map-append f (take (n + 1) xs) (drop (n + 1) xs)
      ∙ ap (λ cs. cs ++ flat_map f (drop (n + 1) xs)) (one_more n d h)

  pub takes_next : (n : ℕ) (d : X) (now : Formula) → n < length xs → Takes made (flat_map f xs) → Upto n now → Takes now (f (get_or xs n d))
  takes_next n d now h T u =
      subst (λ m. Takes m (f (get_or xs n d))) (sym u)
      (takes_rest made (flat_map f (take n xs)) (f (get_or xs n d)) (takes_first made (flat_map f (take n xs) ++ f (get_or xs n d)) (flat_map f (drop (n + 1) xs)) (subst (Takes made) (cut n d h) T)))

  pub added : (n : ℕ) (d : X) (now new : Formula) → n < length xs → Upto n now → new ≡ adding now (f (get_or xs n d)) → Upto (n + 1) new
  added n d now new h u e =
      e ∙ ap (λ m. adding m (f (get_or xs n d))) u ∙ adding_twice made (flat_map f (take n xs)) (f (get_or xs n d)) ∙ ap (adding made) (sym (one_more n d h))

  pub done : (n : ℕ) (now : Formula) → length xs ≤ n → Upto n now → now ≡ adding made (flat_map f xs)
  done n now h u = u ∙ ap (λ ys. adding made (flat_map f ys)) (take_all n xs h)

-- ---- one clause for each element
module _ {X : Type 0} (g : X → Clause) (xs : List X) (made : Formula) where
  abbrev pub alone : X → List Clause
  alone x = g x ∷ []

  pub takes_one : (n : ℕ) (d : X) (now : Formula) → n < length xs → Takes made (map g xs) → Upto alone xs made n now → Takes now (g (get_or xs n d) ∷ [])
  takes_one n d now h T u = takes_next alone xs made n d now h (subst (Takes made) (sym (flat_map_single g xs)) T) u

  pub fits_one : (n : ℕ) (d : X) (now : Formula) (c : Clause) → n < length xs → Takes made (map g xs) → Upto alone xs made n now → c ≡ g (get_or xs n d) → IsClause now.variables c
  fits_one n d now c h T u e = subst (IsClause now.variables) (sym e) (single_fits now (g (get_or xs n d)) (takes_one n d now h T u))

  pub room_one : (n : ℕ) (d : X) (now : Formula) → n < length xs → Takes made (map g xs) → Upto alone xs made n now → length now.clauses < 2_000_000_000
  room_one n d now h T u = single_room now (g (get_or xs n d)) (takes_one n d now h T u)

  pub added_one : (n : ℕ) (d : X) (now new : Formula) (c : Clause) → n < length xs → Upto alone xs made n now → c ≡ g (get_or xs n d) → new ≡ adding now (c ∷ []) → Upto alone xs made (n + 1) new
  added_one n d now new c h u e i = added alone xs made n d now new h u (i ∙ ap (λ x. adding now (x ∷ [])) e)

  pub all_done : (n : ℕ) (now : Formula) → length xs ≤ n → Upto alone xs made n now → now ≡ adding made (map g xs)
  all_done n now h u = done alone xs made n now h u ∙ ap (adding made) (flat_map_single g xs)

-- ---- a group of clauses for each number
module _ (f : ℕ → List Clause) (m : ℕ) (made : Formula) where
  number : (t : ℕ) → t < m → get_or (range_with_len 0 m) t 0 ≡ t
  number t h = get_or-range_with_len 0 m t 0 h ∙ (let e : 0 + t ≡ t = omega arith in e)

  pub takes_number : (t : ℕ) (now : Formula) → t < m → Takes made (flat_map f (range_with_len 0 m)) → Upto f (range_with_len 0 m) made t now → Takes now (f t)
  takes_number t now h T u = subst (λ s. Takes now (f s)) (number t h) (takes_next f (range_with_len 0 m) made t 0 now (omega (arith, length-range_with_len 0 m)) T u)

  pub added_number : (t : ℕ) (now new : Formula) → t < m → Upto f (range_with_len 0 m) made t now → new ≡ adding now (f t) → Upto f (range_with_len 0 m) made (t + 1) new
  added_number t now new h u e = added f (range_with_len 0 m) made t 0 now new (omega (arith, length-range_with_len 0 m)) u (subst (λ s. new ≡ adding now (f s)) (sym (number t h)) e)

  pub done_number : (t : ℕ) (now : Formula) → m ≤ t → Upto f (range_with_len 0 m) made t now → now ≡ adding made (flat_map f (range_with_len 0 m))
  done_number t now h u = done f (range_with_len 0 m) made t now (omega (arith, length-range_with_len 0 m)) u
