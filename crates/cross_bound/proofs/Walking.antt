-- The members that a segment crosses, from one to the next: the walk passes each once, and all of them.
use Rattle.std.proofs.Common.{◌≡◌, ◌⊎◌, inl, inr, ℕ, zero, suc, ◌<◌, ℤ, neg_ℤ, ◌+ℤ◌, ◌*ℤ◌, List, [], ◌∷◌, length, Contains, refl, sym, ap, ap₂, ◌∙◌, subst, arith}
use Rattle.std.proofs.lemmas.Int.{ints}
use Rattle.geo_orient.proofs.IntSigns.{IsPos, mul_pos, first_pos}
use Rattle.geo_orient.proofs.Ring.{solve}
use Rattle.geo_orient.proofs.Ring.Term.{var, plus, times, minus}
use Rattle.tri_theory.proofs.Plane.{Plane, left, turned, back_turned, negs}
use Rattle.tri_theory.proofs.Net.{Tri, Net, weaken}
use Rattle.tri_theory.proofs.Flip.{one_apex, never_left}
use Rattle.crossing_law.proofs.Pass.{Over, Next, next_crossing, next_once, last_once}

ahead_by : (a b c d s t : ℤ) → a *ℤ b ≡ c *ℤ d +ℤ s *ℤ t → IsPos s → IsPos t → IsPos (a *ℤ b +ℤ neg_ℤ (c *ℤ d))
ahead_by a b c d s t e hs ht = let m = mul_pos s t hs ht in omega (arith, ints, e, m)

never_ahead : (a : ℤ) → ¬ IsPos (a +ℤ neg_ℤ a)
never_ahead a h = omega (arith, ints, h)

-- "ahead" of fractions with positive parts is transitive
ahead_joins : (a b c d e f : ℤ) → IsPos b → IsPos d → IsPos f → IsPos (c *ℤ b +ℤ neg_ℤ (a *ℤ d)) → IsPos (e *ℤ d +ℤ neg_ℤ (c *ℤ f)) → IsPos (e *ℤ b +ℤ neg_ℤ (a *ℤ f))
ahead_joins a b c d e f hb hd hf h k =
    first_pos (e *ℤ b +ℤ neg_ℤ (a *ℤ f)) d (e *ℤ d +ℤ neg_ℤ (c *ℤ f)) b (c *ℤ b +ℤ neg_ℤ (a *ℤ d)) f
    (solve (a ∷ b ∷ c ∷ d ∷ e ∷ f ∷ [])
    (times (plus (times (var 4) (var 1)) (minus (times (var 0) (var 5)))) (var 3))
    (plus (times (plus (times (var 4) (var 3)) (minus (times (var 2) (var 5)))) (var 1)) (times (plus (times (var 2) (var 1)) (minus (times (var 0) (var 3)))) (var 5))) tt)
    k hb (weaken h) (weaken hf) hd

abbrev pub Way : Type 0
Way = ℕ × ℕ

first_or_later : {X : Type 0} (x y : X) (xs : List X) → Contains (x ∷ xs) y → (x ≡ y) ⊎ Contains xs y
first_or_later x y xs (zero, l, h) = inl h
first_or_later x y xs (suc k, l, h) = inr (k, omega arith, h)

pub way_here : (w m : Way) (rest : List Way) → w ≡ m → Contains (w ∷ rest) m
way_here w m rest e = (0, omega arith, e)

pub way_later : (w m : Way) (rest : List Way) → Contains rest m → Contains (w ∷ rest) m
way_later w m rest (k, l, h) = (suc k, omega arith, h)

pub way_cases : (w m : Way) (rest : List Way) → Contains (w ∷ rest) m → (w ≡ m) ⊎ Contains rest m
way_cases w m rest h = first_or_later w m rest h

module _ (S : Plane) (J : ℕ → ℕ → Type 0) (N : Net S J) (u v : ℕ) (hv : v < S.n) (clear : (k : ℕ) → k < S.n → ¬ S.between u v k) where
  open S use {n, o, between}

  -- the segment crosses the member of the way
  abbrev pub Crossed : Way → Type 0
  Crossed w = Over S J u v w.0 w.1

  -- the way m comes after w
  abbrev pub Then : Way → Way → Type 0
  Then w m = Next S J w.0 w.1 m.0 m.1

  -- each crossed member comes after the one before it
  abbrev pub Path : List Way → Type 0
  Path [] = ⊥
  Path (w ∷ []) = Crossed w
  Path (w ∷ (m ∷ rest)) = Crossed w × Then w m × Path (m ∷ rest)

  -- the segment ends behind the last one
  abbrev pub Ends : List Way → Type 0
  Ends [] = ⊥
  Ends (w ∷ []) = Tri S J w.0 w.1 v
  Ends (w ∷ (m ∷ rest)) = Ends (m ∷ rest)

  pub head_crossed : (w : Way) (rest : List Way) → Path (w ∷ rest) → Crossed w
  head_crossed w [] p = p
  head_crossed w (m ∷ rest) p = p.0

  -- m is crossed further from u than w
  abbrev Ahead : Way → Way → Type 0
  Ahead w m = IsPos (o m.1 m.0 u *ℤ o w.0 w.1 v +ℤ neg_ℤ (o w.1 w.0 u *ℤ o m.0 m.1 v))

  step_ahead : (w m : Way) → Crossed w → Crossed m → Then w m → Ahead w m
  step_ahead (x, y) (p, q) c d (inr (e, t)) =
      subst (λ k. IsPos (o q k u *ℤ o x y v +ℤ neg_ℤ (o y x u *ℤ o k q v))) (sym e)
      (ahead_by (o q x u) (o x y v) (o y x u) (o x q v) (o x y q) (o x u v) equation (turned S (subst (λ k. left S q k y) e t.turns)) (back_turned S c.on_left))
    where
      equation : o q x u *ℤ o x y v ≡ o y x u *ℤ o x q v +ℤ o x y q *ℤ o x u v
      equation = ap (λ k. k *ℤ o x y v) (S.cycle q x u) ∙ S.exchange x u y q v ∙ ap (λ k. k *ℤ o x q v +ℤ o x y q *ℤ o x u v) (sym (S.cycle y x u))
  step_ahead (x, y) (p, q) c d (inl (e, t)) =
      subst (λ k. IsPos (o k p u *ℤ o x y v +ℤ neg_ℤ (o y x u *ℤ o p k v))) (sym e)
      (ahead_by (o y p u) (o x y v) (o y x u) (o p y v) (o y v u) (o y p x) equation (back_turned S c.on_right) (subst (λ k. left S k p x) e t.turns))
    where
      first : o y x u ≡ neg_ℤ (o y u x)
      first = S.cycle y x u ∙ S.swap u x y ∙ ap neg_ℤ (sym (S.cycle y u x))

      equation : o y p u *ℤ o x y v ≡ o y x u *ℤ o p y v +ℤ o y v u *ℤ o y p x
      equation = ap (λ k. o y p u *ℤ k) (S.cycle x y v) ∙ S.exchange y p v u x ∙ ap (λ k. k +ℤ o y v u *ℤ o y p x) (products (o y p v) (o y u x) (o y x u) (o p y v) first (S.swap y p v))
        where
          products : (a b c d : ℤ) → c ≡ neg_ℤ b → d ≡ neg_ℤ a → a *ℤ b ≡ c *ℤ d
          products a b c d i j = Rattle.geo_orient.proofs.Ring.mul_comm a b ∙ sym (negs b a c d i j)

  -- all later ones are crossed further on
  pub later_ahead : (w : Way) (rest : List Way) → Path (w ∷ rest) → (m : Way) → Contains rest m → Crossed m × Ahead w m
  later_ahead w [] p m (k, l, h) = absurd (omega arith)
  later_ahead w (k ∷ rest) p m h = by_cases (way_cases k m rest h) (λ i. later_ahead k rest p.2 m i)
    where
      second : Crossed k
      second = head_crossed k rest p.2

      by_cases : (k ≡ m) ⊎ Contains rest m → (Contains rest m → Crossed m × Ahead k m) → Crossed m × Ahead w m
      by_cases (inl e) _ = (subst Crossed e second, subst (Ahead w) e (step_ahead w k p.0 second p.1))
      by_cases (inr i) again = join (again i)
        where
          join : Crossed m × Ahead k m → Crossed m × Ahead w m
          join a = (a.0, ahead_joins (o w.1 w.0 u) (o w.0 w.1 v) (o k.1 k.0 u) (o k.0 k.1 v) (o m.1 m.0 u) (o m.0 m.1 v) p.0.before second.before a.0.before (step_ahead w k p.0 second p.1) a.1)

  -- so none comes twice
  pub no_return : (w : Way) (rest : List Way) → Path (w ∷ rest) → ¬ Contains rest w
  no_return w rest p h = never_ahead (o w.1 w.0 u *ℤ o w.0 w.1 v) (later_ahead w rest p w h).1

  -- a walk of n more ways, or to the end
  pub extend : (k : ℕ) (w : Way) → Crossed w → ((rest : List Way) × Path (w ∷ rest) × Ends (w ∷ rest)) ⊎ ((rest : List Way) × Path (w ∷ rest) × (length rest ≡ k))
  extend zero w c = inr ([], c, refl)
  extend (suc k) w c = by_next (next_crossing S J N u v hv clear w.0 w.1 c) (λ m d. extend k m d)
    where
      Walked : ℕ → Way → Type 0
      Walked k w = ((rest : List Way) × Path (w ∷ rest) × Ends (w ∷ rest)) ⊎ ((rest : List Way) × Path (w ∷ rest) × (length rest ≡ k))

      longer : (m : Way) → Then w m → Walked k m → Walked (suc k) w
      longer m t (inl (rest, p, e)) = inl (m ∷ rest, (c, t, p), e)
      longer m t (inr (rest, p, l)) = inr (m ∷ rest, (c, t, p), ap suc l)

      by_next : Tri S J w.0 w.1 v ⊎ ((p q : ℕ) × Over S J u v p q × Next S J w.0 w.1 p q) → ((m : Way) → Crossed m → Walked k m) → Walked (suc k) w
      by_next (inl t) _ = inl ([], c, t)
      by_next (inr (p, q, d, t)) again = longer (p, q) t (again (p, q) d)

  -- the last one is on each walk
  last_in : (w : Way) (rest : List Way) → Path (w ∷ rest) → Ends (w ∷ rest) → (g : Way) → Crossed g → Tri S J g.0 g.1 v → Contains (w ∷ rest) g
  last_in w [] p e g c t = let s = last_once S J N u v hv clear w.0 w.1 g.0 g.1 p c e t in way_here w g [] (ap₂ (λ x y. let k : Way = (x, y) in k) s.0 s.1)
  last_in w (m ∷ rest) p e g c t = way_later w g (m ∷ rest) (last_in m rest p.2 e g c t)

  -- a later one comes after one of the walk
  before_in : (w : Way) (rest : List Way) → Path (w ∷ rest) → (m : Way) → Contains rest m → (k : Way) × Contains (w ∷ rest) k × Crossed k × Then k m
  before_in w [] p m (k, l, h) = absurd (omega arith)
  before_in w (k ∷ rest) p m h = by_cases (way_cases k m rest h) (λ i. before_in k rest p.2 m i)
    where
      by_cases : (k ≡ m) ⊎ Contains rest m → (Contains rest m → (j : Way) × Contains (k ∷ rest) j × Crossed j × Then j m) → (j : Way) × Contains (w ∷ (k ∷ rest)) j × Crossed j × Then j m
      by_cases (inl e) _ = (w, way_here w w (k ∷ rest) refl, p.0, subst (Then w) e p.1)
      by_cases (inr i) again = deeper (again i)
        where
          deeper : (j : Way) × Contains (k ∷ rest) j × Crossed j × Then j m → (j : Way) × Contains (w ∷ (k ∷ rest)) j × Crossed j × Then j m
          deeper (j, i, c, t) = (j, way_later w j (k ∷ rest) i, c, t)

  -- nothing comes before the way at whose triangle the segment starts
  none_before : (g f : Way) → Crossed g → Then g f → ¬ Tri S J f.1 f.0 u
  none_before (x, y) (p, q) c (inl (e, t)) r = (never_left S u v).2 (subst (λ k. left S u v k) (one_apex S J N q p x u t r) c.on_left)
  none_before (x, y) (p, q) c (inr (e, t)) r = (never_left S v u).1 (subst (λ k. left S v u k) (one_apex S J N q p y u t r) c.on_right)

  -- a walk from the start to the end passes all crossed members: each of them begins a walk to the same end
  pub all_passed : (f : Way) (passed : List Way) → Path (f ∷ passed) → Ends (f ∷ passed) → Tri S J f.1 f.0 u → (g : Way) (rest : List Way) → Path (g ∷ rest) → Ends (g ∷ rest) → Contains (f ∷ passed) g
  all_passed f passed P E r g [] p e = last_in f passed P E g p e
  all_passed f passed P E r g (m ∷ rest) p e = by_cases (way_cases f m passed (all_passed f passed P E r m rest p.2 e))
    where
      by_before : (k : Way) × Contains (f ∷ passed) k × Crossed k × Then k m → Contains (f ∷ passed) g
      by_before (k, i, c, t) =
          let s = next_once S J N u v hv clear k.0 k.1 g.0 g.1 m.0 m.1 c p.0 t p.1 in
          subst (Contains (f ∷ passed)) (ap₂ (λ x y. let j : Way = (x, y) in j) s.0 s.1) i

      by_cases : (f ≡ m) ⊎ Contains passed m → Contains (f ∷ passed) g
      by_cases (inl i) = absurd (none_before g f p.0 (subst (Then g) (sym i) p.1) r)
      by_cases (inr h) = by_before (before_in f passed P m h)
