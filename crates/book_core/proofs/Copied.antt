-- The copies of inputs, and tables in which the copies of two inputs get a weight.
use Rattle.std.proofs.Common.{◌≡◌, ◌≢◌, ◌∙◌, ℕ, ◌+◌, ◌<◌, List, refl, sym, ap, arith}
use Rattle.std.specs.Prelude.{sum}
use native.Mathlib.Decide.{ℕ_discrete}
use Rattle.bound_law.specs.Copies.{copy_of}
use Rattle.match_bound.specs.Tables.{Table, weight, SetsPair}
use Rattle.book_core.specs.CopyTables.{SetsRow, SetsCopies}

module _ (weights : List ℕ) where
  -- ---- one row of a table
  pub row_begins : (old : Table) (c j w : ℕ) → SetsRow weights old old c j w 0
  row_begins old c j w = record { side = refl; pairs = λ d l _. absurd (omega (arith, l)); others = λ a b _ _. refl }

  pub row_goes : (old mid new : Table) (c j w d : ℕ) → copy_of weights c ≢ j → copy_of weights d ≡ j → SetsRow weights old mid c j w d → SetsPair mid new c d w → SetsRow weights old new c j w (d + 1)
  row_goes old mid new c j w d other is T S = record { side = S.side ∙ T.side; pairs = λ b l e. by_place b l e (ℕ_discrete b d); others = λ a b p q. others a b p q }
    where
      apart : (x : ℕ) → copy_of weights x ≡ j → ¬ (c ≡ x)
      apart x e h = other (ap (copy_of weights) h ∙ e)

      by_place : (b : ℕ) → b < d + 1 → copy_of weights b ≡ j → Dec (b ≡ d) → (weight new c b ≡ w) × (weight new b c ≡ w)
      by_place b l e (yes h) = (ap (weight new c) h ∙ S.pair, ap (λ x. weight new x c) h ∙ S.mirror)
      by_place b l e (no h) =
          let T = T.pairs b (omega (arith, l, h)) e in
          (S.others c b (λ p. h p.1) (λ p. apart d is p.0) ∙ T.0, S.others b c (λ p. apart b e (sym p.0)) (λ p. h p.0) ∙ T.1)

      others : (a b : ℕ) → ¬ ((a ≡ c) × (copy_of weights b ≡ j)) → ¬ ((copy_of weights a ≡ j) × (b ≡ c)) → weight new a b ≡ weight old a b
      others a b p q = S.others a b (λ h. p (h.0, ap (copy_of weights) h.1 ∙ is)) (λ h. q (ap (copy_of weights) h.0 ∙ is, h.1)) ∙ T.others a b p q

  pub row_skips : (old mid : Table) (c j w d : ℕ) → copy_of weights d ≢ j → SetsRow weights old mid c j w d → SetsRow weights old mid c j w (d + 1)
  row_skips old mid c j w d isnt T = record { side = T.side; pairs = λ b l e. T.pairs b (below b l e) e; others = T.others }
    where
      below : (b : ℕ) → b < d + 1 → copy_of weights b ≡ j → b < d
      below b l e = let n : ¬ (b ≡ d) = λ h. isnt (sym (ap (copy_of weights) h) ∙ e) in omega (arith, l, n)

  -- ---- the rows of all copies of an input
  pub copies_begin : (old : Table) (i j w : ℕ) → SetsCopies weights old old i j w 0
  copies_begin old i j w = record { side = refl; pairs = λ c d l _ _ _. absurd (omega (arith, l)); others = λ a b _ _. refl }

  pub copies_go : (old mid new : Table) (i j w c : ℕ) → i ≢ j → copy_of weights c ≡ i → SetsCopies weights old mid i j w c → SetsRow weights mid new c j w (sum weights) → SetsCopies weights old new i j w (c + 1)
  copies_go old mid new i j w c other is T S = record { side = S.side ∙ T.side; pairs = λ a d l m e f. by_place a d l m e f (ℕ_discrete a c); others = λ a b p q. others a b p q }
    where
      both : (x : ℕ) → copy_of weights x ≡ i → ¬ (copy_of weights x ≡ j)
      both x e f = other (sym e ∙ f)

      by_place : (a d : ℕ) → a < c + 1 → d < sum weights → copy_of weights a ≡ i → copy_of weights d ≡ j → Dec (a ≡ c) → (weight new a d ≡ w) × (weight new d a ≡ w)
      by_place a d l m e f (yes h) = let R = S.pairs d m f in (ap (λ x. weight new x d) h ∙ R.0, ap (weight new d) h ∙ R.1)
      by_place a d l m e f (no h) =
          let R = T.pairs a d (omega (arith, l, h)) m e f in
          (S.others a d (λ p. h p.0) (λ p. both a e p.0) ∙ R.0, S.others d a (λ p. both a e p.1) (λ p. h p.1) ∙ R.1)

      others : (a b : ℕ) → ¬ ((copy_of weights a ≡ i) × (copy_of weights b ≡ j)) → ¬ ((copy_of weights a ≡ j) × (copy_of weights b ≡ i)) → weight new a b ≡ weight old a b
      others a b p q = S.others a b (λ h. p (ap (copy_of weights) h.0 ∙ is, h.1)) (λ h. q (h.0, ap (copy_of weights) h.1 ∙ is)) ∙ T.others a b p q

  pub copies_skip : (old mid : Table) (i j w c : ℕ) → copy_of weights c ≢ i → SetsCopies weights old mid i j w c → SetsCopies weights old mid i j w (c + 1)
  copies_skip old mid i j w c isnt T = record { side = T.side; pairs = λ a d l m e f. T.pairs a d (below a l e) m e f; others = T.others }
    where
      below : (a : ℕ) → a < c + 1 → copy_of weights a ≡ i → a < c
      below a l e = let n : ¬ (a ≡ c) = λ h. isnt (sym (ap (copy_of weights) h) ∙ e) in omega (arith, l, n)
