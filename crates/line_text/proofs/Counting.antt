-- Readings of so many parts of one kind.
use Rattle.std.proofs.Common.{◌≡◌, ℕ, zero, suc, ◌+◌, ◌-◌, ◌<◌, ◌≤◌, List, [], ◌∷◌, ◌++◌, length, replicate, Result, Ok, Err, refl, sym, ap, subst, ◌∙◌, append_assoc, arith}
use Rattle.std.specs.List.{AllByRecursion, flat_map}
use Rattle.std.proofs.lemmas.List.{append-nil}
use Rattle.line_text.specs.Words.{Line}
use Rattle.line_text.specs.Lines.{text, Place, place, Fails}
use Rattle.line_text.specs.Readings.{Reading, ◌>>=◌, times}
use Rattle.line_text.specs.declared.fault.TextFault.{TextFault}
use Rattle.line_text.specs.declared.fault.ReadFault.{ReadFault}
use Rattle.line_text.specs.declared.fault.ReadFault.TheVariants as faults
use Rattle.line_text.proofs.Readers.{done, ok_is, not_both, Took, Stopped, IsReading}
use Rattle.line_text.proofs.Combining.{IsBoth, both_reading}

-- so many values that fit
abbrev pub AreMany : {A : Type 0} → (A → Type 0) → ℕ → List A → Type 0
AreMany Fits n xs = (length xs ≡ n) × AllByRecursion Fits xs

pub are_many : {A : Type 0} (Fits : A → Type 0) (x : A) → Fits x → (n : ℕ) → AreMany Fits n (replicate n x)
are_many Fits x fits zero = (refl, tt)
are_many Fits x fits (suc n) = let k = are_many Fits x fits n in (ap suc k.0, (fits, k.1))

module _ {A : Type 0} (Fits : A → Type 0) (lines : A → List Line) (read : Reading A) where
  none_reading : IsReading (AreMany Fits 0) (flat_map lines) (times read 0)
  unfolding times
  none_reading = record { again = again; takes = takes; stops = stops }
    where
      again : (xs : List A) (n : ℕ) (rest : List ℕ) → AreMany Fits 0 xs → times read 0 (place n (text (flat_map lines xs) ++ rest)) ≡ Ok (xs, place (n + length (flat_map lines xs)) rest)
      again [] n rest fits = let e : n ≡ n + 0 = omega arith in ap (λ (k : ℕ). done ([], place k rest)) e
      again (x ∷ xs) n rest fits = absurd (let l = fits.0 in omega (arith, l))

      takes : (p q : Place) (xs : List A) → times read 0 p ≡ Ok (xs, q) → Took (AreMany Fits 0) (flat_map lines) (times read 0) p xs q
      takes p q xs e = subst (λ (x : List A × Place). Took (AreMany Fits 0) (flat_map lines) (times read 0) p x.0 x.1) (ok_is ([], p) (xs, q) e) (record { fits = (refl, tt); parts = refl; counted = omega arith; clean = tt })

      stops : (p : Place) (f : TextFault) → times read 0 p ≡ Err f → Stopped (AreMany Fits 0) (flat_map lines) (times read 0) p f
      stops p f e = not_both ([], p) f e

  one_more : (n : ℕ) → (x : A) × Fits x → IsBoth Fits lines (λ x. AreMany Fits n) (λ x. flat_map lines) (AreMany Fits (suc n)) (flat_map lines) (λ x xs. x ∷ xs)
  one_more n some = record {
    joins = λ x xs fx fxs. ((ap suc fxs.0, (fx, fxs.1)), refl);
    splits = splits;
    some = λ x fx. (replicate n some.0, are_many Fits some.0 some.1 n);
  }
    where
      splits : (xs : List A) → AreMany Fits (suc n) xs → (y : A) × (ys : List A) × Fits y × AreMany Fits n ys × (y ∷ ys ≡ xs)
      splits [] fits = absurd (let l = fits.0 in omega (arith, l))
      splits (y ∷ ys) fits = let l = fits.0 in (y, ys, fits.1.0, (omega (arith, l), fits.1.1), refl)

  pub times_reading : IsReading Fits lines read → (x : A) × Fits x → (n : ℕ) → IsReading (AreMany Fits n) (flat_map lines) (times read n)
  unfolding times
  times_reading is some zero = none_reading
  times_reading is some (suc n) = both_reading Fits lines read (λ x. AreMany Fits n) (λ x. flat_map lines) (λ x. times read n) (AreMany Fits (suc n)) (flat_map lines) (λ x xs. x ∷ xs) is (λ x fx. times_reading is some n) (one_more n some)

-- ---- as a loop does: what was read before, and what is still read
abbrev pub read_behind : {A : Type 0} → List A → Result (List A × Place) TextFault → Result (List A × Place) TextFault
read_behind front read = read >>= λ x. Ok (front ++ x.0, x.1)

regroup : {A : Type 0} (front : List A) (x : A) (read : Result (List A × Place) TextFault) → read_behind front (read >>= λ y. Ok (x ∷ y.0, y.1)) ≡ read_behind (front ++ x ∷ []) read
regroup front x (Ok y) = ap (λ (xs : List _). Ok (xs, y.1)) (sym (append_assoc front (x ∷ []) y.0))
regroup front x (Err f) = refl

module _ {A : Type 0} (read : Reading A) where
  pub times_go_on : (front : List A) (count i : ℕ) (p q : Place) (x : A) (total : Result (List A × Place) TextFault) → i < count → read p ≡ Ok (x, q)
      → read_behind front (times read (count - i) p) ≡ total → read_behind (front ++ x ∷ []) (times read (count - (i + 1)) q) ≡ total
  unfolding times
  times_go_on front count i p q x total lt h so_far =
      let k : count - i ≡ suc (count - (i + 1)) = omega arith in
      let one : read_behind front (times read (count - i) p) ≡ read_behind (front ++ x ∷ []) (times read (count - (i + 1)) q) = rw (k, h) (regroup front x (times read (count - (i + 1)) q)) in
      sym one ∙ so_far

  pub times_end : (e : ReadFault) (front : List A) (count i : ℕ) (p : Place) (total : Result (List A × Place) TextFault) → i < count → Fails e (read p)
      → read_behind front (times read (count - i) p) ≡ total → Fails e total
  unfolding times
  times_end faults.OutOfMemory front count i p total lt h so_far = tt
  times_end (faults.Text f) front count i p total lt h so_far =
      let k : count - i ≡ suc (count - (i + 1)) = omega arith in
      let one : read_behind front (times read (count - i) p) ≡ Err f = rw (k, h) refl in
      sym so_far ∙ one

  pub times_are_done : (front : List A) (count i : ℕ) (p : Place) (total : Result (List A × Place) TextFault) → count ≤ i → read_behind front (times read (count - i) p) ≡ total → total ≡ Ok (front, p)
  unfolding times
  times_are_done front count i p total le so_far =
      let k : count - i ≡ 0 = omega arith in
      let one : read_behind front (times read (count - i) p) ≡ Ok (front, p) = rw k (ap (λ (xs : List A). done (xs, p)) (append-nil front)) in
      sym so_far ∙ one
