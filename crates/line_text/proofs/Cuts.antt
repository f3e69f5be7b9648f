-- Cutting bytes at the first byte of some kind, and the words that cuts give.
use Rattle.std.proofs.Common.{◌≡◌, ℕ, zero, suc, ◌+◌, ◌<◌, Bool, true, false, eqb, List, [], ◌∷◌, ◌++◌, length, take, drop, Option, Some, None, refl, sym, ap, ◌∙◌, arith}
use Rattle.std.proofs.lemmas.List.Splits.{slice_split-cons_yes, slice_split-cons_no}
use Rattle.std.proofs.lemmas.Bool.{false_from_ne_true}
use Rattle.memchr.specs.Find.{Nowhere, Passes, is_byte}
use Rattle.line_text.specs.Words.{Word, cut_at, words_of, words_after}

-- a cut behind some bytes in front
abbrev pub behind : List ℕ → List ℕ × Option (List ℕ) → List ℕ × Option (List ℕ)
behind front x = (front ++ x.0, x.1)

pub cut_yes : (c b : ℕ) (bs : List ℕ) → eqb b c ≡ true → cut_at c (b ∷ bs) ≡ ([], Some bs)
unfolding cut_at
cut_yes c b bs e = rw e refl

pub cut_no : (c b : ℕ) (bs : List ℕ) → eqb b c ≡ false → cut_at c (b ∷ bs) ≡ (b ∷ (cut_at c bs).0, (cut_at c bs).1)
unfolding cut_at
cut_no c b bs e = rw e refl

pub cut_nothing : (c : ℕ) → cut_at c [] ≡ ([], None)
unfolding cut_at
cut_nothing c = refl

-- the words that the parts of a cut stand for
abbrev cut_words : List ℕ × Option (List ℕ) → List Word
cut_words x = x.0 ∷ words_after x.1

words_by_cut : (bytes : List ℕ) → words_of bytes ≡ cut_words (cut_at 32 bytes)
words_by_cut [] = rw (cut_nothing 32) refl
words_by_cut (b ∷ bs) = by_test (eqb b 32) refl (words_by_cut bs)
  where
    by_test : (t : Bool) → eqb b 32 ≡ t → words_of bs ≡ cut_words (cut_at 32 bs) → words_of (b ∷ bs) ≡ cut_words (cut_at 32 (b ∷ bs))
    by_test true e known = rw (cut_yes 32 b bs e) (slice_split-cons_yes (λ x. eqb x 32) b bs e)
    by_test false e known = rw (cut_no 32 b bs e, slice_split-cons_no (λ x. eqb x 32) b bs e, known) refl

pub words_from_cut : (bytes word : List ℕ) (rest : Option (List ℕ)) → (word, rest) ≡ cut_at 32 bytes → words_of bytes ≡ word ∷ words_after rest
words_from_cut bytes word rest e = words_by_cut bytes ∙ ap cut_words (sym e)

-- ---- the first byte of some kind
pub cut_found : (c i : ℕ) (bytes : List ℕ) → i < length bytes → Nowhere (Passes (is_byte c) bytes) 0 i → Passes (is_byte c) bytes i → (take i bytes, Some (drop (i + 1) bytes)) ≡ cut_at c bytes
cut_found c i [] lt before is = absurd (omega (arith, lt))
cut_found c zero (b ∷ bs) lt before is = sym (cut_yes c b bs is)
cut_found c (suc i) (b ∷ bs) lt before is =
    let known : (take i bs, Some (drop (i + 1) bs)) ≡ cut_at c bs = cut_found c i bs (omega (arith, lt)) (λ k low high. before (suc k) (omega arith) (omega (arith, high))) is in
    let next : suc i + 1 ≡ suc (i + 1) = omega arith in
    rw next (ap (behind (b ∷ [])) known ∙ sym (cut_no c b bs (false_from_ne_true (eqb b c) (before 0 (omega arith) (omega arith)))))

pub cut_nowhere : (c : ℕ) (bytes : List ℕ) → Nowhere (Passes (is_byte c) bytes) 0 (length bytes) → (bytes, None) ≡ cut_at c bytes
cut_nowhere c [] none = sym (cut_nothing c)
cut_nowhere c (b ∷ bs) none =
    let known : (bs, None) ≡ cut_at c bs = cut_nowhere c bs (λ k low high. none (suc k) (omega arith) (omega (arith, high))) in
    ap (behind (b ∷ [])) known ∙ sym (cut_no c b bs (false_from_ne_true (eqb b c) (none 0 (omega arith) (omega arith))))
