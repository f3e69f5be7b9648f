-- Lines that are written piece by piece.
use Rattle.std.proofs.Common.{◌≡◌, ℕ, zero, suc, ◌+◌, ◌<◌, ◌≤◌, ◌^◌, List, [], ◌∷◌, ◌++◌, map, take, Option, Some, None, refl, sym, ap, ◌∙◌, append_assoc, arith}
use Rattle.std.specs.Prelude.{decimal, slice_get}
use Rattle.std.specs.List.{AllByRecursion, flat_map}
use Rattle.std.proofs.lemmas.Fmt.{decimal_digit}
use Rattle.std.proofs.lemmas.List.{append-nil, map-append}
use Rattle.std.proofs.lemmas.List.Concat.{flat_map-append}
use Rattle.log_law.specs.Logs.{Line as LogLine}
use Rattle.line_text.specs.Words.{Word}
use Rattle.line_text.specs.Lines.{Appends}
use Rattle.line_text.specs.LogLines.{literal_word, log_line, IsFromOne, HasSmallNumbers, IsLogLine}

pub none_is : {A P : Type 0} (x : A) → ◌≡◌ {A = Option A} None (Some x) → P
none_is x e = absurd cc

some_is : {A : Type 0} (x y : A) → ◌≡◌ {A = Option A} (Some x) (Some y) → x ≡ y
some_is x y e = cc

-- one item more of a list
pub taken : {X : Type 0} (xs : List X) (i : ℕ) (x : X) → slice_get xs i ≡ Some x → take (i + 1) xs ≡ take i xs ++ x ∷ []
taken [] i x e = none_is x e
taken (y ∷ ys) zero x e = ap (λ z. z ∷ []) (some_is y x e)
taken (y ∷ ys) (suc i) x e = let n : suc i + 1 ≡ suc (i + 1) = omega arith in rw n (ap (λ zs. y ∷ zs) (taken ys i x e))

pub all_taken : {X : Type 0} (P : X → Type 0) (xs : List X) (i : ℕ) (x : X) → slice_get xs i ≡ Some x → AllByRecursion P (take i xs) → P x → AllByRecursion P (take (i + 1) xs)
all_taken P [] i x e all is = none_is x e
all_taken P (y ∷ ys) zero x e all is = (rw (some_is y x e) is, tt)
all_taken P (y ∷ ys) (suc i) x e all is = let n : suc i + 1 ≡ suc (i + 1) = omega arith in rw n (all.0, all_taken P ys i x e all.1 is)

spaced : List Word → List ℕ
spaced words = flat_map (λ word. 32 ∷ word) words

pub next_word : {X : Type 0} (word : X → Word) (before now after : List ℕ) (xs : List X) (i : ℕ) (x : X) → slice_get xs i ≡ Some x
    → now ≡ before ++ flat_map (λ w. 32 ∷ w) (map word (take i xs)) → after ≡ now ++ 32 ∷ word x → after ≡ before ++ flat_map (λ w. 32 ∷ w) (map word (take (i + 1) xs))
unfolding spaced
next_word word before now after xs i x e so_far put =
    let words : map word (take (i + 1) xs) ≡ map word (take i xs) ++ word x ∷ [] = ap (map word) (taken xs i x e) ∙ map-append word (take i xs) (x ∷ []) in
    let more : spaced (map word (take (i + 1) xs)) ≡ spaced (map word (take i xs)) ++ 32 ∷ word x = ap spaced words ∙ flat_map-append (λ w. 32 ∷ w) (map word (take i xs)) (word x ∷ []) ∙ ap (λ (t : List ℕ). spaced (map word (take i xs)) ++ t) (append-nil (32 ∷ word x)) in
    put ∙ ap (λ (t : List ℕ). t ++ 32 ∷ word x) so_far ∙ append_assoc before (spaced (map word (take i xs))) (32 ∷ word x) ∙ ap (λ (t : List ℕ). before ++ t) (sym more)

-- ---- the line of a log
log_pieces : (l : LogLine) → log_line l ++ 10 ∷ [] ≡ decimal l.id ++ (flat_map (λ w. 32 ∷ w) (map literal_word l.literals) ++ (32 ∷ decimal 0 ++ (flat_map (λ w. 32 ∷ w) (map decimal l.hints) ++ (32 ∷ decimal 0 ++ 10 ∷ []))))
unfolding spaced
log_pieces l =
    let zero_text : decimal 0 ≡ 48 ∷ [] = decimal_digit 0 (omega arith) in
    let front : List Word = map literal_word l.literals in
    let back : List Word = map decimal l.hints in
    let one : spaced (front ++ (48 ∷ []) ∷ back ++ (48 ∷ []) ∷ []) ≡ spaced (front ++ (48 ∷ []) ∷ back) ++ 32 ∷ 48 ∷ [] = flat_map-append (λ w. 32 ∷ w) (front ++ (48 ∷ []) ∷ back) ((48 ∷ []) ∷ []) in
    let two : spaced (front ++ (48 ∷ []) ∷ back) ≡ spaced front ++ 32 ∷ 48 ∷ spaced back = flat_map-append (λ w. 32 ∷ w) front ((48 ∷ []) ∷ back) in
    rw (zero_text, one, two) (simp append_assoc refl)

pub log_written : (l : LogLine) (a b c d e f g : List ℕ) → b ≡ a ++ decimal l.id → c ≡ b ++ flat_map (λ w. 32 ∷ w) (map literal_word l.literals) → d ≡ c ++ 32 ∷ decimal 0
    → e ≡ d ++ flat_map (λ w. 32 ∷ w) (map decimal l.hints) → f ≡ e ++ 32 ∷ decimal 0 → g ≡ f ++ 10 ∷ [] → Appends a g (log_line l ∷ [])
log_written l a b c d e f g h1 h2 h3 h4 h5 h6 = rw (h6, h5, h4, h3, h2, h1, append-nil (log_line l ++ 10 ∷ []), log_pieces l) (simp append_assoc refl)

both_all : {X : Type 0} (P Q : X → Type 0) (xs : List X) → AllByRecursion P xs → AllByRecursion Q xs → AllByRecursion (λ x. P x × Q x) xs
both_all P Q [] p q = tt
both_all P Q (x ∷ xs) p q = ((p.0, q.0), both_all P Q xs p.1 q.1)

pub log_fits : (l : LogLine) → IsFromOne l → HasSmallNumbers l → IsLogLine l
log_fits l from small = record {
  id = small.id;
  literals = both_all (λ x. 1 ≤ x.var) (λ x. x.var < 2 ^ 32) l.literals from.literals small.literals;
  hints = both_all (λ h. 1 ≤ h) (λ h. h < 2 ^ 32) l.hints from.hints small.hints;
}
