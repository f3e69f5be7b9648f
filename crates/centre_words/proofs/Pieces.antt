-- The rows that `clap` makes of pieces, and how often an id stands in rows.
use Rattle.std.proofs.Common.{◌≡◌, ◌∙◌, ◌≤◌, ◌+◌, ◌||◌, ◌&&◌, ◌++◌, ◌==◌, ℕ, Bool, true, false, not, cond, suc, sym, ap, refl, subst, List, [], ◌∷◌, eqb, eq-eqb, eqb-true, length, arith}
use Rattle.std.specs.Str.{bytes_eq}
use Rattle.std.proofs.lemmas.Slice.Eq.{bytes_eq-Decides}
use Rattle.clap.specs.Lexer.{has_byte}
use Rattle.clap.specs.Walk.{Row, Text, has_row}
use Rattle.centre_words.specs.PlainWords.{is_bare, is_word}
use Rattle.centre_words.specs.Words.{IsPlain, Piece, name, given}
use Rattle.centre_words.proofs.Rules.{has}
use Rattle.centre_words.proofs.Steps.{row}

-- the pieces are names for these places, or for the first of them, and options of these
abbrev pub Fits : List Text → List Text → List Piece → Type 0
Fits options ids [] = Unit {0}
Fits options [] (name word ∷ pieces) = ⊥
Fits options (id ∷ ids) (name word ∷ pieces) = IsPlain word × Fits options ids pieces
Fits options ids (given o value ∷ pieces) = (has o options ≡ true) × IsPlain value × Fits options ids pieces

abbrev pub rows_for : List Text → List Piece → List Row
rows_for ids [] = []
rows_for [] (name word ∷ pieces) = []
rows_for (id ∷ ids) (name word ∷ pieces) = row id word ∷ rows_for ids pieces
rows_for ids (given o value ∷ pieces) = row o value ∷ rows_for ids pieces

-- how many rows have the id
abbrev pub times : Text → List Row → ℕ
times id [] = 0
times id (r ∷ rows) = cond (bytes_eq r.id id) (suc (times id rows)) (times id rows)

-- no id stands twice
abbrev pub Few : List Row → Type 0
Few rows = (id : Text) → times id rows ≤ 1

times_more : (id : Text) (rows more : List Row) → times id (rows ++ more) ≡ times id rows + times id more
times_more id [] more = omega arith
times_more id (r ∷ rows) more = go (bytes_eq r.id id) (times_more id rows more)
  where
    go : (b : Bool) → times id (rows ++ more) ≡ times id rows + times id more
        → cond b (suc (times id (rows ++ more))) (times id (rows ++ more)) ≡ cond b (suc (times id rows)) (times id rows) + times id more
    go true e = omega (arith, e)
    go false e = e

none_times : (id : Text) (rows : List Row) → has_row id rows ≡ false → times id rows ≡ 0
none_times id [] none = refl
none_times id (r ∷ rows) none = go (bytes_eq r.id id) none (none_times id rows)
  where
    go : (b : Bool) → (b || has_row id rows) ≡ false → (has_row id rows ≡ false → times id rows ≡ 0) → cond b (suc (times id rows)) (times id rows) ≡ 0
    go true h more = cc
    go false h more = more h

times_none : (id : Text) (rows : List Row) → times id rows ≡ 0 → has_row id rows ≡ false
times_none id [] none = refl
times_none id (r ∷ rows) none = go (bytes_eq r.id id) none (times_none id rows)
  where
    go : (b : Bool) → cond b (suc (times id rows)) (times id rows) ≡ 0 → (times id rows ≡ 0 → has_row id rows ≡ false) → (b || has_row id rows) ≡ false
    go true h more = absurd (omega (arith, h))
    go false h more = more h

pub few_more : (rows : List Row) (id value : Text) → Few rows → has_row id rows ≡ false → Few (rows ++ row id value ∷ [])
few_more rows id value few none k =
    let e = times_more k rows (row id value ∷ []) in
    let t = total (bytes_eq id k) refl in
    subst (λ n. n ≤ 1) (sym e) t
  where
    total : (b : Bool) → bytes_eq id k ≡ b → times k rows + cond b 1 0 ≤ 1
    total true same = let z = none_times k rows (subst (λ t. has_row t rows ≡ false) ((bytes_eq-Decides id k).0 same) none) in omega (arith, z)
    total false other = let f = few k in omega (arith, f)

pub fresh : (rows : List Row) (id value : Text) (more : List Row) → Few (rows ++ row id value ∷ more) → has_row id rows ≡ false
fresh rows id value more few =
    let e = times_more id rows (row id value ∷ more) in
    let s : times id (row id value ∷ more) ≡ suc (times id more) = ap (λ b. cond b (suc (times id more)) (times id more)) ((bytes_eq-Decides id id).1 refl) in
    let f = few id in
    times_none id rows (omega (arith, e, s, f))

-- a word that is a name or a value, or an option by its name alone
pub data View : Text → Type 0 where
  plain : (word : Text) → IsPlain word → View word
  long : (c : ℕ) (cs : Text) → has_byte 61 (c ∷ cs) ≡ false → View (45 ∷ 45 ∷ c ∷ cs)

pub no_equals : (c : ℕ) (cs : Text) → is_bare (c ∷ cs) ≡ true → has_byte 61 (c ∷ cs) ≡ false
no_equals c cs bare = go (not (length (c ∷ cs) == 0)) (has_byte 61 (c ∷ cs)) bare
  where
    go : (some b : Bool) → (some && not b) ≡ true → b ≡ false
    go some false h = refl
    go true true h = cc
    go false true h = cc

pub view : (word : Text) → is_word word ≡ true → View word
view [] no_word = cc
view (a ∷ []) is = plain (a ∷ []) (λ dash. let clash : false ≡ true = sym (ap not (eq-eqb a 45 dash)) ∙ is in cc)
view (a ∷ b ∷ bs) is = go (eqb a 45) (eqb b 45) refl refl is
  where
    dashes : (ds : Text) → a ≡ 45 → b ≡ 45 → is_bare ds ≡ true → View (a ∷ b ∷ ds)
    dashes [] ea eb bare = cc
    dashes (c ∷ cs) ea eb bare = subst (λ x. View (x ∷ b ∷ c ∷ cs)) (sym ea) (subst (λ y. View (45 ∷ y ∷ c ∷ cs)) (sym eb) (long c cs (no_equals c cs bare)))

    go : (p q : Bool) → eqb a 45 ≡ p → eqb b 45 ≡ q → (not p || (q && is_bare bs)) ≡ true → View (a ∷ b ∷ bs)
    go false q other is_q h = plain (a ∷ b ∷ bs) (λ dash. let clash : false ≡ true = sym other ∙ eq-eqb a 45 dash in cc)
    go true true ea eb h = dashes bs (eqb-true a 45 ea) (eqb-true b 45 eb) h
    go true false ea eb h = cc
