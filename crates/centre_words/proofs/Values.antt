-- What is found in the rows of pieces: the names under their places, and the values under their options.
use Rattle.std.proofs.Common.{◌≡◌, ◌∙◌, ◌≤◌, ◌&&◌, ◌||◌, Bool, true, false, not, cond, suc, sym, ap, ap₂, refl, List, [], ◌∷◌, Option, Some, None, map, find, length, arith}
use Rattle.std.specs.Option.{option_and_then, option_to_list}
use Rattle.std.specs.List.{slice_get}
use Rattle.std.specs.Str.{bytes_eq}
use Rattle.std.proofs.lemmas.Slice.Eq.{bytes_eq-Decides}
use Rattle.clap.specs.Walk.{Row, Text, first_of}
use Rattle.centre_words.specs.Words.{Piece, name, given, names_of, values_of}
use Rattle.centre_words.proofs.Pieces.{Few, Fits, rows_for, times}
use Rattle.centre_words.proofs.Rules.{has}
use Rattle.centre_words.proofs.Steps.{row}

-- the ids of places differ from one another and from those of options
abbrev pub apart : List Text → List Text → Bool
apart [] options = true
apart (id ∷ ids) options = not (has id ids) && (not (has id options) && apart ids options)

pub record Apart (id : Text) (ids opts : List Text) : Type 0 where
  pub places : has id ids ≡ false
  pub options : has id opts ≡ false
  pub rest : apart ids opts ≡ true

pub apart_parts : (id : Text) (ids options : List Text) → apart (id ∷ ids) options ≡ true → Apart id ids options
apart_parts id ids options h = go (has id ids) (has id options) refl refl h
  where
    go : (b c : Bool) → has id ids ≡ b → has id options ≡ c → (not b && (not c && apart ids options)) ≡ true → Apart id ids options
    go false false b c h = record { places = b; options = c; rest = h }
    go true c eb ec h = cc
    go false true eb ec h = cc

-- an option has no place's id
pub option_apart : (o : Text) (ids options : List Text) → apart ids options ≡ true → has o options ≡ true → has o ids ≡ false
option_apart o [] options h is = refl
option_apart o (id ∷ ids) options h is = go (bytes_eq id o) refl (option_apart o ids options a.rest is)
  where
    a : Apart id ids options
    a = apart_parts id ids options h

    go : (b : Bool) → bytes_eq id o ≡ b → has o ids ≡ false → (b || has o ids) ≡ false
    go true same more = let clash : true ≡ false = sym is ∙ ap (λ t. has t options) (sym ((bytes_eq-Decides id o).0 same)) ∙ a.options in cc
    go false same more = more

same_way : (k o : Text) → bytes_eq k o ≡ false → bytes_eq o k ≡ false
same_way k o other = go (bytes_eq o k) refl
  where
    go : (b : Bool) → bytes_eq o k ≡ b → b ≡ false
    go true is = let clash : true ≡ false = sym ((bytes_eq-Decides k o).1 (sym ((bytes_eq-Decides o k).0 is))) ∙ other in cc
    go false is = refl

first_or : (a b : Bool) → (a || b) ≡ false → (a ≡ false) × (b ≡ false)
first_or false b e = (refl, e)
first_or true b e = cc

-- ---- the names

abbrev pub firsts : List Row → List Text → List (Option Text)
firsts rows ids = map (λ id. first_of id rows) ids

-- a row under another id
others : (r : Row) (rows : List Row) (ids : List Text) → has r.id ids ≡ false → firsts (r ∷ rows) ids ≡ firsts rows ids
others r rows [] other = refl
others r rows (id ∷ ids) other =
    let f = first_or (bytes_eq id r.id) (has r.id ids) other in
    ap₂ (λ o os. o ∷ os) (ap (λ b. option_and_then (λ (q : Row). slice_get q.values 0) (cond b (Some r) (find (λ q. bytes_eq q.id id) rows))) (same_way id r.id f.0)) (others r rows ids f.1)

-- names under so many places
abbrev pub slots : List Text → List Text → List (Option Text)
slots [] names = []
slots (id ∷ ids) [] = None ∷ slots ids []
slots (id ∷ ids) (n ∷ names) = Some n ∷ slots ids names

no_slots : (ids : List Text) → firsts [] ids ≡ slots ids []
no_slots [] = refl
no_slots (id ∷ ids) = ap (λ os. None ∷ os) (no_slots ids)

pub slots_are : (options ids : List Text) (pieces : List Piece) → apart ids options ≡ true → Fits options ids pieces → firsts (rows_for ids pieces) ids ≡ slots ids (names_of pieces)
slots_are options ids [] h fits = no_slots ids
slots_are options [] (name word ∷ pieces) h fits = absurd fits
slots_are options (id ∷ ids) (name word ∷ pieces) h fits =
    let a = apart_parts id ids options h in
    ap₂ (λ o os. o ∷ os) (ap (λ b. option_and_then (λ (q : Row). slice_get q.values 0) (cond b (Some (row id word)) (find (λ q. bytes_eq q.id id) (rows_for ids pieces)))) ((bytes_eq-Decides id id).1 refl))
    (others (row id word) (rows_for ids pieces) ids a.places ∙ slots_are options ids pieces a.rest fits.1)
slots_are options ids (given o value ∷ pieces) h fits =
    others (row o value) (rows_for ids pieces) ids (option_apart o ids options h fits.0) ∙ slots_are options ids pieces h fits.2

pub fits_short : (options ids : List Text) (pieces : List Piece) → Fits options ids pieces → length (names_of pieces) ≤ length ids
fits_short options ids [] fits = omega arith
fits_short options [] (name word ∷ pieces) fits = absurd fits
fits_short options (id ∷ ids) (name word ∷ pieces) fits = let h = fits_short options ids pieces fits.1 in omega (arith, h)
fits_short options ids (given o value ∷ pieces) fits = fits_short options ids pieces fits.2

pub names_are : (ids names vs : List Text) → length names ≤ length ids → slots ids names ≡ map (λ v. Some v) vs → names ≡ vs
names_are [] [] [] short e = refl
names_are [] [] (v ∷ vs) short e = cc
names_are [] (n ∷ names) vs short e = absurd (omega (arith, short))
names_are (id ∷ ids) [] [] short e = cc
names_are (id ∷ ids) [] (v ∷ vs) short e = let clash : None ≡ Some v = cc e in cc
names_are (id ∷ ids) (n ∷ names) [] short e = cc
names_are (id ∷ ids) (n ∷ names) (v ∷ vs) short e =
    let head : n ≡ v = cc e in
    let tail : slots ids names ≡ map (λ v. Some v) vs = cc e in
    ap₂ (λ x xs. x ∷ xs) head (names_are ids names vs (omega (arith, short)) tail)

-- ---- the values

pub times_are : (o : Text) (options ids : List Text) (pieces : List Piece) → has o ids ≡ false → Fits options ids pieces → times o (rows_for ids pieces) ≡ length (values_of o pieces)
times_are o options ids [] other fits = refl
times_are o options [] (name word ∷ pieces) other fits = absurd fits
times_are o options (id ∷ ids) (name word ∷ pieces) other fits =
    let f = first_or (bytes_eq id o) (has o ids) other in
    ap (λ b. cond b (suc (times o (rows_for ids pieces))) (times o (rows_for ids pieces))) f.0 ∙ times_are o options ids pieces f.1 fits.1
times_are o options ids (given k value ∷ pieces) other fits = go (bytes_eq k o) (times_are o options ids pieces other fits.2)
  where
    go : (b : Bool) → times o (rows_for ids pieces) ≡ length (values_of o pieces)
        → cond b (suc (times o (rows_for ids pieces))) (times o (rows_for ids pieces)) ≡ length (cond b (value ∷ values_of o pieces) (values_of o pieces))
    go true e = ap suc e
    go false e = e

no_more : (vs : List Text) → suc (length vs) ≤ 1 → vs ≡ []
no_more [] few = refl
no_more (v ∷ vs) few = absurd (omega (arith, few))

pub found_values : (o : Text) (options ids : List Text) (pieces : List Piece) → has o ids ≡ false → Fits options ids pieces → length (values_of o pieces) ≤ 1
    → option_to_list (first_of o (rows_for ids pieces)) ≡ values_of o pieces
found_values o options ids [] other fits few = refl
found_values o options [] (name word ∷ pieces) other fits few = absurd fits
found_values o options (id ∷ ids) (name word ∷ pieces) other fits few =
    let f = first_or (bytes_eq id o) (has o ids) other in
    ap (λ b. option_to_list (option_and_then (λ (q : Row). slice_get q.values 0) (cond b (Some (row id word)) (find (λ q. bytes_eq q.id o) (rows_for ids pieces))))) f.0
    ∙ found_values o options ids pieces f.1 fits.1 few
found_values o options ids (given k value ∷ pieces) other fits few = go (bytes_eq k o) few (found_values o options ids pieces other fits.2)
  where
    go : (b : Bool) → length (cond b (value ∷ values_of o pieces) (values_of o pieces)) ≤ 1
        → (length (values_of o pieces) ≤ 1 → option_to_list (first_of o (rows_for ids pieces)) ≡ values_of o pieces)
        → option_to_list (option_and_then (λ (q : Row). slice_get q.values 0) (cond b (Some (row k value)) (find (λ q. bytes_eq q.id o) (rows_for ids pieces)))) ≡ cond b (value ∷ values_of o pieces) (values_of o pieces)
    go true h more = ap (λ vs. value ∷ vs) (sym (no_more (values_of o pieces) h))
    go false h more = more h

-- ---- no id stands twice

no_values : (id : Text) (options ids : List Text) (pieces : List Piece) → has id options ≡ false → Fits options ids pieces → values_of id pieces ≡ []
no_values id options ids [] none fits = refl
no_values id options [] (name word ∷ pieces) none fits = absurd fits
no_values id options (k ∷ ids) (name word ∷ pieces) none fits = no_values id options ids pieces none fits.1
no_values id options ids (given k value ∷ pieces) none fits = go (bytes_eq k id) refl (no_values id options ids pieces none fits.2)
  where
    go : (b : Bool) → bytes_eq k id ≡ b → values_of id pieces ≡ [] → cond b (value ∷ values_of id pieces) (values_of id pieces) ≡ []
    go true is more = let clash : true ≡ false = sym fits.0 ∙ ap (λ t. has t options) ((bytes_eq-Decides k id).0 is) ∙ none in cc
    go false is more = more

few_names : (id : Text) (options ids : List Text) (pieces : List Piece) → apart ids options ≡ true → Fits options ids pieces → has id ids ≡ true → times id (rows_for ids pieces) ≤ 1
few_names id options ids [] h fits is = omega arith
few_names id options [] (name word ∷ pieces) h fits is = absurd fits
few_names id options (k ∷ ids) (name word ∷ pieces) h fits is = go (bytes_eq k id) refl is (few_names id options ids pieces a.rest fits.1)
  where
    a : Apart k ids options
    a = apart_parts k ids options h

    go : (b : Bool) → bytes_eq k id ≡ b → (b || has id ids) ≡ true → (has id ids ≡ true → times id (rows_for ids pieces) ≤ 1)
        → cond b (suc (times id (rows_for ids pieces))) (times id (rows_for ids pieces)) ≤ 1
    go true same there more =
        let e = (bytes_eq-Decides k id).0 same in
        let t = times_are id options ids pieces (ap (λ t. has t ids) (sym e) ∙ a.places) fits.1 in
        let n = ap length (no_values id options ids pieces (ap (λ t. has t options) (sym e) ∙ a.options) fits.1) in
        omega (arith, t, n)
    go false same there more = more there
few_names id options ids (given k value ∷ pieces) h fits is = go (bytes_eq k id) refl (few_names id options ids pieces h fits.2 is)
  where
    go : (b : Bool) → bytes_eq k id ≡ b → times id (rows_for ids pieces) ≤ 1 → cond b (suc (times id (rows_for ids pieces))) (times id (rows_for ids pieces)) ≤ 1
    go true same more =
        let clash : true ≡ false = sym is ∙ ap (λ t. has t ids) (sym ((bytes_eq-Decides k id).0 same)) ∙ option_apart k ids options h fits.0 in
        cc
    go false same more = more

pub few_rows : (options ids : List Text) (pieces : List Piece) → apart ids options ≡ true → Fits options ids pieces
    → ((o : Text) → has o options ≡ true → length (values_of o pieces) ≤ 1) → Few (rows_for ids pieces)
few_rows options ids pieces h fits few id = go (has id ids) (has id options) refl refl
  where
    go : (b c : Bool) → has id ids ≡ b → has id options ≡ c → times id (rows_for ids pieces) ≤ 1
    go true c is_b is_c = few_names id options ids pieces h fits is_b
    go false true is_b is_c = let t = times_are id options ids pieces is_b fits in let f = few id is_c in omega (arith, t, f)
    go false false is_b is_c =
        let t = times_are id options ids pieces is_b fits in
        let n = ap length (no_values id options ids pieces is_c fits) in
        omega (arith, t, n)
