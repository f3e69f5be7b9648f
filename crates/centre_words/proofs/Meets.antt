-- What words ask for is what the matches of their row ask for.
use Rattle.std.proofs.Common.{◌≡◌, ◌∙◌, ◌≤◌, ◌<◌, ◌&&◌, ◌||◌, ◌==◌, not, ne_eqb, ℕ, Bool, true, false, cond, sym, ap, ap₂, refl, subst, List, [], ◌∷◌, Option, Some, None, codes, map, option_map, length, nat_lt, arith, ltb-true}
use Rattle.std.specs.List.{All, list_all}
use Rattle.std.specs.Option.{option_to_list}
use Rattle.std.specs.Char.{digit_value}
use Rattle.std.specs.Str.{bytes_eq}
use Rattle.std.specs.Str.Parse.{IsNumeral}
use Rattle.std.proofs.lemmas.List.Elements.{All-nil, All-cons, All-head, All-tail}
use Rattle.std.proofs.lemmas.Slice.Eq.{bytes_eq-Decides}
use Rattle.clap.proofs.WalkLemmas.{both}
use Rattle.clap.specs.Faults.{fault_of}
use Rattle.clap.specs.Walk.{Row as Given, Text, first_of}
use Rattle.clap.specs.Simple.{subcommand_of}
use Rattle.centre_words.specs.declared.asked.Asked.{Asked}
use Rattle.centre_words.specs.declared.asked.Asked.TheVariants as asked
use Rattle.centre_words.specs.Commands.{AsksBy, the_app}
use Rattle.centre_words.specs.PlainWords.{is_bare, is_word}
use Rattle.centre_words.specs.Table.{Number, Row, table, check_row, score_row, solve_row, verify_row, trace_row, bench_row, input, bench_seed, bench_points, bench_inputs, workers, turns, seed, flips}
use Rattle.centre_words.specs.Words.{Asks, AsksSolve, IsChosen, IsNumberOf, IsPlain, IsPlainPiece, Piece, dashed, name, given, names_of, spelling, values_of}
use Rattle.centre_words.proofs.Pieces.{Few, Fits, rows_for}
use Rattle.centre_words.proofs.Rules.{at_all, has, options, places}
use Rattle.centre_words.proofs.Tops.{named, parts_of, row_at, row_fault, row_rows}
use Rattle.centre_words.proofs.Values.{apart, few_rows, firsts, fits_short, found_values, names_are, option_apart, slots, slots_are, times_are}
use Rattle.centre_words.proofs.Walks.{finds, passes}

abbrev pub ids_of : Row → List Text
ids_of row = places (parts_of row)

abbrev pub opts_of : Row → List Text
opts_of row = options (parts_of row)

-- ---- the rows of the table are sound

abbrev is_sound : Row → Bool
is_sound row = is_word row.name && (nat_lt (length (ids_of row)) 90 && (apart (ids_of row) (opts_of row) && list_all (λ o. is_word (dashed o)) (opts_of row)))

pub record Sound (row : Row) : Type 0 where
  pub title : is_word row.name ≡ true
  pub small : length (ids_of row) < 90
  pub distinct : apart (ids_of row) (opts_of row) ≡ true
  pub bare : list_all (λ o. is_word (dashed o)) (opts_of row) ≡ true

one_of_all : (rows : List Row) (word : Text) (row : Row) → list_all is_sound rows ≡ true → row_at word rows ≡ Some row → is_sound row ≡ true
one_of_all [] word row all e = cc
one_of_all (r ∷ rows) word row all e = go (bytes_eq r.name word) e (one_of_all rows word row (both (is_sound r) _ all).1)
  where
    go : (b : Bool) → cond (b || false) (Some r) (row_at word rows) ≡ Some row → (row_at word rows ≡ Some row → is_sound row ≡ true) → is_sound row ≡ true
    go true f more = let same : r ≡ row = cc f in ap is_sound (sym same) ∙ (both (is_sound r) _ all).0
    go false f more = more f

pub sound : (row : Row) → row_at row.name table ≡ Some row → Sound row
sound row at =
    let a = both (is_word row.name) _ (one_of_all table row.name row refl at) in
    let b = both (nat_lt (length (ids_of row)) 90) _ a.1 in
    let c = both (apart (ids_of row) (opts_of row)) _ b.1 in
    record { title = a.0; small = ltb-true (length (ids_of row)) 90 b.0; distinct = c.0; bare = c.1 }

bare_option : (opts : List Text) (o : Text) → list_all (λ o. is_word (dashed o)) opts ≡ true → has o opts ≡ true → is_word (dashed o) ≡ true
bare_option [] o all is = cc
bare_option (k ∷ opts) o all is = go (bytes_eq k o) refl is (bare_option opts o (both (is_word (dashed k)) _ all).1)
  where
    go : (b : Bool) → bytes_eq k o ≡ b → (b || has o opts) ≡ true → (has o opts ≡ true → is_word (dashed o) ≡ true) → is_word (dashed o) ≡ true
    go true same there more = ap (λ t. is_word (dashed t)) (sym ((bytes_eq-Decides k o).0 same)) ∙ (both (is_word (dashed k)) _ all).0
    go false same there more = more there

-- ---- words are the row's, and these are the rows that are found

pub record Said (row : Row) (words : List Text) (found : List Given) : Type 0 where
  pub pieces : List Piece
  pub spelled : words ≡ row.name ∷ spelling pieces
  pub fits : Fits (opts_of row) (ids_of row) pieces
  pub few : Few (rows_for (ids_of row) pieces)
  pub rows_are : found ≡ rows_for (ids_of row) pieces

pub record Read (words : List Text) : Type 0 where
  pub row : Row
  pub at : row_at row.name table ≡ Some row
  pub found : List Given
  pub matches : subcommand_of the_app words ≡ Some (row.name, found)
  pub said : Said row words found

pub read : (words : List Text) → list_all is_word words ≡ true → fault_of the_app words ≡ [] → Read words
read words all e =
    let n = named words all e in
    let rest = (both (is_word n.row.name) _ (ap (list_all is_word) (sym n.is) ∙ all)).1 in
    let s = sound n.row n.at in
    let small = s.small in
    let f = (finds n.row.name (parts_of n.row) n.rest rest).here (ids_of n.row) [] [] None 1 (at_all 1 (parts_of n.row) (omega (arith, small))) (λ _. (refl, λ id. omega arith))
    (sym (row_fault n.row n.rest n.at) ∙ ap (fault_of the_app) (sym n.is) ∙ e) in
    record {
      row = n.row;
      at = n.at;
      found = _;
      matches = ap (subcommand_of the_app) n.is ∙ row_rows n.row n.rest n.at;
      said = record { pieces = f.pieces; spelled = n.is ∙ ap (λ ws. n.row.name ∷ ws) f.spelled; fits = f.fits; few = f.few; rows_are = f.rows_are };
    }

plain_word : (word : Text) → IsPlain word → is_word word ≡ true
plain_word [] no_word = absurd no_word
plain_word (a ∷ []) other = ap not (ne_eqb a 45 other)
plain_word (a ∷ b ∷ bs) other = ap (λ t. not t || ((b == 45) && is_bare bs)) (ne_eqb a 45 other)

plain_spelling : (opts ids : List Text) (pieces : List Piece) → list_all (λ o. is_word (dashed o)) opts ≡ true → Fits opts ids pieces → list_all is_word (spelling pieces) ≡ true
plain_spelling opts ids [] bare fits = refl
plain_spelling opts [] (name word ∷ pieces) bare fits = absurd fits
plain_spelling opts (id ∷ ids) (name word ∷ pieces) bare fits = ap₂ ◌&&◌ (plain_word word fits.0) (plain_spelling opts ids pieces bare fits.1)
plain_spelling opts ids (given o value ∷ pieces) bare fits =
    ap₂ ◌&&◌ (bare_option opts o bare fits.0) (ap₂ ◌&&◌ (plain_word value fits.1) (plain_spelling opts ids pieces bare fits.2))

-- the words ask for this, and `clap` reads it
pub record Meets (words : List Text) (a : Asked) : Type 0 where
  pub plain : list_all is_word words ≡ true
  pub faultless : fault_of the_app words ≡ []
  pub command : Text
  pub found : List Given
  pub matches : subcommand_of the_app words ≡ Some (command, found)
  pub by : AsksBy command found a

meets_row : (row : Row) → row_at row.name table ≡ Some row → (words : List Text) (a : Asked) (pieces : List Piece) → words ≡ row.name ∷ spelling pieces → Fits (opts_of row) (ids_of row) pieces
    → ((o : Text) → has o (opts_of row) ≡ true → length (values_of o pieces) ≤ 1) → AsksBy row.name (rows_for (ids_of row) pieces) a → Meets words a
meets_row row at words a pieces is fits once by =
    let s = sound row at in
    let small = s.small in
    let p = passes row.name (parts_of row) (λ o. bare_option (opts_of row) o s.bare) pieces (ids_of row) [] [] None 1 (at_all 1 (parts_of row) (omega (arith, small))) refl refl fits
    (few_rows (opts_of row) (ids_of row) pieces s.distinct fits once) in
    record {
      plain = ap (list_all is_word) is ∙ ap₂ ◌&&◌ s.title (plain_spelling (opts_of row) (ids_of row) pieces s.bare fits);
      faultless = ap (fault_of the_app) is ∙ row_fault row (spelling pieces) at ∙ p.0;
      command = row.name;
      found = rows_for (ids_of row) pieces;
      matches = ap (subcommand_of the_app) is ∙ row_rows row (spelling pieces) at ∙ ap (λ rows. Some (row.name, rows)) p.1;
      by = by;
    }

-- ---- pieces without options are the names

abbrev AllPlain : List Text → Type 0
AllPlain [] = Unit {0}
AllPlain (v ∷ vs) = IsPlain v × AllPlain vs

fits_bare : (ids : List Text) (pieces : List Piece) → Fits [] ids pieces → (spelling pieces ≡ names_of pieces) × AllPlain (names_of pieces)
fits_bare ids [] fits = (refl, tt)
fits_bare [] (name word ∷ pieces) fits = absurd fits
fits_bare (id ∷ ids) (name word ∷ pieces) fits = let more = fits_bare ids pieces fits.1 in (ap (λ ws. word ∷ ws) more.0, (fits.0, more.1))
fits_bare ids (given o value ∷ pieces) fits = let none = fits.0 in cc

said_names : (row : Row) → row_at row.name table ≡ Some row → (words : List Text) (found : List Given) (s : Said row words found) (vs : List Text) → firsts found (ids_of row) ≡ map (λ v. Some v) vs → names_of s.pieces ≡ vs
said_names row at words found s vs e =
    names_are (ids_of row) (names_of s.pieces) vs (fits_short (opts_of row) (ids_of row) s.pieces s.fits)
    (sym (slots_are (opts_of row) (ids_of row) s.pieces (sound row at).distinct s.fits) ∙ ap (λ rows. firsts rows (ids_of row)) (sym s.rows_are) ∙ e)

said_bare : (row : Row) → row_at row.name table ≡ Some row → [] ≡ opts_of row → (words : List Text) (found : List Given) (s : Said row words found) (vs : List Text) → firsts found (ids_of row) ≡ map (λ v. Some v) vs
    → (words ≡ row.name ∷ vs) × AllPlain vs
said_bare row at none words found s vs e =
    let names = said_names row at words found s vs e in
    let b = fits_bare (ids_of row) s.pieces (subst (λ o. Fits o (ids_of row) s.pieces) (sym none) s.fits) in
    (s.spelled ∙ ap (λ ws. row.name ∷ ws) (b.0 ∙ names), subst AllPlain names b.1)

said_values : (row : Row) → row_at row.name table ≡ Some row → (words : List Text) (found : List Given) (s : Said row words found) (o : Text) → has o (opts_of row) ≡ true
    → option_to_list (first_of o found) ≡ values_of o s.pieces
said_values row at words found s o is =
    let apart = option_apart o (ids_of row) (opts_of row) (sound row at).distinct is in
    let t = times_are o (opts_of row) (ids_of row) s.pieces apart s.fits in
    let f = s.few o in
    ap (λ rows. option_to_list (first_of o rows)) s.rows_are ∙ found_values o (opts_of row) (ids_of row) s.pieces apart s.fits (omega (arith, t, f))

fits_all : (opts ids : List Text) (pieces : List Piece) → Fits opts ids pieces → All (IsPlainPiece opts) pieces
fits_all opts ids [] fits = All-nil (IsPlainPiece opts)
fits_all opts [] (name word ∷ pieces) fits = absurd fits
fits_all opts (id ∷ ids) (name word ∷ pieces) fits = All-cons (IsPlainPiece opts) (name word) pieces fits.0 (fits_all opts ids pieces fits.1)
fits_all opts ids (given o value ∷ pieces) fits = All-cons (IsPlainPiece opts) (given o value) pieces (fits.0, fits.1) (fits_all opts ids pieces fits.2)

all_fit : (opts ids : List Text) (pieces : List Piece) → length (names_of pieces) ≤ length ids → All (IsPlainPiece opts) pieces → Fits opts ids pieces
all_fit opts ids [] short all = tt
all_fit opts [] (name word ∷ pieces) short all = absurd (omega (arith, short))
all_fit opts (id ∷ ids) (name word ∷ pieces) short all =
    (All-head (IsPlainPiece opts) (name word) pieces all, all_fit opts ids pieces (omega (arith, short)) (All-tail (IsPlainPiece opts) (name word) pieces all))
all_fit opts ids (given o value ∷ pieces) short all =
    let p = All-head (IsPlainPiece opts) (given o value) pieces all in
    (p.0, p.1, all_fit opts ids pieces short (All-tail (IsPlainPiece opts) (given o value) pieces all))

-- ---- what matches ask for, words ask for

as_row : (row r : Row) (words : List Text) (found : List Given) → row_at row.name table ≡ Some row → row_at r.name table ≡ Some r → row.name ≡ r.name → Said row words found → Said r words found
as_row row r words found at at_r same s =
    let both : Some row ≡ Some r = sym at ∙ ap (λ w. row_at w table) same ∙ at_r in
    let is : row ≡ r = cc both in
    subst (λ q. Said q words found) is s

-- a number that must be there has a word
given_word : (number : Number) → number.usual ≡ None → (o : Option Text) (t : ℕ) → IsChosen number (option_to_list o) (Some t) → (word : Text) × (o ≡ Some word) × IsNumberOf number word t
given_word number unusual None t h = let clash : Some t ≡ None = h ∙ unusual in cc
given_word number unusual (Some word) t h = (word, refl, h)

pub asks_from : (row : Row) (words : List Text) (found : List Given) → row_at row.name table ≡ Some row → Said row words found → (a : Asked) → AsksBy row.name found a → Asks words a
asks_from row words found at s (asked.Check i) h =
    let b = said_bare check_row refl refl words found (as_row row check_row words found at refl h.0 s) (i ∷ []) (λ j. h.1 j ∷ []) in
    (b.0, b.1.0)
asks_from row words found at s (asked.Score i t) h =
    let b = said_bare score_row refl refl words found (as_row row score_row words found at refl h.0 s) (i ∷ t ∷ []) (λ j. h.1 j ∷ h.2 j ∷ []) in
    (b.0, b.1.0, b.1.1.0)
asks_from row words found at s (asked.Solve i t c w n m o) h =
    let said = as_row row solve_row words found at refl h.0 s in
    record {
      pieces = said.pieces;
      spelled = said.spelled;
      plain = fits_all (opts_of solve_row) (ids_of solve_row) said.pieces said.fits;
      names = said_names solve_row refl words found said (i ∷ t ∷ c ∷ []) (λ j. h.1 j ∷ h.2 j ∷ h.3 j ∷ []);
      differ = h.4;
      workers_is = subst (λ vs. IsChosen workers vs (Some w)) (said_values solve_row refl words found said workers.name refl) h.5;
      turns_is = subst (λ vs. IsChosen turns vs (Some n)) (said_values solve_row refl words found said turns.name refl) h.6;
      seed_is = subst (λ vs. IsChosen seed vs (Some m)) (said_values solve_row refl words found said seed.name refl) h.7;
      flips_is = subst (λ vs. IsChosen flips vs o) (said_values solve_row refl words found said flips.name refl) h.8;
    }
asks_from row words found at s (asked.Verify i t c) h =
    let b = said_bare verify_row refl refl words found (as_row row verify_row words found at refl h.0 s) (i ∷ t ∷ c ∷ []) (λ j. h.1 j ∷ h.2 j ∷ h.3 j ∷ []) in
    (b.0, b.1.0, b.1.1.0, b.1.1.1.0)
asks_from row words found at s (asked.Trace i t) h =
    let w = given_word input refl (first_of input.name found) t h.2 in
    let b = said_bare trace_row refl refl words found (as_row row trace_row words found at refl h.0 s) (i ∷ w.0 ∷ []) (λ j. h.1 j ∷ w.1 j ∷ []) in
    (w.0, b.0, b.1.0, w.2)
asks_from row words found at s (asked.Bench n p m) h =
    let v = given_word bench_seed refl (first_of bench_seed.name found) n h.1 in
    let w = given_word bench_points refl (first_of bench_points.name found) p h.2 in
    let x = given_word bench_inputs refl (first_of bench_inputs.name found) m h.3 in
    let b = said_bare bench_row refl refl words found (as_row row bench_row words found at refl h.0 s) (v.0 ∷ w.0 ∷ x.0 ∷ []) (λ j. v.1 j ∷ w.1 j ∷ x.1 j ∷ []) in
    (v.0, w.0, x.0, b.0, v.2, w.2, x.2)

-- ---- and back

chosen_once : (number : Number) (values : List Text) (n : Option ℕ) → IsChosen number values n → length values ≤ 1
chosen_once number [] n h = omega arith
chosen_once number (value ∷ []) n h = omega arith
chosen_once number (value ∷ v ∷ vs) n h = absurd h

abbrev AllOnce : List Text → List Piece → Type 0
AllOnce [] pieces = Unit {0}
AllOnce (o ∷ opts) pieces = (length (values_of o pieces) ≤ 1) × AllOnce opts pieces

each_once : (opts : List Text) (pieces : List Piece) → AllOnce opts pieces → (o : Text) → has o opts ≡ true → length (values_of o pieces) ≤ 1
each_once [] pieces all o is = cc
each_once (k ∷ opts) pieces all o is = go (bytes_eq k o) refl is (each_once opts pieces all.1 o)
  where
    go : (b : Bool) → bytes_eq k o ≡ b → (b || has o opts) ≡ true → (has o opts ≡ true → length (values_of o pieces) ≤ 1) → length (values_of o pieces) ≤ 1
    go true same there more = subst (λ t. length (values_of t pieces) ≤ 1) ((bytes_eq-Decides k o).0 same) all.0
    go false same there more = more there

meets_solve : (words : List Text) (i t c : Text) (w n m : ℕ) (o : Option ℕ) → AsksSolve words i t c w n m o → Meets words (asked.Solve i t c w n m o)
meets_solve words i t c w n m o h =
    let names : slots (ids_of solve_row) (names_of h.pieces) ≡ Some i ∷ Some t ∷ Some c ∷ [] = ap (slots (ids_of solve_row)) h.names in
    let short = ap length h.names in
    let fits = all_fit (opts_of solve_row) (ids_of solve_row) h.pieces (omega (arith, short)) h.plain in
    let once = each_once (opts_of solve_row) h.pieces
    (chosen_once workers _ (Some w) h.workers_is, (chosen_once turns _ (Some n) h.turns_is, (chosen_once seed _ (Some m) h.seed_is, (chosen_once flips _ o h.flips_is, tt)))) in
    let found = rows_for (ids_of solve_row) h.pieces in
    let firsts_are : firsts found (ids_of solve_row) ≡ Some i ∷ Some t ∷ Some c ∷ [] = slots_are (opts_of solve_row) (ids_of solve_row) h.pieces refl fits ∙ names in
    let value : (k : Text) → has k (opts_of solve_row) ≡ true → values_of k h.pieces ≡ option_to_list (first_of k found) =
    λ k is. sym (found_values k (opts_of solve_row) (ids_of solve_row) h.pieces (option_apart k (ids_of solve_row) (opts_of solve_row) refl is) fits (once k is)) in
    meets_row solve_row refl words (asked.Solve i t c w n m o) h.pieces h.spelled fits once (
      refl,
      cc firsts_are,
      cc firsts_are,
      cc firsts_are,
      h.differ,
      subst (λ vs. IsChosen workers vs (Some w)) (value workers.name refl) h.workers_is,
      subst (λ vs. IsChosen turns vs (Some n)) (value turns.name refl) h.turns_is,
      subst (λ vs. IsChosen seed vs (Some m)) (value seed.name refl) h.seed_is,
      subst (λ vs. IsChosen flips vs o) (value flips.name refl) h.flips_is,
    )

digits_plain : (word : Text) → IsNumeral 10 word → IsPlain word
digits_plain [] digits = absurd (omega (arith, digits.0))
digits_plain (b ∷ bs) digits = λ dash. let h : 36 < 10 = subst (λ n. digit_value n < 10) dash digits.1.0 in absurd (omega (arith, h))

pub meets : (words : List Text) (a : Asked) → Asks words a → Meets words a
meets words (asked.Check i) h = meets_row check_row refl words (asked.Check i) (name i ∷ []) h.0 (h.1, tt) (λ o is. cc) (refl, refl)
meets words (asked.Score i t) h = meets_row score_row refl words (asked.Score i t) (name i ∷ name t ∷ []) h.0 (h.1, (h.2, tt)) (λ o is. cc) (refl, refl, refl)
meets words (asked.Solve i t c w n m o) h = meets_solve words i t c w n m o h
meets words (asked.Verify i t c) h =
    meets_row verify_row refl words (asked.Verify i t c) (name i ∷ name t ∷ name c ∷ []) h.0 (h.1, (h.2, (h.3, tt))) (λ o is. cc) (refl, refl, refl, refl)
meets words (asked.Trace i t) h =
    meets_row trace_row refl words (asked.Trace i t) (name i ∷ name h.0 ∷ []) h.1 (h.2, (digits_plain h.0 h.3.digits, tt)) (λ o is. cc) (refl, refl, h.3)
meets words (asked.Bench n p m) h =
    meets_row bench_row refl words (asked.Bench n p m) (name h.0 ∷ name h.1 ∷ name h.2 ∷ []) h.3
    (digits_plain h.0 h.4.digits, (digits_plain h.1 h.5.digits, (digits_plain h.2 h.6.digits, tt))) (λ o is. cc) (refl, h.4, h.5, h.6)

-- ---- matches ask for at most one thing

number_once : (number : Number) (values : List Text) (m n : Option ℕ) → IsChosen number values m → IsChosen number values n → m ≡ n
number_once number [] m n h k = h ∙ sym k
number_once number (value ∷ []) None n h k = absurd h
number_once number (value ∷ []) (Some m) None h k = absurd k
number_once number (value ∷ []) (Some m) (Some n) h k = ap Some (h.value ∙ sym k.value)
number_once number (value ∷ v ∷ vs) m n h k = absurd h

some_is : {X : Type 0} (x y : X) → Some x ≡ Some y → x ≡ y
some_is x y e = cc e

same_name : (o : Option Text) (v w : Text) → o ≡ Some v → o ≡ Some w → v ≡ w
same_name o v w e f = some_is v w (sym e ∙ f)

abbrev command_of : Asked → Text
command_of (asked.Check i) = codes "check"
command_of (asked.Score i s) = codes "score"
command_of (asked.Solve i s c w n m o) = codes "solve"
command_of (asked.Verify i s c) = codes "verify"
command_of (asked.Trace i t) = codes "trace"
command_of (asked.Bench n p m) = codes "bench"

asks_by_once : (command : Text) (found : List Given) (a b : Asked) → AsksBy command found a → AsksBy command found b → a ≡ b
asks_by_once command found (asked.Check i) (asked.Check j) h k = ap asked.Check (same_name _ i j h.1 k.1)
asks_by_once command found (asked.Score i s) (asked.Score j t) h k = ap₂ asked.Score (same_name _ i j h.1 k.1) (same_name _ s t h.2 k.2)
asks_by_once command found (asked.Solve i s c v p q r) (asked.Solve j t d w n m o) h k =
    let ei = same_name _ i j h.1 k.1 in
    let es = same_name _ s t h.2 k.2 in
    let ec = same_name _ c d h.3 k.3 in
    let ew = some_is v w (number_once workers _ (Some v) (Some w) h.5 k.5) in
    let ep = some_is p n (number_once turns _ (Some p) (Some n) h.6 k.6) in
    let eq = some_is q m (number_once seed _ (Some q) (Some m) h.7 k.7) in
    let er = number_once flips _ r o h.8 k.8 in
    λ l. asked.Solve (ei l) (es l) (ec l) (ew l) (ep l) (eq l) (er l)
asks_by_once command found (asked.Verify i s c) (asked.Verify j t d) h k =
    let ei = same_name _ i j h.1 k.1 in
    let es = same_name _ s t h.2 k.2 in
    let ec = same_name _ c d h.3 k.3 in
    λ l. asked.Verify (ei l) (es l) (ec l)
asks_by_once command found (asked.Trace i t) (asked.Trace j u) h k =
    let ei = same_name _ i j h.1 k.1 in
    let et = some_is t u (number_once input _ (Some t) (Some u) h.2 k.2) in
    λ l. asked.Trace (ei l) (et l)
asks_by_once command found (asked.Bench n p m) (asked.Bench o q k) h g =
    let es = some_is n o (number_once bench_seed _ (Some n) (Some o) h.1 g.1) in
    let ep = some_is p q (number_once bench_points _ (Some p) (Some q) h.2 g.2) in
    let ei = some_is m k (number_once bench_inputs _ (Some m) (Some k) h.3 g.3) in
    λ l. asked.Bench (es l) (ep l) (ei l)
asks_by_once command found a b h k = let clash : bytes_eq (command_of a) (command_of a) ≡ bytes_eq (command_of b) (command_of a) = ap (λ t. bytes_eq t (command_of a)) (sym h.0 ∙ k.0) in cc

pub same_found : (o : Option (Text × List Given)) (c d : Text) (f g : List Given) → o ≡ Some (c, f) → o ≡ Some (d, g) → (c ≡ d) × (f ≡ g)
same_found o c d f g e k =
    let joined = sym e ∙ k in
    let first : Some c ≡ Some d = ap (option_map (λ (p : Text × List Given). p.0)) joined in
    let second : Some f ≡ Some g = ap (option_map (λ (p : Text × List Given). p.1)) joined in
    (some_is c d first, some_is f g second)

-- what a getter's command and rows ask for
pub by_matches : (words : List Text) (a : Asked) (m : Meets words a) (command : Text) (found : List Given) → subcommand_of the_app words ≡ Some (command, found) → AsksBy command found a
by_matches words a m command found is =
    let same = same_found _ m.command command m.found found m.matches is in
    subst (λ f. AsksBy command f a) same.1 (subst (λ c. AsksBy c m.found a) same.0 m.by)

pub asks_of_read : (words : List Text) (r : Read words) (command : Text) (found : List Given) → subcommand_of the_app words ≡ Some (command, found) → (a : Asked) → AsksBy command found a → Asks words a
asks_of_read words r command found is a h =
    let same = same_found _ command r.row.name found r.found is r.matches in
    asks_from r.row words r.found r.at r.said a (subst (λ f. AsksBy r.row.name f a) same.1 (subst (λ c. AsksBy c found a) same.0 h))

pub words_ask_once : (words : List Text) (a b : Asked) → Asks words a → Asks words b → a ≡ b
words_ask_once words a b h k =
    let m = meets words a h in
    let n = meets words b k in
    asks_by_once m.command m.found a b m.by (by_matches words b n m.command m.found m.matches)
