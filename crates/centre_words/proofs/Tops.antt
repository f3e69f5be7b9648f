-- What `clap` makes of whole words: the first names a row, and the rest is read by that row's rules.
use Rattle.std.proofs.Common.{◌≡◌, ◌∙◌, ◌&&◌, ◌||◌, ◌++◌, ℕ, Bool, true, false, not, cond, sym, ap, ap₂, refl, List, [], ◌∷◌, Option, Some, None, map, option_map, find, append_assoc, append-nil, ne_eqb, inl, inr}
use Rattle.std.specs.List.{fold, list_all, list_any}
use Rattle.std.specs.Str.{bytes_eq}
use Rattle.std.proofs.lemmas.Slice.Eq.{bytes_eq-Decides}
use Rattle.clap.specs.declared.error.kind.ErrorKind.TheVariants.{MissingRequiredArgument, OutOfMemory}
use Rattle.clap.specs.declared.error.Error.{Error}
use Rattle.clap.specs.Values.{kind_of}
use Rattle.clap.specs.Kinds.{HasKind, Kinds, or_else}
use Rattle.clap.proofs.WalkLemmas.{both, find-map}
use Rattle.clap.specs.Faults.{built_fault, default_fault, defaults_fault, fault_of, is_simple_and_free, level_fault, settle_fault, turn_fault, walk_fault}
use Rattle.clap.specs.Takes.{is_given}
use Rattle.clap.specs.Walk.{Names, Row as Given, Rule, Text, Walk, answers_to, has_row, idle, nothing_held, rows_after, stop_after, walk_from, walked, with_default}
use Rattle.clap.specs.Simple.{Shape, built, built_leaf, entered, inherited, is_simple, label_of, marked_built, subcommand_of, with_leaf_noted}
use Rattle.clap.proofs.FaultLemmas.{stopped_fault}
use Rattle.clap.proofs.OnLiterals.{clap_on_literals}
use Rattle.centre_words.specs.Commands.{app_of_row, the_app}
use Rattle.centre_words.specs.Table.{Row, table}
use Rattle.centre_words.specs.PlainWords.{is_word}
use Rattle.centre_words.proofs.Pieces.{View, long, plain, view}
use Rattle.centre_words.proofs.Rules.{Part, filled_is, next, option, ours, part_of, place, rules_from}
use Rattle.centre_words.proofs.Steps.{between, leaf, or_else_nil}
use Rattle.centre_words.proofs.Walks.{both_nil, run_fault, run_rows}

pub simple : is_simple the_app ≡ true
unfolding clap_on_literals
simple = refl

pub simple_and_free : is_simple_and_free the_app ≡ true
unfolding clap_on_literals
simple_and_free = refl

-- an error that has none of the kinds is want of memory
pub only_memory : (e : Error) → HasKind [] e → kind_of e ≡ OutOfMemory
only_memory e (inl memory) = memory
only_memory e (inr none) = absurd none

abbrev pub parts_of : Row → List Part
parts_of row = map part_of row.items

abbrev pub row_at : Text → List Row → Option Row
row_at word rows = find (λ r. answers_to word (r.name, [])) rows

-- ---- a row

-- the rules have no defaults and none is required
same : (b : Bool) (rows : List Given) → cond b rows rows ≡ rows
same true rows = refl
same false rows = refl

no_defaults : (rows : List Given) (i : ℕ) (parts : List Part) → fold with_default rows (rules_from i parts) ≡ rows
no_defaults rows i [] = refl
no_defaults rows i (place id ∷ parts) = ap (λ r. fold with_default r (rules_from (next i) parts)) (same (has_row id rows) rows) ∙ no_defaults rows (next i) parts
no_defaults rows i (option id ∷ parts) = ap (λ r. fold with_default r (rules_from i parts)) (same (has_row id rows) rows) ∙ no_defaults rows i parts

no_rule_fails : (rows : List Given) (i : ℕ) (parts : List Part) → list_any (λ (a : Rule). a.required && not (is_given a.id rows)) (rules_from i parts) ≡ false
no_rule_fails rows i [] = refl
no_rule_fails rows i (place id ∷ parts) = no_rule_fails rows (next i) parts
no_rule_fails rows i (option id ∷ parts) = no_rule_fails rows i parts

default_fits : (rows : List Given) (id : Text) (l : Option Text) (i : Option ℕ) → default_fault rows (ours id l i) ≡ []
default_fits rows id l i = go (has_row id rows)
  where
    go : (b : Bool) → cond {A = Kinds} (b || true) [] [] ≡ []
    go true = refl
    go false = refl

defaults_fit : (rows : List Given) (i : ℕ) (parts : List Part) → defaults_fault rows (rules_from i parts) ≡ []
unfolding clap_on_literals
defaults_fit rows i [] = refl
defaults_fit rows i (place id ∷ parts) =
    ap₂ or_else (default_fits rows id None (Some i)) (ap (λ r. defaults_fault r (rules_from (next i) parts)) (no_defaults rows i (place id ∷ [])) ∙ defaults_fit rows (next i) parts)
defaults_fit rows i (option id ∷ parts) =
    ap₂ or_else (default_fits rows id (Some id) None) (ap (λ r. defaults_fault r (rules_from i parts)) (no_defaults rows i (option id ∷ [])) ∙ defaults_fit rows i parts)

module _ (title : Text) (parts : List Part) (words : List Text) where
  abbrev s : Shape
  s = leaf title (rules_from 1 parts)

  pub level_is : level_fault s [] nothing_held words false [] ≡ run_fault s (between [] None 1 idle) words
  level_is =
      let w = between [] None 1 idle in
      let sf = settle_fault (rules_from 1 parts) false (fold (walked (rules_from 1 parts) []) w words).held in
      let checks = ap₂ or_else (defaults_fit (run_rows s w words) 1 parts) (ap (λ b. cond b (MissingRequiredArgument ∷ []) []) (no_rule_fails (rows_after (rules_from 1 parts) [] words) 1 parts)) in
      ap (λ k. or_else (walk_fault s [] w words) (or_else sf k)) checks ∙ ap (or_else (walk_fault s [] w words)) (or_else_nil sf)

  pub rows_are : rows_after (rules_from 1 parts) [] words ≡ run_rows s (between [] None 1 idle) words
  rows_are = no_defaults _ 1 parts

-- a row as it stands in the built command
abbrev pub shape_of_row : Row → Shape
shape_of_row row = built_leaf (inherited (with_leaf_noted (marked_built the_app.top)) (app_of_row row).top)

pub shape_is : (row : Row) → shape_of_row row ≡ leaf row.name (rules_from 1 (parts_of row))
shape_is row = ap (leaf row.name) (filled_is 1 row.items)

module _ (word : Text) (o : Option Row) (at : row_at word table ≡ o) where
  shape_at : find (λ s. answers_to word (label_of s)) (map shape_of_row table) ≡ option_map shape_of_row o
  shape_at = sym (find-map (λ s. answers_to word (label_of s)) shape_of_row table) ∙ ap (option_map shape_of_row) at

  label_at : find (answers_to word) (map label_of (map shape_of_row table)) ≡ option_map label_of (option_map shape_of_row o)
  label_at = sym (find-map (answers_to word) label_of (map shape_of_row table)) ∙ ap (option_map label_of) shape_at

-- ---- the words above

abbrev top : Shape
top = (built the_app).top

-- the walk once it has met a command
abbrev stopped : Text → List Text → Walk
stopped command words = record { held = nothing_held; waiting = idle; position = 1; is_trailing = false; stopped = Some (command, words) }

stays : (names : Names) (command : Text) (so_far words : List Text) → fold (walked [] names) (stopped command so_far) words ≡ stopped command (so_far ++ words)
unfolding clap_on_literals
stays names command so_far [] = ap (stopped command) (sym (append-nil so_far))
stays names command so_far (word ∷ words) = stays names command (so_far ++ word ∷ []) words ∙ ap (stopped command) (append_assoc so_far (word ∷ []) words)

and_false : (b : Bool) → (b && false) ≡ false
and_false true = refl
and_false false = refl

module _ (subs : List Shape) where
  named_fault : (word name : Text) (words : List Text) (shape : Shape) → find (answers_to word) (map label_of subs) ≡ Some (name, []) → find (λ s. answers_to name (label_of s)) subs ≡ Some shape
      → built_fault (record { top = top; subs = subs }) nothing_held (word ∷ words) ≡ level_fault shape [] nothing_held words false []
  unfolding clap_on_literals
  named_fault word name words shape met found =
      let st = stays (map label_of subs) name [] words in
      let sf = stopped_fault top (map label_of subs) (walk_from nothing_held) (name, []) words in
      simp (met, st, sf, found, and_false) (or_else_nil _)

  named_rows : (word name : Text) (words : List Text) (shape : Shape) → find (answers_to word) (map label_of subs) ≡ Some (name, []) → find (λ s. answers_to name (label_of s)) subs ≡ Some shape
      → entered (record { top = top; subs = subs }) (stop_after [] (map label_of subs) (word ∷ words)) ≡ Some (shape.name, rows_after shape.rules [] words)
  unfolding clap_on_literals
  named_rows word name words shape met found =
      let first : walked [] (map label_of subs) (walk_from nothing_held) word ≡ stopped name [] = simp met in
      ap (λ (w : Walk). entered (record { top = top; subs = subs }) w.stopped) (ap (λ w. fold (walked [] (map label_of subs)) w words) first ∙ stays (map label_of subs) name [] words)
      ∙ ap (option_map (λ (s : Shape). (s.name, rows_after s.rules [] words))) found

  no_command : (word : Text) → View word → find (answers_to word) (map label_of subs) ≡ None → turn_fault top (map label_of subs) (walk_from nothing_held) word ≡ [] → ⊥
  unfolding clap_on_literals
  no_command word (plain [] no_word) none e = absurd no_word
  no_command word (plain (x ∷ xs) is) none e = let other = ne_eqb x 45 is in let h = simp (other, none) at e in cc
  no_command word (long c cs bare) none e = let h = simp none at e in cc

  unnamed_fault : (word : Text) (words : List Text) → built_fault (record { top = top; subs = subs }) nothing_held (word ∷ words) ≡ [] → turn_fault top (map label_of subs) (walk_from nothing_held) word ≡ []
  unfolding clap_on_literals
  unnamed_fault word words e = (both_nil (turn_fault top (map label_of subs) (walk_from nothing_held) word) _ (both_nil _ _ e).0).0

-- ---- the two together

row_named : (word : Text) (rows : List Row) (row : Row) → row_at word rows ≡ Some row → row.name ≡ word
row_named word [] row e = cc
row_named word (r ∷ rows) row e = go (bytes_eq r.name word) refl e (row_named word rows row)
  where
    go : (b : Bool) → bytes_eq r.name word ≡ b → cond (b || false) (Some r) (row_at word rows) ≡ Some row → (row_at word rows ≡ Some row → row.name ≡ word) → row.name ≡ word
    go true is f more = let same : r ≡ row = cc f in ap (λ (q : Row). q.name) (sym same) ∙ (bytes_eq-Decides r.name word).0 is
    go false is f more = more f

-- words that `clap` reads begin with the name of a row
pub record Named (words : List Text) : Type 0 where
  pub row : Row
  pub rest : List Text
  pub at : row_at row.name table ≡ Some row
  pub is : words ≡ row.name ∷ rest

no_words : fault_of the_app [] ≡ [] → ⊥
unfolding clap_on_literals
no_words e = cc

pub named : (words : List Text) → list_all is_word words ≡ true → fault_of the_app words ≡ [] → Named words
named [] all e = absurd (no_words e)
named (word ∷ words) all e = go (row_at word table) refl
  where
    go : (o : Option Row) → row_at word table ≡ o → Named (word ∷ words)
    go None none =
        absurd (no_command (map shape_of_row table) word (view word (both (is_word word) _ all).0) (label_at word None none)
        (unnamed_fault (map shape_of_row table) word words e))
    go (Some row) found =
        let same = row_named word table row found in
        record { row = row; rest = words; at = ap (λ w. row_at w table) same ∙ found; is = ap (λ w. w ∷ words) (sym same) }

module _ (row : Row) (words : List Text) (at : row_at row.name table ≡ Some row) where
  pub row_fault : fault_of the_app (row.name ∷ words) ≡ run_fault (leaf row.name (rules_from 1 (parts_of row))) (between [] None 1 idle) words
  row_fault =
      named_fault (map shape_of_row table) row.name row.name words (leaf row.name (rules_from 1 (parts_of row))) (label_at row.name (Some row) at)
      (shape_at row.name (Some row) at ∙ ap Some (shape_is row)) ∙ level_is row.name (parts_of row) words

  pub row_rows : subcommand_of the_app (row.name ∷ words) ≡ Some (row.name, run_rows (leaf row.name (rules_from 1 (parts_of row))) (between [] None 1 idle) words)
  row_rows =
      named_rows (map shape_of_row table) row.name row.name words (leaf row.name (rules_from 1 (parts_of row))) (label_at row.name (Some row) at)
      (shape_at row.name (Some row) at ∙ ap Some (shape_is row)) ∙ ap (λ rows. Some (row.name, rows)) (rows_are row.name (parts_of row) words)
