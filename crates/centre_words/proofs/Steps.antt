-- What one word makes of `clap`'s walk over the words behind a command, and what is wrong with it.
use Rattle.std.proofs.Common.{◌≡◌, ◌∙◌, ◌&&◌, ◌||◌, ◌++◌, ◌==◌, ℕ, Bool, true, false, not, cond, suc, ◌+◌, arith, ap, refl, List, [], ◌∷◌, Option, Some, None, length, append-nil, ne_eqb}
use Rattle.std.proofs.lemmas.List.{take_all}
use Rattle.std.specs.List.{position_or_len, before_first}
use Rattle.std.specs.Option.{option_map_or}
use Rattle.std.specs.Str.{bytes_eq}
use Rattle.std.proofs.lemmas.Slice.Eq.{bytes_eq-Decides}
use Rattle.clap.specs.Lexer.{has_byte}
use Rattle.clap.specs.Kinds.{Kinds, or_else}
use Rattle.clap.specs.Faults.{settle_fault, turn_fault, use_fault}
use Rattle.clap.specs.Walk.{Held, Row, Rule, Text, Waiting, Walk, arg_by_index, arg_by_long, at_row, has_row, idle, more_values, option, positional, settled_rows, walked, with_values, without}
use Rattle.clap.specs.Simple.{Shape, built_leaf, inherited, marked_built, with_leaf_noted}
use Rattle.clap.specs.Values.{reading_of}
use Rattle.clap.specs.declared.builder.value_parser.ValueParser.TheVariants as vp
use Rattle.clap.specs.declared.error.kind.ErrorKind.TheVariants.{ArgumentConflict, InvalidValue, UnknownArgument}
use Rattle.clap.specs.declared.parser.matches.ValueSource.TheVariants.{CommandLine}
use Rattle.clap.proofs.OnLiterals.{clap_on_literals}
use Rattle.centre_words.specs.Commands.{bare, the_app}
use Rattle.centre_words.specs.Words.{IsPlain}
use Rattle.centre_words.proofs.Rules.{Known, next, ours}

-- a command as it stands in the built one, with these rules
abbrev pub leaf : Text → List Rule → Shape
leaf title rs = record (built_leaf (inherited (with_leaf_noted (marked_built the_app.top)) (bare title).top)) { rules = rs }

abbrev pub held : List Row → Option (Text × List Text) → Held
held rows pending = record { rows = rows; pending = pending; skip = 0 }

-- the walk between two words
abbrev pub between : List Row → Option (Text × List Text) → ℕ → Waiting → Walk
between rows pending place waiting = record {
  held = held rows pending;
  waiting = waiting;
  position = place;
  is_trailing = false;
  stopped = None;
}

abbrev pub row : Text → Text → Row
row id value = record {
  id = id;
  values = value ∷ [];
  count = None;
  source = Some CommandLine;
  reading = reading_of vp.String;
}

and_false : (b : Bool) → (b && false) ≡ false
and_false true = refl
and_false false = refl

pub or_else_nil : (a : Kinds) → or_else a [] ≡ a
or_else_nil [] = refl
or_else_nil (k ∷ ks) = refl

whole : (bs : List ℕ) → has_byte 61 bs ≡ false → position_or_len (λ b. b == 61) bs ≡ length bs
whole [] none = refl
whole (b ∷ bs) none = go (b == 61) none (whole bs)
  where
    go : (t : Bool) → (t || has_byte 61 bs) ≡ false → (has_byte 61 bs ≡ false → position_or_len (λ b. b == 61) bs ≡ length bs)
        → cond (not t) (1 + position_or_len (λ b. b == 61) bs) 0 ≡ suc (length bs)
    go true h more = cc
    go false h more = let e = more h in omega (arith, e)

pub whole_name : (bs : List ℕ) → has_byte 61 bs ≡ false → before_first (λ b. b == 61) bs ≡ bs
whole_name bs none = take_all (position_or_len (λ b. b == 61) bs) bs (let e = whole bs none in omega (arith, e))

-- what a word makes of the walk
pub record Turn (s : Shape) (w : Walk) (word : Text) (fault : Kinds) (then : Walk) : Type 0 where
  pub fault_is : turn_fault s [] w word ≡ fault
  pub walks : walked s.rules [] w word ≡ then

module _ (title : Text) (rs : List Rule) (rows : List Row) (place : ℕ) where
  pub name_turn : (pending : Option (Text × List Text)) (word id : Text) → IsPlain word → arg_by_index rs place ≡ Some (ours id None (Some place))
      → Turn (leaf title rs) (between rows pending place idle) word (settle_fault rs false (held rows pending)) (between (settled_rows rs pending rows) (Some (id, word ∷ [])) (next place) idle)
  unfolding clap_on_literals
  name_turn pending [] id no_word at = absurd no_word
  name_turn pending (x ∷ xs) id is at = let other = ne_eqb x 45 is in record { fault_is = simp (other, at, and_false); walks = simp (other, at, and_false) }

  pub stray_turn : (pending : Option (Text × List Text)) (word : Text) → IsPlain word → arg_by_index rs place ≡ None → turn_fault (leaf title rs) [] (between rows pending place idle) word ≡ UnknownArgument ∷ []
  unfolding clap_on_literals
  stray_turn pending [] no_word at = absurd no_word
  stray_turn pending (x ∷ xs) is at = let other = ne_eqb x 45 is in simp (other, at)

  pub option_turn : (pending : Option (Text × List Text)) (waiting : Waiting) (c : ℕ) (cs : Text) → has_byte 61 (c ∷ cs) ≡ false
      → arg_by_long rs (c ∷ cs) ≡ Some (ours (c ∷ cs) (Some (c ∷ cs)) None)
      → Turn (leaf title rs) (between rows pending place waiting) (45 ∷ 45 ∷ c ∷ cs) (settle_fault rs false (held rows pending))
      (between (settled_rows rs pending rows) (Some (c ∷ cs, [])) place (option (c ∷ cs)))
  unfolding clap_on_literals
  option_turn pending idle c cs none at = let w = whole_name (c ∷ cs) none in record { fault_is = simp (none, w, at) (or_else_nil _); walks = simp (none, w, at) }
  option_turn pending (option id) c cs none at = let w = whole_name (c ∷ cs) none in record { fault_is = simp (none, w, at) (or_else_nil _); walks = simp (none, w, at) }
  option_turn pending positional c cs none at = let w = whole_name (c ∷ cs) none in record { fault_is = simp (none, w, at) (or_else_nil _); walks = simp (none, w, at) }

  pub unknown_turn : (pending : Option (Text × List Text)) (waiting : Waiting) (c : ℕ) (cs : Text) → has_byte 61 (c ∷ cs) ≡ false → arg_by_long rs (c ∷ cs) ≡ None
      → turn_fault (leaf title rs) [] (between rows pending place waiting) (45 ∷ 45 ∷ c ∷ cs) ≡ UnknownArgument ∷ []
  unfolding clap_on_literals
  unknown_turn pending idle c cs none at = let w = whole_name (c ∷ cs) none in simp (none, w, at)
  unknown_turn pending (option id) c cs none at = let w = whole_name (c ∷ cs) none in simp (none, w, at)
  unknown_turn pending positional c cs none at = let w = whole_name (c ∷ cs) none in simp (none, w, at)

  pub value_turn : (word id : Text) → IsPlain word → Known rs id → Turn (leaf title rs) (between rows (Some (id, [])) place (option id)) word [] (between rows (Some (id, word ∷ [])) place idle)
  unfolding clap_on_literals
  value_turn [] id no_word known = absurd no_word
  value_turn (x ∷ xs) id is known =
      let other = ne_eqb x 45 is in
      let at = known.2 in
      let same = (bytes_eq-Decides id id).1 refl in
      record { fault_is = simp other; walks = simp (other, at, same) }

module _ (rs : List Rule) (rows : List Row) (id : Text) (known : Known rs id) where
  pub empty_fault : settle_fault rs false (held rows (Some (id, []))) ≡ InvalidValue ∷ []
  empty_fault = let at = known.2 in simp at

  pub use_fault_is : (value : Text) → settle_fault rs false (held rows (Some (id, value ∷ []))) ≡ cond (has_row id rows) (ArgumentConflict ∷ []) []
  use_fault_is value = ap (λ o. option_map_or (λ (a : Rule). use_fault false a (value ∷ []) rows) o []) known.2 ∙ go (has_row id rows)
    where
      go : (b : Bool) → or_else (cond (b && true) (ArgumentConflict ∷ []) []) [] ≡ cond b (ArgumentConflict ∷ []) []
      go true = refl
      go false = refl

  -- a row under an id that isn't there yet comes last
  at_end : (change : Row → List Row) (missing rows : List Row) → has_row id rows ≡ false → at_row id change missing rows ≡ rows ++ missing
  at_end change missing [] none = refl
  at_end change missing (r ∷ rows) none = go (bytes_eq r.id id) none (at_end change missing rows)
    where
      go : (b : Bool) → (b || has_row id rows) ≡ false → (has_row id rows ≡ false → at_row id change missing rows ≡ rows ++ missing)
          → cond b (change r ++ rows) (r ∷ at_row id change missing rows) ≡ r ∷ (rows ++ missing)
      go true none more = cc
      go false none more = ap (λ rs. r ∷ rs) (more none)

  pub settles : (value : Text) → has_row id rows ≡ false → settled_rows rs (Some (id, value ∷ [])) rows ≡ rows ++ row id value ∷ []
  settles value none =
      let at = known.2 in
      let used : settled_rows rs (Some (id, value ∷ [])) rows ≡ with_values id (reading_of vp.String) CommandLine (value ∷ []) (without id rows) = simp at in
      used ∙ ap (with_values id (reading_of vp.String) CommandLine (value ∷ [])) (at_end (λ r. []) [] rows none ∙ append-nil rows) ∙ at_end (more_values CommandLine (value ∷ [])) (row id value ∷ []) rows none
