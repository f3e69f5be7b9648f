-- What `clap` makes of the words behind a command: it takes exactly those that are pieces, and its rows are the pieces, as they came.
use Rattle.std.proofs.Common.{◌≡◌, ◌∙◌, ◌++◌, Bool, true, false, cond, sym, ap, ap₂, refl, subst, List, [], ◌∷◌, Option, Some, None, append_assoc, append-nil, ℕ}
use Rattle.std.specs.List.{fold, list_all}
use Rattle.clap.specs.Kinds.{Kinds, or_else}
use Rattle.clap.specs.Faults.{settle_fault, turn_fault, walk_fault}
use Rattle.clap.specs.Walk.{Row, Rule, Text, Walk, arg_by_long, has_row, idle, option, settled_rows, walked}
use Rattle.clap.specs.Simple.{Shape}
use Rattle.clap.specs.declared.error.kind.ErrorKind.TheVariants.{ArgumentConflict}
use Rattle.clap.proofs.WalkLemmas.{both}
use Rattle.clap.proofs.OnLiterals.{clap_on_literals}
use Rattle.centre_words.specs.PlainWords.{is_word}
use Rattle.centre_words.specs.Words.{Piece, dashed, name, given, spelling}
use Rattle.centre_words.proofs.Pieces.{Few, Fits, View, few_more, fresh, long, no_equals, plain, rows_for, view}
use Rattle.centre_words.proofs.Rules.{At, Known, Part, by_long, has, known_option, next, options, ours, rules_from}
use Rattle.centre_words.proofs.Steps.{Turn, between, empty_fault, held, leaf, name_turn, option_turn, row, settles, stray_turn, unknown_turn, use_fault_is, value_turn}

pub both_nil : (a b : Kinds) → or_else a b ≡ [] → (a ≡ []) × (b ≡ [])
both_nil [] b e = (refl, e)
both_nil (k ∷ ks) b e = cc

or_else_assoc : (a b c : Kinds) → or_else (or_else a b) c ≡ or_else a (or_else b c)
or_else_assoc [] b c = refl
or_else_assoc (k ∷ ks) b c = refl

-- what is wrong with the words, and the rows at their end
abbrev pub run_fault : Shape → Walk → List Text → Kinds
run_fault s w words = or_else (walk_fault s [] w words) (settle_fault s.rules false (fold (walked s.rules []) w words).held)

abbrev pub run_rows : Shape → Walk → List Text → List Row
run_rows s w words = settled_rows s.rules (fold (walked s.rules []) w words).held.pending (fold (walked s.rules []) w words).held.rows

no_words : (s : Shape) (w : Walk) → run_fault s w [] ≡ settle_fault s.rules false w.held
unfolding clap_on_literals
no_words s w = refl

first_turn : (s : Shape) (w : Walk) (word : Text) (words : List Text)
    → run_fault s w (word ∷ words) ≡ or_else (turn_fault s [] w word) (run_fault s (walked s.rules [] w word) words)
unfolding clap_on_literals
first_turn s w word words = or_else_assoc (turn_fault s [] w word) _ _

run_on : (s : Shape) (w then : Walk) (word : Text) (words : List Text) (fault : Kinds) → Turn s w word fault then → run_fault s w (word ∷ words) ≡ or_else fault (run_fault s then words)
run_on s w then word words fault t = first_turn s w word words ∙ ap₂ (λ f v. or_else f (run_fault s v words)) t.fault_is t.walks

rows_on : (s : Shape) (w then : Walk) (word : Text) (words : List Text) (fault : Kinds) → Turn s w word fault then → run_rows s w (word ∷ words) ≡ run_rows s then words
rows_on s w then word words fault t = ap (λ v. run_rows s v words) t.walks

-- a word that is out of place is a fault of all
out_of_place : (s : Shape) (w : Walk) (word : Text) (words : List Text) (fault : Kinds) → turn_fault s [] w word ≡ fault → run_fault s w (word ∷ words) ≡ [] → fault ≡ []
out_of_place s w word words fault is e = sym is ∙ (both_nil (turn_fault s [] w word) _ (sym (first_turn s w word words) ∙ e)).0

not_there : (b : Bool) → cond b (ArgumentConflict ∷ []) [] ≡ [] → b ≡ false
not_there true e = cc
not_there false e = refl

-- the words are pieces that fit, and these are their rows
pub record Found (parts : List Part) (ids : List Text) (before result : List Row) (words : List Text) : Type 0 where
  pub pieces : List Piece
  pub spelled : words ≡ spelling pieces
  pub fits : Fits (options parts) ids pieces
  pub rows_are : result ≡ before ++ rows_for ids pieces
  pub few : Few (before ++ rows_for ids pieces)

module _ (title : Text) (parts : List Part) where
  abbrev rs : List Rule
  rs = rules_from 1 parts

  abbrev s : Shape
  s = leaf title (rules_from 1 parts)

  long_is : (o : Text) (b : Bool) → has o (options parts) ≡ b → arg_by_long rs o ≡ cond b (Some (ours o (Some o) None)) None
  long_is o b is = by_long 1 parts o ∙ ap (λ b. cond b (Some (ours o (Some o) None)) None) is

  -- what is pending may be used, and is then one of the rows
  abbrev Settles : List Row → List Row → Option (Text × List Text) → Type 0
  Settles before rows pending = settle_fault rs false (held rows pending) ≡ [] → (settled_rows rs pending rows ≡ before) × Few before

  settles_more : (before rows : List Row) (id value : Text) → rows ≡ before → Few before → Known rs id → Settles (before ++ row id value ∷ []) rows (Some (id, value ∷ []))
  settles_more before rows id value same few known e =
      let none : has_row id rows ≡ false = not_there (has_row id rows) (sym (use_fault_is rs rows id known value) ∙ e) in
      (settles rs rows id known value none ∙ ap (λ r. r ++ row id value ∷ []) same, few_more before id value few (ap (has_row id) (sym same) ∙ none))

  pub record Finds (words : List Text) : Type 0 where
    pub here : (ids : List Text) (before rows : List Row) (pending : Option (Text × List Text)) (place : ℕ) → At rs place ids → Settles before rows pending
        → run_fault s (between rows pending place idle) words ≡ [] → Found parts ids before (run_rows s (between rows pending place idle) words) words
    pub waiting : (ids : List Text) (before rows : List Row) (id : Text) (place : ℕ) → At rs place ids → rows ≡ before → Few before → has id (options parts) ≡ true
        → run_fault s (between rows (Some (id, [])) place (option id)) words ≡ [] → Found parts ids before (run_rows s (between rows (Some (id, [])) place (option id)) words) (dashed id ∷ words)

  with_row : (ids more : List Text) (before result now : List Row) (id value : Text) (words : List Text) (piece : Piece) (f : Found parts ids (before ++ row id value ∷ []) now words) → result ≡ now
      → (all : List Text) → all ≡ spelling (piece ∷ f.pieces) → Fits (options parts) more (piece ∷ f.pieces) → rows_for more (piece ∷ f.pieces) ≡ row id value ∷ rows_for ids f.pieces
      → Found parts more before result all
  with_row ids more before result now id value words piece f same all spelled fits rows_are =
      let joined : (before ++ row id value ∷ []) ++ rows_for ids f.pieces ≡ before ++ rows_for more (piece ∷ f.pieces) =
      append_assoc before (row id value ∷ []) (rows_for ids f.pieces) ∙ ap (λ r. before ++ r) (sym rows_are) in
      record { pieces = piece ∷ f.pieces; spelled = spelled; fits = fits; rows_are = same ∙ f.rows_are ∙ joined; few = subst Few joined f.few }

  found_here : (word : Text) (words : List Text) → View word → Finds words → (ids : List Text) (before rows : List Row) (pending : Option (Text × List Text)) (place : ℕ)
      → At rs place ids → Settles before rows pending → run_fault s (between rows pending place idle) (word ∷ words) ≡ []
      → Found parts ids before (run_rows s (between rows pending place idle) (word ∷ words)) (word ∷ words)
  found_here word words (plain v is) more [] before rows pending place at settled e =
      let none = out_of_place s (between rows pending place idle) v words _ (stray_turn title rs rows place pending v is at) e in
      cc
  found_here word words (plain v is) more (id ∷ ids) before rows pending place at settled e =
      let t = name_turn title rs rows place pending v id is at.0 in
      let b = both_nil _ _ (sym (run_on s _ _ v words _ t) ∙ e) in
      let st = settled b.0 in
      let f = more.here ids (before ++ row id v ∷ []) _ _ (next place) at.2 (settles_more before (settled_rows rs pending rows) id v st.0 st.1 at.1) b.1 in
      with_row ids (id ∷ ids) before _ _ id v words (name v) f (rows_on s _ _ v words _ t) (v ∷ words) (ap (λ ws. v ∷ ws) f.spelled) (is, f.fits) refl
  found_here word words (long c cs none) more ids before rows pending place at settled e = go (has (c ∷ cs) (options parts)) refl
    where
      go : (b : Bool) → has (c ∷ cs) (options parts) ≡ b → Found parts ids before (run_rows s (between rows pending place idle) ((45 ∷ 45 ∷ c ∷ cs) ∷ words)) ((45 ∷ 45 ∷ c ∷ cs) ∷ words)
      go false is =
          let stray = out_of_place s (between rows pending place idle) (45 ∷ 45 ∷ c ∷ cs) words _ (unknown_turn title rs rows place pending idle c cs none (long_is (c ∷ cs) false is)) e in
          cc
      go true is =
          let t = option_turn title rs rows place pending idle c cs none (long_is (c ∷ cs) true is) in
          let b = both_nil _ _ (sym (run_on s _ _ (45 ∷ 45 ∷ c ∷ cs) words _ t) ∙ e) in
          let st = settled b.0 in
          let f = more.waiting ids before _ (c ∷ cs) place at st.0 st.1 is b.1 in
          record { pieces = f.pieces; spelled = f.spelled; fits = f.fits; rows_are = rows_on s _ _ (45 ∷ 45 ∷ c ∷ cs) words _ t ∙ f.rows_are; few = f.few }

  found_value : (word : Text) (words : List Text) → View word → Finds words → (ids : List Text) (before rows : List Row) (id : Text) (place : ℕ) → At rs place ids → rows ≡ before → Few before
      → has id (options parts) ≡ true → run_fault s (between rows (Some (id, [])) place (option id)) (word ∷ words) ≡ []
      → Found parts ids before (run_rows s (between rows (Some (id, [])) place (option id)) (word ∷ words)) (dashed id ∷ word ∷ words)
  found_value word words (plain v p) more ids before rows id place at same few is e =
      let known = known_option 1 parts id is in
      let t = value_turn title rs rows place v id p known in
      let f = more.here ids (before ++ row id v ∷ []) rows _ place at (settles_more before rows id v same few known) (sym (run_on s _ _ v words _ t) ∙ e) in
      with_row ids ids before _ _ id v words (given id v) f (rows_on s _ _ v words _ t) (dashed id ∷ v ∷ words) (ap (λ ws. dashed id ∷ v ∷ ws) f.spelled) (is, p, f.fits) refl
  found_value word words (long c cs none) more ids before rows id place at same few is e = absurd (go (has (c ∷ cs) (options parts)) refl)
    where
      go : (b : Bool) → has (c ∷ cs) (options parts) ≡ b → ⊥
      go false missing =
          let stray = out_of_place s _ (45 ∷ 45 ∷ c ∷ cs) words _ (unknown_turn title rs rows place (Some (id, [])) (option id) c cs none (long_is (c ∷ cs) false missing)) e in
          cc
      go true met =
          let t = option_turn title rs rows place (Some (id, [])) (option id) c cs none (long_is (c ∷ cs) true met) in
          let stray = out_of_place s _ (45 ∷ 45 ∷ c ∷ cs) words _ (t.fault_is ∙ empty_fault rs rows id (known_option 1 parts id is)) e in
          cc

  pub finds : (words : List Text) → list_all is_word words ≡ true → Finds words
  finds [] all = record {
    here = λ ids before rows pending place at settled e.
        let st = settled (sym (no_words s (between rows pending place idle)) ∙ e) in
        record { pieces = []; spelled = refl; fits = tt; rows_are = st.0 ∙ sym (append-nil before); few = subst Few (sym (append-nil before)) st.1 };
    waiting = λ ids before rows id place at same few is e.
        let stray = sym (empty_fault rs rows id (known_option 1 parts id is)) ∙ sym (no_words s (between rows (Some (id, [])) place (option id))) ∙ e in
        cc;
  }
  finds (word ∷ words) all =
      let b = both (is_word word) _ all in
      let more = finds words b.1 in
      record { here = found_here word words (view word b.0) more; waiting = found_value word words (view word b.0) more }

  -- and back

  abbrev Passes : Walk → List Text → List Row → Type 0
  Passes w words rows = (run_fault s w words ≡ []) × (run_rows s w words ≡ rows)

  passes_on : (w then : Walk) (word : Text) (words : List Text) (fault : Kinds) (rows : List Row) → Turn s w word fault then → fault ≡ [] → Passes then words rows → Passes w (word ∷ words) rows
  passes_on w then word words fault rows t may more =
      (run_on s w then word words fault t ∙ ap (λ f. or_else f (run_fault s then words)) may ∙ more.0, rows_on s w then word words fault t ∙ more.1)

  -- one row more is used in its turn
  pub record Uses (before rows : List Row) (id value : Text) (rest : List Row) : Type 0 where
    pub may : settle_fault rs false (held rows (Some (id, value ∷ []))) ≡ []
    pub settled : settled_rows rs (Some (id, value ∷ [])) rows ≡ before ++ row id value ∷ []
    pub few : Few ((before ++ row id value ∷ []) ++ rest)
    pub joined : (before ++ row id value ∷ []) ++ rest ≡ before ++ row id value ∷ rest

  uses : (before rows : List Row) (id value : Text) (rest : List Row) → Known rs id → rows ≡ before → Few (before ++ row id value ∷ rest) → Uses before rows id value rest
  uses before rows id value rest known same few =
      let none : has_row id rows ≡ false = ap (has_row id) same ∙ fresh before id value rest few in
      let joined = append_assoc before (row id value ∷ []) rest in
      record {
        may = use_fault_is rs rows id known value ∙ ap (λ b. cond b (ArgumentConflict ∷ []) []) none;
        settled = settles rs rows id known value none ∙ ap (λ r. r ++ row id value ∷ []) same;
        few = subst Few (sym joined) few;
        joined = joined;
      }

  pub passes : ((o : Text) → has o (options parts) ≡ true → is_word (dashed o) ≡ true) → (pieces : List Piece) (ids : List Text) (before rows : List Row) (pending : Option (Text × List Text)) (place : ℕ)
      → At rs place ids → settle_fault rs false (held rows pending) ≡ [] → settled_rows rs pending rows ≡ before → Fits (options parts) ids pieces → Few (before ++ rows_for ids pieces)
      → Passes (between rows pending place idle) (spelling pieces) (before ++ rows_for ids pieces)
  passes bare [] ids before rows pending place at may settled fits few = (no_words s (between rows pending place idle) ∙ may, settled ∙ sym (append-nil before))
  passes bare (name word ∷ pieces) [] before rows pending place at may settled fits few = absurd fits
  passes bare (name word ∷ pieces) (id ∷ ids) before rows pending place at may settled fits few =
      let u = uses before (settled_rows rs pending rows) id word (rows_for ids pieces) at.1 settled few in
      let m = passes bare pieces ids (before ++ row id word ∷ []) (settled_rows rs pending rows) (Some (id, word ∷ [])) (next place) at.2 u.may u.settled fits.1 u.few in
      passes_on _ _ word (spelling pieces) _ _ (name_turn title rs rows place pending word id fits.0 at.0) may (m.0, m.1 ∙ u.joined)
  passes bare (given [] value ∷ pieces) ids before rows pending place at may settled fits few = let no_option = bare [] fits.0 in cc
  passes bare (given (c ∷ cs) value ∷ pieces) ids before rows pending place at may settled fits few =
      let known = known_option 1 parts (c ∷ cs) fits.0 in
      let u = uses before (settled_rows rs pending rows) (c ∷ cs) value (rows_for ids pieces) known settled few in
      let m = passes bare pieces ids (before ++ row (c ∷ cs) value ∷ []) (settled_rows rs pending rows) (Some (c ∷ cs, value ∷ [])) place at u.may u.settled fits.2 u.few in
      passes_on _ _ (dashed (c ∷ cs)) (value ∷ spelling pieces) _ _
      (option_turn title rs rows place pending idle c cs (no_equals c cs (bare (c ∷ cs) fits.0)) (long_is (c ∷ cs) true fits.0)) may
      (passes_on _ _ value (spelling pieces) _ _ (value_turn title rs (settled_rows rs pending rows) place value (c ∷ cs) fits.1 known) refl (m.0, m.1 ∙ u.joined))
