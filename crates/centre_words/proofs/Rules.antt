-- The rules that `clap` makes of a row's items, and how they are found: by place, by an option's name, by id.
use Rattle.std.proofs.Common.{◌≡◌, ◌∙◌, ◌+◌, ◌<◌, ◌||◌, ℕ, Bool, true, false, cond, ap, refl, List, [], ◌∷◌, Option, Some, None, map, length, min, eq-eqb, ne_eqb, arith}
use Rattle.std.proofs.Math.Nat.{min-eq_left}
use Rattle.std.specs.List.{list_any}
use Rattle.std.specs.Str.{bytes_eq}
use Rattle.std.proofs.lemmas.Slice.Eq.{bytes_eq-Decides}
use Rattle.clap.specs.Lexer.{usize_max}
use Rattle.clap.specs.Walk.{Rule, Text, arg_by_id, arg_by_index, arg_by_long}
use Rattle.clap.specs.Simple.{filled_from, new_rule}
use Rattle.clap.specs.declared.builder.action.ArgAction.TheVariants.{Set}
use Rattle.clap.specs.declared.builder.value_parser.ValueParser.TheVariants as vp
use Rattle.centre_words.specs.Commands.{item_rule}
use Rattle.centre_words.specs.Table.{Item, file, count, choice}

-- an item, as `clap` tells them apart
pub data Part : Type 0 where
  place : (id : Text) → Part
  option : (id : Text) → Part

abbrev pub part_of : Item → Part
part_of (file id) = place id
part_of (count number) = place number.name
part_of (choice number) = option number.name

abbrev pub places : List Part → List Text
places [] = []
places (place id ∷ parts) = id ∷ places parts
places (option id ∷ parts) = places parts

abbrev pub options : List Part → List Text
options [] = []
options (place id ∷ parts) = options parts
options (option id ∷ parts) = id ∷ options parts

abbrev pub has : Text → List Text → Bool
has id ids = list_any (λ k. bytes_eq k id) ids

-- a rule of one value
abbrev pub ours : Text → Option Text → Option ℕ → Rule
ours id long index = record (new_rule id) {
  long = long;
  index = index;
  action = Some Set;
  range = Some (record { start_inclusive = 1; end_inclusive = 1 });
  parser = Some vp.String;
}

abbrev pub next : ℕ → ℕ
next i = min (i + 1) usize_max

abbrev pub rules_from : ℕ → List Part → List Rule
rules_from i [] = []
rules_from i (place id ∷ parts) = ours id None (Some i) ∷ rules_from (next i) parts
rules_from i (option id ∷ parts) = ours id (Some id) None ∷ rules_from i parts

pub filled_is : (i : ℕ) (items : List Item) → filled_from i (map item_rule items) ≡ rules_from i (map part_of items)
filled_is i [] = refl
filled_is i (file id ∷ items) = ap (λ rs. ours id None (Some i) ∷ rs) (filled_is (next i) items)
filled_is i (count number ∷ items) = ap (λ rs. ours number.name None (Some i) ∷ rs) (filled_is (next i) items)
filled_is i (choice number ∷ items) = ap (λ rs. ours number.name (Some number.name) None ∷ rs) (filled_is i items)

-- a rule has the id
abbrev pub Known : List Rule → Text → Type 0
Known rs id = (long : Option Text) × (index : Option ℕ) × (arg_by_id rs id ≡ Some (ours id long index))

known_here : (id : Text) (long : Option Text) (index : Option ℕ) (rs : List Rule) → Known (ours id long index ∷ rs) id
known_here id long index rs = (long, index, ap (λ b. cond b (Some (ours id long index)) (arg_by_id rs id)) ((bytes_eq-Decides id id).1 refl))

known_more : (k : Text) (long : Option Text) (index : Option ℕ) (rs : List Rule) (id : Text) → Known rs id → Known (ours k long index ∷ rs) id
known_more k long index rs id known = go (bytes_eq k id) refl
  where
    go : (b : Bool) → bytes_eq k id ≡ b → (l : Option Text) × (i : Option ℕ) × (cond b (Some (ours k long index)) (arg_by_id rs id) ≡ Some (ours id l i))
    go true is = (long, index, ap (λ t. Some (ours t long index)) ((bytes_eq-Decides k id).0 is))
    go false is = known

-- the rules of these places are found from place i on, and no more
abbrev pub At : List Rule → ℕ → List Text → Type 0
At rs i [] = arg_by_index rs i ≡ None
At rs i (id ∷ ids) = (arg_by_index rs i ≡ Some (ours id None (Some i))) × Known rs id × At rs (next i) ids

next_is : (i : ℕ) → i < 100 → next i ≡ i + 1
next_is i small = min-eq_left (omega arith)

skip_place : (rs : List Rule) (k : Text) (i j : ℕ) (ids : List Text) → i < j → j + length ids < 100 → At rs j ids → At (ours k None (Some i) ∷ rs) j ids
skip_place rs k i j [] lt small at = ap (λ b. cond b (Some (ours k None (Some i))) (arg_by_index rs j)) (ne_eqb i j (omega arith)) ∙ at
skip_place rs k i j (id ∷ ids) lt small at =
    let e = next_is j (omega arith) in (
      ap (λ b. cond b (Some (ours k None (Some i))) (arg_by_index rs j)) (ne_eqb i j (omega arith)) ∙ at.0,
      known_more k None (Some i) rs id at.1,
      skip_place rs k i (next j) ids (omega (arith, e)) (omega (arith, e)) at.2,
    )

skip_option : (rs : List Rule) (k : Text) (j : ℕ) (ids : List Text) → At rs j ids → At (ours k (Some k) None ∷ rs) j ids
skip_option rs k j [] at = at
skip_option rs k j (id ∷ ids) at = (at.0, known_more k (Some k) None rs id at.1, skip_option rs k (next j) ids at.2)

pub at_all : (i : ℕ) (parts : List Part) → i + length (places parts) < 100 → At (rules_from i parts) i (places parts)
at_all i [] small = refl
at_all i (place id ∷ parts) small =
    let e = next_is i (omega arith) in (
      ap (λ b. cond b (Some (ours id None (Some i))) (arg_by_index (rules_from (next i) parts) i)) (eq-eqb i i refl),
      known_here id None (Some i) (rules_from (next i) parts),
      skip_place (rules_from (next i) parts) id i (next i) (places parts) (omega (arith, e)) (omega (arith, e)) (at_all (next i) parts (omega (arith, e))),
    )
at_all i (option id ∷ parts) small = skip_option (rules_from i parts) id i (places parts) (at_all i parts small)

pub by_long : (i : ℕ) (parts : List Part) (name : Text) → arg_by_long (rules_from i parts) name ≡ cond (has name (options parts)) (Some (ours name (Some name) None)) None
by_long i [] name = refl
by_long i (place id ∷ parts) name = by_long (next i) parts name
by_long i (option id ∷ parts) name = go (bytes_eq id name) refl (by_long i parts name)
  where
    go : (b : Bool) → bytes_eq id name ≡ b → arg_by_long (rules_from i parts) name ≡ cond (has name (options parts)) (Some (ours name (Some name) None)) None
        → cond (b || false) (Some (ours id (Some id) None)) (arg_by_long (rules_from i parts) name) ≡ cond (b || has name (options parts)) (Some (ours name (Some name) None)) None
    go true is more = ap (λ t. Some (ours t (Some t) None)) ((bytes_eq-Decides id name).0 is)
    go false is more = more

pub known_option : (i : ℕ) (parts : List Part) (name : Text) → has name (options parts) ≡ true → Known (rules_from i parts) name
known_option i [] name is = cc
known_option i (place id ∷ parts) name is = known_more id None (Some i) (rules_from (next i) parts) name (known_option (next i) parts name is)
known_option i (option id ∷ parts) name is = go (bytes_eq id name) refl is (known_option i parts name)
  where
    go : (b : Bool) → bytes_eq id name ≡ b → (b || has name (options parts)) ≡ true → (has name (options parts) ≡ true → Known (rules_from i parts) name)
        → Known (ours id (Some id) None ∷ rules_from i parts) name
    go true same h more = (Some name, None, ap (λ b. cond b (Some (ours id (Some id) None)) (arg_by_id (rules_from i parts) name)) same ∙ ap (λ t. Some (ours t (Some t) None)) ((bytes_eq-Decides id name).0 same))
    go false same h more = known_more id (Some id) None (rules_from i parts) name (more h)
