-- What is written, and what it is read as.
use Rattle.std.proofs.Common.{◌≡◌, ◌∙◌, sym, ap, refl, subst, ℕ, ◌+◌, ◌<◌, ◌≤◌, ◌^◌, min, max, List, [], ◌∷◌, ◌++◌, length, get_or, take, map, false, arith, pos}
use Rattle.std.specs.Prelude.{All, ◌≤ℤ◌}
use Rattle.std.specs.List.{AllZip}
use Rattle.std.proofs.lemmas.Bool.{lt-ltb}
use Rattle.std.proofs.lemmas.Int.{ints}
use Rattle.std.proofs.lemmas.List.{map_more, map-append}
use Rattle.std.proofs.lemmas.List.Elements.{All-head, All-tail, All-more}
use Rattle.serde_json.specs.Data.{Data, number, unsigned, string, depth, items_depth}
use Rattle.serde_json.specs.Written.{has_float, items_have_float}
use Rattle.serde_json.specs.View.{view, items_of}
use Rattle.serde_json.specs.declared.value.Value.{Value}
use Rattle.edge_table.specs.declared.edge.Edge.{Edge}
use Rattle.edge_table.specs.Edges.{edge}
use Rattle.json_value.specs.Values.{IsNumber, Lists}
use Rattle.solution_json.specs.Edges.{NamesEdge, SpellsEdge}
use Rattle.solution_json.specs.Forms.{IsSolution}
use Rattle.solution_json.specs.Texts.{pair_data, round_data, rounds_data, lists_data, object_data, IsEdge}
use Rattle.solution_json.specs.declared.solution.Solution.{Solution}

-- ---- lists of values
depth_of : {X : Type 0} (f : X → Data) (n : ℕ) → ((x : X) → depth (f x) ≤ n) → (xs : List X) → items_depth (items_of (map f xs)) ≤ n
depth_of f n h [] = omega arith
depth_of f n h (x ∷ xs) = omega (arith, h x, depth_of f n h xs)

float_of : {X : Type 0} (f : X → Data) → ((x : X) → has_float (f x) ≡ false) → (xs : List X) → items_have_float (items_of (map f xs)) ≡ false
float_of f h [] = refl
float_of f h (x ∷ xs) = rw (h x) (float_of f h xs)

zip_map : {X : Type 0} (R : Data → X → Type 0) (P : X → Type 0) (f : X → Data) → ((x : X) → P x → R (f x) x) → (xs : List X) → All P xs → AllZip R (map f xs) xs
zip_map R P f h [] all = tt
zip_map R P f h (x ∷ xs) all = (h x (All-head P x xs all), zip_map R P f h xs (All-tail P x xs all))

-- ---- depth and floats
pair_depth : (e : Edge) → depth (pair_data e) ≤ 1
pair_depth e = omega arith

round_depth : (es : List Edge) → depth (round_data es) ≤ 2
round_depth es = omega (arith, depth_of pair_data 1 pair_depth es)

rounds_depth : (rs : List (List Edge)) → depth (rounds_data rs) ≤ 3
rounds_depth rs = omega (arith, depth_of round_data 2 round_depth rs)

pub object_depth : (uid : List ℕ) (lists : List (List (List Edge))) → depth (object_data uid (lists_data lists)) ≤ 127
object_depth uid lists = omega (arith, depth_of rounds_data 3 rounds_depth lists)

pair_float : (e : Edge) → has_float (pair_data e) ≡ false
pair_float e = refl

round_float : (es : List Edge) → has_float (round_data es) ≡ false
round_float es = float_of pair_data pair_float es

rounds_float : (rs : List (List Edge)) → has_float (rounds_data rs) ≡ false
rounds_float rs = float_of round_data round_float rs

pub object_float : (uid : List ℕ) (lists : List (List (List Edge))) → has_float (object_data uid (lists_data lists)) ≡ false
object_float uid lists = rw (float_of rounds_data rounds_float lists) refl

-- ---- what is read
small : (n : ℕ) → n < 4294967296 → IsNumber (number (unsigned n)) (pos n)
small n lt = let below : n < 2 ^ 63 = omega (arith, lt) in rw (lt-ltb n (2 ^ 63) below) refl

names : (a b : ℕ) → a < b → b < 4294967296 → NamesEdge (record { a = pos a; b = pos b })
names a b lt fits =
    let la : pos 0 ≤ℤ pos a = omega (arith, ints) in
    let ha : pos a ≤ℤ pos 4294967295 = omega (arith, ints, lt, fits) in
    let lb : pos 0 ≤ℤ pos b = omega (arith, ints) in
    let hb : pos b ≤ℤ pos 4294967295 = omega (arith, ints, fits) in
    ((la, ha), (lb, hb), λ e. absurd (omega (arith, ints, e, lt)))

spelled : (e : Edge) → IsEdge e → SpellsEdge (pair_data e) e
spelled e is =
    let low : min e.0 e.1 ≡ e.0 = omega (arith, is.0) in
    let high : max e.0 e.1 ≡ e.1 = omega (arith, is.0) in
    let below : e.0 < 4294967296 = omega (arith, is.0, is.1) in
    let same : e ≡ edge e.0 e.1 = rw (low, high) refl in (
      record { a = pos e.0; b = pos e.1 },
      (number (unsigned e.0), number (unsigned e.1), refl, small e.0 below, small e.1 is.1),
      (names e.0 e.1 is.0 is.1, (e.0, e.1, refl, refl, same)),
    )

abbrev pub AreEdges : List Edge → Type 0
AreEdges round = All IsEdge round

abbrev pub AreRounds : List (List Edge) → Type 0
AreRounds rounds = All AreEdges rounds

round_spelled : (es : List Edge) → AreEdges es → Lists SpellsEdge (round_data es) es
round_spelled es all = (map pair_data es, refl, zip_map SpellsEdge IsEdge pair_data spelled es all)

rounds_spelled : (rs : List (List Edge)) → AreRounds rs → Lists (Lists SpellsEdge) (rounds_data rs) rs
rounds_spelled rs all = (map round_data rs, refl, zip_map (Lists SpellsEdge) AreEdges round_data round_spelled rs all)

pub written : (s : Solution) → All AreRounds s.lists → IsSolution (object_data s.uid (lists_data s.lists)) s
written s all = record {
  uid = (string s.uid, refl, refl);
  lists = (lists_data s.lists, refl, (map rounds_data s.lists, refl, zip_map (Lists (Lists SpellsEdge)) AreRounds rounds_data rounds_spelled s.lists all));
}

-- ---- one more item
pub items_more : {X : Type 0} (f : X → Data) (vs : List Value) (xs : List X) (i : ℕ) (v : Value) (x : X) → i < length xs → x ≡ get_or xs i x → view v ≡ f x
    → map view vs ≡ map f (take i xs) → map view (vs ++ v ∷ []) ≡ map f (take (i + 1) xs)
items_more f vs xs i v x lt e is sofar =
    map-append view vs (v ∷ []) ∙ ap (λ t. t ++ view v ∷ []) sofar ∙ ap (λ t. map f (take i xs) ++ t ∷ []) (is ∙ ap f e) ∙ sym (map_more f xs i x lt)

pub holds_more : {X : Type 0} (P : X → Type 0) (xs : List X) (i : ℕ) (x : X) → i < length xs → x ≡ get_or xs i x → P x → All P (take i xs) → All P (take (i + 1) xs)
holds_more P xs i x lt e holds all = All-more P xs i x lt all (subst P e holds)
