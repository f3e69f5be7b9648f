-- What the digits that a query keeps tell.
use Rattle.std.proofs.Common.{◌≡◌, ℕ, ◌+◌, ◌<◌, ◌≤◌, Bool, true, false, ◌&&◌, List, length, map, get_or, Contains, sym, ap, ap₂, ◌∙◌, subst}
use Rattle.std.specs.Prelude.{leb}
use Rattle.std.specs.List.{All}
use Rattle.std.proofs.lemmas.Bool.{le-leb, lt-leb}
use Rattle.std.proofs.lemmas.List.{get_or-map}
use Rattle.geo_orient.specs.declared.Point.{Point}
use Rattle.edge_table.specs.declared.edge.Edge.{Edge}
use Rattle.tri_theory.specs.Crossings.{crossings}
use Rattle.crossing_law.specs.Digits.{digits}
use Rattle.formula_law.proofs.Clauses.{mapped}
use Rattle.formula_parts.specs.Lists.{no_edge, edge_at}
use Rattle.pruned_cnf.specs.Crossed.{AreDigits, IsHeld}
use Rattle.pruned_cnf.specs.Queries.{Query, live_in}

-- ---- two tests, the second one after the first
pub and_then : {p b q r : Bool} → p ≡ true → p ≡ b → r ≡ q → r ≡ (b && q)
and_then {p} {b} {q} {r} t e f = rw (sym e ∙ t) f

pub and_else : {p b : Bool} (q : Bool) → p ≡ false → p ≡ b → p ≡ (b && q)
and_else {p} {b} q t e = rw (sym e ∙ t) t

-- the same of two pairs of tests
pub four_then : {p r : Bool} (a b c d : Bool) → p ≡ true → p ≡ (a && b) → r ≡ (c && d) → r ≡ (a && (b && (c && (d && true))))
four_then true true true true t e f = f
four_then true true true false t e f = f
four_then true true false d t e f = f
four_then true false c d t e f = cc
four_then false b c d t e f = cc

pub four_else : {p : Bool} (a b q : Bool) → p ≡ false → p ≡ (a && b) → p ≡ (a && (b && q))
four_else true true q t e = cc
four_else true false q t e = e
four_else false b q t e = e

-- ---- the digits of one segment, and of all
pub digits_at : (points : List Point) (edges segments : List Edge) (found : List ℕ) (n x : ℕ) → AreDigits points edges segments found → n < length segments → x ≡ get_or found n x → x ≡ digits (crossings points edges (edge_at segments n))
digits_at points edges segments found n x D l e = e ∙ ap (λ xs. get_or xs n x) D.each ∙ get_or-map (λ e. digits (crossings points edges e)) segments n no_edge x l

pub most_of_all : (points : List Point) (edges segments : List Edge) (found : List ℕ) (most : ℕ) → AreDigits points edges segments found → All (λ d. d ≤ most) found → (e : Edge) → Contains segments e → digits (crossings points edges e) ≤ most
most_of_all points edges segments found most D all e h = by_place (mapped (λ e. digits (crossings points edges e)) segments e h)
  where
    by_place : Contains (map (λ e. digits (crossings points edges e)) segments) (digits (crossings points edges e)) → digits (crossings points edges e) ≤ most
    by_place (k, l, i) = subst (λ x. x ≤ most) i (subst (All (λ d. d ≤ most)) D.each all k (digits (crossings points edges e)) l)

-- ---- so whether a segment is live
module _ (q : Query) (named : List Point) (after before : List ℕ) (H : IsHeld q named after before) (t n x : ℕ) (l : n < length q.frame.segments) (e : x ≡ get_or after n x) where
  first : leb x t ≡ leb (digits (crossings q.points q.from (edge_at q.frame.segments n))) t
  first = ap (λ d. leb d t) (digits_at q.points q.from q.frame.segments after n x H.after_from l e)

  pub live_then : (y : ℕ) → x ≤ t → y ≡ get_or before n y → {s r k : ℕ} → s ≡ y → r ≡ t → k ≡ q.rounds → leb (s + r) k ≡ live_in q t (edge_at q.frame.segments n)
  live_then y m f i j h = and_then (le-leb x t m) first (ap₂ leb (ap₂ ◌+◌ (i ∙ digits_at q.points q.to q.frame.segments before n y H.before_to l f) j) h)

  pub live_else : t < x → leb x t ≡ live_in q t (edge_at q.frame.segments n)
  live_else m = and_else (leb (digits (crossings q.points q.to (edge_at q.frame.segments n)) + t) q.rounds) (lt-leb x t m) first
