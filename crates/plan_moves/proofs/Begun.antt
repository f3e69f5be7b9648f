-- Settling that has begun: one more move, and where it may be left.
use Rattle.std.proofs.Common.{◌≡◌, ◌∙◌, ◌+◌, ◌<◌, ◌≤◌, Bool, true, false, Some, None, Result, Ok, Err, List, [], ◌∷◌, ◌++◌, length, refl, sym, ap, subst, subst₂, arith, append_assoc}
use Rattle.std.specs.Prelude.{OnErr}
use Rattle.std.proofs.lemmas.List.{append-nil}
use Rattle.geo_orient.specs.declared.Point.{Point}
use Rattle.edge_table.specs.declared.edge.Edge.{Edge}
use Rattle.flip_list_law.specs.FlipLists.{in_turn}
use Rattle.plan_law.specs.Plans.{Plan, plan_total, followed_all, first_lowering, IsSettled, Settles}
use Rattle.plan_law.proofs.Proved.{settling_ends}
use Rattle.plan_moves.specs.Settlings.{IsOnTheWay}
use Rattle.plan_moves.specs.Ways.{IsFirstStep, StepsOn, IsBegun}
use Rattle.plan_moves.proofs.Lowered.{followed_then, first_lower}

in_turn_then : (made rest : List (List Edge)) → in_turn (made ++ rest) ≡ in_turn made ++ in_turn rest
in_turn_then [] rest = refl
in_turn_then (move ∷ made) rest = ap (λ es. move ++ es) (in_turn_then made rest) ∙ sym (append_assoc move (in_turn made) (in_turn rest))

pub on_err : {T E : Type 0} (r : Result T E) (P : Type 0) → P → OnErr r P
on_err (Ok v) P p = tt
on_err (Err e) P p = p

module _ (points : List Point) where
  -- ---- on the way
  -- no move was made
  pub way_begins : (plan : Plan) → IsOnTheWay points plan plan
  way_begins plan = by_end (settling_ends points plan)
    where
      by_end : (made : List (List Edge)) × (end : Plan) × Settles points plan made end × (length made + plan_total end ≤ plan_total plan) → IsOnTheWay points plan plan
      by_end (rest, end, S, b) = record { made = []; rest = rest; end = end; settles = S; stands = refl }

  -- the first move was made
  pub way_on : (plan next now : Plan) (move : List Edge) → IsFirstStep points plan move next → IsOnTheWay points next now → IsOnTheWay points plan now
  way_on plan next now move F W = record {
    made = move ∷ W.made;
    rest = W.rest;
    end = W.end;
    settles = (next, F.first, F.leads, W.settles);
    stands = followed_then points plan next move (in_turn W.made) F.leads ∙ W.stands;
  }

  -- the total isn't higher there
  no_higher : (made rest : List (List Edge)) (plan now end : Plan) → Settles points plan (made ++ rest) end → followed_all points plan (in_turn made) ≡ Some now → plan_total now ≤ plan_total plan
  no_higher [] rest plan now end S i = let e : plan ≡ now = cc in let t = ap plan_total e in omega (arith, t)
  no_higher (move ∷ made) rest plan now end (next, f, g, S) i =
      let l = first_lower points plan next move (record { first = f; leads = g }) in
      let k = no_higher made rest next now end S (sym (followed_then points plan next move (in_turn made) g) ∙ i) in
      omega (arith, l, k)

  pub way_no_higher : (plan now : Plan) → IsOnTheWay points plan now → plan_total now ≤ plan_total plan
  way_no_higher plan now W = no_higher W.made W.rest plan now W.end W.settles W.stands

  -- ---- moves that were made
  pub begins : (plan : Plan) → IsBegun points plan [] plan
  begins plan = record { settles = λ rest end S. S; stands = refl; lower = omega arith }

  pub goes_on : (plan now next : Plan) (made : List (List Edge)) (move : List Edge) → IsBegun points plan made now → IsFirstStep points now move next → IsBegun points plan (made ++ move ∷ []) next
  goes_on plan now next made move B F = record {
    settles = λ rest end S. subst (λ ms. Settles points plan ms end) (sym (append_assoc made (move ∷ []) rest)) (B.settles (move ∷ rest) end (next, F.first, F.leads, S));
    stands =
        ap (followed_all points plan) (in_turn_then made (move ∷ []))
        ∙ (followed_then points plan now (in_turn made) (move ++ []) B.stands ∙ (ap (followed_all points now) (append-nil move) ∙ F.leads));
    lower = (let l = first_lower points now next move F in let k = B.lower in omega (arith, l, k));
  }

  -- no move is left
  pub ends : (plan now : Plan) (made : List (List Edge)) → IsBegun points plan made now → first_lowering points now ≡ None → Settles points plan made now
  ends plan now made B e = subst (λ ms. Settles points plan ms now) (append-nil made) (B.settles [] now (refl, settled (settling_ends points now)))
    where
      settled : (rest : List (List Edge)) × (end : Plan) × Settles points now rest end × (length rest + plan_total end ≤ plan_total now) → IsSettled points now
      settled ([], end, (i, s), b) = s
      settled (move ∷ rest, end, (next, f, g, S), b) = absurd (cc)

  -- it is left
  pub left : (plan now then : Plan) (made : List (List Edge)) → IsBegun points plan made now → IsOnTheWay points now then → IsOnTheWay points plan then
  left plan now then made B W = record {
    made = made ++ W.made;
    rest = W.rest;
    end = W.end;
    settles = subst (λ ms. Settles points plan ms W.end) (sym (append_assoc made W.made W.rest)) (B.settles (W.made ++ W.rest) W.end W.settles);
    stands = ap (followed_all points plan) (in_turn_then made W.made) ∙ (followed_then points plan now (in_turn made) (in_turn W.made) B.stands ∙ W.stands);
  }

-- ---- a step
module _ (points : List Point) (now next : Plan) (made list : List (List Edge)) (more : Bool) (S : StepsOn points now made more next list) where
  goes : more ≡ true → (move : List Edge) × IsFirstStep points now move next × (list ≡ made ++ move ∷ [])
  goes e = subst (λ b. StepsOn points now made b next list) e S

  -- the total falls
  pub step_lower : more ≡ true → plan_total next < plan_total now
  step_lower e = by_move (goes e)
    where
      by_move : (move : List Edge) × IsFirstStep points now move next × (list ≡ made ++ move ∷ []) → plan_total next < plan_total now
      by_move (move, F, l) = first_lower points now next move F

  module _ (start : List Point) (plan : Plan) (same : points ≡ start) (B : IsBegun start plan made now) where
    -- settling goes on
    pub step_on : more ≡ true → IsBegun start plan list next
    step_on e = by_move (goes e)
      where
        by_move : (move : List Edge) × IsFirstStep points now move next × (list ≡ made ++ move ∷ []) → IsBegun start plan list next
        by_move (move, F, l) = subst (λ ms. IsBegun start plan ms next) (sym l) (goes_on start plan now next made move B (subst (λ ps. IsFirstStep ps now move next) same F))

    -- or is done
    pub step_ends : more ≡ false → Settles start plan list next
    step_ends e = by_end (subst (λ b. StepsOn points now made b next list) e S)
      where
        by_end : (first_lowering points now ≡ None) × (next ≡ now) × (list ≡ made) → Settles start plan list next
        by_end (f, n, l) = subst₂ (λ ms p. Settles start plan ms p) (sym l) (sym n) (ends start plan now made B (subst (λ ps. first_lowering ps now ≡ None) same f))

-- or is left
pub step_left : (start points : List Point) (plan now next : Plan) (made : List (List Edge)) → points ≡ start → IsBegun start plan made now → IsOnTheWay points now next → IsOnTheWay start plan next
step_left start points plan now next made same B W = left start plan now next made B (subst (λ ps. IsOnTheWay ps now next) same W)
