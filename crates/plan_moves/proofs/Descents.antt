-- A descent, round by round.
use Rattle.std.proofs.Common.{◌≡◌, ◌≢◌, ◌∙◌, ℕ, suc, ◌+◌, ◌<◌, ◌≤◌, Bool, true, false, cond, List, [], ◌∷◌, ◌++◌, length, refl, sym, ap, ap₂, subst, subst₂, arith, append_assoc}
use Rattle.std.proofs.lemmas.List.{append-nil}
use Rattle.std.specs.Prelude.{◌↔◌, IsTrue, Decides, slice_index_or}
use Rattle.geo_orient.specs.declared.Point.{Point}
use Rattle.edge_table.specs.declared.edge.Edge.{Edge}
use Rattle.tri_theory.specs.Points.{ArePlaced}
use Rattle.tri_theory.specs.Triangulations.{IsTriangulation}
use Rattle.tri_theory.proofs.Schedules.{next_triangulation}
use Rattle.flip_list_law.specs.declared.Flip.{Flip}
use Rattle.flip_list_law.specs.FlipLists.{round_count, flipped_edges}
use Rattle.plan_law.specs.Images.{are_equal, after_flips}
use Rattle.bound_law.specs.Bounds.{input_at}
use Rattle.plan_law.specs.Plans.{Plan}
use Rattle.plan_law.specs.Improvers.{greedy_round, Descended, preceded, descended, weight_of, judged, descent}
use Rattle.plan_law.proofs.Improvers.{round_falls, lists_decided}
use Rattle.plan_law.proofs.Proved.{greedy_rounds, descents_end}
use Rattle.plan_moves.proofs.Choices.{none_at_centre}
use Rattle.plan_moves.specs.Rounds.{Descends, run, judged_as}

-- these rounds come first
abbrev pub all_preceded : List (List Edge) → Descended → Descended
all_preceded rounds rest = record { rounds = rounds ++ rest.rounds; end = rest.end }

module _ (points : List Point) (P : ArePlaced points) (centre T : List Edge) (I : IsTriangulation points T) where
  abbrev step : ℕ → List Flip → Descended
  step most G = elim G [ [] ↦ record { rounds = []; end = T } | flip ∷ flips ↦ preceded (flipped_edges (flip ∷ flips)) (descended most points centre (after_flips T (flip ∷ flips))) ]

  -- a descent by its first round
  unfolded : run points centre T ≡ cond (are_equal T centre) (record { rounds = []; end = T }) (step (weight_of points centre T) (greedy_round points centre T))
  unfolded = sym (descents_end points centre T (suc (weight_of points centre T)) P I (omega arith))

  -- the round lowers the sum of the weights
  pub falls : greedy_round points centre T ≢ [] → weight_of points centre (after_flips T (greedy_round points centre T)) < weight_of points centre T
  falls n = by_round (greedy_round points centre T) n (round_falls points P centre T I)
    where
      by_round : (G : List Flip) → G ≢ [] → weight_of points centre (after_flips T G) + length G ≤ weight_of points centre T → weight_of points centre (after_flips T G) < weight_of points centre T
      by_round [] m l = absurd (m refl)
      by_round (flip ∷ flips) m l = omega (arith, l)

  -- at the centre the round is empty
  off_centre : greedy_round points centre T ≢ [] → T ≢ centre
  off_centre n e = n (subst (λ c. greedy_round points c T ≡ []) e (none_at_centre points P T I))

  pub run_more : greedy_round points centre T ≢ [] → IsTriangulation points (after_flips T (greedy_round points centre T))
      → run points centre T ≡ preceded (flipped_edges (greedy_round points centre T)) (run points centre (after_flips T (greedy_round points centre T)))
  run_more n J = unfolded ∙ by_test (are_equal T centre) (lists_decided T centre)
    where
      by_round : (G : List Flip) → greedy_round points centre T ≡ G → G ≢ [] → IsTriangulation points (after_flips T G) → weight_of points centre (after_flips T G) + length G ≤ weight_of points centre T → step (weight_of points centre T) G ≡ preceded (flipped_edges G) (run points centre (after_flips T G))
      by_round [] e m K l = absurd (m refl)
      by_round (flip ∷ flips) e m K l = ap (preceded (flipped_edges (flip ∷ flips))) (descents_end points centre (after_flips T (flip ∷ flips)) (weight_of points centre T) P K (omega (arith, l)))

      by_test : (v : Bool) → Decides v (T ≡ centre)
          → cond v (record { rounds = []; end = T }) (step (weight_of points centre T) (greedy_round points centre T)) ≡ preceded (flipped_edges (greedy_round points centre T)) (run points centre (after_flips T (greedy_round points centre T)))
      by_test true d = absurd (off_centre n (d.0 refl))
      by_test false d = by_round (greedy_round points centre T) refl n J (round_falls points P centre T I)

  pub run_ends : greedy_round points centre T ≡ [] → run points centre T ≡ record { rounds = []; end = T }
  run_ends e = unfolded ∙ by_test (are_equal T centre)
    where
      by_test : (v : Bool) → cond v (record { rounds = []; end = T }) (step (weight_of points centre T) (greedy_round points centre T)) ≡ record { rounds = []; end = T }
      by_test true = refl
      by_test false = ap (step (weight_of points centre T)) e

-- the next round is added to those made
pub goes_on : (points : List Point) (centre start now next : List Edge) (rounds more : List (List Edge)) (round : List Edge) → run points centre start ≡ all_preceded rounds (run points centre now) → run points centre now ≡ preceded round (run points centre next)
    → more ≡ rounds ++ round ∷ [] → run points centre start ≡ all_preceded more (run points centre next)
goes_on points centre start now next rounds more round e f g =
    e ∙ (ap (all_preceded rounds) f ∙ (ap (λ rs. record { rounds = rs; end = (run points centre next).end }) (sym (append_assoc rounds (round ∷ []) (run points centre next).rounds)) ∙ ap (λ rs. all_preceded rs (run points centre next)) (sym g)))

-- ---- a step
module _ (points : List Point) (P : ArePlaced points) (centre now next : List Edge) (rounds more : List (List Edge)) (b : Bool) (I : IsTriangulation points now) (S : Descends points centre now rounds b next more) where
  goes : b ≡ true → (greedy_round points centre now ≢ []) × (next ≡ after_flips now (greedy_round points centre now)) × (more ≡ rounds ++ flipped_edges (greedy_round points centre now) ∷ [])
  goes e = subst (λ b. Descends points centre now rounds b next more) e S

  -- the sum of the weights falls
  pub step_falls : b ≡ true → weight_of points centre next < weight_of points centre now
  step_falls e = let g = goes e in subst (λ l. weight_of points centre l < weight_of points centre now) (sym g.1) (falls points P centre now I g.0)

  -- the descent goes on
  pub step_on : (start : List Edge) → b ≡ true → run points centre start ≡ all_preceded rounds (run points centre now) → run points centre start ≡ all_preceded more (run points centre next)
  step_on start e r =
      let g = goes e in
      let J = next_triangulation points P now (flipped_edges (greedy_round points centre now)) (after_flips now (greedy_round points centre now)) I (greedy_rounds points centre now P I).0 in
      goes_on points centre start now next rounds more (flipped_edges (greedy_round points centre now)) r
      (run_more points P centre now I g.0 J ∙ ap (λ l. preceded (flipped_edges (greedy_round points centre now)) (run points centre l)) (sym g.1)) g.2

  -- or it ends
  pub step_ends : (start : List Edge) → b ≡ false → run points centre start ≡ all_preceded rounds (run points centre now) → run points centre start ≡ record { rounds = more; end = next }
  step_ends start e r = by_end (subst (λ b. Descends points centre now rounds b next more) e S)
    where
      by_end : (greedy_round points centre now ≡ []) × (next ≡ now) × (more ≡ rounds) → run points centre start ≡ record { rounds = more; end = next }
      by_end (o, n, m) =
          r ∙ (ap (all_preceded rounds) (run_ends points P centre now I o) ∙ ap₂ (λ rs l. record { rounds = rs; end = l }) (append-nil rounds ∙ sym m) (sym n))

-- the answer, by the rounds and where they lead
pub answered : (points : List Point) (inputs : List (List Edge)) (plan : Plan) (t held : ℕ) (rounds : List (List Edge)) (end : List Edge) (reached : Bool) → run points plan.centre (input_at inputs t) ≡ record { rounds = rounds; end = end } → held ≡ round_count (slice_index_or plan.lists t [])
    → IsTrue reached ↔ (end ≡ plan.centre) → judged_as held rounds reached ≡ descent points inputs plan t
answered points inputs plan t held rounds end reached e h r =
    same ∙ (ap (λ n. judged n plan.centre (record { rounds = rounds; end = end })) h ∙ sym (ap (judged (round_count (slice_index_or plan.lists t [])) plan.centre) e))
  where
    by_tests : (a b : Bool) → Decides a (end ≡ plan.centre) → IsTrue b ↔ (end ≡ plan.centre) → b ≡ a
    by_tests true true d s = refl
    by_tests true false d s = absurd (let k = s.1 (d.0 refl) in cc)
    by_tests false true d s = absurd (let k = d.1 (s.0 refl) in cc)
    by_tests false false d s = refl

    same : judged_as held rounds reached ≡ judged held plan.centre (record { rounds = rounds; end = end })
    same = ap (judged_as held rounds) (by_tests (are_equal end plan.centre) reached (lists_decided end plan.centre) r)

pub run_at : {p q : List Point} {c d e f : List Edge} {r : Descended} → p ≡ q → c ≡ d → e ≡ f → run p c e ≡ r → run q d f ≡ r
run_at {p} {q} {c} {d} {e} {f} {r} i j k h = subst (λ ps. run ps d f ≡ r) i (subst₂ (λ g l. run p g l ≡ r) j k h)
