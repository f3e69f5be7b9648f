-- Formulas of both kinds: of k rounds there is at most one, it has few rounds, and a log that refutes it keeps its two triangulations apart.
use Rattle.std.proofs.Common.{◌≡◌, ◌≢◌, ◌⊎◌, inl, inr, ◌∙◌, sym, ap, subst, ℕ, zero, suc, ◌+◌, ◌-◌, ◌*◌, ◌≤◌, min, max, List, [], ◌∷◌, length, Contains, arith}
use Rattle.std.proofs.Math.Nat.{mul-le-mul_right}
use Rattle.geo_orient.specs.declared.Point.{Point}
use Rattle.geo_orient.proofs.IntSigns.{IsPos}
use Rattle.edge_table.specs.declared.edge.Edge.{Edge}
use Rattle.edge_table.specs.Edges.{edge}
use Rattle.tri_theory.specs.Points.{ArePlaced, turn}
use Rattle.tri_theory.specs.Triangulations.{IsTriangulation, IsSegment, AreJoined}
use Rattle.tri_theory.specs.Crossings.{crossings}
use Rattle.tri_theory.specs.Rounds.{Within}
use Rattle.tri_theory.proofs.Plane.{left}
use Rattle.tri_theory.proofs.Placed.{Off, off, plane_of}
use Rattle.tri_theory.proofs.Flip.{never_left}
use Rattle.crossing_law.specs.Digits.{digits}
use Rattle.crossing_law.proofs.Counts.{digits_at_most}
use Rattle.crossing_law.proofs.Fewness.{crossings_fit}
use Rattle.log_law.specs.Clauses.{Formula}
use Rattle.log_law.specs.Logs.{Line, Refutes}
use Rattle.formula_law.specs.Frames.{Frame, IsFrame}
use Rattle.formula_law.specs.Formula.{clause_count}
use Rattle.formula_law.specs.PrunedFormula.{live_between, pruned_formula}
use Rattle.formula_law.specs.PrunedLaws.{HasMiddle}
use Rattle.formula_law.proofs.Proved.{frames_are_one, refuted_formulas_are_apart, refuted_pruned_formulas_are_apart, pruned_clauses_are_counted, middle_layers_are_alike, few_digits_are_live}
use Rattle.flip_cnf.specs.HeldFrames.{HeldFrame, Listed, Many, IsHeldFrame}
use Rattle.pair_rows.specs.Versions.{FormulaKind, Whole, Pruned, IsFormulaOf}
use Rattle.pair_rows.specs.Rows.{IsJustified, IsEarned}
use Rattle.pair_rows.specs.Laws.{FramesDontMatter, FormulasHaveFewRounds}

-- ---- the points have one frame, and so one formula of each kind

pub one_held : (points : List Point) (held other : HeldFrame) → IsHeldFrame points held → IsHeldFrame points other → held ≡ other
one_held points (Listed F) (Listed G) (few, is) (low, has) = let one = (frames_are_one points).2 in ap Listed (one F is ∙ sym (one G has))
one_held points (Listed F) (Many n) (few, is) (many, has) = absurd (omega (arith, few, many))
one_held points (Many n) (Listed G) (many, is) (few, has) = absurd (omega (arith, few, many))
one_held points (Many n) (Many m) (many, is) (more, has) = ap Many (is ∙ sym has)

pub frames_dont_matter : FramesDontMatter
frames_dont_matter kind points inputs frame other row held has =
    let one = one_held points frame other held has in (
      (λ J. subst (λ h. IsJustified kind points inputs h row) one J, λ J. subst (λ h. IsJustified kind points inputs h row) (sym one) J),
      λ budget. (λ E. subst (λ h. IsEarned kind points inputs h budget row) one E, λ E. subst (λ h. IsEarned kind points inputs h budget row) (sym one) E),
    )

pub one_formula : (kind : FormulaKind) (points : List Point) (frame : HeldFrame) (A B : List Edge) (k : ℕ) (f g : Formula) → IsFormulaOf kind points frame A B k f → IsFormulaOf kind points frame A B k g → f ≡ g
one_formula Whole points (Listed F) A B k f g is has = is.1 ∙ sym has.1
one_formula Whole points (Many n) A B k f g is has = absurd is
one_formula Pruned points (Listed F) A B k f g is has = is.1 ∙ sym has.1
one_formula Pruned points (Many n) A B k f g is has = absurd is

-- ---- what is refuted doesn't lead there

pub refuted_apart : (kind : FormulaKind) (points : List Point) (frame : HeldFrame) (A B : List Edge) (k : ℕ) (built : Formula) (log : List Line) → IsHeldFrame points frame → ArePlaced points → IsTriangulation points A → IsTriangulation points B
    → IsFormulaOf kind points frame A B k built → Refutes built log → ¬ Within points A B k
refuted_apart Whole points (Listed F) A B k built log held placed N M is refutes = refuted_formulas_are_apart points F A B k log placed held.1 N M (subst (λ f. Refutes f log) is.1 refutes)
refuted_apart Whole points (Many n) A B k built log held placed N M is refutes = absurd is
refuted_apart Pruned points (Listed F) A B k built log held placed N M is refutes = refuted_pruned_formulas_are_apart points F A B k log placed held.1 N M (subst (λ f. Refutes f log) is.1 refutes)
refuted_apart Pruned points (Many n) A B k built log held placed N M is refutes = absurd is

-- ---- a triangulation has two segments, so a formula of many rounds has many clauses

end_of : (k r x y : ℕ) → x ≡ min k r → y ≡ max k r → (k ≡ x) ⊎ (k ≡ y)
end_of k r x y = grind arith

-- a point off the line of an edge is no end of it
off_line : (points : List Point) → ArePlaced points → (u v k : ℕ) → IsPos (turn points u v k) ⊎ IsPos (turn points v u k) → (k ≡ u) ⊎ (k ≡ v) → ⊥
off_line points P u v k (inl h) (inl e) = (never_left (plane_of points P) u v).2 (subst (left (plane_of points P) u v) e h)
off_line points P u v k (inl h) (inr e) = (never_left (plane_of points P) u v).1 (subst (left (plane_of points P) u v) e h)
off_line points P u v k (inr h) (inl e) = (never_left (plane_of points P) v u).1 (subst (left (plane_of points P) v u) e h)
off_line points P u v k (inr h) (inr e) = (never_left (plane_of points P) v u).2 (subst (left (plane_of points P) v u) e h)

two_long : (es : List Edge) (e f : Edge) → Contains es e → Contains es f → e ≢ f → 2 ≤ length es
two_long [] e f (k, l, h) c d = absurd (omega (arith, l))
two_long (x ∷ []) e f (zero, l, h) (zero, m, i) d = absurd (d (sym h ∙ i))
two_long (x ∷ []) e f (suc k, l, h) c d = absurd (omega (arith, l))
two_long (x ∷ []) e f (zero, l, h) (suc k, m, i) d = absurd (omega (arith, m))
two_long (x ∷ y ∷ es) e f c g d = omega arith

module _ (points : List Point) (P : ArePlaced points) (A : List Edge) (N : IsTriangulation points A) where
  -- the points lie on no line, so some point is no end of a first edge, and it has an edge
  two_edges : (e : Edge) × (f : Edge) × (e ≢ f) × IsSegment points e × IsSegment points f
  two_edges = by_first (N.ends P.spread.0 P.spread.3)
    where
      by_first : ((q : ℕ) × AreJoined A P.spread.0 q) → (e : Edge) × (f : Edge) × (e ≢ f) × IsSegment points e × IsSegment points f
      by_first (q, h) = by_off (edge P.spread.0 q) (N.segments (edge P.spread.0 q) h)
        where
          by_off : (e : Edge) → IsSegment points e → (e : Edge) × (f : Edge) × (e ≢ f) × IsSegment points e × IsSegment points f
          by_off e s = by_point (off points P e.0 e.1 (let l = s.low_first in let m = s.in_range in omega (arith, l, m)) s.in_range (λ i. let l = s.low_first in omega (arith, l, i)))
            where
              by_point : Off points e.0 e.1 → (e : Edge) × (f : Edge) × (e ≢ f) × IsSegment points e × IsSegment points f
              by_point (k, l, side) =
                  let (r, j) = N.ends k l in
                  (e, edge k r, λ i. off_line points P e.0 e.1 k side (end_of k r e.0 e.1 (ap (λ (x : Edge). x.0) i) (ap (λ (x : Edge). x.1) i)), s, N.segments (edge k r) j)

  two_segments : (F : Frame) → IsFrame points F → 2 ≤ length F.segments
  two_segments F I = let (e, f, differ, s, t) = two_edges in two_long F.segments e f ((I.segments e).1 s) ((I.segments f).1 t) differ

few_whole : (F : Frame) (k : ℕ) → 2 ≤ length F.segments → clause_count F k ≤ 400_000 → k ≤ 200_000
few_whole F k some few =
    let m : 2 * k ≤ (12 * length F.flips + 2 * length F.segments) * k = mul-le-mul_right {m = 2} {n = 12 * length F.flips + 2 * length F.segments} k (omega (arith, some)) in
    omega (arith, m, few)

counted : (k j segments a b crossed flipped changed before after clauses : ℕ) → clauses ≡ a + b + crossed + flipped + changed → changed ≡ before + j * (segments * 2) + after → k ≡ 32 + j + 32 → 2 ≤ segments → clauses ≤ 400_000 → k ≤ 200_000
counted k j segments a b crossed flipped changed before after clauses e f g two few =
    let m : 4 * j ≤ segments * 2 * j = mul-le-mul_right {m = 4} {n = segments * 2} j (omega (arith, two)) in
    omega (arith, e, f, g, m, few)

-- all but the first and the last layers have all segments, since no number of crossings has more than 32 digits
few_pruned : (points : List Point) (F : Frame) (A B : List Edge) (k : ℕ) → ArePlaced points → length points ≤ 64 → IsFrame points F → IsTriangulation points A → IsTriangulation points B
    → length (pruned_formula F (live_between points A B k) A B k) ≤ 400_000 → k ≤ 200_000
few_pruned points F A B k P low I N M few = by_size (sizes k)
  where
    sizes : (k : ℕ) → (k ≤ 200_000) ⊎ (k ≡ 32 + (k - 64) + 32)
    sizes k = grind arith

    small : (C : List Edge) → IsTriangulation points C → (e : Edge) → digits (crossings points C e) ≤ 32
    small C S e = digits_at_most (crossings points C e) 32 (crossings_fit points C e S (omega (arith, low)))

    by_size : (k ≤ 200_000) ⊎ (k ≡ 32 + (k - 64) + 32) → k ≤ 200_000
    by_size (inl l) = l
    by_size (inr s) =
        let middle : HasMiddle F (live_between points A B k) k 32 (k - 64) 32
        = middle_layers_are_alike points F (live_between points A B k) k 32 (k - 64) 32 P I s (λ t e m n h. few_digits_are_live points A B k 32 32 t e (small A N e) (small B M e) m (omega (arith, n, s))) in
        counted k (k - 64) (length F.segments) _ _ _ _ _ _ _ _ (pruned_clauses_are_counted F (live_between points A B k) A B k) middle.changes s (two_segments points P A N F I) few

pub few_rounds : FormulasHaveFewRounds
few_rounds Whole points (Listed F) A B k built P N M held is = few_whole F k (two_segments points P A N F held.1) is.0
few_rounds Whole points (Many n) A B k built P N M held is = absurd is
few_rounds Pruned points (Listed F) A B k built P N M held is = few_pruned points F A B k P held.0 held.1 N M is.0
few_rounds Pruned points (Many n) A B k built P N M held is = absurd is
