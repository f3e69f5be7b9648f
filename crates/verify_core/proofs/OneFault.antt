-- A solution and a certificate have one first fault at most.
use Rattle.std.proofs.Common.{◌≡◌, ◌≢◌, ◌⊎◌, inl, inr, ◌∙◌, refl, sym, ap, ap₂, subst, ℕ, zero, suc, ◌<◌, List, length, sum, Option, Some, slice_get, take, Contains, arith}
use Rattle.std.proofs.lemmas.Bool.{cases_lt}
use Rattle.geo_orient.specs.declared.Point.{Point}
use Rattle.edge_table.specs.declared.edge.Edge.{Edge}
use Rattle.tri_theory.specs.Points.{ArePlaced}
use Rattle.tri_theory.specs.Triangulations.{IsTriangulation}
use Rattle.tri_theory.specs.Crossings.{crossings}
use Rattle.tri_check.specs.Problems.{Problem, IsProblem}
use Rattle.bound_law.specs.Bounds.{input_at}
use Rattle.log_law.specs.Clauses.{Formula}
use Rattle.log_law.specs.Logs.{Line}
use Rattle.log_law.specs.Faults.{steps_fault, log_fault}
use Rattle.log_law.specs.declared.LogFault.{LogFault}
use Rattle.cross_bound.specs.declared.best.Side.{Side}
use Rattle.flip_cnf.specs.HeldFrames.{HeldFrame}
use Rattle.replay.specs.declared.fault.RoundFault.{RoundFault}
use Rattle.replay.specs.declared.fault.ScoreFault.{ScoreFault}
use Rattle.replay.specs.declared.fault.ScoreFault.TheVariants as score
use Rattle.replay.specs.Independent.{AreRoundsOf}
use Rattle.replay.specs.Faults.{IsFirstWith, IsFirstFault}
use Rattle.replay.specs.Scores.{IsScoreFault}
use Rattle.replay.proofs.Unique.{same_some, found_in, found_before, apart_cases, no_fault}
use Rattle.replay.proofs.ScoreLaws.{ends_are_unique, first_faults_are_unique, score_faults_are_unique}
use Rattle.pair_rows.specs.declared.row.Evidence.{Evidence}
use Rattle.pair_rows.specs.declared.row.Evidence.TheVariants.{Nothing, Crosses, Refuted}
use Rattle.pair_rows.specs.declared.row.End.{End}
use Rattle.pair_rows.specs.declared.row.End.TheVariants.{Met, Spent, TooLarge, ManyPoints}
use Rattle.pair_rows.specs.declared.row.Row.{Row}
use Rattle.solution_json.specs.declared.solution.Solution.{Solution}
use Rattle.cert_text.specs.declared.cert.Cert.{Cert}
use Rattle.verify_core.specs.declared.fault.RowWhy.{RowWhy}
use Rattle.verify_core.specs.declared.fault.RowWhy.TheVariants.{BadPair, EdgeNotThere, CountWrong, NoCnf, Log, LowerWrong, MetRound, MetEnd, MetLength, EndK, TooLargeWrong, PointsWrong}
use Rattle.verify_core.specs.declared.fault.No.{No}
use Rattle.verify_core.specs.declared.fault.No.TheVariants.{UidSolution, UidCertificate, InputCount, CopyCount, Round, NoCommonCentre, TotalWrong, RowWrong, NotPermutation, BoundWrong}
use Rattle.pair_rows.specs.Versions.{formula_kind, clauses_of}
use Rattle.verify_core.specs.Formulas.{large}
use Rattle.verify_core.specs.RowFaults.{OrElse, named, lower_by, OfFormula, HasNoFormula, IsPair, IsPairFault, IsEvidenceFault, IsLowerFault, IsEndFault, IsFirstWhy}
use Rattle.verify_core.specs.Faults.{pair_before, IsFirstRowFault, IsFirstWrongPlace, IsCountFault, Holds, number_of, IsFirstNo}
use Rattle.verify_core.specs.Laws.{FirstFaultsAreOne}
use Rattle.verify_core.proofs.Formulas.{input_triangulated}
use Rattle.pair_rows.proofs.Formulas.{one_held, one_formula}
use Rattle.verify_core.proofs.RowParts.{evidence_clear}
use Rattle.verify_core.proofs.Clear.{row_clear}

-- ---- the first fault of several tries
or_once : {F : Type 0} (Here Rest : F → Type 0) → ((f g : F) → Here f → Here g → f ≡ g) → (((other : F) → ¬ Here other) → (f g : F) → Rest f → Rest g → f ≡ g) → (f g : F) → OrElse Here Rest f → OrElse Here Rest g → f ≡ g
or_once Here Rest here rest f g (inl h) (inl k) = here f g h k
or_once Here Rest here rest f g (inl h) (inr (none, k)) = absurd (none f h)
or_once Here Rest here rest f g (inr (none, h)) (inl k) = absurd (none g k)
or_once Here Rest here rest f g (inr (none, h)) (inr (nor, k)) = rest none f g h k

first_with_once : (P : Edge → Type 0) (es : List Edge) (x y : Edge) → IsFirstWith P es x → IsFirstWith P es y → x ≡ y
first_with_once P es x y F G = by_places (apart_cases F.place G.place)
  where
    by_places : (F.place < G.place) ⊎ ((F.place ≡ G.place) ⊎ (G.place < F.place)) → x ≡ y
    by_places (inl l) = absurd (G.first x (found_in (take G.place es) F.place x (found_before es F.place G.place x l F.there)) F.holds)
    by_places (inr (inl e)) = same_some x y (sym F.there ∙ (ap (slice_get es) e ∙ G.there))
    by_places (inr (inr l)) = absurd (F.first y (found_in (take F.place es) G.place y (found_before es G.place F.place y l G.there)) G.holds)

-- ---- the parts of a row
pair_shape : (inputs : List (List Edge)) (before : Option Edge) (pair : Edge) (why : RowWhy) → IsPairFault inputs before pair why → why ≡ BadPair
pair_shape inputs before pair BadPair h = refl
pair_shape inputs before pair (EdgeNotThere e) h = absurd h
pair_shape inputs before pair (CountWrong said is) h = absurd h
pair_shape inputs before pair NoCnf h = absurd h
pair_shape inputs before pair (Log fault) h = absurd h
pair_shape inputs before pair (LowerWrong said is) h = absurd h
pair_shape inputs before pair (MetRound fault) h = absurd h
pair_shape inputs before pair (MetEnd e) h = absurd h
pair_shape inputs before pair (MetLength said is) h = absurd h
pair_shape inputs before pair (EndK said is) h = absurd h
pair_shape inputs before pair (TooLargeWrong said is) h = absurd h
pair_shape inputs before pair (PointsWrong is) h = absurd h

lower_shape : (lower : ℕ) (evidence : Evidence) (why : RowWhy) → IsLowerFault lower evidence why → why ≡ LowerWrong lower (lower_by evidence)
lower_shape lower evidence BadPair h = absurd h
lower_shape lower evidence (EdgeNotThere e) h = absurd h
lower_shape lower evidence (CountWrong said is) h = absurd h
lower_shape lower evidence NoCnf h = absurd h
lower_shape lower evidence (Log fault) h = absurd h
lower_shape lower evidence (LowerWrong said is) h = ap₂ LowerWrong h.0 h.1
lower_shape lower evidence (MetRound fault) h = absurd h
lower_shape lower evidence (MetEnd e) h = absurd h
lower_shape lower evidence (MetLength said is) h = absurd h
lower_shape lower evidence (EndK said is) h = absurd h
lower_shape lower evidence (TooLargeWrong said is) h = absurd h
lower_shape lower evidence (PointsWrong is) h = absurd h

module _ (version : ℕ) (points : List Point) (frame : HeldFrame) (A B : List Edge) where
  -- there is no formula, or a test of it finds a fault of the log
  abbrev IsOfLog : (Formula → Option LogFault) → ℕ → RowWhy → Type 0
  IsOfLog test k why =
      ((why ≡ NoCnf) × HasNoFormula version points frame A B k)
      ⊎ ((fault : LogFault) × (why ≡ Log fault) × OfFormula version points frame A B k (λ built. test built ≡ Some fault))

  log_once : (test : Formula → Option LogFault) (k : ℕ) (f g : RowWhy) → IsOfLog test k f → IsOfLog test k g → f ≡ g
  log_once test k f g (inl (e, none)) (inl (d, too)) = e ∙ sym d
  log_once test k f g (inl (e, none)) (inr (b, d, (built, is, at))) = absurd (none built is)
  log_once test k f g (inr (a, e, (built, is, at))) (inl (d, none)) = absurd (none built is)
  log_once test k f g (inr (a, e, (built, is, at))) (inr (b, d, (other, has, there))) =
      let same : Some a ≡ Some b = sym at ∙ (ap test (one_formula (formula_kind version) points frame A B k built other is has) ∙ there) in
      e ∙ (ap Log (same_some a b same) ∙ sym d)

  abbrev IsOfEdge : Side → Edge → ℕ → RowWhy → Type 0
  IsOfEdge from edge count why =
      ((why ≡ EdgeNotThere edge) × ¬ Contains (named from A B) edge)
      ⊎ ((why ≡ CountWrong count (crossings points (named from B A) edge)) × Contains (named from A B) edge)

  crosses_shape : (from : Side) (edge : Edge) (count : ℕ) (why : RowWhy) → IsEvidenceFault version points frame A B (Crosses from edge count) why → IsOfEdge from edge count why
  crosses_shape from edge count BadPair h = absurd h
  crosses_shape from edge count (EdgeNotThere e) h = inl (ap EdgeNotThere h.0, h.1)
  crosses_shape from edge count (CountWrong said is) h = inr (ap₂ CountWrong h.1 h.2, h.0)
  crosses_shape from edge count NoCnf h = absurd h
  crosses_shape from edge count (Log fault) h = absurd h
  crosses_shape from edge count (LowerWrong said is) h = absurd h
  crosses_shape from edge count (MetRound fault) h = absurd h
  crosses_shape from edge count (MetEnd e) h = absurd h
  crosses_shape from edge count (MetLength said is) h = absurd h
  crosses_shape from edge count (EndK said is) h = absurd h
  crosses_shape from edge count (TooLargeWrong said is) h = absurd h
  crosses_shape from edge count (PointsWrong is) h = absurd h

  crosses_once : (from : Side) (edge : Edge) (count : ℕ) (f g : RowWhy) → IsOfEdge from edge count f → IsOfEdge from edge count g → f ≡ g
  crosses_once from edge count f g (inl (e, none)) (inl (d, too)) = e ∙ sym d
  crosses_once from edge count f g (inl (e, none)) (inr (d, there)) = absurd (none there)
  crosses_once from edge count f g (inr (e, there)) (inl (d, none)) = absurd (none there)
  crosses_once from edge count f g (inr (e, there)) (inr (d, here)) = e ∙ sym d

  refuted_shape : (k : ℕ) (log : List Line) (why : RowWhy) → IsEvidenceFault version points frame A B (Refuted k log) why → IsOfLog (λ built. log_fault built log) k why
  refuted_shape k log BadPair h = absurd h
  refuted_shape k log (EdgeNotThere e) h = absurd h
  refuted_shape k log (CountWrong said is) h = absurd h
  refuted_shape k log NoCnf h = inl (refl, h)
  refuted_shape k log (Log fault) h = inr (fault, refl, h)
  refuted_shape k log (LowerWrong said is) h = absurd h
  refuted_shape k log (MetRound fault) h = absurd h
  refuted_shape k log (MetEnd e) h = absurd h
  refuted_shape k log (MetLength said is) h = absurd h
  refuted_shape k log (EndK said is) h = absurd h
  refuted_shape k log (TooLargeWrong said is) h = absurd h
  refuted_shape k log (PointsWrong is) h = absurd h

  evidence_once : (evidence : Evidence) (f g : RowWhy) → IsEvidenceFault version points frame A B evidence f → IsEvidenceFault version points frame A B evidence g → f ≡ g
  evidence_once Nothing f g h k = absurd (evidence_clear version points frame A B Nothing tt f h)
  evidence_once (Crosses from edge count) f g h k = crosses_once from edge count f g (crosses_shape from edge count f h) (crosses_shape from edge count g k)
  evidence_once (Refuted n log) f g h k = log_once (λ built. log_fault built log) n f g (refuted_shape n log f h) (refuted_shape n log g k)

  module _ (P : ArePlaced points) (N : IsTriangulation points A) (lower : ℕ) where
    abbrev IsOfRounds : List (List Edge) → RowWhy → Type 0
    IsOfRounds rounds why =
        ((fault : RoundFault) × (why ≡ MetRound fault) × IsFirstFault points A rounds fault)
        ⊎ (((e : Edge) × (end : List Edge) × (why ≡ MetEnd e) × AreRoundsOf points A rounds end × IsFirstWith (λ f. ¬ Contains B f) end e)
        ⊎ ((why ≡ MetLength (length rounds) lower) × AreRoundsOf points A rounds B))

    met_shape : (rounds : List (List Edge)) (why : RowWhy) → IsEndFault version points frame A B lower (Met rounds) why → IsOfRounds rounds why
    met_shape rounds BadPair h = absurd h
    met_shape rounds (EdgeNotThere e) h = absurd h
    met_shape rounds (CountWrong said is) h = absurd h
    met_shape rounds NoCnf h = absurd h
    met_shape rounds (Log fault) h = absurd h
    met_shape rounds (LowerWrong said is) h = absurd h
    met_shape rounds (MetRound fault) h = inl (fault, refl, h)
    met_shape rounds (MetEnd e) h = inr (inl (e, h.0, refl, h.1, h.2))
    met_shape rounds (MetLength said is) h = inr (inr (ap₂ MetLength h.1 h.2, h.0))
    met_shape rounds (EndK said is) h = absurd h
    met_shape rounds (TooLargeWrong said is) h = absurd h
    met_shape rounds (PointsWrong is) h = absurd h

    -- an edge of an end is one of the other end of the same rounds
    ends_share : (rounds : List (List Edge)) (end : List Edge) (e : Edge) → AreRoundsOf points A rounds end → IsFirstWith (λ f. ¬ Contains B f) end e → ¬ AreRoundsOf points A rounds B
    ends_share rounds end e R W S = W.holds (subst (λ es. Contains es e) (ends_are_unique points A rounds end B R S) (found_in end W.place e W.there))

    met_once : (rounds : List (List Edge)) (f g : RowWhy) → IsOfRounds rounds f → IsOfRounds rounds g → f ≡ g
    met_once rounds f g (inl (a, e, F)) (inl (b, d, G)) = e ∙ (ap MetRound (first_faults_are_unique points A rounds a b P N F G) ∙ sym d)
    met_once rounds f g (inl (a, e, F)) (inr (inl (y, last, d, S, V))) = absurd (no_fault points A last rounds a P N S F)
    met_once rounds f g (inl (a, e, F)) (inr (inr (d, S))) = absurd (no_fault points A B rounds a P N S F)
    met_once rounds f g (inr (inl (x, end, e, R, W))) (inl (b, d, G)) = absurd (no_fault points A end rounds b P N R G)
    met_once rounds f g (inr (inl (x, end, e, R, W))) (inr (inl (y, last, d, S, V))) =
        let Other : Edge → Type 0 = λ f. ¬ Contains B f in
        e ∙ (ap MetEnd (first_with_once Other last x y (subst (λ es. IsFirstWith Other es x) (ends_are_unique points A rounds end last R S) W) V) ∙ sym d)
    met_once rounds f g (inr (inl (x, end, e, R, W))) (inr (inr (d, S))) = absurd (ends_share rounds end x R W S)
    met_once rounds f g (inr (inr (e, R))) (inl (b, d, G)) = absurd (no_fault points A B rounds b P N R G)
    met_once rounds f g (inr (inr (e, R))) (inr (inl (y, last, d, S, V))) = absurd (ends_share rounds last y S V R)
    met_once rounds f g (inr (inr (e, R))) (inr (inr (d, S))) = e ∙ sym d

    -- the number of rounds isn't the lower bound, or else there is another fault
    abbrev IsOfK : ℕ → (RowWhy → Type 0) → RowWhy → Type 0
    IsOfK k Other why = ((why ≡ EndK k lower) × (k ≢ lower)) ⊎ ((k ≡ lower) × Other why)

    k_once : (k : ℕ) (Other : RowWhy → Type 0) → ((f g : RowWhy) → Other f → Other g → f ≡ g) → (f g : RowWhy) → IsOfK k Other f → IsOfK k Other g → f ≡ g
    k_once k Other once f g (inl (e, apart)) (inl (d, too)) = e ∙ sym d
    k_once k Other once f g (inl (e, apart)) (inr (same, h)) = absurd (apart same)
    k_once k Other once f g (inr (same, h)) (inl (d, apart)) = absurd (apart same)
    k_once k Other once f g (inr (same, h)) (inr (too, j)) = once f g h j

    -- a number said isn't the other one
    said_apart : (said is k : ℕ) → said ≡ k → is ≡ lower → said ≢ is → k ≢ lower
    said_apart said is k e d apart same = apart (e ∙ (same ∙ sym d))

    spent_shape : (k : ℕ) (log : List Line) (why : RowWhy) → IsEndFault version points frame A B lower (Spent k log) why → IsOfK k (IsOfLog (λ built. steps_fault built log) k) why
    spent_shape k log BadPair h = absurd h
    spent_shape k log (EdgeNotThere e) h = absurd h
    spent_shape k log (CountWrong said is) h = absurd h
    spent_shape k log NoCnf h = inr (h.0, inl (refl, h.1))
    spent_shape k log (Log fault) h = inr (h.0, inr (fault, refl, h.1))
    spent_shape k log (LowerWrong said is) h = absurd h
    spent_shape k log (MetRound fault) h = absurd h
    spent_shape k log (MetEnd e) h = absurd h
    spent_shape k log (MetLength said is) h = absurd h
    spent_shape k log (EndK said is) h = inl (ap₂ EndK h.0 h.1, said_apart said is k h.0 h.1 h.2)
    spent_shape k log (TooLargeWrong said is) h = absurd h
    spent_shape k log (PointsWrong is) h = absurd h

    abbrev IsOfSize : ℕ → ℕ → RowWhy → Type 0
    IsOfSize k clauses why = why ≡ TooLargeWrong clauses (large (clauses_of (formula_kind version) points frame A B k))

    large_shape : (k clauses : ℕ) (why : RowWhy) → IsEndFault version points frame A B lower (TooLarge k clauses) why → IsOfK k (IsOfSize k clauses) why
    large_shape k clauses BadPair h = absurd h
    large_shape k clauses (EdgeNotThere e) h = absurd h
    large_shape k clauses (CountWrong said is) h = absurd h
    large_shape k clauses NoCnf h = absurd h
    large_shape k clauses (Log fault) h = absurd h
    large_shape k clauses (LowerWrong said is) h = absurd h
    large_shape k clauses (MetRound fault) h = absurd h
    large_shape k clauses (MetEnd e) h = absurd h
    large_shape k clauses (MetLength said is) h = absurd h
    large_shape k clauses (EndK said is) h = inl (ap₂ EndK h.0 h.1, said_apart said is k h.0 h.1 h.2)
    large_shape k clauses (TooLargeWrong said is) h = inr (h.0, ap₂ TooLargeWrong h.1 h.2)
    large_shape k clauses (PointsWrong is) h = absurd h

    many_shape : (n : ℕ) (why : RowWhy) → IsEndFault version points frame A B lower (ManyPoints n) why → why ≡ PointsWrong (length points)
    many_shape n BadPair h = absurd h
    many_shape n (EdgeNotThere e) h = absurd h
    many_shape n (CountWrong said is) h = absurd h
    many_shape n NoCnf h = absurd h
    many_shape n (Log fault) h = absurd h
    many_shape n (LowerWrong said is) h = absurd h
    many_shape n (MetRound fault) h = absurd h
    many_shape n (MetEnd e) h = absurd h
    many_shape n (MetLength said is) h = absurd h
    many_shape n (EndK said is) h = absurd h
    many_shape n (TooLargeWrong said is) h = absurd h
    many_shape n (PointsWrong is) h = ap PointsWrong h.0

    end_once : (end : End) (f g : RowWhy) → IsEndFault version points frame A B lower end f → IsEndFault version points frame A B lower end g → f ≡ g
    end_once (Met rounds) f g h j = met_once rounds f g (met_shape rounds f h) (met_shape rounds g j)
    end_once (Spent k log) f g h j =
        k_once k (IsOfLog (λ built. steps_fault built log) k) (log_once (λ built. steps_fault built log) k) f g (spent_shape k log f h) (spent_shape k log g j)
    end_once (TooLarge k clauses) f g h j = k_once k (IsOfSize k clauses) (λ a b e d. e ∙ sym d) f g (large_shape k clauses f h) (large_shape k clauses g j)
    end_once (ManyPoints n) f g h j = many_shape n f h ∙ sym (many_shape n g j)

-- ---- rows
module _ (version : ℕ) (points : List Point) (inputs : List (List Edge)) (frame : HeldFrame) (problem : IsProblem points inputs) where
  -- where a pair has no fault, its first number is that of an input
  within : (before : Option Edge) (i j : ℕ) → ((why : RowWhy) → ¬ IsPairFault inputs before (i, j) why) → i < length inputs
  within before i j none = elim (cases_lt i (length inputs)) [ inl l ↦ l | inr g ↦ absurd (none BadPair (λ p. let o = p.0 in let w = p.1 in omega (arith, o, w, g))) ]

  why_once : (before : Option Edge) (row : Row) (f g : RowWhy) → IsFirstWhy version points inputs frame before row f → IsFirstWhy version points inputs frame before row g → f ≡ g
  why_once before row =
      let A = input_at inputs row.i in
      let B = input_at inputs row.j in
      or_once (IsPairFault inputs before (row.i, row.j)) _ (λ f g h k. pair_shape inputs before (row.i, row.j) f h ∙ sym (pair_shape inputs before (row.i, row.j) g k))
      (λ none. or_once (IsEvidenceFault version points frame A B row.evidence) _ (evidence_once version points frame A B row.evidence)
      (λ _. or_once (IsLowerFault row.lower row.evidence) (IsEndFault version points frame A B row.lower row.end) (λ f g h k. lower_shape row.lower row.evidence f h ∙ sym (lower_shape row.lower row.evidence g k))
      (λ _. end_once version points frame A B problem.placed (input_triangulated points inputs row.i problem (within before row.i row.j none)) row.lower row.end)))

  rows_once : (rows : List Row) (i j k l : ℕ) (f g : RowWhy) → IsFirstRowFault version points inputs frame rows i j f → IsFirstRowFault version points inputs frame rows k l g → RowWrong i j f ≡ RowWrong k l g
  rows_once rows i j k l f g F G = by_places (apart_cases F.place G.place)
    where
      by_places : (F.place < G.place) ⊎ ((F.place ≡ G.place) ⊎ (G.place < F.place)) → RowWrong i j f ≡ RowWrong k l g
      by_places (inl lt) = absurd (row_clear version points inputs frame problem (pair_before rows F.place) F.row (G.before F.place F.row lt F.there) f F.first_why)
      by_places (inr (inr lt)) = absurd (row_clear version points inputs frame problem (pair_before rows G.place) G.row (F.before G.place G.row lt G.there) g G.first_why)
      by_places (inr (inl e)) =
          let same : F.row ≡ G.row = same_some F.row G.row (sym F.there ∙ (ap (slice_get rows) e ∙ G.there)) in
          let moved = subst (λ r. IsFirstWhy version points inputs frame (pair_before rows G.place) r f) same (subst (λ p. IsFirstWhy version points inputs frame (pair_before rows p) F.row f) e F.first_why) in
          ap₂ (λ a b. RowWrong a b f) (F.first_input ∙ (ap (λ (r : Row). r.i) same ∙ sym G.first_input)) (F.second_input ∙ (ap (λ (r : Row). r.j) same ∙ sym G.second_input))
          ∙ ap (RowWrong k l) (why_once (pair_before rows G.place) G.row f g moved G.first_why)

place_once : (count : ℕ) (perm : List ℕ) (p q : ℕ) → IsFirstWrongPlace count perm p → IsFirstWrongPlace count perm q → p ≡ q
place_once count perm p q h k = elim (apart_cases p q) [ inl l ↦ absurd (k.1 p l h.0) | inr rest ↦ elim rest [ inl e ↦ e | inr l ↦ absurd (h.1 q l k.0) ] ]

-- ---- the kinds of faults by their numbers
abbrev With : {X : Type 0} → (X → No) → No → Type 0
With {X} make f = (x : X) × (f ≡ make x)

abbrev WithTwo : (ℕ → ℕ → No) → No → Type 0
WithTwo make f = (a : ℕ) × (b : ℕ) × (f ≡ make a b)

-- what holds of the number 0, and what of the numbers that are greater by 1
abbrev then_of : (No → Type 0) → (ℕ → No → Type 0) → ℕ → No → Type 0
then_of Here Rest zero f = Here f
then_of Here Rest (suc n) f = Rest n f

-- the fault is of the kind with the number
abbrev IsOf : ℕ → No → Type 0
IsOf =
    then_of (λ f. ⊥) (then_of (λ f. f ≡ UidSolution) (then_of (λ f. f ≡ UidCertificate) (then_of (WithTwo InputCount) (then_of (WithTwo CopyCount)
    (then_of (λ f. (t : ℕ) × (fault : RoundFault) × (f ≡ Round t fault)) (then_of (With NoCommonCentre) (then_of (WithTwo TotalWrong)
    (then_of (λ f. (i : ℕ) × (j : ℕ) × (why : RowWhy) × (f ≡ RowWrong i j why)) (then_of (With NotPermutation) (then_of (WithTwo BoundWrong) (λ n f. ⊥)))))))))))

is_of : (f : No) → IsOf (number_of f) f
is_of UidSolution = refl
is_of UidCertificate = refl
is_of (InputCount said is) = (said, is, refl)
is_of (CopyCount said is) = (said, is, refl)
is_of (Round t fault) = (t, fault, refl)
is_of (NoCommonCentre t) = (t, refl)
is_of (TotalWrong said is) = (said, is, refl)
is_of (RowWrong i j why) = (i, j, why, refl)
is_of (NotPermutation p) = (p, refl)
is_of (BoundWrong said is) = (said, is, refl)

-- ---- all faults
-- a fault of a score as one of a certificate
abbrev of_score : ScoreFault → No
of_score (score.Round t fault) = Round t fault
of_score (score.NoCommonCentre t) = NoCommonCentre t
of_score (score.InputCount said is) = InputCount said is
of_score score.OutOfMemory = UidSolution

module _ (problem : Problem) (frame : HeldFrame) (is : IsProblem problem.points problem.inputs) (s : Solution) (c : Cert) where
  counts_once : (said n other m : ℕ) → IsCountFault problem s c said n → IsCountFault problem s c other m → InputCount said n ≡ InputCount other m
  counts_once said n other m (e, apart, inl x) (d, too, inl y) = ap₂ InputCount (x ∙ sym y) (e ∙ sym d)
  counts_once said n other m (e, apart, inl x) (d, too, inr (y, z)) = absurd (apart (x ∙ (y ∙ (d ∙ sym e))))
  counts_once said n other m (e, apart, inr (x, y)) (d, too, inl z) = absurd (too (z ∙ (x ∙ (e ∙ sym d))))
  counts_once said n other m (e, apart, inr (x, y)) (d, too, inr (z, w)) = ap₂ InputCount (y ∙ sym w) (e ∙ sym d)

  scores_once : (f g : ScoreFault) → f ≢ score.OutOfMemory → g ≢ score.OutOfMemory → IsScoreFault problem.points problem.inputs s.lists f → IsScoreFault problem.points problem.inputs s.lists g → of_score f ≡ of_score g
  scores_once f g named too h k = ap of_score (score_faults_are_unique problem.points problem.inputs s.lists f g is named too h k)

  kind_once : (f g : No) → IsOf (number_of f) g → Holds problem frame s c f → Holds problem frame s c g → f ≡ g
  kind_once UidSolution g e h k = sym e
  kind_once UidCertificate g e h k = sym e
  kind_once (InputCount said n) g (a, b, e) h k = counts_once said n a b h (subst (Holds problem frame s c) e k) ∙ sym e
  kind_once (CopyCount said n) g (a, b, e) h k = let j = subst (Holds problem frame s c) e k in ap₂ CopyCount (h.0 ∙ sym j.0) (h.1 ∙ sym j.1) ∙ sym e
  kind_once (Round t fault) g (a, b, e) h k = scores_once (score.Round t fault) (score.Round a b) (λ e. cc) (λ e. cc) h (subst (Holds problem frame s c) e k) ∙ sym e
  kind_once (NoCommonCentre t) g (a, e) h k = scores_once (score.NoCommonCentre t) (score.NoCommonCentre a) (λ e. cc) (λ e. cc) h (subst (Holds problem frame s c) e k) ∙ sym e
  kind_once (TotalWrong said n) g (a, b, e) h k = let j = subst (Holds problem frame s c) e k in ap₂ TotalWrong (h.0 ∙ sym j.0) (h.1 ∙ sym j.1) ∙ sym e
  kind_once (RowWrong i j why) g (a, b, d, e) h k = rows_once c.version problem.points problem.inputs frame is c.rows i j a b why d h (subst (Holds problem frame s c) e k) ∙ sym e
  kind_once (NotPermutation p) g (a, e) h k = ap NotPermutation (place_once (sum problem.weights) c.perm p a h (subst (Holds problem frame s c) e k)) ∙ sym e
  kind_once (BoundWrong said n) g (a, b, e) h k = let j = subst (Holds problem frame s c) e k in ap₂ BoundWrong (h.0 ∙ sym j.0) (h.1 ∙ sym j.1) ∙ sym e

  first_once : (f g : No) → IsFirstNo problem frame s c f → IsFirstNo problem frame s c g → f ≡ g
  first_once f g F G = by_numbers (apart_cases (number_of f) (number_of g))
    where
      by_numbers : (number_of f < number_of g) ⊎ ((number_of f ≡ number_of g) ⊎ (number_of g < number_of f)) → f ≡ g
      by_numbers (inl l) = absurd (G.first f l F.holds)
      by_numbers (inr (inl e)) = kind_once f g (subst (λ n. IsOf n g) (sym e) (is_of g)) F.holds G.holds
      by_numbers (inr (inr l)) = absurd (F.first g l G.holds)

pub first_faults_are_one : FirstFaultsAreOne
first_faults_are_one problem s c f g is (frame, F) (other, G) =
    first_once problem frame is s c f g F (subst (λ held. IsFirstNo problem held s c g) (one_held problem.points other frame G.frame_held F.frame_held) G)
