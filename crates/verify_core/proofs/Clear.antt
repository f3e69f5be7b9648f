-- What is sound has no fault, so where the parts before are sound a fault is the first one.
use Rattle.std.proofs.Common.{◌≡◌, ◌∙◌, inl, inr, sym, ap, subst, ℕ, ◌<◌, cond, nat_lt, List, length, sum, Option, Some, None, Contains, arith}
use Rattle.std.proofs.lemmas.Option.{get_or_from_slice_get, slice_get_within}
use Rattle.geo_orient.specs.declared.Point.{Point}
use Rattle.edge_table.specs.declared.edge.Edge.{Edge}
use Rattle.tri_theory.specs.Points.{ArePlaced}
use Rattle.tri_theory.specs.Triangulations.{IsTriangulation}
use Rattle.tri_theory.specs.Rounds.{IsPlan, total}
use Rattle.tri_check.specs.Problems.{Problem, IsProblem}
use Rattle.assignment_law.specs.Assignments.{IsAssignment}
use Rattle.bound_law.specs.Bounds.{input_at}
use Rattle.log_law.specs.Clauses.{Formula}
use Rattle.log_law.specs.Logs.{Line, AllFollow}
use Rattle.log_law.specs.Faults.{steps_fault}
use Rattle.log_law.specs.declared.LogFault.{LogFault}
use Rattle.log_law.proofs.Proved.{faultless_steps_follow}
use Rattle.log_law.proofs.Lists.{take_from}
use Rattle.flip_cnf.specs.HeldFrames.{HeldFrame, IsHeldFrame}
use Rattle.replay.specs.declared.fault.ScoreFault.TheVariants as score
use Rattle.replay.specs.Scores.{AreAllDistinct, IsScoreFault}
use Rattle.replay.proofs.Unique.{no_fault}
use Rattle.replay.proofs.ScoreLaws.{ends_are_unique, plans_have_no_fault, score_faults_are_unique}
use Rattle.replay.specs.declared.fault.RoundFault.{RoundFault}
use Rattle.pair_rows.specs.declared.row.End.{End}
use Rattle.pair_rows.specs.declared.row.End.TheVariants.{Met, Spent, TooLarge, ManyPoints}
use Rattle.pair_rows.specs.declared.row.Row.{Row}
use Rattle.solution_json.specs.declared.solution.Solution.{Solution}
use Rattle.cert_text.specs.declared.cert.Cert.{Cert}
use Rattle.verify_core.specs.declared.fault.RowWhy.{RowWhy}
use Rattle.verify_core.specs.declared.fault.RowWhy.TheVariants.{BadPair, EdgeNotThere, CountWrong, NoCnf, Log, LowerWrong, MetRound, MetEnd, MetLength, EndK, TooLargeWrong, PointsWrong}
use Rattle.verify_core.specs.declared.fault.No.{No}
use Rattle.verify_core.specs.declared.fault.No.TheVariants.{UidSolution, UidCertificate, InputCount, CopyCount, Round, NoCommonCentre, TotalWrong, RowWrong, NotPermutation, BoundWrong}
use Rattle.verify_core.specs.declared.fault.VerifyFault.{VerifyFault}
use Rattle.verify_core.specs.declared.fault.VerifyFault.TheVariants as verify
use Rattle.verify_core.specs.Formulas.{large}
use Rattle.verify_core.specs.RowFaults.{IsSoundEnd, IsEndFault, IsSoundRow, IsFirstWhy}
use Rattle.verify_core.specs.Faults.{AreNamed, IsNameFault, IsPlanFault, IsRowRefusal, pair_before, AreSoundTo, IsFirstRowFault, IsWrongPlace, IsFirstWrongPlace, bound_by, Holds, IsFirstNo, number_of, OnNo, IsVerified, IsShown}
use Rattle.verify_core.proofs.Formulas.{input_triangulated}
use Rattle.pair_rows.specs.Versions.{formula_kind}
use Rattle.pair_rows.proofs.Formulas.{one_held, one_formula}
use Rattle.verify_core.proofs.RowParts.{pair_clear, evidence_clear, lower_clear}

following_clear : (f : Formula) (log : List Line) (fault : LogFault) → AllFollow f log → steps_fault f log ≡ Some fault → ⊥
following_clear f log fault R e = let none = (faultless_steps_follow f log).1 R in absurd (none_some (sym none ∙ e))
  where
    none_some : (let n : Option LogFault = None in n ≡ Some fault) → ⊥
    none_some h = cc

large_is : (n : ℕ) → 400_000 < n → cond (nat_lt 400_000 n) n 0 ≡ n
large_is n l = grind arith

module _ (version : ℕ) (points : List Point) (frame : HeldFrame) (P : ArePlaced points) (A B : List Edge) (N : IsTriangulation points A) (lower : ℕ) where
  pub end_clear : (end : End) → IsSoundEnd version points frame A B lower end → (why : RowWhy) → ¬ IsEndFault version points frame A B lower end why
  end_clear (Met rounds) is BadPair h = h
  end_clear (Met rounds) is (EdgeNotThere e) h = h
  end_clear (Met rounds) is (CountWrong a b) h = h
  end_clear (Met rounds) is NoCnf h = h
  end_clear (Met rounds) is (Log f) h = h
  end_clear (Met rounds) is (LowerWrong a b) h = h
  end_clear (Met rounds) is (MetRound f) h = no_fault points A B rounds f P N is.0 h
  end_clear (Met rounds) is (MetEnd e) h = h.2.holds (subst (λ es. Contains es e) (ends_are_unique points A rounds h.0 B h.1 is.0) (h.2.place, slice_get_within h.0 h.2.place e h.2.there, get_or_from_slice_get h.0 h.2.place e e h.2.there))
  end_clear (Met rounds) is (MetLength a b) h = h.3 (h.1 ∙ (is.1 ∙ sym h.2))
  end_clear (Met rounds) is (EndK a b) h = h
  end_clear (Met rounds) is (TooLargeWrong a b) h = h
  end_clear (Met rounds) is (PointsWrong n') h = h
  end_clear (Spent k log) is BadPair h = h
  end_clear (Spent k log) is (EdgeNotThere e) h = h
  end_clear (Spent k log) is (CountWrong a b) h = h
  end_clear (Spent k log) is NoCnf h = h.1 is.1.0 is.1.1
  end_clear (Spent k log) is (Log f) h = following_clear h.1.0 log f (subst (λ g. AllFollow g log) (one_formula (formula_kind version) points frame A B k is.1.0 h.1.0 is.1.1 h.1.1) is.1.2) h.1.2
  end_clear (Spent k log) is (LowerWrong a b) h = h
  end_clear (Spent k log) is (MetRound f) h = h
  end_clear (Spent k log) is (MetEnd e) h = h
  end_clear (Spent k log) is (MetLength a b) h = h
  end_clear (Spent k log) is (EndK a b) h = h.2 (h.0 ∙ (is.0 ∙ sym h.1))
  end_clear (Spent k log) is (TooLargeWrong a b) h = h
  end_clear (Spent k log) is (PointsWrong n') h = h
  end_clear (TooLarge k clauses) is BadPair h = h
  end_clear (TooLarge k clauses) is (EdgeNotThere e) h = h
  end_clear (TooLarge k clauses) is (CountWrong a b) h = h
  end_clear (TooLarge k clauses) is NoCnf h = h
  end_clear (TooLarge k clauses) is (Log f) h = h
  end_clear (TooLarge k clauses) is (LowerWrong a b) h = h
  end_clear (TooLarge k clauses) is (MetRound f) h = h
  end_clear (TooLarge k clauses) is (MetEnd e) h = h
  end_clear (TooLarge k clauses) is (MetLength a b) h = h
  end_clear (TooLarge k clauses) is (EndK a b) h = h.2 (h.0 ∙ (is.0 ∙ sym h.1))
  end_clear (TooLarge k clauses) is (TooLargeWrong a b) h = let e : b ≡ clauses = h.2 ∙ (ap large is.1 ∙ large_is clauses is.2) in let g = is.2 in elim h.3 [ inl z ↦ omega (arith, z, e, g) | inr d ↦ d (h.1 ∙ sym e) ]
  end_clear (TooLarge k clauses) is (PointsWrong n') h = h
  end_clear (ManyPoints n) is BadPair h = h
  end_clear (ManyPoints n) is (EdgeNotThere e) h = h
  end_clear (ManyPoints n) is (CountWrong a b) h = h
  end_clear (ManyPoints n) is NoCnf h = h
  end_clear (ManyPoints n) is (Log f) h = h
  end_clear (ManyPoints n) is (LowerWrong a b) h = h
  end_clear (ManyPoints n) is (MetRound f) h = h
  end_clear (ManyPoints n) is (MetEnd e) h = h
  end_clear (ManyPoints n) is (MetLength a b) h = h
  end_clear (ManyPoints n) is (EndK a b) h = h
  end_clear (ManyPoints n) is (TooLargeWrong a b) h = h
  end_clear (ManyPoints n) is (PointsWrong n') h = let e = h.0 in let a = is.0 in let g = is.1 in elim h.1 [ inl d ↦ d (a ∙ sym e) | inr z ↦ omega (arith, z, e, a, g) ]

module _ (version : ℕ) (points : List Point) (inputs : List (List Edge)) (frame : HeldFrame) (problem : IsProblem points inputs) where
  pub row_clear : (before : Option Edge) (row : Row) → IsSoundRow version points inputs frame before row → (why : RowWhy) → ¬ IsFirstWhy version points inputs frame before row why
  row_clear before row S why (inl h) = pair_clear inputs before (row.i, row.j) S.pair why h
  row_clear before row S why (inr (a, inl h)) = evidence_clear version points frame (input_at inputs row.i) (input_at inputs row.j) row.evidence S.evidence why h
  row_clear before row S why (inr (a, inr (b, inl h))) = lower_clear row.lower row.evidence S.lower why h
  row_clear before row S why (inr (a, inr (b, inr (d, h)))) =
      let o = S.pair.0 in let w = S.pair.1 in
      end_clear version points frame problem.placed (input_at inputs row.i) (input_at inputs row.j) (input_triangulated points inputs row.i problem (omega (arith, o, w))) row.lower row.end S.end why h

  rows_clear : (rows : List Row) → AreSoundTo version points inputs frame rows (length rows) → (i j : ℕ) (why : RowWhy) → ¬ IsFirstRowFault version points inputs frame rows i j why
  rows_clear rows sound i j why F = row_clear (pair_before rows F.place) F.row (sound F.place F.row (slice_get_within rows F.place F.row F.there) F.there) why F.first_why

assigned_clear : (count : ℕ) (perm : List ℕ) → IsAssignment count perm → (p : ℕ) → ¬ IsWrongPlace count perm p
assigned_clear count perm A p (x, there, wrong) =
    let within = slice_get_within perm p x there in
    let at = get_or_from_slice_get perm p x x there in
    elim wrong [ inl h ↦ (let b = A.below p x within in omega (arith, b, at, h)) | inr h ↦ (let (k, l, e) = take_from p perm x (omega (arith, within)) h in A.distinct k p x l within (e ∙ sym at)) ]

module _ (problem : Problem) (frame : HeldFrame) (is : IsProblem problem.points problem.inputs) (held : IsHeldFrame problem.points frame) (s : Solution) (c : Cert) where
  clear : (n : ℕ) → (1 < n → s.uid ≡ problem.uid) → (2 < n → c.uid ≡ problem.uid) → (3 < n → (length s.lists ≡ length problem.inputs) × (c.inputs ≡ length problem.inputs))
      → (4 < n → c.copies ≡ sum problem.weights)
      → (5 < n → (t : ℕ) (f : RoundFault) → ¬ IsScoreFault problem.points problem.inputs s.lists (score.Round t f)) → (6 < n → (t : ℕ) → ¬ IsScoreFault problem.points problem.inputs s.lists (score.NoCommonCentre t))
      → (7 < n → c.total ≡ total problem.weights s.lists) → (8 < n → AreSoundTo c.version problem.points problem.inputs frame c.rows (length c.rows)) → (9 < n → IsAssignment (sum problem.weights) c.perm) → (10 < n → c.bound ≡ bound_by problem.weights c.rows c.perm)
      → (other : No) → number_of other < n → ¬ Holds problem frame s c other
  clear n u v k m a b t r p d UidSolution l h = h (u l)
  clear n u v k m a b t r p d UidCertificate l h = h (v l)
  clear n u v k m a b t r p d (InputCount said is) l h = elim h.2 [ inl e ↦ h.1 (e ∙ ((k l).0 ∙ sym h.0)) | inr q ↦ h.1 (q.1 ∙ ((k l).1 ∙ sym h.0)) ]
  clear n u v k m a b t r p d (CopyCount said is) l h = h.2 (h.0 ∙ (m l ∙ sym h.1))
  clear n u v k m a b t r p d (Round i f) l h = a l i f h
  clear n u v k m a b t r p d (NoCommonCentre i) l h = b l i h
  clear n u v k m a b t r p d (TotalWrong said is) l h = h.2 (h.0 ∙ (t l ∙ sym h.1))
  clear n u v k m a b t r p d (RowWrong i j why) l h = rows_clear c.version problem.points problem.inputs frame is c.rows (r l) i j why h
  clear n u v k m a b t r p d (NotPermutation q) l h = assigned_clear (sum problem.weights) c.perm (p l) q h.0
  clear n u v k m a b t r p d (BoundWrong said is) l h = h.2 (h.0 ∙ (d l ∙ sym h.1))

  plan_clear : (centre : List Edge) → IsPlan problem.points problem.inputs centre s.lists → AreAllDistinct s.lists → ((t : ℕ) (f : RoundFault) → ¬ IsScoreFault problem.points problem.inputs s.lists (score.Round t f)) × ((t : ℕ) → ¬ IsScoreFault problem.points problem.inputs s.lists (score.NoCommonCentre t))
  plan_clear centre plan distinct =
      (λ t f. plans_have_no_fault problem.points problem.inputs centre s.lists (score.Round t f) is plan distinct (λ e. cc), λ t. plans_have_no_fault problem.points problem.inputs centre s.lists (score.NoCommonCentre t) is plan distinct (λ e. cc))

  verified_clear : IsVerified problem frame s c → (fault : No) → ¬ Holds problem frame s c fault
  verified_clear V fault =
      let plan = plan_clear V.centre V.plan V.distinct in
      clear 11 (λ _. V.solution_uid) (λ _. V.certificate_uid) (λ _. (V.lists, V.inputs)) (λ _. V.copies) (λ _. plan.0) (λ _. plan.1) (λ _. V.total) (λ _. V.rows) (λ _. V.assignment) (λ _. V.bound) fault (below fault)
    where
      below : (f : No) → number_of f < 11
      below UidSolution = omega arith
      below UidCertificate = omega arith
      below (InputCount said is) = omega arith
      below (CopyCount said is) = omega arith
      below (Round i f) = omega arith
      below (NoCommonCentre i) = omega arith
      below (TotalWrong said is) = omega arith
      below (RowWrong i j why) = omega arith
      below (NotPermutation q) = omega arith
      below (BoundWrong said is) = omega arith

  name_first : (fault : No) → IsNameFault problem s c fault → IsFirstNo problem frame s c fault
  name_first UidSolution h = record { frame_held = held; holds = h; first = λ other l g. clear 1 (λ l. absurd (omega (arith, l))) (λ l. absurd (omega (arith, l))) (λ l. absurd (omega (arith, l))) (λ l. absurd (omega (arith, l))) (λ l. absurd (omega (arith, l))) (λ l. absurd (omega (arith, l))) (λ l. absurd (omega (arith, l))) (λ l. absurd (omega (arith, l))) (λ l. absurd (omega (arith, l))) (λ l. absurd (omega (arith, l))) other l g }
  name_first UidCertificate h = record { frame_held = held; holds = h.1; first = λ other l g. clear 2 (λ _. h.0) (λ l. absurd (omega (arith, l))) (λ l. absurd (omega (arith, l))) (λ l. absurd (omega (arith, l))) (λ l. absurd (omega (arith, l))) (λ l. absurd (omega (arith, l))) (λ l. absurd (omega (arith, l))) (λ l. absurd (omega (arith, l))) (λ l. absurd (omega (arith, l))) (λ l. absurd (omega (arith, l))) other l g }
  name_first (InputCount said is) h = record { frame_held = held; holds = h.2; first = λ other l g. clear 3 (λ _. h.0) (λ _. h.1) (λ l. absurd (omega (arith, l))) (λ l. absurd (omega (arith, l))) (λ l. absurd (omega (arith, l))) (λ l. absurd (omega (arith, l))) (λ l. absurd (omega (arith, l))) (λ l. absurd (omega (arith, l))) (λ l. absurd (omega (arith, l))) (λ l. absurd (omega (arith, l))) other l g }
  name_first (CopyCount said is) h = record { frame_held = held; holds = h.4; first = λ other l g. clear 4 (λ _. h.0) (λ _. h.1) (λ _. (h.2, h.3)) (λ l. absurd (omega (arith, l))) (λ l. absurd (omega (arith, l))) (λ l. absurd (omega (arith, l))) (λ l. absurd (omega (arith, l))) (λ l. absurd (omega (arith, l))) (λ l. absurd (omega (arith, l))) (λ l. absurd (omega (arith, l))) other l g }
  name_first (Round i f) h = absurd h
  name_first (NoCommonCentre i) h = absurd h
  name_first (TotalWrong said is) h = absurd h
  name_first (RowWrong i j why) h = absurd h
  name_first (NotPermutation q) h = absurd h
  name_first (BoundWrong said is) h = absurd h

  pub on_name : (fault : No) → IsNameFault problem s c fault → OnNo problem s c (verify.No fault)
  on_name fault h = (frame, name_first fault h)

  module _ (named : AreNamed problem s c) where
    round_clear : (i : ℕ) → IsScoreFault problem.points problem.inputs s.lists (score.NoCommonCentre i) → (t : ℕ) (f : RoundFault) → ¬ IsScoreFault problem.points problem.inputs s.lists (score.Round t f)
    round_clear i h t f g = let e = score_faults_are_unique problem.points problem.inputs s.lists (score.NoCommonCentre i) (score.Round t f) is (λ e. cc) (λ e. cc) h g in absurd (cc)

    pub on_plan : (e : VerifyFault) → IsPlanFault problem s e → OnNo problem s c e
    on_plan (verify.No (Round i f)) h = (frame, record { frame_held = held; holds = h; first = λ other l g. clear 5 (λ _. named.solution_uid) (λ _. named.certificate_uid) (λ _. (named.lists, named.inputs)) (λ _. named.copies) (λ l. absurd (omega (arith, l))) (λ l. absurd (omega (arith, l))) (λ l. absurd (omega (arith, l))) (λ l. absurd (omega (arith, l))) (λ l. absurd (omega (arith, l))) (λ l. absurd (omega (arith, l))) other l g })
    on_plan (verify.No (NoCommonCentre i)) h = (frame, record { frame_held = held; holds = h; first = λ other l g. clear 6 (λ _. named.solution_uid) (λ _. named.certificate_uid) (λ _. (named.lists, named.inputs)) (λ _. named.copies) (λ _. round_clear i h) (λ l. absurd (omega (arith, l))) (λ l. absurd (omega (arith, l))) (λ l. absurd (omega (arith, l))) (λ l. absurd (omega (arith, l))) (λ l. absurd (omega (arith, l))) other l g })
    on_plan (verify.No UidSolution) h = absurd h
    on_plan (verify.No UidCertificate) h = absurd h
    on_plan (verify.No (InputCount said is)) h = absurd h
    on_plan (verify.No (CopyCount said is)) h = absurd h
    on_plan (verify.No (TotalWrong said is)) h = absurd h
    on_plan (verify.No (RowWrong i j why)) h = absurd h
    on_plan (verify.No (NotPermutation q)) h = absurd h
    on_plan (verify.No (BoundWrong said is)) h = absurd h
    on_plan verify.OutOfMemory h = tt

    module _ (centre : List Edge) (plan : IsPlan problem.points problem.inputs centre s.lists) (distinct : AreAllDistinct s.lists) where
      pub on_total : (said sum : ℕ) → Holds problem frame s c (TotalWrong said sum) → OnNo problem s c (verify.No (TotalWrong said sum))
      on_total said sum h = (frame, record { frame_held = held; holds = h; first = λ other l g. clear 7 (λ _. named.solution_uid) (λ _. named.certificate_uid) (λ _. (named.lists, named.inputs)) (λ _. named.copies) (λ _. (plan_clear centre plan distinct).0) (λ _. (plan_clear centre plan distinct).1) (λ l. absurd (omega (arith, l))) (λ l. absurd (omega (arith, l))) (λ l. absurd (omega (arith, l))) (λ l. absurd (omega (arith, l))) other l g })

      module _ (same : c.total ≡ total problem.weights s.lists) where
        pub on_rows : (e : VerifyFault) → IsRowRefusal c.version problem.points problem.inputs frame c.rows e → OnNo problem s c e
        on_rows (verify.No (RowWrong i j why)) h = (frame, record { frame_held = held; holds = h; first = λ other l g. clear 8 (λ _. named.solution_uid) (λ _. named.certificate_uid) (λ _. (named.lists, named.inputs)) (λ _. named.copies) (λ _. (plan_clear centre plan distinct).0) (λ _. (plan_clear centre plan distinct).1) (λ _. same) (λ l. absurd (omega (arith, l))) (λ l. absurd (omega (arith, l))) (λ l. absurd (omega (arith, l))) other l g })
        on_rows (verify.No UidSolution) h = absurd h
        on_rows (verify.No UidCertificate) h = absurd h
        on_rows (verify.No (InputCount said is)) h = absurd h
        on_rows (verify.No (CopyCount said is)) h = absurd h
        on_rows (verify.No (Round i f)) h = absurd h
        on_rows (verify.No (NoCommonCentre i)) h = absurd h
        on_rows (verify.No (TotalWrong said is)) h = absurd h
        on_rows (verify.No (NotPermutation q)) h = absurd h
        on_rows (verify.No (BoundWrong said is)) h = absurd h
        on_rows verify.OutOfMemory h = tt

        module _ (rows : AreSoundTo c.version problem.points problem.inputs frame c.rows (length c.rows)) where
          pub on_place : (p : ℕ) → IsFirstWrongPlace (sum problem.weights) c.perm p → OnNo problem s c (verify.No (NotPermutation p))
          on_place p h = (frame, record { frame_held = held; holds = h; first = λ other l g. clear 9 (λ _. named.solution_uid) (λ _. named.certificate_uid) (λ _. (named.lists, named.inputs)) (λ _. named.copies) (λ _. (plan_clear centre plan distinct).0) (λ _. (plan_clear centre plan distinct).1) (λ _. same) (λ _. rows) (λ l. absurd (omega (arith, l))) (λ l. absurd (omega (arith, l))) other l g })

          pub on_bound : IsAssignment (sum problem.weights) c.perm → (said bound : ℕ) → Holds problem frame s c (BoundWrong said bound) → OnNo problem s c (verify.No (BoundWrong said bound))
          on_bound assigned said bound h = (frame, record { frame_held = held; holds = h; first = λ other l g. clear 10 (λ _. named.solution_uid) (λ _. named.certificate_uid) (λ _. (named.lists, named.inputs)) (λ _. named.copies) (λ _. (plan_clear centre plan distinct).0) (λ _. (plan_clear centre plan distinct).1) (λ _. same) (λ _. rows) (λ _. assigned) (λ l. absurd (omega (arith, l))) other l g })

pub shown_clear : (problem : Problem) (s : Solution) (c : Cert) (fault : No) → IsProblem problem.points problem.inputs → IsShown problem s c → ¬ OnNo problem s c (verify.No fault)
shown_clear problem s c fault is (frame, V) (other, F) =
    verified_clear problem frame is V.frame_held s c V fault (subst (λ held. Holds problem held s c fault) (one_held problem.points other frame F.frame_held V.frame_held) F.holds)
