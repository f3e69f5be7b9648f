-- What keeps a certificate from showing the total and the bound of a solution, and which fault is the first.
use Rattle.std.specs.Prelude.{◌≡◌, ◌≢◌, ◌⊎◌, ⊤, ℕ, ◌-◌, ◌<◌, ◌≤◌, Option, Some, None, option_map, cond, nat_eq, List, length, take, map, sum, Contains, slice_get}
use Rattle.geo_orient.specs.declared.Point.{Point}
use Rattle.edge_table.specs.declared.edge.Edge.{Edge}
use Rattle.tri_theory.specs.Rounds.{IsPlan, total}
use Rattle.tri_check.specs.Problems.{Problem}
use Rattle.assignment_law.specs.Assignments.{IsAssignment, assignment_bound}
use Rattle.bound_law.specs.Copies.{copy_lower}
use Rattle.plan_law.specs.Books.{PairRow, lower_of}
use Rattle.flip_cnf.specs.HeldFrames.{HeldFrame, IsHeldFrame}
use Rattle.pair_rows.specs.declared.row.Evidence.{Evidence}
use Rattle.pair_rows.specs.declared.row.End.{End}
use Rattle.pair_rows.specs.declared.row.Row.{Row}
use Rattle.cert_text.specs.declared.cert.Cert.{Cert}
use Rattle.solution_json.specs.declared.solution.Solution.{Solution}
use Rattle.replay.specs.declared.fault.ScoreFault.TheVariants as score
use Rattle.replay.specs.Scores.{AreAllDistinct, IsScoreFault}
use Rattle.verify_core.specs.declared.fault.RowWhy.{RowWhy}
use Rattle.verify_core.specs.declared.fault.No.{No}
use Rattle.verify_core.specs.declared.fault.No.TheVariants.{UidSolution, UidCertificate, InputCount, CopyCount, Round, NoCommonCentre, TotalWrong, RowWrong, NotPermutation, BoundWrong}
use Rattle.verify_core.specs.declared.fault.VerifyFault.{VerifyFault}
use Rattle.verify_core.specs.declared.fault.VerifyFault.TheVariants as verify
use Rattle.verify_core.specs.RowFaults.{IsSoundRow, IsFirstWhy}

-- ---- rows
-- the pair of the row before this place, where there is one
abbrev pub pair_before : List Row → ℕ → Option Edge
pair_before rows r = cond (nat_eq r 0) None (option_map (λ row. (row.i, row.j)) (slice_get rows (r - 1)))

module _ (version : ℕ) (points : List Point) (inputs : List (List Edge)) (frame : HeldFrame) (rows : List Row) where
  -- the rows before this place are sound, each after the one before
  abbrev pub AreSoundTo : ℕ → Type 0
  AreSoundTo r = (q : ℕ) (row : Row) → q < r → slice_get rows q ≡ Some row → IsSoundRow version points inputs frame (pair_before rows q) row

  -- the first row that has a fault, and its first fault
  pub record IsFirstRowFault (i j : ℕ) (why : RowWhy) : Type 0 where
    pub place : ℕ
    pub row : Row
    pub there : slice_get rows place ≡ Some row
    pub first_input : i ≡ row.i
    pub second_input : j ≡ row.j
    pub before : AreSoundTo place
    pub first_why : IsFirstWhy version points inputs frame (pair_before rows place) row why

  -- a refusal of the rows names it, or there is no memory
  abbrev pub IsRowRefusal : VerifyFault → Type 0
  IsRowRefusal (verify.No (RowWrong i j why)) = IsFirstRowFault i j why
  IsRowRefusal (verify.No fault) = ⊥
  IsRowRefusal verify.OutOfMemory = ⊤

-- ---- the permutation and the bound
-- the number at this place is none below the count, or stood before
abbrev pub IsWrongPlace : ℕ → List ℕ → ℕ → Type 0
IsWrongPlace count perm p = (x : ℕ) × (slice_get perm p ≡ Some x) × ((count ≤ x) ⊎ Contains (take p perm) x)

abbrev pub IsFirstWrongPlace : ℕ → List ℕ → ℕ → Type 0
IsFirstWrongPlace count perm p = IsWrongPlace count perm p × ((q : ℕ) → q < p → ¬ IsWrongPlace count perm q)

-- what a row shows, as the laws of bounds know it
abbrev pub pair_row : Row → PairRow (Evidence × End)
pair_row row = record { low = row.i; high = row.j; lower = row.lower; evidence = (row.evidence, row.end) }

-- the bound of rows and a permutation of the copies of the inputs
abbrev pub bound_by : List ℕ → List Row → List ℕ → ℕ
bound_by weights rows perm = assignment_bound (copy_lower weights (lower_of (map pair_row rows))) perm

-- ---- the faults
-- a number of lists, or else of inputs, that isn't that of the instance's inputs
abbrev pub IsCountFault : Problem → Solution → Cert → ℕ → ℕ → Type 0
IsCountFault problem s c said is = (is ≡ length problem.inputs) × (said ≢ is) × ((said ≡ length s.lists) ⊎ ((length s.lists ≡ is) × (said ≡ c.inputs)))

-- a number of copies that isn't the instance's
abbrev pub IsCopyFault : Problem → Cert → ℕ → ℕ → Type 0
IsCopyFault problem c said is = (said ≡ c.copies) × (is ≡ sum problem.weights) × (said ≢ is)

module _ (problem : Problem) (frame : HeldFrame) (s : Solution) (c : Cert) where
  -- the fault is there
  abbrev pub Holds : No → Type 0
  Holds UidSolution = s.uid ≢ problem.uid
  Holds UidCertificate = c.uid ≢ problem.uid
  Holds (InputCount said is) = IsCountFault problem s c said is
  Holds (CopyCount said is) = IsCopyFault problem c said is
  Holds (Round t fault) = IsScoreFault problem.points problem.inputs s.lists (score.Round t fault)
  Holds (NoCommonCentre t) = IsScoreFault problem.points problem.inputs s.lists (score.NoCommonCentre t)
  Holds (TotalWrong said is) = (said ≡ c.total) × (is ≡ total problem.weights s.lists) × (said ≢ is)
  Holds (RowWrong i j why) = IsFirstRowFault c.version problem.points problem.inputs frame c.rows i j why
  Holds (NotPermutation p) = IsFirstWrongPlace (sum problem.weights) c.perm p
  Holds (BoundWrong said is) = (said ≡ c.bound) × (is ≡ bound_by problem.weights c.rows c.perm) × (said ≢ is)

  -- the solution and the certificate are the instance's, the lists are a plan with the certificate's total in which no round names an edge twice, the rows are sound, and the bound is that of rows and permutation
  pub record IsVerified : Type 0 where
    pub frame_held : IsHeldFrame problem.points frame
    pub solution_uid : s.uid ≡ problem.uid
    pub certificate_uid : c.uid ≡ problem.uid
    pub lists : length s.lists ≡ length problem.inputs
    pub inputs : c.inputs ≡ length problem.inputs
    pub copies : c.copies ≡ sum problem.weights
    pub centre : List Edge
    pub plan : IsPlan problem.points problem.inputs centre s.lists
    pub distinct : AreAllDistinct s.lists
    pub total : c.total ≡ total problem.weights s.lists
    pub rows : AreSoundTo c.version problem.points problem.inputs frame c.rows (length c.rows)
    pub assignment : IsAssignment (sum problem.weights) c.perm
    pub bound : c.bound ≡ bound_by problem.weights c.rows c.perm

-- the certificate shows the total of the solution and its bound
abbrev pub IsShown : Problem → Solution → Cert → Type 0
IsShown problem s c = (frame : HeldFrame) × IsVerified problem frame s c

-- the solution and the certificate are of the instance, with as many lists, inputs and copies
pub record AreNamed (problem : Problem) (s : Solution) (c : Cert) : Type 0 where
  pub solution_uid : s.uid ≡ problem.uid
  pub certificate_uid : c.uid ≡ problem.uid
  pub lists : length s.lists ≡ length problem.inputs
  pub inputs : c.inputs ≡ length problem.inputs
  pub copies : c.copies ≡ sum problem.weights

-- the order in which faults are looked for
abbrev pub number_of : No → ℕ
number_of UidSolution = 1
number_of UidCertificate = 2
number_of (InputCount said is) = 3
number_of (CopyCount said is) = 4
number_of (Round t fault) = 5
number_of (NoCommonCentre t) = 6
number_of (TotalWrong said is) = 7
number_of (RowWrong i j why) = 8
number_of (NotPermutation p) = 9
number_of (BoundWrong said is) = 10

-- the fault is there, and no earlier one is
pub record IsFirstNo (problem : Problem) (frame : HeldFrame) (s : Solution) (c : Cert) (fault : No) : Type 0 where
  pub frame_held : IsHeldFrame problem.points frame
  pub holds : Holds problem frame s c fault
  pub first : (other : No) → number_of other < number_of fault → ¬ Holds problem frame s c other

-- a refusal names the first fault, or there is no memory
abbrev pub OnNo : Problem → Solution → Cert → VerifyFault → Type 0
OnNo problem s c (verify.No fault) = (frame : HeldFrame) × IsFirstNo problem frame s c fault
OnNo problem s c verify.OutOfMemory = ⊤

-- ---- what the verifier's steps find
-- the first fault of names and counts
abbrev pub IsNameFault : Problem → Solution → Cert → No → Type 0
IsNameFault problem s c UidSolution = s.uid ≢ problem.uid
IsNameFault problem s c UidCertificate = (s.uid ≡ problem.uid) × (c.uid ≢ problem.uid)
IsNameFault problem s c (InputCount said is) = (s.uid ≡ problem.uid) × (c.uid ≡ problem.uid) × IsCountFault problem s c said is
IsNameFault problem s c (CopyCount said is) = (s.uid ≡ problem.uid) × (c.uid ≡ problem.uid) × (length s.lists ≡ length problem.inputs) × (c.inputs ≡ length problem.inputs) × IsCopyFault problem c said is
IsNameFault problem s c fault = ⊥

-- the first fault of the lists
abbrev pub IsPlanFault : Problem → Solution → VerifyFault → Type 0
IsPlanFault problem s (verify.No (Round t fault)) = IsScoreFault problem.points problem.inputs s.lists (score.Round t fault)
IsPlanFault problem s (verify.No (NoCommonCentre t)) = IsScoreFault problem.points problem.inputs s.lists (score.NoCommonCentre t)
IsPlanFault problem s (verify.No fault) = ⊥
IsPlanFault problem s verify.OutOfMemory = ⊤
