-- What a run of the program says of the files that its words name.
use Rattle.std.specs.Prelude.{◌≡◌, ◌≢◌, ◌⊎◌, ℕ, ◌+◌, ◌<◌, ◌≤◌, List, [], ◌∷◌, ◌++◌, take, length, Option, Some, None, Contains}
use Rattle.std.specs.FinMap as map
use Rattle.host_io.specs.Store.{Held, Rose, Leaves}
use Rattle.instance_json.specs.declared.fault.Form.{Form}
use Rattle.instance_json.specs.Faults.{HasForm, IsFirstFormFault}
use Rattle.instance_json.specs.Forms.{Spells}
use Rattle.tri_check.specs.declared.fault.Bad.{Bad}
use Rattle.tri_check.specs.declared.raw.RawInstance.{RawInstance}
use Rattle.tri_check.specs.Faults.{IsFirstFault, IsValid}
use Rattle.tri_check.specs.Accepted.{IsAccepted}
use Rattle.tri_check.specs.Problems.{Problem, IsProblem}
use Rattle.edge_table.specs.declared.edge.Edge.{Edge}
use Rattle.tri_theory.specs.Rounds.{IsPlan, total}
use Rattle.solution_json.specs.declared.fault.SolForm.{SolForm}
use Rattle.solution_json.specs.declared.solution.Solution.{Solution}
use Rattle.solution_json.specs.Faults.{IsFirstSolFault}
use Rattle.solution_json.specs.Texts.{text_of}
use Rattle.solution_json.specs.Faults as solution_fault
use Rattle.solution_json.specs.Forms as solution_form
use Rattle.replay.specs.declared.fault.ScoreFault.{ScoreFault}
use Rattle.replay.specs.declared.fault.ScoreFault.TheVariants.{OutOfMemory}
use Rattle.replay.specs.Scores.{IsScoreFault, AreAllDistinct}
use Rattle.centre_run.specs.declared.status.Status.{Status}
use Rattle.centre_run.specs.declared.status.Status.TheVariants.{Done, Words, Refused, FlipBudget, Memory, ReadFault, No}
use Rattle.centre_words.specs.declared.asked.Asked.{Asked}
use Rattle.centre_words.specs.declared.asked.Asked.TheVariants.{Check, Score, Solve, Verify, Trace, Bench}
use Rattle.centre_words.specs.Words.{Asks, IsUnasked}
use Rattle.printed_lines.specs.Lines.{words_line, valid_line, bad_line, form_line, total_line, solution_form_line, other_uid_line, score_fault_line, solved_line, opening_line, budget_line, flips_line, no_such_input_line}
use Rattle.printed_lines.specs.VerifyLines.{cert_form_line, yes_line, no_line}
use Rattle.line_text.specs.declared.fault.TextFault.{TextFault}
use Rattle.cert_text.specs.declared.cert.Cert.{Cert}
use Rattle.cert_text.specs.Forms as cert_form
use Rattle.cert_text.specs.Texts.{cert_text}
use Rattle.verify_core.specs.declared.fault.No as no
use Rattle.verify_core.specs.declared.fault.VerifyFault.TheVariants as verify
use Rattle.verify_core.specs.Faults.{IsShown, OnNo}
use Rattle.lawson_start.specs.Starts.{IsOverBudget, IsWholeRun}
use Rattle.book_solve.specs.declared.order.Order.{Order}
use Rattle.gen_instance.specs.Generated.{IsGenerated}
use Rattle.plan_law.specs.Plans.{plan_total, IsSettled}
use Rattle.plan_law.specs.Books.{bound}
use Rattle.plan_law.specs.Solving.{AreLinesInOrder, AreLinesOfWorkers}
use Rattle.book_solve.specs.Solved.{log_budget, turns_for, IsSolvedBook}
use Rattle.book_core.specs.HeldBooks.{HeldBook, now_of, IsBelowPlans}
use Rattle.book_cert.specs.Written.{IsWritten, IsReplayable, HasBestAssignment, AreAnswersThenSettling}
use Rattle.centre_run.specs.declared.solving.SolveOptions.{SolveOptions}
use Rattle.centre_run.specs.declared.solving.Texts.{Texts}
use Rattle.centre_run.specs.Orders.{pairs_of, bench_order, order_of}

-- ---- the files

-- where the store tells what it holds, these bytes are held under the name. Where it doesn't tell, any may be
abbrev pub MayHold : Option Held → List ℕ → List ℕ → Type 0
MayHold None name bytes = Unit {0}
MayHold (Some held) name bytes = map.get held name ≡ Some bytes

-- the store tells what it holds, and the name isn't held
abbrev pub IsUnheld : Option Held → List ℕ → Type 0
IsUnheld None name = ⊥
IsUnheld (Some held) name = map.get held name ≡ None

-- ---- instances

-- the bytes have the form of an instance, and spell a valid one
abbrev pub SpellsValid : List ℕ → RawInstance → Type 0
SpellsValid bytes raw = HasForm bytes × Spells bytes raw × IsValid raw.points raw.inputs raw.weights

-- the line names the first fault of the bytes as an instance: one of their form, or else one of what they spell
abbrev pub NamesInstanceFault : List ℕ → List ℕ → Type 0
NamesInstanceFault bytes line =
    ((form : Form) × IsFirstFormFault bytes form × (line ≡ form_line form))
    ⊎ ((raw : RawInstance) × (bad : Bad) × Spells bytes raw × IsFirstFault raw.points raw.inputs raw.weights bad × (line ≡ bad_line bad))

-- the bytes have the form of an instance and spell a valid one, which is this one
pub record SpellsInstance (bytes : List ℕ) (instance : Problem) : Type 0 where
  pub raw : RawInstance
  pub valid : SpellsValid bytes raw
  pub accepted : IsAccepted raw.uid raw.points raw.inputs raw.weights instance
  pub problem : IsProblem instance.points instance.inputs

-- ---- solutions

-- the bytes have the form of a solution, and spell this one
abbrev pub SpellsSolution : List ℕ → Solution → Type 0
SpellsSolution bytes solution = solution_fault.HasForm bytes × solution_form.Spells bytes solution

-- the solution is one of the instance, and its lists lead from the inputs, in order, to one centre; no round names an edge twice
pub record IsSolved (instance : Problem) (solution : Solution) : Type 0 where
  pub uid : solution.uid ≡ instance.uid
  pub centre : List Edge
  pub plan : IsPlan instance.points instance.inputs centre solution.lists
  pub distinct : AreAllDistinct solution.lists

-- the line names the first fault of a solution of the instance: its uid is another one, or else its lists have one
abbrev pub NamesScoreFault : Problem → Solution → List ℕ → Type 0
NamesScoreFault instance solution line =
    ((solution.uid ≢ instance.uid) × (line ≡ other_uid_line))
    ⊎ ((fault : ScoreFault) × (solution.uid ≡ instance.uid) × (fault ≢ OutOfMemory) × IsScoreFault instance.points instance.inputs solution.lists fault × (line ≡ score_fault_line fault))

-- the total of a solution, or its first fault
abbrev pub SolutionSays : Problem → Solution → Status → List ℕ → Type 0
SolutionSays instance solution Done line = IsSolved instance solution × (line ≡ total_line (total instance.weights solution.lists))
SolutionSays instance solution Refused line = NamesScoreFault instance solution line
SolutionSays instance solution _ line = ⊥

-- what is said of raw values: their first fault, or else what is said of the instance that they are
abbrev pub RawSays : RawInstance → (Problem → Status → List ℕ → Type 0) → Status → List ℕ → Type 0
RawSays raw OfInstance status line =
    ((bad : Bad) × (status ≡ Refused) × IsFirstFault raw.points raw.inputs raw.weights bad × (line ≡ bad_line bad))
    ⊎ ((instance : Problem) × IsAccepted raw.uid raw.points raw.inputs raw.weights instance × IsProblem instance.points instance.inputs × OfInstance instance status line)

-- the line names the first fault of the form of the instance, or else of the form of the solution, or else of the instance
abbrev pub NamesFileFault : List ℕ → List ℕ → List ℕ → Type 0
NamesFileFault bytes others line =
    ((form : Form) × IsFirstFormFault bytes form × (line ≡ form_line form))
    ⊎ (((form : SolForm) × HasForm bytes × IsFirstSolFault others form × (line ≡ solution_form_line form))
    ⊎ ((raw : RawInstance) × (bad : Bad) × solution_fault.HasForm others × Spells bytes raw × IsFirstFault raw.points raw.inputs raw.weights bad × (line ≡ bad_line bad)))

-- ---- certificates

-- the line names the first fault of the bytes as a certificate, and they spell none
abbrev pub NamesCertFault : List ℕ → List ℕ → Type 0
NamesCertFault bytes line = (fault : TextFault) × cert_form.IsFirstCertFault bytes fault × ((cert : Cert) → ¬ cert_form.Spells bytes cert) × (line ≡ cert_form_line fault)

-- a total and a bound are proved: the solution is one of the instance with that total, so its lists lead from the inputs, in order, to one centre, and no plan of the instance, whoever finds it, has a total below the bound
pub record IsProved (instance : Problem) (solution : Solution) (proved bound : ℕ) : Type 0 where
  pub solved : IsSolved instance solution
  pub reached : proved ≡ total instance.weights solution.lists
  pub least : (centre : List Edge) (schedules : List (List (List Edge))) → IsPlan instance.points instance.inputs centre schedules → bound ≤ total instance.weights schedules

-- a solution and a certificate that `solve` finds for an instance: they are those of a solved book, the total and the bound are proved, a verifier finds no fault in them, and each is what its text spells
pub record AreFound (instance : Problem) (order : Order) (solution : Solution) (cert : Cert) : Type 0 where
  pub written : IsWritten instance order solution cert
  pub proved : IsProved instance solution cert.total cert.bound
  pub shown : IsShown instance solution cert
  pub solution_text : SpellsSolution (text_of solution) solution
  pub certificate_text : cert_form.Spells (cert_text cert) cert

-- what a certificate says of a solution of the instance: its total and its bound, which it shows and which are proved, or the first fault
abbrev pub CertificateSays : Problem → Solution → Cert → Status → List ℕ → Type 0
CertificateSays instance solution cert Done line = IsShown instance solution cert × IsProved instance solution cert.total cert.bound × (line ≡ yes_line cert.total cert.bound)
CertificateSays instance solution cert No line = (fault : no.No) × OnNo instance solution cert (verify.No fault) × (line ≡ no_line fault)
CertificateSays instance solution cert _ line = ⊥

-- the line names the first fault of the form of the instance, or else of the form of the solution, or else of the form of the certificate, or else of the instance
abbrev pub NamesVerifyFault : List ℕ → List ℕ → List ℕ → List ℕ → Type 0
NamesVerifyFault bytes others last line =
    ((form : Form) × IsFirstFormFault bytes form × (line ≡ form_line form))
    ⊎ (((form : SolForm) × HasForm bytes × IsFirstSolFault others form × (line ≡ solution_form_line form))
    ⊎ ((HasForm bytes × solution_fault.HasForm others × NamesCertFault last line)
    ⊎ ((raw : RawInstance) × (bad : Bad) × (cert : Cert) × solution_fault.HasForm others × cert_form.Spells last cert × Spells bytes raw × IsFirstFault raw.points raw.inputs raw.weights bad × (line ≡ bad_line bad))))

-- ---- the commands

-- what `check` says of the bytes of a file: that they spell a valid instance, or their first fault
abbrev pub CheckSays : List ℕ → Status → List ℕ → Type 0
CheckSays bytes Done line = (raw : RawInstance) × SpellsValid bytes raw × (line ≡ valid_line (length raw.points) (length raw.inputs))
CheckSays bytes Refused line = NamesInstanceFault bytes line
CheckSays bytes _ line = ⊥

-- what `score` says of the bytes of two files: the first fault of one of them, or what the solution says
abbrev pub ScoreSays : List ℕ → List ℕ → Status → List ℕ → Type 0
ScoreSays bytes others status line =
    ((status ≡ Refused) × NamesFileFault bytes others line)
    ⊎ ((instance : Problem) × (solution : Solution) × SpellsInstance bytes instance × SpellsSolution others solution × SolutionSays instance solution status line)

-- what `solve` says of an instance, and the texts that it writes, if some: a solution and its certificate, with the total and the bound, or the first input whose run is longer than is allowed
abbrev pub OrderSays : Problem → Order → Status → List ℕ → Option Texts → Type 0
OrderSays instance order Done line texts =
    (solution : Solution) × (cert : Cert) × AreFound instance order solution cert × (line ≡ solved_line cert.total cert.bound) × (texts ≡ Some (record { solution = text_of solution; certificate = cert_text cert }))
OrderSays instance order FlipBudget line texts = (t : ℕ) × IsOverBudget instance.points instance.inputs order.flips t × (line ≡ budget_line t) × (texts ≡ None)
OrderSays instance order _ line texts = ⊥

-- what `solve` says of the bytes of a file: their first fault, or what it says of the instance that they spell
abbrev pub SolveSays : List ℕ → SolveOptions → Status → List ℕ → Option Texts → Type 0
SolveSays bytes options status line texts =
    ((status ≡ Refused) × NamesInstanceFault bytes line × (texts ≡ None))
    ⊎ ((instance : Problem) × SpellsInstance bytes instance × OrderSays instance (order_of instance options) status line texts)

-- what `verify` says of the bytes of three files: the first fault of one of them, or what the certificate says
abbrev pub VerifySays : List ℕ → List ℕ → List ℕ → Status → List ℕ → Type 0
VerifySays bytes others last status line =
    ((status ≡ Refused) × NamesVerifyFault bytes others last line)
    ⊎ ((instance : Problem) × (solution : Solution) × (cert : Cert) × SpellsInstance bytes instance × SpellsSolution others solution × cert_form.Spells last cert × CertificateSays instance solution cert status line)

-- what `trace` says of an instance: the number of flips of the whole run of the input with the place t, and the number of pairs of points, which no run has more flips than; or that there is no such input
abbrev pub RunSays : Problem → ℕ → Status → List ℕ → Type 0
RunSays instance t Done line = (flips : List Edge) × IsWholeRun instance.points instance.inputs t flips × (line ≡ flips_line (length flips) (pairs_of (length instance.points)))
RunSays instance t Refused line = (length instance.inputs ≤ t) × (line ≡ no_such_input_line t)
RunSays instance t _ line = ⊥

-- what `trace` says of the bytes of a file: their first fault, or what it says of the instance that they spell
abbrev pub TraceSays : List ℕ → ℕ → Status → List ℕ → Type 0
TraceSays bytes t status line =
    ((status ≡ Refused) × NamesInstanceFault bytes line)
    ⊎ ((instance : Problem) × SpellsInstance bytes instance × RunSays instance t status line)

-- what `bench` says of an instance: the totals of the first plan and of the last, and the bound of a book that was solved for it. No plan of the instance has a total below the bound
abbrev pub BookSays : Problem → ℕ → Status → List ℕ → Type 0
BookSays instance seed Done line =
    (b : HeldBook) × IsSolvedBook instance (bench_order instance seed) b × IsBelowPlans instance (bound (now_of b)) × (line ≡ opening_line (plan_total b.opening) (plan_total (now_of b).plan) (bound (now_of b)))
BookSays instance seed _ line = ⊥

-- what `bench` says: the first fault of the instance that the seed and the numbers of points and inputs name, or what it says of that instance
abbrev pub BenchSays : ℕ → ℕ → ℕ → Status → List ℕ → Type 0
BenchSays seed points inputs status line = (raw : RawInstance) × IsGenerated seed points inputs raw × RawSays raw (λ instance. BookSays instance seed) status line

-- files that are written: their names and their bytes
abbrev pub Files : Type 0
Files = List (List ℕ × List ℕ)

-- the two texts under the two names, in this order, where there are some
abbrev pub files_under : List ℕ → List ℕ → Option Texts → Files
files_under solution certificate None = []
files_under solution certificate (Some texts) = (solution, texts.solution) ∷ (certificate, texts.certificate) ∷ []

-- what a command says of the files, and the files that it writes
abbrev pub CommandSays : Option Held → Asked → Status → List ℕ → Files → Type 0
CommandSays held (Check instance) status line files = (bytes : List ℕ) × MayHold held instance bytes × CheckSays bytes status line × (files ≡ [])
CommandSays held (Score instance solution) status line files =
    (bytes : List ℕ) × (others : List ℕ) × MayHold held instance bytes × MayHold held solution others × ScoreSays bytes others status line × (files ≡ [])
CommandSays held (Solve instance solution certificate workers turns seed flips) status line files =
    (bytes : List ℕ) × (texts : Option Texts) × MayHold held instance bytes × SolveSays bytes (record { workers = workers; turns = turns; seed = seed; flips = flips }) status line texts × (files ≡ files_under solution certificate texts)
CommandSays held (Verify instance solution certificate) status line files =
    (bytes : List ℕ) × (others : List ℕ) × (last : List ℕ) × MayHold held instance bytes × MayHold held solution others × MayHold held certificate last × VerifySays bytes others last status line × (files ≡ [])
CommandSays held (Trace instance t) status line files = (bytes : List ℕ) × MayHold held instance bytes × TraceSays bytes t status line × (files ≡ [])
CommandSays held (Bench seed points inputs) status line files = BenchSays seed points inputs status line × (files ≡ [])

-- a file that the command reads isn't held
abbrev pub LacksFile : Option Held → Asked → Type 0
LacksFile held (Check instance) = IsUnheld held instance
LacksFile held (Score instance solution) = IsUnheld held instance ⊎ IsUnheld held solution
LacksFile held (Solve instance solution certificate workers turns seed flips) = IsUnheld held instance
LacksFile held (Verify instance solution certificate) = IsUnheld held instance ⊎ (IsUnheld held solution ⊎ IsUnheld held certificate)
LacksFile held (Trace instance t) = IsUnheld held instance
LacksFile held (Bench seed points inputs) = ⊥

-- how many files the command reads or writes
abbrev pub files_of : Asked → ℕ
files_of (Check instance) = 1
files_of (Score instance solution) = 2
files_of (Solve instance solution certificate workers turns seed flips) = 3
files_of (Verify instance solution certificate) = 3
files_of (Trace instance t) = 1
files_of (Bench seed points inputs) = 0

-- the names under which the command writes
abbrev pub written_by : Asked → List (List ℕ)
written_by (Check instance) = []
written_by (Score instance solution) = []
written_by (Solve instance solution certificate workers turns seed flips) = solution ∷ certificate ∷ []
written_by (Verify instance solution certificate) = []
written_by (Trace instance t) = []
written_by (Bench seed points inputs) = []

-- the words ask to verify a certificate
abbrev pub AsksToVerify : List (List ℕ) → Type 0
AsksToVerify words = (instance : List ℕ) × (solution : List ℕ) × (certificate : List ℕ) × Asks words (Verify instance solution certificate)

-- the words ask for a solution, by so many workers
abbrev pub AsksForSolution : List (List ℕ) → ℕ → Type 0
AsksForSolution words workers = (instance : List ℕ) × (solution : List ℕ) × (certificate : List ℕ) × (turns : ℕ) × (seed : ℕ) × (flips : Option ℕ) × Asks words (Solve instance solution certificate workers turns seed flips)

-- the words ask for workers
abbrev pub AsksForWorkers : List (List ℕ) → Type 0
AsksForWorkers words = (workers : ℕ) × (0 < workers) × AsksForSolution words workers

-- the words ask for a solution with a number of flips that is given, and that is less than the pairs of points of the instance that the bytes under the name spell
abbrev pub AllowsFewFlips : List (List ℕ) → Option Held → Type 0
AllowsFewFlips words held =
    (instance : List ℕ) × (solution : List ℕ) × (certificate : List ℕ) × (workers : ℕ) × (turns : ℕ) × (seed : ℕ) × (flips : ℕ) × (bytes : List ℕ) × (problem : Problem)
    × Asks words (Solve instance solution certificate workers turns seed (Some flips)) × MayHold held instance bytes × SpellsInstance bytes problem × (flips < pairs_of (length problem.points))

-- what a run says, and the files that it writes: the status and the line that the words and the files call for. Memory and writes that fail aren't theirs to say
abbrev pub Says : List (List ℕ) → Option Held → Status → List ℕ → Files → Type 0
Says words held status line files =
    (IsUnasked words × (status ≡ Words) × (line ≡ words_line) × (files ≡ []))
    ⊎ ((c : Asked) × Asks words c × (CommandSays held c status line files ⊎ (LacksFile held c × (status ≡ ReadFault) × (line ≡ []) × (files ≡ []))))

-- ---- what was written

-- where the store tells, exactly these files were written, one after the other
abbrev pub AreWritten : Held → Held → Files → Type 0
AreWritten old new [] = new ≡ old
AreWritten old new (file ∷ files) = AreWritten (map.insert old file.0 file.1) new files

abbrev pub HasWritten : Option Held → Option Held → Files → Type 0
HasWritten None new files = new ≡ None
HasWritten (Some old) new files = (later : Held) × (new ≡ Some later) × AreWritten old later files

-- where the store tells, some of these files were written, and of the next one nothing or a first part
abbrev pub AreCutOff : Held → Held → Files → Type 0
AreCutOff old new [] = ⊥
AreCutOff old new (file ∷ files) = Leaves old new file.0 file.1 ⊎ AreCutOff (map.insert old file.0 file.1) new files

abbrev pub HasBrokenOff : Option Held → Option Held → Files → Type 0
HasBrokenOff None new files = new ≡ None
HasBrokenOff (Some old) new files = (later : Held) × (new ≡ Some later) × AreCutOff old later files

-- where the store tells, some of these files were written, the first ones, or all or none
abbrev pub AreBegun : Held → Held → Files → Type 0
AreBegun old new [] = new ≡ old
AreBegun old new (file ∷ files) = (new ≡ old) ⊎ AreBegun (map.insert old file.0 file.1) new files

abbrev pub HasBegun : Option Held → Option Held → Files → Type 0
HasBegun None new files = new ≡ None
HasBegun (Some old) new files = (later : Held) × (new ≡ Some later) × AreBegun old later files

-- a command says this of the files, and the files that it writes were written
abbrev pub CommandDoes : Option Held → Option Held → Asked → Status → List ℕ → Type 0
CommandDoes held later c status line = (files : Files) × CommandSays held c status line files × HasWritten held later files

-- a command says something of the files, and the writing of its files broke off
abbrev pub CommandBreaksOff : Option Held → Option Held → Asked → Type 0
CommandBreaksOff held later c = (status : Status) × (line : List ℕ) × (files : Files) × CommandSays held c status line files × HasBrokenOff held later files

-- a command says something of the files, and some of its files were written, the first ones, or none
abbrev pub CommandBegins : Option Held → Option Held → Asked → Type 0
CommandBegins held later c = (status : Status) × (line : List ℕ) × (files : Files) × CommandSays held c status line files × HasBegun held later files

-- the run says this status and line, and its files were written
abbrev pub Does : List (List ℕ) → Option Held → Option Held → Status → List ℕ → Type 0
Does words held later status line = (files : Files) × Says words held status line files × HasWritten held later files

-- the run says some status, and the writing of its files broke off
abbrev pub BreaksOff : List (List ℕ) → Option Held → Option Held → Type 0
BreaksOff words held later = (status : Status) × (line : List ℕ) × (files : Files) × Says words held status line files × HasBrokenOff held later files

-- nothing was written; or the run says some status, and some of its files were written, the first ones
abbrev pub Begins : List (List ℕ) → Option Held → Option Held → Type 0
Begins words held later = (later ≡ held) ⊎ ((c : Asked) × Asks words c × CommandBegins held later c)

-- the command, if it is one, doesn't write under the name
abbrev pub LeavesName : List (List ℕ) → List ℕ → Type 0
LeavesName words name = (c : Asked) → Asks words c → ¬ Contains (written_by c) name

-- where the store tells, it holds what it held under all names but those that the command writes
abbrev pub KeepsOthers : List (List ℕ) → Option Held → Option Held → Type 0
KeepsOthers words None new = new ≡ None
KeepsOthers words (Some old) new = (later : Held) × (new ≡ Some later) × ((name : List ℕ) → LeavesName words name → map.get later name ≡ map.get old name)

-- the command, if it is one, writes no file
abbrev pub IsReadOnly : List (List ℕ) → Type 0
IsReadOnly words = (c : Asked) → Asks words c → written_by c ≡ []

-- ---- what was told

-- where the sink tells, it was told exactly this more
abbrev pub IsTold : Option (List ℕ) → Option (List ℕ) → List ℕ → Type 0
IsTold None new line = new ≡ None
IsTold (Some old) new line = new ≡ Some (old ++ line)

-- where the sink tells, it was told a first part of this, and not all
abbrev pub IsCutOff : Option (List ℕ) → Option (List ℕ) → List ℕ → Type 0
IsCutOff None new line = new ≡ None
IsCutOff (Some old) new line = (n : ℕ) × (n < length line) × (new ≡ Some (old ++ take n line))

-- the run says this status, its files were written and its line was told
abbrev pub Tells : List (List ℕ) → Option Held → Option Held → Status → Option (List ℕ) → Option (List ℕ) → Type 0
Tells words held later status old new = (line : List ℕ) × Does words held later status line × IsTold old new line

-- the run says some status: its files were written and the telling of its line was cut off, or the writing broke off and nothing was told
abbrev pub TellsPart : List (List ℕ) → Option Held → Option Held → Option (List ℕ) → Option (List ℕ) → Type 0
TellsPart words held later old new =
    ((status : Status) × (line : List ℕ) × Does words held later status line × IsCutOff old new line)
    ⊎ (BreaksOff words held later × (new ≡ old))

-- a file wasn't read: reading failed, or the file isn't held
abbrev pub HasReadCause : List (List ℕ) → Option Held → ℕ → ℕ → Type 0
HasReadCause words held before now = Rose before now ⊎ ((c : Asked) × Asks words c × LacksFile held c)

-- the store is called at most once for each file
abbrev pub CallsOnce : List (List ℕ) → ℕ → ℕ → Type 0
CallsOnce words before now = (c : Asked) → Asks words c → now ≤ before + files_of c

-- no fault was counted
pub record IsFaultless (reads_before reads_now writes_before writes_now puts_before puts_now : ℕ) : Type 0 where
  pub reads : ¬ Rose reads_before reads_now
  pub writes : ¬ Rose writes_before writes_now
  pub puts : ¬ Rose puts_before puts_now

-- where the store tells what it holds, and no fault was counted, the run ends as the words and the files call for, or for want of memory
abbrev pub Completes : List (List ℕ) → Option Held → Type 0 → Status → Type 0
Completes words held Faultless result =
    (told : Held) (status : Status) (line : List ℕ) (files : Files) → held ≡ Some told → Says words (Some told) status line files → Faultless
    → (result ≡ status) ⊎ (result ≡ Memory)

-- ---- what `solve` writes

-- where the words ask for `solve` and the store tells: its first name holds an instance, and then its second and third names hold the texts of a solution and of a certificate that are written for it, of which this holds
abbrev pub SolveWrites : List (List ℕ) → Option Held → Option Held → ((instance : Problem) (order : Order) (solution : Solution) (cert : Cert) → IsWritten instance order solution cert → Type 0) → Type 0
SolveWrites words old new Holds =
    (first second third : List ℕ) (workers turns seed : ℕ) (flips : Option ℕ) → Asks words (Solve first second third workers turns seed flips)
    → (bytes : List ℕ) × (instance : Problem) × (solution : Solution) × (cert : Cert) × (written : IsWritten instance (order_of instance (record { workers = workers; turns = turns; seed = seed; flips = flips })) solution cert)
    × MayHold old first bytes × SpellsInstance bytes instance × MayHold new second (text_of solution) × MayHold new third (cert_text cert)
    × Holds instance (order_of instance (record { workers = workers; turns = turns; seed = seed; flips = flips })) solution cert written

-- whatever the interleaving of the workers: a replayable book, a settled plan, a best assignment over earned rows, journal lines that are answers of turns and then moves of settling, few turns of workers that came too late, and no plan of the instance with a total below the bound
abbrev pub WritesHeadline : List (List ℕ) → Option Held → Option Held → Type 0
WritesHeadline words old new = SolveWrites words old new (λ instance order solution cert written.
    IsReplayable instance written.opening written.end solution cert
    × IsSettled instance.points written.end
    × HasBestAssignment instance (log_budget (length instance.inputs)) cert
    × AreAnswersThenSettling instance order written.opening written.end written.lines written.made cert
    × (0 < order.workers → AreLinesOfWorkers order.workers (turns_for instance order) instance.points instance.inputs written.opening written.lines)
    × IsBelowPlans instance cert.bound)

-- each held schedule replays from its input to the centre, and the total is the number of those rounds: the journal is legal from the opening, and leads to the plan that is written
abbrev pub WritesReplayableBook : List (List ℕ) → Option Held → Option Held → Type 0
WritesReplayableBook words old new = SolveWrites words old new (λ instance order solution cert written. IsReplayable instance written.opening written.end solution cert)

-- no move lowers the total of the plan
abbrev pub WritesSettledPlan : List (List ℕ) → Option Held → Option Held → Type 0
WritesSettledPlan words old new = SolveWrites words old new (λ instance order solution cert written. IsSettled instance.points written.end)

-- each two inputs have an earned row, and no assignment has a greater bound under them
abbrev pub WritesBestAssignment : List (List ℕ) → Option Held → Option Held → Type 0
WritesBestAssignment words old new = SolveWrites words old new (λ instance order solution cert written. HasBestAssignment instance (log_budget (length instance.inputs)) cert)

-- each journal line is a turn's answer or a move of settling
abbrev pub WritesAnswersThenSettling : List (List ℕ) → Option Held → Option Held → Type 0
WritesAnswersThenSettling words old new = SolveWrites words old new (λ instance order solution cert written. AreAnswersThenSettling instance order written.opening written.end written.lines written.made cert)

-- where no worker is asked for, the turns of the lines ascend, and none is missed
abbrev pub WritesTurnsInOrder : List (List ℕ) → Option Held → Option Held → Type 0
WritesTurnsInOrder words old new = SolveWrites words old new (λ instance order solution cert written. order.workers ≡ 0 → AreLinesInOrder (turns_for instance order) instance.points instance.inputs written.opening written.lines)

-- with workers, each improver's turn without a line had no better answer on the plan after some lines, or came too late with it; and of those that never fell short there are at most workers - 1 times as many as lines
abbrev pub WritesFewLateTurns : List (List ℕ) → Option Held → Option Held → Type 0
WritesFewLateTurns words old new = SolveWrites words old new (λ instance order solution cert written. 0 < order.workers → AreLinesOfWorkers order.workers (turns_for instance order) instance.points instance.inputs written.opening written.lines)

-- the total is that of the solution, and no plan of the instance has a total below the bound
abbrev pub WritesProvedBound : List (List ℕ) → Option Held → Option Held → Type 0
WritesProvedBound words old new = SolveWrites words old new (λ instance order solution cert written. IsProved instance solution cert.total cert.bound)

-- `verify` says yes of what was written, with the total and the bound that were told
abbrev pub WritesWhatVerifies : List (List ℕ) → Option Held → Option (List ℕ) → Option (List ℕ) → Type 0
WritesWhatVerifies words later old new =
    (first second third : List ℕ) (workers turns seed : ℕ) (flips : Option ℕ) → Asks words (Solve first second third workers turns seed flips)
    → (total : ℕ) × (bound : ℕ) × IsTold old new (solved_line total bound) × CommandSays later (Verify first second third) Done (yes_line total bound) []
