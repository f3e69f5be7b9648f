-- The lines that the program prints: words and numbers with a space between, and a line feed at the end.
use Rattle.std.specs.Prelude.{ℕ, List, [], ◌∷◌, ◌++◌, codes, decimal}
use Rattle.std.specs.List.{join_with_byte}
use Rattle.edge_table.specs.declared.edge.Edge.{Edge}
use Rattle.instance_json.specs.declared.fault.Form.{Form}
use Rattle.instance_json.specs.declared.fault.Form.TheVariants.{NotJson, NotObject, Missing, WrongType, NotInteger, LengthMismatch, WeightCount}
use Rattle.instance_json.specs.Members.{name_of}
use Rattle.replay.specs.declared.fault.RoundFault.{RoundFault}
use Rattle.replay.specs.declared.fault.RoundFault.TheVariants.{NotEdge, Twice, NotConvex, SharedTriangle}
use Rattle.replay.specs.declared.fault.ScoreFault.{ScoreFault}
use Rattle.replay.specs.declared.fault.ScoreFault.TheVariants as score
use Rattle.solution_json.specs.declared.fault.SolForm.{SolForm}
use Rattle.solution_json.specs.declared.fault.SolForm.TheVariants as solution
use Rattle.solution_json.specs.Members as solution_member
use Rattle.tri_check.specs.declared.fault.Bad.{Bad}
use Rattle.tri_check.specs.declared.fault.Bad.TheVariants.{TooManyPoints, TooManyInputs, TooManyPairs, CoordinateRange, TooFewPoints, RepeatedPoint, Collinear, NoInput, BadVertex, Loop, Blocked, Crossing, LonePoint, OpenSide, WeightRange, WeightSum}

-- words with a space between
abbrev pub spaced : List (List ℕ) → List ℕ
spaced words = join_with_byte 32 words

abbrev pub line : List (List ℕ) → List ℕ
line words = spaced words ++ 10 ∷ []

-- an edge: its ends with a dash between
abbrev pub edge_text : Edge → List ℕ
edge_text e = decimal e.0 ++ 45 ∷ decimal e.1

abbrev pub words_line : List ℕ
words_line = line (codes "words" ∷ codes "refused" ∷ [])

abbrev pub valid_line : ℕ → ℕ → List ℕ
valid_line points inputs = line (codes "valid" ∷ codes "points" ∷ decimal points ∷ codes "inputs" ∷ decimal inputs ∷ [])

-- a fault of an instance: its name and its fields
abbrev pub bad_words : Bad → List (List ℕ)
bad_words (TooManyPoints n) = codes "TooManyPoints" ∷ decimal n ∷ []
bad_words (TooManyInputs m) = codes "TooManyInputs" ∷ decimal m ∷ []
bad_words (TooManyPairs c) = codes "TooManyPairs" ∷ decimal c ∷ []
bad_words (CoordinateRange i) = codes "CoordinateRange" ∷ decimal i ∷ []
bad_words (TooFewPoints n) = codes "TooFewPoints" ∷ decimal n ∷ []
bad_words (RepeatedPoint i j) = codes "RepeatedPoint" ∷ decimal i ∷ decimal j ∷ []
bad_words Collinear = codes "Collinear" ∷ []
bad_words NoInput = codes "NoInput" ∷ []
bad_words (BadVertex t p) = codes "BadVertex" ∷ decimal t ∷ decimal p ∷ []
bad_words (Loop t p) = codes "Loop" ∷ decimal t ∷ decimal p ∷ []
bad_words (Blocked t e q) = codes "Blocked" ∷ decimal t ∷ edge_text e ∷ decimal q ∷ []
bad_words (Crossing t e f) = codes "Crossing" ∷ decimal t ∷ edge_text e ∷ edge_text f ∷ []
bad_words (LonePoint t p) = codes "LonePoint" ∷ decimal t ∷ decimal p ∷ []
bad_words (OpenSide t e) = codes "OpenSide" ∷ decimal t ∷ edge_text e ∷ []
bad_words (WeightRange t) = codes "WeightRange" ∷ decimal t ∷ []
bad_words (WeightSum s) = codes "WeightSum" ∷ decimal s ∷ []

-- an instance is refused, for this fault
abbrev pub instance_refused : List (List ℕ) → List (List ℕ)
instance_refused fault = codes "refused" ∷ codes "instance" ∷ fault

abbrev pub bad_line : Bad → List ℕ
bad_line bad = line (instance_refused (bad_words bad))

-- a fault of form: its name and its fields
abbrev pub form_words : Form → List (List ℕ)
form_words NotJson = codes "NotJson" ∷ []
form_words NotObject = codes "NotObject" ∷ []
form_words (Missing m) = codes "Missing" ∷ name_of m ∷ []
form_words (WrongType m) = codes "WrongType" ∷ name_of m ∷ []
form_words (NotInteger m k) = codes "NotInteger" ∷ name_of m ∷ decimal k ∷ []
form_words (LengthMismatch x y) = codes "LengthMismatch" ∷ decimal x ∷ decimal y ∷ []
form_words (WeightCount w m) = codes "WeightCount" ∷ decimal w ∷ decimal m ∷ []

abbrev pub form_line : Form → List ℕ
form_line form = line (instance_refused (form_words form))

-- ---- runs

-- the number of flips of a run, and a number that no run has more flips than
abbrev pub flips_line : ℕ → ℕ → List ℕ
flips_line flips bound = line (codes "flips" ∷ decimal flips ∷ codes "bound" ∷ decimal bound ∷ [])

-- the instance has no input with this place
abbrev pub no_such_input_line : ℕ → List ℕ
no_such_input_line t = line (instance_refused (codes "NoSuchInput" ∷ decimal t ∷ []))

-- ---- scores

abbrev pub total_line : ℕ → List ℕ
total_line total = line (codes "total" ∷ decimal total ∷ [])

-- the rounds of a solution, and a number that no solution has fewer rounds than
abbrev pub solved_line : ℕ → ℕ → List ℕ
solved_line total bound = line (codes "total" ∷ decimal total ∷ codes "bound" ∷ decimal bound ∷ [])

-- the total of the first plan and of the last, and a number that no plan has a total below
abbrev pub opening_line : ℕ → ℕ → ℕ → List ℕ
opening_line opening total bound = line (codes "opening" ∷ decimal opening ∷ codes "total" ∷ decimal total ∷ codes "bound" ∷ decimal bound ∷ [])

-- the run of the input with this place is longer than the budget
abbrev pub budget_line : ℕ → List ℕ
budget_line t = line (codes "flip" ∷ codes "budget" ∷ decimal t ∷ [])

-- a solution is refused, for this fault
abbrev pub solution_refused : List (List ℕ) → List (List ℕ)
solution_refused fault = codes "refused" ∷ codes "solution" ∷ fault

-- a fault of form: its name and its fields
abbrev pub solution_form_words : SolForm → List (List ℕ)
solution_form_words solution.NotJson = codes "NotJson" ∷ []
solution_form_words solution.NotObject = codes "NotObject" ∷ []
solution_form_words (solution.Missing m) = codes "Missing" ∷ solution_member.name_of m ∷ []
solution_form_words (solution.WrongType m) = codes "WrongType" ∷ solution_member.name_of m ∷ []
solution_form_words (solution.NotInteger k) = codes "NotInteger" ∷ decimal k ∷ []
solution_form_words (solution.BadPair k) = codes "BadPair" ∷ decimal k ∷ []

abbrev pub solution_form_line : SolForm → List ℕ
solution_form_line form = line (solution_refused (solution_form_words form))

-- the solution is one of another instance
abbrev pub other_uid_line : List ℕ
other_uid_line = line (solution_refused (codes "UidSolution" ∷ []))

-- a fault of a round: its name and its fields
abbrev pub round_words : RoundFault → List (List ℕ)
round_words (NotEdge r e) = codes "NotEdge" ∷ decimal r ∷ edge_text e ∷ []
round_words (Twice r e) = codes "Twice" ∷ decimal r ∷ edge_text e ∷ []
round_words (NotConvex r e) = codes "NotConvex" ∷ decimal r ∷ edge_text e ∷ []
round_words (SharedTriangle r e f) = codes "SharedTriangle" ∷ decimal r ∷ edge_text e ∷ edge_text f ∷ []

-- a fault of the rounds of the input with this place
abbrev pub input_round_words : ℕ → RoundFault → List (List ℕ)
input_round_words t fault = codes "Round" ∷ decimal t ∷ round_words fault

abbrev pub input_count_line : ℕ → ℕ → List ℕ
input_count_line said is = line (solution_refused (codes "InputCount" ∷ decimal said ∷ decimal is ∷ []))

abbrev pub round_line : ℕ → RoundFault → List ℕ
round_line t fault = line (solution_refused (input_round_words t fault))

abbrev pub no_common_centre_line : ℕ → List ℕ
no_common_centre_line t = line (solution_refused (codes "NoCommonCentre" ∷ decimal t ∷ []))

-- the first fault of a solution's rounds; want of memory has no line
abbrev pub score_fault_line : ScoreFault → List ℕ
score_fault_line (score.InputCount said is) = input_count_line said is
score_fault_line (score.Round t fault) = round_line t fault
score_fault_line (score.NoCommonCentre t) = no_common_centre_line t
score_fault_line score.OutOfMemory = []
