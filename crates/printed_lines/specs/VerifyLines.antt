-- The lines of certificates: that one is refused, what one shows, or why it doesn't.
use Rattle.std.specs.Prelude.{ℕ, List, [], ◌∷◌, codes, decimal}
use Rattle.host_io.specs.declared.cert_kind.CertKind.{CertKind}
use Rattle.host_io.specs.declared.cert_kind.CertKind.TheVariants.{Cut, Shape, Rest}
use Rattle.line_text.specs.declared.fault.TextFault.{TextFault}
use Rattle.log_law.specs.declared.LogFault.{LogFault}
use Rattle.log_law.specs.declared.LogFault.TheVariants.{BadId, BadVar, NotUnit, HintUnused, NoConflict, NoEmptyClause}
use Rattle.verify_core.specs.declared.fault.RowWhy.{RowWhy}
use Rattle.verify_core.specs.declared.fault.RowWhy.TheVariants as why
use Rattle.verify_core.specs.declared.fault.No.{No}
use Rattle.verify_core.specs.declared.fault.No.TheVariants as no
use Rattle.printed_lines.specs.Lines.{line, edge_text, round_words, input_round_words}

-- ---- a text that is no certificate
abbrev pub kind_word : CertKind → List ℕ
kind_word Cut = codes "Cut"
kind_word Shape = codes "Shape"
kind_word Rest = codes "Rest"

-- the kind of a text's first fault, and its line
abbrev pub cert_form_line : TextFault → List ℕ
cert_form_line f = line (codes "refused" ∷ codes "certificate" ∷ kind_word f.kind ∷ decimal f.line ∷ [])

-- ---- a certificate that shows what it says
-- the total of the solution, and a number that no plan's total is below
abbrev pub yes_line : ℕ → ℕ → List ℕ
yes_line total bound = line (codes "yes" ∷ codes "total" ∷ decimal total ∷ codes "bound" ∷ decimal bound ∷ [])

-- ---- and one that doesn't
-- a fault of a log: its name and its fields
abbrev pub log_words : LogFault → List (List ℕ)
log_words (BadId place) = codes "BadId" ∷ decimal place ∷ []
log_words (BadVar place) = codes "BadVar" ∷ decimal place ∷ []
log_words (NotUnit place hint) = codes "NotUnit" ∷ decimal place ∷ decimal hint ∷ []
log_words (HintUnused place) = codes "HintUnused" ∷ decimal place ∷ []
log_words (NoConflict place) = codes "NoConflict" ∷ decimal place ∷ []
log_words NoEmptyClause = codes "NoEmptyClause" ∷ []

-- a fault of a row: its name and its fields, of which one may be a fault itself
abbrev pub why_words : RowWhy → List (List ℕ)
why_words why.BadPair = codes "BadPair" ∷ []
why_words (why.EdgeNotThere e) = codes "EdgeNotThere" ∷ edge_text e ∷ []
why_words (why.CountWrong said is) = codes "CountWrong" ∷ decimal said ∷ decimal is ∷ []
why_words why.NoCnf = codes "NoCnf" ∷ []
why_words (why.Log fault) = codes "Log" ∷ log_words fault
why_words (why.LowerWrong said is) = codes "LowerWrong" ∷ decimal said ∷ decimal is ∷ []
why_words (why.MetRound fault) = codes "MetRound" ∷ round_words fault
why_words (why.MetEnd e) = codes "MetEnd" ∷ edge_text e ∷ []
why_words (why.MetLength said is) = codes "MetLength" ∷ decimal said ∷ decimal is ∷ []
why_words (why.EndK said is) = codes "EndK" ∷ decimal said ∷ decimal is ∷ []
why_words (why.TooLargeWrong said is) = codes "TooLargeWrong" ∷ decimal said ∷ decimal is ∷ []
why_words (why.PointsWrong is) = codes "PointsWrong" ∷ decimal is ∷ []

-- a fault of a certificate
abbrev pub no_words : No → List (List ℕ)
no_words no.UidSolution = codes "UidSolution" ∷ []
no_words no.UidCertificate = codes "UidCertificate" ∷ []
no_words (no.InputCount said is) = codes "InputCount" ∷ decimal said ∷ decimal is ∷ []
no_words (no.CopyCount said is) = codes "CopyCount" ∷ decimal said ∷ decimal is ∷ []
no_words (no.Round t fault) = input_round_words t fault
no_words (no.NoCommonCentre t) = codes "NoCommonCentre" ∷ decimal t ∷ []
no_words (no.TotalWrong said is) = codes "TotalWrong" ∷ decimal said ∷ decimal is ∷ []
no_words (no.RowWrong i j fault) = codes "RowWrong" ∷ decimal i ∷ decimal j ∷ why_words fault
no_words (no.NotPermutation place) = codes "NotPermutation" ∷ decimal place ∷ []
no_words (no.BoundWrong said is) = codes "BoundWrong" ∷ decimal said ∷ decimal is ∷ []

abbrev pub no_line : No → List ℕ
no_line fault = line (codes "no" ∷ no_words fault)
