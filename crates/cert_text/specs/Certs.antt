-- Certificates that have a text.
use Rattle.std.specs.Prelude.{◌≡◌, ℕ, ◌<◌, ◌≤◌, ◌^◌, List, length, IsUtf8}
use Rattle.std.specs.List.{AllByRecursion}
use Rattle.edge_table.specs.declared.edge.Edge.{Edge}
use Rattle.log_law.specs.Logs.{Line as LogLine}
use Rattle.pair_rows.specs.declared.row.Evidence.{Evidence}
use Rattle.pair_rows.specs.declared.row.Evidence.TheVariants.{Nothing, Crosses, Refuted}
use Rattle.pair_rows.specs.declared.row.End.{End}
use Rattle.pair_rows.specs.declared.row.End.TheVariants.{Met, Spent, TooLarge, ManyPoints}
use Rattle.pair_rows.specs.declared.row.Row.{Row}
use Rattle.hex.specs.Hex.{IsBytes}
use Rattle.line_text.specs.LogLines.{IsLogLine, IsFromOne}
use Rattle.cert_text.specs.declared.cert.Cert.{Cert}
use Rattle.cert_text.specs.declared.journal.JournalLine.{JournalLine}
use Rattle.cert_text.specs.declared.journal.JournalLine.TheVariants.{Move, Swap}

-- ---- numbers: most are of 32 bits. Turns, the bound, numbers of clauses, and the counts of journal lines, rows, rounds and log lines are of 64
abbrev pub IsSmall : ℕ → Type 0
IsSmall n = n < 2 ^ 32

abbrev pub IsLarge : ℕ → Type 0
IsLarge n = n < 2 ^ 64

abbrev pub IsWide : ℕ → Type 0
IsWide n = n < 2 ^ 128

-- ---- parts
abbrev pub IsEdge : Edge → Type 0
IsEdge e = (e.0 < e.1) × IsSmall e.1

abbrev pub IsRound : List Edge → Type 0
IsRound edges = AllByRecursion IsEdge edges

abbrev pub AreRounds : List (List Edge) → Type 0
AreRounds rounds = IsLarge (length rounds) × AllByRecursion IsRound rounds

abbrev pub IsLog : List LogLine → Type 0
IsLog log = IsLarge (length log) × AllByRecursion IsLogLine log

abbrev pub IsJournalLine : JournalLine → Type 0
IsJournalLine (Move turn edges) = IsLarge turn × (0 < length edges) × IsRound edges
IsJournalLine (Swap turn input rounds) = IsLarge turn × IsSmall input × AreRounds rounds

abbrev pub IsEvidence : Evidence → Type 0
IsEvidence Nothing = Unit {0}
IsEvidence (Crosses from edge count) = IsEdge edge × IsSmall count
IsEvidence (Refuted k log) = IsSmall k × IsLog log

abbrev pub IsEnd : End → Type 0
IsEnd (Met rounds) = AreRounds rounds
IsEnd (Spent k log) = IsSmall k × IsLog log
IsEnd (TooLarge k clauses) = IsSmall k × IsLarge clauses
IsEnd (ManyPoints n) = IsSmall n

pub record IsRow (row : Row) : Type 0 where
  pub i : IsSmall row.i
  pub j : IsSmall row.j
  pub lower : IsSmall row.lower
  pub evidence : IsEvidence row.evidence
  pub end : IsEnd row.end

-- the bytes are those of a text
pub record IsUid (uid : List ℕ) : Type 0 where
  pub utf8 : IsUtf8 uid
  pub bytes : IsBytes uid

-- versions 1 and 2 count each input once
pub record IsCert (c : Cert) : Type 0 where
  pub version : (1 ≤ c.version) × (c.version ≤ 3)
  pub uid : IsUid c.uid
  pub inputs : IsSmall c.inputs
  pub copies : IsSmall c.copies
  pub each_once : c.version < 3 → c.copies ≡ c.inputs
  pub opening : IsWide c.opening
  pub total : IsWide c.total
  pub bound : IsLarge c.bound
  pub journal : IsLarge (length c.journal) × AllByRecursion IsJournalLine c.journal
  pub rows : IsLarge (length c.rows) × AllByRecursion IsRow c.rows
  pub perm : (length c.perm ≡ c.copies) × AllByRecursion IsSmall c.perm

-- ---- what is asked of a certificate that is written, beside the ranges of its types
abbrev pub HasEdge : JournalLine → Type 0
HasEdge (Move turn edges) = 0 < length edges
HasEdge (Swap turn input rounds) = Unit {0}

abbrev pub EvidenceFromOne : Evidence → Type 0
EvidenceFromOne Nothing = Unit {0}
EvidenceFromOne (Crosses from edge count) = Unit {0}
EvidenceFromOne (Refuted k log) = AllByRecursion IsFromOne log

abbrev pub EndFromOne : End → Type 0
EndFromOne (Met rounds) = Unit {0}
EndFromOne (Spent k log) = AllByRecursion IsFromOne log
EndFromOne (TooLarge k clauses) = Unit {0}
EndFromOne (ManyPoints n) = Unit {0}

-- variables and hints are numbered from 1
abbrev pub RowFromOne : Row → Type 0
RowFromOne row = EvidenceFromOne row.evidence × EndFromOne row.end

pub record IsWritable (c : Cert) : Type 0 where
  pub version : (1 ≤ c.version) × (c.version ≤ 3)
  pub each_once : c.version < 3 → c.copies ≡ c.inputs
  pub journal : AllByRecursion HasEdge c.journal
  pub rows : AllByRecursion RowFromOne c.rows
  pub perm : length c.perm ≡ c.copies
