-- The certificate of a book has a text.
use Rattle.std.proofs.Common.{◌∙◌, ℕ, ◌<◌, ◌≤◌, List, length, Contains, sym, ap, arith}
use Rattle.std.specs.Prelude.{sum}
use Rattle.std.specs.List.{AllByRecursion}
use Rattle.std.proofs.lemmas.List.Elements.{recursion_from_All, All-contains}
use Rattle.log_law.proofs.Lists.{all_members}
use Rattle.geo_orient.specs.declared.Point.{Point}
use Rattle.edge_table.specs.declared.edge.Edge.{Edge}
use Rattle.bound_law.specs.Bounds.{input_at}
use Rattle.log_law.specs.Clauses.{Formula}
use Rattle.log_law.specs.Logs.{Line as LogLine, AllFollow}
use Rattle.line_text.specs.LogLines.{IsFromOne}
use Rattle.flip_cnf.specs.HeldFrames.{HeldFrame}
use Rattle.pair_rows.specs.declared.row.Evidence.{Evidence}
use Rattle.pair_rows.specs.declared.row.Evidence.TheVariants.{Nothing, Crosses, Refuted}
use Rattle.pair_rows.specs.declared.row.End.{End}
use Rattle.pair_rows.specs.declared.row.End.TheVariants.{Met, Spent, TooLarge, ManyPoints}
use Rattle.pair_rows.specs.declared.row.Row as row
use Rattle.pair_rows.specs.Versions.{FormulaKind, Pruned}
use Rattle.pair_rows.specs.Rows.{IsEvidence, IsEnd}
use Rattle.plan_law.specs.Books.{PairRow, opening_state}
use Rattle.book_core.specs.Entries.{Shown, pair_row, lines_of, IsJustifiedRow}
use Rattle.book_core.specs.HeldBooks.{now_of}
use Rattle.cert_text.specs.Certs.{EvidenceFromOne, EndFromOne, RowFromOne}
use Rattle.book_cert.specs.Laws.{CertificatesAreWritable}
use Rattle.book_cert.proofs.Books.{is_state, weights_kept}
use Rattle.book_cert.proofs.Journals.{moves_have_edges}
use Rattle.book_cert.proofs.ByPair.{row_listed}

-- lines that follow name variables and clauses, which are numbered from 1
follow_from_one : (built : Formula) (log : List LogLine) → AllFollow built log → AllByRecursion IsFromOne log
follow_from_one built log follow = recursion_from_All IsFromOne log (λ k d l. let F = follow k d l in record {
  literals = recursion_from_All (λ x. 1 ≤ x.var) _ (λ i x m. (F.literals_fit.in_range i x m).0);
  hints = recursion_from_All (λ h. 1 ≤ h) _ (λ i h m. (F.hints_known i h m).0);
})

module _ (kind : FormulaKind) (points : List Point) (frame : HeldFrame) (A B : List Edge) (lower : ℕ) where
  evidence_from_one : (evidence : Evidence) → IsEvidence kind points frame A B lower evidence → EvidenceFromOne evidence
  evidence_from_one Nothing h = tt
  evidence_from_one (Crosses from edge count) h = tt
  evidence_from_one (Refuted k log) (is, (built, of, refutes)) = follow_from_one built log refutes.follow

  end_from_one : (end : End) → IsEnd kind points frame A B lower end → EndFromOne end
  end_from_one (Met rounds) h = tt
  end_from_one (Spent k log) (is, (built, of, follow)) = follow_from_one built log follow
  end_from_one (TooLarge k clauses) h = tt
  end_from_one (ManyPoints n) h = tt

row_from_one : (points : List Point) (inputs : List (List Edge)) (r : row.Row) → IsJustifiedRow points inputs (pair_row r) → RowFromOne r
row_from_one points inputs r (frame, held, J) = (
  evidence_from_one Pruned points frame (input_at inputs r.i) (input_at inputs r.j) r.lower r.evidence J.evidence,
  end_from_one Pruned points frame (input_at inputs r.i) (input_at inputs r.j) r.lower r.end J.end,
)

pub certificates_are_writable : CertificatesAreWritable
certificates_are_writable b c L C = record {
  version = (omega (arith, C.version), omega (arith, C.version));
  each_once = λ l. absurd (omega (arith, l, C.version));
  journal = moves_have_edges (IsJustifiedRow b.problem.points b.problem.inputs) b.problem.points b.problem.inputs (opening_state b.opening) (lines_of b.journal) c.journal L.2.legal C.journal;
  rows = recursion_from_All RowFromOne c.rows (all_members RowFromOne c.rows (λ r m. row_from_one b.problem.points b.problem.inputs r (justified r m)));
  perm = ap (λ (p : List ℕ). length p) C.perm ∙ ((is_state b L).is_assignment.long ∙ (ap sum (weights_kept b L) ∙ sym C.copies));
}
  where
    justified : (r : row.Row) → Contains c.rows r → IsJustifiedRow b.problem.points b.problem.inputs (pair_row r)
    justified r m = (All-contains (λ (x : PairRow Shown). (x.low < x.high) × (x.high < length b.problem.inputs) × IsJustifiedRow b.problem.points b.problem.inputs x) (now_of b).rows (pair_row r) (is_state b L).are_justified (row_listed (length b.problem.inputs) (now_of b).rows c.rows C.rows r m)).2
