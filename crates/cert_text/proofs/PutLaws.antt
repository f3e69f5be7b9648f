-- Lines that are written part by part.
use Rattle.std.proofs.Common.{◌≡◌, ℕ, zero, suc, ◌+◌, ◌≤◌, List, [], ◌∷◌, ◌++◌, map, take, length, Some, sym, ap, subst, ◌∙◌, append_assoc}
use Rattle.std.specs.Prelude.{codes, slice_get}
use Rattle.std.specs.List.{AllByRecursion, flat_map}
use Rattle.std.proofs.lemmas.List.{append-nil, map-append}
use Rattle.std.proofs.lemmas.List.Concat.{flat_map-append}
use Rattle.edge_table.specs.declared.edge.Edge.{Edge}
use Rattle.line_text.specs.Words.{Line}
use Rattle.line_text.specs.Lines.{text, Appends}
use Rattle.line_text.proofs.Readers.{text_append}
use Rattle.line_text.proofs.NumberLaws.{some_is}
use Rattle.line_text.proofs.WritingLaws.{none_is, taken}
use Rattle.log_law.specs.Logs.{Line as LogLine}
use Rattle.pair_rows.specs.declared.row.Evidence.{Evidence}
use Rattle.pair_rows.specs.declared.row.Evidence.TheVariants.{Nothing, Crosses, Refuted}
use Rattle.pair_rows.specs.declared.row.End.{End}
use Rattle.pair_rows.specs.declared.row.End.TheVariants.{Met, Spent, TooLarge, ManyPoints}
use Rattle.line_text.specs.LogLines.{IsPositive, IsLogLine, IsFromOne}
use Rattle.line_text.proofs.WordLaws.{all_weaker}
use Rattle.cert_text.specs.declared.journal.JournalLine.{JournalLine}
use Rattle.cert_text.specs.declared.journal.JournalLine.TheVariants.{Move, Swap}
use Rattle.cert_text.specs.Certs.{HasEdge, EvidenceFromOne, EndFromOne, RowFromOne, IsEvidence, IsEnd, IsSmall, IsLarge, IsWide, IsUid, IsJournalLine, IsRow, IsWritable, IsCert}
use Rattle.cert_text.specs.Texts.{ends, listed, journal_lines, row_lines, head_lines, total_lines, last_lines, cert_text}
use Rattle.cert_text.specs.declared.cert.Cert.{Cert}

pub appends_then : (a b c : List ℕ) (xs ys : List Line) → Appends a b xs → Appends b c ys → Appends a c (xs ++ ys)
appends_then a b c xs ys p q = q ∙ ap (λ (t : List ℕ). t ++ text ys) p ∙ append_assoc a (text xs) (text ys) ∙ ap (λ (t : List ℕ). a ++ t) (sym (text_append xs ys))

pub next_mapped : {X : Type 0} (f : X → Line) (before now after : List ℕ) (xs : List X) (i : ℕ) (x : X) → slice_get xs i ≡ Some x → Appends before now (map f (take i xs)) → Appends now after (f x ∷ []) → Appends before after (map f (take (i + 1) xs))
next_mapped f before now after xs i x e p q = subst (Appends before after) (sym (ap (map f) (taken xs i x e) ∙ map-append f (take i xs) (x ∷ []))) (appends_then before now after (map f (take i xs)) (f x ∷ []) p q)

pub next_lines : {X : Type 0} (f : X → List Line) (before now after : List ℕ) (xs : List X) (i : ℕ) (x : X) → slice_get xs i ≡ Some x → Appends before now (flat_map f (take i xs)) → Appends now after (f x) → Appends before after (flat_map f (take (i + 1) xs))
next_lines f before now after xs i x e p q = subst (Appends before after) (sym (ap (flat_map f) (taken xs i x e) ∙ flat_map-append f (take i xs) (x ∷ []) ∙ ap (λ ls. flat_map f (take i xs) ++ ls) (append-nil (f x)))) (appends_then before now after (flat_map f (take i xs)) (f x) p q)

pub next_ends : (before now after : List ℕ) (edges : List Edge) (i : ℕ) (e : Edge) → slice_get edges i ≡ Some e → now ≡ before ++ ends (take i edges) → after ≡ now ++ e.0 ∷ e.1 ∷ [] → after ≡ before ++ ends (take (i + 1) edges)
next_ends before now after edges i e is p q =
    let more : ends (take (i + 1) edges) ≡ ends (take i edges) ++ e.0 ∷ e.1 ∷ [] = ap ends (taken edges i e is) ∙ flat_map-append (λ x. x.0 ∷ x.1 ∷ []) (take i edges) (e ∷ []) in
    q ∙ ap (λ (t : List ℕ). t ++ e.0 ∷ e.1 ∷ []) p ∙ append_assoc before (ends (take i edges)) (e.0 ∷ e.1 ∷ []) ∙ ap (λ (t : List ℕ). before ++ t) (sym more)

pub holds_at : {X : Type 0} (P : X → Type 0) (xs : List X) (i : ℕ) (x : X) → AllByRecursion P xs → slice_get xs i ≡ Some x → P x
holds_at P [] i x all e = none_is x e
holds_at P (y ∷ ys) zero x all e = subst P (some_is y x e) all.0
holds_at P (y ∷ ys) (suc i) x all e = holds_at P ys i x all.1 e

-- ---- the whole certificate
pub cert_written : (c : Cert) (start head totals journal rows last : List ℕ) → start ≡ [] → Appends start head (head_lines c.version c.uid c.inputs c.copies) → Appends head totals (total_lines c.opening c.total c.bound)
    → Appends totals journal (listed (codes "journal") journal_lines c.journal) → Appends journal rows (listed (codes "rows") row_lines c.rows) → Appends rows last (last_lines c.perm) → last ≡ cert_text c
cert_written c start head totals journal rows last empty h t j r l =
    let rl = appends_then journal rows last (listed (codes "rows") row_lines c.rows) (last_lines c.perm) r l in
    let jl = appends_then totals journal last (listed (codes "journal") journal_lines c.journal) (listed (codes "rows") row_lines c.rows ++ last_lines c.perm) j rl in
    let tl = appends_then head totals last (total_lines c.opening c.total c.bound) (listed (codes "journal") journal_lines c.journal ++ (listed (codes "rows") row_lines c.rows ++ last_lines c.perm)) t jl in
    let hl = appends_then start head last (head_lines c.version c.uid c.inputs c.copies) (total_lines c.opening c.total c.bound ++ (listed (codes "journal") journal_lines c.journal ++ (listed (codes "rows") row_lines c.rows ++ last_lines c.perm))) h tl in
    hl ∙ ap (λ (x : List ℕ). x ++ cert_text c) empty

pub cert_fits : (c : Cert) → IsWritable c → IsUid c.uid × IsSmall c.inputs × IsSmall c.copies → IsWide c.opening × IsWide c.total × IsLarge c.bound → IsLarge (length c.journal) × AllByRecursion IsJournalLine c.journal
    → IsLarge (length c.rows) × AllByRecursion IsRow c.rows → AllByRecursion IsSmall c.perm → IsCert c
cert_fits c asked head totals journal rows perm = record {
  version = asked.version;
  uid = head.0;
  inputs = head.1;
  copies = head.2;
  each_once = asked.each_once;
  opening = totals.0;
  total = totals.1;
  bound = totals.2;
  journal = journal;
  rows = rows;
  perm = (asked.perm, perm);
}

-- a certificate that has a text may be written
fit_edges : (lines : List JournalLine) → AllByRecursion IsJournalLine lines → AllByRecursion HasEdge lines
fit_edges [] all = tt
fit_edges (Move turn edges ∷ lines) all = (all.0.1, fit_edges lines all.1)
fit_edges (Swap turn input rounds ∷ lines) all = (tt, fit_edges lines all.1)

fit_line : (l : LogLine) → IsLogLine l → IsFromOne l
fit_line l is = record { literals = all_weaker (λ x. IsPositive x.var) (λ x. 1 ≤ x.var) (λ x p. p.0) l.literals is.literals; hints = all_weaker IsPositive (λ h. 1 ≤ h) (λ h p. p.0) l.hints is.hints }

fit_evidence : (e : Evidence) → IsEvidence e → EvidenceFromOne e
fit_evidence Nothing is = tt
fit_evidence (Crosses from edge count) is = tt
fit_evidence (Refuted k log) is = all_weaker IsLogLine IsFromOne fit_line log is.1.1

fit_end : (e : End) → IsEnd e → EndFromOne e
fit_end (Met rounds) is = tt
fit_end (Spent k log) is = all_weaker IsLogLine IsFromOne fit_line log is.1.1
fit_end (TooLarge k clauses) is = tt
fit_end (ManyPoints n) is = tt

pub cert_writable : (c : Cert) → IsCert c → IsWritable c
cert_writable c is = record {
  version = is.version;
  each_once = is.each_once;
  journal = fit_edges c.journal is.journal.1;
  rows = all_weaker IsRow RowFromOne (λ row r. (fit_evidence row.evidence r.evidence, fit_end row.end r.end)) c.rows is.rows.1;
  perm = is.perm.0;
}
