-- Reading a certificate is reading its form: what is written is read, what is read is written so, and a fault is the first.
use Rattle.std.proofs.Common.{◌≡◌, ℕ, ◌≤◌, List, [], ◌∷◌, ◌++◌, map, length, replicate, refl, sym, ap, subst, ◌∙◌, arith}
use Rattle.std.specs.Prelude.{codes}
use Rattle.std.specs.List.{AllByRecursion, flat_map}
use Rattle.std.proofs.lemmas.List.Concat.{flat_map_single}
use Rattle.edge_table.specs.declared.edge.Edge.{Edge}
use Rattle.log_law.specs.Logs.{Line as LogLine}
use Rattle.pair_rows.specs.declared.row.Evidence.{Evidence}
use Rattle.pair_rows.specs.declared.row.Evidence.TheVariants.{Nothing, Crosses, Refuted}
use Rattle.pair_rows.specs.declared.row.End.{End}
use Rattle.pair_rows.specs.declared.row.End.TheVariants.{Met, Spent, TooLarge, ManyPoints}
use Rattle.pair_rows.specs.declared.row.Row.{Row}
use Rattle.line_text.specs.Words.{Line, named}
use Rattle.line_text.specs.Lines.{IsLine}
use Rattle.line_text.specs.LogLines.{log_of, log_line, log_line_of, IsLogLine}
use Rattle.line_text.specs.Readings.{Reading, one_line, both, times}
use Rattle.line_text.proofs.WordLaws.{both_are}
use Rattle.line_text.proofs.LogLineLaws.{log_again, log_takes, log_is_line}
use Rattle.line_text.proofs.Readers.{IsReading}
use Rattle.line_text.proofs.Combining.{IsLineOf, line_reading, IsBoth, both_reading}
use Rattle.line_text.proofs.Counting.{AreMany, are_many, times_reading}
use Rattle.cert_text.specs.Certs.{IsLarge, IsWide, IsRound, IsJournalLine, IsEvidence, IsEnd, IsRow, IsUid, IsCert}
use Rattle.cert_text.specs.Texts.{ends, round_line, listed, journal_lines, evidence_lines, end_lines, row_lines, uid_line, input_numbers, cert_lines}
use Rattle.cert_text.specs.Heads.{edges_of, round_of, one_of, large_one, ends_said, wide_line_of, large_line_of, version_of, version_line_of, counts, counts_of, counts_line_of, perm_of, perm_line_of, end_line_of, uid_line_of, row_head_of, row_line_of, evidence_line_of, end_head_of, journal_head_of}
use Rattle.cert_text.specs.Readings.{pair, second, first, log_at, rounds_at, journal_rounds, journal_line, journal_line_at, evidence_lines_of, evidence_with, evidence_at, end_rounds, end_lines_of, end_with, end_at, row_with, row_at, journal_at, rows_at, head_with, head_at, totals_with, totals_at, perm_at, Body, cert_with, cert_at}
use Rattle.cert_text.specs.declared.read.Head.{Head}
use Rattle.cert_text.specs.declared.read.Totals.{Totals}
use Rattle.cert_text.specs.declared.heads.Counts.{Counts}
use Rattle.cert_text.specs.declared.heads.RowHead.{RowHead}
use Rattle.cert_text.specs.declared.heads.EvidenceHead.{EvidenceHead}
use Rattle.cert_text.specs.declared.heads.EvidenceHead.TheVariants as evidence
use Rattle.cert_text.specs.declared.heads.EndHead.{EndHead}
use Rattle.cert_text.specs.declared.heads.EndHead.TheVariants as end
use Rattle.cert_text.specs.declared.heads.JournalHead.{JournalHead}
use Rattle.cert_text.specs.declared.heads.JournalHead.TheVariants as journal
use Rattle.cert_text.specs.declared.journal.JournalLine.{JournalLine}
use Rattle.cert_text.specs.declared.journal.JournalLine.TheVariants.{Move, Swap}
use Rattle.cert_text.proofs.HeadLaws.{named_line, round_said, wide_said, large_said, version_said, AreCounts, counts_said, IsPerm, perm_said, end_said, IsRowHead, row_said}
use Rattle.cert_text.proofs.AltLaws.{clean_name, evidence_head_line, IsEvidenceHead, evidence_is, end_head_line, IsEndHead, end_is, journal_head_line, IsJournalHead, journal_is}
use Rattle.cert_text.proofs.UidLineLaws.{uid_is}

-- ---- two parts as a pair
module _ {A B : Type 0} (FitsA : A → Type 0) (linesA : A → List Line) (readA : Reading A) (FitsB : A → B → Type 0) (linesB : A → B → List Line) (readB : A → Reading B) where
  abbrev FitsPair : A × B → Type 0
  FitsPair x = FitsA x.0 × FitsB x.0 x.1

  abbrev pair_lines : A × B → List Line
  pair_lines x = linesA x.0 ++ linesB x.0 x.1

  pair_reading : IsReading FitsA linesA readA → ((a : A) → FitsA a → IsReading (FitsB a) (linesB a) (readB a)) → ((a : A) → FitsA a → (b : B) × FitsB a b) → IsReading FitsPair pair_lines (both pair readA readB)
  pair_reading one two some = both_reading FitsA linesA readA FitsB linesB readB FitsPair pair_lines pair one two (record { joins = λ a b fa fb. ((fa, fb), refl); splits = λ c fits. (c.0, c.1, fits.0, fits.1, refl); some = some })

-- ---- logs and rounds
none : {A : Type 0} (xs : List A) → length xs ≡ 0 → xs ≡ []
none [] e = refl
none (x ∷ xs) e = absurd (omega arith)

log_is : IsLineOf IsLogLine log_line log_line_of
log_is = record { again = λ l fits. log_again l fits; takes = λ bytes l e. log_takes bytes l e; clean = λ l fits. log_is_line l fits; some = (log_of 0 [] [], record { id = omega arith; literals = tt; hints = tt }) }

abbrev log_lines : List LogLine → List Line
log_lines log = flat_map (λ l. log_line l ∷ []) log

log_reading : (n : ℕ) → IsReading (AreMany IsLogLine n) log_lines (log_at n)
log_reading n = times_reading IsLogLine (λ l. log_line l ∷ []) (one_line log_line_of) (line_reading IsLogLine log_line log_line_of log_is) log_is.some n

round_is : IsLineOf IsRound round_line round_of
round_is = named_line IsRound ends edges_of (codes "round") (clean_name (codes "round") refl) round_said

abbrev round_lines : List (List Edge) → List Line
round_lines rounds = flat_map (λ r. round_line r ∷ []) rounds

rounds_reading : (n : ℕ) → IsReading (AreMany IsRound n) round_lines (rounds_at n)
rounds_reading n = times_reading IsRound (λ r. round_line r ∷ []) (one_line round_of) (line_reading IsRound round_line round_of round_is) round_is.some n

some_log : (n : ℕ) → (log : List LogLine) × AreMany IsLogLine n log
some_log n = (replicate n log_is.some.0, are_many IsLogLine log_is.some.0 log_is.some.1 n)

some_rounds : (n : ℕ) → (rounds : List (List Edge)) × AreMany IsRound n rounds
some_rounds n = (replicate n [], are_many IsRound [] tt n)

-- a line and the lines of a log, or of rounds
with_log : (a b : Line) (log : List LogLine) → a ≡ b → a ∷ map log_line log ≡ b ∷ log_lines log
with_log a b log e = both_are a b (map log_line log) (log_lines log) e (sym (flat_map_single log_line log))

with_rounds : (a b : Line) (rounds : List (List Edge)) → a ≡ b → a ∷ map round_line rounds ≡ b ∷ round_lines rounds
with_rounds a b rounds e = both_are a b (map round_line rounds) (round_lines rounds) e (sym (flat_map_single round_line rounds))

-- ---- changes
journal_both : IsBoth IsJournalHead (λ h. journal_head_line h ∷ []) (λ h. AreMany IsRound (journal_rounds h)) (λ h. round_lines) IsJournalLine journal_lines journal_line
journal_both = record { joins = joins; splits = splits; some = λ h fits. some_rounds (journal_rounds h) }
  where
    joins : (h : JournalHead) (rounds : List (List Edge)) → IsJournalHead h → AreMany IsRound (journal_rounds h) rounds → IsJournalLine (journal_line h rounds) × (journal_lines (journal_line h rounds) ≡ journal_head_line h ∷ [] ++ round_lines rounds)
    joins (journal.Whole (Move t es)) rounds fits many = (fits, ap (λ (rs : List (List Edge)). named (codes "move") (t ∷ ends es) ∷ round_lines rs) (sym (none rounds many.0)))
    joins (journal.Whole (Swap t i rs)) rounds fits many = absurd fits
    joins (journal.Rounds t i c) rounds fits many = ((fits.0, fits.1, (subst IsLarge (sym many.0) fits.2, many.1)), with_rounds (named (codes "swap") (t ∷ i ∷ length rounds ∷ [])) (named (codes "swap") (t ∷ i ∷ c ∷ [])) rounds (ap (λ (n : ℕ). named (codes "swap") (t ∷ i ∷ n ∷ [])) many.0))

    splits : (l : JournalLine) → IsJournalLine l → (h : JournalHead) × (rounds : List (List Edge)) × IsJournalHead h × AreMany IsRound (journal_rounds h) rounds × (journal_line h rounds ≡ l)
    splits (Move t es) fits = (journal.Whole (Move t es), [], fits, (refl, tt), refl)
    splits (Swap t i rounds) fits = (journal.Rounds t i (length rounds), rounds, (fits.0, fits.1, fits.2.0), (refl, fits.2.1), refl)

journal_line_reading : IsReading IsJournalLine journal_lines journal_line_at
unfolding journal_line_at
journal_line_reading = both_reading IsJournalHead (λ h. journal_head_line h ∷ []) (one_line journal_head_of) (λ h. AreMany IsRound (journal_rounds h)) (λ h. round_lines) (λ h. rounds_at (journal_rounds h)) IsJournalLine journal_lines journal_line (line_reading IsJournalHead journal_head_line journal_head_of journal_is) (λ h fits. rounds_reading (journal_rounds h)) journal_both

-- ---- evidence
evidence_both : IsBoth IsEvidenceHead (λ h. evidence_head_line h ∷ []) (λ h. AreMany IsLogLine (evidence_lines_of h)) (λ h. log_lines) IsEvidence evidence_lines evidence_with
evidence_both = record { joins = joins; splits = splits; some = λ h fits. some_log (evidence_lines_of h) }
  where
    joins : (h : EvidenceHead) (log : List LogLine) → IsEvidenceHead h → AreMany IsLogLine (evidence_lines_of h) log → IsEvidence (evidence_with h log) × (evidence_lines (evidence_with h log) ≡ evidence_head_line h ∷ [] ++ log_lines log)
    joins (evidence.Whole Nothing) log fits many = (fits, ap (λ (ls : List LogLine). evidence_head_line (evidence.Whole Nothing) ∷ log_lines ls) (sym (none log many.0)))
    joins (evidence.Whole (Crosses from e n)) log fits many = (fits, ap (λ (ls : List LogLine). evidence_head_line (evidence.Whole (Crosses from e n)) ∷ log_lines ls) (sym (none log many.0)))
    joins (evidence.Whole (Refuted k ls)) log fits many = absurd fits
    joins (evidence.Log k lines) log fits many = ((fits.0, (subst IsLarge (sym many.0) fits.1, many.1)), with_log (named (codes "refuted") (k ∷ length log ∷ [])) (named (codes "refuted") (k ∷ lines ∷ [])) log (ap (λ (n : ℕ). named (codes "refuted") (k ∷ n ∷ [])) many.0))

    splits : (e : Evidence) → IsEvidence e → (h : EvidenceHead) × (log : List LogLine) × IsEvidenceHead h × AreMany IsLogLine (evidence_lines_of h) log × (evidence_with h log ≡ e)
    splits Nothing fits = (evidence.Whole Nothing, [], fits, (refl, tt), refl)
    splits (Crosses from e n) fits = (evidence.Whole (Crosses from e n), [], fits, (refl, tt), refl)
    splits (Refuted k log) fits = (evidence.Log k (length log), log, (fits.0, fits.1.0), (refl, fits.1.1), refl)

evidence_reading : IsReading IsEvidence evidence_lines evidence_at
unfolding evidence_at
evidence_reading = both_reading IsEvidenceHead (λ h. evidence_head_line h ∷ []) (one_line evidence_line_of) (λ h. AreMany IsLogLine (evidence_lines_of h)) (λ h. log_lines) (λ h. log_at (evidence_lines_of h)) IsEvidence evidence_lines evidence_with (line_reading IsEvidenceHead evidence_head_line evidence_line_of evidence_is) (λ h fits. log_reading (evidence_lines_of h)) evidence_both

-- ---- ends
abbrev AreParts : EndHead → List (List Edge) × List LogLine → Type 0
AreParts h x = AreMany IsRound (end_rounds h) x.0 × AreMany IsLogLine (end_lines_of h) x.1

abbrev part_lines : List (List Edge) × List LogLine → List Line
part_lines x = round_lines x.0 ++ log_lines x.1

parts_reading : (h : EndHead) → IsReading (AreParts h) part_lines (both pair (rounds_at (end_rounds h)) (λ rounds. log_at (end_lines_of h)))
parts_reading h = pair_reading (AreMany IsRound (end_rounds h)) round_lines (rounds_at (end_rounds h)) (λ rounds. AreMany IsLogLine (end_lines_of h)) (λ rounds. log_lines) (λ rounds. log_at (end_lines_of h)) (rounds_reading (end_rounds h)) (λ rounds fits. log_reading (end_lines_of h)) (λ rounds fits. some_log (end_lines_of h))

end_both : IsBoth IsEndHead (λ h. end_head_line h ∷ []) AreParts (λ h. part_lines) IsEnd end_lines end_with
end_both = record { joins = joins; splits = splits; some = λ h fits. let r = some_rounds (end_rounds h) in let l = some_log (end_lines_of h) in ((r.0, l.0), (r.1, l.1)) }
  where
    no_parts : (x : List (List Edge) × List LogLine) → length x.0 ≡ 0 → length x.1 ≡ 0 → [] ≡ part_lines x
    no_parts x e f = rw (none x.0 e, none x.1 f) refl

    rounds_alone : (x : List (List Edge) × List LogLine) → length x.1 ≡ 0 → round_lines x.0 ≡ part_lines x
    rounds_alone x f = rw (none x.1 f) (sym (nothing_more (round_lines x.0)))
      where
        nothing_more : (ls : List Line) → ls ++ [] ≡ ls
        nothing_more [] = refl
        nothing_more (l ∷ ls) = ap (λ (t : List Line). l ∷ t) (nothing_more ls)

    log_alone : (x : List (List Edge) × List LogLine) → length x.0 ≡ 0 → log_lines x.1 ≡ part_lines x
    log_alone x e = rw (none x.0 e) refl

    joins : (h : EndHead) (x : List (List Edge) × List LogLine) → IsEndHead h → AreParts h x → IsEnd (end_with h x) × (end_lines (end_with h x) ≡ end_head_line h ∷ [] ++ part_lines x)
    joins (end.Whole (Met rs)) x fits many = absurd fits
    joins (end.Whole (Spent k ls)) x fits many = absurd fits
    joins (end.Whole (TooLarge k c)) x fits many = (fits, ap (λ (ls : List Line). named (codes "toolarge") (k ∷ c ∷ []) ∷ ls) (no_parts x many.0.0 many.1.0))
    joins (end.Whole (ManyPoints n)) x fits many = (fits, ap (λ (ls : List Line). named (codes "manypoints") (n ∷ []) ∷ ls) (no_parts x many.0.0 many.1.0))
    joins (end.Rounds n) x fits many = ((subst IsLarge (sym many.0.0) fits, many.0.1), with_rounds (named (codes "met") (length x.0 ∷ [])) (named (codes "met") (n ∷ [])) x.0 (ap (λ (m : ℕ). named (codes "met") (m ∷ [])) many.0.0) ∙ ap (λ (ls : List Line). named (codes "met") (n ∷ []) ∷ ls) (rounds_alone x many.1.0))
    joins (end.Log k n) x fits many = ((fits.0, (subst IsLarge (sym many.1.0) fits.1, many.1.1)), with_log (named (codes "spent") (k ∷ length x.1 ∷ [])) (named (codes "spent") (k ∷ n ∷ [])) x.1 (ap (λ (m : ℕ). named (codes "spent") (k ∷ m ∷ [])) many.1.0) ∙ ap (λ (ls : List Line). named (codes "spent") (k ∷ n ∷ []) ∷ ls) (log_alone x many.0.0))

    splits : (e : End) → IsEnd e → (h : EndHead) × (x : List (List Edge) × List LogLine) × IsEndHead h × AreParts h x × (end_with h x ≡ e)
    splits (Met rounds) fits = (end.Rounds (length rounds), (rounds, []), fits.0, ((refl, fits.1), (refl, tt)), refl)
    splits (Spent k log) fits = (end.Log k (length log), ([], log), (fits.0, fits.1.0), ((refl, tt), (refl, fits.1.1)), refl)
    splits (TooLarge k c) fits = (end.Whole (TooLarge k c), ([], []), fits, ((refl, tt), (refl, tt)), refl)
    splits (ManyPoints n) fits = (end.Whole (ManyPoints n), ([], []), fits, ((refl, tt), (refl, tt)), refl)

end_reading : IsReading IsEnd end_lines end_at
unfolding end_at
end_reading = both_reading IsEndHead (λ h. end_head_line h ∷ []) (one_line end_head_of) AreParts (λ h. part_lines) (λ h. both pair (rounds_at (end_rounds h)) (λ rounds. log_at (end_lines_of h))) IsEnd end_lines end_with (line_reading IsEndHead end_head_line end_head_of end_is) (λ h fits. parts_reading h) end_both

-- ---- rows
abbrev row_line : RowHead → Line
row_line h = named (codes "row") (h.i ∷ h.j ∷ h.lower ∷ [])

row_is : IsLineOf IsRowHead row_line row_line_of
row_is = named_line IsRowHead (λ h. h.i ∷ h.j ∷ h.lower ∷ []) row_head_of (codes "row") (clean_name (codes "row") refl) row_said

abbrev AreShown : Evidence × End → Type 0
AreShown x = IsEvidence x.0 × IsEnd x.1

abbrev shown_lines : Evidence × End → List Line
shown_lines x = evidence_lines x.0 ++ end_lines x.1

shown_reading : IsReading AreShown shown_lines (both pair evidence_at (λ e. end_at))
shown_reading = pair_reading IsEvidence evidence_lines evidence_at (λ e. IsEnd) (λ e. end_lines) (λ e. end_at) evidence_reading (λ e fits. end_reading) (λ e fits. (ManyPoints 0, omega arith))

row_both : IsBoth IsRowHead (λ h. row_line h ∷ []) (λ h. AreShown) (λ h. shown_lines) IsRow row_lines row_with
row_both = record {
  joins = λ h x fits shown. (record { i = fits.i; j = fits.j; lower = fits.lower; evidence = shown.0; end = shown.1 }, refl);
  splits = λ row fits. (record { i = row.i; j = row.j; lower = row.lower }, (row.evidence, row.end), record { i = fits.i; j = fits.j; lower = fits.lower }, (fits.evidence, fits.end), refl);
  some = λ h fits. ((Nothing, ManyPoints 0), (tt, omega arith));
}

row_reading : IsReading IsRow row_lines row_at
unfolding row_at
row_reading = both_reading IsRowHead (λ h. row_line h ∷ []) (one_line row_line_of) (λ h. AreShown) (λ h. shown_lines) (λ h. both pair evidence_at (λ e. end_at)) IsRow row_lines row_with (line_reading IsRowHead row_line row_line_of row_is) (λ h fits. shown_reading) row_both

-- ---- lists behind their numbers
abbrev IsListed : {A : Type 0} → (A → Type 0) → List A → Type 0
IsListed Fits xs = IsLarge (length xs) × AllByRecursion Fits xs

large_is : (name : List ℕ) → IsLine name → IsLineOf IsLarge (λ n. named name (n ∷ [])) (large_line_of name)
large_is name clean = named_line IsLarge (λ n. n ∷ []) large_one name clean large_said

wide_is : (name : List ℕ) → IsLine name → IsLineOf IsWide (λ n. named name (n ∷ [])) (wide_line_of name)
wide_is name clean = named_line IsWide (λ n. n ∷ []) one_of name clean wide_said

large_reading : (name : List ℕ) → IsLine name → IsReading IsLarge (λ n. named name (n ∷ []) ∷ []) (one_line (large_line_of name))
large_reading name clean = line_reading IsLarge (λ n. named name (n ∷ [])) (large_line_of name) (large_is name clean)

wide_reading : (name : List ℕ) → IsLine name → IsReading IsWide (λ n. named name (n ∷ []) ∷ []) (one_line (wide_line_of name))
wide_reading name clean = line_reading IsWide (λ n. named name (n ∷ [])) (wide_line_of name) (wide_is name clean)

module _ {A : Type 0} (Fits : A → Type 0) (lines : A → List Line) (read : Reading A) (name : List ℕ) where
  listed_both : (x : A) × Fits x → IsBoth IsLarge (λ n. named name (n ∷ []) ∷ []) (λ n. AreMany Fits n) (λ n. flat_map lines) (IsListed Fits) (listed name lines) second
  listed_both some = record {
    joins = λ n xs large many. ((subst IsLarge (sym many.0) large, many.1), ap (λ (k : ℕ). named name (k ∷ []) ∷ flat_map lines xs) many.0);
    splits = λ xs fits. (length xs, xs, fits.0, (refl, fits.1), refl);
    some = λ n large. (replicate n some.0, are_many Fits some.0 some.1 n);
  }

  listed_reading : IsLine name → IsReading Fits lines read → (x : A) × Fits x → IsReading (IsListed Fits) (listed name lines) (both second (one_line (large_line_of name)) (λ n. times read n))
  listed_reading clean is some = both_reading IsLarge (λ n. named name (n ∷ []) ∷ []) (one_line (large_line_of name)) (λ n. AreMany Fits n) (λ n. flat_map lines) (λ n. times read n) (IsListed Fits) (listed name lines) second (large_reading name clean) (λ n large. times_reading Fits lines read is some n) (listed_both some)

journal_reading : IsReading (IsListed IsJournalLine) (listed (codes "journal") journal_lines) journal_at
unfolding journal_at
journal_reading = listed_reading IsJournalLine journal_lines journal_line_at (codes "journal") (clean_name (codes "journal") refl) journal_line_reading (Swap 0 0 [], (omega arith, omega arith, (omega arith, tt)))

some_row : (row : Row) × IsRow row
some_row = (record { i = 0; j = 0; lower = 0; evidence = Nothing; end = ManyPoints 0 }, record { i = omega arith; j = omega arith; lower = omega arith; evidence = tt; end = omega arith })

rows_reading : IsReading (IsListed IsRow) (listed (codes "rows") row_lines) rows_at
unfolding rows_at
rows_reading = listed_reading IsRow row_lines row_at (codes "rows") (clean_name (codes "rows") refl) row_reading some_row

-- ---- the head
abbrev IsVersion : ℕ → Type 0
IsVersion n = (1 ≤ n) × (n ≤ 3)

abbrev version_line : ℕ → Line
version_line n = named (codes "flipcentre-certificate") (n ∷ [])

version_is : IsLineOf IsVersion version_line version_line_of
version_is = named_line IsVersion (λ n. n ∷ []) version_of (codes "flipcentre-certificate") (clean_name (codes "flipcentre-certificate") refl) version_said

abbrev counts_line : ℕ → Counts → Line
counts_line version c = named (codes "inputs") (input_numbers version c.inputs c.copies)

counts_is : (version : ℕ) → IsLineOf (AreCounts version) (counts_line version) (counts_line_of version)
counts_is version = named_line (AreCounts version) (λ c. input_numbers version c.inputs c.copies) (counts_of version) (codes "inputs") (clean_name (codes "inputs") refl) (counts_said version)

abbrev IsNamed : ℕ → List ℕ × Counts → Type 0
IsNamed version x = IsUid x.0 × AreCounts version x.1

abbrev name_lines : ℕ → List ℕ × Counts → List Line
name_lines version x = uid_line x.0 ∷ [] ++ counts_line version x.1 ∷ []

name_reading : (version : ℕ) → IsReading (IsNamed version) (name_lines version) (both pair (one_line uid_line_of) (λ uid. one_line (counts_line_of version)))
name_reading version = pair_reading IsUid (λ uid. uid_line uid ∷ []) (one_line uid_line_of) (λ uid. AreCounts version) (λ uid c. counts_line version c ∷ []) (λ uid. one_line (counts_line_of version)) (line_reading IsUid uid_line uid_line_of uid_is) (λ uid fits. line_reading (AreCounts version) (counts_line version) (counts_line_of version) (counts_is version)) (λ uid fits. (counts_is version).some)

record IsHead (h : Head) : Type 0 where
  version : IsVersion h.version
  uid : IsUid h.uid
  counts : AreCounts h.version h.counts

abbrev head_lines : Head → List Line
head_lines h = version_line h.version ∷ uid_line h.uid ∷ counts_line h.version h.counts ∷ []

head_reading : IsReading IsHead head_lines head_at
unfolding head_at
head_reading = both_reading IsVersion (λ n. version_line n ∷ []) (one_line version_line_of) IsNamed name_lines (λ version. both pair (one_line uid_line_of) (λ uid. one_line (counts_line_of version))) IsHead head_lines head_with (line_reading IsVersion version_line version_line_of version_is) (λ version fits. name_reading version) (record {
  joins = λ version x v n. (record { version = v; uid = n.0; counts = n.1 }, refl);
  splits = λ h fits. (h.version, (h.uid, h.counts), fits.version, (fits.uid, fits.counts), refl);
  some = λ version v. ((uid_is.some.0, (counts_is version).some.0), (uid_is.some.1, (counts_is version).some.1));
})

-- ---- the totals
abbrev AreTwo : ℕ × ℕ → Type 0
AreTwo x = IsWide x.0 × IsLarge x.1

abbrev two_lines : ℕ × ℕ → List Line
two_lines x = named (codes "total") (x.0 ∷ []) ∷ [] ++ named (codes "bound") (x.1 ∷ []) ∷ []

two_reading : IsReading AreTwo two_lines (both pair (one_line (wide_line_of (codes "total"))) (λ total. one_line (large_line_of (codes "bound"))))
two_reading = pair_reading IsWide (λ n. named (codes "total") (n ∷ []) ∷ []) (one_line (wide_line_of (codes "total"))) (λ total. IsLarge) (λ total n. named (codes "bound") (n ∷ []) ∷ []) (λ total. one_line (large_line_of (codes "bound"))) (wide_reading (codes "total") (clean_name (codes "total") refl)) (λ n fits. large_reading (codes "bound") (clean_name (codes "bound") refl)) (λ n fits. (0, omega arith))

record AreTotals (t : Totals) : Type 0 where
  opening : IsWide t.opening
  total : IsWide t.total
  bound : IsLarge t.bound

abbrev total_lines : Totals → List Line
total_lines t = named (codes "opening") (t.opening ∷ []) ∷ named (codes "total") (t.total ∷ []) ∷ named (codes "bound") (t.bound ∷ []) ∷ []

totals_reading : IsReading AreTotals total_lines totals_at
unfolding totals_at
totals_reading = both_reading IsWide (λ n. named (codes "opening") (n ∷ []) ∷ []) (one_line (wide_line_of (codes "opening"))) (λ n. AreTwo) (λ n. two_lines) (λ n. both pair (one_line (wide_line_of (codes "total"))) (λ total. one_line (large_line_of (codes "bound")))) AreTotals total_lines totals_with (wide_reading (codes "opening") (clean_name (codes "opening") refl)) (λ n fits. two_reading) (record {
  joins = λ n x w t. (record { opening = w; total = t.0; bound = t.1 }, refl);
  splits = λ t fits. (t.opening, (t.total, t.bound), fits.opening, (fits.total, fits.bound), refl);
  some = λ n w. ((0, 0), (omega arith, omega arith));
})

-- ---- the last lines
perm_is : (copies : ℕ) → IsLineOf (IsPerm copies) (named (codes "pack")) (perm_line_of copies)
perm_is copies = named_line (IsPerm copies) (λ perm. perm) (perm_of copies) (codes "pack") (clean_name (codes "pack") refl) (perm_said copies)

abbrev Whatever : Unit {0} → Type 0
Whatever u = Unit {0}

end_line_is : IsLineOf Whatever (λ u. named (codes "end") []) end_line_of
end_line_is = named_line Whatever (λ u. []) ends_said (codes "end") (clean_name (codes "end") refl) end_said

abbrev perm_lines : List ℕ → List Line
perm_lines perm = named (codes "pack") perm ∷ named (codes "end") [] ∷ []

perm_reading : (copies : ℕ) → IsReading (IsPerm copies) perm_lines (perm_at copies)
unfolding perm_at
perm_reading copies = both_reading (IsPerm copies) (λ perm. named (codes "pack") perm ∷ []) (one_line (perm_line_of copies)) (λ perm. Whatever) (λ perm u. named (codes "end") [] ∷ []) (λ perm. one_line end_line_of) (IsPerm copies) perm_lines first (line_reading (IsPerm copies) (named (codes "pack")) (perm_line_of copies) (perm_is copies)) (λ perm fits. line_reading Whatever (λ u. named (codes "end") []) end_line_of end_line_is) (record {
  joins = λ perm u fits w. (fits, refl);
  splits = λ perm fits. (perm, tt, fits, tt, refl);
  some = λ perm fits. (tt, tt);
})

-- ---- the whole
abbrev rest_lines : List JournalLine × (List Row × List ℕ) → List Line
rest_lines x = listed (codes "journal") journal_lines x.0 ++ (listed (codes "rows") row_lines x.1.0 ++ perm_lines x.1.1)

abbrev IsRest : ℕ → List JournalLine × (List Row × List ℕ) → Type 0
IsRest copies x = IsListed IsJournalLine x.0 × (IsListed IsRow x.1.0 × IsPerm copies x.1.1)

some_perm : (copies : ℕ) → (perm : List ℕ) × IsPerm copies perm
some_perm copies = (perm_is copies).some

rest_reading : (copies : ℕ) → IsReading (IsRest copies) rest_lines (both pair journal_at (λ journal. both pair rows_at (λ rows. perm_at copies)))
rest_reading copies =
    pair_reading (IsListed IsJournalLine) (listed (codes "journal") journal_lines) journal_at (λ j x. IsListed IsRow x.0 × IsPerm copies x.1) (λ j x. listed (codes "rows") row_lines x.0 ++ perm_lines x.1) (λ j. both pair rows_at (λ rows. perm_at copies)) journal_reading
    (λ j fits. pair_reading (IsListed IsRow) (listed (codes "rows") row_lines) rows_at (λ rows. IsPerm copies) (λ rows. perm_lines) (λ rows. perm_at copies) rows_reading (λ rows fit. perm_reading copies) (λ rows fit. some_perm copies))
    (λ j fits. (([], (some_perm copies).0), ((omega arith, tt), (some_perm copies).1)))

abbrev IsBody : ℕ → Body → Type 0
IsBody copies body = AreTotals body.0 × IsRest copies body.1

abbrev body_lines : Body → List Line
body_lines body = total_lines body.0 ++ rest_lines body.1

some_rest : (copies : ℕ) → (x : List JournalLine × (List Row × List ℕ)) × IsRest copies x
some_rest copies = (([], ([], (some_perm copies).0)), ((omega arith, tt), ((omega arith, tt), (some_perm copies).1)))

some_totals : (t : Totals) × AreTotals t
some_totals = (record { opening = 0; total = 0; bound = 0 }, record { opening = omega arith; total = omega arith; bound = omega arith })

body_reading : (copies : ℕ) → IsReading (IsBody copies) body_lines (both pair totals_at (λ totals. both pair journal_at (λ journal. both pair rows_at (λ rows. perm_at copies))))
body_reading copies = pair_reading AreTotals total_lines totals_at (λ t. IsRest copies) (λ t. rest_lines) (λ t. both pair journal_at (λ journal. both pair rows_at (λ rows. perm_at copies))) totals_reading (λ t fits. rest_reading copies) (λ t fits. some_rest copies)

cert_both : IsBoth IsHead head_lines (λ h. IsBody h.counts.copies) (λ h. body_lines) IsCert cert_lines cert_with
cert_both = record {
  joins = λ h b fh fb. (
    record {
      version = fh.version;
      uid = fh.uid;
      inputs = fh.counts.inputs;
      copies = fh.counts.copies;
      each_once = fh.counts.each_once;
      opening = fb.0.opening;
      total = fb.0.total;
      bound = fb.0.bound;
      journal = fb.1.0;
      rows = fb.1.1.0;
      perm = fb.1.1.1;
    },
    refl,
  );
  splits = λ c fits. (
    record { version = c.version; uid = c.uid; counts = counts c.inputs c.copies },
    (record { opening = c.opening; total = c.total; bound = c.bound }, (c.journal, (c.rows, c.perm))),
    record { version = fits.version; uid = fits.uid; counts = record { inputs = fits.inputs; copies = fits.copies; each_once = fits.each_once } },
    (record { opening = fits.opening; total = fits.total; bound = fits.bound }, (fits.journal, (fits.rows, fits.perm))),
    refl,
  );
  some = λ h fits. ((some_totals.0, (some_rest h.counts.copies).0), (some_totals.1, (some_rest h.counts.copies).1));
}

pub cert_reading : IsReading IsCert cert_lines cert_at
unfolding cert_at
cert_reading = both_reading IsHead head_lines head_at (λ h. IsBody h.counts.copies) (λ h. body_lines) (λ h. both pair totals_at (λ totals. both pair journal_at (λ journal. both pair rows_at (λ rows. perm_at h.counts.copies)))) IsCert cert_lines cert_with head_reading (λ h fits. body_reading h.counts.copies) cert_both
