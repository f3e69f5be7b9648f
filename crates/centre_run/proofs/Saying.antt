-- What the commands let a run say.
use Rattle.std.proofs.Common.{◌≡◌, ◌≢◌, ◌⊎◌, ◌∙◌, inl, inr, sym, ap, ap₂, refl, subst, ℕ, ◌≤◌, false, cond, List, [], ◌∷◌, length, take, Option, Some, None, Ok, Err, arith}
use Rattle.std.specs.Prelude.{All, Result, IsErrOf, OnOk}
use Rattle.std.specs.FinMap as map
use Rattle.std.specs.FinMap.{nat_cmp-IsAntisymmetric, slice_cmp-IsAntisymmetric}
use Rattle.std.specs.declared.cmp.Ordering.{Ordering}
use Rattle.std.specs.declared.cmp.Ordering.TheVariants.{Less, Equal, Greater}
use Rattle.std.specs.Ordering.{nat_cmp, is_eq}
use Rattle.std.specs.Cmp.Lexicographic.{slice_cmp, nat_list_cmp_total}
use Rattle.std.proofs.lemmas.List.Elements.{All-nil, All-cons, All-head, All-tail}
use Rattle.std.proofs.lemmas.Slice.Zip.{AllZip-long}
use Rattle.instance_json.specs.Faults.{HasForm}
use Rattle.instance_json.specs.Forms.{Spells}
use Rattle.tri_check.specs.declared.raw.RawInstance.{RawInstance}
use Rattle.tri_check.specs.Accepted.{IsAccepted}
use Rattle.tri_check.specs.Problems.{Problem}
use Rattle.centre_run.specs.declared.status.Status.{Status}
use Rattle.centre_run.specs.declared.status.Status.TheVariants.{Done, Words, No}
use Rattle.host_io.specs.Store.{Held, Writes}
use Rattle.host_io.specs.declared.fail.StoreFail.TheVariants.{Failed}
use Rattle.host_io.specs.Sink.{Takes}
use Rattle.host_io.specs.declared.fail.SinkFail.{SinkFail}
use Rattle.centre_words.specs.declared.asked.Asked.{Asked}
use Rattle.centre_words.specs.declared.asked.Asked.TheVariants.{Check, Score, Solve, Verify, Trace, Bench}
use Rattle.centre_words.specs.Table.{Number, turns, workers}
use Rattle.centre_words.specs.Words.{values_of, IsChosen, Asks, IsUnasked}
use Rattle.centre_run.specs.declared.solving.SolveOptions.{SolveOptions}
use Rattle.centre_run.specs.declared.solving.Texts.{Texts}
use Rattle.printed_lines.specs.Lines.{valid_line, words_line}
use Rattle.centre_run.specs.Runs.{MayHold, CheckSays, ScoreSays, SolveSays, VerifySays, TraceSays, BenchSays, AsksToVerify, Files, files_under, CommandSays, CommandDoes, CommandBegins, CommandBreaksOff, Says, AreWritten, HasWritten, AreBegun, HasBegun, AreCutOff, HasBrokenOff, Does, Begins, BreaksOff, LeavesName, KeepsOthers, IsTold, IsCutOff, TellsPart}

pub accepted_says : (bytes : List ℕ) (raw : RawInstance) (problem : Problem) (status : Status) (line : List ℕ) → HasForm bytes → Spells bytes raw
    → IsAccepted raw.uid raw.points raw.inputs raw.weights problem → status ≡ Done → line ≡ valid_line (length problem.points) (length problem.inputs)
    → CheckSays bytes status line
accepted_says bytes raw problem status line form spells accepted done told =
    subst (λ s. CheckSays bytes s line) (sym done)
    (raw, (form, spells, accepted.valid), told ∙ ap₂ valid_line (ap (λ ps. length ps) accepted.points) (AllZip-long _ raw.inputs problem.inputs accepted.inputs))

-- what a command says and writes that the words ask for, the run says and writes
pub command_does : (words : List (List ℕ)) (old new : Option Held) (c : Asked) (status : Status) (line : List ℕ) → Asks words c → CommandDoes old new c status line → Does words old new status line
command_does words old new c status line asks (files, says, written) = (files, inr (c, asks, inl says), written)

pub command_breaks_off : (words : List (List ℕ)) (old new : Option Held) (c : Asked) → Asks words c → CommandBreaksOff old new c → BreaksOff words old new
command_breaks_off words old new c asks (status, line, files, says, broken) = (status, line, files, inr (c, asks, inl says), broken)

-- no file is written where what is held stays
pub nothing_written : (old new : Option Held) → new ≡ old → HasWritten old new []
nothing_written None new same = same
nothing_written (Some held) new same = (held, same, refl)

-- what a command says that writes nothing
pub check_does : (old new : Option Held) (name bytes : List ℕ) (status : Status) (line : List ℕ) → MayHold old name bytes → new ≡ old → CheckSays bytes status line → CommandDoes old new (Check name) status line
check_does old new name bytes status line held same says = ([], (bytes, held, says, refl), nothing_written old new same)

pub score_does : (old new : Option Held) (first second bytes others : List ℕ) (status : Status) (line : List ℕ) → MayHold old first bytes → MayHold old second others → new ≡ old → ScoreSays bytes others status line
    → CommandDoes old new (Score first second) status line
score_does old new first second bytes others status line held here same says = ([], (bytes, others, held, here, says, refl), nothing_written old new same)

pub verify_does : (old new : Option Held) (first second third bytes others last : List ℕ) (status : Status) (line : List ℕ) → MayHold old first bytes → MayHold old second others → MayHold old third last → new ≡ old
    → VerifySays bytes others last status line → CommandDoes old new (Verify first second third) status line
verify_does old new first second third bytes others last status line held here there same says =
    ([], (bytes, others, last, held, here, there, says, refl), nothing_written old new same)

pub trace_does : (old new : Option Held) (name bytes : List ℕ) (t : ℕ) (status : Status) (line : List ℕ) → MayHold old name bytes → new ≡ old → TraceSays bytes t status line → CommandDoes old new (Trace name t) status line
trace_does old new name bytes t status line held same says = ([], (bytes, held, says, refl), nothing_written old new same)

-- a command that has no files says this
pub bench_does : (old : Option Held) (seed n m : ℕ) (status : Status) (line : List ℕ) → BenchSays seed n m status line → CommandDoes old old (Bench seed n m) status line
bench_does old seed n m status line says = ([], (says, refl), nothing_written old old refl)

-- the words ask for the texts of the names that were read
pub verify_asked : (words : List (List ℕ)) (i s c first second third : List ℕ) → first ≡ i → second ≡ s → third ≡ c → Asks words (Verify i s c) → Asks words (Verify first second third)
verify_asked words i s c first second third a b d asks =
    subst (λ n. Asks words (Verify n second third)) (sym a) (subst (λ n. Asks words (Verify i n third)) (sym b) (subst (λ n. Asks words (Verify i s n)) (sym d) asks))

-- `verify` alone says that a certificate doesn't show what it says
no_asked : (words : List (List ℕ)) (held : Option Held) (c : Asked) (line : List ℕ) (files : Files) → Asks words c → CommandSays held c No line files → AsksToVerify words
no_asked words held (Check i) line files asks (bytes, there, says, none) = absurd says
no_asked words held (Score i s) line files asks (bytes, others, there, here, inl (refused, names), none) = cc
no_asked words held (Score i s) line files asks (bytes, others, there, here, inr (instance, solution, spells, lists, says), none) = absurd says
no_asked words held (Solve i target certificate workers turns seed flips) line files asks (bytes, texts, there, inl (refused, names, none), is) = cc
no_asked words held (Solve i target certificate workers turns seed flips) line files asks (bytes, texts, there, inr (instance, spells, says), is) = absurd says
no_asked words held (Verify i s c) line files asks says = (i, s, c, asks)
no_asked words held (Trace i t) line files asks (bytes, there, inl (refused, names), none) = cc
no_asked words held (Trace i t) line files asks (bytes, there, inr (instance, spells, says), none) = absurd says
no_asked words held (Bench seed n m) line files asks ((raw, is, inl (bad, refused, first, told)), none) = cc
no_asked words held (Bench seed n m) line files asks ((raw, is, inr (instance, accepted, problem, says)), none) = absurd says

pub no_by_verify : (words : List (List ℕ)) (old new : Option Held) (line : List ℕ) → Does words old new No line → AsksToVerify words
no_by_verify words old new line (files, inl (unasked, is, told, none), written) = cc
no_by_verify words old new line (files, inr (c, asks, inl says), written) = no_asked words old c line files asks says
no_by_verify words old new line (files, inr (c, asks, inr (lacks, is, told, none)), written) = cc

-- what the words of no command let a run say
pub words_does : (words : List (List ℕ)) (old new : Option Held) (status : Status) (line : List ℕ) → IsUnasked words → new ≡ old → status ≡ Words → line ≡ words_line → Does words old new status line
words_does words old new status line unasked same is told = ([], inl (unasked, is, told, refl), nothing_written old new same)

-- what `solve` says and writes
module _ (old mid new : Option Held) (name target certificate bytes : List ℕ) (options : SolveOptions) (status : Status) (line : List ℕ) (texts : Option Texts) (held : MayHold old name bytes) (same : mid ≡ old) (says : SolveSays bytes options status line texts) where
  abbrev solve_asked : Asked
  solve_asked = Solve name target certificate options.workers options.turns options.seed options.flips

  abbrev solve_files : Files
  solve_files = files_under target certificate texts

  pub solve_does : HasWritten mid new solve_files → CommandDoes old new solve_asked status line
  solve_does written = (solve_files, (bytes, texts, held, says, refl), subst (λ before. HasWritten before new solve_files) same written)

  pub solve_begins : HasBegun mid new solve_files → CommandBegins old new solve_asked
  solve_begins begun = (status, line, solve_files, (bytes, texts, held, says, refl), subst (λ before. HasBegun before new solve_files) same begun)

  pub solve_breaks_off : HasBrokenOff mid new solve_files → CommandBreaksOff old new solve_asked
  solve_breaks_off broken = (status, line, solve_files, (bytes, texts, held, says, refl), subst (λ before. HasBrokenOff before new solve_files) same broken)

-- the words ask for the texts of the names that were read
pub solve_words : (words : List (List ℕ)) (i s c first second third : List ℕ) (options : SolveOptions) → first ≡ i → second ≡ s → third ≡ c → Asks words (Solve i s c options.workers options.turns options.seed options.flips)
    → Asks words (Solve first second third options.workers options.turns options.seed options.flips)
solve_words words i s c first second third o a b d asks =
    subst (λ n. Asks words (Solve n second third o.workers o.turns o.seed o.flips)) (sym a)
    (subst (λ n. Asks words (Solve i n third o.workers o.turns o.seed o.flips)) (sym b) (subst (λ n. Asks words (Solve i s n o.workers o.turns o.seed o.flips)) (sym d) asks))

-- a number that is chosen isn't above the greatest one
chosen_small : (number : Number) (usual : ℕ) (values : List (List ℕ)) (n : ℕ) → number.usual ≡ Some usual → usual ≤ number.most → IsChosen number values (Some n) → n ≤ number.most
chosen_small number usual [] n is small chosen = let same : n ≡ usual = cc in omega (arith, same, small)
chosen_small number usual (value ∷ []) n is small chosen = chosen.small
chosen_small number usual (value ∷ other ∷ values) n is small chosen = absurd chosen

-- so the words ask for few turns
pub few_turns : (words : List (List ℕ)) (i s c : List ℕ) (workers n seed : ℕ) (flips : Option ℕ) → Asks words (Solve i s c workers n seed flips) → n ≤ 1000000
few_turns words i s c workers n seed flips asks = chosen_small turns 64 (values_of turns.name asks.pieces) n refl (omega arith) asks.turns_is

-- and for few workers
pub few_workers : (words : List (List ℕ)) (i s c : List ℕ) (n some seed : ℕ) (flips : Option ℕ) → Asks words (Solve i s c n some seed flips) → n ≤ 16
few_workers words i s c n some seed flips asks = chosen_small workers 4 (values_of workers.name asks.pieces) n refl (omega arith) asks.workers_is

-- what was begun for the command that words ask for
pub command_begins : (words : List (List ℕ)) (old new : Option Held) (c : Asked) → Asks words c → (new ≡ old) ⊎ CommandBegins old new c → Begins words old new
command_begins words old new c asks (inl same) = inl same
command_begins words old new c asks (inr begun) = inr (c, asks, begun)

-- one file that was written, or broke off
pub written_one : (old new : Option Held) (name bytes : List ℕ) (done : Unit {0}) → Writes old new name bytes (Ok done) → HasWritten old new ((name, bytes) ∷ [])
written_one None new name bytes done writes = writes.0
written_one (Some held) new name bytes done (later, is, told) = (later, is, told)

pub broken_one : (old new : Option Held) (name bytes : List ℕ) → Writes old new name bytes (Err Failed) → HasBrokenOff old new ((name, bytes) ∷ [])
broken_one None new name bytes writes = writes.0
broken_one (Some held) new name bytes (later, is, leaves) = (later, is, inl leaves)

-- one file after another
pub written_two : (old mid new : Option Held) (one other : List ℕ × List ℕ) → HasWritten old mid (one ∷ []) → HasWritten mid new (other ∷ []) → HasWritten old new (one ∷ other ∷ [])
written_two None mid new one other first second = subst (λ m. HasWritten m new (other ∷ [])) first second
written_two (Some held) mid new one other (after, is, written) second = by_first (subst (λ m. HasWritten m new (other ∷ [])) is second)
  where
    by_first : HasWritten (Some after) new (other ∷ []) → HasWritten (Some held) new (one ∷ other ∷ [])
    by_first (later, told, also) = (later, told, subst (λ h. AreWritten h later (other ∷ [])) written also)

pub broken_first : (old new : Option Held) (one other : List ℕ × List ℕ) → HasBrokenOff old new (one ∷ []) → HasBrokenOff old new (one ∷ other ∷ [])
broken_first None new one other broken = broken
broken_first (Some held) new one other (later, is, inl leaves) = (later, is, inl leaves)
broken_first (Some held) new one other (later, is, inr never) = absurd never

pub broken_second : (old mid new : Option Held) (one other : List ℕ × List ℕ) → HasWritten old mid (one ∷ []) → HasBrokenOff mid new (other ∷ []) → HasBrokenOff old new (one ∷ other ∷ [])
broken_second None mid new one other first second = subst (λ m. HasBrokenOff m new (other ∷ [])) first second
broken_second (Some held) mid new one other (after, is, written) second = by_first (subst (λ m. HasBrokenOff m new (other ∷ [])) is second)
  where
    by_first : HasBrokenOff (Some after) new (other ∷ []) → HasBrokenOff (Some held) new (one ∷ other ∷ [])
    by_first (later, told, cut) = (later, told, inr (subst (λ h. AreCutOff h later (other ∷ [])) written cut))

-- none of the files was begun, or the first alone was written
pub begun_none : (old new : Option Held) (files : Files) → new ≡ old → HasBegun old new files
begun_none None new files same = same
begun_none (Some held) new [] same = (held, same, refl)
begun_none (Some held) new (file ∷ files) same = (held, same, inl refl)

pub begun_first : (old mid new : Option Held) (one other : List ℕ × List ℕ) → HasWritten old mid (one ∷ []) → new ≡ mid → HasBegun old new (one ∷ other ∷ [])
begun_first None mid new one other first same = same ∙ first
begun_first (Some held) mid new one other (after, is, written) same = (after, same ∙ is, inr (inl written))

-- what follows from one thing where a result is Ok follows from the other
pub on_ok : {T E : Type 0} (r : Result T E) (P Q : Type 0) → (P → Q) → OnOk r P → OnOk r Q
on_ok (Ok t) P Q f p = f p
on_ok (Err e) P Q f p = tt

-- an error is one, whatever is answered where there is none
pub is_error : {T U E : Type 0} (r : Result T E) (e f : E) → r ≡ Err e → IsErrOf r f → IsErrOf {T = U} (Err e) f
is_error {T} {U} {E} r e f is err = ap (λ x. Err x) (ap (λ (x : Result T E). elim x [ Ok y ↦ e | Err y ↦ y ]) (sym is ∙ err))

-- ---- the names that aren't written

-- bytes under another name change nothing under this one
pub other_name : (held : Held) (name other bytes : List ℕ) → (name ≢ other) → map.get (map.insert held other bytes) name ≡ map.get held name
other_name held name other bytes differ =
    map.get-insert nat_list_cmp_total held other bytes name
    ∙ ap (λ test. cond test (Some bytes) (map.get held name)) (untied (slice_cmp nat_cmp name other) refl)
  where
    untied : (o : Ordering) → o ≡ slice_cmp nat_cmp name other → is_eq o ≡ false
    untied Less e = refl
    untied Equal e = absurd (differ (slice_cmp-IsAntisymmetric nat_cmp-IsAntisymmetric name other (sym e)))
    untied Greater e = refl

module _ (name : List ℕ) where
  abbrev AreOthers : Files → Type 0
  AreOthers files = All (λ file. name ≢ file.0) files

  written_keeps : (old new : Held) (files : Files) → AreOthers files → AreWritten old new files → map.get new name ≡ map.get old name
  written_keeps old new [] others is = ap (λ held. map.get held name) is
  written_keeps old new (file ∷ files) others is =
      written_keeps (map.insert old file.0 file.1) new files (All-tail (λ f. name ≢ f.0) file files others) is
      ∙ other_name old name file.0 file.1 (All-head (λ f. name ≢ f.0) file files others)

  broken_keeps : (old new : Held) (files : Files) → AreOthers files → AreCutOff old new files → map.get new name ≡ map.get old name
  broken_keeps old new [] others is = absurd is
  broken_keeps old new (file ∷ files) others (inl (inl same)) = ap (λ held. map.get held name) same
  broken_keeps old new (file ∷ files) others (inl (inr (n, is))) =
      ap (λ held. map.get held name) is ∙ other_name old name file.0 (take n file.1) (All-head (λ f. name ≢ f.0) file files others)
  broken_keeps old new (file ∷ files) others (inr is) =
      broken_keeps (map.insert old file.0 file.1) new files (All-tail (λ f. name ≢ f.0) file files others) is
      ∙ other_name old name file.0 file.1 (All-head (λ f. name ≢ f.0) file files others)

  begun_keeps : (old new : Held) (files : Files) → AreOthers files → AreBegun old new files → map.get new name ≡ map.get old name
  begun_keeps old new [] others is = ap (λ held. map.get held name) is
  begun_keeps old new (file ∷ files) others (inl is) = ap (λ held. map.get held name) is
  begun_keeps old new (file ∷ files) others (inr is) =
      begun_keeps (map.insert old file.0 file.1) new files (All-tail (λ f. name ≢ f.0) file files others) is
      ∙ other_name old name file.0 file.1 (All-head (λ f. name ≢ f.0) file files others)

  no_file : (files : Files) → files ≡ [] → AreOthers files
  no_file files none = subst AreOthers (sym none) (All-nil (λ file. name ≢ file.0))

  target_files : (target certificate : List ℕ) (texts : Option Texts) → name ≢ target → name ≢ certificate → AreOthers (files_under target certificate texts)
  target_files target certificate None differ apart = All-nil (λ file. name ≢ file.0)
  target_files target certificate (Some texts) differ apart =
      All-cons (λ file. name ≢ file.0) (target, texts.solution) ((certificate, texts.certificate) ∷ []) differ (All-cons (λ file. name ≢ file.0) (certificate, texts.certificate) [] apart (All-nil (λ file. name ≢ file.0)))

  command_others : (words : List (List ℕ)) (held : Option Held) (c : Asked) (status : Status) (line : List ℕ) (files : Files) → LeavesName words name → Asks words c → CommandSays held c status line files → AreOthers files
  command_others words held (Check i) status line files leaves asks (bytes, there, says, none) = no_file files none
  command_others words held (Score i s) status line files leaves asks (bytes, others, there, here, says, none) = no_file files none
  command_others words held (Solve i target certificate workers turns seed flips) status line files leaves asks (bytes, texts, there, says, is) =
      subst AreOthers (sym is)
      (target_files target certificate texts (λ same. leaves (Solve i target certificate workers turns seed flips) asks (0, omega arith, sym same))
      (λ same. leaves (Solve i target certificate workers turns seed flips) asks (1, omega arith, sym same)))
  command_others words held (Verify i s c) status line files leaves asks (bytes, others, last, there, here, with_third, says, none) = no_file files none
  command_others words held (Trace i t) status line files leaves asks (bytes, there, says, none) = no_file files none
  command_others words held (Bench seed n m) status line files leaves asks (says, none) = no_file files none

  others_said : (words : List (List ℕ)) (held : Option Held) (status : Status) (line : List ℕ) (files : Files) → LeavesName words name → Says words held status line files → AreOthers files
  others_said words held status line files leaves (inl (unasked, is, told, none)) = no_file files none
  others_said words held status line files leaves (inr (c, asks, inl says)) = command_others words held c status line files leaves asks says
  others_said words held status line files leaves (inr (c, asks, inr (lacks, is, told, none))) = no_file files none

module _ (words : List (List ℕ)) where
  pub same_keeps : (old new : Option Held) → new ≡ old → KeepsOthers words old new
  same_keeps None new same = same
  same_keeps (Some held) new same = (held, same, λ name leaves. refl)

  pub done_keeps : (old new : Option Held) (status : Status) (line : List ℕ) → Does words old new status line → KeepsOthers words old new
  done_keeps None new status line (files, says, written) = written
  done_keeps (Some held) new status line (files, says, (later, is, written)) =
      (later, is, λ name leaves. written_keeps name held later files (others_said name words (Some held) status line files leaves says) written)

  pub begun_off_keeps : (old new : Option Held) → Begins words old new → KeepsOthers words old new
  begun_off_keeps old new (inl same) = same_keeps old new same
  begun_off_keeps None new (inr (c, asks, (status, line, files, says, begun))) = begun
  begun_off_keeps (Some held) new (inr (c, asks, (status, line, files, says, (later, is, begun)))) =
      (later, is, λ name leaves. begun_keeps name held later files (command_others name words (Some held) c status line files leaves asks says) begun)

  pub broken_off_keeps : (old new : Option Held) → BreaksOff words old new → KeepsOthers words old new
  broken_off_keeps None new (status, line, files, says, broken) = broken
  broken_off_keeps (Some held) new (status, line, files, says, (later, is, broken)) =
      (later, is, λ name leaves. broken_keeps name held later files (others_said name words (Some held) status line files leaves says) broken)

-- a run that says a status, and of whose line only a part was told
pub cut_part : (words : List (List ℕ)) (held later : Option Held) (status : Status) (line : List ℕ) (old new : Option (List ℕ)) → Does words held later status line → IsCutOff old new line → TellsPart words held later old new
cut_part words held later status line old new does cut = inl (status, line, does, cut)

-- a put that took all told the line
pub told_whole : (old new : Option (List ℕ)) (line : List ℕ) (done : Unit {0}) → Takes old new line (Ok done) → IsTold old new line
told_whole None new line done takes = takes
told_whole (Some old) new line done (later, is, added) = is ∙ ap (λ bytes. Some bytes) added

-- a put that failed cut the line off
pub cut_off : (old new : Option (List ℕ)) (line : List ℕ) (e : SinkFail) → Takes old new line (Err e) → IsCutOff old new line
cut_off None new line e takes = takes
cut_off (Some old) new line e (later, is, (n, less, taken)) = (n, less, is ∙ ap (λ bytes. Some bytes) taken)
