-- A budget that is too small is one that was given, and less than the pairs of points.
use Rattle.std.proofs.Common.{◌≡◌, ◌<◌, ◌≤◌, ℕ, List, length, inl, inr, Option, Some, None, arith}
use Rattle.std.proofs.lemmas.Option.{slice_get_within, get_or_from_slice_get}
use Rattle.host_io.specs.Store.{Held}
use Rattle.tri_check.specs.Problems.{Problem, IsProblem}
use Rattle.lawson_start.specs.Starts.{IsOverBudget}
use Rattle.edge_table.specs.declared.edge.Edge.{Edge}
use Rattle.tri_theory.specs.Triangulations.{IsTriangulation}
use Rattle.lawson_law.specs.LawsonRuns.{IsLawsonRun}
use Rattle.lawson_law.proofs.Proved.{runs_exist, runs_have_lengths, runs_are_short}
use Rattle.centre_words.specs.declared.asked.Asked.{Asked}
use Rattle.centre_words.specs.declared.asked.Asked.TheVariants.{Check, Score, Solve, Verify, Trace, Bench}
use Rattle.centre_words.specs.Words.{Asks}
use Rattle.centre_run.specs.declared.status.Status.TheVariants.{FlipBudget, Refused, Words, ReadFault}
use Rattle.centre_run.specs.declared.solving.SolveOptions.{SolveOptions}
use Rattle.centre_run.specs.declared.solving.Texts.{Texts}
use Rattle.centre_run.specs.Orders.{pairs_of, flips_allowed}
use Rattle.centre_run.specs.Runs.{MayHold, SpellsInstance, ScoreSays, SolveSays, VerifySays, TraceSays, BenchSays, Files, CommandSays, Says, Does, AllowsFewFlips}

-- a run is longer than the budget only where that is less than the pairs of points
pub few_flips : (i : Problem) (n t : ℕ) → IsProblem i.points i.inputs → IsOverBudget i.points i.inputs n t → n < pairs_of (length i.points)
few_flips i n t problem over = by_run (runs_exist i.points over.input problem.placed there)
  where
    there : IsTriangulation i.points over.input
    there = problem.triangulated over.input (t, slice_get_within i.inputs t over.input over.there, get_or_from_slice_get i.inputs t over.input over.input over.there)

    between : (few many most : ℕ) → few < many → many ≤ most → few < most
    between few many most l m = omega arith

    by_run : (flips to : List Edge) × IsLawsonRun i.points over.input flips to → n < pairs_of (length i.points)
    by_run (flips, to, run) =
        between n (length flips) (pairs_of (length i.points)) ((runs_have_lengths i.points over.input flips to n problem.placed there run).0 over.longer)
        (runs_are_short i.points over.input flips to problem.placed there run.0)

pub not_less : (n : ℕ) → n < n → ⊥
not_less n l = omega arith

not_refused : FlipBudget ≡ Refused → ⊥
not_refused e = cc

not_words : FlipBudget ≡ Words → ⊥
not_words e = cc

not_unread : FlipBudget ≡ ReadFault → ⊥
not_unread e = cc

-- ---- only `solve` says it
score_never : (bytes others line : List ℕ) → ScoreSays bytes others FlipBudget line → ⊥
score_never bytes others line (inl (refused, names)) = not_refused refused
score_never bytes others line (inr (instance, solution, spells, lists, says)) = says

verify_never : (bytes others last line : List ℕ) → VerifySays bytes others last FlipBudget line → ⊥
verify_never bytes others last line (inl (refused, names)) = not_refused refused
verify_never bytes others last line (inr (instance, solution, cert, spells, lists, text, says)) = says

trace_never : (bytes : List ℕ) (t : ℕ) (line : List ℕ) → TraceSays bytes t FlipBudget line → ⊥
trace_never bytes t line (inl (refused, names)) = not_refused refused
trace_never bytes t line (inr (instance, spells, says)) = says

bench_never : (seed n m : ℕ) (line : List ℕ) → BenchSays seed n m FlipBudget line → ⊥
bench_never seed n m line (raw, is, inl (bad, refused, first, told)) = not_refused refused
bench_never seed n m line (raw, is, inr (instance, accepted, problem, says)) = says

-- an instance that the bytes spell, of which so many flips are too few
abbrev IsShort : List ℕ → Option ℕ → Type 0
IsShort bytes flips = (instance : Problem) × SpellsInstance bytes instance × (flips_allowed instance flips < pairs_of (length instance.points))

solve_short : (bytes : List ℕ) (options : SolveOptions) (line : List ℕ) (texts : Option Texts) → SolveSays bytes options FlipBudget line texts → IsShort bytes options.flips
solve_short bytes options line texts (inl (refused, names, none)) = absurd (not_refused refused)
solve_short bytes options line texts (inr (instance, spells, (t, over, told, none))) = (instance, spells, few_flips instance (flips_allowed instance options.flips) t spells.problem over)

solve_few : (words : List (List ℕ)) (held : Option Held) (i target certificate : List ℕ) (workers turns seed : ℕ) (flips : Option ℕ) (bytes : List ℕ) → Asks words (Solve i target certificate workers turns seed flips) → MayHold held i bytes → IsShort bytes flips → AllowsFewFlips words held
solve_few words held i target certificate workers turns seed None bytes asks there (instance, spells, less) = absurd (not_less (pairs_of (length instance.points)) less)
solve_few words held i target certificate workers turns seed (Some flips) bytes asks there (instance, spells, less) = (i, target, certificate, workers, turns, seed, flips, bytes, instance, asks, there, spells, less)

few_asked : (words : List (List ℕ)) (held : Option Held) (c : Asked) (line : List ℕ) (files : Files) → Asks words c → CommandSays held c FlipBudget line files → AllowsFewFlips words held
few_asked words held (Check i) line files asks (bytes, there, says, none) = absurd says
few_asked words held (Score i s) line files asks (bytes, others, there, here, says, none) = absurd (score_never bytes others line says)
few_asked words held (Solve i target certificate workers turns seed flips) line files asks (bytes, texts, there, says, is) =
    solve_few words held i target certificate workers turns seed flips bytes asks there (solve_short bytes (record { workers = workers; turns = turns; seed = seed; flips = flips }) line texts says)
few_asked words held (Verify i s c) line files asks (bytes, others, last, there, here, along, says, none) = absurd (verify_never bytes others last line says)
few_asked words held (Trace i t) line files asks (bytes, there, says, none) = absurd (trace_never bytes t line says)
few_asked words held (Bench seed n m) line files asks (says, none) = absurd (bench_never seed n m line says)

says_few : (words : List (List ℕ)) (held : Option Held) (line : List ℕ) (files : Files) → Says words held FlipBudget line files → AllowsFewFlips words held
says_few words held line files (inl (unasked, is, told, none)) = absurd (not_words is)
says_few words held line files (inr (c, asks, inl says)) = few_asked words held c line files asks says
says_few words held line files (inr (c, asks, inr (lacks, is, told, none))) = absurd (not_unread is)

pub budget_is_short : (words : List (List ℕ)) (old new : Option Held) (line : List ℕ) → Does words old new FlipBudget line → AllowsFewFlips words old
budget_is_short words old new line (files, says, written) = says_few words old line files says
