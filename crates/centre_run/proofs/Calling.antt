-- How often commands call the store.
use Rattle.std.proofs.Common.{◌≡◌, ◌⊎◌, subst, sym, refl, ℕ, List, [], ◌∷◌, Option, inl, inr, arith}
use Rattle.host_io.specs.Store.{Held, one_more}
use Rattle.centre_run.specs.declared.status.Status.{Status}
use Rattle.centre_run.specs.declared.status.Status.TheVariants.{Done, Words, Refused, FlipBudget, Memory, ReadFault, WriteFault, No}
use Rattle.centre_words.specs.declared.asked.Asked.{Asked}
use Rattle.centre_words.specs.declared.asked.Asked.TheVariants.{Check, Score, Solve, Verify, Trace, Bench}
use Rattle.centre_words.specs.Words.{Asks}
use Rattle.centre_words.proofs.Meets.{words_ask_once}
use Rattle.centre_run.specs.declared.solving.SolveOptions.{SolveOptions}
use Rattle.centre_run.specs.declared.solving.Texts.{Texts}
use Rattle.book_solve.specs.declared.order.Order.{Order}
use Rattle.solution_json.specs.declared.solution.Solution.{Solution}
use Rattle.tri_check.specs.Problems.{Problem}
use Rattle.centre_run.specs.Orders.{order_of}
use Rattle.cert_text.specs.declared.cert.Cert.{Cert}
use Rattle.centre_run.specs.Runs.{ScoreSays, SolveSays, VerifySays, RunSays, BookSays, BenchSays, OrderSays, SolutionSays, CertificateSays, CommandDoes}
use Rattle.centre_run.specs.Calls.{after_calling, after_writing, CallsFor, StopsWriting, CommandCalls}

-- what holds of the command that words ask for holds of any
pub of_asked : (words : List (List ℕ)) (P : Asked → Type 0) (c : Asked) → Asks words c → P c → (d : Asked) → Asks words d → P d
of_asked words P c asks p d other = subst P (words_ask_once words c d asks other) p

pub check_calls : (old new : Option Held) (name : List ℕ) (status : Status) (line : List ℕ) (before now : ℕ) → CommandDoes old new (Check name) status line → now ≡ one_more before → CallsFor (Check name) status before now
check_calls old new name Done line before now does is = is
check_calls old new name Refused line before now does is = is
check_calls old new name Words line before now (files, (bytes, held, says, none), written) is = absurd says
check_calls old new name FlipBudget line before now (files, (bytes, held, says, none), written) is = absurd says
check_calls old new name Memory line before now (files, (bytes, held, says, none), written) is = absurd says
check_calls old new name ReadFault line before now (files, (bytes, held, says, none), written) is = absurd says
check_calls old new name WriteFault line before now (files, (bytes, held, says, none), written) is = absurd says
check_calls old new name No line before now (files, (bytes, held, says, none), written) is = absurd says

scored_calls : (instance : Problem) (solution : Solution) (c : Asked) (status : Status) (line : List ℕ) (before now : ℕ) → SolutionSays instance solution status line → CallsFor c Done before now → CallsFor c Refused before now → CallsFor c status before now
scored_calls instance solution c Done line before now says done refused = done
scored_calls instance solution c Refused line before now says done refused = refused
scored_calls instance solution c Words line before now says done refused = absurd says
scored_calls instance solution c FlipBudget line before now says done refused = absurd says
scored_calls instance solution c Memory line before now says done refused = absurd says
scored_calls instance solution c ReadFault line before now says done refused = absurd says
scored_calls instance solution c WriteFault line before now says done refused = absurd says
scored_calls instance solution c No line before now says done refused = absurd says

pub score_calls : (bytes others first second : List ℕ) (status : Status) (line : List ℕ) (before now : ℕ) → ScoreSays bytes others status line
    → now ≡ after_calling (first ∷ second ∷ []) before → CallsFor (Score first second) status before now
score_calls bytes others first second status line before now (inl (refused, names)) is =
    subst (λ s. CallsFor (Score first second) s before now) (sym refused) is
score_calls bytes others first second status line before now (inr (instance, solution, spells, lists, says)) is =
    scored_calls instance solution (Score first second) status line before now says is is

module _ (name target certificate : List ℕ) (options : SolveOptions) where
  abbrev pub asked_solve : Asked
  asked_solve = Solve name target certificate options.workers options.turns options.seed options.flips

  ordered_calls : (instance : Problem) (order : Order) (status : Status) (line : List ℕ) (texts : Option Texts) (before now : ℕ) → OrderSays instance order status line texts → now ≡ after_writing texts (one_more before) → CallsFor asked_solve status before now
  ordered_calls instance order Done line texts before now (solution, cert, found, told, is) calls = subst (λ t. now ≡ after_writing t (one_more before)) is calls
  ordered_calls instance order FlipBudget line texts before now (t, over, told, is) calls = subst (λ t. now ≡ after_writing t (one_more before)) is calls
  ordered_calls instance order Refused line texts before now says calls = absurd says
  ordered_calls instance order Words line texts before now says calls = absurd says
  ordered_calls instance order Memory line texts before now says calls = absurd says
  ordered_calls instance order ReadFault line texts before now says calls = absurd says
  ordered_calls instance order WriteFault line texts before now says calls = absurd says
  ordered_calls instance order No line texts before now says calls = absurd says

  pub solve_calls : (bytes : List ℕ) (status : Status) (line : List ℕ) (texts : Option Texts) (before now : ℕ) → SolveSays bytes options status line texts → now ≡ after_writing texts (one_more before) → CallsFor asked_solve status before now
  solve_calls bytes status line texts before now (inl (refused, names, none)) calls = subst (λ s. CallsFor asked_solve s before now) (sym refused) (subst (λ t. now ≡ after_writing t (one_more before)) none calls)
  solve_calls bytes status line texts before now (inr (instance, spells, says)) calls = ordered_calls instance (order_of instance options) status line texts before now says calls

  -- the calls up to a write that failed, of the solution or of the certificate
  pub solve_stops : (before now : ℕ) → (now ≡ one_more (one_more before)) ⊎ (now ≡ one_more (one_more (one_more before))) → StopsWriting asked_solve before now
  solve_stops before now (inl first) = (1, omega arith, omega arith, first)
  solve_stops before now (inr second) = (2, omega arith, omega arith, second)

certified_calls : (instance : Problem) (solution : Solution) (cert : Cert) (c : Asked) (status : Status) (line : List ℕ) (before now : ℕ) → CertificateSays instance solution cert status line → CallsFor c Done before now → CallsFor c No before now → CallsFor c status before now
certified_calls instance solution cert c Done line before now says done refusal = done
certified_calls instance solution cert c No line before now says done refusal = refusal
certified_calls instance solution cert c Words line before now says done refusal = absurd says
certified_calls instance solution cert c Refused line before now says done refusal = absurd says
certified_calls instance solution cert c FlipBudget line before now says done refusal = absurd says
certified_calls instance solution cert c Memory line before now says done refusal = absurd says
certified_calls instance solution cert c ReadFault line before now says done refusal = absurd says
certified_calls instance solution cert c WriteFault line before now says done refusal = absurd says

pub verify_calls : (bytes others last first second third : List ℕ) (status : Status) (line : List ℕ) (before now : ℕ) → VerifySays bytes others last status line
    → now ≡ after_calling (first ∷ second ∷ third ∷ []) before → CallsFor (Verify first second third) status before now
verify_calls bytes others last first second third status line before now (inl (refused, names)) is =
    subst (λ s. CallsFor (Verify first second third) s before now) (sym refused) is
verify_calls bytes others last first second third status line before now (inr (instance, solution, cert, spells, lists, text, says)) is =
    certified_calls instance solution cert (Verify first second third) status line before now says is is

run_calls : (instance : Problem) (t : ℕ) (c : Asked) (status : Status) (line : List ℕ) (before now : ℕ) → RunSays instance t status line → CallsFor c Done before now → CallsFor c Refused before now → CallsFor c status before now
run_calls instance t c Done line before now says done refused = done
run_calls instance t c Refused line before now says done refused = refused
run_calls instance t c Words line before now says done refused = absurd says
run_calls instance t c FlipBudget line before now says done refused = absurd says
run_calls instance t c Memory line before now says done refused = absurd says
run_calls instance t c ReadFault line before now says done refused = absurd says
run_calls instance t c WriteFault line before now says done refused = absurd says
run_calls instance t c No line before now says done refused = absurd says

pub trace_calls : (old new : Option Held) (name : List ℕ) (t : ℕ) (status : Status) (line : List ℕ) (before now : ℕ) → CommandDoes old new (Trace name t) status line → now ≡ one_more before → CallsFor (Trace name t) status before now
trace_calls old new name t status line before now (files, (bytes, held, inl (refused, names), none), written) is = subst (λ s. CallsFor (Trace name t) s before now) (sym refused) is
trace_calls old new name t status line before now (files, (bytes, held, inr (instance, spells, says), none), written) is = run_calls instance t (Trace name t) status line before now says is is

book_calls : (instance : Problem) (seed : ℕ) (c : Asked) (status : Status) (line : List ℕ) (now : ℕ) → BookSays instance seed status line → CallsFor c Done now now → CallsFor c status now now
book_calls instance seed c Done line now says done = done
book_calls instance seed c Refused line now says done = absurd says
book_calls instance seed c Words line now says done = absurd says
book_calls instance seed c FlipBudget line now says done = absurd says
book_calls instance seed c Memory line now says done = absurd says
book_calls instance seed c ReadFault line now says done = absurd says
book_calls instance seed c WriteFault line now says done = absurd says
book_calls instance seed c No line now says done = absurd says

pub bench_calls : (seed n m : ℕ) (status : Status) (line : List ℕ) (now : ℕ) → BenchSays seed n m status line → CallsFor (Bench seed n m) status now now
bench_calls seed n m status line now (raw, is, inl (bad, refused, first, told)) = subst (λ s. CallsFor (Bench seed n m) s now now) (sym refused) refl
bench_calls seed n m status line now (raw, is, inr (instance, accepted, problem, says)) = book_calls instance seed (Bench seed n m) status line now says refl

-- a command that says a status ends with it
pub said_calls : (held : Option Held) (Failed : Type 0) (c : Asked) (status : Status) (before now : ℕ) → CallsFor c status before now → CommandCalls held Failed c status before now
said_calls held Failed c Done before now is = is
said_calls held Failed c Refused before now is = is
said_calls held Failed c FlipBudget before now is = is
said_calls held Failed c Words before now is = is
said_calls held Failed c No before now is = is
said_calls held Failed c Memory before now is = absurd is
said_calls held Failed c ReadFault before now is = absurd is
said_calls held Failed c WriteFault before now is = absurd is
