-- Whether words ask for workers.
use Rattle.std.proofs.Common.{◌≡◌, ◌<◌, ◌↔◌, ℕ, List, Option, false, nat_lt, subst, arith}
use Rattle.std.specs.Prelude.{IsTrue}
use Rattle.std.proofs.lemmas.Bool.{lt-ltb, ltb-true}
use Rattle.centre_words.specs.declared.asked.Asked.{Asked}
use Rattle.centre_words.specs.declared.asked.Asked.TheVariants.{Check, Score, Solve, Verify, Trace, Bench}
use Rattle.centre_words.specs.Words.{Asks, IsUnasked}
use Rattle.centre_words.proofs.Meets.{words_ask_once}
use Rattle.centre_run.specs.Runs.{AsksForWorkers}

-- the workers that a command asks for
abbrev pub workers_in : Asked → ℕ
workers_in (Check instance) = 0
workers_in (Score instance solution) = 0
workers_in (Solve instance solution certificate workers turns seed flips) = workers
workers_in (Verify instance solution certificate) = 0
workers_in (Trace instance t) = 0
workers_in (Bench seed points inputs) = 0

module _ (words : List (List ℕ)) where
  asked_workers : (a : Asked) → Asks words a → AsksForWorkers words → 0 < workers_in a
  asked_workers a asks (n, less, (i, s, c, t, d, f, others)) = subst (λ b. 0 < workers_in b) (words_ask_once words (Solve i s c n t d f) a others asks) less

  pub solve_asks : (i s c : List ℕ) (n t d : ℕ) (f : Option ℕ) → Asks words (Solve i s c n t d f) → (IsTrue (nat_lt 0 n)) ↔ AsksForWorkers words
  solve_asks i s c n t d f asks = (λ e. (n, ltb-true 0 n e, (i, s, c, t, d, f, asks)), λ more. lt-ltb 0 n (asked_workers (Solve i s c n t d f) asks more))

  pub no_workers_asked : (a : Asked) → Asks words a → workers_in a ≡ 0 → (IsTrue false) ↔ AsksForWorkers words
  no_workers_asked a asks none = (λ e. cc, λ more. absurd (never (workers_in a) none (asked_workers a asks more)))
    where
      never : (n : ℕ) → n ≡ 0 → 0 < n → ⊥
      never n e l = omega (arith, e, l)

  pub no_words_asked : IsUnasked words → (IsTrue false) ↔ AsksForWorkers words
  no_words_asked unasked = (λ e. cc, λ (n, less, (i, s, c, t, d, f, asks)). absurd (unasked (Solve i s c n t d f) asks))
