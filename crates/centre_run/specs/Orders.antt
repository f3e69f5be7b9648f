-- What the options of `solve` ask of the solver.
use Rattle.std.specs.Prelude.{ℕ, ◌*◌, ◌-◌, ◌/◌, Option, Some, None, length}
use Rattle.tri_check.specs.Problems.{Problem}
use Rattle.book_solve.specs.declared.order.Order.{Order}
use Rattle.centre_run.specs.declared.solving.SolveOptions.{SolveOptions}

-- how many pairs n things make
abbrev pub pairs_of : ℕ → ℕ
pairs_of n = n * (n - 1) / 2

-- how many flips the run of an input may have: the number that is given, or else the pairs of points, which are enough for every run
abbrev pub flips_allowed : Problem → Option ℕ → ℕ
flips_allowed instance (Some flips) = flips
flips_allowed instance None = pairs_of (length instance.points)

-- what `bench` asks of the solver: a run may have as many flips as there are pairs of points, four improvers take a turn, and the caller takes the turns
abbrev pub bench_order : Problem → ℕ → Order
bench_order instance seed = record { flips = pairs_of (length instance.points); turns = 4; seed = seed; workers = 0 }

abbrev pub order_of : Problem → SolveOptions → Order
order_of instance options = record { flips = flips_allowed instance options.flips; turns = options.turns; seed = options.seed; workers = options.workers }
