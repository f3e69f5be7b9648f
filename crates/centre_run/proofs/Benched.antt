-- What `bench` says of a book, and that no run is too long for it.
use Rattle.std.proofs.Common.{◌≡◌, ◌<◌, sym, ap, subst, ℕ, List, length, Ok, Err, string_bytes}
use Rattle.std.specs.Prelude.{Result, IfOk}
use Rattle.tri_check.specs.Problems.{Problem, IsProblem}
use Rattle.lawson_start.specs.declared.fault.StartFault.{StartFault}
use Rattle.lawson_start.specs.declared.fault.StartFault.TheVariants.{FlipBudget}
use Rattle.lawson_start.specs.Starts.{IsOverBudget, IsStartFault}
use Rattle.plan_law.specs.Plans.{plan_total}
use Rattle.plan_law.specs.Books.{bound}
use Rattle.book_core.specs.HeldBooks.{HeldBook, IsBelowPlans, now_of}
use Rattle.book_solve.specs.declared.order.Order.{Order}
use Rattle.book_solve.specs.Solved.{IsSolvedBook}
use Rattle.printed_lines.specs.Lines.{opening_line}
use Rattle.centre_run.specs.declared.status.Status.{Status}
use Rattle.centre_run.specs.declared.status.Status.TheVariants.{Done}
use Rattle.centre_run.specs.declared.reply.Quiet.{Quiet}
use Rattle.centre_run.specs.declared.reply.Reply.{Reply}
use Rattle.centre_run.specs.Orders.{pairs_of, bench_order}
use Rattle.centre_run.specs.Runs.{BookSays}
use Rattle.centre_run.proofs.Budgets.{few_flips, not_less}

module _ (instance : Problem) (seed : ℕ) (order : Order) (is : order ≡ bench_order instance seed) where
  pub book_says : (b : HeldBook) (status : Status) (line : List ℕ) → IsSolvedBook instance order b → IsBelowPlans b.problem (bound (now_of b)) → status ≡ Done
      → line ≡ opening_line (plan_total b.opening) (plan_total (now_of b).plan) (bound (now_of b)) → BookSays instance seed status line
  book_says b status line solved below done told =
      subst (λ s. BookSays instance seed s line) (sym done)
      (b, subst (λ o. IsSolvedBook instance o b) is solved, subst (λ p. IsBelowPlans p (bound (now_of b))) solved.problem_is below, told)

  pub reply_says : (b : HeldBook) (r : Result Reply Quiet) → IsSolvedBook instance order b → IsBelowPlans b.problem (bound (now_of b)) → IfOk r (λ x. x.status ≡ Done)
      → IfOk r (λ x. string_bytes x.line ≡ opening_line (plan_total b.opening) (plan_total (now_of b).plan) (bound (now_of b))) → IfOk r (λ x. BookSays instance seed x.status (string_bytes x.line))
  reply_says b (Ok x) solved below done told = book_says b x.status (string_bytes x.line) solved below done told
  reply_says b (Err e) solved below done told = done

  -- all pairs of points are flips enough
  pub none_too_long : (t : ℕ) (fault : StartFault) → IsProblem instance.points instance.inputs → fault ≡ FlipBudget t → IsStartFault instance.points instance.inputs order.flips fault → ⊥
  none_too_long t fault problem named fails =
      let over : IsOverBudget instance.points instance.inputs order.flips t = subst (λ f. IsStartFault instance.points instance.inputs order.flips f) named fails in
      not_less (pairs_of (length instance.points)) (subst (λ n. n < pairs_of (length instance.points)) (ap (λ (o : Order). o.flips) is) (few_flips instance order.flips t problem over))
