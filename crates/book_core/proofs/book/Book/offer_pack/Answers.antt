use Rattle.std.proofs.Common.{◌≡◌, ◌∙◌, ℕ, ◌+◌, ◌<◌, List, [], ◌∷◌, ◌++◌, length, refl, sym, ap, subst, arith}
use Rattle.std.specs.Prelude.{sum}
use Rattle.assignment_law.specs.Assignments.{IsAssignment}
use Rattle.plan_law.specs.Books.{bound}
use Rattle.book_core.specs.declared.entry.Entry.TheVariants.{Pack}
use Rattle.book_core.specs.declared.refusal.Refusal.TheVariants.{NoRise}
use Rattle.book_core.specs.HeldBooks.{HeldBook, now_of, with_line, Accepts, Refuses, IsHeldBook, AreNumbers}
use Rattle.book_core.proofs.Tables.{length_table}
use Rattle.book_core.proofs.Offered.{same_book, numbers_on, pack_held, pack_accepted, pack_refused, given_is}
use Rattle.book_core.proofs.book.Book.offer_pack.Goals as goal

nothing : (n : ℕ) → n ≡ n + 0
nothing n = omega arith

pub perm_bound-given-requires : goal.perm_bound-given-requires
perm_bound-given-requires c =
    let b : HeldBook = record { problem = c.self.inside.plan.problem; opening = c.self.inside.opening.value.plan; journal = c.self.inside.journal.items } in
    let A = subst (λ (x : HeldBook). IsAssignment (sum x.problem.weights) c.args.perm) (sym c.self.view_is) c.requires in
    subst (λ n. IsAssignment n c.args.perm) (sym (ap (λ (t : List (List ℕ)). length t) c.self.invariant.0.table_is ∙ length_table b.problem.weights (now_of b).rows)) A

pub returns-then-given-held-clause-err : goal.returns-then-given-held-clause-err
returns-then-given-held-clause-err c = λ base.
    let b : HeldBook = record { problem = c.self.inside.plan.problem; opening = c.self.inside.opening.value.plan; journal = c.self.inside.journal.items } in
    let A = subst (λ (x : HeldBook). IsAssignment (sum x.problem.weights) c.args.perm) (sym c.self.view_is) c.requires in
    subst (λ (x : HeldBook). Refuses x base (Pack c.args.turn c.args.perm) (NoRise c.self.inside.limit c.perm_bound-given.result)) c.self.view_is
    (pack_refused b c.self.inside.plan.plan c.self.inside.weights c.self.inside.perm c.self.invariant.0 c.args.turn c.args.perm A c.perm_bound-given.result c.perm_bound-given.ensures base c.self.inside.limit c.self.invariant.1.limit_is c.if-given-held.true)

pub invariant_of-self-2 : goal.invariant_of-self-2
invariant_of-self-2 c =
    let b : HeldBook = record { problem = c.self.inside.plan.problem; opening = c.self.inside.opening.value.plan; journal = c.self.inside.journal.items } in
    let A = subst (λ (x : HeldBook). IsAssignment (sum x.problem.weights) c.args.perm) (sym c.self.view_is) c.requires in
    let H = c.self.invariant.0 in
    let N = c.self.invariant.1 in
    let limit = N.limit_is in
    let more : bound (now_of b) < c.perm_bound-given.result = omega (arith, limit, c.if-given-held.false) in
    let given = given_is b c.self.inside.plan.plan c.self.inside.weights c.self.inside.perm H c.args.turn c.args.perm A c.perm_bound-given.result c.perm_bound-given.ensures in
    let same = same_book b (Pack c.args.turn c.args.perm) c.self.inside.plan.problem c.push_reserved.new.self.items refl (c.push_reserved.ensures.items ∙ ap (λ l. l ++ Pack c.args.turn c.args.perm ∷ []) c.reserve.ensures.items) in (
      subst (λ (x : HeldBook). IsHeldBook x c.self.inside.plan.plan c.self.inside.weights c.in_ok-kept.kept) (sym same)
          (subst (λ p. IsHeldBook (with_line b (Pack c.args.turn c.args.perm)) c.self.inside.plan.plan c.self.inside.weights p) (sym c.in_ok-kept.ensures)
          (pack_held b c.self.inside.plan.plan c.self.inside.weights c.self.inside.perm H c.args.turn c.args.perm A c.perm_bound-given.result c.perm_bound-given.ensures more)),
      subst (λ (x : HeldBook). AreNumbers x c.self.inside.opened c.self.inside.front c.perm_bound-given.result) (sym same)
          (numbers_on b c.self.inside.plan.plan c.self.inside.weights c.self.inside.perm H (Pack c.args.turn c.args.perm) c.self.inside.opened c.self.inside.front c.self.inside.limit c.self.inside.front c.perm_bound-given.result N (nothing c.self.inside.front) given),
    )

pub returns-clause-ok : goal.returns-clause-ok
returns-clause-ok c = λ base.
    let b : HeldBook = record { problem = c.self.inside.plan.problem; opening = c.self.inside.opening.value.plan; journal = c.self.inside.journal.items } in
    let A = subst (λ (x : HeldBook). IsAssignment (sum x.problem.weights) c.args.perm) (sym c.self.view_is) c.requires in
    let limit = c.self.invariant.1.limit_is in
    let more : bound (now_of b) < c.perm_bound-given.result = omega (arith, limit, c.if-given-held.false) in
    subst (λ (x : HeldBook). c.len-place.result ≡ length x.journal → Accepts x base (Pack c.args.turn c.args.perm) c.len-place.result 0) c.self.view_is
    (λ at. pack_accepted b c.self.inside.plan.plan c.self.inside.weights c.self.inside.perm c.self.invariant.0 c.args.turn c.args.perm A c.perm_bound-given.result c.perm_bound-given.ensures base c.len-place.result more at) c.len-place.ensures
