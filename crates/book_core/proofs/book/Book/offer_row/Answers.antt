use Rattle.std.proofs.Common.{◌≡◌, ◌∙◌, ℕ, ◌+◌, List, [], ◌∷◌, ◌++◌, length, refl, sym, ap, subst, arith}
use Rattle.assignment_law.specs.Assignments.{IsAssignment}
use Rattle.book_core.specs.declared.entry.Entry.TheVariants.{Row}
use Rattle.book_core.specs.HeldBooks.{HeldBook, now_of, IsOffer, Accepts, IsHeldBook, AreNumbers}
use Rattle.plan_law.specs.Books.{row_of}
use Rattle.std.proofs.Common.{Option, Some, None, false}
use Rattle.std.specs.Prelude.{sum, is_some, IfNone}
use Rattle.tri_check.specs.Problems.{Problem}
use Rattle.book_core.specs.CopyTables.{SetsCopies}
use Rattle.book_core.specs.Entries.{pair_row}
use Rattle.book_core.proofs.Tables.{length_table, table_grows}
use Rattle.book_core.proofs.Offered.{assigns, same_book, numbers_on, row_held, row_accepted, row_limit}
use Rattle.book_core.proofs.book.Book.offer_row.Goals as goal

pub set_copies-requires-clause-side : goal.set_copies-requires-clause-side
set_copies-requires-clause-side c =
    let b : HeldBook = record { problem = c.self.inside.plan.problem; opening = c.self.inside.opening.value.plan; journal = c.self.inside.journal.items } in
    ap (λ (t : List (List ℕ)). length t) c.self.invariant.0.table_is ∙ (length_table b.problem.weights (now_of b).rows ∙ sym (ap (λ (p : Problem). sum p.weights) (c.deref.ensures ∙ c.inst.ensures)))

pub set_copies-requires-clause-distinct : goal.set_copies-requires-clause-distinct
set_copies-requires-clause-distinct c = λ e.
    let m = subst (λ (x : HeldBook). IsOffer x.problem (Row c.args.turn c.args.row)) (sym c.self.view_is) c.requires in
    let low = m.0 in absurd (omega (arith, e, low))

pub perm_bound-self-inside-requires : goal.perm_bound-self-inside-requires
perm_bound-self-inside-requires c =
    let b : HeldBook = record { problem = c.self.inside.plan.problem; opening = c.self.inside.opening.value.plan; journal = c.self.inside.journal.items } in
    let H = c.self.invariant.0 in
    let long = c.set_copies.ensures.copies.side ∙ (ap (λ (t : List (List ℕ)). length t) H.table_is ∙ length_table b.problem.weights (now_of b).rows) in
    subst (λ n. IsAssignment n c.self.inside.perm) (sym long) (assigns b c.self.inside.plan.plan c.self.inside.weights c.self.inside.perm H)

no_row : {X P : Type 0} (r : Option X) → false ≡ is_some r → IfNone r P → P
no_row None e h = h
no_row (Some x) e h = absurd (cc)

nothing : (n : ℕ) → n ≡ n + 0
nothing n = omega arith

pub invariant_of-self-2 : goal.invariant_of-self-2
invariant_of-self-2 c =
    let b : HeldBook = record { problem = c.self.inside.plan.problem; opening = c.self.inside.opening.value.plan; journal = c.self.inside.journal.items } in
    let H = c.self.invariant.0 in
    let N = c.self.invariant.1 in
    let line = Row c.args.turn c.args.row in
    let m = subst (λ (x : HeldBook). IsOffer x.problem line) (sym c.self.view_is) c.requires in
    let none = subst (λ (x : HeldBook). row_of (now_of x).rows c.args.row.i c.args.row.j ≡ None) (sym c.self.view_is) (no_row c.row.result c.if-is_some.ensures c.row.ensures.none) in
    let sets = subst (λ (p : Problem). SetsCopies p.weights c.self.inside.weights c.set_copies.new.table c.args.row.i c.args.row.j c.args.row.lower (sum p.weights)) (c.deref.ensures ∙ c.inst.ensures) c.set_copies.ensures.copies in
    let grown = table_grows b.problem.weights (now_of b).rows (pair_row c.args.row) c.self.inside.weights c.set_copies.new.table m.0 none H.table_is c.set_copies.ensures.after sets in
    let same = same_book b line c.self.inside.plan.problem c.push_reserved.new.self.items refl (c.push_reserved.ensures.items ∙ ap (λ l. l ++ line ∷ []) c.reserve.ensures.items) in (
      subst (λ (x : HeldBook). IsHeldBook x c.self.inside.plan.plan c.set_copies.new.table c.self.inside.perm) (sym same)
          (row_held b c.self.inside.plan.plan c.self.inside.weights c.self.inside.perm H c.args.turn c.args.row c.set_copies.new.table m none c.set_copies.ensures.after sets),
      subst (λ (x : HeldBook). AreNumbers x c.self.inside.opened c.self.inside.front c.perm_bound-self-inside.result) (sym same)
          (numbers_on b c.self.inside.plan.plan c.self.inside.weights c.self.inside.perm H line c.self.inside.opened c.self.inside.front c.self.inside.limit c.self.inside.front c.perm_bound-self-inside.result N (nothing c.self.inside.front)
          (row_limit b c.self.inside.plan.plan c.self.inside.weights c.self.inside.perm H c.args.turn c.args.row c.set_copies.new.table c.perm_bound-self-inside.result grown c.perm_bound-self-inside.ensures)),
    )

pub returns-clause-ok : goal.returns-clause-ok
returns-clause-ok c = λ base.
    let b : HeldBook = record { problem = c.self.inside.plan.problem; opening = c.self.inside.opening.value.plan; journal = c.self.inside.journal.items } in
    subst (λ (x : HeldBook). c.len-place.result ≡ length x.journal → row_of (now_of x).rows c.args.row.i c.args.row.j ≡ None → Accepts x base (Row c.args.turn c.args.row) c.len-place.result 0) c.self.view_is
    (λ at none. row_accepted b c.self.inside.plan.plan c.self.inside.weights c.self.inside.perm c.self.invariant.0 base c.args.turn c.args.row c.len-place.result none at) c.len-place.ensures (no_row c.row.result c.if-is_some.ensures c.row.ensures.none)
