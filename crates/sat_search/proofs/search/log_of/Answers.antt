use Rattle.std.proofs.Common.{◌≡◌, inl, inr, ℕ, ◌+◌, ◌-◌, List, [], ◌∷◌, ◌++◌, length, drop, sym, ap, ◌∙◌, arith}
use Rattle.std.proofs.lemmas.List.{append-nil, length-drop}
use Rattle.log_law.specs.Clauses.{Clause}
use Rattle.log_law.specs.Logs.{Line}
use Rattle.sat_search.specs.Lessons.{lines_from}
use Rattle.sat_search.proofs.Logs.{lines_next, lines_none}
use Rattle.sat_search.proofs.search.log_of.Goals as goal

pub loop-lits-init : goal.loop-lits-init
loop-lits-init c =
    let g = c.into_iter-lits-iterator.ensures.into_iter_gives in
    let x = c.zip-lits-items.ensures.first in
    let y = c.zip-lits-items.ensures.second in
    let z = c.into_iter.ensures.rest in
    let a : c.into_iter-lits-iterator.result.a.rest.items ≡ c.into_iter.result.rest.items = cc in
    let b : c.into_iter-lits-iterator.result.b.rest.items ≡ c.zip-lits-items.result.b.rest.items = cc in
    let d = c.in_ok-into_clauses.ensures in
    let long = length-drop c.len-id.result c.args.state.clauses in
    let m : length c.into_iter-lits-iterator.result.a.rest.items ≡ length c.args.state.clauses - c.len-id.result = ap length (a ∙ (z ∙ d)) ∙ long in
    let n : length c.into_iter-lits-iterator.result.b.rest.items ≡ length c.args.hints.items = ap length (b ∙ y.0) in
    let k : c.len-id.result ≡ length c.args.cnf.now.clauses = c.len-id.ensures.clauses in
    record {
      lines = ap (λ (ls : List Line). ls ++ lines_from (c.len-id.result + 1) c.into_iter-lits-iterator.result.a.rest.items c.into_iter-lits-iterator.result.b.rest.items) c.make-log.ensures
          ∙ ap (λ (i : ℕ). lines_from (i + 1) c.into_iter-lits-iterator.result.a.rest.items c.into_iter-lits-iterator.result.b.rest.items) c.len-id.ensures.clauses;
      same = omega (arith, m, n, k, c.requires.each);
      few = omega (arith, m, k, c.requires.known, c.requires.few);
    }

pub overflow_add-id : goal.overflow_add-id
overflow_add-id c = omega (arith, ap length c.in-Some.ensures.steps.0.0, c.loop-lits.invariant.few)

pub loop-lits-preserved : goal.loop-lits-preserved
loop-lits-preserved c =
    let a = ap length c.in-Some.ensures.steps.0.0 in
    let b = ap length c.in-Some.ensures.steps.1.0 in
    record {
      lines = lines_next (c.loop-lits.id + 1) c.loop-lits.log c.push.new.self c.loop-lits.lits-iterator.a.rest.items c.next.new.self.a.rest.items c.loop-lits.lits-iterator.b.rest.items c.next.new.self.b.rest.items c.in-Some.lits c.in-Some.hints
          c.in-Some.ensures.steps.0.0 c.in-Some.ensures.steps.1.0 c.in_ok-push.ensures.ok ∙ c.loop-lits.invariant.lines;
      same = omega (arith, a, b, c.loop-lits.invariant.same);
      few = omega (arith, a, c.loop-lits.invariant.few);
    }

pub returns : goal.returns
returns c =
    let g = c.into_iter-lits-iterator.ensures.into_iter_gives in
    let x = c.zip-lits-items.ensures.first in
    let y = c.zip-lits-items.ensures.second in
    let a : c.into_iter-lits-iterator.result.a.rest.items ≡ c.into_iter.result.rest.items = cc in
    let b : c.into_iter-lits-iterator.result.b.rest.items ≡ c.zip-lits-items.result.b.rest.items = cc in
    let e : lines_from (length c.args.cnf.now.clauses + 1) c.into_iter-lits-iterator.result.a.rest.items c.into_iter-lits-iterator.result.b.rest.items ≡ lines_from (length c.args.cnf.now.clauses + 1) (drop (length c.args.cnf.now.clauses) c.args.state.clauses) c.args.hints.items =
    ap (λ (cs : List Clause). lines_from (length c.args.cnf.now.clauses + 1) cs c.into_iter-lits-iterator.result.b.rest.items) (a ∙ (c.into_iter.ensures.rest ∙ (c.in_ok-into_clauses.ensures ∙ ap (λ (n : ℕ). drop n c.args.state.clauses) c.len-id.ensures.clauses)))
    ∙ ap (λ (hs : List (List ℕ)). lines_from (length c.args.cnf.now.clauses + 1) (drop (length c.args.cnf.now.clauses) c.args.state.clauses) hs) (b ∙ y.0) in
    let rest = lines_none (c.loop-lits.id + 1) c.loop-lits.lits-iterator.a.rest.items c.loop-lits.lits-iterator.b.rest.items c.loop-lits.invariant.same none in
    let whole : c.loop-lits.log ≡ lines_from (length c.args.cnf.now.clauses + 1) (drop (length c.args.cnf.now.clauses) c.args.state.clauses) c.args.hints.items =
    sym (ap (λ (ls : List Line). c.loop-lits.log ++ ls) rest ∙ append-nil c.loop-lits.log) ∙ (c.loop-lits.invariant.lines ∙ e) in
    c.in_ok-push-2.ensures.ok ∙ ap (λ (ls : List Line). ls ++ c.args.last ∷ []) whole
  where
    none : length c.loop-lits.lits-iterator.a.rest.items ≡ 0
    none =
        elim c.in-None.ensures.steps [
          | inl w ↦ sym c.loop-lits.lits-iterator.a.rest.ok.0 ∙ w.1.0
          | inr w ↦ c.loop-lits.invariant.same ∙ (sym c.loop-lits.lits-iterator.b.rest.ok.0 ∙ w.1.0)
        ]
