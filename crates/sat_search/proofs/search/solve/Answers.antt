use Rattle.std.proofs.Common.{◌≡◌, ◌≢◌, ◌⊎◌, inl, inr, ℕ, ◌+◌, ◌-◌, ◌<◌, ◌≤◌, ◌^◌, [], ◌∷◌, ◌++◌, List, length, min, refl, ap, sym, subst, ◌∙◌, arith}
use Rattle.std.specs.Prelude.{All}
use Rattle.std.proofs.lemmas.Bool.{true≢false, cases_lt}
use Rattle.std.proofs.lemmas.List.{length_push}
use Rattle.log_law.specs.declared.Lit.{Lit}
use Rattle.log_law.specs.Clauses.{Clause, IsVariable}
use Rattle.log_law.specs.Logs.{Line, line_cost}
use Rattle.sat_state.specs.Searches.{Search}
use Rattle.sat_search.specs.Choices.{AreTold}
use Rattle.sat_search.specs.Lessons.{IsUnderWay}
use Rattle.sat_search.proofs.UnderWay.{model_told, spent, refuted, goes_on, paid}
use Rattle.sat_search.proofs.Learning.{lesson_fits, lesson_empty}
use Rattle.sat_search.proofs.Logs.{so_far, kept_way, lines_more}
use Rattle.sat_search.proofs.Waiting.{ready_kept}
use Rattle.sat_search.proofs.search.solve.Goals as goal

pub returns-in_default : goal.returns-in_default
returns-in_default c =
    let v = ap (λ (t : Search). t.variables) c.go_on.ensures.same in
    let k = ap (λ (t : Search). t.clauses) c.go_on.ensures.same in
    let U = kept_way c.args.cnf.now c.args.budget c.loop-place.state c.go_on.new.state c.loop-place.hints.items c.loop-place.cost v k c.loop-place.invariant.way in (
      c.in_ok-truth_of.ensures.long ∙ c.vars-vars.ensures.variables,
      model_told c.args.cnf.now c.args.budget c.go_on.new.state (so_far c.args.cnf.now c.go_on.new.state c.loop-place.hints.items) c.loop-place.cost c.in_ok-truth_of.field-0 c.in_default.ensures.search U c.in_default.ensures.ends
          (subst (λ (n : ℕ). AreTold c.go_on.new.state n c.in_ok-truth_of.field-0) (c.vars-vars.ensures.variables ∙ sym U.variables) c.in_ok-truth_of.ensures.told),
    )

pub log_of-requires-clause-known : goal.log_of-requires-clause-known
log_of-requires-clause-known c = omega (arith, c.loop-place.invariant.each, ap length (ap (λ (t : Search). t.clauses) c.go_on.ensures.same))

pub log_of-requires-clause-few : goal.log_of-requires-clause-few
log_of-requires-clause-few c = omega (arith, c.loop-place.invariant.each, ap length (ap (λ (t : Search). t.clauses) c.go_on.ensures.same), c.loop-place.invariant.lines, c.loop-place.invariant.paid, c.loop-place.invariant.way.within, c.requires.small, c.requires.few)

pub log_of-requires-clause-each : goal.log_of-requires-clause-each
log_of-requires-clause-each c = omega (arith, c.loop-place.invariant.each, ap length (ap (λ (t : Search). t.clauses) c.go_on.ensures.same))

pub raise-requires : goal.raise-requires
raise-requires c =
    let fits = lesson_fits c.go_on.new.state c.in-Some.ensures.search c.in-Some.conflict c.in-Some.ensures.ends c.in_ok-line.line c.in_ok-line.ensures in
    subst (λ (n : ℕ). All (λ (l : Lit). IsVariable n l.var) c.line.inside.lits) (sym c.go_on.ensures.ready.same)
    (subst (λ (ls : Clause). All (λ (l : Lit). IsVariable c.go_on.new.state.variables l.var) ls) (sym (ap (λ (l : Line). l.literals) c.line.view_is)) fits.in_range)

pub learn-requires-clause-above : goal.learn-requires-clause-above
learn-requires-clause-above c = sort (cases_lt 0 c.go_on.new.state.level)
  where
    sort : (0 < c.go_on.new.state.level) ⊎ (c.go_on.new.state.level ≤ 0) → 0 < c.go_on.new.state.level
    sort (inl up) = up
    sort (inr low) =
        let z = lesson_empty c.go_on.new.state c.in-Some.ensures.search c.in-Some.conflict c.in-Some.ensures.ends c.in_ok-line.line c.in_ok-line.ensures (omega (arith, low)) in
        absurd (true≢false (sym (c.is_empty.ensures.1 (ap (λ (l : Line). l.literals) c.line.view_is ∙ z)) ∙ c.if-is_empty.false))

pub learn-requires-clause-taught : goal.learn-requires-clause-taught
learn-requires-clause-taught c = record {
  conflict = c.in-Some.conflict;
  falsified = c.in-Some.ensures.ends;
  line = c.in_ok-line.line;
  lesson = c.in_ok-line.ensures;
  says = sym (ap (λ (l : Line). l.literals) c.line.view_is);
}

pub learn-requires-clause-ready : goal.learn-requires-clause-ready
learn-requires-clause-ready c = ready_kept c.in_ok-raise.ensures c.go_on.ensures.ready

pub learn-requires-clause-room : goal.learn-requires-clause-room
learn-requires-clause-room c = omega (arith, c.loop-place.invariant.each, ap length (ap (λ (t : Search). t.clauses) c.go_on.ensures.same), c.loop-place.invariant.lines, c.loop-place.invariant.paid, c.loop-place.invariant.way.within, c.requires.small, c.requires.few)

pub returns-then-cost-budget : goal.returns-then-cost-budget
returns-then-cost-budget c =
    let v = ap (λ (t : Search). t.variables) c.go_on.ensures.same in
    let k = ap (λ (t : Search). t.clauses) c.go_on.ensures.same in
    let U = kept_way c.args.cnf.now c.args.budget c.loop-place.state c.go_on.new.state c.loop-place.hints.items c.loop-place.cost v k c.loop-place.invariant.way in
    let t : c.saturating_add-cost.result ≡ min (c.loop-place.cost + line_cost c.in_ok-line.line) (2 ^ 64 - 1) = c.saturating_add-cost.ensures ∙ ap (λ (n : ℕ). min (c.loop-place.cost + n) (2 ^ 64 - 1)) c.line_cost.ensures in
    spent c.args.cnf.now c.args.budget c.go_on.new.state (so_far c.args.cnf.now c.go_on.new.state c.loop-place.hints.items) c.loop-place.cost c.in-Some.ensures.search U c.in-Some.conflict c.in-Some.ensures.ends c.in_ok-line.line c.in_ok-line.ensures c.in_ok-log_of.field-0 c.saturating_add-cost.result c.in_ok-log_of.ensures t c.if-cost-budget.true

pub returns-then-is_empty : goal.returns-then-is_empty
returns-then-is_empty c =
    let v = ap (λ (t : Search). t.variables) c.go_on.ensures.same in
    let k = ap (λ (t : Search). t.clauses) c.go_on.ensures.same in
    let U = kept_way c.args.cnf.now c.args.budget c.loop-place.state c.go_on.new.state c.loop-place.hints.items c.loop-place.cost v k c.loop-place.invariant.way in
    let t : c.saturating_add-cost.result ≡ min (c.loop-place.cost + line_cost c.in_ok-line.line) (2 ^ 64 - 1) = c.saturating_add-cost.ensures ∙ ap (λ (n : ℕ). min (c.loop-place.cost + n) (2 ^ 64 - 1)) c.line_cost.ensures in
    refuted c.args.cnf.now c.args.budget c.go_on.new.state (so_far c.args.cnf.now c.go_on.new.state c.loop-place.hints.items) c.loop-place.cost c.in-Some.ensures.search U c.in-Some.conflict c.in-Some.ensures.ends c.in_ok-line.line c.in_ok-line.ensures c.in_ok-log_of-2.field-0 c.saturating_add-cost.result c.in_ok-log_of-2.ensures t c.requires.small c.if-cost-budget.false
    (sym (ap (λ (l : Line). l.literals) c.line.view_is) ∙ c.is_empty.ensures.0 c.if-is_empty.true)

pub loop-place-preserved : goal.loop-place-preserved
loop-place-preserved c =
    let v = ap (λ (t : Search). t.variables) c.go_on.ensures.same in
    let k = ap (λ (t : Search). t.clauses) c.go_on.ensures.same in
    let U = kept_way c.args.cnf.now c.args.budget c.loop-place.state c.go_on.new.state c.loop-place.hints.items c.loop-place.cost v k c.loop-place.invariant.way in
    let t : c.saturating_add-cost.result ≡ min (c.loop-place.cost + line_cost c.in_ok-line.line) (2 ^ 64 - 1) = c.saturating_add-cost.ensures ∙ ap (λ (n : ℕ). min (c.loop-place.cost + n) (2 ^ 64 - 1)) c.line_cost.ensures in
    let some : c.in_ok-line.line.literals ≢ [] = λ z. true≢false (sym (c.is_empty.ensures.1 (ap (λ (l : Line). l.literals) c.line.view_is ∙ z)) ∙ c.if-is_empty.false) in
    let held : c.learn.new.state.clauses ≡ c.go_on.new.state.clauses ++ c.in_ok-line.line.literals ∷ [] = c.in_ok-learn.ensures.held ∙ ap (λ (cs : Clause). c.go_on.new.state.clauses ++ cs ∷ []) (ap (λ (l : Line). l.literals) c.line.view_is) in
    let more : c.push.new.self.items ≡ c.loop-place.hints.items ++ c.in_ok-line.line.hints ∷ [] = c.in_ok-push.ensures.items ∙ ap (λ (h : List ℕ). c.loop-place.hints.items ++ h ∷ []) (ap (λ (l : Line). l.hints) c.line.view_is) in
    let long : length c.push.new.self.items ≡ length c.loop-place.hints.items + 1 = ap length more ∙ length_push c.loop-place.hints.items c.in_ok-line.line.hints in
    let each : length c.args.cnf.now.clauses + length c.loop-place.hints.items ≡ length c.go_on.new.state.clauses = c.loop-place.invariant.each ∙ sym (ap length k) in
    record {
      way = subst (λ (ls : List Line). IsUnderWay c.args.cnf.now c.args.budget c.learn.new.state ls c.saturating_add-cost.result)
          (lines_more (length c.args.cnf.now.clauses) c.go_on.new.state.clauses c.learn.new.state.clauses c.loop-place.hints.items c.push.new.self.items c.in_ok-line.line each c.in_ok-line.ensures.learnt.next_id held more)
          (goes_on c.args.cnf.now c.args.budget c.go_on.new.state (so_far c.args.cnf.now c.go_on.new.state c.loop-place.hints.items) c.loop-place.cost c.in-Some.ensures.search U c.in-Some.conflict c.in-Some.ensures.ends c.in_ok-line.line c.in_ok-line.ensures (so_far c.args.cnf.now c.go_on.new.state c.loop-place.hints.items ++ c.in_ok-line.line ∷ []) c.saturating_add-cost.result refl t c.requires.small c.if-cost-budget.false some c.learn.new.state c.in_ok-learn.ensures.variables held);
      ready = c.in_ok-learn.ensures.ready;
      lines = omega (arith, long, c.loop-place.invariant.lines);
      each = omega (arith, long, each, ap length held ∙ length_push c.go_on.new.state.clauses c.in_ok-line.line.literals);
      paid = paid c.args.cnf.now c.args.budget c.go_on.new.state (so_far c.args.cnf.now c.go_on.new.state c.loop-place.hints.items) c.loop-place.cost c.in-Some.ensures.search U c.in-Some.conflict c.in-Some.ensures.ends c.in_ok-line.line c.in_ok-line.ensures c.saturating_add-cost.result c.loop-place.place c.loop-place.invariant.paid t c.if-cost-budget.false c.requires.small;
    }
