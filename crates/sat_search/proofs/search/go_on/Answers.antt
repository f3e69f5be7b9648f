use Rattle.std.proofs.Common.{◌≡◌, ℕ, ◌+◌, ◌≤◌, Option, Some, None, false, length, sym, ap, ◌∙◌, arith, length-append}
use Rattle.std.specs.Prelude.{is_some, MatchOption}
use Rattle.std.proofs.lemmas.Bool.{true≢false}
use Rattle.std.proofs.lemmas.List.{length_push}
use Rattle.log_law.specs.Units.{IsAtRest}
use Rattle.log_law.specs.Trails.{literals, IsTrail}
use Rattle.log_law.specs.SearchLaws.{IsConflict}
use Rattle.sat_state.specs.Searches.{Search, IsSearch}
use Rattle.sat_state.proofs.Stepping.{steps_fit}
use Rattle.sat_search.proofs.Waiting.{ready_on}
use Rattle.sat_search.proofs.search.go_on.Goals as goal

at_none : (o : Option ℕ) (P : Type 0) (Q : ℕ → Type 0) → false ≡ is_some o → MatchOption o P Q → P
at_none None P Q e m = m
at_none (Some n) P Q e m = absurd (true≢false (sym e))

pub returns-then-is_some-clause-ready : goal.returns-then-is_some-clause-ready
returns-then-is_some-clause-ready c = ready_on c.loop-falsified.state c.spread-falsified.new.self c.loop-falsified.order c.spread-falsified.ensures.same c.spread-falsified.ensures.goes_on c.loop-falsified.invariant.ready

pub next-requires : goal.next-requires
next-requires c = ready_on c.loop-falsified.state c.spread-falsified.new.self c.loop-falsified.order c.spread-falsified.ensures.same c.spread-falsified.ensures.goes_on c.loop-falsified.invariant.ready

pub loop-falsified-smaller : goal.loop-falsified-smaller
loop-falsified-smaller c =
    let spread = c.spread-falsified.new.self in
    let S : IsSearch spread = c.spread-falsified.ensures.search in
    let T : IsTrail spread.clauses spread.trail spread.level = S.trail in
    let fit : length spread.trail ≤ spread.variables = steps_fit spread.variables spread.trail T.distinct S.in_range in
    let kept : spread.variables ≡ c.loop-falsified.state.variables = ap (λ (s : Search). s.variables) c.spread-falsified.ensures.same in
    let kept_then : c.decide.new.self.variables ≡ spread.variables = ap (λ (s : Search). s.variables) c.decide.ensures in
    let steps = c.spread-falsified.ensures.goes_on.0 in
    let long : length spread.trail ≡ length c.loop-falsified.state.trail + length steps = ap length c.spread-falsified.ensures.goes_on.1 ∙ length-append c.loop-falsified.state.trail steps in
    let longer : length c.decide.new.self.trail ≡ length spread.trail + 1 = ap (λ (s : Search). length s.trail) c.decide.ensures ∙ length_push spread.trail _ in
    omega arith

pub decide-requires-clause-rest : goal.decide-requires-clause-rest
decide-requires-clause-rest c =
    at_none c.spread-falsified.result (IsAtRest (literals c.spread-falsified.new.self.trail) c.spread-falsified.new.self.clauses) (λ id. IsConflict c.spread-falsified.new.self.clauses c.spread-falsified.new.self.trail id)
    c.if-is_some.ensures c.spread-falsified.ensures.rest

pub returns-in-None-clause-ends : goal.returns-in-None-clause-ends
returns-in-None-clause-ends c = (
  at_none c.spread-falsified.result (IsAtRest (literals c.spread-falsified.new.self.trail) c.spread-falsified.new.self.clauses) (λ id. IsConflict c.spread-falsified.new.self.clauses c.spread-falsified.new.self.trail id)
      c.if-is_some.ensures c.spread-falsified.ensures.rest,
  c.in-None.ensures.choice,
)
