-- One more line on the way to an answer, and the three ends.
use Rattle.std.proofs.Common.{◌≡◌, ◌≢◌, inl, inr, ℕ, ◌+◌, ◌-◌, ◌<◌, ◌≤◌, ◌^◌, Bool, List, [], ◌∷◌, ◌++◌, length, map, min, Contains, refl, sym, ap, ◌∙◌, subst, arith}
use Rattle.std.specs.Prelude.{All, sum_by}
use Rattle.std.proofs.lemmas.List.{append-nil}
use Rattle.std.proofs.lemmas.List.Elements.{All-push, All-contains, Contains-append_left}
use Rattle.std.proofs.lemmas.List.Sums.{sum_by-append}
use Rattle.log_law.specs.Clauses.{Clause, Formula, IsClause, IsModel, IsSatisfied, listed}
use Rattle.log_law.specs.Logs.{Line, known, clause_at, Follows, AllFollow, IsNew, AllNew, line_cost, log_cost}
use Rattle.log_law.specs.Trails.{literals, IsTrail, Resolved, IsLearnt}
use Rattle.log_law.specs.SearchLaws.{IsConflict}
use Rattle.log_law.proofs.Lines.{each_none, each_push, known_push, known_length}
use Rattle.log_law.proofs.Lists.{all_members}
use Rattle.log_law.proofs.Proved.{learnt_lines_follow, learnt_lines_are_new, empty_learnt_lines_are_new, listed_rest_is_a_model}
use Rattle.sat_state.specs.Searches.{Search, IsSearch}
use Rattle.sat_search.specs.Answers.{IsRefutation, IsSpent}
use Rattle.sat_search.specs.Choices.{IsFull, AreTold}
use Rattle.sat_search.specs.Lessons.{IsEnd, IsLesson, IsUnderWay}

-- ---- the begin
pub begun_way : (formula : Formula) (budget : ℕ) (s : Search) → s ≡ record { variables = formula.variables; clauses = formula.clauses; trail = []; level = 0 } → IsUnderWay formula budget s [] 0
begun_way formula budget s e = record {
  variables = ap (λ (t : Search). t.variables) e;
  clauses = ap (λ (t : Search). t.clauses) e ∙ sym (append-nil formula.clauses);
  follow = each_none (Follows formula);
  new = each_none (IsNew formula);
  counted = refl;
  within = omega arith;
  unrefuted = λ k d l. absurd (omega arith);
}

-- the trail may change on the way
pub moved_way : (formula : Formula) (budget : ℕ) (s after : Search) (log : List Line) (cost : ℕ) → after.variables ≡ s.variables → after.clauses ≡ s.clauses → IsUnderWay formula budget s log cost → IsUnderWay formula budget after log cost
moved_way formula budget s after log cost v c U = record {
  variables = v ∙ U.variables;
  clauses = c ∙ U.clauses;
  follow = U.follow;
  new = U.new;
  counted = U.counted;
  within = U.within;
  unrefuted = U.unrefuted;
}

pub next_id : (formula : Formula) (budget : ℕ) (s : Search) (log : List Line) (cost count place : ℕ) → IsUnderWay formula budget s log cost → count ≡ length formula.clauses → length log ≡ place → count + place + 1 ≡ length s.clauses + 1
next_id formula budget s log cost count place U e f = let g : length s.clauses ≡ length formula.clauses + length log = ap length U.clauses ∙ known_length formula log in omega arith

-- ---- a line
module _ (formula : Formula) (budget : ℕ) (s : Search) (log : List Line) (cost : ℕ) (S : IsSearch s) (U : IsUnderWay formula budget s log cost) (conflict : ℕ) (X : IsConflict s.clauses s.trail conflict) (line : Line) (L : IsLesson s conflict line) where
  fit : All (IsClause formula.variables) (known formula log)
  fit = subst (All (IsClause formula.variables)) U.clauses (subst (λ (n : ℕ). All (IsClause n) s.clauses) U.variables S.clauses_fit)

  trail : IsTrail (known formula log) s.trail s.level
  trail = subst (λ (D : List Clause). IsTrail D s.trail s.level) U.clauses S.trail

  falsified : IsConflict (known formula log) s.trail conflict
  falsified = subst (λ (D : List Clause). IsConflict D s.trail conflict) U.clauses X

  resolved : Resolved (known formula log) s.trail (clause_at (known formula log) conflict) L.used L.clause
  resolved = subst (λ (D : List Clause). Resolved D s.trail (clause_at D conflict) L.used L.clause) U.clauses L.resolved

  learnt : IsLearnt (known formula log) s.trail conflict L.used L.clause line
  learnt = subst (λ (D : List Clause). IsLearnt D s.trail conflict L.used L.clause line) U.clauses L.learnt

  pub line_follows : Follows formula log line
  line_follows = learnt_lines_follow formula log s.trail s.level conflict L.used L.clause line fit trail falsified resolved learnt

  pub line_is_new : IsNew formula log line
  line_is_new = by_end L.ends
    where
      by_end : IsEnd s L.clause → IsNew formula log line
      by_end (inl (up, (place, A))) = learnt_lines_are_new formula log s.trail s.level conflict L.used L.clause line place up trail falsified resolved learnt A
      by_end (inr (z, e)) =
          empty_learnt_lines_are_new formula log s.trail s.level conflict L.used line trail falsified
          (subst (λ (c : Clause). Resolved (known formula log) s.trail (clause_at (known formula log) conflict) L.used c) e resolved)
          (subst (λ (c : Clause). IsLearnt (known formula log) s.trail conflict L.used c line) e learnt) U.unrefuted

  follow : AllFollow formula (log ++ line ∷ [])
  follow = each_push (Follows formula) log line U.follow line_follows

  new : AllNew formula (log ++ line ∷ [])
  new = each_push (IsNew formula) log line U.new line_is_new

  dearer : log_cost (log ++ line ∷ []) ≡ cost + line_cost line
  dearer = sum_by-append line_cost log (line ∷ []) ∙ (let z : sum_by line_cost (line ∷ []) ≡ line_cost line = omega arith in let e : cost ≡ sum_by line_cost log = U.counted in omega arith)

  module _ (longer : List Line) (total : ℕ) (e : longer ≡ log ++ line ∷ []) (t : total ≡ min (cost + line_cost line) (2 ^ 64 - 1)) where
    pub spent : budget < total → IsSpent formula budget longer
    spent over = subst (IsSpent formula budget) (sym e) (record {
      follow = follow;
      new = new;
      passes = record {
        before = log;
        last = line;
        ends = refl;
        within = let c : cost ≡ log_cost log = U.counted in let w : cost ≤ budget = U.within in omega arith;
        over = let d = dearer in omega arith;
      };
    })

    pub refuted : budget ≤ 1_000_000 → total ≤ budget → line.literals ≡ [] → IsRefutation formula budget longer
    refuted small low none = subst (IsRefutation formula budget) (sym e) (record {
      refutes = record { follow = follow; ends_empty = (log, line, refl, none) };
      new = new;
      within = let d = dearer in omega arith;
    })

    pub goes_on : budget ≤ 1_000_000 → total ≤ budget → line.literals ≢ [] → (after : Search) → after.variables ≡ s.variables → after.clauses ≡ s.clauses ++ line.literals ∷ [] → IsUnderWay formula budget after longer total
    goes_on small low some after v c = subst (λ (ls : List Line). IsUnderWay formula budget after ls total) (sym e) (record {
      variables = v ∙ U.variables;
      clauses = c ∙ (ap (λ (cs : List Clause). cs ++ line.literals ∷ []) U.clauses ∙ sym (known_push formula log line));
      follow = follow;
      new = new;
      counted = let d = dearer in omega arith;
      within = low;
      unrefuted = All-push (λ (l : Line). l.literals ≢ []) log line U.unrefuted some;
    })

  pub paid : (total place : ℕ) → place ≤ cost → total ≡ min (cost + line_cost line) (2 ^ 64 - 1) → total ≤ budget → budget ≤ 1_000_000 → place + 1 ≤ total
  paid total place b t low small = omega arith

-- ---- a model
pub model_told : (formula : Formula) (budget : ℕ) (s : Search) (log : List Line) (cost : ℕ) (truth : List Bool) → IsSearch s → IsUnderWay formula budget s log cost → IsFull s → AreTold s s.variables truth → IsModel (listed truth) formula.clauses
model_told formula budget s log cost truth S U F h =
    all_members (IsSatisfied (listed truth)) formula.clauses (λ clause c. All-contains (IsSatisfied (listed truth)) s.clauses clause whole (subst (λ (D : List Clause). Contains D clause) (sym U.clauses) (Contains-append_left formula.clauses (map (λ (l : Line). l.literals) log) clause c)))
  where
    whole : IsModel (listed truth) s.clauses
    whole = listed_rest_is_a_model s.variables (literals s.trail) s.clauses truth S.clauses_fit F.0 h
