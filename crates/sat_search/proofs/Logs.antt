-- The log that is made of clauses and hints, line by line.
use Rattle.std.proofs.Common.{◌≡◌, ℕ, ◌+◌, List, [], ◌∷◌, ◌++◌, length, drop, refl, sym, ap, ◌∙◌, subst, arith}
use Rattle.std.proofs.lemmas.List.{append_assoc, length-drop, drop-append-le}
use Rattle.log_law.specs.Clauses.{Clause, Formula}
use Rattle.log_law.specs.Logs.{Line}
use Rattle.sat_state.specs.Searches.{Search}
use Rattle.sat_search.specs.Lessons.{lines_from, IsUnderWay}
use Rattle.sat_search.proofs.UnderWay.{moved_way}

pub lines_push : (id : ℕ) (clauses : List Clause) (hints : List (List ℕ)) (line : Line) → length clauses ≡ length hints → line.id ≡ id + length clauses
    → lines_from id (clauses ++ line.literals ∷ []) (hints ++ line.hints ∷ []) ≡ lines_from id clauses hints ++ line ∷ []
lines_push id [] [] line e f = ap (λ (n : ℕ). record { id = n; literals = line.literals; hints = line.hints } ∷ []) (let g : id ≡ line.id = omega arith in g)
lines_push id [] (h ∷ hints) line e f = absurd (omega arith)
lines_push id (c ∷ clauses) [] line e f = absurd (omega arith)
lines_push id (c ∷ clauses) (h ∷ hints) line e f = ap (λ (ls : List Line). record { id = id; literals = c; hints = h } ∷ ls) (lines_push (id + 1) clauses hints line (omega arith) (omega arith))

-- one line more, and what is to come
pub lines_next : (id : ℕ) (log longer : List Line) (clauses clauses_left : List Clause) (hints hints_left : List (List ℕ)) (clause : Clause) (used : List ℕ) → clauses ≡ clause ∷ clauses_left → hints ≡ used ∷ hints_left
    → longer ≡ log ++ record { id = id; literals = clause; hints = used } ∷ [] → longer ++ lines_from (id + 1) clauses_left hints_left ≡ log ++ lines_from id clauses hints
lines_next id log longer clauses clauses_left hints hints_left clause used e f g =
    ap (λ (ls : List Line). ls ++ lines_from (id + 1) clauses_left hints_left) g
    ∙ (append_assoc log (record { id = id; literals = clause; hints = used } ∷ []) (lines_from (id + 1) clauses_left hints_left)
    ∙ (ap (λ (cs : List Clause). log ++ lines_from id cs (used ∷ hints_left)) (sym e) ∙ ap (λ (hs : List (List ℕ)). log ++ lines_from id clauses hs) (sym f)))

pub lines_none : (id : ℕ) (clauses : List Clause) (hints : List (List ℕ)) → length clauses ≡ length hints → (length clauses ≡ 0) → lines_from id clauses hints ≡ []
lines_none id [] hints e z = refl
lines_none id (c ∷ clauses) hints e z = absurd (omega arith)

-- one clause and its hints more
pub lines_more : (n : ℕ) (clauses grown : List Clause) (hints more : List (List ℕ)) (line : Line) → n + length hints ≡ length clauses → line.id ≡ length clauses + 1 → grown ≡ clauses ++ line.literals ∷ [] → more ≡ hints ++ line.hints ∷ []
    → lines_from (n + 1) (drop n clauses) hints ++ line ∷ [] ≡ lines_from (n + 1) (drop n grown) more
lines_more n clauses grown hints more line e i f g =
    let long = length-drop n clauses in
    sym (lines_push (n + 1) (drop n clauses) hints line (omega (arith, long, e)) (omega (arith, long, e, i)))
    ∙ (ap (λ (cs : List Clause). lines_from (n + 1) cs (hints ++ line.hints ∷ [])) (sym (ap (drop n) f ∙ drop-append-le n clauses (line.literals ∷ []) (omega (arith, e))))
    ∙ ap (λ (hs : List (List ℕ)). lines_from (n + 1) (drop n grown) hs) (sym g))

-- the lines that a state and these hints make, after the formula's clauses
abbrev pub so_far : Formula → Search → List (List ℕ) → List Line
so_far formula s hints = lines_from (length formula.clauses + 1) (drop (length formula.clauses) s.clauses) hints

pub kept_way : (formula : Formula) (budget : ℕ) (s after : Search) (hints : List (List ℕ)) (cost : ℕ) → after.variables ≡ s.variables → after.clauses ≡ s.clauses → IsUnderWay formula budget s (so_far formula s hints) cost
    → IsUnderWay formula budget after (so_far formula after hints) cost
kept_way formula budget s after hints cost v k U =
    subst (λ (cs : List Clause). IsUnderWay formula budget after (lines_from (length formula.clauses + 1) (drop (length formula.clauses) cs) hints) cost) (sym k)
    (moved_way formula budget s after (so_far formula s hints) cost v k U)
