-- The moves and swaps of a journal: the plan to which they lead, and that each move has an edge.
use Rattle.std.proofs.Common.{◌≡◌, ◌<◌, List, [], ◌∷◌, length, map, filter, All, refl, sym, ap, subst, arith}
use Rattle.std.specs.List.{AllByRecursion}
use Rattle.std.proofs.lemmas.Option.{same_Some}
use Rattle.std.proofs.lemmas.List.Elements.{All-from_recursion, recursion_from_All, All-filter}
use Rattle.geo_orient.specs.declared.Point.{Point}
use Rattle.edge_table.specs.declared.edge.Edge.{Edge}
use Rattle.plan_law.specs.Plans.{Plan, plan_total, followed_all}
use Rattle.plan_law.specs.Books as law
use Rattle.plan_law.specs.Books.{PairRow, Move, Swap, Row, Pack, is_plan_entry, State, after_entry, state_after, Lowers, IsFit, IsLegal}
use Rattle.plan_law.specs.Solving.{plan_after_all}
use Rattle.book_core.specs.Entries.{Shown}
use Rattle.cert_text.specs.declared.journal.JournalLine.{JournalLine}
use Rattle.cert_text.specs.declared.journal.JournalLine.TheVariants as line
use Rattle.cert_text.specs.Certs.{HasEdge}
use Rattle.book_cert.specs.Certificates.{entry_of}

-- ---- the plan after a journal
module _ (points : List Point) (inputs : List (List Edge)) where
  -- is that after its moves and swaps
  pub plan_by_steps : (s : State Shown) (lines : List (law.Entry Shown)) → (state_after points inputs s lines).plan ≡ plan_after_all points inputs s.plan (filter is_plan_entry lines)
  plan_by_steps s [] = refl
  plan_by_steps s (Move turn edges ∷ lines) = plan_by_steps (after_entry points inputs s (Move turn edges)) lines
  plan_by_steps s (Swap turn input rounds ∷ lines) = plan_by_steps (after_entry points inputs s (Swap turn input rounds)) lines
  plan_by_steps s (Row turn row ∷ lines) = plan_by_steps (after_entry points inputs s (Row turn row)) lines
  plan_by_steps s (Pack turn perm ∷ lines) = plan_by_steps (after_entry points inputs s (Pack turn perm)) lines

  -- and that after all its entries
  pub plan_by_all : (s : State Shown) (lines : List (law.Entry Shown)) → (state_after points inputs s lines).plan ≡ plan_after_all points inputs s.plan lines
  plan_by_all s [] = refl
  plan_by_all s (line ∷ lines) = plan_by_all (after_entry points inputs s line) lines

-- ---- moves with an edge
abbrev HasMoved : law.Entry Shown → Type 0
HasMoved (Move turn edges) = 0 < length edges
HasMoved (Swap turn input rounds) = Unit {0}
HasMoved (Row turn row) = Unit {0}
HasMoved (Pack turn perm) = Unit {0}

-- following no edge doesn't lower a total
lowering_moves : (points : List Point) (plan : Plan) (edges : List Edge) → Lowers plan (followed_all points plan edges) → 0 < length edges
lowering_moves points plan [] (next, e, l) = absurd (let t = ap plan_total (same_Some plan next e) in omega (arith, t, l))
lowering_moves points plan (e ∷ es) h = omega arith

fit_moves : (points : List Point) (inputs : List (List Edge)) (state : State Shown) (entry : law.Entry Shown) → IsFit points inputs state entry → HasMoved entry
fit_moves points inputs state (Move turn edges) h = lowering_moves points state.plan edges h
fit_moves points inputs state (Swap turn input rounds) h = tt
fit_moves points inputs state (Row turn row) h = tt
fit_moves points inputs state (Pack turn perm) h = tt

legal_moves : (justified : PairRow Shown → Type 0) (points : List Point) (inputs : List (List Edge)) (state : State Shown) (journal : List (law.Entry Shown)) → IsLegal justified points inputs state journal → AllByRecursion HasMoved journal
legal_moves justified points inputs state [] h = tt
legal_moves justified points inputs state (entry ∷ journal) (m, f, h) = (fit_moves points inputs state entry f, legal_moves justified points inputs (after_entry points inputs state entry) journal h)

has_edge : (l : JournalLine) → HasMoved (entry_of l) → HasEdge l
has_edge (line.Move turn edges) h = h
has_edge (line.Swap turn input rounds) h = tt

have_edges : (lines : List JournalLine) → AllByRecursion HasMoved (map entry_of lines) → AllByRecursion HasEdge lines
have_edges [] h = tt
have_edges (l ∷ lines) h = (has_edge l h.0, have_edges lines h.1)

-- each move among the moves and swaps of a legal journal has an edge
pub moves_have_edges : (justified : PairRow Shown → Type 0) (points : List Point) (inputs : List (List Edge)) (state : State Shown) (journal : List (law.Entry Shown)) (lines : List JournalLine) → IsLegal justified points inputs state journal → map entry_of lines ≡ filter is_plan_entry journal
    → AllByRecursion HasEdge lines
moves_have_edges justified points inputs state journal lines h e =
    let all = All-from_recursion HasMoved journal (legal_moves justified points inputs state journal h) in
    have_edges lines (recursion_from_All HasMoved (map entry_of lines) (subst (λ (l : List (law.Entry Shown)). All HasMoved l) (sym e) (All-filter is_plan_entry HasMoved journal all)))
