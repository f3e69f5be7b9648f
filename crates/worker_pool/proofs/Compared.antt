-- The rows that the turns of a run leave: each two inputs have theirs, and no turn finds one before it.
use Rattle.std.proofs.Common.{◌≡◌, ◌≢◌, ◌∙◌, ◌⊎◌, inl, inr, ℕ, ◌<◌, true, false, Option, Some, None, List, length, refl, sym, ap, subst, arith}
use Rattle.std.specs.Prelude.{slice_get, slice_index_or, option_map}
use Rattle.std.proofs.lemmas.List.{take_all}
use Rattle.std.proofs.lemmas.Option.{slice_get-map, slice_get_within, slice_get-get_or}
use Rattle.geo_orient.specs.declared.Point.{Point}
use Rattle.edge_table.specs.declared.edge.Edge.{Edge}
use Rattle.flip_cnf.specs.HeldFrames.{HeldFrame}
use Rattle.pair_rows.specs.declared.row.Row as row
use Rattle.pair_rows.specs.Rows.{IsEarned}
use Rattle.pair_rows.specs.Versions.{Pruned}
use Rattle.plan_law.specs.Books as law
use Rattle.plan_law.specs.Books.{PairRow, is_plan_entry, opening_state, state_after, row_of}
use Rattle.plan_law.specs.Jobs as jobs
use Rattle.plan_law.specs.Jobs.{turn_count}
use Rattle.plan_law.specs.Solving.{answer, turns_of}
use Rattle.plan_core.specs.HeldPlans.{HeldPlan}
use Rattle.book_core.specs.declared.entry.Entry.{Entry}
use Rattle.book_core.specs.declared.entry.Entry.TheVariants as entry
use Rattle.book_core.specs.Entries.{Shown, pair_row, line_of, lines_of, rows_in}
use Rattle.worker_pool.specs.declared.limits.Limits.{Limits}
use Rattle.worker_pool.specs.declared.outcome.Outcome.{Outcome}
use Rattle.worker_pool.specs.declared.outcome.Outcome.TheVariants as outcome
use Rattle.worker_pool.specs.Jobs.{order_of}
use Rattle.worker_pool.specs.Outcomes.{state_at, plan_at, job_at, FindsNone, Sticks, Fits}
use Rattle.worker_pool.specs.Turns.{now_at}
use Rattle.worker_pool.specs.Runs.{StandsAt, AreTurns, IsCompared, HaveRows}
use Rattle.worker_pool.proofs.Numbers.{turn_comparing, one_turn}
use Rattle.worker_pool.proofs.Ordered.{same, answer_step}
use Rattle.worker_pool.proofs.Replicas.{length-lines}
use Rattle.worker_pool.proofs.Rows.{IsRowOf, rows_are, row_found, row_there}

pub line_at : (journal : List Entry) (n : ℕ) (x : Entry) → slice_get journal n ≡ Some x → slice_get (lines_of journal) n ≡ Some (line_of x)
line_at journal n x e = slice_get-map line_of journal n ∙ ap (option_map line_of) e

memory_or_not : (out : Outcome) → (out ≡ outcome.NoMemory) ⊎ (out ≢ outcome.NoMemory)
memory_or_not (outcome.Published place saved) = inr (λ e. absurd (cc))
memory_or_not (outcome.NotBetter base) = inr (λ e. absurd (cc))
memory_or_not (outcome.Stuck base round) = inr (λ e. absurd (cc))
memory_or_not (outcome.Stale base is) = inr (λ e. absurd (cc))
memory_or_not (outcome.Kept place) = inr (λ e. absurd (cc))
memory_or_not (outcome.Taken i j) = inr (λ e. absurd (cc))
memory_or_not (outcome.Packed place limit) = inr (λ e. absurd (cc))
memory_or_not (outcome.NoRise held given) = inr (λ e. absurd (cc))
memory_or_not outcome.NoMemory = inl refl

module _ (limits : Limits) (frame : HeldFrame) (ground : HeldPlan) (journal : List Entry) (outcomes : List Outcome) (T : AreTurns limits frame ground journal outcomes) where
  abbrev points : List Point
  points = ground.problem.points

  abbrev inputs : List (List Edge)
  inputs = ground.problem.inputs

  -- ---- the turn of a row: it compares the inputs of the row, and earned it
  pub record IsRowOfTurn (n turn : ℕ) (found : row.Row) : Type 0 where
    pub by_turn : slice_get outcomes turn ≡ Some (outcome.Kept n)
    pub compares : job_at limits ground turn ≡ jobs.Compares found.i found.j
    pub earned : IsEarned Pruned points inputs frame limits.budget found

  pub row_owned : (n turn : ℕ) (found : row.Row) → slice_get journal n ≡ Some (entry.Row turn found) → IsRowOfTurn n turn found
  row_owned n turn found e = by_owner (T.owned n (entry.Row turn found) e)
    where
      one_row : (x y : row.Row) → Some (entry.Row turn x) ≡ Some (entry.Row turn y) → x ≡ y
      one_row x y e = cc

      by_out : (out : Outcome) → slice_get outcomes turn ≡ Some out → Fits limits ground frame turn journal out → StandsAt out n → IsRowOfTurn n turn found
      by_out (outcome.Published place saved) t f s =
          let i = same f.line (law.Row turn (pair_row found)) (sym f.there ∙ (ap (slice_get (lines_of journal)) s ∙ line_at journal n (entry.Row turn found) e)) in
          let h = answer_step (order_of limits).words points inputs (state_at ground journal place).plan turn (job_at limits ground turn) f.line f.answered in
          absurd (let z : false ≡ true = sym (ap is_plan_entry i) ∙ h.1 in cc)
      by_out (outcome.Kept place) t f s =
          let is = one_row f.found found (sym f.there ∙ (ap (slice_get journal) s ∙ e)) in record {
            by_turn = t ∙ ap (λ (k : ℕ). Some (outcome.Kept k)) s;
            compares = f.of_job ∙ ap (λ (r : row.Row). jobs.Compares r.i r.j) is;
            earned = subst (IsEarned Pruned points inputs frame limits.budget) is f.earned;
          }
      by_out (outcome.Packed place limit) t f s = absurd (let z : Some (entry.Pack turn f.perm) ≡ Some (entry.Row turn found) = sym f.there ∙ (ap (slice_get journal) s ∙ e) in cc)
      by_out (outcome.NotBetter base) t f s = absurd s
      by_out (outcome.Stuck base round) t f s = absurd s
      by_out (outcome.Stale base is) t f s = absurd s
      by_out (outcome.Taken i j) t f s = absurd s
      by_out (outcome.NoRise held given) t f s = absurd s
      by_out outcome.NoMemory t f s = absurd s

      by_owner : (out : Outcome) × (slice_get outcomes turn ≡ Some out) × StandsAt out n → IsRowOfTurn n turn found
      by_owner (out, t, s) = by_out out t (T.fit turn out t) s

  now_rows : (now_at ground journal).rows ≡ rows_in journal
  now_rows = rows_are points inputs (opening_state ground.plan) journal

  whole : (state_at ground journal (length journal)).rows ≡ rows_in journal
  whole = ap (λ (lines : List (law.Entry Shown)). (state_after points inputs (opening_state ground.plan) lines).rows) (take_all (length journal) (lines_of journal) (let l = length-lines journal in omega (arith, l))) ∙ now_rows

  -- ---- the inputs of a turn that compares them have a row
  row_made : (u i j : ℕ) (out : Outcome) → slice_get outcomes u ≡ Some out → out ≢ outcome.NoMemory → job_at limits ground u ≡ jobs.Compares i j → row_of (rows_in journal) i j ≢ None
  row_made u i j out e memory compares = by_out out memory (T.fit u out e)
    where
      one_pair : (a b : ℕ) → jobs.Compares i j ≡ jobs.Compares a b → (a ≡ i) × (b ≡ j)
      one_pair a b e = ((cc), (cc))

      at_pair : (a b : ℕ) → job_at limits ground u ≡ jobs.Compares a b → row_of (rows_in journal) a b ≢ None → row_of (rows_in journal) i j ≢ None
      at_pair a b k n = let p = one_pair a b (sym compares ∙ k) in subst (λ (b : ℕ). row_of (rows_in journal) i b ≢ None) p.1 (subst (λ (a : ℕ). row_of (rows_in journal) a b ≢ None) p.0 n)

      no_packs : job_at limits ground u ≡ jobs.Packs → ⊥
      no_packs k = let z : jobs.Compares i j ≡ jobs.Packs = sym compares ∙ k in cc

      by_out : (out : Outcome) → out ≢ outcome.NoMemory → Fits limits ground frame u journal out → row_of (rows_in journal) i j ≢ None
      by_out (outcome.Published place saved) m f = absurd (let z : None ≡ Some f.line = sym (ap (answer {E = Shown} (order_of limits).words points inputs (state_at ground journal place).plan u) compares) ∙ f.answered in cc)
      by_out (outcome.NotBetter base) m f = absurd (subst (FindsNone limits ground (plan_at ground journal base)) compares f.1)
      by_out (outcome.Stuck base round) m f = absurd (subst (Sticks ground (plan_at ground journal base) round) compares f.1)
      by_out (outcome.Stale base is) m f = absurd (let z : None ≡ Some f.line = sym (ap (answer {E = Shown} (order_of limits).words points inputs (plan_at ground journal base) u) compares) ∙ f.answered in cc)
      by_out (outcome.Kept place) m f = at_pair f.found.i f.found.j f.of_job (row_there journal place u f.found f.there)
      by_out (outcome.Taken a b) m f = at_pair a b f.0 (λ n. f.1 (ap (λ rows. row_of rows a b) whole ∙ n))
      by_out (outcome.Packed place limit) m f = absurd (no_packs f.of_job)
      by_out (outcome.NoRise held given) m f = absurd (no_packs f.of_job)
      by_out outcome.NoMemory m f = absurd (m refl)

  module _ (count : length outcomes ≡ turns_of (order_of limits) inputs) where
    within : (u : ℕ) (out : Outcome) → slice_get outcomes u ≡ Some out → u < turn_count limits.turns (length inputs)
    within u out e = let w = slice_get_within outcomes u out e in omega (arith, w, count)

    -- ---- a row before a turn would be of another turn with these inputs, and there is none
    no_row_before : (u i j : ℕ) → slice_get outcomes u ≢ Some (outcome.Taken i j)
    no_row_before u i j e = by_row (row_of (rows_in journal) i j) refl
      where
        f : Fits limits ground frame u journal (outcome.Taken i j)
        f = T.fit u (outcome.Taken i j) e

        by_turn : (r : PairRow Shown) → IsRowOf journal i j r → ⊥
        by_turn r R =
            let O = row_owned R.place R.turn R.found R.there in
            let compares : job_at limits ground R.turn ≡ jobs.Compares i j = O.compares ∙ (ap (λ (a : ℕ). jobs.Compares a R.found.j) R.first ∙ ap (jobs.Compares i) R.second) in
            let one : u ≡ R.turn = one_turn limits.turns (length inputs) i j u R.turn (within u (outcome.Taken i j) e) (within R.turn (outcome.Kept R.place) O.by_turn) f.0 compares in
            let z : Some (outcome.Taken i j) ≡ Some (outcome.Kept R.place) = sym e ∙ (ap (slice_get outcomes) one ∙ O.by_turn) in
            cc

        by_row : (r : Option (PairRow Shown)) → row_of (rows_in journal) i j ≡ r → ⊥
        by_row None n = f.1 (ap (λ rows. row_of rows i j) whole ∙ n)
        by_row (Some r) n = by_turn r (row_found journal i j r n)

    -- ---- each two inputs have such a turn
    compared : (i j : ℕ) → i < j → j < length inputs → IsCompared limits ground journal outcomes i j
    compared i j up below = by_turn (turn_comparing limits.turns (length inputs) i j up below)
      where
        Ends : ℕ → Type 0
        Ends u = ((r : PairRow Shown) × (row_of (now_at ground journal).rows i j ≡ Some r)) ⊎ (slice_get outcomes u ≡ Some outcome.NoMemory)

        by_row : (u : ℕ) (r : Option (PairRow Shown)) → row_of (rows_in journal) i j ≡ r → row_of (rows_in journal) i j ≢ None → Ends u
        by_row u None e some = absurd (some e)
        by_row u (Some r) e some = inl (r, ap (λ rows. row_of rows i j) now_rows ∙ e)

        by_out : (u : ℕ) (out : Outcome) → slice_get outcomes u ≡ Some out → job_at limits ground u ≡ jobs.Compares i j → Ends u
        by_out u out e k = by_memory (memory_or_not out)
          where
            by_memory : (out ≡ outcome.NoMemory) ⊎ (out ≢ outcome.NoMemory) → Ends u
            by_memory (inl m) = inr (e ∙ ap Some m)
            by_memory (inr m) = by_row u (row_of (rows_in journal) i j) refl (row_made u i j out e m k)

        by_turn : (u : ℕ) × (u < turn_count limits.turns (length inputs)) × (jobs.job limits.turns (length inputs) u ≡ jobs.Compares i j) → IsCompared limits ground journal outcomes i j
        by_turn (u, l, k) = record {
          turn = u;
          compares = k;
          ends = by_out u (slice_index_or outcomes u outcome.NoMemory) (slice_get-get_or outcomes u outcome.NoMemory (omega (arith, l, count))) k;
        }

    pub have_rows : HaveRows limits ground journal outcomes
    have_rows = record { each = compared; none_taken = no_row_before }
