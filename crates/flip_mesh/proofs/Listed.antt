-- The edges that flip are listed from the sides of a mesh.
use Rattle.std.proofs.Common.{◌≡◌, ◌∙◌, ◌⊎◌, inl, inr, ℕ, ◌+◌, ◌<◌, ◌≤◌, List, [], ◌∷◌, ◌++◌, length, get_or, Contains, refl, sym, ap, subst, arith}
use native.Mathlib.Decide.{ℕ_discrete}
use Rattle.geo_orient.specs.declared.Point.{Point}
use Rattle.edge_table.specs.declared.edge.Edge.{Edge}
use Rattle.edge_table.specs.Edges.{edge, IsBefore, IsAscending}
use Rattle.edge_table.proofs.Edges.{edge_of}
use Rattle.edge_table.proofs.Ascending.{ascending_cons, ascending_head, ascending_tail}
use Rattle.tri_theory.specs.Flips.{Flips}
use Rattle.flip_mesh.specs.declared.mesh.Quad.{Quad}
use Rattle.flip_mesh.specs.Answers.{IsQuadAt}
use Rattle.side_table.specs.declared.side.Side.{Side}
use Rattle.side_table.specs.Sides.{side, HasSide, IsOrderedSides}
use Rattle.flip_mesh.specs.Sides.{edges_of}
use Rattle.flip_mesh.specs.Build.{AddsFlip, AreFlippable}
use Rattle.side_table.proofs.Ordered.{here, later, cases}
use Rattle.side_table.proofs.Ordered.{way}
use Rattle.flip_mesh.proofs.Meshes.{edges_from}
use Rattle.flip_mesh.proofs.Quads.{quad_flips}

-- ---- one edge more at the end
pub pushed_cases : (es : List Edge) (e f : Edge) → Contains (es ++ e ∷ []) f → Contains es f ⊎ (f ≡ e)
pushed_cases [] e f h = by_cases (cases f e [] h)
  where
    by_cases : (e ≡ f) ⊎ Contains [] f → Contains [] f ⊎ (f ≡ e)
    by_cases (inl k) = inr (sym k)
    by_cases (inr k) = inl k
pushed_cases (x ∷ xs) e f h = by_cases (pushed_cases xs e f) (cases f x (xs ++ e ∷ []) h)
  where
    again : Contains xs f ⊎ (f ≡ e) → Contains (x ∷ xs) f ⊎ (f ≡ e)
    again (inl k) = inl (later f x xs k)
    again (inr k) = inr k

    by_cases : (Contains (xs ++ e ∷ []) f → Contains xs f ⊎ (f ≡ e)) → (x ≡ f) ⊎ Contains (xs ++ e ∷ []) f → Contains (x ∷ xs) f ⊎ (f ≡ e)
    by_cases rec (inl k) = inl (here f x xs k)
    by_cases rec (inr k) = again (rec k)

pub pushed_old : (es : List Edge) (e f : Edge) → Contains es f → Contains (es ++ e ∷ []) f
pushed_old [] e f (k, l, h) = absurd (omega arith)
pushed_old (x ∷ xs) e f h = by_cases (pushed_old xs e f) (cases f x xs h)
  where
    by_cases : (Contains xs f → Contains (xs ++ e ∷ []) f) → (x ≡ f) ⊎ Contains xs f → Contains (x ∷ (xs ++ e ∷ [])) f
    by_cases rec (inl k) = here f x (xs ++ e ∷ []) k
    by_cases rec (inr k) = later f x (xs ++ e ∷ []) (rec k)

pub pushed_there : (es : List Edge) (e : Edge) → Contains (es ++ e ∷ []) e
pushed_there [] e = here e e [] refl
pushed_there (x ∷ xs) e = later e x (xs ++ e ∷ []) (pushed_there xs e)

pub pushed_ascending : (es : List Edge) (e : Edge) → IsAscending es → ((f : Edge) → Contains es f → IsBefore f e) → IsAscending (es ++ e ∷ [])
pushed_ascending [] e up h = λ i j d l k. absurd (omega arith)
pushed_ascending (x ∷ xs) e up h =
    ascending_cons x (xs ++ e ∷ []) (λ f k. first f (pushed_cases xs e f k)) (pushed_ascending xs e (ascending_tail x xs up) (λ f k. h f (later f x xs k)))
  where
    first : (f : Edge) → Contains xs f ⊎ (f ≡ e) → IsBefore x f
    first f (inl k) = ascending_head x xs up f k
    first f (inr k) = subst (IsBefore x) (sym k) (h x (here x x xs refl))

-- ---- the edges that flip, of the sides before a place
pub record Listed (points : List Point) (edges : List Edge) (ss : List Side) (list : List Edge) (i : ℕ) : Type 0 where
  pub ascending : IsAscending list
  pub before : (e : Edge) → Contains list e → (k : ℕ) (d : Side) → i ≤ k → k < length ss → IsBefore e (way (get_or ss k d))
  pub flips : (e : Edge) → Contains list e → Flips points edges e
  pub all : (k : ℕ) (d : Side) → k < i → (get_or ss k d).from < (get_or ss k d).to → Flips points edges (way (get_or ss k d)) → Contains list (way (get_or ss k d))

pub listed_none : (points : List Point) (edges : List Edge) (ss : List Side) → Listed points edges ss [] 0
listed_none points edges ss = record {
  ascending = λ i j d l k. absurd (omega arith);
  before = λ e (k, l, h). absurd (omega arith);
  flips = λ e (k, l, h). absurd (omega arith);
  all = λ k d l. absurd (omega arith);
}

pub listed_more : (points : List Point) (edges : List Edge) (ss : List Side) (list new : List Edge) (s : Side) (i : ℕ) → IsOrderedSides ss → i < length ss → ((d : Side) → get_or ss i d ≡ s)
    → AddsFlip points edges list new s → Listed points edges ss list i → Listed points edges ss new (i + 1)
listed_more points edges ss list new s i up l at (inl h) L = record {
  ascending = subst IsAscending (sym h.0) L.ascending;
  before = λ e k j d m n. L.before e (subst (λ es. Contains es e) h.0 k) j d (omega arith) n;
  flips = λ e k. L.flips e (subst (λ es. Contains es e) h.0 k);
  all = λ k d m r f. subst (λ es. Contains es (way (get_or ss k d))) (sym h.0) (by_test k d m r f (ℕ_discrete k i));
}
  where
    by_test : (k : ℕ) (d : Side) → k < i + 1 → (get_or ss k d).from < (get_or ss k d).to → Flips points edges (way (get_or ss k d)) → Dec (k ≡ i) → Contains list (way (get_or ss k d))
    by_test k d m r f (no n) = L.all k d (omega arith) r f
    by_test k d m r f (yes q) =
        let same : get_or ss k d ≡ s = ap (λ j. get_or ss j d) q ∙ at d in
        absurd (h.1 (subst (λ (r : Side). r.from < r.to) same r) (subst (λ (r : Side). Flips points edges (way r)) same f))
listed_more points edges ss list new s i up l at (inr h) L = record {
  ascending = subst IsAscending (sym h.2) (pushed_ascending list (way s) L.ascending (λ e k. subst (λ r. IsBefore e (way r)) (at s) (L.before e k i s (omega arith) l)));
  before = λ e k j d m n. before e (pushed_cases list (way s) e (subst (λ es. Contains es e) h.2 k)) j d m n;
  flips = λ e k. flips e (pushed_cases list (way s) e (subst (λ es. Contains es e) h.2 k));
  all = λ k d m r f. subst (λ es. Contains es (way (get_or ss k d))) (sym h.2) (by_test k d m r f (ℕ_discrete k i));
}
  where
    before : (e : Edge) → Contains list e ⊎ (e ≡ way s) → (j : ℕ) (d : Side) → i + 1 ≤ j → j < length ss → IsBefore e (way (get_or ss j d))
    before e (inl k) j d m n = L.before e k j d (omega arith) n
    before e (inr k) j d m n = subst (λ f. IsBefore f (way (get_or ss j d))) (ap way (at d) ∙ sym k) (up i j d (omega arith) n)

    flips : (e : Edge) → Contains list e ⊎ (e ≡ way s) → Flips points edges e
    flips e (inl k) = L.flips e k
    flips e (inr k) = subst (Flips points edges) (sym k) h.1

    by_test : (k : ℕ) (d : Side) → k < i + 1 → (get_or ss k d).from < (get_or ss k d).to → Flips points edges (way (get_or ss k d)) → Dec (k ≡ i) → Contains (list ++ way s ∷ []) (way (get_or ss k d))
    by_test k d m r f (no n) = pushed_old list (way s) (way (get_or ss k d)) (L.all k d (omega arith) r f)
    by_test k d m r f (yes q) = subst (λ (r : Side). Contains (list ++ way s ∷ []) (way r)) (sym (ap (λ j. get_or ss j d) q ∙ at d)) (pushed_there list (way s))

-- an edge that flips is a member
pub flips_member : (points : List Point) (edges : List Edge) (e : Edge) → Flips points edges e → Contains edges e
flips_member points edges e (f, (a, b, c, d, he, hf, q)) = subst (Contains edges) (sym he) q.left.ab

pub listed_all : (points : List Point) (ss : List Side) (list : List Edge) (i : ℕ) → length ss ≤ i → Listed points (edges_of ss) ss list i → AreFlippable points (edges_of ss) list
listed_all points ss list i l L = record { ascending = L.ascending; members = λ e. (L.flips e, λ f. from e f (edges_from ss e (flips_member points (edges_of ss) e f))) }
  where
    from : (e : Edge) → Flips points (edges_of ss) e → HasSide ss e.0 e.1 × (e.0 < e.1) → Contains list e
    from e f p = by_place p.0.there
      where
        by_place : Contains ss (side e.0 e.1 p.0.apex) → Contains list e
        by_place (k, m, q) =
            subst (λ (r : Side). Contains list (way r)) q
            (L.all k (side e.0 e.1 p.0.apex) (omega arith) (subst (λ (r : Side). r.from < r.to) (sym q) p.1) (subst (λ (r : Side). Flips points (edges_of ss) (way r)) (sym q) f))

-- ---- what a step answers
at_side : (s : Side) (e : Edge) → s.from < s.to → e ≡ edge s.from s.to → e ≡ way s
at_side s e l is = is ∙ edge_of (s.from, s.to) l

pub flip_added : (points : List Point) (edges list new : List Edge) (s : Side) (e : Edge) (q : Quad) → s.from < s.to → e ≡ edge s.from s.to → IsQuadAt points edges e q → new ≡ list ++ e ∷ [] → AddsFlip points edges list new s
flip_added points edges list new s e q l is h n =
    inr (
      l,
      subst (Flips points edges) (at_side s e l is) (quad_flips points edges e q h),
      subst (λ f. new ≡ list ++ f ∷ []) (at_side s e l is) n,
    )

pub no_flip_added : (points : List Point) (edges list : List Edge) (s : Side) (e : Edge) → s.from < s.to → e ≡ edge s.from s.to → ¬ Flips points edges e → AddsFlip points edges list list s
no_flip_added points edges list s e l is n = inl (refl, λ _ f. n (subst (Flips points edges) (sym (at_side s e l is)) f))
