-- The clauses of one segment, flip by flip.
use Rattle.std.proofs.Common.{◌≡◌, ◌≢◌, ℕ, ◌+◌, ◌<◌, Bool, true, false, List, [], ◌∷◌, ◌++◌, length, take, sym, ap, ◌∙◌, subst}
use Rattle.geo_orient.specs.declared.Point.{Point}
use Rattle.edge_table.specs.declared.edge.Edge.{Edge}
use Rattle.edge_table.specs.Edges.{is_edge}
use Rattle.log_law.specs.declared.Lit.{Lit}
use Rattle.log_law.specs.Clauses.{Clause}
use Rattle.formula_law.specs.Frames.{Pair, Frame, IsFrame}
use Rattle.formula_law.specs.Formula.{literal, there, made}
use Rattle.formula_parts.specs.Lists.{Link, edge_at, linked}
use Rattle.formula_parts.specs.Building.{no_pair, pair_at}
use Rattle.flip_cnf.specs.Building.{leaving, coming}
use Rattle.formula_parts.proofs.Kept.{kept, skipped}
use Rattle.formula_parts.proofs.Places.{same_segment, other_segment}

pub two : (l0 l1 l2 : Clause) (a b : Lit) → l0 ≡ [] → l1 ≡ l0 ++ a ∷ [] → l2 ≡ l1 ++ b ∷ [] → l2 ≡ a ∷ b ∷ []
two l0 l1 l2 a b e0 e1 e2 = e2 ∙ ap (λ l. l ++ b ∷ []) (e1 ∙ ap (λ l. l ++ a ∷ []) e0)

more : (a b x : Lit) (xs ys old new : Clause) → old ≡ a ∷ b ∷ xs → new ≡ old ++ x ∷ [] → ys ≡ xs ++ x ∷ [] → new ≡ a ∷ b ∷ ys
more a b x xs ys old new e f g = f ∙ ap (λ l. l ++ x ∷ []) e ∙ ap (λ zs. let l : Clause = a ∷ b ∷ zs in l) (sym g)

module _ (points : List Point) (F : Frame) (I : IsFrame points F) (k t e n : ℕ) (he : e < length F.segments) (hn : n < length F.flips) (g : Link) (hg : (g.0 < length F.segments) × (g.1 < length F.segments)) (is : pair_at F.flips n ≡ linked F.segments g) (old : Clause) where
  abbrev E : Edge
  E = edge_at F.segments e

  abbrev x : Lit
  x = literal (made F k t (pair_at F.flips n)) true

  first : (b : Bool) → is_edge E (edge_at F.segments g.0) ≡ b → is_edge E (pair_at F.flips n).0 ≡ b
  first b h = subst (λ (p : Pair). is_edge E p.0 ≡ b) (sym is) h

  second : (b : Bool) → is_edge E (edge_at F.segments g.1) ≡ b → is_edge E (pair_at F.flips n).1 ≡ b
  second b h = subst (λ (p : Pair). is_edge E p.1 ≡ b) (sym is) h

  pub left_more : (new : Clause) → g.0 ≡ e → old ≡ leaving F k t E (take n F.flips) → new ≡ old ++ x ∷ [] → new ≡ leaving F k t E (take (n + 1) F.flips)
  left_more new i u v = more _ _ x _ _ old new u v (kept (λ g. literal (made F k t g) true) (λ g. is_edge E g.0) F.flips n no_pair hn (first true (same_segment points F I e g.0 i)))

  pub left_same : g.0 ≢ e → old ≡ leaving F k t E (take n F.flips) → old ≡ leaving F k t E (take (n + 1) F.flips)
  left_same i u = u ∙ ap (λ zs. let l : Clause = literal (there F t E) false ∷ literal (there F (t + 1) E) true ∷ zs in l) (sym (skipped (λ g. literal (made F k t g) true) (λ g. is_edge E g.0) F.flips n no_pair hn (first false (other_segment points F I e g.0 he hg.0 i))))

  pub came_more : (new : Clause) → g.1 ≡ e → old ≡ coming F k t E (take n F.flips) → new ≡ old ++ x ∷ [] → new ≡ coming F k t E (take (n + 1) F.flips)
  came_more new i u v = more _ _ x _ _ old new u v (kept (λ g. literal (made F k t g) true) (λ g. is_edge E g.1) F.flips n no_pair hn (second true (same_segment points F I e g.1 i)))

  pub came_same : g.1 ≢ e → old ≡ coming F k t E (take n F.flips) → old ≡ coming F k t E (take (n + 1) F.flips)
  came_same i u = u ∙ ap (λ zs. let l : Clause = literal (there F t E) true ∷ literal (there F (t + 1) E) false ∷ zs in l) (sym (skipped (λ g. literal (made F k t g) true) (λ g. is_edge E g.1) F.flips n no_pair hn (second false (other_segment points F I e g.1 he hg.1 i))))
