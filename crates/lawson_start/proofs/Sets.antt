-- The set of bad edges while edges are tested.
use Rattle.std.proofs.Common.{◌≡◌, ◌≢◌, ◌⊎◌, inl, inr, ◌↔◌, ℕ, ◌+◌, ◌<◌, ◌≤◌, List, [], length, get_or, Contains, refl, sym, subst, arith}
use native.Mathlib.Decide.{ℕ_discrete}
use Rattle.geo_orient.specs.declared.Point.{Point}
use Rattle.edge_table.specs.declared.edge.Edge.{Edge}
use Rattle.edge_table.specs.Edges.{edge, AddsEdge, RemovesEdge}
use Rattle.edge_table.proofs.Edges.{edge_discrete}
use Rattle.flip_mesh.specs.declared.mesh.Quad.{Quad}
use Rattle.lawson_law.specs.LawsonRuns.{IsBad}
use Rattle.lawson_start.specs.Steps.{AreBad, AreBadBefore, IsRetested, AreSidesRetested}
use Rattle.lawson_start.proofs.Corners.{bad_member}

module _ (points : List Point) (T : List Edge) where
  -- ---- one test
  pub put_in : (old new : List Edge) (e : Edge) → IsBad points T e → AddsEdge old new e → IsRetested points T old new e
  put_in old new e b adds = record {
    here = (λ _. b, λ _. (adds e).1 (inr refl));
    others = λ f ne. (λ k. kept f ne ((adds f).0 k), λ k. (adds f).1 (inl k));
  }
    where
      kept : (f : Edge) → f ≢ e → Contains old f ⊎ (f ≡ e) → Contains old f
      kept f ne (inl k) = k
      kept f ne (inr i) = absurd (ne i)

  pub left_out : (old new : List Edge) (e : Edge) → ¬ IsBad points T e → RemovesEdge old new e → IsRetested points T old new e
  left_out old new e n removes = record {
    here = (λ k. absurd (((removes e).0 k).1 refl), λ b. absurd (n b));
    others = λ f ne. (λ k. ((removes f).0 k).0, λ k. (removes f).1 (k, ne));
  }

  -- what one test found stays so in the next
  stays : (old new : List Edge) (e g : Edge) → IsRetested points T old new e → Contains old g ↔ IsBad points T g → Contains new g ↔ IsBad points T g
  stays old new e g r at = by_test (edge_discrete g e)
    where
      by_test : Dec (g ≡ e) → Contains new g ↔ IsBad points T g
      by_test (yes i) = subst (λ h. Contains new h ↔ IsBad points T h) (sym i) r.here
      by_test (no n) = (λ k. at.0 ((r.others g n).0 k), λ b. (r.others g n).1 (at.1 b))

  pub sides_tested : (s₀ s₁ s₂ s₃ s₄ : List Edge) (q : Quad) → IsRetested points T s₀ s₁ (edge q.a q.b) → IsRetested points T s₁ s₂ (edge q.b q.c) → IsRetested points T s₂ s₃ (edge q.c q.d) → IsRetested points T s₃ s₄ (edge q.d q.a) → AreSidesRetested points T s₀ s₄ q
  sides_tested s₀ s₁ s₂ s₃ s₄ q r₁ r₂ r₃ r₄ = record {
    ab = stays s₃ s₄ (edge q.d q.a) (edge q.a q.b) r₄ (stays s₂ s₃ (edge q.c q.d) (edge q.a q.b) r₃ (stays s₁ s₂ (edge q.b q.c) (edge q.a q.b) r₂ r₁.here));
    bc = stays s₃ s₄ (edge q.d q.a) (edge q.b q.c) r₄ (stays s₂ s₃ (edge q.c q.d) (edge q.b q.c) r₃ r₂.here);
    cd = stays s₃ s₄ (edge q.d q.a) (edge q.c q.d) r₄ r₃.here;
    da = r₄.here;
    others = λ f n. (
      λ k. (r₁.others f n.ab).0 ((r₂.others f n.bc).0 ((r₃.others f n.cd).0 ((r₄.others f n.da).0 k))),
      λ k. (r₄.others f n.da).1 ((r₃.others f n.cd).1 ((r₂.others f n.bc).1 ((r₁.others f n.ab).1 k))),
    );
  }

  -- ---- all members tested, one after the other
  none_in : (e : Edge) → ¬ Contains [] e
  none_in e (k, l, h) = omega arith

  pub none_tested : AreBadBefore points T [] 0
  none_tested = record { sound = λ e k. absurd (none_in e k); complete = λ k d l. absurd (omega arith) }

  pub one_tested : (old new : List Edge) (e : Edge) (i : ℕ) → ((d : Edge) → get_or T i d ≡ e) → IsRetested points T old new e → AreBadBefore points T old i → AreBadBefore points T new (i + 1)
  one_tested old new e i at r b = record {
    sound = λ g k. sound_by g k (edge_discrete g e);
    complete = λ k d l bad. complete_by k d l bad (edge_discrete (get_or T k d) e);
  }
    where
      sound_by : (g : Edge) → Contains new g → Dec (g ≡ e) → IsBad points T g
      sound_by g k (yes h) = subst (IsBad points T) (sym h) (r.here.0 (subst (Contains new) h k))
      sound_by g k (no n) = b.sound g ((r.others g n).0 k)

      earlier : (k : ℕ) (d : Edge) → k < i + 1 → get_or T k d ≢ e → Dec (k ≡ i) → k < i
      earlier k d l n (yes h) = absurd (n (subst (λ j. get_or T j d ≡ e) (sym h) (at d)))
      earlier k d l n (no ne) = omega arith

      complete_by : (k : ℕ) (d : Edge) → k < i + 1 → IsBad points T (get_or T k d) → Dec (get_or T k d ≡ e) → Contains new (get_or T k d)
      complete_by k d l bad (yes h) = subst (Contains new) (sym h) (r.here.1 (subst (IsBad points T) h bad))
      complete_by k d l bad (no n) = (r.others (get_or T k d) n).1 (b.complete k d (earlier k d l n (ℕ_discrete k i)) bad)

  pub all_tested : (bad : List Edge) (i : ℕ) → length T ≤ i → AreBadBefore points T bad i → AreBad points T bad
  all_tested bad i l b = record { members = λ e. (b.sound e, λ k. there e k (bad_member points T e k)) }
    where
      there : (e : Edge) → IsBad points T e → Contains T e → Contains bad e
      there e k (p, m, h) = subst (Contains bad) h (b.complete p e (omega arith) (subst (IsBad points T) (sym h) k))
