-- Improvers, one after the other.
use Rattle.std.proofs.Common.{◌≡◌, ◌∙◌, ℕ, zero, suc, ◌+◌, Option, Some, None, List, [], ◌∷◌, refl, sym, ap, ap₂, arith}
use Rattle.std.specs.Prelude.{unwrap_or}
use Rattle.rand_core.specs.Stream.{next_u32}
use Rattle.rand_core.specs.Steps.{first_words, stream_of, steps_u32}
use Rattle.rand_core.proofs.StepsLemmas.{next_u32-stream_of}
use Rattle.rand_pcg.specs.Lcg.{Lcg}
use Rattle.rand_pcg.specs.Pcg.{pcg32}
use Rattle.geo_orient.specs.declared.Point.{Point}
use Rattle.edge_table.specs.declared.edge.Edge.{Edge}
use Rattle.plan_law.specs.Plans.{Plan, followed_all}
use Rattle.plan_law.specs.Improvers.{walk}
use Rattle.plan_law.specs.Books.{Lowers}
use Rattle.plan_law.specs.Solving.{move_of}
use Rattle.plan_law.specs.Improving.{taken, improved_by, improved}
use Rattle.plan_law.proofs.Proved.{walks_lower}
use Rattle.plan_moves.proofs.Walked.{words_more, words_none}

-- ---- the words of a Pcg32
pcg_more : (n : ℕ) (g : Lcg) → first_words pcg32 (suc n) g ≡ (pcg32 g).0 ∷ first_words pcg32 n (pcg32 g).1
unfolding first_words
pcg_more n g = refl

pcg_none : (g : Lcg) → first_words pcg32 0 g ≡ []
unfolding first_words
pcg_none g = refl

pub pcg_words : (n : ℕ) (g : Lcg) → first_words next_u32 n (stream_of (steps_u32 pcg32) g) ≡ first_words pcg32 n g
pcg_words zero g = words_none (stream_of (steps_u32 pcg32) g) ∙ sym (pcg_none g)
pcg_words (suc n) g =
    words_more n (stream_of (steps_u32 pcg32) g) ∙ (ap (λ p. p.0 ∷ first_words next_u32 n p.1) (next_u32-stream_of (steps_u32 pcg32) g) ∙ (ap (λ ws. (pcg32 g).0 ∷ ws) (pcg_words n (pcg32 g).1) ∙ sym (pcg_more n g)))

-- ---- one improver more
module _ (words : ℕ → List ℕ) (points : List Point) (inputs : List (List Edge)) (plan : Plan) where
  abbrev pub Begun : ℕ → Plan → Type 0
  Begun p now = (n : ℕ) → improved words points inputs (p + n) 0 plan ≡ improved words points inputs n p now

  pub improves_on : (p : ℕ) (now next : Plan) → Begun p now → next ≡ improved_by words points inputs p now → Begun (p + 1) next
  improves_on p now next r e n =
      ap (λ m. improved words points inputs m 0 plan) same ∙ (r (suc n) ∙ ap₂ (λ q l. improved words points inputs n q l) then (sym e))
    where
      same : p + 1 + n ≡ p + suc n
      same = omega arith

      then : suc p ≡ p + 1
      then = omega arith

  pub stands : (p : ℕ) (now : Plan) → Begun p now → now ≡ improved words points inputs p 0 plan
  stands p now r = sym (ap (λ m. improved words points inputs m 0 plan) same ∙ r 0)
    where
      same : p ≡ p + 0
      same = omega arith

-- ---- the answers of walks
pub better_walk : (points : List Point) (inputs : List (List Edge)) (plan next : Plan) (p : ℕ) (es : List Edge) (r : Option (List Edge)) → r ≡ Some es → followed_all points plan es ≡ Some next → next ≡ taken points inputs plan (move_of p r)
better_walk points inputs plan next p es r e f = sym (ap (λ r. taken points inputs plan (move_of p r)) e ∙ ap (λ q. unwrap_or q plan) f)

pub no_walk : (points : List Point) (inputs : List (List Edge)) (plan : Plan) (p : ℕ) (r : Option (List Edge)) → r ≡ None → plan ≡ taken points inputs plan (move_of p r)
no_walk points inputs plan p r e = sym (ap (λ r. taken points inputs plan (move_of p r)) e)

pub can_follow : (points : List Point) (plan : Plan) (words : List ℕ) (es : List Edge) → walk points plan words ≡ Some es → (next : Plan) × (followed_all points plan es ≡ Some next)
can_follow points plan words es e = by_lowers (walks_lower points plan words es e)
  where
    by_lowers : Lowers plan (followed_all points plan es) → (next : Plan) × (followed_all points plan es ≡ Some next)
    by_lowers (next, i, l) = (next, i)
