-- A walk, move by move.
use Rattle.std.proofs.Common.{◌≡◌, ◌≢◌, ◌∙◌, ℕ, zero, suc, ◌+◌, ◌-◌, ◌<◌, ◌≤◌, ◌%◌, Bool, true, false, cond, Option, Some, None, List, [], ◌∷◌, ◌++◌, length, map, get_or, slice_get, Contains, refl, sym, ap, subst, subst₂, arith, lt-ltb, le-ltb}
use Rattle.std.specs.Prelude.{nat_lt}
use Rattle.std.proofs.lemmas.List.{take_all, length-append, length-map}
use Rattle.std.proofs.Math.Nat.{mod-lt}
use Rattle.std.proofs.lemmas.Option.{get_or_from_slice_get}
use native.Mathlib.Decide.{dec_lt}
use Rattle.rand_core.specs.Stream.{Stream, next_u32}
use Rattle.rand_core.specs.Steps.{first_words}
use Rattle.geo_orient.specs.declared.Point.{Point}
use Rattle.edge_table.specs.declared.edge.Edge.{Edge}
use Rattle.plan_law.specs.Plans.{Plan, IsPlanOf, plan_total, followed_all, moves}
use Rattle.plan_law.specs.Improvers.{picked, walk_from, walk}
use Rattle.plan_moves.specs.Draws.{left_after, Draws}
use Rattle.tri_check.specs.Problems.{IsProblem}
use Rattle.replay.proofs.Unique.{found_in}
use Rattle.plan_law.proofs.Proved.{moves_are_made}
use Rattle.plan_moves.specs.Ways.{Follows, Walks}
use Rattle.plan_moves.proofs.Lowered.{instance_of, there}

-- ---- words
pub words_more : (n : ℕ) (s : Stream) → first_words next_u32 (suc n) s ≡ (next_u32 s).0 ∷ first_words next_u32 n (next_u32 s).1
unfolding first_words
words_more n s = refl

pub words_none : (s : Stream) → first_words next_u32 0 s ≡ []
unfolding first_words
words_none s = refl

words_length : (n : ℕ) (s : Stream) → length (first_words next_u32 n s) ≡ n
words_length zero s = ap length (words_none s)
words_length (suc n) s = ap length (words_more n s) ∙ ap suc (words_length n (next_u32 s).1)

left_more : (i : ℕ) (s : Stream) → left_after (i + 1) s ≡ (next_u32 (left_after i s)).1
left_more zero s = refl
left_more (suc i) s = let e : suc i + 1 ≡ suc (i + 1) = omega arith in ap (λ n. left_after n s) e ∙ left_more i (next_u32 s).1

-- ---- steps
pub picked_at : (moves : List (List Edge)) (word : ℕ) (move : List Edge) → slice_get moves (word % length moves) ≡ Some move → picked moves word ≡ Some move
picked_at [] word move e = absurd (cc)
picked_at (first ∷ more) word move e = ap (λ m. Some m) (get_or_from_slice_get (first ∷ more) (word % length (first ∷ more)) move [] e)

picked_listed : (list : List (List Edge)) (word : ℕ) (move : List Edge) → picked list word ≡ Some move → Contains list move
picked_listed [] word move e = absurd (cc)
picked_listed (first ∷ more) word move e =
    let m : get_or (first ∷ more) (word % length (first ∷ more)) [] ≡ move = cc in
    found_in (first ∷ more) (word % length (first ∷ more)) move (there (first ∷ more) (word % length (first ∷ more)) [] move (mod-lt word (omega arith)) m)

-- ---- the move that a word picks: one of some edges, or a later move
both_long : (es : List Edge) (more : List (List Edge)) → length (map (λ f. f ∷ []) es ++ more) ≡ length es + length more
both_long es more = length-append (map (λ f. f ∷ []) es) more ∙ ap (λ n. n + length more) (length-map es (λ f. f ∷ []))

single_at : (es : List Edge) (more : List (List Edge)) (i : ℕ) (e : Edge) → slice_get es i ≡ Some e → slice_get (map (λ f. f ∷ []) es ++ more) i ≡ Some (e ∷ [])
single_at [] more i e h = absurd (cc)
single_at (f ∷ es) more zero e h = let s : f ≡ e = cc in ap (λ g. Some (g ∷ [])) s
single_at (f ∷ es) more (suc i) e h = single_at es more i e h

later_at : (es : List Edge) (more : List (List Edge)) (i j : ℕ) (move : List Edge) → i ≡ length es + j → slice_get more j ≡ Some move → slice_get (map (λ f. f ∷ []) es ++ more) i ≡ Some move
later_at [] more i j move e h = let s : i ≡ j = omega (arith, e) in subst (λ k. slice_get more k ≡ Some move) (sym s) h
later_at (f ∷ es) more zero j move e h = absurd (omega (arith, e))
later_at (f ∷ es) more (suc i) j move e h = later_at es more i j move (omega (arith, e)) h

module _ (es : List Edge) (more : List (List Edge)) (word n place : ℕ) (l : n ≡ length es + length more) (p : place ≡ word % n) where
  same_place : place ≡ word % length (map (λ f. f ∷ []) es ++ more)
  same_place = p ∙ ap (λ m. word % m) (l ∙ sym (both_long es more))

  pub picks_single : (e : Edge) → slice_get es place ≡ Some e → Some (e ∷ []) ≡ picked (map (λ f. f ∷ []) es ++ more) word
  picks_single e h = sym (picked_at (map (λ f. f ∷ []) es ++ more) word (e ∷ []) (subst (λ k. slice_get (map (λ f. f ∷ []) es ++ more) k ≡ Some (e ∷ [])) same_place (single_at es more place e h)))

  pub picks_later : (j : ℕ) (move : List Edge) → place ≡ length es + j → slice_get more j ≡ Some move → Some move ≡ picked (map (λ f. f ∷ []) es ++ more) word
  picks_later j move e h = sym (picked_at (map (λ f. f ∷ []) es ++ more) word move (subst (λ k. slice_get (map (λ f. f ∷ []) es ++ more) k ≡ Some move) same_place (later_at es more place j move e h)))

pub picks_none : (es : List Edge) (more : List (List Edge)) (word : ℕ) → length es + length more ≡ 0 → None ≡ picked (map (λ f. f ∷ []) es ++ more) word
picks_none [] [] word e = refl
picks_none [] (move ∷ more) word e = absurd (omega (arith, e))
picks_none (f ∷ es) more word e = absurd (omega (arith, e))

-- where there is no move, no edge is one
pub no_single : (es : List Edge) (more : List (List Edge)) → map (λ f. f ∷ []) es ++ more ≡ [] → es ≡ []
no_single [] more e = refl
no_single (f ∷ es) more e = absurd (cc)

-- ---- the move is made
pub makes_move : (start points : List Point) (inputs : List (List Edge)) (plan was next : Plan) (word : ℕ) (move made edges : List Edge) (all : Bool) → IsProblem start inputs → IsPlanOf start inputs plan → Some move ≡ picked (moves start plan) word → points ≡ start → was ≡ plan
    → Follows points was move all next → edges ≡ made ++ move → Walks start plan made word true next edges
makes_move start points inputs plan was next word move made edges all I h p same kept f j =
    (move, sym p, by_made (moves_are_made start inputs plan move (instance_of start inputs I) h (picked_listed (moves start plan) word move (sym p))), j)
  where
    by_made : (end : Plan) × (followed_all start plan move ≡ Some end) → followed_all start plan move ≡ Some next
    by_made (end, i) = by_all all (subst₂ (λ ps p. Follows ps p move all next) same kept f)
      where
        by_all : (b : Bool) → Follows start plan move b next → followed_all start plan move ≡ Some next
        by_all true g = g
        by_all false g = absurd (cc)

module _ (points : List Point) (start : ℕ) where
  walk_on : (so_far move : List Edge) (plan next : Plan) (word : ℕ) (words : List ℕ) → picked (moves points plan) word ≡ Some move → followed_all points plan move ≡ Some next
      → walk_from points start so_far plan (word ∷ words) ≡ cond (nat_lt (plan_total next) start) (Some (so_far ++ move)) (walk_from points start (so_far ++ move) next words)
  walk_on so_far move plan next word words p f =
      ap (λ r. elim r as (λ _. Option (List Edge)) [
        | Some move ↦ elim (followed_all points plan move) as (λ _. Option (List Edge)) [
          | Some next ↦ cond (nat_lt (plan_total next) start) (Some (so_far ++ move)) (walk_from points start (so_far ++ move) next words)
          | None ↦ None
        ]
        | None ↦ None
      ]) p
      ∙ ap (λ r. elim r as (λ _. Option (List Edge)) [
        | Some next ↦ cond (nat_lt (plan_total next) start) (Some (so_far ++ move)) (walk_from points start (so_far ++ move) next words)
        | None ↦ None
      ]) f

  walk_nowhere : (so_far : List Edge) (plan : Plan) (words : List ℕ) → moves points plan ≡ [] → walk_from points start so_far plan words ≡ None
  walk_nowhere so_far plan [] e = refl
  walk_nowhere so_far plan (word ∷ words) e =
      ap (λ ms. elim (picked ms word) as (λ _. Option (List Edge)) [
        | Some move ↦ elim (followed_all points plan move) as (λ _. Option (List Edge)) [
          | Some next ↦ cond (nat_lt (plan_total next) start) (Some (so_far ++ move)) (walk_from points start (so_far ++ move) next words)
          | None ↦ None
        ]
        | None ↦ None
      ]) e

-- ---- a walk that has begun: so many words are drawn, and none of the prefixes of the moves made is better
pub record IsWalking (points : List Point) (plan : Plan) (before : Stream) (i : ℕ) (made : List Edge) (now : Plan) (words : Stream) : Type 0 where
  pub left : words ≡ left_after i before
  pub rest : (n : ℕ) → walk_from points (plan_total plan) [] plan (first_words next_u32 (i + n) before) ≡ walk_from points (plan_total plan) made now (first_words next_u32 n words)
  pub needed : (k : ℕ) → k < i → walk_from points (plan_total plan) [] plan (first_words next_u32 k before) ≡ None

module _ (points : List Point) (plan : Plan) (before : Stream) where
  -- a walk takes the first eight words alone
  from_words : (n : ℕ) → n ≤ 8 → walk points plan (first_words next_u32 n before) ≡ walk_from points (plan_total plan) [] plan (first_words next_u32 n before)
  from_words n l = ap (walk_from points (plan_total plan) [] plan) (take_all 8 (first_words next_u32 n before) (let e = words_length n before in omega (arith, e, l)))

  pub walking_begins : IsWalking points plan before 0 [] plan before
  walking_begins = record { left = refl; rest = λ n. ap (λ m. walk_from points (plan_total plan) [] plan (first_words next_u32 m before)) (zero_plus n); needed = λ k l. absurd (omega arith) }
    where
      zero_plus : (n : ℕ) → 0 + n ≡ n
      zero_plus n = omega arith

  module _ (i : ℕ) (made : List Edge) (now : Plan) (words : Stream) (W : IsWalking points plan before i made now words) where
    -- so many words don't make it better
    none_so_far : walk_from points (plan_total plan) [] plan (first_words next_u32 i before) ≡ None
    none_so_far = ap (λ n. walk_from points (plan_total plan) [] plan (first_words next_u32 n before)) same ∙ (W.rest 0 ∙ ap (walk_from points (plan_total plan) made now) (words_none words))
      where
        same : i ≡ i + 0
        same = omega arith

    none_fewer : (k : ℕ) → k < i + 1 → walk_from points (plan_total plan) [] plan (first_words next_u32 k before) ≡ None
    none_fewer k l = by_test (dec_lt k i)
      where
        by_test : Dec (k < i) → walk_from points (plan_total plan) [] plan (first_words next_u32 k before) ≡ None
        by_test (yes h) = W.needed k h
        by_test (no n) = let e : k ≡ i = omega arith in subst (λ m. walk_from points (plan_total plan) [] plan (first_words next_u32 m before) ≡ None) (sym e) none_so_far

    -- one more word is drawn
    module _ (word : ℕ) (words' : Stream) (d : (word, words') ≡ next_u32 words) where
      left' : words' ≡ left_after (i + 1) before
      left' = ap (λ (p : ℕ × Stream). p.1) d ∙ (ap (λ s. (next_u32 s).1) W.left ∙ sym (left_more i before))

      one_more : (n : ℕ) → first_words next_u32 (suc n) words ≡ word ∷ first_words next_u32 n words'
      one_more n = words_more n words ∙ sym (ap (λ (p : ℕ × Stream). p.0 ∷ first_words next_u32 n p.1) d)

      rest' : (n : ℕ) → walk_from points (plan_total plan) [] plan (first_words next_u32 (i + 1 + n) before) ≡ walk_from points (plan_total plan) made now (word ∷ first_words next_u32 n words')
      rest' n = ap (λ m. walk_from points (plan_total plan) [] plan (first_words next_u32 m before)) same ∙ (W.rest (suc n) ∙ ap (walk_from points (plan_total plan) made now) (one_more n))
        where
          same : i + 1 + n ≡ i + suc n
          same = omega arith

      -- which a walk needs
      pub draws : i < 8 → moves points plan ≢ [] → Draws points plan before words'
      draws l some = record { count = i + 1; most = omega arith; left = left'; needed = λ k m. from_words k (omega arith) ∙ none_fewer k m; idle = λ e. absurd (some e) }

      module _ (next : Plan) (made' : List Edge) (S : Walks points now made word true next made') where
        goes : (n : ℕ) → walk_from points (plan_total plan) [] plan (first_words next_u32 (i + 1 + n) before) ≡ cond (nat_lt (plan_total next) (plan_total plan)) (Some made') (walk_from points (plan_total plan) made' next (first_words next_u32 n words'))
        goes n = by_move S
          where
            by_move : (move : List Edge) × (picked (moves points now) word ≡ Some move) × (followed_all points now move ≡ Some next) × (made' ≡ made ++ move)
                → walk_from points (plan_total plan) [] plan (first_words next_u32 (i + 1 + n) before) ≡ cond (nat_lt (plan_total next) (plan_total plan)) (Some made') (walk_from points (plan_total plan) made' next (first_words next_u32 n words'))
            by_move (move, p, f, e) =
                rest' n ∙ (walk_on points (plan_total plan) made move now next word (first_words next_u32 n words') p f
                ∙ ap (λ es. cond (nat_lt (plan_total next) (plan_total plan)) (Some es) (walk_from points (plan_total plan) es next (first_words next_u32 n words'))) (sym e))

        pub walks_on : plan_total plan ≤ plan_total next → IsWalking points plan before (i + 1) made' next words'
        walks_on h = record {
          left = left';
          rest = λ n. goes n ∙ ap (λ v. cond v (Some made') (walk_from points (plan_total plan) made' next (first_words next_u32 n words'))) t;
          needed = none_fewer;
        }
          where
            t : nat_lt (plan_total next) (plan_total plan) ≡ false
            t = le-ltb (plan_total next) (plan_total plan) h

        pub is_better : i < 8 → plan_total next < plan_total plan → Some made' ≡ walk points plan (first_words next_u32 8 before)
        is_better l h =
            sym (from_words 8 (omega arith) ∙ (ap (λ m. walk_from points (plan_total plan) [] plan (first_words next_u32 m before)) same
            ∙ (goes (7 - i) ∙ ap (λ v. cond v (Some made') (walk_from points (plan_total plan) made' next (first_words next_u32 (7 - i) words'))) t)))
          where
            t : nat_lt (plan_total next) (plan_total plan) ≡ true
            t = lt-ltb _ _ h

            same : 8 ≡ i + 1 + (7 - i)
            same = omega arith

    -- there is no move
    pub stands_still : i ≤ 8 → moves points now ≡ [] → None ≡ walk points plan (first_words next_u32 8 before)
    stands_still l e =
        sym (from_words 8 (omega arith) ∙ (ap (λ m. walk_from points (plan_total plan) [] plan (first_words next_u32 m before)) same
        ∙ (W.rest (8 - i) ∙ walk_nowhere points (plan_total plan) made now (first_words next_u32 (8 - i) words) e)))
      where
        same : 8 ≡ i + (8 - i)
        same = omega arith

    -- all words are drawn
    pub is_done : 8 ≤ i → i ≤ 8 → None ≡ walk points plan (first_words next_u32 8 before)
    is_done l m = let e : 8 ≡ i = omega arith in sym (from_words 8 (omega arith) ∙ (ap (λ n. walk_from points (plan_total plan) [] plan (first_words next_u32 n before)) e ∙ none_so_far))

    pub drawn : i ≤ 8 → moves points plan ≢ [] → Draws points plan before words
    drawn l some = record { count = i; most = l; left = W.left; needed = λ k m. from_words k (omega arith) ∙ W.needed k m; idle = λ e. absurd (some e) }

  -- no word is drawn
  pub undrawn : Draws points plan before before
  undrawn = record { count = 0; most = omega arith; left = refl; needed = λ k l. absurd (omega arith); idle = λ e. refl }

-- what a step has done, for equal points and a known answer
pub walks_at : (ps points : List Point) (b v : Bool) (now next : Plan) (made edges : List Edge) (word : ℕ) → ps ≡ points → b ≡ v → Walks ps now made word b next edges → Walks points now made word v next edges
walks_at ps points b v now next made edges word e f S = subst₂ (λ qs u. Walks qs now made word u next edges) e f S
