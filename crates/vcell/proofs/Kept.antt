-- Each step keeps the rule of the lock.
use Rattle.std.proofs.Common.{◌≡◌, ◌≢◌, ℕ, ◌+◌, ◌-◌, ◌%◌, ◌^◌, ◌<◌, ◌≤◌, Bool, true, false, cond, List, [], ◌∷◌, ◌++◌, length, map, get_or, set, sym, refl, ap, ◌∙◌, subst, arith, All, Option, Some, None}
use Rattle.std.specs.Prelude.{nat_lt, ◌==◌}
use Rattle.std.proofs.lemmas.Bool.Decides.{nat_tests}
use Rattle.std.proofs.lemmas.List.Elements.{All-append, All-nil, All-push}
use Rattle.std.proofs.lemmas.List.Sums.{sum_by_push}
use mathlib.Core.Logic.{dite}
use mathlib.Core.Option.{none, some}
use mathlib.Core.Option as maybe
use mathlib.Core.List.{IsPrefix}
use native.Mathlib.Decide.{ℕ_discrete}
use lib.ListN.{get_elem?}
use Rattle.atomic_table.specs.Table.{State, Me, step, keeps, takes, gives, stepped, homes_after, rest, Allows, Splits, Joins, opening}
use Rattle.atomic_table.proofs.Lists.{set_else, set_again, one_turn}
use Rattle.vcell.specs.declared.lock_rule.Stage.{Stage}
use Rattle.vcell.specs.declared.lock_rule.Stage.TheVariants.{Idle, Waits, Found, Raised}
use Rattle.vcell.specs.declared.lock_rule.View.{View}
use Rattle.vcell.specs.declared.lock_rule.Origin.{Origin}
use Rattle.vcell.specs.Steps.{tickets, holds, past, slot, listed, first_view, spent, without_one_seat, of_one_seat, at_stage, is_out, longer, of_both, Older, OlderIf, IsTurnOf, Fits, Keeps, DrawsTicket, LoadsServing, RaisesCount, RaisesServing, found_in}
use Rattle.vcell.specs.Passes.{LockView, HeldView}
use Rattle.vcell.proofs.Prefixes.{prefix_self, prefix_trans, prefix_length}
use Rattle.seat_list.proofs.Sums.{sum_by_exchange, sum_by_item, sum_by_two, sum_by_lone, sum_by_below, sum_by_gap}
use Rattle.seat_list.proofs.Views.{each_set, each_snoc, each_lone}

out_next : (served drawn u : ℕ) → served ≤ drawn → is_out served drawn u + cond (drawn == u) 1 0 ≡ is_out served (drawn + 1) u
out_next served drawn u h = grind (arith, nat_tests)

out_done : (served drawn u : ℕ) → served < drawn → is_out (served + 1) drawn u + cond (served == u) 1 0 ≡ is_out served drawn u
out_done served drawn u h = grind (arith, nat_tests)

out_one : (served drawn u : ℕ) → 1 ≤ is_out served drawn u → (served ≤ u) × (u < drawn)
out_one served drawn u h = (grind (arith, nat_tests), grind (arith, nat_tests))

out_most : (served drawn u : ℕ) → is_out served drawn u ≤ 1
out_most served drawn u = grind (arith, nat_tests)

itself : (t : ℕ) → ◌≡◌ {A = ℕ} (cond (t == t) 1 0) 1
itself t = grind (arith, nat_tests)

module _ {X E G : Type 0} (entries : X → List E) (ground : X → G) where
  abbrev V : Type 0
  V = View X

  abbrev St : Type 0
  St = State (Option X) V

  abbrev M : Type 0
  M = Me (Option X) V

  abbrev Rule : Origin X → St → Type 0
  Rule = Keeps entries ground

  -- what the rule adds up over the views
  abbrev seats_in : V → ℕ
  seats_in v = v.seats

  abbrev made_in : V → ℕ
  made_in v = v.made

  abbrev tickets_in : V → ℕ
  tickets_in v = tickets v.stage

  abbrev past_in : V → ℕ
  past_in v = past v.stage

  abbrev held_in : ℕ → V → ℕ
  held_in u v = holds u v.stage

  -- the value in hand, or d
  abbrev in_hand : X → List (ℕ × Option X) → X
  in_hand d [] = d
  in_hand d (c ∷ cs) = value_or d c.1
    where
      value_or : X → Option X → X
      value_or d None = d
      value_or d (Some x) = x

  older_self : (x : X) → Older entries ground x x
  older_self x = (prefix_self (entries x), refl)

  older_trans : (x y z : X) → Older entries ground y x → Older entries ground z y → Older entries ground z x
  older_trans x y z p q = (prefix_trans (entries x) (entries y) (entries z) p.0 q.0, p.1 ∙ q.1)

  older_if : (y z : X) (o : Option X) → OlderIf entries ground y o → Older entries ground z y → OlderIf entries ground z o
  older_if y z None p q = tt
  older_if y z (Some x) p q = older_trans x y z p q

  -- a view whose turn hasn't come, where another changes the value
  still : (served served' : ℕ) (now now' : X) → Older entries ground now' now → (last : Option X) (stage : Stage X) → past stage ≡ 0 → IsTurnOf entries ground served' now' last stage
  still served served' now now' older last Idle h = tt
  still served served' now now' older last (Waits t) h = tt
  still served served' now now' older last (Found t y) h = absurd (omega arith)
  still served served' now now' older last (Raised t y) h = absurd (omega arith)

  moves : (served served' : ℕ) (now now' : X) → Older entries ground now' now → (v : V) → past v.stage ≡ 0 → Fits entries ground served now v → Fits entries ground served' now' v
  moves served served' now now' older v out f = record {
    spent = f.spent;
    seen = older_if now now' v.last f.seen older;
    old = λ k d lt. older_trans (get_or v.olds k d) now now' (f.old k d lt) older;
    turn = still served served' now now' older v.last v.stage out;
  }

  -- whose turn has come holds the ticket that is served
  past_holds : (served : ℕ) (now : X) (last : Option X) (stage : Stage X) → IsTurnOf entries ground served now last stage → past stage ≤ holds served stage
  past_holds served now last Idle h = omega arith
  past_holds served now last (Waits t) h = omega arith
  past_holds served now last (Found t y) h =
      let e = itself served in let f : ◌≡◌ {A = ℕ} (cond (t == served) 1 0) (cond (served == served) 1 0) = ap (λ (u : ℕ). cond (u == served) 1 0) h.0 in omega arith
  past_holds served now last (Raised t y) h =
      let e = itself served in let f : ◌≡◌ {A = ℕ} (cond (t == served) 1 0) (cond (served == served) 1 0) = ap (λ (u : ℕ). cond (u == served) 1 0) h.0 in omega arith

  tickets_most : (stage : Stage X) → tickets stage ≤ 1
  tickets_most Idle = omega arith
  tickets_most (Waits t) = omega arith
  tickets_most (Found t y) = omega arith
  tickets_most (Raised t y) = omega arith

  -- no more tickets are out than there are seats
  few_out : (k : Origin X) (s : St) (r : Rule k s) → r.drawn ≤ r.served + 16
  few_out k s r = let out = r.out in let seats = r.seats in let few = r.few in
      let below = sum_by_below tickets_in seats_in s.views (λ i v e. let m = tickets_most v.stage in let sp = (r.each i v e).spent in dite (ℕ_discrete v.seats 0) (λ z. let t = (sp z).1 in omega arith) (λ n. omega arith)) in omega arith

  pub starts : (k : Origin X) (x : X) (n : ℕ) (xs : List (Option X)) → k.start.value ≡ x → n ≡ length (entries x) → xs ≡ Some x ∷ [] → 0 < k.seats → k.seats ≤ 16
      → Rule k (opening (0 ∷ 0 ∷ n ∷ []) xs (first_view k.start.value k.seats))
  starts k x n xs is count slots low high = let v : X = k.start.value in record {
    drawn = 0;
    served = 0;
    away = 0;
    now = v;
    words = ap (λ (a : ℕ). 0 ∷ 0 ∷ a ∷ []) (count ∙ ap (λ (z : X). length (entries z)) (sym is));
    homes = ap (map some) slots ∙ ap (λ (z : X). some (Some z) ∷ []) (sym is);
    gone = (refl, omega arith);
    few = high;
    seats = omega arith;
    out = refl;
    each_out = λ u. grind (arith, nat_tests);
    made = omega arith;
    grounded = refl;
    each = each_lone (Fits entries ground 0 v) (first_view v k.seats) record { spent = λ z. (refl, refl); seen = older_self v; old = λ j d lt. absurd (omega arith); turn = tt };
  }

  pub draws : (k : Origin X) (slots id : ℕ) (me : M) → 0 < me.0.seats → me.0.stage ≡ Idle → Allows (Rule k) slots id me 0 (λ n. (n + 1) % 2 ^ 64) (DrawsTicket (step slots 0 1 0 none) me)
  draws k slots id me one is s r _ at fits = let w : V = at_stage me.0 (Waits r.drawn) in let f = r.each id me.0 at in let outs = r.out in
      let none_held : (u : ℕ) → holds u me.0.stage ≡ 0 = λ u. ap (holds u) is in let no_ticket : tickets me.0.stage ≡ 0 = ap tickets is in let not_past : past me.0.stage ≡ 0 = ap past is in
      let next : (r.drawn % 18446744073709551616 + 1) % 18446744073709551616 ≡ (r.drawn + 1) % 18446744073709551616 = omega arith in (
        w,
        keeps,
        tt,
        record {
          drawn = r.drawn + 1;
          served = r.served;
          away = r.away;
          now = r.now;
          words = ap (λ (ws : List ℕ). set ws 0 ((get_or ws 0 0 + 1) % 18446744073709551616)) r.words ∙ ap (λ (a : ℕ). a ∷ r.served % 18446744073709551616 ∷ length (entries r.now) ∷ []) next;
          homes = r.homes;
          gone = (let h = sum_by_exchange past_in s.views id me.0 w at in let p = r.gone.0 in omega arith, r.gone.1);
          few = r.few;
          seats = let h = sum_by_exchange seats_in s.views id me.0 w at in let p = r.seats in omega arith;
          out = let h = sum_by_exchange tickets_in s.views id me.0 w at in let p = r.out in omega arith;
          each_out = λ u. let h = sum_by_exchange (held_in u) s.views id me.0 w at in let p = r.each_out u in let z = none_held u in let o = out_next r.served r.drawn u (omega arith) in omega arith;
          made = let h = sum_by_exchange made_in s.views id me.0 w at in let p = r.made in omega arith;
          grounded = r.grounded;
          each = each_set (Fits entries ground r.served r.now) s.views id w record { spent = λ z. absurd (omega arith); seen = f.seen; old = f.old; turn = tt } (λ j v _. r.each j v);
        },
        (r.drawn, ap (λ (ws : List ℕ). get_or ws 0 0) r.words, refl, refl),
      )

  -- the seat whose ticket is served finds the value at home
  at_home : (k : Origin X) (s : St) (r : Rule k s) (id : ℕ) (v : V) → get_elem? s.views id ≡ some v → v.stage ≡ Waits r.served → r.away ≡ 0
  at_home k s r id v at is = let g = r.gone in let g₀ = g.0 in let e = r.each_out r.served in let most = out_most r.served r.drawn r.served in
      let gap = sum_by_gap past_in (held_in r.served) s.views id v at (λ j w e. past_holds r.served r.now w.last w.stage (r.each j w e).turn) in
      let a : past v.stage ≡ 0 = ap past is in let b : ◌≡◌ {A = ℕ} (holds r.served v.stage) (cond (r.served == r.served) 1 0) = ap (holds r.served) is in let c = itself r.served in omega arith

  -- a step that changes nothing
  unmoved : (k : Origin X) (s : St) (r : Rule k s) (id : ℕ) (me : M) → get_elem? s.views id ≡ some me.0 → Rule k (stepped s 1 (get_or s.words 1 0) id me.1 me.0 keeps)
  unmoved k s r id me at = let ew : set s.words 1 (get_or s.words 1 0) ≡ s.words = ap (λ (ws : List ℕ). set ws 1 (get_or ws 1 0)) r.words ∙ sym r.words in let ev = set_again s.views id me.0 at in
      subst (λ (z : List ℕ × List V). Rule k record { words = z.0; homes = s.homes; views = z.1 }) (λ i. (sym ew i, sym ev i)) r

  pub polls : (k : Origin X) (slots id : ℕ) (me : M) (t : ℕ) → me.0.stage ≡ Waits t → Allows (Rule k) slots id me 1 (λ n. n) (LoadsServing entries ground (step slots 1 0 0 none) me)
  polls k slots id me t is s r _ at fits = let n : ℕ = get_or s.words 1 0 in let found : n ≡ r.served % 18446744073709551616 = ap (λ (ws : List ℕ). get_or ws 1 0) r.words in let f = r.each id me.0 at in
      dite (ℕ_discrete n (t % 18446744073709551616))
      (λ hit. let mine : holds t me.0.stage ≡ 1 = ap (holds t) is ∙ itself t in let there = sum_by_item (held_in t) s.views id me.0 at in let e = r.each_out t in
      let between = out_one r.served r.drawn t (omega arith) in let low = between.0 in let high = between.1 in let few = few_out k s r in
      let same : r.served ≡ t = one_turn r.served t 18446744073709551616 low (omega arith) (sym found ∙ hit) in
      let here : r.away ≡ 0 = at_home k s r id me.0 at (is ∙ ap (λ (u : ℕ). let st : Stage X = Waits u in st) (sym same)) in
      let home : s.homes ≡ some (Some r.now) ∷ [] = r.homes ∙ ap (λ (a : ℕ). slot a r.now ∷ []) here in
      let w : V = at_stage me.0 (Found t r.now) in let ticket : tickets me.0.stage ≡ 1 = ap tickets is in let not_past : past me.0.stage ≡ 0 = ap past is in (
        w,
        takes 0 (Some r.now),
        ap (λ (hs : List (maybe.Option (Option X))). get_elem? hs 0) home,
        record {
          drawn = r.drawn;
          served = r.served;
          away = 1;
          now = r.now;
          words = ap (λ (ws : List ℕ). set ws 1 (get_or ws 1 0)) r.words;
          homes = ap (λ (hs : List (maybe.Option (Option X))). set hs 0 none) home;
          gone = (let h = sum_by_exchange past_in s.views id me.0 w at in let p = r.gone.0 in omega arith, omega arith);
          few = r.few;
          seats = let h = sum_by_exchange seats_in s.views id me.0 w at in let p = r.seats in omega arith;
          out = let h = sum_by_exchange tickets_in s.views id me.0 w at in let p = r.out in omega arith;
          each_out = λ u. let h = sum_by_exchange (held_in u) s.views id me.0 w at in let p = r.each_out u in let z : holds u me.0.stage ≡ cond (t == u) 1 0 = ap (holds u) is in omega arith;
          made = let h = sum_by_exchange made_in s.views id me.0 w at in let p = r.made in omega arith;
          grounded = r.grounded;
          each = each_set (Fits entries ground r.served r.now) s.views id w record { spent = λ z. (let q = (f.spent z).1 in absurd (omega arith)); seen = f.seen; old = f.old; turn = (sym same, refl) } (λ j v _. r.each j v);
        },
        λ t' is'. let e : t' ≡ t = cc (is, is') in (
          (λ _. (r.now, ap (λ (u : ℕ). at_stage me.0 (Found u r.now)) (sym e), refl, f.seen)),
          λ miss. absurd (miss (hit ∙ ap (λ (u : ℕ). u % 18446744073709551616) (sym e))),
        ),
      ))
      (λ miss. (me.0, keeps, tt, unmoved k s r id me at, λ t' is'. let e : t' ≡ t = cc (is, is') in ((λ hit. absurd (miss (hit ∙ ap (λ (u : ℕ). u % 18446744073709551616) e))), λ _. refl)))

  -- whose turn has come is alone in that
  alone : (k : Origin X) (s : St) (r : Rule k s) (id : ℕ) (v : V) → get_elem? s.views id ≡ some v → past v.stage ≡ 1 → (r.away ≡ 1) × ((j : ℕ) (w : V) → j ≢ id → get_elem? s.views j ≡ some w → past w.stage ≡ 0)
  alone k s r id v at is = let g = r.gone in let g₀ = g.0 in let g₁ = g.1 in
      (let h = sum_by_item past_in s.views id v at in omega arith, λ j w other e. let h = sum_by_two past_in s.views j id w v e at other in omega arith)

  pub raises : (k : Origin X) (slots id : ℕ) (me : M) (t : ℕ) (x y : X) (more : ℕ) → me.0.stage ≡ Found t y → me.1 ≡ (0, Some x) ∷ [] → Older entries ground x y → length (entries x) < 2 ^ 64
      → more ≡ length (entries x) - length (entries y) → Allows (Rule k) slots id me 2 (λ n. (n + more) % 2 ^ 64) (RaisesCount entries (step slots 2 more 0 none) me)
  raises k slots id me t x y more is held older small grown s r _ at fits = let f = r.each id me.0 at in
      let turn : IsTurnOf entries ground r.served r.now me.0.last (Found t y) = subst (IsTurnOf entries ground r.served r.now me.0.last) is f.turn in
      let has : past me.0.stage ≡ 1 = ap past is in let lone = alone k s r id me.0 at has in let ticket : tickets me.0.stage ≡ 1 = ap tickets is in
      let older' : Older entries ground x r.now = subst (Older entries ground x) turn.1 older in let le = prefix_length (entries y) (entries x) older.0 in
      let len : length (entries y) ≡ length (entries r.now) = ap (λ (z : X). length (entries z)) turn.1 in
      let n : ℕ = get_or s.words 2 0 in let found : n ≡ length (entries r.now) = ap (λ (ws : List ℕ). get_or ws 2 0) r.words in let grow : ℕ = length (entries x) - length (entries y) in
      let next : (n + more) % 18446744073709551616 ≡ length (entries x) = omega arith in
      let w : V = record { seats = me.0.seats; made = me.0.made + grow; last = Some x; olds = me.0.olds; stage = Raised t y } in (
        w,
        keeps,
        tt,
        record {
          drawn = r.drawn;
          served = r.served;
          away = 1;
          now = x;
          words = ap (λ (ws : List ℕ). set ws 2 ((n + more) % 18446744073709551616)) r.words ∙ ap (λ (a : ℕ). r.drawn % 18446744073709551616 ∷ r.served % 18446744073709551616 ∷ a ∷ []) next;
          homes = r.homes ∙ ap (λ (a : ℕ). slot a r.now ∷ []) lone.0;
          gone = (let h = sum_by_exchange past_in s.views id me.0 w at in let p = r.gone.0 in let a = lone.0 in omega arith, omega arith);
          few = r.few;
          seats = let h = sum_by_exchange seats_in s.views id me.0 w at in let p = r.seats in omega arith;
          out = let h = sum_by_exchange tickets_in s.views id me.0 w at in let p = r.out in omega arith;
          each_out = λ u. let h = sum_by_exchange (held_in u) s.views id me.0 w at in let p = r.each_out u in let z : holds u me.0.stage ≡ cond (t == u) 1 0 = ap (holds u) is in omega arith;
          made = let h = sum_by_exchange made_in s.views id me.0 w at in let p = r.made in omega arith;
          grounded = sym older'.1 ∙ r.grounded;
          each = each_set (Fits entries ground r.served x) s.views id w
              record { spent = λ z. (let q = (f.spent z).1 in absurd (omega arith)); seen = older_self x; old = λ j d lt. older_trans (get_or me.0.olds j d) r.now x (f.old j d lt) older'; turn = (turn.0, refl, older.0) }
              (λ j v other e. moves r.served r.served r.now x older' v (lone.1 j v other e) (r.each j v e));
        },
        λ x' y' t' held' is'. let ex : x ≡ x' = ap (in_hand x) (sym held ∙ held') in let ey : y ≡ y' = cc (is, is') in let et : t ≡ t' = cc (is, is') in
            (λ i. record { seats = me.0.seats; made = me.0.made + (length (entries (ex i)) - length (entries (ey i))); last = Some (ex i); olds = me.0.olds; stage = Raised (et i) (ey i) }, refl),
      )

  pub releases : (k : Origin X) (slots id : ℕ) (me : M) (t : ℕ) (x y : X) → me.0.stage ≡ Raised t y → me.0.last ≡ Some x → me.1 ≡ (0, Some x) ∷ []
      → Allows (Rule k) slots id me 1 (λ n. (n + 1) % 2 ^ 64) (RaisesServing (step slots 1 1 0 none) me)
  releases k slots id me t x y is last held s r _ at fits = let f = r.each id me.0 at in
      let turn : IsTurnOf entries ground r.served r.now me.0.last (Raised t y) = subst (IsTurnOf entries ground r.served r.now me.0.last) is f.turn in
      let has : past me.0.stage ≡ 1 = ap past is in let lone = alone k s r id me.0 at has in let ticket : tickets me.0.stage ≡ 1 = ap tickets is in
      let mine : x ≡ r.now = cc (last, turn.1) in let empty : s.homes ≡ none ∷ [] = r.homes ∙ ap (λ (a : ℕ). slot a r.now ∷ []) lone.0 in
      let some_out = sum_by_item tickets_in s.views id me.0 at in let out = r.out in
      let next : (r.served % 18446744073709551616 + 1) % 18446744073709551616 ≡ (r.served + 1) % 18446744073709551616 = omega arith in
      let back : homes_after s.homes me.1 gives ≡ some (Some x) ∷ [] = λ i. homes_after (empty i) (held i) gives in
      let w : V = at_stage me.0 Idle in (
        w,
        gives,
        tt,
        record {
          drawn = r.drawn;
          served = r.served + 1;
          away = 0;
          now = r.now;
          words = ap (λ (ws : List ℕ). set ws 1 ((get_or ws 1 0 + 1) % 18446744073709551616)) r.words ∙ ap (λ (a : ℕ). r.drawn % 18446744073709551616 ∷ a ∷ length (entries r.now) ∷ []) next;
          homes = back ∙ ap (λ (z : X). some (Some z) ∷ []) mine;
          gone = (let h = sum_by_exchange past_in s.views id me.0 w at in let p = r.gone.0 in let a = lone.0 in omega arith, omega arith);
          few = r.few;
          seats = let h = sum_by_exchange seats_in s.views id me.0 w at in let p = r.seats in omega arith;
          out = let h = sum_by_exchange tickets_in s.views id me.0 w at in omega arith;
          each_out = λ u. let h = sum_by_exchange (held_in u) s.views id me.0 w at in let p = r.each_out u in let z : holds u me.0.stage ≡ cond (t == u) 1 0 = ap (holds u) is in
              let y : ◌≡◌ {A = ℕ} (cond (t == u) 1 0) (cond (r.served == u) 1 0) = ap (λ (q : ℕ). cond (q == u) 1 0) turn.0 in let d = out_done r.served r.drawn u (omega arith) in omega arith;
          made = let h = sum_by_exchange made_in s.views id me.0 w at in let p = r.made in omega arith;
          grounded = r.grounded;
          each = each_set (Fits entries ground (r.served + 1) r.now) s.views id w
              record { spent = λ z. (let q = (f.spent z).1 in absurd (omega arith)); seen = f.seen; old = f.old; turn = tt }
              (λ j v other e. moves r.served (r.served + 1) r.now r.now (older_self r.now) v (lone.1 j v other e) (r.each j v e));
        },
        (refl, ap rest held),
      )

  pub splits : (k : Origin X) (id : ℕ) (v : V) → 1 < v.seats → v.stage ≡ Idle → Splits (Rule k) id v (without_one_seat v) (of_one_seat v)
  splits k id v many is s r at = let l : V = without_one_seat v in let g : V = of_one_seat v in let vs : List V = set s.views id l in let f = r.each id v at in
      let none_held : (u : ℕ) → holds u v.stage ≡ 0 = λ u. ap (holds u) is in let no_ticket : tickets v.stage ≡ 0 = ap tickets is in let not_past : past v.stage ≡ 0 = ap past is in record {
        drawn = r.drawn;
        served = r.served;
        away = r.away;
        now = r.now;
        words = r.words;
        homes = r.homes;
        gone = (let h = sum_by_exchange past_in s.views id v l at in let h' = sum_by_push past_in vs g in let p = r.gone.0 in omega arith, r.gone.1);
        few = r.few;
        seats = let h = sum_by_exchange seats_in s.views id v l at in let h' = sum_by_push seats_in vs g in let p = r.seats in omega arith;
        out = let h = sum_by_exchange tickets_in s.views id v l at in let h' = sum_by_push tickets_in vs g in let p = r.out in omega arith;
        each_out = λ u. let h = sum_by_exchange (held_in u) s.views id v l at in let h' = sum_by_push (held_in u) vs g in let p = r.each_out u in omega arith;
        made = let h = sum_by_exchange made_in s.views id v l at in let h' = sum_by_push made_in vs g in let p = r.made in omega arith;
        grounded = r.grounded;
        each = each_snoc (Fits entries ground r.served r.now) vs g record { spent = λ z. (refl, refl); seen = f.seen; old = All-nil (Older entries ground r.now); turn = tt }
            (each_set (Fits entries ground r.served r.now) s.views id l record { spent = λ z. absurd (omega arith); seen = f.seen; old = f.old; turn = f.turn } (λ j w _. r.each j w));
      }

  one_of : (now : X) (b : Bool) (o o' : Option X) → OlderIf entries ground now o → OlderIf entries ground now o' → OlderIf entries ground now (cond b o o')
  one_of now true o o' h h' = h
  one_of now false o o' h h' = h'

  longer_ok : (now : X) (o o' : Option X) → OlderIf entries ground now o → OlderIf entries ground now o' → OlderIf entries ground now (longer entries o o')
  longer_ok now None o' h h' = h'
  longer_ok now (Some x) None h h' = h
  longer_ok now (Some x) (Some y) h h' = one_of now (nat_lt (length (entries x)) (length (entries y))) (Some y) (Some x) h' h

  pub listed_ok : (now : X) (o : Option X) → OlderIf entries ground now o → All (Older entries ground now) (listed o)
  listed_ok now None h = All-nil (Older entries ground now)
  listed_ok now (Some x) h = All-push (Older entries ground now) [] x (All-nil (Older entries ground now)) h

  pub joins : (k : Origin X) (id : ℕ) (v : V) (other : ℕ) (w : V) → v.stage ≡ Idle → w.stage ≡ Idle → Joins (Rule k) id v other w (of_both entries v w) spent
  joins k id v other w is is' s r at apart there = let b : V = of_both entries v w in let e : V = spent in let vs : List V = set s.views id b in let was : get_elem? s.views other ≡ some w = sym (set_else s.views id other b apart) ∙ there in
      let f = r.each id v at in let f' = r.each other w was in let P : X → Type 0 = Older entries ground r.now in
      let none_held : (u : ℕ) → holds u w.stage ≡ 0 = λ u. ap (holds u) is' in let no_ticket : tickets w.stage ≡ 0 = ap tickets is' in let not_past : past w.stage ≡ 0 = ap past is' in let no_ticket' : tickets v.stage ≡ 0 = ap tickets is in record {
        drawn = r.drawn;
        served = r.served;
        away = r.away;
        now = r.now;
        words = r.words;
        homes = r.homes;
        gone = (let h = sum_by_exchange past_in s.views id v b at in let h' = sum_by_exchange past_in vs other w e there in let p = r.gone.0 in omega arith, r.gone.1);
        few = r.few;
        seats = let h = sum_by_exchange seats_in s.views id v b at in let h' = sum_by_exchange seats_in vs other w e there in let p = r.seats in omega arith;
        out = let h = sum_by_exchange tickets_in s.views id v b at in let h' = sum_by_exchange tickets_in vs other w e there in let p = r.out in omega arith;
        each_out = λ u. let h = sum_by_exchange (held_in u) s.views id v b at in let h' = sum_by_exchange (held_in u) vs other w e there in let p = r.each_out u in let z = none_held u in omega arith;
        made = let h = sum_by_exchange made_in s.views id v b at in let h' = sum_by_exchange made_in vs other w e there in let p = r.made in omega arith;
        grounded = r.grounded;
        each = each_set (Fits entries ground r.served r.now) vs other e record { spent = λ z. (refl, refl); seen = tt; old = All-nil P; turn = tt }
            (λ j u _ p. each_set (Fits entries ground r.served r.now) s.views id b record {
              spent = λ z. (let q = (f.spent (omega arith)).0 in let q' = (f'.spent (omega arith)).0 in omega arith, no_ticket');
              seen = longer_ok r.now v.last w.last f.seen f'.seen;
              old = All-append P (v.olds ++ w.olds) (listed v.last ++ listed w.last) (All-append P v.olds w.olds f.old f'.old) (All-append P (listed v.last) (listed w.last) (listed_ok r.now v.last f.seen) (listed_ok r.now w.last f'.seen));
              turn = subst (IsTurnOf entries ground r.served r.now (longer entries v.last w.last)) (sym is) tt;
            } (λ j w _. r.each j w) j u p);
      }

  -- what the holder has to show, as the step asks it
  pub grown_from : (stage : Stage X) (t : ℕ) (y x : X) (lock : LockView G) (h : HeldView X E G) → stage ≡ Found t y → found_in entries stage ≡ h.found → lock ≡ h.lock → x ≡ h.value → ground y ≡ lock.ground
      → ground h.value ≡ h.lock.ground → IsPrefix h.found (entries h.value) → Older entries ground x y
  grown_from stage t y x lock h is found same_lock same kept now grown = let e : h.found ≡ entries y = sym found ∙ ap (found_in entries) is in let P : List E × X → Type 0 = λ z. IsPrefix z.0 (entries z.1) in
      (subst P (λ i. (e i, sym same i)) grown, kept ∙ (ap (λ (l : LockView G). l.ground) same_lock ∙ (sym now ∙ ap ground (sym same))))

  -- what who stands for all seats knows at the end
  pub last_one : (k : Origin X) (s : St) (id : ℕ) (v : V) → Rule k s → get_elem? s.views id ≡ some v → v.seats ≡ k.seats → v.stage ≡ Idle
      → (now : X) × (s.homes ≡ some (Some now) ∷ []) × (ground now ≡ ground k.start.value) × OlderIf entries ground now v.last × All (Older entries ground now) v.olds × (length (entries now) ≡ length (entries k.start.value) + v.made)
  last_one k s id v r at all is =
      let spent_one : (j : ℕ) (w : V) → j ≢ id → get_elem? s.views j ≡ some w → w.seats ≡ 0 = λ j w other e. (let two = sum_by_two seats_in s.views j id w v e at other in let p = r.seats in omega arith) in
      let lone = sum_by_lone made_in s.views id v at (λ j w other e. ((r.each j w e).spent (spent_one j w other e)).0) in
      let idle = sum_by_lone past_in s.views id v at (λ j w other e. unpast w.stage ((r.each j w e).spent (spent_one j w other e)).1) in
      let not_past : past v.stage ≡ 0 = ap past is in let g = r.gone.0 in let here : r.away ≡ 0 = omega arith in let f = r.each id v at in
      (r.now, r.homes ∙ ap (λ (a : ℕ). slot a r.now ∷ []) here, r.grounded, f.seen, f.old, (let m = r.made in omega arith))
    where
      unpast : (stage : Stage X) → tickets stage ≡ 0 → past stage ≡ 0
      unpast Idle h = refl
      unpast (Waits t) h = refl
      unpast (Found t y) h = absurd (omega arith)
      unpast (Raised t y) h = absurd (omega arith)
