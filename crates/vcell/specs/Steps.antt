-- The rule of the lock's table, which holds between any two steps, and what each step tells its seat.
use Rattle.std.specs.Prelude.{◌≡◌, ◌≢◌, ℕ, zero, suc, ◌+◌, ◌-◌, ◌%◌, ◌≤◌, cond, nat_lt, ◌==◌, List, [], ◌∷◌, ◌++◌, length, Option, Some, None, All, sum_by}
use mathlib.Core.Option.{some, none}
use mathlib.Core.Option as maybe
use mathlib.Core.List.{IsPrefix}
use lib.ListN.{get_elem?}
use Rattle.atomic_table.specs.Table.{State, Me, Step}
use Rattle.atomic_table.specs.Seated.{TableId}
use Rattle.vcell.specs.Passes.{PassView}
use Rattle.vcell.specs.declared.lock_rule.Stage.{Stage}
use Rattle.vcell.specs.declared.lock_rule.Stage.TheVariants.{Idle, Waits, Found, Raised}
use Rattle.vcell.specs.declared.lock_rule.View.{View}
use Rattle.vcell.specs.declared.lock_rule.Origin.{Origin}

module _ {X : Type 0} where
  -- how many tickets it holds
  abbrev pub tickets : Stage X → ℕ
  tickets Idle = 0
  tickets (Waits t) = 1
  tickets (Found t y) = 1
  tickets (Raised t y) = 1

  -- 1 where it holds the ticket u
  abbrev pub holds : ℕ → Stage X → ℕ
  holds u Idle = 0
  holds u (Waits t) = cond (t == u) 1 0
  holds u (Found t y) = cond (t == u) 1 0
  holds u (Raised t y) = cond (t == u) 1 0

  -- 1 where its turn has come, and it has the slot
  abbrev pub past : Stage X → ℕ
  past Idle = 0
  past (Waits t) = 0
  past (Found t y) = 1
  past (Raised t y) = 1

  -- what stands in the slot, where so many seats have it
  abbrev pub slot : ℕ → X → maybe.Option (Option X)
  slot zero x = some (Some x)
  slot (suc n) x = none

  abbrev pub at_stage : View X → Stage X → View X
  at_stage v stage = record v { stage = stage }

-- 1 where the ticket u was drawn and is not yet done
abbrev pub is_out : ℕ → ℕ → ℕ → ℕ
is_out served drawn u = cond (nat_lt u served) 0 (cond (nat_lt u drawn) 1 0)

module _ {X E G : Type 0} (entries : X → List E) (ground : X → G) where
  -- x came before y, or is y
  abbrev pub Older : X → X → Type 0
  Older y x = IsPrefix (entries x) (entries y) × (ground x ≡ ground y)

  abbrev pub OlderIf : X → Option X → Type 0
  OlderIf y None = Unit {0}
  OlderIf y (Some x) = Older y x

  -- only the ticket that is served has its turn: its view found the value as it is, or has seen it as it is
  abbrev pub IsTurnOf : ℕ → X → Option X → Stage X → Type 0
  IsTurnOf served now last Idle = Unit {0}
  IsTurnOf served now last (Waits t) = Unit {0}
  IsTurnOf served now last (Found t y) = (t ≡ served) × (y ≡ now)
  IsTurnOf served now last (Raised t y) = (t ≡ served) × (last ≡ Some now) × IsPrefix (entries y) (entries now)

  -- what holds of each view: all that it has seen or taken in is a beginning of the value as it is, with its ground
  pub record Fits (served : ℕ) (now : X) (v : View X) : Type 0 where
    pub spent : v.seats ≡ 0 → (v.made ≡ 0) × (tickets v.stage ≡ 0)
    pub seen : OlderIf now v.last
    pub old : All (Older now) v.olds
    pub turn : IsTurnOf served now v.last v.stage

  -- The rule. `now` is the value in the slot; while a seat has taken it out, it is the value as that seat found it, and then as that seat raised it.
  pub record Keeps (k : Origin X) (s : State (Option X) (View X)) : Type 0 where
    pub drawn : ℕ
    pub served : ℕ
    pub away : ℕ
    pub now : X
    -- the next ticket and the one served are counted modulo 2 ^ 64
    pub words : s.words ≡ drawn % 18446744073709551616 ∷ served % 18446744073709551616 ∷ length (entries now) ∷ []
    -- the slot is home, and has the value, exactly where no view's turn has come
    pub homes : s.homes ≡ slot away now ∷ []
    pub gone : (sum_by (λ (v : View X). past v.stage) s.views ≡ away) × (away ≤ 1)
    -- the seats for which the views stand are those of `make`
    pub few : k.seats ≤ 16
    pub seats : sum_by (λ (v : View X). v.seats) s.views ≡ k.seats
    -- the tickets from the one served to below the next one are out, and each is held by exactly one view
    pub out : served + sum_by (λ (v : View X). tickets v.stage) s.views ≡ drawn
    pub each_out : (u : ℕ) → sum_by (λ (v : View X). holds u v.stage) s.views ≡ is_out served drawn u
    -- the entries are those of the start and those that the views made
    pub made : length (entries now) ≡ length (entries k.start.value) + sum_by (λ (v : View X). v.made) s.views
    pub grounded : ground now ≡ ground k.start.value
    pub each : (seat : ℕ) (v : View X) → get_elem? s.views seat ≡ some v → Fits served now v

module _ {X : Type 0} where
  -- the first seat stands for all, and has seen the value
  abbrev pub first_view : X → ℕ → View X
  first_view x seats = record { seats = seats; made = 0; last = Some x; olds = []; stage = Idle }

  -- a split leaves a seat with one seat less, and the new one has seen what it had seen
  abbrev pub without_one_seat : View X → View X
  without_one_seat v = record v { seats = v.seats - 1 }

  abbrev pub of_one_seat : View X → View X
  of_one_seat v = record { seats = 1; made = 0; last = v.last; olds = []; stage = Idle }

  abbrev pub spent : View X
  spent = record { seats = 0; made = 0; last = None; olds = []; stage = Idle }

  abbrev pub listed : Option X → List X
  listed None = []
  listed (Some x) = x ∷ []

  abbrev pub DrawsTicket : Step (Option X) → Me (Option X) (View X) → ℕ → Me (Option X) (View X) → Type 0
  DrawsTicket st m n m' = (t : ℕ) × (n ≡ t % 18446744073709551616) × (m'.0 ≡ at_stage m.0 (Waits t)) × (m'.1 ≡ m.1)

  -- the ticket is gone, and so is the slot
  abbrev pub RaisesServing : Step (Option X) → Me (Option X) (View X) → ℕ → Me (Option X) (View X) → Type 0
  RaisesServing st m n m' = (m'.0 ≡ at_stage m.0 Idle) × (m'.1 ≡ [])

module _ {X E : Type 0} (entries : X → List E) where
  abbrev pub longer : Option X → Option X → Option X
  longer None b = b
  longer (Some x) None = Some x
  longer (Some x) (Some y) = cond (nat_lt (length (entries x)) (length (entries y))) (Some y) (Some x)

  -- a join keeps the longer list, and takes in what both had seen and taken in
  abbrev pub of_both : View X → View X → View X
  of_both v w = record {
    seats = v.seats + w.seats;
    made = v.made + w.made;
    last = longer v.last w.last;
    olds = (v.olds ++ w.olds) ++ (listed v.last ++ listed w.last);
    stage = v.stage;
  }

  -- the value in the slot is what the seat has seen last, and the entries that it appended to what it found are its own
  abbrev pub RaisesCount : Step (Option X) → Me (Option X) (View X) → ℕ → Me (Option X) (View X) → Type 0
  RaisesCount st m n m' = (x y : X) (t : ℕ) → m.1 ≡ (0, Some x) ∷ [] → m.0.stage ≡ Found t y
      → (m'.0 ≡ record { seats = m.0.seats; made = m.0.made + (length (entries x) - length (entries y)); last = Some x; olds = m.0.olds; stage = Raised t y }) × (m'.1 ≡ m.1)

  -- xs begins with all that the view has seen and taken in
  abbrev pub BeginsAll : List E → View X → Type 0
  BeginsAll xs v = All (λ x. IsPrefix (entries x) xs) (listed v.last ++ v.olds)

  abbrev pub seen_in : Option X → List E
  seen_in None = []
  seen_in (Some x) = entries x

  abbrev pub found_in : Stage X → List E
  found_in (Found t x) = entries x
  found_in _ = []

module _ {X G : Type 0} (ground : X → G) where
  abbrev pub ground_in : Option X → Option G
  ground_in None = None
  ground_in (Some x) = Some (ground x)

module _ {X E G : Type 0} (entries : X → List E) (ground : X → G) where
  -- where the number found is the ticket's, the seat's turn has come, and the value that it finds began with what it saw last
  abbrev pub LoadsServing : Step (Option X) → Me (Option X) (View X) → ℕ → Me (Option X) (View X) → Type 0
  LoadsServing st m n m' = (t : ℕ) → m.0.stage ≡ Waits t
      → (n ≡ t % 18446744073709551616 → (x : X) × (m'.0 ≡ at_stage m.0 (Found t x)) × (m'.1 ≡ (0, Some x) ∷ m.1) × OlderIf entries ground x m.0.last)
      × (n ≢ t % 18446744073709551616 → m' ≡ m)

  -- a pass of that table, which has seen what this seat had seen last, and made nothing
  abbrev pub IsNewPass : TableId → Option X → PassView E G → Type 0
  IsNewPass table last pass = (pass.table ≡ table) × (pass.ground ≡ ground_in ground last) × (pass.seen ≡ seen_in entries last) × (pass.made ≡ 0)
