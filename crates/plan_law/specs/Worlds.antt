-- Worlds: a book with replicas, the events that may come, in any order, and the replies.
use Rattle.std.specs.Prelude.{◌≡◌, ◌≢◌, ℕ, ◌-◌, ◌<◌, ◌≤◌, true, Option, Some, None, List, [], ◌∷◌, ◌++◌, map, length, sum, slice_get, set, take, All}
use Rattle.geo_orient.specs.declared.Point.{Point}
use Rattle.edge_table.specs.declared.edge.Edge.{Edge}
use Rattle.bound_law.specs.Copies.{copy_lower}
use Rattle.bound_law.specs.Bounds.{input_at}
use Rattle.plan_law.specs.Images.{image_of}
use Rattle.plan_law.specs.Plans.{Plan, plan_total, followed_all, swapped}
use Rattle.plan_law.specs.Replays.{SwapFault, swap_fault}
use Rattle.plan_law.specs.Books.{PairRow, row_of, lower_of, Entry, Move, Swap, Row, Pack, is_plan_entry, State, bound_of, bound, identity, opening_state, state_after, AreRoundsOf, MayBeOffered, IsFit, Book, state_of, front, IsBook}

-- ---- replicas

-- the lower bounds of all pairs of copies, as a table
abbrev pub lower_table : {E : Type 0} → List ℕ → List (PairRow E) → List (List ℕ)
lower_table weights rows = map (λ c. map (λ d. copy_lower weights (lower_of rows) c d) (identity (sum weights))) (identity (sum weights))

-- what a worker keeps of a book: a plan, the lower bounds, how many entries it has seen, and how many of them were plan entries
pub record Replica : Type 0 where
  pub plan : Plan
  pub table : List (List ℕ)
  pub seen : ℕ
  pub front : ℕ

abbrev pub replica_from : {E : Type 0} → State E → List (Entry E) → Replica
replica_from state journal = record { plan = state.plan; table = lower_table state.plan.weights state.rows; seen = length journal; front = front journal }

-- the replica that has seen these entries of the book
abbrev pub replica_after : {E : Type 0} → List Point → List (List Edge) → Plan → List (Entry E) → Replica
replica_after points inputs opening journal = replica_from (state_after points inputs (opening_state opening) journal) journal

-- it is the state after a prefix of the journal
abbrev pub IsReplicaOf : {E : Type 0} → List Point → List (List Edge) → Book E → Replica → Type 0
IsReplicaOf points inputs book replica = (n : ℕ) × (n ≤ length book.journal) × (replica ≡ replica_after points inputs book.opening (take n book.journal))

-- ---- offers

pub data Refusal : Type 0 where
  Stale : (base : ℕ) → (front : ℕ) → Refusal
  BadMove : (place : ℕ) → Refusal
  BadSwap : (fault : SwapFault) → Refusal
  NotBetter : (held : ℕ) → (given : ℕ) → Refusal
  Taken : (low : ℕ) → (high : ℕ) → Refusal
  NoRise : (held : ℕ) → (given : ℕ) → Refusal

-- the edge at the place is the first that doesn't flip when its turn comes
abbrev pub StopsAt : List Point → Plan → List Edge → ℕ → Type 0
StopsAt points plan edges place =
    (e : Edge) × (before : Plan) × (slice_get edges place ≡ Some e) × (followed_all points plan (take place edges) ≡ Some before) × (image_of points before.centre e ≡ None)

-- a plan entry that can be made, but doesn't lower the total
abbrev pub IsNoBetter : Plan → Option Plan → ℕ → ℕ → Type 0
IsNoBetter plan after held given = (next : Plan) × (after ≡ Some next) × (held ≡ plan_total plan) × (given ≡ plan_total next) × (held ≤ given)

-- why an entry that was built at the front of the book is refused
abbrev pub IsUnfit : {E : Type 0} → List Point → List (List Edge) → State E → Entry E → Refusal → Type 0
IsUnfit points inputs state (Move turn edges) (BadMove place) = StopsAt points state.plan edges place
IsUnfit points inputs state (Move turn edges) (NotBetter held given) = IsNoBetter state.plan (followed_all points state.plan edges) held given
IsUnfit points inputs state (Swap turn input rounds) (BadSwap fault) = swap_fault points (input_at inputs input) rounds state.plan.centre ≡ Some fault
IsUnfit points inputs state (Swap turn input rounds) (NotBetter held given) = AreRoundsOf points (input_at inputs input) rounds state.plan.centre × IsNoBetter state.plan (swapped points inputs state.plan input rounds) held given
IsUnfit points inputs state (Row turn row) (Taken low high) = (row_of state.rows row.low row.high ≢ None) × (low ≡ row.low) × (high ≡ row.high)
IsUnfit points inputs state (Pack turn assignment) (NoRise held given) = (held ≡ bound state) × (given ≡ bound_of state assignment) × (given ≤ held)
IsUnfit points inputs state _ _ = ⊥

-- a plan entry was built at another front
abbrev pub IsStale : {E : Type 0} → Book E → ℕ → Entry E → Type 0
IsStale book base entry = (is_plan_entry entry ≡ true) × (base ≢ front book.journal)

abbrev pub IsRefused : {E : Type 0} → List Point → List (List Edge) → Book E → ℕ → Entry E → Refusal → Type 0
IsRefused points inputs book base entry (Stale said is) = IsStale book base entry × (said ≡ base) × (is ≡ front book.journal)
IsRefused points inputs book base entry (BadMove place) = (¬ IsStale book base entry) × IsUnfit points inputs (state_of points inputs book) entry (BadMove place)
IsRefused points inputs book base entry (BadSwap fault) = (¬ IsStale book base entry) × IsUnfit points inputs (state_of points inputs book) entry (BadSwap fault)
IsRefused points inputs book base entry (NotBetter held given) = (¬ IsStale book base entry) × IsUnfit points inputs (state_of points inputs book) entry (NotBetter held given)
IsRefused points inputs book base entry (Taken low high) = IsUnfit points inputs (state_of points inputs book) entry (Taken low high)
IsRefused points inputs book base entry (NoRise held given) = IsUnfit points inputs (state_of points inputs book) entry (NoRise held given)

abbrev pub with_entry : {E : Type 0} → Book E → Entry E → Book E
with_entry book entry = record { opening = book.opening; journal = book.journal ++ (entry ∷ []) }

-- an entry that was built at the front `base` is accepted: where it stands, and what it saves
pub record IsAccepted {E : Type 0} (points : List Point) (inputs : List (List Edge)) (book : Book E) (base : ℕ) (entry : Entry E) (place saved : ℕ) : Type 0 where
  pub fresh : ¬ IsStale book base entry
  pub fit : IsFit points inputs (state_of points inputs book) entry
  pub at_end : place ≡ length book.journal
  pub saves : saved ≡ plan_total (state_of points inputs book).plan - plan_total (state_of points inputs (with_entry book entry)).plan

-- ---- events

pub data Event (E : Type 0) : Type 0 where
  Join : Event E
  Catch : (replica : ℕ) → Event E
  Offer : (replica : ℕ) → (entry : Entry E) → Event E

pub data Reply : Type 0 where
  Joined : (replica : ℕ) → Reply
  Caught : (seen : ℕ) → Reply
  Accepted : (place : ℕ) → (saved : ℕ) → Reply
  Refused : (refusal : Refusal) → Reply

pub record World (E : Type 0) : Type 0 where
  pub book : Book E
  pub replicas : List Replica

abbrev pub world_at : {E : Type 0} → Book E → World E
world_at book = record { book = book; replicas = [] }

abbrev pub newest : {E : Type 0} → List Point → List (List Edge) → Book E → Replica
newest points inputs book = replica_after points inputs book.opening book.journal

abbrev pub with_replica : {E : Type 0} → World E → ℕ → Replica → World E
with_replica world r replica = record { book = world.book; replicas = set world.replicas r replica }

-- an event leads from a world to another, with a reply, or with none where memory was wanting
abbrev pub Step : {E : Type 0} → (PairRow E → Type 0) → List Point → List (List Edge) → World E → Event E → Option Reply → World E → Type 0
Step justified points inputs old Join (Some (Joined r)) new = (r ≡ length old.replicas) × (new ≡ record { book = old.book; replicas = old.replicas ++ (newest points inputs old.book ∷ []) })
Step justified points inputs old Join None new = new ≡ old
Step justified points inputs old (Catch r) (Some (Caught n)) new = (r < length old.replicas) × (n ≡ length old.book.journal) × (new ≡ with_replica old r (newest points inputs old.book))
Step justified points inputs old (Catch r) None new =
    (replica : Replica) × (n : ℕ) × (slice_get old.replicas r ≡ Some replica) × (replica.seen ≤ n) × (n ≤ length old.book.journal)
    × (new ≡ with_replica old r (replica_after points inputs old.book.opening (take n old.book.journal)))
Step justified points inputs old (Offer r entry) (Some (Accepted place saved)) new =
    (replica : Replica) × (slice_get old.replicas r ≡ Some replica) × MayBeOffered justified (length inputs) (sum old.book.opening.weights) entry
    × IsAccepted points inputs old.book replica.front entry place saved × (new ≡ record { book = with_entry old.book entry; replicas = old.replicas })
Step justified points inputs old (Offer r entry) (Some (Refused refusal)) new =
    (replica : Replica) × (slice_get old.replicas r ≡ Some replica) × MayBeOffered justified (length inputs) (sum old.book.opening.weights) entry
    × IsRefused points inputs old.book replica.front entry refusal × (new ≡ old)
Step justified points inputs old (Offer r entry) None new = new ≡ old
Step justified points inputs old _ _ new = ⊥

-- events one after the other, each with its reply
abbrev pub Run : {E : Type 0} → (PairRow E → Type 0) → List Point → List (List Edge) → World E → List (Event E) → List (Option Reply) → World E → Type 0
Run justified points inputs old [] [] new = new ≡ old
Run justified points inputs old (event ∷ events) (reply ∷ replies) new = (mid : World _) × Step justified points inputs old event reply mid × Run justified points inputs mid events replies new
Run justified points inputs old _ _ new = ⊥

-- the book is legal, and each replica is the state after a prefix of its journal
pub record IsWorld {E : Type 0} (justified : PairRow E → Type 0) (points : List Point) (inputs : List (List Edge)) (world : World E) : Type 0 where
  pub book : IsBook justified points inputs world.book
  pub replicas : All (IsReplicaOf points inputs world.book) world.replicas
