-- The search for the input that goes nowhere and is nearest to a number: distances, and how each input was reached.
use Rattle.std.specs.Prelude.{◌≡◌, ◌⊎◌, ℕ, ◌+◌, ◌-◌, ◌<◌, ◌≤◌, Bool, true, false, not, cond, ◌&&◌, nat_lt, Option, Some, None, List, length, slice_index, slice_index_or, count_by}
use Rattle.match_bound.specs.declared.labels.Label.{Label}
use Rattle.match_bound.specs.Matchings.{image_of}

abbrev pub no_label : Label
no_label = record { dist = 0; from = None; depth = 0; done = false }

abbrev pub label_at : List Label → ℕ → Label
label_at labels i = slice_index_or labels i no_label

abbrev pub is_open : Label → Bool
is_open label = not label.done

-- how many inputs aren't settled yet
abbrev pub open_count : List Label → ℕ
open_count labels = count_by is_open labels

-- the distance at which a number is in the search, if it is
abbrev pub reach_of : List (Option ℕ) → ℕ → Option ℕ
reach_of reach j = slice_index_or reach j None

-- a label that may come nearer by a way of this length
abbrev pub relaxed : Label → ℕ → ℕ → ℕ → Label
relaxed label dist from depth = cond (not label.done && nat_lt dist label.dist) (record { dist = dist; from = Some from; depth = depth; done = false }) label

abbrev pub settled : Label → Label
settled label = record label { done = true }

-- the label of each input before any is settled
pub record IsFirst (weight : ℕ → ℕ → ℕ) (u v : List ℕ) (target i : ℕ) (label : Label) : Type 0 where
  pub dist : label.dist + weight i target ≡ slice_index u i + slice_index v target
  pub from : label.from ≡ None
  pub depth : label.depth ≡ 0
  pub is_open : label.done ≡ false

-- what a settled input with this label, which goes to j, leaves of the label of an input
pub record Relaxes (weight : ℕ → ℕ → ℕ) (u v : List ℕ) (k j : ℕ) (near : Label) (i : ℕ) (old new : Label) : Type 0 where
  pub dist : ℕ
  pub way : dist + weight i j ≡ near.dist + slice_index u i + slice_index v j
  pub new_is : new ≡ relaxed old dist k (near.depth + 1)

-- an input was reached from the number that the search began at, or by way of a settled one that is less deep
abbrev pub Comes : (ℕ → ℕ → ℕ) → ℕ → List (Option ℕ) → List ℕ → List ℕ → List Label → ℕ → Option ℕ → Type 0
Comes weight target image u v labels i None = (label_at labels i).dist + weight i target ≡ slice_index u i + slice_index v target
Comes weight target image u v labels i (Some k) =
    ((label_at labels k).done ≡ true) × ((label_at labels k).depth < (label_at labels i).depth)
    × ((j : ℕ) → image_of image k ≡ Some j → (label_at labels i).dist + weight i j ≡ (label_at labels k).dist + slice_index u i + slice_index v j)

pub record IsTree (weight : ℕ → ℕ → ℕ) (m target : ℕ) (image : List (Option ℕ)) (u v : List ℕ) (labels : List Label) (reach : List (Option ℕ)) : Type 0 where
  pub labels_long : length labels ≡ m
  pub reach_long : length reach ≡ m
  pub root : reach_of reach target ≡ Some 0
  -- a matched pair is in the search as a whole, or not at all
  pub linked : (i j : ℕ) → image_of image i ≡ Some j → reach_of reach j ≡ cond (label_at labels i).done (Some (label_at labels i).dist) None
  pub matched : (i : ℕ) → (label_at labels i).done ≡ true → (j : ℕ) × (image_of image i ≡ Some j)
  -- no way by a number in the search is shorter than the distance
  pub near : (i j b : ℕ) → i < m → reach_of reach j ≡ Some b → (label_at labels i).dist + weight i j ≤ b + slice_index u i + slice_index v j
  pub ahead : (j b k : ℕ) → reach_of reach j ≡ Some b → k < m → (label_at labels k).done ≡ false → b ≤ (label_at labels k).dist
  pub comes : (i : ℕ) → i < m → Comes weight target image u v labels i (label_at labels i).from
  pub deep : (i : ℕ) → i < m → (label_at labels i).depth + open_count labels ≤ m

-- an input that isn't settled, than which no other such one is nearer
pub record IsNearest (labels : List Label) (i : ℕ) : Type 0 where
  pub there : i < length labels
  pub is_open : (label_at labels i).done ≡ false
  pub least : (k : ℕ) → k < length labels → (label_at labels k).done ≡ false → (label_at labels i).dist ≤ (label_at labels k).dist

-- the nearest of the first n inputs that aren't settled, if there is one
abbrev pub NearestBefore : List Label → ℕ → Option ℕ → Type 0
NearestBefore labels n None = (k : ℕ) → k < n → (label_at labels k).done ≡ true
NearestBefore labels n (Some i) = (i < n) × ((label_at labels i).done ≡ false) × ((k : ℕ) → k < n → (label_at labels k).done ≡ false → (label_at labels i).dist ≤ (label_at labels k).dist)

-- how far the potential of an input rises, and that of a number falls
abbrev pub rise : ℕ → Label → ℕ
rise end label = cond label.done (end - label.dist) 0

abbrev pub fall : ℕ → Option ℕ → ℕ
fall end None = 0
fall end (Some b) = end - b

-- each input was reached by way of a settled one that is less deep, and settled inputs go somewhere
pub record IsRooted (image : List (Option ℕ)) (labels : List Label) : Type 0 where
  pub back : (i k : ℕ) → i < length labels → (label_at labels i).from ≡ Some k → ((label_at labels k).done ≡ true) × ((label_at labels k).depth < (label_at labels i).depth)
  pub matched : (i : ℕ) → (label_at labels i).done ≡ true → (j : ℕ) × (image_of image i ≡ Some j)

-- the number by way of which an input was reached: the start of the search, or what the input before it goes to
abbrev pub IsByWay : List (Option ℕ) → ℕ → ℕ → Option ℕ → Type 0
IsByWay image target j None = j ≡ target
IsByWay image target j (Some k) = image_of image k ≡ Some j

-- the inputs whose pair a flip from this end may change
abbrev pub IsOnWay : List Label → ℕ → ℕ → Type 0
IsOnWay labels end i = (i ≡ end) ⊎ ((label_at labels i).done ≡ true)

-- each pair was there before, or is one by way of which its input was reached, and an input that goes nowhere went nowhere
pub record IsFlipped (labels : List Label) (end target : ℕ) (old new : List (Option ℕ)) : Type 0 where
  pub pairs : (i j : ℕ) → image_of new i ≡ Some j → (image_of old i ≡ Some j) ⊎ (IsOnWay labels end i × IsByWay old target j (label_at labels i).from)
  pub idle : (i : ℕ) → image_of new i ≡ None → image_of old i ≡ None
