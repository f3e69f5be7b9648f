-- Lists of rounds are a plan or have one first fault, and never both.
use Rattle.std.proofs.Common.{◌≡◌, ◌⊎◌, inl, inr, ◌∙◌, ℕ, zero, suc, ◌<◌, List, [], ◌∷◌, length, refl, sym, ap, ap₂, subst, subst₂, arith}
use Rattle.std.proofs.lemmas.Option.{slice_get_within}
use Rattle.geo_orient.specs.declared.Point.{Point}
use Rattle.edge_table.specs.declared.edge.Edge.{Edge}
use Rattle.tri_theory.specs.Rounds.{IsPlan}
use Rattle.tri_check.specs.Problems.{IsProblem}
use Rattle.replay.specs.declared.fault.RoundFault.{RoundFault}
use Rattle.replay.specs.declared.fault.ScoreFault.TheVariants.{InputCount, Round, NoCommonCentre, OutOfMemory}
use Rattle.replay.specs.Independent.{AreRoundsOf}
use Rattle.replay.specs.Faults.{IsFirstFault}
use Rattle.replay.specs.Scores.{LeadsTo, AllLead, HasFirstFault, EndsApart, AreAllDistinct}
use Rattle.replay.specs.Laws.{EndsAreUnique, SchedulesHaveNoFault, FirstFaultsAreUnique, PlansHaveNoFault, ScoreFaultsAreUnique}
use Rattle.replay.proofs.Unique.{same_some, found_in, apart_cases, schedule_unique, no_fault, first_fault_unique}

pub ends_are_unique : EndsAreUnique
ends_are_unique points start rounds a b R S = schedule_unique points rounds start a b R.leads S.leads

pub schedules_have_no_fault : SchedulesHaveNoFault
schedules_have_no_fault points start to rounds fault P I R = no_fault points start to rounds fault P I R

pub first_faults_are_unique : FirstFaultsAreUnique
first_faults_are_unique points start rounds f g P I F G = first_fault_unique points start rounds f g P I F G

module _ (points : List Point) (inputs : List (List Edge)) (lists : List (List (List Edge))) (B : IsProblem points inputs) where
  -- a list leads to one end
  one_end : (t : ℕ) (a b : List Edge) → LeadsTo points inputs lists t a → LeadsTo points inputs lists t b → a ≡ b
  one_end t a b A C =
      let input = same_some A.input C.input (sym A.input_there ∙ C.input_there) in
      let rounds = same_some A.rounds C.rounds (sym A.rounds_there ∙ C.rounds_there) in
      ends_are_unique points C.input C.rounds a b (subst₂ (λ i r. AreRoundsOf points i r a) input rounds A.leads) C.leads

  -- or has a fault
  not_both : (t : ℕ) (end : List Edge) (fault : RoundFault) → LeadsTo points inputs lists t end → HasFirstFault points inputs lists t fault → ⊥
  not_both t end fault A F =
      let input = same_some A.input F.input (sym A.input_there ∙ F.input_there) in
      let rounds = same_some A.rounds F.rounds (sym A.rounds_there ∙ F.rounds_there) in
      no_fault points F.input end F.rounds fault B.placed (B.triangulated F.input (found_in inputs t F.input F.input_there)) (subst₂ (λ i r. AreRoundsOf points i r end) input rounds A.leads) F.first_fault

  one_fault : (t : ℕ) (f g : RoundFault) → HasFirstFault points inputs lists t f → HasFirstFault points inputs lists t g → f ≡ g
  one_fault t f g F G =
      let input = same_some F.input G.input (sym F.input_there ∙ G.input_there) in
      let rounds = same_some F.rounds G.rounds (sym F.rounds_there ∙ G.rounds_there) in
      first_fault_unique points G.input G.rounds f g B.placed (B.triangulated G.input (found_in inputs t G.input G.input_there)) (subst₂ (λ i r. IsFirstFault points i r f) input rounds F.first_fault) G.first_fault

  fault_within : (t : ℕ) (f : RoundFault) → HasFirstFault points inputs lists t f → t < length inputs
  fault_within t f F = slice_get_within inputs t F.input F.input_there

  -- the first list with a fault
  same_list : (s t : ℕ) (f g : RoundFault) → AllLead points inputs lists s → AllLead points inputs lists t → HasFirstFault points inputs lists s f → HasFirstFault points inputs lists t g → (s ≡ t) × (f ≡ g)
  same_list s t f g A C F G = by_places (apart_cases s t)
    where
      by_places : (s < t) ⊎ ((s ≡ t) ⊎ (t < s)) → (s ≡ t) × (f ≡ g)
      by_places (inl l) = absurd (not_both s (C s l).0 f (C s l).1 F)
      by_places (inr (inl e)) = (e, one_fault t f g (subst (λ k. HasFirstFault points inputs lists k f) e F) G)
      by_places (inr (inr l)) = absurd (not_both t (A t l).0 g (A t l).1 G)

  -- the first list that ends elsewhere
  same_end : (s t : ℕ) → EndsApart points inputs lists s → EndsApart points inputs lists t → s ≡ t
  same_end s t A C = by_places (apart_cases s t)
    where
      centre : A.centre ≡ C.centre
      centre = one_end 0 A.centre C.centre A.first C.first

      by_places : (s < t) ⊎ ((s ≡ t) ⊎ (t < s)) → s ≡ t
      by_places (inl l) = absurd (A.apart (one_end s A.end C.centre A.here (C.before s l) ∙ sym centre))
      by_places (inr (inl e)) = e
      by_places (inr (inr l)) = absurd (C.apart (one_end t C.end A.centre C.here (A.before t l) ∙ centre))

pub score_faults_are_unique : ScoreFaultsAreUnique
score_faults_are_unique points inputs lists OutOfMemory g B n m h k = absurd (n refl)
score_faults_are_unique points inputs lists (InputCount a b) OutOfMemory B n m h k = absurd (m refl)
score_faults_are_unique points inputs lists (Round t f) OutOfMemory B n m h k = absurd (m refl)
score_faults_are_unique points inputs lists (NoCommonCentre t) OutOfMemory B n m h k = absurd (m refl)
score_faults_are_unique points inputs lists (InputCount a b) (InputCount c d) B n m h k = ap₂ InputCount (h.0 ∙ sym k.0) (h.1 ∙ sym k.1)
score_faults_are_unique points inputs lists (InputCount a b) (Round t f) B n m h k = absurd (h.2 (h.0 ∙ k.0 ∙ sym h.1))
score_faults_are_unique points inputs lists (InputCount a b) (NoCommonCentre t) B n m h k = absurd (h.2 (h.0 ∙ k.0 ∙ sym h.1))
score_faults_are_unique points inputs lists (Round t f) (InputCount a b) B n m h k = absurd (k.2 (k.0 ∙ h.0 ∙ sym k.1))
score_faults_are_unique points inputs lists (Round s f) (Round t g) B n m h k =
    let same = same_list points inputs lists B s t f g h.1 k.1 h.2 k.2 in ap₂ Round same.0 same.1
score_faults_are_unique points inputs lists (Round s f) (NoCommonCentre t) B n m h k =
    let lead = k.1 s (fault_within points inputs lists B s f h.2) in absurd (not_both points inputs lists B s lead.0 f lead.1 h.2)
score_faults_are_unique points inputs lists (NoCommonCentre t) (InputCount a b) B n m h k = absurd (k.2 (k.0 ∙ h.0 ∙ sym k.1))
score_faults_are_unique points inputs lists (NoCommonCentre t) (Round s f) B n m h k =
    let lead = h.1 s (fault_within points inputs lists B s f k.2) in absurd (not_both points inputs lists B s lead.0 f lead.1 k.2)
score_faults_are_unique points inputs lists (NoCommonCentre s) (NoCommonCentre t) B n m h k = ap NoCommonCentre (same_end points inputs lists B s t h.2 k.2)

-- ---- plans
plan_length : (points : List Point) (inputs : List (List Edge)) (centre : List Edge) (lists : List (List (List Edge))) → IsPlan points inputs centre lists → length lists ≡ length inputs
plan_length points [] centre [] h = refl
plan_length points [] centre (x ∷ lists) h = absurd h
plan_length points (i ∷ inputs) centre [] h = absurd h
plan_length points (i ∷ inputs) centre (x ∷ lists) h = let again = plan_length points inputs centre lists h.1 in omega (arith, again)

plan_leads : (points : List Point) (inputs : List (List Edge)) (centre : List Edge) (lists : List (List (List Edge))) → IsPlan points inputs centre lists → AreAllDistinct lists → (t : ℕ) → t < length inputs → LeadsTo points inputs lists t centre
plan_leads points [] centre lists h d t l = absurd (omega arith)
plan_leads points (i ∷ inputs) centre [] h d t l = absurd h
plan_leads points (i ∷ inputs) centre (x ∷ lists) h d zero l = record { input = i; rounds = x; input_there = refl; rounds_there = refl; leads = record { distinct = d 0 [] (omega arith); leads = h.0 } }
plan_leads points (i ∷ inputs) centre (x ∷ lists) h d (suc t) l =
    later (plan_leads points inputs centre lists h.1 (λ k e m. d (suc k) e (omega arith)) t (omega arith))
  where
    later : LeadsTo points inputs lists t centre → LeadsTo points (i ∷ inputs) (x ∷ lists) (suc t) centre
    later k = record { input = k.input; rounds = k.rounds; input_there = k.input_there; rounds_there = k.rounds_there; leads = k.leads }

pub plans_have_no_fault : PlansHaveNoFault
plans_have_no_fault points inputs centre lists OutOfMemory B h d n k = n refl
plans_have_no_fault points inputs centre lists (InputCount a b) B h d n k = k.2 (k.0 ∙ plan_length points inputs centre lists h ∙ sym k.1)
plans_have_no_fault points inputs centre lists (Round t f) B h d n k =
    not_both points inputs lists B t centre f (plan_leads points inputs centre lists h d t (fault_within points inputs lists B t f k.2)) k.2
plans_have_no_fault points inputs centre lists (NoCommonCentre t) B h d n k =
    let a = k.2 in let leads = plan_leads points inputs centre lists h d in
    a.apart (one_end points inputs lists B t a.end centre a.here (leads t (slice_get_within inputs t a.here.input a.here.input_there)) ∙ sym (one_end points inputs lists B 0 a.centre centre a.first (leads 0 (slice_get_within inputs 0 a.first.input a.first.input_there))))
