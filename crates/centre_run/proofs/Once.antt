-- The words and the files that a store tells call for one status.
use Rattle.std.proofs.Common.{◌≡◌, ◌⊎◌, inl, inr, ◌∙◌, sym, ap, ap₂, refl, subst, ℕ, ◌<◌, ◌≤◌, ◌+◌, unsigned_abs, List, [], ◌∷◌, length, drop, slice_index_or, Option, Some, None}
use Rattle.std.specs.FinMap as map
use Rattle.std.proofs.Math.Nat.{not-le_of_lt}
use Rattle.std.proofs.lemmas.Option.{slice_get_within}
use Rattle.host_io.specs.Store.{Held, Rose}
use Rattle.edge_table.specs.declared.edge.Edge.{Edge}
use Rattle.edge_table.proofs.Ascending.{same_members}
use Rattle.geo_orient.specs.declared.Point.{Point}
use Rattle.tri_check.specs.declared.raw.RawPair.{RawPair}
use Rattle.json_value.proofs.Once.{some_once, zip_once}
use Rattle.instance_json.proofs.Once.{spelled_once}
use Rattle.solution_json.proofs.Once as solution
use Rattle.solution_json.specs.declared.solution.Solution.{Solution}
use Rattle.replay.proofs.ScoreLaws.{plans_have_no_fault}
use Rattle.json_value.proofs.Steps.{holds_at}
use Rattle.lawson_law.specs.LawsonRuns.{IsLawsonRunLonger}
use Rattle.lawson_start.specs.Starts.{AreWithin, IsOverBudget}
use Rattle.tri_check.specs.declared.raw.RawInstance.{RawInstance}
use Rattle.tri_check.specs.Faults.{IsValid, IsListed, IsCompletedInput}
use Rattle.tri_check.specs.Problems.{Problem, IsProblem}
use Rattle.tri_check.specs.Accepted.{IsAccepted}
use Rattle.tri_check.proofs.Weighed.{numbers_once}
use Rattle.tri_theory.specs.Inputs.{IsCompleted}
use Rattle.centre_run.specs.declared.status.Status.{Status}
use Rattle.centre_run.specs.declared.status.Status.TheVariants.{Done, Words, Refused, FlipBudget, Memory, ReadFault, WriteFault, No}
use Rattle.centre_words.specs.declared.asked.Asked.{Asked}
use Rattle.centre_words.specs.declared.asked.Asked.TheVariants.{Check, Score, Solve, Verify, Trace, Bench}
use Rattle.centre_words.specs.Words.{Asks}
use Rattle.gen_instance.proofs.Once.{instances_are_generated_once}
use Rattle.centre_words.proofs.Meets.{words_ask_once}
use Rattle.cert_text.specs.declared.cert.Cert.{Cert}
use Rattle.cert_text.specs.Forms as cert_form
use Rattle.cert_text.proofs.ReadLaws.{texts_spell_once}
use Rattle.verify_core.specs.declared.fault.No as no
use Rattle.verify_core.specs.declared.fault.VerifyFault.TheVariants as verify
use Rattle.verify_core.specs.Faults.{IsShown, OnNo}
use Rattle.verify_core.proofs.Clear.{shown_clear}
use Rattle.book_solve.specs.declared.order.Order.{Order}
use Rattle.centre_run.specs.declared.solving.SolveOptions.{SolveOptions}
use Rattle.centre_run.specs.declared.solving.Texts.{Texts}
use Rattle.centre_run.specs.Orders.{order_of}
use Rattle.centre_run.specs.Runs.{SpellsValid, NamesInstanceFault, SpellsInstance, SpellsSolution, IsSolved, NamesScoreFault, NamesFileFault, NamesVerifyFault, SolutionSays, CertificateSays, CheckSays, ScoreSays, OrderSays, SolveSays, VerifySays, RunSays, TraceSays, RawSays, BookSays, BenchSays, Files, CommandSays, LacksFile, files_of, Says, HasReadCause}

-- the bound on calls is that of the command that was asked for
pub calls_once : (words : List (List ℕ)) (c : Asked) (before now : ℕ) → Asks words c → now ≤ before + files_of c → (d : Asked) → Asks words d → now ≤ before + files_of d
calls_once words c before now a bound d b = subst (λ e. now ≤ before + files_of e) (words_ask_once words c d a b) bound

-- a text that spells a valid instance has no fault
valid_faultless : (bytes : List ℕ) (raw : RawInstance) (line : List ℕ) → SpellsValid bytes raw → NamesInstanceFault bytes line → ⊥
valid_faultless bytes raw line valid (inl (form, first, told)) = valid.0 form first.holds
valid_faultless bytes raw line valid (inr (other, bad, spells, first, told)) =
    subst (λ (r : RawInstance). IsValid r.points r.inputs r.weights) (spelled_once bytes raw other valid.1 spells) valid.2 bad first.holds

-- a file that is held isn't lacking
held_there : (held : Held) (name bytes : List ℕ) → map.get held name ≡ Some bytes → map.get held name ≡ None → ⊥
held_there held name bytes e f = let clash : Some bytes ≡ None = sym e ∙ f in cc

-- ---- instances and solutions that texts spell

listed_once : (raw : List RawPair) (ps qs : List (ℕ × ℕ)) → IsListed raw ps → IsListed raw qs → ps ≡ qs
listed_once [] [] [] e f = refl
listed_once [] [] (q ∷ qs) e f = cc
listed_once [] (p ∷ ps) qs e f = cc
listed_once (r ∷ rs) [] qs e f = cc
listed_once (r ∷ rs) (p ∷ ps) [] e f = cc
listed_once (r ∷ rs) (p ∷ ps) (q ∷ qs) e f =
    let same = sym e ∙ f in
    let first : p.0 ≡ q.0 = ap (λ (pairs : List RawPair). unsigned_abs (slice_index_or pairs 0 r).a) same in
    let second : p.1 ≡ q.1 = ap (λ (pairs : List RawPair). unsigned_abs (slice_index_or pairs 0 r).b) same in
    ap₂ (λ head tail. head ∷ tail) (ap₂ (λ a b. let pair : ℕ × ℕ = (a, b) in pair) first second)
    (listed_once rs ps qs (ap (λ (pairs : List RawPair). drop 1 pairs) e) (ap (λ (pairs : List RawPair). drop 1 pairs) f))

completed_once : (points : List Point) (raw : List RawPair) (es fs : List Edge) → IsCompletedInput points raw es → IsCompletedInput points raw fs → es ≡ fs
completed_once points raw es fs (ps, l, c) (qs, m, d) =
    let same = listed_once raw ps qs l m in
    let other = subst (λ pairs. IsCompleted points pairs fs) (sym same) d in
    same_members es fs c.ascending other.ascending (λ e. (λ h. (other.members e).1 ((c.members e).0 h), λ h. (c.members e).1 ((other.members e).0 h)))

instance_once : (bytes : List ℕ) (i j : Problem) → SpellsInstance bytes i → SpellsInstance bytes j → i ≡ j
instance_once bytes i j a b =
    let same = spelled_once bytes a.raw b.raw a.valid.1 b.valid.1 in
    let other = subst (λ (r : RawInstance). IsAccepted r.uid r.points r.inputs r.weights j) (sym same) b.accepted in
    let mine = a.accepted in
    let uid = mine.uid ∙ sym other.uid in
    let points = mine.points ∙ sym other.points in
    let inputs = zip_once (IsCompletedInput a.raw.points) (completed_once a.raw.points) a.raw.inputs i.inputs j.inputs mine.inputs other.inputs in
    let weights = numbers_once i.weights j.weights (sym mine.weights ∙ other.weights) in
    ap (λ u. record i { uid = u }) uid
    ∙ (ap (λ ps. record i { uid = j.uid; points = ps }) points
    ∙ (ap (λ es. record i { uid = j.uid; points = j.points; inputs = es }) inputs
    ∙ ap (λ ws. record i { uid = j.uid; points = j.points; inputs = j.inputs; weights = ws }) weights))

solved_faultless : (i : Problem) (s : Solution) (line : List ℕ) → IsProblem i.points i.inputs → IsSolved i s → NamesScoreFault i s line → ⊥
solved_faultless i s line problem solved (inl (other, told)) = other solved.uid
solved_faultless i s line problem solved (inr (fault, uid, named, fails, told)) = plans_have_no_fault i.points i.inputs solved.centre s.lists fault problem solved.plan solved.distinct named fails

-- files of which the one spells an instance and the other a solution have no fault
files_faultless : (bytes others line : List ℕ) (i : Problem) (s : Solution) → SpellsInstance bytes i → SpellsSolution others s → NamesFileFault bytes others line → ⊥
files_faultless bytes others line i s a b (inl (form, first, told)) = a.valid.0 form first.holds
files_faultless bytes others line i s a b (inr (inl (form, has, first, told))) = b.0 form first.holds
files_faultless bytes others line i s a b (inr (inr (raw, bad, has, spells, first, told))) = valid_faultless bytes a.raw line a.valid (inr (raw, bad, spells, first, told))

-- files of which the first spells an instance, the second a solution and the third a certificate have no fault
all_faultless : (bytes others last line : List ℕ) (i : Problem) (s : Solution) (c : Cert) → SpellsInstance bytes i → SpellsSolution others s → cert_form.Spells last c → NamesVerifyFault bytes others last line → ⊥
all_faultless bytes others last line i s c a b d (inl (form, first, told)) = a.valid.0 form first.holds
all_faultless bytes others last line i s c a b d (inr (inl (form, has, first, told))) = b.0 form first.holds
all_faultless bytes others last line i s c a b d (inr (inr (inl (has, too, (fault, first, none, told))))) = none c d
all_faultless bytes others last line i s c a b d (inr (inr (inr (raw, bad, cert, has, text, spells, first, told)))) = valid_faultless bytes a.raw line a.valid (inr (raw, bad, spells, first, told))

-- ---- what a command says of the files is one status

-- two that say one of two statuses, for reasons that exclude each other
one_of_two : (s t u v : Status) (P Q R S : Type 0) → (P → S → ⊥) → (R → Q → ⊥) → ((s ≡ u) × P) ⊎ ((s ≡ v) × Q) → ((t ≡ u) × R) ⊎ ((t ≡ v) × S) → s ≡ t
one_of_two s t u v P Q R S f g (inl (d, p)) (inl (e, r)) = d ∙ sym e
one_of_two s t u v P Q R S f g (inl (d, p)) (inr (e, q)) = absurd (f p q)
one_of_two s t u v P Q R S f g (inr (d, p)) (inl (e, r)) = absurd (g r p)
one_of_two s t u v P Q R S f g (inr (d, p)) (inr (e, q)) = d ∙ sym e

check_kind : (bytes : List ℕ) (s : Status) (k : List ℕ) → CheckSays bytes s k → ((s ≡ Done) × CheckSays bytes Done k) ⊎ ((s ≡ Refused) × NamesInstanceFault bytes k)
check_kind bytes Done k a = inl (refl, a)
check_kind bytes Refused k a = inr (refl, a)
check_kind bytes Words k a = absurd a
check_kind bytes FlipBudget k a = absurd a
check_kind bytes Memory k a = absurd a
check_kind bytes ReadFault k a = absurd a
check_kind bytes WriteFault k a = absurd a
check_kind bytes No k a = absurd a

check_once : (bytes : List ℕ) (s t : Status) (k l : List ℕ) → CheckSays bytes s k → CheckSays bytes t l → s ≡ t
check_once bytes s t k l a b =
    one_of_two s t Done Refused (CheckSays bytes Done k) (NamesInstanceFault bytes k) (CheckSays bytes Done l) (NamesInstanceFault bytes l)
    (λ p q. valid_faultless bytes p.0 l p.1 q) (λ p q. valid_faultless bytes p.0 k p.1 q) (check_kind bytes s k a) (check_kind bytes t l b)

solution_kind : (i : Problem) (x : Solution) (s : Status) (k : List ℕ) → SolutionSays i x s k → ((s ≡ Done) × IsSolved i x) ⊎ ((s ≡ Refused) × NamesScoreFault i x k)
solution_kind i x Done k a = inl (refl, a.0)
solution_kind i x Refused k a = inr (refl, a)
solution_kind i x Words k a = absurd a
solution_kind i x FlipBudget k a = absurd a
solution_kind i x Memory k a = absurd a
solution_kind i x ReadFault k a = absurd a
solution_kind i x WriteFault k a = absurd a
solution_kind i x No k a = absurd a

module _ (bytes others : List ℕ) where
  score_once : (s t : Status) (k l : List ℕ) → ScoreSays bytes others s k → ScoreSays bytes others t l → s ≡ t
  score_once s t k l (inl (d, p)) (inl (e, q)) = d ∙ sym e
  score_once s t k l (inl (d, p)) (inr (i, x, a, b, says)) = absurd (files_faultless bytes others k i x a b p)
  score_once s t k l (inr (i, x, a, b, says)) (inl (e, q)) = absurd (files_faultless bytes others l i x a b q)
  score_once s t k l (inr (i, x, a, b, says)) (inr (j, y, c, d, told)) =
      let problem = instance_once bytes i j a c in
      let given = solution.spelled_once others x y b.1 d.1 in
      let other = subst (λ p. SolutionSays p x t l) (sym problem) (subst (λ z. SolutionSays j z t l) (sym given) told) in
      one_of_two s t Done Refused (IsSolved i x) (NamesScoreFault i x k) (IsSolved i x) (NamesScoreFault i x l)
      (solved_faultless i x l a.problem) (solved_faultless i x k a.problem) (solution_kind i x s k says) (solution_kind i x t l other)

abbrev pub IsTooLong : Problem → ℕ → Type 0
IsTooLong i flips = (t : ℕ) × IsOverBudget i.points i.inputs flips t

order_kind : (i : Problem) (o : Order) (s : Status) (k : List ℕ) (texts : Option Texts) → OrderSays i o s k texts → ((s ≡ Done) × AreWithin i.points i.inputs o.flips) ⊎ ((s ≡ FlipBudget) × IsTooLong i o.flips)
order_kind i o Done k texts (x, c, is, line, file) = inl (refl, is.written.opens.within)
order_kind i o FlipBudget k texts (t, over, line, file) = inr (refl, (t, over))
order_kind i o Words k texts a = absurd a
order_kind i o Refused k texts a = absurd a
order_kind i o Memory k texts a = absurd a
order_kind i o ReadFault k texts a = absurd a
order_kind i o WriteFault k texts a = absurd a
order_kind i o No k texts a = absurd a

within_budget : (i : Problem) (n : ℕ) → AreWithin i.points i.inputs n → IsTooLong i n → ⊥
within_budget i n within (t, over) = holds_at (λ input. ¬ IsLawsonRunLonger i.points input n) i.inputs t over.input within over.there over.longer

order_once : (i : Problem) (o : Order) (s t : Status) (k l : List ℕ) (f g : Option Texts) → OrderSays i o s k f → OrderSays i o t l g → s ≡ t
order_once i o s t k l f g says told =
    one_of_two s t Done FlipBudget (AreWithin i.points i.inputs o.flips) (IsTooLong i o.flips) (AreWithin i.points i.inputs o.flips) (IsTooLong i o.flips)
    (within_budget i o.flips) (within_budget i o.flips) (order_kind i o s k f says) (order_kind i o t l g told)

module _ (bytes : List ℕ) (options : SolveOptions) where
  solve_once : (s t : Status) (k l : List ℕ) (f g : Option Texts) → SolveSays bytes options s k f → SolveSays bytes options t l g → s ≡ t
  solve_once s t k l f g (inl (d, p, none)) (inl (e, q, empty)) = d ∙ sym e
  solve_once s t k l f g (inl (d, p, none)) (inr (i, a, says)) = absurd (valid_faultless bytes a.raw k a.valid p)
  solve_once s t k l f g (inr (i, a, says)) (inl (e, q, empty)) = absurd (valid_faultless bytes a.raw l a.valid q)
  solve_once s t k l f g (inr (i, a, says)) (inr (j, c, told)) =
      order_once i (order_of i options) s t k l f g says (subst (λ p. OrderSays p (order_of p options) t l g) (sym (instance_once bytes i j a c)) told)

abbrev pub HasNo : Problem → Solution → Cert → Type 0
HasNo i x c = (fault : no.No) × OnNo i x c (verify.No fault)

certificate_kind : (i : Problem) (x : Solution) (c : Cert) (s : Status) (k : List ℕ) → CertificateSays i x c s k → ((s ≡ Done) × IsShown i x c) ⊎ ((s ≡ No) × HasNo i x c)
certificate_kind i x c Done k a = inl (refl, a.0)
certificate_kind i x c No k (fault, is, told) = inr (refl, (fault, is))
certificate_kind i x c Words k a = absurd a
certificate_kind i x c Refused k a = absurd a
certificate_kind i x c FlipBudget k a = absurd a
certificate_kind i x c Memory k a = absurd a
certificate_kind i x c ReadFault k a = absurd a
certificate_kind i x c WriteFault k a = absurd a

shown_has_none : (i : Problem) (x : Solution) (c : Cert) → IsProblem i.points i.inputs → IsShown i x c → HasNo i x c → ⊥
shown_has_none i x c problem shown (fault, is) = shown_clear i x c fault problem shown is

module _ (bytes others last : List ℕ) where
  verify_once : (s t : Status) (k l : List ℕ) → VerifySays bytes others last s k → VerifySays bytes others last t l → s ≡ t
  verify_once s t k l (inl (d, p)) (inl (e, q)) = d ∙ sym e
  verify_once s t k l (inl (d, p)) (inr (i, x, c, a, b, r, says)) = absurd (all_faultless bytes others last k i x c a b r p)
  verify_once s t k l (inr (i, x, c, a, b, r, says)) (inl (e, q)) = absurd (all_faultless bytes others last l i x c a b r q)
  verify_once s t k l (inr (i, x, c, a, b, r, says)) (inr (j, y, d, e, f, g, told)) =
      let problem = instance_once bytes i j a e in
      let given = solution.spelled_once others x y b.1 f.1 in
      let read = texts_spell_once last c d r g in
      let other = subst (λ p. CertificateSays p x c t l) (sym problem) (subst (λ z. CertificateSays j z c t l) (sym given) (subst (λ z. CertificateSays j y z t l) (sym read) told)) in
      one_of_two s t Done No (IsShown i x c) (HasNo i x c) (IsShown i x c) (HasNo i x c)
      (shown_has_none i x c a.problem) (shown_has_none i x c a.problem) (certificate_kind i x c s k says) (certificate_kind i x c t l other)

run_kind : (i : Problem) (n : ℕ) (s : Status) (k : List ℕ) → RunSays i n s k → ((s ≡ Done) × (n < length i.inputs)) ⊎ ((s ≡ Refused) × (length i.inputs ≤ n))
run_kind i n Done k (flips, run, told) = inl (refl, slice_get_within i.inputs n run.input run.there)
run_kind i n Refused k (past, told) = inr (refl, past)
run_kind i n Words k a = absurd a
run_kind i n FlipBudget k a = absurd a
run_kind i n Memory k a = absurd a
run_kind i n ReadFault k a = absurd a
run_kind i n WriteFault k a = absurd a
run_kind i n No k a = absurd a

module _ (bytes : List ℕ) (n : ℕ) where
  trace_once : (s t : Status) (k l : List ℕ) → TraceSays bytes n s k → TraceSays bytes n t l → s ≡ t
  trace_once s t k l (inl (d, p)) (inl (e, q)) = d ∙ sym e
  trace_once s t k l (inl (d, p)) (inr (i, a, says)) = absurd (valid_faultless bytes a.raw k a.valid p)
  trace_once s t k l (inr (i, a, says)) (inl (e, q)) = absurd (valid_faultless bytes a.raw l a.valid q)
  trace_once s t k l (inr (i, a, says)) (inr (j, c, told)) =
      one_of_two s t Done Refused (n < length i.inputs) (length i.inputs ≤ n) (n < length i.inputs) (length i.inputs ≤ n)
      (λ p q. not-le_of_lt p q) (λ p q. not-le_of_lt p q) (run_kind i n s k says) (run_kind i n t l (subst (λ p. RunSays p n t l) (sym (instance_once bytes i j a c)) told))

book_done : (i : Problem) (seed : ℕ) (s : Status) (k : List ℕ) → BookSays i seed s k → s ≡ Done
book_done i seed Done k a = refl
book_done i seed Refused k a = absurd a
book_done i seed Words k a = absurd a
book_done i seed FlipBudget k a = absurd a
book_done i seed Memory k a = absurd a
book_done i seed ReadFault k a = absurd a
book_done i seed WriteFault k a = absurd a
book_done i seed No k a = absurd a

module _ (seed n m : ℕ) where
  bench_once : (s t : Status) (k l : List ℕ) → BenchSays seed n m s k → BenchSays seed n m t l → s ≡ t
  bench_once s t k l (raw, is, says) (other, too, told) =
      go says (subst (λ r. RawSays r (λ i. BookSays i seed) t l) (sym (instances_are_generated_once seed n m raw other is too)) told)
    where
      go : RawSays raw (λ i. BookSays i seed) s k → RawSays raw (λ i. BookSays i seed) t l → s ≡ t
      go (inl (bad, d, first, line)) (inl (worse, e, one, words)) = d ∙ sym e
      go (inl (bad, d, first, line)) (inr (i, accepted, problem, told)) = absurd (accepted.valid bad first.holds)
      go (inr (i, accepted, problem, says)) (inl (bad, e, first, line)) = absurd (accepted.valid bad first.holds)
      go (inr (i, accepted, problem, says)) (inr (j, accepting, sound, told)) = book_done i seed s k says ∙ sym (book_done j seed t l told)

module _ (held : Held) where
  -- one name holds one file
  same_file : (P : List ℕ → Type 0) (name bytes others : List ℕ) → map.get held name ≡ Some bytes → map.get held name ≡ Some others → P others → P bytes
  same_file P name bytes others e f p = subst P (sym (some_once bytes others (sym e ∙ f))) p

  command_once : (c : Asked) (s t : Status) (k l : List ℕ) (f g : Files) → CommandSays (Some held) c s k f → CommandSays (Some held) c t l g → s ≡ t
  command_once (Check name) s t k l f g (bytes, there, says, none) (others, here, told, empty) =
      check_once bytes s t k l says (same_file (λ b. CheckSays b t l) name bytes others there here told)
  command_once (Score first second) s t k l f g (bytes, others, there, here, says, none) (bs, os, with_first, with_second, told, empty) =
      score_once bytes others s t k l says
      (same_file (λ b. ScoreSays b others t l) first bytes bs there with_first (same_file (λ o. ScoreSays bs o t l) second others os here with_second told))
  command_once (Solve name target certificate workers turns seed flips) s t k l f g (bytes, texts, there, says, file) (others, other, here, told, same) =
      let options : SolveOptions = record { workers = workers; turns = turns; seed = seed; flips = flips } in
      solve_once bytes options s t k l texts other says (same_file (λ b. SolveSays b options t l other) name bytes others there here told)
  command_once (Verify first second third) s t k l f g (bytes, others, last, there, here, along, says, none) (bs, os, ls, with_first, with_second, with_third, told, empty) =
      verify_once bytes others last s t k l says
      (same_file (λ b. VerifySays b others last t l) first bytes bs there with_first
      (same_file (λ o. VerifySays bs o last t l) second others os here with_second
      (same_file (λ e. VerifySays bs os e t l) third last ls along with_third told)))
  command_once (Trace name n) s t k l f g (bytes, there, says, none) (others, here, told, empty) =
      trace_once bytes n s t k l says (same_file (λ b. TraceSays b n t l) name bytes others there here told)
  command_once (Bench seed n m) s t k l f g (says, none) (told, empty) = bench_once seed n m s t k l says told

  command_reads : (c : Asked) (s : Status) (k : List ℕ) (f : Files) → CommandSays (Some held) c s k f → LacksFile (Some held) c → ⊥
  command_reads (Check name) s k f (bytes, there, says, none) lacks = held_there held name bytes there lacks
  command_reads (Score first second) s k f (bytes, others, there, here, says, none) (inl lacks) = held_there held first bytes there lacks
  command_reads (Score first second) s k f (bytes, others, there, here, says, none) (inr lacks) = held_there held second others here lacks
  command_reads (Solve name target certificate workers turns seed flips) s k f (bytes, text, there, says, file) lacks = held_there held name bytes there lacks
  command_reads (Verify first second third) s k f (bytes, others, last, there, here, along, says, none) (inl lacks) = held_there held first bytes there lacks
  command_reads (Verify first second third) s k f (bytes, others, last, there, here, along, says, none) (inr (inl lacks)) = held_there held second others here lacks
  command_reads (Verify first second third) s k f (bytes, others, last, there, here, along, says, none) (inr (inr lacks)) = held_there held third last along lacks
  command_reads (Trace name n) s k f (bytes, there, says, none) lacks = held_there held name bytes there lacks
  command_reads (Bench seed n m) s k f says lacks = lacks

module _ (words : List (List ℕ)) (held : Held) where
  pub says_once : (s t : Status) (k l : List ℕ) (f g : Files) → Says words (Some held) s k f → Says words (Some held) t l g → s ≡ t
  says_once s t k l f g (inl (unasked, d, line, none)) (inl (unknown, e, told, empty)) = d ∙ sym e
  says_once s t k l f g (inl (unasked, d, line, none)) (inr (c, asks, says)) = absurd (unasked c asks)
  says_once s t k l f g (inr (c, asks, says)) (inl (unknown, e, told, empty)) = absurd (unknown c asks)
  says_once s t k l f g (inr (c, asks, inl says)) (inr (d, other, inl told)) =
      command_once held c s t k l f g says (subst (λ e. CommandSays (Some held) e t l g) (sym (words_ask_once words c d asks other)) told)
  says_once s t k l f g (inr (c, asks, inl says)) (inr (d, other, inr (lacks, e, line, none))) =
      absurd (command_reads held c s k f says (subst (LacksFile (Some held)) (sym (words_ask_once words c d asks other)) lacks))
  says_once s t k l f g (inr (c, asks, inr (lacks, e, line, none))) (inr (d, other, inl told)) =
      absurd (command_reads held d t l g told (subst (LacksFile (Some held)) (words_ask_once words c d asks other) lacks))
  says_once s t k l f g (inr (c, asks, inr (lacks, e, line, none))) (inr (d, other, inr (lacking, h, told, empty))) = e ∙ sym h

-- where no read fault was counted, a file that wasn't read is one that isn't held, and so the run says
pub read_fault_says : (words : List (List ℕ)) (told : Held) (status : Status) (line : List ℕ) (files : Files) (before now : ℕ) → HasReadCause words (Some told) before now → ¬ Rose before now → Says words (Some told) status line files → ReadFault ≡ status
read_fault_says words told status line files before now (inl rose) none says = absurd (none rose)
read_fault_says words told status line files before now (inr (c, asks, lacks)) none says =
    says_once words told ReadFault status [] line [] files (inr (c, asks, inr (lacks, refl, refl, refl))) says
