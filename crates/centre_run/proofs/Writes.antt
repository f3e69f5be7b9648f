-- What the files of `solve` hold once it is done.
use Rattle.std.proofs.Common.{◌≡◌, ◌≢◌, ◌∙◌, inl, inr, sym, ap, refl, subst, ℕ, List, [], ◌∷◌, Option, Some, None, cond}
use Rattle.std.specs.FinMap as map
use Rattle.std.specs.Ordering.{is_eq}
use Rattle.std.specs.Cmp.Lexicographic.{nat_list_cmp_total}
use Rattle.std.proofs.lemmas.Cmp.{tied_itself}
use Rattle.host_io.specs.Store.{Held}
use Rattle.tri_check.specs.Problems.{Problem}
use Rattle.solution_json.specs.declared.solution.Solution.{Solution}
use Rattle.solution_json.specs.Texts.{text_of}
use Rattle.cert_text.specs.declared.cert.Cert.{Cert}
use Rattle.cert_text.specs.Texts.{cert_text}
use Rattle.book_solve.specs.declared.order.Order.{Order}
use Rattle.book_cert.specs.Written.{IsWritten}
use Rattle.centre_words.specs.declared.asked.Asked.TheVariants.{Solve}
use Rattle.centre_words.specs.Words.{Asks}
use Rattle.centre_words.proofs.Meets.{words_ask_once}
use Rattle.centre_words.proofs.Differ.{three_differ}
use Rattle.printed_lines.specs.Lines.{solved_line}
use Rattle.centre_run.specs.declared.solving.SolveOptions.{SolveOptions}
use Rattle.centre_run.specs.declared.solving.Texts.{Texts}
use Rattle.centre_run.specs.declared.status.Status.TheVariants.{Done, Refused, Words, ReadFault}
use Rattle.centre_run.specs.Orders.{order_of}
use Rattle.centre_run.specs.Runs.{MayHold, SpellsInstance, AreFound, SolveSays, Files, files_under, CommandSays, HasWritten, Does, IsTold, SolveWrites, WritesWhatVerifies}
use Rattle.centre_run.proofs.Saying.{other_name}

-- bytes that were put under a name are held there
same_name : (held : Held) (name bytes : List ℕ) → map.get (map.insert held name bytes) name ≡ Some bytes
same_name held name bytes = map.get-insert nat_list_cmp_total held name bytes name ∙ ap (λ o. cond (is_eq o) (Some bytes) (map.get held name)) (tied_itself nat_list_cmp_total name)

-- what two files hold that were written one after the other, and what another name holds
module _ (first second third bytes one other : List ℕ) (apart : (first ≢ second) × (first ≢ third) × (second ≢ third)) where
  abbrev both : Files
  both = (second, one) ∷ (third, other) ∷ []

  two_hold : (old new : Option Held) → HasWritten old new both → MayHold old first bytes → MayHold new first bytes × MayHold new second one × MayHold new third other
  two_hold None new written there = subst (λ held. MayHold held first bytes × MayHold held second one × MayHold held third other) (sym written) (tt, tt, tt)
  two_hold (Some held) new (later, is, all) there = subst (λ h. MayHold h first bytes × MayHold h second one × MayHold h third other) (sym (is ∙ ap (λ h. Some h) all)) (
    other_name (map.insert held second one) first third other apart.1 ∙ (other_name held first second one apart.0 ∙ there),
    other_name (map.insert held second one) second third other apart.2 ∙ same_name held second one,
    same_name (map.insert held second one) third other,
  )

-- what a run of `solve` that is done has found, and where it stands
pub record IsFoundIn (options : SolveOptions) (first second third : List ℕ) (old new : Option Held) (line : List ℕ) : Type 0 where
  pub bytes : List ℕ
  pub instance : Problem
  pub solution : Solution
  pub cert : Cert
  pub found : AreFound instance (order_of instance options) solution cert
  pub there : MayHold old first bytes
  pub spells : SpellsInstance bytes instance
  pub told : line ≡ solved_line cert.total cert.bound
  pub instance_kept : MayHold new first bytes
  pub solution_held : MayHold new second (text_of solution)
  pub certificate_held : MayHold new third (cert_text cert)

not_refused : Done ≡ Refused → ⊥
not_refused e = cc

not_words : Done ≡ Words → ⊥
not_words e = cc

not_unread : Done ≡ ReadFault → ⊥
not_unread e = cc

module _ (words : List (List ℕ)) (old new : Option Held) (line first second third : List ℕ) (options : SolveOptions) (asks : Asks words (Solve first second third options.workers options.turns options.seed options.flips)) where
  of_says : (bytes : List ℕ) (texts : Option Texts) (files : Files) → MayHold old first bytes → SolveSays bytes options Done line texts → files ≡ files_under second third texts → HasWritten old new files → IsFoundIn options first second third old new line
  of_says bytes texts files there (inl (refused, names, none)) under written = absurd (not_refused refused)
  of_says bytes texts files there (inr (instance, spells, (solution, cert, found, told, are))) under written =
      let hold = two_hold first second third bytes (text_of solution) (cert_text cert) ((three_differ first second third).1 asks.differ) old new
      (subst (λ (t : Option Texts). HasWritten old new (files_under second third t)) are (subst (HasWritten old new) under written)) there in
      record { bytes = bytes; instance = instance; solution = solution; cert = cert; found = found; there = there; spells = spells; told = told; instance_kept = hold.0; solution_held = hold.1; certificate_held = hold.2 }

  of_command : (files : Files) → CommandSays old (Solve first second third options.workers options.turns options.seed options.flips) Done line files → HasWritten old new files → IsFoundIn options first second third old new line
  of_command files (bytes, texts, there, says, under) written = of_says bytes texts files there says under written

  pub found_in : Does words old new Done line → IsFoundIn options first second third old new line
  found_in (files, inl (unasked, is, told, none), written) = absurd (not_words is)
  found_in (files, inr (c, asked, inl says), written) = of_command files (subst (λ d. CommandSays old d Done line files) (words_ask_once words c (Solve first second third options.workers options.turns options.seed options.flips) asked asks) says) written
  found_in (files, inr (c, asked, inr (lacks, is, told, none)), written) = absurd (not_unread is)

-- what holds of all that is found holds of what is written
pub done_writes : (words : List (List ℕ)) (old new : Option Held) (line : List ℕ) (Holds : (instance : Problem) (order : Order) (solution : Solution) (cert : Cert) → IsWritten instance order solution cert → Type 0)
    → ((instance : Problem) (order : Order) (solution : Solution) (cert : Cert) (found : AreFound instance order solution cert) → Holds instance order solution cert found.written) → Does words old new Done line → SolveWrites words old new Holds
done_writes words old new line Holds holds does = λ first second third workers turns seed flips asks.
    let options : SolveOptions = record { workers = workers; turns = turns; seed = seed; flips = flips } in
    let F = found_in words old new line first second third options asks does in
    (F.bytes, F.instance, F.solution, F.cert, F.found.written, F.there, F.spells, F.solution_held, F.certificate_held, holds F.instance (order_of F.instance options) F.solution F.cert F.found)

-- and `verify` says yes of it
pub done_verifies : (words : List (List ℕ)) (held later : Option Held) (line : List ℕ) (old new : Option (List ℕ)) → Does words held later Done line → IsTold old new line → WritesWhatVerifies words later old new
done_verifies words held later line old new does told = λ first second third workers turns seed flips asks.
    let options : SolveOptions = record { workers = workers; turns = turns; seed = seed; flips = flips } in
    let F = found_in words held later line first second third options asks does in (
      F.cert.total,
      F.cert.bound,
      subst (IsTold old new) F.told told,
      (
        F.bytes,
        text_of F.solution,
        cert_text F.cert,
        F.instance_kept,
        F.solution_held,
        F.certificate_held,
        inr (F.instance, F.solution, F.cert, F.spells, F.found.solution_text, F.found.certificate_text, (F.found.shown, F.found.proved, refl)),
        refl,
      ),
    )
