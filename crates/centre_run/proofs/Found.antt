-- What a solver finds is what `solve` says and writes.
use Rattle.std.proofs.Common.{◌≡◌, sym, subst, ℕ, List, Option, Some, Ok, Err, string_bytes}
use Rattle.std.specs.Prelude.{Result, IfOk}
use Rattle.tri_check.specs.Problems.{Problem}
use Rattle.cert_text.specs.declared.cert.Cert.{Cert}
use Rattle.cert_text.specs.Texts.{cert_text}
use Rattle.cert_text.specs.Forms as cert_form
use Rattle.verify_core.specs.Faults.{IsShown}
use Rattle.solution_json.specs.declared.solution.Solution.{Solution}
use Rattle.solution_json.specs.Texts.{text_of}
use Rattle.solution_json.specs.Forms.{Spells}
use Rattle.solution_json.proofs.Firsts.{form_of_text}
use Rattle.solution_json.proofs.Whole.{no_form_fault}
use Rattle.book_solve.specs.declared.order.Order.{Order}
use Rattle.book_cert.specs.Written.{IsWritten}
use Rattle.centre_run.specs.declared.reply.Quiet.{Quiet}
use Rattle.centre_run.specs.declared.solving.Solved.{Solved}
use Rattle.centre_run.specs.declared.solving.Texts.{Texts}
use Rattle.centre_run.specs.declared.status.Status.{Status}
use Rattle.centre_run.specs.declared.status.Status.TheVariants.{Done}
use Rattle.printed_lines.specs.Lines.{solved_line}
use Rattle.centre_run.specs.Runs.{AreFound, OrderSays}
use Rattle.centre_run.proofs.Shown.{shown_solved}

module _ (i : Problem) (o : Order) (s : Solution) (c : Cert) where
  found_of : IsWritten i o s c → IsShown i s c → Spells (text_of s) s → cert_form.Spells (cert_text c) c → AreFound i o s c
  found_of written shown spells read = record {
    written = written;
    proved = record { solved = shown_solved i s c shown; reached = written.replayable.rounds; least = written.below };
    shown = shown;
    solution_text = (form_of_text (text_of s) spells.value spells.text (no_form_fault spells.value s spells.is), spells);
    certificate_text = read;
  }

  pub found_says : (status : Status) (line : List ℕ) (texts : Option Texts) → IsWritten i o s c → IsShown i s c → Spells (text_of s) s → cert_form.Spells (cert_text c) c → status ≡ Done → line ≡ solved_line c.total c.bound
      → texts ≡ Some (record { solution = text_of s; certificate = cert_text c }) → OrderSays i o status line texts
  found_says status line texts written shown spells read done told under = subst (λ t. OrderSays i o t line texts) (sym done) (s, c, found_of written shown spells read, told, under)

  -- what is found is said and written, where there is memory
  pub found_reply : (r : Result Solved Quiet) → IsWritten i o s c → IsShown i s c → IfOk r (λ _. Spells (text_of s) s) → IfOk r (λ _. cert_form.Spells (cert_text c) c) → IfOk r (λ x. x.reply.status ≡ Done)
      → IfOk r (λ x. string_bytes x.reply.line ≡ solved_line c.total c.bound) → IfOk r (λ x. x.texts ≡ Some (record { solution = text_of s; certificate = cert_text c })) → IfOk r (λ x. OrderSays i o x.reply.status (string_bytes x.reply.line) x.texts)
  found_reply (Err e) written shown spells read done told under = tt
  found_reply (Ok x) written shown spells read done told under = found_says x.reply.status (string_bytes x.reply.line) x.texts written shown spells read done told under
