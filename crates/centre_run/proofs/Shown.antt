-- What the verifier accepts is proved, and what is said of values is said of the texts that spell them.
use Rattle.std.proofs.Common.{◌≡◌, ◌∙◌, inl, inr, sym, ap₂, subst, ℕ, ◌≤◌, List, Ok, Err, string_bytes}
use Rattle.std.specs.Prelude.{Result, IfOk, String}
use Rattle.std.specs.declared.alloc.Global.{Global}
use Rattle.std.specs.declared.alloc.AllocError.{AllocError}
use Rattle.edge_table.specs.declared.edge.Edge.{Edge}
use Rattle.tri_theory.specs.Rounds.{IsPlan, total}
use Rattle.tri_check.specs.Problems.{Problem}
use Rattle.tri_check.specs.declared.raw.RawInstance.{RawInstance}
use Rattle.instance_json.specs.Faults.{HasForm}
use Rattle.instance_json.specs.Forms.{Spells}
use Rattle.solution_json.specs.Faults as solution_fault
use Rattle.solution_json.specs.Forms as solution_form
use Rattle.cert_text.specs.Forms as cert_form
use Rattle.solution_json.specs.declared.solution.Solution.{Solution}
use Rattle.cert_text.specs.declared.cert.Cert.{Cert}
use Rattle.verify_core.specs.Faults.{IsShown}
use Rattle.centre_run.specs.declared.reply.Quiet.{Quiet}
use Rattle.centre_run.specs.declared.reply.Reply.{Reply}
use Rattle.centre_run.specs.declared.status.Status.{Status}
use Rattle.centre_run.specs.declared.status.Status.TheVariants.{Done}
use Rattle.printed_lines.specs.VerifyLines.{yes_line}
use Rattle.centre_run.specs.Runs.{IsSolved, RawSays, CertificateSays, VerifySays}

pub shown_solved : (i : Problem) (s : Solution) (c : Cert) → IsShown i s c → IsSolved i s
shown_solved i s c (frame, V) = record { uid = V.solution_uid; centre = V.centre; plan = V.plan; distinct = V.distinct }

pub shown_says : (i : Problem) (s : Solution) (c : Cert) (proved bound : ℕ) (status : Status) (line : List ℕ) → IsShown i s c → proved ≡ total i.weights s.lists → proved ≡ c.total → bound ≡ c.bound
    → ((centre : List Edge) (schedules : List (List (List Edge))) → IsPlan i.points i.inputs centre schedules → bound ≤ total i.weights schedules)
    → status ≡ Done → line ≡ yes_line proved bound → CertificateSays i s c status line
shown_says i s c proved bound status line shown reached said is least done told =
    subst (λ t. CertificateSays i s c t line) (sym done) (
      shown,
      record {
        solved = shown_solved i s c shown;
        reached = sym said ∙ reached;
        least = λ centre schedules plan. subst (λ n. n ≤ total i.weights schedules) is (least centre schedules plan);
      },
      told ∙ ap₂ yes_line said is,
    )

-- a reply with the line of a yes says so
pub shown_reply : (i : Problem) (s : Solution) (c : Cert) (proved bound : ℕ) (reply : Result Reply Quiet) (text : Result (String Global) AllocError) → IsShown i s c → proved ≡ total i.weights s.lists → proved ≡ c.total → bound ≡ c.bound
    → ((centre : List Edge) (schedules : List (List (List Edge))) → IsPlan i.points i.inputs centre schedules → bound ≤ total i.weights schedules)
    → IfOk text (λ t. string_bytes t ≡ yes_line proved bound) → IfOk reply (λ r. r.status ≡ Done) → IfOk reply (λ r. text ≡ Ok r.line)
    → IfOk reply (λ r. CertificateSays i s c r.status (string_bytes r.line))
shown_reply i s c proved bound (Err quiet) text shown reached said is least told done line = tt
shown_reply i s c proved bound (Ok r) text shown reached said is least told done line =
    shown_says i s c proved bound r.status (string_bytes r.line) shown reached said is least done (subst (λ t. IfOk t (λ u. string_bytes u ≡ yes_line proved bound)) line told)

-- three texts say what the values say that they spell
pub texts_say : (bytes others last : List ℕ) (raw : RawInstance) (s : Solution) (c : Cert) (status : Status) (line : List ℕ) → HasForm bytes → Spells bytes raw → solution_fault.HasForm others → solution_form.Spells others s → cert_form.Spells last c
    → RawSays raw (λ i. CertificateSays i s c) status line → VerifySays bytes others last status line
texts_say bytes others last raw s c status line form spells has text read (inl (bad, refused, first, told)) = inl (refused, inr (inr (inr (raw, bad, c, has, read, spells, first, told))))
texts_say bytes others last raw s c status line form spells has text read (inr (i, accepted, problem, says)) =
    inr (i, s, c, record { raw = raw; valid = (form, spells, accepted.valid); accepted = accepted; problem = problem }, (has, text), read, says)
