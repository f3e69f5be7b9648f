use Rattle.std.proofs.Common.{◌∙◌, ap, subst, sym}
use Rattle.clap.specs.Faults.{fault_of, is_simple_and_free}
use Rattle.clap.specs.Kinds.{HasKind}
use Rattle.centre_words.specs.Words.{texts}
use Rattle.centre_words.proofs.Tops.{only_memory, simple_and_free}
use Rattle.centre_words.proofs.command.parse.Goals as goal

pub returns-in-Ok-clause-passes : goal.returns-in-Ok-clause-passes
returns-in-Ok-clause-passes c =
    let e = c.in_ok-command.ensures in
    ap (λ a. fault_of a (texts c.args.words.now)) (sym e) ∙ c.in-Ok.ensures.kinds (ap is_simple_and_free e ∙ simple_and_free)

pub returns : goal.returns
returns c =
    let e = c.in_ok-command.ensures in
    let kinds = c.in-Err.ensures.kinds (ap is_simple_and_free e ∙ simple_and_free) in
    record {
      matches = tt;
      passes = tt;
      refuses = λ none.
          let memory = only_memory c.in-Err.error (subst (λ k. HasKind k c.in-Err.error) (ap (λ a. fault_of a (texts c.args.words.now)) e ∙ none) kinds) in
          absurd (c.in_default.not-OutOfMemory (c.kind.ensures ∙ memory));
    }
