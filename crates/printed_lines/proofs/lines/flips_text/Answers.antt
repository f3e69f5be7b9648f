use Rattle.std.proofs.Common.{◌≡◌, ◌∙◌, refl, append_assoc, string_bytes}
use Rattle.std.proofs.lemmas.Result.{IfOk-weaker}
use Rattle.printed_lines.specs.Lines.{flips_line}
use Rattle.printed_lines.proofs.lines.flips_text.Goals as goal

pub returns : goal.returns
returns c = IfOk-weaker c.format.result _ (λ s. string_bytes s ≡ flips_line c.args.flips c.args.bound) (λ s h. h ∙ simp append_assoc refl) c.format.ensures.ok
