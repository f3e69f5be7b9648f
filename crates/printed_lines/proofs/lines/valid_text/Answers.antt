use Rattle.std.proofs.Common.{◌≡◌, ◌∙◌, refl, append_assoc, string_bytes}
use Rattle.std.proofs.lemmas.Result.{IfOk-weaker}
use Rattle.printed_lines.specs.Lines.{valid_line}
use Rattle.printed_lines.proofs.lines.valid_text.Goals as goal

pub returns : goal.returns
returns c = IfOk-weaker c.format.result _ (λ s. string_bytes s ≡ valid_line c.args.points c.args.inputs) (λ s h. h ∙ simp append_assoc refl) c.format.ensures.ok
