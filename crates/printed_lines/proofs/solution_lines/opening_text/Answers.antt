use Rattle.std.proofs.Common.{◌≡◌, ◌∙◌, refl, append_assoc, string_bytes}
use Rattle.std.proofs.lemmas.Result.{IfOk-weaker}
use Rattle.printed_lines.specs.Lines.{opening_line}
use Rattle.printed_lines.proofs.solution_lines.opening_text.Goals as goal

pub returns : goal.returns
returns c = IfOk-weaker c.format.result _ (λ s. string_bytes s ≡ opening_line c.args.opening c.args.total c.args.bound) (λ s h. h ∙ simp append_assoc refl) c.format.ensures.ok
