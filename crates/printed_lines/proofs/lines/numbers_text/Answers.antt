use Rattle.std.proofs.Common.{◌≡◌, ◌∙◌, refl, [], ◌∷◌, append_assoc, decimal, string_bytes}
use Rattle.std.proofs.lemmas.Result.{IfOk-weaker}
use Rattle.printed_lines.specs.Lines.{line, instance_refused}
use Rattle.printed_lines.proofs.lines.numbers_text.Goals as goal

pub returns : goal.returns
returns c =
    IfOk-weaker c.format.result _ (λ s. string_bytes s ≡ line (instance_refused (c.args.name.now ∷ decimal c.args.first ∷ decimal c.args.second ∷ []))) (λ s h. h ∙ simp append_assoc refl) c.format.ensures.ok
