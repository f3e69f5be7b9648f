use Rattle.std.proofs.Common.{◌≡◌, ◌∙◌, refl, [], ◌∷◌, append_assoc, string_bytes}
use Rattle.std.proofs.lemmas.Result.{IfOk-weaker}
use Rattle.printed_lines.specs.Lines.{line, instance_refused}
use Rattle.printed_lines.proofs.lines.word_text.Goals as goal

pub returns : goal.returns
returns c =
    IfOk-weaker c.format.result _ (λ s. string_bytes s ≡ line (instance_refused (c.args.name.now ∷ c.args.word.now ∷ []))) (λ s h. h ∙ simp append_assoc refl) c.format.ensures.ok
