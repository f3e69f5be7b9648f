use Rattle.std.proofs.Common.{◌≡◌, ◌∙◌, refl, [], ◌∷◌, append_assoc, decimal, string_bytes}
use Rattle.std.proofs.lemmas.Result.{IfOk-weaker}
use Rattle.printed_lines.specs.Lines.{spaced, edge_text}
use Rattle.printed_lines.proofs.fault_words.edges_fault_words.Goals as goal

pub returns : goal.returns
returns c =
    let low = c.low-low.ensures.low in
    let high = c.high-high.ensures.high in
    let from = c.low-from.ensures.low in
    let to = c.high-to.ensures.high in
    IfOk-weaker c.format.result _ (λ s. string_bytes s ≡ spaced (c.args.name.now ∷ decimal c.args.r ∷ edge_text c.args.e ∷ edge_text c.args.f ∷ []))
    (λ s h. h ∙ rw (low, high, from, to) (simp append_assoc refl)) c.format.ensures.ok
