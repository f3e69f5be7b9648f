use Rattle.std.proofs.Common.{◌≡◌, ◌∙◌, refl, append_assoc, string_bytes}
use Rattle.std.proofs.lemmas.Result.{IfOk-weaker}
use Rattle.tri_check.specs.declared.fault.Bad.TheVariants.{OpenSide}
use Rattle.printed_lines.specs.Lines.{bad_line}
use Rattle.printed_lines.proofs.lines.open_side_text.Goals as goal

pub returns : goal.returns
returns c =
    let low = c.low-low.ensures.low in
    let high = c.high-high.ensures.high in
    IfOk-weaker c.format.result _ (λ s. string_bytes s ≡ bad_line (OpenSide c.args.t c.args.e)) (λ s h. h ∙ rw (low, high) (simp append_assoc refl)) c.format.ensures.ok
