use Rattle.std.proofs.Common.{◌+◌, ◌*◌, sym, ap, ◌∙◌}
use Rattle.formula_law.specs.Formula.{literal}
use Rattle.flip_cnf.proofs.Variables.{there_is}
use Rattle.flip_cnf.proofs.numbers.there.Goals as goal

pub returns : goal.returns
returns c =
    ap (λ v. literal v c.args.on)
    (ap (λ s. c.args.t * s + c.args.n + 1) c.segments.ensures.count ∙ sym (there_is c.requires.frame.points c.args.lists.now c.requires.frame.frame c.args.t c.args.n c.requires.within))
