use Rattle.std.proofs.Common.{◌∙◌, length, sym, ap₂}
use Rattle.round_pack.specs.Chains.{later}
use Rattle.round_pack.proofs.Chains.{maker_by_sides}
use Rattle.round_pack.proofs.chain.last_maker.Goals as goal

pub returns : goal.returns
returns c =
    c.later-2.ensures ∙ ap₂ later c.walk-first.ensures (c.later.ensures ∙ ap₂ later c.walk-second.ensures c.walk-third.ensures) ∙ sym (maker_by_sides (length c.args.heads.now) c.args.slots.now c.args.t c.requires.ordered)
