use Rattle.std.proofs.Common.{◌∙◌, sym}
use Rattle.round_pack.proofs.Slots.{holds}
use Rattle.round_pack.proofs.Numbers.{number_in, none_in}
use Rattle.round_pack.proofs.number.last_number.Goals as goal

pub number_at-requires : goal.number_at-requires
number_at-requires c = (holds c.args.slots.now c.args.t c.in-Some.place (sym c.last_maker.ensures ∙ c.in-Some.is)).2

pub returns-in-Some : goal.returns-in-Some
returns-in-Some c = c.number_at.ensures ∙ number_in c.args.slots.now c.args.t c.in-Some.place c.requires.numbered (sym c.last_maker.ensures ∙ c.in-Some.is)

pub returns-in-None : goal.returns-in-None
returns-in-None c = none_in c.args.slots.now c.args.t (sym c.last_maker.ensures ∙ c.in-None.is)
