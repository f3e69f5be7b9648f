use Rattle.flip_cnf.proofs.Variables.{made_is}
use Rattle.flip_cnf.proofs.numbers.place.Goals as goal

pub returns : goal.returns
returns c =
    let a = c.from.ensures in
    let b = c.from-2.ensures in
    let d = c.from-3.ensures in
    let e = c.from-4.ensures in
    let f = c.from-5.ensures in
    let s = c.segments.ensures.count in
    let w = c.flips.ensures.count in
    let m = made_is c.requires.frame.points c.args.lists.now c.requires.frame.frame c.args.k c.args.t c.args.n c.requires.within in
    cc
