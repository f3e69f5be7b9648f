use Rattle.std.proofs.Common.{◌∙◌, ◌<◌, ◌↔◌, Bool, List, Contains, length, subst, arith}
use Rattle.std.specs.Bool.{IsTrue}
use Rattle.pruned_cnf.proofs.Crossed.{members_more}
use Rattle.pruned_cnf.proofs.counting.members.Goals as goal

pub loop-n-preserved : goal.loop-n-preserved
loop-n-preserved c =
    let l : c.loop-n.n < length c.args.lists.now.segments = omega (arith, c.loop-n-test.true, c.segments-n-end.ensures.count) in
    ◌∙◌ {A = List Bool} c.in_ok-push.ensures.items
    (members_more c.args.lists.now.segments c.args.triang.now.edges c.loop-n.n c.loop-n.found.items c.has.result l c.loop-n.invariant
    (subst (λ e. IsTrue c.has.result ↔ Contains c.args.triang.now.edges e) c.segment.ensures c.has.ensures))
