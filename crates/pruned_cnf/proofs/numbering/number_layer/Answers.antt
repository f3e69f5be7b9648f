use Rattle.std.proofs.Common.{◌<◌, length, ap, arith}
use Rattle.formula_law.specs.Frames.{Frame}
use Rattle.formula_parts.specs.Lists.{no_edge, edge_at}
use Rattle.pruned_cnf.specs.Queries.{live_in, place_in, place_number}
use Rattle.pruned_cnf.specs.Numbered.{places_before}
use Rattle.pruned_cnf.proofs.Numbers.{given, more_entries, more_kept, all_kept, place_few, next_place}
use Rattle.pruned_cnf.proofs.numbering.number_layer.Goals as goal

pub push-requires : goal.push-requires
push-requires c = let q = c.args.query.now in omega (arith, place_few q.frame (live_in q) q.rounds c.args.t c.loop-n.n c.requires.layer, c.requires.few, c.loop-n.invariant.last)

pub loop-n-preserved : goal.loop-n-preserved
loop-n-preserved c =
    let q = c.args.query.now in
    let l : c.loop-n.n < length q.frame.segments = omega (arith, c.loop-n-test.true, c.segments-n-end.ensures.count, ap (λ (F : Frame). length F.segments) c.lists.ensures.lists) in
    let e = edge_at q.frame.segments c.loop-n.n in
    record {
      entries =
          more_entries (place_number q c.args.t) q.frame.segments c.loop-n.n no_edge c.args.numbers.now.entries.items c.loop-n.numbers.entries.items c.push.new.self.entries.items _ l c.loop-n.invariant.entries c.in_ok-push.ensures.entries
          (given c.is_live.result (live_in q c.args.t e) _ c.loop-n.numbers.last (place_in q c.args.t e) c.is_live.ensures c.loop-n.invariant.last (λ h. next_place q.points q.frame c.lists.ensures.query.frame (live_in q) q.rounds c.args.t c.loop-n.n c.requires.layer l h));
      last = more_kept (live_in q c.args.t) q.frame.segments c.loop-n.n no_edge (places_before q c.args.t) c.loop-n.numbers.last c.push.new.self.last c.is_live.result l c.is_live.ensures c.loop-n.invariant.last c.in_ok-push.ensures.last;
    }

pub returns-clause-last : goal.returns-clause-last
returns-clause-last c = let q = c.args.query.now in omega (arith, all_kept (live_in q) q.frame.segments c.loop-n.n c.args.t 0 c.loop-n.numbers.last (omega (arith, c.loop-n-test.false, c.segments-n-end.ensures.count, ap (λ (F : Frame). length F.segments) c.lists.ensures.lists)) (omega (arith, c.loop-n.invariant.last)))
