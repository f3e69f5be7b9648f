use Rattle.std.proofs.Common.{length, ◌∙◌, refl}
use Rattle.match_bound.specs.Tables.{weight}
use Rattle.match_bound.proofs.Trees.{tree_begun, tree_grows, open_input}
use Rattle.match_bound.proofs.search.search.Goals as goal

pub loop-near-init : goal.loop-near-init
loop-near-init c = record {
  tree = tree_begun (weight c.args.w.now) (length c.args.w.now) c.args.target c.args.image.now c.args.u.now c.args.v.now c.requires.stage.matching c.begin.new.labels c.clear.new.reach c.requires.below c.begin.ensures.long (c.clear.ensures.long ∙ c.requires.reach_long) c.begin.ensures.first c.clear.ensures.none;
  nearest = c.nearest-near.ensures;
}

pub nearest-near-requires-in-Some : goal.nearest-near-requires-in-Some
nearest-near-requires-in-Some c =
    open_input (length c.args.w.now) c.args.target c.args.image.now c.requires.stage.matching c.requires.below (weight c.args.w.now) c.args.u.now c.args.v.now c.visit.new.labels _
    (tree_grows (weight c.args.w.now) (length c.args.w.now) c.args.target c.args.image.now c.args.u.now c.args.v.now c.requires.stage.matching c.requires.stage.covers c.requires.below c.loop-near.labels c.loop-near.reach c.loop-near.invariant.tree c.loop-near.near c.in-Some.j c.loop-near.invariant.nearest
    c.in-Some.is c.visit.new.labels c.visit.ensures.long c.visit.ensures.settled c.visit.ensures.others c.visit.ensures.fewer _ refl)

pub loop-near-preserved : goal.loop-near-preserved
loop-near-preserved c = record {
  tree = tree_grows (weight c.args.w.now) (length c.args.w.now) c.args.target c.args.image.now c.args.u.now c.args.v.now c.requires.stage.matching c.requires.stage.covers c.requires.below c.loop-near.labels c.loop-near.reach c.loop-near.invariant.tree c.loop-near.near c.in-Some.j c.loop-near.invariant.nearest
      c.in-Some.is c.visit.new.labels c.visit.ensures.long c.visit.ensures.settled c.visit.ensures.others c.visit.ensures.fewer _ refl;
  nearest = c.nearest-near-in-Some.ensures;
}
