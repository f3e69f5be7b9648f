use Rattle.std.proofs.Common.{◌∙◌, []}
use Rattle.formula_parts.proofs.Appending.{next_takes}
use Rattle.flip_cnf.proofs.Writing.{fewer, first, second, takes_1, takes_2, takes_third, takes_fourth, takes_fifth, all_written}
use Rattle.flip_cnf.proofs.build.write.Goals as goal

pub add_layer-requires-clause-takes : goal.add_layer-requires-clause-takes
add_layer-requires-clause-takes c = takes_1 c.args.lists.now c.args.from.now.edges c.args.to.now.edges c.args.k c.requires.frame c.requires.few c.make-cnf.result (c.make-cnf.ensures ∙ (λ i. record { variables = c.variables.ensures i; clauses = [] }))

pub add_layer-requires-2-clause-takes : goal.add_layer-requires-2-clause-takes
add_layer-requires-2-clause-takes c =
    next_takes c.make-cnf.result c.add_layer.new.cnf (first c.args.lists.now c.args.from.now.edges c.args.to.now.edges c.args.k) (second c.args.lists.now c.args.from.now.edges c.args.to.now.edges c.args.k)
    (takes_2 c.args.lists.now c.args.from.now.edges c.args.to.now.edges c.args.k c.requires.frame c.requires.few c.make-cnf.result (c.make-cnf.ensures ∙ (λ i. record { variables = c.variables.ensures i; clauses = [] }))) c.in_ok-add_layer.ensures

pub add_all_crossings-requires-clause-takes : goal.add_all_crossings-requires-clause-takes
add_all_crossings-requires-clause-takes c = takes_third c.args.lists.now c.args.from.now.edges c.args.to.now.edges c.args.k c.requires.frame c.requires.few c.make-cnf.result (c.make-cnf.ensures ∙ (λ i. record { variables = c.variables.ensures i; clauses = [] })) c.add_layer.new.cnf c.add_layer-2.new.cnf c.in_ok-add_layer.ensures c.in_ok-add_layer-2.ensures

pub add_all_flips-requires-clause-few : goal.add_all_flips-requires-clause-few
add_all_flips-requires-clause-few c = fewer c.args.lists.now c.args.k 400_000 c.requires.few

pub add_all_flips-requires-clause-takes : goal.add_all_flips-requires-clause-takes
add_all_flips-requires-clause-takes c = takes_fourth c.args.lists.now c.args.from.now.edges c.args.to.now.edges c.args.k c.requires.frame c.requires.few c.make-cnf.result (c.make-cnf.ensures ∙ (λ i. record { variables = c.variables.ensures i; clauses = [] })) c.add_layer.new.cnf c.add_layer-2.new.cnf c.in_ok-add_layer.ensures c.in_ok-add_layer-2.ensures c.add_all_crossings.new.cnf c.in_ok-add_all_crossings.ensures

pub add_all_changes-requires-clause-few : goal.add_all_changes-requires-clause-few
add_all_changes-requires-clause-few c = fewer c.args.lists.now c.args.k 400_000 c.requires.few

pub add_all_changes-requires-clause-takes : goal.add_all_changes-requires-clause-takes
add_all_changes-requires-clause-takes c = takes_fifth c.args.lists.now c.args.from.now.edges c.args.to.now.edges c.args.k c.requires.frame c.requires.few c.make-cnf.result (c.make-cnf.ensures ∙ (λ i. record { variables = c.variables.ensures i; clauses = [] })) c.add_layer.new.cnf c.add_layer-2.new.cnf c.in_ok-add_layer.ensures c.in_ok-add_layer-2.ensures c.add_all_crossings.new.cnf c.in_ok-add_all_crossings.ensures c.add_all_flips.new.cnf c.in_ok-add_all_flips.ensures

pub returns : goal.returns
returns c = all_written c.args.lists.now c.args.from.now.edges c.args.to.now.edges c.args.k c.requires.frame c.requires.few c.make-cnf.result (c.make-cnf.ensures ∙ (λ i. record { variables = c.variables.ensures i; clauses = [] })) c.add_layer.new.cnf c.add_layer-2.new.cnf c.in_ok-add_layer.ensures c.in_ok-add_layer-2.ensures c.add_all_crossings.new.cnf c.in_ok-add_all_crossings.ensures c.add_all_flips.new.cnf c.in_ok-add_all_flips.ensures c.add_all_changes.new.cnf c.in_ok-add_all_changes.ensures
