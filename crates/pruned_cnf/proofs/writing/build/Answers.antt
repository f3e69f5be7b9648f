use Rattle.std.proofs.Common.{◌≡◌, ◌∙◌, ◌≤◌, [], length, refl, sym, ap, subst, arith}
use Rattle.tri_theory.specs.Triangulations.{IsTriangulation}
use Rattle.pruned_cnf.specs.Queries.{Query, IsQuery, clauses_in, formula_in}
use Rattle.pruned_cnf.proofs.GroupsInTurn.{takes_1, takes_second, takes_third, takes_fourth, takes_fifth, all_written, start}
use Rattle.pruned_cnf.proofs.writing.build.Goals as goal

pub add_layer-requires-clause-edges : goal.add_layer-requires-clause-edges
add_layer-requires-clause-edges c =
    let N = c.in_ok-numbering.numbering in
    let e = c.in_ok-numbering.ensures in
    let Q : IsQuery N = subst IsQuery (sym e) c.lists-lists.ensures.query in
    let few : length (clauses_in N) ≤ 400_000 = subst (λ q. length (clauses_in q) ≤ 400_000) (sym e) c.requires in
    let from : c.from.result.now.edges ≡ N.from = c.from.ensures.edges ∙ ap (λ (q : Query). q.from) (sym e) in
    subst (IsTriangulation N.points) (sym from) Q.from

pub add_layer-requires-clause-takes : goal.add_layer-requires-clause-takes
add_layer-requires-clause-takes c =
    let N = c.in_ok-numbering.numbering in
    let e = c.in_ok-numbering.ensures in
    let Q : IsQuery N = subst IsQuery (sym e) c.lists-lists.ensures.query in
    let few : length (clauses_in N) ≤ 400_000 = subst (λ q. length (clauses_in q) ≤ 400_000) (sym e) c.requires in
    let from : c.from.result.now.edges ≡ N.from = c.from.ensures.edges ∙ ap (λ (q : Query). q.from) (sym e) in
    let is : c.make-cnf.result ≡ start N c.from.result.now.edges N.to N.rounds = c.make-cnf.ensures ∙ (λ i. record { variables = c.variables.ensures i; clauses = [] }) in
    takes_1 N c.from.result.now.edges N.to N.rounds Q few from refl refl c.make-cnf.result is

pub add_layer-requires-2-clause-layer : goal.add_layer-requires-2-clause-layer
add_layer-requires-2-clause-layer c =
    let N = c.in_ok-numbering.numbering in
    let e = c.in_ok-numbering.ensures in
    let Q : IsQuery N = subst IsQuery (sym e) c.lists-lists.ensures.query in
    let few : length (clauses_in N) ≤ 400_000 = subst (λ q. length (clauses_in q) ≤ 400_000) (sym e) c.requires in
    let from : c.from.result.now.edges ≡ N.from = c.from.ensures.edges ∙ ap (λ (q : Query). q.from) (sym e) in
    let to : c.to.result.now.edges ≡ N.to = c.to.ensures.edges ∙ ap (λ (q : Query). q.to) (sym e) in
    let rounds : c.rounds.result ≡ N.rounds = c.rounds.ensures ∙ ap (λ (q : Query). q.rounds) (sym e) in
    let is : c.make-cnf.result ≡ start N c.from.result.now.edges c.to.result.now.edges c.rounds.result = c.make-cnf.ensures ∙ (λ i. record { variables = c.variables.ensures i; clauses = [] }) in
    omega (arith, rounds)

pub add_layer-requires-2-clause-edges : goal.add_layer-requires-2-clause-edges
add_layer-requires-2-clause-edges c =
    let N = c.in_ok-numbering.numbering in
    let e = c.in_ok-numbering.ensures in
    let Q : IsQuery N = subst IsQuery (sym e) c.lists-lists.ensures.query in
    let few : length (clauses_in N) ≤ 400_000 = subst (λ q. length (clauses_in q) ≤ 400_000) (sym e) c.requires in
    let from : c.from.result.now.edges ≡ N.from = c.from.ensures.edges ∙ ap (λ (q : Query). q.from) (sym e) in
    let to : c.to.result.now.edges ≡ N.to = c.to.ensures.edges ∙ ap (λ (q : Query). q.to) (sym e) in
    let rounds : c.rounds.result ≡ N.rounds = c.rounds.ensures ∙ ap (λ (q : Query). q.rounds) (sym e) in
    let is : c.make-cnf.result ≡ start N c.from.result.now.edges c.to.result.now.edges c.rounds.result = c.make-cnf.ensures ∙ (λ i. record { variables = c.variables.ensures i; clauses = [] }) in
    subst (IsTriangulation N.points) (sym to) Q.to

pub add_layer-requires-2-clause-takes : goal.add_layer-requires-2-clause-takes
add_layer-requires-2-clause-takes c =
    let N = c.in_ok-numbering.numbering in
    let e = c.in_ok-numbering.ensures in
    let Q : IsQuery N = subst IsQuery (sym e) c.lists-lists.ensures.query in
    let few : length (clauses_in N) ≤ 400_000 = subst (λ q. length (clauses_in q) ≤ 400_000) (sym e) c.requires in
    let from : c.from.result.now.edges ≡ N.from = c.from.ensures.edges ∙ ap (λ (q : Query). q.from) (sym e) in
    let to : c.to.result.now.edges ≡ N.to = c.to.ensures.edges ∙ ap (λ (q : Query). q.to) (sym e) in
    let rounds : c.rounds.result ≡ N.rounds = c.rounds.ensures ∙ ap (λ (q : Query). q.rounds) (sym e) in
    let is : c.make-cnf.result ≡ start N c.from.result.now.edges c.to.result.now.edges c.rounds.result = c.make-cnf.ensures ∙ (λ i. record { variables = c.variables.ensures i; clauses = [] }) in
    takes_second N c.from.result.now.edges c.to.result.now.edges c.rounds.result Q few from to rounds c.make-cnf.result is c.add_layer.new.cnf c.in_ok-add_layer.ensures

pub add_all_crossings-requires : goal.add_all_crossings-requires
add_all_crossings-requires c =
    let N = c.in_ok-numbering.numbering in
    let e = c.in_ok-numbering.ensures in
    let Q : IsQuery N = subst IsQuery (sym e) c.lists-lists.ensures.query in
    let few : length (clauses_in N) ≤ 400_000 = subst (λ q. length (clauses_in q) ≤ 400_000) (sym e) c.requires in
    let from : c.from.result.now.edges ≡ N.from = c.from.ensures.edges ∙ ap (λ (q : Query). q.from) (sym e) in
    let to : c.to.result.now.edges ≡ N.to = c.to.ensures.edges ∙ ap (λ (q : Query). q.to) (sym e) in
    let rounds : c.rounds.result ≡ N.rounds = c.rounds.ensures ∙ ap (λ (q : Query). q.rounds) (sym e) in
    let is : c.make-cnf.result ≡ start N c.from.result.now.edges c.to.result.now.edges c.rounds.result = c.make-cnf.ensures ∙ (λ i. record { variables = c.variables.ensures i; clauses = [] }) in
    takes_third N c.from.result.now.edges c.to.result.now.edges c.rounds.result Q few from to rounds c.make-cnf.result is c.add_layer.new.cnf c.in_ok-add_layer.ensures c.add_layer-2.new.cnf c.in_ok-add_layer-2.ensures

pub add_all_flips-requires : goal.add_all_flips-requires
add_all_flips-requires c =
    let N = c.in_ok-numbering.numbering in
    let e = c.in_ok-numbering.ensures in
    let Q : IsQuery N = subst IsQuery (sym e) c.lists-lists.ensures.query in
    let few : length (clauses_in N) ≤ 400_000 = subst (λ q. length (clauses_in q) ≤ 400_000) (sym e) c.requires in
    let from : c.from.result.now.edges ≡ N.from = c.from.ensures.edges ∙ ap (λ (q : Query). q.from) (sym e) in
    let to : c.to.result.now.edges ≡ N.to = c.to.ensures.edges ∙ ap (λ (q : Query). q.to) (sym e) in
    let rounds : c.rounds.result ≡ N.rounds = c.rounds.ensures ∙ ap (λ (q : Query). q.rounds) (sym e) in
    let is : c.make-cnf.result ≡ start N c.from.result.now.edges c.to.result.now.edges c.rounds.result = c.make-cnf.ensures ∙ (λ i. record { variables = c.variables.ensures i; clauses = [] }) in
    takes_fourth N c.from.result.now.edges c.to.result.now.edges c.rounds.result Q few from to rounds c.make-cnf.result is c.add_layer.new.cnf c.in_ok-add_layer.ensures c.add_layer-2.new.cnf c.in_ok-add_layer-2.ensures c.add_all_crossings.new.cnf c.in_ok-add_all_crossings.ensures

pub add_all_changes-requires : goal.add_all_changes-requires
add_all_changes-requires c =
    let N = c.in_ok-numbering.numbering in
    let e = c.in_ok-numbering.ensures in
    let Q : IsQuery N = subst IsQuery (sym e) c.lists-lists.ensures.query in
    let few : length (clauses_in N) ≤ 400_000 = subst (λ q. length (clauses_in q) ≤ 400_000) (sym e) c.requires in
    let from : c.from.result.now.edges ≡ N.from = c.from.ensures.edges ∙ ap (λ (q : Query). q.from) (sym e) in
    let to : c.to.result.now.edges ≡ N.to = c.to.ensures.edges ∙ ap (λ (q : Query). q.to) (sym e) in
    let rounds : c.rounds.result ≡ N.rounds = c.rounds.ensures ∙ ap (λ (q : Query). q.rounds) (sym e) in
    let is : c.make-cnf.result ≡ start N c.from.result.now.edges c.to.result.now.edges c.rounds.result = c.make-cnf.ensures ∙ (λ i. record { variables = c.variables.ensures i; clauses = [] }) in
    takes_fifth N c.from.result.now.edges c.to.result.now.edges c.rounds.result Q few from to rounds c.make-cnf.result is c.add_layer.new.cnf c.in_ok-add_layer.ensures c.add_layer-2.new.cnf c.in_ok-add_layer-2.ensures c.add_all_crossings.new.cnf c.in_ok-add_all_crossings.ensures c.add_all_flips.new.cnf c.in_ok-add_all_flips.ensures

pub returns : goal.returns
returns c =
    let N = c.in_ok-numbering.numbering in
    let e = c.in_ok-numbering.ensures in
    let Q : IsQuery N = subst IsQuery (sym e) c.lists-lists.ensures.query in
    let few : length (clauses_in N) ≤ 400_000 = subst (λ q. length (clauses_in q) ≤ 400_000) (sym e) c.requires in
    let from : c.from.result.now.edges ≡ N.from = c.from.ensures.edges ∙ ap (λ (q : Query). q.from) (sym e) in
    let to : c.to.result.now.edges ≡ N.to = c.to.ensures.edges ∙ ap (λ (q : Query). q.to) (sym e) in
    let rounds : c.rounds.result ≡ N.rounds = c.rounds.ensures ∙ ap (λ (q : Query). q.rounds) (sym e) in
    let is : c.make-cnf.result ≡ start N c.from.result.now.edges c.to.result.now.edges c.rounds.result = c.make-cnf.ensures ∙ (λ i. record { variables = c.variables.ensures i; clauses = [] }) in
    all_written N c.from.result.now.edges c.to.result.now.edges c.rounds.result Q few from to rounds c.make-cnf.result is c.add_layer.new.cnf c.in_ok-add_layer.ensures c.add_layer-2.new.cnf c.in_ok-add_layer-2.ensures c.add_all_crossings.new.cnf c.in_ok-add_all_crossings.ensures c.add_all_flips.new.cnf c.in_ok-add_all_flips.ensures c.add_all_changes.new.cnf c.in_ok-add_all_changes.ensures ∙ ap formula_in e
