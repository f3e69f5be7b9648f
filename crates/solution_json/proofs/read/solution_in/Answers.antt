use Rattle.std.proofs.Common.{◌≡◌, Some, map, sym, subst}
use Rattle.serde_json.specs.Find.{as_str}
use Rattle.std.specs.List.{AllZip, flat_map}
use Rattle.std.proofs.lemmas.Result.{err_from_is_err_and}
use Rattle.serde_json.specs.View.{view}
use Rattle.solution_json.specs.Edges.{IsEdgeOf, pairs_within}
use Rattle.solution_json.specs.Faults.{OnPairs}
use Rattle.solution_json.proofs.Whole.{wrong_flips, other_number, bad_pair, lists_spelled}
use Rattle.solution_json.proofs.read.solution_in.Goals as goal

pub returns-in_err-flips-2-clause-fault : goal.returns-in_err-flips-2-clause-fault
returns-in_err-flips-2-clause-fault c =
    let p = err_from_is_err_and c.from_residual-in_err-flips-2.result c.from_residual-in_err-flips-2.ensures.1 in
    let w = c.in_err-flips-2.ensures.wrong in
    rw (p.1, p.2, w.0) (wrong_flips (view c.args.value.now) (view c.in_ok-uid.uid.now) (view c.in_ok-flips.flips.now) c.in_ok-uid-2.uid.now
    (c.in_ok-uid.ensures.ok, c.in_ok-flips.ensures.ok) c.in_ok-uid-2.ensures.ok w.1)

pub returns-in_err-raws-clause-fault : goal.returns-in_err-raws-clause-fault
returns-in_err-raws-clause-fault c =
    let p = err_from_is_err_and c.from_residual-in_err-raws.result c.from_residual-in_err-raws.ensures.1 in
    rw (p.1, p.2) (other_number (view c.args.value.now) (view c.in_ok-uid.uid.now) (view c.in_ok-flips.flips.now) c.in_ok-uid-2.uid.now (map view c.in_ok-flips-2.flips.now) c.in_err-raws.field-0.0
    (c.in_ok-uid.ensures.ok, c.in_ok-flips.ensures.ok) c.in_ok-uid-2.ensures.ok c.in_ok-flips-2.ensures.ok.0 c.in_ok-flips-2.ensures.ok.1 c.in_err-raws.ensures.fault)

pub returns-in_err-lists-clause-fault : goal.returns-in_err-lists-clause-fault
returns-in_err-lists-clause-fault c =
    let p = err_from_is_err_and c.from_residual-in_err-lists.result c.from_residual-in_err-lists.ensures.1 in
    rw (p.1, p.2) (bad_pair (view c.args.value.now) (view c.in_ok-uid.uid.now) (view c.in_ok-flips.flips.now) c.in_ok-uid-2.uid.now (map view c.in_ok-flips-2.flips.now) c.in_ok-raws.raws.items c.in_err-lists.field-0.0
    (c.in_ok-uid.ensures.ok, c.in_ok-flips.ensures.ok) c.in_ok-uid-2.ensures.ok c.in_ok-flips-2.ensures.ok.0 c.in_ok-flips-2.ensures.ok.1 c.in_ok-raws.ensures.ok
    (subst (λ raws. OnPairs c.in_err-lists.field-0.0 (flat_map pairs_within raws)) c.deref.ensures.value c.in_err-lists.ensures.fault))

pub returns-clause-ok : goal.returns-clause-ok
returns-clause-ok c = record {
  uid = (view c.in_ok-uid.uid.now, c.in_ok-uid.ensures.ok, subst (λ t. as_str (view c.in_ok-uid.uid.now) ≡ Some t) (sym c.in_ok-uid-3.ensures) c.in_ok-uid-2.ensures.ok);
  lists = (
    view c.in_ok-flips.flips.now,
    c.in_ok-flips.ensures.ok,
    lists_spelled (view c.in_ok-flips.flips.now) (map view c.in_ok-flips-2.flips.now) c.in_ok-raws.raws.items c.in_ok-lists.lists
        c.in_ok-flips-2.ensures.ok.0 c.in_ok-raws.ensures.ok (subst (λ raws. AllZip (AllZip (AllZip IsEdgeOf)) raws c.in_ok-lists.lists) c.deref.ensures.value c.in_ok-lists.ensures.ok),
  );
}
