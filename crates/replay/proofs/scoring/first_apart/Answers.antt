use Rattle.std.proofs.Common.{◌≡◌, ℕ, ◌<◌, length, subst, arith}
use Rattle.std.proofs.lemmas.Option.{slice_get_within}
use Rattle.std.proofs.lemmas.Result.{err_from_is_err_and}
use Rattle.replay.specs.Scores.{LeadsTo, AllLead}
use Rattle.replay.specs.Ends.{IsApart}
use Rattle.replay.proofs.Centres.{lead_more, apart_more, end_fault_first}
use Rattle.replay.proofs.scoring.first_apart.Goals as goal

pub loop-t-init : goal.loop-t-init
loop-t-init c =
    let none_before : (k : ℕ) → k < 1 → LeadsTo c.args.inst.now.points c.args.inst.now.inputs c.args.lists.now k c.args.centre.now.edges =
    λ k l. let e : 0 ≡ k = omega arith in subst (λ k. LeadsTo c.args.inst.now.points c.args.inst.now.inputs c.args.lists.now k c.args.centre.now.edges) e c.requires.first in
    record { lead = λ k l. (c.args.centre.now.edges, none_before k l); apart = none_before }

pub loop-t-preserved : goal.loop-t-preserved
loop-t-preserved c = record {
  lead = lead_more _ _ _ c.loop-t.t c.in_ok-end.end.edges c.loop-t.invariant.lead c.in_ok-end.ensures.ok;
  apart = apart_more _ _ _ c.loop-t.t c.in_ok-end.end.edges c.args.centre.now.edges c.loop-t.apart c.next_apart-apart.result c.in_ok-end.ensures.ok c.requires.first c.loop-t.invariant.apart c.next_apart-apart.ensures;
}

pub returns : goal.returns
returns c =
    let e : c.loop-t.t ≡ length c.args.inst.now.inputs = omega (arith, slice_get_within c.args.inst.now.inputs 0 c.requires.first.input c.requires.first.input_there, c.loop-t.auto.t-end, c.loop-t-test.false, c.inputs-t-end.ensures) in
    record {
      lead = subst (AllLead c.args.inst.now.points c.args.inst.now.inputs c.args.lists.now) e c.loop-t.invariant.lead;
      apart = subst (λ t. IsApart c.args.inst.now.points c.args.inst.now.inputs c.args.lists.now t c.args.centre.now.edges c.loop-t.apart) e c.loop-t.invariant.apart;
      err = tt;
    }

pub returns-in_err-end-clause-err : goal.returns-in_err-end-clause-err
returns-in_err-end-clause-err c =
    let p = err_from_is_err_and c.from_residual.result c.from_residual.ensures.1 in
    rw (p.1, p.2) (end_fault_first _ _ _ c.loop-t.t c.in_err-end.field-0.0 c.requires.number c.loop-t.invariant.lead c.in_err-end.ensures.err)
