use Rattle.std.proofs.Common.{◌≡◌, ◌∙◌, ◌<◌, true, List, ◌++◌, length, Contains, sym, ap, subst}
use Rattle.log_law.specs.declared.Lit.{Lit}
use Rattle.formula_law.specs.Frames.{Frame}
use Rattle.formula_parts.specs.Lists.{edge_at}
use Rattle.pruned_cnf.specs.Groups.{place_literal}
use Rattle.pruned_cnf.proofs.writing.layers.is_there.Goals as goal

pub number-n-requires : goal.number-n-requires
number-n-requires c = subst (λ (F : Frame). Contains F.segments c.args.e) (sym c.lists_of.ensures.lists) c.requires.segment

pub push_if_live-requires-clause-within : goal.push_if_live-requires-clause-within
push_if_live-requires-clause-within c = subst (λ (F : Frame). c.number-n.result < length F.segments) c.lists_of.ensures.lists c.number-n.ensures.within

pub returns : goal.returns
returns c =
    let q = c.args.numbering.now in
    let at : edge_at q.frame.segments c.number-n.result ≡ c.args.e = subst (λ (F : Frame). edge_at F.segments c.number-n.result ≡ c.args.e) c.lists_of.ensures.lists c.number-n.ensures.there in
    c.in_ok-push_if_live.ensures ∙ ap (λ (ls : List Lit). ls ++ place_literal q c.args.t (edge_at q.frame.segments c.number-n.result) true) c.make-clause.ensures ∙ ap (λ e. place_literal q c.args.t e true) at
