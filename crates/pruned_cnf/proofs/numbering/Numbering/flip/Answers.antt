use Rattle.std.proofs.Common.{◌≡◌, ◌∙◌, ◌+◌, ◌*◌, ◌<◌, length, get_or, None, subst, sym, ap, arith}
use Rattle.std.proofs.lemmas.List.{get_or_read}
use Rattle.formula_law.specs.Frames.{Frame}
use Rattle.pruned_cnf.specs.Queries.{Query}
use Rattle.pruned_cnf.specs.Numbered.{AreNumbered}
use Rattle.pruned_cnf.proofs.ReadNumbers.{flip_within, flip_read}
use Rattle.pruned_cnf.proofs.numbering.Numbering.flip.Goals as goal

pub index-requires : goal.index-requires
index-requires c =
    let A : AreNumbered c.args.self.now c.self.inside.places.items c.self.inside.flips.items c.self.inside.variables = subst (λ (q : Query). AreNumbered q c.self.inside.places.items c.self.inside.flips.items c.self.inside.variables) c.self.view_is c.self.invariant in
    let w : c.flips-width.result ≡ length c.args.self.now.frame.flips = c.flips-width.ensures.count ∙ ap (λ (F : Frame). length F.flips) c.lists.ensures.lists ∙ ap (λ (q : Query). length q.frame.flips) c.self.view_is in
    let h = flip_within c.args.self.now c.self.inside.places.items c.self.inside.flips.items c.self.inside.variables A c.args.t c.args.n c.requires.round c.requires.within in
    let k : c.args.t * c.flips-width.result + c.args.n < length c.self.inside.flips.items = subst (λ i. c.args.t * i + c.args.n < length c.self.inside.flips.items) (sym w) h in
    omega (arith, k, c.self.inside.flips.ok.0)

pub returns : goal.returns
returns c =
    let A : AreNumbered c.args.self.now c.self.inside.places.items c.self.inside.flips.items c.self.inside.variables = subst (λ (q : Query). AreNumbered q c.self.inside.places.items c.self.inside.flips.items c.self.inside.variables) c.self.view_is c.self.invariant in
    let w : c.flips-width.result ≡ length c.args.self.now.frame.flips = c.flips-width.ensures.count ∙ ap (λ (F : Frame). length F.flips) c.lists.ensures.lists ∙ ap (λ (q : Query). length q.frame.flips) c.self.view_is in
    let h = flip_within c.args.self.now c.self.inside.places.items c.self.inside.flips.items c.self.inside.variables A c.args.t c.args.n c.requires.round c.requires.within in
    get_or_read c.self.inside.flips.items (c.args.t * c.flips-width.result + c.args.n) c.index.result.now (subst (λ i. c.args.t * i + c.args.n < length c.self.inside.flips.items) (sym w) h) c.index.ensures None
    ∙ ap (λ i. get_or c.self.inside.flips.items (c.args.t * i + c.args.n) None) w
    ∙ flip_read c.args.self.now c.self.inside.places.items c.self.inside.flips.items c.self.inside.variables A c.args.t c.args.n c.requires.round c.requires.within
