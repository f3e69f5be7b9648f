use Rattle.std.proofs.Common.{◌≡◌, Some, sym, ap, ◌∙◌, subst, arith}
use Rattle.std.proofs.lemmas.List.{get_or_read}
use Rattle.log_law.specs.Trails.{no_step, step_of, place_of}
use Rattle.log_law.proofs.Found.{place_step, place_none}
use Rattle.sat_state.specs.Tables.{Held}
use Rattle.sat_state.proofs.steps.Steps.find.Goals as goal

pub index-requires : goal.index-requires
index-requires c =
    let placed = subst (λ (h : Held). place_of h.steps c.args.var ≡ Some c.in-Some.place) (sym c.self.view_is) (sym c.in-Some.ensures) in
    let found = place_step c.self.inside.steps.items c.args.var c.in-Some.place placed in
    omega (arith, found.0, c.self.inside.steps.ok.0)

pub returns-in-Some : goal.returns-in-Some
returns-in-Some c =
    let placed = subst (λ (h : Held). place_of h.steps c.args.var ≡ Some c.in-Some.place) (sym c.self.view_is) (sym c.in-Some.ensures) in
    let found = place_step c.self.inside.steps.items c.args.var c.in-Some.place placed in
    subst (λ (h : Held). Some c.index.result.now ≡ step_of h.steps c.args.var) c.self.view_is
    (ap Some (get_or_read c.self.inside.steps.items c.in-Some.place c.index.result.now found.0 c.index.ensures no_step) ∙ sym found.2)

pub returns-in-None : goal.returns-in-None
returns-in-None c = sym ((place_none c.args.self.now.steps c.args.var).0 (sym c.in-None.ensures))
