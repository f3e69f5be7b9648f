use Rattle.std.proofs.Common.{rules, ◌≡◌, ◌∷◌, [], ◌++◌, ◌+◌, sym, subst, refl, arith, map}
use Rattle.serde_json.specs.View.{view}
use Rattle.json_value.specs.Values.{IsNumber, IsFirstOther}
use Rattle.json_value.proofs.Steps.{flat_map-single}
use Rattle.json_value.proofs.Rows.{step_more, step_other, step_all, one_whole, one_other}
use Rattle.json_value.proofs.text.numbers_in.Goals as goal

pub loop-value-preserved : goal.loop-value-preserved
loop-value-preserved c =
    let is : IsNumber (view c.value-item.result) c.in-Some.number = sym c.in-Some.ensures in
    let more = step_more IsNumber (λ d. d ∷ []) c.args.values.now c.loop-value.value-index c.value-item.result c.loop-value.numbers.items c.in-Some.number c.loop-value.place 1
    c.loop-value-test.true c.value-item.is is (one_whole _ _ is) refl c.loop-value.invariant.1 in
    let pushed : c.push.new.self.items ≡ c.loop-value.numbers.items ++ c.in-Some.number ∷ [] = search rules in
    (omega (arith, c.loop-value.invariant.0), rw pushed more)

pub returns-in-None-clause-other : goal.returns-in-None-clause-other
returns-in-None-clause-other c =
    let other = step_other IsNumber (λ d. d ∷ []) c.args.values.now c.loop-value.value-index c.value-item.result c.loop-value.numbers.items c.loop-value.place 0
    c.loop-value-test.true c.value-item.is (one_other _ (sym c.in-None.ensures)) c.loop-value.invariant.1 in
    let at : c.loop-value.place + 0 ≡ c.loop-value.place = omega arith in
    subst (λ ds. IsFirstOther ds c.loop-value.place) (flat_map-single (map view c.args.values.now)) (subst (IsFirstOther _) at other)

pub returns-clause-ok : goal.returns-clause-ok
returns-clause-ok c = step_all IsNumber (λ d. d ∷ []) c.args.values.now c.loop-value.value-index c.loop-value.numbers.items c.loop-value.place c.loop-value-test.false c.loop-value.invariant.1
