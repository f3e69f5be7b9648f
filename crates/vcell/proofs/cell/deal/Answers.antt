use Rattle.std.proofs.Common.{arith, All, length, length-append, ap, ◌∙◌, sym, subst}
use Rattle.std.proofs.lemmas.List.Elements.{All-push}
use Rattle.vcell.specs.Passes.{PassView}
use Rattle.vcell.specs.Steps.{IsNewPass, seen_in, ground_in}
use Rattle.vcell.proofs.Kept.{splits}
use Rattle.vcell.proofs.cell.deal.Goals as goal

pub split_seat-seat-requires : goal.split_seat-seat-requires
split_seat-seat-requires g c = let i = c.loop.invariant in (
  i.6,
  c.requires.table.1,
  splits g.V.Grows.entries g.V.Grows.ground _ _ _ (let p = i.1 in let t = c.loop-test.true in omega arith) i.4,
)

pub loop-preserved : goal.loop-preserved
loop-preserved g c = let i = c.loop.invariant in let e = c.split_seat-seat.ensures in let T : Type 0 = PassView g.row.V-Entry.Denot g.row.V-Ground.Denot in let items = c.push_spared.ensures.items in let n = ap (length {A = T}) items in
    let P : T → Type 0 = IsNewPass g.V.Grows.entries g.V.Grows.ground c.args.shared.now.table_id c.args.first.me.0.last in (
      (let a = i.0 in omega (arith, length-append {A = T})),
      (let a = i.1 in let p = ap (λ m. m.0.seats) e.2 in let t = c.loop-test.true in omega arith),
      ap (λ m. m.0.made) e.2 ∙ i.2,
      ap (λ m. m.0.last) e.2 ∙ i.3,
      ap (λ m. m.0.stage) e.2 ∙ i.4,
      ap (λ m. m.1) e.2 ∙ i.5,
      e.0 ∙ i.6,
      (let a = i.7 in let s = c.push_spared.ensures.spare in omega (arith, length-append {A = T})),
      subst (All P) (sym items) (All-push P _ _ i.8
          (e.3 ∙ i.6, ap (λ m. ground_in g.V.Grows.ground m.0.last) e.4 ∙ ap (ground_in g.V.Grows.ground) i.3, ap (λ m. seen_in g.V.Grows.entries m.0.last) e.4 ∙ ap (seen_in g.V.Grows.entries) i.3, ap (λ m. m.0.made) e.4)),
    )
