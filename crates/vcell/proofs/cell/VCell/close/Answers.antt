use Rattle.std.proofs.Common.{rules, arith, ◌≡◌, ap, ◌∙◌, sym, subst, All, IsSome, length}
use mathlib.Core.List.{IsPrefix}
use Rattle.vcell.specs.Passes.{LockView, PassView}
use Rattle.vcell.proofs.Closing.{ended}
use Rattle.vcell.proofs.cell.VCell.close.Goals as goal

pub unwrap-value-requires : goal.unwrap-value-requires
unwrap-value-requires g c = let last = c.close_with-closed.ensures.values.2 in let j = c.joined-seat.ensures in let L : Type 0 = LockView g.row.V-Ground.Denot in
    let e = ended g.V.Grows.entries g.V.Grows.ground _ last.0 _ _ _ _ last.1.0 last.1.1 (j.seats ∙ (c.requires.all ∙ sym (ap (λ (v : L). v.seats) c.self.view_is))) j.seat.2 last.4 c.take.ensures.value in
    subst IsSome (sym e.1) (search rules)

pub returns-clause-ground : goal.returns-clause-ground
returns-clause-ground g c = let last = c.close_with-closed.ensures.values.2 in let j = c.joined-seat.ensures in let L : Type 0 = LockView g.row.V-Ground.Denot in
    let e = ended g.V.Grows.entries g.V.Grows.ground _ last.0 _ _ _ _ last.1.0 last.1.1 (j.seats ∙ (c.requires.all ∙ sym (ap (λ (v : L). v.seats) c.self.view_is))) j.seat.2 last.4 c.take.ensures.value in
    let same : c.unwrap-value.result ≡ e.0 = cc (c.unwrap-value.ensures, e.1) in ap g.V.Grows.ground same ∙ (e.2 ∙ ap (λ (v : L). v.ground) c.self.view_is)

pub returns-clause-seen : goal.returns-clause-seen
returns-clause-seen g c = let last = c.close_with-closed.ensures.values.2 in let j = c.joined-seat.ensures in let L : Type 0 = LockView g.row.V-Ground.Denot in let T : Type 0 = PassView g.row.V-Entry.Denot g.row.V-Ground.Denot in
    let e = ended g.V.Grows.entries g.V.Grows.ground _ last.0 _ _ _ _ last.1.0 last.1.1 (j.seats ∙ (c.requires.all ∙ sym (ap (λ (v : L). v.seats) c.self.view_is))) j.seat.2 last.4 c.take.ensures.value in
    let same : c.unwrap-value.result ≡ e.0 = cc (c.unwrap-value.ensures, e.1) in let P : g.row.V.Denot → Type 0 = λ x. All (λ (p : T). IsPrefix p.seen (g.V.Grows.entries x)) c.args.passes.items in
    subst P (sym same) (j.seen (g.V.Grows.entries e.0) e.3)

pub returns-clause-made : goal.returns-clause-made
returns-clause-made g c = let last = c.close_with-closed.ensures.values.2 in let j = c.joined-seat.ensures in let L : Type 0 = LockView g.row.V-Ground.Denot in
    let e = ended g.V.Grows.entries g.V.Grows.ground _ last.0 _ _ _ _ last.1.0 last.1.1 (j.seats ∙ (c.requires.all ∙ sym (ap (λ (v : L). v.seats) c.self.view_is))) j.seat.2 last.4 c.take.ensures.value in
    let same : c.unwrap-value.result ≡ e.0 = cc (c.unwrap-value.ensures, e.1) in let n : length (g.V.Grows.entries c.unwrap-value.result) ≡ length (g.V.Grows.entries e.0) = ap (λ (x : g.row.V.Denot). length (g.V.Grows.entries x)) same in
    let m = e.4 in let s = ap (λ (v : L). v.start) c.self.view_is in let a = j.made in omega arith
