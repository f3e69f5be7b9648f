use Rattle.std.proofs.Common.{arith, ◌≡◌, ℕ, List, [], ◌∷◌, length, All, length-append, subst, sym, ap, ◌∙◌}
use mathlib.Core.List.{IsPrefix}
use Rattle.std.proofs.lemmas.List.Elements.{All-push}
use Rattle.std.specs.Prelude.{sum_by}
use Rattle.vcell.specs.Passes.{PassView}
use Rattle.vcell.specs.Steps.{BeginsAll}
use Rattle.std.proofs.lemmas.List.Sums.{sum_by_push}
use Rattle.seat_list.proofs.Ends.{all_front, all_last}
use Rattle.vcell.proofs.Kept.{joins}
use Rattle.vcell.proofs.Closing.{begins_seen, begins_both}
use Rattle.vcell.proofs.cell.joined.Goals as goal

pub loop-other-init : goal.loop-other-init
loop-other-init g c = let T : Type 0 = PassView g.row.V-Entry.Denot g.row.V-Ground.Denot in let e = c.in-Some.ensures.some in let P : T → Type 0 = λ s. s.table ≡ c.args.shared.now.table_id in
    let own = subst (All P) e c.requires.own in let rest : List T = c.pop.new.self.items in let made : T → ℕ = λ p. p.made in (
      ap (λ (v : T). v.table) c.first.view_is ∙ all_last P rest c.in-Some.first own,
      c.first.invariant.2,
      c.first.invariant.1,
      all_front P rest c.in-Some.first own,
      (let p = c.first.invariant.0 in let n = ap (length {A = T}) e in omega (arith, length-append rest (c.in-Some.first ∷ []))),
      (let t = sum_by_push made rest c.in-Some.first in let s = ap (sum_by made) e in let v = ap made c.first.view_is in omega arith),
      λ xs h all. let Q : T → Type 0 = λ p. IsPrefix p.seen xs in
          subst (All Q) (sym e) (All-push Q rest c.in-Some.first all (subst Q c.first.view_is (begins_seen g.V.Grows.entries xs c.first.inside.seat.me.0 h))),
    )

pub join_seat-requires : goal.join_seat-requires
join_seat-requires g c = let T : Type 0 = PassView g.row.V-Entry.Denot g.row.V-Ground.Denot in let e = c.in-Some-pop.ensures.some in let P : T → Type 0 = λ s. s.table ≡ c.args.shared.now.table_id in
    let own = subst (All P) e c.loop-other.invariant.3 in (
      c.loop-other.invariant.0,
      ap (λ (v : T). v.table) c.other.view_is ∙ all_last P _ _ own,
      c.other.invariant.2,
      c.requires.table,
      joins g.V.Grows.entries g.V.Grows.ground _ _ _ _ _ c.loop-other.invariant.2 c.other.invariant.1,
    )

pub loop-other-preserved : goal.loop-other-preserved
loop-other-preserved g c = let T : Type 0 = PassView g.row.V-Entry.Denot g.row.V-Ground.Denot in let e = c.in-Some-pop.ensures.some in let P : T → Type 0 = λ s. s.table ≡ c.args.shared.now.table_id in
    let own = subst (All P) e c.loop-other.invariant.3 in let rest : List T = c.pop-in-loop-other.new.self.items in let made : T → ℕ = λ p. p.made in
    let j = c.join_seat.ensures in let was = c.loop-other.invariant in let b = ap (λ m. m.0) j.2 in let x = c.in-Some-pop.other in (
      j.0 ∙ was.0,
      ap (λ m. m.1) j.2 ∙ was.1,
      ap (λ m. m.0.stage) j.2 ∙ was.2,
      all_front P rest x own,
      (let p = c.other.invariant.0 in let q = was.4 in let n = ap (length {A = T}) e in let bp = ap (λ m. m.0.seats) j.2 in omega (arith, length-append rest (x ∷ []))),
      (let t = sum_by_push made rest x in let s = ap (sum_by made) e in let v = ap made c.other.view_is in let q = was.5 in let bm = ap (λ m. m.0.made) j.2 in omega arith),
      λ xs h all. let Q : T → Type 0 = λ p. IsPrefix p.seen xs in let both = begins_both g.V.Grows.entries xs c.loop-other.kept.me.0 c.other.inside.seat.me.0 (subst (BeginsAll g.V.Grows.entries xs) b h) in
          was.6 xs both.0 (subst (All Q) (sym e) (All-push Q rest x all (subst Q c.other.view_is both.1))),
    )
