use Rattle.std.proofs.Common.{sym, subst₂}
use Rattle.side_table.specs.Sides.{HasSide}
use Rattle.flip_mesh.proofs.Turned.{still, none_new, turned}
use Rattle.flip_mesh.proofs.turn.turn.Goals as goal

pub put-requires-clause-there : goal.put-requires-clause-there
put-requires-clause-there c = c.requires.ac

pub put-requires-clause-fresh : goal.put-requires-clause-fresh
put-requires-clause-fresh c x y h w = absurd (c.requires.no_bd (subst₂ (λ u v. HasSide c.args.sides.now u v) (sym w.0) (sym w.1) h))

pub put-requires-2-clause-there : goal.put-requires-2-clause-there
put-requires-2-clause-there c = still c.put.ensures _ _ c.requires.ca (λ w. c.requires.a_c w.1)

pub put-requires-2-clause-fresh : goal.put-requires-2-clause-fresh
put-requires-2-clause-fresh c x y h w =
    absurd (none_new c.put.ensures _ _ c.requires.no_db (λ k. c.requires.b_d k.0) (subst₂ (λ u v. HasSide c.put.new.sides u v) (sym w.0) (sym w.1) h))

pub set-requires : goal.set-requires
set-requires c =
    still c.put-2.ensures _ _ (still c.put.ensures _ _ c.requires.ab (λ w. c.requires.b_c w.1)) (λ w. c.requires.a_c w.0)

pub set-requires-2 : goal.set-requires-2
set-requires-2 c =
    still c.set.ensures _ _
    (still c.put-2.ensures _ _ (still c.put.ensures _ _ c.requires.bc (λ w. c.requires.a_b (sym w.0))) (λ w. c.requires.b_c w.0))
    (λ w. c.requires.a_b (sym w.0))

pub set-requires-3 : goal.set-requires-3
set-requires-3 c =
    still c.set-2.ensures _ _
    (still c.set.ensures _ _
    (still c.put-2.ensures _ _ (still c.put.ensures _ _ c.requires.cd (λ w. c.requires.a_c (sym w.0))) (λ w. c.requires.d_a w.1))
    (λ w. c.requires.a_c (sym w.0)))
    (λ w. c.requires.b_c (sym w.0))

pub set-requires-4 : goal.set-requires-4
set-requires-4 c =
    still c.set-3.ensures _ _
    (still c.set-2.ensures _ _
    (still c.set.ensures _ _
    (still c.put-2.ensures _ _ (still c.put.ensures _ _ c.requires.da (λ w. c.requires.d_a w.0)) (λ w. c.requires.c_d (sym w.0)))
    (λ w. c.requires.d_a w.0))
    (λ w. c.requires.b_d (sym w.0)))
    (λ w. c.requires.c_d (sym w.0))

pub returns : goal.returns
returns c = turned _ _ _ _ c.requires c.put.ensures c.put-2.ensures c.set.ensures c.set-2.ensures c.set-3.ensures c.set-4.ensures
