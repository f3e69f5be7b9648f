use Rattle.std.proofs.Common.{◌≡◌, ◌∙◌, ◌++◌, [], take, sym, arith, drop_of_length-le}
use Rattle.std.proofs.lemmas.Bool.{eqb-true}
use Rattle.std.proofs.KnownBytes.{Appends-trans}
use Rattle.host_io.proofs.Transfers.{moves_front, taken}
use Rattle.host_io.proofs.whole_file.write_all.Goals as goal

pub loop-rest-preserved : goal.loop-rest-preserved
loop-rest-preserved g c =
    let (done, split, appended) = c.loop-rest.invariant in
    let rest = c.loop-rest.rest.now in
    let n = c.in-Ok.count in
    (done ++ take n rest, moves_front _ done rest n split, Appends-trans _ _ _ _ _ appended c.in-Ok.ensures.bytes)

pub returns : goal.returns
returns g c =
    let (done, split, appended) = c.loop-rest.invariant in
    let rest = c.loop-rest.rest.now in
    let none : rest ≡ [] = drop_of_length-le rest {i = 0} (omega (arith, eqb-true _ _ (sym c.is_empty.ensures ∙ c.loop-rest-test.false))) in
    λ _. taken _ _ _ _ done rest split none appended c.flush.ensures.bytes
