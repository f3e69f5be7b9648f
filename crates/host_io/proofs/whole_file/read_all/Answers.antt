use Rattle.std.proofs.Common.{rules, ◌≡◌, ◌∙◌, ◌+◌, ◌≤◌, lit≤, ap, arith, length, take, length-append, length-take-le}
use Rattle.std.proofs.KnownBytes.{Consumes-nil, Consumes-trans}
use Rattle.host_io.proofs.Transfers.{whole}
use Rattle.host_io.proofs.whole_file.read_all.Goals as goal

pub loop-init : goal.loop-init
loop-init g c = rw c.make-bytes.ensures (Consumes-nil _, lit≤ tt)

pub loop-preserved : goal.loop-preserved
loop-preserved g c =
    let bytes = c.loop.bytes in
    let n = c.in-Ok.count in
    let room : length c.read.new.buf ≤ 16384 = search rules in
    let grown : length c.append.new.self ≡ length bytes + n =
    ap length c.in_ok-append.ensures.ok ∙ length-append bytes (take n c.read.new.buf) ∙ ap (λ k. length bytes + k) (length-take-le n c.read.new.buf c.in-Ok.ensures.bound.0) in
    (rw c.in_ok-append.ensures.ok (Consumes-trans _ _ _ _ _ c.loop.invariant.0 c.in-Ok.ensures.bytes.0), omega (arith, grown, c.loop.invariant.1, c.if-len-count.false, c.len.ensures, room, c.in-Ok.ensures.bound.0))

pub returns-then-count-eq0-clause-all : goal.returns-then-count-eq0-clause-all
returns-then-count-eq0-clause-all g c = whole _ _ _ _ _ _ c.loop.invariant.0 c.in-Ok.ensures.bytes c.if-count-eq0.true (search rules)
