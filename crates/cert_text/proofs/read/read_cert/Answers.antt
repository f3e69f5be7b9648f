use Rattle.std.proofs.lemmas.Result.{err_from_is_err_and}
use Rattle.cert_text.proofs.PutLaws.{cert_writable}
use Rattle.cert_text.proofs.ReadLaws.{read_ok, read_err}
use Rattle.cert_text.proofs.read.read_cert.Goals as goal

pub returns-in_err-whole-clause-fault : goal.returns-in_err-whole-clause-fault
returns-in_err-whole-clause-fault c =
    let p = err_from_is_err_and c.from_residual.result c.from_residual.ensures.1 in
    rw (p.1, p.2) (read_err c.args.bytes.now c.in_err-whole.field-0.0 c.in_err-whole.ensures)

pub returns-clause-ok : goal.returns-clause-ok
returns-clause-ok c = read_ok c.args.bytes.now c.in_ok-whole.field-0 c.in_ok-whole.ensures

pub returns-clause-writable : goal.returns-clause-writable
returns-clause-writable c = cert_writable c.in_ok-whole.field-0 (read_ok c.args.bytes.now c.in_ok-whole.field-0 c.in_ok-whole.ensures).fits
