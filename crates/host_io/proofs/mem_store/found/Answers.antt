use Rattle.std.proofs.Common.{◌∙◌, sym, ap, arith}
use Rattle.std.proofs.lemmas.List.{drop_all}
use Rattle.std.specs.Str.{bytes_eq}
use Rattle.host_io.proofs.Entries.{newest}
use Rattle.host_io.proofs.Entries.{newest_here, newest_there, get-held_in}
use Rattle.host_io.proofs.mem_store.found.Goals as goal

pub returns-then-eq : goal.returns-then-eq
returns-then-eq c =
    sym (get-held_in c.args.files.now c.args.name.now ∙ sym c.loop-file.invariant ∙ newest_here c.args.files.now c.loop-file.file-index c.file-item.result c.args.name.now (omega arith) c.file-item.is
    (ap (bytes_eq c.args.name.now) (sym c.as_str.ensures.value) ∙ sym c.eq.ensures ∙ c.if-eq.true))

pub loop-file-preserved : goal.loop-file-preserved
loop-file-preserved c =
    sym (newest_there c.args.files.now c.loop-file.file-index c.file-item.result c.args.name.now (omega arith) c.file-item.is
    (ap (bytes_eq c.args.name.now) (sym c.as_str.ensures.value) ∙ sym c.eq.ensures ∙ c.if-eq.false)) ∙ c.loop-file.invariant

pub returns : goal.returns
returns c =
    sym (get-held_in c.args.files.now c.args.name.now ∙ sym c.loop-file.invariant ∙ ap (λ fs. newest fs c.args.name.now) (drop_all c.loop-file.file-index c.args.files.now (omega arith)))
