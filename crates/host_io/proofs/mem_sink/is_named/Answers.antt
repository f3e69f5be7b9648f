use Rattle.std.specs.FinSet.{contains-from_list_nat}
use Rattle.host_io.proofs.mem_sink.is_named.Goals as goal

pub returns : goal.returns
returns c =
    let members = contains-from_list_nat c.args.calls.now c.args.call in
    cc (c.contains.ensures.value, members)
