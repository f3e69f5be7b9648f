use Rattle.edge_table.proofs.Searches.{found_at, belongs_at}
use Rattle.half_edges.proofs.search.search.Goals as goal

pub returns-clause-found : goal.returns-clause-found
returns-clause-found c = found_at c.args.ways.now (c.args.u, c.args.v) c.binary_search.result c.binary_search.ensures.bound c.binary_search.ensures.position

pub returns-clause-belongs : goal.returns-clause-belongs
returns-clause-belongs c = belongs_at c.args.ways.now (c.args.u, c.args.v) c.binary_search.result c.requires c.binary_search.ensures.bound c.binary_search.ensures.position
