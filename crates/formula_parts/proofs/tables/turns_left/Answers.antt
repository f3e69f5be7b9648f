use Rattle.std.proofs.Common.{◌↔◌, ◌<◌, length, sym, subst}
use Rattle.std.specs.Bool.{IsTrue}
use Rattle.tri_theory.specs.Points.{IsLeft}
use Rattle.formula_parts.specs.Tables.{place}
use Rattle.formula_parts.proofs.Entries.{within_table}
use Rattle.formula_parts.proofs.tables.turns_left.Goals as goal

pub entry-requires-clause-within : goal.entry-requires-clause-within
entry-requires-clause-within c =
    subst (λ n. place c.args.a c.args.b c.args.c < n) (sym c.requires.table.long) (within_table (length c.args.inst.now.points) c.args.a c.args.b c.args.c c.requires.first c.requires.second c.requires.third c.requires.few)

pub returns : goal.returns
returns c =
    subst (λ x. IsTrue x ↔ IsLeft c.args.inst.now.points c.args.a c.args.b c.args.c) (sym c.entry.ensures)
    (c.requires.table.entries c.args.a c.args.b c.args.c c.requires.first c.requires.second c.requires.third)
