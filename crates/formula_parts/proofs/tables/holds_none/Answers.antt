use Rattle.std.proofs.Common.{◌↔◌, ◌<◌, ◌∙◌, false, get_or, length, sym, ap, subst}
use Rattle.std.specs.Bool.{IsTrue}
use Rattle.formula_parts.specs.Tables.{IsEmptyOfPoints, place}
use Rattle.formula_parts.proofs.Entries.{within_table}
use Rattle.formula_parts.proofs.tables.holds_none.Goals as goal

pub entry-requires-clause-within : goal.entry-requires-clause-within
entry-requires-clause-within c =
    subst (λ n. place c.args.a c.args.b c.args.c < n) (sym (ap (λ table. length table) c.deref.ensures.value ∙ c.requires.tables.empty.long))
    (within_table (length c.args.inst.now.points) c.args.a c.args.b c.args.c c.requires.first c.requires.second c.requires.third c.requires.tables.few)

pub returns : goal.returns
returns c =
    subst (λ x. IsTrue x ↔ IsEmptyOfPoints c.args.inst.now.points c.args.a c.args.b c.args.c) (sym (c.entry.ensures ∙ ap (λ table. get_or table (place c.args.a c.args.b c.args.c) false) c.deref.ensures.value))
    (c.requires.tables.empty.entries c.args.a c.args.b c.args.c c.requires.first c.requires.second c.requires.third)
