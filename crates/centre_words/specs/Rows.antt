-- The rows of the code, as rows of the table.
use Rattle.std.specs.Prelude.{List, map}
use Rattle.centre_words.specs.Table.{Item, Number, Row, file, count, choice}
use Rattle.centre_words.specs.declared.table.Number.{Number as Number'}
use Rattle.centre_words.specs.declared.table.Item.{Item as Item'}
use Rattle.centre_words.specs.declared.table.Item.TheVariants as item
use Rattle.centre_words.specs.declared.table.Row.{Row as Row'}

abbrev pub number_of : Number' → Number
number_of n = record { name = n.name.now; least = n.least; most = n.most; usual = n.usual }

abbrev pub item_of : Item' → Item
item_of (item.File id) = file id.now
item_of (item.Count number) = count (number_of number)
item_of (item.Choice number) = choice (number_of number)

abbrev pub row_of : Row' → Row
row_of r = record { name = r.name.now; items = map item_of r.items.now }

abbrev pub rows_of : List Row' → List Row
rows_of rows = map row_of rows
