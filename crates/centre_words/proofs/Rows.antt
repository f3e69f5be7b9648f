-- The loops that build the commands, item by item and row by row.
use Rattle.std.proofs.Common.{◌≡◌, ◌∙◌, ◌<◌, ◌+◌, ℕ, sym, ap, List, [], ◌∷◌, map, drop, length, get_or, drop-cons, add-one, append_assoc}
use Rattle.clap.specs.Walk.{Rule}
use Rattle.clap.specs.Simple.{App, with_rule, with_subcommand}
use Rattle.centre_words.specs.Commands.{app_of_row, item_rule, with_commands, with_rules}
use Rattle.centre_words.specs.Rows.{item_of, row_of, rows_of}
use Rattle.centre_words.specs.declared.table.Item.{Item}
use Rattle.centre_words.specs.declared.table.Row.{Row}

-- one rule more, and then the rest
on_rule : (a : App) (r : Rule) (rs : List Rule) → with_rules (with_rule a r) rs ≡ with_rules a (r ∷ rs)
on_rule a r rs = ap (λ rules. record a { top = record a.top { rules = rules } }) (append_assoc a.top.rules (r ∷ []) rs)

-- the rest of a list begins with its next item
here : {X : Type 0} (xs : List X) (i : ℕ) (x : X) → i < length xs → drop i xs ≡ get_or xs i x ∷ drop (i + 1) xs
here xs i x lt = drop-cons xs i x lt ∙ ap (λ k. get_or xs i x ∷ drop k xs) (sym (add-one i))

pub item_goes_on : (a b all : App) (items : List Item) (i : ℕ) (d : Item) (r : Rule) → i < length items → r ≡ item_rule (item_of (get_or items i d)) → b ≡ with_rule a r
    → with_rules a (map item_rule (map item_of (drop i items))) ≡ all → with_rules b (map item_rule (map item_of (drop (i + 1) items))) ≡ all
item_goes_on a b all items i d r lt is same inv =
    ap (λ x. with_rules x (map item_rule (map item_of (drop (i + 1) items)))) (same ∙ ap (with_rule a) is) ∙ on_rule a (item_rule (item_of (get_or items i d))) (map item_rule (map item_of (drop (i + 1) items)))
    ∙ ap (λ xs. with_rules a (map item_rule (map item_of xs))) (sym (here items i d lt)) ∙ inv

pub row_goes_on : (a b below all : App) (rows : List Row) (i : ℕ) (d : Row) → i < length rows → below ≡ app_of_row (row_of (get_or rows i d)) → b ≡ with_subcommand a below.top
    → with_commands a (rows_of (drop i rows)) ≡ all → with_commands b (rows_of (drop (i + 1) rows)) ≡ all
row_goes_on a b below all rows i d lt is same inv =
    ap (λ x. with_commands x (rows_of (drop (i + 1) rows))) (same ∙ ap (λ (s : App). with_subcommand a s.top) is) ∙ ap (λ xs. with_commands a (rows_of xs)) (sym (here rows i d lt)) ∙ inv
