-- The numbers of a place and of a flip, as they stand in the lists of all.
use Rattle.std.proofs.Common.{◌≡◌, ℕ, ◌+◌, ◌*◌, ◌<◌, ◌≤◌, List, length, get_or, Option, None, ap, ◌∙◌, arith}
use Rattle.std.proofs.lemmas.List.{length-map, get_or-map}
use Rattle.formula_parts.specs.Building.{no_pair, pair_at}
use Rattle.formula_parts.specs.Lists.{no_edge, edge_at}
use Rattle.pruned_cnf.specs.Queries.{Query, place_number, flip_number}
use Rattle.pruned_cnf.specs.Numbered.{layer_numbers, round_numbers, AreNumbered}
use Rattle.pruned_cnf.proofs.Numbers.{row_within, row_entry}

module _ (q : Query) (places flips : List (Option ℕ)) (variables : ℕ) (A : AreNumbered q places flips variables) (t n : ℕ) where
  pub place_within : t ≤ q.rounds → n < length q.frame.segments → t * length q.frame.segments + n < length places
  place_within h l = omega (arith, ap length A.layers, row_within (layer_numbers q) (length q.frame.segments) (λ u. length-map q.frame.segments (place_number q u)) (q.rounds + 1) t n (omega arith) l)

  pub place_read : t ≤ q.rounds → n < length q.frame.segments → get_or places (t * length q.frame.segments + n) None ≡ place_number q t (edge_at q.frame.segments n)
  place_read h l =
      ap (λ xs. get_or xs (t * length q.frame.segments + n) None) A.layers
      ∙ row_entry (layer_numbers q) (length q.frame.segments) (λ u. length-map q.frame.segments (place_number q u)) (q.rounds + 1) t n None (omega arith) l
      ∙ get_or-map (place_number q t) q.frame.segments n no_edge None l

  pub flip_within : t < q.rounds → n < length q.frame.flips → t * length q.frame.flips + n < length flips
  flip_within h l = omega (arith, ap length A.rounds, row_within (round_numbers q) (length q.frame.flips) (λ u. length-map q.frame.flips (flip_number q u)) q.rounds t n h l)

  pub flip_read : t < q.rounds → n < length q.frame.flips → get_or flips (t * length q.frame.flips + n) None ≡ flip_number q t (pair_at q.frame.flips n)
  flip_read h l =
      ap (λ xs. get_or xs (t * length q.frame.flips + n) None) A.rounds
      ∙ row_entry (round_numbers q) (length q.frame.flips) (λ u. length-map q.frame.flips (flip_number q u)) q.rounds t n None h l
      ∙ get_or-map (flip_number q t) q.frame.flips n no_pair None l
