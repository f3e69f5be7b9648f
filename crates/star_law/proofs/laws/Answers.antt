use Rattle.star_law.proofs.Proved.{models_say_stars, models_meet, refuted_stars_dont_meet, star_clauses_are_counted, stars_fit}
use Rattle.star_law.proofs.laws.Goals as goal

pub returns : goal.returns
returns _ = record {
  models_say_stars = models_say_stars;
  models_meet = models_meet;
  refuted_stars_dont_meet = refuted_stars_dont_meet;
  star_clauses_are_counted = star_clauses_are_counted;
  stars_fit = stars_fit;
}
