-- The worked examples of document 01, 'Quantiser numbers'.
use mathlib.Core.Path.{◌≡◌, refl}
use lib.Count.{count_leading_zeros}
use Rattle.tables.specs.Divisor.{quality_factors}
use Rattle.tables.specs.Reciprocal.{shift_of, correction_of, reciprocal_of, scale_of}
use Rattle.tables.specs.Quality.{choose_from, quality_preset}

-- "16 gives 8, 32768, 8192."
pub sixteen : (correction_of 16 ≡ 8) × ((reciprocal_of 16 ≡ 32768) × (scale_of 16 ≡ 8192))
unfolding correction_of reciprocal_of scale_of shift_of count_leading_zeros
sixteen = (refl, (refl, refl))

-- "19 gives 10, 55188, 4096."
pub nineteen : (correction_of 19 ≡ 10) × ((reciprocal_of 19 ≡ 55188) × (scale_of 19 ≡ 4096))
unfolding correction_of reciprocal_of scale_of shift_of count_leading_zeros
nineteen = (refl, (refl, refl))

-- "Quality 36 is preset 24"
pub quality_36 : quality_preset 36 ≡ record { quality = 36; index = 24 }
unfolding quality_preset choose_from quality_factors
quality_36 = refl

-- "quality 35 is preset 0 with quality 35 unchanged"
pub quality_35 : quality_preset 35 ≡ record { quality = 35; index = 0 }
unfolding quality_preset choose_from quality_factors
quality_35 = refl

-- "quality 100 is preset 0 with quality 99"
pub quality_100 : quality_preset 100 ≡ record { quality = 99; index = 0 }
unfolding quality_preset choose_from quality_factors
quality_100 = refl
