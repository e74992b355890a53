-- What a reader leaves, where nothing was taken, or one thing after another.
use Rattle.std.proofs.Common.{◌≡◌, ◌++◌, [], ap, sym, arith}
use Rattle.pv_bytes.specs.Reading.{Rest}
use Rattle.pv_fields.proofs.PartLemmas.{HasTaken-both}
use Rattle.pv_replay.specs.Left.{HasGoneOn}

-- Nothing was taken.
pub gone_nowhere : (old new : Rest) → new ≡ old → HasGoneOn old new
gone_nowhere old new same =
    let place = ap (λ (rest : Rest). rest.place) same in
    ([], record { bytes = ap (λ (rest : Rest). rest.left) (sym same); place = omega (arith, place) })

-- Some bytes were taken, and then others.
pub gone_further : (old mid new : Rest) → HasGoneOn old mid → HasGoneOn mid new → HasGoneOn old new
gone_further old mid new first second = (first.0 ++ second.0, HasTaken-both first.0 second.0 old mid new first.1 second.1)
