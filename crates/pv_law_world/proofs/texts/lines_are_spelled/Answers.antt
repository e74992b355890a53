use Rattle.std.specs.Prelude.{refl}
use Rattle.std.specs.Fmt.{digits}
use Rattle.pv_protocol.specs.LineText.{words_of}
use Rattle.pv_law_world.proofs.texts.lines_are_spelled.Goals as goal

pub returns : goal.returns
unfolding words_of digits
returns c = refl
