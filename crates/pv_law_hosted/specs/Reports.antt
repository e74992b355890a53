-- The reports that a station has let out, as the lines that the run prints for them.
use Rattle.std.specs.Prelude.{ℕ, List, [], ◌∷◌}
use Rattle.pv_protocol.specs.Lines.{Line, line_of}
use Rattle.pv_embed.specs.Held.{Out, message, note}

-- the lines of the reports among what a site of this number has let out, in their order
abbrev pub reports_of : ℕ → List Out → List Line
reports_of n [] = []
reports_of n (message envelope ∷ outs) = reports_of n outs
reports_of n (note reported ∷ outs) = line_of n reported ∷ reports_of n outs
