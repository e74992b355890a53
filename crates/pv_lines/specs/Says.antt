-- What a call answers that gives what a text says, or why the text says nothing.
use Rattle.std.specs.Prelude.{◌≡◌, Result, Ok, Err, ⊤}
use Rattle.pv_lines.specs.declared.cause.Cause.{Cause}
use Rattle.pv_lines.specs.declared.cause.LineFault.{LineFault}
use Rattle.pv_lines.specs.declared.cause.LineFault.TheVariants.{At, NoMemory}

-- The call gives what the line says, seen so, or the cause for which it says nothing. Out of memory may come in place of either.
abbrev pub Gives : {X Y : Type 0} → (X → Y) → Result Y Cause → Result X LineFault → Type 0
Gives view said (Ok x) = said ≡ Ok (view x)
Gives view said (Err (At cause)) = said ≡ Err cause
Gives view said (Err NoMemory) = ⊤
