-- How the reason why not all of a source was read is printed.
use Rattle.std.specs.Prelude.{ℕ, List, codes}
use Rattle.pv_io.specs.declared.read_end.ReadEnd.{ReadEnd}
use Rattle.pv_io.specs.declared.read_end.ReadEnd.TheVariants.{Failed, TooLong, NoMemory}

abbrev pub read_end_text : ReadEnd → List ℕ
read_end_text Failed = codes "failed"
read_end_text TooLong = codes "too long"
read_end_text NoMemory = codes "no memory"
