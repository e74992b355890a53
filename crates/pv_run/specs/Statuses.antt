-- With which status the program ends, by how a command ended.
use Rattle.std.specs.Bool.{⊤}
use Rattle.std.specs.Prelude.{ℕ, Option, Some, None, Result, Ok, Err}
use Rattle.pv_io.specs.declared.read_end.ReadEnd.{ReadEnd}
use Rattle.pv_io.specs.declared.read_end.ReadEnd.TheVariants as unread
use Rattle.pv_run.specs.declared.status.Status.{Status}
use Rattle.pv_run.specs.declared.status.Status.TheVariants.{Done, Malformed, ReadFault, WriteFault, TooLong, NoMemory, SentLimit}
use Rattle.pv_run.specs.declared.text_end.TextEnd.{TextEnd}
use Rattle.pv_run.specs.declared.text_end.TextEnd.TheVariants as text
use Rattle.pv_run.specs.declared.text_end.LongText.{LongText}
use Rattle.pv_run.specs.declared.write_end.WriteEnd.{WriteEnd}
use Rattle.pv_run.specs.declared.write_end.WriteEnd.TheVariants as unwritten

-- by how a text in memory ended
abbrev pub text_status : TextEnd → Status
text_status text.Done = Done
text_status text.Malformed = Malformed
text_status text.WriteFault = WriteFault
text_status text.NoMemory = NoMemory
text_status text.SentLimit = SentLimit

-- by why the input wasn't read
abbrev pub unread_status : ReadEnd → Status
unread_status unread.Failed = ReadFault
unread_status unread.TooLong = TooLong
unread_status unread.NoMemory = NoMemory

-- by why not all was written
abbrev pub unwritten_status : WriteEnd → Status
unwritten_status unwritten.WriteFault = WriteFault
unwritten_status unwritten.NoMemory = NoMemory

-- of `run`, `json` and `trace`
abbrev pub run_status : Result TextEnd ReadEnd → Status
run_status (Ok end) = text_status end
run_status (Err why) = unread_status why

-- of `make`
abbrev pub make_status : Result ⊤ WriteEnd → Status
make_status (Ok all) = Done
make_status (Err why) = unwritten_status why

-- of `big`
abbrev pub big_status : Result TextEnd LongText → Status
big_status (Ok end) = text_status end
big_status (Err long) = TooLong

-- how a run ends that wrote all that it had to, by the total that passed the limit
abbrev pub end_within : Option ℕ → TextEnd
end_within None = text.Done
end_within (Some total) = text.SentLimit

-- how the text ends of which this is the run
abbrev pub end_of_run : Result (Option ℕ) WriteEnd → TextEnd
end_of_run (Ok over) = end_within over
end_of_run (Err unwritten.WriteFault) = text.WriteFault
end_of_run (Err unwritten.NoMemory) = text.NoMemory

-- how the text ends of which this is the refusal
abbrev pub end_of_refusal : Result ⊤ WriteEnd → TextEnd
end_of_refusal (Ok all) = text.Malformed
end_of_refusal (Err unwritten.WriteFault) = text.WriteFault
end_of_refusal (Err unwritten.NoMemory) = text.NoMemory
