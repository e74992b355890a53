-- What a site with a host is to let out.
use Rattle.std.specs.Prelude.{ℕ}
use Rattle.pv_format.specs.Message as format
use Rattle.pv_protocol.specs.State as model

-- A message on its way, or a report.
pub data Out : Type 0 where
  message : format.Envelope → Out
  note : model.Note → Out

-- Something that the site is to let out, and how long its log was after the step that made it.
pub record Held : Type 0 where
  pub length : ℕ
  pub out : Out
