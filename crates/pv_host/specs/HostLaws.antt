-- A log whose journal a host writes as a log.
use Rattle.std.specs.Prelude.{◌≡◌, ℕ, ◌≤◌, Bool, true, false, Option, Some, length}
use Rattle.std.proofs.Common.{sym, ◌∙◌, ap, arith}
use Rattle.std.proofs.lemmas.List.{take_all}
use Rattle.pv_base.specs.declared.limits.TheConstants.{MAX_LENGTH}
use Rattle.pv_disk_model.specs.Size.{Contents, size_of}
use Rattle.pv_disk_model.specs.LogModel.{LogModel}
use Rattle.pv_host.specs.HostLog.{HostState, WasHeld, HasPlace, HostGoes, contents_of}

pub was_held : (log : HostState) (t : ℕ) (left : Option Contents) → t ≤ length (contents_of log) → left ≡ Some (contents_of log) → WasHeld log t left
was_held log t left le is = (length (contents_of log), le, omega arith, is ∙ ap Some (sym (take_all _ (contents_of log) (omega arith))))

pub held_now : (log : HostState) (left : Option Contents) → WasHeld log (length (contents_of log)) left → left ≡ Some (contents_of log)
held_now log left was = was.3 ∙ ap Some (take_all was.0 (contents_of log) was.1)

pub same_size : (a b : Contents) → Some a ≡ Some b → size_of a ≡ size_of b
same_size a b e = let same : a ≡ b = cc in ap size_of same

-- how often the log has failed: only where it is read again
abbrev pub faults_of : Bool → ℕ
faults_of true = 1
faults_of false = 0

-- The log counts what it was told as done: a crash leaves what it holds. What a crash leaves of the host's file is told beside it, and nothing that a log's
-- owner makes of an append is to leave before the host has written it.
abbrev pub host_model : LogModel HostState
host_model = record {
  contents = λ log. Some (contents_of log);
  may_leave = λ log left. left ≡ Some (contents_of log);
  moment = λ log. length (contents_of log);
  left_since = WasHeld;
  faults = λ log. faults_of log.is_down;
  is_down = λ log. log.is_down;
  size = λ log. size_of (contents_of log);
  limit = λ log. log.limit;
  has_room = HasPlace;
  is_intact = λ log. size_of (contents_of log) ≤ MAX_LENGTH;
  goes = HostGoes;
  counts_now = was_held;
  only_now = held_now;
  is_left = λ log held is. sym is;
  settled = λ log held left intact up is left_is. left_is ∙ is;
  size_is = λ log held intact up is. same_size (contents_of log) held is;
  is_bounded = λ log bounded. bounded;
}
