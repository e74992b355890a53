-- A log in memory as a log.
use Rattle.std.specs.Prelude.{◌≡◌, ℕ, ◌≤◌, Option, Some, length}
use Rattle.std.proofs.Common.{sym, ◌∙◌, ap, arith}
use Rattle.std.proofs.lemmas.List.{take_all}
use Rattle.pv_base.specs.declared.limits.TheConstants.{MAX_LENGTH}
use Rattle.pv_disk_model.specs.Size.{Contents, size_of}
use Rattle.pv_disk_model.specs.LogModel.{LogModel}
use Rattle.pv_disk.specs.ListLog.{ListState, WasHeld, HasPlace, ListGoes}

pub was_held : (log : ListState) (t : ℕ) (left : Option Contents) → t ≤ length log.contents → left ≡ Some log.contents → WasHeld log t left
was_held log t left le is = (length log.contents, le, omega arith, is ∙ ap Some (sym (take_all _ log.contents (omega arith))))

pub held_now : (log : ListState) (left : Option Contents) → WasHeld log (length log.contents) left → left ≡ Some log.contents
held_now log left was = was.3 ∙ ap Some (take_all was.0 log.contents was.1)

pub same_size : (a b : Contents) → Some a ≡ Some b → size_of a ≡ size_of b
same_size a b e = let same : a ≡ b = cc in ap size_of same

-- Each call is done at once, so a crash leaves what the log holds.
abbrev pub list_model : LogModel ListState
list_model = record {
  contents = λ log. Some log.contents;
  may_leave = λ log left. left ≡ Some log.contents;
  moment = λ log. length log.contents;
  left_since = WasHeld;
  faults = λ log. log.faults;
  is_down = λ log. log.is_down;
  size = λ log. size_of log.contents;
  limit = λ log. log.limit;
  has_room = HasPlace;
  is_intact = λ log. size_of log.contents ≤ MAX_LENGTH;
  goes = ListGoes;
  counts_now = was_held;
  only_now = held_now;
  is_left = λ log held is. sym is;
  settled = λ log held left intact up is left_is. left_is ∙ is;
  size_is = λ log held intact up is. same_size log.contents held is;
  is_bounded = λ log bounded. bounded;
}
