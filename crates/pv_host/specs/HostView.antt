-- What the fields of a log say whose journal a host writes.
use Rattle.std.specs.Prelude.{◌≡◌, ◌≤◌, [], false, is_none, length, map, IfSome, ◌++◌}
use Rattle.std.specs.List.{flat_map}
use Rattle.pv_base.specs.declared.limits.TheConstants.{MAX_JOURNAL, MAX_LENGTH}
use Rattle.pv_disk_model.specs.Size.{size_of}
use Rattle.pv_format.specs.Journal.{end_of}
use Rattle.pv_host.specs.HostLog.{HostState, contents_of}
use Rattle.pv_host.specs.Waiting.{WaitingState}
use Rattle.pv_host.specs.declared.host_log.HostLog.TheInside.{Inside}

abbrev pub log_of : Inside → HostState
log_of inside = record {
  stored = map (λ it. it.items) inside.found.items ++ flat_map (λ (waiting : WaitingState). waiting.asked) inside.stored.items;
  asked = inside.waiting.asked;
  pending = inside.waiting.pending;
  behind_gate = inside.behind_gate;
  limit = inside.limit;
  is_down = inside.down;
  is_read = is_none inside.unread;
  bytes = inside.waiting.room;
}

-- The numbers are those of the contents, and what isn't read yet is all of them.
pub record IsHostLog (inside : Inside) : Type 0 where
  pub records_are : inside.records ≡ length (log_of inside).stored
  pub group_is : inside.group ≡ length (log_of inside).asked
  pub end_is : inside.end ≡ end_of (log_of inside).stored
  pub length_is : inside.length ≡ size_of (contents_of (log_of inside))
  pub bounded : inside.length ≤ MAX_LENGTH
  pub limited : inside.limit ≤ MAX_JOURNAL
  pub gate : inside.waiting.asked ≡ [] → inside.behind_gate ≡ false
  pub unread : IfSome inside.unread (λ all. map (λ it. it.items) all.items ≡ contents_of (log_of inside))
