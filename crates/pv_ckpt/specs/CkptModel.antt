-- That a log in two areas keeps the laws of a log.
use Rattle.std.specs.Prelude.{◌≡◌, ℕ, ◌++◌, false, List, Option, Some, None, option_and_then}
use Rattle.std.proofs.Common.{sym, ◌∙◌, ap, refl}
use Rattle.pv_disk_model.specs.DiskModel.{DiskModel}
use Rattle.pv_disk_model.specs.LogModel.{LogModel}
use Rattle.pv_disk_model.specs.Size.{Contents, size_of}
use Rattle.pv_law_checkpoints.specs.LogContents.{log_contents_of}
use Rattle.pv_law_checkpoints.specs.TwoAreas.{IsTwoAreas}
use Rattle.pv_law_checkpoints.proofs.ContentsLemmas.{log_contents_of-log}
use Rattle.pv_law_checkpoints.proofs.OneAnswer.{one_contents}
use Rattle.pv_ckpt.specs.CkptLog.{IsIntact, contents_now, LeavesNow, LeavesSince, HasRoom, LogGoes}
use Rattle.pv_ckpt.specs.declared.ckpt_log.CkptLog.{CkptLog}

-- What is known is some bytes, of which the contents are known.
pub log_bytes : (content : Option (List ℕ)) (held : Contents) → option_and_then log_contents_of content ≡ Some held
    → (bytes : List ℕ) × (content ≡ Some bytes) × (log_contents_of bytes ≡ Some held)
log_bytes None held is = cc
log_bytes (Some bytes) held is = (bytes, refl, is)

module _ {D : Type 0} (M : DiskModel D) where
  pub settled_log : (log : CkptLog D) (held : Contents) (left : Option Contents) → IsIntact M log → log.down ≡ false → contents_now M log ≡ Some held → LeavesNow M log left
      → left ≡ Some held
  settled_log log held left intact up is leaves =
      let known = log_bytes (M.content log.disk) held is in
      leaves.2 ∙ ap log_contents_of (intact.durable up known.0 known.1 leaves.0 leaves.1) ∙ known.2

  pub size_of_log : (log : CkptLog D) (held : Contents) → IsIntact M log → log.down ≡ false → contents_now M log ≡ Some held → log.length ≡ size_of held
  size_of_log log held intact up is =
      let known = log_bytes (M.content log.disk) held is in
      let rest = intact.at_rest up known.0 known.1 in
      let there : IsTwoAreas (rest.0 ++ rest.1) known.0 = record { at = log.root.at; packed = rest.0; later = rest.1; log = rest.2.log; is = refl } in
      rest.3 ∙ ap size_of (one_contents (rest.0 ++ rest.1) held known.0 there (log_contents_of-log held known.0 known.2))

  pub held_is_left : (log : CkptLog D) (held : Contents) → contents_now M log ≡ Some held → LeavesNow M log (Some held)
  held_is_left log held is =
      let known = log_bytes (M.content log.disk) held is in
      (known.0, M.is_left log.disk known.0 known.1, sym known.2)

  abbrev pub ckpt_model : LogModel (CkptLog D)
  ckpt_model = record {
    contents = contents_now M;
    may_leave = LeavesNow M;
    moment = λ log. M.moment log.disk;
    left_since = LeavesSince M;
    faults = λ log. M.faults log.disk;
    is_down = λ log. log.down;
    size = λ log. log.length;
    limit = λ log. log.limit;
    has_room = HasRoom M;
    is_intact = IsIntact M;
    goes = LogGoes M;
    counts_now = λ log t left le leaves. (leaves.0, M.counts_now log.disk t leaves.0 le leaves.1, leaves.2);
    only_now = λ log left leaves. (leaves.0, M.only_now log.disk leaves.0 leaves.1, leaves.2);
    is_left = held_is_left;
    settled = settled_log;
    size_is = size_of_log;
    is_bounded = λ log intact. intact.bounded;
  }
