-- What calls that write nothing leave of a log in two areas.
use Rattle.std.proofs.Common.{◌≡◌, ⊎_elim, ℕ, ◌≤◌, true, false, List, Option, Some, None, arith, refl, ap}
use Rattle.std.specs.Prelude.{is_some, option_and_then, vec_capacity}
use Rattle.pv_disk_model.specs.DiskModel.{DiskModel}
use Rattle.pv_disk_model.specs.Disk.{LeavesOnly}
use Rattle.pv_disk_model.specs.Log.{Keeps}
use Rattle.pv_law_calls.proofs.LookLemmas.{still_left}
use Rattle.pv_law_checkpoints.specs.LogContents.{log_contents_of}
use Rattle.pv_ckpt.specs.CkptLog.{HasRoom, IsIntact}
use Rattle.pv_ckpt.specs.CkptModel.{ckpt_model}
use Rattle.pv_ckpt.specs.declared.ckpt_log.CkptLog.{CkptLog}

-- What is known of two contents that are known alike.
both_known : (old new : Option (List ℕ)) → is_some new ≡ is_some old → ((was now : List ℕ) → old ≡ Some was → new ≡ Some now → now ≡ was) → new ≡ old
both_known None None alike same = refl
both_known None (Some now) alike same = absurd (let both : true ≡ false = alike in cc)
both_known (Some was) None alike same = absurd (let both : false ≡ true = alike in cc)
both_known (Some was) (Some now) alike same = ap (λ (l : List ℕ). Some l) (same was now refl refl)

-- Room that was made for an append stays.
pub keeps_room : {D : Type 0} (M : DiskModel D) (old new : CkptLog D) → new.frame ≡ old.frame → new.length ≡ old.length → new.limit ≡ old.limit
    → M.room old.disk ≤ M.room new.disk → M.writes old.disk ≤ M.writes new.disk → (content : ℕ) → HasRoom M old content → HasRoom M new content
keeps_room M old new frame long limit room writes content has = record {
  frame = omega (arith, has.frame, ap vec_capacity frame);
  room = omega (arith, has.room, room);
  writes = omega (arith, has.writes, writes);
  within = omega (arith, has.within, long, limit);
}

module _ {D : Type 0} (M : DiskModel D) (old new : CkptLog D) (intact : IsIntact M old) (up : old.down ≡ false)
    (alike : is_some (M.content new.disk) ≡ is_some (M.content old.disk)) (leaves : LeavesOnly M old.disk new.disk (M.may_leave old.disk)) where
  -- All was synced, so that the content stays even where a call failed.
  content_settled : M.content new.disk ≡ M.content old.disk
  content_settled =
      both_known (M.content old.disk) (M.content new.disk) alike
      (λ was now before after. intact.durable up was before now (still_left M old.disk new.disk (M.may_leave old.disk) leaves now (M.is_left new.disk now after)))

  pub keeps_log : new.length ≡ old.length → new.limit ≡ old.limit → Keeps (ckpt_model M) old new
  keeps_log long limit = record {
    contents = ap (option_and_then log_contents_of) content_settled;
    size = long;
    limit = limit;
    later = leaves.later;
    crash = λ t left le since.
        (since.0, ⊎_elim (λ was. was) (λ now. M.counts_now old.disk t since.0 le now) (leaves.before t since.0 le since.1), since.2);
    keeps = λ t left le since. (since.0, leaves.keeps t since.0 le since.1, since.2);
  }
