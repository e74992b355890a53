-- That a journal keeps the laws of a log.
use Rattle.std.specs.Prelude.{◌≡◌, ◌+◌, false, Option, Some}
use Rattle.std.proofs.Common.{sym, ◌∙◌, ap}
use Rattle.pv_disk_model.specs.DiskModel.{DiskModel}
use Rattle.pv_disk_model.specs.LogModel.{LogModel}
use Rattle.pv_disk_model.specs.Size.{Contents, size_of}
use Rattle.pv_format.specs.Journal.{end_of}
use Rattle.pv_format.specs.JournalContents.{contents_of}
use Rattle.pv_law_journal.proofs.ContentsLemmas.{contents_of-journal}
use Rattle.pv_law_journal.proofs.OneAnswer.{same_contents}
use Rattle.pv_law_journal.proofs.SizeLemmas.{end_of-size, known_bytes}
use Rattle.pv_journal.specs.Journal.{IsIntact, contents_now, LeavesNow, LeavesSince, HasRoom, JournalGoes}
use Rattle.pv_journal.specs.declared.journal.Journal.{Journal}

module _ {D : Type 0} (M : DiskModel D) where
  pub settled_journal : (journal : Journal D) (held : Contents) (left : Option Contents) → IsIntact M journal → journal.down ≡ false → contents_now M journal ≡ Some held
      → LeavesNow M journal left → left ≡ Some held
  settled_journal journal held left intact up is leaves =
      let known = known_bytes (M.content journal.disk) held is in
      leaves.2 ∙ ap contents_of (intact.durable up known.0 known.1 leaves.0 leaves.1) ∙ known.2

  pub size_of_journal : (journal : Journal D) (held : Contents) → IsIntact M journal → journal.down ≡ false → contents_now M journal ≡ Some held → journal.length ≡ size_of held
  size_of_journal journal held intact up is =
      let known = known_bytes (M.content journal.disk) held is in
      let rest = intact.at_rest up known.0 known.1 in
      let same : rest.0 ≡ held = same_contents rest.0 held known.0 rest.1 (contents_of-journal held known.0 known.2) in
      rest.2 ∙ ap (λ (c : Contents). end_of c + 1) same ∙ sym (end_of-size held)

  pub held_is_left : (journal : Journal D) (held : Contents) → contents_now M journal ≡ Some held → LeavesNow M journal (Some held)
  held_is_left journal held is =
      let known = known_bytes (M.content journal.disk) held is in
      (known.0, M.is_left journal.disk known.0 known.1, sym known.2)

  abbrev pub journal_model : LogModel (Journal D)
  journal_model = record {
    contents = contents_now M;
    may_leave = LeavesNow M;
    moment = λ journal. M.moment journal.disk;
    left_since = LeavesSince M;
    faults = λ journal. M.faults journal.disk;
    is_down = λ journal. journal.down;
    size = λ journal. journal.length;
    limit = λ journal. journal.limit;
    has_room = HasRoom M;
    is_intact = IsIntact M;
    goes = JournalGoes M;
    counts_now = λ journal t left le leaves. (leaves.0, M.counts_now journal.disk t leaves.0 le leaves.1, leaves.2);
    only_now = λ journal left leaves. (leaves.0, M.only_now journal.disk leaves.0 leaves.1, leaves.2);
    is_left = held_is_left;
    settled = settled_journal;
    size_is = size_of_journal;
    is_bounded = λ journal intact. intact.bounded;
  }
