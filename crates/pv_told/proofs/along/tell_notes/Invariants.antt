-- What is told, and what is told of the notes that are left, is what is told of all; and so with what is begun.
use Rattle.std.proofs.Common.{◌≡◌, ◌++◌, ℕ, drop, map}
use Rattle.pv_mail.specs.Answers.{begun_after_all, told_of_all}
use Rattle.pv_site.specs.Values.{note_of}
use Rattle.pv_told.proofs.along.tell_notes.Given as goal
use Rattle.pv_told.specs.Words.{told_in}

abbrev pub invariant-loop-note : goal.invariant-loop-note
invariant-loop-note l = record {
  begun : begun_after_all l.asker l.begun.items (map note_of (drop l.note-index l.notes)) ≡ begun_after_all l.fn.asker l.fn.begun.items (map note_of l.notes);
  told : (me : ℕ) → told_in me l.told.items ++ told_of_all me l.asker l.begun.items (map note_of (drop l.note-index l.notes))
      ≡ told_in me l.fn.told.items ++ told_of_all me l.fn.asker l.fn.begun.items (map note_of l.notes);
}
