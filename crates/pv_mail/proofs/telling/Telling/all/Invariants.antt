-- What is told of the notes that are left, after what was told, is what was to be told of all.
use Rattle.std.specs.Prelude.{map, drop}
use Rattle.pv_mail.proofs.TellingLemmas.{Hears}
use Rattle.pv_mail.specs.Telling.{HasRoomFor}
use Rattle.pv_site.specs.Values.{note_of}
use Rattle.pv_mail.proofs.telling.Telling.all.Given as goal

abbrev pub invariant-loop-note : goal.invariant-loop-note
invariant-loop-note l =
    Hears l.fn.self.seen l.fn.self.site.0 l.fn.asker l.fn.begun.items (map note_of l.fn.notes) l.fn.outs.items l.asker l.begun.items
    (map note_of (drop l.note-index l.fn.notes)) l.outs.items
    × HasRoomFor l.asker l.begun
