-- The lines so far, and those of the notes that are left.
use Rattle.std.proofs.Common.{◌≡◌, ◌++◌, drop, map}
use Rattle.pv_protocol.specs.Lines.{lines_of}
use Rattle.pv_script.specs.LineView.{line_of}
use Rattle.pv_site.specs.Values.{note_of}
use Rattle.pv_merge.proofs.lines.push_notes.Given as goal

abbrev pub invariant-loop-note : goal.invariant-loop-note
invariant-loop-note l =
    map line_of l.lines.items ++ lines_of l.site.0 (drop l.note-index (map note_of l.notes))
    ≡ map line_of l.fn.lines.items ++ lines_of l.site.0 (map note_of l.notes)
