use Rattle.std.proofs.Common.{◌++◌, ◌∷◌, ◌∙◌, ◌+◌, List, append-nil, drop, map, ap, sym, arith}
use Rattle.pv_protocol.specs.Lines as model
use Rattle.pv_protocol.specs.Lines.{lines_of}
use Rattle.pv_protocol.specs.State as state
use Rattle.pv_script.specs.LineView.{line_of}
use Rattle.pv_script.specs.declared.line.Line.{Line}
use Rattle.pv_site.specs.Values.{note_of}
use Rattle.pv_merge.proofs.HistoryLemmas.{map-end, map-first, map-one_more}
use Rattle.pv_merge.proofs.lines.push_notes.Goals as goal

pub loop-note-preserved : goal.loop-note-preserved
loop-note-preserved c =
    let site = c.args.site.0 in
    let notes = c.args.notes.now in
    let i = c.loop-note.note-index in
    let old = map line_of c.loop-note.lines.items in
    let later = drop (i + 1) (map note_of notes) in
    ap (λ (lines : List Line). map line_of lines ++ lines_of site later) c.in_ok-push.ensures.items
    ∙ map-one_more line_of c.loop-note.lines.items _ (lines_of site later)
    ∙ ap (λ (line : model.Line). old ++ line ∷ lines_of site later) c.in_ok-printed.ensures
    ∙ ap (λ (all : List state.Note). old ++ lines_of site all) (sym (map-first note_of notes i c.note-item.result c.loop-note-test.true c.note-item.is))
    ∙ c.loop-note.invariant

pub returns : goal.returns
returns c =
    let old = map line_of c.loop-note.lines.items in
    sym (append-nil old)
    ∙ ap (λ (all : List state.Note). old ++ lines_of c.args.site.0 all) (sym (map-end note_of c.args.notes.now c.loop-note.note-index (omega (arith, c.loop-note-test.false))))
    ∙ c.loop-note.invariant
