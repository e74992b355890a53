-- What the note says is told.
use Rattle.std.proofs.Common.{◌≡◌, Option, List, ⊎_elim, refl, sym, subst}
use Rattle.pv_protocol.specs.Lines as model
use Rattle.pv_site.specs.Values.{note_of}
use Rattle.pv_site.specs.declared.input.Note.{Note}
use Rattle.pv_mail.specs.Answers.{asker_in, Told, told, told_of}
use Rattle.pv_mail.specs.Telling.{TellsAll}
use Rattle.pv_mail.specs.declared.asked.Asker.{Asker}
use Rattle.pv_mail.proofs.telling.Telling.note.Goals as goal

pub returns-in-Spent-clause-tells : goal.returns-in-Spent-clause-tells
returns-in-Spent-clause-tells c =
    let seen = c.args.self.seen in
    let me = c.args.self.site.0 in
    let asker = c.args.asker in
    let begun = c.args.begun.now.items in
    let old = c.args.outs.now.items in
    let new = c.print.new.outs.items in
    subst (λ (note : Note). TellsAll seen (told_of me asker begun (note_of note)) old new) (sym c.in-Spent.is)
    (subst (λ (note : Note). TellsAll seen (told asker (model.line_of me (note_of note))) old new) c.in-Spent.is c.print.ensures)

pub returns-in-Commit-clause-tells : goal.returns-in-Commit-clause-tells
returns-in-Commit-clause-tells c =
    let seen = c.args.self.seen in
    let me = c.args.self.site.0 in
    let asker = c.args.asker in
    let begun = c.args.begun.now.items in
    let note = c.args.note.now in
    let txn = c.in-Commit.txn in
    let old = c.args.outs.now.items in
    let new = c.print-in-Commit.new.outs.items in
    let heard : told_of me asker begun (note_of note) ≡ told (asker_in begun txn) (model.line_of me (note_of note)) =
    ⊎_elim
    (λ is. subst (λ (n : Note). told_of me asker begun (note_of n) ≡ told (asker_in begun txn) (model.line_of me (note_of n))) (sym is.1) refl)
    (λ is. subst (λ (n : Note). told_of me asker begun (note_of n) ≡ told (asker_in begun txn) (model.line_of me (note_of n))) (sym is.1) refl)
    c.in-Commit.is in
    subst (λ (all : List Told). TellsAll seen all old new) (sym heard)
    (subst (λ (who : Option Asker). TellsAll seen (told who (model.line_of me (note_of note))) old new) c.take_asker-other.ensures.asker c.print-in-Commit.ensures)
