-- The client hears the note's line, or that there was no memory for it, if there is one.
use Rattle.std.proofs.Common.{Option, sym, subst}
use Rattle.pv_protocol.specs.Lines as model
use Rattle.pv_site.specs.Values.{note_of}
use Rattle.pv_mail.specs.Answers.{Says, told}
use Rattle.pv_mail.specs.Telling.{TellsAll}
use Rattle.pv_mail.specs.declared.answer.What.{What}
use Rattle.pv_mail.specs.declared.asked.Asker.{Asker}
use Rattle.pv_mail.proofs.TellingLemmas.{tells-nothing, tells-one}
use Rattle.pv_mail.proofs.telling.Telling.print.Goals.{in-Ok, in-Err}
use Rattle.pv_mail.proofs.telling.Telling.print.Goals as goal

pub returns-after-line_of : goal.returns-after-line_of
returns-after-line_of c =
    let seen = c.args.self.seen in
    let heard = model.line_of c.args.self.site.0 (note_of c.args.note.now) in
    let old = c.args.outs.now.items in
    let new = c.tell.new.outs.items in
    let says : Says c.match-line_of.what heard = elim c.match-line_of.branch [
      | in-Ok w ↦ subst (λ (what : What). Says what heard) (sym w.what-is) w.in-Ok.ensures
      | in-Err w ↦ subst (λ (what : What). Says what heard) (sym w.what-is) tt
    ] in
    subst (λ (asker : Option Asker). TellsAll seen (told asker heard) old new) (sym c.in-Some.is)
    (tells-one seen c.in-Some.asker heard c.match-line_of.what old new says c.tell.ensures)

pub returns-in_default : goal.returns-in_default
returns-in_default c =
    let seen = c.args.self.seen in
    let heard = model.line_of c.args.self.site.0 (note_of c.args.note.now) in
    let old = c.args.outs.now.items in
    subst (λ (asker : Option Asker). TellsAll seen (told asker heard) old old) (sym c.in_default.is) (tells-nothing seen old)
