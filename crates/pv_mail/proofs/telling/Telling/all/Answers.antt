-- One note after another is told.
use Rattle.std.proofs.Common.{◌≡◌, ◌+◌, Option, List, [], ◌∷◌, map, drop, sym, ap, subst, ◌∙◌, arith}
use Rattle.std.proofs.Math.ListN.{drop_of_length-le}
use Rattle.std.proofs.lemmas.List.{drop_more}
use Rattle.pv_site.specs.Values.{note_of}
use Rattle.pv_site.specs.declared.input.Note.{Note}
use Rattle.pv_mail.specs.Answers.{begun_after}
use Rattle.pv_mail.specs.declared.asked.Asker.{Asker}
use Rattle.pv_mail.specs.declared.asked.Begun.{Begun}
use Rattle.pv_mail.proofs.TellingLemmas.{Hears, hears-all, hears-next}
use Rattle.pv_mail.proofs.telling.Telling.all.Goals as goal

pub loop-note-preserved : goal.loop-note-preserved
loop-note-preserved c =
    let seen = c.args.self.seen in
    let me = c.args.self.site.0 in
    let asker = c.args.asker in
    let begun = c.args.begun.now.items in
    let notes = c.args.notes.now in
    let old = c.args.outs.now.items in
    let asker' = c.loop-note.asker in
    let begun' = c.loop-note.begun.items in
    let outs = c.loop-note.outs.items in
    let new = c.note-asker.new.outs.items in
    let note = c.note-item.result in
    let i = c.loop-note.note-index in
    let rest = map note_of (drop (i + 1) notes) in
    let first : drop i notes ≡ note ∷ drop (i + 1) notes =
    drop_more notes i note c.loop-note-test.true ∙ ap (λ (one : Note). one ∷ drop (i + 1) notes) (sym c.note-item.is) in
    let before = subst (λ (left : List Note). Hears seen me asker begun (map note_of notes) old asker' begun' (map note_of left) outs) first c.loop-note.invariant.0 in
    let after = hears-next seen me asker begun (map note_of notes) old asker' begun' (note_of note) rest outs new before c.note-asker.ensures.tells in (
      subst (λ (b : List Begun). Hears seen me asker begun (map note_of notes) old c.note-asker.result b rest new) (sym c.note-asker.ensures.begun)
          (subst (λ (a : Option Asker). Hears seen me asker begun (map note_of notes) old a (begun_after asker' begun' (note_of note)) rest new) (sym c.note-asker.ensures.asker) after),
      c.note-asker.ensures.room,
    )

pub returns-clause-tells : goal.returns-clause-tells
returns-clause-tells c =
    let seen = c.args.self.seen in
    let me = c.args.self.site.0 in
    let asker = c.args.asker in
    let begun = c.args.begun.now.items in
    let notes = c.args.notes.now in
    let old = c.args.outs.now.items in
    let outs = c.loop-note.outs.items in
    let none : drop c.loop-note.note-index notes ≡ [] = drop_of_length-le notes (omega (arith, c.loop-note-test.false)) in
    hears-all seen me asker begun (map note_of notes) old c.loop-note.asker c.loop-note.begun.items outs
    (subst (λ (left : List Note). Hears seen me asker begun (map note_of notes) old c.loop-note.asker c.loop-note.begun.items (map note_of left) outs) none
    c.loop-note.invariant.0)
