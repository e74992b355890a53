use Rattle.std.proofs.Common.{◌≡◌, ◌++◌, ◌∷◌, ◌+◌, ◌∙◌, List, [], append-nil, drop, map, ap, sym, subst, arith}
use Rattle.std.proofs.Math.ListN.{drop_of_length-le}
use Rattle.std.proofs.lemmas.List.{drop_more}
use Rattle.pv_mail.specs.Answers.{begun_after_all, told_of_all}
use Rattle.pv_site.specs.Values.{note_of}
use Rattle.pv_site.specs.declared.input.Note.{Note}
use Rattle.pv_told.proofs.ToldLemmas.{begun-next, notes-next}
use Rattle.pv_told.proofs.along.tell_notes.Goals as goal
use Rattle.pv_told.specs.Words.{told_in}

pub loop-note-preserved : goal.loop-note-preserved
loop-note-preserved c =
    let notes = c.args.notes.now in
    let note = c.note-item.result in
    let i = c.loop-note.note-index in
    let asker = c.loop-note.asker in
    let begun = c.loop-note.begun.items in
    let rest = map note_of (drop (i + 1) notes) in
    let first : drop i notes ≡ note ∷ drop (i + 1) notes =
    drop_more notes i note c.loop-note-test.true ∙ ap (λ (one : Note). one ∷ drop (i + 1) notes) (sym c.note-item.is) in
    record {
      begun = begun-next asker _ begun _ (note_of note) rest _
          (subst (λ (left : List Note). begun_after_all asker begun (map note_of left) ≡ begun_after_all c.args.asker c.args.begun.now.items (map note_of notes)) first
          c.loop-note.invariant.begun)
          c.in_ok-asker.ensures.asker c.in_ok-asker.ensures.begun;
      told = λ me. notes-next me (told_in me c.loop-note.told.items) _ asker _ begun _ (note_of note) rest _
          (subst (λ (left : List Note). told_in me c.loop-note.told.items ++ told_of_all me asker begun (map note_of left)
          ≡ told_in me c.args.told.now.items ++ told_of_all me c.args.asker c.args.begun.now.items (map note_of notes)) first (c.loop-note.invariant.told me))
          (c.in_ok-asker.ensures.told me) c.in_ok-asker.ensures.asker c.in_ok-asker.ensures.begun;
    }

pub returns : goal.returns
returns c =
    let notes = c.args.notes.now in
    let asker = c.loop-note.asker in
    let begun = c.loop-note.begun.items in
    let none : drop c.loop-note.note-index notes ≡ [] = drop_of_length-le notes (omega (arith, c.loop-note-test.false)) in
    record {
      begun = subst (λ (left : List Note). begun_after_all asker begun (map note_of left) ≡ begun_after_all c.args.asker c.args.begun.now.items (map note_of notes)) none
          c.loop-note.invariant.begun;
      told = λ me. sym (append-nil (told_in me c.loop-note.told.items))
          ∙ subst (λ (left : List Note). told_in me c.loop-note.told.items ++ told_of_all me asker begun (map note_of left)
          ≡ told_in me c.args.told.now.items ++ told_of_all me c.args.asker c.args.begun.now.items (map note_of notes)) none (c.loop-note.invariant.told me);
    }
