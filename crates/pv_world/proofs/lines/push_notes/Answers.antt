use Rattle.std.proofs.Common.{◌≡◌, ◌++◌, ◌∷◌, [], List, map, length, refl, sym, ap, ◌∙◌, arith, append_assoc, append-nil}
use Rattle.pv_protocol.specs.Lines as model
use Rattle.pv_protocol.specs.Lines.{lines_of}
use Rattle.pv_script.specs.LineView.{line_of}
use Rattle.pv_site.specs.Values.{note_of}
use Rattle.pv_site.specs.declared.input.Note.{Note}
use Rattle.pv_world.proofs.lines.push_notes.Goals as goal

pub loop-note-init : goal.loop-note-init
loop-note-init c =
    ap (λ (notes : List Note). map line_of c.args.lines.now.items ++ lines_of c.args.site.0 (map note_of notes)) c.into_iter-note-iterator.ensures.into_iter_gives.0

pub loop-note-preserved : goal.loop-note-preserved
loop-note-preserved c =
    let site = c.args.site.0 in
    let old = map line_of c.loop-note.lines.items in
    let rest = lines_of site (map note_of c.next.new.self.rest.items) in
    ap (λ lines. lines ++ rest) c.in_ok-push_note.ensures
    ∙ append_assoc old (model.line_of site (note_of c.in-Some.note) ∷ []) rest
    ∙ ap (λ (notes : List Note). old ++ lines_of site (map note_of notes)) (sym c.in-Some.ensures.steps.0)
    ∙ c.loop-note.invariant

no-more : {X : Type 0} (xs : List X) → length xs ≡ 0 → xs ≡ []
no-more [] none = refl
no-more (x ∷ xs) none = absurd (omega (arith, none))

pub returns : goal.returns
returns c =
    let rest = c.loop-note.note-iterator.rest in
    let old = map line_of c.loop-note.lines.items in
    let none : rest.items ≡ [] = no-more rest.items (sym rest.ok.0 ∙ c.in-None.ensures.steps.0) in
    sym (append-nil old) ∙ ap (λ (notes : List Note). old ++ lines_of c.args.site.0 (map note_of notes)) (sym none) ∙ c.loop-note.invariant
