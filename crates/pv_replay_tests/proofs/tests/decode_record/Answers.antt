-- The one record that was replayed is the one as which its content is read.
use Rattle.std.proofs.Common.{◌≡◌, IfSome, ℕ, List, [], ◌∷◌, ◌++◌, Option, Some, None, ap, ◌∙◌, subst, rules}
use Rattle.std.specs.Option.{option_to_list}
use Rattle.pv_format.specs.Contents.{SpellRecords}
use Rattle.pv_format.specs.RecordSpelling.{IsReadAs}
use Rattle.pv_replay.specs.Values.{contents_of, record_of, records_of}
use Rattle.pv_replay.specs.declared.record.Record.{Record}
use Rattle.pv_replay_tests.proofs.tests.decode_record.Goals as goal

popped : (front : List Record) (last : Option Record) (content : List ℕ) → SpellRecords (records_of (front ++ option_to_list last)) (content ∷ [])
    → IfSome last (λ value. IsReadAs (record_of value) content)
popped [] None content spelled = tt
popped [] (Some value) content spelled = spelled.0
popped (first ∷ []) None content spelled = tt
popped (first ∷ []) (Some value) content spelled = absurd spelled.1
popped (first ∷ second ∷ more) last content spelled = absurd spelled.1

pub returns-in-Ok : goal.returns-in-Ok
returns-in-Ok c =
    let copied = c.in_ok-to_vec.field-0 in
    let copy_is : copied.items ≡ c.args.content.now = search rules in
    let contents_are : contents_of c.deref.result.now ≡ c.args.content.now ∷ [] =
    ap contents_of (c.deref.ensures.value ∙ c.in_ok-push.ensures.items ∙ ap (λ l. l ++ copied ∷ []) c.new-contents.ensures.items) ∙ ap (λ (bytes : List ℕ). bytes ∷ []) copy_is in
    popped c.pop.new.self.items c.pop.result c.args.content.now
    (subst (λ records. SpellRecords (records_of records) (c.args.content.now ∷ [])) c.pop.ensures.items
    (subst (SpellRecords (records_of c.in-Ok.past.records.items)) contents_are c.in-Ok.ensures.answer.given))
