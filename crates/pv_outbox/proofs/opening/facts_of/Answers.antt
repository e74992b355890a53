-- The next content is a record, or is none.
use Rattle.std.proofs.Common.{◌∷◌, [], ◌++◌, ◌+◌, Option, MatchOption, ap, sym, subst, ◌∙◌}
use Rattle.pv_law_outbox.specs.State.{State, after}
use Rattle.pv_law_outbox.proofs.StateLemmas.{state_of-last}
use Rattle.pv_outbox.specs.Spelling.{IsFirstBadContent, IsNoRecord, SpellsRecord}
use Rattle.pv_outbox.specs.declared.record.Record.{Record}
use Rattle.pv_outbox.specs.Values.{contents_of, record_of}
use Rattle.pv_outbox.proofs.OpeningLemmas.{first-bad, read-more}
use Rattle.pv_outbox.proofs.opening.facts_of.Goals as goal

pub loop-content-preserved : goal.loop-content-preserved
loop-content-preserved c =
    let so_far = c.loop-content.invariant.read in
    let found = subst (λ (value : Option Record). MatchOption value (IsNoRecord c.deref.result.now) (λ record_. SpellsRecord (record_of record_) c.deref.result.now)) c.in-Some.is c.in_ok-record.ensures in
    let one : SpellsRecord (record_of c.in-Some.«record») c.content-item.result.items = subst (SpellsRecord (record_of c.in-Some.«record»)) c.deref.ensures.value found in
    record {
      counted = ap (λ n. n + 1) c.loop-content.invariant.counted;
      read = (
        so_far.0 ++ record_of c.in-Some.«record» ∷ [],
        read-more c.args.contents.now c.loop-content.content-index c.content-item.result c.loop-content-test.true c.content-item.is so_far.0 (record_of c.in-Some.«record») so_far.1 one,
        c.note.ensures ∙ ap (λ (state : State). after state (record_of c.in-Some.«record»)) (c.reserve.ensures.same ∙ so_far.2) ∙ sym (state_of-last so_far.0 (record_of c.in-Some.«record»)),
      );
    }

pub returns-in-None : goal.returns-in-None
returns-in-None c =
    let so_far = c.loop-content.invariant.read in
    let none = subst (λ (value : Option Record). MatchOption value (IsNoRecord c.deref.result.now) (λ record_. SpellsRecord (record_of record_) c.deref.result.now)) c.in-None.is c.in_ok-record.ensures in
    subst (IsFirstBadContent (contents_of c.args.contents.now)) (sym c.loop-content.invariant.counted)
    (first-bad c.args.contents.now c.loop-content.content-index c.content-item.result c.loop-content-test.true c.content-item.is so_far.0 so_far.1
    (subst IsNoRecord c.deref.ensures.value none))
