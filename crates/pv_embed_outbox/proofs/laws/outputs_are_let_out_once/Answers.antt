-- The laws of logs and of records are those of the crates below.
use Rattle.pv_embed_outbox.proofs.LifeLemmas.{knows_records, left_records, released_is_next, stored_never_again, stored_records_last, taken_is_stored, taken_once}
use Rattle.pv_embed_outbox.proofs.laws.outputs_are_let_out_once.Goals as goal
use Rattle.pv_embed_outbox.specs.Life.{closed}

pub returns-clause-once : goal.returns-clause-once
returns-clause-once c = λ file acts end life.
    let f = c.files_are_journals.ensures in
    taken_once
    (record {
      opened = f.opened;
      called = f.called;
      stores = f.stores;
      asked = f.asked;
      keeps = f.keeps;
      written = f.written;
      crashed = f.crashed;
      journals = f.journals;
      one_journal = c.one_journal.ensures;
      one = c.contents_tell_records.ensures.one;
      more = c.contents_tell_records.ensures.more;
    })
    acts (closed file) end tt life

pub returns-clause-knows : goal.returns-clause-knows
returns-clause-knows c = λ start file acts hosted life.
    let f = c.files_are_journals.ensures in
    knows_records
    (record {
      opened = f.opened;
      called = f.called;
      stores = f.stores;
      asked = f.asked;
      keeps = f.keeps;
      written = f.written;
      crashed = f.crashed;
      journals = f.journals;
      one_journal = c.one_journal.ensures;
      one = c.contents_tell_records.ensures.one;
      more = c.contents_tell_records.ensures.more;
    })
    start file acts hosted life

pub returns-clause-kept : goal.returns-clause-kept
returns-clause-kept c = λ start file after before acts old new entries first spelled life.
    let f = c.files_are_journals.ensures in
    stored_records_last
    (record {
      opened = f.opened;
      called = f.called;
      stores = f.stores;
      asked = f.asked;
      keeps = f.keeps;
      written = f.written;
      crashed = f.crashed;
      journals = f.journals;
      one_journal = c.one_journal.ensures;
      one = c.contents_tell_records.ensures.one;
      more = c.contents_tell_records.ensures.more;
    })
    start file after before acts old new entries first spelled life

pub returns-clause-never_again : goal.returns-clause-never_again
returns-clause-never_again c = λ file contents entries acts end output journal spelled says life.
    let f = c.files_are_journals.ensures in
    stored_never_again
    (record {
      opened = f.opened;
      called = f.called;
      stores = f.stores;
      asked = f.asked;
      keeps = f.keeps;
      written = f.written;
      crashed = f.crashed;
      journals = f.journals;
      one_journal = c.one_journal.ensures;
      one = c.contents_tell_records.ensures.one;
      more = c.contents_tell_records.ensures.more;
    })
    file contents entries acts end output journal spelled says life

pub returns-clause-let_out : goal.returns-clause-let_out
returns-clause-let_out c = λ start file before old new output life takes_it.
    let f = c.files_are_journals.ensures in
    taken_is_stored
    (record {
      opened = f.opened;
      called = f.called;
      stores = f.stores;
      asked = f.asked;
      keeps = f.keeps;
      written = f.written;
      crashed = f.crashed;
      journals = f.journals;
      one_journal = c.one_journal.ensures;
      one = c.contents_tell_records.ensures.one;
      more = c.contents_tell_records.ensures.more;
    })
    start file before old new output life takes_it

pub returns-clause-ready : goal.returns-clause-ready
returns-clause-ready c = λ start file before old new answer life does.
    let f = c.files_are_journals.ensures in
    released_is_next
    (record {
      opened = f.opened;
      called = f.called;
      stores = f.stores;
      asked = f.asked;
      keeps = f.keeps;
      written = f.written;
      crashed = f.crashed;
      journals = f.journals;
      one_journal = c.one_journal.ensures;
      one = c.contents_tell_records.ensures.one;
      more = c.contents_tell_records.ensures.more;
    })
    start file before old new answer life does

pub returns-clause-left : goal.returns-clause-left
returns-clause-left c = λ start file left before hosted life may.
    let f = c.files_are_journals.ensures in
    left_records
    (record {
      opened = f.opened;
      called = f.called;
      stores = f.stores;
      asked = f.asked;
      keeps = f.keeps;
      written = f.written;
      crashed = f.crashed;
      journals = f.journals;
      one_journal = c.one_journal.ensures;
      one = c.contents_tell_records.ensures.one;
      more = c.contents_tell_records.ensures.more;
    })
    start file left before hosted life may
