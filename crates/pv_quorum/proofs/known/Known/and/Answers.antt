-- A promise or an accepted value more.
use Rattle.std.proofs.Common.{List, ◌++◌, ◌∷◌, [], refl, sym, subst}
use Rattle.pv_law_quorum.specs.Record as records
use Rattle.pv_law_quorum.specs.Record.{ballot_promised, value_accepted}
use Rattle.pv_law_quorum.proofs.RecordLemmas.{promise-named, value-named}
use Rattle.pv_quorum.specs.Knows.{IsRecorded}
use Rattle.pv_quorum.specs.Spelling.{txn_in}
use Rattle.pv_quorum.specs.Values.{ballot_of, record_of}
use Rattle.pv_quorum.specs.declared.known.Known.{Known}
use Rattle.pv_quorum.specs.declared.record.Record.{Record}
use Rattle.pv_quorum.proofs.KnownLemmas.{promised-after, values-kept}
use Rattle.pv_quorum.proofs.known.Known.and.Goals as goal

-- what there is to show of this record
abbrev Goes : List records.Record → Known → Known → Record → Type 0
Goes entries old new entry = IsRecorded (txn_in (record_of entry)) entries old → IsRecorded (txn_in (record_of entry)) (entries ++ record_of entry ∷ []) new

pub returns-in-Promised-clause-recorded : goal.returns-in-Promised-clause-recorded
returns-in-Promised-clause-recorded c = λ entries range.
    subst (Goes entries c.args.self _) (sym c.in-Promised.is)
    (λ old. record {
      promised_is = promised-after c.in-Promised.txn entries c.args.self old (ballot_promised c.in-Promised.txn (ballot_of c.in-Promised.ballot)) c.in-Promised.ballot c.greater_ballot.result
          (promise-named c.in-Promised.txn (ballot_of c.in-Promised.ballot)) c.greater_ballot.ensures;
      values = values-kept c.in-Promised.txn entries c.args.self old (ballot_promised c.in-Promised.txn (ballot_of c.in-Promised.ballot)) refl (λ ballot commits. refl);
    })

pub returns-in-Accepted-clause-recorded : goal.returns-in-Accepted-clause-recorded
returns-in-Accepted-clause-recorded c = λ entries range.
    subst (Goes entries c.args.self _) (sym c.in-Accepted.is)
    (λ old. record {
      promised_is = promised-after c.in-Accepted.txn entries c.args.self old (value_accepted c.in-Accepted.txn (ballot_of c.in-Accepted.ballot) c.in-Accepted.commits) c.in-Accepted.ballot c.greater_ballot-in-Accepted.result
          (value-named c.in-Accepted.txn (ballot_of c.in-Accepted.ballot) c.in-Accepted.commits) c.greater_ballot-in-Accepted.ensures;
      values = c.accepted.ensures.values c.in-Accepted.txn entries range old.values;
    })
