-- What a decider makes of an input, against the rules.
use Rattle.std.specs.Prelude.{◌≡◌, ℕ, ◌++◌, map}
use Rattle.std.specs.Option.{option_map}
use Rattle.pv_base.specs.declared.txn.TxnId.{TxnId}
use Rattle.pv_law_quorum.specs.Decider as rules
use Rattle.pv_law_quorum.specs.Decider.{entry_of}
use Rattle.pv_quorum.specs.Knows.{IsProposal}
use Rattle.pv_quorum.specs.Values.{outgoing_of, record_of, decided_line, spent_line}
use Rattle.pv_quorum.specs.declared.made.Made.{Made}

-- What was made is the answer of this decider.
pub record IsMade (me : ℕ) (txn : TxnId) (made : Made) (answer : rules.Answer) : Type 0 where
  pub proposal : IsProposal txn (entry_of txn answer.entries) made.proposal
  pub appended : answer.appended ≡ option_map record_of made.appended
  pub sends : answer.sends ≡ map outgoing_of made.sends.items
  pub lines : answer.lines ≡ decided_line me made.decided ++ spent_line me made.spent
