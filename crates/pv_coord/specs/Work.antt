-- What a coordinator holds of one transaction, and what it makes of the answers of its participants.
use Rattle.std.specs.Prelude.{ℕ, Bool, not, ◌||◌, ◌==◌, List, [], ◌∷◌, ◌++◌, map, filter, find, Option, Some, None}
use Rattle.std.specs.List.{list_all}
use Rattle.std.specs.Option.{unwrap_or, option_map}
use Rattle.pv_base.specs.declared.grant.GrantId.{GrantId}
use Rattle.pv_base.specs.declared.reply.Reply.{Reply}
use Rattle.pv_base.specs.declared.txn.TxnId.{TxnId}
use Rattle.pv_base.specs.Polyvalue.{Case}
use Rattle.pv_base.specs.Want.{Want}
use Rattle.pv_model.specs.Check.{Part}
use Rattle.pv_model.specs.Syntax.{Program}
use Rattle.pv_protocol.specs.Coordinate.{has_taken, with_taken, are_values_of}
use Rattle.pv_protocol.specs.Granted.{taken_from, is_wanted}
use Rattle.pv_protocol.specs.Here.{is_among}
use Rattle.pv_protocol.specs.State.{Entry, locking, voting, Taken}
use Rattle.pv_protocol.specs.Tick.{has_answered}

-- What a coordinator holds of one transaction: its entry, what its plan wants of each site, and from the lock point on what it replies.
pub record Work : Type 0 where
  pub entry : Entry
  pub parts : List Part
  pub reply : Option (List (Case Reply))

-- the transaction
abbrev pub txn_of : Work → TxnId
txn_of work = work.entry.txn

-- the work on a transaction that begins: nothing has been granted or voted
abbrev pub begun : TxnId → Program → List Part → Work
begun txn program parts = record {
  entry = record { txn = txn; program = program; stage = locking; age = 0; taken = []; votes = [] };
  parts = parts;
  reply = None;
}

-- the participants: the sites of the plan's parts
abbrev pub sites_of : Work → List ℕ
sites_of work = map (λ part. part.site) work.parts

-- what a part wants, if there is one
abbrev pub wants_in : Option Part → List Want
wants_in None = []
wants_in (Some part) = part.wants

-- what the parts want of the site: what its part wants, if there is one
abbrev pub wants_at : List Part → ℕ → List Want
wants_at parts site = wants_in (find (λ part. part.site == site) parts)

-- what was asked of the site
abbrev pub asked_of : Work → ℕ → List Want
asked_of work site = wants_at work.parts site

-- No answer of the site to the locks is awaited: it is no participant, or its grant was taken.
abbrev pub is_unawaited : Work → ℕ → Bool
is_unawaited work from = not (is_among (sites_of work) from) || has_taken work.entry from

-- No notice is taken of the grant: it isn't awaited, or isn't of the items that were asked for.
abbrev pub is_grant_ignored : Work → Taken → Bool
is_grant_ignored work taken = is_unawaited work taken.site || not (are_values_of (asked_of work taken.site) taken.values)

-- No notice is taken of the denial: no answer is awaited, or it isn't of an item that was asked for.
abbrev pub is_denial_ignored : Work → ℕ → ℕ → Bool
is_denial_ignored work from item = is_unawaited work from || not (is_wanted (asked_of work from) item)

-- No notice is taken of the vote: the site is no participant, or has voted.
abbrev pub is_vote_ignored : Work → ℕ → Bool
is_vote_ignored work from = not (is_among (sites_of work) from) || is_among work.entry.votes from

-- A grant of every participant was taken.
abbrev pub has_all_grants : Work → Bool
has_all_grants work = list_all (has_taken work.entry) (sites_of work)

-- Every participant has voted.
abbrev pub has_all_votes : Work → Bool
has_all_votes work = list_all (is_among work.entry.votes) (sites_of work)

-- the work with what a site granted
abbrev pub with_grant : Work → Taken → Work
with_grant work taken = record work { entry = record work.entry { taken = with_taken taken work.entry.taken } }

-- the work once every grant is taken and the program was computed, which replies this
abbrev pub at_lock_point : Work → List (Case Reply) → Work
at_lock_point work reply = record work { entry = record work.entry { stage = voting; age = 0 }; reply = Some reply }

-- the work with what a site granted, at the lock point where there is a reply
abbrev pub after_grant : Work → Taken → Option (List (Case Reply)) → Work
after_grant work taken None = with_grant work taken
after_grant work taken (Some reply) = at_lock_point (with_grant work taken) reply

-- the work with the yes of a site
abbrev pub with_vote : Work → ℕ → Work
with_vote work from = record work { entry = record work.entry { votes = work.entry.votes ++ from ∷ [] } }

-- the grant that was taken from the site, if one was
abbrev pub grant_from : Work → ℕ → Option GrantId
grant_from work site = option_map (λ (taken : Taken). taken.grant) (taken_from work.entry site)

-- The least participant that the work waits for. Every work waits for some; where one didn't, it would be 0.
abbrev pub awaited : Work → ℕ
awaited work = unwrap_or (find (λ site. not (has_answered work.entry.stage work.entry site)) (sites_of work)) 0

-- the participants whose grant hasn't been taken
abbrev pub ungranted : Work → List ℕ
ungranted work = filter (λ site. not (has_taken work.entry site)) (sites_of work)

-- the participants that haven't voted
abbrev pub silent : Work → List ℕ
silent work = filter (λ site. not (is_among work.entry.votes site)) (sites_of work)
