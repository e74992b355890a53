-- Histories of which laws say what their merge is.
use Rattle.std.specs.Prelude.{ℕ, pos, false, true, List, [], ◌∷◌, ◌++◌, codes}
use Rattle.pv_base.specs.declared.grant.GrantId.{GrantId}
use Rattle.pv_base.specs.declared.reply.Reply.TheVariants.{Nothing}
use Rattle.pv_format.specs.Message.{Message, lock, granted, prepare, vote_yes}
use Rattle.pv_law_histories.specs.History.{Intake, request, parcel, tick, Came, done, fault, down, Stamped}
use Rattle.pv_law_step.specs.Examples.{sure, txn_at, write}
use Rattle.pv_law_world.specs.Schedules.{changed}
use Rattle.pv_model.specs.Syntax.{Op, Program}
use Rattle.pv_protocol.specs.State.{began, committed}

-- what a site took in at a stamp, so many messages that it sent, and what came of it
abbrev pub at : (stamp : ℕ) → Intake → (sends : ℕ) → Came → Stamped
at stamp intake sends came = record { stamp = stamp; intake = intake; sends = sends; short = 0; came = came }

-- a client's first request, for a change
abbrev pub first_request : List ℕ → Program → Intake
first_request text program = request 0 record { number = 0; query = false; text = text; program = program }

-- the locks of one item, exclusive
abbrev pub lock_of : ℕ → Message
lock_of item = lock (txn_at 0 0) (record { item = item; exclusive = true } ∷ [])

-- a site's first grant in its first epoch
abbrev pub first_grant : GrantId
first_grant = record { epoch = 1; number = 0 }

-- the grant of an item of this value
abbrev pub granted_of : (item value : ℕ) → Message
granted_of item value = granted (txn_at 0 0) first_grant (write item (sure (pos value)) ∷ [])

-- One site, whose client asks it for `a := a + 1`, takes its own messages until it asks for its vote.
abbrev pub asked : List Stamped
asked =
    at 1 (first_request (codes "a := a + 1") (changed Op.plus 0 1 Program.end)) 1 (done (began (txn_at 0 0) ∷ []))
    ∷ (at 2 (parcel 0 1 0 (lock_of 0)) 1 (done [])
    ∷ (at 3 (parcel 0 2 0 (granted_of 0 100)) 1 (done []) ∷ []))

-- the site's request for its own vote
abbrev pub vote_asked : Message
vote_asked = prepare (txn_at 0 0) first_grant (write 0 (sure (pos 101)) ∷ [])

-- It votes, and commits.
abbrev pub served : List Stamped
served =
    asked ++ at 4 (parcel 0 3 0 vote_asked) 1 (done [])
    ∷ (at 5 (parcel 0 4 0 (vote_yes (txn_at 0 0))) 0 (done (committed (txn_at 0 0) (Nothing ∷ []) ∷ [])) ∷ [])

-- Or its disk fails as it records its promise; then time passes.
abbrev pub failed : List Stamped
failed = asked ++ at 4 (parcel 0 3 0 vote_asked) 0 fault ∷ (at 5 tick 0 down ∷ [])

-- Of two sites, each with one of two items that a transfer changes: the first asks for both locks, grants its own, and takes the grant of the
-- second.
abbrev pub first_of_two : List Stamped
first_of_two =
    at 1 (first_request (codes "a := a - 10 ; b := b + 10") (changed Op.sub 0 10 (changed Op.plus 1 10 Program.end))) 2 (done (began (txn_at 0 0) ∷ []))
    ∷ (at 2 (parcel 0 1 0 (lock_of 0)) 1 (done [])
    ∷ (at 3 (parcel 1 2 0 (granted_of 1 50)) 0 (done []) ∷ []))

-- The second one grants its lock, at the same stamp as the first.
abbrev pub second_of_two : List Stamped
second_of_two = at 2 (parcel 0 1 1 (lock_of 1)) 1 (done []) ∷ []
